use Rattle.std.proofs.Common.{◌<◌, length, arith}
use Rattle.std.proofs.lemmas.Bool.Decides.{nat_tests}
use Rattle.tree_listing.proofs.BlockParts.{files_pushed}
use Rattle.tree_listing.proofs.blocks.push_files.Goals as goal

pub returns : goal.returns
returns c =
    let some : 0 < length c.args.files.now = grind (arith, nat_tests) in
    files_pushed _ _ _ _ _ some c.in_ok-push.ensures.items c.in_ok-push_idents.ensures c.in_ok-push-2.ensures.items
