-- Lists of files, and blocks part by part.
use Rattle.std.proofs.Common.{◌≡◌, ℕ, ◌<◌, List, [], ◌∷◌, ◌++◌, map, length, refl, ap, append_assoc, arith}
use Rattle.pascal_tree.specs.declared.decl.Block.{Block, out-Block}
use Rattle.pascal_tree.specs.declared.decl.Block.TheFolds.{fold_out-Block}
use Rattle.dice_base.specs.Tokens.{Toks}
use Rattle.dice_base.specs.Symbols.{open_sign, close_sign, comma_sign}
use Rattle.pascal_tree.specs.ExprTokens.{in_parens}
use Rattle.pascal_tree.specs.DeclTokens.{ident_tokens, idents_tokens}
use Rattle.pascal_tree.specs.declared.decl.Routine.{Routine}
use Rattle.tree_listing.specs.declared.event.Event.{Event}
use Rattle.tree_listing.specs.Events.{Laid, child, ended, parts, stmt_events, in_block, in_routine, block_events, routine_events}

pub some_files : (files : List (List ℕ)) → 0 < length files → in_parens comma_sign (map ident_tokens files) ≡ open_sign ∷ (idents_tokens files ++ close_sign ∷ [])
unfolding idents_tokens
some_files [] h = absurd (omega arith)
some_files (x ∷ xs) h = refl

pub block_parts : (b : Block) (level : ℕ) → block_events b level ≡ parts (out-Block b).labels (out-Block b).consts (out-Block b).types (out-Block b).vars level ++ ended (map child (map routine_events (out-Block b).routines)) level ++ child (stmt_events (out-Block b).body) level
unfolding block_events routine_events
block_parts b level = ap (λ (f : Laid). f level) (fold_out-Block Laid Laid in_block in_routine b)

pub block_pushed : (b : Block) (rs : List Routine) (level : ℕ) (before first second third : List Event)
    → first ≡ before ++ parts (out-Block b).labels (out-Block b).consts (out-Block b).types (out-Block b).vars level
    → rs ≡ (out-Block b).routines → second ≡ first ++ ended (map child (map routine_events rs)) level
    → third ≡ second ++ child (stmt_events (out-Block b).body) level → third ≡ before ++ block_events b level
block_pushed b rs level before first second third e1 er e2 e3 =
    rw (e3, e2, er, e1, block_parts b level, append_assoc before _ _) (append_assoc before _ _)

pub files_pushed : (files : List (List ℕ)) (before first second third : Toks) → 0 < length files
    → first ≡ before ++ open_sign ∷ [] → second ≡ first ++ idents_tokens files → third ≡ second ++ close_sign ∷ [] → third ≡ before ++ in_parens comma_sign (map ident_tokens files)
files_pushed files before first second third some e1 e2 e3 = rw (e3, e2, e1, some_files files some) (simp append_assoc)
