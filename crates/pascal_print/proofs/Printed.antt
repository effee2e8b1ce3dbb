-- What holds of the listing of each program: some text spells it, and its names are small.
use Rattle.std.specs.Prelude.{◌≡◌, ◌<◌, ◌≤◌, ◌^◌, ℕ, Bool, true, false, List, [], ◌∷◌, Result, Ok, Err, IfOk}
use Rattle.std.proofs.Common.{sym, subst, ◌∙◌, arith}
use Rattle.std.specs.List.{AllByRecursion}
use Rattle.dice_base.specs.declared.fault.NoMemory.{NoMemory}
use Rattle.pascal_tree.specs.declared.program.Tree.{Tree}
use Rattle.pascal_tree.specs.Names.{program_names}
use Rattle.program_tree.specs.Named.{IsNameBelow, IsProgram}
use Rattle.tree_listing.specs.Listing.{listing}
use Rattle.pascal_print.specs.FirstColumn.{first_column}
use Rattle.pascal_print.specs.ReadsBack.{ReadsBack}
use Rattle.pascal_print.proofs.Column.{lists_names}
use Rattle.pascal_print.proofs.OneText.{program-sources}
use Rattle.pascal_print.proofs.ReadsBack.{reads_back}

-- a listing of the tree, if memory sufficed
abbrev pub Printed : Bool → Tree → Result (List ℕ) NoMemory → Type 0
Printed names p r = IfOk r (λ text. text ≡ listing names p)

pub printed-back : (names : Bool) (p : Tree) → IsProgram p → (r : Result (List ℕ) NoMemory) → Printed names p r
    → IfOk r (λ text. names ≡ false → ReadsBack p text)
printed-back names p is (Err e) h = tt
printed-back false p is (Ok text) h =
    λ e. subst (λ t. ReadsBack p t) (sym h) (reads_back p ((program-sources p).0 is.formed))
printed-back true p is (Ok text) h = λ e. absurd (cc e)

small-names : (next : ℕ) → next ≤ 4294967295 → (ns : List ℕ) → AllByRecursion (IsNameBelow next) ns
    → AllByRecursion (λ n. n < 2 ^ 32) ns
small-names next small [] h = tt
small-names next small (n ∷ ns) h =
    let below : n < next = h.0.1 in
    let low : n < 4294967296 = omega (arith, below, small) in
    (low, small-names next small ns h.1)

pub printed-names : (names : Bool) (p : Tree) → IsProgram p → (r : Result (List ℕ) NoMemory) → Printed names p r
    → IfOk r (λ text. names ≡ true → first_column text ≡ program_names p)
printed-names names p is (Err e) h = tt
printed-names true p is (Ok text) h =
    λ e. subst (λ t. first_column t ≡ program_names p) (sym h)
    (lists_names p ((program-sources p).0 is.formed) (small-names p.next is.named.small (program_names p) is.named.within))
printed-names false p is (Ok text) h = λ e. absurd (cc e)
