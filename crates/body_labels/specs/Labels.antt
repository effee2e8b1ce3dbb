-- Labels (ISO 7185:1990, 6.1.6, 6.2.1, 6.8.1): those that stand before the statements of a body, in the order of the
-- text, and the rule of a label declaration part.
use Rattle.std.specs.Prelude.{ℕ, ◌+◌, min, Bool, true, false, ◌&&◌, ◌||◌, not, nat_eq, nat_le, if◌then◌else◌, List, [], ◌∷◌, ◌++◌, Option, Some, None, option_to_list}
use Rattle.pascal_tree.specs.declared.stmt.Stmt.{Stmt, Stmt-F, fold-Stmt}
use Rattle.pascal_tree.specs.declared.stmt.StmtKind.{StmtKind, StmtKind-F, fold-StmtKind}
use Rattle.pascal_tree.specs.declared.stmt.Arm.{Arm, Arm-F, fold-Arm}
use Rattle.check_rules.specs.Faults.{kind_unless}
use Rattle.check_rules.specs.declared.kinds.TheConstants.{TWICE, WRONG_LABEL}

abbrev pub Numbers : Type 0
Numbers = List ℕ

abbrev pub has_number : Numbers → ℕ → Bool
has_number [] n = false
has_number (m ∷ ms) n = nat_eq m n || has_number ms n

-- ---- the labels of a body

abbrev pub all_labels : List Numbers → Numbers
all_labels [] = []
all_labels (ns ∷ rest) = ns ++ all_labels rest

abbrev pub labels_in_kind : StmtKind-F Numbers Numbers Numbers → Numbers
labels_in_kind StmtKind-F.Empty = []
labels_in_kind (StmtKind-F.Assign a e) = []
labels_in_kind (StmtKind-F.Call x args) = []
labels_in_kind (StmtKind-F.Goto label) = []
labels_in_kind (StmtKind-F.Compound ss) = all_labels ss
labels_in_kind (StmtKind-F.If e s None) = s
labels_in_kind (StmtKind-F.If e s (Some t)) = s ++ t
labels_in_kind (StmtKind-F.Case e arms) = all_labels arms
labels_in_kind (StmtKind-F.While e s) = s
labels_in_kind (StmtKind-F.Repeat ss e) = all_labels ss
labels_in_kind (StmtKind-F.For x first down last s) = s
labels_in_kind (StmtKind-F.With records s) = s

abbrev pub labels_in_arm : Arm-F Numbers Numbers Numbers → Numbers
labels_in_arm a = a.body

abbrev pub labels_in_stmt : Stmt-F Numbers Numbers Numbers → Numbers
labels_in_stmt s = option_to_list s.label ++ s.kind

unfoldable pub placed_labels : Stmt → Numbers
placed_labels = fold-Stmt Numbers Numbers Numbers labels_in_kind labels_in_arm labels_in_stmt

unfoldable pub kind_labels : StmtKind → Numbers
kind_labels = fold-StmtKind Numbers Numbers Numbers labels_in_kind labels_in_arm labels_in_stmt

unfoldable pub arm_labels : Arm → Numbers
arm_labels = fold-Arm Numbers Numbers Numbers labels_in_kind labels_in_arm labels_in_stmt

-- ---- each declared label once, at most 9999, and before just one statement of the block

abbrev pub number_count : Numbers → ℕ → ℕ
number_count [] n = 0
number_count (m ∷ ms) n = (if nat_eq m n then 1 else 0) + number_count ms n

abbrev pub all_differ : Numbers → Bool
all_differ [] = true
all_differ (n ∷ ns) = not (has_number ns n) && all_differ ns

abbrev pub are_placed_once : Numbers → Numbers → Bool
are_placed_once [] placed = true
are_placed_once (n ∷ ns) placed =
    nat_le n 9999 && nat_eq (number_count placed n) 1 && are_placed_once ns placed

abbrev pub label_part_kind : Numbers → Numbers → ℕ
label_part_kind ns placed =
    min (kind_unless (all_differ ns) TWICE) (kind_unless (are_placed_once ns placed) WRONG_LABEL)
