-- The statements of a program whose items have names of their own have names of their own.
use Rattle.std.proofs.Common.{◌≡◌, ℕ, ◌≤◌, ◌<◌, true, false, List, [], ◌∷◌, ◌++◌, length, Option, Some, None, Result, Ok, Err, IfOk, IfSome, map, eqb, sym, subst, inl, inr, arith}
use Rattle.std.specs.List.{AllByRecursion, IsDistinct, concat, list_any}
use Rattle.std.proofs.lemmas.Bool.{eqb-false, eqb-true, or_cases, false≢true}
use Rattle.std.proofs.lemmas.List.{length-map}
use Rattle.std.proofs.lemmas.Map.Steps.{length-le_from_distinct_below}
use Rattle.dice_base.specs.declared.fault.NoMemory.{NoMemory}
use Rattle.pascal_semantics.specs.declared.form.Statement.{Statement}
use Rattle.pascal_semantics.specs.Valid.{IsFree, AllDiffer}
use Rattle.pascal_tree.specs.declared.stmt.Stmt.{Stmt}
use Rattle.pascal_tree.specs.declared.decl.Block.{Block, out-Block}
use Rattle.pascal_tree.specs.declared.decl.Block.TheFolds.{fold_out-Block}
use Rattle.pascal_tree.specs.declared.program.Tree.{Tree}
use Rattle.pascal_tree.specs.Names.{of_block, of_routine, label_names, decl_names, stmt_names, block_names, routine_names, program_names}
use Rattle.program_tree.specs.Named.{IsNamed, IsNameBelow}
use Rattle.simple_form.specs.declared.program.SimpleProgram.{SimpleProgram}
use Rattle.simple_form.specs.Simple.{Texts, Leaves, resolution_over, declared_variables, resolution_of, statements_in}
use Rattle.simple_form.proofs.Sublists.{Sublist, keep, sublist_all, sublist_distinct}
use Rattle.simple_form.proofs.Kept.{names_of, Keeps, keeps_stmt, keeps_behind}

-- ---- names in a program

names_block : (b : Block) → block_names b ≡ label_names (out-Block b).labels ++ (decl_names (out-Block b).consts ++ (decl_names (out-Block b).types ++ (decl_names (out-Block b).vars ++ (concat (map routine_names (out-Block b).routines) ++ stmt_names (out-Block b).body))))
unfolding block_names routine_names
names_block b = fold_out-Block (List ℕ) (List ℕ) of_block of_routine b

keeps_body : (vars : Option Texts) (body : Stmt) → Keeps (resolution_over vars body) (stmt_names body)
keeps_body None body = tt
keeps_body (Some vars) body = keeps_stmt vars body

keeps_block : (b : Block) (r : Leaves) → Keeps r (stmt_names (out-Block b).body) → Keeps r (block_names b)
keeps_block b r p =
    rw (names_block b)
    (keeps_behind (label_names (out-Block b).labels) r _
    (keeps_behind (decl_names (out-Block b).consts) r _
    (keeps_behind (decl_names (out-Block b).types) r _
    (keeps_behind (decl_names (out-Block b).vars) r _
    (keeps_behind (concat (map routine_names (out-Block b).routines)) r _ p)))))

keeps_program : (p : Tree) → Keeps (resolution_of p) (block_names p.block)
keeps_program p = keeps_block p.block (resolution_of p) (keeps_body (declared_variables p) (out-Block p.block).body)

-- ---- names of statements

is_free : (n : ℕ) (ss : List Statement) → AllByRecursion (λ m. eqb n m ≡ false) (names_of ss) → IsFree n ss
is_free n [] h = tt
is_free n (s ∷ ss) h = (λ e. eqb-false n s.name h.0 (sym e), is_free n ss h.1)

all_differ : (ss : List Statement) → IsDistinct eqb (names_of ss) → AllDiffer ss
unfolding IsDistinct
all_differ [] h = tt
all_differ (s ∷ ss) h = (is_free s.name ss h.0, all_differ ss h.1)

below_from_any : (next : ℕ) (xs : List ℕ) (q : ℕ) → AllByRecursion (IsNameBelow next) xs → list_any (eqb q) xs ≡ true → q < next
below_from_any next [] q h e = absurd (false≢true e)
below_from_any next (x ∷ xs) q h e = elim (or_cases (eqb q x) (list_any (eqb q) xs) e) [
  | inl here ↦ omega (arith, h.0.1, eqb-true q x here)
  | inr later ↦ below_from_any next xs q h.1 later
]

-- the statements have names of their own, and there are no more of them than names
pub record AreApart (ss : List Statement) : Type 0 where
  pub differ : AllDiffer ss
  pub free : IsFree 1 ss
  pub few : length ss ≤ 4294967296

parts_apart : (ss : List Statement) (p : Tree) → IsNamed p → Sublist (1 ∷ names_of ss) (program_names p) → AreApart ss
unfolding IsDistinct
parts_apart ss p named s =
    let distinct : IsDistinct eqb (1 ∷ names_of ss) = sublist_distinct s named.differ in
    let within : AllByRecursion (IsNameBelow p.next) (1 ∷ names_of ss) = sublist_all (IsNameBelow p.next) s named.within in
    let few : length (names_of ss) ≤ p.next = length-le_from_distinct_below (names_of ss) p.next distinct.1 (λ q e. below_from_any p.next (names_of ss) q within.1 e) in
    record { differ = all_differ ss distinct.1; free = is_free 1 ss distinct.0; few = omega (arith, few, named.small, length-map ss (λ (x : Statement). x.name)) }

leaves_apart : (r : Leaves) (ss : List Statement) (p : Tree) → IsNamed p → Keeps r (block_names p.block) → Some ss ≡ r → AreApart ss
leaves_apart r ss p named keeps e = parts_apart ss p named (keep 1 (subst (λ (x : Leaves). Keeps x (block_names p.block)) (sym e) keeps))

program_apart : (p : Tree) → IsNamed p → (r : Option SimpleProgram) → statements_in r ≡ resolution_of p → IfSome r (λ q. AreApart q.statements.items)
program_apart p named None e = tt
program_apart p named (Some q) e = leaves_apart (resolution_of p) q.statements.items p named (keeps_program p) e

-- ---- the clauses of the code

abbrev Answer : Type 0
Answer = Result (Option SimpleProgram) NoMemory

pub answer_apart : (p q : Tree) → q ≡ p → IsNamed p → (r : Answer) → IfOk r (λ x. statements_in x ≡ resolution_of q) → IfOk r (λ x. IfSome x (λ s. AreApart s.statements.items))
answer_apart p q is named (Ok x) e = program_apart q (subst (λ (t : Tree). IsNamed t) (sym is) named) x e
answer_apart p q is named (Err f) e = tt

pub answer_differ : (r : Answer) → IfOk r (λ x. IfSome x (λ s. AreApart s.statements.items)) → IfOk r (λ x. IfSome x (λ s. AllDiffer s.statements.items))
answer_differ (Ok (Some s)) h = h.differ
answer_differ (Ok None) h = tt
answer_differ (Err f) h = tt

pub answer_free : (r : Answer) → IfOk r (λ x. IfSome x (λ s. AreApart s.statements.items)) → IfOk r (λ x. IfSome x (λ s. IsFree 1 s.statements.items))
answer_free (Ok (Some s)) h = h.free
answer_free (Ok None) h = tt
answer_free (Err f) h = tt

pub answer_few : (r : Answer) → IfOk r (λ x. IfSome x (λ s. AreApart s.statements.items)) → IfOk r (λ x. IfSome x (λ s. length s.statements.items ≤ 4294967296))
answer_few (Ok (Some s)) h = h.few
answer_few (Ok None) h = tt
answer_few (Err f) h = tt
