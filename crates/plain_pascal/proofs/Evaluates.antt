-- An operation without effect gives a value of its kind, where its parts have theirs, or a run-time error.
use Rattle.std.proofs.Common.{ℕ, ◌≤◌, Bool, true, false, List, [], ◌∷◌, sym, subst}
use Rattle.core_tree.specs.declared.op.Op.{Op}
use Rattle.core_tree.specs.declared.op.Op.TheVariants as op
use Rattle.core_tree.specs.declared.op.Storage.{Storage}
use Rattle.core_tree.specs.declared.op.Storage.TheVariants as storage
use Rattle.plain_pascal.specs.Program.{Kind, NoKind, WordKind, SetKind, PlaceKind, Row, Program}
use Rattle.plain_pascal.specs.State.{Value, Word, Members, At, NoValue, Activation, Data}
use Rattle.plain_pascal.specs.Integers.{Gives, Fails}
use Rattle.plain_pascal.specs.Sets.{members_within}
use Rattle.dice_base.specs.Word.{signed_value}
use Rattle.std.specs.Prelude.{if◌then◌else◌}
use Rattle.plain_pascal.specs.Memory.{word_in}
use Rattle.plain_pascal.specs.Operations.{part, members_in, checked, value_of}
use Rattle.plain_pascal.specs.Typed.{IsStored, stored_kind, IsOp}
use Rattle.plain_pascal.specs.Valid.{IsOf, AreOf}
use Rattle.plain_pascal.proofs.Sound.{GivesOf, word_sound, ranged_sound}
use Rattle.plain_pascal.proofs.Places.{shorter_lies}
use Rattle.plain_pascal.proofs.Values.{Sees, place_sound, set_sound}

-- an operation that is evaluated without an effect
abbrev pub IsPlain : Op → Type 0
IsPlain (op.Call c) = ⊥
IsPlain (op.Effect e) = ⊥
IsPlain o = Unit {0}

module _ (P : Program) (d : Data) (newest : ℕ) (row : Row) (sees : Sees P d newest row) where
  abbrev acts : List Activation
  acts = d.activations

  first_of_kind : (k : Kind) (kept : List Value) → AreOf acts newest (k ∷ []) kept → IsOf acts newest k (part kept 0)
  first_of_kind k [] h = absurd h
  first_of_kind k (v ∷ vs) h = h.0

  narrowed : (whole words : ℕ) (kept : List Value) → AreOf acts newest (PlaceKind whole ∷ []) kept → words ≤ whole → IsOf acts newest (PlaceKind words) (part kept 0)
  narrowed whole words [] h le = absurd h
  narrowed whole words (At p ∷ vs) h le = shorter_lies acts newest p words whole h.0 le
  narrowed whole words (Word w ∷ vs) h le = absurd h.0
  narrowed whole words (Members ws ∷ vs) h le = absurd h.0
  narrowed whole words (NoValue ∷ vs) h le = absurd h.0

  pub checked_sound : (to : Storage) (k : Kind) (kept : List Value) → IsStored to k → AreOf acts newest (k ∷ []) kept → GivesOf acts newest (stored_kind to) (checked to (part kept 0))
  checked_sound (storage.Ordinal first last) WordKind kept t h = ranged_sound acts newest 1 first last (signed_value (word_in (part kept 0))) t
  checked_sound (storage.Ordinal first last) NoKind kept t h = absurd t
  checked_sound (storage.Ordinal first last) SetKind kept t h = absurd t
  checked_sound (storage.Ordinal first last) (PlaceKind n) kept t h = absurd t
  checked_sound storage.Pointer WordKind kept t h = first_of_kind WordKind kept h
  checked_sound storage.Pointer NoKind kept t h = absurd t
  checked_sound storage.Pointer SetKind kept t h = absurd t
  checked_sound storage.Pointer (PlaceKind n) kept t h = absurd t
  checked_sound (storage.Structure n) (PlaceKind whole) kept t h = narrowed whole n kept h t
  checked_sound (storage.Structure n) NoKind kept t h = absurd t
  checked_sound (storage.Structure n) SetKind kept t h = absurd t
  checked_sound (storage.Structure n) WordKind kept t h = absurd t
  checked_sound (storage.Set first last) SetKind kept t h = by (members_within first last (members_in (part kept 0)))
    where
      by : (b : Bool) → GivesOf acts newest SetKind (if b then Gives (part kept 0) else Fails 14)
      by true = first_of_kind SetKind kept h
      by false = tt
  checked_sound (storage.Set first last) NoKind kept t h = absurd t
  checked_sound (storage.Set first last) WordKind kept t h = absurd t
  checked_sound (storage.Set first last) (PlaceKind n) kept t h = absurd t

  pub value_sound : (o : Op) (ks : List Kind) (k : Kind) (kept : List Value) → IsPlain o → IsOp P row.routine row.around o ks k → AreOf acts newest ks kept → GivesOf acts newest k (value_of o kept d)
  value_sound (op.Place p) ks (PlaceKind words) kept i t h = place_sound P d newest row sees p ks words kept t h
  value_sound (op.Place p) ks NoKind kept i t h = absurd t
  value_sound (op.Place p) ks WordKind kept i t h = absurd t
  value_sound (op.Place p) ks SetKind kept i t h = absurd t
  value_sound (op.Word w) ks WordKind kept i t h = word_sound d sees.data_good newest w ks kept t h
  value_sound (op.Word w) ks NoKind kept i t h = absurd t
  value_sound (op.Word w) ks SetKind kept i t h = absurd t
  value_sound (op.Word w) ks (PlaceKind n) kept i t h = absurd t
  value_sound (op.Set x) ks SetKind kept i t h = set_sound P d newest row sees x ks kept t h
  value_sound (op.Set x) ks NoKind kept i t h = absurd t
  value_sound (op.Set x) ks WordKind kept i t h = absurd t
  value_sound (op.Set x) ks (PlaceKind n) kept i t h = absurd t
  value_sound (op.Literal text) [] (PlaceKind words) kept i t h = t
  value_sound (op.Literal text) ks k kept i t h = absurd t
  value_sound op.Structure (PlaceKind whole ∷ []) (PlaceKind words) kept i t h = narrowed whole words kept h t
  value_sound op.Structure ks k kept i t h = absurd t
  value_sound op.ActualVariable (PlaceKind whole ∷ []) (PlaceKind words) kept i t h = narrowed whole words kept h t
  value_sound op.ActualVariable ks k kept i t h = absurd t
  value_sound (op.Argument to) (j ∷ []) k kept i t h = subst (λ x. GivesOf acts newest x (checked to (part kept 0))) (sym t.1) (checked_sound to j kept t.0 h)
  value_sound (op.Argument to) ks k kept i t h = absurd t
  value_sound (op.Call c) ks k kept i t h = absurd i
  value_sound (op.Effect e) ks k kept i t h = absurd i
