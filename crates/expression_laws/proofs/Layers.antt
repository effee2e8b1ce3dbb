-- What a tree has by what its parts have.
use Rattle.std.specs.Prelude.{◌≡◌, ℕ, ◌≤◌, Bool, true}
use Rattle.std.proofs.Common.{sym, subst, ◌∙◌}
use Rattle.expression_laws.proofs.Gives.{Fits}

-- a tree is made of its layer, which has trees in the places of its parts: whether it is formed, and how many levels it
-- takes, is what these say of the layer
pub record Layer {A X : Type 0} (formed : A → Bool) (depth : A → ℕ) (roll : X → A)
    (layer_formed : X → Bool) (layer_depth : X → ℕ) : Type 0 where
  pub formed_is : (x : X) → formed (roll x) ≡ layer_formed x
  pub depth_is : (x : X) → depth (roll x) ≡ layer_depth x

module _ {A X : Type 0} {formed : A → Bool} {depth : A → ℕ} {roll : X → A}
    {layer_formed : X → Bool} {layer_depth : X → ℕ} where
  pub made : {d : ℕ} → Layer formed depth roll layer_formed layer_depth → (x : X) → layer_formed x ≡ true
      → layer_depth x ≤ d → Fits formed depth d (roll x)
  made {d} l x e h = record { is_formed = l.formed_is x ∙ e; levels = subst (λ n. n ≤ d) (sym (l.depth_is x)) h }

  -- where the tree is given as one of the variants of its type
  pub variant : {d : ℕ} {a : A} → Layer formed depth roll layer_formed layer_depth → (x : X) → roll x ≡ a
      → layer_formed x ≡ true → layer_depth x ≤ d → Fits formed depth d a
  variant {d} l x is e h = subst (λ a. Fits formed depth d a) is (made l x e h)

  pub opened : {d : ℕ} → Layer formed depth roll layer_formed layer_depth → (x : X) → Fits formed depth d (roll x)
      → (layer_formed x ≡ true) × (layer_depth x ≤ d)
  opened {d} l x f = (sym (l.formed_is x) ∙ f.is_formed, subst (λ n. n ≤ d) (l.depth_is x) f.levels)

  -- where each layer has a level, each tree has one
  pub some_levels : Layer formed depth roll layer_formed layer_depth → (out : A → X) → ((a : A) → roll (out a) ≡ a)
      → ((x : X) → 1 ≤ layer_depth x) → (a : A) → 1 ≤ depth a
  some_levels l out is some a =
      subst (λ b. 1 ≤ depth b) (is a) (subst (λ n. 1 ≤ n) (sym (l.depth_is (out a))) (some (out a)))
