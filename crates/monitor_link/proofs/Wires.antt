-- A link in memory is a link.
use Rattle.std.proofs.Common.{◌≡◌, ◌<◌, ◌⊎◌, ℕ, ◌+◌, List, [], ◌∷◌, ◌++◌, Option, None, Some, take, slice_get, refl, sym, ap, subst, ◌∙◌, arith, inl, inr}
use Rattle.std.specs.Option.{option_to_list}
use Rattle.link_frames.specs.Frames.{IsReadReply}
use Rattle.monitor_link.specs.declared.link.Fate.{Fate}
use Rattle.monitor_link.specs.declared.link.Fate.TheVariants.{Pass, RequestLost, AnswerLost, Twice, Stale}
use Rattle.monitor_link.specs.declared.link.TheConstants.{KEPT_FRAMES}
use Rattle.monitor_link.specs.Target.{EndState, delivered, given, all_given}
use Rattle.monitor_link.specs.Exchange.{Among, frames_with, Exchanged}
use Rattle.monitor_link.specs.Carried.{WireState, answers_with, answers_after, deliveries, answer_by, Carried, faults_of, fate_of, after_fate}
use Rattle.monitor_link.proofs.Steps.{among-take}

among-with : (a : List ℕ) (o : Option (List ℕ)) (olds : List (List ℕ)) → Among a (answers_with o olds) → Among a olds ⊎ Among a (option_to_list o)
among-with a None olds h = inl h
among-with a (Some b) olds h = elim (among-take KEPT_FRAMES a (b ∷ olds) h) [ inl e ↦ inr (inl e) | inr k ↦ inl k ]

among-left : (a : List ℕ) (xs ys : List (List ℕ)) → Among a xs → Among a (xs ++ ys)
among-left a [] ys h = absurd h
among-left a (x ∷ xs) ys h = elim h [ inl e ↦ inl e | inr k ↦ inr (among-left a xs ys k) ]

among-right : (a : List ℕ) (xs ys : List (List ℕ)) → Among a ys → Among a (xs ++ ys)
among-right a [] ys h = h
among-right a (x ∷ xs) ys h = inr (among-right a xs ys h)

among-after : (a : List ℕ) (fs : List (List ℕ)) (t : EndState) (olds : List (List ℕ)) → Among a (answers_after fs t olds)
    → Among a olds ⊎ Among a (all_given fs t)
among-after a [] t olds h = inl h
among-after a (f ∷ fs) t olds h = elim (among-after a fs (delivered t f) (answers_with (given t f) olds) h) [
  | inl k ↦ elim (among-with a (given t f) olds k) [
    | inl old ↦ inl old
    | inr new ↦ inr (among-left a (option_to_list (given t f)) (all_given fs (delivered t f)) new)
  ]
  | inr k ↦ inr (among-right a (option_to_list (given t f)) (all_given fs (delivered t f)) k)
]

among-front : (f : List ℕ) (frames : List (List ℕ)) → slice_get frames 0 ≡ Some f → Among f (take 8 frames)
among-front f [] h = cc
among-front f (x ∷ xs) h = inl (sym (ap (λ o. elim o [ None ↦ x | Some y ↦ y ]) h))

sent-by : (fate : Fate) (before : Option (List ℕ)) (frame f : List ℕ) (frames : List (List ℕ)) → before ≡ slice_get frames 0
    → Among f (deliveries fate before frame) → Among f (frames_with frame frames)
sent-by Pass before frame f frames e h = elim h [ inl k ↦ inl k | inr k ↦ absurd k ]
sent-by RequestLost before frame f frames e h = absurd h
sent-by AnswerLost before frame f frames e h = elim h [ inl k ↦ inl k | inr k ↦ absurd k ]
sent-by Twice before frame f frames e h = elim h [ inl k ↦ inl k | inr k ↦ elim k [ inl m ↦ inl m | inr m ↦ absurd m ] ]
sent-by Stale None frame f frames e h = elim h [ inl k ↦ inl k | inr k ↦ absurd k ]
sent-by Stale (Some old) frame f frames e h = elim h [
  | inl k ↦ inr (subst (λ (g : List ℕ). Among g (take 8 frames)) (sym k) (among-front old frames (sym e)))
  | inr k ↦ elim k [ inl m ↦ inl m | inr m ↦ absurd m ]
]

with-first : (a : List ℕ) (o : Option (List ℕ)) (olds : List (List ℕ)) → o ≡ Some a → Among a (answers_with o olds)
with-first a o olds h = subst (λ (p : Option (List ℕ)). Among a (answers_with p olds)) (sym h) (inl refl)

with-second : (a : List ℕ) (o p : Option (List ℕ)) (olds : List (List ℕ)) → p ≡ Some a → Among a (answers_with o (answers_with p olds))
with-second a None p olds h = with-first a p olds h
with-second a (Some b) p olds h =
    subst (λ (q : Option (List ℕ)). Among a (answers_with (Some b) (answers_with q olds))) (sym h) (inr (inl refl))

heard-among : (fate : Fate) (before : Option (List ℕ)) (frame a : List ℕ) (t : EndState) (olds : List (List ℕ))
    → answer_by fate before frame t ≡ Some a → Among a (answers_after (deliveries fate before frame) t olds)
heard-among Pass before frame a t olds h = with-first a (given t frame) olds h
heard-among RequestLost before frame a t olds h = cc
heard-among AnswerLost before frame a t olds h = cc
heard-among Twice before frame a t olds h = with-first a (given (delivered t frame) frame) (answers_with (given t frame) olds) h
heard-among Stale None frame a t olds h = cc
heard-among Stale (Some old) frame a t olds h = with-second a (given (delivered t old) frame) (given t old) olds h

-- an exchange without a fault
clean-by : (fate : Fate) (before : Option (List ℕ)) (frame : List ℕ) (heard : Option (List ℕ)) (t : EndState) (c d : ℕ)
    → d ≡ c + faults_of fate → heard ≡ answer_by fate before frame t
    → (c < d) ⊎ ((deliveries fate before frame ≡ frame ∷ []) × (heard ≡ given t frame))
clean-by Pass before frame heard t c d e h = inr (refl, h)
clean-by RequestLost before frame heard t c d e h = inl (omega (arith, e))
clean-by AnswerLost before frame heard t c d e h = inl (omega (arith, e))
clean-by Twice before frame heard t c d e h = inl (omega (arith, e))
clean-by Stale before frame heard t c d e h = inl (omega (arith, e))

-- the frame of the exchange before, once this one is kept too
pub before-with : (frame : List ℕ) (frames : List (List ℕ)) → slice_get (frames_with frame frames) 1 ≡ slice_get frames 0
before-with frame [] = refl
before-with frame (f ∷ frames) = refl

pub wire-exchanged : (fate : Fate) (frame : List ℕ) (heard : Option (List ℕ)) (t s : EndState) (frames olds news : List (List ℕ)) (c d : ℕ)
    → Carried fate (slice_get (frames_with frame frames) 1) frame heard t s olds news → d ≡ c + faults_of fate → IsReadReply s.kept
    → Exchanged frame heard t s frames olds news c d
wire-exchanged fate frame heard t s frames olds news c d k e reads =
    let before = slice_get (frames_with frame frames) 1 in
    record {
      deliveries = deliveries fate before frame;
      sent = λ f h. sent-by fate before frame f frames (before-with frame frames) h;
      took = k.took;
      answers = λ a h. among-after a (deliveries fate before frame) t olds (subst (Among a) k.answers h);
      heard_one = λ a h. subst (Among a) (sym k.answers) (heard-among fate before frame a t olds (sym k.heard_one ∙ h));
      reads = reads;
      later = omega (arith, e);
      clean = clean-by fate before frame heard t c d e k.heard_one;
    }

-- the same once a frame's fate is chosen and the frame is kept
pub wire-carried : (w k : WireState) (fate : Fate) (frame : List ℕ) (heard : Option (List ℕ)) (s : EndState) (news : List (List ℕ)) (d : ℕ)
    → k ≡ record (after_fate w frame) { frames = frames_with frame w.frames } → fate ≡ fate_of w frame
    → Carried fate (slice_get k.frames 1) frame heard k.target s k.answers news → d ≡ k.faults → IsReadReply s.kept
    → Exchanged frame heard w.target s w.frames w.answers news w.faults d
wire-carried w k fate frame heard s news d kept chosen carried count reads =
    wire-exchanged fate frame heard w.target s w.frames w.answers news w.faults d
    (subst (λ (x : WireState). Carried fate (slice_get x.frames 1) frame heard x.target s x.answers news) kept carried)
    (count ∙ ap (λ (x : WireState). x.faults) kept ∙ ap (λ (f : Fate). w.faults + faults_of f) (sym chosen))
    reads
