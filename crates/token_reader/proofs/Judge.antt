-- A reader with the laws of each level answers the one tree where the tokens are spelled, and else the one fault.
use Rattle.std.specs.Prelude.{◌≡◌, ℕ, zero, suc, ◌+◌, ◌-◌, ◌≤◌, Bool, true, false, if◌then◌else◌, ◌==◌, [], ◌∷◌, ◌++◌, length, Result, Ok, Err}
use Rattle.std.proofs.Common.{refl, sym, ap, subst, ◌∙◌, eqb, leb, cond, inl, inr, append_assoc, arith, length-append}
use Rattle.std.proofs.lemmas.List.{append-nil}
use Rattle.std.proofs.lemmas.Bool.{cases_Bool, eqb-true, eqb-false, leb-true, leb-false}
use Rattle.dice_base.specs.declared.token.TokenKind.{TokenKind}
use Rattle.token_reader.specs.declared.stop.Stop.{Stop}
use Rattle.dice_base.specs.Tokens.{Toks, Classes, is_in}
use Rattle.dice_base.specs.Forms.{Form}
use Rattle.token_reader.specs.Readers.{Outcome, Parser, is_deep}
use Rattle.token_reader.specs.Faults.{Spelled, Begins, SpelledDeep, Unexpected, Passes, TooDeep, EndsEarly, Fault, UnexpectedAt, PassesLevels, EndsInside, settled, second, read_whole, Said}
use Rattle.token_reader.proofs.Laws.{Local, One, ok, okay, bad}
use Rattle.token_reader.proofs.Levels.{Steady, Past}

true_not : {X : Type 0} → (b : Bool) → b ≡ true → b ≡ false → X
true_not b e f = let wrong : true ≡ false = sym e ∙ f in absurd cc

nil_of_le : (u : Toks) → length u ≤ zero → u ≡ []
nil_of_le [] le = refl
nil_of_le (t ∷ u) le = absurd (omega (arith, le))

-- of two fronts of one list, the longer begins with the shorter
prefix_of : (a b x y : Toks) → a ++ x ≡ b ++ y → length a ≤ length b → (z : Toks) × (b ≡ a ++ z)
prefix_of [] b x y e le = (b, refl)
prefix_of (s ∷ a) [] x y e le = absurd (omega (arith, le))
prefix_of (s ∷ a) (t ∷ b) x y e le =
    let head : s ≡ t = cc in
    let tail : a ++ x ≡ b ++ y = cc in
    let (z, q) = prefix_of a b x y tail (omega (arith, le)) in
    (z, cons s t b (a ++ z) head q)
  where
    cons : (s t : TokenKind) (u v : Toks) → s ≡ t → u ≡ v → t ∷ u ≡ s ∷ v
    cons s t u v e q = cc

same_front : (a b x y : Toks) → a ++ x ≡ b ++ y → length x ≡ length y → a ≡ b
same_front a b x y e l =
    let le : length a ≡ length b = omega (arith, l, ap length e, length-append a x, length-append b y) in
    let (z, q) = prefix_of a b x y e (omega (arith, le)) in
    let nil : z ≡ [] = nil_of_le z (omega (arith, le, ap length q, length-append a z)) in
    sym (q ∙ (ap (λ (t : Toks). a ++ t) nil ∙ append-nil a))

fewer : (a b : ℕ) → a ≤ b → eqb a b ≡ false → suc a ≤ b
fewer a b le e = omega (arith, le, eqb-false a b e)

abbrev good : {A : Type 0} → A → Result A Fault
good a = Ok a

abbrev fault : {A : Type 0} → Fault → Result A Fault
fault f = Err f

abbrev above : ℕ → ℕ → ℕ
above zero d = d
above (suc k) d = suc (above k d)

above_sum : (k d : ℕ) → above k d ≡ k + d
above_sum zero d = omega arith
above_sum (suc k) d = omega (arith, above_sum k d)

above_both : (k d : ℕ) → above k d ≡ above d k
above_both k d = omega (arith, above_sum k d, above_sum d k)

module _ {A : Type 0} {L : Classes} {D F : Bool → Classes} (p : ℕ → Parser A) (g : ℕ → Form A)
    (laws : (d : ℕ) → One [] L (p d) (g d) D F) (local : (d : ℕ) → Local (p d)) (steady : (d : ℕ) → Steady (p d) (p (suc d)))
    (top : (w : Bool) → is_in (F w) 11 ≡ true)
  where
    -- ---- more levels

    up : (k d : ℕ) (ts : Toks) → is_deep (p d ts).0 ≡ false → p (above k d) ts ≡ p d ts
    up zero d ts e = refl
    up (suc k) d ts e = let before = up k d ts e in (steady (above k d)).stable ts (rw before e) ∙ before

    front_step : (d : ℕ) (u : Toks) → (g d).front u → (g (suc d)).front u
    front_step d u x =
        let nil = (laws d).ends u x in
        elim (cases_Bool (is_deep (p d u).0)) [
          | inl is ↦ (laws (suc d)).fronts u refl (nil_of_le _ (omega (arith, ((steady d).later u is).far, ap length nil)))
          | inr isnt ↦ (laws (suc d)).fronts u refl (ap (λ (o : Outcome A). o.1) ((steady d).stable u isnt) ∙ nil)
        ]

    front_up : (k d : ℕ) (u : Toks) → (g d).front u → (g (above k d)).front u
    front_up zero d u x = x
    front_up (suc k) d u x = front_step (above k d) u (front_up k d u x)

    -- ---- spellings and fronts

    taken : (d : ℕ) (a : A) (w : Bool) (ts : Toks) → (g d).full a w ts → p d ts ≡ ok a []
    taken d a w ts x = subst (λ (u : Toks). p d u ≡ ok a []) (append-nil ts) ((laws d).takes a w ts [] x (top w))

    full_front : (d : ℕ) (a : A) (w : Bool) (ts : Toks) → (g d).full a w ts → (g d).front ts
    full_front d a w ts x = (laws d).begun a w ts x

    pub closed : (d : ℕ) (x y : Toks) → (g d).front (x ++ y) → (g d).front x
    closed d x y f = go (p d x).1 refl where
      go : (r : Toks) → (p d x).1 ≡ r → (g d).front x
      go [] e = (laws d).fronts x refl e
      go (t ∷ r) e =
          let c = local d x in
          let whole : x ++ y ≡ c.text ++ t ∷ (r ++ y) = ap (λ (z : Toks). z ++ y) (c.parts ∙ ap (λ (z : Toks). c.text ++ z) e) ∙ append_assoc c.text (t ∷ r) y in
          let none : (p d (c.text ++ t ∷ (r ++ y))).1 ≡ [] = (laws d).ends _ (subst (λ (z : Toks). (g d).front z) whole f) in
          let some : (p d (c.text ++ t ∷ (r ++ y))).1 ≡ t ∷ (r ++ y) = ap (λ (o : Outcome A). o.1) (c.stays t r (r ++ y) e) in
          absurd cc

    begins_closed : (x y : Toks) → Begins g (x ++ y) → Begins g x
    begins_closed x y (d, f) = (d, closed d x y f)

    -- what begins a spelling is a front
    pub prefix_begins : (ts more : Toks) → SpelledDeep g (ts ++ more) → Begins g ts
    prefix_begins ts more (d, (a, w, x)) = (d, closed d ts more (full_front d a w (ts ++ more) x))

    begins_front : (x b u v : Toks) → x ++ u ≡ b ++ v → length x ≤ length b → Begins g b → Begins g x
    begins_front x b u v e le f = let (z, q) = prefix_of x b u v e le in begins_closed x z (subst (λ (t : Toks). Begins g t) q f)

    front_front : (d : ℕ) (x b u v : Toks) → x ++ u ≡ b ++ v → length x ≤ length b → (g d).front b → (g d).front x
    front_front d x b u v e le f = let (z, q) = prefix_of x b u v e le in closed d x z (subst (λ (t : Toks). (g d).front t) q f)

    -- ---- where a reader stops

    stuck_none : (d : ℕ) (u : Toks) (t : TokenKind) (x : Result A Stop) → p d (u ++ t ∷ []) ≡ (x, t ∷ []) → is_deep x ≡ false → Begins g (u ++ t ∷ []) → ⊥
    stuck_none d u t x e even (k, f) =
        let there : (p (above d k) (u ++ t ∷ [])).1 ≡ [] = (laws (above d k)).ends _ (front_up d k _ f) in
        let here : p (above k d) (u ++ t ∷ []) ≡ p d (u ++ t ∷ []) = up k d (u ++ t ∷ []) (subst (λ (o : Outcome A). is_deep o.0 ≡ false) (sym e) even) in
        let some : (p (above k d) (u ++ t ∷ [])).1 ≡ t ∷ [] = ap (λ (o : Outcome A). o.1) (here ∙ e) in
        let none : (p (above k d) (u ++ t ∷ [])).1 ≡ [] = subst (λ (j : ℕ). (p j (u ++ t ∷ [])).1 ≡ []) (above_both d k) there in
        absurd cc

    text_front : (d : ℕ) (ts : Toks) → (g d).front (local d ts).text
    text_front d ts = (laws d).fronts _ refl (local d ts).ends

    unexpected_at : (n d : ℕ) (ts : Toks) (t : TokenKind) (r : Toks) → (p d ts).1 ≡ t ∷ r → is_deep (p d ts).0 ≡ false → (g n).front (local d ts).text → Unexpected g n (length ts - suc (length r)) ts
    unexpected_at n d ts t r e even f =
        let c = local d ts in
        let parts : ts ≡ c.text ++ t ∷ r = c.parts ∙ ap (λ (z : Toks). c.text ++ z) e in
        record {
          front = c.text;
          bad = t;
          others = r;
          parts = parts;
          place = omega (arith, ap length parts, length-append c.text (t ∷ r));
          begins = (d, text_front d ts);
          within = f;
          none = λ b. stuck_none d c.text t (p d ts).0 (c.stays t r [] e) even b;
        }

    never_spelled : (d : ℕ) (ts : Toks) (s : Stop) → (p d ts).0 ≡ bad s → is_deep (p d ts).0 ≡ false → SpelledDeep g ts → ⊥
    never_spelled d ts s e even (k, (a, w, x)) =
        let there : p (above d k) ts ≡ ok a [] = up d k ts (subst (λ (o : Outcome A). is_deep o.0 ≡ false) (sym (taken k a w ts x)) refl) ∙ taken k a w ts x in
        let here : p (above k d) ts ≡ p d ts = up k d ts even in
        let both : p (above k d) ts ≡ ok a [] = subst (λ (j : ℕ). p j ts ≡ ok a []) (above_both d k) there in
        let good : (p d ts).0 ≡ okay a = ap (λ (o : Outcome A). o.0) (sym here ∙ both) in
        let wrong : okay a ≡ bad s = sym good ∙ e in
        absurd cc

    -- ---- the answer is right

    whole_text : (d : ℕ) (ts : Toks) (a : A) → (p d ts).0 ≡ Ok a → (p d ts).1 ≡ [] → (w : Bool) × (g d).full a w ts
    whole_text d ts a e nil =
        let x = (laws d).reads ts a refl e in
        (x.flag, subst (λ (u : Toks). (g d).full a x.flag u) (sym (x.parts ∙ (ap (λ (z : Toks). x.text ++ z) nil ∙ append-nil x.text))) x.form)

    settled_said : (n : ℕ) (ts : Toks) (x : Result A Stop) (r : Toks) → (p n ts).0 ≡ x → (p n ts).1 ≡ r → is_deep (p n ts).0 ≡ false → Said g n ts (settled x r (length ts))
    settled_said n ts (Ok a) [] e nil even = whole_text n ts a e nil
    settled_said n ts (Ok a) (t ∷ r) e is even = unexpected_at n n ts t r is even (text_front n ts)
    settled_said n ts (Err s) [] e nil even = ((laws n).fronts ts refl nil, λ x. never_spelled n ts s e even x)
    settled_said n ts (Err s) (t ∷ r) e is even = unexpected_at n n ts t r is even (text_front n ts)

    module _ (n : ℕ) (ts : Toks) (is_too_deep : is_deep (p n ts).0 ≡ true) where
      not_spelled : Spelled g n ts → ⊥
      not_spelled (a, w, x) = true_not _ is_too_deep (subst (λ (o : Outcome A). is_deep o.0 ≡ false) (sym (taken n a w ts x)) refl)

      past : Past (p (suc n) ts) (length (p n ts).1)
      past = (steady n).later ts is_too_deep

      module _ (equal : length (p (suc n) ts).1 ≡ length (p n ts).1) where
        even : is_deep (p (suc n) ts).0 ≡ false
        even =
            elim (cases_Bool (is_deep (p (suc n) ts).0)) [
              | inl is ↦ absurd (omega (arith, past.farther is, equal))
              | inr isnt ↦ isnt
            ]

        same_text : (g n).front (local (suc n) ts).text
        same_text =
            subst (λ (u : Toks). (g n).front u)
            (same_front (local n ts).text (local (suc n) ts).text (p n ts).1 (p (suc n) ts).1 (sym (local n ts).parts ∙ (local (suc n) ts).parts) (sym equal))
            (text_front n ts)

        second_said : (x : Result A Stop) (r : Toks) → (p (suc n) ts).0 ≡ x → (p (suc n) ts).1 ≡ r → Said g n ts (second x r (length ts))
        second_said (Ok a) [] e nil = let (w, x) = whole_text (suc n) ts a e nil in inr ((suc n, (a, w, x)), not_spelled)
        second_said (Ok a) (t ∷ r) e is = unexpected_at n (suc n) ts t r is even same_text
        second_said (Err s) [] e nil =
            ((laws n).fronts ts refl (nil_of_le _ (omega (arith, equal, ap length nil))), λ x. never_spelled (suc n) ts s e even x)
        second_said (Err s) (t ∷ r) e is = unexpected_at n (suc n) ts t r is even same_text

      passes : suc (length (p (suc n) ts).1) ≤ length (p n ts).1 → TooDeep g n ts
      passes less = go (p n ts).1 refl where
        go : (r : Toks) → (p n ts).1 ≡ r → TooDeep g n ts
        go [] e = absurd (omega (arith, less, ap length e))
        go (t ∷ r) e =
            let c = local n ts in
            let d = local (suc n) ts in
            let parts : ts ≡ c.text ++ t ∷ r = c.parts ∙ ap (λ (z : Toks). c.text ++ z) e in
            let shift : (c.text ++ t ∷ []) ++ r ≡ d.text ++ (p (suc n) ts).1 = append_assoc c.text (t ∷ []) r ∙ (sym parts ∙ d.parts) in
            let reach : length (c.text ++ t ∷ []) ≤ length d.text =
            omega (arith, less, ap length e, ap length parts, ap length d.parts, length-append c.text (t ∷ r), length-append c.text (t ∷ []), length-append d.text (p (suc n) ts).1) in
            inl (record {
              front = c.text;
              token = t;
              others = r;
              parts = parts;
              begins = (suc n, front_front (suc n) (c.text ++ t ∷ []) d.text r (p (suc n) ts).1 shift reach (text_front (suc n) ts));
              none = λ f. not_both c.text t (ap (λ (o : Outcome A). o.1) (c.stays t r [] e)) ((laws n).ends _ f);
            })
          where
            not_both : (u : Toks) (t : TokenKind) → (p n (u ++ t ∷ [])).1 ≡ t ∷ [] → (p n (u ++ t ∷ [])).1 ≡ [] → ⊥
            not_both u t a b = cc

    pub said : (n : ℕ) (ts : Toks) → Said g n ts (read_whole p n ts)
    said n ts =
        elim (cases_Bool (is_deep (p n ts).0)) [
          | inl is ↦ subst (λ (b : Bool). Said g n ts (cond b (deeper n ts) (settled (p n ts).0 (p n ts).1 (length ts)))) (sym is) (deeper_said n ts is)
          | inr isnt ↦ subst (λ (b : Bool). Said g n ts (cond b (deeper n ts) (settled (p n ts).0 (p n ts).1 (length ts)))) (sym isnt) (settled_said n ts (p n ts).0 (p n ts).1 refl refl isnt)
        ]
      where
        deeper : ℕ → Toks → Result A Fault
        deeper n ts = if length (p (suc n) ts).1 == length (p n ts).1 then second (p (suc n) ts).0 (p (suc n) ts).1 (length ts) else Err PassesLevels

        deeper_said : (n : ℕ) (ts : Toks) → is_deep (p n ts).0 ≡ true → Said g n ts (deeper n ts)
        deeper_said n ts is =
            elim (cases_Bool (eqb (length (p (suc n) ts).1) (length (p n ts).1))) [
              | inl equal ↦ subst (λ (b : Bool). Said g n ts (cond b (second (p (suc n) ts).0 (p (suc n) ts).1 (length ts)) (Err PassesLevels))) (sym equal)
                  (second_said n ts is (eqb-true _ _ equal) (p (suc n) ts).0 (p (suc n) ts).1 refl refl)
              | inr unequal ↦ subst (λ (b : Bool). Said g n ts (cond b (second (p (suc n) ts).0 (p (suc n) ts).1 (length ts)) (Err PassesLevels))) (sym unequal)
                  (passes n ts is (fewer (length (p (suc n) ts).1) (length (p n ts).1) (past n ts is).far unequal))
            ]

    -- ---- and there is no other right answer

    spelled_front : (n : ℕ) (ts : Toks) → Spelled g n ts → (g n).front ts
    spelled_front n ts (a, w, x) = full_front n a w ts x

    deep_begins : (ts : Toks) → SpelledDeep g ts → Begins g ts
    deep_begins ts (d, x) = (d, spelled_front d ts x)

    unexpected_not : (n i : ℕ) (ts : Toks) → Unexpected g n i ts → Begins g ts → ⊥
    unexpected_not n i ts u b =
        let shift : (u.front ++ u.bad ∷ []) ++ u.others ≡ ts ++ [] = append_assoc u.front (u.bad ∷ []) u.others ∙ (sym u.parts ∙ sym (append-nil ts)) in
        u.none (begins_front (u.front ++ u.bad ∷ []) ts u.others [] shift (omega (arith, ap length u.parts, length-append u.front (u.bad ∷ u.others), length-append u.front (u.bad ∷ []))) b)

    unexpected_le : (n i j : ℕ) (ts : Toks) → Unexpected g n i ts → Unexpected g n j ts → suc i ≤ j → ⊥
    unexpected_le n i j ts u v less =
        let shift : (u.front ++ u.bad ∷ []) ++ u.others ≡ v.front ++ v.bad ∷ v.others = append_assoc u.front (u.bad ∷ []) u.others ∙ (sym u.parts ∙ v.parts) in
        u.none (begins_front (u.front ++ u.bad ∷ []) v.front u.others (v.bad ∷ v.others) shift (omega (arith, less, u.place, v.place, length-append u.front (u.bad ∷ []))) v.begins)

    unexpected_one : (n i j : ℕ) (ts : Toks) → Unexpected g n i ts → Unexpected g n j ts → i ≡ j
    unexpected_one n i j ts u v =
        elim (cases_Bool (leb (suc i) j)) [
          | inl less ↦ absurd (unexpected_le n i j ts u v (leb-true _ _ less))
          | inr more ↦ elim (cases_Bool (leb (suc j) i)) [
            | inl less ↦ absurd (unexpected_le n j i ts v u (leb-true _ _ less))
            | inr equal ↦ omega (arith, leb-false _ _ more, leb-false _ _ equal)
          ]
        ]

    passes_not : (n : ℕ) (ts : Toks) → Passes g n ts → (g n).front ts → ⊥
    passes_not n ts v f =
        let shift : (v.front ++ v.token ∷ []) ++ v.others ≡ ts ++ [] = append_assoc v.front (v.token ∷ []) v.others ∙ (sym v.parts ∙ sym (append-nil ts)) in
        v.none (front_front n (v.front ++ v.token ∷ []) ts v.others [] shift (omega (arith, ap length v.parts, length-append v.front (v.token ∷ v.others), length-append v.front (v.token ∷ []))) f)

    unexpected_passes : (n i : ℕ) (ts : Toks) → Unexpected g n i ts → Passes g n ts → ⊥
    unexpected_passes n i ts u v =
        let shift : (v.front ++ v.token ∷ []) ++ v.others ≡ (u.front ++ u.bad ∷ []) ++ u.others = append_assoc v.front (v.token ∷ []) v.others ∙ (sym v.parts ∙ (u.parts ∙ sym (append_assoc u.front (u.bad ∷ []) u.others))) in
        let here : (v.front ++ v.token ∷ []) ++ v.others ≡ u.front ++ u.bad ∷ u.others = append_assoc v.front (v.token ∷ []) v.others ∙ (sym v.parts ∙ u.parts) in
        elim (cases_Bool (leb (length (v.front ++ v.token ∷ [])) (length u.front))) [
          | inl less ↦ v.none (front_front n (v.front ++ v.token ∷ []) u.front v.others (u.bad ∷ u.others) here (leb-true _ _ less) u.within)
          | inr more ↦ u.none (begins_front (u.front ++ u.bad ∷ []) (v.front ++ v.token ∷ []) u.others v.others (sym shift) (omega (arith, leb-false _ _ more, length-append u.front (u.bad ∷ []))) v.begins)
        ]

    unexpected_deep : (n i : ℕ) (ts : Toks) → Unexpected g n i ts → TooDeep g n ts → ⊥
    unexpected_deep n i ts u (inl v) = unexpected_passes n i ts u v
    unexpected_deep n i ts u (inr (x, y)) = unexpected_not n i ts u (deep_begins ts x)

    deep_early : (n : ℕ) (ts : Toks) → TooDeep g n ts → EndsEarly g n ts → ⊥
    deep_early n ts (inl v) (f, y) = passes_not n ts v f
    deep_early n ts (inr (x, z)) (f, y) = y x

    deep_spelled : (n : ℕ) (ts : Toks) → TooDeep g n ts → Spelled g n ts → ⊥
    deep_spelled n ts (inl v) x = passes_not n ts v (spelled_front n ts x)
    deep_spelled n ts (inr (y, z)) x = z x

    -- each answer comes exactly where its definition holds
    pub only_tree : (n : ℕ) (ts : Toks) (a : A) → Said g n ts (Ok a) → read_whole p n ts ≡ Ok a
    only_tree n ts a (w, x) = go (read_whole p n ts) (said n ts) where
      go : (v : Result A Fault) → Said g n ts v → v ≡ Ok a
      go (Ok b) (v, y) = value b (sym (taken n b v ts y) ∙ taken n a w ts x) where
        value : (b : A) → ok b [] ≡ ok a [] → good b ≡ good a
        value b e = let both : okay b ≡ okay a = ap (λ (o : Outcome A). o.0) e in cc
      go (Err (UnexpectedAt i)) u = absurd (unexpected_not n i ts u (n, full_front n a w ts x))
      go (Err PassesLevels) d = absurd (deep_spelled n ts d (a, w, x))
      go (Err EndsInside) (f, y) = absurd (y (n, (a, w, x)))

    pub only_unexpected : (n i : ℕ) (ts : Toks) → Unexpected g n i ts → read_whole p n ts ≡ Err (UnexpectedAt i)
    only_unexpected n i ts u = go (read_whole p n ts) (said n ts) where
      go : (v : Result A Fault) → Said g n ts v → v ≡ Err (UnexpectedAt i)
      go (Ok b) (v, y) = absurd (unexpected_not n i ts u (n, full_front n b v ts y))
      go (Err (UnexpectedAt j)) v = ap (λ (k : ℕ). fault (UnexpectedAt k)) (unexpected_one n j i ts v u)
      go (Err PassesLevels) d = absurd (unexpected_deep n i ts u d)
      go (Err EndsInside) (f, y) = absurd (unexpected_not n i ts u (n, f))

    pub only_deep : (n : ℕ) (ts : Toks) → TooDeep g n ts → read_whole p n ts ≡ Err PassesLevels
    only_deep n ts d = go (read_whole p n ts) (said n ts) where
      go : (v : Result A Fault) → Said g n ts v → v ≡ Err PassesLevels
      go (Ok b) (v, y) = absurd (deep_spelled n ts d (b, v, y))
      go (Err (UnexpectedAt j)) u = absurd (unexpected_deep n j ts u d)
      go (Err PassesLevels) x = refl
      go (Err EndsInside) y = absurd (deep_early n ts d y)

    pub only_early : (n : ℕ) (ts : Toks) → EndsEarly g n ts → read_whole p n ts ≡ Err EndsInside
    only_early n ts y = go (read_whole p n ts) (said n ts) where
      go : (v : Result A Fault) → Said g n ts v → v ≡ Err EndsInside
      go (Ok b) (v, x) = absurd (y.1 (n, (b, v, x)))
      go (Err (UnexpectedAt j)) u = absurd (unexpected_not n j ts u (n, y.0))
      go (Err PassesLevels) d = absurd (deep_early n ts d y)
      go (Err EndsInside) x = refl
