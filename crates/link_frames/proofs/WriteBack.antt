-- What is read is what was written: bytes that say a request or an answer are its frame.
use Rattle.std.proofs.Common.{◌≡◌, ◌<◌, ◌≤◌, ℕ, zero, suc, ◌+◌, ◌-◌, ◌*◌, ◌/◌, ◌%◌, ◌^◌, Bool, true, false, ◌&&◌, nat_eq, if◌then◌else◌, List, [], ◌∷◌, ◌++◌, length, drop, slice_index, Option, Some, None, option_map, refl, sym, ap, subst, ◌∙◌, arith}
use Rattle.std.proofs.lemmas.Bool.{eqb-true, leb-true}
use Rattle.std.proofs.lemmas.List.{append-nil}
use Rattle.std.proofs.Math.Nat.{mod-lt}
use Rattle.std.specs.Int.{byte_at, bytes_low_first}
use Rattle.byteorder.specs.Endian.{little_bytes, little_number, little_from}
use Rattle.byteorder.specs.Numbers.{little_number-reads_back, little_from-cons, little_from-lt, length-bytes_low_first}
use Rattle.target_monitor.specs.declared.requests.Request.{Request}
use Rattle.target_monitor.specs.declared.requests.Request.TheVariants.{Reset, Registers, Drain}
use Rattle.target_monitor.specs.declared.requests.Reply.{Reply}
use Rattle.target_monitor.specs.declared.requests.Reply.TheVariants.{Done, Went, Bad}
use Rattle.target_monitor.specs.declared.gates.GoEnd.{GoEnd}
use Rattle.target_monitor.specs.declared.gates.GoEnd.TheVariants.{Counted, AtBreak, Ended, Error, MustDrain, Overrun, Bus, ConsoleFull}
use Rattle.link_frames.specs.declared.frames.TheConstants.{REQUEST_BYTE, ANSWER_BYTE, DONE_KIND, WORDS_KIND, WENT_KIND, BYTES_KIND, BAD_KIND, HEAD_BYTES, RESET_KIND, POKE_KIND, PEEK_KIND, REGISTERS_KIND, GATE_KIND, GO_KIND, DRAIN_KIND, FEED_KIND}
use Rattle.link_frames.specs.Frames.{frame, word_bytes, bit, request_kind, request_body, request_frame, number_in, length_in, is_whole, words_in, some_if, if_empty, poke_in, peek_in, gate_in, go_in, feed_in, request_in, answer_frame, reply_kind, reply_body, end_number, error_code, plain_end, end_in, words_reply_in, went_in, bytes_in, reply_in}
use Rattle.link_frames.specs.Fits.{FitBytes}

-- Numbers in bytes

-- a list of bytes is the only one of its length with its number
digits-unique : (xs ys : List ℕ) → length xs ≡ length ys → FitBytes xs → FitBytes ys
    → little_from 0 (length xs) xs ≡ little_from 0 (length ys) ys → xs ≡ ys
digits-unique [] [] e fx fy h = refl
digits-unique [] (y ∷ ys) e fx fy h = absurd (omega (arith, e))
digits-unique (x ∷ xs) [] e fx fy h = absurd (omega (arith, e))
digits-unique (x ∷ xs) (y ∷ ys) e fx fy h =
    let u = little_from 0 (length xs) xs in
    let v = little_from 0 (length ys) ys in
    let both : x + 256 * u ≡ y + 256 * v =
    ap (λ (m : ℕ). x + 256 * m) (sym (little_from-cons 0 (length xs) x xs)) ∙ h
    ∙ ap (λ (m : ℕ). y + 256 * m) (little_from-cons 0 (length ys) y ys) in
    let low : x < 256 = fx 0 in
    let also : y < 256 = fy 0 in
    let first : x ≡ y = omega (arith, both, low, also) in
    let others : u ≡ v = omega (arith, both, low, also) in
    let rest = digits-unique xs ys (omega (arith, e)) (λ k. fx (suc k)) (λ k. fy (suc k)) others in
    ap (λ (z : ℕ). z ∷ xs) first ∙ ap (λ (zs : List ℕ). y ∷ zs) rest

fit-byte_at : (j x : ℕ) → byte_at j x < 256
fit-byte_at zero x = mod-lt x (omega arith)
fit-byte_at (suc j) x = mod-lt (x / 256 ^ suc j) (omega arith)

fit-bytes : (j n x : ℕ) → FitBytes (bytes_low_first j n x)
fit-bytes j zero x k = omega arith
fit-bytes j (suc n) x zero = fit-byte_at j x
fit-bytes j (suc n) x (suc k) = fit-bytes (suc j) n x k

fit-front : (xs ys : List ℕ) → FitBytes (xs ++ ys) → FitBytes xs
fit-front [] ys f k = omega arith
fit-front (x ∷ xs) ys f zero = f 0
fit-front (x ∷ xs) ys f (suc k) = fit-front xs ys (λ i. f (suc i)) k

-- the bytes of the number in bytes are those bytes
number-written : (n : ℕ) (xs : List ℕ) → length xs ≡ n → FitBytes xs → little_bytes n (little_number n xs) ≡ xs
number-written n xs e f =
    let ys = little_bytes n (little_number n xs) in
    let long : length ys ≡ n = length-bytes_low_first 0 n (little_number n xs) in
    let back : little_from 0 n ys ≡ little_from 0 n xs =
    ap (little_from 0 n) (sym (append-nil ys)) ∙ little_number-reads_back n (little_number n xs) [] (little_from-lt 0 n xs f) in
    digits-unique ys xs (long ∙ sym e) (fit-bytes 0 n (little_number n xs)) f
    (ap (λ (m : ℕ). little_from 0 m ys) long ∙ back ∙ ap (λ (m : ℕ). little_from 0 m xs) (sym e))

words-written : (bs : List ℕ) → length bs % 2 ≡ 0 → FitBytes bs → word_bytes (words_in bs) ≡ bs
words-written [] even f = refl
words-written (a ∷ []) even f = absurd (omega (arith, even))
words-written (a ∷ b ∷ bs) even f =
    ap (λ (xs : List ℕ). xs ++ word_bytes (words_in bs)) (number-written 2 (a ∷ b ∷ []) refl (fit-front (a ∷ b ∷ []) bs f))
    ∙ ap (λ (xs : List ℕ). a ∷ b ∷ xs) (words-written bs (omega (arith, even)) (λ k. f (suc (suc k))))

-- The head

both-true : (a b : Bool) → (a && b) ≡ true → (a ≡ true) × (b ≡ true)
both-true true b h = (refl, h)
both-true false b h = cc

whole-written : (first : ℕ) (bs : List ℕ) → is_whole first bs ≡ true → FitBytes bs
    → bs ≡ frame first (slice_index bs 1) (number_in bs) (drop HEAD_BYTES bs)
whole-written first [] h f = cc
whole-written first (a ∷ []) h f = cc
whole-written first (a ∷ b ∷ []) h f = cc
whole-written first (a ∷ b ∷ c ∷ []) h f = cc
whole-written first (a ∷ b ∷ c ∷ d ∷ []) h f = cc
whole-written first (a ∷ b ∷ c ∷ d ∷ e ∷ []) h f = cc
whole-written first (a ∷ b ∷ c ∷ d ∷ e ∷ g ∷ []) h f = cc
whole-written first (a ∷ b ∷ c ∷ d ∷ e ∷ g ∷ i ∷ []) h f = cc
whole-written first (a ∷ b ∷ c ∷ d ∷ e ∷ g ∷ i ∷ j ∷ []) h f = cc
whole-written first (a ∷ b ∷ c ∷ d ∷ e ∷ g ∷ i ∷ j ∷ k ∷ []) h f = cc
whole-written first (a ∷ b ∷ c ∷ d ∷ e ∷ g ∷ i ∷ j ∷ k ∷ l ∷ []) h f = cc
whole-written first (a ∷ b ∷ c ∷ d ∷ e ∷ g ∷ i ∷ j ∷ k ∷ l ∷ m ∷ []) h f = cc
whole-written first (a ∷ b ∷ c ∷ d ∷ e ∷ g ∷ i ∷ j ∷ k ∷ l ∷ m ∷ n ∷ body) h f =
    let bs = a ∷ b ∷ c ∷ d ∷ e ∷ g ∷ i ∷ j ∷ k ∷ l ∷ m ∷ n ∷ body in
    let number = c ∷ d ∷ e ∷ g ∷ i ∷ j ∷ k ∷ l ∷ [] in
    let behind : length bs - HEAD_BYTES ≡ length body = omega arith in
    let t = both-true _ _ h in
    let s = both-true _ _ t.0 in
    let r = both-true _ _ s.0 in
    let begins : a ≡ first = eqb-true a first r.1 in
    let long : length_in bs ≡ length bs - HEAD_BYTES = eqb-true (length_in bs) (length bs - HEAD_BYTES) t.1 in
    let size : length_in bs ≡ length body = long ∙ behind in
    let fit_number = fit-front number (m ∷ n ∷ body) (λ x. f (suc (suc x))) in
    let fit_length = fit-front (m ∷ n ∷ []) body (λ x. f (suc (suc (suc (suc (suc (suc (suc (suc (suc (suc x))))))))))) in
    ap (λ (x : ℕ). x ∷ b ∷ ((number ++ m ∷ n ∷ []) ++ body)) begins
    ∙ ap (λ (xs : List ℕ). first ∷ b ∷ ((xs ++ m ∷ n ∷ []) ++ body)) (sym (number-written 8 number refl fit_number))
    ∙ ap (λ (xs : List ℕ). first ∷ b ∷ ((little_bytes 8 (number_in bs) ++ xs) ++ body))
    (sym (number-written 2 (m ∷ n ∷ []) refl fit_length) ∙ ap (little_bytes 2) size)

-- The bodies

-- the kind and the body are those of the request, or of the reply
abbrev IsWritten : ℕ → List ℕ → Request → Type 0
IsWritten kind body r = (kind ≡ request_kind r) × (body ≡ request_body r)

abbrev IsReplyWritten : ℕ → List ℕ → Reply → Type 0
IsReplyWritten kind body r = (kind ≡ reply_kind r) × (body ≡ reply_body r)

some-inj : {A : Type 0} (x y : A) → Option.Some x ≡ Option.Some y → x ≡ y
some-inj x y h = ap (λ o. elim o [ None ↦ x | Some z ↦ z ]) h

-- what holds of a request or a reply where its body has its form
holds-if : {A : Type 0} (P : A → Type 0) (b : Bool) (x r : A) → some_if b x ≡ Some r → (b ≡ true → P x) → P r
holds-if P true x r h w = subst P (some-inj x r h) (w refl)
holds-if P false x r h w = cc

empty-list : (xs : List ℕ) → length xs ≡ 0 → xs ≡ []
empty-list [] e = refl
empty-list (x ∷ xs) e = absurd (omega (arith, e))

two-bytes : (xs : List ℕ) → length xs ≡ 2 → FitBytes xs → xs ≡ little_bytes 2 (little_number 2 xs)
two-bytes xs e f = sym (number-written 2 xs e f)

front-written : (bs : List ℕ) → 2 ≤ length bs → FitBytes bs → bs ≡ little_bytes 2 (little_number 2 bs) ++ drop 2 bs
front-written [] e f = absurd (omega (arith, e))
front-written (a ∷ []) e f = absurd (omega (arith, e))
front-written (a ∷ b ∷ bs) e f =
    ap (λ (xs : List ℕ). xs ++ bs) (sym (number-written 2 (a ∷ b ∷ []) refl (fit-front (a ∷ b ∷ []) bs f)))

fit-drop : (bs : List ℕ) → FitBytes bs → FitBytes (drop 2 bs)
fit-drop [] f k = omega arith
fit-drop (a ∷ []) f k = omega arith
fit-drop (a ∷ b ∷ bs) f k = f (suc (suc k))

length-drop_two : (bs : List ℕ) → length (drop 2 bs) ≡ length bs - 2
length-drop_two [] = omega arith
length-drop_two (a ∷ []) = omega arith
length-drop_two (a ∷ b ∷ bs) = omega arith

one-word : (body : List ℕ) → length body ≡ 2 → FitBytes body → body ≡ word_bytes (little_number 2 body ∷ [])
one-word body e f =
    front-written body (omega (arith, e)) f
    ∙ ap (λ (xs : List ℕ). little_bytes 2 (little_number 2 body) ++ xs) (empty-list (drop 2 body) (length-drop_two body ∙ omega (arith, e)))

two-words : (body : List ℕ) → length body ≡ 4 → FitBytes body
    → body ≡ word_bytes (little_number 2 body ∷ little_number 2 (drop 2 body) ∷ [])
two-words body e f =
    front-written body (omega (arith, e)) f
    ∙ ap (λ (xs : List ℕ). little_bytes 2 (little_number 2 body) ++ xs)
    (one-word (drop 2 body) (length-drop_two body ∙ omega (arith, e)) (fit-drop body f))

bit-number : (n : ℕ) → n ≤ 1 → n ≡ bit (nat_eq n 1)
bit-number zero h = refl
bit-number (suc zero) h = refl
bit-number (suc (suc n)) h = absurd (omega (arith, h))

poke-written : (body : List ℕ) (r : Request) → FitBytes body → poke_in body ≡ Some r → IsWritten POKE_KIND body r
poke-written body r f h = holds-if (IsWritten POKE_KIND body) _ _ r h (λ t.
    let s = both-true _ _ t in
    let q = both-true _ _ s.0 in
    let even = eqb-true (length body % 2) 0 q.0 in
    let long = leb-true 4 (length body) q.1 in
    let rest_even : length (drop 2 body) % 2 ≡ 0 = let e = length-drop_two body in omega (arith, e, even, long) in (
      refl,
      front-written body (omega (arith, long)) f
          ∙ ap (λ (xs : List ℕ). little_bytes 2 (little_number 2 body) ++ xs) (sym (words-written (drop 2 body) rest_even (fit-drop body f))),
    ))

peek-written : (body : List ℕ) (r : Request) → FitBytes body → peek_in body ≡ Some r → IsWritten PEEK_KIND body r
peek-written body r f h = holds-if (IsWritten PEEK_KIND body) _ _ r h (λ t.
    (refl, two-words body (eqb-true (length body) 4 (both-true _ _ t).0) f))

gate-written : (body : List ℕ) (r : Request) → FitBytes body → gate_in body ≡ Some r → IsWritten GATE_KIND body r
gate-written body r f h = holds-if (IsWritten GATE_KIND body) _ _ r h (λ t.
    let s = both-true _ _ t in
    let n = little_number 2 (drop 2 body) in (
      refl,
      two-words body (eqb-true (length body) 4 s.0) f
          ∙ ap (λ (m : ℕ). word_bytes (little_number 2 body ∷ m ∷ [])) (bit-number n (leb-true n 1 s.1)),
    ))

go-written : (body : List ℕ) (r : Request) → FitBytes body → go_in body ≡ Some r → IsWritten GO_KIND body r
go-written body r f h = holds-if (IsWritten GO_KIND body) _ _ r h (λ t.
    (refl, one-word body (eqb-true (length body) 2 (both-true _ _ t).0) f))

feed-written : (body : List ℕ) (r : Request) → FitBytes body → feed_in body ≡ Some r → IsWritten FEED_KIND body r
feed-written body r f h = holds-if (IsWritten FEED_KIND body) _ _ r h (λ t.
    let long = leb-true 3 (length body) (both-true _ _ t).0 in
    (refl, front-written body (omega (arith, long)) f))

empty-written : (kind : ℕ) (body : List ℕ) (x r : Request) → if_empty body x ≡ Some r → kind ≡ request_kind x → request_body x ≡ [] → IsWritten kind body r
empty-written kind body x r h same nothing = holds-if (IsWritten kind body) _ x r h (λ t.
    (same, empty-list body (eqb-true (length body) 0 t) ∙ sym nothing))

-- one kind, or another
by-kind : {A : Type 0} (P : ℕ → A → Type 0) (kind this : ℕ) (x y : Option A) (r : A)
    → (x ≡ Some r → P this r) → (y ≡ Some r → P kind r) → (if nat_eq kind this then x else y) ≡ Some r → P kind r
by-kind {A = A} P kind this x y r is other h = by (nat_eq kind this) refl h
  where
    by : (b : Bool) → nat_eq kind this ≡ b → (if b then x else y) ≡ Some r → P kind r
    by true e k = subst (λ (n : ℕ). P n r) (sym (eqb-true kind this e)) (is k)
    by false e k = other k

request-written : (kind : ℕ) (body : List ℕ) (r : Request) → FitBytes body → request_in kind body ≡ Some r → IsWritten kind body r
request-written kind body r f h =
    by-kind (λ (n : ℕ) (q : Request). IsWritten n body q) kind RESET_KIND _ _ r (λ k. empty-written RESET_KIND body Reset r k refl refl)
    (by-kind (λ (n : ℕ) (q : Request). IsWritten n body q) kind POKE_KIND _ _ r (poke-written body r f)
    (by-kind (λ (n : ℕ) (q : Request). IsWritten n body q) kind PEEK_KIND _ _ r (peek-written body r f)
    (by-kind (λ (n : ℕ) (q : Request). IsWritten n body q) kind REGISTERS_KIND _ _ r (λ k. empty-written REGISTERS_KIND body Registers r k refl refl)
    (by-kind (λ (n : ℕ) (q : Request). IsWritten n body q) kind GATE_KIND _ _ r (gate-written body r f)
    (by-kind (λ (n : ℕ) (q : Request). IsWritten n body q) kind GO_KIND _ _ r (go-written body r f)
    (by-kind (λ (n : ℕ) (q : Request). IsWritten n body q) kind DRAIN_KIND _ _ r (λ k. empty-written DRAIN_KIND body Drain r k refl refl)
    (by-kind (λ (n : ℕ) (q : Request). IsWritten n body q) kind FEED_KIND _ _ r (feed-written body r f) (λ k. cc)))))))) h

fit-body : (bs : List ℕ) (n : ℕ) → FitBytes bs → FitBytes (drop n bs)
fit-body bs zero f k = f k
fit-body [] (suc n) f k = omega arith
fit-body (b ∷ bs) (suc n) f k = fit-body bs n (λ i. f (suc i)) k

-- a whole frame whose body says a request is that request's frame
pub request-frame-written : (bs : List ℕ) (r : Request) → FitBytes bs → is_whole REQUEST_BYTE bs ≡ true
    → request_in (slice_index bs 1) (drop HEAD_BYTES bs) ≡ Some r
    → bs ≡ request_frame (record { number = number_in bs; request = r })
unfolding request_frame
request-frame-written bs r f whole says =
    let w = request-written (slice_index bs 1) (drop HEAD_BYTES bs) r (fit-body bs HEAD_BYTES f) says in
    whole-written REQUEST_BYTE bs whole f
    ∙ ap (λ (kind : ℕ). frame REQUEST_BYTE kind (number_in bs) (drop HEAD_BYTES bs)) w.0
    ∙ ap (λ (body : List ℕ). frame REQUEST_BYTE (request_kind r) (number_in bs) body) w.1

-- The same for answers

reply-empty : (kind : ℕ) (body : List ℕ) (x r : Reply) → if_empty body x ≡ Some r → kind ≡ reply_kind x → reply_body x ≡ [] → IsReplyWritten kind body r
reply-empty kind body x r h same nothing = holds-if (IsReplyWritten kind body) _ x r h (λ t.
    (same, empty-list body (eqb-true (length body) 0 t) ∙ sym nothing))

words-reply-written : (body : List ℕ) (r : Reply) → FitBytes body → words_reply_in body ≡ Some r → IsReplyWritten WORDS_KIND body r
words-reply-written body r f h = holds-if (IsReplyWritten WORDS_KIND body) _ _ r h (λ t.
    (refl, sym (words-written body (eqb-true (length body % 2) 0 (both-true _ _ t).0) f)))

bytes-written : (body : List ℕ) (r : Reply) → bytes_in body ≡ Some r → IsReplyWritten BYTES_KIND body r
bytes-written body r h = holds-if (IsReplyWritten BYTES_KIND body) _ _ r h (λ t. (refl, refl))

-- the end of a run has this number and this code
abbrev IsEndOf : ℕ → ℕ → GoEnd → Type 0
IsEndOf number code end = (number ≡ end_number end) × (code ≡ error_code end)

plain-written : (number code : ℕ) (end : GoEnd) → code ≡ 0 → plain_end number ≡ Some end → IsEndOf number code end
plain-written number code end zero_code h =
    let P : ℕ → GoEnd → Type 0 = λ n e. IsEndOf n code e in
    let this : (n : ℕ) (e : GoEnd) → n ≡ end_number e → 0 ≡ error_code e → Some e ≡ Some end → IsEndOf n code end =
    λ n e same none k. subst (λ (x : GoEnd). IsEndOf n code x) (some-inj e end k) (same, zero_code ∙ none) in
    by-kind P number 0 _ _ end (this 0 Counted refl refl)
    (by-kind P number 1 _ _ end (this 1 AtBreak refl refl)
    (by-kind P number 2 _ _ end (this 2 Ended refl refl)
    (by-kind P number 4 _ _ end (this 4 MustDrain refl refl)
    (by-kind P number 5 _ _ end (this 5 Overrun refl refl)
    (by-kind P number 6 _ _ end (this 6 Bus refl refl)
    (by-kind P number 7 _ _ end (this 7 ConsoleFull refl refl) (λ k. cc))))))) h

end-written : (number code : ℕ) (end : GoEnd) → end_in number code ≡ Some end → IsEndOf number code end
end-written number code end h =
    by-kind (λ (n : ℕ) (e : GoEnd). IsEndOf n code e) number 3 _ _ end
    (λ k. subst (λ (x : GoEnd). IsEndOf 3 code x) (some-inj (Error code) end k) (refl, refl))
    (λ k. by-zero (nat_eq code 0) refl k) h
  where
    by-zero : (b : Bool) → nat_eq code 0 ≡ b → (if b then plain_end number else None) ≡ Some end → IsEndOf number code end
    by-zero true e k = plain-written number code end (eqb-true code 0 e) k
    by-zero false e k = cc

went-ends : (body : List ℕ) (o : Option GoEnd) (r : Reply) → length body ≡ 5 → FitBytes body
    → ((end : GoEnd) → o ≡ Some end → IsEndOf (slice_index body 0) (little_number 2 (drop 1 body)) end)
    → option_map (λ (end : GoEnd). Went end (little_number 2 (drop 3 body))) o ≡ Some r → IsReplyWritten WENT_KIND body r
went-ends body None r e f ends h = cc
went-ends [] (Some end) r e f ends h = absurd (omega (arith, e))
went-ends (a ∷ body) (Some end) r e f ends h =
    let w = ends end refl in
    subst (IsReplyWritten WENT_KIND (a ∷ body)) (some-inj (Went end (little_number 2 (drop 2 body))) r h) (
      refl,
      ap (λ (x : ℕ). x ∷ body) w.0
          ∙ ap (λ (xs : List ℕ). end_number end ∷ xs)
          (two-words body (omega (arith, e)) (λ k. f (suc k))
          ∙ ap (λ (c : ℕ). word_bytes (c ∷ little_number 2 (drop 2 body) ∷ [])) w.1),
    )

went-written : (body : List ℕ) (r : Reply) → FitBytes body → went_in body ≡ Some r → IsReplyWritten WENT_KIND body r
went-written body r f h = by (nat_eq (length body) 5) refl h
  where
    by : (b : Bool) → nat_eq (length body) 5 ≡ b
        → (if b then option_map (λ (end : GoEnd). Went end (little_number 2 (drop 3 body))) (end_in (slice_index body 0) (little_number 2 (drop 1 body))) else None) ≡ Some r
        → IsReplyWritten WENT_KIND body r
    by true e k = went-ends body (end_in (slice_index body 0) (little_number 2 (drop 1 body))) r (eqb-true (length body) 5 e) f
        (λ end w. end-written (slice_index body 0) (little_number 2 (drop 1 body)) end w) k
    by false e k = cc

reply-written : (kind : ℕ) (body : List ℕ) (r : Reply) → FitBytes body → reply_in kind body ≡ Some r → IsReplyWritten kind body r
reply-written kind body r f h =
    let P : ℕ → Reply → Type 0 = λ n q. IsReplyWritten n body q in
    by-kind P kind DONE_KIND _ _ r (λ k. reply-empty DONE_KIND body Done r k refl refl)
    (by-kind P kind WORDS_KIND _ _ r (words-reply-written body r f)
    (by-kind P kind WENT_KIND _ _ r (went-written body r f)
    (by-kind P kind BYTES_KIND _ _ r (bytes-written body r)
    (by-kind P kind BAD_KIND _ _ r (λ k. reply-empty BAD_KIND body Bad r k refl refl) (λ k. cc))))) h

-- a whole frame whose body says a reply is that answer's frame
pub answer-frame-written : (bs : List ℕ) (r : Reply) → FitBytes bs → is_whole ANSWER_BYTE bs ≡ true
    → reply_in (slice_index bs 1) (drop HEAD_BYTES bs) ≡ Some r
    → bs ≡ answer_frame (record { number = number_in bs; reply = r })
unfolding answer_frame
answer-frame-written bs r f whole says =
    let w = reply-written (slice_index bs 1) (drop HEAD_BYTES bs) r (fit-body bs HEAD_BYTES f) says in
    whole-written ANSWER_BYTE bs whole f
    ∙ ap (λ (kind : ℕ). frame ANSWER_BYTE kind (number_in bs) (drop HEAD_BYTES bs)) w.0
    ∙ ap (λ (body : List ℕ). frame ANSWER_BYTE (reply_kind r) (number_in bs) body) w.1
