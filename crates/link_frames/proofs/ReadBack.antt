-- What is written is read back.
use Rattle.std.proofs.Common.{◌≡◌, ◌<◌, ◌≤◌, ℕ, zero, suc, ◌+◌, ◌*◌, ◌%◌, ◌^◌, Bool, true, false, ◌&&◌, nat_eq, nat_le, List, [], ◌∷◌, ◌++◌, length, take, slice_index, Option, Some, option_map, refl, sym, ap, subst, ◌∙◌, arith}
use Rattle.std.proofs.lemmas.Bool.{le-leb, eq-eqb}
use Rattle.byteorder.specs.Endian.{little_bytes, little_number}
use Rattle.byteorder.specs.Numbers.{little_number-reads_back}
use Rattle.target_monitor.specs.declared.gates.GoEnd.{GoEnd}
use Rattle.target_monitor.specs.declared.gates.GoEnd.TheVariants.{Counted, AtBreak, Ended, Error, MustDrain, Overrun, Bus, ConsoleFull}
use Rattle.target_monitor.specs.declared.requests.TheConstants.{MAX_WORDS, MAX_PIECE_BYTES, MAX_GATES}
use Rattle.target_monitor.specs.declared.requests.Request.{Request}
use Rattle.target_monitor.specs.declared.requests.Request.TheVariants.{Reset, Poke, Peek, Registers, Gate, Go, Drain, Feed}
use Rattle.target_monitor.specs.declared.requests.Reply.{Reply}
use Rattle.target_monitor.specs.declared.requests.Reply.TheVariants.{Done, Words, Went, Bytes, Bad}
use Rattle.target_monitor.specs.Served.{HasForm}
use Rattle.link_frames.specs.declared.frames.TheConstants.{REQUEST_BYTE, ANSWER_BYTE, POKE_KIND}
use Rattle.link_frames.specs.Frames.{head, frame, word_bytes, bit, request_kind, request_body, reply_kind, reply_body, end_number, error_code, request_frame, answer_frame, words_in, some_if, is_within, poke_in, peek_in, gate_in, go_in, feed_in, request_in, end_in, went_in, reply_in, request_of, answer_of, IsReadRequest, IsReadReply}
use Rattle.link_frames.specs.Laws.{if-true, number_in-frame, whole-frame}
use Rattle.link_frames.specs.Fits.{FitWords, FitsRequest, FitsEnd, FitsReply}

both-hold : (a b : Bool) → a ≡ true → b ≡ true → (a && b) ≡ true
both-hold true b h k = k
both-hold false b h k = h

some_if-true : {X : Type 0} (b : Bool) (x : X) → b ≡ true → some_if b x ≡ Some x
some_if-true true x h = refl
some_if-true false x h = cc

some_if-is : {X : Type 0} (b : Bool) (x y : X) → b ≡ true → x ≡ y → some_if b x ≡ Some y
some_if-is b x y h e = some_if-true b x h ∙ ap Some e

-- a word in its two bytes
word-read : (w : ℕ) (rest : List ℕ) → w < 2 ^ 16 → little_number 2 (little_bytes 2 w ++ rest) ≡ w
word-read w rest h = little_number-reads_back 2 w rest h

pub length-word_bytes : (ws : List ℕ) → length (word_bytes ws) ≡ 2 * length ws
length-word_bytes [] = refl
length-word_bytes (w ∷ ws) = let rest = length-word_bytes ws in omega (arith, rest)

words-read : (ws : List ℕ) → FitWords ws → words_in (word_bytes ws) ≡ ws
words-read [] fit = refl
words-read (w ∷ ws) fit =
    ap (λ (x : ℕ). x ∷ words_in (word_bytes ws)) (word-read w [] (fit 0))
    ∙ ap (λ (xs : List ℕ). w ∷ xs) (words-read ws (λ k. fit (suc k)))

poke-read : (place : ℕ) (ws : List ℕ) → 1 ≤ length ws → length ws ≤ MAX_WORDS → place < 2 ^ 16 → FitWords ws
    → poke_in (word_bytes (place ∷ ws)) ≡ Some (Poke place ws)
poke-read place ws some few h fit =
    let long : length (word_bytes (place ∷ ws)) ≡ 2 + 2 * length ws = let e = length-word_bytes ws in omega (arith, e) in
    let even : nat_eq (length (word_bytes (place ∷ ws)) % 2) 0 ≡ true = eq-eqb (length (word_bytes (place ∷ ws)) % 2) 0 (omega (arith, long)) in
    let low : nat_le 4 (length (word_bytes (place ∷ ws))) ≡ true = le-leb 4 (length (word_bytes (place ∷ ws))) (omega (arith, long, some)) in
    let high : nat_le (length (word_bytes (place ∷ ws))) (2 + 2 * MAX_WORDS) ≡ true =
    le-leb (length (word_bytes (place ∷ ws))) (2 + 2 * MAX_WORDS) (omega (arith, long, few)) in
    some_if-is _ (Poke (little_number 2 (word_bytes (place ∷ ws))) (words_in (word_bytes ws))) (Poke place ws)
    (both-hold _ _ (both-hold _ _ even low) high)
    (ap (λ (p : ℕ). Poke p (words_in (word_bytes ws))) (word-read place (word_bytes ws) h)
    ∙ ap (λ (xs : List ℕ). Poke place xs) (words-read ws fit))

within : (n most : ℕ) → 1 ≤ n → n ≤ most → is_within n most ≡ true
within n most low high = both-hold _ _ (le-leb 1 n low) (le-leb n most high)

peek-read : (place count : ℕ) → 1 ≤ count → count ≤ MAX_WORDS → place < 2 ^ 16 → count < 2 ^ 16
    → peek_in (word_bytes (place ∷ count ∷ [])) ≡ Some (Peek place count)
peek-read place count some few h fits =
    let p = word-read place (little_bytes 2 count) h in
    let c = word-read count [] fits in
    let inside = within count MAX_WORDS some few in
    let P : ℕ → ℕ → Option Request = λ x y. some_if (is_within y MAX_WORDS) (Peek x y) in
    ap (λ (y : ℕ). P (little_number 2 (word_bytes (place ∷ count ∷ []))) y) c
    ∙ ap (λ (x : ℕ). P x count) p
    ∙ some_if-true (is_within count MAX_WORDS) (Peek place count) inside

gate-read : (place : ℕ) (breaks : Bool) → place < 2 ^ 16 → gate_in (word_bytes (place ∷ bit breaks ∷ [])) ≡ Some (Gate place breaks)
gate-read place true h = ap (λ (p : ℕ). Some (Gate p true)) (word-read place (little_bytes 2 1) h)
gate-read place false h = ap (λ (p : ℕ). Some (Gate p false)) (word-read place (little_bytes 2 0) h)

go-read : (gates : ℕ) → 1 ≤ gates → gates ≤ MAX_GATES → gates < 2 ^ 16 → go_in (word_bytes (gates ∷ [])) ≡ Some (Go gates)
go-read gates some few h =
    ap (λ (k : ℕ). some_if (is_within k MAX_GATES) (Go k)) (word-read gates [] h)
    ∙ some_if-true (is_within gates MAX_GATES) (Go gates) (within gates MAX_GATES some few)

feed-read : (total : ℕ) (piece : List ℕ) → 1 ≤ length piece → length piece ≤ MAX_PIECE_BYTES → total < 2 ^ 16
    → feed_in (little_bytes 2 total ++ piece) ≡ Some (Feed total piece)
feed-read total piece some few h =
    let low : nat_le 3 (length (little_bytes 2 total ++ piece)) ≡ true = le-leb 3 (length (little_bytes 2 total ++ piece)) (omega (arith, some)) in
    let high : nat_le (length (little_bytes 2 total ++ piece)) (2 + MAX_PIECE_BYTES) ≡ true =
    le-leb (length (little_bytes 2 total ++ piece)) (2 + MAX_PIECE_BYTES) (omega (arith, few)) in
    some_if-is _ (Feed (little_number 2 (little_bytes 2 total ++ piece)) piece) (Feed total piece) (both-hold _ _ low high)
    (ap (λ (t : ℕ). Feed t piece) (word-read total piece h))

request_in-body : (r : Request) → HasForm r → FitsRequest r → request_in (request_kind r) (request_body r) ≡ Some r
request_in-body Reset form fits = refl
request_in-body (Poke place words) form fits = poke-read place words form.0 form.1 fits.0 fits.1
request_in-body (Peek place count) form fits = peek-read place count form.0 form.1 fits.0 fits.1
request_in-body Registers form fits = refl
request_in-body (Gate place breaks) form fits = gate-read place breaks fits
request_in-body (Go gates) form fits = go-read gates form.0 form.1 fits
request_in-body Drain form fits = refl
request_in-body (Feed total piece) form fits = feed-read total piece form.0 form.1 fits

request_body-few : (r : Request) → HasForm r → length (request_body r) ≤ 1024
request_body-few Reset form = omega arith
request_body-few (Poke place words) form = let e = length-word_bytes words in omega (arith, e, form.1)
request_body-few (Peek place count) form = omega arith
request_body-few Registers form = omega arith
request_body-few (Gate place breaks) form = omega arith
request_body-few (Go gates) form = omega arith
request_body-few Drain form = omega arith
request_body-few (Feed total piece) form = omega (arith, form.1)

-- a request that has its form and fits is read as it was written
pub request-read : (r : Request) → HasForm r → FitsRequest r → IsReadRequest r
unfolding IsReadRequest request_of request_frame
request-read r form fits n number =
    if-true _ _ _ (whole-frame REQUEST_BYTE (request_kind r) n (request_body r) number (request_body-few r form))
    ∙ ap (λ (m : ℕ). option_map (λ (x : Request). record { number = m; request = x }) (request_in (request_kind r) (request_body r)))
    (number_in-frame REQUEST_BYTE (request_kind r) n (request_body r) number.1)
    ∙ ap (λ (o : Option Request). option_map (λ (x : Request). record { number = n; request = x }) o) (request_in-body r form fits)

end-read : (end : GoEnd) → end_in (end_number end) (error_code end) ≡ Some end
end-read Counted = refl
end-read AtBreak = refl
end-read Ended = refl
end-read (Error code) = refl
end-read MustDrain = refl
end-read Overrun = refl
end-read Bus = refl
end-read ConsoleFull = refl

fits-code : (end : GoEnd) → FitsEnd end → error_code end < 2 ^ 16
fits-code Counted fits = omega arith
fits-code AtBreak fits = omega arith
fits-code Ended fits = omega arith
fits-code (Error code) fits = fits
fits-code MustDrain fits = omega arith
fits-code Overrun fits = omega arith
fits-code Bus fits = omega arith
fits-code ConsoleFull fits = omega arith

went-read : (end : GoEnd) (passed : ℕ) → FitsEnd end → passed < 2 ^ 16
    → went_in (end_number end ∷ word_bytes (error_code end ∷ passed ∷ [])) ≡ Some (Went end passed)
went-read end passed fits h =
    let code = word-read (error_code end) (little_bytes 2 passed) (fits-code end fits) in
    let count = word-read passed [] h in
    let P : ℕ → ℕ → Option Reply = λ c p. option_map (λ (e : GoEnd). Went e p) (end_in (end_number end) c) in
    ap (λ (c : ℕ). P c (little_number 2 (little_bytes 2 passed))) code
    ∙ ap (λ (p : ℕ). P (error_code end) p) count
    ∙ ap (λ (o : Option GoEnd). option_map (λ (e : GoEnd). Went e passed) o) (end-read end)

reply_in-body : (r : Reply) → FitsReply r → reply_in (reply_kind r) (reply_body r) ≡ Some r
reply_in-body Done fits = refl
reply_in-body (Words words) fits =
    let long = length-word_bytes words in
    let even : nat_eq (length (word_bytes words) % 2) 0 ≡ true = eq-eqb (length (word_bytes words) % 2) 0 (omega (arith, long)) in
    let few : nat_le (length (word_bytes words)) (2 * MAX_WORDS) ≡ true = le-leb (length (word_bytes words)) (2 * MAX_WORDS) (omega (arith, long, fits.1)) in
    some_if-is _ (Words (words_in (word_bytes words))) (Words words) (both-hold _ _ even few)
    (ap (λ (xs : List ℕ). Words xs) (words-read words fits.0))
reply_in-body (Went end passed) fits = went-read end passed fits.0 fits.1
reply_in-body (Bytes piece) fits = some_if-true _ (Bytes piece) (le-leb (length piece) MAX_PIECE_BYTES fits)
reply_in-body Bad fits = refl

reply_body-few : (r : Reply) → FitsReply r → length (reply_body r) ≤ 1024
reply_body-few Done fits = omega arith
reply_body-few (Words words) fits = let e = length-word_bytes words in omega (arith, e, fits.1)
reply_body-few (Went end passed) fits = omega arith
reply_body-few (Bytes piece) fits = omega (arith, fits)
reply_body-few Bad fits = omega arith

pub request-read-as : (r q : Request) → r ≡ q → HasForm r → FitsRequest q → IsReadRequest r
request-read-as r q e form fits = request-read r form (subst FitsRequest (sym e) fits)

-- a reply that fits is read as it was written
pub reply-read : (r : Reply) → FitsReply r → IsReadReply r
unfolding IsReadReply answer_of answer_frame
reply-read r fits n number =
    if-true _ _ _ (whole-frame ANSWER_BYTE (reply_kind r) n (reply_body r) number (reply_body-few r fits))
    ∙ ap (λ (m : ℕ). option_map (λ (x : Reply). record { number = m; reply = x }) (reply_in (reply_kind r) (reply_body r)))
    (number_in-frame ANSWER_BYTE (reply_kind r) n (reply_body r) number.1)
    ∙ ap (λ (o : Option Reply). option_map (λ (x : Reply). record { number = n; reply = x }) o) (reply_in-body r fits)

pub reply-read-as : (r q : Reply) → r ≡ q → FitsReply q → IsReadReply r
reply-read-as r q e fits = reply-read r (subst FitsReply (sym e) fits)

pub poke-frame : (number place : ℕ) (ws : List ℕ)
    → head REQUEST_BYTE POKE_KIND number (2 + 2 * length ws) ++ (little_bytes 2 place ++ word_bytes ws)
    ≡ frame REQUEST_BYTE POKE_KIND number (word_bytes (place ∷ ws))
poke-frame number place ws =
    let e = length-word_bytes ws in
    let long : 2 + 2 * length ws ≡ length (word_bytes (place ∷ ws)) = omega (arith, e) in
    ap (λ (n : ℕ). head REQUEST_BYTE POKE_KIND number n ++ (little_bytes 2 place ++ word_bytes ws)) long

-- one more word
pub word_bytes-next : (ws : List ℕ) (i : ℕ) → i < length ws → word_bytes (take (suc i) ws) ≡ word_bytes (take i ws) ++ little_bytes 2 (slice_index ws i)
word_bytes-next [] i h = absurd (omega (arith, h))
word_bytes-next (w ∷ ws) zero h = refl
word_bytes-next (w ∷ ws) (suc i) h =
    ap (λ (r : List ℕ). little_bytes 2 w ++ r) (word_bytes-next ws i (omega (arith, h)))
