-- Laws of frames, for the crates above.
use Rattle.std.proofs.Common.{◌≡◌, ◌<◌, ◌≤◌, ℕ, ◌-◌, ◌^◌, Bool, true, false, nat_eq, nat_lt, nat_le, if◌then◌else◌, List, [], ◌++◌, length, Option, Some, None, option_map, refl, sym, ap, ◌∙◌, arith}
use Rattle.std.proofs.lemmas.Bool.{lt-ltb, le-leb, eq-eqb}
use Rattle.byteorder.specs.Endian.{little_bytes}
use Rattle.byteorder.specs.Numbers.{little_number-reads_back}
use Rattle.target_monitor.specs.declared.requests.Reply.{Reply}
use Rattle.target_monitor.specs.declared.requests.Reply.TheVariants.{Done}
use Rattle.link_frames.specs.declared.frame_buf.TheConstants.{MAX_FRAME_BYTES}
use Rattle.link_frames.specs.declared.frames.TheConstants.{ANSWER_BYTE, HEAD_BYTES, DONE_KIND}
use Rattle.link_frames.specs.declared.frames.AnswerFrame.{AnswerFrame}
use Rattle.link_frames.specs.Frames.{frame, reply_kind, reply_body, answer_frame, number_in, length_in, is_whole, answer_of, IsNumber, IsReadReply}

-- the head of a frame says its number
pub number_in-frame : (first kind n : ℕ) (body : List ℕ) → n < 2 ^ 64 → number_in (frame first kind n body) ≡ n
number_in-frame first kind n body h = little_number-reads_back 8 n (little_bytes 2 (length body) ++ body) h

pub if-true : {X : Type 0} (b : Bool) (x y : X) → b ≡ true → (if b then x else y) ≡ x
if-true true x y h = refl
if-true false x y h = cc

length-frame : (first kind n : ℕ) (body : List ℕ) → length body < 2 ^ 16 → length_in (frame first kind n body) ≡ length body
length-frame first kind n body h = little_number-reads_back 2 (length body) body h

-- a frame is whole
pub whole-frame : (first kind n : ℕ) (body : List ℕ) → IsNumber n → length body ≤ 1024 → is_whole first (frame first kind n body) ≡ true
whole-frame first kind n body number few =
    let has_head : nat_le HEAD_BYTES (length (frame first kind n body)) ≡ true = le-leb HEAD_BYTES (length (frame first kind n body)) (omega arith) in
    let is_short : nat_le (length (frame first kind n body)) MAX_FRAME_BYTES ≡ true = le-leb (length (frame first kind n body)) MAX_FRAME_BYTES (omega (arith, few)) in
    let begins : nat_eq first first ≡ true = eq-eqb first first refl in
    let from_one : nat_lt 0 (number_in (frame first kind n body)) ≡ true =
    ap (λ (m : ℕ). nat_lt 0 m) (number_in-frame first kind n body number.1) ∙ lt-ltb 0 n number.0 in
    let fits : nat_eq (length_in (frame first kind n body)) (length (frame first kind n body) - HEAD_BYTES) ≡ true =
    eq-eqb (length_in (frame first kind n body)) (length (frame first kind n body) - HEAD_BYTES)
    (length-frame first kind n body (omega (arith, few)) ∙ omega arith) in
    rw (has_head, is_short, begins, from_one, fits) refl

numbered : (b : Bool) (n : ℕ) (o : Option Reply) (p : AnswerFrame)
    → (if b then option_map (λ (r : Reply). record { number = n; reply = r }) o else None) ≡ Some p → p.number ≡ n
numbered true n None p h = cc
numbered true n (Some r) p h = sym (ap (λ (x : Option AnswerFrame). elim x [ None ↦ n | Some f ↦ f.number ]) h)
numbered false n o p h = cc

-- what is read from an answer's frame has that answer's number
pub answer_of-number : (f p : AnswerFrame) → f.number < 2 ^ 64 → answer_of (answer_frame f) ≡ Some p → p.number ≡ f.number
unfolding answer_of answer_frame
answer_of-number f p fits h =
    numbered _ _ _ p h ∙ number_in-frame ANSWER_BYTE (reply_kind f.reply) f.number (reply_body f.reply) fits

-- the reply that a target's end keeps before the first request is read back too
pub done-read : IsReadReply Done
unfolding IsReadReply answer_of answer_frame
done-read n number =
    if-true _ _ _ (whole-frame ANSWER_BYTE DONE_KIND n [] number (omega arith))
    ∙ ap (λ (m : ℕ). Some (record { number = m; reply = Done })) (number_in-frame ANSWER_BYTE DONE_KIND n [] number.1)
