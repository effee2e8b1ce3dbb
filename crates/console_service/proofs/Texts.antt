-- The text of an integer, part by part.
use Rattle.std.proofs.Common.{◌≡◌, ℕ, pos, negsuc, ◌-ℤ◌, ◌+◌, ◌-◌, ◌<◌, ◌≤◌, Bool, true, false, List, [], ◌∷◌, length, ◌++◌, replicate, decimal, refl, sym, ap, ◌∙◌, arith, append_assoc, length-append}
use Rattle.std.specs.Prelude.{nat_le, nat_lt, if◌then◌else◌}
use Rattle.std.proofs.lemmas.Bool.Decides.{nat_tests}
use Rattle.std.proofs.lemmas.List.{length-replicate}
use Rattle.pdp11_machine.specs.State.{MachineState}
use Rattle.console_service.specs.declared.console.Served.TheVariants.{Done, Full}
use Rattle.console_service.specs.Console.{ConsoleState, sign_of, size_of, after_write}
use Rattle.dice_base.specs.IntegerText.{signed_text, number_text, integer_text}
use Rattle.std.proofs.lemmas.Int.{ints}
use Rattle.console_service.specs.declared.memory_map.TheConstants.{CONSOLE_ROOM_BYTES}

pub written_fits : (text : List ℕ) (s : MachineState) (k : ConsoleState) → length k.output + length text ≤ CONSOLE_ROOM_BYTES → after_write text s k ≡ (s, record k { output = k.output ++ text }, Done)
unfolding after_write
written_fits text s k le = let fits : nat_le (length k.output + length text) CONSOLE_ROOM_BYTES ≡ true = grind (arith, nat_tests) in rw fits refl

pub written_full : (text : List ℕ) (s : MachineState) (k : ConsoleState) → CONSOLE_ROOM_BYTES < length k.output + length text → after_write text s k ≡ (s, k, Full)
unfolding after_write
written_full text s k lt = let full : nat_le (length k.output + length text) CONSOLE_ROOM_BYTES ≡ false = grind (arith, nat_tests) in rw full refl

below : (x : ℕ) → x < 32768 → number_text x ≡ decimal x
below x h = let t : nat_lt x 32768 ≡ true = grind (arith, nat_tests) in ap (λ b. signed_text (if b then pos x else pos x -ℤ pos 65536)) t

above : (x : ℕ) → 32768 ≤ x → x < 65536 → number_text x ≡ 45 ∷ decimal (65536 - x)
above x h small =
    let t : nat_lt x 32768 ≡ false = grind (arith, nat_tests) in
    let z : pos x -ℤ pos 65536 ≡ negsuc (65535 - x) = omega (arith, ints) in
    let n : 65535 - x + 1 ≡ 65536 - x = omega arith in
    ap (λ b. signed_text (if b then pos x else pos x -ℤ pos 65536)) t ∙ ap signed_text z ∙ ap (λ k. 45 ∷ decimal k) n

-- the text of a word is its sign and its digits
pub number-is : (word : ℕ) → word < 65536 → number_text word ≡ sign_of word ++ decimal (size_of word)
number-is word small = by (nat_lt word 32768) refl
  where
    by : (a : Bool) → nat_lt word 32768 ≡ a → number_text word ≡ (if a then [] else 45 ∷ []) ++ decimal (if a then word else 65536 - word)
    by true e = below word (grind (arith, nat_tests))
    by false e = above word (grind (arith, nat_tests)) small

pub length_text : (word width : ℕ) → word < 65536 → length (integer_text word width) ≡ (width - (length (sign_of word) + length (decimal (size_of word)))) + length (sign_of word) + length (decimal (size_of word))
length_text word width small = ap (λ t. length (replicate (width - length t) 32 ++ t)) (number-is word small) ∙ parts
  where
    text : List ℕ
    text = sign_of word ++ decimal (size_of word)

    pad : ℕ
    pad = width - length text

    parts : length (replicate pad 32 ++ text) ≡ (width - (length (sign_of word) + length (decimal (size_of word)))) + length (sign_of word) + length (decimal (size_of word))
    parts = omega (arith, length-append (replicate pad 32) text, length-replicate {A = ℕ} pad 32, length-append (sign_of word) (decimal (size_of word)), ap (λ n. width - n) (length-append (sign_of word) (decimal (size_of word))))

-- the three parts, one behind the other
pub text_of_parts : (o : List ℕ) (word width pad : ℕ) → word < 65536 → pad ≡ width - (length (sign_of word) + length (decimal (size_of word))) → ((o ++ replicate pad 32) ++ sign_of word) ++ decimal (size_of word) ≡ o ++ integer_text word width
text_of_parts o word width pad small e =
    let text = sign_of word ++ decimal (size_of word) in
    let same : pad ≡ width - length text = e ∙ ap (λ n. width - n) (sym (length-append (sign_of word) (decimal (size_of word)))) in
    append_assoc (o ++ replicate pad 32) (sign_of word) (decimal (size_of word)) ∙ append_assoc o (replicate pad 32) text ∙ ap (λ n. o ++ (replicate n 32 ++ text)) same
    ∙ ap (λ t. o ++ (replicate (width - length t) 32 ++ t)) (sym (number-is word small))
