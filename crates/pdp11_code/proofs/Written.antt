-- What is written is read again.
use Rattle.std.proofs.Common.{◌≡◌, ℕ, suc, ◌+◌, ◌*◌, ◌/◌, ◌%◌, ◌<◌, Bool, true, false, List, ◌∷◌, ◌++◌, length, Option, Some, None, refl, sym, ap, ◌∙◌, arith, length-append}
use Rattle.std.specs.Prelude.{slice_get, nat_le, if◌then◌else◌, is_some, nat_eq}
use Rattle.std.proofs.lemmas.Bool.Decides.{nat_tests}
use Rattle.pdp11_code.specs.declared.instr.Ea.{Ea}
use Rattle.pdp11_code.specs.declared.instr.Instr.{Instr}
use Rattle.pdp11_code.specs.declared.instr.Instr.TheVariants.{Two, Extended, One, Jsr, Rts, Sob, Branch, Emt, Trap, Flags, Bare}
use Rattle.pdp11_code.specs.declared.table.Shape.TheVariants.{DoubleOperand, NoOperand}
use Rattle.pdp11_code.proofs.Laws.{shape_within}
use Rattle.pdp11_code.specs.Code.{wants_next, ea_at, read_as, instruction_at}
use Rattle.pdp11_code.specs.Write.{high_bit, next_words, words_of, IsEa, IsInstr}

-- an operand is read again from its field and its word
ea_again : (words : List ℕ) (at field mode register : ℕ) (next : Option ℕ) → is_some next ≡ wants_next mode register → field / 8 % 8 ≡ mode → field % 8 ≡ register → ((w : ℕ) → next ≡ Some w → slice_get words at ≡ Some w) → ea_at words at field ≡ Some (record { mode = mode; register = register; next = next }, at + length (next_words next))
ea_again words at field mode register None wants m r has =
    let no : wants_next mode register ≡ false = sym wants in
    let z : at ≡ at + 0 = omega arith in
    rw (m, r, no) (ap (λ k. Some (record { mode = mode; register = register; next = None }, k)) z)
ea_again words at field mode register (Some w) wants m r has =
    let yes : wants_next mode register ≡ true = sym wants in
    let got : slice_get words at ≡ Some w = has w refl in
    rw (m, r, yes, got) refl

-- the fields of a word of two operands
record PairFields (w op sm sr dm dr : ℕ) (high : Bool) : Type 0 where
  op_is : w / 4096 % 8 ≡ op
  high_is : nat_le 32768 w ≡ high
  source_mode : w / 64 / 8 % 8 ≡ sm
  source_register : w / 64 % 8 ≡ sr
  target_mode : w / 8 % 8 ≡ dm
  target_register : w % 8 ≡ dr

pair_fields : (op sm sr dm dr : ℕ) (high : Bool) → op < 8 → sm < 8 → sr < 8 → dm < 8 → dr < 8 → PairFields (high_bit high + op * 4096 + (sm * 8 + sr) * 64 + (dm * 8 + dr)) op sm sr dm dr high
pair_fields op sm sr dm dr true a b c d e = record { op_is = omega arith; high_is = grind (arith, nat_tests); source_mode = omega arith; source_register = omega arith; target_mode = omega arith; target_register = omega arith }
pair_fields op sm sr dm dr false a b c d e = record { op_is = omega arith; high_is = grind (arith, nat_tests); source_mode = omega arith; source_register = omega arith; target_mode = omega arith; target_register = omega arith }

-- an instruction of two operands is read again
pair_read : (w : ℕ) (words : List ℕ) (op : ℕ) (high : Bool) (s d : Ea) (at end : ℕ) → w / 4096 % 8 ≡ op → nat_le 32768 w ≡ high → ea_at words 1 (w / 64) ≡ Some (s, at) → ea_at words at w ≡ Some (d, end) → read_as DoubleOperand w words ≡ Some (Two op high s d, end)
pair_read w words op high s d at end o h e f = rw (e, f, o, h) refl

pair_again : (op sm sr dm dr : ℕ) (high : Bool) (sn dn : Option ℕ) (rest : List ℕ) → op < 8 → IsEa (record { mode = sm; register = sr; next = sn }) → IsEa (record { mode = dm; register = dr; next = dn }) → read_as DoubleOperand (high_bit high + op * 4096 + (sm * 8 + sr) * 64 + (dm * 8 + dr)) ((high_bit high + op * 4096 + (sm * 8 + sr) * 64 + (dm * 8 + dr)) ∷ ((next_words sn ++ next_words dn) ++ rest)) ≡ Some (Two op high (record { mode = sm; register = sr; next = sn }) (record { mode = dm; register = dr; next = dn }), 1 + length (next_words sn) + length (next_words dn))
pair_again op sm sr dm dr high sn dn rest ho hs hd =
    let w = high_bit high + op * 4096 + (sm * 8 + sr) * 64 + (dm * 8 + dr) in
    let f = pair_fields op sm sr dm dr high ho hs.0 hs.1 hd.0 hd.1 in
    by_next w f sn dn hs.2 hd.2
  where
    by_next : (w : ℕ) → PairFields w op sm sr dm dr high → (sn dn : Option ℕ) → is_some sn ≡ wants_next sm sr → is_some dn ≡ wants_next dm dr → read_as DoubleOperand w (w ∷ ((next_words sn ++ next_words dn) ++ rest)) ≡ Some (Two op high (record { mode = sm; register = sr; next = sn }) (record { mode = dm; register = dr; next = dn }), 1 + length (next_words sn) + length (next_words dn))
    by_next w f None None ws wd = pair_read w (w ∷ rest) op high _ _ 1 1 f.op_is f.high_is (ea_again (w ∷ rest) 1 (w / 64) sm sr None ws f.source_mode f.source_register (λ v e. cc)) (ea_again (w ∷ rest) 1 w dm dr None wd f.target_mode f.target_register (λ v e. cc))
    by_next w f None (Some y) ws wd = pair_read w (w ∷ y ∷ rest) op high _ _ 1 2 f.op_is f.high_is (ea_again (w ∷ y ∷ rest) 1 (w / 64) sm sr None ws f.source_mode f.source_register (λ v e. cc)) (ea_again (w ∷ y ∷ rest) 1 w dm dr (Some y) wd f.target_mode f.target_register (λ v e. e))
    by_next w f (Some x) None ws wd = pair_read w (w ∷ x ∷ rest) op high _ _ 2 2 f.op_is f.high_is (ea_again (w ∷ x ∷ rest) 1 (w / 64) sm sr (Some x) ws f.source_mode f.source_register (λ v e. e)) (ea_again (w ∷ x ∷ rest) 2 w dm dr None wd f.target_mode f.target_register (λ v e. cc))
    by_next w f (Some x) (Some y) ws wd = pair_read w (w ∷ x ∷ y ∷ rest) op high _ _ 2 3 f.op_is f.high_is (ea_again (w ∷ x ∷ y ∷ rest) 1 (w / 64) sm sr (Some x) ws f.source_mode f.source_register (λ v e. e)) (ea_again (w ∷ x ∷ y ∷ rest) 2 w dm dr (Some y) wd f.target_mode f.target_register (λ v e. e))

-- an operand alone
one_again : (w mode register : ℕ) (next : Option ℕ) (rest : List ℕ) → is_some next ≡ wants_next mode register → w / 8 % 8 ≡ mode → w % 8 ≡ register → ea_at (w ∷ (next_words next ++ rest)) 1 w ≡ Some (record { mode = mode; register = register; next = next }, suc (length (next_words next)))
one_again w mode register None rest wants m r = ea_again (w ∷ rest) 1 w mode register None wants m r (λ v e. cc)
one_again w mode register (Some x) rest wants m r = ea_again (w ∷ x ∷ rest) 1 w mode register (Some x) wants m r (λ v e. e)

record OneFields (w op dm dr : ℕ) (high : Bool) : Type 0 where
  op_is : w / 64 % 256 ≡ op
  high_is : nat_le 32768 w ≡ high
  target_mode : w / 8 % 8 ≡ dm
  target_register : w % 8 ≡ dr

one_fields : (op dm dr : ℕ) (high : Bool) → op < 256 → dm < 8 → dr < 8 → OneFields (high_bit high + op * 64 + (dm * 8 + dr)) op dm dr high
one_fields op dm dr true a b c = record { op_is = omega arith; high_is = grind (arith, nat_tests); target_mode = omega arith; target_register = omega arith }
one_fields op dm dr false a b c = record { op_is = omega arith; high_is = grind (arith, nat_tests); target_mode = omega arith; target_register = omega arith }

flag_bit : (set : Bool) (bits : ℕ) → bits < 16 → nat_eq ((160 + (if set then 16 else 0) + bits) / 16 % 2) 1 ≡ set
flag_bit true bits h = grind (arith, nat_tests)
flag_bit false bits h = grind (arith, nat_tests)

flag_low : (set : Bool) (bits : ℕ) → bits < 16 → (160 + (if set then 16 else 0) + bits) % 16 ≡ bits
flag_low true bits h = omega arith
flag_low false bits h = omega arith

-- what is written is read again
pub read_again : (i : Instr) (rest : List ℕ) → IsInstr i → instruction_at (words_of i ++ rest) ≡ Some (i, length (words_of i))
read_again (Two op high s d) rest h =
    let len : 1 + length (next_words s.next) + length (next_words d.next) ≡ suc (length (next_words s.next ++ next_words d.next)) = omega (arith, length-append (next_words s.next) (next_words d.next)) in
    rw h.3 (pair_again op s.mode s.register d.mode d.register high s.next d.next rest h.0 h.1 h.2 ∙ ap (λ n. Some (Two op high s d, n)) len)
read_again (Extended op register s) rest h =
    let w = 28672 + op * 512 + register * 64 + (s.mode * 8 + s.register) in
    let r = h.1 in let m = h.2.0 in let n = h.2.1 in let o = h.0 in
    let e1 : w / 512 % 8 ≡ op = omega arith in
    let e2 : w / 64 % 8 ≡ register = omega arith in
    let e = one_again w s.mode s.register s.next rest h.2.2 (omega arith) (omega arith) in
    rw (h.3, e, e1, e2) refl
read_again (Jsr register d) rest h =
    let w = 2048 + register * 64 + (d.mode * 8 + d.register) in
    let r = h.0 in let m = h.1.0 in let n = h.1.1 in
    let e2 : w / 64 % 8 ≡ register = omega arith in
    let e = one_again w d.mode d.register d.next rest h.1.2 (omega arith) (omega arith) in
    rw (h.2, e, e2) refl
read_again (Rts register) rest h = let e : (128 + register) % 8 ≡ register = omega (arith, h.0) in rw (h.1, e) refl
read_again (Sob register back) rest h =
    let e : (32256 + register * 64 + back) / 64 % 8 ≡ register = omega (arith, h.0, h.1) in
    let f : (32256 + register * 64 + back) % 64 ≡ back = omega (arith, h.1) in
    rw (h.2, e, f) refl
read_again (One op high d) rest h =
    let f = one_fields op d.mode d.register high h.0 h.1.0 h.1.1 in
    let e = one_again (high_bit high + op * 64 + (d.mode * 8 + d.register)) d.mode d.register d.next rest h.1.2 f.target_mode f.target_register in
    rw (h.2, e, f.op_is, f.high_is) refl
read_again (Branch high low) rest h = let e : (high * 256 + low) / 256 ≡ high = omega (arith, h.0) in let f : (high * 256 + low) % 256 ≡ low = omega (arith, h.0) in rw (h.1, e, f) refl
read_again (Emt n) rest h = let e : (34816 + n) % 256 ≡ n = omega (arith, h.0) in rw (h.1, e) refl
read_again (Trap n) rest h = let e : (35072 + n) % 256 ≡ n = omega (arith, h.0) in rw (h.1, e) refl
read_again (Flags set bits) rest h = rw (h.1, flag_bit set bits h.0, flag_low set bits h.0) refl
read_again (Bare n) rest h =
    let b = shape_within n NoOperand h in
    let e : n % 256 ≡ n = omega arith in
    rw (h, e) refl
