-- What is read is an instruction of the table, with the first word that was read.
use Rattle.std.proofs.Common.{◌≡◌, ℕ, ◌+◌, ◌-◌, ◌*◌, ◌/◌, ◌%◌, ◌<◌, ◌≤◌, Bool, true, false, List, [], ◌∷◌, get_or, Option, Some, None, refl, sym, ap, ◌∙◌, arith}
use Rattle.std.specs.Prelude.{slice_get, nat_lt, IfSome, find, option_and_then, ◌&&◌, nat_le, if◌then◌else◌, nat_eq}
use Rattle.std.specs.Option.{option_map}
use Rattle.std.specs.List.{list_all}
use Rattle.std.proofs.Math.Dec.{lit<}
use Rattle.std.proofs.lemmas.Nat.{mod_below}
use Rattle.std.proofs.lemmas.Bool.Decides.{nat_tests}
use Rattle.pdp11_code.specs.declared.instr.Ea.{Ea}
use Rattle.pdp11_code.specs.declared.instr.Instr.{Instr}
use Rattle.pdp11_code.specs.declared.instr.Instr.TheVariants.{Two, Extended, One, Jsr}
use Rattle.pdp11_code.specs.declared.table.Shape.{Shape}
use Rattle.pdp11_code.specs.declared.table.Shape.TheVariants.{DoubleOperand, SingleOperand, RegisterOperand, JumpToSubroutine, ReturnFromSubroutine, SubtractOneAndBranch, BranchOffset, EmulatorTrap, ProgramTrap, ConditionCodes, NoOperand}
use Rattle.pdp11_code.specs.declared.table.Row.{Row}
use Rattle.pdp11_code.specs.declared.table.TheConstants.{ROWS}
use Rattle.pdp11_code.specs.Code.{is_in, shape_at, wants_next, ea_at, read_as, instruction_at}
use Rattle.pdp11_code.specs.Write.{high_bit, field_of, first_word, IsEa, IsInstr}

-- the fields of a word of two operands make up the word
pub pair_word : (w : ℕ) → w < 65536 → high_bit (nat_le 32768 w) + w / 4096 % 8 * 4096 + (w / 64 / 8 % 8 * 8 + w / 64 % 8) * 64 + (w / 8 % 8 * 8 + w % 8) ≡ w
pair_word w h = grind (arith, nat_tests)

pub single_word : (w : ℕ) → w < 65536 → w / 64 % 512 < 256 → high_bit (nat_le 32768 w) + w / 64 % 256 * 64 + (w / 8 % 8 * 8 + w % 8) ≡ w
single_word w h k = grind (arith, nat_tests)

-- what the field of an operand reads as
abbrev pub IsRead : ℕ → Ea × ℕ → Type 0
IsRead field read = IsEa read.0 × (field_of read.0 ≡ field / 8 % 8 * 8 + field % 8)

pub ea_read : (words : List ℕ) (at field : ℕ) → IfSome (ea_at words at field) (IsRead field)
ea_read words at field = ea_read_by words at field (wants_next (field / 8 % 8) (field % 8)) refl (slice_get words at)
  where
    ea_read_by : (words : List ℕ) (at field : ℕ) (b : Bool) → wants_next (field / 8 % 8) (field % 8) ≡ b → (o : Option ℕ) → IfSome (if b then option_map (λ next. (record { mode = field / 8 % 8; register = field % 8; next = Some next }, at + 1)) o else Some (record { mode = field / 8 % 8; register = field % 8; next = None }, at)) (IsRead field)
    ea_read_by words at field true e None = tt
    ea_read_by words at field true e (Some next) = ((mod_below (field / 8) 8 (lit< tt), mod_below field 8 (lit< tt), sym e), refl)
    ea_read_by words at field false e o = ((mod_below (field / 8) 8 (lit< tt), mod_below field 8 (lit< tt), sym e), refl)

-- what is read is an instruction of the table with this first word
abbrev pub IsListed : ℕ → Option (Instr × ℕ) → Type 0
IsListed w o = IfSome o (λ read. IsInstr read.0 × (first_word read.0 ≡ w))

abbrev pair_of : ℕ → Option (Ea × ℕ) → (ℕ → Option (Ea × ℕ)) → Option (Instr × ℕ)
pair_of word o f = option_and_then (λ s. option_map (λ d. (Two (word / 4096 % 8) (nat_le 32768 word) s.0 d.0, d.1)) (f s.1)) o

pair_from : (w : ℕ) (o : Option (Ea × ℕ)) (f : ℕ → Option (Ea × ℕ)) → w < 65536 → shape_at w ≡ Some DoubleOperand → IfSome o (IsRead (w / 64)) → ((n : ℕ) → IfSome (f n) (IsRead w)) → IsListed w (pair_of w o f)
pair_from w None f lt e r q = tt
pair_from w (Some s) f lt e r q = pair_then w s (f s.1) lt e r (q s.1)
  where
    pair_then : (w : ℕ) (s : Ea × ℕ) (o : Option (Ea × ℕ)) → w < 65536 → shape_at w ≡ Some DoubleOperand → IsRead (w / 64) s → IfSome o (IsRead w) → IsListed w (option_map (λ d. (Two (w / 4096 % 8) (nat_le 32768 w) s.0 d.0, d.1)) o)
    pair_then w s None lt e r q = tt
    pair_then w s (Some d) lt e r q =
        let word : first_word (Two (w / 4096 % 8) (nat_le 32768 w) s.0 d.0) ≡ w = omega (arith, r.1, q.1, pair_word w lt) in
        ((mod_below (w / 4096) 8 (lit< tt), r.0, q.0, ap shape_at word ∙ e), word)

pub pair_listed : (w : ℕ) (words : List ℕ) → w < 65536 → shape_at w ≡ Some DoubleOperand → IsListed w (read_as DoubleOperand w words)
pair_listed w words lt e = pair_from w (ea_at words 1 (w / 64)) (λ n. ea_at words n w) lt e (ea_read words 1 (w / 64)) (λ n. ea_read words n w)

-- a fact that every row passes, at the row of a word
pub row_of : (p : Row → Bool) (rows : List Row) (w : ℕ) (s : Shape) → list_all p rows ≡ true → option_map (λ row. row.shape) (find (is_in w) rows) ≡ Some s → (row : Row) × (is_in w row ≡ true) × (row.shape ≡ s) × (p row ≡ true)
row_of p [] w s all e = cc
row_of p (row ∷ rows) w s all e = row_of_by p row rows w s (is_in w row) refl (p row) refl all e (row_of p rows w s)
  where
    row_of_by : (p : Row → Bool) (row : Row) (rows : List Row) (w : ℕ) (s : Shape) (b : Bool) → is_in w row ≡ b → (q : Bool) → p row ≡ q → q && list_all p rows ≡ true → option_map (λ row. row.shape) (if b then Some row else find (is_in w) rows) ≡ Some s → (list_all p rows ≡ true → option_map (λ row. row.shape) (find (is_in w) rows) ≡ Some s → (row : Row) × (is_in w row ≡ true) × (row.shape ≡ s) × (p row ≡ true)) → (row : Row) × (is_in w row ≡ true) × (row.shape ≡ s) × (p row ≡ true)
    row_of_by p row rows w s b i false j all e next = cc
    row_of_by p row rows w s true i true j all e next = (row, i, cc, j)
    row_of_by p row rows w s false i true j all e next = next all e

-- the words of a shape lie between these
abbrev pub low_of : Shape → ℕ
low_of RegisterOperand = 28672
low_of JumpToSubroutine = 2048
low_of ReturnFromSubroutine = 128
low_of SubtractOneAndBranch = 32256
low_of EmulatorTrap = 34816
low_of ProgramTrap = 35072
low_of ConditionCodes = 160
low_of _ = 0

abbrev pub high_of : Shape → ℕ
high_of RegisterOperand = 32768
high_of JumpToSubroutine = 2560
high_of ReturnFromSubroutine = 136
high_of SubtractOneAndBranch = 32768
high_of EmulatorTrap = 35072
high_of ProgramTrap = 35328
high_of ConditionCodes = 192
high_of NoOperand = 256
high_of _ = 65536

abbrev row_within : Row → Bool
row_within row = nat_le (low_of row.shape) row.first && nat_le (row.first + row.count) (high_of row.shape)

abbrev on_single : Shape → Bool → Bool
on_single SingleOperand b = b
on_single _ b = true

-- the row's words have bits 6 to 14 below 256
abbrev single_row : Row → Bool
single_row row = on_single row.shape (nat_le (row.first % 32768 + row.count) 16384)

both_tests : (a b : Bool) → a && b ≡ true → (a ≡ true) × (b ≡ true)
both_tests true true e = (refl, refl)
both_tests true false e = cc
both_tests false b e = cc

bounds_of : (f n w l h : ℕ) → nat_le f w ≡ true → nat_lt (w - f) n ≡ true → nat_le l f ≡ true → nat_le (f + n) h ≡ true → (l ≤ w) × (w < h)
bounds_of f n w l h a b c d = grind (arith, nat_tests)

pub shape_within : (w : ℕ) (s : Shape) → shape_at w ≡ Some s → (low_of s ≤ w) × (w < high_of s)
shape_within w s e = let r = row_of row_within ROWS w s refl e in within_by r.0 w s r.1 r.2 r.3
  where
    within_by : (row : Row) (w : ℕ) (s : Shape) → is_in w row ≡ true → row.shape ≡ s → row_within row ≡ true → (low_of s ≤ w) × (w < high_of s)
    within_by row w s i e p =
        let q : nat_le (low_of s) row.first && nat_le (row.first + row.count) (high_of s) ≡ true = rw e at p in
        let i2 = both_tests (nat_le row.first w) (nat_lt (w - row.first) row.count) i in
        let q2 = both_tests (nat_le (low_of s) row.first) (nat_le (row.first + row.count) (high_of s)) q in
        bounds_of row.first row.count w (low_of s) (high_of s) i2.0 i2.1 q2.0 q2.1

single_below : (w : ℕ) → shape_at w ≡ Some SingleOperand → w / 64 % 512 < 256
single_below w e = let r = row_of single_row ROWS w SingleOperand refl e in single_by r.0 w r.1 r.2 r.3
  where
    single_by : (row : Row) (w : ℕ) → is_in w row ≡ true → row.shape ≡ SingleOperand → single_row row ≡ true → w / 64 % 512 < 256
    single_by row w i e p = let q : nat_le (row.first % 32768 + row.count) 16384 ≡ true = rw e at p in let i2 = both_tests (nat_le row.first w) (nat_lt (w - row.first) row.count) i in let a = i2.0 in let b = i2.1 in grind (arith, nat_tests)

pub single_listed : (w : ℕ) (words : List ℕ) → w < 65536 → shape_at w ≡ Some SingleOperand → IsListed w (read_as SingleOperand w words)
single_listed w words lt e = single_then w (ea_at words 1 w) lt e (ea_read words 1 w)
  where
    single_then : (w : ℕ) (o : Option (Ea × ℕ)) → w < 65536 → shape_at w ≡ Some SingleOperand → IfSome o (IsRead w) → IsListed w (option_map (λ d. (One (w / 64 % 256) (nat_le 32768 w) d.0, d.1)) o)
    single_then w None lt e q = tt
    single_then w (Some d) lt e q =
        let word : first_word (One (w / 64 % 256) (nat_le 32768 w) d.0) ≡ w = omega (arith, q.1, single_word w lt (single_below w e)) in
        ((mod_below (w / 64) 256 (lit< tt), q.0, ap shape_at word ∙ e), word)

read_listed : (s : Shape) (w : ℕ) (words : List ℕ) → w < 65536 → shape_at w ≡ Some s → IsListed w (read_as s w words)
read_listed DoubleOperand w words lt e = pair_listed w words lt e
read_listed SingleOperand w words lt e = single_listed w words lt e
read_listed RegisterOperand w words lt e = wide_then w (ea_at words 1 w) (shape_within w RegisterOperand e) e (ea_read words 1 w)
  where
    wide_then : (w : ℕ) (o : Option (Ea × ℕ)) → (28672 ≤ w) × (w < 32768) → shape_at w ≡ Some RegisterOperand → IfSome o (IsRead w) → IsListed w (option_map (λ d. (Extended (w / 512 % 8) (w / 64 % 8) d.0, d.1)) o)
    wide_then w None b e q = tt
    wide_then w (Some d) b e q =
        let word : first_word (Extended (w / 512 % 8) (w / 64 % 8) d.0) ≡ w = omega (arith, q.1) in
        ((mod_below (w / 512) 8 (lit< tt), mod_below (w / 64) 8 (lit< tt), q.0, ap shape_at word ∙ e), word)
read_listed JumpToSubroutine w words lt e = call_then w (ea_at words 1 w) (shape_within w JumpToSubroutine e) e (ea_read words 1 w)
  where
    call_then : (w : ℕ) (o : Option (Ea × ℕ)) → (2048 ≤ w) × (w < 2560) → shape_at w ≡ Some JumpToSubroutine → IfSome o (IsRead w) → IsListed w (option_map (λ d. (Jsr (w / 64 % 8) d.0, d.1)) o)
    call_then w None b e q = tt
    call_then w (Some d) b e q =
        let word : first_word (Jsr (w / 64 % 8) d.0) ≡ w = omega (arith, q.1) in
        ((mod_below (w / 64) 8 (lit< tt), q.0, ap shape_at word ∙ e), word)
read_listed ReturnFromSubroutine w words lt e =
    let b = shape_within w ReturnFromSubroutine e in let word : 128 + w % 8 ≡ w = omega arith in ((mod_below w 8 (lit< tt), ap shape_at word ∙ e), word)
read_listed SubtractOneAndBranch w words lt e =
    let b = shape_within w SubtractOneAndBranch e in let word : 32256 + w / 64 % 8 * 64 + w % 64 ≡ w = omega arith in ((mod_below (w / 64) 8 (lit< tt), mod_below w 64 (lit< tt), ap shape_at word ∙ e), word)
read_listed BranchOffset w words lt e = let word : w / 256 * 256 + w % 256 ≡ w = omega arith in ((mod_below w 256 (lit< tt), ap shape_at word ∙ e), word)
read_listed EmulatorTrap w words lt e =
    let b = shape_within w EmulatorTrap e in let word : 34816 + w % 256 ≡ w = omega arith in ((mod_below w 256 (lit< tt), ap shape_at word ∙ e), word)
read_listed ProgramTrap w words lt e =
    let b = shape_within w ProgramTrap e in let word : 35072 + w % 256 ≡ w = omega arith in ((mod_below w 256 (lit< tt), ap shape_at word ∙ e), word)
read_listed ConditionCodes w words lt e =
    let b = shape_within w ConditionCodes e in let word : 160 + (if nat_eq (w / 16 % 2) 1 then 16 else 0) + w % 16 ≡ w = bits_word w b.0 b.1 in ((mod_below w 16 (lit< tt), ap shape_at word ∙ e), word)
  where
    bits_word : (w : ℕ) → 160 ≤ w → w < 192 → 160 + (if nat_eq (w / 16 % 2) 1 then 16 else 0) + w % 16 ≡ w
    bits_word w a b = grind (arith, nat_tests)
read_listed NoOperand w words lt e =
    let b = shape_within w NoOperand e in let word : w % 256 ≡ w = omega arith in (ap shape_at word ∙ e, word)

-- what is said of what was read follows from its instruction and first word
pub listed_part : (w : ℕ) (o : Option (Instr × ℕ)) → IsListed w o → IfSome o (λ read. IsInstr read.0)
listed_part w None h = tt
listed_part w (Some read) h = h.0

pub first_listed : (w : ℕ) (rest : List ℕ) → w < 65536 → IsListed w (instruction_at (w ∷ rest))
first_listed w rest lt = listed_by w rest lt (shape_at w) refl
  where
    listed_by : (w : ℕ) (rest : List ℕ) → w < 65536 → (o : Option Shape) → shape_at w ≡ o → IsListed w (option_and_then (λ shape. read_as shape w (w ∷ rest)) o)
    listed_by w rest lt None e = tt
    listed_by w rest lt (Some s) e = read_listed s w (w ∷ rest) lt e

-- what is read is an instruction of the table
pub decoded_listed : (words : List ℕ) → ((i : ℕ) → get_or words i 0 < 65536) → IfSome (instruction_at words) (λ read. IsInstr read.0)
decoded_listed [] fits = tt
decoded_listed (w ∷ rest) fits = listed_part w (instruction_at (w ∷ rest)) (first_listed w rest (fits 0))
