-- What is kept of a line and of a text tells its command.
use Rattle.std.proofs.Common.{◌≡◌, ◌<◌, ◌≤◌, ◌⊎◌, ℕ, ◌+◌, ◌-◌, Bool, true, false, List, [], ◌∷◌, ◌++◌, Option, Some, None, length, take, Result, Ok, Err, refl, sym, ap, subst, ◌∙◌, append_assoc, arith, inl, inr, take_all}
use Rattle.std.specs.Prelude.{min, ◌==◌, ◌&&◌, bytes_eq, codes, if◌then◌else◌}
use Rattle.std.proofs.lemmas.Bool.{cases_lt, lt-ltb}
use Rattle.std.proofs.lemmas.List.{take-take, length-take, take_min, take-append-le}
use Rattle.std.proofs.Math.Seq.{take-append-add}
use Rattle.script_lines.specs.Front.{longest_text, SameFront}
use Rattle.dice_base.specs.Forms.{Form}
use Rattle.dice_base.specs.Tokens.{Toks}
use Rattle.pascal_scanner.specs.Unread.{Reports}
use Rattle.pascal_scanner.specs.declared.fault.ScanFault.{ScanFault}
use Rattle.token_reader.specs.Answers.{Says}
use Rattle.pascal_tree.specs.declared.levels.TheConstants.{LEVELS}
use Rattle.pascal_tree.specs.Naming.{numbered_program}
use Rattle.pascal_tree.specs.Programs.{program_at}
use Rattle.pdp11_machine.specs.State.{MachineState}
use Rattle.dice_command.specs.declared.command.CommandFault.{CommandFault}
use Rattle.dice_command.specs.declared.command.CommandFault.TheVariants.{LineTooLong, NotACommand, BadNumber, Scan, Parse}
use Rattle.dice_command.specs.declared.command.Command.{Command}
use Rattle.dice_command.specs.declared.command.Command.TheVariants as command
use Rattle.dice_command.specs.Words.{is_text_byte, every, is_empty, word_of, after_word}
use Rattle.dice_command.specs.Keyword.{keyword_of}
use Rattle.dice_command.specs.Line.{Asked, Blank, Load, Listing, Replace, Apply, Run, Quit, Unbuilt, Bad, asked_of, with_arguments}
use Rattle.dice_command.specs.Reading.{IsUnscanned, IsScanned, TextSays}
use Rattle.dice_command.specs.Command.{IsAskedFor, IsCommandOf, is_load, is_quit, takes_text, asks_to_quit, ends_script, command_with}
use Rattle.dice_session.specs.declared.session.Session.{Session}
use Rattle.dice_session.specs.World.{World}
use Rattle.dice_session.specs.SessionOf.{IsSessionOf}
use Rattle.dice_program.specs.declared.serve.Fault.{Fault}
use Rattle.dice_program.specs.Entries.{Position, Between, Inside, Behind, end_line, command_entries, command_position, line_entries, line_position, position_after}
use Rattle.dice_program.specs.Kept.{kept_text, HasFront, HasText, IsReadAs}
use Rattle.dice_program.specs.Turns.{Answers, AnsweredAll, AnswersAll, LeavesAt, IsQuit, Around, ActsOn}
use Rattle.dice_program.proofs.Turns.{one-answered, none-answered, one-fault}

-- ---- fronts

pub front-added : (text bytes : List ℕ) (len count : ℕ) → len ≡ length text → count ≡ min (length bytes) (kept_text - len) → length text ≤ kept_text
    → text ++ take count bytes ≡ take kept_text (text ++ bytes)
front-added text bytes len count is fits short =
    let room = kept_text - length text in
    let least : count ≡ min room (length bytes) = omega (arith, is, fits) in
    let all : length text + room ≡ kept_text = omega (arith, short) in
    ap (λ n. text ++ take n bytes) least ∙ ap (λ xs. text ++ xs) (take_min room bytes) ∙ sym (take-append-add text bytes room)
    ∙ ap (λ n. take n (text ++ bytes)) all

-- a front of a front and more is the front of the whole and more
pub cut-append : (n : ℕ) (xs ys : List ℕ) → take n (take n xs ++ ys) ≡ take n (xs ++ ys)
cut-append n xs ys = elim (cases_lt n (length xs)) [
  | inr short ↦ ap (λ zs. take n (zs ++ ys)) (take_all n xs short)
  | inl long ↦ take-append-le n (take n xs) ys (omega (arith, length-take n xs, long)) ∙ take-take n n xs (omega arith) ∙ sym (take-append-le n xs ys (omega (arith, long)))
]

-- what is added counts only as far as there is room
append-cut : (n : ℕ) (xs ys zs : List ℕ) → take n ys ≡ take n zs → take n (xs ++ ys) ≡ take n (xs ++ zs)
append-cut n xs ys zs same = elim (cases_lt n (length xs)) [
  | inl long ↦ take-append-le n xs ys (omega (arith, long)) ∙ sym (take-append-le n xs zs (omega (arith, long)))
  | inr short ↦
      let m = n - length xs in
      let e : n ≡ length xs + m = omega (arith, short) in
      let less : take m ys ≡ take m zs = sym (take-take m n ys (omega arith)) ∙ ap (take m) same ∙ take-take m n zs (omega arith) in
      ap (λ k. take k (xs ++ ys)) e ∙ take-append-add xs ys m ∙ ap (λ t. xs ++ t) less ∙ sym (take-append-add xs zs m) ∙ ap (λ k. take k (xs ++ zs)) (sym e)
]

-- a line more of a text, of both of which a front is kept
pub longer-kept : (kept text line l : List ℕ) → kept ≡ take kept_text text → SameFront l line
    → take kept_text (take kept_text (kept ++ line) ++ 10 ∷ []) ≡ take kept_text (text ++ (l ++ 10 ∷ []))
longer-kept kept text line l is same =
    cut-append kept_text (kept ++ line) (10 ∷ []) ∙ ap (λ t. take kept_text ((t ++ line) ++ 10 ∷ [])) is ∙ ap (take kept_text) (append_assoc (take kept_text text) line (10 ∷ []))
    ∙ cut-append kept_text text (line ++ 10 ∷ [])
    ∙ append-cut kept_text text (line ++ 10 ∷ []) (l ++ 10 ∷ []) (sym (cut-append kept_text line (10 ∷ [])) ∙ ap (λ t. take kept_text (t ++ 10 ∷ [])) (sym same) ∙ cut-append kept_text l (10 ∷ []))

-- lines that begin alike are the same, or both are longer than a text may be
same-line : (l line : List ℕ) → SameFront l line → (l ≡ line) ⊎ ((longest_text < length l) × (longest_text < length line))
same-line l line same = elim (cases_lt longest_text (length line)) [
  | inr short ↦
      let e : take kept_text l ≡ line = same ∙ take_all kept_text line (omega (arith, short)) in
      let less : length l ≤ kept_text = omega (arith, ap length e, length-take kept_text l, short) in
      inl (sym (take_all kept_text l less) ∙ e)
  | inl long ↦ inr (omega (arith, ap length same, length-take kept_text l, length-take kept_text line, long), long)
]

same-text : (text kept : List ℕ) → kept ≡ take kept_text text → length kept ≤ longest_text → text ≡ kept
same-text text kept is short = sym (is ∙ take_all kept_text text (omega (arith, ap length is, length-take kept_text text, short)))

longer-text : (text kept : List ℕ) → kept ≡ take kept_text text → longest_text < length kept → longest_text < length text
longer-text text kept is long = omega (arith, ap length is, length-take kept_text text, long)

-- what a text is hangs on its front alone
unscanned-whole : (text kept : List ℕ) (fault : ScanFault) → kept ≡ take kept_text text → IsUnscanned kept fault → IsUnscanned text fault
unscanned-whole text kept fault is h = elim (cases_lt longest_text (length kept)) [
  | inl long ↦ let e = h.first long in record {
    first = λ _. e;
    reported = subst (λ f. Reports f text) (sym e) (longer-text text kept is long);
  }
  | inr short ↦ subst (λ t. IsUnscanned t fault) (sym (same-text text kept is short)) h
]

scanned-whole : (text kept : List ℕ) (P : Toks → Type 0) → kept ≡ take kept_text text → IsScanned kept P → IsScanned text P
scanned-whole text kept P is h = subst (λ t. IsScanned t P) (sym (same-text text kept is h.short)) h

same-says : {A B : Type 0} (g : ℕ → Form A) (n : ℕ) (make : A → B) (text kept : List ℕ) (r : Result B CommandFault) → kept ≡ take kept_text text → TextSays g n make kept r → TextSays g n make text r
same-says g n make text kept (Err (Scan fault)) is h = unscanned-whole text kept fault is h
same-says g n make text kept (Err (Parse fault)) is h = scanned-whole text kept (λ tokens. Says g n make tokens (Err fault)) is h
same-says g n make text kept (Err LineTooLong) is h = absurd h
same-says g n make text kept (Err NotACommand) is h = absurd h
same-says g n make text kept (Err BadNumber) is h = absurd h
same-says g n make text kept (Ok b) is h = scanned-whole text kept (λ tokens. Says g n make tokens (Ok b)) is h

-- ---- command lines

abbrev by_words : List ℕ → Asked
by_words line =
    if is_empty (word_of line) then Blank
    else if every is_text_byte line then with_arguments (keyword_of (word_of line)) (after_word line)
    else Bad NotACommand

-- a long line asks for one and the same
long-line : (l : List ℕ) → longest_text < length l → asked_of l ≡ Bad LineTooLong
long-line l long = ap (λ t. if t then Bad LineTooLong else by_words l) (lt-ltb 4096 (length l) (omega (arith, long)))

same-asked : (l line : List ℕ) → SameFront l line → asked_of line ≡ asked_of l
same-asked l line same = elim (same-line l line same) [
  | inl e ↦ ap asked_of (sym e)
  | inr long ↦ long-line line long.1 ∙ sym (long-line l long.0)
]

pub same-takes : (l line : List ℕ) → SameFront l line → takes_text line ≡ takes_text l
same-takes l line same = ap is_load (same-asked l line same)

pub line-read : (l line : List ℕ) → SameFront l line → IsReadAs (record { line = l; text = [] }) line []
line-read l line same = λ c reads. subst (λ a. IsAskedFor a [] c) (same-asked l line same) reads

-- `.` is the same line, whole or cut
not-end : (l : List ℕ) → longest_text < length l → bytes_eq l end_line ≡ false
not-end [] long = absurd (omega (arith, long))
not-end (a ∷ []) long = absurd (omega (arith, long))
not-end (a ∷ b ∷ l) long = and-false (a == 46)
  where
    and-false : (x : Bool) → (x && false) ≡ false
    and-false true = refl
    and-false false = refl

pub same-end : (l line : List ℕ) (b : Bool) → SameFront l line → bytes_eq line end_line ≡ b → bytes_eq l end_line ≡ b
same-end l line b same is = elim (same-line l line same) [
  | inl e ↦ ap (λ x. bytes_eq x end_line) e ∙ is
  | inr long ↦ not-end l long.0 ∙ sym (not-end line long.1) ∙ is
]

-- ---- the command of a text

load-is : (a : Asked) → is_load a ≡ true → a ≡ Load
load-is Blank e = absurd cc
load-is Load e = refl
load-is Listing e = absurd cc
load-is (Replace n t) e = absurd cc
load-is Apply e = absurd cc
load-is (Run k) e = absurd cc
load-is Quit e = absurd cc
load-is Unbuilt e = absurd cc
load-is (Bad f) e = absurd cc

load-line : asked_of (codes "load") ≡ Load
unfolding keyword_of
load-line = refl

some-is : (a b : List ℕ) → Some a ≡ Some b → a ≡ b
some-is a b e = cc e

pub text-read : (begin whole kept : List ℕ) → HasFront begin whole (Some kept) → IsReadAs (record { line = begin; text = whole }) (codes "load") kept
text-read begin whole kept h = λ c reads.
    let loads = subst (λ a. IsAskedFor a kept c) load-line reads in
    subst (λ a. IsAskedFor a whole c) (sym (load-is (asked_of begin) h.takes))
    (loads.0, same-says program_at (LEVELS - 1) numbered_program whole kept loads.0 (some-is kept (take kept_text whole) h.front) loads.1, loads.2)

-- ---- `quit`

quit-load : {A : Type 0} (f : A → Command) (r : Result A CommandFault) → ((a : A) → is_quit (f a) ≡ false) → is_quit (command_with f r) ≡ false
quit-load f (Ok a) h = h a
quit-load f (Err fault) h = refl

quit-by : (a : Asked) (text : List ℕ) (c : Command) → IsAskedFor a text c → is_quit c ≡ asks_to_quit a
quit-by Blank text c is = ap is_quit is
quit-by Load text c is = ap is_quit is.2 ∙ quit-load (λ p. command.Load p) is.0 (λ p. refl)
quit-by Listing text c is = ap is_quit is
quit-by (Replace n t) text c is = ap is_quit is.2 ∙ quit-load (λ s. command.Replace (record { 0 = n }) s) is.0 (λ s. refl)
quit-by Apply text c is = ap is_quit is
quit-by (Run k) text c is = ap is_quit is
quit-by Quit text c is = ap is_quit is
quit-by Unbuilt text c is = ap is_quit is
quit-by (Bad f) text c is = ap is_quit is

pub quit-ends : (line text : List ℕ) (c : Command) → IsCommandOf line text c → is_quit c ≡ ends_script line
quit-ends line text c is = quit-by (asked_of line) text c is

load-quits : (line : List ℕ) → takes_text line ≡ true → ends_script line ≡ false
load-quits line e = ap asks_to_quit (load-is (asked_of line) e)

-- ---- what a line leaves

at-quit : (quit ends : Bool) → quit ≡ ends → HasText (if ends then Behind else Between) None × IsQuit quit (if ends then Behind else Between)
at-quit true true e = (refl, refl)
at-quit false false e = (refl, λ x. absurd cc)
at-quit true false e = absurd cc
at-quit false true e = absurd cc

-- a command line that takes no text
pub command-leaves : (r : Result Bool Fault) (w : World) (l : List ℕ) (text : Option (List ℕ)) (s : Session) (m : MachineState) (h k : Option (List ℕ)) → text ≡ None → takes_text l ≡ false
    → Answers r w (record { line = l; text = [] }) s m h k → AnswersAll r w (command_entries l) s m h k × LeavesAt r (command_position l) text
command-leaves r w l text s m h k closed none a =
    let entries : command_entries l ≡ record { line = l; text = [] } ∷ [] = ap (λ b. if b then [] else (record { line = l; text = [] } ∷ [])) none in
    let at : command_position l ≡ (if ends_script l then Behind else Between) = ap (λ b. if b then Inside l [] else if ends_script l then Behind else Between) none in
    subst (λ t. AnswersAll r w (command_entries l) s m h k × LeavesAt r (command_position l) t) (sym closed) (go r entries at a)
  where
    go : (r : Result Bool Fault) → command_entries l ≡ record { line = l; text = [] } ∷ [] → command_position l ≡ (if ends_script l then Behind else Between)
        → Answers r w (record { line = l; text = [] }) s m h k → AnswersAll r w (command_entries l) s m h k × LeavesAt r (command_position l) None
    go (Ok quit) entries at a = (one-answered w (command_entries l) (record { line = l; text = [] }) s m h k entries a.0, subst (λ p. HasText p None × IsQuit quit p) (sym at) (at-quit quit (ends_script l) a.1))
    go (Err f) entries at a = (one-fault Bool f w (record { line = l; text = [] }) (command_entries l) s m h k entries a, tt)

-- one that takes a text
pub load-leaves : (w : World) (l kept : List ℕ) (s : Session) (m : MachineState) (h : Option (List ℕ)) → kept ≡ [] → takes_text l ≡ true → IsSessionOf w s m
    → AnsweredAll w (command_entries l) s m h h × (HasText (command_position l) (Some kept) × IsQuit false (command_position l))
load-leaves w l kept s m h empty takes lives =
    let entries : command_entries l ≡ [] = ap (λ b. if b then [] else (record { line = l; text = [] } ∷ [])) takes in
    let at : command_position l ≡ Inside l [] = ap (λ b. if b then Inside l [] else if ends_script l then Behind else Between) takes in
    (none-answered w (command_entries l) s m h entries lives, subst (λ p. HasText p (Some kept) × IsQuit false p) (sym at) (record { takes = takes; front = ap Some empty }, λ x. absurd cc))

-- the line that ends a text
pub end-leaves : (r : Result Bool Fault) (w : World) (begin whole l : List ℕ) (text : Option (List ℕ)) (s : Session) (m : MachineState) (h k : Option (List ℕ)) → text ≡ None → takes_text begin ≡ true → bytes_eq l end_line ≡ true
    → Answers r w (record { line = begin; text = whole }) s m h k → AnswersAll r w (line_entries (Inside begin whole) l) s m h k × LeavesAt r (line_position (Inside begin whole) l) text
end-leaves r w begin whole l text s m h k closed takes ends a =
    let entries : line_entries (Inside begin whole) l ≡ record { line = begin; text = whole } ∷ [] = ap (λ b. if b then (record { line = begin; text = whole } ∷ []) else []) ends in
    let at : line_position (Inside begin whole) l ≡ Between = ap (λ b. if b then Between else Inside begin (whole ++ (l ++ 10 ∷ []))) ends in
    subst (λ t. AnswersAll r w (line_entries (Inside begin whole) l) s m h k × LeavesAt r (line_position (Inside begin whole) l) t) (sym closed) (go r entries at a)
  where
    go : (r : Result Bool Fault) → line_entries (Inside begin whole) l ≡ record { line = begin; text = whole } ∷ [] → line_position (Inside begin whole) l ≡ Between
        → Answers r w (record { line = begin; text = whole }) s m h k → AnswersAll r w (line_entries (Inside begin whole) l) s m h k × LeavesAt r (line_position (Inside begin whole) l) None
    go (Ok quit) entries at a = (
      one-answered w (line_entries (Inside begin whole) l) (record { line = begin; text = whole }) s m h k entries a.0,
      subst (λ p. HasText p None × IsQuit quit p) (sym at) (at-quit quit false (a.1 ∙ load-quits begin takes)),
    )
    go (Err f) entries at a = (one-fault Bool f w (record { line = begin; text = whole }) (line_entries (Inside begin whole) l) s m h k entries a, tt)

-- one more line of a text
pub more-leaves : (w : World) (begin whole l given kept longer : List ℕ) (s : Session) (m : MachineState) (h : Option (List ℕ)) → HasFront begin whole (Some kept) → bytes_eq l end_line ≡ false → SameFront l given
    → longer ≡ take kept_text (take kept_text (kept ++ given) ++ 10 ∷ []) → IsSessionOf w s m
    → AnsweredAll w (line_entries (Inside begin whole) l) s m h h × (HasText (line_position (Inside begin whole) l) (Some longer) × IsQuit false (line_position (Inside begin whole) l))
more-leaves w begin whole l given kept longer s m h front ends same is lives =
    let entries : line_entries (Inside begin whole) l ≡ [] = ap (λ b. if b then (record { line = begin; text = whole } ∷ []) else []) ends in
    let at : line_position (Inside begin whole) l ≡ Inside begin (whole ++ (l ++ 10 ∷ [])) = ap (λ b. if b then Between else Inside begin (whole ++ (l ++ 10 ∷ []))) ends in
    let e : kept ≡ take kept_text whole = some-is kept (take kept_text whole) front.front in (
      none-answered w (line_entries (Inside begin whole) l) s m h entries lives,
      subst (λ p. HasText p (Some longer) × IsQuit false p) (sym at) (record { takes = front.takes; front = ap Some (is ∙ longer-kept kept whole given l e same) }, λ x. absurd cc),
    )

-- a front is short enough for one more line
pub front-short : (begin whole kept : List ℕ) → HasFront begin whole (Some kept) → length kept ≤ kept_text
front-short begin whole kept h = omega (arith, ap length (some-is kept (take kept_text whole) h.front), length-take kept_text whole)

-- a text is open
pub record IsInside (at : Position) (kept : List ℕ) : Type 0 where
  pub line : List ℕ
  pub text : List ℕ
  pub is : at ≡ Inside line text
  pub front : HasFront line text (Some kept)

pub open-inside : (at : Position) (kept : List ℕ) → HasText at (Some kept) → IsInside at kept
open-inside Between kept h = absurd cc
open-inside (Inside line text) kept h = record { line = line; text = text; is = refl; front = h }
open-inside Behind kept h = absurd cc

pub closed-between : (at : Position) → HasText at None → (at ≡ Behind → ⊥) → at ≡ Between
closed-between Between h going = refl
closed-between (Inside begin whole) h going = absurd (none-some (take kept_text whole) h.front)
  where
    none-some : (x : List ℕ) → None ≡ Some x → ⊥
    none-some x e = absurd cc
closed-between Behind h going = absurd (going refl)

-- the same at the place where the script is
pub at-place : (r : Result Bool Fault) (w : World) (at there : Position) (l : List ℕ) (text : Option (List ℕ)) (s : Session) (m : MachineState) (h k : Option (List ℕ)) → at ≡ there
    → AnswersAll r w (line_entries there l) s m h k × LeavesAt r (line_position there l) text → AnswersAll r w (line_entries at l) s m h k × LeavesAt r (line_position at l) text
at-place r w at there l text s m h k is a = subst (λ p. AnswersAll r w (line_entries p l) s m h k × LeavesAt r (line_position p l) text) (sym is) a

pub first-of : {A B : Type 0} → A × B → A
first-of p = p.0

pub second-of : {A B : Type 0} → A × B → B
second-of p = p.1

-- a line was acted on
pub acts-on : (a : Around) (l : List ℕ) (quit b : Bool) → quit ≡ b → AnsweredAll a.world (line_entries a.at l) a.session a.machine a.held a.held_then → LeavesAt (Ok quit) (line_position a.at l) a.text → ActsOn l b a
acts-on a l quit b is p q = record { answered = p; text = q.0; ended = subst (λ x. IsQuit x (line_position a.at l)) is q.1 }

-- a last line was
pub last-text : (quit : Bool) (at : Position) (l : List ℕ) (ls : List (List ℕ)) (text : Option (List ℕ)) → l ∷ [] ≡ ls → LeavesAt (Ok quit) (line_position at l) text → HasText (position_after at ls) text
last-text quit at l ls text some q = subst (λ xs. HasText (position_after at xs) text) some q.0
