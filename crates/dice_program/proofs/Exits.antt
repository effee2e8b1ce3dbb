-- The ways that a run ends.
use Rattle.std.proofs.Common.{◌≡◌, ◌<◌, ◌≤◌, ℕ, ◌+◌, ◌-◌, List, [], ◌∷◌, ◌++◌, Err, length, length-append, map, refl, sym, ap, subst, ◌∙◌, append_assoc, append-nil, arith, inl, inr}
use Rattle.std.proofs.lemmas.List.{length-map}
use Rattle.std.specs.declared.option.Option.{Option}
use Rattle.std.specs.Io.KnownBytes.{Keeps, Appends, Consumes, IsAtEnd}
use Rattle.dice_base.specs.Known.{Consumes-nil, Consumes-trans, Appends-nil, Appends-trans, Appends-kept}
use Rattle.dice_base.specs.Lines.{NoFeed, NoFeeds, joined, some_line}
use Rattle.script_lines.specs.Front.{strip}
use Rattle.script_lines.specs.Took.{LineRead, WholeLine, LastLine, PastRoom, Broken}
use Rattle.pdp11_machine.specs.State.{MachineState}
use Rattle.dice_command.specs.declared.command.Command.{Command}
use Rattle.dice_session.specs.declared.session.Session.{Session}
use Rattle.dice_session.specs.World.{World, empty_world, world_after, transcript_of, last_world}
use Rattle.dice_session.specs.SessionOf.{IsSessionOf}
use Rattle.dice_session.specs.Simulates.{Simulates}
use Rattle.dice_program.specs.declared.serve.Fault.{Fault}
use Rattle.dice_program.specs.declared.serve.Fault.TheVariants.{ReadFault, WriteFault, NoMemory}
use Rattle.dice_program.specs.Entries.{Behind, line_entries, line_position, entries_from, position_after, whole_entries, position_of, open_entries, script_entries, AreCommandsOf}
use Rattle.dice_program.specs.Kept.{HasText}
use Rattle.dice_program.specs.Script.{ended_lines, lines_in, acted_within, acted, IsTooLong}
use Rattle.dice_program.specs.declared.limits.TheConstants.{MAX_BYTES, MAX_LINES}
use Rattle.dice_program.specs.Taking.{ScriptPart, TakesAll, Begins}
use Rattle.dice_program.specs.Turns.{AnsweredAll, CutIn, AnswersAll, Unanswered, IsMore}
use Rattle.dice_program.specs.Top.{IsDone, IsTooMany, IsBroken, IsCut, IsShort, Serves}
use Rattle.dice_program.proofs.Pieces.{ended-joined, ended-plain, ended-all, last-all, lines-joined, lines-plain, acted-last, acted-past, acted-none, whole-more, last-more, few-plain, few-whole, few-past}
use Rattle.dice_program.proofs.Commands.{after-append, replies-append, commands-append, commands-one, after-push, entries-append, position-append, quit-entries}
use Rattle.dice_program.proofs.Serving.{Serving, longer-lines, lines-push, whole-push, at-push, so_far, known-end, part_of, takes-lines}

-- the script begins with the lines that were read, and so with their commands
begins : (lines : List (List ℕ)) (commands : List Command) (rest : List ℕ) (room more : ℕ) → NoFeeds lines → MAX_BYTES ≡ length (joined lines) + room
    → MAX_LINES - 1 ≡ length lines + more → AreCommandsOf (whole_entries (map strip lines)) commands → Begins (joined lines ++ rest) commands
begins lines commands rest room more plain space count read = record {
  lines = map strip lines;
  rest = acted_within more room rest;
  parts = so_far lines rest room more plain space count;
  read = inl read;
}

-- memory was refused, and no more than one line was taken behind those that are answered
pub short : (session : Session) (machine : MachineState) (text : Option (List ℕ)) (turns room : ℕ) (left mid now held held_mid held_now : Option (List ℕ)) (i i' o o' : ℕ)
    → (s : Serving session machine text turns room left mid held held_mid) → turns ≤ MAX_LINES - 1
    → (x : List ℕ) → Consumes mid now x → length (lines_in x) ≤ 1 → Keeps held_mid held_now
    → IsShort (record { left = left; left_then = now; faults = i; faults_then = i' }) (record { held = held; held_then = held_now; faults = o; faults_then = o' })
short session machine text turns room left mid now held held_mid held_now i i' o o' s few x took one kept =
    let part = part_of left now (joined s.lines ++ x) (Consumes-trans left mid now _ _ s.took took) in
    let more = MAX_LINES - 1 - turns in
    record {
      part = part;
      commands = s.commands;
      lines = map strip s.lines;
      rest = acted_within more room (x ++ part.rest);
      parts = ap acted (append_assoc (joined s.lines) x part.rest) ∙ so_far s.lines (x ++ part.rest) room more s.plain s.space (omega (arith, s.count, few));
      read = s.read;
      wrote = Appends-kept held held_mid held_now _ s.wrote kept;
      more = lines_in x;
      taken = lines-joined s.lines x s.plain;
      one = one;
    }

-- nothing was read
pub short-start : (left held : Option (List ℕ)) (i i' o o' : ℕ)
    → IsShort (record { left = left; left_then = left; faults = i; faults_then = i' }) (record { held = held; held_then = held; faults = o; faults_then = o' })
short-start left held i i' o o' =
    let part = part_of left left [] (Consumes-nil left) in
    record {
      part = part;
      commands = [];
      lines = [];
      rest = acted part.script;
      parts = refl;
      read = tt;
      wrote = Appends-nil held;
      more = [];
      taken = lines-plain [] tt;
      one = omega arith;
    }

-- `quit` was read
pub done-quit : (session session_now : Session) (machine machine_now : MachineState) (text : Option (List ℕ)) (turns : ℕ) (left held held_mid held_now : Option (List ℕ)) (n : LineRead) (i i' o o' : ℕ)
    → (s : Serving session machine text turns n.room left n.left held held_mid) → (r : WholeLine n)
    → (t : AnsweredAll (world_after empty_world s.commands) (line_entries (position_of (map strip s.lines)) (strip r.line)) session_now machine_now held_mid held_now)
    → line_position (position_of (map strip s.lines)) (strip r.line) ≡ Behind → turns + 1 ≤ MAX_LINES - 1
    → (stands : (w : World) → IsSessionOf w session_now machine_now → Simulates w machine_now)
    → IsDone (record { left = left; left_then = n.left_then; faults = i; faults_then = i' }) (record { held = held; held_then = held_now; faults = o; faults_then = o' }) machine_now
done-quit session session_now machine machine_now text turns left held held_mid held_now n i i' o o' s r t over few stands =
    let cs = s.commands ++ t.commands in
    let ls = s.lines ++ r.line ∷ [] in
    let longer = longer-lines session machine text turns left held held_mid n s r in
    let more = MAX_LINES - 1 - (turns + 1) in
    let part = part_of left n.left_then (joined ls) longer.took in
    let rest = acted_within more n.room_then part.rest in
    let then : position_of (map strip ls) ≡ Behind = at-push s.lines r.line ∙ over in
    let acts : acted (joined ls ++ part.rest) ≡ map strip ls ++ rest =
    so_far ls part.rest n.room_then more longer.plain longer.space (omega (arith, length-append s.lines (r.line ∷ []), s.count, few)) in
    let all : script_entries (acted (joined ls ++ part.rest)) ≡ whole_entries (map strip s.lines) ++ line_entries (position_of (map strip s.lines)) (strip r.line) =
    ap script_entries acts ∙ quit-entries (map strip ls) rest then ∙ whole-push s.lines r.line in
    record {
      part = part;
      commands = cs;
      read = subst (λ es. AreCommandsOf es cs) (sym all) (commands-append _ _ s.commands t.commands s.read t.reads);
      wrote = subst (Appends held held_now) (sym (replies-append empty_world s.commands t.commands)) (Appends-trans held held_mid held_now _ _ s.wrote t.wrote);
      stands = subst (λ w. Simulates w machine_now) (sym (after-append empty_world s.commands t.commands)) (stands _ t.lives);
      ended = inl (record {
        before = map strip s.lines;
        quit = strip r.line;
        lines = ended-all ls longer.plain ∙ lines-push s.lines r.line;
        exact = last-all ls longer.plain;
        going = s.going;
        over = sym (ap position_of (lines-push s.lines r.line)) ∙ then;
      });
    }

-- the whole script was read and obeyed, but for a text that is still open
pub record AtClose
    (session : Session) (machine : MachineState) (text left left_now held held_now : Option (List ℕ)) : Type 0 where
  pub part : ScriptPart left left_now
  pub whole : TakesAll part
  pub commands : List Command
  pub read : AreCommandsOf (whole_entries (acted part.script)) commands
  pub open_text : HasText (position_of (acted part.script)) text
  pub all : lines_in part.taken ≡ acted part.script ++ []
  pub wrote : Appends held held_now (transcript_of commands)
  pub lives : IsSessionOf (last_world commands) session machine

last-short : (lines : List (List ℕ)) (line : List ℕ) (room more : ℕ) → NoFeeds lines → MAX_BYTES ≡ length (joined lines) + room
    → MAX_LINES - 1 ≡ length lines + more → NoFeed line → length line ≤ room → length (some_line line) ≤ more
    → IsTooLong (joined lines ++ line) → ⊥
last-short lines line room more plain space count end fits few long = elim long [
  | inl big ↦ omega (arith, big, length-append (joined lines) line, space, fits)
  | inr many ↦ omega (
    arith,
    many,
    ap length (lines-joined lines line plain ∙ ap (λ xs. map strip lines ++ xs) (lines-plain line end)),
    length-append (map strip lines) (some_line line),
    length-map lines strip,
    count,
    few,
  )
]

last-acted : (lines : List (List ℕ)) (line : List ℕ) (room more : ℕ) → NoFeeds lines → MAX_BYTES ≡ length (joined lines) + room
    → MAX_LINES - 1 ≡ length lines + more → NoFeed line → length line ≤ room → length (some_line line) ≤ more
    → acted (joined lines ++ line) ≡ map strip lines ++ some_line line
last-acted lines line room more plain space count end fits few =
    so_far lines line room more plain space count ∙ ap (λ xs. map strip lines ++ xs) (acted-last line more room end fits few)

-- the script, taken to its end
abbrev pub whole_part : (left left_now : Option (List ℕ)) (script : List ℕ) → (took : Consumes left left_now script) → IsAtEnd left_now → ScriptPart left left_now
whole_part left left_now script took ended = record {
  script = script;
  taken = script;
  rest = [];
  parts = sym (append-nil script);
  is = known-end left left_now script took ended;
  took = took;
}

pub at-close : (session session_now : Session) (machine machine_now : MachineState) (text text_now : Option (List ℕ)) (turns : ℕ) (left held held_mid held_now : Option (List ℕ)) (n : LineRead)
    → (s : Serving session machine text turns n.room left n.left held held_mid) → (r : LastLine n) → turns + length (some_line r.line) ≤ MAX_LINES - 1
    → AnsweredAll (world_after empty_world s.commands) (entries_from (position_of (map strip s.lines)) (some_line r.line)) session_now machine_now held_mid held_now
    → HasText (position_after (position_of (map strip s.lines)) (some_line r.line)) text_now
    → AtClose session_now machine_now text_now left n.left_then held held_now
at-close session session_now machine machine_now text text_now turns left held held_mid held_now n s r few a kept =
    let cs = s.commands ++ a.commands in
    let ls = map strip s.lines in
    let more = MAX_LINES - 1 - turns in
    let count : MAX_LINES - 1 ≡ length s.lines + more = omega (arith, s.count, few) in
    let fits : length r.line ≤ n.room = omega (arith, r.space) in
    let less : length (some_line r.line) ≤ more = omega (arith, few) in
    let acts : acted (joined s.lines ++ r.line) ≡ ls ++ some_line r.line =
    last-acted s.lines r.line n.room more s.plain s.space count r.plain fits less in
    record {
      part = whole_part left n.left_then (joined s.lines ++ r.line) (Consumes-trans left n.left n.left_then _ _ s.took r.took) r.ended;
      whole = record { all = refl; ended = r.ended; fits = last-short s.lines r.line n.room more s.plain s.space count r.plain fits less };
      commands = cs;
      read = subst (λ es. AreCommandsOf es cs) (sym (ap whole_entries acts ∙ entries-append _ ls (some_line r.line))) (commands-append _ _ s.commands a.commands s.read a.reads);
      open_text = subst (λ p. HasText p text_now) (sym (ap position_of acts ∙ position-append _ ls (some_line r.line))) kept;
      all = lines-joined s.lines r.line s.plain ∙ ap (λ xs. ls ++ xs) (lines-plain r.line r.plain) ∙ sym acts ∙ sym (append-nil _);
      wrote = subst (Appends held held_now) (sym (replies-append empty_world s.commands a.commands)) (Appends-trans held held_mid held_now _ _ s.wrote a.wrote);
      lives = subst (λ w. IsSessionOf w session_now machine_now) (sym (after-append empty_world s.commands a.commands)) a.lives;
    }

-- the text that was open is ended
pub closed-done : (session session_now : Session) (machine machine_now : MachineState) (text left now held held_mid held_now : Option (List ℕ)) (i i' o o' : ℕ)
    → (e : AtClose session machine text left now held held_mid) → AnsweredAll (last_world e.commands) (open_entries (position_of (acted e.part.script))) session_now machine_now held_mid held_now
    → (stands : (w : World) → IsSessionOf w session_now machine_now → Simulates w machine_now)
    → IsDone (record { left = left; left_then = now; faults = i; faults_then = i' }) (record { held = held; held_then = held_now; faults = o; faults_then = o' }) machine_now
closed-done session session_now machine machine_now text left now held held_mid held_now i i' o o' e a stands = record {
  part = e.part;
  commands = e.commands ++ a.commands;
  read = commands-append _ _ e.commands a.commands e.read a.reads;
  wrote = subst (Appends held held_now) (sym (replies-append empty_world e.commands a.commands)) (Appends-trans held held_mid held_now _ _ e.wrote a.wrote);
  stands = subst (λ w. Simulates w machine_now) (sym (after-append empty_world e.commands a.commands)) (stands _ a.lives);
  ended = inr e.whole;
}

pub closed-fails : (fault : Fault) (session session_now : Session) (machine machine_now : MachineState) (text left now held held_mid held_now : Option (List ℕ)) (i i' o o' : ℕ)
    → (e : AtClose session machine text left now held held_mid) → AnswersAll {A = Unit {0}} (Err fault) (last_world e.commands) (open_entries (position_of (acted e.part.script))) session_now machine_now held_mid held_now
    → (stands : (w : World) → IsSessionOf w session_now machine_now → Simulates w machine_now)
    → Serves (Err fault) (record { left = left; left_then = now; faults = i; faults_then = i' }) (record { held = held; held_then = held_now; faults = o; faults_then = o' }) machine_now
closed-fails ReadFault session session_now machine machine_now text left now held held_mid held_now i i' o o' e a stands = absurd a
closed-fails WriteFault session session_now machine machine_now text left now held held_mid held_now i i' o o' e a stands =
    let cut = a.cut in
    record {
      part = e.part;
      commands = e.commands;
      last = cut.command;
      begins = record {
        lines = acted e.part.script;
        rest = [];
        parts = sym (append-nil (acted e.part.script));
        read = inr (refl, e.whole.fits, commands-append _ _ e.commands (cut.command ∷ []) e.read (commands-one _ a.last cut.command a.is cut.reads));
      };
      wrote = (cut.wrote.0, cut.wrote.1, Appends-trans held held_mid held_now _ _ e.wrote cut.wrote.2);
      stands = subst (λ w. Simulates w machine_now) (sym (after-push empty_world e.commands cut.command)) (stands _ cut.lives);
      stopped = inr e.whole;
    }
closed-fails NoMemory session session_now machine machine_now text left now held held_mid held_now i i' o o' e a stands = record {
  part = e.part;
  commands = e.commands;
  lines = acted e.part.script;
  rest = [];
  parts = sym (append-nil (acted e.part.script));
  read = e.read;
  wrote = Appends-kept held held_mid held_now _ e.wrote a;
  more = [];
  taken = e.all;
  one = omega arith;
}

-- a line was not answered whole
pub cut-line : (session session_now : Session) (machine machine_now : MachineState) (text : Option (List ℕ)) (turns : ℕ) (left held held_mid held_now : Option (List ℕ)) (n : LineRead) (i i' o o' : ℕ)
    → (s : Serving session machine text turns n.room left n.left held held_mid) → (r : WholeLine n)
    → (t : CutIn (world_after empty_world s.commands) (line_entries (position_of (map strip s.lines)) (strip r.line)) session_now machine_now held_mid held_now)
    → turns + 1 ≤ MAX_LINES - 1 → (stands : (w : World) → IsSessionOf w session_now machine_now → Simulates w machine_now)
    → IsCut (record { left = left; left_then = n.left_then; faults = i; faults_then = i' }) (record { held = held; held_then = held_now; faults = o; faults_then = o' }) machine_now
cut-line session session_now machine machine_now text turns left held held_mid held_now n i i' o o' s r t few stands =
    let cut = t.cut in
    let cs = s.commands ++ cut.command ∷ [] in
    let ls = s.lines ++ r.line ∷ [] in
    let longer = longer-lines session machine text turns left held held_mid n s r in
    let part = part_of left n.left_then (joined ls) longer.took in
    let read : AreCommandsOf (whole_entries (map strip ls)) cs =
    subst (λ es. AreCommandsOf es cs) (sym (whole-push s.lines r.line)) (commands-append _ _ s.commands (cut.command ∷ []) s.read (commands-one _ t.last cut.command t.is cut.reads)) in
    record {
      part = part;
      commands = s.commands;
      last = cut.command;
      begins = begins ls cs part.rest n.room_then (MAX_LINES - 1 - (turns + 1)) longer.plain longer.space (omega (arith, length-append s.lines (r.line ∷ []), s.count, few)) read;
      wrote = (cut.wrote.0, cut.wrote.1, Appends-trans held held_mid held_now _ _ s.wrote cut.wrote.2);
      stands = subst (λ w. Simulates w machine_now) (sym (after-push empty_world s.commands cut.command)) (stands _ cut.lives);
      stopped = inl (takes-lines ls cs longer.plain read);
    }

pub cut-end : (session session_now : Session) (machine machine_now : MachineState) (text : Option (List ℕ)) (turns : ℕ) (left held held_mid held_now : Option (List ℕ)) (n : LineRead) (i i' o o' : ℕ)
    → (s : Serving session machine text turns n.room left n.left held held_mid) → (r : LastLine n)
    → (t : CutIn (world_after empty_world s.commands) (entries_from (position_of (map strip s.lines)) (some_line r.line)) session_now machine_now held_mid held_now)
    → turns + length (some_line r.line) ≤ MAX_LINES - 1 → (stands : (w : World) → IsSessionOf w session_now machine_now → Simulates w machine_now)
    → IsCut (record { left = left; left_then = n.left_then; faults = i; faults_then = i' }) (record { held = held; held_then = held_now; faults = o; faults_then = o' }) machine_now
cut-end session session_now machine machine_now text turns left held held_mid held_now n i i' o o' s r t few stands =
    let cut = t.cut in
    let ls = map strip s.lines in
    let more = MAX_LINES - 1 - turns in
    let script = joined s.lines ++ r.line in
    let count : MAX_LINES - 1 ≡ length s.lines + more = omega (arith, s.count, few) in
    let fits : length r.line ≤ n.room = omega (arith, r.space) in
    let less : length (some_line r.line) ≤ more = omega (arith, few) in
    let acts : acted script ≡ ls ++ some_line r.line =
    last-acted s.lines r.line n.room more s.plain s.space count r.plain fits less in
    record {
      part = whole_part left n.left_then script (Consumes-trans left n.left n.left_then _ _ s.took r.took) r.ended;
      commands = s.commands;
      last = cut.command;
      begins = record {
        lines = ls ++ some_line r.line;
        rest = [];
        parts = acts ∙ sym (append-nil (ls ++ some_line r.line));
        read = inl (subst (λ es. AreCommandsOf es (s.commands ++ cut.command ∷ [])) (sym (entries-append _ ls (some_line r.line))) (commands-append _ _ s.commands (cut.command ∷ []) s.read (commands-one _ t.last cut.command t.is cut.reads)));
      };
      wrote = (cut.wrote.0, cut.wrote.1, Appends-trans held held_mid held_now _ _ s.wrote cut.wrote.2);
      stands = subst (λ w. Simulates w machine_now) (sym (after-push empty_world s.commands cut.command)) (stands _ cut.lives);
      stopped = inr (record { all = refl; ended = r.ended; fits = last-short s.lines r.line n.room more s.plain s.space count r.plain fits less });
    }

pub broken : (session session_now : Session) (machine machine_now : MachineState) (text : Option (List ℕ)) (turns : ℕ) (left held held_mid held_now : Option (List ℕ)) (n : LineRead) (i i' o o' : ℕ)
    → (s : Serving session machine text turns n.room left n.left held held_mid) → Broken n → Unanswered (world_after empty_world s.commands) session_now machine_now held_mid held_now
    → (stands : (w : World) → IsSessionOf w session_now machine_now → Simulates w machine_now)
    → IsBroken (record { left = left; left_then = n.left_then; faults = i; faults_then = i' }) (record { held = held; held_then = held_now; faults = o; faults_then = o' }) machine_now
broken session session_now machine machine_now text turns left held held_mid held_now n i i' o o' s b u stands =
    let whole : ended_lines (joined s.lines ++ b.line) ≡ map strip s.lines =
    ended-joined s.lines b.line s.plain ∙ ap (λ x. map strip s.lines ++ x) (ended-plain b.line b.plain) ∙ append-nil (map strip s.lines) in
    record {
      taken = joined s.lines ++ b.line;
      took = Consumes-trans left n.left n.left_then _ _ s.took b.took;
      commands = s.commands;
      read = subst (λ ls. AreCommandsOf (whole_entries ls) s.commands) (sym whole) s.read;
      wrote = Appends-kept held held_mid held_now _ s.wrote u.kept;
      stands = stands _ u.lives;
    }

-- where nothing more is acted on: behind the lines that are answered, this was taken
stops : (session session_now : Session) (machine machine_now : MachineState) (text : Option (List ℕ)) (turns room : ℕ) (left mid now held held_mid held_now : Option (List ℕ)) (i i' o o' : ℕ)
    → (s : Serving session machine text turns room left mid held held_mid) → (x : List ℕ) → Consumes mid now x
    → ((rest : List ℕ) → acted (joined s.lines ++ (x ++ rest)) ≡ map strip s.lines)
    → Unanswered (world_after empty_world s.commands) session_now machine_now held_mid held_now
    → (stands : (w : World) → IsSessionOf w session_now machine_now → Simulates w machine_now)
    → IsTooLong (joined s.lines ++ x) → length (joined s.lines ++ x) ≤ MAX_BYTES + 1 → length (lines_in x) ≤ 1 → turns ≤ MAX_LINES - 1
    → IsTooMany (record { left = left; left_then = now; faults = i; faults_then = i' }) (record { held = held; held_then = held_now; faults = o; faults_then = o' }) machine_now
stops session session_now machine machine_now text turns room left mid now held held_mid held_now i i' o o' s x took acts u stands long bytes one few =
    let part = part_of left now (joined s.lines ++ x) (Consumes-trans left mid now _ _ s.took took) in
    let all : acted part.script ≡ map strip s.lines = ap acted (append_assoc (joined s.lines) x part.rest) ∙ acts part.rest in
    record {
      part = part;
      commands = s.commands;
      read = subst (λ ls. AreCommandsOf (whole_entries ls) s.commands) (sym all) s.read;
      wrote = Appends-kept held held_mid held_now _ s.wrote u.kept;
      stands = stands _ u.lives;
      long = record {
        long = long;
        bytes = bytes;
        lines = omega (arith, ap length (lines-joined s.lines x s.plain), length-append (map strip s.lines) (lines_in x), length-map s.lines strip, s.count, one, few);
      };
      going = λ over. s.going (sym (ap position_of all) ∙ over);
    }

pub too-far : (session session_now : Session) (machine machine_now : MachineState) (text : Option (List ℕ)) (turns : ℕ) (left held held_mid held_now : Option (List ℕ)) (n : LineRead) (i i' o o' : ℕ)
    → (s : Serving session machine text turns n.room left n.left held held_mid) → PastRoom n → turns ≤ MAX_LINES - 1 → Unanswered (world_after empty_world s.commands) session_now machine_now held_mid held_now
    → (stands : (w : World) → IsSessionOf w session_now machine_now → Simulates w machine_now)
    → IsTooMany (record { left = left; left_then = n.left_then; faults = i; faults_then = i' }) (record { held = held; held_then = held_now; faults = o; faults_then = o' }) machine_now
too-far session session_now machine machine_now text turns left held held_mid held_now n i i' o o' s p few u stands =
    let more = MAX_LINES - 1 - turns in
    let x = p.line ++ p.byte ∷ [] in
    let acts : (rest : List ℕ) → acted (joined s.lines ++ (x ++ rest)) ≡ map strip s.lines = λ rest.
    ap (λ y. acted (joined s.lines ++ y)) (append_assoc p.line (p.byte ∷ []) rest)
    ∙ so_far s.lines (p.line ++ p.byte ∷ rest) n.room more s.plain s.space (omega (arith, s.count, few))
    ∙ ap (λ k. map strip s.lines ++ acted_within more k (p.line ++ p.byte ∷ rest)) p.space
    ∙ ap (λ y. map strip s.lines ++ y) (acted-past p.line rest p.byte more p.plain) ∙ append-nil (map strip s.lines) in
    let size : length (joined s.lines ++ x) ≡ MAX_BYTES + 1 = omega (arith, length-append (joined s.lines) x, length-append p.line (p.byte ∷ []), s.space, p.space) in
    stops session session_now machine machine_now text turns n.room left n.left n.left_then held held_mid held_now i i' o o' s x p.took acts u stands
    (inl (omega (arith, size))) (omega (arith, size)) (few-past p.line p.byte p.plain) few

-- a line more than there may be
one-more : (lines : List (List ℕ)) (x : List ℕ) → NoFeeds lines → length lines ≡ MAX_LINES - 1 → 0 < length (lines_in x) → IsTooLong (joined lines ++ x)
one-more lines x plain count more =
    inr (omega (arith, ap length (lines-joined lines x plain), length-append (map strip lines) (lines_in x), length-map lines strip, count, more))

full : (lines : List (List ℕ)) (x : List ℕ) (room : ℕ) → NoFeeds lines → MAX_BYTES ≡ length (joined lines) + room → length lines ≡ MAX_LINES - 1
    → acted (joined lines ++ x) ≡ map strip lines
full lines x room plain space count =
    so_far lines x room 0 plain space (omega (arith, count)) ∙ ap (λ r. map strip lines ++ r) (acted-none x room) ∙ append-nil (map strip lines)

pub too-many : (session session_now : Session) (machine machine_now : MachineState) (text : Option (List ℕ)) (turns : ℕ) (left held held_mid held_now : Option (List ℕ)) (n : LineRead) (i i' o o' : ℕ)
    → (s : Serving session machine text turns n.room left n.left held held_mid) → IsMore n → turns ≡ MAX_LINES - 1 → Unanswered (world_after empty_world s.commands) session_now machine_now held_mid held_now
    → (stands : (w : World) → IsSessionOf w session_now machine_now → Simulates w machine_now)
    → IsTooMany (record { left = left; left_then = n.left_then; faults = i; faults_then = i' }) (record { held = held; held_then = held_now; faults = o; faults_then = o' }) machine_now
too-many session session_now machine machine_now text turns left held held_mid held_now n i i' o o' s more few u stands =
    let count : length s.lines ≡ MAX_LINES - 1 = s.count ∙ few in
    elim more [
      | inl far ↦ too-far session session_now machine machine_now text turns left held held_mid held_now n i i' o o' s far (omega (arith, few)) u stands
      | inr other ↦ elim other [
        | inl whole ↦
            let x = whole.line ++ 10 ∷ [] in
            stops session session_now machine machine_now text turns n.room left n.left n.left_then held held_mid held_now i i' o o' s x whole.took
            (λ rest. full s.lines (x ++ rest) n.room s.plain s.space count) u stands (one-more s.lines x s.plain count (whole-more whole.line [] whole.plain))
            (omega (arith, length-append (joined s.lines) x, length-append whole.line (10 ∷ []), s.space, whole.space)) (few-whole whole.line whole.plain) (omega (arith, few))
        | inr last ↦
            let r = last.0 in
            stops session session_now machine machine_now text turns n.room left n.left n.left_then held held_mid held_now i i' o o' s r.line r.took
            (λ rest. full s.lines (r.line ++ rest) n.room s.plain s.space count) u stands (one-more s.lines r.line s.plain count (last-more r.line r.plain last.1))
            (omega (arith, length-append (joined s.lines) r.line, s.space, r.space)) (few-plain r.line r.plain) (omega (arith, few))
      ]
    ]
