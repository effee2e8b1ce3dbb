-- A run in its middle.
use Rattle.std.proofs.Common.{◌≡◌, ℕ, ◌+◌, ◌-◌, List, [], ◌∷◌, ◌++◌, None, Some, length, length-append, map, refl, sym, ap, subst, ◌∙◌, append-nil, arith}
use Rattle.std.proofs.lemmas.List.{map-append}
use Rattle.std.specs.declared.option.Option.{Option}
use Rattle.std.specs.Io.KnownBytes.{Appends, Consumes, IsAtEnd}
use Rattle.dice_base.specs.Known.{Consumes-nil, Consumes-trans, Appends-nil, Appends-trans}
use Rattle.dice_base.specs.Lines.{NoFeeds, joined}
use Rattle.dice_base.specs.LinesLaws.{joined-push, NoFeeds-push}
use Rattle.script_lines.specs.Front.{strip}
use Rattle.script_lines.specs.Took.{LineRead, WholeLine}
use Rattle.pdp11_machine.specs.State.{MachineState}
use Rattle.dice_session.specs.declared.session.Session.{Session}
use Rattle.dice_command.specs.declared.command.Command.{Command}
use Rattle.dice_session.specs.World.{empty_world, replies_from, world_after}
use Rattle.dice_session.specs.SessionOf.{IsSessionOf}
use Rattle.dice_program.specs.Script.{acted_within, acted}
use Rattle.dice_program.specs.declared.limits.TheConstants.{MAX_BYTES, MAX_LINES}
use Rattle.dice_program.specs.Entries.{Between, Behind, line_entries, line_position, whole_entries, position_of, HasQuit, AreCommandsOf}
use Rattle.dice_program.specs.Kept.{HasText}
use Rattle.dice_program.specs.Turns.{AnsweredAll}
use Rattle.dice_program.specs.Taking.{IsScript, ScriptPart, TakesOnly}
use Rattle.dice_program.proofs.Pieces.{acted-joined, ended-all, last-all}
use Rattle.dice_program.proofs.Commands.{after-append, replies-append, commands-append, entries-push, position-push}

-- so many lines were read; the commands that they make whole are carried out and answered
pub record Serving
    (session : Session) (machine : MachineState) (text : Option (List ℕ)) (turns room : ℕ)
    (left left_now held held_now : Option (List ℕ)) : Type 0 where
  pub lines : List (List ℕ)
  pub commands : List Command
  pub plain : NoFeeds lines
  pub count : length lines ≡ turns
  pub space : MAX_BYTES ≡ length (joined lines) + room
  pub took : Consumes left left_now (joined lines)
  pub read : AreCommandsOf (whole_entries (map strip lines)) commands
  pub wrote : Appends held held_now (replies_from empty_world commands)
  pub lives : IsSessionOf (world_after empty_world commands) session machine
  pub open_text : HasText (position_of (map strip lines)) text
  pub going : HasQuit (map strip lines) → ⊥

between-going : Between ≡ Behind → ⊥
between-going e = absurd cc

pub serving-start : (session : Session) (machine : MachineState) (left held : Option (List ℕ)) → IsSessionOf empty_world session machine → Serving session machine None 0 MAX_BYTES left left held held
serving-start session machine left held lives = record {
  lines = [];
  commands = [];
  plain = tt;
  count = refl;
  space = omega arith;
  took = Consumes-nil left;
  read = tt;
  wrote = Appends-nil held;
  lives = lives;
  open_text = refl;
  going = between-going;
}

-- the lines with one more
pub record Longer (lines : List (List ℕ)) (room : ℕ) (left left_now : Option (List ℕ)) : Type 0 where
  pub plain : NoFeeds lines
  pub space : MAX_BYTES ≡ length (joined lines) + room
  pub took : Consumes left left_now (joined lines)

pub longer-lines : (session : Session) (machine : MachineState) (text : Option (List ℕ)) (turns : ℕ) (left held held_now : Option (List ℕ)) (n : LineRead)
    → (s : Serving session machine text turns n.room left n.left held held_now) → (r : WholeLine n)
    → Longer (s.lines ++ r.line ∷ []) n.room_then left n.left_then
longer-lines session machine text turns left held held_now n s r =
    let longer : joined (s.lines ++ r.line ∷ []) ≡ joined s.lines ++ (r.line ++ 10 ∷ []) = joined-push s.lines r.line in
    record {
      plain = NoFeeds-push s.lines r.line s.plain r.plain;
      space = omega (arith, ap length longer, length-append (joined s.lines) (r.line ++ 10 ∷ []), length-append r.line (10 ∷ []), s.space, r.space);
      took = subst (Consumes left n.left_then) (sym longer) (Consumes-trans left n.left n.left_then _ _ s.took r.took);
    }

-- the lines as they are acted on, with one more
pub lines-push : (lines : List (List ℕ)) (line : List ℕ) → map strip (lines ++ line ∷ []) ≡ map strip lines ++ strip line ∷ []
lines-push lines line = map-append strip lines (line ∷ [])

pub whole-push : (lines : List (List ℕ)) (line : List ℕ) → whole_entries (map strip (lines ++ line ∷ [])) ≡ whole_entries (map strip lines) ++ line_entries (position_of (map strip lines)) (strip line)
whole-push lines line = ap whole_entries (lines-push lines line) ∙ entries-push (map strip lines) (strip line)

pub at-push : (lines : List (List ℕ)) (line : List ℕ) → position_of (map strip (lines ++ line ∷ [])) ≡ line_position (position_of (map strip lines)) (strip line)
at-push lines line = ap position_of (lines-push lines line) ∙ position-push (map strip lines) (strip line)

-- one line more
pub serving-turn : (session session_now : Session) (machine machine_now : MachineState) (text text_now : Option (List ℕ)) (turns : ℕ) (left held held_mid held_now : Option (List ℕ)) (n : LineRead)
    → (s : Serving session machine text turns n.room left n.left held held_mid) → (r : WholeLine n)
    → (t : AnsweredAll (world_after empty_world s.commands) (line_entries (position_of (map strip s.lines)) (strip r.line)) session_now machine_now held_mid held_now)
    → HasText (line_position (position_of (map strip s.lines)) (strip r.line)) text_now
    → (line_position (position_of (map strip s.lines)) (strip r.line) ≡ Behind → ⊥)
    → Serving session_now machine_now text_now (turns + 1) n.room_then left n.left_then held held_now
serving-turn session session_now machine machine_now text text_now turns left held held_mid held_now n s r t kept going =
    let longer = longer-lines session machine text turns left held held_mid n s r in
    let cs = s.commands ++ t.commands in
    record {
      lines = s.lines ++ r.line ∷ [];
      commands = cs;
      plain = longer.plain;
      count = omega (arith, length-append s.lines (r.line ∷ []), s.count);
      space = longer.space;
      took = longer.took;
      read = subst (λ es. AreCommandsOf es cs) (sym (whole-push s.lines r.line)) (commands-append _ _ s.commands t.commands s.read t.reads);
      wrote = subst (Appends held held_now) (sym (replies-append empty_world s.commands t.commands)) (Appends-trans held held_mid held_now _ _ s.wrote t.wrote);
      lives = subst (λ w. IsSessionOf w session_now machine_now) (sym (after-append empty_world s.commands t.commands)) t.lives;
      open_text = subst (λ p. HasText p text_now) (sym (at-push s.lines r.line)) kept;
      going = λ over. going (sym (at-push s.lines r.line) ∙ over);
    }

-- what is acted on of a script whose lines were read so far
pub so_far : (lines : List (List ℕ)) (rest : List ℕ) (room more : ℕ) → NoFeeds lines → MAX_BYTES ≡ length (joined lines) + room
    → MAX_LINES - 1 ≡ length lines + more → acted (joined lines ++ rest) ≡ map strip lines ++ acted_within more room rest
so_far lines rest room more plain space count =
    ap (λ b. acted_within (MAX_LINES - 1) b (joined lines ++ rest)) space
    ∙ ap (λ k. acted_within k (length (joined lines) + room) (joined lines ++ rest)) count
    ∙ acted-joined lines rest more room plain

-- the script, where the source tells its bytes: these bytes, and what is left
pub record Known (left left_now : Option (List ℕ)) (taken : List ℕ) : Type 0 where
  pub rest : List ℕ
  pub is : IsScript left (taken ++ rest)

pub known : (left left_now : Option (List ℕ)) (taken : List ℕ) → Consumes left left_now taken → Known left left_now taken
known None left_now taken took = record { rest = []; is = tt }
known (Some whole) None taken took = absurd took
known (Some whole) (Some rest) taken took = record { rest = rest; is = took }

pub known-end : (left left_now : Option (List ℕ)) (taken : List ℕ) → Consumes left left_now taken → IsAtEnd left_now → IsScript left taken
known-end None left_now taken took ended = tt
known-end (Some whole) None taken took ended = absurd took
known-end (Some whole) (Some rest) taken took ended = took ∙ ap (λ r. taken ++ r) ended ∙ append-nil taken

-- what was taken, as a part of the script
abbrev pub part_of : (left left_now : Option (List ℕ)) (taken : List ℕ) → Consumes left left_now taken → ScriptPart left left_now
part_of left left_now taken took = record {
  script = taken ++ (known left left_now taken took).rest;
  taken = taken;
  rest = (known left left_now taken took).rest;
  parts = refl;
  is = (known left left_now taken took).is;
  took = took;
}

-- whole lines were taken, and no more
pub takes-lines : (lines : List (List ℕ)) (commands : List Command) → NoFeeds lines → AreCommandsOf (whole_entries (map strip lines)) commands → TakesOnly (joined lines) commands
takes-lines lines commands plain read = record {
  read = subst (λ ls. AreCommandsOf (whole_entries ls) commands) (sym (ended-all lines plain)) read;
  exact = last-all lines plain;
}
