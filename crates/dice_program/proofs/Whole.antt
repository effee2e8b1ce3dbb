-- From one turn to the whole run.
use Rattle.std.proofs.Common.{◌≡◌, ◌≤◌, ℕ, ◌+◌, ◌-◌, List, [], Err, length, map, sym, ap, subst, arith, inl, inr}
use Rattle.std.specs.declared.option.Option.{Option}
use Rattle.dice_base.specs.Lines.{some_line}
use Rattle.script_lines.specs.Front.{strip}
use Rattle.script_lines.specs.Took.{LineRead, LastLine}
use Rattle.script_lines.specs.declared.line.LineFault.{LineFault}
use Rattle.script_lines.specs.declared.line.LineFault.TheVariants.{SourceFailed}
use Rattle.script_lines.specs.declared.line.LineFault.TheVariants as line
use Rattle.pdp11_machine.specs.State.{MachineState}
use Rattle.dice_session.specs.declared.session.Session.{Session}
use Rattle.dice_session.specs.World.{empty_world, world_after}
use Rattle.dice_program.specs.declared.serve.Fault.{Fault}
use Rattle.dice_program.specs.declared.serve.Fault.TheVariants.{ReadFault, WriteFault, NoMemory}
use Rattle.dice_program.specs.declared.limits.TheConstants.{MAX_LINES}
use Rattle.dice_program.specs.Entries.{entries_from, position_after, position_of}
use Rattle.dice_program.specs.Kept.{HasText}
use Rattle.dice_program.specs.Turns.{Around, Unanswered, ActsOnLast, Turns, Finals, IsNoMore, fault_of}
use Rattle.dice_program.specs.Top.{Serves}
use Rattle.dice_program.proofs.Pieces.{some-few, few-plain}
use Rattle.dice_program.proofs.Turns.{none-answered, keeps-refl}
use Rattle.dice_program.proofs.Serving.{Serving}
use Rattle.dice_program.proofs.Exits.{short, broken, cut-line, cut-end, AtClose, at-close}

-- a turn behind the lines that were read so far
abbrev pub around : (session session_now : Session) (machine machine_now : MachineState) (text text_now : Option (List ℕ)) (turns room : ℕ) (left mid held held_mid held_now : Option (List ℕ)) → Serving session machine text turns room left mid held held_mid → Around
around session session_now machine machine_now text text_now turns room left mid held held_mid held_now s = record {
  world = world_after empty_world s.commands;
  at = position_of (map strip s.lines);
  session = session_now;
  machine = machine_now;
  text = text_now;
  held = held_mid;
  held_then = held_now;
}

pub turn-fails : (e : Fault) (session session_now : Session) (machine machine_now : MachineState) (text text_now : Option (List ℕ)) (turns : ℕ) (left held held_mid held_now : Option (List ℕ)) (n : LineRead) (i i' o o' : ℕ)
    → (s : Serving session machine text turns n.room left n.left held held_mid) → turns + 1 ≤ MAX_LINES - 1
    → Turns (Err e) n (around session session_now machine machine_now text text_now turns n.room left n.left held held_mid held_now s)
    → Serves (Err e) (record { left = left; left_then = n.left_then; faults = i; faults_then = i' }) (record { held = held; held_then = held_now; faults = o; faults_then = o' }) machine_now
turn-fails ReadFault session session_now machine machine_now text text_now turns left held held_mid held_now n i i' o o' s few t =
    broken session session_now machine machine_now text turns left held held_mid held_now n i i' o o' s t.0 t.1 (λ w lives. lives.simulates)
turn-fails WriteFault session session_now machine machine_now text text_now turns left held held_mid held_now n i i' o o' s few t = elim t [
  | inl cut ↦ cut-line session session_now machine machine_now text turns left held held_mid held_now n i i' o o' s cut.0 cut.1 few (λ w lives. lives.simulates)
  | inr cut ↦ cut-end session session_now machine machine_now text turns left held held_mid held_now n i i' o o' s cut.0 cut.1 (omega (arith, some-few cut.0.line, few)) (λ w lives. lives.simulates)
]
turn-fails NoMemory session session_now machine machine_now text text_now turns left held held_mid held_now n i i' o o' s few t =
    short session machine text turns n.room left n.left n.left_then held held_mid held_now i i' o o' s (omega (arith, few)) t.0.taken t.0.took t.0.one t.1

pub turn-closes : (session session_now : Session) (machine machine_now : MachineState) (text text_now : Option (List ℕ)) (turns : ℕ) (left held held_mid held_now : Option (List ℕ)) (n : LineRead)
    → (s : Serving session machine text turns n.room left n.left held held_mid) → turns + 1 ≤ MAX_LINES - 1
    → (r : LastLine n) → ActsOnLast (some_line r.line) (around session session_now machine machine_now text text_now turns n.room left n.left held held_mid held_now s)
    → AtClose session_now machine_now text_now left n.left_then held held_now
turn-closes session session_now machine machine_now text text_now turns left held held_mid held_now n s few r a =
    at-close session session_now machine machine_now text text_now turns left held held_mid held_now n s r (omega (arith, some-few r.line, few)) a.answered a.text

-- at the last turn nothing is answered
pub unanswered : (session : Session) (machine : MachineState) (text : Option (List ℕ)) (turns room : ℕ) (left mid held held_mid : Option (List ℕ)) → (s : Serving session machine text turns room left mid held held_mid)
    → Unanswered (world_after empty_world s.commands) session machine held_mid held_mid
unanswered session machine text turns room left mid held held_mid s = record { kept = keeps-refl held_mid; lives = s.lives }

pub final-fails : (e : LineFault) (session : Session) (machine : MachineState) (text : Option (List ℕ)) (turns : ℕ) (left held held_mid : Option (List ℕ)) (n : LineRead) (i i' o o' : ℕ)
    → (s : Serving session machine text turns n.room left n.left held held_mid) → turns ≡ MAX_LINES - 1 → Finals (Err e) n
    → Serves (Err (fault_of e)) (record { left = left; left_then = n.left_then; faults = i; faults_then = i' }) (record { held = held; held_then = held_mid; faults = o; faults_then = o' }) machine
final-fails SourceFailed session machine text turns left held held_mid n i i' o o' s few t =
    broken session session machine machine text turns left held held_mid held_mid n i i' o o' s t (unanswered session machine text turns n.room left n.left held held_mid s) (λ w lives. lives.simulates)
final-fails line.NoMemory session machine text turns left held held_mid n i i' o o' s few t =
    short session machine text turns n.room left n.left n.left_then held held_mid held_mid i i' o o' s (omega (arith, few)) t.line t.took (few-plain t.line t.plain) (keeps-refl held_mid)

none-line : (l : List ℕ) → l ≡ [] → some_line l ≡ []
none-line l e = ap some_line e

pub final-closes : (session : Session) (machine : MachineState) (text : Option (List ℕ)) (turns : ℕ) (left held held_mid : Option (List ℕ)) (n : LineRead)
    → (s : Serving session machine text turns n.room left n.left held held_mid) → turns ≡ MAX_LINES - 1 → IsNoMore n
    → AtClose session machine text left n.left_then held held_mid
final-closes session machine text turns left held held_mid n s few t =
    let r = t.0 in
    let none = none-line r.line t.1 in
    let at = position_of (map strip s.lines) in
    at-close session session machine machine text text turns left held held_mid held_mid n s r (omega (arith, few, ap length none))
    (none-answered (world_after empty_world s.commands) (entries_from at (some_line r.line)) session machine held_mid (ap (entries_from at) none) s.lives)
    (subst (λ ls. HasText (position_after at ls) text) (sym none) s.open_text)
