-- The session and its world, command by command.
use Rattle.std.proofs.Common.{◌≡◌, ◌<◌, ◌≤◌, ℕ, ◌+◌, Bool, true, false, List, [], ◌∷◌, ◌++◌, Option, Some, None, Result, Ok, Err, refl, sym, ap, subst, ◌∙◌, append-nil, arith}
use Rattle.std.specs.Prelude.{OnOk, codes, if◌then◌else◌}
use Rattle.std.proofs.lemmas.Bool.{lt-ltb, le-ltb}
use Rattle.std.proofs.lemmas.List.{append_assoc}
use Rattle.std.specs.Option.{option_map}
use Rattle.dice_base.specs.declared.name.Name.{Name}
use Rattle.pdp11_machine.specs.State.{MachineState}
use Rattle.pascal_semantics.specs.declared.form.Statement.{Statement}
use Rattle.pascal_semantics.specs.Charge.{program_charge, charges_of}
use Rattle.pascal_semantics.specs.Program.{program_of}
use Rattle.pascal_semantics.specs.State.{State, Status, NotStarted, Halted, Ended, Failed}
use Rattle.pascal_semantics.specs.Run.{run_of}
use Rattle.pascal_semantics.specs.Valid.{code_room}
use Rattle.dice_command.specs.declared.command.CommandFault.{CommandFault}
use Rattle.dice_command.specs.declared.command.Command.{Command}
use Rattle.dice_command.specs.declared.command.Command.TheVariants as command
use Rattle.pascal_tree.specs.declared.program.Tree.{Tree}
use Rattle.pascal_tree.specs.declared.stmt.Stmt.{Stmt}
use Rattle.dice_session.specs.Progress.{progress_of, progress_after, is_over}
use Rattle.dice_session.specs.declared.progress.Progress.TheVariants as progress
use Rattle.dice_session.specs.World.{World, Reply, reply_of, host_reply, refusal, program_reply, list_reply, replace_reply, apply_reply, fault_text, if_program, ran_reply, run_reply, reply_line, statements_of, full_words, full_text, if_fits}
use Rattle.dice_session.specs.Simulates.{SimulatesIn, CanRunFrom, Ran}
use Rattle.dice_session.specs.SessionOf.{HasProgram, IsSessionOf, Became}
use Rattle.dice_session.specs.declared.session.Session.{Session}

-- a clause of a call that is the last one
pub on_ok : {E : Type 0} {P Q : Type 0} (r : Result (Unit {0}) E) → OnOk r P → (P → Q) → OnOk r Q
on_ok (Ok u) p f = f p
on_ok (Err e) p f = tt

none-some : {A : Type 0} (x : A) → None ≡ Some x → ⊥
none-some x e = absurd cc

-- nothing but the reply
pub refused-became : (w : World) (text before after : List ℕ) (s : Session) (machine : MachineState) → IsSessionOf w s machine → after ≡ before ++ reply_line text → Became (refusal w text) before after machine s machine
refused-became w text before after s machine h told = record { told = told; of_world = h; kept = λ e. refl }

pub nothing-became : (w : World) (out : List ℕ) (s : Session) (machine : MachineState) → IsSessionOf w s machine → Became (host_reply w []) out out machine s machine
nothing-became w out s machine h = record { told = sym (append-nil out); of_world = h; kept = λ e. refl }

-- ---- the reply to a command

pub carried-out : (w : World) (c d : Command) (r : Reply) (before after : List ℕ) (machine : MachineState) (t : Session) (now : MachineState) → c ≡ d → reply_of w d ≡ r
    → Became r before after machine t now → Became (reply_of w c) before after machine t now
carried-out w c d r before after machine t now e is became = subst (λ x. Became x before after machine t now) (sym (ap (reply_of w) e ∙ is)) became

pub reply-blank : (w : World) → reply_of w command.Blank ≡ host_reply w []
unfolding reply_of
reply-blank w = refl

pub reply-load : (w : World) (p : Tree) → reply_of w (command.Load p) ≡ program_reply w p
unfolding reply_of
reply-load w p = refl

pub reply-list : (w : World) → reply_of w command.List ≡ if_program w.draft w (list_reply w)
unfolding reply_of
reply-list w = refl

pub reply-replace : (w : World) (name : Name) (s : Stmt) → reply_of w (command.Replace name s) ≡ if_program w.draft w (replace_reply w name.0 s)
unfolding reply_of
reply-replace w name s = refl

pub reply-apply : (w : World) → reply_of w command.Apply ≡ if_program w.draft w (apply_reply w)
unfolding reply_of
reply-apply w = refl

pub reply-run : (w : World) (k : ℕ) → reply_of w (command.Run k) ≡ if_program w.present w (run_reply w k)
unfolding reply_of
reply-run w k = refl

pub reply-quit : (w : World) → reply_of w command.Quit ≡ host_reply w []
unfolding reply_of
reply-quit w = refl

pub reply-unbuilt : (w : World) → reply_of w command.Unbuilt ≡ refusal w (codes "not built")
unfolding reply_of
reply-unbuilt w = refl

pub reply-bad : (w : World) (fault : CommandFault) → reply_of w (command.Bad fault) ≡ refusal w (fault_text fault)
unfolding reply_of
reply-bad w fault = refl

-- ---- loads

pub full-told : (out a d b : List ℕ) → ((out ++ a) ++ d) ++ (b ++ 10 ∷ []) ≡ out ++ reply_line (a ++ (d ++ b))
full-told out a d b =
    append_assoc (out ++ a) d (b ++ 10 ∷ []) ∙ append_assoc out a (d ++ (b ++ 10 ∷ []))
    ∙ ap (λ x. out ++ x) (sym (append_assoc a (d ++ b) (10 ∷ []) ∙ ap (λ x. a ++ x) (append_assoc d b (10 ∷ []))))

pub not-fitting : (ss : List Statement) (w : World) (next : Reply) → code_room < program_charge + charges_of ss → if_fits ss w next ≡ refusal w (full_text ss)
not-fitting ss w next large = ap (λ t. if t then refusal w (full_text ss) else next) (lt-ltb code_room (program_charge + charges_of ss) large)

pub fitting : (ss : List Statement) (w : World) (next : Reply) → program_charge + charges_of ss ≤ code_room → if_fits ss w next ≡ next
fitting ss w next small = ap (λ t. if t then refusal w (full_text ss) else next) (le-ltb code_room (program_charge + charges_of ss) small)

-- what does not fit is told
pub full-became : (w : World) (ss : List Statement) (next : Reply) (before after : List ℕ) (words : ℕ) (s : Session) (machine : MachineState) → IsSessionOf w s machine → words ≡ program_charge + charges_of ss → code_room < words
    → after ≡ before ++ reply_line (full_words words) → Became (if_fits ss w next) before after machine s machine
full-became w ss next before after words s machine h is large told =
    subst (λ next. Became next before after machine s machine) (sym (not-fitting ss w next (omega (arith, is, large)))) (record { told = told ∙ ap (λ n. before ++ reply_line (full_words n)) is; of_world = h; kept = λ e. refl })

-- ---- runs

started-progress : (over : Bool) (st : Status) → over ≡ is_over (progress_of st) → (progress_of st ≡ progress.NotStarted → ⊥) → progress_after over ≡ progress_of st
started-progress over NotStarted e h = absurd (h refl)
started-progress over Halted e h = ap progress_after e
started-progress over Ended e h = ap progress_after e
started-progress over (Failed error name) e h = ap progress_after e

-- what the session keeps tells whether the program has ended
pub ended-is : (w : World) (s : Session) (machine : MachineState) → IsSessionOf w s machine → is_over s.progress ≡ is_over (progress_of w.state.status)
ended-is w s machine h = ap is_over h.progress

pub ran-became : (w : World) (s : Session) (machine now : MachineState) (items : List Statement) (gates : ℕ) (over : Bool) (before after : List ℕ) (u : Session)
    → IsSessionOf w s machine → option_map (λ v. v.items) s.program ≡ Some items → is_over s.progress ≡ false
    → ((st : State) → CanRunFrom items st machine s.console → Ran items gates st over before after now u.console)
    → u.program ≡ s.program → u.draft ≡ s.draft → u.progress ≡ progress_after over → Became (if_program w.present w (run_reply w gates)) before after machine u now
ran-became w s machine now items gates over before after u h some going ran program_kept draft_kept progress_is = go w.present refl h.program h.simulates
  where
    go : (p : Option Tree) → w.present ≡ p → HasProgram p w.state s → SimulatesIn p w.state machine → Became (if_program p w (run_reply w gates)) before after machine u now
    go None e has stands = absurd (none-some items (ap (option_map (λ v. v.items)) (sym has) ∙ some))
    go (Some p) e has stands =
        let ss = statements_of p in
        let same : items ≡ ss = cc (sym some ∙ has.statements) in
        let alive : is_over (progress_of w.state.status) ≡ false = sym (ended-is w s machine h) ∙ going in
        let r = ran w.state (subst (λ xs. CanRunFrom xs w.state machine s.console) (sym same) (record { formed = has.formed; can = alive; holds = stands s.console h.drained })) in
        let q = subst (λ xs. Ran xs gates w.state over before after now u.console) same r in
        let next = run_of (program_of ss) gates w.state in
        subst (λ b. Became (if b then refusal w (codes "already ended") else ran_reply w next) before after machine u now) (sym alive) (record {
          told = q.told;
          kept = λ e. absurd (cc e);
          of_world = record {
            program = subst (λ p. HasProgram p next u) (sym e) (record { statements = ap (option_map (λ v. v.items)) program_kept ∙ has.statements; program = has.program; formed = q.formed });
            progress = progress_is ∙ started-progress over next.status q.over_is q.started;
            draft = draft_kept ∙ h.draft;
            drained = q.drained;
            simulates = subst (λ p. SimulatesIn p next now) (sym e) q.simulates;
          };
        })

-- where there is no program, and where it has ended
pub run-none : (w : World) (gates : ℕ) (before after : List ℕ) (s : Session) (machine : MachineState) → IsSessionOf w s machine → s.program ≡ None → after ≡ before ++ reply_line (codes "no program") → Became (if_program w.present w (run_reply w gates)) before after machine s machine
run-none w gates before after s machine h none told = go w.present h.program
  where
    go : (p : Option Tree) → HasProgram p w.state s → Became (if_program p w (run_reply w gates)) before after machine s machine
    go None has = record { told = told; of_world = h; kept = λ e. refl }
    go (Some p) has = absurd (none-some (statements_of p) (ap (option_map (λ v. v.items)) (sym none) ∙ has.statements))

pub run-over : (w : World) (gates : ℕ) (items : List Statement) (before after : List ℕ) (s : Session) (machine : MachineState) → IsSessionOf w s machine → option_map (λ v. v.items) s.program ≡ Some items → is_over s.progress ≡ true
    → after ≡ before ++ reply_line (codes "already ended") → Became (if_program w.present w (run_reply w gates)) before after machine s machine
run-over w gates items before after s machine h some over told = go w.present h.program
  where
    go : (p : Option Tree) → HasProgram p w.state s → Became (if_program p w (run_reply w gates)) before after machine s machine
    go None has = absurd (none-some items (ap (option_map (λ v. v.items)) (sym has) ∙ some))
    go (Some p) has =
        subst (λ b. Became (if b then refusal w (codes "already ended") else ran_reply w (run_of (program_of (statements_of p)) gates w.state)) before after machine s machine)
        (sym (sym (ended-is w s machine h) ∙ over)) (record { told = told; of_world = h; kept = λ e. refl })
