-- The draft and its world: its listing, its edits, and how it becomes the present program.
use Rattle.std.proofs.Common.{◌≡◌, ◌<◌, ◌≤◌, ℕ, ◌+◌, true, false, List, [], ◌++◌, Option, Some, None, Ok, Err, refl, sym, ap, subst, ◌∙◌}
use Rattle.std.specs.Prelude.{codes, if◌then◌else◌}
use Rattle.std.specs.Fmt.{decimal}
use Rattle.std.specs.Option.{option_map}
use Rattle.pdp11_machine.specs.State.{MachineState}
use Rattle.pascal_tree.specs.declared.program.Tree.{Tree}
use Rattle.pascal_tree.specs.declared.stmt.Stmt.{Stmt}
use Rattle.pascal_semantics.specs.declared.form.Statement.{Statement}
use Rattle.pascal_semantics.specs.Charge.{program_charge, charges_of}
use Rattle.pascal_semantics.specs.State.{loaded_state}
use Rattle.pascal_semantics.specs.Valid.{IsProgram, code_room}
use Rattle.tree_listing.specs.Listing.{listing}
use Rattle.simple_form.specs.Simple.{resolution_of}
use Rattle.tree_edit.specs.declared.fault.EditFault.{EditFault}
use Rattle.tree_edit.specs.Edited.{replaced_program}
use Rattle.dice_session.specs.World.{World, reply_line, load_reply, program_reply, loaded_line, statements_of, or_none, refusal, machine_reply, if_program, with_program, begun_reply, full_words, unless_halted, apply_fitting, apply_reply, if_built, edit_reply, replace_reply, edit_fault_text, list_reply}
use Rattle.dice_session.specs.Simulates.{SimulatesRun}
use Rattle.dice_session.specs.SessionOf.{HasStatements, HasProgram, IsSessionOf, Became}
use Rattle.dice_session.specs.Progress.{progress_of, is_halted}
use Rattle.dice_session.specs.declared.progress.Progress.TheVariants as progress
use Rattle.dice_session.specs.declared.session.Session.{Session}
use Rattle.dice_session.proofs.Sessions.{fitting, full-became}

-- ---- where there is no draft, and where there is one

pub list-none : (w : World) (before after : List ℕ) (s : Session) (machine : MachineState) → IsSessionOf w s machine → s.draft ≡ None → after ≡ before ++ reply_line (codes "no program") → Became (if_program w.draft w (list_reply w)) before after machine s machine
list-none w before after s machine h none told = subst (λ d. Became (if_program d w (list_reply w)) before after machine s machine) (sym none ∙ h.draft) (record { told = told; of_world = h; kept = λ e. refl })

pub list-some : (w : World) (p : Tree) (before after : List ℕ) (s : Session) (machine : MachineState) → IsSessionOf w s machine → s.draft ≡ Some p → after ≡ before ++ listing true p → Became (if_program w.draft w (list_reply w)) before after machine s machine
list-some w p before after s machine h some told = subst (λ d. Became (if_program d w (list_reply w)) before after machine s machine) (sym some ∙ h.draft) (record { told = told; of_world = h; kept = λ e. refl })

pub edit-none : (w : World) (name : ℕ) (x : Stmt) (before after : List ℕ) (s : Session) (machine : MachineState) → IsSessionOf w s machine → s.draft ≡ None → after ≡ before ++ reply_line (codes "no program") → Became (if_program w.draft w (replace_reply w name x)) before after machine s machine
edit-none w name x before after s machine h none told = subst (λ d. Became (if_program d w (replace_reply w name x)) before after machine s machine) (sym none ∙ h.draft) (record { told = told; of_world = h; kept = λ e. refl })

pub apply-none : (w : World) (before after : List ℕ) (s : Session) (machine : MachineState) → IsSessionOf w s machine → s.draft ≡ None → after ≡ before ++ reply_line (codes "no program") → Became (if_program w.draft w (apply_reply w)) before after machine s machine
apply-none w before after s machine h none told = subst (λ d. Became (if_program d w (apply_reply w)) before after machine s machine) (sym none ∙ h.draft) (record { told = told; of_world = h; kept = λ e. refl })

pub apply-some : (w : World) (p : Tree) (before after : List ℕ) (s t : Session) (machine now : MachineState) → IsSessionOf w s machine → s.draft ≡ Some p → Became (apply_reply w p) before after machine t now → Became (if_program w.draft w (apply_reply w)) before after machine t now
apply-some w p before after s t machine now h some became = subst (λ d. Became (if_program d w (apply_reply w)) before after machine t now) (sym some ∙ h.draft) became

pub apply-unbuilt : (w : World) (p : Tree) (before after : List ℕ) (s : Session) (machine : MachineState) → IsSessionOf w s machine → resolution_of p ≡ None → after ≡ before ++ reply_line (codes "not built") → Became (apply_reply w p) before after machine s machine
apply-unbuilt w p before after s machine h none told = subst (λ r. Became (if_built r w (apply_fitting w p)) before after machine s machine) (sym none) (record { told = told; of_world = h; kept = λ e. refl })

-- ---- edits

-- another draft
pub with-draft : (w : World) (p : Tree) (s t : Session) (machine : MachineState) → IsSessionOf w s machine → t.program ≡ s.program → t.progress ≡ s.progress → t.console ≡ s.console → t.draft ≡ Some p
    → IsSessionOf (record w { draft = Some p }) t machine
with-draft w p s t machine h program progress console draft = record {
  program = kept w.present h.program;
  progress = progress ∙ h.progress;
  draft = draft;
  drained = ap (λ c. c.output) console ∙ h.drained;
  simulates = h.simulates;
}
  where
    kept : (p : Option Tree) → HasProgram p w.state s → HasProgram p w.state t
    kept None h = program ∙ h
    kept (Some p) h = record { statements = ap (option_map (λ v. v.items)) program ∙ h.statements; program = h.program; formed = h.formed }

pub edit-done : (w : World) (name : ℕ) (x : Stmt) (p q : Tree) (before after : List ℕ) (s t : Session) (machine : MachineState) → IsSessionOf w s machine → s.draft ≡ Some p → replaced_program name x p ≡ Ok q
    → t.program ≡ s.program → t.progress ≡ s.progress → t.console ≡ s.console → t.draft ≡ Some q
    → after ≡ before ++ reply_line (codes "edited " ++ decimal name) → Became (if_program w.draft w (replace_reply w name x)) before after machine t machine
edit-done w name x p q before after s t machine h some is program progress console draft told =
    subst (λ d. Became (if_program d w (replace_reply w name x)) before after machine t machine) (sym some ∙ h.draft)
    (subst (λ r. Became (edit_reply w name r) before after machine t machine) (sym is) (record { told = told; kept = λ e. refl; of_world = with-draft w q s t machine h program progress console draft }))

pub edit-refused : (w : World) (name : ℕ) (x : Stmt) (p : Tree) (fault : EditFault) (before after : List ℕ) (s : Session) (machine : MachineState) → IsSessionOf w s machine → s.draft ≡ Some p → replaced_program name x p ≡ Err fault
    → after ≡ before ++ reply_line (edit_fault_text fault) → Became (if_program w.draft w (replace_reply w name x)) before after machine s machine
edit-refused w name x p fault before after s machine h some is told =
    subst (λ d. Became (if_program d w (replace_reply w name x)) before after machine s machine) (sym some ∙ h.draft)
    (subst (λ r. Became (edit_reply w name r) before after machine s machine) (sym is) (record { told = told; of_world = h; kept = λ e. refl }))

-- ---- a program is loaded

-- the machine was made ready, and the statements are those of the present program
pub begun-became : (w : World) (p : Tree) (ss : List Statement) (before after : List ℕ) (s t : Session) (machine now : MachineState) → IsSessionOf w s machine → resolution_of p ≡ Some ss → IsProgram ss
    → t.draft ≡ s.draft → t.progress ≡ progress.NotStarted → option_map (λ v. v.items) t.program ≡ Some ss → t.console.output ≡ []
    → SimulatesRun ss loaded_state now → after ≡ before ++ loaded_line ss → Became (begun_reply w p ss) before after machine t now
begun-became w p ss before after s t machine now h is program draft progress statements drained stands told = record {
  told = told;
  kept = λ e. absurd (cc e);
  of_world = record {
    program = subst (λ xs. HasProgramOf xs) (sym same) (record { statements = statements; program = program; formed = record { before = λ e. refl; halted = λ e. absurd (cc e) } });
    progress = progress;
    draft = draft ∙ h.draft;
    drained = drained;
    simulates = subst (λ xs. SimulatesRun xs loaded_state now) (sym same) stands;
  };
}
  where
    same : statements_of p ≡ ss
    same = ap or_none is

    HasProgramOf : List Statement → Type 0
    HasProgramOf xs = HasStatements xs loaded_state t

-- it is refused where it is not built
pub load-unbuilt : (w : World) (p : Tree) (before after : List ℕ) (s : Session) (machine : MachineState) → IsSessionOf w s machine → resolution_of p ≡ None → after ≡ before ++ reply_line (codes "not built")
    → Became (program_reply w p) before after machine s machine
load-unbuilt w p before after s machine h none told = subst (λ r. Became (if_built r w (load_reply w p)) before after machine s machine) (sym none) (record { told = told; of_world = h; kept = λ e. refl })

pub load-built : (w : World) (p : Tree) (ss : List Statement) (before after : List ℕ) (t : Session) (machine now : MachineState) → resolution_of p ≡ Some ss → Became (load_reply w p ss) before after machine t now
    → Became (program_reply w p) before after machine t now
load-built w p ss before after t machine now is became = subst (λ r. Became (if_built r w (load_reply w p)) before after machine t now) (sym is) became

-- the draft is that program as well
pub loaded-became : (w : World) (p : Tree) (ss : List Statement) (before after : List ℕ) (machine : MachineState) (s t : Session) (now : MachineState) → program_charge + charges_of ss ≤ code_room
    → Became (begun_reply w p ss) before after machine s now
    → t.program ≡ s.program → t.progress ≡ s.progress → t.console ≡ s.console → t.draft ≡ Some p → Became (load_reply w p ss) before after machine t now
loaded-became w p ss before after machine s t now fits became program progress console draft =
    subst (λ next. Became next before after machine t now) (sym (fitting ss w (machine_reply (record (with_program w p) { draft = Some p }) (loaded_line ss)) fits)) (record {
      told = became.told;
      kept = λ e. absurd (cc e);
      of_world = with-draft (with_program w p) p s t now became.of_world program progress console draft;
    })

-- what the session keeps tells whether the program is stopped
stopped-is : (w : World) (s : Session) (machine : MachineState) → IsSessionOf w s machine → is_halted s.progress ≡ is_halted (progress_of w.state.status)
stopped-is w s machine h = ap is_halted h.progress

pub apply-full : (w : World) (p : Tree) (ss : List Statement) (before after : List ℕ) (words : ℕ) (s : Session) (machine : MachineState) → IsSessionOf w s machine → resolution_of p ≡ Some ss → words ≡ program_charge + charges_of ss → code_room < words
    → after ≡ before ++ reply_line (full_words words) → Became (apply_reply w p) before after machine s machine
apply-full w p ss before after words s machine h is sum large told =
    subst (λ r. Became (if_built r w (apply_fitting w p)) before after machine s machine) (sym is) (full-became w ss (unless_halted w (begun_reply w p ss)) before after words s machine h sum large told)

pub apply-halted : (w : World) (p : Tree) (ss : List Statement) (before after : List ℕ) (s : Session) (machine : MachineState) → IsSessionOf w s machine → resolution_of p ≡ Some ss → program_charge + charges_of ss ≤ code_room → is_halted s.progress ≡ true
    → after ≡ before ++ reply_line (codes "not built") → Became (apply_reply w p) before after machine s machine
apply-halted w p ss before after s machine h is fits halted told =
    subst (λ r. Became (if_built r w (apply_fitting w p)) before after machine s machine) (sym is)
    (subst (λ next. Became next before after machine s machine) (sym (fitting ss w (unless_halted w (begun_reply w p ss)) fits))
    (subst (λ b. Became (if b then refusal w (codes "not built") else (begun_reply w p ss)) before after machine s machine) (sym (sym (stopped-is w s machine h) ∙ halted)) (record { told = told; of_world = h; kept = λ e. refl })))

pub apply-done : (w : World) (p : Tree) (ss : List Statement) (before after : List ℕ) (s t : Session) (machine now : MachineState) → IsSessionOf w s machine → resolution_of p ≡ Some ss → program_charge + charges_of ss ≤ code_room → is_halted s.progress ≡ false
    → Became (begun_reply w p ss) before after machine t now → Became (apply_reply w p) before after machine t now
apply-done w p ss before after s t machine now h is fits going became =
    subst (λ r. Became (if_built r w (apply_fitting w p)) before after machine t now) (sym is)
    (subst (λ next. Became next before after machine t now) (sym (fitting ss w (unless_halted w (begun_reply w p ss)) fits))
    (subst (λ b. Became (if b then refusal w (codes "not built") else (begun_reply w p ss)) before after machine t now) (sym (sym (stopped-is w s machine h) ∙ going)) became))
