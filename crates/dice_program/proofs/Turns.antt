-- From an answer to a turn.
use Rattle.std.proofs.Common.{◌≡◌, ◌==◌, ◌<◌, ℕ, ◌+◌, Bool, true, false, List, [], ◌∷◌, ◌++◌, None, Some, Err, Result, length, take, refl, sym, ap, subst, ◌∙◌, append-nil, arith, inl, inr}
use Rattle.std.proofs.lemmas.Bool.{eqb-true}
use Rattle.std.proofs.lemmas.List.{take-take, length-take}
use Rattle.std.specs.declared.option.Option.{Option}
use Rattle.std.specs.Io.KnownBytes.{Keeps, Appends}
use Rattle.dice_base.specs.Known.{Appends-nil}
use Rattle.dice_base.specs.Lines.{some_line}
use Rattle.dice_base.specs.Part.{WritesPart}
use Rattle.script_lines.specs.Front.{strip, kept_bytes, longest_text, SameFront}
use Rattle.script_lines.specs.Took.{LineRead, WholeLine, LastLine, Broken}
use Rattle.script_lines.specs.declared.line.LineFault.{LineFault}
use Rattle.script_lines.specs.declared.line.LineFault.TheVariants.{SourceFailed}
use Rattle.script_lines.specs.declared.line.LineFault.TheVariants as line
use Rattle.pdp11_machine.specs.State.{MachineState}
use Rattle.dice_command.specs.declared.command.Command.{Command}
use Rattle.dice_command.specs.Command.{IsCommandOf}
use Rattle.dice_session.specs.declared.session.Session.{Session}
use Rattle.dice_session.specs.World.{World, reply_of}
use Rattle.dice_session.specs.SessionOf.{IsSessionOf, Became}
use Rattle.dice_program.specs.Entries.{Entry, line_entries, entries_from}
use Rattle.dice_program.specs.Kept.{IsReadAs}
use Rattle.dice_program.specs.declared.serve.Fault.{Fault}
use Rattle.dice_program.specs.declared.serve.Fault.TheVariants.{ReadFault, WriteFault, NoMemory}
use Rattle.dice_program.specs.Turns.{Answered, CutShort, Answers, CutIn, AnsweredAll, AnswersAll, Around, Turns, IsMore, IsNoMore, fault_of}
use Rattle.dice_program.proofs.Pieces.{few-plain, few-whole}

pub answered : (w : World) (e : Entry) (line text before after written : List ℕ) (n : MachineState) (s : Session) (m : MachineState) (h k : Option (List ℕ)) (c : Command)
    → IsReadAs e line text → IsCommandOf line text c → Became (reply_of w c) before after n s m → before ≡ [] → written ≡ after
    → Appends h k written → Answered w e s m h k
answered w e line text before after written n s m h k c tells reads r empty same wrote = record {
  command = c;
  reads = tells c reads;
  wrote = subst (Appends h k) (same ∙ r.told ∙ ap (λ b. b ++ (reply_of w c).text) empty) wrote;
  lives = r.of_world;
}

pub cut_short : (w : World) (e : Entry) (line text before after written : List ℕ) (n : MachineState) (s : Session) (m : MachineState) (h k : Option (List ℕ)) (c : Command)
    → IsReadAs e line text → IsCommandOf line text c → Became (reply_of w c) before after n s m → before ≡ [] → written ≡ after
    → WritesPart h k written → CutShort w e s m h k
cut_short w e line text before after written n s m h k c tells reads r empty same wrote = record {
  command = c;
  reads = tells c reads;
  wrote = subst (WritesPart h k) (same ∙ r.told ∙ ap (λ b. b ++ (reply_of w c).text) empty) wrote;
  lives = r.of_world;
}

-- one entry is a list of entries
pub one-answered : (w : World) (es : List Entry) (e : Entry) (s : Session) (m : MachineState) (h k : Option (List ℕ)) → es ≡ e ∷ [] → Answered w e s m h k → AnsweredAll w es s m h k
one-answered w es e s m h k is a = subst (λ xs. AnsweredAll w xs s m h k) (sym is) (record {
  commands = a.command ∷ [];
  reads = (a.reads, tt);
  wrote = subst (Appends h k) (sym (append-nil (reply_of w a.command).text)) a.wrote;
  lives = a.lives;
})

pub same-entries : (w : World) (es fs : List Entry) (s : Session) (m : MachineState) (h k : Option (List ℕ)) → es ≡ fs → AnsweredAll w es s m h k → AnsweredAll w fs s m h k
same-entries w es fs s m h k is a = subst (λ xs. AnsweredAll w xs s m h k) is a

pub none-answered : (w : World) (es : List Entry) (s : Session) (m : MachineState) (h : Option (List ℕ)) → es ≡ [] → IsSessionOf w s m → AnsweredAll w es s m h h
none-answered w es s m h is lives = subst (λ xs. AnsweredAll w xs s m h h) (sym is) (record {
  commands = [];
  reads = tt;
  wrote = Appends-nil h;
  lives = lives;
})

-- the same fault of another call
pub same-fault : (A B : Type 0) (f : Fault) (w : World) (es fs : List Entry) (s : Session) (m : MachineState) (h k : Option (List ℕ)) → es ≡ fs → AnswersAll {A = A} (Err f) w es s m h k → AnswersAll {A = B} (Err f) w fs s m h k
same-fault A B ReadFault w es fs s m h k is p = absurd p
same-fault A B WriteFault w es fs s m h k is p = subst (λ xs. CutIn w xs s m h k) is p
same-fault A B NoMemory w es fs s m h k is p = p

-- an entry that was not answered is in a list of one
pub one-fault : (A : Type 0) (f : Fault) (w : World) (e : Entry) (es : List Entry) (s : Session) (m : MachineState) (h k : Option (List ℕ)) → es ≡ e ∷ [] → Answers (Err f) w e s m h k → AnswersAll {A = A} (Err f) w es s m h k
one-fault A ReadFault w e es s m h k is p = absurd p
one-fault A WriteFault w e es s m h k is p = record { last = e; is = is; cut = p }
one-fault A NoMemory w e es s m h k is p = p

pub is-empty : (xs : List ℕ) → (length xs == 0) ≡ true → xs ≡ []
is-empty [] e = refl
is-empty (x ∷ xs) e = absurd (omega (arith, eqb-true (length (x ∷ xs)) 0 e))

pub is-some : (xs : List ℕ) → (length xs == 0) ≡ false → 0 < length xs
is-some [] e = absurd cc
is-some (x ∷ xs) e = omega arith

-- a fault is one and the same in results of other values
abbrev pub failed : (A : Type 0) → Fault → Result A Fault
failed A x = Err x

pub err-same : (A B : Type 0) (x y : Fault) → failed A x ≡ failed A y → failed B x ≡ failed B y
err-same A B x y e = let same : x ≡ y = cc in ap (failed B) same

-- a line of which nothing is kept is empty
pub none-kept : (line l : List ℕ) → line ≡ take kept_bytes l → line ≡ [] → [] ≡ some_line l
none-kept line [] is empty = refl
none-kept line (b ∷ bs) is empty = absurd (omega (arith, ap length (sym empty ∙ is), length-take kept_bytes (b ∷ bs)))

pub some-kept : (line l : List ℕ) → line ≡ take kept_bytes l → 0 < length line → l ∷ [] ≡ some_line l
some-kept line [] is some = absurd (omega (arith, ap length is, length-take {A = ℕ} kept_bytes [], some))
some-kept line (b ∷ bs) is some = refl

pub last-front : (line l : List ℕ) → line ≡ take kept_bytes l → SameFront l line
last-front line l is = sym (take-take (longest_text + 1) kept_bytes l (omega arith)) ∙ ap (take (longest_text + 1)) (sym is)

-- a whole line that was not answered whole
pub turn-cut : (e : Fault) (n : LineRead) (a : Around) → (r : WholeLine n)
    → AnswersAll {A = Bool} (Err e) a.world (line_entries a.at (strip r.line)) a.session a.machine a.held a.held_then → Turns (Err e) n a
turn-cut ReadFault n a r p = absurd p
turn-cut WriteFault n a r p = inl (r, p)
turn-cut NoMemory n a r p = (record { taken = r.line ++ 10 ∷ []; took = r.took; one = few-whole r.line r.plain }, p)

-- a last line that was not answered whole
pub turn-cut-last : (e : Fault) (n : LineRead) (a : Around) → (r : LastLine n)
    → AnswersAll {A = Unit {0}} (Err e) a.world (entries_from a.at (some_line r.line)) a.session a.machine a.held a.held_then → Turns (Err e) n a
turn-cut-last ReadFault n a r p = absurd p
turn-cut-last WriteFault n a r p = inr (r, p)
turn-cut-last NoMemory n a r p = (record { taken = r.line; took = r.took; one = few-plain r.line r.plain }, p)

pub keeps-refl : (h : Option (List ℕ)) → Keeps h h
keeps-refl None = tt
keeps-refl (Some x) = refl

-- a line that was not read whole
pub turn-unread : (e : LineFault) (n : LineRead) (a : Around) → a.held_then ≡ a.held → Broken n → IsSessionOf a.world a.session a.machine → Turns (Err (fault_of e)) n a
turn-unread SourceFailed n a same b lives = (b, record { kept = subst (Keeps a.held) (sym same) (keeps-refl a.held); lives = lives })
turn-unread line.NoMemory n a same b lives = (record { taken = b.line; took = b.took; one = few-plain b.line b.plain }, subst (Keeps a.held) (sym same) (keeps-refl a.held))

pub empty-last : (n : LineRead) → LastLine n → n.kept ≡ [] → IsNoMore n
empty-last n r empty = (r, go r.line r.front) where
  go : (l : List ℕ) → n.kept ≡ take kept_bytes l → l ≡ []
  go [] is = refl
  go (b ∷ bs) is = absurd (omega (arith, ap length (sym empty ∙ is), length-take kept_bytes (b ∷ bs)))

pub some-last : (n : LineRead) → LastLine n → 0 < length n.kept → IsMore n
some-last n r some = inr (inr (r, omega (arith, some, ap length r.front, length-take kept_bytes r.line)))
