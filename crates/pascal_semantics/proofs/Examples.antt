-- The definitions on worked programs.
use Rattle.std.proofs.Common.{◌≡◌, List, [], ◌∷◌, Some, None, refl}
use Rattle.std.specs.Prelude.{codes, ◌++◌}
use Rattle.std.specs.Fmt.{digits}
use Rattle.pascal_semantics.specs.declared.form.Operand.TheVariants.{Global, Number}
use Rattle.pascal_semantics.specs.declared.form.Statement.{Statement}
use Rattle.pascal_semantics.specs.declared.form.SimpleForm.TheVariants.{Assign, WriteLine, Empty}
use Rattle.pascal_semantics.specs.Program.{program_of}
use Rattle.pascal_semantics.specs.State.{Ended, Failed, loaded_state}
use Rattle.pascal_semantics.specs.Charge.{charges_of}
use Rattle.pascal_semantics.specs.Run.{run_of, settled, driven}

-- var i, s: integer; begin i := 2; s := i + 40; writeln(s:1) end, whose statements are 4, 7 and 5
abbrev answer : List Statement
answer =
    record { name = 4; form = Assign 0 (record { first = Number 2; second = None }) }
    ∷ record { name = 7; form = Assign 1 (record { first = Global 0; second = Some (Number 40) }) }
    ∷ record { name = 5; form = WriteLine (record { first = Global 1; second = None }) (Some 1) }
    ∷ []

answer_words : charges_of answer ≡ 156
answer_words = refl

answer_output : (run_of (program_of answer) 1000000 loaded_state).output ≡ codes "42" ++ 10 ∷ []
unfolding settled driven digits
answer_output = refl

answer_ends : (run_of (program_of answer) 1000000 loaded_state).status ≡ Ended
unfolding settled driven digits
answer_ends = refl

-- its first gate alone: it then stands at the statement 7
answer_stops : (run_of (program_of answer) 1 loaded_state).activations ≡ record { routine = 1; statement = 7; frames = [] } ∷ []
unfolding settled driven digits
answer_stops = refl

-- var x: integer; begin x := 32767; x := x + 1 end
abbrev too_large : List Statement
too_large = record { name = 4; form = Assign 0 (record { first = Number 32767; second = None }) } ∷ record { name = 5; form = Assign 0 (record { first = Global 0; second = Some (Number 1) }) } ∷ []

too_large_fails : (run_of (program_of too_large) 1000000 loaded_state).status ≡ Failed 3 5
unfolding settled driven digits
too_large_fails = refl

-- begin ; end, two empty statements: one gate leads to the second, and two to the end
abbrev nothing : List Statement
nothing = record { name = 4; form = Empty } ∷ record { name = 5; form = Empty } ∷ []

nothing_words : charges_of nothing ≡ 16
nothing_words = refl

nothing_stops : (run_of (program_of nothing) 1 loaded_state).activations ≡ record { routine = 1; statement = 5; frames = [] } ∷ []
unfolding settled driven
nothing_stops = refl

nothing_ends : (run_of (program_of nothing) 2 loaded_state).status ≡ Ended
unfolding settled driven
nothing_ends = refl

-- no statement at all: a run of one gate ends at once, with every variable still zero
none_ends : run_of (program_of []) 1 loaded_state ≡ record loaded_state { status = Ended }
unfolding settled driven
none_ends = refl
