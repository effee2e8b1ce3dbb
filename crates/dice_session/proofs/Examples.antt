-- Runs of worked programs, and transcripts.
use Rattle.std.proofs.Common.{◌≡◌, ℕ, List, [], ◌∷◌, ◌++◌, Some, None, refl}
use Rattle.std.specs.Prelude.{codes}
use Rattle.std.specs.Fmt.{digits}
use Rattle.pascal_semantics.specs.declared.form.Operand.TheVariants.{Global, Number}
use Rattle.pascal_semantics.specs.declared.form.SimpleForm.TheVariants.{Assign, WriteLine, Empty}
use Rattle.pascal_semantics.specs.declared.form.Statement.{Statement}
use Rattle.pascal_semantics.specs.Program.{program_of}
use Rattle.pascal_semantics.specs.State.{loaded_state}
use Rattle.pascal_semantics.specs.Run.{settled, driven, run_of}
use Rattle.dice_command.specs.declared.command.Command.TheVariants.{List as Listing, Apply, Run, Quit, Unbuilt, Bad}
use Rattle.pascal_scanner.specs.declared.fault.ScanFault.TheVariants.{TextTooLong, NumberTooLarge}
use Rattle.token_reader.specs.declared.fault.ParseFault.TheVariants.{Unexpected, EndsEarly, TooDeep}
use Rattle.dice_command.specs.declared.command.CommandFault.TheVariants.{Scan, Parse}
use Rattle.dice_session.specs.World.{reply_line, loaded_line, run_lines, reply_of, transcript_of}

-- the reply to a run of so many gates from the start
abbrev told_of : List Statement → ℕ → List ℕ
told_of ss gates = run_lines (run_of (program_of ss) gates loaded_state)

-- program m; var i, s: integer; begin i := 2; s := i + 40; writeln(s:1) end.
abbrev answer : List Statement
answer =
    record { name = 4; form = Assign 0 (record { first = Number 2; second = None }) }
    ∷ record { name = 5; form = Assign 1 (record { first = Global 0; second = Some (Number 40) }) }
    ∷ record { name = 6; form = WriteLine (record { first = Global 1; second = None }) (Some 1) }
    ∷ []

answer_loaded : loaded_line answer ≡ reply_line (codes "loaded 4 blocks 188 words")
unfolding digits
answer_loaded = refl

answer_told : told_of answer 1000000 ≡ reply_line (codes "output 3") ++ reply_line (codes "42") ++ reply_line (codes "ended")
unfolding settled driven digits
answer_told = refl

-- a run of fewer gates stops before its next statement, and another goes on from there
answer_twice : told_of answer 1 ++ run_lines (run_of (program_of answer) 1 (run_of (program_of answer) 1 loaded_state)) ≡ reply_line (codes "stopped at 5") ++ reply_line (codes "stopped at 6")
unfolding settled driven digits
answer_twice = refl

-- the same with `begin s := i + 1; end` in the place of `s := i + 40`, whose statements are 7 and 8
abbrev edited : List Statement
edited =
    record { name = 4; form = Assign 0 (record { first = Number 2; second = None }) }
    ∷ record { name = 7; form = Assign 1 (record { first = Global 0; second = Some (Number 1) }) }
    ∷ record { name = 8; form = Empty }
    ∷ record { name = 6; form = WriteLine (record { first = Global 1; second = None }) (Some 1) }
    ∷ []

edited_loaded : loaded_line edited ≡ reply_line (codes "loaded 5 blocks 196 words")
unfolding digits
edited_loaded = refl

edited_told : told_of edited 2 ++ told_of edited 9 ≡ reply_line (codes "stopped at 8") ++ reply_line (codes "output 2") ++ reply_line (codes "3") ++ reply_line (codes "ended")
unfolding settled driven digits
edited_told = refl

-- program o; var x: integer; begin x := 32767; x := x + 1 end.
abbrev too_large : List Statement
too_large =
    record { name = 4; form = Assign 0 (record { first = Number 32767; second = None }) }
    ∷ record { name = 5; form = Assign 0 (record { first = Global 0; second = Some (Number 1) }) }
    ∷ []

too_large_told : told_of too_large 9 ≡ reply_line (codes "error 3 at 5")
unfolding settled driven digits
too_large_told = refl

-- no program, and texts that are not read
none_told : transcript_of (Run 1 ∷ Listing ∷ Apply ∷ Bad (Parse (Unexpected 2)) ∷ Bad (Parse EndsEarly) ∷ Bad (Parse TooDeep) ∷ Bad (Scan (NumberTooLarge 25)) ∷ Bad (Scan TextTooLong) ∷ Unbuilt ∷ Quit ∷ [])
    ≡ reply_line (codes "no program") ++ reply_line (codes "no program") ++ reply_line (codes "no program") ++ reply_line (codes "parse fault at token 2") ++ reply_line (codes "parse fault end") ++ reply_line (codes "too deep")
    ++ reply_line (codes "scan fault number at 25") ++ reply_line (codes "text too long") ++ reply_line (codes "not built")
unfolding reply_of digits
none_told = refl

-- a program with an empty statement, `begin ; writeln(7) end`, whose statements are 4 and 9
abbrev with_empty : List Statement
with_empty = record { name = 4; form = Empty } ∷ record { name = 9; form = WriteLine (record { first = Number 7; second = None }) None } ∷ []

with_empty_loaded : loaded_line with_empty ≡ reply_line (codes "loaded 3 blocks 84 words")
unfolding digits
with_empty_loaded = refl

with_empty_stops : told_of with_empty 1 ≡ reply_line (codes "stopped at 9")
unfolding settled driven digits
with_empty_stops = refl

with_empty_ends : told_of with_empty 2 ≡ reply_line (codes "output 9") ++ reply_line (codes "       7") ++ reply_line (codes "ended")
unfolding settled driven digits
with_empty_ends = refl

-- a program with no statement ends at once, `begin end` with its one empty statement at its first gate
none_loaded : loaded_line [] ≡ reply_line (codes "loaded 1 blocks 32 words")
unfolding digits
none_loaded = refl

none_ends : told_of [] 1 ≡ reply_line (codes "ended")
unfolding settled driven digits
none_ends = refl

empty_ends : told_of (record { name = 4; form = Empty } ∷ []) 1 ≡ reply_line (codes "ended")
unfolding settled driven digits
empty_ends = refl
