-- What is predeclared, in groups of two or three.
use Rattle.std.specs.Prelude.{List, [], ◌∷◌, codes}
use Rattle.check_rules.specs.declared.entity.Entity.TheVariants.{StandardOf}
use Rattle.check_rules.specs.declared.entity.Standard.TheVariants as standard
use Rattle.check_rules.specs.declared.entity.Declared.{Declared}
use Rattle.check_rules.specs.Regions.{declaration_of}

abbrev pub arithmetic_functions : List Declared
arithmetic_functions =
    declaration_of (codes "abs") (StandardOf standard.Abs)
    ∷ declaration_of (codes "sqr") (StandardOf standard.Sqr)
    ∷ declaration_of (codes "odd") (StandardOf standard.Odd)
    ∷ []

abbrev pub ordinal_functions : List Declared
ordinal_functions =
    declaration_of (codes "ord") (StandardOf standard.Ord)
    ∷ declaration_of (codes "chr") (StandardOf standard.Chr)
    ∷ declaration_of (codes "succ") (StandardOf standard.Succ)
    ∷ []

abbrev pub last_functions : List Declared
last_functions =
    declaration_of (codes "pred") (StandardOf standard.Pred)
    ∷ declaration_of (codes "eof") (StandardOf standard.Eof)
    ∷ declaration_of (codes "eoln") (StandardOf standard.Eoln)
    ∷ []

abbrev pub pointer_procedures : List Declared
pointer_procedures =
    declaration_of (codes "new") (StandardOf standard.New)
    ∷ declaration_of (codes "dispose") (StandardOf standard.Dispose)
    ∷ []

abbrev pub input_procedures : List Declared
input_procedures =
    declaration_of (codes "read") (StandardOf standard.Read)
    ∷ declaration_of (codes "readln") (StandardOf standard.Readln)
    ∷ []

abbrev pub output_procedures : List Declared
output_procedures =
    declaration_of (codes "write") (StandardOf standard.Write)
    ∷ declaration_of (codes "writeln") (StandardOf standard.Writeln)
    ∷ []
