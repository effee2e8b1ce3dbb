-- What a program is resolved to, or why it is not: its first fault, and where it has none the first limit that one of its
-- blocks does not keep.
use Rattle.std.specs.Prelude.{◌≡◌, ℕ, map, Option, Some, None, Result, Ok, Err}
use Rattle.pascal_tree.specs.declared.program.Tree.{Tree}
use Rattle.check_rules.specs.declared.fault.SizeFault.{SizeFault}
use Rattle.check_rules.specs.declared.fault.CheckEnd.{CheckEnd}
use Rattle.check_rules.specs.declared.fault.CheckEnd.TheVariants as the_end
use Rattle.check_decl.specs.declared.place.At.{At}
use Rattle.core_tree.specs.Control.{core_rows}
use Rattle.resolve_types.specs.Programs.{AreBuilt, program_over}
use Rattle.resolve_types.specs.Resolved.{domain_shape, written_shapes}
use Rattle.resolve_statements.specs.Bodies.{statement_of}
use Rattle.resolve_statements.specs.Sizes.{first_size}
use Rattle.check_program.specs.declared.parts.Parts.{Parts}
use Rattle.check_program.specs.Programs.{checked}
use Rattle.check_program.specs.Resolution.{Headings}

-- the first limit that a block of the program does not keep, whatever the headings are
abbrev pub HasSize : Tree → At → Option SizeFault → Type 0
HasSize p end s = (h : Headings) → first_size (core_rows (program_over statement_of end h p)) ≡ s

-- its types, the types of its pointers' domains, and its routines and blocks, which keep their limits
pub record ArePartsOf (parts : Parts) (p : Tree) (end : At) : Type 0 where
  pub shapes : map (λ e. e.shape) parts.shapes.entries ≡ written_shapes end.known.table
  pub domains : parts.domains ≡ map domain_shape end.known.domains
  pub built : AreBuilt statement_of p end parts.shapes.entries parts.routines parts.blocks
  pub fit : HasSize p end None

-- of a program that was checked up to this end
abbrev pub IsOutcome : Result Parts CheckEnd → Tree → At → Type 0
IsOutcome (Ok parts) p end = ArePartsOf parts p end
IsOutcome (Err (the_end.Size s)) p end = HasSize p end (Some s)
IsOutcome (Err (the_end.Fault f)) p end = ⊥
IsOutcome (Err the_end.NoMemory) p end = Unit {0}

-- want of memory tells nothing
abbrev pub IsResolution : Result Parts CheckEnd → Tree → Type 0
IsResolution (Ok parts) p = (end : At) × (checked p ≡ Ok end) × ArePartsOf parts p end
IsResolution (Err (the_end.Fault f)) p = checked p ≡ Err f
IsResolution (Err (the_end.Size s)) p = (end : At) × (checked p ≡ Ok end) × HasSize p end (Some s)
IsResolution (Err the_end.NoMemory) p = Unit {0}
