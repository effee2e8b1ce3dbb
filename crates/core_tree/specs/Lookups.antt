-- What the look-ups of a core answer, by its table of blocks and its list of routines.
use Rattle.std.specs.Prelude.{ℕ, ◌==◌, Bool, true, false, ◌||◌, not, ◌&&◌, List, [], ◌∷◌, find, slice_get, Option, Some, None, option_map}
use Rattle.dice_base.specs.declared.name.Name.{Name}
use Rattle.dice_base.specs.declared.link.LinkTo.{LinkTo}
use Rattle.dice_base.specs.declared.link.LinkTo.TheVariants as to
use Rattle.core_tree.specs.declared.form.CoreForm.{CoreForm}
use Rattle.core_tree.specs.declared.form.CoreForm.TheVariants as form
use Rattle.core_tree.specs.declared.program.CoreBlock.{CoreBlock}
use Rattle.core_tree.specs.declared.program.CoreLabel.{CoreLabel}
use Rattle.core_tree.specs.declared.program.CoreRoutine.{CoreRoutine}
use Rattle.core_tree.specs.declared.program.LinkEnd.{LinkEnd}
use Rattle.core_tree.specs.declared.program.LinkEnd.TheVariants as link

-- the block of a name
abbrev pub block_of : List CoreBlock → ℕ → Option CoreBlock
block_of blocks n = find (λ b. b.name.0 == n) blocks

-- what stands around a block
abbrev pub around_by : Option CoreBlock → Option Name
around_by None = None
around_by (Some b) = b.around

-- the program or the routine of a name
abbrev pub routine_of : List CoreRoutine → ℕ → Option CoreRoutine
routine_of routines n = find (λ r. r.name.0 == n) routines

-- no two blocks have one name
abbrev pub has_block : List CoreBlock → ℕ → Bool
has_block [] n = false
has_block (b ∷ bs) n = b.name.0 == n || has_block bs n

abbrev pub are_apart : List CoreBlock → Bool
are_apart [] = true
are_apart (b ∷ bs) = not (has_block bs b.name.0) && are_apart bs

-- ---- ends of links, over the lists of a core. `end_of` of Control says the same of the table of a program

-- where a label stands
abbrev pub label_link : List CoreLabel → ℕ → Option LinkEnd
label_link labels l = option_map (λ x. link.Gate x.entry) (find (λ x. x.label == l) labels)

abbrev pub core_labels : Option CoreRoutine → List CoreLabel
core_labels None = []
core_labels (Some r) = r.labels

-- a routine is called, the program and a statement are not
abbrev pub form_link : Name → CoreForm → Option LinkEnd
form_link n (form.Routine r) = Some (link.Block n)
form_link n f = None

abbrev pub call_link : Name → Option CoreBlock → Option LinkEnd
call_link n None = None
call_link n (Some b) = form_link n b.form

-- the end of a link word of a block
abbrev pub link_in : List CoreBlock → List CoreRoutine → CoreBlock → LinkTo → Option LinkEnd
link_in blocks routines b to.Next = b.next
link_in blocks routines b (to.Child k) = option_map (λ n. link.Gate n) (slice_get b.entries k)
link_in blocks routines b (to.Label l) = label_link (core_labels (routine_of routines b.routine.0)) l
link_in blocks routines b (to.Routine r) = call_link r (block_of blocks r.0)

abbrev pub link_by : List CoreBlock → List CoreRoutine → Option CoreBlock → LinkTo → Option LinkEnd
link_by blocks routines None to = None
link_by blocks routines (Some b) to = link_in blocks routines b to

abbrev pub link_of : List CoreBlock → List CoreRoutine → ℕ → LinkTo → Option LinkEnd
link_of blocks routines n to = link_by blocks routines (block_of blocks n) to
