-- The steps of the walk through blocks: what the calls of a block and of a routine answer makes the answer of the whole.
use Rattle.std.proofs.lemmas.List.{drop_more}
use Rattle.std.proofs.Math.Seq.{take-length}
use Rattle.std.proofs.Common.{◌≡◌, ℕ, Bool, ◌+◌, ◌-◌, ◌<◌, length, length-drop, take, drop, get_or, List, [], ◌∷◌, ◌++◌, map, true, Option, Some, None, is_some, Result, Ok, Err, ap, sym, ◌∙◌, subst, refl}
use Rattle.pascal_tree.specs.declared.stmt.Stmt.{Stmt}
use Rattle.pascal_tree.specs.declared.decl.Block.{Block, out-Block}
use Rattle.pascal_tree.specs.declared.decl.Routine.{Routine, Routine-F, out-Routine, map-Routine}
use Rattle.pascal_tree.specs.declared.decl.Heading.{Heading}
use Rattle.pascal_tree.specs.declared.decl.Decl.{Decl}
use Rattle.dice_base.specs.declared.name.Name.{Name}
use Rattle.check_rules.specs.declared.fault.CheckEnd.{CheckEnd}
use Rattle.check_rules.specs.declared.fault.CheckEnd.TheVariants as the_end
use Rattle.check_rules.specs.Regions.{Regions}
use Rattle.body_labels.specs.Labels.{Numbers, placed_labels}
use Rattle.check_decl.specs.declared.place.At.{At}
use Rattle.check_decl.specs.declared.place.Owner.{Owner}
use Rattle.check_decl.specs.declared.place.Row.{Row}
use Rattle.check_rules.specs.declared.entity.Region.{Region}
use Rattle.check_decl.specs.Answers.{Answers}
use Rattle.check_decl.specs.declared.heads.Headed.{Headed}
use Rattle.check_decl.specs.declared.routines.Naming.{Naming}
use Rattle.check_decl.specs.BlockRules.{Outcome, then_on, declarations, routine_items, routine_item, routine_head, after_head, owner_of, place_inside, back_in, place_after, naming_of, BlockJudge, RoutineJudge}
use Rattle.check_decl.specs.Blocks.{BodyRule, bodyless, rest_walk, labels_in, in_routine, decl_judge, block_judge, routine_judge}
use Rattle.check_decl.proofs.Rules.{block_is, routine_is, heading_is, name_is, has_block, idents_same, naming_same}

-- ---- a block

abbrev pub declared_in : Block → Owner → Regions → At → Outcome
declared_in b owner outer here =
    declarations (labels_in (out-Block b).labels) (placed_labels (out-Block b).body)
    (map decl_judge (out-Block b).consts) (map decl_judge (out-Block b).types) (map decl_judge (out-Block b).vars)
    owner outer here

pub after_declarations : (rule : BodyRule) (b : Block) (owner : Owner) (outer : Regions) (here h1 : At)
    → declared_in b owner outer here ≡ Ok h1
    → (block_judge rule b).walk owner outer here ≡ rest_walk rule (out-Block b) owner outer h1
after_declarations rule b owner outer here h1 e =
    ap (λ (j : BlockJudge). j.walk owner outer here) (block_is rule b)
    ∙ ap (λ (o : Outcome). then_on o (rest_walk rule (out-Block b) owner outer)) e

-- ---- answers

pub answers_along : (result : Result At CheckEnd) (a b : Outcome) → a ≡ b → Answers result b → Answers result a
answers_along result a b e h = subst (λ (o : Outcome). Answers result o) (sym e) h

pub err_on : (end : CheckEnd) (o : Outcome) (k : At → Outcome) → Answers (Err end) o → Answers (Err end) (then_on o k)
err_on (the_end.Fault f) o k h = ap (λ (x : Outcome). then_on x k) h
err_on (the_end.Size f) o k h = h
err_on the_end.NoMemory o k h = tt

-- ---- a routine with a block

abbrev pub inside_of : BodyRule → Routine → Block → Owner → Regions → Headed → Outcome
inside_of rule r b owner outer h =
    (block_judge rule b).walk (owner_of h.routine owner) (outer ++ h.here.block ∷ [])
    (place_inside (out-Routine r).heading.ident h.routine (block_judge bodyless b).idents h.here.known)

abbrev layer_judge : BodyRule → Routine-F Block Routine → RoutineJudge
layer_judge rule x = in_routine rule (map-Routine Block Routine BlockJudge RoutineJudge (block_judge rule) (routine_judge rule) x)

layer_item : (rule : BodyRule) (name : Name) (heading : Heading) (b : Block) (n : Naming) (owner : Owner) (outer : Regions) (here : At) (h : Headed)
    → routine_head name heading true n owner.level outer here ≡ Ok h
    → routine_item (layer_judge rule (record { name = name; heading = heading; block = Some b })) n owner outer here
    ≡ then_on ((block_judge rule b).walk (owner_of h.routine owner) (outer ++ h.here.block ∷ [])
    (place_inside heading.ident h.routine (block_judge bodyless b).idents h.here.known)) (back_in (owner_of h.routine owner) h.here)
layer_item rule name heading b n owner outer here h e =
    ap (after_head (layer_judge rule (record { name = name; heading = heading; block = Some b })) owner outer) e
    ∙ ap (λ xs. then_on ((block_judge rule b).walk (owner_of h.routine owner) (outer ++ h.here.block ∷ [])
    (place_inside heading.ident h.routine xs h.here.known)) (back_in (owner_of h.routine owner) h.here)) (idents_same rule b)

layer_entered : (rule : BodyRule) (name : Name) (heading : Heading) (o : Option Block) (b : Block) (n : Naming) (owner : Owner) (outer : Regions) (here : At) (h : Headed)
    → o ≡ Some b
    → routine_head name heading (is_some o) n owner.level outer here ≡ Ok h
    → routine_item (layer_judge rule (record { name = name; heading = heading; block = o })) n owner outer here
    ≡ then_on ((block_judge rule b).walk (owner_of h.routine owner) (outer ++ h.here.block ∷ [])
    (place_inside heading.ident h.routine (block_judge bodyless b).idents h.here.known)) (back_in (owner_of h.routine owner) h.here)
layer_entered rule name heading o b n owner outer here h s e =
    ap (λ x. routine_item (layer_judge rule (record { name = name; heading = heading; block = x })) n owner outer here) s
    ∙ layer_item rule name heading b n owner outer here h
    (subst (λ x. routine_head name heading (is_some x) n owner.level outer here ≡ Ok h) s e)

pub entered_is : (rule : BodyRule) (r : Routine) (b : Block) (n : Naming) (owner : Owner) (outer : Regions) (here : At) (h : Headed)
    → (out-Routine r).block ≡ Some b
    → routine_head (out-Routine r).name (out-Routine r).heading (is_some (out-Routine r).block) n owner.level outer here ≡ Ok h
    → routine_item (routine_judge rule r) n owner outer here
    ≡ then_on (inside_of rule r b owner outer h) (back_in (owner_of h.routine owner) h.here)
entered_is rule r b n owner outer here h s e =
    ap (λ (j : RoutineJudge). routine_item j n owner outer here) (routine_is rule r)
    ∙ layer_entered rule (out-Routine r).name (out-Routine r).heading (out-Routine r).block b n owner outer here h s e

-- ---- routines in turn

abbrev pub naming_at : Routine → List Routine → Naming
naming_at r rs = naming_of (out-Routine r).name (out-Routine r).heading (is_some (out-Routine r).block) (map (routine_judge bodyless) rs)

naming_is : (rule : BodyRule) (r : Routine) (rs : List Routine)
    → naming_of (routine_judge rule r).name (routine_judge rule r).heading (is_some (routine_judge rule r).block) (map (routine_judge rule) rs) ≡ naming_at r rs
naming_is rule r rs =
    ap (λ n. naming_of n (routine_judge rule r).heading (is_some (routine_judge rule r).block) (map (routine_judge rule) rs)) (name_is rule r)
    ∙ (ap (λ h. naming_of (out-Routine r).name h (is_some (routine_judge rule r).block) (map (routine_judge rule) rs)) (heading_is rule r)
    ∙ (ap (λ s. naming_of (out-Routine r).name (out-Routine r).heading s (map (routine_judge rule) rs)) (has_block rule r)
    ∙ naming_same rule (out-Routine r).name (out-Routine r).heading (is_some (out-Routine r).block) rs))

pub turn_is : (rule : BodyRule) (r : Routine) (rs : List Routine) (owner : Owner) (outer : Regions) (here : At)
    → routine_items owner outer (map (routine_judge rule) (r ∷ rs)) here
    ≡ then_on (routine_item (routine_judge rule r) (naming_at r rs) owner outer here)
    (routine_items owner outer (map (routine_judge rule) rs))
turn_is rule r rs owner outer here =
    ap (λ n. then_on (routine_item (routine_judge rule r) n owner outer here) (routine_items owner outer (map (routine_judge rule) rs))) (naming_is rule r rs)

pub inside_is : (rule : BodyRule) (r : Routine) (b : Block) (owner : Owner) (outer : Regions) (h : Headed) (own : Owner) (begin : At) (region : Region) (pushed : Regions)
    → own ≡ owner_of h.routine owner
    → begin ≡ place_inside (out-Routine r).heading.ident h.routine (block_judge bodyless b).idents h.here.known
    → region ≡ h.here.block
    → pushed ≡ outer ++ region ∷ []
    → inside_of rule r b owner outer h ≡ (block_judge rule b).walk own pushed begin
inside_is rule r b owner outer h own begin region pushed o i g p =
    sym (ap (λ x. (block_judge rule b).walk x pushed begin) o
    ∙ (ap (λ x. (block_judge rule b).walk (owner_of h.routine owner) pushed x) i
    ∙ ap (λ x. (block_judge rule b).walk (owner_of h.routine owner) x (place_inside (out-Routine r).heading.ident h.routine (block_judge bodyless b).idents h.here.known))
    (p ∙ ap (λ x. outer ++ x ∷ []) g)))

pub left_is : (rule : BodyRule) (r : Routine) (b : Block) (owner : Owner) (outer : Regions) (h : Headed) (own : Owner) (after : At) (region : Region) (rows : List Row) (words : ℕ)
    → own ≡ owner_of h.routine owner
    → inside_of rule r b owner outer h ≡ Ok after
    → region ≡ h.here.block
    → rows ≡ h.here.rows
    → words ≡ h.here.words
    → then_on (inside_of rule r b owner outer h) (back_in (owner_of h.routine owner) h.here) ≡ place_after own after region rows words
left_is rule r b owner outer h own after region rows words o e g rs ws =
    ap (λ (x : Outcome). then_on x (back_in (owner_of h.routine owner) h.here)) e
    ∙ sym (ap (λ x. place_after x after region rows words) o
    ∙ (ap (λ x. place_after (owner_of h.routine owner) after x rows words) g
    ∙ (ap (λ x. place_after (owner_of h.routine owner) after h.here.block x words) rs
    ∙ ap (λ x. place_after (owner_of h.routine owner) after h.here.block h.here.rows x) ws)))

pub head_is : (r : Routine) (n : Naming) (level : ℕ) (outer seen : Regions) (here : At) (h : Headed) (some : Bool)
    → some ≡ is_some (out-Routine r).block
    → seen ≡ outer
    → routine_head (out-Routine r).name (out-Routine r).heading some n level seen here ≡ Ok h
    → routine_head (out-Routine r).name (out-Routine r).heading (is_some (out-Routine r).block) n level outer here ≡ Ok h
head_is r n level outer seen here h some s o e =
    subst (λ x. routine_head (out-Routine r).name (out-Routine r).heading x n level outer here ≡ Ok h) s
    (subst (λ x. routine_head (out-Routine r).name (out-Routine r).heading some n level x here ≡ Ok h) o e)

pub walk_is : (rule : BodyRule) (b : Block) (owner : Owner) (outer : Regions) (here : At)
    → (block_judge rule b).walk owner outer here ≡ then_on (declared_in b owner outer here) (rest_walk rule (out-Block b) owner outer)
walk_is rule b owner outer here = ap (λ (j : BlockJudge). j.walk owner outer here) (block_is rule b)

-- ---- the region that is taken back is the one that was lent

abbrev last_of : Region → Regions → Region
last_of d [] = d
last_of d (x ∷ xs) = last_of x xs

last_append : (d : Region) (xs : Regions) (a : Region) → last_of d (xs ++ a ∷ []) ≡ a
last_append d [] a = refl
last_append d (x ∷ xs) a = last_append x xs a

pub last_is : (xs ys : Regions) (a b : Region) → xs ++ a ∷ [] ≡ ys ++ b ∷ [] → a ≡ b
last_is xs ys a b e = sym (last_append a xs a) ∙ (ap (λ zs. last_of a zs) e ∙ last_append a ys b)

-- ---- a turn of the loop over routines

take_rest : (rs : List Routine) (j : ℕ) → take (length rs - j) (drop j rs) ≡ drop j rs
take_rest rs j = ap (λ n. take n (drop j rs)) (sym (length-drop j rs)) ∙ take-length (drop j rs)

pub turn_at : (rule : BodyRule) (rs : List Routine) (i : ℕ) (r : Routine) (some : Bool) (n : Naming) (owner : Owner) (outer : Regions) (here : At)
    → i < length rs
    → r ≡ get_or rs i r
    → some ≡ is_some (out-Routine r).block
    → n ≡ naming_of (out-Routine r).name (out-Routine r).heading some (map (routine_judge bodyless) (take (length rs - (i + 1)) (drop (i + 1) rs)))
    → routine_items owner outer (map (routine_judge rule) (drop i rs)) here
    ≡ then_on (routine_item (routine_judge rule r) n owner outer here) (routine_items owner outer (map (routine_judge rule) (drop (i + 1) rs)))
turn_at rule rs i r some n owner outer here lt is s e =
    let first : drop i rs ≡ r ∷ drop (i + 1) rs = drop_more rs i r lt ∙ ap (λ x. x ∷ drop (i + 1) rs) (sym is) in
    let named : n ≡ naming_at r (drop (i + 1) rs) =
    e ∙ (ap (λ x. naming_of (out-Routine r).name (out-Routine r).heading x (map (routine_judge bodyless) (take (length rs - (i + 1)) (drop (i + 1) rs)))) s
    ∙ ap (λ xs. naming_of (out-Routine r).name (out-Routine r).heading (is_some (out-Routine r).block) (map (routine_judge bodyless) xs)) (take_rest rs (i + 1))) in
    ap (λ xs. routine_items owner outer (map (routine_judge rule) xs) here) first
    ∙ (turn_is rule r (drop (i + 1) rs) owner outer here
    ∙ ap (λ m. then_on (routine_item (routine_judge rule r) m owner outer here) (routine_items owner outer (map (routine_judge rule) (drop (i + 1) rs)))) (sym named))
