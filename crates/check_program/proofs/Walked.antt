-- The steps of the walk: what the calls of a block and of a routine in it add makes what the whole adds.
use Rattle.std.proofs.Common.{◌≡◌, ◌<◌, ◌+◌, ℕ, List, [], ◌∷◌, ◌++◌, length, drop, get_or, Option, Some, None, Result, Ok, Err, ap, sym, subst, refl, ◌∙◌, append-nil}
use Rattle.std.proofs.lemmas.List.{drop_more}
use Rattle.dice_base.specs.declared.name.Name.{Name}
use Rattle.pascal_tree.specs.declared.decl.Block.{Block, out-Block}
use Rattle.pascal_tree.specs.declared.decl.Routine.{Routine, out-Routine}
use Rattle.check_rules.specs.declared.fault.CheckEnd.{CheckEnd}
use Rattle.check_rules.specs.declared.entity.RoutineEntity.{RoutineEntity}
use Rattle.check_rules.specs.Typing.{Text}
use Rattle.check_decl.specs.declared.place.At.{At}
use Rattle.check_decl.specs.declared.place.Owner.{Owner}
use Rattle.check_decl.specs.BlockRules.{owner_of}
use Rattle.core_tree.specs.declared.program.LinkEnd.{LinkEnd}
use Rattle.core_tree.specs.Control.{link_flow, routines_list, routines_rows}
use Rattle.core_tree.specs.Plain.{NoRoutine}
use Rattle.resolve_expr.specs.declared.context.Context.{Context}
use Rattle.resolve_types.specs.Programs.{context_of, entered}
use Rattle.resolve_types.proofs.Assembled.{context_inside}
use Rattle.check_program.specs.declared.lists.Lists.{Lists}
use Rattle.check_program.specs.Resolution.{Adds, AddsBody, Headings, block_listed, block_rows, body_rows, inner_listed, inner_rows, own_listed, own_rows, rest_rows, routine_of, routines_viewed}
use Rattle.check_program.proofs.Joined.{adds_behind, adds_ended, adds_none, adds_same}
use Rattle.check_program.proofs.Viewed.{listed_in, rows_in, listed_one, rows_one, listed_turn, rows_turn}

-- ---- a block

pub block_adds : {U V : Type 0} (res : Result U CheckEnd) (v : V) (end : At) (old middle new : Lists) (other : Name) (x : Text) (f : RoutineEntity) (owner : Owner) (b : Block)
    → owner.name ≡ f.name
    → Adds (Ok v) end old middle (own_listed end other x f (out-Block b).body (context_of end owner)) (own_rows end x f (out-Block b).body (context_of end owner))
    → Adds res end middle new (inner_listed end owner (out-Block b).routines) (rest_rows end x f owner (out-Block b))
    → Adds res end old new (block_listed end other x f owner b) (block_rows end x f owner b)
block_adds res v end old middle new other x f owner b same before more =
    adds_behind res v end old middle new (block_listed end other x f owner b)
    (own_listed end other x f (out-Block b).body (context_of end owner)) (inner_listed end owner (out-Block b).routines)
    (block_rows end x f owner b) (own_rows end x f (out-Block b).body (context_of end owner)) (rest_rows end x f owner (out-Block b))
    (λ h. listed_in end other x f owner b h same) (λ h. rows_in end x f owner b h) before more

pub block_ended : (U V : Type 0) (e : CheckEnd) (end : At) (old new : Lists) (other : Name) (x : Text) (f : RoutineEntity) (owner : Owner) (b : Block)
    → Adds {U = U} (Err e) end old new (own_listed end other x f (out-Block b).body (context_of end owner)) (own_rows end x f (out-Block b).body (context_of end owner))
    → Adds {U = V} (Err e) end old new (block_listed end other x f owner b) (block_rows end x f owner b)
block_ended U V e end old new other x f owner b ends =
    adds_ended U V e end old new new (block_listed end other x f owner b)
    (own_listed end other x f (out-Block b).body (context_of end owner))
    (block_rows end x f owner b) (own_rows end x f (out-Block b).body (context_of end owner)) (rest_rows end x f owner (out-Block b))
    (λ h. rows_in end x f owner b h) ends

-- ---- the routines in it, and its body

pub rest_adds : {U V : Type 0} (res : Result U CheckEnd) (v : V) (end : At) (old middle new : Lists) (x : Text) (f : RoutineEntity) (owner : Owner) (b : Block) (seen : List Routine) (c : Context)
    → seen ≡ (out-Block b).routines → c ≡ context_of end owner
    → Adds (Ok v) end old middle (inner_listed end owner seen) (inner_rows end owner seen)
    → AddsBody res middle new f (out-Block b).body c
    → Adds res end old new (inner_listed end owner (out-Block b).routines) (rest_rows end x f owner (out-Block b))
rest_adds res v end old middle new x f owner b seen c same at before more =
    let rs = (out-Block b).routines in
    adds_behind res v end old middle new (inner_listed end owner rs) (inner_listed end owner rs) (λ h. [])
    (rest_rows end x f owner (out-Block b)) (inner_rows end owner rs) (body_rows end x f (out-Block b).body (context_of end owner))
    (λ h. sym (append-nil (inner_listed end owner rs h))) (λ h. refl)
    (subst (λ qs. Adds (Ok v) end old middle (inner_listed end owner qs) (inner_rows end owner qs)) same before)
    (subst (λ k. Adds res end middle new (λ h. []) (body_rows end x f (out-Block b).body k)) at (more.adds end x))

pub rest_ended : (U V : Type 0) (e : CheckEnd) (end : At) (old new : Lists) (x : Text) (f : RoutineEntity) (owner : Owner) (b : Block) (seen : List Routine)
    → seen ≡ (out-Block b).routines
    → Adds {U = U} (Err e) end old new (inner_listed end owner seen) (inner_rows end owner seen)
    → Adds {U = V} (Err e) end old new (inner_listed end owner (out-Block b).routines) (rest_rows end x f owner (out-Block b))
rest_ended U V e end old new x f owner b seen same ends =
    let rs = (out-Block b).routines in
    adds_ended U V e end old new new (inner_listed end owner rs) (inner_listed end owner rs)
    (rest_rows end x f owner (out-Block b)) (inner_rows end owner rs) (body_rows end x f (out-Block b).body (context_of end owner))
    (λ h. refl)
    (subst (λ qs. Adds {U = U} (Err e) end old new (inner_listed end owner qs) (inner_rows end owner qs)) same ends)

-- ---- a routine in a block

pub nothing_adds : {U : Type 0} (u : U) (end : At) (old : Lists) (owner : Owner) (r : Routine)
    → ((h : Headings) → routines_viewed end owner (r ∷ []) h ≡ NoRoutine)
    → Adds (Ok u) end old old (inner_listed end owner (r ∷ [])) (inner_rows end owner (r ∷ []))
nothing_adds u end old owner r none =
    adds_none u end old (inner_listed end owner (r ∷ [])) (inner_rows end owner (r ∷ []))
    (λ h. ap (routines_list owner.name.0) (none h)) (λ h. ap (routines_rows LinkEnd (Option ℕ) link_flow) (none h))

pub found_at : (end : At) (owner : Owner) (r : Routine) (c : Context) (found : Option RoutineEntity)
    → c ≡ context_of end owner → found ≡ routine_of end c.env.owner (out-Routine r) → routine_of end owner.name (out-Routine r) ≡ found
found_at end owner r c found at is = ap (λ (k : Name). routine_of end k (out-Routine r)) (sym (ap (λ (k : Context). k.env.owner) at)) ∙ sym is

pub inside_at : (end : At) (owner : Owner) (f : RoutineEntity) (c inside : Context)
    → c ≡ context_of end owner → inside ≡ entered end f c → inside ≡ context_of end (owner_of f owner)
inside_at end owner f c inside at is = is ∙ (ap (entered end f) at ∙ sym (context_inside end owner f))

pub routine_adds : {U : Type 0} (res : Result U CheckEnd) (end : At) (old new : Lists) (owner : Owner) (r : Routine) (b : Block) (f : RoutineEntity) (c : Context)
    → c ≡ context_of end owner → (out-Routine r).block ≡ Some b → Some f ≡ routine_of end c.env.owner (out-Routine r)
    → Adds res end old new (block_listed end c.env.owner (out-Routine r).heading.ident f (owner_of f owner) b) (block_rows end (out-Routine r).heading.ident f (owner_of f owner) b)
    → Adds res end old new (inner_listed end owner (r ∷ [])) (inner_rows end owner (r ∷ []))
routine_adds res end old new owner r b f c at s is adds =
    let x = (out-Routine r).heading.ident in
    let e = found_at end owner r c (Some f) at is in
    adds_same res end old new
    (block_listed end c.env.owner x f (owner_of f owner) b) (inner_listed end owner (r ∷ []))
    (block_rows end x f (owner_of f owner) b) (inner_rows end owner (r ∷ []))
    (λ h. listed_one end owner r b f h s e ∙ ap (λ (n : Name). block_listed end n x f (owner_of f owner) b h) (sym (ap (λ (k : Context). k.env.owner) at)))
    (λ h. rows_one end owner r b f h s e)
    adds

-- ---- routines in turn

abbrev pub Completes : At → Owner → Lists → Lists → List Routine → List Routine → Type 0
Completes end owner old now rest all =
    (res : Result Context CheckEnd) (new : Lists)
    → Adds res end now new (inner_listed end owner rest) (inner_rows end owner rest)
    → Adds res end old new (inner_listed end owner all) (inner_rows end owner all)

pub turn_completes : {V : Type 0} (v : V) (end : At) (owner : Owner) (old now next : Lists) (rs : List Routine) (i : ℕ) (r : Routine)
    → i < length rs → r ≡ get_or rs i r
    → Adds (Ok v) end now next (inner_listed end owner (r ∷ [])) (inner_rows end owner (r ∷ []))
    → Completes end owner old now (drop i rs) rs → Completes end owner old next (drop (i + 1) rs) rs
turn_completes v end owner old now next rs i r lt is first completes = λ res new more.
    let first_is : drop i rs ≡ r ∷ drop (i + 1) rs = drop_more rs i r lt ∙ ap (λ x. x ∷ drop (i + 1) rs) (sym is) in
    completes res new
    (subst (λ qs. Adds res end now new (inner_listed end owner qs) (inner_rows end owner qs)) (sym first_is)
    (adds_behind res v end now next new
    (inner_listed end owner (r ∷ drop (i + 1) rs)) (inner_listed end owner (r ∷ [])) (inner_listed end owner (drop (i + 1) rs))
    (inner_rows end owner (r ∷ drop (i + 1) rs)) (inner_rows end owner (r ∷ [])) (inner_rows end owner (drop (i + 1) rs))
    (λ h. listed_turn end owner r (drop (i + 1) rs) h) (λ h. rows_turn end owner r (drop (i + 1) rs) h) first more))

pub turn_ended : (end : At) (owner : Owner) (old now new : Lists) (rs : List Routine) (i : ℕ) (r : Routine) (e : CheckEnd)
    → i < length rs → r ≡ get_or rs i r
    → Adds {U = Context} (Err e) end now new (inner_listed end owner (r ∷ [])) (inner_rows end owner (r ∷ []))
    → Completes end owner old now (drop i rs) rs
    → Adds {U = Context} (Err e) end old new (inner_listed end owner rs) (inner_rows end owner rs)
turn_ended end owner old now new rs i r e lt is ends completes =
    let first_is : drop i rs ≡ r ∷ drop (i + 1) rs = drop_more rs i r lt ∙ ap (λ x. x ∷ drop (i + 1) rs) (sym is) in
    completes (Err e) new
    (subst (λ qs. Adds {U = Context} (Err e) end now new (inner_listed end owner qs) (inner_rows end owner qs)) (sym first_is)
    (adds_ended Context Context e end now new new
    (inner_listed end owner (r ∷ drop (i + 1) rs)) (inner_listed end owner (r ∷ []))
    (inner_rows end owner (r ∷ drop (i + 1) rs)) (inner_rows end owner (r ∷ [])) (inner_rows end owner (drop (i + 1) rs))
    (λ h. rows_turn end owner r (drop (i + 1) rs) h) ends))

pub all_added : (end : At) (owner : Owner) (old now : Lists) (rs rest : List Routine) (c : Context) → rest ≡ []
    → Completes end owner old now rest rs
    → Adds (Ok c) end old now (inner_listed end owner rs) (inner_rows end owner rs)
all_added end owner old now rs rest c none completes =
    completes (Ok c) now
    (subst (λ qs. Adds (Ok c) end now now (inner_listed end owner qs) (inner_rows end owner qs)) (sym none)
    (adds_none c end now (inner_listed end owner []) (inner_rows end owner []) (λ h. refl) (λ h. refl)))
