-- The tokens among the events of a statement, a block and a program, by those of its parts.
use Rattle.std.specs.Prelude.{◌≡◌, ℕ, ◌+◌, Bool, List, [], ◌∷◌, ◌++◌, Option, Some, None, map, codes}
use Rattle.std.proofs.Common.{refl, sym, ap, ◌∙◌, append-nil, append_assoc}
use Rattle.dice_base.specs.declared.token.TokenKind.{TokenKind}
use Rattle.dice_base.specs.declared.token.TokenKind.TheVariants.{Ident, Number}
use Rattle.dice_base.specs.Tokens.{Toks}
use Rattle.dice_base.specs.Symbols.{begin_word, case_word, const_word, do_word, else_word, end_word, for_word, goto_word, if_word, label_word, of_word, program_word, repeat_word, then_word, type_word, until_word, var_word, while_word, with_word, becomes_sign, comma_sign, period_sign, semicolon_sign, colon_sign}
use Rattle.pascal_tree.specs.declared.expr.Expr.{Expr}
use Rattle.pascal_tree.specs.declared.expr.Access.{Access}
use Rattle.pascal_tree.specs.declared.expr.Arg.{Arg}
use Rattle.pascal_tree.specs.declared.stmt.Constant.{Constant}
use Rattle.pascal_tree.specs.declared.stmt.Stmt.{Stmt}
use Rattle.pascal_tree.specs.declared.stmt.Arm.{Arm}
use Rattle.pascal_tree.specs.declared.stmt.StmtKind.{StmtKind, StmtKind-F, roll-StmtKind, map-StmtKind}
use Rattle.pascal_tree.specs.declared.stmt.StmtKind.TheVariants as s
use Rattle.pascal_tree.specs.declared.stmt.StmtKind.TheVariants.{rolls-Empty, rolls-Assign, rolls-Call, rolls-Goto, rolls-Compound, rolls-If, rolls-Case, rolls-While, rolls-Repeat, rolls-For, rolls-With}
use Rattle.pascal_tree.specs.declared.stmt.StmtKind.TheFolds.{fold-roll-StmtKind, fold-roll-Stmt, fold-roll-Arm}
use Rattle.pascal_tree.specs.declared.decl.Decl.{Decl}
use Rattle.pascal_tree.specs.declared.decl.Heading.{Heading}
use Rattle.pascal_tree.specs.declared.decl.Block.{Block}
use Rattle.pascal_tree.specs.declared.decl.Routine.{Routine}
use Rattle.pascal_tree.specs.declared.decl.Block.TheFolds.{fold-roll-Block, fold-roll-Routine}
use Rattle.pascal_tree.specs.Joined.{flat, behind_each, join}
use Rattle.pascal_tree.specs.Declarations.{no_name}
use Rattle.pascal_tree.specs.Statements.{make_stmt, make_arm}
use Rattle.pascal_tree.specs.Programs.{make_block, make_routine, make_program}
use Rattle.pascal_tree.specs.ExprTokens.{in_parens, expr_tokens, access_tokens, accesses_tokens, args_tokens}
use Rattle.pascal_tree.specs.DeclTokens.{ident_tokens, constants_tokens, decl_tokens, heading_tokens}
use Rattle.tree_listing.specs.declared.event.Event.{Event}
use Rattle.tree_listing.specs.declared.event.Event.TheVariants.{Item, Part, Back, Token}
use Rattle.tree_listing.specs.Events.{Laid, tokens_of, said, child, more, sequence, ended, label_tokens, direction, tested, in_kind, in_arm, in_stmt, in_block, in_routine, declaration, part, labels, parts, heading, block_or_forward, decl_events, stmt_events, kind_events, arm_events, block_events, routine_events, program_tokens}

-- ---- events one after another

pub tokens-append : (es fs : List Event) → tokens_of (es ++ fs) ≡ tokens_of es ++ tokens_of fs
tokens-append [] fs = refl
tokens-append (Item name level ∷ es) fs = tokens-append es fs
tokens-append (Part level ∷ es) fs = tokens-append es fs
tokens-append (Back level ∷ es) fs = tokens-append es fs
tokens-append (Token t ∷ es) fs = ap (λ (ts : Toks). t ∷ ts) (tokens-append es fs)

said-then : (ts : Toks) (es : List Event) → tokens_of (said ts ++ es) ≡ ts ++ tokens_of es
said-then [] es = refl
said-then (t ∷ ts) es = ap (λ (us : Toks). t ∷ us) (said-then ts es)

pub tokens-said : (ts : Toks) → tokens_of (said ts) ≡ ts
tokens-said [] = refl
tokens-said (t ∷ ts) = ap (λ (us : Toks). t ∷ us) (tokens-said ts)

pub tokens-child : (f : Laid) (level : ℕ) → tokens_of (child f level) ≡ tokens_of (f (level + 1))
tokens-child f level = tokens-append (f (level + 1)) (Back level ∷ []) ∙ append-nil (tokens_of (f (level + 1)))

-- tokens, and then one more
last-then : (ts : Toks) (t : TokenKind) (es : List Event) → tokens_of (said (ts ++ t ∷ []) ++ es)
    ≡ ts ++ t ∷ tokens_of es
last-then ts t es = said-then (ts ++ t ∷ []) es ∙ append_assoc ts (t ∷ []) (tokens_of es)

-- ---- lists

-- the tokens of each, at the level
abbrev tokens_at : ℕ → List Laid → List Toks
tokens_at level fs = map (λ f. tokens_of (f level)) fs

more-tokens : (fs : List Laid) (level : ℕ) → tokens_of (more fs level) ≡ behind_each (semicolon_sign ∷ [])
    (tokens_at level fs)
more-tokens [] level = refl
more-tokens (f ∷ fs) level =
    ap (λ (ts : Toks). semicolon_sign ∷ ts)
    (tokens-append (f level) (more fs level) ∙ ap (λ (ts : Toks). tokens_of (f level) ++ ts) (more-tokens fs level))

sequence-tokens : (fs : List Laid) (level : ℕ) → tokens_of (sequence fs level) ≡ join (semicolon_sign ∷ [])
    (tokens_at level fs)
sequence-tokens [] level = refl
sequence-tokens (f ∷ fs) level =
    tokens-append (f level) (more fs level) ∙ ap (λ (ts : Toks). tokens_of (f level) ++ ts) (more-tokens fs level)

laid-tokens : {A : Type 0} (f : A → Laid) (level : ℕ) (xs : List A) → tokens_at level (map f xs)
    ≡ map (λ a. tokens_of (f a level)) xs
laid-tokens f level [] = refl
laid-tokens f level (x ∷ xs) = ap (λ (us : List Toks). tokens_of (f x level) ∷ us) (laid-tokens f level xs)

children-tokens : {A : Type 0} (f : A → Laid) (level : ℕ) (xs : List A) → tokens_at level (map child (map f xs))
    ≡ map (λ a. tokens_of (f a (level + 1))) xs
children-tokens f level [] = refl
children-tokens f level (x ∷ xs) = rw (tokens-child (f x) level, children-tokens f level xs) refl

-- ---- statements, at a level, which has no bearing on their tokens

abbrev pub stmt_tokens : ℕ → Stmt → Toks
stmt_tokens level s = tokens_of (stmt_events s level)

abbrev pub kind_tokens : ℕ → StmtKind → Toks
kind_tokens level k = tokens_of (kind_events k level)

abbrev pub arm_tokens : ℕ → Arm → Toks
arm_tokens level a = tokens_of (arm_events a level)

pub stmt-made : (level : ℕ) (label : Option ℕ) (k : StmtKind) → stmt_tokens level (make_stmt label k)
    ≡ label_tokens label ++ kind_tokens level k
unfolding stmt_events kind_events arm_events
stmt-made level label k =
    ap (λ (f : Laid). tokens_of (f level))
    (fold-roll-Stmt Laid Laid Laid in_kind in_arm in_stmt (record { name = no_name; label = label; kind = k }))
    ∙ said-then (label_tokens label) (kind_events k level)

pub arm-made : (level : ℕ) (constants : List Constant) (body : Stmt)
    → arm_tokens level (make_arm constants body) ≡ constants_tokens constants ++ colon_sign ∷ stmt_tokens
    (level + 1) body
unfolding stmt_events kind_events arm_events
arm-made level constants body =
    ap (λ (f : Laid). tokens_of (f level))
    (fold-roll-Arm Laid Laid Laid in_kind in_arm in_stmt (record { constants = constants; body = body }))
    ∙ last-then (constants_tokens constants) colon_sign (child (stmt_events body) level)
    ∙ ap (λ (ts : Toks). constants_tokens constants ++ colon_sign ∷ ts) (tokens-child (stmt_events body) level)

kind-opened : (level : ℕ) (x : StmtKind-F StmtKind Arm Stmt)
    → kind_tokens level (roll-StmtKind x)
    ≡ tokens_of
    (in_kind (map-StmtKind StmtKind Arm Stmt Laid Laid Laid kind_events arm_events stmt_events x) level)
unfolding stmt_events kind_events arm_events
kind-opened level x =
    ap (λ (f : Laid). tokens_of (f level)) (fold-roll-StmtKind Laid Laid Laid in_kind in_arm in_stmt x)

rolled : (level : ℕ) {k l : StmtKind} → l ≡ k → kind_tokens level k ≡ kind_tokens level l
rolled level e = ap (λ (k : StmtKind). kind_tokens level k) (sym e)

pub empty-made : (level : ℕ) → kind_tokens level s.Empty ≡ []
empty-made level = rolled level rolls-Empty ∙ kind-opened level StmtKind-F.Empty

pub assign-made : (level : ℕ) (a : Access) (e : Expr) → kind_tokens level (s.Assign a e)
    ≡ access_tokens a ++ becomes_sign ∷ expr_tokens e
assign-made level a e =
    rolled level (rolls-Assign a e) ∙ kind-opened level (StmtKind-F.Assign a e)
    ∙ tokens-said (access_tokens a ++ becomes_sign ∷ expr_tokens e)

pub call-made : (level : ℕ) (x : List ℕ) (args : List Arg) → kind_tokens level (s.Call x args)
    ≡ Ident x ∷ args_tokens args
call-made level x args =
    rolled level (rolls-Call x args) ∙ kind-opened level (StmtKind-F.Call x args)
    ∙ tokens-said (Ident x ∷ args_tokens args)

pub goto-made : (level : ℕ) (n : ℕ) → kind_tokens level (s.Goto n) ≡ goto_word ∷ Number n ∷ []
goto-made level n = rolled level (rolls-Goto n) ∙ kind-opened level (StmtKind-F.Goto n)

-- the statements of a sequence
abbrev stmts_tokens : ℕ → List Stmt → Toks
stmts_tokens level xs = join (semicolon_sign ∷ []) (map (stmt_tokens (level + 1)) xs)

stmts-tokens : (level : ℕ) (xs : List Stmt) → tokens_of (sequence (map child (map stmt_events xs)) level)
    ≡ stmts_tokens level xs
stmts-tokens level xs =
    sequence-tokens (map child (map stmt_events xs)) level
    ∙ ap (λ (us : List Toks). join (semicolon_sign ∷ []) us) (children-tokens stmt_events level xs)

pub compound-made : (level : ℕ) (xs : List Stmt) → kind_tokens level (s.Compound xs) ≡ begin_word ∷
    (stmts_tokens level xs ++ end_word ∷ [])
compound-made level xs =
    rolled level (rolls-Compound xs) ∙ kind-opened level (StmtKind-F.Compound xs)
    ∙ ap (λ (ts : Toks). begin_word ∷ ts)
    (tokens-append (sequence (map child (map stmt_events xs)) level) (Token end_word ∷ [])
    ∙ ap (λ (ts : Toks). ts ++ end_word ∷ []) (stmts-tokens level xs))

pub repeat-made : (level : ℕ) (xs : List Stmt) (e : Expr) → kind_tokens level (s.Repeat xs e) ≡ repeat_word ∷
    (stmts_tokens level xs ++ until_word ∷ expr_tokens e)
repeat-made level xs e =
    rolled level (rolls-Repeat xs e) ∙ kind-opened level (StmtKind-F.Repeat xs e)
    ∙ ap (λ (ts : Toks). repeat_word ∷ ts)
    (tokens-append (sequence (map child (map stmt_events xs)) level) (said (until_word ∷ expr_tokens e))
    ∙ rw (stmts-tokens level xs, tokens-said (expr_tokens e)) refl)

-- a word, an expression, a word, and a statement
tested-child : (level : ℕ) (word : TokenKind) (e : Expr) (end : TokenKind) (x : Stmt)
    → tokens_of (tested word e end ++ child (stmt_events x) level)
    ≡ word ∷ (expr_tokens e ++ end ∷ stmt_tokens (level + 1) x)
tested-child level word e end x =
    last-then (word ∷ expr_tokens e) end (child (stmt_events x) level)
    ∙ ap (λ (ts : Toks). word ∷ (expr_tokens e ++ end ∷ ts)) (tokens-child (stmt_events x) level)

pub while-made : (level : ℕ) (e : Expr) (x : Stmt) → kind_tokens level (s.While e x) ≡ while_word ∷
    (expr_tokens e ++ do_word ∷ stmt_tokens (level + 1) x)
while-made level e x =
    rolled level (rolls-While e x) ∙ kind-opened level (StmtKind-F.While e x)
    ∙ tested-child level while_word e do_word x

pub if-made : (level : ℕ) (e : Expr) (x : Stmt) → kind_tokens level (s.If e x None)
    ≡ if_word ∷ (expr_tokens e ++ then_word ∷ stmt_tokens (level + 1) x)
if-made level e x =
    rolled level (rolls-If e x None) ∙ kind-opened level (StmtKind-F.If e x None)
    ∙ tokens-append (tested if_word e then_word ++ child (stmt_events x) level) []
    ∙ append-nil (tokens_of (tested if_word e then_word ++ child (stmt_events x) level))
    ∙ tested-child level if_word e then_word x

pub if_else-made : (level : ℕ) (e : Expr) (x y : Stmt) → kind_tokens level (s.If e x (Some y))
    ≡ if_word ∷ (expr_tokens e ++ then_word ∷ (stmt_tokens (level + 1) x ++ else_word ∷ stmt_tokens (level + 1) y))
if_else-made level e x y =
    rolled level (rolls-If e x (Some y)) ∙ kind-opened level (StmtKind-F.If e x (Some y))
    ∙ tokens-append (tested if_word e then_word ++ child (stmt_events x) level)
    (Token else_word ∷ child (stmt_events y) level)
    ∙ ap (λ (ts : Toks). ts ++ else_word ∷ tokens_of (child (stmt_events y) level))
    (tested-child level if_word e then_word x)
    ∙ ap (λ (ts : Toks). if_word ∷ (expr_tokens e ++ then_word ∷ stmt_tokens (level + 1) x) ++ else_word ∷ ts)
    (tokens-child (stmt_events y) level)
    ∙ ap (λ (ts : Toks). if_word ∷ ts)
    (append_assoc (expr_tokens e) (then_word ∷ stmt_tokens (level + 1) x)
    (else_word ∷ stmt_tokens (level + 1) y))

pub case-made : (level : ℕ) (e : Expr) (arms : List Arm) → kind_tokens level (s.Case e arms)
    ≡ case_word ∷
    (expr_tokens e ++ of_word ∷ (join (semicolon_sign ∷ []) (map (arm_tokens level) arms) ++ end_word ∷ []))
case-made level e arms =
    rolled level (rolls-Case e arms) ∙ kind-opened level (StmtKind-F.Case e arms)
    ∙ tokens-append (tested case_word e of_word ++ sequence (map arm_events arms) level) (Token end_word ∷ [])
    ∙ ap (λ (ts : Toks). ts ++ end_word ∷ [])
    (last-then (case_word ∷ expr_tokens e) of_word (sequence (map arm_events arms) level)
    ∙ ap (λ (ts : Toks). case_word ∷ (expr_tokens e ++ of_word ∷ ts))
    (sequence-tokens (map arm_events arms) level ∙ ap (λ (us : List Toks). join (semicolon_sign ∷ []) us)
    (laid-tokens arm_events level arms)))
    ∙ (ap (λ (ts : Toks). case_word ∷ ts)
    (append_assoc (expr_tokens e) (of_word ∷ join (semicolon_sign ∷ []) (map (arm_tokens level) arms))
    (end_word ∷ [])))

pub for-made : (level : ℕ) (x : List ℕ) (first : Expr) (down : Bool) (end : Expr) (body : Stmt)
    → kind_tokens level (s.For x first down end body)
    ≡ for_word ∷ Ident x ∷ becomes_sign ∷
    (expr_tokens first ++ direction down ∷ (expr_tokens end ++ do_word ∷ stmt_tokens (level + 1) body))
for-made level x first down end body =
    rolled level (rolls-For x first down end body) ∙ kind-opened level (StmtKind-F.For x first down end body)
    ∙ last-then
    (for_word ∷ Ident x ∷ becomes_sign ∷ expr_tokens first ++ direction down ∷ expr_tokens end) do_word
    (child (stmt_events body) level)
    ∙ append_assoc (for_word ∷ Ident x ∷ becomes_sign ∷ expr_tokens first) (direction down ∷ expr_tokens end)
    (do_word ∷ tokens_of (child (stmt_events body) level))
    ∙ rw (tokens-child (stmt_events body) level) refl

pub with-made : (level : ℕ) (records : List Access) (body : Stmt)
    → kind_tokens level (s.With records body) ≡ with_word ∷
    (accesses_tokens records ++ do_word ∷ stmt_tokens (level + 1) body)
with-made level records body =
    rolled level (rolls-With records body) ∙ kind-opened level (StmtKind-F.With records body)
    ∙ last-then (with_word ∷ accesses_tokens records) do_word (child (stmt_events body) level)
    ∙ ap (λ (ts : Toks). with_word ∷ (accesses_tokens records ++ do_word ∷ ts)) (tokens-child (stmt_events body) level)

-- ---- declarations

-- with its semicolon
abbrev pub ended_tokens : Decl → Toks
ended_tokens d = decl_tokens d.kind ++ semicolon_sign ∷ []

-- a word and declarations, or nothing
abbrev pub part_tokens : TokenKind → List Decl → Toks
part_tokens word [] = []
part_tokens word (d ∷ ds) = word ∷ flat (map ended_tokens (d ∷ ds))

abbrev pub labels_tokens : Option Decl → Toks
labels_tokens None = []
labels_tokens (Some d) = label_word ∷ ended_tokens d

-- what ends by a semicolon
ended-child : (f : Laid) (level : ℕ) → tokens_of (child f level ++ Token semicolon_sign ∷ [])
    ≡ tokens_of (f (level + 1)) ++ semicolon_sign ∷ []
ended-child f level =
    tokens-append (child f level) (Token semicolon_sign ∷ []) ∙ ap (λ (ts : Toks). ts ++ semicolon_sign ∷ [])
    (tokens-child f level)

ended-tokens : {A : Type 0} (f : A → Laid) (level : ℕ) (xs : List A)
    → tokens_of (ended (map child (map f xs)) level)
    ≡ flat (map (λ a. tokens_of (f a (level + 1)) ++ semicolon_sign ∷ []) xs)
ended-tokens f level [] = refl
ended-tokens f level (x ∷ xs) =
    tokens-append (child (f x) level ++ Token semicolon_sign ∷ []) (ended (map child (map f xs)) level)
    ∙ rw (ended-child (f x) level, ended-tokens f level xs) refl

decls-tokens : (level : ℕ) (ds : List Decl) → tokens_of (ended (map declaration ds) level) ≡ flat (map ended_tokens ds)
decls-tokens level [] = refl
decls-tokens level (d ∷ ds) =
    tokens-append (declaration d level ++ Token semicolon_sign ∷ []) (ended (map declaration ds) level)
    ∙ rw (ended-child (decl_events d) level, tokens-said (decl_tokens d.kind), decls-tokens level ds) refl

part-tokens : (word : TokenKind) (level : ℕ) (ds : List Decl) → tokens_of (part word ds level) ≡ part_tokens word ds
part-tokens word level [] = refl
part-tokens word level (d ∷ ds) = ap (λ (ts : Toks). word ∷ ts) (decls-tokens level (d ∷ ds))

labels-tokens : (level : ℕ) (ls : Option Decl) → tokens_of (labels ls level) ≡ labels_tokens ls
labels-tokens level None = refl
labels-tokens level (Some d) =
    part-tokens label_word level (d ∷ []) ∙ ap (λ (ts : Toks). label_word ∷ ts) (append-nil (ended_tokens d))

-- ---- blocks, routines and programs

abbrev pub block_tokens : ℕ → Block → Toks
block_tokens level b = tokens_of (block_events b level)

abbrev pub routine_tokens : ℕ → Routine → Toks
routine_tokens level r = tokens_of (routine_events r level)

-- a routine in a block of this level, with its semicolon
abbrev pub routine_ended : ℕ → Routine → Toks
routine_ended level r = routine_tokens (level + 1) r ++ semicolon_sign ∷ []

parts-tokens : (level : ℕ) (ls : Option Decl) (consts types vars : List Decl) (es : List Event)
    → tokens_of (parts ls consts types vars level ++ es)
    ≡ labels_tokens ls ++
    (part_tokens const_word consts ++
    (part_tokens type_word types ++ (part_tokens var_word vars ++ tokens_of es)))
parts-tokens level ls consts types vars es =
    let a = labels ls level in
    let b = part const_word consts level in
    let c = part type_word types level in
    let d = part var_word vars level in
    ap tokens_of
    (append_assoc (a ++ b ++ c) d es ∙ append_assoc (a ++ b) c (d ++ es) ∙ append_assoc a b (c ++ (d ++ es)))
    ∙ tokens-append a (b ++ (c ++ (d ++ es)))
    ∙ ap (λ (ts : Toks). tokens_of a ++ ts)
    (tokens-append b (c ++ (d ++ es))
    ∙ ap (λ (ts : Toks). tokens_of b ++ ts)
    (tokens-append c (d ++ es) ∙ ap (λ (ts : Toks). tokens_of c ++ ts) (tokens-append d es)))
    ∙ rw (
      labels-tokens level ls,
      part-tokens const_word level consts,
      part-tokens type_word level types,
      part-tokens var_word level vars,
    ) refl

pub block-made : (level : ℕ) (ls : Option Decl) (consts types vars : List Decl) (rs : List Routine) (body : StmtKind)
    → block_tokens level (make_block ls consts types vars rs body)
    ≡ labels_tokens ls ++ (part_tokens const_word consts ++ (part_tokens type_word types ++ (part_tokens var_word vars
    ++ (flat (map (routine_ended level) rs) ++ kind_tokens (level + 1) body))))
unfolding block_events routine_events
block-made level ls consts types vars rs body =
    let routines = ended (map child (map routine_events rs)) level in
    let end = child (stmt_events (make_stmt None body)) level in
    ap (λ (f : Laid). tokens_of (f level))
    (fold-roll-Block Laid Laid in_block in_routine
    (record { labels = ls; consts = consts; types = types; vars = vars; routines = rs; body = make_stmt None body }))
    ∙ ap tokens_of (append_assoc (parts ls consts types vars level) routines end)
    ∙ parts-tokens level ls consts types vars (routines ++ end)
    ∙ ap (λ (ts : Toks). labels_tokens ls ++
    (part_tokens const_word consts ++ (part_tokens type_word types ++ (part_tokens var_word vars ++ ts))))
    (tokens-append routines end
    ∙ rw (ended-tokens routine_events level rs, tokens-child (stmt_events (make_stmt None body)) level)
    (ap (λ (ts : Toks). flat (map (routine_ended level) rs) ++ ts) (stmt-made (level + 1) None body)))

pub forward-made : (level : ℕ) (h : Heading) → routine_tokens level (make_routine h None)
    ≡ heading_tokens h ++ semicolon_sign ∷ Ident (codes "forward") ∷ []
unfolding block_events routine_events
forward-made level h =
    ap (λ (f : Laid). tokens_of (f level))
    (fold-roll-Routine Laid Laid in_block in_routine (record { name = no_name; heading = h; block = None }))
    ∙ last-then (heading_tokens h) semicolon_sign (block_or_forward None level)

pub routine-made : (level : ℕ) (h : Heading) (b : Block) → routine_tokens level (make_routine h (Some b))
    ≡ heading_tokens h ++ semicolon_sign ∷ block_tokens level b
unfolding block_events routine_events
routine-made level h b =
    ap (λ (f : Laid). tokens_of (f level))
    (fold-roll-Routine Laid Laid in_block in_routine (record { name = no_name; heading = h; block = Some b }))
    ∙ last-then (heading_tokens h) semicolon_sign (block_events b level)

pub program-made : (x : List ℕ) (files : List (List ℕ)) (b : Block) → program_tokens (make_program x files b)
    ≡ program_word ∷ Ident x ∷
    (in_parens comma_sign (map ident_tokens files) ++ semicolon_sign ∷ (block_tokens 0 b ++ period_sign ∷ []))
program-made x files b =
    tokens-append (said (heading (make_program x files b)) ++ block_events b 0) (Token period_sign ∷ [])
    ∙ ap (λ (ts : Toks). ts ++ period_sign ∷ [])
    (last-then (program_word ∷ Ident x ∷ in_parens comma_sign (map ident_tokens files)) semicolon_sign
    (block_events b 0))
    ∙ ap (λ (ts : Toks). program_word ∷ Ident x ∷ ts)
    (append_assoc (in_parens comma_sign (map ident_tokens files)) (semicolon_sign ∷ block_tokens 0 b)
    (period_sign ∷ []))
