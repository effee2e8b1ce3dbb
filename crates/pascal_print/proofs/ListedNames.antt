-- The items among the events of a program bear its names, in their order.
use Rattle.std.specs.Prelude.{◌≡◌, ℕ, ◌+◌, List, [], ◌∷◌, ◌++◌, Option, Some, None, map, codes}
use Rattle.std.proofs.Common.{refl, ap, ◌∙◌, append-nil, append_assoc}
use Rattle.std.specs.List.{concat}
use Rattle.dice_base.specs.declared.name.Name.{Name}
use Rattle.dice_base.specs.declared.token.TokenKind.{TokenKind}
use Rattle.dice_base.specs.declared.token.TokenKind.TheVariants.{Ident, Number}
use Rattle.dice_base.specs.Tokens.{Toks}
use Rattle.dice_base.specs.Symbols.{end_word, of_word, semicolon_sign, colon_sign, period_sign, begin_word, case_word, const_word, do_word, else_word, goto_word, if_word, label_word, repeat_word, then_word, type_word, until_word, var_word, while_word, with_word, becomes_sign}
use Rattle.pascal_tree.specs.declared.stmt.Stmt.{Stmt}
use Rattle.pascal_tree.specs.declared.stmt.StmtKind.{StmtKind-F}
use Rattle.pascal_tree.specs.declared.stmt.StmtKind.TheFolds.{map-StmtKind}
use Rattle.pascal_tree.specs.declared.decl.Decl.{Decl}
use Rattle.pascal_tree.specs.declared.decl.Heading.{Heading}
use Rattle.pascal_tree.specs.declared.decl.Block.{Block-F}
use Rattle.pascal_tree.specs.declared.decl.Block.TheFolds.{map-Block, map-Routine}
use Rattle.pascal_tree.specs.declared.program.Tree.{Tree}
use Rattle.pascal_tree.specs.ExprTokens.{expr_tokens, access_tokens, accesses_tokens, args_tokens}
use Rattle.pascal_tree.specs.DeclTokens.{constants_tokens, decl_tokens, heading_tokens}
use Rattle.pascal_tree.specs.Names.{decl_names, label_names, of_kind, of_arm, of_stmt, of_block, of_routine, stmt_names, block_names, program_names}
use Rattle.tree_listing.specs.declared.event.Event.{Event}
use Rattle.tree_listing.specs.declared.event.Event.TheVariants.{Item, Part, Back, Token}
use Rattle.tree_listing.specs.Events.{Laid, said, label_tokens, range, child, more, sequence, ended, heading, labels, declaration, part, in_kind, in_arm, in_stmt, in_block, in_routine, stmt_events, decl_events, block_events, program_events}
use Rattle.tree_laws.proofs.Folds.{Agree, agreed, AgreeOnBlocks, agreed_block}

-- the names of the items that begin
abbrev pub item_names : List Event → List ℕ
item_names [] = []
item_names (Item name level ∷ es) = name.0 ∷ item_names es
item_names (Part level ∷ es) = item_names es
item_names (Back level ∷ es) = item_names es
item_names (Token t ∷ es) = item_names es

-- ---- events whose items bear these names

record Bear (es : List Event) (ns : List ℕ) : Type 0 where
  names : item_names es ≡ ns

-- at each level
record Bears (f : Laid) (ns : List ℕ) : Type 0 where
  laid : (level : ℕ) → Bear (f level) ns

data AreBearing : List Laid → List (List ℕ) → Type 0 where
  none : AreBearing [] []
  next : {f : Laid} {fs : List Laid} {ns : List ℕ} {nss : List (List ℕ)} → Bears f ns → AreBearing fs nss
      → AreBearing (f ∷ fs) (ns ∷ nss)

names-append : (es fs : List Event) → item_names (es ++ fs) ≡ item_names es ++ item_names fs
names-append [] fs = refl
names-append (Item name level ∷ es) fs = ap (λ (ns : List ℕ). name.0 ∷ ns) (names-append es fs)
names-append (Part level ∷ es) fs = names-append es fs
names-append (Back level ∷ es) fs = names-append es fs
names-append (Token t ∷ es) fs = names-append es fs

names-said : (ts : Toks) → item_names (said ts) ≡ []
names-said [] = refl
names-said (t ∷ ts) = names-said ts

append-bear : {a b : List Event} {ns ms : List ℕ} → Bear a ns → Bear b ms → Bear (a ++ b) (ns ++ ms)
append-bear {a} {b} h k = record { names = names-append a b ∙ rw (h.names, k.names) refl }

tokens-bear : (ts : Toks) → Bear (said ts) []
tokens-bear ts = record { names = names-said ts }

-- tokens behind, which bear none, and tokens before
said-behind : {a b : List Event} {ns : List ℕ} → Bear a ns → Bear b [] → Bear (a ++ b) ns
said-behind {a} {b} {ns} h k = record { names = (append-bear h k).names ∙ append-nil ns }

said-before : {b : List Event} {ns : List ℕ} (ts : Toks) → Bear b ns → Bear (said ts ++ b) ns
said-before ts k = append-bear (tokens-bear ts) k

token-bear : {b : List Event} {ns : List ℕ} (t : TokenKind) → Bear b ns → Bear (Token t ∷ b) ns
token-bear t k = record { names = k.names }

child-bear : {f : Laid} {ns : List ℕ} → Bears f ns → (level : ℕ) → Bear (child f level) ns
child-bear h level = said-behind (h.laid (level + 1)) (record { names = refl })

children-bear : {fs : List Laid} {nss : List (List ℕ)} → AreBearing fs nss → AreBearing (map child fs) nss
children-bear none = none
children-bear (next h hs) = next (record { laid = child-bear h }) (children-bear hs)

more-bear : {fs : List Laid} {nss : List (List ℕ)} → AreBearing fs nss → (level : ℕ) → Bear (more fs level) (concat nss)
more-bear none level = record { names = refl }
more-bear (next h hs) level = token-bear semicolon_sign (append-bear (h.laid level) (more-bear hs level))

sequence-bear : {fs : List Laid} {nss : List (List ℕ)} → AreBearing fs nss → (level : ℕ)
    → Bear (sequence fs level) (concat nss)
sequence-bear none level = record { names = refl }
sequence-bear (next h hs) level = append-bear (h.laid level) (more-bear hs level)

ended-bear : {fs : List Laid} {nss : List (List ℕ)} → AreBearing fs nss → (level : ℕ)
    → Bear (ended fs level) (concat nss)
ended-bear none level = record { names = refl }
ended-bear (next h hs) level = append-bear (said-behind (h.laid level) (record { names = refl })) (ended-bear hs level)

-- the parts of a layer: events and the names that they bear
abbrev Parts : Type 0
Parts = (f : Laid) × (ns : List ℕ) × Bears f ns

parts-bear : (ys : List Parts) → AreBearing (map (λ e. e.0) ys) (map (λ e. e.1) ys)
parts-bear [] = none
parts-bear (y ∷ ys) = next y.2 (parts-bear ys)

-- ---- statements

layer-bears : (y : StmtKind-F Parts Parts Parts) (level : ℕ)
    → Bear (in_kind (map-StmtKind Parts Parts Parts Laid Laid Laid (λ e. e.0) (λ e. e.0) (λ e. e.0) y) level)
    (of_kind (map-StmtKind Parts Parts Parts (List ℕ) (List ℕ) (List ℕ) (λ e. e.1) (λ e. e.1) (λ e. e.1) y))
layer-bears StmtKind-F.Empty level = tokens-bear []
layer-bears (StmtKind-F.Assign a e) level = tokens-bear (access_tokens a ++ becomes_sign ∷ expr_tokens e)
layer-bears (StmtKind-F.Call x args) level = tokens-bear (Ident x ∷ args_tokens args)
layer-bears (StmtKind-F.Goto n) level = tokens-bear (goto_word ∷ Number n ∷ [])
layer-bears (StmtKind-F.Compound ys) level =
    token-bear begin_word
    (said-behind (sequence-bear (children-bear (parts-bear ys)) level) (tokens-bear (end_word ∷ [])))
layer-bears (StmtKind-F.If e y None) level =
    append-bear (said-before (if_word ∷ expr_tokens e ++ then_word ∷ []) (child-bear y.2 level)) (tokens-bear [])
layer-bears (StmtKind-F.If e y (Some z)) level =
    append-bear (said-before (if_word ∷ expr_tokens e ++ then_word ∷ []) (child-bear y.2 level))
    (token-bear else_word (child-bear z.2 level))
layer-bears (StmtKind-F.Case e ys) level =
    said-behind (said-before (case_word ∷ expr_tokens e ++ of_word ∷ []) (sequence-bear (parts-bear ys) level))
    (tokens-bear (end_word ∷ []))
layer-bears (StmtKind-F.While e y) level =
    said-before (while_word ∷ expr_tokens e ++ do_word ∷ []) (child-bear y.2 level)
layer-bears (StmtKind-F.Repeat ys e) level =
    token-bear repeat_word
    (said-behind (sequence-bear (children-bear (parts-bear ys)) level)
    (tokens-bear (until_word ∷ expr_tokens e)))
layer-bears (StmtKind-F.For x first down last y) level = said-before (range x first down last) (child-bear y.2 level)
layer-bears (StmtKind-F.With records y) level =
    said-before (with_word ∷ accesses_tokens records ++ do_word ∷ []) (child-bear y.2 level)

stmts-bear : Agree in_kind in_arm in_stmt of_kind of_arm of_stmt Bears Bears Bears
stmts-bear = record {
  kinds = λ y. record { laid = layer-bears y };
  arms =
      λ y. record {
        laid = λ level. said-before (constants_tokens y.constants ++ colon_sign ∷ [])
            (child-bear y.body.2 level);
      };
  stmts =
      λ y. record {
        laid = λ level. record {
          names = ap (λ (ns : List ℕ). y.name.0 ∷ ns)
              (said-before (label_tokens y.label) (y.kind.2.laid level)).names;
        };
      };
}

stmt-bears : (s : Stmt) → Bears (stmt_events s) (stmt_names s)
unfolding stmt_events stmt_names
stmt-bears = agreed in_kind in_arm in_stmt of_kind of_arm of_stmt Bears Bears Bears stmts-bear

-- ---- blocks, routines and programs

decls-bear : (ds : List Decl) (level : ℕ) → Bear (ended (map declaration ds) level) (decl_names ds)
decls-bear [] level = record { names = refl }
decls-bear (d ∷ ds) level =
    append-bear (said-behind (child-bear (declared d) level) (record { names = refl }))
    (decls-bear ds level) where
      declared : (d : Decl) → Bears (decl_events d) (d.name.0 ∷ [])
      declared d =
          record {
            laid = λ level. record
                { names = ap (λ (ns : List ℕ). d.name.0 ∷ ns) (names-said (decl_tokens d.kind)) };
          }

part-bear : (word : TokenKind) (ds : List Decl) (level : ℕ) → Bear (part word ds level) (decl_names ds)
part-bear word [] level = record { names = refl }
part-bear word (d ∷ ds) level = record { names = (token-bear word (decls-bear (d ∷ ds) level)).names }

labels-bear : (ls : Option Decl) (level : ℕ) → Bear (labels ls level) (label_names ls)
labels-bear None level = record { names = refl }
labels-bear (Some d) level = part-bear label_word (d ∷ []) level

-- what is put together from the left has the names of what is put together from the right
from_left : (a b c d e f : List ℕ) → ((((a ++ b) ++ c) ++ d) ++ e) ++ f ≡ a ++ (b ++ (c ++ (d ++ (e ++ f))))
from_left a b c d e f =
    append_assoc (((a ++ b) ++ c) ++ d) e f ∙ append_assoc ((a ++ b) ++ c) d (e ++ f)
    ∙ append_assoc (a ++ b) c (d ++ (e ++ f)) ∙ append_assoc a b (c ++ (d ++ (e ++ f)))

block-bears : (y : Block-F Parts Parts) (level : ℕ)
    → Bear (in_block (map-Block Parts Parts Laid Laid (λ e. e.0) (λ e. e.0) y) level)
    (of_block (map-Block Parts Parts (List ℕ) (List ℕ) (λ e. e.1) (λ e. e.1) y))
block-bears y level =
    let parts = append-bear
    (append-bear (append-bear (labels-bear y.labels level) (part-bear const_word y.consts level))
    (part-bear type_word y.types level)) (part-bear var_word y.vars level) in
    let all = append-bear (append-bear parts (ended-bear (children-bear (parts-bear y.routines)) level))
    (child-bear (stmt-bears y.body) level) in
    record {
      names = all.names ∙ from_left (label_names y.labels) (decl_names y.consts) (decl_names y.types)
          (decl_names y.vars) (concat (map (λ e. e.1) y.routines)) (stmt_names y.body);
    }

routine-bears : (name : Name) (heading : Heading) (block : Option Parts)
    → Bears (in_routine
    (map-Routine Parts Parts Laid Laid (λ e. e.0) (λ e. e.0)
    (record { name = name; heading = heading; block = block })))
    (of_routine
    (map-Routine Parts Parts (List ℕ) (List ℕ) (λ e. e.1) (λ e. e.1)
    (record { name = name; heading = heading; block = block })))
routine-bears name heading None =
    record {
      laid = λ level. record {
        names = ap (λ (ns : List ℕ). name.0 ∷ ns)
            (said-before {b = Token (Ident (codes "forward")) ∷ []} (heading_tokens heading ++ semicolon_sign ∷ [])
            (record { names = refl })).names;
      };
    }
routine-bears name heading (Some y) =
    record {
      laid = λ level. record {
        names = ap (λ (ns : List ℕ). name.0 ∷ ns)
            (said-before (heading_tokens heading ++ semicolon_sign ∷ []) (y.2.laid level)).names;
      };
    }

blocks-bear : AgreeOnBlocks in_block in_routine of_block of_routine Bears Bears
blocks-bear =
    record {
      blocks = λ y. record
          { laid = block-bears y };
      routines = λ y. routine-bears y.name y.heading y.block;
    }

pub program-names : (p : Tree) → item_names (program_events p) ≡ program_names p
unfolding block_events block_names
program-names p =
    let block = agreed_block in_block in_routine of_block of_routine Bears Bears blocks-bear p.block in
    ap (λ (ns : List ℕ). 1 ∷ ns)
    (said-behind (said-before (heading p) (block.laid 0)) (tokens-bear (period_sign ∷ []))).names
