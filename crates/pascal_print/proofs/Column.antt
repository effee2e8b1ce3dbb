-- The names of the items stand in the first column of a listing with names.
use Rattle.std.proofs.Common.{◌≡◌, ◌≢◌, ℕ, zero, suc, ◌+◌, ◌*◌, ◌-◌, ◌^◌, ◌<◌, Bool, true, false, cond, ◌&&◌, ◌==◌, List, [], ◌∷◌, ◌++◌, length, map, take, None, Some, refl, sym, ap, subst, ◌∙◌, arith, eqb-true, append-nil, append_assoc}
use Rattle.std.specs.Prelude.{bytes_eq}
use Rattle.std.specs.declared.option.Option.{Option}
use Rattle.std.specs.List.{AllByRecursion, flat_map, prefix_len, take_while}
use Rattle.std.specs.Fmt.{decimal}
use Rattle.std.proofs.lemmas.Fmt.{decimal_nonempty, digits_decimal, digits_value-decimal}
use Rattle.dice_base.specs.declared.name.Name.{Name}
use Rattle.dice_base.specs.declared.token.TokenKind.{TokenKind}
use Rattle.dice_base.specs.Tokens.{Toks}
use Rattle.dice_base.specs.Lexemes.{digit_byte, string_byte, doubled_apostrophes, value_of}
use Rattle.dice_base.specs.Lines.{NoFeed, NoFeeds, joined, lines_of}
use Rattle.dice_base.specs.LinesLaws.{lines_of-joined, lines_of-plain}
use Rattle.pascal_tree.specs.declared.program.Tree.{Tree}
use Rattle.pascal_tree.specs.Names.{program_names}
use Rattle.pascal_tree.specs.Sources.{HasSource}
use Rattle.tree_text.specs.Spelling.{spelling_of}
use Rattle.tree_listing.specs.declared.event.Event.{Event}
use Rattle.tree_listing.specs.declared.event.Event.TheVariants.{Item, Part, Back, Token}
use Rattle.tree_listing.specs.declared.event.Line.{Line}
use Rattle.tree_listing.specs.Events.{program_events}
use Rattle.tree_listing.specs.Listing.{closes, begins, on_line, rest_of, listing_lines, blanks, places, spellings_after_blanks, spellings_of, indented_line, named_line, text_of_lines, listing}
use Rattle.dice_base.proofs.Appended.{all-left, all-right}
use Rattle.pascal_print.specs.FirstColumn.{after_blanks, number_in_front, first_column}
use Rattle.token_texts.proofs.Gaps.{solid, all_solid, IsSolid, quoted, solid_all, lexeme-solid}
use Rattle.token_texts.proofs.Spellings.{IsSpelt, numerals}
use Rattle.token_texts.proofs.Layouts.{tokens_in, lines-tokens}
use Rattle.pascal_print.proofs.ListedNames.{item_names, program-names}
use Rattle.pascal_print.proofs.ReadsBack.{source-spelt}

-- ---- no line ends in a token

solid-feed : (c : ℕ) → solid c ≡ true → c ≢ 10
solid-feed c s e = let bad : false ≡ true = sym (ap solid e) ∙ s in absurd cc

both : (a b : Bool) → (a && b) ≡ true → (a ≡ true) × (b ≡ true)
both true b e = (refl, e)
both false b e = absurd cc

solid-feeds : (w : List ℕ) → all_solid w ≡ true → NoFeed w
solid-feeds [] s = tt
solid-feeds (c ∷ w) s =
    (solid-feed c (both (solid c) (all_solid w) s).0, solid-feeds w (both (solid c) (all_solid w) s).1)

string-feed : (c : ℕ) → string_byte c ≡ true → c ≢ 10
string-feed c s e = let bad : false ≡ true = sym (ap string_byte e) ∙ s in absurd cc

feeds-append : (v w : List ℕ) → NoFeed v → NoFeed w → NoFeed (v ++ w)
feeds-append [] w h k = k
feeds-append (c ∷ v) w h k = (h.0, feeds-append v w h.1 k)

doubled-feeds : (cs : List ℕ) → AllByRecursion (λ b. string_byte b ≡ true) cs → NoFeed (doubled_apostrophes cs)
doubled-feeds [] each = tt
doubled-feeds (c ∷ cs) each = go (c == 39) (doubled-feeds cs each.1) where
  go : (b : Bool) → NoFeed (doubled_apostrophes cs)
      → NoFeed (cond b (39 ∷ 39 ∷ doubled_apostrophes cs) (c ∷ doubled_apostrophes cs))
  go true more = (string-feed 39 refl, (string-feed 39 refl, more))
  go false more = (string-feed c each.0, more)

token-feeds : (t : TokenKind) → IsSpelt t → NoFeed (spelling_of t)
token-feeds t l = go (lexeme-solid (spelling_of t) t l) where
  go : IsSolid (spelling_of t) → NoFeed (spelling_of t)
  go (quoted cs each is) =
      subst (λ (w : List ℕ). NoFeed w) (sym is)
      (feeds-append (39 ∷ doubled_apostrophes cs) (39 ∷ []) (string-feed 39 refl, doubled-feeds cs each)
      (string-feed 39 refl, tt))
  go (solid_all s) = solid-feeds (spelling_of t) s

-- ---- the number at the front of a line

abbrev AreDigits : List ℕ → Type 0
AreDigits = AllByRecursion (λ b. digit_byte b ≡ true)

digit-solid : (c : ℕ) → digit_byte c ≡ true → (c == 32) ≡ false
digit-solid c d = go (c == 32) refl where
  go : (b : Bool) → (c == 32) ≡ b → b ≡ false
  go true e = let bad : false ≡ true = sym (ap digit_byte (eqb-true c 32 e)) ∙ d in absurd cc
  go false e = refl

blanks-differ : (m k c : ℕ) (rest : List ℕ) → k < m → (c == 32) ≡ false
    → bytes_eq (take m (blanks k ++ c ∷ rest)) (blanks m) ≡ false
blanks-differ zero k c rest low e = absurd (omega (arith, low))
blanks-differ (suc m) zero c rest low e = rw e refl
blanks-differ (suc m) (suc k) c rest low e = blanks-differ m k c rest (omega (arith, low)) e

blanks-passed : (k c : ℕ) (rest : List ℕ) → (c == 32) ≡ false → after_blanks (blanks k ++ c ∷ rest) ≡ c ∷ rest
blanks-passed zero c rest e = rw e refl
blanks-passed (suc k) c rest e = blanks-passed k c rest e

digits-taken : (ds rest : List ℕ) → AreDigits ds → take_while digit_byte rest ≡ []
    → take_while digit_byte (ds ++ rest) ≡ ds
digits-taken [] rest each ends = ends
digits-taken (d ∷ ds) rest each ends =
    let n : ℕ = prefix_len digit_byte (ds ++ rest) in
    let more : 1 + n ≡ suc n = omega arith in
    rw each.0
    (ap (λ (k : ℕ). take k (d ∷ (ds ++ rest))) more ∙ ap (λ (w : List ℕ). d ∷ w)
    (digits-taken ds rest each.1 ends))

front-number : (ds rest : List ℕ) (n : ℕ) → 0 < length ds → AreDigits ds → value_of ds ≡ n
    → take_while digit_byte rest ≡ []
    → number_in_front (blanks (6 - length ds) ++ (ds ++ rest)) ≡ n ∷ []
front-number [] rest n some each is ends = absurd (omega (arith, some))
front-number (d ∷ ds) rest n some each is ends =
    let k : ℕ = 6 - length (d ∷ ds) in
    let solid : (d == 32) ≡ false = digit-solid d each.0 in
    rw (blanks-differ 6 k d (ds ++ rest) (omega arith) solid, blanks-passed k d (ds ++ rest) solid)
    (ap (λ (w : List ℕ). value_of w ∷ []) (digits-taken (d ∷ ds) rest each ends) ∙ ap (λ (v : ℕ). v ∷ []) is)

-- ---- the lines of a listing

-- a line without its end
abbrev named_text : Option Name → ℕ → Toks → List ℕ
named_text name level [] = places name
named_text name level (t ∷ ts) = places name ++ 32 ∷ indented_line level (t ∷ ts)

abbrev line_text : Line → List ℕ
line_text line = named_text line.name line.level line.tokens

-- the name of a line
abbrev name_list : Option Name → List ℕ
name_list None = []
name_list (Some name) = name.0 ∷ []

abbrev AreNames : List ℕ → Type 0
AreNames = AllByRecursion (λ n. n < 2 ^ 32)

decimal-some : (n : ℕ) → n < 2 ^ 32 → 0 < length (decimal n)
decimal-some n low = decimal_nonempty n (omega (arith, low))

decimal-digits : (n : ℕ) → n < 2 ^ 32 → AreDigits (decimal n)
decimal-digits n low = digits_decimal numerals n (omega (arith, low))

decimal-value : (n : ℕ) → n < 2 ^ 32 → value_of (decimal n) ≡ n
decimal-value n low = digits_value-decimal numerals n (omega (arith, low))

line-number : (name : Option Name) (level : ℕ) (ts : Toks) → AreNames (name_list name)
    → number_in_front (named_text name level ts) ≡ name_list name
line-number None level [] low = refl
line-number None level (t ∷ ts) low = refl
line-number (Some name) level [] low =
    let ds : List ℕ = decimal name.0 in
    ap (λ (w : List ℕ). number_in_front (blanks (6 - length ds) ++ w)) (sym (append-nil ds))
    ∙ front-number ds [] name.0 (decimal-some name.0 low.0) (decimal-digits name.0 low.0)
    (decimal-value name.0 low.0) refl
line-number (Some name) level (t ∷ ts) low =
    let ds : List ℕ = decimal name.0 in
    ap number_in_front (append_assoc (blanks (6 - length ds)) ds (32 ∷ indented_line level (t ∷ ts)))
    ∙ front-number ds (32 ∷ indented_line level (t ∷ ts)) name.0 (decimal-some name.0 low.0)
    (decimal-digits name.0 low.0) (decimal-value name.0 low.0) refl

line-ended : (name : Option Name) (level : ℕ) (ts : Toks) (rest : List ℕ) → named_line name level ts ++ rest
    ≡ named_text name level ts ++ 10 ∷ rest
line-ended name level [] rest = append_assoc (places name) (10 ∷ []) rest
line-ended name level (t ∷ ts) rest = append_assoc (places name ++ 32 ∷ indented_line level (t ∷ ts)) (10 ∷ []) rest

listing-joined : (lines : List Line) → text_of_lines true lines ≡ joined (map line_text lines)
listing-joined [] = refl
listing-joined (line ∷ lines) =
    line-ended line.name line.level line.tokens (text_of_lines true lines)
    ∙ ap (λ (w : List ℕ). line_text line ++ 10 ∷ w) (listing-joined lines)

-- ---- no line ends within a line

blanks-feed : (n : ℕ) → NoFeed (blanks n)
blanks-feed zero = tt
blanks-feed (suc n) = (solid-or-blank, blanks-feed n) where
  solid-or-blank : ◌≢◌ {A = ℕ} 32 10
  solid-or-blank e = omega (arith, e)

digits-feed : (ds : List ℕ) → AreDigits ds → NoFeed ds
digits-feed [] each = tt
digits-feed (d ∷ ds) each = (digit-feed each.0, digits-feed ds each.1) where
  digit-feed : digit_byte d ≡ true → d ≢ 10
  digit-feed e is = let bad : false ≡ true = sym (ap digit_byte is) ∙ e in absurd cc

places-feed : (name : Option Name) → AreNames (name_list name) → NoFeed (places name)
places-feed None low = blanks-feed 6
places-feed (Some name) low =
    feeds-append (blanks (6 - length (decimal name.0))) (decimal name.0) (blanks-feed _)
    (digits-feed (decimal name.0) (decimal-digits name.0 low.0))

after-feeds : (ts : Toks) → AllByRecursion IsSpelt ts → NoFeed (spellings_after_blanks ts)
after-feeds [] each = tt
after-feeds (t ∷ ts) each = (
  (blanks-feed 1).0,
  feeds-append (spelling_of t) (spellings_after_blanks ts) (token-feeds t each.0)
      (after-feeds ts each.1),
)

named-feeds : (name : Option Name) (level : ℕ) (ts : Toks) → AreNames (name_list name)
    → AllByRecursion IsSpelt ts → NoFeed (named_text name level ts)
named-feeds name level [] low each = places-feed name low
named-feeds name level (t ∷ ts) low each =
    feeds-append (places name) (32 ∷ indented_line level (t ∷ ts)) (places-feed name low) (
      (blanks-feed 1).0,
      feeds-append (blanks (2 * level)) (spellings_of (t ∷ ts)) (blanks-feed (2 * level))
          (feeds-append (spelling_of t) (spellings_after_blanks ts) (token-feeds t each.0) (after-feeds ts each.1)),
    )

-- ---- all lines

abbrev names_in : List Line → List ℕ
names_in [] = []
names_in (line ∷ lines) = name_list line.name ++ names_in lines

lines-feed : (lines : List Line) → AreNames (names_in lines) → AllByRecursion IsSpelt (tokens_in lines)
    → NoFeeds (map line_text lines)
lines-feed [] low each = tt
lines-feed (line ∷ lines) low each = (
  named-feeds line.name line.level line.tokens
      (all-left (λ n. n < 2 ^ 32) (name_list line.name) (names_in lines) low)
      (all-left IsSpelt line.tokens (tokens_in lines) each),
  lines-feed lines (all-right (λ n. n < 2 ^ 32) (name_list line.name) (names_in lines) low)
      (all-right IsSpelt line.tokens (tokens_in lines) each),
)

lines-numbers : (lines : List Line) → AreNames (names_in lines) → flat_map number_in_front (map line_text lines)
    ≡ names_in lines
lines-numbers [] low = refl
lines-numbers (line ∷ lines) low =
    rw (
      line-number line.name line.level line.tokens
          (all-left (λ n. n < 2 ^ 32) (name_list line.name) (names_in lines) low),
      lines-numbers lines (all-right (λ n. n < 2 ^ 32) (name_list line.name) (names_in lines) low),
    ) refl

lines-column : (lines : List Line) → AreNames (names_in lines) → AllByRecursion IsSpelt (tokens_in lines)
    → first_column (text_of_lines true lines) ≡ names_in lines
lines-column lines low each =
    ap (λ (ls : List (List ℕ)). flat_map number_in_front ls)
    (ap lines_of (listing-joined lines ∙ sym (append-nil (joined (map line_text lines))))
    ∙ lines_of-joined (map line_text lines) [] (lines-feed lines low each)
    ∙ ap (λ (ls : List (List ℕ)). map line_text lines ++ ls) (lines_of-plain [] tt) ∙ append-nil (map line_text lines))
    ∙ lines-numbers lines low

abbrev goes_on : TokenKind → List Event → ℕ → Bool → Toks × List Line
goes_on t es level b = cond b (on_line t (rest_of es (Some level))) (begins None level (on_line t (rest_of es None)))

-- a line begins with each item, and with others that have no name
lines-names : (es : List Event) (back : Option ℕ) → names_in (rest_of es back).1 ≡ item_names es
lines-names [] back = refl
lines-names (Item name level ∷ es) back = ap (λ (ns : List ℕ). name.0 ∷ ns) (lines-names es None)
lines-names (Part level ∷ es) back = lines-names es None
lines-names (Back level ∷ es) back = lines-names es (Some level)
lines-names (Token t ∷ es) None = lines-names es None
lines-names (Token t ∷ es) (Some level) = go (closes t) (lines-names es None) (lines-names es (Some level)) where
  go : (b : Bool) → names_in (rest_of es None).1 ≡ item_names es → names_in (rest_of es (Some level)).1 ≡ item_names es
      → names_in (goes_on t es level b).1 ≡ item_names es
  go true fresh known = known
  go false fresh known = fresh

pub lists_names : (p : Tree) → HasSource p → AllByRecursion (λ n. n < 2 ^ 32) (program_names p)
    → first_column (listing true p) ≡ program_names p
lists_names p source low =
    let lines : List Line = listing_lines (program_events p) in
    let names : names_in lines ≡ program_names p = lines-names (program_events p) None ∙ program-names p in
    lines-column lines (subst (λ (ns : List ℕ). AreNames ns) (sym names) low)
    (subst (λ (ts : Toks). AllByRecursion IsSpelt ts) (sym (lines-tokens p)) (source-spelt p source))
    ∙ names
