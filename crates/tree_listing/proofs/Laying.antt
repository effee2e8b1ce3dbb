-- Lines that go on, and lines that end.
use Rattle.std.proofs.Common.{◌≡◌, ℕ, Bool, List, [], ◌∷◌, ◌++◌, Option, Some, None, refl, sym, ap, append_assoc, append-nil}
use Rattle.dice_base.specs.declared.name.Name.{Name}
use Rattle.dice_base.specs.declared.token.TokenKind.{TokenKind}
use Rattle.dice_base.specs.Tokens.{Toks}
use Rattle.tree_listing.specs.declared.event.Line.{Line}
use Rattle.tree_listing.specs.Listing.{Rest, begins, on_line, text_of_line, text_of_lines}
use Rattle.tree_listing.specs.Layout.{going}

-- the line under way ends where others follow
pub going_on : (names : Bool) (line : Option Line) (lines : List Line) → text_of_lines names (going line ([], lines)) ≡ text_of_lines names (going line ([], [])) ++ text_of_lines names lines
going_on names None lines = refl
going_on names (Some line) lines = ap (λ (t : List ℕ). t ++ text_of_lines names lines) (sym (append-nil (text_of_line names (record { name = line.name; level = line.level; tokens = line.tokens ++ [] }))))

pub begun : (names : Bool) (line : Option Line) (name : Option Name) (level : ℕ) (tokens : Toks) (rest : Rest) (before out : List ℕ)
    → out ≡ before ++ text_of_lines names (going line ([], [])) → tokens ≡ []
    → out ++ text_of_lines names (going (Some (record { name = name; level = level; tokens = tokens })) rest) ≡ before ++ text_of_lines names (going line (begins name level rest))
begun names line name level tokens rest before out e none =
    rw (e, none, going_on names line (record { name = name; level = level; tokens = rest.0 } ∷ rest.1)) (append_assoc before _ _)

-- a token on the line under way
pub put_on : (line : Line) (t : TokenKind) (rest : Rest) → going (Some (record { name = line.name; level = line.level; tokens = line.tokens ++ t ∷ [] })) rest ≡ going (Some line) (on_line t rest)
put_on line t rest = rw append_assoc refl
