use Rattle.std.proofs.Common.{ap, subst, sym}
use Rattle.dice_base.specs.Lexemes.{Lexes}
use Rattle.std.specs.Prelude.{[]}
use Rattle.token_reader.specs.Answers.{kinds}
use Rattle.expression_laws.proofs.Words.{lexes_each}
use Rattle.dice_command.proofs.Readings.{not-long, ok-err}
use Rattle.dice_command.proofs.reading.read_statement.Goals as goal

pub parse_statement-requires-clause-lexemes : goal.parse_statement-requires-clause-lexemes
parse_statement-requires-clause-lexemes c =
    lexes_each [] c.args.text.now (kinds c.deref.result.now)
    (subst (Lexes c.args.text.now) (sym (ap kinds c.deref.ensures.value)) c.in_ok-tokens.ensures.tokens)

pub returns-clause-says : goal.returns-clause-says
returns-clause-says c = record {
  short = not-long _ (λ long. ok-err (c.in_ok-tokens.ensures.long.1 long));
  tokens = kinds c.deref.result.now;
  lexes = subst (Lexes c.args.text.now) (sym (ap kinds c.deref.ensures.value)) c.in_ok-tokens.ensures.tokens;
  said = c.in_ok-stmt.ensures.reading.says;
}
