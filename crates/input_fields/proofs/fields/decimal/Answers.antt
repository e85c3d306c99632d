use Rattle.std.proofs.lemmas.Fmt.{IsAscii-from_digits}
use Rattle.std.proofs.lemmas.Str.{IsUtf8-from_ascii}
use Rattle.input_fields.proofs.fields.decimal.Goals as goal

-- digits are text
pub returns-in_default-from_utf8 : goal.returns-in_default-from_utf8
returns-in_default-from_utf8 c = λ said. c.in_default-from_utf8.ensures.cases.0 (IsUtf8-from_ascii c.args.text.now (IsAscii-from_digits c.args.text.now said.0.numeral.1))
