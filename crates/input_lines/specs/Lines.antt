-- Rule: Whose lines a grammar lets through: a script's, a station's or an operator's (this
-- project's own).
use Rattle.std.specs.Prelude.{◌≡◌, IsTrue}
use Rattle.input_lines.specs.Actions.{is_of_operator, is_of_script, is_of_station}
use Rattle.input_lines.specs.declared.lines.Grammar.{Grammar}
use Rattle.input_lines.specs.declared.lines.Grammar.TheVariants.{Script, Station, Operator}
use Rattle.input_lines.specs.declared.line.Line.{Line}

-- a station's do nothing that an operator's do, nor the other way round, and both count as done at
-- their moment
abbrev pub IsAllowed : Grammar → Line → Type 0
IsAllowed Script line = IsTrue (is_of_script line.action)
IsAllowed (Station moment) line = IsTrue (is_of_station line.action) × (line.moment ≡ moment)
IsAllowed (Operator moment) line = IsTrue (is_of_operator line.action) × (line.moment ≡ moment)
