use Rattle.std.proofs.Common.{Bor, ◌≡◌, ◌+◌, ◌-◌, ◌≤◌, ℕ, List, Some, length, true}
use Rattle.std.specs.Prelude.{All}
use Rattle.csv.specs.Reading.{Reached, Ready, default_config, is_flexible, reader_config, reader_state, reader_trim, source_of, strip_bom}
use Rattle.csv.specs.declared.parser.State.TheVariants as st
use Rattle.csv.specs.declared.reader.Trim.TheVariants as trim
use Rattle.input_fields.specs.GrantFiles.{most_records}
use Rattle.input_fields.specs.GrantLines.{IsInRange, grant_lines}
use Rattle.input_fields.proofs.grants.lines_of.Given as goal

-- the rows that were read so far, whose lines are those so far, and the bytes after them
abbrev pub invariant-loop-found : goal.invariant-loop-found
invariant-loop-found l = record {
  trim : reader_trim l.reader ≡ trim.None;
  ready : Ready l.reader;
  flexible : is_flexible l.reader ≡ true;
  config : reader_config l.reader ≡ default_config;
  few : length l.lines.items ≤ most_records;
  ranges : All IsInRange l.lines.items;
  read : (rows : List (List (List ℕ))) × (rest : List ℕ) × (source_of (λ (s : Bor (List ℕ)). Some s.now) l.reader ≡ Some rest) × Reached default_config st.StartRecord (strip_bom l.fn.text) rows (reader_state l.reader) rest × (l.lines.items ≡ grant_lines rows);
}

abbrev pub decreases-loop-found : goal.decreases-loop-found
decreases-loop-found l = most_records + 1 - length l.lines.items
