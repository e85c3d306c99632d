use Rattle.sqlite.specs.Held.{state}
use Rattle.sqlite.specs.Values.{bound}
use Rattle.std.proofs.Common.{[], refl}
use Rattle.rows_tables.proofs.Going.{goes_by}
use Rattle.rows_tables.specs.Queries.{of_table}
use Rattle.rows_tables.proofs.Queries.{finds_some, finds_no_row, fails_to_find, leaves_no_more}
use Rattle.rows_tables.proofs.Reading.{some_open, none_open, open_back}
use Rattle.rows_tables.proofs.rows.find_row.Goals as goal

pub returns-in-Ok-clause-finds : goal.returns-in-Ok-clause-finds
returns-in-Ok-clause-finds g c clean tree tests shows names parameters means takes =
    finds_some (state g.S.Store c.args.connection.now) (state g.S.Store c.query_row.new.self) c.args.connection.now.schema refl c.args.text.now tree tests shows names parameters means (bound c.args.params.now)
    (leaves_no_more (state g.S.Store c.args.connection.now) (state g.S.Store c.query_row.new.self) c.args.connection.now.schema refl c.args.text.now (of_table tree tests shows []) names parameters means (bound c.args.params.now) c.query_row.ensures.survives clean) c.in-Ok.row (c.in-Ok.ensures.row clean)

pub returns-in-QueryReturnedNoRows-clause-finds : goal.returns-in-QueryReturnedNoRows-clause-finds
returns-in-QueryReturnedNoRows-clause-finds g c clean tree tests shows names parameters means takes =
    finds_no_row (state g.S.Store c.args.connection.now) (state g.S.Store c.query_row.new.self) c.args.connection.now.schema refl c.args.text.now tree tests shows names parameters means (bound c.args.params.now)
    (leaves_no_more (state g.S.Store c.args.connection.now) (state g.S.Store c.query_row.new.self) c.args.connection.now.schema refl c.args.text.now (of_table tree tests shows []) names parameters means (bound c.args.params.now) c.query_row.ensures.survives clean) takes (rw c.in-QueryReturnedNoRows.is at (c.in-Err.ensures.row clean))

pub returns-in_default-clause-finds : goal.returns-in_default-clause-finds
returns-in_default-clause-finds g c clean tree tests shows names parameters means takes =
    fails_to_find (state g.S.Store c.args.connection.now) (state g.S.Store c.query_row.new.self) c.args.connection.now.schema refl c.args.text.now tree tests shows names parameters means (bound c.args.params.now)
    (leaves_no_more (state g.S.Store c.args.connection.now) (state g.S.Store c.query_row.new.self) c.args.connection.now.schema refl c.args.text.now (of_table tree tests shows []) names parameters means (bound c.args.params.now) c.query_row.ensures.survives clean) takes c.in-Err.error c.in_default.not-QueryReturnedNoRows (c.in-Err.ensures.row clean)

pub returns-in-Ok-clause-connection : goal.returns-in-Ok-clause-connection
returns-in-Ok-clause-connection g c = record {
  keeps = goes_by _ _ _ c.query_row.ensures.survives (λ clean is_open. (some_open _ _ _ _ _ (c.in-Ok.ensures.row clean)).0) (λ _. c.query_row.ensures.mode);
  opened = λ clean. some_open _ _ _ _ _ (c.in-Ok.ensures.row clean);
}

pub returns-in-QueryReturnedNoRows-clause-connection : goal.returns-in-QueryReturnedNoRows-clause-connection
returns-in-QueryReturnedNoRows-clause-connection g c = record {
  keeps = goes_by _ _ _ c.query_row.ensures.survives (λ clean is_open. open_back _ _ _ _ _ (c.in-Err.ensures.row clean) is_open) (λ _. c.query_row.ensures.mode);
  opened = λ clean. none_open _ _ _ _ (rw c.in-QueryReturnedNoRows.is at (c.in-Err.ensures.row clean));
}

pub returns-in_default-clause-connection : goal.returns-in_default-clause-connection
returns-in_default-clause-connection g c = record {
  keeps = goes_by _ _ _ c.query_row.ensures.survives (λ clean is_open. open_back _ _ _ _ _ (c.in-Err.ensures.row clean) is_open) (λ _. c.query_row.ensures.mode);
  opened = λ clean. tt;
}
