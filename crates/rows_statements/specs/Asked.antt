-- What may be asked of the store's tables: queries, which change nothing (all this project's own).
use Rattle.std.specs.Prelude.{ℕ, List, []}
use Rattle.sqlite_value.specs.Order.{Row}
use Rattle.sqlite_sql.specs.Term.{Term}
use Rattle.sqlite_sql.specs.Query.{Query}
use Rattle.rows_tables.specs.Tables.{room_schema}
use Rattle.rows_tables.specs.Queries.{HasNoSums, Means, TakesParams, of_table}

-- the text is a query of one table, and takes these parameters
pub record IsTableQuery (text : List ℕ) (params : Row) : Type 0 where
  pub tree : ℕ
  pub tests : List Term
  pub shows : List Term
  pub names : List (List ℕ)
  pub parameters : ℕ
  pub means : Means room_schema text (of_table tree tests shows []) names parameters
  pub takes : TakesParams room_schema (of_table tree tests shows []) params parameters

-- the text is a query that adds nothing up, and takes these parameters
pub record IsQuery (text : List ℕ) (params : Row) : Type 0 where
  pub query : Query
  pub names : List (List ℕ)
  pub parameters : ℕ
  pub no_sums : HasNoSums query
  pub means : Means room_schema text query names parameters
  pub takes : TakesParams room_schema query params parameters
