use Rattle.std.proofs.Common.{[], ◌∷◌, sym, subst}
use Rattle.sqlite_value.specs.declared.value.Value.TheVariants.{Text}
use Rattle.sqlite.specs.Held.{state}
use Rattle.rows_tables.specs.Places.{account_tree}
use Rattle.rows_tables.specs.Queries.{Means, TakesParams, of_table}
use Rattle.rows_statements.proofs.AccountLemmas.{find_account_text, account_tests, account_shows, account_names, find_account_is, find_account_takes, gets_account}
use Rattle.rows_statements.proofs.accounts.account_row.Goals as goal

pub returns-clause-gets : goal.returns-clause-gets
returns-clause-gets g c clean has =
    let means = subst (λ s. Means s find_account_text (of_table account_tree account_tests account_shows []) account_names 1) (sym has.schema_is) find_account_is in
    let takes = subst (λ s. TakesParams s (of_table account_tree account_tests account_shows []) (Text c.args.account ∷ []) 1) (sym has.schema_is) (find_account_takes c.args.account) in
    gets_account (state g.R.S.Store (g.R.Reads.held c.args.connection.now)) (state g.R.S.Store (g.R.Reads.held c.find_row.new.self)) c.args.account has c.find_row.result
    ((rw c.bytes.ensures.value at (c.find_row.ensures.finds clean)) account_tree account_tests account_shows account_names 1 means takes)

pub find_row-requires : goal.find_row-requires
find_row-requires g c =
    rw c.bytes.ensures.value (record { tree = account_tree; tests = account_tests; shows = account_shows; names = account_names; parameters = 1; means = find_account_is; takes = (find_account_takes c.args.account) })
