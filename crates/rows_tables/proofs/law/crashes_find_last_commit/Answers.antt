use Rattle.std.proofs.Common.{sym, subst}
use Rattle.rows_tables.proofs.law.crashes_find_last_commit.Goals as goal

-- the library's laws of a store: what a crash leaves of one that is open
pub returns : goal.returns
returns g c held is_open found = (
  g.met.S.Store.settled held.store found is_open,
  λ same. subst (g.S.Store.recovers held.store) (sym same) (g.met.S.Store.stays held.store is_open),
)
