use Rattle.std.proofs.Common.{Err, [], ◌∷◌, ◌++◌, ◌∙◌, ap, refl, sym, rules, arith}
use Rattle.std.proofs.lemmas.Result.{err_from_is_err_and}
use Rattle.sqlite.specs.State.{HasCleanDisk, CommitsShowing}
use Rattle.sqlite.specs.Held.{state}
use Rattle.sqlite.specs.Values.{bound}
use Rattle.sqlite.proofs.Callers.{begun_plain, given_begin, unchanged_then}
use Rattle.sqlite.proofs.StateLemmas.{survives_then}
use Rattle.rows_tables.specs.Queries.{IsShownBy}
use Rattle.rows_tables.proofs.Going.{goes_by, goes_on}
use Rattle.rows_statements.proofs.WalkLemmas.{gathers_more, begun_open, went_on, unchanged_stays, failed_stays, query_back, query_stays, all_given, some_given, crash_after, walk_failed, statement_failed, walk_done}
use Rattle.rows_statements.proofs.walking.walk.Goals as goal

pub rows-init : goal.rows-init
rows-init g c =
    let made = c.in_ok-rows.ensures in (
      refl,
      goes_by _ _ _ made.survives (λ clean is_open. (begun_open g.S.Store c.args.text.now (bound c.args.params.now) c.args.connection.now c.in_ok-rows.rows.conn.now (made.begun clean)).0) (λ _. made.mode),
      λ clean. begun_open g.S.Store c.args.text.now (bound c.args.params.now) c.args.connection.now c.in_ok-rows.rows.conn.now (made.begun clean),
      λ clean plain.
          let begun = begun_plain g.S.Store _ _ c.args.connection.now _ plain (made.begun clean) in
          ([], begun.0, begun.1, refl),
      ([], refl),
      made.survives,
    )

pub rows-preserved : goal.rows-preserved
rows-preserved g c =
    let moved = c.next.follows.holds-at-none in
    let old = state g.S.Store c.args.connection.now in
    let was = state g.S.Store c.rows.rows.conn.now in
    let now = state g.S.Store c.next.follows.lender-at-none.conn.now in
    let keeps = c.rows.invariant.1 in
    let before : HasCleanDisk now → HasCleanDisk was = λ clean. omega (arith, moved.survives.clean, clean) in
    let row = c.in-Some.row.now in (
      moved.same_reference ∙ c.rows.invariant.0,
      goes_on old was now keeps (goes_by was now _ moved.survives (λ clean is_open. (c.rows.invariant.2 (before clean)).1) (λ _. moved.mode)),
      λ clean. let stays = rw c.in_ok-row.was at (moved.same clean) in went_on old was now (c.rows.invariant.2 (before clean)) stays,
      λ clean plain.
          let so_far = c.rows.invariant.3 (before clean) plain in
          let given = (rw (c.in_ok-row.was, c.in-Some.is) at (moved.ok clean)) c.args.text.now (bound c.args.params.now) so_far.0 so_far.1 in
          let stays = rw c.in_ok-row.was at (moved.same clean) in (
            so_far.0 ++ row ∷ [],
            given,
            unchanged_then old was now so_far.2 stays,
            gathers_more g.G.Gather.step c.args.gathered.now c.rows.gathered c.gather.new.self so_far.0 row so_far.3 c.in_ok-gather.ensures.gathered,
          ),
      let before = c.rows.invariant.4 in
          (before.0 ++ row ∷ [], gathers_more g.G.Gather.step c.args.gathered.now c.rows.gathered c.gather.new.self before.0 row before.1 c.in_ok-gather.ensures.gathered),
      survives_then old was now (CommitsShowing c.args.text.now (bound c.args.params.now) old) (λ _. ⊥) (CommitsShowing c.args.text.now (bound c.args.params.now) old) (λ _ _ shows. shows) (λ _ _ no. absurd no) c.rows.invariant.5 moved.survives,
    )

pub returns-in_err-rows-clause-connection : goal.returns-in_err-rows-clause-connection
returns-in_err-rows-clause-connection g c =
    let held = rw c.in_err-rows.was at c.query.follows.holds-at-none in
    let told = err_from_is_err_and c.from_residual.result c.from_residual.ensures.1 in
    record { keeps = goes_by _ _ _ held.survives (λ clean is_open. query_back _ _ _ _ _ (held.err clean) is_open) (λ _. held.mode); opened = λ clean. rw told.1 tt }

pub returns-in_err-rows-clause-walks : goal.returns-in_err-rows-clause-walks
returns-in_err-rows-clause-walks g c clean query names parameters no_sums means takes =
    let old = state g.S.Store c.args.connection.now in
    let new = state g.S.Store c.query.follows.lender-at-none in
    let held = rw c.in_err-rows.was at c.query.follows.holds-at-none in
    let late : HasCleanDisk new = search rules in
    let told = err_from_is_err_and c.from_residual.result c.from_residual.ensures.1 in
    statement_failed g.G.Gather.step g.G.Gather.refuses old new (crash_after old c.args.text.now query names parameters means (bound c.args.params.now) new held.survives late) (IsShownBy query old.now.trees (bound c.args.params.now)) c.args.gathered.now _ c.in_err-rows.field-0.0 told.0 c.from_residual.result told.1 told.2
    (query_stays old c.args.text.now query names parameters means (bound c.args.params.now) new no_sums takes c.in_err-rows.field-0.0 (held.err late))

pub returns-in_default-clause-walks : goal.returns-in_default-clause-walks
returns-in_default-clause-walks g c clean query names parameters no_sums means takes =
    let moved = c.next.follows.holds-at-none in
    let old = state g.S.Store c.args.connection.now in
    let was = state g.S.Store c.rows.rows.conn.now in
    let now = state g.S.Store c.next.follows.lender-at-none.conn.now in
    let late : HasCleanDisk now = search rules in
    let so_far = c.rows.invariant.3 (omega (arith, moved.survives.clean, late)) means.is_plain in
    let shown = (rw (c.in_ok-row.was, c.in_default.is) at (moved.ok late)) c.args.text.now (bound c.args.params.now) so_far.0 so_far.1 in
    let stays = rw c.in_ok-row.was at (moved.same late) in
    let fact = walk_done g.G.Gather.step g.G.Gather.refuses old now (crash_after old c.args.text.now query names parameters means (bound c.args.params.now) now
    (survives_then old was now (CommitsShowing c.args.text.now (bound c.args.params.now) old) (λ _. ⊥) (CommitsShowing c.args.text.now (bound c.args.params.now) old) (λ _ _ shows. shows) (λ _ _ no. absurd no) c.rows.invariant.5 moved.survives) late) (IsShownBy query old.now.trees (bound c.args.params.now)) c.args.gathered.now c.rows.gathered _ refl
    (so_far.0, all_given old c.args.text.now query names parameters means (bound c.args.params.now) was now so_far.2 so_far.0 shown, so_far.3) (unchanged_then old was now so_far.2 stays) in
    search rules

pub returns-in_err-row-clause-walks : goal.returns-in_err-row-clause-walks
returns-in_err-row-clause-walks g c clean query names parameters no_sums means takes =
    let moved = c.next.follows.holds-at-none in
    let old = state g.S.Store c.args.connection.now in
    let was = state g.S.Store c.rows.rows.conn.now in
    let now = state g.S.Store c.next.follows.lender-at-none.conn.now in
    let late : HasCleanDisk now = search rules in
    let so_far = c.rows.invariant.3 (omega (arith, moved.survives.clean, late)) means.is_plain in
    let told = err_from_is_err_and c.from_residual-in_err-row.result c.from_residual-in_err-row.ensures.1 in
    let fact = statement_failed g.G.Gather.step g.G.Gather.refuses old now (crash_after old c.args.text.now query names parameters means (bound c.args.params.now) now
    (survives_then old was now (CommitsShowing c.args.text.now (bound c.args.params.now) old) (λ _. ⊥) (CommitsShowing c.args.text.now (bound c.args.params.now) old) (λ _ _ shows. shows) (λ _ _ no. absurd no) c.rows.invariant.5 moved.survives) late) (IsShownBy query old.now.trees (bound c.args.params.now)) c.args.gathered.now c.rows.gathered c.in_err-row.field-0.0 told.0 c.from_residual-in_err-row.result told.1 told.2
    (failed_stays old was now c.in_err-row.field-0.0 so_far.2 (rw c.in_err-row.was at (moved.kept late))) in
    search rules

pub returns-in_err-gather-clause-walks : goal.returns-in_err-gather-clause-walks
returns-in_err-gather-clause-walks g c clean query names parameters no_sums means takes =
    let moved = c.next.follows.holds-at-none in
    let old = state g.S.Store c.args.connection.now in
    let was = state g.S.Store c.rows.rows.conn.now in
    let held = c.next.follows.lender-at-none.conn.now in
    let now = state g.S.Store held in
    let late : HasCleanDisk now = search rules in
    let row = c.in-Some.row.now in
    let so_far = c.rows.invariant.3 (omega (arith, moved.survives.clean, late)) means.is_plain in
    let given = (rw (c.in_ok-row.was, c.in-Some.is) at (moved.ok late)) c.args.text.now (bound c.args.params.now) so_far.0 so_far.1 in
    let stays = rw c.in_ok-row.was at (moved.same late) in
    let same = unchanged_then old was now so_far.2 stays in
    let some = some_given old c.args.text.now query names parameters means (bound c.args.params.now) now same (so_far.0 ++ row ∷ []) (given_begin g.S.Store c.args.text.now (bound c.args.params.now) held (so_far.0 ++ row ∷ []) given) in
    let told = err_from_is_err_and c.from_residual-in_err-gather.result c.from_residual-in_err-gather.ensures.1 in
    let fact = walk_failed g.G.Gather.step g.G.Gather.refuses old now (crash_after old c.args.text.now query names parameters means (bound c.args.params.now) now
    (survives_then old was now (CommitsShowing c.args.text.now (bound c.args.params.now) old) (λ _. ⊥) (CommitsShowing c.args.text.now (bound c.args.params.now) old) (λ _ _ shows. shows) (λ _ _ no. absurd no) c.rows.invariant.5 moved.survives) late) (IsShownBy query old.now.trees (bound c.args.params.now)) c.args.gathered.now c.gather.new.self told.0 c.from_residual-in_err-gather.result told.1
    (λ damaged. record { given = so_far.0; row = row; more = some.0; so_far = c.rows.gathered; are_shown = some.1; gathered = so_far.3; refused = c.in_err-gather.ensures.refused (ap Err (sym told.2 ∙ damaged)) })
    (unchanged_stays old now same) in
    search rules
