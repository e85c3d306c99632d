-- What is kept stays so, whatever a call came to.
use Rattle.std.proofs.Common.{◌≡◌, ◌≢◌, ◌≤◌, ◌+◌, ℕ, Bool, true, false, List, [], Option, Some, None, IfSome, unwrap_or, Result, Ok, Err, IfOk, OnOk, OnErr, IsTrue, option_map, pos, refl, sym, subst, ◌∙◌, inl, inr, arith, bytes_eq, ℤ}
use Rattle.std.proofs.lemmas.Slice.Eq.{bytes_eq-Decides}
use Rattle.sqlite_trees.specs.View.{doubt}
use Rattle.sqlite_trees.specs.declared.store.Store.{Ghosts}
use Rattle.std.specs.FinMap.{values}
use Rattle.std.specs.List.{sum_by}
use Rattle.sqlite.specs.Effect.{Database}
use Rattle.sqlite.specs.Held.{Held, state}
use Rattle.sqlite.specs.State.{State, HasCleanDisk}
use Rattle.account_rules.specs.declared.account.Account.{Account}
use Rattle.account_rules.specs.declared.job.Job.{Job}
use Rattle.account_rules.specs.declared.job.Standing.{Standing}
use Rattle.account_state.specs.RoomRules.{unfinished_count}
use Rattle.account_state.specs.Rooms.{RoomValue}
use Rattle.account_state.specs.Sums.{charged_in, reserved_in}
use Rattle.rows_statements.proofs.SummedJobs.{same_sum}
use Rattle.rows_statements.specs.Alone.{OnlyAccount, OnlyDevices}
use Rattle.rows_statements.proofs.CountedRows.{same_counted}
use Rattle.rows_statements.proofs.CountWalk.{count_of_room}
use Rattle.rows_statements.specs.JobSums.{IsCounted, IsSum, MovesCount, MovesSum, charges, counts, reserves}
use Rattle.rows_statements.specs.Rounds.{BeginsRound, EndsRound}
use Rattle.rows_statements.specs.Queues.{IsNumbered}
use Rattle.store_rounds.specs.Kept.{AreRight, HasCount, HasRow, HasSums, HaveSums, IsKept, IsMoved, IsNothing, IsRight, IsSeen, KeepsKnown, KeepsAccount, KeepsCount, KeepsJob, FollowsMaking, FollowsMove, FollowsOpening, KeepsSums, ForgetsAfterFault, SetsKnown, WhereOpen, kept_in, kept_of, known_of, unknown}
use Rattle.store_rounds.specs.ProofKnown.{HasAccountRow, HasJobRow}
use Rattle.store_rounds.specs.Looks.{LooksUp}
use Rattle.store_rounds.specs.declared.kept.Added.{Added}
use Rattle.store_rounds.specs.declared.kept.Kept.{Kept}
use Rattle.store_rounds.specs.declared.kept.Seen.{Seen}
use Rattle.store_rounds.specs.declared.kept.Sums.{Sums}
use Rattle.store_rounds.specs.declared.cache.Known.{Known}
use Rattle.store_rounds.specs.declared.cache.Key.{Key}
use Rattle.rows_tables.specs.Accounts.{AgreeOnRows, HoldsRoom, account_at, job_at}
use Rattle.rows_statements.specs.Asked.{IsQuery, IsTableQuery}
use Rattle.rows_statements.specs.Walks.{Walks, WalksShown}
use Rattle.rows_tables.specs.Queries.{Finds, FindsRow, IsShownBy, Means, TakesParams, of_table}
use Rattle.rows_tables.proofs.Savepoints.{undone_by}
use Rattle.sqlite.specs.declared.error.Error.{Error}
use Rattle.sqlite_value.specs.Order.{Row}
use Rattle.rows_tables.specs.Calls.{ChangesWhole, IsUnchanged, IsUndone, KeepsConnection, ReadsStore, UnchangedOrUndone}
use Rattle.rows_tables.specs.Cells.{account_cells, job_cells}
use Rattle.rows_tables.specs.Keyed.{HasSchema}
use Rattle.rows_tables.specs.declared.fault.TableFault.{TableFault}

abbrev Entries : Type 0
Entries = List (Key × Known)

none_right : (db : Database) (accounts : Entries) → accounts ≡ [] → AreRight db accounts
none_right db accounts none = subst (AreRight db) (sym none) (λ name. tt)

none_so : {X : Type 0} (P : X → Type 0) (o : Option X) → o ≡ None → IfSome o P
none_so P o none = subst (λ o. IfSome o P) (sym none) tt

if_so : {X : Type 0} (P Q : X → Type 0) (o : Option X) → ((x : X) → P x → Q x) → IfSome o P → IfSome o Q
if_so P Q None each held = tt
if_so P Q (Some x) each held = each x held

-- ---- what is kept of accounts

unknown_right : (db : Database) (name : List ℕ) → IsRight db name unknown
unknown_right db name = record { row = tt; reserved = tt; charged = tt; unfinished = tt }

known_so : (db : Database) (name : List ℕ) (o : Option Known) → IfSome o (IsRight db name) → IsRight db name (unwrap_or o unknown)
known_so db name None right = unknown_right db name
known_so db name (Some it) right = right

known_right : (db : Database) (accounts : Entries) (name : List ℕ) → AreRight db accounts → IsRight db name (known_of accounts name)
known_right db accounts name right = known_so db name (kept_of accounts name) (right name)

same_or_other : (P : Type 0) (other name : List ℕ) → (other ≡ name → P) → (other ≢ name → P) → P
same_or_other P other name same apart = (elim (bytes_eq other name) as (λ b. bytes_eq other name ≡ b → P) [
  | true ↦ λ e. same ((bytes_eq-Decides other name).0 e)
  | false ↦ λ e. apart (λ is. let both = sym ((bytes_eq-Decides other name).1 is) ∙ e in absurd (let it = both in cc))
]) refl

-- where one is put that is right, and the others are right as they were
set_right : (old new : Database) (name : List ℕ) (it : Known) (before after : Entries) → ((other : List ℕ) → other ≢ name → (is : Known) → IsRight old other is → IsRight new other is) → IsRight new name it → AreRight old before → SetsKnown name it before after → AreRight new after
set_right old new name it before after others own right sets other =
    same_or_other (IfSome (kept_of after other) (IsRight new other)) other name
    (λ same. subst (λ (n : List ℕ). IfSome (kept_of after n) (IsRight new n)) (sym same) (if_so (λ is. is ≡ it) (IsRight new name) (kept_of after name) (λ is e. subst (IsRight new name) (sym e) own) sets.own))
    (λ apart. if_so (λ is. kept_of before other ≡ Some is) (IsRight new other) (kept_of after other)
    (λ is e. others other apart is (subst (λ (o : Option Known). IfSome o (IsRight old other)) e (right other))) (sets.others other apart))

-- nothing is kept
pub nothing_kept : (now : State) (all : Kept) → HasSchema now.now → (IsTrue now.in_transaction → HasSchema now.committed) → IsNothing all → IsKept now all
nothing_kept now all schema committed none = record {
  schema = schema;
  committed = committed;
  accounts = none_right now.now (kept_in all.accounts) none.accounts;
  job = none_so (IsSeen now.now) all.job none.job;
}

pub unchanged_kept : (old new : State) (all : Kept) → IsUnchanged old new → IsKept old all → IsKept new all
unchanged_kept old new all same kept = record {
  schema = subst HasSchema (sym same.now) kept.schema;
  committed = λ mode. subst HasSchema (sym same.committed) (kept.committed (sym same.mode ∙ mode));
  accounts = subst (λ db. AreRight db (kept_in all.accounts)) (sym same.now) kept.accounts;
  job = subst (λ db. IfSome all.job (IsSeen db)) (sym same.now) kept.job;
}

-- accounts may be kept
pub opened_kept : (now : State) (before after : Kept) → kept_in after.accounts ≡ kept_in before.accounts → after.job ≡ before.job → IsKept now before → IsKept now after
opened_kept now before after accounts job kept = record {
  schema = kept.schema;
  committed = kept.committed;
  accounts = subst (AreRight now.now) (sym accounts) kept.accounts;
  job = subst (λ (o : Option Seen). IfSome o (IsSeen now.now)) (sym job) kept.job;
}

-- this is kept of an account, of which it is right
put_kept : (now : State) (before after : Kept) (name : List ℕ) (it : Known) → IsRight now.now name it → KeepsKnown name it before after → IsKept now before → IsKept now after
put_kept now before after name it right keeps kept = record {
  schema = kept.schema;
  committed = kept.committed;
  accounts = set_right now.now now.now name it (kept_in before.accounts) (kept_in after.accounts) (λ other apart is held. held) right kept.accounts keeps.accounts;
  job = subst (λ (o : Option Seen). IfSome o (IsSeen now.now)) (sym keeps.job) kept.job;
}

-- ---- a call that did not change the tables

module _ (old new : State) (before after : Kept) (keeps : KeepsConnection old new) (settled : IsTrue old.is_open → old.in_transaction ≡ false → old.now ≡ old.committed) (was : WhereOpen old (IsKept old before)) where
  kept_then : HasCleanDisk new → IsTrue new.is_open → IsKept old before
  kept_then clean opened = was (omega (arith, keeps.clean, clean)) (keeps.back clean opened)

  committed_schema : (mode : Bool) → old.in_transaction ≡ mode → (old.in_transaction ≡ false → old.now ≡ old.committed) → IsKept old before → HasSchema old.committed
  committed_schema true is alone kept = kept.committed is
  committed_schema false is alone kept = subst HasSchema (alone is) kept.schema

  -- after a fault, where nothing is kept
  pub failed_kept : (HasCleanDisk new → HasSchema old.now → UnchangedOrUndone old new) → IsNothing after → WhereOpen new (IsKept new after)
  failed_kept undone none clean opened =
      let kept = kept_then clean opened in
      elim (undone clean kept.schema) [
        | inl same ↦ nothing_kept new after (subst HasSchema (sym same.now) kept.schema) (λ mode. subst HasSchema (sym same.committed) (kept.committed (sym same.mode ∙ mode))) none
        | inr lost ↦ nothing_kept new after (subst HasSchema (sym (lost.now opened)) (committed_schema old.in_transaction refl (settled (keeps.back clean opened)) kept)) (λ mode. absurd (let no = sym mode ∙ lost.mode in cc)) none
      ]

  pub told_kept : {T E : Type 0} (r : Result T E) → (HasCleanDisk new → HasSchema old.now → OnOk r (IsUnchanged old new)) → (HasCleanDisk new → HasSchema old.now → OnErr r (UnchangedOrUndone old new)) → ForgetsAfterFault r before after → WhereOpen new (IsKept new after)
  told_kept (Ok it) same undone out clean opened =
      let kept = kept_then clean opened in
      subst (IsKept new) (sym out) (unchanged_kept old new before (same clean kept.schema) kept)
  told_kept (Err e) same undone none clean opened = failed_kept undone none clean opened

  -- a query of the store's tables was asked
  pub found_kept : (text : List ℕ) (params : Row) → IsTableQuery text params → (r : Result (Option Row) Error) → (HasCleanDisk new → Finds old new text params r) → ForgetsAfterFault r before after → WhereOpen new (IsKept new after)
  found_kept text params asked r finds out = told_kept r (λ clean has. same_then r (found clean has)) (λ clean has. undone_then r (found clean has)) out
    where
      found : HasCleanDisk new → HasSchema old.now → FindsRow old new asked.tree asked.tests asked.shows params r
      found clean has =
          let query = of_table asked.tree asked.tests asked.shows [] in
          finds clean asked.tree asked.tests asked.shows asked.names asked.parameters
          (subst (λ s. Means s text query asked.names asked.parameters) (sym has.schema_is) asked.means)
          (subst (λ s. TakesParams s query params asked.parameters) (sym has.schema_is) asked.takes)

      same_then : (r : Result (Option Row) Error) → FindsRow old new asked.tree asked.tests asked.shows params r → OnOk r (IsUnchanged old new)
      same_then (Ok it) found = record { now = found.same.0.now_is; committed = found.same.0.committed_is; mode = found.same.0.mode }
      same_then (Err e) found = tt

      undone_then : (r : Result (Option Row) Error) → FindsRow old new asked.tree asked.tests asked.shows params r → OnErr r (UnchangedOrUndone old new)
      undone_then (Ok it) found = tt
      undone_then (Err e) found = elim found.failed [
        | inl fails ↦ inr (undone_by old new fails.3)
        | inr stopped ↦ inl (record { now = stopped.2.0.now_is; committed = stopped.2.0.committed_is; mode = stopped.2.0.mode })
      ]

  pub walked_kept : {G : Type 0} (step : G → Row → G → Type 0) (refuses : G → Row → Type 0) (first last : G) (text : List ℕ) (params : Row) → IsQuery text params → (r : Result (Unit {0}) TableFault) → (HasCleanDisk new → Walks step refuses old new text params first last r)
      → ForgetsAfterFault r before after → WhereOpen new (IsKept new after)
  walked_kept step refuses first last text params asked r walks out = told_kept r (λ clean has. (walked clean has).same) (λ clean has. undone_then r (walked clean has).stays) out
    where
      walked : HasCleanDisk new → HasSchema old.now → WalksShown step refuses old new (IsShownBy asked.query old.now.trees params) first last r
      walked clean has = walks clean asked.query asked.names asked.parameters asked.no_sums
          (subst (λ s. Means s text asked.query asked.names asked.parameters) (sym has.schema_is) asked.means)
          (subst (λ s. TakesParams s asked.query params asked.parameters) (sym has.schema_is) asked.takes)

      undone_then : (r : Result (Unit {0}) TableFault) → UnchangedOrUndone old new → OnErr r (UnchangedOrUndone old new)
      undone_then (Ok it) stays = tt
      undone_then (Err e) stays = stays

  pub account_kept : (name : List ℕ) (r : Result (Option Account) TableFault) → (HasCleanDisk new → HasSchema old.now → OnOk r (IsUnchanged old new)) → (HasCleanDisk new → HasSchema old.now → UnchangedOrUndone old new)
      → (HasCleanDisk new → IsKept old before → IfOk r (λ found. account_at old.now name ≡ option_map (account_cells name) found)) → KeepsAccount name r before after → WhereOpen new (IsKept new after)
  account_kept name (Ok None) same undone found out clean opened =
      let kept = kept_then clean opened in
      subst (IsKept new) (sym out) (unchanged_kept old new before (same clean kept.schema) kept)
  account_kept name (Ok (Some row)) same undone found out clean opened =
      let kept = kept_then clean opened in
      let still = same clean kept.schema in
      let mid = unchanged_kept old new before still kept in
      let was = known_right new.now (kept_in before.accounts) name mid.accounts in
      put_kept new before after name _ (record {
        row = subst (λ db. account_at db name ≡ Some (account_cells name row)) (sym still.now) (found clean kept);
        reserved = was.reserved;
        charged = was.charged;
        unfinished = was.unfinished;
      }) out mid
  account_kept name (Err e) same undone found none clean opened = failed_kept undone none clean opened

  pub job_kept : (name : List ℕ) (number : ℕ) (r : Result (Option Job) TableFault) → (HasCleanDisk new → HasSchema old.now → OnOk r (IsUnchanged old new)) → (HasCleanDisk new → HasSchema old.now → OnErr r (UnchangedOrUndone old new))
      → (HasCleanDisk new → HasSchema old.now → IfOk r (λ found. IfSome found (λ job. HasJobRow name job old.now))) → IfOk r (λ found. IfSome found (λ job. (job.job ≡ number) × IsNumbered job))
      → KeepsJob name number r before after → WhereOpen new (IsKept new after)
  job_kept name number (Ok None) same undone found numbered out clean opened =
      let kept = kept_then clean opened in
      subst (IsKept new) (sym out) (unchanged_kept old new before (same clean kept.schema) kept)
  job_kept name number (Ok (Some job)) same undone found numbered out clean opened =
      let kept = kept_then clean opened in
      let still = same clean kept.schema in
      let mid = unchanged_kept old new before still kept in
      subst (IsKept new) (sym out) (record {
        schema = mid.schema;
        committed = mid.committed;
        accounts = mid.accounts;
        job = (job, numbered.0, refl, subst (HasJobRow name job) (sym still.now) (found clean kept.schema));
      })
  job_kept name number (Err e) same undone found numbered none clean opened = failed_kept undone none clean opened

  -- one was added up, or was kept
  pub sums_kept : (name : List ℕ) (r : Result Sums TableFault) → (HasCleanDisk new → HasSchema old.now → OnOk r (IsUnchanged old new)) → (HasCleanDisk new → HasSchema old.now → UnchangedOrUndone old new)
      → (HasCleanDisk new → IsKept old before → IfOk r (HaveSums old.now name)) → KeepsSums name r before after → WhereOpen new (IsKept new after)
  sums_kept name (Ok sums) same undone summed out clean opened =
      let kept = kept_then clean opened in
      let still = same clean kept.schema in
      let mid = unchanged_kept old new before still kept in
      let was = known_right new.now (kept_in before.accounts) name mid.accounts in
      let both = subst (λ db. HaveSums db name sums) (sym still.now) (summed clean kept) in
      put_kept new before after name _ (record {
        row = was.row;
        reserved = both.0;
        charged = both.1;
        unfinished = was.unfinished;
      }) out mid
  sums_kept name (Err e) same undone summed none clean opened = failed_kept undone none clean opened

  -- one was counted, or its count was kept
  pub count_kept : (name : List ℕ) (r : Result ℕ TableFault) → (HasCleanDisk new → HasSchema old.now → OnOk r (IsUnchanged old new)) → (HasCleanDisk new → HasSchema old.now → UnchangedOrUndone old new)
      → (HasCleanDisk new → IsKept old before → IfOk r (λ count. IsCounted old.now name count)) → KeepsCount name r before after → WhereOpen new (IsKept new after)
  count_kept name (Ok count) same undone counted out clean opened =
      let kept = kept_then clean opened in
      let still = same clean kept.schema in
      let mid = unchanged_kept old new before still kept in
      let was = known_right new.now (kept_in before.accounts) name mid.accounts in
      put_kept new before after name _ (record {
        row = was.row;
        reserved = was.reserved;
        charged = was.charged;
        unfinished = subst (λ db. IsCounted db name count) (sym still.now) (counted clean kept);
      }) out mid
  count_kept name (Err e) same undone counted none clean opened = failed_kept undone none clean opened

  -- ---- rounds

  pub ended_kept : {E : Type 0} (r : Result (Unit {0}) E) → (HasCleanDisk new → OnOk r (EndsRound old new)) → (HasCleanDisk new → OnErr r (UnchangedOrUndone old new)) → ForgetsAfterFault r before after → WhereOpen new (IsKept new after)
  ended_kept (Ok done) ends stays out clean opened =
      let kept = kept_then clean opened in
      let over = ends clean in
      subst (IsKept new) (sym out) (record {
        schema = subst HasSchema (sym over.now) kept.schema;
        committed = λ mode. absurd (let no = sym mode ∙ over.mode in cc);
        accounts = subst (λ db. AreRight db (kept_in before.accounts)) (sym over.now) kept.accounts;
        job = subst (λ db. IfSome before.job (IsSeen db)) (sym over.now) kept.job;
      })
  ended_kept (Err e) ends stays none clean opened = failed_kept (λ clean has. stays clean) none clean opened

-- a round that is begun
pub begun_kept : (old new : State) (before after : Kept) → doubt old.is_clean ≤ doubt new.is_clean → (IsTrue old.is_open → old.in_transaction ≡ false → old.now ≡ old.committed) → WhereOpen old (IsKept old before) → {E : Type 0} (r : Result (Unit {0}) E)
    → (HasCleanDisk new → OnOk r (BeginsRound old new)) → (HasCleanDisk new → OnErr r (IsTrue new.is_open → IsUnchanged old new)) → OnErr r (KeepsConnection old new) → ForgetsAfterFault r before after → WhereOpen new (IsKept new after)
begun_kept old new before after less settled was (Ok done) begins stays keeps out clean opened =
    let begun = begins clean in
    let kept = was (omega (arith, less, clean)) begun.opened.0 in
    subst (IsKept new) (sym out) (record {
      schema = subst HasSchema (sym begun.now) kept.schema;
      committed = λ mode. subst HasSchema (sym begun.committed) kept.schema;
      accounts = subst (λ db. AreRight db (kept_in before.accounts)) (sym begun.now) kept.accounts;
      job = subst (λ db. IfSome before.job (IsSeen db)) (sym begun.now) kept.job;
    })
begun_kept old new before after less settled was (Err e) begins stays keeps none clean opened = failed_kept old new before after keeps settled was (λ clean has. inl (stays clean opened)) none clean opened

-- ---- a change

sum_alike : (of : Job → ℕ) (name : List ℕ) (a b : Database) → AgreeOnRows name a b → (units : ℕ) → IsSum of a name units → IsSum of b name units
sum_alike of name a b agree units = same_sum of name a b agree.same_jobs units

counted_alike : (name : List ℕ) (a b : Database) → HasSchema a → HasSchema b → AgreeOnRows name a b → (count : ℕ) → IsCounted a name count → IsCounted b name count
counted_alike name a b was has agree count = same_counted name a b was has agree.same_jobs count

-- where its rows agree what is kept of the account is right
right_alike : (name : List ℕ) (a b : Database) → HasSchema a → HasSchema b → AgreeOnRows name a b → (it : Known) → IsRight a name it → IsRight b name it
right_alike name a b was has agree it right = record {
  row = if_so (λ row. HasAccountRow name row a) (λ row. HasAccountRow name row b) it.row (λ row there. agree.same_account ∙ there) right.row;
  reserved = if_so (IsSum reserves a name) (IsSum reserves b name) it.reserved (sum_alike reserves name a b agree) right.reserved;
  charged = if_so (IsSum charges a name) (IsSum charges b name) it.charged (sum_alike charges name a b agree) right.charged;
  unfinished = if_so (IsCounted a name) (IsCounted b name) it.unfinished (counted_alike name a b was has agree) right.unfinished;
}

-- so it is of an account that is granted pages
granted_right : (name : List ℕ) (a b : Database) → HasSchema a → HasSchema b → account_at b name ≡ account_at a name → ((n : ℤ) → job_at b name n ≡ job_at a name n) → (it : Known) → IsRight a name it → IsRight b name it
granted_right name a b was has same_account same_jobs it right = record {
  row = if_so (λ row. HasAccountRow name row a) (λ row. HasAccountRow name row b) it.row (λ row there. same_account ∙ there) right.row;
  reserved = if_so (IsSum reserves a name) (IsSum reserves b name) it.reserved (same_sum reserves name a b same_jobs) right.reserved;
  charged = if_so (IsSum charges a name) (IsSum charges b name) it.charged (same_sum charges name a b same_jobs) right.charged;
  unfinished = if_so (IsCounted a name) (IsCounted b name) it.unfinished (same_counted name a b was has same_jobs) right.unfinished;
}

moved_so : (P Q : ℕ → Type 0) (was is : ℕ) (before after : Option ℕ) → ((rest : ℕ) → P (rest + was) → Q (rest + is)) → IsMoved was is before after → IfSome before P → IfSome after Q
moved_so P Q was is before None each moves held = tt
moved_so P Q was is before (Some units) each moves held = subst Q (sym moves.2) (each moves.0 (subst (λ (o : Option ℕ). IfSome o P) moves.1 held))

seen_alike : (a b : Database) → ((name : List ℕ) → AgreeOnRows name a b) → (o : Option Seen) → IfSome o (IsSeen a) → IfSome o (IsSeen b)
seen_alike a b agree None held = tt
seen_alike a b agree (Some seen) held = (held.0, held.1, held.2, (agree seen.account).same_jobs (pos held.0.job) ∙ held.3)

module _ {S : Type 0} (store : Ghosts S) (old new : Held S) (before after : Kept) (changed : Database → Database → Type 0) (settled : IsTrue (state store old).is_open → (state store old).in_transaction ≡ false → (state store old).now ≡ (state store old).committed)
    (was : WhereOpen (state store old) (IsKept (state store old) before)) where
  abbrev first : State
  first = state store old

  abbrev last : State
  last = state store new

  module _ {E : Type 0} (changes : ChangesWhole store old new {T = Unit {0}} {E = E} (Ok tt) changed) (clean : HasCleanDisk last) (opened : IsTrue last.is_open) where
    pub kept_before : IsKept first before
    kept_before = kept_then first last before after changes.whole.keeps settled was clean opened

    pub schema_after : HasSchema last.now
    schema_after = (changes.made clean kept_before.schema).0

    pub change_after : changed first.now last.now
    change_after = (changes.made clean kept_before.schema).1

    pub committed_after : IsTrue last.in_transaction → HasSchema last.committed
    committed_after mode =
        let goes = changes.whole.within clean in
        let mode_was : IsTrue first.in_transaction = sym goes.mode ∙ mode in
        subst HasSchema (sym (goes.committed mode_was)) (kept_before.committed mode_was)

    none_after : IsNothing after → IsKept last after
    none_after none = nothing_kept last after schema_after committed_after none

  module _ {E : Type 0} (fault : E) (changes : ChangesWhole store old new {T = Unit {0}} {E = E} (Err fault) changed) where
    not_changed_kept : IsNothing after → WhereOpen last (IsKept last after)
    not_changed_kept none = failed_kept first last before after changes.whole.keeps settled was (λ clean has. changes.whole.undone clean) none

  -- of an account that is opened, of which nothing is kept then
  pub account_opened : {E : Type 0} (name : List ℕ) (r : Result (Unit {0}) E) → ((a b : Database) → changed a b → OnlyAccount name a b) → ChangesWhole store old new r changed → FollowsOpening name r before after → WhereOpen last (IsKept last after)
  account_opened name (Ok done) alone changes minds clean opened =
      let kept = kept_before changes clean opened in
      let only = alone first.now last.now (change_after changes clean opened) in
      let has = schema_after changes clean opened in
      record {
        schema = has;
        committed = committed_after changes clean opened;
        accounts = set_right first.now last.now name unknown (kept_in before.accounts) (kept_in after.accounts)
            (λ other apart. right_alike other first.now last.now kept.schema has (only.others other apart)) (unknown_right last.now name) kept.accounts minds.accounts;
        job = none_so (IsSeen last.now) after.job minds.job;
      }
  account_opened name (Err e) alone changes none clean opened = not_changed_kept e changes none clean opened

  -- of an account that is granted pages: its row and those of its jobs stay
  pub account_granted : {E : Type 0} (name : List ℕ) (r : Result (Unit {0}) E)
      → ((a b : Database) → changed a b → OnlyAccount name a b × (account_at b name ≡ account_at a name) × ((n : ℤ) → job_at b name n ≡ job_at a name n))
      → ChangesWhole store old new r changed → ForgetsAfterFault r before after → WhereOpen last (IsKept last after)
  account_granted name (Ok done) leaves changes out clean opened =
      let kept = kept_before changes clean opened in
      let has = schema_after changes clean opened in
      let left = leaves first.now last.now (change_after changes clean opened) in
      subst (IsKept last) (sym out) (record {
        schema = has;
        committed = committed_after changes clean opened;
        accounts = λ other. if_so (IsRight first.now other) (IsRight last.now other) (kept_of (kept_in before.accounts) other)
            (λ it right. same_or_other (IsRight last.now other it) other name
            (λ same. subst (λ (n : List ℕ). IsRight last.now n it) (sym same) (granted_right name first.now last.now kept.schema has left.1 left.2 it (subst (λ (n : List ℕ). IsRight first.now n it) same right)))
            (λ apart. right_alike other first.now last.now kept.schema has (left.0.others other apart) it right)) (kept.accounts other);
        job = if_so (IsSeen first.now) (IsSeen last.now) before.job
            (λ seen held. (
              held.0,
              held.1,
              held.2,
              same_or_other (job_at last.now seen.account (pos held.0.job) ≡ Some (job_cells seen.account held.0)) seen.account name
                  (λ same. subst (λ (n : List ℕ). job_at last.now n (pos held.0.job) ≡ job_at first.now n (pos held.0.job)) (sym same) (left.2 (pos held.0.job)) ∙ held.3)
                  (λ apart. (left.0.others seen.account apart).same_jobs (pos held.0.job) ∙ held.3),
            )) kept.job;
      })
  account_granted name (Err e) leaves changes none clean opened = not_changed_kept e changes none clean opened

  -- of an account that has one job more
  pub job_made : {E : Type 0} (name : List ℕ) (row : Option Account) (job : Job) (r : Result (Unit {0}) E) → (IsKept first before → IfSome row (λ it. HasAccountRow name it first.now))
      → ((it : Account) → HasAccountRow name it first.now → changed first.now last.now → OnlyAccount name first.now last.now × HasAccountRow name (record it { next_job = job.job + 1 }) last.now × MovesSum reserves name 0 job.standing.reserved first.now last.now × MovesSum charges name 0 job.standing.charged first.now last.now × MovesCount name 0 (counts job.standing) first.now last.now)
      → ChangesWhole store old new r changed → FollowsMaking name row job r before after → WhereOpen last (IsKept last after)
  job_made name (Some it) job (Ok done) there moves changes minds clean opened =
      let kept = kept_before changes clean opened in
      let made = moves it (there kept) (change_after changes clean opened) in
      let has = schema_after changes clean opened in
      let was = known_right first.now (kept_in before.accounts) name kept.accounts in
      record {
        schema = has;
        committed = committed_after changes clean opened;
        accounts = set_right first.now last.now name _ (kept_in before.accounts) (kept_in after.accounts)
            (λ other apart. right_alike other first.now last.now kept.schema has (made.0.others other apart)) (record {
              row = made.1;
              reserved = moved_so (IsSum reserves first.now name) (IsSum reserves last.now name) 0 job.standing.reserved _ _ made.2 minds.moves.reserved was.reserved;
              charged = moved_so (IsSum charges first.now name) (IsSum charges last.now name) 0 job.standing.charged _ _ made.3 minds.moves.charged was.charged;
              unfinished = moved_so (IsCounted first.now name) (IsCounted last.now name) 0 (counts job.standing) _ _ (made.4 kept.schema has) minds.moves.unfinished was.unfinished;
            }) kept.accounts minds.accounts;
        job = none_so (IsSeen last.now) after.job minds.job;
      }
  job_made name None job (Ok done) there moves changes none clean opened = none_after changes clean opened none
  job_made name None job (Err e) there moves changes none clean opened = not_changed_kept e changes none clean opened
  job_made name (Some it) job (Err e) there moves changes none clean opened = not_changed_kept e changes none clean opened

  -- of an account, of which what is kept is moved
  pub job_changed : {E : Type 0} (name : List ℕ) (was_added : Option Added) (is : Standing) (r : Result (Unit {0}) E)
      → ((added : Added) → was_added ≡ Some added → IsKept first before → changed first.now last.now → OnlyAccount name first.now last.now × (account_at last.now name ≡ account_at first.now name) × MovesSum reserves name added.reserved is.reserved first.now last.now × MovesSum charges name added.charged is.charged first.now last.now × MovesCount name added.unfinished (counts is) first.now last.now)
      → ChangesWhole store old new r changed → FollowsMove name was_added is r before after → WhereOpen last (IsKept last after)
  job_changed name (Some added) is (Ok done) moves changes minds clean opened =
      let kept = kept_before changes clean opened in
      let made = moves added refl kept (change_after changes clean opened) in
      let has = schema_after changes clean opened in
      let was = known_right first.now (kept_in before.accounts) name kept.accounts in
      let still = if_so (λ row. HasAccountRow name row first.now) (λ row. HasAccountRow name row last.now) (known_of (kept_in before.accounts) name).row (λ row there. made.1 ∙ there) was.row in
      record {
        schema = has;
        committed = committed_after changes clean opened;
        accounts = set_right first.now last.now name _ (kept_in before.accounts) (kept_in after.accounts)
            (λ other apart. right_alike other first.now last.now kept.schema has (made.0.others other apart)) (record {
              row = subst (λ (o : Option Account). IfSome o (λ row. HasAccountRow name row last.now)) (sym minds.moves.row) still;
              reserved = moved_so (IsSum reserves first.now name) (IsSum reserves last.now name) added.reserved is.reserved _ _ made.2 minds.moves.reserved was.reserved;
              charged = moved_so (IsSum charges first.now name) (IsSum charges last.now name) added.charged is.charged _ _ made.3 minds.moves.charged was.charged;
              unfinished = moved_so (IsCounted first.now name) (IsCounted last.now name) added.unfinished (counts is) _ _ (made.4 kept.schema has) minds.moves.unfinished was.unfinished;
            }) kept.accounts minds.accounts;
        job = none_so (IsSeen last.now) after.job minds.job;
      }
  job_changed name None is (Ok done) moves changes none clean opened = none_after changes clean opened none
  job_changed name None is (Err e) moves changes none clean opened = not_changed_kept e changes none clean opened
  job_changed name (Some added) is (Err e) moves changes none clean opened = not_changed_kept e changes none clean opened

  -- of devices
  pub devices_changed : {E : Type 0} (r : Result (Unit {0}) E) → ((a b : Database) → changed a b → OnlyDevices a b) → ChangesWhole store old new r changed → ForgetsAfterFault r before after → WhereOpen last (IsKept last after)
  devices_changed (Ok done) alone changes out clean opened =
      let kept = kept_before changes clean opened in
      let only = alone first.now last.now (change_after changes clean opened) in
      subst (IsKept last) (sym out) (record {
        schema = schema_after changes clean opened;
        committed = committed_after changes clean opened;
        accounts = λ name. if_so (IsRight first.now name) (IsRight last.now name) (kept_of (kept_in before.accounts) name) (right_alike name first.now last.now kept.schema (schema_after changes clean opened) (only.accounts name)) (kept.accounts name);
        job = seen_alike first.now last.now only.accounts before.job kept.job;
      })
  devices_changed (Err e) alone changes none clean opened = not_changed_kept e changes none clean opened

-- ---- what is found of it

-- of rows that are held it is what they come to
pub sum_there : (of : Job → ℕ) (db : Database) (name : List ℕ) (room : RoomValue) → HoldsRoom db name room → (units : ℕ) → IsSum of db name units → units ≡ sum_by of (values room.jobs)
sum_there of db name room held units right = right room.jobs (record { rows = held.rows.job_rows; numbered = λ n it is. (held.is_room.jobs n it is).numbered })

-- what is known of an account where that is kept
pub row_known : (now : State) (all : Kept) (ours : Type 0) (name : List ℕ) (known : Option Account) → IfSome known (λ row. ours × HasRow all name row) → IsKept now all → IfSome known (λ row. HasAccountRow name row now.now)
row_known now all ours name None found kept = tt
row_known now all ours name (Some row) found kept = subst (λ (o : Option Account). IfSome o (λ row. HasAccountRow name row now.now)) found.1 (known_right now.now (kept_in all.accounts) name kept.accounts).row

pub sums_known : (now : State) (all : Kept) (ours : Type 0) (name : List ℕ) (known : Option Sums) → IfSome known (λ sums. ours × HasSums all name sums) → IsKept now all → IfSome known (HaveSums now.now name)
sums_known now all ours name None found kept = tt
sums_known now all ours name (Some sums) found kept =
    let right = known_right now.now (kept_in all.accounts) name kept.accounts in (
      subst (λ (o : Option ℕ). IfSome o (IsSum reserves now.now name)) found.1.0 right.reserved,
      subst (λ (o : Option ℕ). IfSome o (IsSum charges now.now name)) found.1.1 right.charged,
    )

pub count_known : (now : State) (all : Kept) (ours : Type 0) (name : List ℕ) (known : Option ℕ) → IfSome known (λ count. ours × HasCount all name count) → IsKept now all → IfSome known (IsCounted now.now name)
count_known now all ours name None found kept = tt
count_known now all ours name (Some count) found kept = subst (λ (o : Option ℕ). IfSome o (IsCounted now.now name)) found.1 (known_right now.now (kept_in all.accounts) name kept.accounts).unfinished

-- a new job of an account whose row is kept
pub row_there : (now : State) (all : Kept) (name : List ℕ) (known : Option Account) → IfSome known (HasRow all name) → IsKept now all → IfSome known (λ row. HasAccountRow name row now.now)
row_there now all name None found kept = tt
row_there now all name (Some row) found kept = subst (λ (o : Option Account). IfSome o (λ row. HasAccountRow name row now.now)) found (known_right now.now (kept_in all.accounts) name kept.accounts).row

pub found_seen : (db : Database) (name : List ℕ) (number : ℕ) (found : Option Seen) (was : Option Added) (added : Added) → was ≡ Some added → IfSome was (λ a. found ≡ Some (record { account = name; number = number; added = a })) → IfSome found (IsSeen db)
    → IsSeen db (record { account = name; number = number; added = added })
found_seen db name number found was added is told held =
    let one = subst (λ (o : Option Added). IfSome o (λ a. found ≡ Some (record { account = name; number = number; added = a }))) is told in
    subst (λ (o : Option Seen). IfSome o (IsSeen db)) one held

-- what was added up, or kept, is what the rows come to
pub sums_so : (old new : State) (all : Kept) (ours : Bool) (name : List ℕ) (known : Option Sums) → IfSome known (λ sums. IsTrue ours × HasSums all name sums) → (IsTrue ours → WhereOpen old (IsKept old all)) → (r : Result Sums TableFault)
    → KeepsConnection old new → (HasCleanDisk new → OnOk r (IsTrue old.is_open × IsTrue new.is_open)) → (HasCleanDisk new → HasSchema old.now → IfSome known (HaveSums old.now name) → IfOk r (HaveSums old.now name))
    → HasCleanDisk new → HasSchema old.now → IfOk r (HaveSums old.now name)
sums_so old new all ours name None found was (Ok sums) keeps opens told clean has = told clean has tt
sums_so old new all ours name (Some known) found was (Ok sums) keeps opens told clean has =
    let kept = was found.0 (omega (arith, keeps.clean, clean)) (opens clean).0 in
    told clean has (sums_known old all (IsTrue ours) name (Some known) found kept)
sums_so old new all ours name known found was (Err e) keeps opens told clean has = tt

pub reserved_told : (old new : State) (name : List ℕ) (r : Result Sums TableFault) → (HasCleanDisk new → HasSchema old.now → IfOk r (HaveSums old.now name)) → HasCleanDisk new → HasSchema old.now → (room : RoomValue) → HoldsRoom old.now name room → IfOk r (λ sums. sums.reserved ≡ reserved_in room)
reserved_told old new name (Ok sums) told clean has room held = sum_there reserves old.now name room held sums.reserved (told clean has).0
reserved_told old new name (Err e) told clean has room held = tt

pub charged_told : (old new : State) (name : List ℕ) (r : Result Sums TableFault) → (HasCleanDisk new → HasSchema old.now → IfOk r (HaveSums old.now name)) → HasCleanDisk new → HasSchema old.now → (room : RoomValue) → HoldsRoom old.now name room → IfOk r (λ sums. sums.charged ≡ charged_in room)
charged_told old new name (Ok sums) told clean has room held = sum_there charges old.now name room held sums.charged (told clean has).1
charged_told old new name (Err e) told clean has room held = tt

-- the row that was read, or kept, is the account's
pub row_so : (old new : State) (all : Kept) (ours : Bool) (name : List ℕ) (known : Option Account) → IfSome known (λ row. IsTrue ours × HasRow all name row) → (IsTrue ours → WhereOpen old (IsKept old all)) → (r : Result (Option Account) TableFault)
    → KeepsConnection old new → (HasCleanDisk new → OnOk r (IsTrue old.is_open × IsTrue new.is_open)) → (HasCleanDisk new → HasSchema old.now → IfSome known (λ row. HasAccountRow name row old.now) → IfOk r (λ found. account_at old.now name ≡ option_map (account_cells name) found))
    → HasCleanDisk new → HasSchema old.now → IfOk r (λ found. account_at old.now name ≡ option_map (account_cells name) found)
row_so old new all ours name None found was (Ok row) keeps opens told clean has = told clean has tt
row_so old new all ours name (Some known) found was (Ok row) keeps opens told clean has =
    let kept = was found.0 (omega (arith, keeps.clean, clean)) (opens clean).0 in
    told clean has (row_known old all (IsTrue ours) name (Some known) found kept)
row_so old new all ours name known found was (Err e) keeps opens told clean has = tt

-- what was counted, or kept, is how many there are
pub count_so : (old new : State) (all : Kept) (ours : Bool) (name : List ℕ) (known : Option ℕ) → IfSome known (λ count. IsTrue ours × HasCount all name count) → (IsTrue ours → WhereOpen old (IsKept old all)) → (r : Result ℕ TableFault)
    → KeepsConnection old new → (HasCleanDisk new → OnOk r (IsTrue old.is_open × IsTrue new.is_open)) → (HasCleanDisk new → HasSchema old.now → IfSome known (IsCounted old.now name) → IfOk r (IsCounted old.now name))
    → HasCleanDisk new → HasSchema old.now → IfOk r (IsCounted old.now name)
count_so old new all ours name None found was (Ok count) keeps opens told clean has = told clean has tt
count_so old new all ours name (Some known) found was (Ok count) keeps opens told clean has =
    let kept = was found.0 (omega (arith, keeps.clean, clean)) (opens clean).0 in
    told clean has (count_known old all (IsTrue ours) name (Some known) found kept)
count_so old new all ours name known found was (Err e) keeps opens told clean has = tt

pub count_told : (old new : State) (name : List ℕ) (r : Result ℕ TableFault) → (HasCleanDisk new → HasSchema old.now → IfOk r (IsCounted old.now name)) → HasCleanDisk new → HasSchema old.now → (room : RoomValue) → HoldsRoom old.now name room → IfOk r (λ count. count ≡ unfinished_count room)
count_told old new name (Ok count) counted clean has room held = counted clean has ∙ count_of_room old.now has name room held
count_told old new name (Err e) counted clean has room held = tt

-- a connection that was asked whether it is open has read nothing
module _ {S : Type 0} (store : Ghosts S) (old new : Held S) where
  pub asked_open : {T : Type 0} (it : T) → LooksUp store old new {T = Unit {0}} (Ok tt) → (HasCleanDisk (state store new) → IsTrue (state store old).is_open) → (HasCleanDisk (state store new) → IsUnchanged (state store old) (state store new)) → ReadsStore store old new {T = T} {E = TableFault} (Ok it)
  asked_open it looks opened same = record {
    keeps = looks.connection.keeps;
    opened = λ clean. (opened clean, looks.connection.opened clean (opened clean));
    same = λ clean has. same clean;
    stays = λ clean has. inl (same clean);
    crash = looks.crash;
  }

  pub asked_shut : {T : Type 0} (fault : TableFault) → LooksUp store old new {T = Unit {0}} (Err fault) → (HasCleanDisk (state store new) → IsUndone (state store old) (state store new)) → ReadsStore store old new {T = T} {E = TableFault} (Err fault)
  asked_shut fault looks undone = record {
    keeps = looks.connection.keeps;
    opened = λ clean. tt;
    same = λ clean has. tt;
    stays = λ clean has. inr (undone clean);
    crash = looks.crash;
  }
