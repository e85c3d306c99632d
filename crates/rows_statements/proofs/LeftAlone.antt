-- What the write of a row leaves alone: every other account, the devices, the version.
use Rattle.std.proofs.Common.{◌≡◌, ◌≢◌, ◌==◌, ℕ, ℤ, pos, Bool, true, false, cond, List, [], ◌∷◌, drop, find, Option, Some, None, option_map, refl, sym, ap, subst, ◌∙◌, inl, inr}
use Rattle.std.proofs.lemmas.Bool.{cases_eq}
use Rattle.sqlite_value.specs.declared.value.Value.TheVariants.{Null, Int, Text}
use Rattle.sqlite_value.specs.Keys.{plain}
use Rattle.sqlite_value.specs.Order.{Row}
use Rattle.sqlite_schema.specs.Rules.{agree}
use Rattle.sqlite_schema.specs.declared.schema.Table.{Table}
use Rattle.sqlite.specs.Effect.{Database}
use Rattle.account_rules.specs.declared.account.Account.{Account}
use Rattle.account_rules.specs.declared.job.Document.{Document}
use Rattle.account_rules.specs.declared.job.Job.{Job}
use Rattle.account_rules.specs.declared.job.Standing.{Standing}
use Rattle.rows_tables.specs.Places.{job_places}
use Rattle.rows_tables.specs.Tables.{room_schema, meta, account, job, document, grants, device, rates}
use Rattle.rows_tables.specs.Keyed.{has_key, row_at, OnlyChanges, StaysUnless, SetsRow, RemovesRows}
use Rattle.rows_tables.specs.Cells.{number, account_cells, job_cells}
use Rattle.rows_tables.specs.Accounts.{account_at, job_at, AgreeOnRows}
use Rattle.rows_statements.specs.Alone.{OnlyAccount, OnlyDevices}
use Rattle.rows_statements.specs.Rows.{AddsDocument, AddsJob, Restands, EndsJob, SetsDevice}
use Rattle.rows_statements.proofs.KeyTests.{first_met, unmet}

-- a table that is as it was has the rows that it had
pub row_kept : (table : Table) (old new : Database) → new.trees table.tree ≡ old.trees table.tree → (key : Row) → row_at table key new ≡ row_at table key old
row_kept table old new kept key = ap (λ (rows : List Row). option_map (drop 1) (find (has_key table key) rows)) kept

-- ---- only the rows of one account

-- the table of this tree; the schema has one of each
abbrev IsListed : Table → Type 0
IsListed table = find (λ (t : Table). t.tree == table.tree) room_schema.tables ≡ Some table

one_of_tree : (one other : Table) → IsListed one → IsListed other → one.tree ≡ other.tree → one ≡ other
one_of_tree one other is is_other same =
    let there : Some one ≡ Some other = sym is ∙ ap (λ n. find (λ (t : Table). t.tree == n) room_schema.tables) same ∙ is_other in cc

-- of no other account than this one a row of the table changed
abbrev pub OnlyUnder : (table : Table) (name : List ℕ) (old new : Database) → Type 0
OnlyUnder table name old new = (other : List ℕ) → other ≢ name → (rest : Row) → row_at table (Text other ∷ rest) new ≡ row_at table (Text other ∷ rest) old

module _ (name : List ℕ) (old new : Database) (table : Table) (listed : IsListed table) (rest : OnlyChanges table old new) where
  -- where only this table changed, and in it only rows of this account, only rows of this account did
  pub only_account : OnlyUnder table name old new → meta.tree ≢ table.tree → device.tree ≢ table.tree → rates.tree ≢ table.tree → OnlyAccount name old new
  only_account under no_version no_device no_rate = record {
    others = λ other apart.
        let there : (t : Table) → IsListed t → StaysUnless table t old new → (key : Row) → row_at t (Text other ∷ key) new ≡ row_at t (Text other ∷ key) old = λ t is unless key. elim (cases_eq t.tree table.tree) [
          | inl same ↦ subst (λ (u : Table). row_at u (Text other ∷ key) new ≡ row_at u (Text other ∷ key) old) (sym (one_of_tree t table is listed same)) (under other apart key)
          | inr differs ↦ row_kept t old new (unless differs) (Text other ∷ key)
        ] in
        record {
          same_account = there account refl rest.account [];
          same_jobs = λ n. there job refl rest.job (Int n ∷ []);
          same_documents = λ m n. there document refl rest.document (Int m ∷ Int n ∷ []);
          same_grants = λ n. there grants refl rest.grants (Int n ∷ []);
        };
    devices = record {
      same_devices = λ one. row_kept device old new (rest.device no_device) (Text one ∷ []);
      same_rates = λ one. row_kept rates old new (rest.rates no_rate) (Text one ∷ []);
    };
    version = rest.meta no_version;
  }

  -- and where it is one of devices, no account's rows did
  pub only_devices : meta.tree ≢ table.tree → account.tree ≢ table.tree → job.tree ≢ table.tree → document.tree ≢ table.tree → grants.tree ≢ table.tree → OnlyDevices old new
  only_devices no_version no_account no_job no_document no_grant = record {
    accounts = λ other. record {
      same_account = row_kept account old new (rest.account no_account) (Text other ∷ []);
      same_jobs = λ n. row_kept job old new (rest.job no_job) (Text other ∷ Int n ∷ []);
      same_documents = λ m n. row_kept document old new (rest.document no_document) (Text other ∷ Int m ∷ Int n ∷ []);
      same_grants = λ n. row_kept grants old new (rest.grants no_grant) (Text other ∷ Int n ∷ []);
    };
    version = rest.meta no_version;
  }

-- a key that begins with the name of another account is not that of the row
apart_at : (places : List ℕ) (name : List ℕ) (cells : Row) (other : List ℕ) (key : Row) → other ≢ name → agree plain (1 ∷ places) (Null ∷ Text name ∷ cells) (1 ∷ places) (Null ∷ Text other ∷ key) ≡ false
apart_at places name cells other key apart = unmet _ (first_met places name cells other key) (λ e. apart (sym e))

not_set : (test : Bool) (cells : Row) (was new : Option Row) → new ≡ cond test (Some cells) was → test ≡ false → new ≡ was
not_set test cells was new is unmet = is ∙ ap (λ b. cond b (Some cells) was) unmet

not_removed : (test : Bool) (was new : Option Row) → new ≡ cond test None was → test ≡ false → new ≡ was
not_removed test was new is unmet = is ∙ ap (λ b. cond b None was) unmet

-- ---- the write of one row

module _ (name : List ℕ) (old new : Database) where
  pub account_alone : (cells : Row) → SetsRow account (Text name ∷ cells) old new → OnlyAccount name old new
  account_alone cells h = only_account name old new account refl h.rest (λ other apart key. not_set _ _ _ _ (h.rows (Text other ∷ key)) (apart_at [] name cells other key apart)) (λ e. cc) (λ e. cc) (λ e. cc)

  pub job_alone : (cells : Row) → SetsRow job (Text name ∷ cells) old new → OnlyAccount name old new
  job_alone cells h = only_account name old new job refl h.rest (λ other apart key. not_set _ _ _ _ (h.rows (Text other ∷ key)) (apart_at (2 ∷ []) name cells other key apart)) (λ e. cc) (λ e. cc) (λ e. cc)

  pub document_alone : (cells : Row) → SetsRow document (Text name ∷ cells) old new → OnlyAccount name old new
  document_alone cells h = only_account name old new document refl h.rest (λ other apart key. not_set _ _ _ _ (h.rows (Text other ∷ key)) (apart_at (2 ∷ 3 ∷ []) name cells other key apart)) (λ e. cc) (λ e. cc) (λ e. cc)

  pub grant_alone : (cells : Row) → SetsRow grants (Text name ∷ cells) old new → OnlyAccount name old new
  grant_alone cells h = only_account name old new grants refl h.rest (λ other apart key. not_set _ _ _ _ (h.rows (Text other ∷ key)) (apart_at (2 ∷ []) name cells other key apart)) (λ e. cc) (λ e. cc) (λ e. cc)

  pub removal_alone : (beginning : Row) → RemovesRows document (Text name ∷ beginning) job_places old new → OnlyAccount name old new
  removal_alone beginning h = only_account name old new document refl h.rest (λ other apart key. not_removed _ _ _ (h.rows (Text other ∷ key)) (apart_at (2 ∷ []) other key name beginning (λ e. apart (sym e)))) (λ e. cc) (λ e. cc) (λ e. cc)

  pub device_alone : (cells : Row) → SetsRow device (Text name ∷ cells) old new → OnlyDevices old new
  device_alone cells h = only_devices name old new device refl h.rest (λ e. cc) (λ e. cc) (λ e. cc) (λ e. cc) (λ e. cc)

  pub rate_alone : (cells : Row) → SetsRow rates (Text name ∷ cells) old new → OnlyDevices old new
  rate_alone cells h = only_devices name old new rates refl h.rest (λ e. cc) (λ e. cc) (λ e. cc) (λ e. cc) (λ e. cc)

-- ---- one write after another

module _ (a b c : Database) where
  pub rows_then : (name : List ℕ) → AgreeOnRows name a b → AgreeOnRows name b c → AgreeOnRows name a c
  rows_then name first second = record {
    same_account = second.same_account ∙ first.same_account;
    same_jobs = λ n. second.same_jobs n ∙ first.same_jobs n;
    same_documents = λ m n. second.same_documents m n ∙ first.same_documents m n;
    same_grants = λ n. second.same_grants n ∙ first.same_grants n;
  }

  pub alone_then : (name : List ℕ) → OnlyAccount name a b → OnlyAccount name b c → OnlyAccount name a c
  alone_then name first second = record {
    others = λ other apart. rows_then other (first.others other apart) (second.others other apart);
    devices = record {
      same_devices = λ device. second.devices.same_devices device ∙ first.devices.same_devices device;
      same_rates = λ device. second.devices.same_rates device ∙ first.devices.same_rates device;
    };
    version = second.version ∙ first.version;
  }

  pub devices_then : OnlyDevices a b → OnlyDevices b c → OnlyDevices a c
  devices_then first second = record { accounts = λ name. rows_then name (first.accounts name) (second.accounts name); version = second.version ∙ first.version }

-- ---- the changes

pub same_rows : (name : List ℕ) (db : Database) → OnlyAccount name db db
same_rows name db = record {
  others = λ other apart. record { same_account = refl; same_jobs = λ n. refl; same_documents = λ m n. refl; same_grants = λ n. refl };
  devices = record { same_devices = λ device. refl; same_rates = λ device. refl };
  version = refl;
}

added_document_alone : (name : List ℕ) (first : Option Document) (old new : Database) → AddsDocument name first old new → OnlyAccount name old new
added_document_alone name None old new same = subst (OnlyAccount name old) (sym same) (same_rows name old)
added_document_alone name (Some it) old new sets = document_alone name old new _ sets

pub account_row_kept : (name : List ℕ) (old new : Database) (m : ℤ) (rest : Row) → SetsRow job (Text name ∷ Int m ∷ rest) old new → account_at new name ≡ account_at old name
account_row_kept name old new m rest h = row_kept account old new (h.rest.account (λ e. let no : ⊥ = cc in no)) (Text name ∷ [])

pub account_row_stays : (name : List ℕ) (first : Option Document) (old new : Database) → AddsDocument name first old new → account_at new name ≡ account_at old name
account_row_stays name None old new same = ap (λ (db : Database). account_at db name) same
account_row_stays name (Some it) old new h = row_kept account old new (h.rest.account (λ e. let no : ⊥ = cc in no)) (Text name ∷ [])

-- a new job, of an account that is there
pub added_job_alone : (name : List ℕ) (it : Job) (first : Option Document) (old new : Database) → AddsJob name it first old new → (of : Account) → account_at old name ≡ Some (account_cells name of) → OnlyAccount name old new
added_job_alone name it first old new adds of there =
    let mid = adds.with_job in
    let last = adds.with_document in
    let two : OnlyAccount name old last = alone_then old mid last name (job_alone name old mid _ adds.job_row) (added_document_alone name first mid last adds.document_row) in
    let still : account_at last name ≡ Some (account_cells name of) = account_row_stays name first mid last adds.document_row ∙ account_row_kept name old mid (pos it.job) _ adds.job_row ∙ there in
    alone_then old last new name two (account_alone name last new _ (adds.account_row of still))

pub job_row_stays : (name : List ℕ) (next : Option Document) (old new : Database) → AddsDocument name next old new → (n : ℤ) → job_at new name n ≡ job_at old name n
job_row_stays name None old new same n = ap (λ (db : Database). job_at db name n) same
job_row_stays name (Some it) old new h n = row_kept job old new (h.rest.job (λ e. let no : ⊥ = cc in no)) (Text name ∷ Int n ∷ [])

pub grant_leaves_jobs : (name : List ℕ) (old new : Database) (cells : Row) → SetsRow grants cells old new → (n : ℤ) → job_at new name n ≡ job_at old name n
grant_leaves_jobs name old new cells h n = row_kept job old new (h.rest.job (λ e. let no : ⊥ = cc in no)) (Text name ∷ Int n ∷ [])

-- another standing, of a job that is there
pub restood_alone : (name : List ℕ) (number : ℕ) (standing : Standing) (next : Option Document) (old new : Database) → Restands name number standing next old new
    → (of : Job) → job_at old name (pos number) ≡ Some (job_cells name of) → OnlyAccount name old new
restood_alone name number standing next old new stands of there =
    let mid = stands.with_document in
    let still : job_at mid name (pos number) ≡ Some (job_cells name of) = job_row_stays name next old mid stands.document_row (pos number) ∙ there in
    alone_then old mid new name (added_document_alone name next old mid stands.document_row) (job_alone name mid new _ (stands.job_row of still))

pub ended_alone : (name : List ℕ) (number : ℕ) (standing : Standing) (old new : Database) → EndsJob name number standing old new
    → (of : Job) → job_at old name (pos number) ≡ Some (job_cells name of) → OnlyAccount name old new
ended_alone name number standing old new ends of there =
    alone_then old ends.with_standing new name (job_alone name old ends.with_standing _ (ends.job_row of there)) (removal_alone name ends.with_standing new _ ends.document_rows)

-- ---- the account's own row

pub grant_leaves_account : (name : List ℕ) (old new : Database) (cells : Row) → SetsRow grants cells old new → account_at new name ≡ account_at old name
grant_leaves_account name old new cells h = row_kept account old new (h.rest.account (λ e. let no : ⊥ = cc in no)) (Text name ∷ [])

pub restood_leaves_account : (name : List ℕ) (number : ℕ) (standing : Standing) (next : Option Document) (old new : Database) → Restands name number standing next old new
    → (of : Job) → job_at old name (pos number) ≡ Some (job_cells name of) → account_at new name ≡ account_at old name
restood_leaves_account name number standing next old new stands of there =
    let mid = stands.with_document in
    let still : job_at mid name (pos number) ≡ Some (job_cells name of) = job_row_stays name next old mid stands.document_row (pos number) ∙ there in
    account_row_kept name mid new (pos of.job) _ (stands.job_row of still) ∙ account_row_stays name next old mid stands.document_row

pub ended_leaves_account : (name : List ℕ) (number : ℕ) (standing : Standing) (old new : Database) → EndsJob name number standing old new
    → (of : Job) → job_at old name (pos number) ≡ Some (job_cells name of) → account_at new name ≡ account_at old name
ended_leaves_account name number standing old new ends of there =
    let mid = ends.with_standing in
    let removed : account_at new name ≡ account_at mid name = row_kept account mid new (ends.document_rows.rest.account (λ e. let no : ⊥ = cc in no)) (Text name ∷ []) in
    removed ∙ account_row_kept name old mid (pos of.job) _ (ends.job_row of there)

pub turned_alone : (name : List ℕ) (on is_new : Bool) (old new : Database) → SetsDevice name on is_new old new → OnlyDevices old new
turned_alone name on true old new turns = devices_then old turns.with_device new (device_alone name old turns.with_device _ turns.device_row) (rate_alone name turns.with_device new _ turns.rate_row)
turned_alone name on false old new turns = subst (OnlyDevices old) (sym turns.rate_row) (device_alone name old turns.with_device _ turns.device_row)
