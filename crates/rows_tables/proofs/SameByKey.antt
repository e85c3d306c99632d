-- The rows of an account, table by table, are those of its keys, each once.
use Rattle.std.proofs.Common.{◌≡◌, ℕ, ℤ, true, false, List, [], ◌∷◌, length, map, filter, drop, Option, Some, None, codes, refl, sym, ap, subst, ◌∙◌, ◌↔◌}
use Rattle.std.specs.List.{AllByRecursion}
use Rattle.std.specs.List.Sorted.{IsPermutation}
use Rattle.std.proofs.lemmas.List.Sorted.{IsPermutation-sym, Contains-permutation}
use Rattle.std.proofs.lemmas.Slice.Eq.{bytes_eq-Decides}
use Rattle.sqlite_value.specs.declared.value.Value.TheVariants.{Null, Int, Real, Text, Blob}
use Rattle.sqlite_value.specs.Order.{Row, column}
use Rattle.sqlite_sql.specs.Ops.{is_null}
use Rattle.sqlite_trees.proofs.ListLemmas.{filter-map}
use Rattle.sqlite_schema.specs.declared.schema.Column.{Column}
use Rattle.sqlite_rules.specs.Lists.{Has}
use Rattle.sqlite_rules.proofs.ListLemmas.{has_filtered, has_kept, has_contained, contains_had}
use Rattle.sqlite_rules.proofs.ProbeLemmas.{has_mapped, mapped_has}
use Rattle.sqlite.specs.Effect.{Database}
use Rattle.rows_tables.specs.Tables.{keyed, account, job, document, grants}
use Rattle.rows_tables.specs.Keyed.{HasSchema, row_at}
use Rattle.rows_tables.specs.Accounts.{account_at, job_at, document_at, grant_at}
use Rattle.rows_tables.specs.SameRows.{is_row_of, rows_of, SameByKeyIsSameByTable}
use Rattle.rows_tables.proofs.Columns.{column_behind, AreExact, EachIs, each_behind, each_before}
use Rattle.rows_tables.proofs.KeyedRows.{integer_at}
use Rattle.rows_tables.proofs.KeyedTables.{places_from, IsInSchema, account_in, account_key, job_in, job_key, document_in, document_key, grants_in, grants_key}
use Rattle.rows_tables.proofs.NoneTwice.{NoneTwice, same_members}
use Rattle.rows_tables.proofs.RowOfKey.{one_of_cells, at_its_key, there_at}
use Rattle.rows_tables.proofs.RowsUnder.{once_shown}
use Rattle.rows_tables.proofs.Statements.{numbered_in}

-- ---- the account of a row

account_is : (name : List ℕ) (cells : Row) → is_row_of name cells ≡ true → column cells 0 ≡ Text name
account_is name [] is = absurd (let e = is in cc)
account_is name (Null ∷ cells) is = absurd (let e = is in cc)
account_is name (Int n ∷ cells) is = absurd (let e = is in cc)
account_is name (Real x ∷ cells) is = absurd (let e = is in cc)
account_is name (Text t ∷ cells) is = ap Text ((bytes_eq-Decides t name).0 is)
account_is name (Blob b ∷ cells) is = absurd (let e = is in cc)

same_text : {s t : List ℕ} → Text s ≡ Text t → s ≡ t
same_text e = cc

is_account_row : (name : List ℕ) (cells : Row) → column cells 0 ≡ Text name → is_row_of name cells ≡ true
is_account_row name [] is = absurd (let e = is in cc)
is_account_row name (Null ∷ cells) is = absurd (let e = is in cc)
is_account_row name (Int n ∷ cells) is = absurd (let e = is in cc)
is_account_row name (Real x ∷ cells) is = absurd (let e = is in cc)
is_account_row name (Text t ∷ cells) is = (bytes_eq-Decides t name).1 (same_text is)
is_account_row name (Blob b ∷ cells) is = absurd (let e = is in cc)

-- ---- the account's rows in one table, whose keys are the account and more

module _ {at : ℕ} {label : List ℕ} {tree width : ℕ} {columns : List Column} {K : Type 0} (name : List ℕ) (more : K → Row) (in_schema : IsInSchema at label tree width columns) (long : (k : K) → length (Text name ∷ more k) ≡ width)
    (exact : (k : K) → AreExact columns (Text name ∷ more k)) (present : (k : K) → AllByRecursion (λ v. is_null v ≡ false) (more k)) (ends : (db : Database) → HasSchema db → (r : Row) → Has (db.trees tree) r → (k : K) × EachIs 2 (more k) r) where
  abbrev key : K → Row
  key k = Text name ∷ more k

  abbrev at_key : K → Database → Option Row
  at_key k db = row_at (keyed label tree (places_from width 1) columns) (key k) db

  abbrev rows : Database → List Row
  rows db = filter (is_row_of name) (map (drop 1) (db.trees tree))

  none_null : (k : K) → AllByRecursion (λ v. is_null v ≡ false) (key k)
  none_null k = (refl, present k)

  -- each is that of a key
  keyed_so : (db : Database) → HasSchema db → (r : Row) → Has (db.trees tree) r → is_row_of name (drop 1 r) ≡ true → (k : K) × EachIs 1 (key k) r
  keyed_so db has r there is = let k = ends db has r there in (k.0, (sym (column_behind r 0) ∙ account_is name (drop 1 r) is, k.1))

  listed_key : (db : Database) → HasSchema db → (cells : Row) → Has (rows db) cells → (k : K) × (at_key k db ≡ Some cells)
  listed_key db has cells h =
      let kept = has_filtered (is_row_of name) (map (drop 1) (db.trees tree)) cells h in
      let r = has_mapped (drop 1) (db.trees tree) cells kept.0 in
      let k = keyed_so db has r.0 r.1 (ap (is_row_of name) (sym r.2) ∙ kept.1) in
      (k.0, at_its_key in_schema db has (key k.0) (long k.0) (exact k.0) (none_null k.0) r.0 r.1 k.1 ∙ ap Some (sym r.2))

  -- and that of each key is there
  key_listed : (db : Database) → HasSchema db → (k : K) (cells : Row) → at_key k db ≡ Some cells → Has (rows db) cells
  key_listed db has k cells is =
      let it = there_at in_schema db has (key k) (long k) (exact k) (none_null k) cells is in
      has_kept (is_row_of name) (map (drop 1) (db.trees tree)) cells
      (subst (Has (map (drop 1) (db.trees tree))) it.are_cells (mapped_has (drop 1) (db.trees tree) it.row it.there))
      (is_account_row name cells (ap (λ r. column r 0) (sym it.are_cells) ∙ column_behind it.row 0 ∙ it.begins.0))

  -- cells that begin with the key and stand in the table are those of the key
  key_of_listed : (db : Database) → HasSchema db → (k : K) (cells : Row) → Has (rows db) cells → EachIs 0 (key k) cells → at_key k db ≡ Some cells
  key_of_listed db has k cells h begins =
      let r = has_mapped (drop 1) (db.trees tree) cells (has_filtered (is_row_of name) (map (drop 1) (db.trees tree)) cells h).0 in
      at_its_key in_schema db has (key k) (long k) (exact k) (none_null k) r.0 r.1 (each_before (key k) 0 r.0 (subst (EachIs 0 (key k)) r.2 begins)) ∙ ap Some (sym r.2)

  once : (db : Database) → HasSchema db → NoneTwice (rows db)
  once db has =
      subst NoneTwice (sym (filter-map (is_row_of name) (drop 1) (db.trees tree)))
      (once_shown (λ r. is_row_of name (drop 1 r)) (db.trees tree) (numbered_in (keyed label tree (places_from width 1) columns) in_schema.listed db has).0 (λ a b h k is are same.
      let it = keyed_so db has a h is in
      one_of_cells in_schema db has (key it.0) (long it.0) (exact it.0) (none_null it.0) a b h k it.1 same))

  same_rows : (a b : Database) → HasSchema a → HasSchema b → ((k : K) → at_key k b ≡ at_key k a) → IsPermutation (rows a) (rows b)
  same_rows a b was has agree =
      same_members (rows a) (rows b) (once a was) (once b has)
      (λ cells h. let k = listed_key a was cells h in key_listed b has k.0 cells (agree k.0 ∙ k.1))
      (λ cells h. let k = listed_key b has cells h in key_listed a was k.0 cells (sym (agree k.0) ∙ k.1))

  moved : (a b : Database) → HasSchema a → HasSchema b → IsPermutation (rows a) (rows b) → (k : K) (cells : Row) → at_key k a ≡ Some cells → at_key k b ≡ Some cells
  moved a b was has same k cells is =
      let it = there_at in_schema a was (key k) (long k) (exact k) (none_null k) cells is in
      key_of_listed b has k cells (has_contained (rows b) cells (Contains-permutation (rows a) (rows b) cells same (contains_had (rows a) cells (key_listed a was k cells is))))
      (subst (EachIs 0 (key k)) it.are_cells (each_behind (key k) 0 it.row it.begins))

  same_keys : (a b : Database) → HasSchema a → HasSchema b → IsPermutation (rows a) (rows b) → (k : K) → at_key k b ≡ at_key k a
  same_keys a b was has same k = by_rows (at_key k a) (at_key k b) refl refl
    where
      by_rows : (o p : Option Row) → at_key k a ≡ o → at_key k b ≡ p → at_key k b ≡ at_key k a
      by_rows None None none empty = empty ∙ sym none
      by_rows None (Some cells) none is = absurd (let e = sym none ∙ moved b a has was (IsPermutation-sym (rows a) (rows b) same) k cells is in cc)
      by_rows (Some cells) p is other = moved a b was has same k cells is ∙ sym is

  -- two databases have the same under each key exactly where they have the same rows
  pub by_key : (a b : Database) → HasSchema a → HasSchema b → ((k : K) → at_key k b ≡ at_key k a) ↔ IsPermutation (rows a) (rows b)
  by_key a b was has = (same_rows a b was has, same_keys a b was has)

-- ---- the four tables

module _ (name : List ℕ) (a b : Database) (was : HasSchema a) (has : HasSchema b) where
  accounts : (account_at b name ≡ account_at a name) ↔ IsPermutation (rows_of account name a) (rows_of account name b)
  accounts =
      let of_keys = by_key {K = Unit {0}} name (λ _. []) account_in (λ _. refl) (λ _. account_key name) (λ _. tt) (λ db is r there. (tt, tt)) a b was has in
      (λ same. of_keys.0 (λ _. same), λ same. of_keys.1 same tt)

  jobs : ((n : ℤ) → job_at b name n ≡ job_at a name n) ↔ IsPermutation (rows_of job name a) (rows_of job name b)
  jobs =
      by_key name (λ n. Int n ∷ []) job_in (λ _. refl) (job_key name) (λ _. (refl, tt))
      (λ db is r there. let n = integer_at job_in db is r there 1 (codes "job") refl in (n.0, (n.1, tt))) a b was has

  documents : ((m n : ℤ) → document_at b name m n ≡ document_at a name m n) ↔ IsPermutation (rows_of document name a) (rows_of document name b)
  documents =
      let of_keys = by_key {K = ℤ × ℤ} name (λ k. Int k.0 ∷ Int k.1 ∷ []) document_in (λ _. refl) (λ k. document_key name k.0 k.1) (λ _. (refl, (refl, tt)))
      (λ db is r there.
      let m = integer_at document_in db is r there 1 (codes "job") refl in
      let n = integer_at document_in db is r there 2 (codes "number") refl in
      ((m.0, n.0), (m.1, (n.1, tt)))) a b was has in
      (λ same. of_keys.0 (λ k. same k.0 k.1), λ same m n. of_keys.1 same (m, n))

  grants_both : ((n : ℤ) → grant_at b name n ≡ grant_at a name n) ↔ IsPermutation (rows_of grants name a) (rows_of grants name b)
  grants_both =
      by_key name (λ n. Int n ∷ []) grants_in (λ _. refl) (grants_key name) (λ _. (refl, tt))
      (λ db is r there. let n = integer_at grants_in db is r there 1 (codes "month") refl in (n.0, (n.1, tt))) a b was has

pub same_by_key_is_same_by_table : SameByKeyIsSameByTable
same_by_key_is_same_by_table name a b was has = (
  λ agree. record {
    accounts = (accounts name a b was has).0 agree.same_account;
    jobs = (jobs name a b was has).0 agree.same_jobs;
    documents = (documents name a b was has).0 agree.same_documents;
    grants = (grants_both name a b was has).0 agree.same_grants;
  },
  λ same. record {
    same_account = (accounts name a b was has).1 same.accounts;
    same_jobs = (jobs name a b was has).1 same.jobs;
    same_documents = (documents name a b was has).1 same.documents;
    same_grants = (grants_both name a b was has).1 same.grants;
  },
)
