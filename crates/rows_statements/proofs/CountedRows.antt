-- How many rows of an account's jobs tell no moment of an end, and how that moves with a row that is set.
use Rattle.std.proofs.Common.{◌≡◌, ◌≢◌, ◌==◌, ℕ, ◌+◌, ℤ, pos, negsuc, Bool, true, false, cond, not, List, [], ◌∷◌, length, filter, drop, codes, Option, Some, None, is_some, refl, sym, ap, subst, ◌∙◌, inl, inr, arith}
use Rattle.std.specs.List.Sorted.{IsPermutation}
use Rattle.std.proofs.lemmas.Bool.{cases_Bool}
use Rattle.std.proofs.lemmas.Bool.Decides.{nat_tests}
use Rattle.std.proofs.lemmas.List.Sorted.{length_permutation}
use Rattle.sqlite_value.specs.declared.keys.Collation.TheVariants.{Binary}
use Rattle.sqlite_value.specs.declared.value.Value.{Value}
use Rattle.sqlite_value.specs.declared.value.Value.TheVariants.{Null, Int, Real, Text, Blob}
use Rattle.sqlite_value.specs.Order.{Row, column}
use Rattle.sqlite_value.specs.Keys.{plain}
use Rattle.sqlite_value.proofs.OrderLemmas.{value_cmp-Int}
use Rattle.sqlite_sql.specs.declared.ops.BinaryOp.TheVariants.{Compare}
use Rattle.sqlite_sql.specs.declared.ops.CompareOp.TheVariants.{Eq}
use Rattle.sqlite_sql.specs.Ops.{binary, is_true}
use Rattle.sqlite_trees.proofs.ListLemmas.{IsPermutation-filter}
use Rattle.sqlite_schema.specs.Rules.{agree}
use Rattle.sqlite_rules.specs.Lists.{Has}
use Rattle.sqlite_rules.proofs.ListLemmas.{has_filtered, has_kept}
use Rattle.sqlite_rules.proofs.ProbeLemmas.{has_mapped, mapped_has}
use Rattle.sqlite.specs.Effect.{Database}
use Rattle.account_rules.specs.declared.account.Account.{Account}
use Rattle.account_rules.specs.declared.job.Document.{Document}
use Rattle.account_rules.specs.declared.job.Job.{Job}
use Rattle.account_rules.specs.declared.job.Standing.{Standing}
use Rattle.rows_tables.specs.Accounts.{account_at, job_at}
use Rattle.rows_tables.specs.Cells.{account_cells, job_cells, moment}
use Rattle.rows_tables.specs.Keyed.{HasSchema}
use Rattle.rows_tables.specs.Places.{account_places}
use Rattle.rows_tables.specs.Tables.{job as job_table}
use Rattle.rows_tables.proofs.Columns.{EachIs, each_behind, exact_front}
use Rattle.rows_tables.proofs.KeyedRows.{integer_at, key_begins, same_row, whole_in}
use Rattle.rows_tables.proofs.KeyedTables.{job_in, job_key}
use Rattle.rows_tables.proofs.NoneTwice.{NoneTwice, same_members}
use Rattle.rows_tables.proofs.RowOfKey.{one_of_cells, there_at}
use Rattle.rows_tables.proofs.RowsUnder.{once_shown, row_under, under_row}
use Rattle.rows_tables.proofs.Statements.{numbered_in}
use Rattle.rows_statements.specs.JobSums.{IsCounted, MovesCount, counts}
use Rattle.rows_statements.specs.Rows.{AddsJob, EndsJob, Restands}
use Rattle.rows_statements.specs.SoundRows.{job_rows, tells_unfinished}
use Rattle.rows_statements.proofs.KeyTests.{is_at_number, number_met, number_here}
use Rattle.rows_statements.proofs.LeftAlone.{account_row_kept, account_row_stays, job_row_stays, row_kept}

-- ---- each row of a job stands once, under its number

module _ (name : List ℕ) (db : Database) (has : HasSchema db) where
  abbrev is_under : Row → Bool
  is_under row = agree plain account_places row account_places (Null ∷ Text name ∷ [])

  ends : (r : Row) → Has (db.trees job_table.tree) r → (n : ℤ) × (column r 2 ≡ Int n)
  ends r there = integer_at job_in db has r there 1 (codes "job") refl

  begins : (r : Row) (n : ℤ) → Has (db.trees job_table.tree) r → is_under r ≡ true → column r 2 ≡ Int n → EachIs 1 (Text name ∷ Int n ∷ []) r
  begins r n there is last =
      let first = key_begins job_table.columns (Text name ∷ []) [] r (exact_front job_table.columns (Text name ∷ []) (Int n ∷ []) (job_key name n)) (whole_in job_in db has r there).typed is in
      (first.0, (last, tt))

  under_once : (a b : Row) → Has (db.trees job_table.tree) a → Has (db.trees job_table.tree) b → is_under a ≡ true → is_under b ≡ true → drop 1 a ≡ drop 1 b → a ≡ b
  under_once a b h k is are same =
      let n = ends a h in
      one_of_cells job_in db has (Text name ∷ Int n.0 ∷ []) refl (job_key name n.0) (refl, (refl, tt)) a b h k (begins a n.0 h is n.1) same

  once : NoneTwice (job_rows db name)
  once = once_shown is_under (db.trees job_table.tree) (numbered_in job_table job_in.listed db has).0 under_once

  listed : (n : ℤ) (cells : Row) → job_at db name n ≡ Some cells → Has (job_rows db name) cells
  listed n cells is =
      let it = under_row (Text name ∷ []) Int job_in (job_key name) (refl, tt) (λ n. refl) db has n cells is in
      subst (Has (job_rows db name)) it.are_cells (mapped_has (drop 1) (filter is_under (db.trees job_table.tree)) it.row (has_kept is_under (db.trees job_table.tree) it.row it.there it.begins))

  numbered : (cells : Row) → Has (job_rows db name) cells → (n : ℤ) × (job_at db name n ≡ Some cells)
  numbered cells h =
      let r = has_mapped (drop 1) (filter is_under (db.trees job_table.tree)) cells h in
      let there = has_filtered is_under (db.trees job_table.tree) r.0 r.1 in
      let n = row_under (Text name ∷ []) Int job_in (job_key name) (refl, tt) (λ n. refl) db has ends r.0 there.0 there.1 in
      (n.0, n.1 ∙ ap Some (sym r.2))

  tells_number : (n : ℤ) (cells : Row) → job_at db name n ≡ Some cells → column cells 1 ≡ Int n
  tells_number n cells is =
      let it = there_at job_in db has (Text name ∷ Int n ∷ []) refl (job_key name n) (refl, (refl, tt)) cells is in
      ap (λ r. column r 1) (sym it.are_cells) ∙ (each_behind (Text name ∷ Int n ∷ []) 0 it.row it.begins).1.0

-- ---- the rows but one

is_number : ℕ → Value → Bool
is_number k Null = false
is_number k (Int (pos n)) = n == k
is_number k (Int (negsuc n)) = false
is_number k (Real x) = false
is_number k (Text t) = false
is_number k (Blob b) = false

same_number : (n k : ℕ) → (n == k) ≡ true → n ≡ k
same_number n k is = grind (arith, nat_tests)

number_is : (k : ℕ) (n : ℤ) → is_number k (Int n) ≡ true → n ≡ pos k
unfolding is_number
number_is k (pos n) is = ap pos (same_number n k is)
number_is k (negsuc n) is = absurd (let no = is in cc)

is_itself : (k : ℕ) → (k == k) ≡ true
is_itself k = grind (arith, nat_tests)

once_kept : {X : Type 0} (p : X → Bool) (xs : List X) → NoneTwice xs → NoneTwice (filter p xs)
once_kept p [] none = tt
once_kept p (x ∷ xs) none = elim (cases_Bool (p x)) [
  | inl is ↦ rw is ((λ h. none.0 (has_filtered p xs x h).0), once_kept p xs none.1)
  | inr isnt ↦ rw isnt (once_kept p xs none.1)
]

module _ (name : List ℕ) (k : ℕ) where
  abbrev is_other : Row → Bool
  is_other cells = not (is_number k (column cells 1))

  abbrev others : Database → List Row
  others db = filter is_other (job_rows db name)

  other_so : (db : Database) → HasSchema db → (n : ℤ) (cells : Row) → job_at db name n ≡ Some cells → pos k ≢ n → is_other cells ≡ true
  other_so db has n cells is apart = elim (cases_Bool (is_number k (column cells 1))) [
    | inl met ↦ absurd (apart (sym (number_is k n (ap (is_number k) (sym (tells_number name db has n cells is)) ∙ met))))
    | inr isnt ↦ ap not isnt
  ]

  -- one that is another stands under another number
  apart_so : (db : Database) → HasSchema db → (n : ℤ) (cells : Row) → job_at db name n ≡ Some cells → is_other cells ≡ true → pos k ≢ n
  unfolding is_number
  apart_so db has n cells is other same =
      let met : is_number k (column cells 1) ≡ true = ap (is_number k) (tells_number name db has n cells is ∙ ap Int (sym same)) ∙ is_itself k in
      absurd (let no : false ≡ true = ap not (sym met) ∙ other in cc)

  all_others : (db : Database) → HasSchema db → job_at db name (pos k) ≡ None → IsPermutation (job_rows db name) (others db)
  all_others db has free =
      same_members (job_rows db name) (others db) (once name db has) (once_kept is_other (job_rows db name) (once name db has))
      (λ cells h.
      let n = numbered name db has cells h in
      has_kept is_other (job_rows db name) cells h (other_so db has n.0 cells n.1 (λ same. absurd (let no = sym free ∙ subst (λ z. job_at db name z ≡ Some cells) (sym same) n.1 in cc))))
      (λ cells h. (has_filtered is_other (job_rows db name) cells h).0)

  -- this one, and the others of a database that has the same ones
  it_and_others : (old new : Database) → HasSchema old → HasSchema new → (it : Row) → job_at new name (pos k) ≡ Some it → ((n : ℤ) → pos k ≢ n → job_at new name n ≡ job_at old name n) → IsPermutation (job_rows new name) (it ∷ others old)
  it_and_others old new was has it there same =
      same_members (job_rows new name) (it ∷ others old) (once name new has) (
        λ h.
            let kept = has_filtered is_other (job_rows old name) it h in
            apart_so new has (pos k) it there kept.1 refl,
        once_kept is_other (job_rows old name) (once name old was),
      )
      (λ cells h.
      let n = numbered name new has cells h in
      elim (cases_Bool (is_number k (column cells 1))) [
        | inl met ↦
            let here : n.0 ≡ pos k = number_is k n.0 (ap (is_number k) (sym (tells_number name new has n.0 cells n.1)) ∙ met) in
            inl (same_row (sym (subst (λ z. job_at new name z ≡ Some cells) here n.1) ∙ there))
        | inr isnt ↦
            let apart = apart_so new has n.0 cells n.1 (ap not isnt) in
            inr (has_kept is_other (job_rows old name) cells (listed name old was n.0 cells (sym (same n.0 apart) ∙ n.1)) (ap not isnt))
      ])
      (λ cells h. elim h [
        | inl is ↦ subst (Has (job_rows new name)) (sym is) (listed name new has (pos k) it there)
        | inr other ↦
            let kept = has_filtered is_other (job_rows old name) cells other in
            let n = numbered name old was cells kept.0 in
            listed name new has n.0 cells (same n.0 (apart_so old was n.0 cells n.1 kept.1) ∙ n.1)
      ])

-- ---- how many of them tell no moment of an end

abbrev one_of : Row → ℕ
one_of cells = cond (tells_unfinished cells) 1 0

count_with : (it : Row) (rows : List Row) → length (filter tells_unfinished (it ∷ rows)) ≡ one_of it + length (filter tells_unfinished rows)
count_with it rows = elim (cases_Bool (tells_unfinished it)) [ inl is ↦ rw is (omega arith) | inr isnt ↦ rw isnt (omega arith) ]

counted_rows : (a b : List Row) → IsPermutation a b → length (filter tells_unfinished a) ≡ length (filter tells_unfinished b)
counted_rows a b same = sym (length_permutation (filter tells_unfinished a) (filter tells_unfinished b) (IsPermutation-filter tells_unfinished a b same))

counts_by : (ended : Option ℕ) → ◌≡◌ {A = ℕ} (cond (is_true (binary (Compare Eq Binary) (moment ended) (Int (negsuc 0)))) 1 0) (cond (is_some ended) 0 1)
unfolding binary
counts_by None = rw (value_cmp-Int (negsuc 0) (negsuc 0)) refl
counts_by (Some at) = rw (value_cmp-Int (pos at) (negsuc 0)) refl

job_counts : (name : List ℕ) (it : Job) → one_of (job_cells name it) ≡ counts it.standing
job_counts name it = counts_by it.standing.ended

-- where no row of a job changed there are as many as before
pub same_counted : (name : List ℕ) (a b : Database) → HasSchema a → HasSchema b → ((n : ℤ) → job_at b name n ≡ job_at a name n) → (count : ℕ) → IsCounted a name count → IsCounted b name count
same_counted name a b was has same count counted = counted ∙ counted_rows (job_rows a name) (job_rows b name) (same_members (job_rows a name) (job_rows b name) (once name a was) (once name b has)
    (λ cells h. let n = numbered name a was cells h in listed name b has n.0 cells (same n.0 ∙ n.1))
    (λ cells h. let n = numbered name b has cells h in listed name a was n.0 cells (sym (same n.0) ∙ n.1)))

-- ---- a row that is set

module _ (name : List ℕ) (old new : Database) (was : HasSchema old) (has : HasSchema new) (it : Job) where
  abbrev cells : Row
  cells = job_cells name it

  abbrev test : ℤ → Bool
  test z = is_at_number name (pos it.job) (drop 2 cells) name z

  module _ (sets : (n : ℤ) → job_at new name n ≡ cond (test n) (Some cells) (job_at old name n)) where
    set_there : job_at new name (pos it.job) ≡ Some cells
    set_there = sets (pos it.job) ∙ ap (λ b. cond b (Some cells) (job_at old name (pos it.job))) (number_here name (pos it.job) (drop 2 cells))

    set_rest : (n : ℤ) → pos it.job ≢ n → job_at new name n ≡ job_at old name n
    set_rest n apart = elim (cases_Bool (test n)) [
      | inl met ↦ absurd (apart (number_met name (pos it.job) (drop 2 cells) name n met).1)
      | inr isnt ↦ sets n ∙ ap (λ b. cond b (Some cells) (job_at old name n)) isnt
    ]

    count_now : length (filter tells_unfinished (job_rows new name)) ≡ counts it.standing + length (filter tells_unfinished (others name it.job old))
    count_now =
        counted_rows (job_rows new name) (cells ∷ others name it.job old) (it_and_others name it.job old new was has cells set_there set_rest)
        ∙ count_with cells (others name it.job old)
        ∙ ap (λ n. n + length (filter tells_unfinished (others name it.job old))) (job_counts name it)

    -- where none was
    pub adds_count : job_at old name (pos it.job) ≡ None → (count : ℕ) → IsCounted old name (count + 0) → IsCounted new name (count + counts it.standing)
    adds_count free count counted =
        omega (arith, counted, count_now, counted_rows (job_rows old name) (others name it.job old) (all_others name it.job old was free))

    -- in the place of another
    pub moves_count : (of : Job) → of.job ≡ it.job → job_at old name (pos it.job) ≡ Some (job_cells name of) → (count : ℕ) → IsCounted old name (count + counts of.standing) → IsCounted new name (count + counts it.standing)
    moves_count of same there count counted =
        let before = counted_rows (job_rows old name) (job_cells name of ∷ others name it.job old) (it_and_others name it.job old old was was (job_cells name of) there (λ n apart. refl)) in
        omega (arith, counted, count_now, before, count_with (job_cells name of) (others name it.job old), job_counts name of)

-- ---- the changes

pub added_job_counted : (name : List ℕ) (it : Job) (first : Option Document) (old new : Database) → AddsJob name it first old new → (of : Account) → account_at old name ≡ Some (account_cells name of) → MovesCount name 0 (counts it.standing) old new
added_job_counted name it first old new adds of there was has =
    let mid = adds.with_job in
    let last = adds.with_document in
    let still : account_at last name ≡ Some (account_cells name of) = account_row_stays name first mid last adds.document_row ∙ account_row_kept name old mid (pos it.job) _ adds.job_row ∙ there in
    let next = adds.account_row of still in
    adds_count name old new was has it
    (λ n. row_kept job_table last new (next.rest.job (λ e. let no : ⊥ = cc in no)) (Text name ∷ Int n ∷ []) ∙ job_row_stays name first mid last adds.document_row n ∙ adds.job_row.rows (Text name ∷ Int n ∷ []))
    adds.was_free

pub restood_counted : (name : List ℕ) (number : ℕ) (standing : Standing) (next : Option Document) (old new : Database) → Restands name number standing next old new
    → (of : Job) → of.job ≡ number → job_at old name (pos number) ≡ Some (job_cells name of) → MovesCount name (counts of.standing) (counts standing) old new
restood_counted name number standing next old new stands of same there was has =
    let mid = stands.with_document in
    let stays = job_row_stays name next old mid stands.document_row in
    let still : job_at mid name (pos number) ≡ Some (job_cells name of) = stays (pos number) ∙ there in
    let it : Job = record of { standing = standing } in
    moves_count name old new was has it
    (λ n. (stands.job_row of still).rows (Text name ∷ Int n ∷ []) ∙ ap (cond (is_at_number name (pos it.job) (drop 2 (job_cells name it)) name n) (Some (job_cells name it))) (stays n))
    of refl (subst (λ m. job_at old name (pos m) ≡ Some (job_cells name of)) (sym same) there)

pub ended_counted : (name : List ℕ) (number : ℕ) (standing : Standing) (old new : Database) → EndsJob name number standing old new
    → (of : Job) → of.job ≡ number → job_at old name (pos number) ≡ Some (job_cells name of) → MovesCount name (counts of.standing) (counts standing) old new
ended_counted name number standing old new ends of same there was has =
    let mid = ends.with_standing in
    moves_count name old new was has (record of { standing = standing })
    (λ n. row_kept job_table mid new (ends.document_rows.rest.job (λ e. let no : ⊥ = cc in no)) (Text name ∷ Int n ∷ []) ∙ (ends.job_row of there).rows (Text name ∷ Int n ∷ []))
    of refl (subst (λ m. job_at old name (pos m) ≡ Some (job_cells name of)) (sym same) there)
