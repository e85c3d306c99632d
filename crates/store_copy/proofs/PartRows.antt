-- A part of a room grows by the rows that are written.
use Rattle.std.proofs.Common.{◌≡◌, ◌⊎◌, ℕ, zero, suc, ◌+◌, ◌<◌, ◌≤◌, ◌&&◌, nat_le, pos, true, false, cond, is_some, List, [], ◌∷◌, ◌++◌, map, flat_map, option_to_list, Option, Some, None, option_map, refl, sym, ap, subst, ◌∙◌, inl, inr, arith}
use Rattle.std.specs.List.{AllByRecursion}
use Rattle.std.specs.Ordering.{nat_cmp, eq_by_cmp}
use Rattle.std.specs.Cmp.{nat_cmp_total}
use Rattle.std.specs.FinMap.{get, insert, entries, find, get-entries}
use Rattle.std.proofs.lemmas.Bool.{and_parts, cases_eq, true≢false}
use Rattle.std.proofs.lemmas.Bool.Decides.{nat_tests}
use Rattle.sqlite_value.specs.Order.{Row}
use Rattle.sqlite.specs.Effect.{Database}
use Rattle.sqlite_trees.proofs.ListLemmas.{all-append}
use Rattle.account_state.specs.Grants.{grant_of}
use Rattle.account_rules.specs.JobStates.{is_unfinished}
use Rattle.account_rules.specs.declared.account.Grant.{Grant}
use Rattle.account_rules.specs.declared.job.Document.{Document}
use Rattle.account_rules.specs.declared.job.Job.{Job}
use Rattle.account_state.specs.Documents.{documents_of, document_numbers}
use Rattle.account_state.specs.Rooms.{RoomValue}
use Rattle.account_state.specs.RoomRules.{has_document}
use Rattle.account_state.proofs.DocumentMaps.{place_cmp_total}
use Rattle.account_state.proofs.FiniteMaps.{entries_here, number_tie}
use Rattle.rows_tables.specs.Tables.{job as job_table, document as document_table, grants as grants_table}
use Rattle.rows_tables.specs.Keyed.{SetsRow}
use Rattle.rows_tables.specs.Cells.{job_cells, document_cells, grant_cells}
use Rattle.rows_tables.specs.Accounts.{job_at, HoldsRoom, HoldsRows}
use Rattle.rows_tables.proofs.KeyedRows.{same_row}
use Rattle.rows_statements.specs.Alone.{OnlyAccount}
use Rattle.rows_statements.proofs.LeftAlone.{job_alone, document_alone, grant_alone, alone_then, same_rows}
use Rattle.rows_statements.proofs.OwnRows.{job_held, document_held, grant_held}
use Rattle.store_copy.specs.ProofParts.{IsPartOf, HasJob, HasDocument, HasGrant, HasDocuments, HasWholeJob, HasJobsBefore, HasGrants, HasTheseDocuments, HasTheseGrants, GoesOn, HoldsMore, CopiesMore}
use Rattle.store_copy.specs.ProofRows.{AddsDocuments, AddsGrants}
use Rattle.store_copy.proofs.PartLemmas.{has_inserted, still_has, still_within, within_none, has_each}

-- ---- growing by nothing, and one growth after another

pub goes_nowhere : (room part : RoomValue) → GoesOn room part part
goes_nowhere room part = record { jobs = λ _ had. had; documents = λ _ _ had. had; grants = λ _ had. had }

pub goes_both : (room a b c : RoomValue) → GoesOn room a b → GoesOn room b c → GoesOn room a c
goes_both room a b c first second = record {
  jobs = λ number had. second.jobs number (first.jobs number had);
  documents = λ job number had. second.documents job number (first.documents job number had);
  grants = λ month had. second.grants month (first.grants month had);
}

-- what goes on as the part grows
abbrev pub Lasts : (RoomValue → RoomValue → Type 0) → Type 0
Lasts Has = (room part further : RoomValue) → GoesOn room part further → Has room part → Has room further

module _ (name : List ℕ) (source : Database) where
  pub copies_none : (db : Database) (Has : RoomValue → RoomValue → Type 0)
      → ((room part : RoomValue) → HoldsRoom source name room → IsPartOf room part → Has room part) → CopiesMore name Has source db db
  copies_none db Has has = record {
    more = λ room part held is rows. record { further = part; is_part = is; rows = rows; goes_on = goes_nowhere room part; has = has room part held is };
    alone = same_rows name db;
  }

  pub copies_then : (One Two Both : RoomValue → RoomValue → Type 0) (a b c : Database) → Lasts One → ((room part : RoomValue) → One room part → Two room part → Both room part)
      → CopiesMore name One source a b → CopiesMore name Two source b c → CopiesMore name Both source a c
  copies_then One Two Both a b c lasts both first second = record {
    more = λ room part held is rows.
        let one = first.more room part held is rows in
        let two = second.more room one.further held one.is_part one.rows in
        record {
          further = two.further;
          is_part = two.is_part;
          rows = two.rows;
          goes_on = goes_both room part one.further two.further one.goes_on two.goes_on;
          has = both room two.further (lasts room one.further two.further two.goes_on one.has) two.has;
        };
    alone = alone_then a b c name first.alone second.alone;
  }

-- ---- one row more

module _ (name : List ℕ) (source a b : Database) where
  module _ (k : ℕ) (it : Job) (there : job_at source name (pos k) ≡ Some (job_cells name it)) (sets : SetsRow job_table (job_cells name it) a b) where
    job_grows : (room part : RoomValue) → HoldsRoom source name room → IsPartOf room part → HoldsRows a name part → HoldsMore b name room part (HasJob k)
    job_grows room part held is rows = by (get room.jobs k) refl
      where
        by : (o : Option Job) → get room.jobs k ≡ o → HoldsMore b name room part (HasJob k)
        by None e =
            let no : Some (job_cells name it) ≡ None = sym there ∙ held.rows.job_rows (pos k) ∙ ap (option_map (job_cells name)) e in
            let never : ⊥ = cc in absurd never
        by (Some j) e =
            let same : job_cells name it ≡ job_cells name j = same_row (sym there ∙ held.rows.job_rows (pos k) ∙ ap (option_map (job_cells name)) e) in
            let numbered : j.job ≡ k = (held.is_room.jobs k j e).numbered in
            let here : get room.jobs j.job ≡ Some j = ap (get room.jobs) numbered ∙ e in
            let jobs = insert part.jobs j.job j in
            record {
              further = record part { jobs = jobs };
              is_part = record { opened = is.opened; next = is.next; jobs = still_within nat_cmp_total room.jobs part.jobs j.job j here is.jobs; documents = is.documents; grants = is.grants };
              rows = job_held name a b part rows j (subst (λ (cells : Row). SetsRow job_table cells a b) same sets);
              goes_on = record { jobs = λ n had. still_has nat_cmp_total room.jobs part.jobs j.job j here n had; documents = λ _ _ had. had; grants = λ _ had. had };
              has = subst (λ n. get jobs n ≡ get room.jobs n) numbered (has_inserted nat_cmp_total room.jobs part.jobs j.job j here);
            }

    pub job_copied : CopiesMore name (HasJob k) source a b
    job_copied = record { more = job_grows; alone = job_alone name a b _ sets }

-- no job, and no documents of it
has_none : (o : Option Job) (n : ℕ) → o ≡ None → has_document o n ≡ false
has_none None n e = refl
has_none (Some it) n e = let no : ⊥ = cc in absurd no

is_none : {X : Type 0} (o : Option X) → is_some o ≡ false → o ≡ None
is_none None e = refl
is_none (Some x) e = let no : ⊥ = cc in absurd no

no_cells : {X : Type 0} (cells : X → Row) (o : Option X) → None ≡ option_map cells o → o ≡ None
no_cells cells None e = refl
no_cells cells (Some x) e = let no : ⊥ = cc in absurd no

pub job_missing : (name : List ℕ) (source : Database) (k : ℕ) → job_at source name (pos k) ≡ None
    → (room part : RoomValue) → HoldsRoom source name room → IsPartOf room part → HasWholeJob k room part
job_missing name source k none room part held is =
    let no_job : get room.jobs k ≡ None = no_cells (job_cells name) (get room.jobs k) (sym none ∙ held.rows.job_rows (pos k)) in
    record {
      job = within_none nat_cmp_total room.jobs part.jobs is.jobs k no_job;
      documents = λ n. within_none place_cmp_total room.documents part.documents is.documents (k, n)
          (is_none (get room.documents (k, n)) (held.is_room.all_documents k n ∙ has_none (get room.jobs k) n no_job));
    }

pub with_documents : (k : ℕ) (room part : RoomValue) → HasJob k room part → HasDocuments k room part → HasWholeJob k room part
with_documents k room part job documents = record { job = job; documents = documents }

pub job_lasts : (k : ℕ) → Lasts (HasJob k)
job_lasts k room part further goes had = goes.jobs k had

pub whole_job_lasts : (k : ℕ) → Lasts (HasWholeJob k)
whole_job_lasts k room part further goes had = record { job = goes.jobs k had.job; documents = λ n. goes.documents k n (had.documents n) }

pub jobs_last : (next : ℕ) → Lasts (HasJobsBefore next)
jobs_last next room part further goes had n from below = whole_job_lasts n room part further goes (had n from below)

pub no_jobs : (room part : RoomValue) → HasJobsBefore 1 room part
no_jobs room part n from below = absurd (omega (arith, from, below))

pub one_job_more : (k : ℕ) (room part : RoomValue) → HasJobsBefore k room part → HasWholeJob k room part → HasJobsBefore (k + 1) room part
one_job_more k room part before this n from below = elim (last n k below) [ inl here ↦ subst (λ m. HasWholeJob m room part) (sym here) this | inr earlier ↦ before n from earlier ]
  where
    last : (n k : ℕ) → n < k + 1 → (n ≡ k) ⊎ (n < k)
    last n k h = elim (cases_eq n k) [ inl same ↦ inl same | inr apart ↦ inr (omega (arith, h, apart)) ]

-- ---- the documents of a job

module _ (name : List ℕ) (source : Database) (k : ℕ) where
  abbrev AreThere : (room : RoomValue) → List Document → Type 0
  AreThere room = AllByRecursion (λ (it : Document). get room.documents (k, it.number) ≡ Some it)

  documents_grow : (documents : List Document) (a b : Database) → AddsDocuments name k documents a b
      → (room part : RoomValue) → HoldsRoom source name room → AreThere room documents → IsPartOf room part → HoldsRows a name part → HoldsMore b name room part (HasTheseDocuments k documents)
  documents_grow [] a b same room part held there is rows = record {
    further = part;
    is_part = is;
    rows = subst (λ (db : Database). HoldsRows db name part) (sym same) rows;
    goes_on = goes_nowhere room part;
    has = tt;
  }
  documents_grow (d ∷ documents) a b (next, sets, adds) room part held there is rows =
      let of_job : d.job ≡ k = (held.is_room.documents (k, d.number) d there.0).of_job in
      let it : Document = record d { job = k } in
      let same : d ≡ it = λ i. record d { job = of_job i } in
      let here : get room.documents (k, d.number) ≡ Some it = there.0 ∙ ap Some same in
      let map = insert part.documents (k, d.number) it in
      let one : RoomValue = record part { documents = map } in
      let one_is : IsPartOf room one = record { opened = is.opened; next = is.next; jobs = is.jobs; documents = still_within place_cmp_total room.documents part.documents (k, d.number) it here is.documents; grants = is.grants } in
      let one_rows : HoldsRows next name one = document_held name a next part rows it sets in
      let one_goes : GoesOn room part one = record { jobs = λ _ had. had; documents = λ j n had. still_has place_cmp_total room.documents part.documents (k, d.number) it here (j, n) had; grants = λ _ had. had } in
      let rest = documents_grow documents next b adds room one held there.1 one_is one_rows in
      record {
        further = rest.further;
        is_part = rest.is_part;
        rows = rest.rows;
        goes_on = goes_both room part one rest.further one_goes rest.goes_on;
        has = (rest.goes_on.documents k d.number (has_inserted place_cmp_total room.documents part.documents (k, d.number) it here), rest.has);
      }

  documents_alone : (documents : List Document) (a b : Database) → AddsDocuments name k documents a b → OnlyAccount name a b
  documents_alone [] a b same = subst (OnlyAccount name a) (sym same) (same_rows name a)
  documents_alone (d ∷ documents) a b (next, sets, adds) = alone_then a next b name (document_alone name a next _ sets) (documents_alone documents next b adds)

  abbrev listed : RoomValue → List ℕ → List Document
  listed room = flat_map (λ n. option_to_list (get room.documents (k, n)))

  are_there : (room : RoomValue) → HoldsRoom source name room → (ns : List ℕ) → AreThere room (listed room ns)
  are_there room held [] = tt
  are_there room held (n ∷ ns) =
      all-append (λ (it : Document). get room.documents (k, it.number) ≡ Some it) (option_to_list (get room.documents (k, n))) (listed room ns) (one (get room.documents (k, n)) refl) (are_there room held ns)
    where
      one : (o : Option Document) → get room.documents (k, n) ≡ o → AreThere room (option_to_list o)
      one None e = tt
      one (Some d) e = (ap (λ m. get room.documents (k, m)) (held.is_room.documents (k, n) d e).numbered ∙ e, tt)

  -- so many numbers from one on
  abbrev numbers_from : (count first : ℕ) → List ℕ
  numbers_from zero first = []
  numbers_from (suc count) first = first ∷ numbers_from count (first + 1)

  -- each of a room's documents of the job is one of those that are listed
  module _ (room : RoomValue) (held : HoldsRoom source name room) (P : Document → Type 0) where
    front : (xs ys : List Document) → AllByRecursion P (xs ++ ys) → AllByRecursion P xs
    front [] ys all = tt
    front (x ∷ xs) ys all = (all.0, front xs ys all.1)

    back : (xs ys : List Document) → AllByRecursion P (xs ++ ys) → AllByRecursion P ys
    back [] ys all = all
    back (x ∷ xs) ys all = back xs ys all.1

    at_number : (n : ℕ) (ns : List ℕ) (d : Document) → get room.documents (k, n) ≡ Some d → AllByRecursion P (listed room (n ∷ ns)) → P d
    at_number n ns d e all =
        let this = front (option_to_list (get room.documents (k, n))) (listed room ns) all in
        (subst (λ (o : Option Document). AllByRecursion P (option_to_list o)) e this).0

    past : (n : ℕ) (ns : List ℕ) → AllByRecursion P (listed room (n ∷ ns)) → AllByRecursion P (listed room ns)
    past n ns all = back (option_to_list (get room.documents (k, n))) (listed room ns) all

    in_range : (n : ℕ) → has_document (get room.jobs k) n ≡ true → (1 ≤ n) × (n ≤ 8)
    in_range n is = by_job (get room.jobs k) refl is
      where
        by_job : (o : Option Job) → get room.jobs k ≡ o → has_document o n ≡ true → (1 ≤ n) × (n ≤ 8)
        by_job None e is = absurd (true≢false (sym is))
        by_job (Some it) e is =
            let parts = and_parts (is_unfinished it.standing.state && nat_le 1 n) (nat_le n it.standing.documents) is in
            let from_one = (and_parts (is_unfinished it.standing.state) (nat_le 1 n) parts.0).1 in
            let to_its = parts.1 in
            let most = (held.is_room.jobs k it e).standing.ranges.documents_at_most in
            grind (arith, nat_tests)

    from_here : (count first n : ℕ) → first ≤ n → n < first + count → (d : Document) → get room.documents (k, n) ≡ Some d → AllByRecursion P (listed room (numbers_from count first)) → P d
    from_here zero first n h i d e all = absurd (omega (arith, h, i))
    from_here (suc count) first n h i d e all = elim (next_or n first h) [
      | inl here ↦ at_number first (numbers_from count (first + 1)) d (ap (λ m. get room.documents (k, m)) (sym here) ∙ e) all
      | inr later ↦ from_here count (first + 1) n later (omega (arith, i)) d e (past first (numbers_from count (first + 1)) all)
    ]
      where
        next_or : (n first : ℕ) → first ≤ n → (n ≡ first) ⊎ (first + 1 ≤ n)
        next_or n first h = elim (cases_eq n first) [ inl same ↦ inl same | inr apart ↦ inr (omega (arith, h, apart)) ]

    pub each_listed : (n : ℕ) (d : Document) → get room.documents (k, n) ≡ Some d → AllByRecursion P (documents_of room k) → P d
    each_listed n d e all =
        let range = in_range n (sym (held.is_room.all_documents k n) ∙ ap is_some e) in
        from_here 8 1 n range.0 (omega (arith, range.1)) d e all

  pub documents_copied : (documents : List Document) (a b : Database) → ((room : RoomValue) → HoldsRoom source name room → documents ≡ documents_of room k) → AddsDocuments name k documents a b
      → CopiesMore name (HasDocuments k) source a b
  documents_copied documents a b lists adds = record {
    more = λ room part held is rows.
        let same = lists room held in
        let there : AreThere room documents = subst (AreThere room) (sym same) (are_there room held document_numbers) in
        let more = documents_grow documents a b adds room part held there is rows in
        let all : HasTheseDocuments k (documents_of room k) room more.further = subst (λ (ds : List Document). HasTheseDocuments k ds room more.further) same more.has in
        record {
          further = more.further;
          is_part = more.is_part;
          rows = more.rows;
          goes_on = more.goes_on;
          has = λ n. by room held part more.further more.is_part n all (get room.documents (k, n)) refl;
        };
    alone = documents_alone documents a b adds;
  }
    where
      by : (room : RoomValue) → HoldsRoom source name room → (part further : RoomValue) → IsPartOf room further → (n : ℕ) → HasTheseDocuments k (documents_of room k) room further
          → (o : Option Document) → get room.documents (k, n) ≡ o → HasDocument k n room further
      by room held part further is n all None e = within_none place_cmp_total room.documents further.documents is.documents (k, n) e
      by room held part further is n all (Some d) e =
          let numbered : d.number ≡ n = (held.is_room.documents (k, n) d e).numbered in
          subst (λ m. HasDocument k m room further) numbered (each_listed room held (λ (it : Document). HasDocument k it.number room further) n d e all)

pub document_added : (name : List ℕ) (k : ℕ) (documents : List Document) (it : Document) (a b c : Database) → AddsDocuments name k documents a b → SetsRow document_table (document_cells name (record it { job = k })) b c
    → AddsDocuments name k (documents ++ it ∷ []) a c
document_added name k [] it a b c same sets = (c, subst (λ (db : Database). SetsRow document_table (document_cells name (record it { job = k })) db c) same sets, refl)
document_added name k (d ∷ documents) it a b c (next, first, adds) sets = (next, first, document_added name k documents it next b c adds sets)

-- ---- the grants

module _ (name : List ℕ) (source : Database) where
  abbrev AreGranted : (room : RoomValue) → List Grant → Type 0
  AreGranted room = AllByRecursion (λ (it : Grant). get room.grants it.month ≡ Some it.pages)

  grants_grow : (grants : List Grant) (a b : Database) → AddsGrants name grants a b
      → (room part : RoomValue) → AreGranted room grants → IsPartOf room part → HoldsRows a name part → HoldsMore b name room part (HasTheseGrants grants)
  grants_grow [] a b same room part there is rows = record {
    further = part;
    is_part = is;
    rows = subst (λ (db : Database). HoldsRows db name part) (sym same) rows;
    goes_on = goes_nowhere room part;
    has = tt;
  }
  grants_grow (g ∷ grants) a b (next, sets, adds) room part there is rows =
      let one : RoomValue = record part { grants = insert part.grants g.month g.pages } in
      let one_is : IsPartOf room one = record { opened = is.opened; next = is.next; jobs = is.jobs; documents = is.documents; grants = still_within nat_cmp_total room.grants part.grants g.month g.pages there.0 is.grants } in
      let one_rows : HoldsRows next name one = grant_held name a next part rows g.month g.pages sets in
      let one_goes : GoesOn room part one = record { jobs = λ _ had. had; documents = λ _ _ had. had; grants = λ n had. still_has nat_cmp_total room.grants part.grants g.month g.pages there.0 n had } in
      let rest = grants_grow grants next b adds room one there.1 one_is one_rows in
      record {
        further = rest.further;
        is_part = rest.is_part;
        rows = rest.rows;
        goes_on = goes_both room part one rest.further one_goes rest.goes_on;
        has = (rest.goes_on.grants g.month (has_inserted nat_cmp_total room.grants part.grants g.month g.pages there.0), rest.has);
      }

  grants_alone : (grants : List Grant) (a b : Database) → AddsGrants name grants a b → OnlyAccount name a b
  grants_alone [] a b same = subst (OnlyAccount name a) (sym same) (same_rows name a)
  grants_alone (g ∷ grants) a b (next, sets, adds) = alone_then a next b name (grant_alone name a next _ sets) (grants_alone grants next b adds)

  all_granted : (room : RoomValue) (es : List (ℕ × ℕ)) → AllByRecursion (λ (e : ℕ × ℕ). get room.grants e.0 ≡ Some e.1) es → AreGranted room (map grant_of es)
  all_granted room [] all = tt
  all_granted room (e ∷ es) all = (all.0, all_granted room es all.1)

  covered : (P : ℕ → Type 0) (es : List (ℕ × ℕ)) → AllByRecursion (λ (it : Grant). P it.month) (map grant_of es) → (q v : ℕ) → find nat_cmp q es ≡ Some v → P q
  covered P [] all q v e = let no : ⊥ = cc in absurd no
  covered P (f ∷ es) all q v e = elim (eq_by_cmp nat_cmp q f.0) as (λ b. eq_by_cmp nat_cmp q f.0 ≡ b → cond b (Some f.1) (find nat_cmp q es) ≡ Some v → P q) [
    | true ↦ λ tied _. subst P (sym (tied_number q f.0 tied)) all.0
    | false ↦ λ _ is. covered P es all.1 q v is
  ] refl e
    where
      tied_number : (q k : ℕ) → eq_by_cmp nat_cmp q k ≡ true → q ≡ k
      tied_number q k tied =
          let same = sym (number_tie q k) ∙ tied in
          grind (arith, nat_tests)

  pub grants_copied : (grants : List Grant) (a b : Database) → ((room : RoomValue) → HoldsRoom source name room → grants ≡ map grant_of (entries room.grants)) → AddsGrants name grants a b
      → CopiesMore name HasGrants source a b
  grants_copied grants a b lists adds = record {
    more = λ room part held is rows.
        let same = lists room held in
        let there : AreGranted room grants = subst (AreGranted room) (sym same) (all_granted room (entries room.grants) (entries_here room.grants)) in
        let more = grants_grow grants a b adds room part there is rows in
        let all : HasTheseGrants (map grant_of (entries room.grants)) room more.further = subst (λ (gs : List Grant). HasTheseGrants gs room more.further) same more.has in
        record {
          further = more.further;
          is_part = more.is_part;
          rows = more.rows;
          goes_on = more.goes_on;
          has = has_each nat_cmp_total room.grants more.further.grants more.is_part.grants
              (λ q v e. covered (λ month. HasGrant month room more.further) (entries room.grants) all q v (sym (get-entries room.grants q) ∙ e));
        };
    alone = grants_alone grants a b adds;
  }

pub grant_added : (name : List ℕ) (grants : List Grant) (it : Grant) (a b c : Database) → AddsGrants name grants a b → SetsRow grants_table (grant_cells name it.month it.pages) b c → AddsGrants name (grants ++ it ∷ []) a c
grant_added name [] it a b c same sets = (c, subst (λ (db : Database). SetsRow grants_table (grant_cells name it.month it.pages) db c) same sets, refl)
grant_added name (g ∷ grants) it a b c (next, first, adds) sets = (next, first, grant_added name grants it next b c adds sets)
