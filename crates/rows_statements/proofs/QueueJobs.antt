-- The jobs of an account in the orders of Get-Jobs: what is gathered of their rows.
use Rattle.std.proofs.Common.{◌≡◌, ℕ, zero, suc, inl, inr, take, List, [], ◌∷◌, ◌++◌, map, append-nil, append_assoc, Option, None, Some, Ordering, refl, sym, ap, subst, ◌∙◌, arith}
use Rattle.std.specs.List.{AllByRecursion}
use Rattle.std.specs.FinMap.{values}
use Rattle.std.proofs.lemmas.List.Sorted.{IsPermutation-sym}
use Rattle.sqlite_value.specs.Order.{Row}
use Rattle.sqlite_rules.specs.Lists.{Has}
use Rattle.sqlite_sql.specs.Query.{limited}
use Rattle.sqlite_rules.proofs.ListLemmas.{all_has}
use Rattle.sqlite_rules.proofs.ProbeLemmas.{has_mapped}
use Rattle.sqlite.specs.Effect.{Database}
use Rattle.account_rules.specs.declared.job.Job.{Job}
use Rattle.account_state.specs.Rooms.{RoomValue}
use Rattle.account_state.proofs.JobMaps.{values_keep}
use Rattle.rows_tables.specs.Keyed.{HasSchema}
use Rattle.rows_tables.specs.Cells.{job_cells}
use Rattle.rows_tables.specs.Accounts.{HoldsRoom, IsSound}
use Rattle.account_rules.specs.Names.{IsNameOrNone}
use Rattle.rows_statements.specs.Queues.{AreFirst, numbered_cells, listed_cells, IsNumbered, ShowsNumbered, ListsJob, refuses_numbered, AreListed}
use Rattle.rows_statements.specs.SoundRows.{AreRowsOf, FirstAreRowsOf, job_rows}
use Rattle.rows_statements.specs.Walks.{GathersAll, GathersShown, RefusesShown}
use Rattle.rows_tables.proofs.Columns.{EachIs, each_is}
use Rattle.rows_tables.proofs.Queries.{permuted_has}
use Rattle.rows_statements.proofs.AccountRows.{no_jobs, rows_of_jobs}
use Rattle.rows_tables.proofs.ReadBackLemmas.{rows_are_read_back}
use Rattle.rows_statements.proofs.WalkLemmas.{refused_there}

-- a row tells one job
told_once : (it told : Job) → IsNameOrNone it.standing.device → IsNameOrNone told.standing.device → ShowsNumbered (numbered_cells it) told → told ≡ it
told_once it told named other shows =
    let s = shows.shown.standing in
    let each : EachIs 0 (job_cells [] told) (job_cells [] it) = (
      refl,
      (shows.numbered, (shows.shown.name, (shows.shown.password, (s.state, (s.is_open, (s.stopping, (s.copies, (s.impressions, (s.reserved, (s.charged, (s.documents, (s.rate, (s.device, (s.created, (s.started, (s.ended, tt)))))))))))))))),
    ) in
    sym (rows_are_read_back.jobs [] [] it told named other (each_is (job_cells [] told) 0 (job_cells [] it) each)).1

tells_itself : (it : Job) → ShowsNumbered (numbered_cells it) it
tells_itself it = record {
  shown = record {
    name = refl;
    password = refl;
    standing = record { state = refl; is_open = refl; stopping = refl; copies = refl; impressions = refl; reserved = refl; charged = refl; documents = refl; rate = refl; device = refl; created = refl; started = refl; ended = refl };
  };
  numbered = refl;
}

gathered_so : (jobs first last : List Job) → AllByRecursion IsNumbered jobs → GathersAll ListsJob first (map numbered_cells jobs) last → last ≡ first ++ jobs
gathered_so [] first last sound same = sym same ∙ sym (append-nil first)
gathered_so (it ∷ jobs) first last sound (next, step, more) =
    gathered_so jobs next last sound.1 more
    ∙ ap (λ (l : List Job). l ++ jobs) (step.added ∙ ap (λ (told : Job). first ++ told ∷ []) (told_once it step.job sound.0.in_range.standing.named_device step.numbered.in_range.standing.named_device step.told))
    ∙ append_assoc first (it ∷ []) jobs

room_numbered : (db : Database) (name : List ℕ) (room : RoomValue) → HoldsRoom db name room → AllByRecursion IsNumbered (values room.jobs)
room_numbered db name room held = values_keep (λ _ (it : Job). IsNumbered it) room.jobs (λ n it is.
    let at = held.is_room.jobs n it is in (
      at.numbered,
      record {
        in_range = record { name_fits = at.name_fits; password_fits = at.password_fits; standing = at.standing };
        from_one = omega (arith, at.numbered, at.from_one);
        to_last = omega (arith, at.numbered, at.below_next, held.is_room.next_in_range);
      },
    ))

-- each job that is gathered has a number of an account
pub all_numbered : (first last : List Job) (rows : List Row) → GathersAll ListsJob first rows last → AllByRecursion IsNumbered first → AllByRecursion IsNumbered last
all_numbered first last [] same sound = subst (AllByRecursion IsNumbered) same sound
all_numbered first last (row ∷ rows) (next, step, more) sound = all_numbered next last rows more (subst (AllByRecursion IsNumbered) (sym step.added) (put_last first step.job sound step.numbered))
  where
    put_last : (jobs : List Job) (it : Job) → AllByRecursion IsNumbered jobs → IsNumbered it → AllByRecursion IsNumbered (jobs ++ it ∷ [])
    put_last [] it all is = (is, tt)
    put_last (job ∷ jobs) it all is = (all.0, put_last jobs it all.1 is)

-- what holds of each job holds of those that are chosen
module _ (chosen : List Job → List Job) (keeps : (P : Job → Type 0) (jobs : List Job) → AllByRecursion P jobs → AllByRecursion P (chosen jobs)) (order : Row → Row → Ordering) (limit : Option ℕ) (rows : List Row) (db : Database) (name : List ℕ) where
  pub jobs_listed : (room : RoomValue) → HoldsRoom db name room → (first last : List Job) → first ≡ [] → GathersShown ListsJob (λ _ row. refuses_numbered row) (AreListed chosen order limit rows db name) first last
      → last ≡ chosen (values room.jobs)
  jobs_listed room held first last none (given, shown, gathered) =
      gathered_so (chosen (values room.jobs)) first last (keeps IsNumbered (values room.jobs) (room_numbered db name room held)) (subst (λ rows. GathersAll ListsJob first rows last) (shown.of_room room held) gathered)
      ∙ ap (λ (l : List Job). l ++ chosen (values room.jobs)) none

  pub jobs_unsound : (first : List Job) → RefusesShown ListsJob (λ _ row. refuses_numbered row) (AreListed chosen order limit rows db name) first → FirstAreRowsOf (job_cells name) IsNumbered order limit rows → ⊥
  jobs_unsound first it readable =
      let shown = it.are_shown in
      let one = has_mapped listed_cells shown.first it.row (subst (λ (l : List Row). Has l it.row) shown.are_shown (refused_there it.given it.row it.more)) in
      let told = readable shown.first shown.are_first one.0 one.1 in
      it.refused told.0 told.1 (subst (λ row. ShowsNumbered row told.0) (sym (one.2 ∙ ap listed_cells told.2)) (tells_itself told.0))

-- ---- the first so many are some of all

has_taken : (n : ℕ) (xs : List Row) (x : Row) → Has (take n xs) x → Has xs x
has_taken zero xs x h = absurd h
has_taken (suc n) [] x h = absurd h
has_taken (suc n) (y ∷ ys) x (inl here) = inl here
has_taken (suc n) (y ∷ ys) x (inr later) = inr (has_taken n ys x later)

pub has_limited : (limit : Option ℕ) (xs : List Row) (x : Row) → Has (limited limit xs) x → Has xs x
has_limited None xs x h = h
has_limited (Some n) xs x h = has_taken n xs x h

pub has_first : (order : Row → Row → Ordering) (limit : Option ℕ) (rows first : List Row) → AreFirst order limit rows first → (x : Row) → Has first x → Has rows x
has_first order limit rows first they x h = permuted_has rows they.all x they.same (has_limited limit they.all x (subst (λ (l : List Row). Has l x) they.are h))

-- sound rows can be read
pub jobs_read : (db : Database) → HasSchema db → (name : List ℕ) → IsSound db name → AreRowsOf (job_cells name) IsNumbered (job_rows db name)
jobs_read db has name (None, held) row h = absurd (permuted_has [] (job_rows db name) row (IsPermutation-sym _ _ (no_jobs db has name held)) h)
jobs_read db has name (Some room, held) row h =
    let it = has_mapped (job_cells name) (values room.jobs) row (permuted_has (map (job_cells name) (values room.jobs)) (job_rows db name) row (IsPermutation-sym _ _ (rows_of_jobs db has name room held)) h) in
    (it.0, all_has IsNumbered (values room.jobs) it.0 (room_numbered db name room held) it.1, it.2)
