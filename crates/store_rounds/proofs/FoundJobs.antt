-- A job that was found in the rows of an account is the one of its room.
use Rattle.std.proofs.Common.{◌≡◌, ℕ, ◌<◌, ◌≤◌, pos, true, List, Option, Some, None, IfOk, IfSome, Result, Ok, Err, option_map, refl, sym, ap, ◌∙◌, arith}
use Rattle.std.specs.FinMap.{get}
use Rattle.sqlite.specs.Effect.{Database}
use Rattle.std.proofs.lemmas.Bool.Decides.{nat_tests}
use Rattle.account_rules.specs.Limits.{last_next_job, may_be_job}
use Rattle.rows_statements.specs.Queues.{IsNumbered}
use Rattle.account_rules.specs.declared.job.Job.{Job}
use Rattle.account_state.specs.Rooms.{RoomValue}
use Rattle.rows_tables.specs.Cells.{job_cells}
use Rattle.rows_tables.specs.Accounts.{job_at, HoldsRoom}
use Rattle.rows_tables.specs.declared.fault.TableFault.{TableFault}
use Rattle.rows_tables.proofs.KeyedRows.{same_row}
use Rattle.rows_statements.specs.Shown.{IsJob}
use Rattle.rows_tables.proofs.ReadBackLemmas.{rows_are_read_back}

pub found_job : (db : Database) (name : List ℕ) (number : ℕ) (found : Option Job) → job_at db name (pos number) ≡ option_map (job_cells name) found → IfSome found (λ job. (job.job ≡ number) × IsJob job)
    → (room : RoomValue) → HoldsRoom db name room → found ≡ get room.jobs number
found_job db name number found there is room holds = by_room found there is (get room.jobs number) refl
  where
    by_room : (found : Option Job) → job_at db name (pos number) ≡ option_map (job_cells name) found → IfSome found (λ job. (job.job ≡ number) × IsJob job) → (o : Option Job) → get room.jobs number ≡ o → found ≡ get room.jobs number
    by_room None there is None of = sym of
    by_room None there is (Some b) of = let e = sym there ∙ holds.rows.job_rows (pos number) ∙ ap (option_map (job_cells name)) of in let no : ⊥ = cc in absurd no
    by_room (Some a) there is None of = let e = sym there ∙ holds.rows.job_rows (pos number) ∙ ap (option_map (job_cells name)) of in let no : ⊥ = cc in absurd no
    by_room (Some a) there is (Some b) of =
        let same = same_row (sym there ∙ holds.rows.job_rows (pos number) ∙ ap (option_map (job_cells name)) of) in
        ap (λ (job : Job). Some job) (rows_are_read_back.jobs name name a b is.1.standing.named_device (holds.is_room.jobs number b of).standing.named_device same).1 ∙ sym of

pub found_so : (result : Result (Option Job) TableFault) (db : Database) (name : List ℕ) (number : ℕ) → IfOk result (λ found. job_at db name (pos number) ≡ option_map (job_cells name) found)
    → IfOk result (λ found. IfSome found (λ job. (job.job ≡ number) × IsJob job)) → (room : RoomValue) → HoldsRoom db name room → IfOk result (λ found. found ≡ get room.jobs number)
found_so (Ok found) db name number there is room holds = found_job db name number found there is room holds
found_so (Err e) db name number there is room holds = tt

bounds : (number : ℕ) → may_be_job number ≡ true → (1 ≤ number) × (number < last_next_job)
bounds number may = grind (arith, nat_tests)

pub numbered : (number : ℕ) (job : Job) → may_be_job number ≡ true → job.job ≡ number → IsJob job → IsNumbered job
numbered number job may is in_range = record { in_range = in_range; from_one = omega (arith, is, (bounds number may).0); to_last = omega (arith, is, (bounds number may).1) }

pub numbered_so : (result : Result (Option Job) TableFault) (number : ℕ) → may_be_job number ≡ true → IfOk result (λ found. IfSome found (λ job. (job.job ≡ number) × IsJob job)) → IfOk result (λ found. IfSome found (λ job. (job.job ≡ number) × IsNumbered job))
numbered_so (Ok None) number may is = tt
numbered_so (Ok (Some job)) number may is = (is.0, numbered number job may is.0 is.1)
numbered_so (Err e) number may is = tt
