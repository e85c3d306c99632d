-- What was told of a job is all that there is of it.
use Rattle.std.proofs.Common.{◌≡◌, ℕ, Bool, true, not, ◌&&◌, Option, Some, None, option_map, sym, ap, ◌∙◌}
use Rattle.std.specs.Cmp.{nat_cmp_total}
use Rattle.std.specs.FinMap.{get, nat_cmp-IsAntisymmetric, same_map}
use Rattle.account_laws.proofs.AsToldSums.{charged_at, reserved_at}
use Rattle.account_laws.proofs.KeyedValues.{get-with_keyed, with_keyed}
use Rattle.account_laws.proofs.ShownJobs.{ended_is, started_is, state_is}
use Rattle.account_laws.specs.AccountsTold.{AccountTold}
use Rattle.account_laws.specs.JobsTold.{JobTold, Stage, HasEnded, is_over}
use Rattle.account_laws.specs.PagesTold.{is_stopped, whole_job}
use Rattle.account_laws.specs.StandsAsTold.{AreAsTold, IsAsTold, IsAt, StandsAsTold}
use Rattle.account_rules.specs.JobStates.{is_unfinished}
use Rattle.account_rules.specs.declared.job.Job.{Job}
use Rattle.account_rules.specs.declared.job.Standing.{Standing}
use Rattle.account_state.specs.Rooms.{RoomValue}

-- ---- one job

open_is : (stage : Stage) (s : Standing) (is_open : Bool) → IsAt stage s → (is_unfinished s.state ≡ true → s.is_open ≡ is_open) → s.is_open ≡ (not (is_over stage) && is_open)
open_is (HasEnded how count units since ended) s is_open at opens = at.closed
open_is _ s is_open at opens = opens (ap is_unfinished at.state)

stopping_is : (stage : Stage) (s : Standing) → IsAt stage s → s.stopping ≡ is_stopped stage
stopping_is (HasEnded how count units since ended) s at = at.stopping
stopping_is _ s at = at.stopping

pub is_whole : (number : ℕ) (ticket : JobTold) (room : RoomValue) (job : Job) → IsAsTold number ticket room job → job ≡ whole_job (number, ticket)
is_whole number ticket room job is =
    let state = state_is ticket.stage job.standing is.stage in
    let opens = open_is ticket.stage job.standing ticket.is_open is.stage is.is_open in
    let stops = stopping_is ticket.stage job.standing is.stage in
    let reserved = reserved_at ticket.stage job.standing is.stage in
    let charged = charged_at ticket.stage job.standing is.stage in
    let started = started_is ticket.stage job.standing is.stage in
    let ended = ended_is ticket.stage job.standing is.stage in
    λ i. record {
      job = is.numbered i;
      name = is.name i;
      password = is.password i;
      standing = record {
        state = state i;
        is_open = opens i;
        stopping = stops i;
        copies = is.copies i;
        impressions = is.impressions i;
        reserved = reserved i;
        charged = charged i;
        documents = is.count i;
        rate = is.rated i;
        device = is.bound i;
        created = is.created i;
        started = started i;
        ended = ended i;
      };
    }

-- ---- all jobs

abbrev keyed : (number : ℕ) → JobTold → Job
keyed number job = whole_job (number, job)

each_whole : (number : ℕ) (room : RoomValue) (ticket : Option JobTold) (job : Option Job) → AreAsTold number ticket room job → job ≡ option_map (λ (job : JobTold). whole_job (number, job)) ticket
each_whole number room None job are = are
each_whole number room (Some ticket) None are = absurd are
each_whole number room (Some ticket) (Some job) are = ap Some (is_whole number ticket room job are)

pub jobs_whole : (told : AccountTold) (room : RoomValue) → StandsAsTold told room → room.jobs ≡ with_keyed keyed told.jobs
jobs_whole told room stands =
    same_map nat_cmp_total nat_cmp-IsAntisymmetric room.jobs (with_keyed keyed told.jobs) (λ number.
    each_whole number room (get told.jobs number) (get room.jobs number) (stands.jobs number)
    ∙ sym (get-with_keyed keyed told.jobs number))
