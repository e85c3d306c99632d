-- An event that failed is applied once more: it is as if it had been applied once.
use Rattle.std.proofs.Common.{IsErrOf, ◌↔◌, ◌<◌, ◌≡◌, ◌∙◌, ◌⊎◌, ℕ, IsTrue, Result, Ok, Err, arith, inl, inr, subst, sym}
use Rattle.std.proofs.lemmas.Bool.{cases_Bool, true≢false}
use Rattle.sqlite.specs.Effect.{Database}
use Rattle.sqlite.specs.State.{State, HasCleanDisk}
use Rattle.sqlite_trees.specs.Tree.{Trees}
use Rattle.account_machine.specs.Events.{PlainEvent}
use Rattle.account_machine.specs.declared.event.Reply.{Reply}
use Rattle.account_machine.specs.declared.verdict.Answered.{Answered}
use Rattle.account_rules.specs.Limits.{last_moment}
use Rattle.store_events.specs.Applied.{Applies, AppliesFully, HasVerdict, IsAnswered, IsDone}
use Rattle.store_events.specs.Events.{IsShort}
use Rattle.store_rounds.specs.Shut.{LeavesIfShut}
use Rattle.store_rounds.specs.declared.fault.StoreFault.{StoreFault}
use Rattle.store_rounds.specs.declared.fault.StoreFault.TheVariants.{Damaged, Memory, Moment, Storage}
use Rattle.rows_tables.proofs.Going.{goes_on}
use Rattle.rows_tables.specs.Keyed.{HasSchema}
use Rattle.serve_peers.specs.Again.{answer_at_last}

-- a fault, as what is told
abbrev as_told : StoreFault → Result Reply StoreFault
as_told fault = Err fault

-- what is told at last, without what it came to
abbrev at_last : Result Reply StoreFault → Result Reply StoreFault
at_last (Err Damaged) = Err Storage
at_last told = told

module _ (now : ℕ) (e : PlainEvent) (old mid new : State) (first : Applies now e old mid (Err Storage)) where
  not_short : IsShort e → ⊥
  not_short short = let is : Storage ≡ Moment = first.short short in cc

  -- where the connection was still open nothing had changed
  same : HasCleanDisk mid → HasSchema old.now → IsTrue mid.is_open → mid.now ≡ old.now
  same clean schema is_open = first.unchanged clean schema is_open

  module _ (told : Result Reply StoreFault) (second : Applies now e mid new told) where
    was_clean : HasCleanDisk new → HasCleanDisk mid
    was_clean clean = omega (arith, second.connection.clean, clean)

    still_schema : HasCleanDisk new → HasSchema old.now → IsTrue mid.is_open → HasSchema mid.now
    still_schema clean schema is_open = subst (λ (db : Database). HasSchema db) (sym (same (was_clean clean) schema is_open)) schema

    shuts : LeavesIfShut old new
    shuts clean shut found may = first.shut (was_clean clean) shut found (second.shut clean (λ is_open. shut (first.connection.back (was_clean clean) is_open)) found may)

    crashes : HasCleanDisk new → HasSchema old.now → (found : Trees) → new.may_leave found
        → old.may_leave found ⊎ ((after : Database) × (after.trees ≡ found) × IsDone now e old.now after)
    crashes clean schema found may = elim (cases_Bool mid.is_open) [
      | inl is_open ↦ elim (second.crash clean (still_schema clean schema is_open) found may) [
        | inl was ↦ first.crash (was_clean clean) schema found was
        | inr done ↦ inr (done.0, done.1, subst (λ (db : Database). IsDone now e db done.0) (same (was_clean clean) schema is_open) done.2)
      ]
      | inr shut ↦ first.crash (was_clean clean) schema found (second.shut clean (λ is_open. true≢false (sym is_open ∙ shut)) found may)
    ]

  -- it failed again
  failed : (fault shown : StoreFault) → Applies now e mid new (Err fault) → (shown ≡ Damaged → ⊥) → (IsErrOf (as_told shown) Moment ↔ (last_moment < now)) → Applies now e old new (Err shown)
  failed fault shown second not_damaged moment = record {
    answered = λ clean schema. tt;
    crash = crashes (Err fault) second;
    unchanged = λ clean schema is_open. let was_open = second.connection.back clean is_open in
        second.unchanged clean (still_schema (Err fault) second clean schema was_open) is_open ∙ same (was_clean (Err fault) second clean) schema was_open;
    damaged = λ clean schema is readable. let damaged : shown ≡ Damaged = cc in not_damaged damaged;
    moment = moment;
    short = λ short. absurd (not_short short);
    asked = λ long clean. tt;
    opened = λ clean. tt;
    on_disk = second.on_disk;
    shut = shuts (Err fault) second;
    connection = goes_on old mid new first.connection second.connection;
  }

  again : (told : Result Reply StoreFault) → Applies now e mid new told → Applies now e old new (at_last told)
  again (Ok reply) second = record {
    answered = λ clean schema. let is_open = second.asked not_short clean in
        subst (λ (db : Database). IsAnswered now e db new.now reply) (same (was_clean (Ok reply) second clean) schema is_open) (second.answered clean (still_schema (Ok reply) second clean schema is_open));
    crash = crashes (Ok reply) second;
    unchanged = λ clean schema. tt;
    damaged = λ clean schema is readable. cc;
    moment = second.moment;
    short = λ short. absurd (not_short short);
    asked = λ long clean. first.connection.back (was_clean (Ok reply) second clean) (second.asked long clean);
    opened = λ clean was. second.opened clean (second.asked not_short clean);
    on_disk = second.on_disk;
    shut = shuts (Ok reply) second;
    connection = goes_on old mid new first.connection second.connection;
  }
  again (Err Storage) second = failed Storage Storage second (λ is. cc) second.moment
  again (Err Memory) second = failed Memory Memory second (λ is. cc) second.moment
  again (Err Moment) second = failed Moment Moment second (λ is. cc) second.moment
  again (Err Damaged) second = failed Damaged Storage second (λ is. cc) first.moment

  -- and what it came to
  pub again_fully : (told : Result Answered StoreFault) → AppliesFully now e mid new told → AppliesFully now e old new (answer_at_last told)
  again_fully (Ok it) second = record {
    applies = again (Ok it.reply) second.applies;
    verdict = λ clean schema. let is_open = second.applies.asked not_short clean in
        subst (λ (db : Database). HasVerdict now e db it.verdict) (same (was_clean (Ok it.reply) second.applies clean) schema is_open) (second.verdict clean (still_schema (Ok it.reply) second.applies clean schema is_open));
  }
  again_fully (Err Storage) second = record { applies = again (Err Storage) second.applies; verdict = λ clean schema. tt }
  again_fully (Err Memory) second = record { applies = again (Err Memory) second.applies; verdict = λ clean schema. tt }
  again_fully (Err Moment) second = record { applies = again (Err Moment) second.applies; verdict = λ clean schema. tt }
  again_fully (Err Damaged) second = record { applies = again (Err Damaged) second.applies; verdict = λ clean schema. tt }
