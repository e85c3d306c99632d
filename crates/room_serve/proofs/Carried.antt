-- Connections of HTTP: one call more, and what all of them come to.
use Rattle.std.specs.List.{AllByRecursion}
use Rattle.std.proofs.Common.{◌≡◌, ◌+◌, ℕ, false, List, [], ◌∷◌, ◌++◌, length, length-append, Option, Result, Ok, Err, ap, refl, sym, subst, ◌∙◌}
use Rattle.sqlite.specs.Held.{Held, state}
use Rattle.sqlite_trees.specs.declared.store.Store.{Ghosts}
use Rattle.account_machine.specs.Events.{Timed, OfAccount, Ipp}
use Rattle.account_machine.specs.declared.event.Reply.{Reply}
use Rattle.listen_http.specs.declared.fault.WireFault.{WireFault}
use Rattle.listen_http.specs.declared.fault.WireFault.TheVariants.{Read, Write, Memory, Ended}
use Rattle.listen_http.specs.declared.judging.Order.{Order}
use Rattle.store_rounds.specs.declared.fault.StoreFault.{StoreFault}
use Rattle.room_serve.proofs.LivesOn.{lists_join, lives_go_on_in_lists, one_applied}
use Rattle.room_serve.specs.Connections.{AreCalls, CameTo, IsMessage, TakesLivesOn}
use Rattle.room_serve.specs.Exchanges.{Answers, AppliesMessage, Breaks, IsBroken, has_carried, has_nothing, has_refused, in_answer, in_interim, in_refusal}
use Rattle.room_serve.specs.Outcomes.{outcome_of}
use Rattle.room_serve.specs.Runs.{AreApplied}
use Rattle.room_serve.specs.Wires.{wire_has_ended}
use Rattle.room_serve.specs.declared.outcome.Outcome.{Outcome}
use Rattle.room_serve.specs.declared.wire.After.{After}
use Rattle.room_serve.specs.declared.wire.Wire.{Wire}

module _ {S : Type 0} (store : Ghosts S) where
  -- ---- what lists of messages come to

  goes_on : (events : List Timed) (outcomes : List Outcome) (old new : Held S) → AllByRecursion IsMessage events → AreApplied store events outcomes old new → TakesLivesOn store old new
  goes_on events outcomes old new messages applied = record {
    events = events;
    outcomes = outcomes;
    messages = messages;
    applied = applied;
    lives = λ clean has. lives_go_on_in_lists store events outcomes old new applied clean has;
  }

  pub nothing_applied : (held : Held S) → TakesLivesOn store held held
  nothing_applied held = goes_on [] [] held held tt refl

  all_messages : (first second : List Timed) → AllByRecursion IsMessage first → AllByRecursion IsMessage second → AllByRecursion IsMessage (first ++ second)
  all_messages [] second one two = two
  all_messages (e ∷ first) second (is, one) two = (is, all_messages first second one two)

  pub both_go_on : (old mid new : Held S) → TakesLivesOn store old mid → TakesLivesOn store mid new → TakesLivesOn store old new
  both_go_on old mid new first second =
      goes_on (first.events ++ second.events) (first.outcomes ++ second.outcomes) old new (all_messages first.events second.events first.messages second.messages)
      (lists_join store first.events second.events first.outcomes second.outcomes old mid new first.applied second.applied)

  -- ---- what one call comes to

  unapplied : (old new : Held S) → new ≡ old → TakesLivesOn store old new
  unapplied old new same = subst (λ (held : Held S). TakesLivesOn store old held) (sym same) (nothing_applied old)

  message_applied : (now : ℕ) (order : Order) (body : List ℕ) (told : Result Reply StoreFault) (old new : Held S) → AppliesMessage store now order.account body old new told → TakesLivesOn store old new
  message_applied now order body told old new applies =
      let e : Timed = (now, OfAccount order.account (Ipp body)) in
      goes_on (e ∷ []) (outcome_of told ∷ []) old new (tt, tt) (one_applied store e old new told applies)

  module _ (now : ℕ) (before after : List ℕ → Type 0) (a b : Option (List ℕ)) (old new : Held S) where
    by_answer : (next : After) → Answers store now before after a b old new next → TakesLivesOn store old new
    by_answer next (has_nothing taken given same) = unapplied old new same
    by_answer next (has_refused interim why taken given same) = unapplied old new same
    by_answer next (has_carried order body told taken applies given) = message_applied now order body told old new applies

    by_break : IsBroken store now before after a b old new → TakesLivesOn store old new
    by_break (in_interim order taken expects given same) = unapplied old new same
    by_break (in_refusal interim why taken given same) = unapplied old new same
    by_break (in_answer order body told taken applies given) = message_applied now order body told old new applies

    by_fault : (fault : WireFault) → Breaks store now before after a b old new fault → TakesLivesOn store old new
    by_fault Read broke = unapplied old new broke.1
    by_fault Memory broke = unapplied old new broke.1
    by_fault Write broke = by_break broke
    by_fault Ended broke = absurd broke

  -- ---- calls one after another

  module _ {R W : Type 0} (left : R → List ℕ → Type 0) (given : W → Option (List ℕ)) where
    calls_more : (calls : List (ℕ × Result After WireFault)) (first mid last : Wire R W) (old next new : Held S) (now : ℕ) (result : Result After WireFault) → AreCalls store left given calls first mid old next
        → wire_has_ended mid ≡ false → CameTo store left given now result mid last next new → AreCalls store left given (calls ++ (now, result) ∷ []) first last old new
    calls_more [] first mid last old next new now result so_far going came =
        subst (λ (wire : Wire R W). AreCalls store left given ((now, result) ∷ []) wire last old new) so_far.0
        (subst (λ (held : Held S). AreCalls store left given ((now, result) ∷ []) mid last held new) so_far.1 (going, (last, new, came, (refl, refl))))
    calls_more ((then, one) ∷ calls) first mid last old next new now result (goes, (wire, held, is, rest)) going came =
        (goes, (wire, held, is, calls_more calls wire mid last held next new now result rest going came))

    -- so many calls
    pub record HasCalled (number : ℕ) (first last : Wire R W) (old new : Held S) : Type 0 where
      pub calls : List (ℕ × Result After WireFault)
      pub are : AreCalls store left given calls first last old new
      pub count : length calls ≡ number

    pub none_called : (wire : Wire R W) (held : Held S) → HasCalled 0 wire wire held held
    none_called wire held = record { calls = []; are = (refl, refl); count = refl }

    pub called_on : (number : ℕ) (first mid last : Wire R W) (old next new : Held S) (now : ℕ) (result : Result After WireFault) → HasCalled number first mid old next
        → wire_has_ended mid ≡ false → CameTo store left given now result mid last next new → HasCalled (number + 1) first last old new
    called_on number first mid last old next new now result so_far going came = record {
      calls = so_far.calls ++ (now, result) ∷ [];
      are = calls_more so_far.calls first mid last old next new now result so_far.are going came;
      count = length-append so_far.calls ((now, result) ∷ []) ∙ ap (λ (n : ℕ). n + 1) so_far.count;
    }

    came_on : (now : ℕ) (result : Result After WireFault) (first last : Wire R W) (old new : Held S) → CameTo store left given now result first last old new → TakesLivesOn store old new
    came_on now (Ok next) first last old new came = by_answer now _ _ _ _ old new next came
    came_on now (Err fault) first last old new came = by_fault now _ _ _ _ old new fault came

    pub calls_go_on : (calls : List (ℕ × Result After WireFault)) (first last : Wire R W) (old new : Held S) → AreCalls store left given calls first last old new → TakesLivesOn store old new
    calls_go_on [] first last old new is = unapplied old new is.1
    calls_go_on ((now, result) ∷ calls) first last old new (going, (wire, held, came, rest)) =
        both_go_on old held new (came_on now result first wire old held came) (calls_go_on calls wire last held new rest)
