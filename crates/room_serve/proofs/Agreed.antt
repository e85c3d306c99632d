-- Machines that are given the same.
use Rattle.std.proofs.Common.{◌≡◌, ℕ, Bool, true, false, cond, List, [], ◌∷◌, filter, Option, length, refl, sym, ap, subst, ◌∙◌, arith}
use Rattle.sqlite.specs.Effect.{Database}
use Rattle.account_machine.specs.Events.{Timed}
use Rattle.account_rules.specs.Devices.{Devices}
use Rattle.account_state.specs.Rooms.{RoomValue}
use Rattle.rows_tables.proofs.AgreedRows.{agree_again, hold_the_same}
use Rattle.rows_tables.specs.Accounts.{Holds}
use Rattle.rows_tables.specs.Agreement.{Agree}
use Rattle.rows_tables.specs.Devices.{HoldsDevices}
use Rattle.room_serve.specs.declared.outcome.Outcome.{Outcome}
use Rattle.room_serve.specs.declared.outcome.Outcome.TheVariants.{Answered, Failed}
use Rattle.room_serve.specs.Own.{own}
use Rattle.room_serve.specs.Alone.{alone}
use Rattle.room_serve.specs.Outcomes.{NoneFailed, answered_of, failed_of}
use Rattle.room_serve.specs.Isolation.{AreTheSame, IsRun}
use Rattle.room_serve.specs.Runs.{IsAlone}

-- ---- lists of which nothing of the account's failed

shorter : {X Y : Type 0} (x : X) (xs : List X) (y : Y) (ys : List Y) → length (x ∷ xs) ≡ length (y ∷ ys) → length xs ≡ length ys
shorter x xs y ys same = omega (arith, same)

kept : (p : Timed → Bool) (x : Timed) (xs ys : List Timed) → filter p xs ≡ filter p ys → filter p (x ∷ xs) ≡ filter p (x ∷ ys)
kept p x xs ys same = elim (p x) as (λ b. cond b (x ∷ filter p xs) (filter p xs) ≡ cond b (x ∷ filter p ys) (filter p ys)) [ true ↦ ap (λ l. x ∷ l) same | false ↦ same ]

-- what is not picked is not missed
dropped : (p : Timed → Bool) (x : Timed) (xs : List Timed) → filter p (x ∷ xs) ≡ [] → (filter p xs ≡ []) × ((ys : List Timed) → filter p ys ≡ filter p (x ∷ ys))
dropped p x xs none = by (p x) none
  where
    by : (b : Bool) → cond b (x ∷ filter p xs) (filter p xs) ≡ [] → (filter p xs ≡ []) × ((ys : List Timed) → filter p ys ≡ cond b (x ∷ filter p ys) (filter p ys))
    by true is = let no : ⊥ = cc in absurd no
    by false is = (is, λ ys. refl)

pub all_answered : (name : List ℕ) (events : List Timed) (outcomes : List Outcome) → length outcomes ≡ length events → NoneFailed name events outcomes → own name (answered_of events outcomes) ≡ own name events
all_answered name [] outcomes same none = refl
all_answered name (e ∷ events) [] same none = let no : ⊥ = cc in absurd no
all_answered name (e ∷ events) (Answered reply ∷ outcomes) same none = kept _ e _ events (all_answered name events outcomes (shorter (Answered reply) outcomes e events same) none)
all_answered name (e ∷ events) (Failed fault ∷ outcomes) same none =
    let without = dropped _ e (failed_of events outcomes) none in
    all_answered name events outcomes (shorter (Failed fault) outcomes e events same) without.0 ∙ without.1 events

-- ---- the headline

module _ (first second : List Timed) (firsts seconds : List Outcome) (a b a_new b_new : Database) (a_open b_open : Bool) where
  pub isolates : IsRun first firsts a a_open a_new → IsRun second seconds b b_open b_new
      → (name : List ℕ) → ((room : Option RoomValue) × Holds a name room) → ((devices : Devices) × HoldsDevices a devices) → Agree name a b → own name first ≡ own name second
      → NoneFailed name first firsts → NoneFailed name second seconds
      → AreTheSame name first second firsts seconds a_open b_open a_new b_new
  isolates one other name sound devices agree same none none_either =
      let there = hold_the_same name a b agree sound.0 devices.0 sound.1 devices.1 in
      let machine = alone sound.0 devices.0 (own name first) in
      let ones = subst (λ l. IsAlone first firsts a a_open a_new name (alone sound.0 devices.0 l)) (all_answered name first firsts one.each none) (one.alone name sound.0 devices.0 sound.1 devices.1) in
      let others = subst (λ l. IsAlone second seconds b b_open b_new name (alone sound.0 devices.0 l)) (all_answered name second seconds other.each none_either) (other.alone name sound.0 devices.0 there.0 there.1) in
      let alike = subst (λ m. IsAlone second seconds b b_open b_new name m) (ap (alone sound.0 devices.0) (sym same)) others in
      record {
        replies = ones.replies ∙ sym alike.replies;
        agree = λ a_is b_is. agree_again name a_new b_new machine.room machine.devices (ones.rows a_is) (ones.devices a_is) (alike.rows b_is) (alike.devices b_is);
      }
