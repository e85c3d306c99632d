-- A message that ends within its header is answered so, whatever the account has.
use Rattle.std.proofs.Common.{◌≡◌, ◌⊎◌, ℕ, true, List, Option, Some, None, nat_lt, length, inl, inr, refl, arith}
use Rattle.std.proofs.lemmas.Bool.Decides.{nat_tests}
use Rattle.std.proofs.lemmas.Bool.{cases_Bool}
use Rattle.account_machine.specs.Events.{AccountEvent, OfAccount, Open, Ipp, Release, Start, Settle, Grant}
use Rattle.account_machine.specs.Machine.{answered}
use Rattle.account_machine.specs.declared.event.Reply.TheVariants as reply
use Rattle.account_rules.specs.Devices.{Devices}
use Rattle.account_state.specs.Rooms.{RoomValue}
use Rattle.store_events.specs.Events.{IsShort}

pub short_or_not : (account : List ℕ) (it : AccountEvent) → IsShort (OfAccount account it) ⊎ (IsShort (OfAccount account it) → ⊥)
short_or_not account Open = inr (λ is. is)
short_or_not account (Ipp body) = elim (cases_Bool (nat_lt (length body) 8)) [
  | inl is ↦ inl (grind (arith, nat_tests))
  | inr isnt ↦ inr (λ short. grind (arith, nat_tests))
]
short_or_not account (Release device job password impressions) = inr (λ is. is)
short_or_not account (Start device job) = inr (λ is. is)
short_or_not account (Settle device job impressions failed) = inr (λ is. is)
short_or_not account (Grant month pages) = inr (λ is. is)

pub short_reply : (room : Option RoomValue) (devices : Devices) (now : ℕ) (account : List ℕ) (it : AccountEvent) → IsShort (OfAccount account it) → (answered room devices now (OfAccount account it)).reply ≡ reply.Short
short_reply None devices now account (Ipp body) short = let is : nat_lt (length body) 8 ≡ true = grind (arith, nat_tests) in rw is refl
short_reply (Some room) devices now account (Ipp body) short = let is : nat_lt (length body) 8 ≡ true = grind (arith, nat_tests) in rw is refl
short_reply room devices now account Open short = absurd short
short_reply room devices now account (Release device job password impressions) short = absurd short
short_reply room devices now account (Start device job) short = absurd short
short_reply room devices now account (Settle device job impressions failed) short = absurd short
short_reply room devices now account (Grant month pages) short = absurd short

-- and leaves it as it was
pub short_room : (room : Option RoomValue) (devices : Devices) (now : ℕ) (account : List ℕ) (it : AccountEvent) → IsShort (OfAccount account it) → (answered room devices now (OfAccount account it)).room ≡ room
short_room None devices now account (Ipp body) short = let is : nat_lt (length body) 8 ≡ true = grind (arith, nat_tests) in rw is refl
short_room (Some room) devices now account (Ipp body) short = let is : nat_lt (length body) 8 ≡ true = grind (arith, nat_tests) in rw is refl
short_room room devices now account Open short = absurd short
short_room room devices now account (Release device job password impressions) short = absurd short
short_room room devices now account (Start device job) short = absurd short
short_room room devices now account (Settle device job impressions failed) short = absurd short
short_room room devices now account (Grant month pages) short = absurd short
