-- The numbers within which an event has to lie, what a name is, and how names are ordered.
use Rattle.std.proofs.Common.{refl}
use Rattle.account_laws.specs.LimitsTold.{EventsLieWithin, MomentsEnd, NamesAreThese, NamesGoByTheirBytes}
use Rattle.account_machine.specs.Events.{OfAccount, OfDevice, Open, Ipp, Release, Start, Settle, Grant, Switch, Rate}

pub events_lie_within : EventsLieWithin
events_lie_within (OfAccount account Open) = refl
events_lie_within (OfAccount account (Ipp body)) = refl
events_lie_within (OfAccount account (Release device job password impressions)) = refl
events_lie_within (OfAccount account (Start device job)) = refl
events_lie_within (OfAccount account (Settle device job impressions failed)) = refl
events_lie_within (OfAccount account (Grant month pages)) = refl
events_lie_within (OfDevice device (Switch on)) = refl
events_lie_within (OfDevice device (Rate units)) = refl

pub moments_end : MomentsEnd
moments_end = refl

pub names_are_these : NamesAreThese
names_are_these bytes = refl

pub names_go_by_their_bytes : NamesGoByTheirBytes
names_go_by_their_bytes a b = refl
