-- Two lives that differ in nothing but passwords are told the same.
use Rattle.std.proofs.Common.{◌≡◌, ℕ, Bool, false, List, [], ◌∷◌, ◌++◌, Option, Some, None, refl, sym, ap, subst, ◌∙◌, nat_lt, length, true}
use Rattle.std.specs.FinMap.{empty}
use Rattle.std.proofs.lemmas.Bool.{true≢false}
use Rattle.ipp_coding.specs.Limits.{header_length}
use Rattle.account_machine.specs.DeviceEvents.{device_answered}
use Rattle.account_machine.specs.Events.{AccountEvent, PlainEvent, OfAccount, OfDevice, Open, Ipp, Release}
use Rattle.account_machine.specs.Machine.{answered, answered_open}
use Rattle.account_machine.specs.Steps.{Step}
use Rattle.account_machine.specs.declared.event.Reply.{Reply}
use Rattle.account_laws.proofs.AlikeBodies.{bodies_alike}
use Rattle.account_laws.proofs.AlikeGuesses.{guesses_alike}
use Rattle.account_laws.proofs.AsTold.{told_more}
use Rattle.account_laws.proofs.HiddenAnswers.{StepAlike, answered_alike, hidden_step, is_release}
use Rattle.account_laws.proofs.HiddenRooms.{hidden_room}
use Rattle.account_lives.proofs.LifeLemmas.{leads_on, unopened_answer}
use Rattle.account_laws.specs.AccountsTold.{AccountTold, account_told, after_exchange, nothing_told}
use Rattle.account_lives.specs.Lives.{Exchange, IsLife, LeadsTo, Life}
use Rattle.account_laws.specs.PasswordsStaySecret as law
use Rattle.account_laws.specs.PasswordsStaySecret.{AreAlike, same, requests, releases, GoAlike, answers_in, gives_password}
use Rattle.account_laws.specs.StandsAsTold.{AccountStands}
use Rattle.account_laws.proofs.AsTold.{leaves_as_told}
use Rattle.account_rules.specs.Devices.{Devices}
use Rattle.account_state.specs.Rooms.{RoomValue}

-- ---- one event

-- two accounts that differ in passwords alone
abbrev pub AreRoomsAlike : (a b : Option RoomValue) → Type 0
AreRoomsAlike None None = Unit {0}
AreRoomsAlike (Some a) (Some b) = hidden_room a ≡ hidden_room b
AreRoomsAlike _ _ = ⊥

-- what is answered, and what is left
abbrev reply_to : Option RoomValue → Devices → ℕ → PlainEvent → Reply
reply_to room devices now (OfAccount account it) = (answered room devices now (OfAccount account it)).reply
reply_to room devices now (OfDevice device it) = (device_answered devices (OfDevice device it)).reply

abbrev room_after : Option RoomValue → Devices → ℕ → PlainEvent → Option RoomValue
room_after room devices now (OfAccount account it) = (answered room devices now (OfAccount account it)).room
room_after room devices now (OfDevice device it) = room

abbrev devices_after : Devices → PlainEvent → Devices
devices_after devices (OfAccount account it) = devices
devices_after devices (OfDevice device it) = (device_answered devices (OfDevice device it)).devices

record GoesAlike (a b : Option RoomValue) (devices : Devices) (now : ℕ) (x y : PlainEvent) : Type 0 where
  pub reply : reply_to a devices now x ≡ reply_to b devices now y
  pub rooms : AreRoomsAlike (room_after a devices now x) (room_after b devices now y)
  pub known : devices_after devices x ≡ devices_after devices y

-- by an open account
by_steps : (a b : RoomValue) (devices : Devices) (now : ℕ) (account : List ℕ) (x y : AccountEvent) → StepAlike (answered_open a devices now (OfAccount account x)) (answered_open b devices now (OfAccount account y))
    → GoesAlike (Some a) (Some b) devices now (OfAccount account x) (OfAccount account y)
by_steps a b devices now account x y alike = record { reply = ap (λ (step : Step). step.reply) alike; rooms = ap (λ (step : Step). step.room) alike; known = refl }

same_event : (a b : RoomValue) (devices : Devices) (now : ℕ) (account : List ℕ) (event : AccountEvent) → is_release event ≡ false → hidden_room a ≡ hidden_room b
    → StepAlike (answered_open a devices now (OfAccount account event)) (answered_open b devices now (OfAccount account event))
same_event a b devices now account event other alike =
    sym (answered_alike a devices now account event other)
    ∙ ap (λ (room : RoomValue). hidden_step (answered_open room devices now (OfAccount account event))) alike
    ∙ answered_alike b devices now account event other

-- by one that is not
both_unopened : (short other : Bool) → AreRoomsAlike (unopened_answer short).room (unopened_answer other).room
both_unopened true true = tt
both_unopened true false = tt
both_unopened false true = tt
both_unopened false false = tt

unopened_same : (devices : Devices) (now : ℕ) (account : List ℕ) (event : AccountEvent) → GoesAlike None None devices now (OfAccount account event) (OfAccount account event)
unopened_same devices now account Open = record { reply = refl; rooms = refl; known = refl }
unopened_same devices now account (Ipp body) = record { reply = refl; rooms = both_unopened (nat_lt (length body) header_length) (nat_lt (length body) header_length); known = refl }
unopened_same devices now account _ = record { reply = refl; rooms = tt; known = refl }

none_given : (account : List ℕ) (event : AccountEvent) → gives_password (OfAccount account event) ≡ false → is_release event ≡ false
none_given account (Release device number password impressions) none = absurd (true≢false none)
none_given account _ none = refl

each_alike : (told other : AccountTold) (a b : Option RoomValue) (devices : Devices) (now : ℕ) (x y : PlainEvent) → AccountStands told a → AccountStands other b → AreRoomsAlike a b → AreAlike told other x y → GoesAlike a b devices now x y
each_alike told other None None devices now _ _ stands too alike (same (OfAccount account event) none) = unopened_same devices now account event
each_alike told other None None devices now _ _ stands too alike (same (OfDevice device it) none) = record { reply = refl; rooms = tt; known = refl }
each_alike told other None None devices now _ _ stands too alike (requests account p q bodies) = record {
  reply = ap (λ (short : Bool). (unopened_answer short).reply) bodies.short;
  rooms = both_unopened (nat_lt (length p) header_length) (nat_lt (length q) header_length);
  known = refl;
}
each_alike told other None None devices now _ _ stands too alike (releases account device number impressions given tried agree) = record { reply = refl; rooms = tt; known = refl }
each_alike told other (Some a) (Some b) devices now _ _ stands too alike (same (OfAccount account event) none) = by_steps a b devices now account event event (same_event a b devices now account event (none_given account event none) alike)
each_alike told other (Some a) (Some b) devices now _ _ stands too alike (same (OfDevice device it) none) = record { reply = refl; rooms = alike; known = refl }
each_alike told other (Some a) (Some b) devices now _ _ stands too alike (requests account p q bodies) =
    by_steps a b devices now account (Ipp p) (Ipp q) (same_event a b devices now account (Ipp p) refl alike ∙ bodies_alike b devices account now p q bodies)
each_alike told other (Some a) (Some b) devices now _ _ stands too alike (releases account device number impressions given tried agree) =
    by_steps a b devices now account (Release device number given impressions) (Release device number tried impressions) (guesses_alike told other a b stands too alike devices now account device number impressions given tried agree)
each_alike told other None (Some b) devices now x y stands too alike events = absurd alike
each_alike told other (Some a) None devices now x y stands too alike events = absurd alike

-- ---- a life

-- the first exchange, and what leads on
record Leads (room : Option RoomValue) (devices : Devices) (now : ℕ) (event : PlainEvent) (said : Reply) (life : Life) (left : Option RoomValue) (known : Devices) : Type 0 where
  pub reply : said ≡ reply_to room devices now event
  pub rest : LeadsTo (room_after room devices now event) (devices_after devices event) life left known
  pub first : LeadsTo room devices (((now, event), said) ∷ []) (room_after room devices now event) (devices_after devices event)

leads : (room : Option RoomValue) (devices : Devices) (now : ℕ) (event : PlainEvent) (said : Reply) (life : Life) (left : Option RoomValue) (known : Devices) → LeadsTo room devices (((now, event), said) ∷ life) left known → Leads room devices now event said life left known
leads room devices now (OfAccount account it) said life left known to = record { reply = to.0; rest = to.1; first = (to.0, (refl, refl)) }
leads room devices now (OfDevice device it) said life left known to = record { reply = to.0; rest = to.1; first = (to.0, (refl, refl)) }

-- what both are told, and what both leave
pub record GoneAlike (life another : Life) (left other : Option RoomValue) (known others : Devices) : Type 0 where
  pub answers : answers_in life ≡ answers_in another
  pub rooms : AreRoomsAlike left other
  pub devices : known ≡ others

go : (life another past old : Life) (a b left other : Option RoomValue) (devices known others : Devices) → IsLife past a devices → IsLife old b devices → AreRoomsAlike a b → LeadsTo a devices life left known → LeadsTo b devices another other others
    → GoAlike (account_told past) (account_told old) life another → GoneAlike life another left other known others
go [] [] past old a b left other devices known others is was alike to on go_alike = record {
  answers = refl;
  rooms = subst (λ (room : Option RoomValue). AreRoomsAlike room other) (sym to.0) (subst (AreRoomsAlike a) (sym on.0) alike);
  devices = to.1 ∙ sym on.1;
}
go [] (y ∷ another) past old a b left other devices known others is was alike to on go_alike = absurd go_alike
go (x ∷ life) [] past old a b left other devices known others is was alike to on go_alike = absurd go_alike
go (((now, event), said) ∷ life) (((then, happening), told) ∷ another) past old a b left other devices known others is was alike to on go_alike =
    let x : Exchange = ((now, event), said) in
    let y : Exchange = ((now, happening), told) in
    let one = leads a devices now event said life left known to in
    let two = leads b devices now happening told another other others (subst (λ (moment : ℕ). LeadsTo b devices (((moment, happening), told) ∷ another) other others) (sym go_alike.0) on) in
    let step = each_alike (account_told past) (account_told old) a b devices now event happening (leaves_as_told past a devices is).account (leaves_as_told old b devices was).account alike go_alike.1 in
    let later = devices_after devices event in
    let more : IsLife (past ++ x ∷ []) (room_after a devices now event) later = leads_on past (x ∷ []) None a (room_after a devices now event) empty devices later is one.first in
    let more_too : IsLife (old ++ y ∷ []) (room_after b devices now happening) later = subst (λ (d : Devices). IsLife (old ++ y ∷ []) (room_after b devices now happening) d) (sym step.known) (leads_on old (y ∷ []) None b (room_after b devices now happening) empty devices (devices_after devices happening) was two.first) in
    let rest = go life another (past ++ x ∷ []) (old ++ y ∷ []) (room_after a devices now event) (room_after b devices now happening) left other later known others more more_too step.rooms one.rest
    (subst (λ (d : Devices). LeadsTo (room_after b devices now happening) d another other others) (sym step.known) two.rest)
    (subst (λ (t : AccountTold). GoAlike t (account_told (old ++ y ∷ [])) life another) (sym (told_more past x))
    (subst (λ (t : AccountTold). GoAlike (after_exchange (account_told past) x) t life another) (sym (told_more old y))
    (subst (λ (moment : ℕ). GoAlike (after_exchange (account_told past) x) (after_exchange (account_told old) ((moment, happening), told)) life another) (sym go_alike.0) go_alike.2))) in
    record { answers = λ i. (one.reply ∙ step.reply ∙ sym two.reply) i ∷ rest.answers i; rooms = rest.rooms; devices = rest.devices }

pub gone_alike : (life another : Life) (room other : Option RoomValue) (devices known : Devices) → IsLife life room devices → IsLife another other known → GoAlike nothing_told nothing_told life another → GoneAlike life another room other devices known
gone_alike life another room other devices known is was alike = go life another [] [] None None room other empty devices known (refl, refl) (refl, refl) tt is was alike

pub passwords_stay_secret : law.PasswordsStaySecret
passwords_stay_secret life another room other devices known is was alike = (gone_alike life another room other devices known is was alike).answers
