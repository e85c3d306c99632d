-- An account's life goes on with what is told, and stays where the file is opened.
use Rattle.std.proofs.Common.{◌≡◌, ℕ, Bool, true, false, ◌||◌, cond, bytes_eq, List, [], ◌∷◌, ◌++◌, Option, None, Result, Ok, Err, refl, sym, ap, subst, ◌∙◌, append-nil, append_assoc}
use Rattle.std.specs.FinMap.{empty}
use Rattle.sqlite.specs.Held.{Held, state}
use Rattle.sqlite_trees.specs.declared.store.Store.{Ghosts}
use Rattle.account_machine.specs.DeviceEvents.{device_answered}
use Rattle.account_machine.specs.Events.{Timed, OfAccount, OfDevice}
use Rattle.account_machine.specs.Machine.{answered}
use Rattle.account_machine.specs.declared.event.Reply.{Reply}
use Rattle.account_lives.proofs.LifeLemmas.{lives_go_on}
use Rattle.account_lives.specs.Lives.{LeadsTo, Life}
use Rattle.account_rules.specs.Devices.{Devices}
use Rattle.account_state.specs.Rooms.{RoomValue}
use Rattle.store_events.specs.Applied.{Applies}
use Rattle.store_rounds.specs.declared.fault.StoreFault.{StoreFault}
use Rattle.rows_tables.proofs.AgreedRows.{still_devices, still_holds}
use Rattle.room_serve.specs.declared.outcome.Outcome.{Outcome}
use Rattle.room_serve.specs.declared.outcome.Outcome.TheVariants.{Answered, Failed}
use Rattle.room_serve.specs.Alone.{Alone, DevicesAlone, alone, change_on, devices_alone}
use Rattle.room_serve.specs.LivesInFiles.{ListsJoin, LivesAreMigrated, LivesAreOpened, LivesBegin, LivesGoOnInLists, LivesGoOnInRuns, MessagesAreEvents, exchanges_of}
use Rattle.room_serve.specs.Outcomes.{answered_of, outcome_of, replies_to, result_of}
use Rattle.room_serve.specs.Own.{is_of, is_of_device, of_devices, own}
use Rattle.room_serve.specs.Runs.{AreApplied}
use Rattle.room_serve.proofs.LifeLemmas.{goes_on}
use Rattle.room_serve.proofs.RunLemmas.{SoFar, begins, one_more}

-- ---- the devices' machine, whatever it had told before

abbrev devices_behind : List Reply → DevicesAlone → DevicesAlone
devices_behind said machine = record { replies = said ++ machine.replies; devices = machine.devices }

changes_behind : (said : List Reply) (devices : Devices) (events : List Timed) → change_on (record { replies = said; devices = devices }) events ≡ devices_behind said (devices_alone devices events)
changes_behind said devices [] = ap (λ (replies : List Reply). let machine : DevicesAlone = record { replies = replies; devices = devices } in machine) (sym (append-nil said))
changes_behind said devices (e ∷ events) =
    let answer = device_answered devices e.1 in
    let rest = devices_alone answer.devices events in
    changes_behind (said ++ answer.reply ∷ []) answer.devices events
    ∙ ap (λ (replies : List Reply). let machine : DevicesAlone = record { replies = replies; devices = rest.devices } in machine) (append_assoc said (answer.reply ∷ []) rest.replies)
    ∙ ap (devices_behind said) (sym (changes_behind (answer.reply ∷ []) answer.devices events))

first_same : {A : Type 0} (x y : A) (xs ys : List A) → x ∷ xs ≡ y ∷ ys → x ≡ y
first_same x y xs ys same = cc

rest_same : {A : Type 0} (x y : A) (xs ys : List A) → x ∷ xs ≡ y ∷ ys → xs ≡ ys
rest_same x y xs ys same = cc

-- ---- what is told leads to what the account's machine leaves

abbrev LeadsToAlone : Option RoomValue → Devices → Life → Alone → Type 0
LeadsToAlone room devices life machine = LeadsTo room devices life machine.room machine.devices

told_leads : (name : List ℕ) (events : List Timed) (outcomes : List Outcome) (room : Option RoomValue) (devices : Devices)
    → replies_to (is_of name) events outcomes ≡ (alone room devices (own name (answered_of events outcomes))).replies
    → replies_to is_of_device events outcomes ≡ (devices_alone devices (of_devices (answered_of events outcomes))).replies
    → LeadsToAlone room devices (exchanges_of name events outcomes) (alone room devices (own name (answered_of events outcomes)))
told_leads name [] outcomes room devices mine theirs = (refl, refl)
told_leads name (e ∷ events) [] room devices mine theirs = (refl, refl)
told_leads name (e ∷ events) (Failed fault ∷ outcomes) room devices mine theirs = told_leads name events outcomes room devices mine theirs
told_leads name ((now, OfDevice device it) ∷ events) (Answered reply ∷ outcomes) room devices mine theirs =
    let answer = device_answered devices (OfDevice device it) in
    let rest = devices_alone answer.devices (of_devices (answered_of events outcomes)) in
    let all : reply ∷ replies_to is_of_device events outcomes ≡ answer.reply ∷ rest.replies = theirs ∙ ap (λ (machine : DevicesAlone). machine.replies) (changes_behind (answer.reply ∷ []) answer.devices (of_devices (answered_of events outcomes))) in
    (first_same reply answer.reply _ _ all, told_leads name events outcomes room answer.devices mine (rest_same reply answer.reply _ _ all))
told_leads name ((now, OfAccount account it) ∷ events) (Answered reply ∷ outcomes) room devices mine theirs =
    let e : Timed = (now, OfAccount account it) in
    (elim (bytes_eq account name) as (λ (b : Bool).
    cond b (reply ∷ replies_to (is_of name) events outcomes) (replies_to (is_of name) events outcomes)
    ≡ (alone room devices (cond (b || false) (e ∷ own name (answered_of events outcomes)) (own name (answered_of events outcomes)))).replies
    → LeadsToAlone room devices (cond (b || false) ((e, reply) ∷ exchanges_of name events outcomes) (exchanges_of name events outcomes)) (alone room devices (cond (b || false) (e ∷ own name (answered_of events outcomes)) (own name (answered_of events outcomes))))) [
      | true ↦ λ its.
          let answer = answered room devices now (OfAccount account it) in
          let rest = alone answer.room devices (own name (answered_of events outcomes)) in
          let goes = goes_on room devices now account it (own name (answered_of events outcomes)) in
          let all : reply ∷ replies_to (is_of name) events outcomes ≡ answer.reply ∷ rest.replies = its ∙ ap (λ (machine : Alone). machine.replies) goes in
          subst (LeadsToAlone room devices ((e, reply) ∷ exchanges_of name events outcomes)) (sym goes)
          (first_same reply answer.reply _ _ all, told_leads name events outcomes answer.room devices (rest_same reply answer.reply _ _ all) theirs)
      | false ↦ λ its. told_leads name events outcomes room devices its theirs
    ]) mine

pub lives_go_on_in_runs : LivesGoOnInRuns
lives_go_on_in_runs events outcomes old is_open new runs changes name life lived =
    let mine = runs name lived.room lived.devices (lived.rows refl) (lived.device_rows refl) in
    let theirs = changes lived.devices (lived.device_rows refl) in
    let machine = alone lived.room lived.devices (own name (answered_of events outcomes)) in
    record {
      room = machine.room;
      devices = machine.devices;
      is_life = lives_go_on life (exchanges_of name events outcomes) lived.room machine.room lived.devices machine.devices lived.is_life (told_leads name events outcomes lived.room lived.devices mine.replies theirs.replies);
      rows = mine.rows;
      device_rows = mine.devices;
    }

-- ---- lists that were applied

same_outcome : (outcome : Outcome) → outcome_of (result_of outcome) ≡ outcome
same_outcome (Answered reply) = refl
same_outcome (Failed fault) = refl

module _ {S : Type 0} (store : Ghosts S) where
  -- each is one more of the list so far
  pub lists_so_far : (more : List Timed) (mores : List Outcome) (events : List Timed) (outcomes : List Outcome) (old mid new : Held S) → SoFar events outcomes (state store old) (state store mid) → AreApplied store more mores mid new
      → SoFar (events ++ more) (outcomes ++ mores) (state store old) (state store new)
  lists_so_far [] [] events outcomes old mid new so_far is = rw (append-nil events, append-nil outcomes) (subst (λ (held : Held S). SoFar events outcomes (state store old) (state store held)) (sym is) so_far)
  lists_so_far [] (o ∷ mores) events outcomes old mid new so_far is = absurd is
  lists_so_far (e ∷ more) [] events outcomes old mid new so_far is = absurd is
  lists_so_far (e ∷ more) (o ∷ mores) events outcomes old mid new so_far (next, applied, rest) =
      let grown : SoFar (events ++ e ∷ []) (outcomes ++ o ∷ []) (state store old) (state store next) =
      subst (λ (x : Outcome). SoFar (events ++ e ∷ []) (outcomes ++ x ∷ []) (state store old) (state store next)) (same_outcome o) (one_more events outcomes e (state store old) (state store mid) (state store next) (result_of o) so_far applied) in
      let on = lists_so_far more mores (events ++ e ∷ []) (outcomes ++ o ∷ []) old next new grown rest in
      rw (append_assoc events (e ∷ []) more, append_assoc outcomes (o ∷ []) mores) at on

  pub lists_run : (events : List Timed) (outcomes : List Outcome) (old new : Held S) → AreApplied store events outcomes old new → SoFar events outcomes (state store old) (state store new)
  lists_run events outcomes old new applied = lists_so_far events outcomes [] [] old old new (begins (state store old)) applied

  pub lives_go_on_in_lists : LivesGoOnInLists store
  lives_go_on_in_lists events outcomes old new applied clean has name life lived =
      let shows = (lists_run events outcomes old new applied).shows in
      lives_go_on_in_runs events outcomes (state store old).now (state store new).is_open (state store new).now (shows.alone clean has) (shows.devices clean has) name life lived

  pub one_applied : (e : Timed) (old new : Held S) (told : Result Reply StoreFault) → Applies e.0 e.1 (state store old) (state store new) told → AreApplied store (e ∷ []) (outcome_of told ∷ []) old new
  one_applied e old new (Ok reply) applied = (new, applied, refl)
  one_applied e old new (Err fault) applied = (new, applied, refl)

  pub messages_are_events : MessagesAreEvents store
  messages_are_events now account body old new told applied = one_applied (now, _) old new told applied

  pub lists_join : ListsJoin store
  lists_join [] second [] seconds old mid new first rest = subst (λ (held : Held S). AreApplied store second seconds held new) first rest
  lists_join [] second (o ∷ firsts) seconds old mid new first rest = absurd first
  lists_join (e ∷ more) second [] seconds old mid new first rest = absurd first
  lists_join (e ∷ more) second (o ∷ firsts) seconds old mid new (next, applied, first) rest = (next, applied, lists_join more second firsts seconds next mid new first rest)

-- ---- files

pub lives_begin : LivesBegin
lives_begin db is name = record { room = None; devices = empty; is_life = (refl, refl); rows = λ _. is.no_account name; device_rows = λ _. is.no_device }

module _ {S : Type 0} (store : Ghosts S) where
  pub lives_are_opened : LivesAreOpened store
  lives_are_opened old new opens devices clean numbered name life lived = record {
    is_life = record {
      room = lived.room;
      devices = lived.devices;
      is_life = lived.is_life;
      rows = λ _. still_holds name (state store old).now (state store new).now (opens.rows clean name) lived.room (lived.rows refl);
      device_rows = λ _. still_devices (state store old).now (state store new).now (devices clean) lived.devices (lived.device_rows refl);
    };
    schema = opens.has_schema clean numbered;
  }

  pub lives_are_migrated : LivesAreMigrated store
  lives_are_migrated old new opens devices clean numbered name life lived = record {
    is_life = record {
      room = lived.room;
      devices = lived.devices;
      is_life = lived.is_life;
      rows = λ _. still_holds name (state store old).now (state store new).now (opens.rows clean name) lived.room lived.rows;
      device_rows = λ _. devices clean lived.devices lived.device_rows;
    };
    schema = opens.has_schema clean numbered;
  }
