-- A list of events over one store, one after another.
use Rattle.std.proofs.Common.{◌≡◌, ◌≤◌, ℕ, ◌+◌, Bool, true, false, cond, bytes_eq, List, [], ◌∷◌, ◌++◌, Option, Result, Ok, Err, IsTrue, length, filter, refl, sym, ap, subst, ◌∙◌, inl, inr, arith}
use Rattle.std.proofs.lemmas.Bool.{cases_Bool}
use Rattle.std.proofs.lemmas.List.{append-nil, length-append}
use Rattle.std.proofs.lemmas.List.Elements.{filter-append}
use Rattle.sqlite_trees.specs.View.{doubt}
use Rattle.sqlite_trees.specs.declared.store.Store.{Ghosts}
use Rattle.sqlite.specs.Effect.{Database}
use Rattle.sqlite.specs.Held.{Held, state}
use Rattle.sqlite.specs.State.{State, HasCleanDisk}
use Rattle.std.proofs.lemmas.Slice.Eq.{bytes_eq-Decides}
use Rattle.account_machine.specs.Events.{PlainEvent, AccountEvent, Timed, OfAccount, OfDevice}
use Rattle.account_machine.specs.Machine.{answered}
use Rattle.account_machine.specs.declared.event.Reply.{Reply}
use Rattle.store_events.specs.Applied.{Applies, IsAnswered}
use Rattle.account_rules.specs.Devices.{Devices}
use Rattle.account_state.specs.Rooms.{RoomValue}
use Rattle.store_rounds.specs.declared.fault.StoreFault.{StoreFault}
use Rattle.rows_tables.proofs.AgreedRows.{still_devices, still_holds}
use Rattle.rows_tables.proofs.Going.{goes_on}
use Rattle.rows_tables.specs.Accounts.{AgreeOnRows, Holds}
use Rattle.rows_tables.specs.Calls.{KeepsConnection}
use Rattle.rows_tables.specs.Devices.{AgreeOnDevices, HoldsDevices}
use Rattle.rows_tables.specs.Keyed.{HasSchema}
use Rattle.rows_tables.specs.Tables.{meta}
use Rattle.room_serve.specs.declared.outcome.Outcome.{Outcome}
use Rattle.room_serve.specs.Own.{is_of, is_of_device, of_devices, own}
use Rattle.room_serve.specs.Alone.{Alone, DevicesAlone, alone, answer_on, change_on, devices_alone}
use Rattle.room_serve.specs.Outcomes.{answered_of, outcome_of, replies_to}
use Rattle.room_serve.specs.Runs.{AreAlone, AreApplied, IsAlone, LeavesTheRest, RunsAlone, RunsDevices}
use Rattle.room_serve.proofs.Grown.{alone_more, answered_more, devices_more, replies_more}
use Rattle.room_serve.proofs.Short.{short_or_not, short_reply}

-- ---- one event, as the store answers it

-- what is there after it, and what has been told by then
record IsNext (is_open : Bool) (new : Database) (name : List ℕ) (told : List Reply) (machine : Alone) : Type 0 where
  pub replies : told ≡ machine.replies
  pub rows : IsTrue is_open → Holds new name machine.room
  pub devices : IsTrue is_open → HoldsDevices new machine.devices

record AreNext (is_open : Bool) (new : Database) (told : List Reply) (machine : DevicesAlone) : Type 0 where
  pub replies : told ≡ machine.replies
  pub devices : IsTrue is_open → HoldsDevices new machine.devices

as_told : (is_open : Bool) (new : Database) (name : List ℕ) (told due : List Reply) (machine other : Alone) → told ≡ due → machine ≡ other → IsNext is_open new name due other → IsNext is_open new name told machine
as_told is_open new name told due machine other same alike next = record {
  replies = same ∙ next.replies ∙ ap (λ (m : Alone). m.replies) (sym alike);
  rows = λ shown. subst (λ (m : Alone). Holds new name m.room) (sym alike) (next.rows shown);
  devices = λ shown. subst (λ (m : Alone). HoldsDevices new m.devices) (sym alike) (next.devices shown);
}

-- the machine after an event of the account
abbrev told : Alone → ℕ → PlainEvent → Alone
told machine now e = record {
  replies = machine.replies ++ (answered machine.room machine.devices now e).reply ∷ [];
  room = (answered machine.room machine.devices now e).room;
  devices = machine.devices;
}

-- what the account of this name is told and has of an event
abbrev AnswersTo : ℕ → PlainEvent → Database → Database → Reply → List ℕ → Type 0
AnswersTo now e old new reply name = (room : Option RoomValue) (devices : Devices) → Holds old name room → HoldsDevices old devices → (reply ≡ (answered room devices now e).reply) × Holds new name (answered room devices now e).room

its_own : (name : List ℕ) (now : ℕ) (account : List ℕ) (it : AccountEvent) → bytes_eq account name ≡ true → own name ((now, OfAccount account it) ∷ []) ≡ (now, OfAccount account it) ∷ []
its_own name now account it its = rw its refl

anothers : (name : List ℕ) (now : ℕ) (account : List ℕ) (it : AccountEvent) → bytes_eq account name ≡ false → own name ((now, OfAccount account it) ∷ []) ≡ []
anothers name now account it isnt = rw isnt refl

pub next_schema : (now : ℕ) (e : PlainEvent) (old new : State) (r : Result Reply StoreFault) → Applies now e old new r → HasCleanDisk new → (IsTrue old.is_open → HasSchema old.now) → IsTrue new.is_open → HasSchema new.now
next_schema now e old new (Ok reply) applied clean had is = (applied.answered clean (had (applied.connection.back clean is))).is_done.schema
next_schema now e old new (Err fault) applied clean had is =
    let was = had (applied.connection.back clean is) in
    subst HasSchema (sym (applied.unchanged clean was is)) was

next_alone : (name : List ℕ) (now : ℕ) (e : PlainEvent) (old new : State) (r : Result Reply StoreFault) → Applies now e old new r → HasCleanDisk new → (IsTrue old.is_open → HasSchema old.now)
    → (machine : Alone) → (IsTrue old.is_open → Holds old.now name machine.room) → (IsTrue old.is_open → HoldsDevices old.now machine.devices)
    → IsNext new.is_open new.now name (machine.replies ++ replies_to (is_of name) ((now, e) ∷ []) (outcome_of r ∷ [])) (answer_on machine (own name (answered_of ((now, e) ∷ []) (outcome_of r ∷ []))))
next_alone name now e old new (Err fault) applied clean had machine holds has = record {
  replies = append-nil machine.replies;
  rows = λ is. let was = applied.connection.back clean is in subst (λ (db : Database). Holds db name machine.room) (sym (applied.unchanged clean (had was) is)) (holds was);
  devices = λ is. let was = applied.connection.back clean is in subst (λ (db : Database). HoldsDevices db machine.devices) (sym (applied.unchanged clean (had was) is)) (has was);
}
next_alone name now (OfDevice device it) old new (Ok reply) applied clean had machine holds has = record {
  replies = append-nil machine.replies;
  rows = λ shown. let was = applied.connection.back clean shown in still_holds name old.now new.now ((applied.answered clean (had was)).is_done.changes.alone.accounts name) machine.room (holds was);
  devices = λ shown. let was = applied.connection.back clean shown in (applied.answered clean (had was)).is_done.changes.rows machine.devices (has was);
}
next_alone name now (OfAccount account it) old new (Ok reply) applied clean had machine holds has =
    let e = OfAccount account it in
    let answers : IsTrue old.is_open → IsAnswered now e old.now new.now reply = λ was. applied.answered clean (had was) in
    elim (cases_Bool (bytes_eq account name)) [
      | inl its ↦
          let own_answers : IsTrue old.is_open → AnswersTo now e old.now new.now reply name = λ was. subst (λ (n : List ℕ). AnswersTo now e old.now new.now reply n) ((bytes_eq-Decides account name).0 its)
          (λ room devices held holds. ((answers was).is_told room devices held holds, (answers was).is_done.changes.rows room devices held holds)) in
          as_told new.is_open new.now name _ (machine.replies ++ reply ∷ []) _ (told machine now e)
          (ap (λ b. machine.replies ++ cond b (reply ∷ []) []) its)
          (ap (answer_on machine) (its_own name now account it its))
          (record {
            replies = ap (λ (said : Reply). machine.replies ++ said ∷ []) (elim (short_or_not account it) [
              | inl short ↦ applied.short short ∙ sym (short_reply machine.room machine.devices now account it short)
              | inr long ↦ let was = applied.asked long clean in (own_answers was machine.room machine.devices (holds was) (has was)).0
            ]);
            rows = λ shown. let was = applied.connection.back clean shown in (own_answers was machine.room machine.devices (holds was) (has was)).1;
            devices = λ shown. let was = applied.connection.back clean shown in still_devices old.now new.now (answers was).is_done.changes.alone.devices machine.devices (has was);
          })
      | inr isnt ↦ as_told new.is_open new.now name _ machine.replies _ machine
          (ap (λ b. machine.replies ++ cond b (reply ∷ []) []) isnt ∙ append-nil machine.replies)
          (ap (answer_on machine) (anothers name now account it isnt))
          (record {
            replies = refl;
            rows = λ shown. let was = applied.connection.back clean shown in still_holds name old.now new.now ((answers was).is_done.changes.alone.others name (λ same. let is = (bytes_eq-Decides account name).1 (sym same) in cc)) machine.room (holds was);
            devices = λ shown. let was = applied.connection.back clean shown in still_devices old.now new.now (answers was).is_done.changes.alone.devices machine.devices (has was);
          })
    ]

next_devices : (now : ℕ) (e : PlainEvent) (old new : State) (r : Result Reply StoreFault) → Applies now e old new r → HasCleanDisk new → (IsTrue old.is_open → HasSchema old.now)
    → (machine : DevicesAlone) → (IsTrue old.is_open → HoldsDevices old.now machine.devices)
    → AreNext new.is_open new.now (machine.replies ++ replies_to is_of_device ((now, e) ∷ []) (outcome_of r ∷ [])) (change_on machine (of_devices (answered_of ((now, e) ∷ []) (outcome_of r ∷ []))))
next_devices now e old new (Err fault) applied clean had machine has = record {
  replies = append-nil machine.replies;
  devices = λ is. let was = applied.connection.back clean is in subst (λ (db : Database). HoldsDevices db machine.devices) (sym (applied.unchanged clean (had was) is)) (has was);
}
next_devices now (OfDevice device it) old new (Ok reply) applied clean had machine has = record {
  replies = ap (λ (said : Reply). machine.replies ++ said ∷ []) (let was = applied.asked (λ short. short) clean in (applied.answered clean (had was)).is_told machine.devices (has was));
  devices = λ shown. let was = applied.connection.back clean shown in (applied.answered clean (had was)).is_done.changes.rows machine.devices (has was);
}
next_devices now (OfAccount account it) old new (Ok reply) applied clean had machine has = record {
  replies = append-nil machine.replies;
  devices = λ shown. let was = applied.connection.back clean shown in still_devices old.now new.now (applied.answered clean (had was)).is_done.changes.alone.devices machine.devices (has was);
}

-- ---- what it leaves as it was

same_rows : (name : List ℕ) (a b : Database) → b ≡ a → AgreeOnRows name a b
same_rows name a b same = subst (AgreeOnRows name a) (sym same) (record { same_account = refl; same_jobs = λ number. refl; same_documents = λ job number. refl; same_grants = λ month. refl })

same_devices : (a b : Database) → b ≡ a → AgreeOnDevices a b
same_devices a b same = subst (AgreeOnDevices a) (sym same) (record { same_devices = λ name. refl; same_rates = λ name. refl })

next_rest : (now : ℕ) (e : PlainEvent) (old new : State) (r : Result Reply StoreFault) → Applies now e old new r → HasCleanDisk new → (IsTrue old.is_open → HasSchema old.now) → IsTrue new.is_open
    → LeavesTheRest ((now, e) ∷ []) (outcome_of r ∷ []) old.now new.is_open new.now
next_rest now e old new (Err fault) applied clean had shown =
    let same = applied.unchanged clean (had (applied.connection.back clean shown)) shown in
    record { accounts = λ name none. same_rows name old.now new.now same; devices = λ none. same_devices old.now new.now same; version = ap (λ (db : Database). db.trees meta.tree) same }
next_rest now (OfDevice device it) old new (Ok reply) applied clean had shown =
    let alone = (applied.answered clean (had (applied.connection.back clean shown))).is_done.changes.alone in
    record { accounts = λ name none. alone.accounts name; devices = λ none. absurd (let no : ⊥ = cc in no); version = alone.version }
next_rest now (OfAccount account it) old new (Ok reply) applied clean had shown =
    let alone = (applied.answered clean (had (applied.connection.back clean shown))).is_done.changes.alone in
    record {
      accounts = λ name none. elim (cases_Bool (bytes_eq account name)) [
        | inl its ↦ let some : (now, OfAccount account it) ∷ [] ≡ [] = sym (ap (λ b. cond b ((now, OfAccount account it) ∷ []) []) its) ∙ none in absurd (let no : ⊥ = cc in no)
        | inr isnt ↦ alone.others name (λ same. let is = (bytes_eq-Decides account name).1 (sym same) in cc)
      ];
      devices = λ none. alone.devices;
      version = alone.version;
    }

agree_on : (name : List ℕ) (a b c : Database) → AgreeOnRows name a b → AgreeOnRows name b c → AgreeOnRows name a c
agree_on name a b c one two = record {
  same_account = two.same_account ∙ one.same_account;
  same_jobs = λ number. two.same_jobs number ∙ one.same_jobs number;
  same_documents = λ job number. two.same_documents job number ∙ one.same_documents job number;
  same_grants = λ month. two.same_grants month ∙ one.same_grants month;
}

rest_both : (events : List Timed) (outcomes : List Outcome) (e : Timed) (o : Outcome) (old mid new : Database) (mid_open is_open : Bool) → length outcomes ≡ length events
    → LeavesTheRest events outcomes old mid_open mid → LeavesTheRest (e ∷ []) (o ∷ []) mid is_open new → LeavesTheRest (events ++ e ∷ []) (outcomes ++ o ∷ []) old is_open new
rest_both events outcomes e o old mid new mid_open is_open same before next = record {
  accounts = λ name none. let parts = none_of_both _ _ (parted (λ (x : Timed). is_of name x.1) none) in agree_on name old mid new (before.accounts name parts.0) (next.accounts name parts.1);
  devices = λ none.
      let parts = none_of_both _ _ (parted (λ (x : Timed). is_of_device x.1) none) in
      let first = before.devices parts.0 in
      let second = next.devices parts.1 in
      record { same_devices = λ name. second.same_devices name ∙ first.same_devices name; same_rates = λ name. second.same_rates name ∙ first.same_rates name };
  version = next.version ∙ before.version;
}
  where
    none_of_both : (xs ys : List Timed) → xs ++ ys ≡ [] → (xs ≡ []) × (ys ≡ [])
    none_of_both [] ys none = (refl, none)
    none_of_both (x ∷ xs) ys none = let no : ⊥ = cc in absurd no

    parted : (p : Timed → Bool) → filter p (answered_of (events ++ e ∷ []) (outcomes ++ o ∷ [])) ≡ [] → filter p (answered_of events outcomes) ++ filter p (answered_of (e ∷ []) (o ∷ [])) ≡ []
    parted p none = sym (ap (filter p) (answered_more events outcomes e o same) ∙ filter-append p (answered_of events outcomes) (answered_of (e ∷ []) (o ∷ []))) ∙ none

-- ---- event by event

pub applied_more : {S : Type 0} (store : Ghosts S) (events : List Timed) (outcomes : List Outcome) (e : Timed) (old mid new : Held S) (r : Result Reply StoreFault) → AreApplied store events outcomes old mid
    → Applies e.0 e.1 (state store mid) (state store new) r → AreApplied store (events ++ e ∷ []) (outcomes ++ outcome_of r ∷ []) old new
applied_more store [] [] e old mid new (Ok reply) before applied = (new, subst (λ held. Applies e.0 e.1 (state store held) (state store new) (Ok reply)) before applied, refl)
applied_more store [] [] e old mid new (Err fault) before applied = (new, subst (λ held. Applies e.0 e.1 (state store held) (state store new) (Err fault)) before applied, refl)
applied_more store [] (o ∷ outcomes) e old mid new r before applied = absurd before
applied_more store (x ∷ events) [] e old mid new r before applied = absurd before
applied_more store (x ∷ events) (o ∷ outcomes) e old mid new r (next, first, rest) applied = (next, first, applied_more store events outcomes e next mid new r rest applied)

-- ---- some events, and one more

grow : {X Y : Type 0} (xs : List X) (ys : List Y) (x : X) (y : Y) → length xs ≡ length ys → length (xs ++ x ∷ []) ≡ length (ys ++ y ∷ [])
grow xs ys x y same = length-append xs (x ∷ []) ∙ ap (λ n. n + 1) same ∙ sym (length-append ys (y ∷ []))

-- what is seen after some events
pub record Shows (events : List Timed) (outcomes : List Outcome) (old new : State) : Type 0 where
  pub each : length outcomes ≡ length events
  pub schema : HasCleanDisk new → HasSchema old.now → IsTrue new.is_open → HasSchema new.now
  pub alone : HasCleanDisk new → HasSchema old.now → RunsAlone events outcomes old.now new.is_open new.now
  pub devices : HasCleanDisk new → HasSchema old.now → RunsDevices events outcomes old.now new.is_open new.now
  pub rest : HasCleanDisk new → HasSchema old.now → IsTrue new.is_open → LeavesTheRest events outcomes old.now new.is_open new.now

-- and what the connection has kept
pub record SoFar (events : List Timed) (outcomes : List Outcome) (old new : State) : Type 0 where
  pub shows : Shows events outcomes old new
  pub connection : KeepsConnection old new

pub begins : (s : State) → SoFar [] [] s s
begins s = record {
  shows = record {
    each = refl;
    schema = λ _ has _. has;
    alone = λ _ _ name room devices holds has. record { replies = refl; rows = λ _. holds; devices = λ _. has };
    devices = λ _ _ devices has. record { replies = refl; devices = λ _. has };
    rest = λ _ _ _. record { accounts = λ name none. same_rows name s.now s.now refl; devices = λ none. same_devices s.now s.now refl; version = refl };
  };
  connection = record { clean = omega arith; back = λ _ is. is; mode = λ _ is. is; shield = λ is. is; counts = omega arith; limit = refl; closes = λ _ is. inl is };
}

-- nothing more, where an open connection sees the same
pub still_shown : (events : List Timed) (outcomes : List Outcome) (old mid new : State) → Shows events outcomes old mid → doubt mid.is_clean ≤ doubt new.is_clean
    → (HasCleanDisk new → IsTrue new.is_open → IsTrue mid.is_open) → (HasCleanDisk new → HasSchema old.now → IsTrue new.is_open → new.now ≡ mid.now) → Shows events outcomes old new
still_shown events outcomes old mid new so_far doubts back same =
    let clean : HasCleanDisk new → HasCleanDisk mid = λ is. omega (arith, doubts, is) in
    record {
      each = so_far.each;
      schema = λ is has shown. subst HasSchema (sym (same is has shown)) (so_far.schema (clean is) has (back is shown));
      alone = λ is has name room devices held holds.
          let before = so_far.alone (clean is) has name room devices held holds in
          let machine = alone room devices (own name (answered_of events outcomes)) in
          record {
            replies = before.replies;
            rows = λ shown. subst (λ (db : Database). Holds db name machine.room) (sym (same is has shown)) (before.rows (back is shown));
            devices = λ shown. subst (λ (db : Database). HoldsDevices db machine.devices) (sym (same is has shown)) (before.devices (back is shown));
          };
      devices = λ is has devices holds.
          let before = so_far.devices (clean is) has devices holds in
          let machine = devices_alone devices (of_devices (answered_of events outcomes)) in
          record { replies = before.replies; devices = λ shown. subst (λ (db : Database). HoldsDevices db machine.devices) (sym (same is has shown)) (before.devices (back is shown)) };
      rest = λ is has shown.
          let before = so_far.rest (clean is) has (back is shown) in
          let alike = same is has shown in
          record {
            accounts = λ name none. subst (AgreeOnRows name old.now) (sym alike) (before.accounts name none);
            devices = λ none. subst (AgreeOnDevices old.now) (sym alike) (before.devices none);
            version = ap (λ (db : Database). db.trees meta.tree) alike ∙ before.version;
          };
    }

pub one_shown : (events : List Timed) (outcomes : List Outcome) (e : Timed) (old mid new : State) (r : Result Reply StoreFault) → Shows events outcomes old mid → Applies e.0 e.1 mid new r → Shows (events ++ e ∷ []) (outcomes ++ outcome_of r ∷ []) old new
one_shown events outcomes e old mid new r so_far applied =
    let o = outcome_of r in
    let clean : HasCleanDisk new → HasCleanDisk mid = λ is. omega (arith, applied.connection.clean, is) in
    record {
      each = grow outcomes events o e so_far.each;
      schema = λ is has shown. next_schema e.0 e.1 mid new r applied is (so_far.schema (clean is) has) shown;
      alone = λ is has name room devices held holds.
          let before = so_far.alone (clean is) has name room devices held holds in
          let next = next_alone name e.0 e.1 mid new r applied is (so_far.schema (clean is) has) (alone room devices (own name (answered_of events outcomes))) before.rows before.devices in
          subst (λ (m : Alone). IsAlone (events ++ e ∷ []) (outcomes ++ o ∷ []) old.now new.is_open new.now name m) (sym (alone_more name (record { replies = []; room = room; devices = devices }) events outcomes e o so_far.each))
          (record {
            replies = replies_more (is_of name) events outcomes e o so_far.each ∙ ap (λ told. told ++ replies_to (is_of name) (e ∷ []) (o ∷ [])) before.replies ∙ next.replies;
            rows = next.rows;
            devices = next.devices;
          });
      devices = λ is has devices holds.
          let before = so_far.devices (clean is) has devices holds in
          let next = next_devices e.0 e.1 mid new r applied is (so_far.schema (clean is) has) (devices_alone devices (of_devices (answered_of events outcomes))) before.devices in
          subst (λ (m : DevicesAlone). AreAlone (events ++ e ∷ []) (outcomes ++ o ∷ []) old.now new.is_open new.now m) (sym (devices_more (record { replies = []; devices = devices }) events outcomes e o so_far.each))
          (record {
            replies = replies_more is_of_device events outcomes e o so_far.each ∙ ap (λ told. told ++ replies_to is_of_device (e ∷ []) (o ∷ [])) before.replies ∙ next.replies;
            devices = next.devices;
          });
      rest = λ is has shown. rest_both events outcomes e o old.now mid.now new.now mid.is_open new.is_open so_far.each
          (so_far.rest (clean is) has (applied.connection.back is shown)) (next_rest e.0 e.1 mid new r applied is (so_far.schema (clean is) has) shown);
    }

pub one_more : (events : List Timed) (outcomes : List Outcome) (e : Timed) (old mid new : State) (r : Result Reply StoreFault) → SoFar events outcomes old mid → Applies e.0 e.1 mid new r → SoFar (events ++ e ∷ []) (outcomes ++ outcome_of r ∷ []) old new
one_more events outcomes e old mid new r so_far applied = record { shows = one_shown events outcomes e old mid new r so_far.shows applied; connection = goes_on old mid new so_far.connection applied.connection }
