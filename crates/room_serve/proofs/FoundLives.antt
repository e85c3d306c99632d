-- What an open after a crash finds of an account's life.
use Rattle.std.proofs.Common.{◌≡◌, ℕ, Bool, true, false, ◌||◌, cond, bytes_eq, List, [], ◌∷◌, ◌++◌, Result, Ok, Err, IsTrue, refl, sym, ap, subst, ◌∙◌, append-nil, inl, inr, arith}
use Rattle.std.proofs.lemmas.Bool.{cases_Bool}
use Rattle.std.proofs.lemmas.Slice.Eq.{bytes_eq-Decides}
use Rattle.sqlite.specs.Effect.{Database}
use Rattle.sqlite.specs.Held.{Held, state}
use Rattle.sqlite.specs.State.{State, HasCleanDisk}
use Rattle.sqlite_trees.specs.Tree.{Trees}
use Rattle.sqlite_trees.specs.declared.store.Store.{Ghosts}
use Rattle.account_machine.specs.DeviceEvents.{device_answered}
use Rattle.account_machine.specs.Events.{Timed, OfAccount, OfDevice}
use Rattle.account_machine.specs.Machine.{answered}
use Rattle.account_machine.specs.declared.event.Reply.{Reply}
use Rattle.account_lives.proofs.LifeLemmas.{lives_go_on}
use Rattle.account_lives.specs.Lives.{Exchange, Life}
use Rattle.store_events.specs.Applied.{Applies, IsDone}
use Rattle.store_rounds.specs.declared.fault.StoreFault.{StoreFault}
use Rattle.rows_tables.proofs.AgreedRows.{still_devices, still_holds}
use Rattle.rows_tables.specs.Accounts.{AgreeOnRows, Holds, account_at, document_at, grant_at, job_at}
use Rattle.rows_tables.specs.Crashes.{IsOnDisk}
use Rattle.rows_tables.specs.Devices.{AgreeOnDevices, device_at, rate_at}
use Rattle.rows_tables.specs.Keyed.{AreNumbered, HasSchema}
use Rattle.rows_tables.specs.Tables.{room_schema}
use Rattle.room_serve.specs.Crashes.{AnsweredIsFound, IsFound, IsFoundAfter, UnderWayIsFound, with_event}
use Rattle.room_serve.specs.LivesInFiles.{IsLifeIn, exchanges_of}
use Rattle.room_serve.specs.Outcomes.{outcome_of}
use Rattle.room_serve.specs.Runs.{AreApplied}
use Rattle.room_serve.specs.declared.outcome.Outcome.{Outcome}
use Rattle.room_serve.proofs.LivesOn.{lists_run, lives_go_on_in_lists, one_applied}

-- ---- rows are of the trees alone

rows_by_trees : (name : List ℕ) (a b : Database) → b.trees ≡ a.trees → AgreeOnRows name a b
rows_by_trees name a b same = record {
  same_account = ap (λ (trees : Trees). account_at (record { schema = a.schema; trees = trees }) name) same;
  same_jobs = λ number. ap (λ (trees : Trees). job_at (record { schema = a.schema; trees = trees }) name number) same;
  same_documents = λ job number. ap (λ (trees : Trees). document_at (record { schema = a.schema; trees = trees }) name job number) same;
  same_grants = λ month. ap (λ (trees : Trees). grant_at (record { schema = a.schema; trees = trees }) name month) same;
}

devices_by_trees : (a b : Database) → b.trees ≡ a.trees → AgreeOnDevices a b
devices_by_trees a b same = record {
  same_devices = λ name. ap (λ (trees : Trees). device_at (record { schema = a.schema; trees = trees }) name) same;
  same_rates = λ name. ap (λ (trees : Trees). rate_at (record { schema = a.schema; trees = trees }) name) same;
}

numbered_by_trees : (a b : Database) → b.trees ≡ a.trees → AreNumbered room_schema.tables a → AreNumbered room_schema.tables b
numbered_by_trees a b same numbered = subst (λ (trees : Trees). AreNumbered room_schema.tables (record { schema = a.schema; trees = trees })) (sym same) numbered

-- what is found are the trees of a database that has the life
pub found_of : (name : List ℕ) (life : Life) (db : Database) (is_open : Bool) → IsTrue is_open → HasSchema db → IsLifeIn db is_open name life → (found : Trees) → found ≡ db.trees → IsFound name life found
found_of name life db is_open shown has lived found same = record {
  lives = λ other trees. record {
    room = lived.room;
    devices = lived.devices;
    is_life = lived.is_life;
    rows = λ _. still_holds name db other (rows_by_trees name db other (trees ∙ same)) lived.room (lived.rows shown);
    device_rows = λ _. still_devices db other (devices_by_trees db other (trees ∙ same)) lived.devices (lived.device_rows shown);
  };
  numbered = λ other trees. numbered_by_trees db other (trees ∙ same) has.numbered;
}

-- ---- an event that a crash finds done

pub lives_with_event : (now : ℕ) (e : _) (old after : Database) → IsDone now e old after → (name : List ℕ) (life : Life) → IsLifeIn old true name life → (reply : Reply) × IsLifeIn after true name (with_event name life (now, e) reply)
lives_with_event now (OfDevice device it) old after done name life lived =
    let answer = device_answered lived.devices (OfDevice device it) in (
      answer.reply,
      record {
        room = lived.room;
        devices = answer.devices;
        is_life = lives_go_on life (((now, OfDevice device it), answer.reply) ∷ []) lived.room lived.room lived.devices answer.devices lived.is_life (refl, (refl, refl));
        rows = λ _. still_holds name old after (done.changes.alone.accounts name) lived.room (lived.rows refl);
        device_rows = λ _. done.changes.rows lived.devices (lived.device_rows refl);
      },
    )
lives_with_event now (OfAccount account it) old after done name life lived =
    let answer = answered lived.room lived.devices now (OfAccount account it) in
    let exchange : Exchange = ((now, OfAccount account it), answer.reply) in (
      answer.reply,
      elim (cases_Bool (bytes_eq account name)) [
        | inl its ↦ subst (λ (b : Bool). IsLifeIn after true name (life ++ cond (b || false) (exchange ∷ []) [])) (sym its) (record {
          room = answer.room;
          devices = lived.devices;
          is_life = lives_go_on life (exchange ∷ []) lived.room answer.room lived.devices lived.devices lived.is_life (refl, (refl, refl));
          rows = λ _. subst (λ (n : List ℕ). Holds old n lived.room → Holds after n answer.room) ((bytes_eq-Decides account name).0 its) (λ holds. done.changes.rows lived.room lived.devices holds (lived.device_rows refl)) (lived.rows refl);
          device_rows = λ _. still_devices old after done.changes.alone.devices lived.devices (lived.device_rows refl);
        })
        | inr isnt ↦ subst (λ (b : Bool). IsLifeIn after true name (life ++ cond (b || false) (exchange ∷ []) [])) (sym isnt) (subst (λ (l : Life). IsLifeIn after true name l) (sym (append-nil life)) (record {
          room = lived.room;
          devices = lived.devices;
          is_life = lived.is_life;
          rows = λ _. still_holds name old after (done.changes.alone.others name (λ same. let is = (bytes_eq-Decides account name).1 (sym same) in cc)) lived.room (lived.rows refl);
          device_rows = λ _. still_devices old after done.changes.alone.devices lived.devices (lived.device_rows refl);
        }))
      ],
    )

-- ---- behind one event

module _ (e : Timed) (old new : State) (clean : HasCleanDisk new) (has : HasSchema old.now) (was_open : IsTrue old.is_open) (settled : IsOnDisk old) (mode : new.in_transaction ≡ false) (name : List ℕ) (life : Life) (lived : IsLifeIn old.now true name life) (found : Trees) (may : new.may_leave found) where
  -- one that was answered left the connection open
  pub answered_found : (reply : Reply) → Applies e.0 e.1 old new (Ok reply) → IsLifeIn new.now new.is_open name (with_event name life e reply) → IsFoundAfter name life e (Ok reply) new.is_open found
  answered_found reply applied goes =
      let shown = applied.opened clean was_open in
      found_of name (with_event name life e reply) new.now new.is_open shown (applied.answered clean has).is_done.schema goes found ((applied.on_disk clean mode).found shown found may)

  pub failed_found : (fault : StoreFault) → Applies e.0 e.1 old new (Err fault) → IsFoundAfter name life e (Err fault) new.is_open found
  failed_found fault applied = elim (cases_Bool new.is_open) [
    | inl shown ↦ inl (found_of name life old.now true refl has lived found ((applied.on_disk clean mode).found shown found may ∙ ap (λ (db : Database). db.trees) (applied.unchanged clean has shown)))
    | inr shut ↦ elim (applied.crash clean has found may) [
      | inl before ↦ inl (found_of name life old.now true refl has lived found (settled.found was_open found before))
      | inr (after, same, done) ↦
          let goes = lives_with_event e.0 e.1 old.now after done name life lived in
          inr (shut, goes.0, found_of name (with_event name life e goes.0) after true refl done.schema goes.1 found (sym same))
    ]
  ]

-- ---- behind lists

module _ {S : Type 0} (store : Ghosts S) where
  -- outside a transaction a list stays there
  pub lists_settled : (events : List Timed) (outcomes : List Outcome) (old new : Held S) → IsOnDisk (state store old) → AreApplied store events outcomes old new → HasCleanDisk (state store new) → IsOnDisk (state store new)
  lists_settled [] [] old new settled is clean = subst (λ (held : Held S). IsOnDisk (state store held)) (sym is) settled
  lists_settled [] (o ∷ outcomes) old new settled is clean = absurd is
  lists_settled (e ∷ events) [] old new settled is clean = absurd is
  lists_settled (e ∷ events) (o ∷ outcomes) old new settled (next, applied, rest) clean =
      let later = (lists_run store events outcomes next new rest).connection in
      let next_clean : HasCleanDisk (state store next) = omega (arith, later.clean, clean) in
      lists_settled events outcomes next new (applied.on_disk next_clean (applied.connection.mode next_clean settled.mode)) rest clean

  pub answered_is_found : AnsweredIsFound store
  answered_is_found events outcomes old new settled applied clean has shown name life lived found may =
      let runs = lists_run store events outcomes old new applied in
      found_of name (life ++ exchanges_of name events outcomes) (state store new).now (state store new).is_open shown (runs.shows.schema clean has shown) (lives_go_on_in_lists store events outcomes old new applied clean has name life lived) found
      ((lists_settled events outcomes old new settled applied clean).found shown found may)

  pub under_way_is_found : UnderWayIsFound store
  under_way_is_found events outcomes old mid new settled applied shown e told last clean has name life lived found may =
      let mid_clean : HasCleanDisk (state store mid) = omega (arith, last.connection.clean, clean) in
      let runs = lists_run store events outcomes old mid applied in
      let before = life ++ exchanges_of name events outcomes in
      let goes : IsLifeIn (state store mid).now true name before = subst (λ (b : Bool). IsLifeIn (state store mid).now b name before) shown (lives_go_on_in_lists store events outcomes old mid applied mid_clean has name life lived) in
      one_found e mid new clean (runs.shows.schema mid_clean has shown) shown (lists_settled events outcomes old mid settled applied mid_clean) name before goes found may told last
    where
      one_found : (e : Timed) (mid new : Held S) → HasCleanDisk (state store new) → HasSchema (state store mid).now → IsTrue (state store mid).is_open → IsOnDisk (state store mid) → (name : List ℕ) (before : Life) → IsLifeIn (state store mid).now true name before
          → (found : Trees) → (state store new).may_leave found → (told : Result Reply StoreFault) → Applies e.0 e.1 (state store mid) (state store new) told → IsFoundAfter name before e told (state store new).is_open found
      one_found e mid new clean has shown settled name before lived found may (Ok reply) last =
          answered_found e (state store mid) (state store new) clean has shown settled (last.connection.mode clean settled.mode) name before lived found may reply last (lives_go_on_in_lists store (e ∷ []) (outcome_of (Ok reply) ∷ []) mid new (one_applied store e mid new (Ok reply) last) clean has name before lived)
      one_found e mid new clean has shown settled name before lived found may (Err fault) last =
          failed_found e (state store mid) (state store new) clean has shown settled (last.connection.mode clean settled.mode) name before lived found may fault last
