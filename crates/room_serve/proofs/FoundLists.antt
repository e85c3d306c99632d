-- What an open after a crash finds of lists in which a fault may have shut the connection.
use Rattle.std.proofs.Common.{◌≡◌, ◌⊎◌, ℕ, Bool, true, false, ◌||◌, cond, bytes_eq, List, [], ◌∷◌, ◌++◌, IsTrue, refl, sym, ap, subst, ◌∙◌, append-nil, append_assoc, inl, inr, arith}
use Rattle.std.specs.List.{AllByRecursion}
use Rattle.std.proofs.lemmas.Bool.{cases_Bool, true≢false}
use Rattle.sqlite.specs.Effect.{Database}
use Rattle.sqlite.specs.Held.{Held, state}
use Rattle.sqlite.specs.State.{HasCleanDisk}
use Rattle.sqlite_trees.specs.Tree.{Trees}
use Rattle.sqlite_trees.specs.declared.store.Store.{Ghosts}
use Rattle.account_machine.specs.Events.{Timed, OfAccount, OfDevice}
use Rattle.account_machine.specs.declared.event.Reply.{Reply}
use Rattle.account_machine.specs.declared.event.Reply.TheVariants.{Short}
use Rattle.account_lives.proofs.LifeLemmas.{lives_go_on}
use Rattle.account_lives.specs.Lives.{Exchange, Life}
use Rattle.store_events.specs.Applied.{Applies}
use Rattle.store_events.specs.Events.{IsShort}
use Rattle.rows_tables.specs.Calls.{LeavesNoMore}
use Rattle.rows_tables.specs.Crashes.{IsOnDisk}
use Rattle.rows_tables.specs.Keyed.{HasSchema}
use Rattle.room_serve.specs.Crashes.{HasOneDone, IsFound, IsUndone, ListsAreFound, with_event}
use Rattle.room_serve.specs.LivesInFiles.{IsLifeIn, exchanges_of}
use Rattle.room_serve.specs.Outcomes.{result_of}
use Rattle.room_serve.specs.Runs.{AreApplied}
use Rattle.room_serve.specs.declared.outcome.Outcome.{Outcome}
use Rattle.room_serve.specs.declared.outcome.Outcome.TheVariants.{Answered, Failed}
use Rattle.room_serve.proofs.FoundLives.{found_of, lives_with_event}
use Rattle.room_serve.proofs.LivesOn.{lists_run, lives_go_on_in_lists}
use Rattle.room_serve.proofs.Short.{short_or_not, short_reply, short_room}

-- ---- the first event, and the rest

exchanges_first : (name : List ℕ) (e : Timed) (o : Outcome) (events : List Timed) (outcomes : List Outcome) → exchanges_of name (e ∷ events) (o ∷ outcomes) ≡ exchanges_of name (e ∷ []) (o ∷ []) ++ exchanges_of name events outcomes
exchanges_first name e (Failed fault) events outcomes = refl
exchanges_first name (now, OfDevice device it) (Answered reply) events outcomes = refl
exchanges_first name (now, OfAccount account it) (Answered reply) events outcomes =
    let x : Exchange = ((now, OfAccount account it), reply) in
    elim (bytes_eq account name) as (λ (b : Bool). cond (b || false) (x ∷ exchanges_of name events outcomes) (exchanges_of name events outcomes) ≡ cond (b || false) (x ∷ []) [] ++ exchanges_of name events outcomes) [ true ↦ refl | false ↦ refl ]

life_first : (name : List ℕ) (life : Life) (e : Timed) (o : Outcome) (events : List Timed) (outcomes : List Outcome) → (life ++ exchanges_of name (e ∷ []) (o ∷ [])) ++ exchanges_of name events outcomes ≡ life ++ exchanges_of name (e ∷ events) (o ∷ outcomes)
life_first name life e o events outcomes =
    append_assoc life (exchanges_of name (e ∷ []) (o ∷ [])) (exchanges_of name events outcomes) ∙ ap (λ (more : Life). life ++ more) (sym (exchanges_first name e o events outcomes))

-- ---- events on a connection that is shut

module _ (name : List ℕ) (db : Database) where
  -- one is answered only where it is short, and leaves the life as it is
  short_goes : (e : Timed) (life : Life) → IsShort e.1 → IsLifeIn db true name life → IsLifeIn db true name (life ++ exchanges_of name (e ∷ []) (Answered Short ∷ []))
  short_goes (now, OfDevice device it) life short lived = absurd short
  short_goes (now, OfAccount account it) life short lived =
      let x : Exchange = ((now, OfAccount account it), Short) in
      elim (bytes_eq account name) as (λ (b : Bool). IsLifeIn db true name (life ++ cond (b || false) (x ∷ []) [])) [
        | true ↦ record {
          room = lived.room;
          devices = lived.devices;
          is_life = lives_go_on life (x ∷ []) lived.room lived.room lived.devices lived.devices lived.is_life (sym (short_reply lived.room lived.devices now account it short), (sym (short_room lived.room lived.devices now account it short), refl));
          rows = lived.rows;
          device_rows = lived.device_rows;
        }
        | false ↦ subst (λ (l : Life). IsLifeIn db true name l) (sym (append-nil life)) lived
      ]

module _ {S : Type 0} (store : Ghosts S) where
  -- what they came to
  shut_answer : (e : Timed) (mid next : Held S) (o : Outcome) → Applies e.0 e.1 (state store mid) (state store next) (result_of o) → HasCleanDisk (state store next) → (IsTrue (state store mid).is_open → ⊥) → IsUndone o × ((name : List ℕ) (db : Database) (life : Life) → IsLifeIn db true name life → IsLifeIn db true name (life ++ exchanges_of name (e ∷ []) (o ∷ [])))
  shut_answer e mid next (Failed fault) applied clean shut = (tt, λ name db life lived. subst (λ (l : Life). IsLifeIn db true name l) (sym (append-nil life)) lived)
  shut_answer (now, OfDevice device it) mid next (Answered reply) applied clean shut = absurd (shut (applied.asked (λ short. short) clean))
  shut_answer (now, OfAccount account it) mid next (Answered reply) applied clean shut = elim (short_or_not account it) [
    | inl short ↦
        let is : reply ≡ Short = applied.short short in
        (is, λ name db life lived. subst (λ (said : Reply). IsLifeIn db true name (life ++ exchanges_of name ((now, OfAccount account it) ∷ []) (Answered said ∷ []))) (sym is) (short_goes name db (now, OfAccount account it) life short lived))
    | inr long ↦ absurd (shut (applied.asked long clean))
  ]

  record StaysShut (events : List Timed) (outcomes : List Outcome) (mid new : Held S) : Type 0 where
    pub undone : AllByRecursion IsUndone outcomes
    pub crash : LeavesNoMore (state store mid) (state store new)
    pub lives : (name : List ℕ) (db : Database) (life : Life) → IsLifeIn db true name life → IsLifeIn db true name (life ++ exchanges_of name events outcomes)

  stays_shut : (events : List Timed) (outcomes : List Outcome) (mid new : Held S) → AreApplied store events outcomes mid new → HasCleanDisk (state store new) → (IsTrue (state store mid).is_open → ⊥) → StaysShut events outcomes mid new
  stays_shut [] [] mid new is clean shut = record {
    undone = tt;
    crash = subst (λ (held : Held S). LeavesNoMore (state store mid) (state store held)) (sym is) (λ found may. may);
    lives = λ name db life lived. subst (λ (l : Life). IsLifeIn db true name l) (sym (append-nil life)) lived;
  }
  stays_shut [] (o ∷ outcomes) mid new is clean shut = absurd is
  stays_shut (e ∷ events) [] mid new is clean shut = absurd is
  stays_shut (e ∷ events) (o ∷ outcomes) mid new (next, applied, rest) clean shut =
      let later = (lists_run store events outcomes next new rest).connection in
      let next_clean : HasCleanDisk (state store next) = omega (arith, later.clean, clean) in
      let first = shut_answer e mid next o applied next_clean shut in
      let on = stays_shut events outcomes next new rest clean (λ shown. shut (applied.connection.back next_clean shown)) in
      record {
        undone = (first.0, on.undone);
        crash = λ found may. applied.shut next_clean shut found (on.crash found may);
        lives = λ name db life lived. subst (λ (l : Life). IsLifeIn db true name l) (life_first name life e o events outcomes) (on.lives name db (life ++ exchanges_of name (e ∷ []) (o ∷ [])) (first.1 name db life lived));
      }

  -- what was found before them is found behind them
  still_found : (name : List ℕ) (life : Life) (events : List Timed) (outcomes : List Outcome) (mid new : Held S) → StaysShut events outcomes mid new → (found : Trees) → IsFound name life found → IsFound name (life ++ exchanges_of name events outcomes) found
  still_found name life events outcomes mid new stays found is = record { lives = λ db same. stays.lives name db life (is.lives db same); numbered = is.numbered }

  -- ---- any list

  abbrev Finds : (events : List Timed) (outcomes : List Outcome) (new : Held S) (name : List ℕ) (life : Life) (found : Trees) → Type 0
  Finds events outcomes new name life found =
      IsFound name (life ++ exchanges_of name events outcomes) found
      ⊎ (((state store new).is_open ≡ false) × (others : List Outcome) × HasOneDone outcomes others × IsFound name (life ++ exchanges_of name events others) found)

  -- behind an event that left the connection open
  found_behind : (e : Timed) (o : Outcome) (events : List Timed) (outcomes : List Outcome) (new : Held S) (name : List ℕ) (life : Life) (found : Trees) → Finds events outcomes new name (life ++ exchanges_of name (e ∷ []) (o ∷ [])) found → Finds (e ∷ events) (o ∷ outcomes) new name life found
  found_behind e o events outcomes new name life found (inl is) = inl (subst (λ (l : Life). IsFound name l found) (life_first name life e o events outcomes) is)
  found_behind e o events outcomes new name life found (inr (shut, others, one, is)) = inr (
    shut,
    o ∷ others,
    record { front = o ∷ one.front; fault = one.fault; reply = one.reply; rest = one.rest; failed = ap (λ l. o ∷ l) one.failed; done = ap (λ l. o ∷ l) one.done; undone = one.undone },
    subst (λ (l : Life). IsFound name l found) (life_first name life e o events others) is,
  )

  -- the event whose failure shut the connection
  found_there : (e : Timed) (o : Outcome) (events : List Timed) (outcomes : List Outcome) (old next new : Held S) → Applies e.0 e.1 (state store old) (state store next) (result_of o) → AreApplied store events outcomes next new → IsOnDisk (state store old) → IsTrue (state store old).is_open → (IsTrue (state store next).is_open → ⊥)
      → HasCleanDisk (state store next) → HasCleanDisk (state store new) → HasSchema (state store old).now → (name : List ℕ) (life : Life) → IsLifeIn (state store old).now true name life → (found : Trees) → (state store new).may_leave found → Finds (e ∷ events) (o ∷ outcomes) new name life found
  found_there e (Answered reply) events outcomes old next new applied rest on_disk was_open shut next_clean clean has name life lived found may = absurd (shut (applied.opened next_clean was_open))
  found_there e (Failed fault) events outcomes old next new applied rest on_disk was_open shut next_clean clean has name life lived found may =
      let stays = stays_shut events outcomes next new rest clean shut in
      let later = (lists_run store events outcomes next new rest).connection in
      elim (applied.crash next_clean has found (stays.crash found may)) [
        | inl before ↦ inl (still_found name life events outcomes next new stays found (found_of name life (state store old).now true refl has lived found (on_disk.found was_open found before)))
        | inr (after, same, done) ↦
            let goes = lives_with_event e.0 e.1 (state store old).now after done name life lived in
            let there = found_of name (with_event name life e goes.0) after true refl done.schema goes.1 found (sym same) in
            inr (
              is_shut (state store new).is_open (λ shown. shut (later.back clean shown)),
              Answered goes.0 ∷ outcomes,
              record { front = []; fault = fault; reply = goes.0; rest = outcomes; failed = refl; done = refl; undone = stays.undone },
              subst (λ (l : Life). IsFound name l found) (life_first name life e (Answered goes.0) events outcomes) (still_found name (with_event name life e goes.0) events outcomes next new stays found there),
            )
      ]
    where
      is_shut : (b : Bool) → (IsTrue b → ⊥) → b ≡ false
      is_shut true isnt = absurd (isnt refl)
      is_shut false isnt = refl

  pub lists_are_found : ListsAreFound store
  lists_are_found [] [] old new on_disk is clean has was_open name life lived found may =
      inl (subst (λ (l : Life). IsFound name l found) (sym (append-nil life)) (found_of name life (state store old).now true refl has lived found (on_disk.found was_open found (subst (λ (held : Held S). (state store held).may_leave found) is may))))
  lists_are_found [] (o ∷ outcomes) old new on_disk is clean has was_open name life lived found may = absurd is
  lists_are_found (e ∷ events) [] old new on_disk is clean has was_open name life lived found may = absurd is
  lists_are_found (e ∷ events) (o ∷ outcomes) old new on_disk (next, applied, rest) clean has was_open name life lived found may =
      let one : AreApplied store (e ∷ []) (o ∷ []) old next = (next, applied, refl) in
      let run = lists_run store (e ∷ []) (o ∷ []) old next one in
      let later = (lists_run store events outcomes next new rest).connection in
      let next_clean : HasCleanDisk (state store next) = omega (arith, later.clean, clean) in
      elim (cases_Bool (state store next).is_open) [
        | inl shown ↦
            let goes = subst (λ (b : Bool). IsLifeIn (state store next).now b name (life ++ exchanges_of name (e ∷ []) (o ∷ []))) shown (lives_go_on_in_lists store (e ∷ []) (o ∷ []) old next one next_clean has name life lived) in
            found_behind e o events outcomes new name life found
            (lists_are_found events outcomes next new (applied.on_disk next_clean (applied.connection.mode next_clean on_disk.mode)) rest clean (run.shows.schema next_clean has shown) shown name (life ++ exchanges_of name (e ∷ []) (o ∷ [])) goes found may)
        | inr gone ↦ found_there e o events outcomes old next new applied rest on_disk was_open (λ shown. true≢false (sym shown ∙ gone)) next_clean clean has name life lived found may
      ]
