-- What a question is answered is what the journal so far has left.
use Rattle.std.proofs.Common.{◌≡◌, ℕ, false, if◌then◌else◌, List, [], ◌∷◌, ◌++◌, Option, None, Some, IsTrue, IsSome, Result, Ok, Err, refl, sym, ap, subst, ◌∙◌, append-nil, inl, inr}
use Rattle.std.proofs.lemmas.Bool.{true≢false}
use Rattle.std.proofs.lemmas.Grind.{flat_map-append}
use Rattle.sqlite.specs.Effect.{Database}
use Rattle.sqlite.specs.Held.{Held, state}
use Rattle.sqlite.specs.State.{HasCleanDisk}
use Rattle.sqlite_value.specs.Order.{Row}
use Rattle.sqlite_trees.specs.declared.store.Store.{Ghosts}
use Rattle.account_machine.specs.declared.event.Reply.{Reply}
use Rattle.account_lives.proofs.LifeLemmas.{lives_leave_one}
use Rattle.account_lives.specs.Lives.{IsLife, Life}
use Rattle.account_questions.specs.Questions.{ConcernsNames, ConcernsNoOther}
use Rattle.account_questions.specs.declared.question.Question.{Question}
use Rattle.account_rules.specs.Devices.{Devices}
use Rattle.room_serve.specs.LivesInFiles.{IsLifeIn}
use Rattle.serve_peers.proofs.Finding as finding
use Rattle.serve_peers.proofs.Running.{runs, was_clean}
use Rattle.serve_peers.specs.Journals.{Round, Told, applied, by_themselves, journal_of, kept_in, rounds_of, shares_of, store_of}
use Rattle.serve_peers.specs.Turns.{AnswersNext}
use Rattle.serve_peers.specs.ServedRuns.{IsRunOf}
use Rattle.serve_peers.specs.ServedLives.{told_to}
use Rattle.serve_peers.specs.declared.served.Served.{Served}
use Rattle.serve_sockets.proofs.Drives.{IsClean, IsServed}
use Rattle.serve_sockets.specs.Questions.{AnswersBy, AreNamesThen}
use Rattle.serve_sockets.specs.EndToEnd.{IsFresh, LivesOn}
use Rattle.account_state.specs.Rooms.{RoomValue}
use Rattle.room_store.specs.Questions.{AnswersQuestion, IsAbout, OpenNames}
use Rattle.store_rounds.specs.declared.fault.StoreFault.{StoreFault}
use Rattle.rows_tables.specs.Accounts.{Holds, account_at}
use Rattle.rows_tables.specs.Devices.{HoldsDevices}
use Rattle.rows_tables.specs.Keyed.{HasSchema}

-- ---- the journal

each_kept : (more : List (Option Told)) → kept_in (by_themselves more) ≡ applied more
each_kept [] = refl
each_kept (Some told ∷ more) = ap (λ (l : List Told). told ∷ l) (each_kept more)
each_kept (None ∷ more) = each_kept more

-- what is kept of a round
abbrev pub kept_of : Round → List Told
kept_of round = if round.1 then round.0 else []

pub kept_then : (first more : List Round) → kept_in (first ++ more) ≡ kept_in first ++ kept_in more
kept_then first more = flat_map-append kept_of first more

module _ {S : Type 0} where
  pub grown_alone : (more : List (Option Told)) (old new : Served S) → rounds_of new ≡ rounds_of old ++ by_themselves more → journal_of new ≡ journal_of old ++ applied more
  grown_alone more old new over = ap kept_in over ∙ kept_then (rounds_of old) (by_themselves more) ∙ ap (λ x. journal_of old ++ x) (each_kept more)

  pub grown_by : (round : Round) (old new : Served S) → rounds_of new ≡ rounds_of old ++ round ∷ [] → journal_of new ≡ journal_of old ++ kept_of round
  grown_by round old new over = ap kept_in over ∙ kept_then (rounds_of old) (round ∷ []) ∙ ap (λ x. journal_of old ++ x) (append-nil (kept_of round))

module _ {S : Type 0} (store : Ghosts S) (before : Served S) (fresh : IsFresh before) where
  -- ---- the tables

  -- the journal is what the rounds kept
  pub journal_is : (after : Served S) (more : List Round) → rounds_of after ≡ rounds_of before ++ more → journal_of after ≡ kept_in more
  journal_is after more over = ap kept_in (over ∙ ap (λ x. x ++ more) fresh.none_over)

  pub runs_so : (after : Served S) → IsServed store before after → shares_of after ≡ false → IsRunOf store (journal_of after) (store_of before) (store_of after)
  runs_so after (inl is) alone = subst (λ (journal : List Told). IsRunOf store journal (store_of before) (store_of after)) (sym (journal_is after is.follows.more is.follows.over)) (runs store is.follows.more (store_of before) (store_of after) is.follows.settles)
  runs_so after (inr is) alone = absurd (true≢false (sym is.shared ∙ alone))

  pub lives_on : (after : Served S) → IsServed store before after → shares_of after ≡ false → LivesOn store before after
  lives_on after (inl is) alone clean has name life lived =
      subst (λ (journal : List Told). IsLifeIn (state store (store_of after)).now (state store (store_of after)).is_open name (life ++ told_to name journal)) (sym (journal_is after is.follows.more is.follows.over)) (finding.always_lives store is.follows.more (store_of before) (store_of after) is.follows.settles clean has name life lived)
  lives_on after (inr is) alone clean has name life lived = absurd (true≢false (sym is.shared ∙ alone))

  -- ---- a question

  about : (question : Question) (name : List ℕ) (room : Option RoomValue) (devices : Devices) (names : List (List ℕ)) (db : Database) → ConcernsNoOther question name → Holds db name room → HoldsDevices db devices → (ConcernsNames question → OpenNames db names)
      → IsAbout question room devices names db
  about question name room devices names db only holds device_rows account_rows = record {
    account = λ other concerns. subst (λ (n : List ℕ). Holds db n room) (sym (only other concerns)) holds;
    device_rows = λ concerns. device_rows;
    account_rows = account_rows;
  }

  -- an account has a row where its life has left it open
  is_open : (db : Database) (name : List ℕ) (room opened : Option RoomValue) → room ≡ opened → Holds db name room → IsSome opened → IsSome (account_at db name)
  is_open db name None None same holds some = absurd (true≢false (sym some))
  is_open db name None (Some opened) same holds some = absurd (let no = same in cc)
  is_open db name (Some room) opened same holds some = subst (λ (o : Option Row). IsSome o) (sym holds.rows.account_row) refl

  is_left_open : (db : Database) (name : List ℕ) (life : Life) (room : Option RoomValue) (devices : Devices) → Holds db name room → IsLife life room devices → IsSome (account_at db name) → (opened : RoomValue) × (known : Devices) × IsLife life (Some opened) known
  is_left_open db name life None devices holds lived some = absurd (true≢false (sym (subst (λ (o : Option Row). IsSome o) holds.no_account some)))
  is_left_open db name life (Some room) devices holds lived some = (room, devices, lived)

  module _ (last : Held S) (question : Question) (old new : Served S) (served : IsServed store before old) (alone : shares_of old ≡ false) (clean : HasCleanDisk (state store last) → IsClean store new) where
    names_then : HasSchema (state store (store_of before)).now → HasCleanDisk (state store (store_of old)) → IsTrue (state store (store_of old)).is_open → (names : List (List ℕ)) → AreNamesThen store (store_of before) last (journal_of old) (state store (store_of before)).now names
        → OpenNames (state store (store_of old)).now names
    names_then has old_clean shown names known = record {
      rise = known.are.rise;
      exactly = λ name.
          let left = lives_on old served alone old_clean has name (known.lives name) (known.are_lives name) in
          let life = known.lives name ++ told_to name (journal_of old) in
          let db = (state store (store_of old)).now in (
            λ there. let opened = (known.are.exactly name).0 there in is_open db name left.room (Some opened.0) (lives_leave_one life left.room (Some opened.0) left.devices opened.1 left.is_life opened.2).0 (left.rows shown) refl,
            λ some. (known.are.exactly name).1 (is_left_open db name life left.room left.devices (left.rows shown) left.is_life some),
          );
    }

    answers_so : (told : Result Reply StoreFault) → AnswersQuestion store question (store_of old) (store_of new) told → AnswersBy store (store_of before) last (journal_of old) question told
    answers_so (Err fault) answers honest has name life concerns lived = tt
    answers_so (Ok reply) answers honest has name life concerns lived =
        let new_clean = clean honest in
        let old_clean = was_clean store (store_of old) (store_of new) answers.connection new_clean in
        let shown : IsTrue (state store (store_of old)).is_open = answers.opened new_clean in
        let schema : HasSchema (state store (store_of old)).now = (runs_so old served alone).schema old_clean has shown in
        let lives = lives_on old served alone old_clean has name life lived in
        let now = (state store (store_of old)).now in (
          lives.room,
          lives.devices,
          lives.is_life,
          λ names are. answers.told new_clean schema lives.room lives.devices names (about question name lives.room lives.devices names now concerns (lives.rows shown) (lives.device_rows shown) (λ asked. names_then has old_clean shown names (are asked))),
        )

  pub answered_so : (last : Held S) (question : Question) (told : Result Reply StoreFault) (old new : Served S) → IsServed store before old → (HasCleanDisk (state store last) → IsClean store new) → AnswersNext store question told old new → AnswersBy store (store_of before) last (journal_of old) question told
  answered_so last question told old new served clean next = answers_so last question old new served next.alone clean told next.answers
