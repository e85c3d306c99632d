use Rattle.std.proofs.Common.{◌≡◌, ℕ, Bool, true, false, List, ap, inl, sym}
use Rattle.std.proofs.lemmas.Bool.{true≢false}
use Rattle.sqlite.specs.Effect.{Database}
use Rattle.account_machine.specs.declared.event.Reply.{Reply}
use Rattle.account_machine.specs.declared.event.Reply.TheVariants.{Line}
use Rattle.account_questions.specs.Questions.{check_text}
use Rattle.rows_checks.specs.Checks.{IsSoundAs}
use Rattle.room_store.specs.Questions.{TellsWhetherSound}
use Rattle.store_rounds.proofs.LookLemmas.{looked, read_passed}
use Rattle.room_store.proofs.questions.tell_check.Goals as goal

-- of an account that is open its room is told
told_open : (db : Database) (name : List ℕ) (told : Reply) (is_open : Bool) → is_open ≡ true → told ≡ Line (check_text true) → IsSoundAs db name is_open → TellsWhetherSound name db told
told_open db name told true is line (room, holds) = inl (line, room, holds)
told_open db name told false is line nothing = absurd (true≢false (sym is))

pub returns-in_ok-check_line-in-Ok-true-clause-checked : goal.returns-in_ok-check_line-in-Ok-true-clause-checked
returns-in_ok-check_line-in-Ok-true-clause-checked g c = λ clean has.
    told_open _ _ _ _ c.in-Ok-true.field-0-test (ap Line c.in_ok-check_line-in-Ok-true.ensures.text) (c.in-Ok-true.ensures.sound clean has)

pub returns-in-Ok-false-clause-looks : goal.returns-in-Ok-false-clause-looks
returns-in-Ok-false-clause-looks g c = looked g.S.Store c.args.connection.now c.check_account.new.connection c.refusal_line.result (read_passed g.S.Store _ _ _ c.in-Ok-false.ensures.reads)
