-- What is noted of what a connection asks, and what it does to the tables (all this project's own).
use Rattle.std.specs.Prelude.{◌≡◌, ◌||◌, false, List, [], ◌∷◌, ◌++◌, Option, Some, Result}
use Rattle.sqlite_trees.specs.declared.store.Store.{Ghosts}
use Rattle.account_machine.specs.declared.event.Reply.{Reply}
use Rattle.account_machine.specs.declared.verdict.Answered.{Answered}
use Rattle.account_questions.specs.Questions.{asks_end}
use Rattle.account_questions.specs.declared.question.Question.{Question}
use Rattle.room_store.specs.Questions.{AnswersQuestion}
use Rattle.store_rounds.specs.declared.fault.StoreFault.{StoreFault}
use Rattle.serve_peers.specs.declared.entry.Entry.{Entry}
use Rattle.serve_peers.specs.declared.served.Served.{Served}
use Rattle.serve_peers.specs.Journals.{Notes, Told, ends_of, is_lost_of, moment_of, open_of, page_rules_of, rounds_of, shares_of, store_of}
use Rattle.serve_peers.specs.Applying.{AppliesEntry, DoesEach}

module _ {S : Type 0} (store : Ghosts S) where
  -- what came was applied, once, or came too late in a round that is lost; and it is noted
  pub record AppliesNext (entry : Entry) (told : Result Answered StoreFault) (old new : Served S)
      : Type 0 where
    pub notes : Notes (shares_of old) (Some (entry, told) ∷ []) old new
    pub applies : AppliesEntry store (shares_of old) entry (store_of old) (store_of new) told
    pub shares : shares_of new ≡ shares_of old
    pub is_lost : is_lost_of new ≡ is_lost_of old
    pub moment : moment_of new ≡ moment_of old
    pub background : new.background ≡ old.background

  -- Outside a round a question is answered, by the tables as they are. It is an empty round, and
  -- nothing else is noted of it.
  pub record AnswersNext (question : Question) (told : Result Reply StoreFault)
      (old new : Served S) : Type 0 where
    pub alone : shares_of old ≡ false
    pub answers : AnswersQuestion store question (store_of old) (store_of new) told
    pub over : rounds_of new ≡ rounds_of old ++ ([], false) ∷ []
    pub none_more : open_of new ≡ open_of old
    pub ends : ends_of new ≡ ends_of old || asks_end question
    pub same : new ≡ record old {
      rounds = store_of new;
      journal = new.journal;
      background = record old.background { ends = ends_of new };
    }

  -- What came is noted, and it, and nothing else, made of the tables what they are. What the
  -- pages hold requests to stays.
  pub record Continues (old new : Served S) : Type 0 where
    pub more : List (Option Told)
    pub notes : Notes (shares_of old) more old new
    pub does : DoesEach store (shares_of old) (store_of old) more (store_of new)
    pub shares : shares_of new ≡ shares_of old
    pub is_lost : is_lost_of new ≡ is_lost_of old
    pub page_rules : page_rules_of new ≡ page_rules_of old
