use Rattle.std.proofs.Common.{◌≡◌, ℕ, List, Result, Err, sym, subst}
use Rattle.sqlite_trees.specs.declared.store.Store.{Ghosts}
use Rattle.sqlite.specs.Held.{Held}
use Rattle.account_machine.specs.declared.event.Reply.{Reply}
use Rattle.account_questions.specs.declared.question.About.{About}
use Rattle.room_store.specs.Questions.{AboutIsReadable, TellsAbout}
use Rattle.room_store.proofs.questions.tell_about.Goals as goal
use Rattle.rows_tables.specs.Calls.{IfOurTables}
use Rattle.rows_tables.specs.declared.fault.TableFault.{TableFault}
use Rattle.rows_tables.specs.declared.fault.TableFault.TheVariants.{Damaged}

-- what holds of a question holds of one that is the same
module _ {S : Type 0} (store : Ghosts S) (old new : Held S) (name : List ℕ) (r : Result Reply TableFault) {asked about : About} (is : asked ≡ about) where
  told_as : TellsAbout store old new name about r → TellsAbout store old new name asked r
  told_as told = subst (λ it. TellsAbout store old new name it r) (sym is) told

  damaged_as : IfOurTables store old new (λ db. r ≡ Err Damaged → AboutIsReadable name db about → ⊥) → IfOurTables store old new (λ db. r ≡ Err Damaged → AboutIsReadable name db asked → ⊥)
  damaged_as damaged = subst (λ it. IfOurTables store old new (λ db. r ≡ Err Damaged → AboutIsReadable name db it → ⊥)) (sym is) damaged

pub returns-in-Left : goal.returns-in-Left
returns-in-Left g c = record {
  told = told_as g.S.Store c.args.connection.now c.tell_left.new.connection c.args.account c.tell_left.result c.in-Left.is c.tell_left.ensures.told;
  damaged = damaged_as g.S.Store c.args.connection.now c.tell_left.new.connection c.args.account c.tell_left.result c.in-Left.is c.tell_left.ensures.damaged;
  looks = c.tell_left.ensures.looks;
}

pub returns-in-Statement : goal.returns-in-Statement
returns-in-Statement g c = record {
  told = told_as g.S.Store c.args.connection.now c.tell_statement.new.connection c.args.account c.tell_statement.result c.in-Statement.is c.tell_statement.ensures.told;
  damaged = damaged_as g.S.Store c.args.connection.now c.tell_statement.new.connection c.args.account c.tell_statement.result c.in-Statement.is c.tell_statement.ensures.damaged;
  looks = c.tell_statement.ensures.looks;
}

pub returns-in-Jobs : goal.returns-in-Jobs
returns-in-Jobs g c = record {
  told = told_as g.S.Store c.args.connection.now c.tell_unfinished.new.connection c.args.account c.tell_unfinished.result c.in-Jobs.is c.tell_unfinished.ensures.told;
  damaged = damaged_as g.S.Store c.args.connection.now c.tell_unfinished.new.connection c.args.account c.tell_unfinished.result c.in-Jobs.is c.tell_unfinished.ensures.damaged;
  looks = c.tell_unfinished.ensures.looks;
}

pub returns-in-Ended : goal.returns-in-Ended
returns-in-Ended g c = record {
  told = told_as g.S.Store c.args.connection.now c.tell_ended.new.connection c.args.account c.tell_ended.result c.in-Ended.is c.tell_ended.ensures.told;
  damaged = damaged_as g.S.Store c.args.connection.now c.tell_ended.new.connection c.args.account c.tell_ended.result c.in-Ended.is c.tell_ended.ensures.damaged;
  looks = c.tell_ended.ensures.looks;
}

pub returns-in-Grants : goal.returns-in-Grants
returns-in-Grants g c = record {
  told = told_as g.S.Store c.args.connection.now c.tell_grants.new.connection c.args.account c.tell_grants.result c.in-Grants.is c.tell_grants.ensures.told;
  damaged = damaged_as g.S.Store c.args.connection.now c.tell_grants.new.connection c.args.account c.tell_grants.result c.in-Grants.is c.tell_grants.ensures.damaged;
  looks = c.tell_grants.ensures.looks;
}

pub returns-in-Waiting : goal.returns-in-Waiting
returns-in-Waiting g c = record {
  told = told_as g.S.Store c.args.connection.now c.tell_waiting.new.connection c.args.account c.tell_waiting.result c.in-Waiting.is c.tell_waiting.ensures.told;
  damaged = damaged_as g.S.Store c.args.connection.now c.tell_waiting.new.connection c.args.account c.tell_waiting.result c.in-Waiting.is c.tell_waiting.ensures.damaged;
  looks = c.tell_waiting.ensures.looks;
}

pub returns-in-Again : goal.returns-in-Again
returns-in-Again g c = record {
  told = told_as g.S.Store c.args.connection.now c.tell_again.new.connection c.args.account c.tell_again.result c.in-Again.is c.tell_again.ensures.told;
  damaged = damaged_as g.S.Store c.args.connection.now c.tell_again.new.connection c.args.account c.tell_again.result c.in-Again.is c.tell_again.ensures.damaged;
  looks = c.tell_again.ensures.looks;
}

pub returns-in-OwnerPage : goal.returns-in-OwnerPage
returns-in-OwnerPage g c = record {
  told = told_as g.S.Store c.args.connection.now c.tell_owner_page.new.connection c.args.account c.tell_owner_page.result c.in-OwnerPage.is c.tell_owner_page.ensures.told;
  damaged = damaged_as g.S.Store c.args.connection.now c.tell_owner_page.new.connection c.args.account c.tell_owner_page.result c.in-OwnerPage.is c.tell_owner_page.ensures.damaged;
  looks = c.tell_owner_page.ensures.looks;
}

pub returns-in-StatementPage : goal.returns-in-StatementPage
returns-in-StatementPage g c = record {
  told = told_as g.S.Store c.args.connection.now c.tell_statement_page.new.connection c.args.account c.tell_statement_page.result c.in-StatementPage.is c.tell_statement_page.ensures.told;
  damaged = damaged_as g.S.Store c.args.connection.now c.tell_statement_page.new.connection c.args.account c.tell_statement_page.result c.in-StatementPage.is c.tell_statement_page.ensures.damaged;
  looks = c.tell_statement_page.ensures.looks;
}

pub returns-in-DeskPage : goal.returns-in-DeskPage
returns-in-DeskPage g c = record {
  told = told_as g.S.Store c.args.connection.now c.tell_desk_page.new.connection c.args.account c.tell_desk_page.result c.in-DeskPage.is c.tell_desk_page.ensures.told;
  damaged = damaged_as g.S.Store c.args.connection.now c.tell_desk_page.new.connection c.args.account c.tell_desk_page.result c.in-DeskPage.is c.tell_desk_page.ensures.damaged;
  looks = c.tell_desk_page.ensures.looks;
}
