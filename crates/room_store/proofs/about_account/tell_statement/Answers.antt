use Rattle.std.proofs.Common.{◌≡◌, ℕ, List, ap, ◌∙◌}
use Rattle.account_machine.specs.declared.event.Reply.{Reply}
use Rattle.account_machine.specs.declared.event.Reply.TheVariants.{Line}
use Rattle.account_questions.specs.Quotas.{statement_text}
use Rattle.account_state.specs.declared.summary.Summary.{Summary}
use Rattle.store_rounds.proofs.LookLemmas.{look_passed, looked}
use Rattle.room_store.proofs.about_account.tell_statement.Goals as goal

said : (granted up_to : ℕ) (told summary : Summary) (line : List ℕ) → (granted ≡ up_to) × (told ≡ summary) → line ≡ statement_text granted told → ◌≡◌ {A = Reply} (Line line) (Line (statement_text up_to summary))
said granted up_to told summary line same is = ap Line (is ∙ (λ i. statement_text (same.0 i) (same.1 i)))

pub returns-clause-told : goal.returns-clause-told
returns-clause-told g c clean has room devices holds needs = said _ _ _ _ _ (c.in_ok-granted.ensures.told clean has room holds) c.in_ok-statement_line.ensures.text

pub returns-clause-looks : goal.returns-clause-looks
returns-clause-looks g c = looked g.S.Store _ _ _ (look_passed g.S.Store c.args.connection.now c.read_statement.new.connection _ c.in_ok-granted.ensures.looks)
