use Rattle.std.proofs.Common.{◌≡◌, sym, ap, subst, ◌∙◌, ◌==◌, ◌&&◌, is_some}
use Rattle.std.specs.Option.{option_copied}
use Rattle.std.specs.List.{find as first}
use Rattle.std.specs.FinMap.{get}
use Rattle.account_rules.specs.declared.job.Document.{Document}
use Rattle.account_state.specs.Rooms.{RoomValue}
use Rattle.account_state.specs.RoomRules.{IsRoom, IsDocumentAt}
use Rattle.room_core.proofs.DocumentLists.{get_document}
use Rattle.room_core.proofs.Lookups.{copied_keeps, is_some-copied}
use Rattle.room_core.proofs.room.Room.document.Goals as goal

found : (c : goal.After-find_document) → option_copied c.find_document.result ≡ get c.args.self.now.documents (c.args.job, c.args.number)
found c = c.find_document.ensures ∙ ap (first (λ (document : Document). (document.job == c.args.job) && (document.number == c.args.number))) c.as_slice.ensures
    ∙ sym (get_document c.self.inside.documents c.args.job c.args.number) ∙ ap (λ (room : RoomValue). get room.documents (c.args.job, c.args.number)) c.self.view_is

pub returns-clause-document : goal.returns-clause-document
returns-clause-document c = found c

pub returns-clause-by_the_rules : goal.returns-clause-by_the_rules
returns-clause-by_the_rules c =
    copied_keeps (IsDocumentAt (c.args.job, c.args.number)) c.find_document.result _ (found c) ((subst IsRoom c.self.view_is c.self.invariant.3).documents (c.args.job, c.args.number))

pub returns-clause-is_there : goal.returns-clause-is_there
returns-clause-is_there c = is_some-copied c.find_document.result ∙ ap is_some (found c) ∙ (subst IsRoom c.self.view_is c.self.invariant.3).all_documents c.args.job c.args.number
