use Rattle.std.proofs.Common.{refl, rules}
use Rattle.serve_log.proofs.Writes.{none_drafted, noted}
use Rattle.serve_log.specs.LogLines.{line_text}
use Rattle.serve_log.specs.Waits.{drafts_of, logged_of, missed_of}
use Rattle.account_machine.specs.Events.{plain_event}
use Rattle.serve_log.proofs.event_log.EventLog.note.Goals as goal

pub returns-clause-notes : goal.returns-clause-notes
returns-clause-notes g c =
    let none = none_drafted (drafts_of c.args.self.now) (search rules) in
    noted (missed_of c.args.self.now) (missed_of c.draft.new.self) (missed_of c.settle.new.self) (logged_of c.args.self.now) (logged_of c.draft.new.self) (logged_of c.settle.new.self) (drafts_of c.args.self.now) (drafts_of c.draft.new.self) (line_text c.args.moment c.args.door (plain_event c.args.event.now) c.args.told.now) none c.draft.ensures.drafts c.draft.ensures.logged (c.settle.ensures.kept refl) c.settle.ensures.missed
