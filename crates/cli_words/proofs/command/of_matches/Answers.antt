use Rattle.cli_words.specs.Words.{placed, texts}
use Rattle.cli_words.proofs.command.of_matches.Goals as goal

pub returns-in-Some-send-default-clause-said : goal.returns-in-Some-send-default-clause-said
returns-in-Some-send-default-clause-said c = c.send_command.ensures.said (placed (texts c.args.words.now))

pub returns-in-Some-ping-default-clause-said : goal.returns-in-Some-ping-default-clause-said
returns-in-Some-ping-default-clause-said c = c.errand.ensures.said (placed (texts c.args.words.now))

pub returns-in-Some-end-default-clause-said : goal.returns-in-Some-end-default-clause-said
returns-in-Some-end-default-clause-said c = c.errand-in-Some-end-default.ensures.said (placed (texts c.args.words.now))

pub returns-in_ok-report_task-in-Some-report-default-clause-said : goal.returns-in_ok-report_task-in-Some-report-default-clause-said
returns-in_ok-report_task-in-Some-report-default-clause-said c = c.errand-in-Some-report-default.ensures.said (placed (texts c.args.words.now))

pub returns-in_ok-waiting_task-in-Some-waiting-default-clause-said : goal.returns-in_ok-waiting_task-in-Some-waiting-default-clause-said
returns-in_ok-waiting_task-in-Some-waiting-default-clause-said c = c.errand-in-Some-waiting-default.ensures.said (placed (texts c.args.words.now))

pub returns-in_ok-expire_task-in-Some-expire-default-clause-said : goal.returns-in_ok-expire_task-in-Some-expire-default-clause-said
returns-in_ok-expire_task-in-Some-expire-default-clause-said c = c.errand-in-Some-expire-default.ensures.said (placed (texts c.args.words.now))

pub returns-in_ok-refund_task-in-Some-refund-default-clause-said : goal.returns-in_ok-refund_task-in-Some-refund-default-clause-said
returns-in_ok-refund_task-in-Some-refund-default-clause-said c = c.errand-in-Some-refund-default.ensures.said (placed (texts c.args.words.now))

pub returns-in-Some-clause-said : goal.returns-in-Some-clause-said
returns-in-Some-clause-said c = c.owner_command.ensures.said (placed (texts c.args.words.now))
