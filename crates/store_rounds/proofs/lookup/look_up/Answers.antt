use Rattle.std.proofs.Common.{sym, ◌∙◌}
use Rattle.account_state.proofs.Lookups.{none_so_numbered}
use Rattle.store_rounds.proofs.FoundJobs.{found_so, numbered_so}
use Rattle.store_rounds.proofs.LookLemmas.{looks_read}
use Rattle.store_rounds.proofs.lookup.look_up.Goals as goal

pub returns-then-not-may_be_job-clause-found : goal.returns-then-not-may_be_job-clause-found
returns-then-not-may_be_job-clause-found g c clean has room holds =
    sym (none_so_numbered room c.args.number holds.is_room (sym c.may_be_job.ensures ∙ c.if-not-may_be_job.true))

pub returns-clause-found : goal.returns-clause-found
returns-clause-found g c clean has room holds = found_so c.find_job.result _ c.args.account c.args.number (c.find_job.ensures.found clean has) c.find_job.ensures.in_range room holds

pub returns-clause-damaged : goal.returns-clause-damaged
returns-clause-damaged g c clean has is readable = c.find_job.ensures.damaged clean has is (readable (sym c.may_be_job.ensures ∙ c.if-not-may_be_job.false))

pub returns-clause-in_range : goal.returns-clause-in_range
returns-clause-in_range g c = numbered_so c.find_job.result c.args.number (sym c.may_be_job.ensures ∙ c.if-not-may_be_job.false) c.find_job.ensures.in_range

pub returns-clause-looks : goal.returns-clause-looks
returns-clause-looks g c = looks_read g.S.Store c.args.connection.now c.find_job.new.connection c.find_job.result c.find_job.ensures.reads
