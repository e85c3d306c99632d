use Rattle.cli_commands.proofs.tables.outcomes_of.Goals as goal

pub returns-in-Ok-clause-applied : goal.returns-in-Ok-clause-applied
returns-in-Ok-clause-applied g c = (c.in_ok-store.store, c.run_events-outcomes.new.store, c.in-Ok.ensures.applied)
