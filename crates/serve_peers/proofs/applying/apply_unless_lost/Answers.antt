use Rattle.std.proofs.Common.{ℕ, inl, subst, rules}
use Rattle.sqlite.specs.Held.{state}
use Rattle.account_machine.specs.Events.{PlainEvent, plain_event}
use Rattle.store_events.specs.Applied.{AppliesFully}
use Rattle.serve_peers.specs.Entries.{moment_at}
use Rattle.serve_peers.proofs.applying.apply_unless_lost.Goals as goal

pub returns : goal.returns
returns g c =
    let old = state g.S.Store c.args.rounds.now in
    let new = state g.S.Store c.apply.new.connection in
    let told = c.apply.result in
    inl (record {
      inside = search rules;
      applies = λ same. subst (λ (e : PlainEvent). AppliesFully (moment_at c.args.entry.now) e old new told) c.event.ensures.same (subst (λ (now : ℕ). AppliesFully now (plain_event c.event.result) old new told) c.moment.ensures (c.apply.ensures.applies same));
      within = c.apply.ensures.within;
      lost = c.apply.ensures.lost;
      shut = c.apply.ensures.shut;
      connection = c.apply.ensures.connection;
    })
