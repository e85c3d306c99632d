use Rattle.std.proofs.Common.{Bool, ap, sym, ◌∙◌}
use Rattle.http_server.specs.declared.log.Log.{Log}
use Rattle.account_machine.specs.declared.verdict.Answered.{Answered}
use Rattle.store_rounds.specs.declared.fault.StoreFault.{StoreFault}
use Rattle.std.specs.Prelude.{Result}
use Rattle.serve_peers.proofs.Telling.{told_nothing}
use Rattle.serve_peers.proofs.Watched.{begun}
use Rattle.serve_peers.specs.declared.entry.Entry.{Entry}
use Rattle.serve_peers.proofs.journal.Journal.add_slice.Goals as goal

pub invariant_of-self : goal.invariant_of-self
invariant_of-self c =
    let under_way = c.args.self.now.under_way.items in
    record {
      told = told_nothing c.args.self.now.log c.args.self.now.over.items c.and-over.result.items c.new-nothing.result under_way c.args.self.now.told c.and-over.ensures c.new-nothing.ensures;
      none_open = c.args.self.now.none_open;
      watched = begun c.begin-self.result c.and-over.result.items under_way (ap (λ (log : Log (Log Entry (Result Answered StoreFault)) Bool). log.items) c.begin-self.ensures.seen ∙ c.and-seen.ensures ∙ sym c.and-over.ensures) c.begin-self.ensures.since (λ untouched. c.args.self.now.none_open (sym c.begin-self.ensures.touched ∙ untouched));
    }
