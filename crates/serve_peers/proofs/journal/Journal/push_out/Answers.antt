use Rattle.std.proofs.Common.{map}
use Rattle.serve_peers.proofs.Telling.{told_kept}
use Rattle.serve_peers.specs.Tolds.{round_in}
use Rattle.serve_peers.proofs.journal.Journal.push_out.Goals as goal

pub invariant_of-self : goal.invariant_of-self
invariant_of-self c = record {
  told = told_kept c.args.self.now.log c.push_out.new.log (map round_in c.args.self.now.over.items) c.args.self.now.under_way.items c.push_out.ensures c.args.self.now.told;
  none_open = c.args.self.now.none_open;
  watched = c.args.self.now.watched;
}
