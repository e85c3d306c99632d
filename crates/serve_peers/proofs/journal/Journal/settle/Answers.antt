use Rattle.std.proofs.Common.{◌≡◌, false, [], ◌++◌, List, subst, sym, ◌∙◌}
use Rattle.serve_peers.specs.Tolds.{Told}
use Rattle.serve_peers.specs.Watching.{since_by, told_in, touched_in}
use Rattle.serve_peers.proofs.Telling.{told_settled}
use Rattle.serve_peers.proofs.Watched.{closed, settled}
use Rattle.serve_peers.proofs.journal.Journal.settle.Goals as goal

pub invariant_of-self : goal.invariant_of-self
invariant_of-self c =
    let was = c.args.self.now.watch in
    let under_way = c.args.self.now.under_way in
    record {
      told = told_settled c.args.self.now.log c.settle.new.log c.args.kept c.args.self.now.over.items c.and-self.result.items under_way c.new-self.result.items c.args.self.now.told c.settle.ensures c.and-self.ensures c.new-self.ensures;
      none_open = λ is. c.new-self.ensures;
      watched = closed was c.close.new.self c.args.self.now.over.items c.and-self.result.items under_way.items c.new-self.result.items c.args.self.now.watched c.close.ensures.account c.close.ensures.seen under_way c.args.kept c.close.ensures.since c.and-self.ensures
          (λ untouched. (sym c.close.ensures.touched ∙ untouched, λ all. subst (λ (items : List Told). touched_in was.account ((told_in (since_by was) ++ under_way.items) ++ items) ≡ false) (sym c.new-self.ensures) (settled was.account (told_in (since_by was)) under_way.items [] all)));
    }
