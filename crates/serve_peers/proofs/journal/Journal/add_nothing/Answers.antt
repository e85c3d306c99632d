use Rattle.std.proofs.Common.{◌≡◌, false, [], ◌++◌, List, refl, subst, sym, ◌∙◌}
use Rattle.serve_peers.specs.Tolds.{Told}
use Rattle.serve_peers.specs.Watching.{since_by, told_in, touched_in}
use Rattle.serve_peers.proofs.Telling.{told_nothing}
use Rattle.serve_peers.proofs.Watched.{by_itself, closed}
use Rattle.serve_peers.proofs.journal.Journal.add_nothing.Goals as goal

pub invariant_of-self : goal.invariant_of-self
invariant_of-self c =
    let was = c.args.self.now.watch in
    let under_way = c.args.self.now.under_way.items in
    record {
      told = told_nothing c.args.self.now.log c.args.self.now.over.items c.and-self.result.items c.new-nothing.result under_way c.args.self.now.told c.and-self.ensures c.new-nothing.ensures;
      none_open = c.args.self.now.none_open;
      watched = closed was c.close.new.self c.args.self.now.over.items c.and-self.result.items under_way under_way c.args.self.now.watched c.close.ensures.account c.close.ensures.seen c.new-nothing.result false c.close.ensures.since c.and-self.ensures
          (λ untouched. (sym c.close.ensures.touched ∙ untouched, λ all. subst (λ (items : List Told). touched_in was.account ((told_in (since_by was) ++ items) ++ under_way) ≡ false) (sym c.new-nothing.ensures) (by_itself was.account (told_in (since_by was)) under_way [] refl all)));
    }
