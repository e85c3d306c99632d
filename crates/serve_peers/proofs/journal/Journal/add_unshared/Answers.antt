use Rattle.std.proofs.Common.{◌≡◌, true, false, [], ◌∷◌, ◌++◌, List, ap, subst, sym, ◌∙◌}
use Rattle.serve_peers.specs.Tolds.{Told}
use Rattle.serve_peers.specs.Watching.{since_by, told_in, touched_in}
use Rattle.serve_peers.specs.declared.account_watch.Watch.{Watch}
use Rattle.serve_peers.proofs.Telling.{told_alone}
use Rattle.serve_peers.proofs.Watched.{by_itself, closed, noted}
use Rattle.serve_peers.proofs.journal.Journal.add_unshared.Goals as goal

pub invariant_of-self : goal.invariant_of-self
invariant_of-self c =
    let one : Told = (c.args.entry.now, c.args.told.now) in
    let was = c.args.self.now.watch in
    let under_way = c.args.self.now.under_way.items in
    let round : c.and-round.result.items ≡ one ∷ [] = c.and-round.ensures ∙ ap (λ (items : List Told). items ++ one ∷ []) c.new.ensures in
    record {
      told = told_alone c.args.self.now.log c.note.new.log c.args.self.now.over.items c.and-self.result.items c.and-round.result under_way one c.args.self.now.told c.note.ensures c.and-self.ensures round;
      none_open = c.args.self.now.none_open;
      watched = closed was c.close.new.self c.args.self.now.over.items c.and-self.result.items under_way under_way c.args.self.now.watched (c.close.ensures.account ∙ ap (λ (watch : Watch). watch.account) c.note-2.ensures) (c.close.ensures.seen ∙ ap (λ (watch : Watch). watch.seen) c.note-2.ensures)
          c.and-round.result true (c.close.ensures.since ∙ ap (λ (watch : Watch). watch.since.items ++ (c.and-round.result, true) ∷ []) c.note-2.ensures) c.and-self.ensures
          (λ untouched. let note = noted was c.note-2.new.self one c.note-2.ensures (sym c.close.ensures.touched ∙ untouched) in (note.0, λ all. subst (λ (items : List Told). touched_in was.account ((told_in (since_by was) ++ items) ++ under_way) ≡ false) (sym round) (by_itself was.account (told_in (since_by was)) under_way (one ∷ []) note.1 all)));
    }
