use Rattle.std.proofs.Common.{◌≡◌, false, [], ◌∷◌, ◌++◌, List, map, refl, ap, subst, sym}
use Rattle.std.proofs.lemmas.Bool.{true≢false}
use Rattle.serve_peers.specs.Tolds.{Told, round_in}
use Rattle.serve_peers.specs.Watching.{since_by, told_in, touched_in}
use Rattle.serve_peers.specs.declared.account_watch.Watch.{Watch}
use Rattle.serve_peers.proofs.Telling.{told_shared}
use Rattle.serve_peers.proofs.Watched.{grown, in_round, noted}
use Rattle.serve_peers.proofs.journal.Journal.add_shared.Goals as goal

pub invariant_of-self : goal.invariant_of-self
invariant_of-self c =
    let one : Told = (c.args.entry.now, c.args.told.now) in
    let was = c.args.self.now.watch in
    let under_way = c.args.self.now.under_way.items in
    record {
      told = told_shared c.args.self.now.log c.draft.new.log (map round_in c.args.self.now.over.items) under_way c.and-self.result.items one c.args.self.now.told c.draft.ensures c.and-self.ensures;
      none_open = λ is. absurd (true≢false is);
      watched = grown was c.note.new.self c.args.self.now.over.items c.args.self.now.over.items under_way c.and-self.result.items c.args.self.now.watched (ap (λ (watch : Watch). watch.account) c.note.ensures) (ap (λ (watch : Watch). watch.seen) c.note.ensures) (ap (λ (watch : Watch). watch.since) c.note.ensures) refl
          (λ untouched. let note = noted was c.note.new.self one c.note.ensures untouched in (note.0, λ all. subst (λ (items : List Told). touched_in was.account (told_in (since_by was) ++ items) ≡ false) (sym c.and-self.ensures) (in_round was.account (told_in (since_by was)) under_way (one ∷ []) note.1 all)));
    }
