use Rattle.std.proofs.Common.{Result, Err, refl, subst, sym}
use Rattle.sqlite.specs.Held.{state}
use Rattle.account_machine.specs.declared.verdict.Answered.{Answered}
use Rattle.store_events.specs.Applied.{AppliesFully}
use Rattle.store_rounds.specs.declared.fault.StoreFault.{StoreFault}
use Rattle.store_rounds.specs.declared.fault.StoreFault.TheVariants.{Storage}
use Rattle.serve_peers.proofs.Again.{again_fully}
use Rattle.serve_peers.specs.Entries.{event_of_entry, moment_at}
use Rattle.serve_peers.proofs.full_disk.apply_again_from_space.Goals as goal

pub returns : goal.returns
returns g c = λ held first.
    let now = moment_at c.args.entry.now in
    let e = event_of_entry c.args.entry.now in
    let old = state g.S.Store held in
    let mid = state g.S.Store c.args.rounds.now in
    let new = state g.S.Store c.apply_in_own_transaction.new.rounds in
    let told = c.apply_in_own_transaction.result in
    let failed : AppliesFully now e old mid (Err Storage) = subst (λ (it : Result Answered StoreFault). AppliesFully now e old mid it) (c.if-not-frees_space.ensures.failed refl) first in
    subst (λ (it : Result Answered StoreFault). AppliesFully now e old new it) (sym c.answer_at_last-answer.ensures) (again_fully now e old mid new failed.applies told c.apply_in_own_transaction.ensures)
