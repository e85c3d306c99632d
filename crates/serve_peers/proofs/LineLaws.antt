-- What a line is told is what its machine has.
use Rattle.std.proofs.Common.{◌≡◌, ◌∙◌, Some, Ok, Err, ap, subst}
use Rattle.sqlite.specs.Held.{state}
use Rattle.sqlite_trees.specs.declared.store.Store.{Ghosts}
use Rattle.account_machine.specs.Events.{PlainEvent, OfAccount}
use Rattle.account_machine.specs.Machine.{Answer, answered}
use Rattle.account_machine.specs.declared.event.Reply.{Reply}
use Rattle.account_machine.specs.declared.verdict.Verdict.{Verdict}
use Rattle.store_events.specs.Applied.{HasVerdict, IsTold}
use Rattle.serve_peers.specs.Entries.{event_of_entry, moment_at}
use Rattle.serve_peers.specs.LineLaws.{LinesTellVerdicts}
use Rattle.serve_peers.specs.LineTexts.{reply_text}

pub lines_tell : {S : Type 0} (store : Ghosts S) → LinesTellVerdicts store
lines_tell store entry old new (Err fault) applies name it is clean has room devices holds held = tt
lines_tell store entry old new (Ok got) applies name it is clean has room devices holds held =
    let before = (state store old).now in
    let answer : Answer = answered room devices (moment_at entry) (OfAccount name it) in
    let told : IsTold (moment_at entry) (event_of_entry entry) before got.reply = (applies.applies.answered clean has).is_told in
    let reply : got.reply ≡ answer.reply = subst (λ (e : PlainEvent). IsTold (moment_at entry) e before got.reply) is told room devices holds held in
    let verdict : got.verdict ≡ answer.verdict = subst (λ (e : PlainEvent). HasVerdict (moment_at entry) e before got.verdict) is (applies.verdict clean has) room devices holds held in
    ap (λ (verdict : Verdict). reply_text (Some verdict) got.reply) verdict ∙ ap (λ (reply : Reply). reply_text (Some answer.verdict) reply) reply
