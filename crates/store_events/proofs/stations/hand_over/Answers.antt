use Rattle.std.proofs.Common.{List, map, Err, OnOk, Result, sym, ap, subst, ◌∙◌, arith}
use Rattle.std.proofs.lemmas.Result.{err_from_is_err_and}
use Rattle.std.specs.Prelude.{⊤}
use Rattle.sqlite.specs.Held.{state}
use Rattle.sqlite.specs.State.{HasCleanDisk}
use Rattle.account_machine.specs.Stations.{start_told}
use Rattle.account_machine.specs.Steps.{with_moved}
use Rattle.account_machine.specs.Verdicts.{line_done}
use Rattle.account_machine.specs.declared.event.Reply.TheVariants as reply
use Rattle.account_machine.specs.declared.verdict.Answered.{Answered}
use Rattle.account_machine.specs.declared.verdict.Verdict.{Verdict}
use Rattle.account_replies.specs.declared.part.Part.{Part}
use Rattle.account_replies.specs.Parts.{part_of}
use Rattle.account_rules.specs.declared.job.Document.{Document}
use Rattle.account_rules.specs.declared.job.Standing.{Standing}
use Rattle.account_rules.specs.declared.refusal.Word.{Word}
use Rattle.store_rounds.specs.ProofKnown.{HasJobRow}
use Rattle.store_events.specs.Reading.{DocumentsAreReadable}
use Rattle.store_events.proofs.ServingLemmas.{handed, read_failed_as, serves_after_so}
use Rattle.store_rounds.proofs.LookLemmas.{read_passed, goes_after}
use Rattle.store_events.proofs.StepLemmas.{steps_as, refuses_as}
use Rattle.store_events.proofs.Stood.{not_stood, stood}
use Rattle.store_events.proofs.Staying.{unasked}
use Rattle.store_rounds.specs.Looks.{StaysOpen}
use Rattle.store_events.proofs.stations.hand_over.Goals as goal

-- the documents are answered, and the event came to this
abbrev handing : List Part → Verdict → Answered
handing parts verdict = record { reply = reply.Documents parts; verdict = verdict }

pub returns-in_err-documents-clause-served : goal.returns-in_err-documents-clause-served
returns-in_err-documents-clause-served g c known =
    let told = err_from_is_err_and c.from_residual.result c.from_residual.ensures.1 in
    read_failed_as _ _ _ _ _ g.S.Store _ _ c.from_residual.result told.0 _ told.1 told.2 c.in_err-documents.ensures.reads
    (λ clean has is readable. c.in_err-documents.ensures.damaged clean has (ap (λ e. Err e) is) (subst (λ (d : Result Standing Word). OnOk d (DocumentsAreReadable c.args.account c.args.job.now.job (state g.S.Store c.args.connection.now).now)) c.in-Ok.is readable))

pub returns-in_err-stand-clause-served : goal.returns-in_err-stand-clause-served
returns-in_err-stand-clause-served g c known =
    let old = c.args.connection.now in
    let mid = c.find_documents.new.connection in
    let new = c.stand.new.connection in
    let name = c.args.account in
    let job = c.args.job.now in
    let standing = c.in-Ok.standing in
    let said = handing (map (part_of standing.copies) c.in_ok-documents.documents) line_done in
    let passed = read_passed g.S.Store old mid _ c.in_ok-documents.ensures.reads in
    let made = c.in_err-stand.ensures in
    let fault = err_from_is_err_and c.from_residual-in_err-stand.result c.from_residual-in_err-stand.ensures.1 in
    steps_as g.S.Store old new name (λ room devices. record { reply = said.reply; verdict = line_done; room = with_moved room job.job standing }) (λ room devices. start_told room job.job c.args.decided) c.from_residual-in_err-stand.result
    (λ clean has of held.
    let was : HasCleanDisk (state g.S.Store mid) = omega (arith, made.stands.whole.keeps.clean, clean) in
    ap (λ (documents : List Document). record { reply = reply.Documents (map (part_of standing.copies) documents); verdict = line_done; room = with_moved of.0 job.job standing }) (c.in_ok-documents.ensures.listed was has of.0 held.room)
    ∙ ap (start_told of.0 job.job) (sym c.in-Ok.is))
    (handed _ _ _ _ _ g.S.Store old new c.from_residual-in_err-stand.result fault.0 _ fault.1 fault.2
    (serves_after_so _ _ _ _ _ g.S.Store old mid passed new (Err c.in_err-stand.field-0.0) (HasJobRow name job) (λ clean has readable. tt) (record { keeps = made.stands.whole.keeps; opened = λ clean. tt }) (λ clean new_clean has. subst (HasJobRow name job) (sym (passed.same clean has).now) (known new_clean has))
    (λ there. not_stood g.S.Store mid new name job standing (λ db. ⊤) said there c.in_err-stand.field-0.0 (λ clean has is. made.undamaged clean has (ap (λ e. Err e) is)) made.stands)))

pub returns-clause-served : goal.returns-clause-served
returns-clause-served g c known =
    let old = c.args.connection.now in
    let mid = c.find_documents.new.connection in
    let new = c.stand.new.connection in
    let name = c.args.account in
    let job = c.args.job.now in
    let standing = c.in-Ok.standing in
    let said = handing (map (part_of standing.copies) c.in_ok-documents.documents) line_done in
    let passed = read_passed g.S.Store old mid _ c.in_ok-documents.ensures.reads in
    let made = c.in_ok-stand.ensures in
    steps_as g.S.Store old new name (λ room devices. record { reply = said.reply; verdict = line_done; room = with_moved room job.job standing }) (λ room devices. start_told room job.job c.args.decided) _
    (λ clean has of held.
    let was : HasCleanDisk (state g.S.Store mid) = omega (arith, made.stands.whole.keeps.clean, clean) in
    ap (λ (documents : List Document). record { reply = reply.Documents (map (part_of standing.copies) documents); verdict = line_done; room = with_moved of.0 job.job standing }) (c.in_ok-documents.ensures.listed was has of.0 held.room)
    ∙ ap (start_told of.0 job.job) (sym c.in-Ok.is))
    (serves_after_so _ _ _ _ _ g.S.Store old mid passed new _ (HasJobRow name job) (λ clean has readable. tt) (record { keeps = made.stands.whole.keeps; opened = λ clean _. (made.stands.whole.opened clean).1 }) (λ clean new_clean has. subst (HasJobRow name job) (sym (passed.same clean has).now) (known new_clean has))
    (λ there. stood g.S.Store mid new name job standing (λ db. ⊤) said there _ (ap (handing c.in_ok-parts.parts) c.line_done.ensures ∙ ap (λ (parts : List Part). handing parts line_done) c.in_ok-parts.ensures.parts) made.stands))

pub returns-in-Err-clause-served : goal.returns-in-Err-clause-served
returns-in-Err-clause-served g c known =
    let old = c.args.connection.now in
    refuses_as g.S.Store old old c.args.account (unasked (state g.S.Store old)) (λ room devices. start_told room c.args.job.now.job c.args.decided) c.in-Err.word c.refused_by.result c.refused_by.ensures.answered c.refused_by.ensures.memory
    (λ clean has of held. ap (start_told of.0 c.args.job.now.job) c.in-Err.is)

pub returns-in_err-stand-clause-connection : goal.returns-in_err-stand-clause-connection
returns-in_err-stand-clause-connection g c =
    let mid = c.find_documents.new.connection in
    let new = c.stand.new.connection in
    let fault = err_from_is_err_and c.from_residual-in_err-stand.result c.from_residual-in_err-stand.ensures.1 in
    goes_after g.S.Store c.args.connection.now mid new c.from_residual-in_err-stand.result (read_passed g.S.Store _ _ _ c.in_ok-documents.ensures.reads)
    (subst (StaysOpen g.S.Store mid new) (sym fault.1) (record { keeps = c.in_err-stand.ensures.stands.whole.keeps; opened = λ clean. tt }))

pub returns-clause-connection : goal.returns-clause-connection
returns-clause-connection g c =
    let whole = c.in_ok-stand.ensures.stands.whole in
    goes_after g.S.Store c.args.connection.now c.find_documents.new.connection c.stand.new.connection _ (read_passed g.S.Store _ _ _ c.in_ok-documents.ensures.reads)
    (record { keeps = whole.keeps; opened = λ clean _. (whole.opened clean).1 })
