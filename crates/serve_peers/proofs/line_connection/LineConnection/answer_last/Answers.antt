use Rattle.std.proofs.Common.{◌++◌, ℕ, List, take, ap, subst, ◌∙◌, inr}
use Rattle.input_lines.specs.Backups.{IsBackupOf}
use Rattle.serve_peers.proofs.LineEnds.{on_err, takes_backup, takes_bad}
use Rattle.serve_peers.specs.Lines.{input_of, output_of}
use Rattle.serve_peers.proofs.line_connection.LineConnection.answer_last.Goals as goal

pub returns-in_err-put_bad-clause-lost : goal.returns-in_err-put_bad-clause-lost
returns-in_err-put_bad-clause-lost g c = on_err _ _ (inr (_, takes_bad g.S.Store _ _ _ _ _ c.requires.first c.requires.plain c.advance.ensures.items c.log_refused_line.ensures))

pub returns-in_err-put_slice-clause-lost : goal.returns-in_err-put_slice-clause-lost
returns-in_err-put_slice-clause-lost g c =
    let said : IsBackupOf (take c.args.end (input_of c.args.self.now)) c.in-Some.line = subst (λ (text : List ℕ). IsBackupOf (take c.args.end text) c.in-Some.line) c.as_slice.ensures c.in-Some.ensures.1 in
    on_err _ _ (inr (_, takes_backup g.S.Store _ _ _ _ _ _ _ c.requires.first c.requires.plain c.advance-2.ensures.items c.in-Some.ensures.0 said c.in_ok-told.ensures.asks))

pub returns-clause-taken : goal.returns-clause-taken
returns-clause-taken g c =
    let said : IsBackupOf (take c.args.end (input_of c.args.self.now)) c.in-Some.line = subst (λ (text : List ℕ). IsBackupOf (take c.args.end text) c.in-Some.line) c.as_slice.ensures c.in-Some.ensures.1 in
    (_, takes_backup g.S.Store _ _ _ _ _ _ _ c.requires.first c.requires.plain c.advance-2.ensures.items c.in-Some.ensures.0 said c.in_ok-told.ensures.asks, c.in_ok-put_slice.ensures.ok ∙ ap (λ (text : List ℕ). output_of c.args.self.now ++ text) c.text.ensures)
