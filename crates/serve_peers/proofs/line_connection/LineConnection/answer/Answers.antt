use Rattle.std.proofs.Common.{◌≡◌, ℕ, false, true, List, Some, take, rules, sym, ap, ◌∙◌, subst, inr}
use Rattle.input_lines.specs.declared.lines.Grammar.{Grammar}
use Rattle.serve_peers.specs.ProofServices.{one_more, stays}
use Rattle.serve_peers.proofs.LineEnds.{on_err, takes_entry}
use Rattle.serve_peers.specs.Journals.{moment_of}
use Rattle.serve_peers.specs.Lines.{IsEntryOf, grammar_of, has_control, input_of, line_end}
use Rattle.serve_peers.specs.OwnDevices.{is_own}
use Rattle.serve_peers.proofs.line_connection.LineConnection.answer.Goals as goal

pub returns-in_default-clause-continues : goal.returns-in_default-clause-continues
returns-in_default-clause-continues g c = stays g.S.Store c.args.served.now

pub returns-in_err-entry-clause-continues : goal.returns-in_err-entry-clause-continues
returns-in_err-entry-clause-continues g c = stays g.S.Store c.args.served.now

pub returns-in_err-put_told-in-Some-2-clause-continues : goal.returns-in_err-put_told-in-Some-2-clause-continues
returns-in_err-put_told-in-Some-2-clause-continues g c = one_more g.S.Store _ _ _ _ c.in_ok-told-in-Some-2.ensures.applies

pub returns-in_ok-put_told-in-Some-2-clause-continues : goal.returns-in_ok-put_told-in-Some-2-clause-continues
returns-in_ok-put_told-in-Some-2-clause-continues g c = one_more g.S.Store _ _ _ _ c.in_ok-told-in-Some-2.ensures.applies

pub returns-in_err-put_told-in-Some-2-clause-lost : goal.returns-in_err-put_told-in-Some-2-clause-lost
returns-in_err-put_told-in-Some-2-clause-lost g c =
    let input = input_of c.args.self.now in
    let first : line_end input ≡ Some c.in-Some.end = ap line_end (sym c.as_slice.ensures) ∙ sym c.in-Some.ensures.place in
    let plain : has_control (take c.in-Some.end input) ≡ false = search rules in
    let own : is_own c.args.self.now.side (take c.in-Some.end input) ≡ true = search rules in
    let said : IsEntryOf (grammar_of c.args.self.now.side (moment_of c.args.served.now)) (take c.in-Some.end input) c.in-Some-2.entry = subst (λ (text : List ℕ). IsEntryOf (grammar_of c.args.self.now.side (moment_of c.args.served.now)) (take c.in-Some.end text) c.in-Some-2.entry) c.as_slice-4.ensures (subst (λ (grammar : Grammar). IsEntryOf grammar (take c.in-Some.end c.as_slice-4.result.now) c.in-Some-2.entry) c.grammar-grammar.ensures (rw c.in-Some-2.is at c.in_ok-entry.ensures)) in
    on_err _ _ (inr (_, takes_entry g.S.Store _ _ _ _ _ _ _ first plain c.advance.ensures.items own said c.in_ok-told-in-Some-2.ensures.applies))

pub returns-in_ok-put_told-in-Some-2-clause-taken : goal.returns-in_ok-put_told-in-Some-2-clause-taken
returns-in_ok-put_told-in-Some-2-clause-taken g c = λ _.
    let input = input_of c.args.self.now in
    let first : line_end input ≡ Some c.in-Some.end = ap line_end (sym c.as_slice.ensures) ∙ sym c.in-Some.ensures.place in
    let plain : has_control (take c.in-Some.end input) ≡ false = search rules in
    let own : is_own c.args.self.now.side (take c.in-Some.end input) ≡ true = search rules in
    let said : IsEntryOf (grammar_of c.args.self.now.side (moment_of c.args.served.now)) (take c.in-Some.end input) c.in-Some-2.entry = subst (λ (text : List ℕ). IsEntryOf (grammar_of c.args.self.now.side (moment_of c.args.served.now)) (take c.in-Some.end text) c.in-Some-2.entry) c.as_slice-4.ensures (subst (λ (grammar : Grammar). IsEntryOf grammar (take c.in-Some.end c.as_slice-4.result.now) c.in-Some-2.entry) c.grammar-grammar.ensures (rw c.in-Some-2.is at c.in_ok-entry.ensures)) in
    (_, takes_entry g.S.Store _ _ _ _ _ _ _ first plain c.advance.ensures.items own said c.in_ok-told-in-Some-2.ensures.applies, c.in_ok-put_told-in-Some-2.ensures)
