use Rattle.std.proofs.Common.{◌≡◌, List, ap, length, map, rules, subst, sym, ◌∙◌}
use Rattle.std.specs.Io.KnownBytes.{Appends}
use Rattle.std.specs.List.{flat_map}
use Rattle.account_machine.specs.Events.{Timed, plain_timed}
use Rattle.room_serve.specs.Runs.{AreApplied}
use Rattle.room_serve.specs.declared.outcome.Outcome.{Outcome}
use Rattle.cli_commands.specs.Outcomes.{first_failure, outcome_lines}
use Rattle.cli_commands.specs.Runs.{RunsLines, event_of_line}
use Rattle.cli_commands.proofs.Ended.{events_of_lines, of_ok, on_ok_both}
use Rattle.cli_commands.proofs.program.run_lines.Goals as goal

pub returns : goal.returns
returns g c =
    let applied = c.in_ok-outcomes.ensures.applied in
    let count : length c.in_ok-events.events.items ≡ length c.args.lines.now = search rules in
    let same : map plain_timed c.as_slice.result.now ≡ map event_of_line c.args.lines.now =
    ap (map plain_timed) c.as_slice.ensures.value ∙ events_of_lines c.args.lines.now c.in_ok-events.events.items count c.in_ok-events.ensures.each in
    on_ok_both {R = RunsLines g.S.Store (g.W.Write.contents c.args.output.now) (g.W.Write.contents c.print_outcomes-printed.new.output) (map event_of_line c.args.lines.now)} c.ended.result (λ none written. record {
      old = applied.0;
      new = applied.1;
      outcomes = c.in_ok-outcomes.outcomes.items;
      applied = subst (λ (events : List Timed). AreApplied g.S.Store events c.in_ok-outcomes.outcomes.items applied.0 applied.1) same applied.2;
      answered = ap first_failure (sym c.as_slice-3.ensures.value) ∙ sym c.first_failure.ensures ∙ none;
      appends = subst (λ (outcomes : List Outcome). Appends (g.W.Write.contents c.args.output.now) (g.W.Write.contents c.print_outcomes-printed.new.output) (flat_map outcome_lines outcomes)) c.as_slice-2.ensures.value
          (of_ok c.print_outcomes-printed.result written c.print_outcomes-printed.ensures);
    }) c.ended.ensures.answered c.ended.ensures.printed
