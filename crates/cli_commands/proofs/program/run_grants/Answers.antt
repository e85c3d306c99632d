use Rattle.std.proofs.Common.{◌≡◌, List, Some, ap, false, map, rules, subst, sym, ◌∙◌}
use Rattle.std.specs.Io.KnownBytes.{Appends}
use Rattle.std.specs.List.{filter_map}
use Rattle.account_machine.specs.Events.{Timed, plain_timed}
use Rattle.input_fields.specs.declared.grant_line.GrantLine.{GrantLine}
use Rattle.input_fields.specs.Streams.{MayBeLeft}
use Rattle.room_serve.specs.Runs.{AreApplied}
use Rattle.room_serve.specs.declared.outcome.Outcome.{Outcome}
use Rattle.cli_commands.specs.Grants.{grant_event}
use Rattle.cli_commands.specs.Outcomes.{first_failure, records_text}
use Rattle.cli_commands.specs.Runs.{At, RunsGrants}
use Rattle.cli_commands.proofs.Ended.{of_ok, on_ok_both}
use Rattle.cli_commands.proofs.program.run_grants.Goals as goal

pub returns : goal.returns
returns g c =
    let moment = c.in_ok-moment.moment in
    let told : c.args.now ≡ Some moment = search rules in
    let records = c.in_ok-records.records.items in
    let outcomes = c.in_ok-outcomes.outcomes.items in
    let applied = c.in_ok-outcomes.ensures.applied in
    let same : map plain_timed c.as_slice-2.result.now ≡ map plain_timed (filter_map (grant_event moment) records) =
    ap (map plain_timed) (c.as_slice-2.ensures.value ∙ c.in_ok-events.ensures.grants ∙ ap (filter_map (grant_event moment)) c.as_slice.ensures.value) in
    on_ok_both {R = At c.args.now (RunsGrants g.S.Store (g.W.Write.contents c.args.output.now) (g.W.Write.contents c.print_grants-printed.new.output) (MayBeLeft (g.R.Read.remaining c.args.input) false))} c.ended.result (λ none written.
    let printed = of_ok c.print_grants-printed.result written c.print_grants-printed.ensures in
    let of_records = subst (λ (records : List GrantLine). Appends (g.W.Write.contents c.args.output.now) (g.W.Write.contents c.print_grants-printed.new.output) (records_text 1 records c.as_slice-4.result.now)) c.as_slice-3.ensures.value printed in (
      moment,
      told,
      (
        records,
        c.in_ok-records.ensures.said,
        record {
          old = applied.0;
          new = applied.1;
          outcomes = outcomes;
          applied = subst (λ (events : List Timed). AreApplied g.S.Store events outcomes applied.0 applied.1) same applied.2;
          answered = ap first_failure (sym c.as_slice-5.ensures.value) ∙ sym c.first_failure.ensures ∙ none;
          appends = subst (λ (outcomes : List Outcome). Appends (g.W.Write.contents c.args.output.now) (g.W.Write.contents c.print_grants-printed.new.output) (records_text 1 records outcomes)) c.as_slice-4.ensures.value of_records;
        },
      ),
    )) c.ended.ensures.answered c.ended.ensures.printed
