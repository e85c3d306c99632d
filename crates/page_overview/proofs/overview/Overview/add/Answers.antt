use Rattle.std.proofs.Common.{List, [], ◌∷◌, ◌++◌, length, map, slice_index, sym, ap, ◌∙◌, arith}
use Rattle.std.specs.List.{filter_map, flat_map}
use Rattle.std.proofs.lemmas.List.{flat_map_more, map_push}
use Rattle.page_pages.specs.declared.accounts.AccountLine.{AccountLine}
use Rattle.page_pages.specs.declared.begun.BegunLine.{BegunLine}
use Rattle.page_pages.specs.declared.longest.LongestLine.{LongestLine}
use Rattle.account_rules.specs.declared.job.Job.{Job}
use Rattle.page_overview.proofs.OldestKept.{oldest_of_jobs}
use Rattle.page_overview.proofs.Sums.{one_more}
use Rattle.page_overview.specs.Lines.{account_line, begun_line, begun_lines, longest_line, longest_lines}
use Rattle.page_overview.specs.Overviews.{Surveyed, begun_at, made_at, oldest}
use Rattle.page_overview.specs.declared.survey.Survey.{Survey}
use Rattle.page_overview.proofs.overview.Overview.add.Goals as goal

abbrev of_account : Surveyed → AccountLine
of_account it = account_line it.0 it.1

abbrev begun_of : Surveyed → List BegunLine
begun_of it = begun_lines it.0 it.1.unfinished

abbrev waits_of : Surveyed → List LongestLine
waits_of it = longest_lines it.0 it.1.unfinished

pub returns-clause-shows : goal.returns-clause-shows
returns-clause-shows c surveys shows =
    let it : Surveyed = (c.args.account, c.args.survey.now) in
    let jobs = c.as_slice-jobs.ensures in
    record {
      waiting = omega (arith, c.saturating_add-self.ensures, shows.waiting, one_more (λ (s : Survey). length s.unfinished) surveys it, ap length jobs);
      unsettled = omega (arith, c.saturating_add-self-2.ensures, shows.unsettled, one_more (λ (s : Survey). s.summary.processing) surveys it);
      beyond = omega (arith, c.saturating_add-self-3.ensures, shows.beyond, one_more (λ (s : Survey). s.summary.beyond_then) surveys it);
      charged = omega (arith, c.saturating_add-self-4.ensures, shows.charged, one_more (λ (s : Survey). s.summary.charged_then) surveys it);
      days = λ place within. omega (arith, c.add_days.ensures place within, shows.days place within, one_more (λ (s : Survey). slice_index s.days place) surveys it);
      begun = oldest_of_jobs begun_at (begun_line c.args.account) c.args.self.now.begun.items c.put_begun.new.lines.items (flat_map begun_of surveys) c.as_slice-jobs.result.now c.in_ok-put_begun.ensures shows.begun
          ∙ ap (λ (jobs : List Job). oldest begun_at (flat_map begun_of surveys ++ filter_map (begun_line c.args.account) jobs)) jobs
          ∙ ap (λ (lines : List BegunLine). oldest begun_at lines) (flat_map_more begun_of [] surveys it);
      longest = oldest_of_jobs made_at (longest_line c.args.account) c.args.self.now.longest.items c.put_longest.new.lines.items (flat_map waits_of surveys) c.as_slice-jobs.result.now c.in_ok-put_longest.ensures shows.longest
          ∙ ap (λ (jobs : List Job). oldest made_at (flat_map waits_of surveys ++ filter_map (longest_line c.args.account) jobs)) jobs
          ∙ ap (λ (lines : List LongestLine). oldest made_at lines) (flat_map_more waits_of [] surveys it);
      accounts = c.in_ok-push.ensures.items
          ∙ ap (λ (lines : List AccountLine). lines ++ c.account_line.result ∷ []) shows.accounts
          ∙ ap (λ (line : AccountLine). map of_account surveys ++ line ∷ []) c.account_line.ensures
          ∙ sym (map_push of_account surveys it);
    }
