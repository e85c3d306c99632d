use Rattle.std.proofs.Common.{◌≡◌, ◌++◌, ◌∷◌, [], List, ℕ, None, IfOk, map, ap, ◌∙◌, subst}
use Rattle.std.specs.List.{flat_map}
use Rattle.ipp_coding.specs.Plain.{PlainGroup, plain_attribute}
use Rattle.ipp_coding.specs.Spelling.{group_spelling}
use Rattle.account_replies.specs.Places.{plain_place}
use Rattle.account_replies.specs.Replies.{reply_text}
use Rattle.account_replies.specs.Tables.{asked_names}
use Rattle.account_replies.specs.Responses.{success_status, selected_groups}
use Rattle.account_replies.proofs.Groups.{groups_as_wanted}
use Rattle.account_replies.proofs.response.with_jobs.Goals as goal

pub returns : goal.returns
returns g c =
    let jobs = map g.J.AsJob.job c.args.jobs.now in
    let unsupported = map plain_attribute c.args.unsupported.now in
    record {
      text = subst (λ (body : List ℕ). IfOk c.ended.result (λ text. text ≡ body))
          (ap (λ (front : List ℕ). front ++ 3 ∷ []) (c.in_ok-put_jobs.ensures.appended
          ∙ ap (λ (front : List ℕ). front ++ flat_map group_spelling (selected_groups (plain_place c.args.at.now) jobs c.of-selection.result)) c.in_ok-out.ensures.text
          ∙ ap (λ (groups : List PlainGroup). reply_text c.args.request (success_status unsupported) None unsupported ++ flat_map group_spelling groups)
          (groups_as_wanted (plain_place c.args.at.now) jobs c.of-selection.result (asked_names c.args.wanted) c.of-selection.ensures)))
          c.ended.ensures.text;
    }
