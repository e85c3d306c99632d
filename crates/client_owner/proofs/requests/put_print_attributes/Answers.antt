use Rattle.std.proofs.Common.{[], ◌∷◌, codes}
use Rattle.client_lines.proofs.Refused.{OnOk-map}
use Rattle.account_replies.specs.Attributes.{attribute_with}
use Rattle.account_rules.specs.Formats.{media_type}
use Rattle.client_owner.specs.Requests.{impressions, password}
use Rattle.client_owner.proofs.Spelled.{attributes-both}
use Rattle.client_owner.proofs.requests.put_print_attributes.Goals as goal

pub returns : goal.returns
returns c =
    let job = c.args.job.now in
    let name = attribute_with (codes "job-name") 0x42 job.name.now in
    let format = attribute_with (codes "document-format") 0x49 (media_type job.format) in
    let two = attributes-both (name ∷ []) (format ∷ []) _ _ _ c.in_ok-put_single.ensures c.in_ok-put_format.ensures in
    let three = attributes-both (name ∷ format ∷ []) (impressions job.impressions) _ _ _ two c.in_ok-put_impressions.ensures in
    OnOk-map c.put_password.result _ _
    (λ last. attributes-both (name ∷ format ∷ impressions job.impressions) (password job.password) _ _ _ three last)
    c.put_password.ensures
