use Rattle.std.proofs.Common.{◌≡◌, ℕ, ◌<◌, ◌≤◌, Bool, ◌&&◌, ◌∷◌, [], codes, ap, refl, arith}
use Rattle.std.proofs.lemmas.Slice.Eq.{text_from_reads}
use Rattle.std.specs.Prelude.{nat_le}
use Rattle.std.proofs.lemmas.Bool.{le-leb}
use Rattle.std.proofs.lemmas.Bool.Decides.{nat_tests}
use Rattle.std.specs.Bool.{IsTrue}
use Rattle.account_rules.specs.Limits.{last_next_job, may_be_job, most_impressions}
use Rattle.input_lines.specs.Actions.{are_impressions}
use Rattle.input_lines.proofs.lines.station_action.Goals as goal

is_job : (job : ℕ) → 1 ≤ job → job < last_next_job → IsTrue (may_be_job job)
is_job job some small = grind (arith, nat_tests)

both : (a b : Bool) → IsTrue a → IsTrue b → IsTrue (a && b)
both a b one other = rw one other

pub returns-in_ok-number-in-start-clause-range : goal.returns-in_ok-number-in-start-clause-range
returns-in_ok-number-in-start-clause-range c =
    let job = c.in_ok-number-in-start.ensures.range in
    is_job c.in_ok-number-in-start.field-0 job.0 (omega (arith, job.1))

pub returns-in_ok-choice-in-settle-clause-range : goal.returns-in_ok-choice-in-settle-clause-range
returns-in_ok-choice-in-settle-clause-range c =
    let job = c.in_ok-number-in-settle in
    let impressions = c.in_ok-number-in-settle-2 in
    both (may_be_job job.field-0) (nat_le impressions.field-0 most_impressions) (is_job job.field-0 job.ensures.range.0 (omega (arith, job.ensures.range.1))) (le-leb impressions.field-0 most_impressions impressions.ensures.range.1)

pub returns-in_ok-impressions-in-release-clause-range : goal.returns-in_ok-impressions-in-release-clause-range
returns-in_ok-impressions-in-release-clause-range c =
    let job = c.in_ok-number-in-release in
    let impressions = c.in_ok-impressions-in-release in
    both (may_be_job job.field-0) (are_impressions impressions.field-0) (is_job job.field-0 job.ensures.range.0 (omega (arith, job.ensures.range.1))) impressions.ensures.range

pub returns-in_ok-number-in-start-clause-said : goal.returns-in_ok-number-in-start-clause-said
returns-in_ok-number-in-start-clause-said c =
    let kind : c.args.kind.now ≡ codes "start" = text_from_reads c.args.kind.now (codes "start") (omega arith) (omega arith, (omega arith, (omega arith, (omega arith, (omega arith, tt))))) in
    let device = c.in_ok-name-in-start in
    let account = c.in_ok-name-in-start-2 in
    let job = c.in_ok-number-in-start.ensures.said in
    let fields = device.field-0 ∷ account.field-0 ∷ job.0 ∷ [] in
    (fields, (_, device.ensures.said, (_, account.ensures.said, (_, job.1, refl))), (job.0, ap (λ k. k ∷ fields) kind, job.2))

pub returns-in_ok-choice-in-settle-clause-said : goal.returns-in_ok-choice-in-settle-clause-said
returns-in_ok-choice-in-settle-clause-said c =
    let kind : c.args.kind.now ≡ codes "settle" = text_from_reads c.args.kind.now (codes "settle") (omega arith) (omega arith, (omega arith, (omega arith, (omega arith, (omega arith, (omega arith, tt)))))) in
    let device = c.in_ok-name-in-settle in
    let account = c.in_ok-name-in-settle-2 in
    let job = c.in_ok-number-in-settle.ensures.said in
    let impressions = c.in_ok-number-in-settle-2.ensures.said in
    let failed = c.in_ok-choice-in-settle.ensures.said in
    let fields = device.field-0 ∷ account.field-0 ∷ job.0 ∷ impressions.0 ∷ failed.0 ∷ [] in
    (fields, (_, device.ensures.said, (_, account.ensures.said, (_, job.1, (_, impressions.1, (_, failed.1, refl))))), (job.0, impressions.0, failed.0, ap (λ k. k ∷ fields) kind, job.2, impressions.2, failed.2))

pub returns-in_ok-impressions-in-release-clause-said : goal.returns-in_ok-impressions-in-release-clause-said
returns-in_ok-impressions-in-release-clause-said c =
    let kind : c.args.kind.now ≡ codes "release" = text_from_reads c.args.kind.now (codes "release") (omega arith) (omega arith, (omega arith, (omega arith, (omega arith, (omega arith, (omega arith, (omega arith, tt))))))) in
    let device = c.in_ok-name-in-release in
    let account = c.in_ok-name-in-release-2 in
    let job = c.in_ok-number-in-release.ensures.said in
    let password = c.in_ok-password-in-release.ensures.said in
    let impressions = c.in_ok-impressions-in-release.ensures.said in
    let fields = device.field-0 ∷ account.field-0 ∷ job.0 ∷ password.0 ∷ impressions.0 ∷ [] in
    (fields, (_, device.ensures.said, (_, account.ensures.said, (_, job.1, (_, password.1, (_, impressions.1, refl))))), (job.0, password.0, impressions.0, ap (λ k. k ∷ fields) kind, job.2, password.2, impressions.2))
