use Rattle.std.proofs.Common.{arith, ap, ℕ, length, length-append}
use Rattle.account_replies.proofs.Lengths.{length-job_number}
use Rattle.account_replies.proofs.place.Place.job_uri.Goals as goal

pub returns-clause-short : goal.returns-clause-short
returns-clause-short c =
    omega (arith, length-job_number c.args.job c.requires.job, ap (length {A = ℕ}) c.in_ok-number.ensures.ok, ap (length {A = ℕ}) c.as_bytes.ensures.value, c.in_ok-uri.ensures.short, ap (length {A = ℕ}) c.in_ok-extend_from_slice.ensures.items, length-append c.in_ok-uri.uri.items c.as_bytes.result.now)
