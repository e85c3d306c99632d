-- How long numbers are as texts.
use Rattle.std.proofs.Common.{◌++◌, ℕ, ◌≤◌, ◌<◌, ◌^◌, ℤ, length, FitsSigned, w64, arith, codes, length-append}
use Rattle.std.specs.Fmt.{decimal, signed_decimal}
use Rattle.std.proofs.lemmas.Fmt.{length-decimal-le, length_signed_le}
use Rattle.account_rules.specs.Limits.{last_job}
use Rattle.account_rules.specs.declared.refusal.Word.TheVariants.{Quota, Conflict}
use Rattle.account_replies.specs.Words.{word_numbers}

pub length-job_number : (job : ℕ) → job ≤ last_job → length (decimal job) ≤ 6
length-job_number job most = length-decimal-le 6 job (omega arith) (omega arith) (omega arith)

-- of 64 bits
pub length-quota_numbers : (need : ℕ) (left : ℤ) → need < 2 ^ 64 → FitsSigned w64 left → length (word_numbers (Quota need left)) ≤ 42
length-quota_numbers need left unsigned signed =
    omega (arith, length-append (decimal need) (codes " " ++ signed_decimal left), length-decimal-le 20 need (omega arith) (omega arith) (omega arith), length_signed_le 19 left (omega (arith, signed.sfits)) (omega (arith, signed.sfits)))

-- of 32 bits
pub length-conflict_number : (held : ℕ) → held < 2 ^ 32 → length (word_numbers (Conflict held)) ≤ 11
length-conflict_number held unsigned = omega (arith, length-decimal-le 10 held (omega arith) (omega arith) (omega arith))
