-- Rule: Which account a request is for, and whether what it brings is an IPP message.
use Rattle.std.specs.Prelude.{◌&&◌, ℕ, Bool, true, List, [], ◌∷◌, Option, Some, None, codes, drop, if◌then◌else◌, length, nat_le, nat_lt, option_and_then}
use Rattle.std.specs.Char.{is_ascii_digit}
use Rattle.std.specs.List.{list_all}
use Rattle.account_rules.specs.Names.{is_name}
use Rattle.account_rules.specs.QueuePaths.{behind, queues}
use Rattle.input_http.specs.Words.{before, is_same_word, without_margin}

-- nothing, or "/" and 1 to 6 digits, which are not looked at any further
abbrev pub is_job_part : List ℕ → Bool
is_job_part [] = true
is_job_part (slash ∷ digits) =
    nat_lt 0 (length digits) && (nat_le (length digits) 6 && list_all is_ascii_digit digits)

abbrev pub queue_in : List ℕ → Option (List ℕ)
queue_in rest =
    let name = before 47 rest in
    if is_job_part (drop (length name) rest)
    then (if is_name name then Some name else None)
    else None

-- NAME of a path /ipp/print/NAME or /ipp/print/NAME/ and a number; the path ends before the first
-- "?"
abbrev pub account_of : List ℕ → Option (List ℕ)
account_of target =
    option_and_then queue_in (behind queues (before 63 target))

-- what stands after ";" does not count (RFC 9110 section 8.3.1)
abbrev pub is_ipp_type : List ℕ → Bool
is_ipp_type value =
    is_same_word (without_margin (32 ∷ []) (before 59 value)) (codes "application/ipp")
