-- Rule: How a quota and a statement are told (all this project's own).
use Rattle.std.specs.Prelude.{ℕ, pos, List, ◌++◌, codes}
use Rattle.std.specs.Fmt.{decimal, signed_decimal}
use Rattle.account_state.specs.declared.summary.Summary.{Summary}
use Rattle.account_rules.specs.Quota.{left_of}

-- what was granted, what jobs reserve, what they were charged, and what that leaves
abbrev pub quota_text : (granted reserved charged : ℕ) → List ℕ
quota_text granted reserved charged =
    codes "ok granted "
    ++ (decimal granted
    ++ (codes " reserved "
    ++ (decimal reserved
    ++ (codes " charged "
    ++ (decimal charged
    ++ (codes " left " ++ signed_decimal (left_of (pos granted) (pos reserved) (pos charged))))))))

-- what was charged in the month; how many jobs are held, pending and processing now, and how many
-- ended in the month; and what of the charges lies beyond what the jobs' releases let them cost
abbrev pub month_text : Summary → List ℕ
month_text summary =
    codes "month "
    ++ (decimal summary.charged_then
    ++ (codes " held "
    ++ (decimal summary.held
    ++ (codes " pending "
    ++ (decimal summary.pending
    ++ (codes " processing "
    ++ (decimal summary.processing
    ++ (codes " ended "
    ++ (decimal summary.ended_then ++ (codes " beyond " ++ decimal summary.beyond_then))))))))))

-- a statement: the quota, with what was granted up to the month, and what the month tells
abbrev pub statement_text : (granted : ℕ) (summary : Summary) → List ℕ
statement_text granted summary =
    quota_text granted summary.reserved summary.charged ++ (codes " " ++ month_text summary)
