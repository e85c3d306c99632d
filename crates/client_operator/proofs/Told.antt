-- Lines that were sent, their answers, and what was printed.
use Rattle.std.proofs.Common.{◌≡◌, ℕ, List, [], ◌++◌, codes, refl}
use Rattle.std.specs.Prelude.{Result, Ok, Err, OnOk}
use Rattle.std.specs.Io.KnownBytes.{Appends, Consumes}
use Rattle.client_lines.specs.Asking.{IsDone}
use Rattle.client_lines.specs.Replies.{Known, whole_line}
use Rattle.client_lines.specs.Sending.{IsAtKnownEnd}
use Rattle.client_operator.specs.Talks.{At, EndsProcess, GetsDone}

-- a line was sent and answered, and then the answer was printed
pub GetsDone-of : (sa sb la lb pa pb : Known) (line answer : List ℕ)
    → Appends sa sb (line ++ codes "\n") → Consumes la lb (answer ++ codes "\n")
    → Appends pa pb (whole_line answer) → IsDone answer
    → GetsDone (record { sent = sa; left = la; printed = pa }) (record { sent = sb; left = lb; printed = pb }) line
GetsDone-of sa sb la lb pa pb line answer sent heard prints done = record {
  answer = answer;
  mid = record { sent = sb; left = lb; printed = pa };
  asks = record { sent = sent; heard = heard; same = refl };
  prints = record { sent = refl; left = refl; printed = prints };
  done = done;
}

-- the process answered, and what is heard behind that is nothing
pub EndsProcess-of : {A E : Type 0} (result : Result A E) (from mid : At) (sent left : Known)
    → GetsDone from mid (codes "end") → sent ≡ mid.sent
    → OnOk result (Consumes mid.left left []) → OnOk result (IsAtKnownEnd mid.left left)
    → OnOk result (EndsProcess from (record { sent = sent; left = left; printed = mid.printed }))
EndsProcess-of (Ok value) from mid sent left tells same nothing end = record {
  mid = mid;
  tells = tells;
  nothing = nothing;
  end = end;
  sent = same;
  printed = refl;
}
EndsProcess-of (Err error) from mid sent left tells same nothing end = tt
