-- Jobs that are listed, from what was asked and printed of them.
use Rattle.std.proofs.Common.{◌≡◌, ℕ, List, [], codes, refl, subst}
use Rattle.std.specs.Io.KnownBytes.{Appends}
use Rattle.client_lines.specs.Replies.{Known}
use Rattle.client_operator.specs.Asked.{account_asked}
use Rattle.client_operator.specs.Talks.{AsksList, At, InTurn}
use Rattle.client_operator.specs.Waiting.{ListsAccount, ListsJob}
use Rattle.client_operator.specs.declared.waiting.Age.{Age}

pub ListsAccount-of : (age : Age) (account : List ℕ) (lines : List (List ℕ)) (began records shown : List ℕ)
    → (from mid : At) (printed : Known) → AsksList from mid (account_asked (codes "jobs ") account) lines
    → began ≡ [] → InTurn (ListsJob age account) began records lines
    → shown ≡ records → Appends mid.printed printed shown
    → ListsAccount age account from (record { sent = mid.sent; left = mid.left; printed = printed })
ListsAccount-of age account lines began records shown from mid printed asks empty lists same prints = record {
  lines = lines;
  records = records;
  mid = mid;
  asks = asks;
  lists = subst (λ first. InTurn (ListsJob age account) first records lines) empty lists;
  prints = record { sent = refl; left = refl; printed = subst (Appends mid.printed printed) same prints };
}
