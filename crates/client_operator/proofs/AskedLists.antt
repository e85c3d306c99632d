-- Lines and lists that were asked for.
use Rattle.std.proofs.Common.{◌≡◌, ℕ, List, ◌++◌, codes, refl, subst}
use Rattle.std.specs.Io.KnownBytes.{Appends, Consumes}
use Rattle.client_lines.specs.Asking.{HearsList}
use Rattle.client_lines.specs.Replies.{Known}
use Rattle.client_operator.specs.Talks.{Asks, AsksList}

pub AsksList-of : (sa sb la lb p : Known) (line asked : List ℕ) (lines told : List (List ℕ))
    → line ≡ asked → lines ≡ told → Appends sa sb (line ++ codes "\n") → HearsList la lb lines
    → AsksList (record { sent = sa; left = la; printed = p }) (record { sent = sb; left = lb; printed = p }) asked told
AsksList-of sa sb la lb p line asked lines told same these sent heard = record {
  sent = subst (λ l. Appends sa sb (l ++ codes "\n")) same sent;
  heard = subst (HearsList la lb) these heard;
  same = refl;
}

pub Asks-of : (sa sb la lb p : Known) (line asked answer : List ℕ) → line ≡ asked
    → Appends sa sb (line ++ codes "\n") → Consumes la lb (answer ++ codes "\n")
    → Asks (record { sent = sa; left = la; printed = p }) (record { sent = sb; left = lb; printed = p }) asked answer
Asks-of sa sb la lb p line asked answer same sent heard = record {
  sent = subst (λ l. Appends sa sb (l ++ codes "\n")) same sent;
  heard = heard;
  same = refl;
}
