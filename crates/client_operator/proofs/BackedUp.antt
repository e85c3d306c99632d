-- Backups, as they are asked for.
use Rattle.std.proofs.Common.{◌≡◌, ℕ, zero, suc, Bool, true, false, List, ◌++◌, codes, refl, subst}
use Rattle.std.specs.Io.KnownBytes.{Appends, Consumes}
use Rattle.client_lines.specs.Replies.{Known}
use Rattle.client_operator.specs.Asked.{backup_asked, slice_asked}
use Rattle.client_operator.specs.Backups.{AsksMore, AsksSlices, BacksUp, slice_told}
use Rattle.client_operator.specs.Talks.{Asks, At}

-- a line was sent, and what was told is this answer
pub Asks-told : (sa sb la lb p : Known) (line told answer : List ℕ) → told ≡ answer
    → Appends sa sb (line ++ codes "\n") → Consumes la lb (told ++ codes "\n")
    → Asks (record { sent = sa; left = la; printed = p }) (record { sent = sb; left = lb; printed = p }) line answer
Asks-told sa sb la lb p line told answer same sent heard = record {
  sent = sent;
  heard = subst (λ t. Consumes la lb (t ++ codes "\n")) same heard;
  same = refl;
}

-- slices were asked for, and more is to come
abbrev pub AsksSome : (line : List ℕ) (from to : At) → Type 0
AsksSome line from to = (count : ℕ) × AsksMore line count from to

pub AsksSome-none : (line : List ℕ) (at : At) → AsksSome line at at
AsksSome-none line at = (zero, refl)

pub AsksSome-more : (line : List ℕ) (from mid to : At) (is_more : Bool) → is_more ≡ true → AsksSome line from mid
    → Asks mid to line (slice_told is_more) → AsksSome line from to
AsksSome-more line from mid to is_more so some asks =
    (suc some.0, (mid, some.1, subst (λ more. Asks mid to line (slice_told more)) so asks))

pub AsksSlices-of : (line : List ℕ) (from mid to : At) (is_more : Bool) → is_more ≡ false → AsksSome line from mid
    → Asks mid to line (slice_told is_more) → AsksSlices line from to
AsksSlices-of line from mid to is_more so some asks = record {
  count = some.0;
  mid = mid;
  more = some.1;
  last = subst (λ more. Asks mid to line (slice_told more)) so asks;
}

pub BacksUp-of : (file begin slice : List ℕ) (from begun to : At) → begin ≡ backup_asked file → slice ≡ slice_asked file
    → Asks from begun begin (codes "ok") → AsksSlices slice begun to → BacksUp file from to
BacksUp-of file begin slice from begun to as_begin as_slice begins slices = record {
  begun = begun;
  begins = subst (λ line. Asks from begun line (codes "ok")) as_begin begins;
  slices = subst (λ line. AsksSlices line begun to) as_slice slices;
}
