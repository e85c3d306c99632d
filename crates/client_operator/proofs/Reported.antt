-- Reports, from what was asked and printed of them.
use Rattle.std.proofs.Common.{◌≡◌, ◌≤◌, ℕ, List, [], ◌++◌, codes, map, refl, subst}
use Rattle.std.proofs.KnownBytes.{Appends-kept, Appends-nil}
use Rattle.std.specs.Prelude.{Err, Ok, OnOk, Result}
use Rattle.std.specs.Io.KnownBytes.{Appends, Keeps}
use Rattle.std.specs.List.{flat_map}
use Rattle.client_lines.specs.Replies.{Known}
use Rattle.client_operator.specs.Asked.{account_asked, statement_asked}
use Rattle.client_operator.specs.Csv.{record_text}
use Rattle.client_operator.specs.Devices.{Device, ReportsDevices, device_text, device_told, devices_head}
use Rattle.client_operator.specs.Names.{AsksNames}
use Rattle.client_operator.specs.Refunds.{GivesBack}
use Rattle.client_operator.specs.Reports.{ReportsAccount, report_fields}
use Rattle.client_operator.specs.Statements.{TellsStatement}
use Rattle.client_operator.specs.Tables.{PrintsTable}
use Rattle.client_operator.specs.Talks.{Asks, AsksList, At, InTurn}
use Rattle.client_operator.specs.declared.statement.Statement.{Statement}

pub ReportsDevices-of : {A E : Type 0} (result : Result A E) (devices : List Device) (shown : List ℕ)
    → (from mid : At) (printed : Known) → AsksList from mid (codes "devices") (map device_told devices)
    → shown ≡ devices_head ++ flat_map device_text devices → OnOk result (Appends mid.printed printed shown)
    → OnOk result (ReportsDevices from (record { sent = mid.sent; left = mid.left; printed = printed }))
ReportsDevices-of (Ok value) devices shown from mid printed asks same prints = record {
  devices = devices;
  mid = mid;
  asks = asks;
  prints = record { sent = refl; left = refl; printed = subst (Appends mid.printed printed) same prints };
}
ReportsDevices-of (Err error) devices shown from mid printed asks same prints = tt

-- an account was asked for, and its record printed
pub ReportsAccount-of : (month : ℕ) (account line : List ℕ) (statement : Statement) (grants : List (List ℕ))
    → (refunded : ℕ) (from told granted : At) (printed : Known)
    → Asks from told (statement_asked account month) line → TellsStatement line statement
    → AsksList told granted (account_asked (codes "grants ") account) grants → GivesBack grants refunded
    → (refunded ≤ statement.granted) × Appends granted.printed printed (record_text (report_fields account statement refunded))
    → ReportsAccount month account from (record { sent = granted.sent; left = granted.left; printed = printed })
ReportsAccount-of month account line statement grants refunded from told granted printed asks tells asks_grants gives prints = record {
  line = line;
  statement = statement;
  grants = grants;
  refunded = refunded;
  told = told;
  granted = granted;
  asks = asks;
  tells = tells;
  asks_grants = asks_grants;
  gives_back = gives;
  is_part = prints.0;
  prints = record { sent = refl; left = refl; printed = prints.1 };
}

-- names were asked for, a header printed, each account was gone through, and what waited was written
pub PrintsTable-of : (head : List (List ℕ)) (Goes : List ℕ → At → At → Type 0) (names listed : List (List ℕ))
    → (from named : At) (headed sent left shown printed : Known) → listed ≡ names
    → AsksNames from named names → Appends named.printed headed (record_text head)
    → InTurn Goes (record { sent = named.sent; left = named.left; printed = headed })
    (record { sent = sent; left = left; printed = shown }) listed
    → Keeps shown printed
    → PrintsTable head Goes from (record { sent = sent; left = left; printed = printed })
PrintsTable-of head Goes names listed from named headed sent left shown printed same asks prints each kept = record {
  names = names;
  named = named;
  headed = record { sent = named.sent; left = named.left; printed = headed };
  went = record { sent = sent; left = left; printed = shown };
  asks = asks;
  prints = record { sent = refl; left = refl; printed = prints };
  each = subst (InTurn Goes _ _) same each;
  nothing = record { sent = refl; left = refl; printed = Appends-kept shown shown printed [] (Appends-nil shown) kept };
}
