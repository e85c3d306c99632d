-- From where and when a requester looks at an account: the URIs and the moments that it is told.
use Rattle.std.specs.Prelude.{ℕ, ◌+◌, ◌-◌, min, List, ◌++◌, codes, unwrap_or}
use Rattle.std.specs.Fmt.{decimal}
use Rattle.account_asks.specs.Asks.{PlainAsk}
use Rattle.account_laws.specs.AccountsTold.{AccountTold}

-- the part of the request's target before its path; the account, when that was opened; now
pub record View : Type 0 where
  pub base : List ℕ
  pub account : List ℕ
  pub opened : ℕ
  pub now : ℕ

abbrev pub view_of : (told : AccountTold) (now : ℕ) (account : List ℕ) (ask : PlainAsk) → View
view_of told now account ask =
    record { base = ask.base; account = account; opened = unwrap_or told.opened 0; now = now }

-- printer-uri (RFC 8011 section 5.4.1; the path is this project's own)
abbrev pub queue_uri : View → List ℕ
queue_uri view = view.base ++ (codes "/ipp/print/" ++ view.account)

-- job-uri: behind it a "/" and the number of the job (section 5.3.2)
abbrev pub job_uri : (view : View) (number : ℕ) → List ℕ
job_uri view number = queue_uri view ++ (codes "/" ++ decimal number)

-- a moment is told in seconds since the account was opened, from 1 to the greatest integer (section
-- 5.4.29)
abbrev pub seconds : (view : View) (moment : ℕ) → ℕ
seconds view moment = min (moment - view.opened + 1) 2147483647
