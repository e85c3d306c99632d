-- Which events of a list of anybody's are an account's own (all this project's own).
use Rattle.std.specs.Prelude.{ℕ, Bool, true, false, ◌||◌, List, filter, bytes_eq}
use Rattle.account_machine.specs.Events.{PlainEvent, Timed, OfAccount, OfDevice}

-- it names this account
abbrev pub is_of : (name : List ℕ) (e : PlainEvent) → Bool
is_of name (OfAccount account it) = bytes_eq account name
is_of name (OfDevice device it) = false

-- it changes a device, and is of no account
abbrev pub is_of_device : PlainEvent → Bool
is_of_device (OfAccount account it) = false
is_of_device (OfDevice device it) = true

-- the events that name the account and those of devices, in order, with their moments
abbrev pub own : (name : List ℕ) (events : List Timed) → List Timed
own name events = filter (λ (e : Timed). is_of name e.1 || is_of_device e.1) events

-- those of devices alone
abbrev pub of_devices : List Timed → List Timed
of_devices events = filter (λ (e : Timed). is_of_device e.1) events
