-- Rule: What a command line says, and in which ranges its numbers lie (this project's own).
use Rattle.std.specs.Prelude.{◌≡◌, ℕ, ◌==◌, Bool, true, not, ◌&&◌, ◌||◌, IsTrue, nat_le, bytes_eq, ⊤, List, [], ◌∷◌, codes, length, Option, None, Some, drop, take, slice_get, is_some, option_map}
use Rattle.std.specs.List.{list_all, list_any}
use Rattle.account_rules.specs.Limits.{last_job, last_month, longest_job_name, most_copies, most_impressions, most_pages, most_rate}
use Rattle.cli_words.specs.declared.backing_up.BackingUp.{BackingUp}
use Rattle.cli_words.specs.declared.command.Command.{Command}
use Rattle.cli_words.specs.declared.command.Command.TheVariants as command
use Rattle.cli_words.specs.declared.copying.Copying.{Copying}
use Rattle.cli_words.specs.declared.listening.Listening.{Listening}
use Rattle.cli_words.specs.declared.sending.Sending.{Sending}
use Rattle.cli_words.specs.declared.serving.Serving.{Serving}
use Rattle.cli_words.specs.declared.errand.Errand.{Errand}
use Rattle.cli_words.specs.declared.owner_errand.OwnerErrand.{OwnerErrand}
use Rattle.cli_words.specs.declared.owner_errand.OwnerTask.{OwnerTask}
use Rattle.cli_words.specs.declared.owner_errand.OwnerTask.TheVariants as owner
use Rattle.cli_words.specs.declared.owner_errand.Printing.{Printing}
use Rattle.client_operator.specs.declared.task.Task.{Task}
use Rattle.client_operator.specs.declared.task.Task.TheVariants as task
use Rattle.cli_words.specs.Addresses.{IsAddressOf, has_port_from}
use Rattle.cli_words.specs.Visitors.{AreDoors, host_option, log_option, pin_option, value_behind}
use Rattle.input_fields.specs.Fields.{SaysNumber}

-- connections of one run of `listen`
abbrev pub most_connections : ℕ
most_connections = 1000000

-- a port that can be connected to, and not too many connections
abbrev pub is_listening_in_range : Listening → Bool
is_listening_in_range listening =
    nat_le 1 listening.port && nat_le listening.connections most_connections

-- an address that can be connected to
abbrev pub is_sending_in_range : Sending → Bool
is_sending_in_range sending = has_port_from 1 sending.address

-- what the words of `copy` say by their places
pub record SaysCopying (words : List (List ℕ)) (copying : Copying) : Type 0 where
  pub database : slice_get words 1 ≡ Some copying.database.now
  pub file : slice_get words 2 ≡ Some copying.file.now

-- neither a space nor a line feed
abbrev pub is_of_field : (byte : ℕ) → Bool
is_of_field byte = not (byte == 32) && not (byte == 10)

-- a path from the root, which is one field of a line
abbrev pub can_be_told : (path : List ℕ) → Bool
can_be_told path = bytes_eq (take 1 path) (codes "/") && list_all is_of_field path

-- an address that can be connected to, and a path that can be told there
abbrev pub is_backing_up_in_range : BackingUp → Bool
is_backing_up_in_range backing_up =
    has_port_from 1 backing_up.address && can_be_told backing_up.file.now

-- what the words of `backup` say by their places
pub record SaysBackingUp (words : List (List ℕ)) (backing_up : BackingUp) : Type 0 where
  pub word : List ℕ
  pub first : slice_get words 1 ≡ Some word
  pub address : IsAddressOf word 1 backing_up.address
  pub file : slice_get words 2 ≡ Some backing_up.file.now

-- days that a job waited
abbrev pub most_days : ℕ
most_days = 36500

-- from 2000-01 to 2099-12, so many days, so many pages
abbrev pub is_task_in_range : Task → Bool
is_task_in_range task.Ping = true
is_task_in_range task.End = true
is_task_in_range (task.Report month) = nat_le 24000 month.month && nat_le month.month last_month
is_task_in_range task.Devices = true
is_task_in_range (task.Waiting None) = true
is_task_in_range (task.Waiting (Some days)) = nat_le days most_days
is_task_in_range (task.Expire days shown_only) = nat_le days most_days
is_task_in_range (task.Refund account pages) = nat_le pages most_pages

-- an address that can be connected to, and numbers in their ranges
abbrev pub is_errand_in_range : Errand → Bool
is_errand_in_range errand = has_port_from 1 errand.address && is_task_in_range errand.task

abbrev pub is_count_in_range : Option ℕ → Bool
is_count_in_range None = true
is_count_in_range (Some count) = nat_le 1 count && nat_le count most_impressions

-- a name that is not too long, 1 to 999 copies, and one page or more where they are told
abbrev pub is_printing_in_range : Printing → Bool
is_printing_in_range printing = nat_le (length printing.name.now) longest_job_name
    && nat_le 1 printing.copies && nat_le printing.copies most_copies
    && is_count_in_range printing.pages

abbrev pub is_owner_task_in_range : OwnerTask → Bool
is_owner_task_in_range (owner.Print printing) = is_printing_in_range printing
is_owner_task_in_range owner.Jobs = true
is_owner_task_in_range (owner.Act act job) = nat_le 1 job && nat_le job last_job

abbrev pub is_owner_in_range : OwnerErrand → Bool
is_owner_in_range errand = is_owner_task_in_range errand.task

-- what the words of `serve` say: by their places the database and the addresses of three doors, and
-- behind them the options of further ones, of the log, of the PIN and of Hosts
pub record SaysServing (words : List (List ℕ)) (serving : Serving) : Type 0 where
  pub database : slice_get words 1 ≡ Some serving.database.now
  pub doors : AreDoors (drop 2 words) serving.doors.items
  pub log : option_map (λ path. path.now) serving.log ≡ value_behind log_option (drop 2 words)
  pub pin : serving.needs_password ≡ is_some (value_behind pin_option (drop 2 words))
  pub hosts : option_map (λ names. names.now) serving.hosts ≡ value_behind host_option (drop 2 words)

-- what the words of `listen` say by their places
pub record SaysListening (words : List (List ℕ)) (listening : Listening) : Type 0 where
  pub port : List ℕ
  pub count : List ℕ
  pub all : words ≡ codes "listen" ∷ listening.database.now ∷ port ∷ count ∷ []
  pub says_port : SaysNumber port listening.port
  pub says_count : SaysNumber count listening.connections

-- the word asks for help, or for the version
abbrev pub asks_for_help : (word : List ℕ) → Bool
asks_for_help word = bytes_eq word (codes "help") || bytes_eq word (codes "--help")
    || bytes_eq word (codes "--version") || bytes_eq (take 2 word) (codes "-h")
    || bytes_eq (take 2 word) (codes "-V")

-- the words say the command
abbrev pub IsSaidBy : (words : List (List ℕ)) → Command → Type 0
IsSaidBy words (command.Help text) = IsTrue (list_any asks_for_help words)
IsSaidBy words command.Explain = words ≡ codes "explain" ∷ []
IsSaidBy words (command.Create database) = words ≡ codes "create" ∷ database.now ∷ []
IsSaidBy words (command.Migrate database) = words ≡ codes "migrate" ∷ database.now ∷ []
IsSaidBy words (command.Grants database) = words ≡ codes "grants" ∷ database.now ∷ []
IsSaidBy words (command.Station database) = words ≡ codes "station" ∷ database.now ∷ []
IsSaidBy words (command.Script database) = words ≡ codes "script" ∷ database.now ∷ []
IsSaidBy words (command.Open database account) =
    words ≡ codes "open" ∷ database.now ∷ account ∷ []
IsSaidBy words (command.Device database name on) = (switch : List ℕ)
    × (words ≡ codes "device" ∷ database.now ∷ name ∷ switch ∷ [])
    × (on ≡ bytes_eq switch (codes "on"))
IsSaidBy words (command.Rate database name units) = (number : List ℕ)
    × (words ≡ codes "rate" ∷ database.now ∷ name ∷ number ∷ []) × SaysNumber number units
IsSaidBy words (command.Listen listening) = SaysListening words listening
IsSaidBy words (command.Copy copying) = SaysCopying words copying
IsSaidBy words (command.Backup backing_up) = SaysBackingUp words backing_up
IsSaidBy words (command.Serve serving) = SaysServing words serving
IsSaidBy words _ = ⊤

abbrev pub is_in_range : Command → Bool
is_in_range (command.Help text) = true
is_in_range command.Explain = true
is_in_range (command.Create database) = true
is_in_range (command.Open database account) = true
is_in_range (command.Migrate database) = true
is_in_range (command.Copy copying) = true
is_in_range (command.Backup backing_up) = is_backing_up_in_range backing_up
is_in_range (command.Device database name on) = true
is_in_range (command.Rate database name units) = nat_le 1 units && nat_le units most_rate
is_in_range (command.Grants database) = true
is_in_range (command.Station database) = true
is_in_range (command.Script database) = true
is_in_range (command.Listen listening) = is_listening_in_range listening
is_in_range (command.Serve serving) = true
is_in_range (command.Send sending) = is_sending_in_range sending
is_in_range (command.Errand errand) = is_errand_in_range errand
is_in_range (command.Owner errand) = is_owner_in_range errand
