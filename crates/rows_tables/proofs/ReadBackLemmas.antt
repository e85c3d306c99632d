-- No two values have one row.
use Rattle.std.proofs.Common.{◌≡◌, ◌==◌, if◌then◌else◌, ℕ, zero, suc, ℤ, pos, negsuc, Bool, true, false, List, [], ◌∷◌, length, Option, Some, None, refl, sym, ap, ◌∙◌}
use Rattle.std.proofs.lemmas.Bool.{true≢false}
use Rattle.sqlite_value.specs.declared.value.Value.{Value}
use Rattle.sqlite_value.specs.declared.value.Value.TheVariants.{Int, Text, Blob}
use Rattle.sqlite_value.specs.Order.{Row, column}
use Rattle.account_rules.specs.JobStates.{state_number}
use Rattle.account_rules.specs.declared.account.Account.{Account}
use Rattle.account_rules.specs.declared.job.Job.{Job}
use Rattle.account_rules.specs.declared.job.Standing.{Standing}
use Rattle.account_rules.specs.declared.job.Document.{Document}
use Rattle.account_rules.specs.declared.job.JobState.{JobState}
use Rattle.account_rules.specs.declared.job.JobState.TheVariants.{Held, Pending, Processing, Canceled, Aborted, Completed}
use Rattle.account_rules.specs.declared.format.Format.{Format}
use Rattle.account_rules.specs.declared.format.Format.TheVariants.{OctetStream, Pdf, PostScript, Jpeg, PwgRaster, Urf, Plain}
use Rattle.account_rules.specs.declared.device.Device.{Device}
use Rattle.account_rules.specs.Formats.{media_type}
use Rattle.rows_tables.specs.Cells.{number, flag, moment, device_text, account_cells, job_cells, document_cells, device_cells, rate_cells}
use Rattle.account_rules.specs.Names.{IsNameOrNone}
use Rattle.rows_tables.specs.ReadBack.{RowsAreReadBack}

-- ---- a value is read back from its column

abbrev pub integer_in : Value → ℤ
integer_in (Int n) = n
integer_in _ = pos 0

abbrev pub natural_in : ℤ → ℕ
natural_in (pos n) = n
natural_in (negsuc n) = 0

abbrev text_in : Value → List ℕ
text_in (Text t) = t
text_in (Blob b) = b
text_in _ = []

pub number_back : (m n : ℕ) → number m ≡ number n → m ≡ n
number_back m n e = ap (λ v. natural_in (integer_in v)) e

text_back : (s t : List ℕ) → Text s ≡ Text t → s ≡ t
text_back s t e = ap text_in e

pub blob_back : (s t : List ℕ) → Blob s ≡ Blob t → s ≡ t
blob_back s t e = ap text_in e

abbrev flag_in : ℕ → Bool
flag_in zero = false
flag_in (suc n) = true

flag_read : (b : Bool) → flag_in (natural_in (integer_in (flag b))) ≡ b
flag_read true = refl
flag_read false = refl

pub flag_back : (a b : Bool) → flag a ≡ flag b → a ≡ b
flag_back a b e = sym (flag_read a) ∙ ap (λ v. flag_in (natural_in (integer_in v))) e ∙ flag_read b

abbrev moment_in : ℤ → Option ℕ
moment_in (pos n) = Some n
moment_in (negsuc n) = None

moment_read : (at : Option ℕ) → moment_in (integer_in (moment at)) ≡ at
moment_read None = refl
moment_read (Some at) = refl

moment_back : (a b : Option ℕ) → moment a ≡ moment b → a ≡ b
moment_back a b e = sym (moment_read a) ∙ ap (λ v. moment_in (integer_in v)) e ∙ moment_read b

abbrev pub state_in : ℕ → JobState
state_in n =
    if n == 3 then Pending else if n == 5 then Processing else if n == 7 then Canceled else if n == 8 then Aborted else if n == 9 then Completed else Held

pub state_read : (state : JobState) → state_in (state_number state) ≡ state
state_read Held = refl
state_read Pending = refl
state_read Processing = refl
state_read Canceled = refl
state_read Aborted = refl
state_read Completed = refl

state_back : (a b : JobState) → number (state_number a) ≡ number (state_number b) → a ≡ b
state_back a b e = sym (state_read a) ∙ ap state_in (number_back (state_number a) (state_number b) e) ∙ state_read b

abbrev device_in : List ℕ → Option (List ℕ)
device_in [] = None
device_in (b ∷ bytes) = Some (b ∷ bytes)

device_read : (device : Option (List ℕ)) → IsNameOrNone device → device_in (text_in (device_text device)) ≡ device
device_read None named = refl
device_read (Some []) named = absurd (true≢false (sym named))
device_read (Some (b ∷ bytes)) named = refl

device_back : (a b : Option (List ℕ)) → IsNameOrNone a → IsNameOrNone b → device_text a ≡ device_text b → a ≡ b
device_back a b p q e = sym (device_read a p) ∙ ap (λ v. device_in (text_in v)) e ∙ device_read b q

-- a format by the length of its media type, and the two that share one by a byte of it
abbrev format_by : ℕ → ℕ → Format
format_by n b =
    if n == 24 then OctetStream else if n == 15 then Pdf else if n == 22 then PostScript else if n == 16 then PwgRaster else if n == 9 then Urf else if b == 105 then Jpeg else Plain

abbrev format_in : List ℕ → Format
format_in [] = Plain
format_in (b ∷ bytes) = format_by (length (b ∷ bytes)) b

format_read : (format : Format) → format_in (media_type format) ≡ format
format_read OctetStream = refl
format_read Pdf = refl
format_read PostScript = refl
format_read Jpeg = refl
format_read PwgRaster = refl
format_read Urf = refl
format_read Plain = refl

pub format_back : (a b : Format) → Text (media_type a) ≡ Text (media_type b) → a ≡ b
format_back a b e = sym (format_read a) ∙ ap format_in (text_back (media_type a) (media_type b) e) ∙ format_read b

-- ---- whole rows

at : {a b : Row} (n : ℕ) → a ≡ b → column a n ≡ column b n
at n e = ap (λ r. column r n) e

account_back : (name other : List ℕ) (a b : Account) → account_cells name a ≡ account_cells other b → (name ≡ other) × (a ≡ b)
account_back name other a b e =
    let opened = number_back a.opened b.opened (at 1 e) in
    let next_job = number_back a.next_job b.next_job (at 2 e) in
    let whole : ◌≡◌ {A = Account} (record { opened = a.opened; next_job = a.next_job }) (record { opened = b.opened; next_job = b.next_job }) = rw (opened, next_job) refl in
    (text_back name other (at 0 e), whole)

standing_back : (name other : List ℕ) (a b : Job) → IsNameOrNone a.standing.device → IsNameOrNone b.standing.device → job_cells name a ≡ job_cells other b → a.standing ≡ b.standing
standing_back name other a b p q e =
    let s = a.standing in
    let t = b.standing in
    let state = state_back s.state t.state (at 4 e) in
    let is_open = flag_back s.is_open t.is_open (at 5 e) in
    let stopping = flag_back s.stopping t.stopping (at 6 e) in
    let copies = number_back s.copies t.copies (at 7 e) in
    let impressions = number_back s.impressions t.impressions (at 8 e) in
    let reserved = number_back s.reserved t.reserved (at 9 e) in
    let charged = number_back s.charged t.charged (at 10 e) in
    let documents = number_back s.documents t.documents (at 11 e) in
    let rate = number_back s.rate t.rate (at 12 e) in
    let device = device_back s.device t.device p q (at 13 e) in
    let created = number_back s.created t.created (at 14 e) in
    let started = moment_back s.started t.started (at 15 e) in
    let ended = moment_back s.ended t.ended (at 16 e) in
    let whole : ◌≡◌ {A = Standing} (record { state = s.state; is_open = s.is_open; stopping = s.stopping; copies = s.copies; impressions = s.impressions; reserved = s.reserved; charged = s.charged; documents = s.documents; rate = s.rate; device = s.device; created = s.created; started = s.started; ended = s.ended }) (record { state = t.state; is_open = t.is_open; stopping = t.stopping; copies = t.copies; impressions = t.impressions; reserved = t.reserved; charged = t.charged; documents = t.documents; rate = t.rate; device = t.device; created = t.created; started = t.started; ended = t.ended }) =
    rw (state, is_open, stopping, copies, impressions, reserved, charged, documents, rate, device, created, started, ended) refl in
    whole

job_back : (name other : List ℕ) (a b : Job) → IsNameOrNone a.standing.device → IsNameOrNone b.standing.device → job_cells name a ≡ job_cells other b → (name ≡ other) × (a ≡ b)
job_back name other a b p q e =
    let number = number_back a.job b.job (at 1 e) in
    let title = blob_back a.name b.name (at 2 e) in
    let password = blob_back a.password b.password (at 3 e) in
    let standing = standing_back name other a b p q e in
    let whole : ◌≡◌ {A = Job} (record { job = a.job; name = a.name; password = a.password; standing = a.standing }) (record { job = b.job; name = b.name; password = b.password; standing = b.standing }) =
    rw (number, title, password, standing) refl in
    (text_back name other (at 0 e), whole)

document_back : (name other : List ℕ) (a b : Document) → document_cells name a ≡ document_cells other b → (name ≡ other) × (a ≡ b)
document_back name other a b e =
    let job = number_back a.job b.job (at 1 e) in
    let number = number_back a.number b.number (at 2 e) in
    let format = format_back a.format b.format (at 3 e) in
    let bytes = blob_back a.bytes b.bytes (at 4 e) in
    let whole : ◌≡◌ {A = Document} (record { job = a.job; number = a.number; format = a.format; bytes = a.bytes }) (record { job = b.job; number = b.number; format = b.format; bytes = b.bytes }) =
    rw (job, number, format, bytes) refl in
    (text_back name other (at 0 e), whole)

device_whole : (a b : Device) → device_cells a ≡ device_cells b → rate_cells a ≡ rate_cells b → a ≡ b
device_whole a b e f =
    let name = text_back a.name b.name (at 0 e) in
    let on = flag_back a.on b.on (at 1 e) in
    let rate = number_back a.rate b.rate (at 1 f) in
    let whole : ◌≡◌ {A = Device} (record { name = a.name; on = a.on; rate = a.rate }) (record { name = b.name; on = b.on; rate = b.rate }) = rw (name, on, rate) refl in
    whole

pub rows_are_read_back : RowsAreReadBack
rows_are_read_back = record {
  accounts = account_back;
  jobs = job_back;
  documents = document_back;
  grants = λ name other month pages later more e. (text_back name other (at 0 e), number_back month later (at 1 e), number_back pages more (at 2 e));
  devices = device_whole;
}
