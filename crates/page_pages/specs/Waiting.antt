-- Rule: The card of the jobs that wait, with what their owner may do with them.
use Rattle.std.specs.Prelude.{ℕ, ◌==◌, if◌then◌else◌, length, List, [], ◌∷◌, ◌++◌, Option, Some, None, codes, flat_map}
use Rattle.account_rules.specs.declared.job.Job.{Job}
use Rattle.account_rules.specs.declared.job.Standing.{Standing}
use Rattle.page_pages.specs.Frames.{card, remark}
use Rattle.page_markup.specs.Parts.{Part, html, Mark, Text, Number, Known, Moment}
use Rattle.page_pages.specs.Offers.{advice, offer, price_cell, why}
use Rattle.page_pages.specs.Phases.{phase_of, sign, word}
use Rattle.page_pages.specs.declared.markup.TheConstants.{END_OF_ACTS, END_OF_CARD, END_OF_STATE, END_OF_TABLE, FIRST_ACT}
use Rattle.page_pages.specs.declared.offer.Terms.{Terms}
use Rattle.page_pages.specs.declared.phase.Phase.{Phase}
use Rattle.page_pages.specs.declared.phase.Phase.TheVariants.{Incomplete, Locked, Uncounted, Ready, Released, Printing, Stopping, Printed, Canceled, Failed}
use Rattle.page_pages.specs.declared.texts.TheConstants.{ACTS, ANY_DEVICE, CANCEL, COPIES, DEVICE, FILES, HOLD, JOB, MADE, NOTHING_WAITS, NO_DEVICE_YET, NO_NAME, NUMBER, PAGES, RELEASE_FOR, STATE, UNITS_NEEDED_BY_JOB, WAITING}

-- ---- a job

-- one that was given no name is told so
abbrev pub name_words : (name : List ℕ) → List ℕ
name_words [] = NO_NAME.now
name_words (byte ∷ more) = byte ∷ more

-- the number and the name of a job
unfoldable pub job_name : (number : ℕ) (name : List ℕ) → List Part
job_name number name =
    Mark (codes "<tr><td class=\"number\" data-label=\"")
    ∷ Mark JOB.now
    ∷ Mark (codes "\">")
    ∷ Number number
    ∷ Mark (codes "</td><th scope=\"row\" id=\"job-")
    ∷ Number number
    ∷ Mark (codes "\"><bdi>")
    ∷ Text name
    ∷ Mark (codes "</bdi></th>\n")
    ∷ []

-- how a job stands. What helps may follow
unfoldable pub job_state : (symbol state why : List ℕ) → List Part
job_state symbol state why =
    Mark (codes "<td><span class=\"state\"><svg class=\"sign\" aria-hidden=\"true\"><use ")
    ∷ Mark (codes "href=\"#")
    ∷ Mark symbol
    ∷ Mark (codes "\"/></svg>")
    ∷ Mark state
    ∷ Mark (codes "</span><small>")
    ∷ Mark why
    ∷ []

-- where a job may be printed, how much it is, and when it was made
unfoldable pub job_counts : (device : List ℕ) (impressions copies documents created : ℕ) → List Part
job_counts device impressions copies documents created =
    Mark (codes "<td data-label=\"")
    ∷ Mark DEVICE.now
    ∷ Mark (codes "\">")
    ∷ Text device
    ∷ Mark (codes "</td><td class=\"count\" data-label=\"")
    ∷ Mark PAGES.now
    ∷ Mark (codes "\">")
    ∷ Known impressions
    ∷ Mark (codes "</td><td class=\"count\" data-label=\"")
    ∷ Mark COPIES.now
    ∷ Mark (codes "\">")
    ∷ Number copies
    ∷ Mark (codes "</td><td class=\"count\" data-label=\"")
    ∷ Mark FILES.now
    ∷ Mark (codes "\">")
    ∷ Number documents
    ∷ Mark (codes "</td>\n<td class=\"when\" data-label=\"")
    ∷ Mark MADE.now
    ∷ Mark (codes "\">")
    ∷ Moment created
    ∷ Mark (codes "</td>\n")
    ∷ []

-- one that is released and bound to no device goes to any where a page counts 1 unit
abbrev pub no_device_words : Phase → List ℕ
no_device_words Released = ANY_DEVICE.now
no_device_words _ = NO_DEVICE_YET.now

abbrev pub device_words : Phase → Option (List ℕ) → List ℕ
device_words phase (Some name) = name
device_words phase None = no_device_words phase

-- ---- its buttons

-- the start of a job's form
unfoldable pub acts_start : (account : List ℕ) (number : ℕ) → List Part
acts_start account number =
    Mark (codes "<td class=\"acts\"><form method=\"post\" action=\"/")
    ∷ Text account
    ∷ Mark (codes "/")
    ∷ Number number
    ∷ Mark (codes "\">")
    ∷ []

-- a button of a job's form
unfoldable pub button : (look act label : List ℕ) (number : ℕ) → List Part
button look act label number =
    Mark (codes "<button")
    ∷ Mark look
    ∷ Mark (codes " name=\"act\" value=\"")
    ∷ Mark act
    ∷ Mark (codes "\" aria-describedby=\"job-")
    ∷ Number number
    ∷ Mark (codes "\">")
    ∷ Mark label
    ∷ Mark (codes "</button>")
    ∷ []

unfoldable pub cancel_button : (number : ℕ) → List ℕ
cancel_button number = html (button [] (codes "cancel") CANCEL.now number)

unfoldable pub hold_buttons : (number : ℕ) → List ℕ
hold_buttons number = html (button [] (codes "hold") HOLD.now number) ++ cancel_button number

-- the release of a job, for so many units
unfoldable pub release_button : (units number : ℕ) → List Part
release_button units number =
    Mark (codes "<button")
    ∷ Mark FIRST_ACT.now
    ∷ Mark (codes " name=\"act\" value=\"release\" aria-describedby=\"job-")
    ∷ Number number
    ∷ Mark (codes "\">")
    ∷ Mark RELEASE_FOR.now
    ∷ Number units
    ∷ Mark (codes "</button>")
    ∷ []

unfoldable pub release_buttons : (units number : ℕ) → List ℕ
release_buttons units number = html (release_button units number) ++ cancel_button number

abbrev pub ready_buttons : (offered : Option ℕ) → (number : ℕ) → List ℕ
ready_buttons None number = cancel_button number
ready_buttons (Some units) number = release_buttons units number

-- one for each act that is not refused for certain
abbrev pub buttons : Phase → (offered : Option ℕ) → (number : ℕ) → List ℕ
buttons Incomplete offered number = cancel_button number
buttons Locked offered number = cancel_button number
buttons Uncounted offered number = cancel_button number
buttons Ready offered number = ready_buttons offered number
buttons Released offered number = hold_buttons number
buttons Printing offered number = cancel_button number
buttons Stopping offered number = []
buttons Printed offered number = []
buttons Canceled offered number = []
buttons Failed offered number = []

-- a job's form with these buttons, which ends its row
unfoldable pub job_form : (account : List ℕ) (number : ℕ) (buttons : List ℕ) → List ℕ
job_form account number buttons =
    html (acts_start account number) ++ (buttons ++ END_OF_ACTS.now)

abbrev pub job_acts : (account : List ℕ) → Terms → Job → List ℕ
job_acts account terms it =
    job_form account it.job (buttons (phase_of it) (offer terms.left it.standing) it.job)

-- ---- the table

-- how it stands, and what helps
unfoldable pub state_cell : Phase → Terms → Standing → List ℕ
state_cell phase terms s =
    html (job_state (sign phase) (word phase) (why phase terms s))
    ++ (advice phase terms s ++ END_OF_STATE.now)

abbrev pub counts_of : Phase → Standing → List Part
counts_of phase s =
    job_counts (device_words phase s.device) s.impressions s.copies s.documents s.created

-- all cells but the last, which has its form
unfoldable pub job_cells : Phase → Terms → Job → List ℕ
job_cells phase terms it =
    html (job_name it.job (name_words it.name))
    ++ (state_cell phase terms it.standing
    ++ (html (counts_of phase it.standing) ++ price_cell phase terms it.standing))

unfoldable pub job_row : (account : List ℕ) → Terms → Job → List ℕ
job_row account terms it = job_cells (phase_of it) terms it ++ job_acts account terms it

-- the heads of the columns
unfoldable pub waiting_columns : List Part
waiting_columns =
    Mark (codes "<table class=\"jobs\">\n<thead><tr><th scope=\"col\" class=\"number\">")
    ∷ Mark NUMBER.now
    ∷ Mark (codes "</th><th scope=\"col\">")
    ∷ Mark JOB.now
    ∷ Mark (codes "</th><th scope=\"col\">")
    ∷ Mark STATE.now
    ∷ Mark (codes "</th><th scope=\"col\">")
    ∷ Mark DEVICE.now
    ∷ Mark (codes "</th><th scope=\"col\" class=\"count\">")
    ∷ Mark PAGES.now
    ∷ Mark (codes "</th><th scope=\"col\" class=\"count\">")
    ∷ Mark COPIES.now
    ∷ Mark (codes "</th><th scope=\"col\" class=\"count\">")
    ∷ Mark FILES.now
    ∷ Mark (codes "</th><th scope=\"col\">")
    ∷ Mark MADE.now
    ∷ Mark (codes "</th><th scope=\"col\" class=\"count\">")
    ∷ Mark UNITS_NEEDED_BY_JOB.now
    ∷ Mark (codes "</th><th scope=\"col\"><span class=\"unseen\">")
    ∷ Mark ACTS.now
    ∷ Mark (codes "</span></th></tr></thead>\n<tbody>\n")
    ∷ []

abbrev pub table_of_waiting : (account : List ℕ) → Terms → List Job → List ℕ
table_of_waiting account terms jobs =
    if length jobs == 0
    then html (remark NOTHING_WAITS.now)
    else html waiting_columns ++ (flat_map (job_row account terms) jobs ++ END_OF_TABLE.now)

unfoldable pub waiting_card : (account : List ℕ) → Terms → List Job → List ℕ
waiting_card account terms jobs =
    html (card (codes "waiting") WAITING.now)
    ++ (table_of_waiting account terms jobs ++ END_OF_CARD.now)
