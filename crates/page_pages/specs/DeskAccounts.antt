-- Rule: The desk's page of an account: what is left, what waits and ended, its grants, and an operator's
-- forms (all this project's own).
use Rattle.std.specs.Prelude.{ℕ, ◌==◌, if◌then◌else◌, length, List, [], ◌∷◌, ◌++◌, codes, flat_map, Option, Some, None}
use Rattle.account_rules.specs.declared.account.Grant.{Grant}
use Rattle.account_rules.specs.declared.job.Job.{Job}
use Rattle.page_markup.specs.Parts.{Part, html, Mark, Number, Text}
use Rattle.page_pages.specs.Balances.{balance}
use Rattle.page_pages.specs.DeskForms.{desk_links, give_back_form, grant_form}
use Rattle.page_pages.specs.DeskGrants.{free_month, grants_card}
use Rattle.page_pages.specs.Ended.{ended_card}
use Rattle.page_pages.specs.Frames.{card, document, foot, remark, top}
use Rattle.page_pages.specs.Owners.{account_title}
use Rattle.page_pages.specs.Phases.{phase_of, sign, word}
use Rattle.page_pages.specs.Waiting.{cancel_button, counts_of, hold_buttons, job_name, job_state, name_words}
use Rattle.page_pages.specs.declared.desk_account.DeskAccount.{DeskAccount}
use Rattle.page_pages.specs.declared.markup.TheConstants.{ACTS_OF_LINE, DESK_SCRIPTS, END_OF_ACTS, END_OF_CARD, END_OF_PAGE, END_OF_PAIR, END_OF_STATE, END_OF_TABLE, PAIR}
use Rattle.page_pages.specs.declared.phase.Phase.{Phase}
use Rattle.page_pages.specs.declared.phase.Phase.TheVariants.{Incomplete, Locked, Uncounted, Ready, Released, Printing, Stopping, Printed, Canceled, Failed}
use Rattle.page_pages.specs.declared.texts.TheConstants.{DESK, NO_MONTH_LEFT, NOTHING, NOTHING_WAITS, WAITING, ACTS, COPIES, DEVICE, FILES, JOB, MADE, NUMBER, PAGES, STATE}

-- the heads of the columns
unfoldable pub jobs_columns : List Part
jobs_columns =
    Mark (codes "<table class=\"jobs\">\n<thead><tr><th scope=\"col\" class=\"number\">")
    ∷ Mark NUMBER.now
    ∷ Mark (codes "</th><th scope=\"col\">")
    ∷ Mark JOB.now
    ∷ Mark (codes "</th><th scope=\"col\">")
    ∷ Mark STATE.now
    ∷ Mark (codes "</th><th scope=\"col\">")
    ∷ Mark DEVICE.now
    ∷ Mark (codes "</th><th scope=\"col\" class=\"count\">")
    ∷ Mark PAGES.now
    ∷ Mark (codes "</th><th scope=\"col\" class=\"count\">")
    ∷ Mark COPIES.now
    ∷ Mark (codes "</th><th scope=\"col\" class=\"count\">")
    ∷ Mark FILES.now
    ∷ Mark (codes "</th><th scope=\"col\">")
    ∷ Mark MADE.now
    ∷ Mark (codes "</th><th scope=\"col\"><span class=\"unseen\">")
    ∷ Mark ACTS.now
    ∷ Mark (codes "</span></th></tr></thead>\n<tbody>\n")
    ∷ []

-- which job of which account the buttons before it are for
unfoldable pub job_end : (account : List ℕ) (number : ℕ) → List Part
job_end account number =
    Mark (codes "<input type=\"hidden\" name=\"account\" value=\"")
    ∷ Text account
    ∷ Mark (codes "\"><input type=\"hidden\" name=\"job\" value=\"")
    ∷ Number number
    ∷ Mark (codes "\">")
    ∷ Mark END_OF_ACTS.now
    ∷ []

-- ---- a job

-- one for each act of an operator that is not refused for certain
abbrev pub desk_buttons : Phase → (number : ℕ) → List ℕ
desk_buttons Released number = hold_buttons number
desk_buttons Incomplete number = cancel_button number
desk_buttons Locked number = cancel_button number
desk_buttons Uncounted number = cancel_button number
desk_buttons Ready number = cancel_button number
desk_buttons Printing number = cancel_button number
desk_buttons Stopping number = []
desk_buttons Printed number = []
desk_buttons Canceled number = []
desk_buttons Failed number = []

-- the line of a button: its act, the account, the job
unfoldable pub desk_acts : (account : List ℕ) → Phase → (number : ℕ) → List ℕ
desk_acts account phase number =
    ACTS_OF_LINE.now ++ (desk_buttons phase number ++ html (job_end account number))

-- how it stands
unfoldable pub plain_state : Phase → List ℕ
plain_state phase = html (job_state (sign phase) (word phase) NOTHING.now) ++ END_OF_STATE.now

unfoldable pub desk_cells : Phase → Job → List ℕ
desk_cells phase it =
    html (job_name it.job (name_words it.name))
    ++ (plain_state phase ++ html (counts_of phase it.standing))

unfoldable pub desk_job : (account : List ℕ) → Job → List ℕ
desk_job account it = desk_cells (phase_of it) it ++ desk_acts account (phase_of it) it.job

abbrev pub table_of_jobs : (account : List ℕ) → List Job → List ℕ
table_of_jobs account jobs =
    if length jobs == 0
    then html (remark NOTHING_WAITS.now)
    else html jobs_columns ++ (flat_map (desk_job account) jobs ++ END_OF_TABLE.now)

unfoldable pub jobs_card : (account : List ℕ) → List Job → List ℕ
jobs_card account jobs =
    html (card (codes "waiting") WAITING.now)
    ++ (table_of_jobs account jobs ++ END_OF_CARD.now)

-- ---- the page

unfoldable pub account_start : (account : List ℕ) → List ℕ
account_start account =
    html (document account)
    ++ (DESK_SCRIPTS.now ++ (html (top DESK.now) ++ html desk_links))

unfoldable pub desk_content : DeskAccount → List ℕ
desk_content it =
    html (account_title it.account it.month) ++ balance it.granted it.reserved it.charged

abbrev pub give_back : (account : List ℕ) → Option ℕ → List ℕ
give_back account (Some month) = html (give_back_form account month)
give_back account None = html (remark NO_MONTH_LEFT.now)

unfoldable pub account_forms : (account : List ℕ) (month : ℕ) → List Grant → List ℕ
account_forms account month grants =
    PAIR.now
    ++ (html (grant_form account month)
    ++ (give_back account (free_month grants) ++ END_OF_PAIR.now))

unfoldable pub account_lists : DeskAccount → List ℕ
account_lists it =
    jobs_card it.account it.waiting
    ++ (account_forms it.account it.month it.grants
    ++ (grants_card it.grants ++ ended_card it.ended))

unfoldable pub account_end : List ℕ
account_end = html foot ++ END_OF_PAGE.now

unfoldable pub desk_account_page : DeskAccount → List ℕ
desk_account_page it =
    account_start it.account ++ (desk_content it ++ (account_lists it ++ account_end))
