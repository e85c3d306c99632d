-- Rule: The form to print a file. The script (`page.js`) sends the file as it is, once no field is wrong.
use Rattle.std.specs.Prelude.{ℕ, Bool, List, [], ◌∷◌, ◌++◌, codes, if◌then◌else◌}
use Rattle.page_markup.specs.Parts.{Part, html, Mark, Text}
use Rattle.page_pages.specs.declared.markup.TheConstants.{KINDS_OF_FILE}
use Rattle.page_pages.specs.declared.texts.TheConstants.{CANCELS_MANY, CANCEL_CHOSEN, CHOOSE, CHOOSE_ALL, CHOSEN, COPIES, DONE_OF_MANY, FILE, FILE_HELP, HAND_IN, PAGES_HELP, PAGES_OF_COPY, PAGES_RANGE, PASSWORD, PASSWORD_DUTY, PASSWORD_HELP, PRINT, RELEASE_CHOSEN, SCRIPT_NEEDED, SENT_BROKEN, SENT_EMPTY, SENT_LARGE, SENT_REFUSED, SENT_SENDING, WHY_DOCUMENT_FORMAT, WHY_JOB_NAME_TOO_LONG, WHY_PASSWORD_TOO_LONG, WHY_TEMPLATE}

-- the head of the form to print, with what is said of sending it
unfoldable pub form_start : (account : List ℕ) → List Part
form_start account =
    Mark (codes "<section class=\"card screen\" aria-labelledby=\"hand-in\">\n<header><h2 ")
    ∷ Mark (codes "id=\"hand-in\">")
    ∷ Mark PRINT.now
    ∷ Mark (codes "</h2></header>\n<form class=\"fields\" id=\"print\" method=\"post\" ")
    ∷ Mark (codes "action=\"/")
    ∷ Text account
    ∷ Mark (codes "/print")
    ∷ Mark (codes "\"\ndata-sending=\"")
    ∷ Mark SENT_SENDING.now
    ∷ Mark (codes "\"\ndata-refused=\"")
    ∷ Mark SENT_REFUSED.now
    ∷ Mark (codes "\"\ndata-broken=\"")
    ∷ Mark SENT_BROKEN.now
    ∷ []

-- what is said of fields that are wrong
unfoldable pub form_checks : List Part
form_checks =
    Mark (codes "\"\ndata-empty=\"")
    ∷ Mark SENT_EMPTY.now
    ∷ Mark (codes "\"\ndata-large=\"")
    ∷ Mark SENT_LARGE.now
    ∷ Mark (codes "\"\ndata-name=\"")
    ∷ Mark WHY_JOB_NAME_TOO_LONG.now
    ∷ Mark (codes "\"\ndata-kind=\"")
    ∷ Mark WHY_DOCUMENT_FORMAT.now
    ∷ Mark (codes "\"\ndata-copies=\"")
    ∷ Mark WHY_TEMPLATE.now
    ∷ Mark (codes "\"\ndata-pages=\"")
    ∷ Mark PAGES_RANGE.now
    ∷ Mark (codes "\"\ndata-password=\"")
    ∷ Mark WHY_PASSWORD_TOO_LONG.now
    ∷ Mark (codes "\"\ndata-duty=\"")
    ∷ Mark PASSWORD_DUTY.now
    ∷ []

-- what is said where several jobs are chosen
unfoldable pub form_choices : List Part
form_choices =
    Mark (codes "\"\ndata-choose=\"")
    ∷ Mark CHOOSE.now
    ∷ Mark (codes "\"\ndata-all=\"")
    ∷ Mark CHOOSE_ALL.now
    ∷ Mark (codes "\"\ndata-chosen=\"")
    ∷ Mark CHOSEN.now
    ∷ Mark (codes "\"\ndata-release=\"")
    ∷ Mark RELEASE_CHOSEN.now
    ∷ Mark (codes "\"\ndata-cancel=\"")
    ∷ Mark CANCEL_CHOSEN.now
    ∷ Mark (codes "\"\ndata-sure=\"")
    ∷ Mark CANCELS_MANY.now
    ∷ Mark (codes "\"\ndata-done=\"")
    ∷ Mark DONE_OF_MANY.now
    ∷ Mark (codes "\">\n")
    ∷ []

-- the field of the file
unfoldable pub form_file : List Part
form_file =
    Mark (codes "<div class=\"wide\"><label for=\"file\">")
    ∷ Mark FILE.now
    ∷ Mark (codes "</label><input id=\"file\" name=\"file\" type=\"file\" required")
    ∷ Mark (codes " accept=\"")
    ∷ Mark KINDS_OF_FILE.now
    ∷ Mark (codes "\" aria-describedby=\"file-help\"><small id=\"file-help\">")
    ∷ Mark FILE_HELP.now
    ∷ Mark (codes "</small></div>\n")
    ∷ []

-- the fields of the copies and the pages
unfoldable pub form_counts : List Part
form_counts =
    Mark (codes "<div><label for=\"copies\">")
    ∷ Mark COPIES.now
    ∷ Mark (codes "</label><input id=\"copies\" name=\"copies\"")
    ∷ Mark (codes " type=\"text\" inputmode=\"numeric\" maxlength=\"3\" value=\"1\" required></div>\n")
    ∷ Mark (codes "<div><label for=\"pages\">")
    ∷ Mark PAGES_OF_COPY.now
    ∷ Mark (codes "</label><input id=\"pages\" name=\"pages\"")
    ∷ Mark (codes " type=\"text\" inputmode=\"numeric\" maxlength=\"8\" ")
    ∷ Mark (codes "aria-describedby=\"pages-help\"><small id=\"pages-help\">")
    ∷ Mark PAGES_HELP.now
    ∷ Mark (codes "</small></div>\n")
    ∷ []

-- where a file is taken with a password alone, the browser sends none without, and the page says so
abbrev pub duty_mark : (needs_password : Bool) → List ℕ
duty_mark needs_password = if needs_password then codes " required" else codes ""

abbrev pub password_help : (needs_password : Bool) → List ℕ
password_help needs_password = if needs_password then PASSWORD_DUTY.now else PASSWORD_HELP.now

-- the field of the password
unfoldable pub form_password : (duty help : List ℕ) → List Part
form_password duty help =
    Mark (codes "<div><label for=\"password\">")
    ∷ Mark PASSWORD.now
    ∷ Mark (codes "</label><input id=\"password\" name=\"password\"")
    ∷ Mark (codes " type=\"password\" maxlength=\"32\" autocomplete=\"new-password\"")
    ∷ Mark duty
    ∷ Mark (codes " aria-describedby=\"password-help\"><small id=\"password-help\">")
    ∷ Mark help
    ∷ Mark (codes "</small></div>\n")
    ∷ []

-- the button, and the end of the form
unfoldable pub form_end : List Part
form_end =
    Mark (codes "<div class=\"wide\"><button class=\"first\" disabled>")
    ∷ Mark HAND_IN.now
    ∷ Mark (codes "</button> <span id=\"sent\" role=\"status\"></span></div>\n</form>\n")
    ∷ Mark (codes "<noscript><p class=\"quiet\">")
    ∷ Mark SCRIPT_NEEDED.now
    ∷ Mark (codes "</p></noscript>\n</section>\n")
    ∷ []

unfoldable pub print_form : (account : List ℕ) (needs_password : Bool) → List ℕ
print_form account needs_password =
    html (form_start account)
    ++ (html form_checks
    ++ (html form_choices
    ++ (html form_file
    ++ (html form_counts
    ++ (html (form_password (duty_mark needs_password) (password_help needs_password))
    ++ html form_end)))))
