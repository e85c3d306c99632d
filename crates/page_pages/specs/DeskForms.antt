-- Rule: The forms of the desk. The values of each, in order and with a space between them, are the line that
-- it asks.
use Rattle.std.specs.Prelude.{ℕ, List, [], ◌∷◌, codes}
use Rattle.page_markup.specs.Parts.{Part, Mark, MonthNumber, Text}
use Rattle.page_pages.specs.declared.markup.TheConstants.{LINE_FORM, MONTH_FIELD, NAME_FIELD, UNITS_FIELD}
use Rattle.page_pages.specs.declared.texts.TheConstants.{ACCOUNT, ADD_DEVICE, CAME, DEVICE, DEVICES, FILE, FILE_EMPTY, GIVE, GIVE_BACK, GIVE_BACK_HELP, GRANT, GRANTS_OF_FILE, GRANT_LINE, GRANT_ROWS, GRANT_UNITS, LINE_BROKEN, MONTH, MONTH_HELP, NAME_HELP, OPEN, OPEN_ACCOUNT, ROW, ROWS_DONE, ROWS_HELP, ROWS_SCRIPT, ROWS_SENT, ROW_BAD, ROW_BROKEN, TO_ACCOUNTS, TURN_ON, UNITS_GIVEN}

-- opens an account
unfoldable pub open_form : List Part
open_form =
    Mark (codes "<section class=\"card screen\" ")
    ∷ Mark (codes "aria-labelledby=\"open-account\">\n<header><h2 id=\"open-account\">")
    ∷ Mark OPEN_ACCOUNT.now
    ∷ Mark (codes "</h2></header>\n")
    ∷ Mark LINE_FORM.now
    ∷ Mark (codes " class=\"fields\">\n<input type=\"hidden\" name=\"act\" ")
    ∷ Mark (codes "value=\"open\">\n<div><label for=\"opened\">")
    ∷ Mark ACCOUNT.now
    ∷ Mark (codes "</label><input id=\"opened\" name=\"account\"")
    ∷ Mark NAME_FIELD.now
    ∷ Mark (codes " aria-describedby=\"opened-help\"><small id=\"opened-help\">")
    ∷ Mark NAME_HELP.now
    ∷ Mark (codes "</small></div>\n<div class=\"wide\"><button class=\"first\">")
    ∷ Mark OPEN.now
    ∷ Mark (codes "</button></div>\n</form>\n</section>\n")
    ∷ []

-- grants what a file says: the script sends a form for each of its records
unfoldable pub file_form : List Part
file_form =
    Mark (codes "<section class=\"card screen\" ")
    ∷ Mark (codes "aria-labelledby=\"file-of-grants\">\n<header><h2 ")
    ∷ Mark (codes "id=\"file-of-grants\">")
    ∷ Mark GRANTS_OF_FILE.now
    ∷ Mark (codes "</h2></header>\n")
    ∷ Mark (codes "<form class=\"fields\" id=\"file-form\" method=\"post\" ")
    ∷ Mark (codes "action=\"/line.html\"\ndata-empty=\"")
    ∷ Mark FILE_EMPTY.now
    ∷ Mark (codes "\"\ndata-bad=\"")
    ∷ Mark ROW_BAD.now
    ∷ Mark (codes "\"\ndata-broken=\"")
    ∷ Mark ROW_BROKEN.now
    ∷ Mark (codes "\"\ndata-row=\"")
    ∷ Mark ROW.now
    ∷ Mark (codes "\"\ndata-line=\"")
    ∷ Mark GRANT_LINE.now
    ∷ Mark (codes "\"\ndata-came=\"")
    ∷ Mark CAME.now
    ∷ Mark (codes "\"\ndata-done=\"")
    ∷ Mark ROWS_DONE.now
    ∷ Mark (codes "\"\ndata-sending=\"")
    ∷ Mark ROWS_SENT.now
    ∷ Mark (codes "\">\n")
    ∷ Mark (codes "<div class=\"wide\"><label for=\"rows\">")
    ∷ Mark FILE.now
    ∷ Mark (codes "</label><input id=\"rows\" type=\"file\" required ")
    ∷ Mark (codes "accept=\".csv,.txt,text/csv,text/plain\" ")
    ∷ Mark (codes "aria-describedby=\"rows-help\"><small id=\"rows-help\">")
    ∷ Mark ROWS_HELP.now
    ∷ Mark (codes "</small></div>\n<div class=\"wide\"><button class=\"first\" disabled>")
    ∷ Mark GRANT_ROWS.now
    ∷ Mark (codes "</button> <span id=\"sent\" ")
    ∷ Mark (codes "role=\"status\"></span></div>\n</form>\n<noscript><p class=\"quiet\">")
    ∷ Mark ROWS_SCRIPT.now
    ∷ Mark (codes "</p></noscript>\n</section>\n")
    ∷ []

-- grants an account units, of the month that it is or another
unfoldable pub grant_form : (account : List ℕ) (month : ℕ) → List Part
grant_form account month =
    Mark (codes "<section class=\"card screen\" aria-labelledby=\"grant\">\n<header><h2")
    ∷ Mark (codes " id=\"grant\">")
    ∷ Mark GRANT_UNITS.now
    ∷ Mark (codes "</h2></header>\n")
    ∷ Mark LINE_FORM.now
    ∷ Mark (codes " class=\"fields\">\n<input type=\"hidden\" name=\"act\" ")
    ∷ Mark (codes "value=\"grant\"><input type=\"hidden\" name=\"account\" value=\"")
    ∷ Text account
    ∷ Mark (codes "\">\n<div><label for=\"month\">")
    ∷ Mark MONTH.now
    ∷ Mark (codes "</label><input id=\"month\" name=\"month\"")
    ∷ Mark MONTH_FIELD.now
    ∷ Mark (codes " value=\"")
    ∷ MonthNumber month
    ∷ Mark (codes "\" aria-describedby=\"month-help\"><small id=\"month-help\">")
    ∷ Mark MONTH_HELP.now
    ∷ Mark (codes "</small></div>\n<div><label for=\"granted\">")
    ∷ Mark UNITS_GIVEN.now
    ∷ Mark (codes "</label><input id=\"granted\" name=\"units\"")
    ∷ Mark UNITS_FIELD.now
    ∷ Mark (codes "></div>\n<div class=\"wide\"><button class=\"first\">")
    ∷ Mark GRANT.now
    ∷ Mark (codes "</button></div>\n</form>\n</section>\n")
    ∷ []

-- gives an account units back, by a grant for this month
unfoldable pub give_back_form : (account : List ℕ) (month : ℕ) → List Part
give_back_form account month =
    Mark (codes "<section class=\"card screen\" ")
    ∷ Mark (codes "aria-labelledby=\"give-back\">\n<header><h2 id=\"give-back\">")
    ∷ Mark GIVE_BACK.now
    ∷ Mark (codes "</h2></header>\n")
    ∷ Mark LINE_FORM.now
    ∷ Mark (codes " class=\"fields\">\n<input type=\"hidden\" name=\"act\" ")
    ∷ Mark (codes "value=\"grant\"><input type=\"hidden\" name=\"account\" value=\"")
    ∷ Text account
    ∷ Mark (codes "\"><input type=\"hidden\" name=\"month\" value=\"")
    ∷ MonthNumber month
    ∷ Mark (codes "\">\n<div><label for=\"given\">")
    ∷ Mark UNITS_GIVEN.now
    ∷ Mark (codes "</label><input id=\"given\" name=\"units\"")
    ∷ Mark UNITS_FIELD.now
    ∷ Mark (codes " aria-describedby=\"given-help\"><small id=\"given-help\">")
    ∷ Mark GIVE_BACK_HELP.now
    ∷ Mark (codes "</small></div>\n<div class=\"wide\"><button>")
    ∷ Mark GIVE.now
    ∷ Mark (codes "</button></div>\n</form>\n</section>\n")
    ∷ []

-- makes a device known, and turns it on
unfoldable pub device_form : List Part
device_form =
    Mark (codes "<section class=\"card screen\" aria-labelledby=\"add\">\n<header><h2 ")
    ∷ Mark (codes "id=\"add\">")
    ∷ Mark ADD_DEVICE.now
    ∷ Mark (codes "</h2></header>\n")
    ∷ Mark LINE_FORM.now
    ∷ Mark (codes " class=\"fields\">\n<input type=\"hidden\" name=\"act\" ")
    ∷ Mark (codes "value=\"device\">\n<div><label for=\"added\">")
    ∷ Mark DEVICE.now
    ∷ Mark (codes "</label><input id=\"added\" name=\"name\"")
    ∷ Mark NAME_FIELD.now
    ∷ Mark (codes " aria-describedby=\"added-help\"><small id=\"added-help\">")
    ∷ Mark NAME_HELP.now
    ∷ Mark (codes "</small></div>\n<input type=\"hidden\" name=\"state\" value=\"on\">\n<")
    ∷ Mark (codes "div class=\"wide\"><button class=\"first\">")
    ∷ Mark TURN_ON.now
    ∷ Mark (codes "</button></div>\n</form>\n</section>\n")
    ∷ []

-- the ways to the other pages of the desk
unfoldable pub desk_links : List Part
desk_links =
    Mark (codes "<nav class=\"pager\" id=\"desk\" data-broken=\"")
    ∷ Mark LINE_BROKEN.now
    ∷ Mark (codes "\"><a href=\"/\">")
    ∷ Mark TO_ACCOUNTS.now
    ∷ Mark (codes "</a><a href=\"/devices.html\">")
    ∷ Mark DEVICES.now
    ∷ Mark (codes "</a></nav>\n")
    ∷ []
