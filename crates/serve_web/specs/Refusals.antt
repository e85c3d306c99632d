-- Rule: The HTTP statuses of refusals (RFC 9110 section 15).
use Rattle.std.specs.Prelude.{ℕ}
use Rattle.page_pages.specs.declared.refusal.Refusal.{Refusal}
use Rattle.page_pages.specs.declared.refusal.Refusal.TheVariants.{BadRequest, Misdirected, Forbidden, NoOperator, NotFound, OnlyRead, OnlyPost, TooLarge, WrongType, NoPassword, NoSpace, Busy, Failed}

abbrev pub status_of : Refusal → ℕ
status_of BadRequest = 400
status_of Misdirected = 421
status_of Forbidden = 403
status_of NoOperator = 403
status_of NotFound = 404
status_of OnlyRead = 405
status_of OnlyPost = 405
status_of TooLarge = 413
status_of WrongType = 415
status_of NoPassword = 400
status_of NoSpace = 503
status_of Busy = 503
status_of Failed = 500
