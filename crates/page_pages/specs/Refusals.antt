-- Rule: The page that tells a browser why what it asked was refused.
use Rattle.std.specs.Prelude.{ℕ, List, [], ◌∷◌, ◌++◌, codes}
use Rattle.page_pages.specs.Frames.{document, top}
use Rattle.page_markup.specs.Parts.{Part, html, Mark}
use Rattle.page_pages.specs.declared.refusal.Refusal.{Refusal}
use Rattle.page_pages.specs.declared.refusal.Refusal.TheVariants.{BadRequest, Misdirected, Forbidden, NoOperator, NotFound, OnlyRead, OnlyPost, TooLarge, WrongType, NoPassword, NoSpace, Busy, Failed}
use Rattle.page_pages.specs.declared.texts.TheConstants.{ASK_AGAIN, BAD_REQUEST, BY_OTHER_NAME, CANNOT_DO, FAILED_HERE, FROM_ELSEWHERE, HAS_FAILED, HAS_NO_PASSWORD, IS_BAD_REQUEST, IS_FULL, IS_NO_OPERATOR, IS_ONLY_DONE, IS_ONLY_READ, IS_TOO_LARGE, IS_WRONG_TYPE, WAS_NOT_DONE, NOT_KNOWN_HERE, NOT_NOW, OTHER_NAME, NO_PAGE, NO_SUCH_PAGE, PASSWORD_MISSING, PRINT_ROOM, START_PAGE, TOO_LARGE}

abbrev pub heading : Refusal → List ℕ
heading BadRequest = BAD_REQUEST.now
heading Misdirected = OTHER_NAME.now
heading Forbidden = WAS_NOT_DONE.now
heading NoOperator = NOT_KNOWN_HERE.now
heading NotFound = NO_PAGE.now
heading OnlyRead = CANNOT_DO.now
heading OnlyPost = CANNOT_DO.now
heading TooLarge = TOO_LARGE.now
heading WrongType = CANNOT_DO.now
heading NoPassword = PASSWORD_MISSING.now
heading NoSpace = NOT_NOW.now
heading Busy = NOT_NOW.now
heading Failed = HAS_FAILED.now

abbrev pub sentence : Refusal → List ℕ
sentence BadRequest = IS_BAD_REQUEST.now
sentence Misdirected = BY_OTHER_NAME.now
sentence Forbidden = FROM_ELSEWHERE.now
sentence NoOperator = IS_NO_OPERATOR.now
sentence NotFound = NO_SUCH_PAGE.now
sentence OnlyRead = IS_ONLY_READ.now
sentence OnlyPost = IS_ONLY_DONE.now
sentence TooLarge = IS_TOO_LARGE.now
sentence WrongType = IS_WRONG_TYPE.now
sentence NoPassword = HAS_NO_PASSWORD.now
sentence NoSpace = IS_FULL.now
sentence Busy = ASK_AGAIN.now
sentence Failed = FAILED_HERE.now

-- the heading, the sentence, and the way to the first page
unfoldable pub refusal_card : (heading said : List ℕ) → List Part
refusal_card heading said =
    Mark (codes "<section class=\"card sheet\">\n<h1>")
    ∷ Mark heading
    ∷ Mark (codes "</h1>\n<p>")
    ∷ Mark said
    ∷ Mark (codes "</p>\n<p><a href=\"/\">")
    ∷ Mark START_PAGE.now
    ∷ Mark (codes "</a></p>\n</section>\n</main>\n</body>\n</html>\n")
    ∷ []

unfoldable pub refusal_page : Refusal → List ℕ
refusal_page refusal =
    html (document (heading refusal))
    ++ (html (top PRINT_ROOM.now) ++ html (refusal_card (heading refusal) (sentence refusal)))
