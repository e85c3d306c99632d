-- Rule: The header fields of the answers to browsers, in the order in which they are sent.
use Rattle.std.specs.Prelude.{ℕ, Bool, List, [], ◌∷◌, codes}
use Rattle.http1.specs.Fields.{Header as Field}
use Rattle.serve_peers.specs.Answers.{close_fields}
use Rattle.page_pages.specs.declared.style.TheConstants.{PAGE_POLICY}
use Rattle.page_pages.specs.declared.refusal.Refusal.{Refusal}
use Rattle.page_pages.specs.declared.refusal.Refusal.TheVariants.{OnlyRead, OnlyPost, NoSpace, Busy}

-- what a browser may load for the page, and who may frame it (Content Security Policy Level 3)
abbrev pub policy_fields : List Field
policy_fields = (codes "content-security-policy", PAGE_POLICY.now) ∷ []

-- of every answer: the policy; its type is as it says; other sites learn no address of here
abbrev pub safe_fields : (closes : Bool) → List Field
safe_fields closes =
    (codes "content-security-policy", PAGE_POLICY.now)
    ∷ (codes "x-content-type-options", codes "nosniff")
    ∷ (codes "referrer-policy", codes "same-origin")
    ∷ close_fields closes

-- of an answer that is not to be kept (RFC 9111 section 5.2.2.5)
abbrev pub common_fields : (closes : Bool) → List Field
common_fields closes = (codes "cache-control", codes "no-store") ∷ safe_fields closes

-- of what a question is answered with
abbrev pub shown_fields : (kind : List ℕ) (closes : Bool) → List Field
shown_fields kind closes = (codes "content-type", kind) ∷ common_fields closes

abbrev pub page_fields : (closes : Bool) → List Field
page_fields closes =
    (codes "content-type", codes "text/html; charset=utf-8") ∷ common_fields closes

-- the style sheet and the script may be kept for ten minutes
abbrev pub sheet_fields : (kind : List ℕ) (closes : Bool) → List Field
sheet_fields kind closes =
    (codes "content-type", kind) ∷ (codes "cache-control", codes "max-age=600")
    ∷ safe_fields closes

-- a refusal of the method names those that there are (RFC 9110 section 15.5.6), and 503 tells after
-- how many seconds to ask again (RFC 9110 section 10.2.3)
abbrev pub more_fields : Refusal → List Field
more_fields OnlyRead = (codes "allow", codes "GET, HEAD") ∷ []
more_fields OnlyPost = (codes "allow", codes "POST") ∷ []
more_fields NoSpace = (codes "retry-after", codes "60") ∷ []
more_fields Busy = (codes "retry-after", codes "1") ∷ []
more_fields _ = []
