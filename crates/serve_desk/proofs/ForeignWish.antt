-- What a form asks that another site may have sent is refused.
use Rattle.std.proofs.Common.{◌≡◌, ℕ, Bool, true, if◌then◌else◌, List, Option, None, Some, Result, Err, refl, ap}
use Rattle.http.specs.declared.request.Request.{Request}
use Rattle.input_http.specs.Origins.{is_foreign}
use Rattle.page_pages.specs.declared.refusal.Refusal.{Refusal}
use Rattle.page_pages.specs.declared.refusal.Refusal.TheVariants.{BadRequest, Forbidden}
use Rattle.serve_desk.specs.Requests.{body_refusal, judged_if, unless}
use Rattle.serve_desk.specs.declared.asked.Asked.{Asked}

abbrev pub IsRefused : Result Asked Refusal → Type 0
IsRefused wants = (why : Refusal) × (wants ≡ Err why)

pub foreign_wish : (request : Request (List ℕ)) → is_foreign request ≡ true → (asks : Option Asked) → IsRefused (judged_if request asks)
foreign_wish request foreign None = (BadRequest, refl)
foreign_wish request foreign (Some asks) = (Forbidden, ap (λ (b : Bool). if b then Err Forbidden else unless (body_refusal request asks) asks) foreign)
