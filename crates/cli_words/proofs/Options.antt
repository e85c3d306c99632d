-- Options of `serve`, one after another.
use Rattle.std.proofs.Common.{◌≡◌, ℕ, IsTrue, List, [], ◌∷◌, ◌++◌, Result, Ok, Err, OnOk, Bor, ap, append_assoc, inl, inr, refl, subst, sym, ◌∙◌}
use Rattle.cli_words.specs.Visitors.{AreOptions, IsDoorOf, is_no_door, option_of}
use Rattle.cli_words.specs.Words.{texts}
use Rattle.cli_words.specs.declared.served_door.ServedDoor.{ServedDoor}
use Rattle.cli_words.specs.declared.visitors.Visitors.{Visitors}

-- an option and its value, and the options behind them
pub one_more : {E : Type 0} (options behind rest : List (Bor (List ℕ))) (name value : Bor (List ℕ)) (whose : Visitors) (door : ServedDoor) (was pushed now : List ServedDoor) (r : Result (Unit {0}) E)
    → options ≡ name ∷ behind → behind ≡ value ∷ rest → name.now ≡ option_of whose → IsDoorOf whose value.now door → pushed ≡ was ++ door ∷ []
    → OnOk r ((further : List ServedDoor) × (now ≡ pushed ++ further) × AreOptions (texts rest) further)
    → OnOk r ((further : List ServedDoor) × (now ≡ was ++ further) × AreOptions (texts options) further)
one_more options behind rest name value whose door was pushed now (Err e) first second named is pushes more = tt
one_more options behind rest name value whose door was pushed now (Ok u) first second named is pushes more =
    let by_name = named ∙ ap option_of (sym is.visitors) in
    let by_value = subst (λ (visitors : Visitors). IsDoorOf visitors value.now door) (sym is.visitors) is in (
      door ∷ more.0,
      more.1 ∙ ap (λ doors. doors ++ more.0) pushes ∙ append_assoc was (door ∷ []) more.0,
      subst (λ (words : List (Bor (List ℕ))). AreOptions (texts words) (door ∷ more.0)) (sym (first ∙ ap (λ words. name ∷ words) second)) (inr (door, more.0, refl, by_name, by_value, more.2)),
    )

-- one that is no door, and the options behind it
pub no_door_more : {E : Type 0} (options behind rest : List (Bor (List ℕ))) (name value : Bor (List ℕ)) (was now : List ServedDoor) (r : Result (Unit {0}) E)
    → options ≡ name ∷ behind → behind ≡ value ∷ rest → IsTrue (is_no_door name.now value.now)
    → OnOk r ((further : List ServedDoor) × (now ≡ was ++ further) × AreOptions (texts rest) further)
    → OnOk r ((further : List ServedDoor) × (now ≡ was ++ further) × AreOptions (texts options) further)
no_door_more options behind rest name value was now (Err e) first second named more = tt
no_door_more options behind rest name value was now (Ok u) first second named more = (
  more.0,
  more.1,
  subst (λ (words : List (Bor (List ℕ))). AreOptions (texts words) more.0) (sym (first ∙ ap (λ words. name ∷ words) second)) (inl (named, more.2)),
)
