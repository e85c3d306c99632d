-- Names that are known, as they are asked for.
use Rattle.std.proofs.Common.{◌≡◌, ℕ, List, [], ◌∷◌, ◌++◌, subst}
use Rattle.client_operator.specs.Names.{AsksNames, AsksPage, KnowsNames, TellsName, accounts_asked, last_of}
use Rattle.client_operator.specs.Talks.{At, AsksList, InTurn}
use Rattle.client_operator.proofs.Turns.{InTurn-snoc}

pub KnowsNames-more : (from mid to : At) (names page all : List (List ℕ)) → KnowsNames from mid names
    → AsksList mid to (accounts_asked (last_of names)) page → InTurn TellsName names all page
    → (page ≡ [] → ⊥) → KnowsNames from to all
KnowsNames-more from mid to names page all knows asks tells some = (
  knows.0 ++ page ∷ [],
  InTurn-snoc AsksPage (record { at = from; names = [] }) (record { at = mid; names = names })
      (record { at = to; names = all }) knows.0 page knows.1 (record { some = some; asks = asks; tells = tells }),
)

pub AsksNames-of : (from mid to : At) (names told : List (List ℕ)) → KnowsNames from mid names
    → AsksList mid to (accounts_asked (last_of names)) told → told ≡ [] → AsksNames from to names
AsksNames-of from mid to names told knows asks none = record {
  mid = mid;
  knows = knows;
  none = subst (AsksList mid to (accounts_asked (last_of names))) none asks;
}
