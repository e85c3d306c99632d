-- The documents of one job of a room (all this project's own).
use Rattle.std.specs.Prelude.{ℕ, List, [], ◌∷◌}
use Rattle.std.specs.List.{flat_map}
use Rattle.std.specs.Option.{option_to_list}
use Rattle.std.specs.FinMap.{get}
use Rattle.account_rules.specs.declared.job.Document.{Document}
use Rattle.account_state.specs.Rooms.{RoomValue}

-- the numbers that a document may have
abbrev pub document_numbers : List ℕ
document_numbers = 1 ∷ 2 ∷ 3 ∷ 4 ∷ 5 ∷ 6 ∷ 7 ∷ 8 ∷ []

-- the documents of a job, by rising number
abbrev pub documents_of : (room : RoomValue) (number : ℕ) → List Document
documents_of room number =
    flat_map
    (λ document. option_to_list (get room.documents (number, document)))
    document_numbers
