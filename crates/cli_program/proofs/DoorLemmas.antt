-- One door more, at which is spoken what its word names it for.
use Rattle.std.proofs.Common.{◌≡◌, ◌+◌, ◌<◌, ℕ, List, [], ◌∷◌, ◌++◌, get_or, length, map, take, sym, ap, subst, ◌∙◌}
use Rattle.std.proofs.lemmas.List.{map-append, take_more}
use Rattle.cli_words.specs.declared.served_door.ServedDoor.{ServedDoor}
use Rattle.serve_sockets.specs.Doors.{kind_of, speech_of}
use Rattle.serve_sockets.specs.declared.doors.Entrance.{Entrance}
use Rattle.serve_sockets.specs.declared.doors.Kind.{Kind}
use Rattle.serve_sockets.specs.declared.doors.Speech.{Speech}
use Rattle.cli_program.specs.SpokenDoors.{AreSpoken, IsSpokenAt}

one_spoken : (doors : List ServedDoor) (speeches : List Speech) (door : ServedDoor) (speech : Speech) → AreSpoken doors speeches → IsSpokenAt door speech → AreSpoken (doors ++ door ∷ []) (speeches ++ speech ∷ [])
one_spoken [] [] door speech are is = (is, tt)
one_spoken (first ∷ doors) (spoken ∷ speeches) door speech are is = (are.0, one_spoken doors speeches door speech are.1 is)
one_spoken [] (spoken ∷ speeches) door speech are is = absurd are
one_spoken (first ∷ doors) [] door speech are is = absurd are

-- a door that was opened behind those before it
pub one_opened : (asked : List ServedDoor) (place : ℕ) (door : ServedDoor) (doors all : List Entrance) (entrance : Entrance) (kind : Kind) → place < length asked → AreSpoken (take place asked) (map speech_of doors) → IsSpokenAt (get_or asked place door) kind.speech → kind_of entrance ≡ kind → all ≡ doors ++ entrance ∷ [] → AreSpoken (take (place + 1) asked) (map speech_of all)
one_opened asked place door doors all entrance kind within are is same grown =
    let spoken : IsSpokenAt (get_or asked place door) (speech_of entrance) = subst (λ (it : Kind). IsSpokenAt (get_or asked place door) it.speech) (sym same) is in
    let more : AreSpoken (take place asked ++ get_or asked place door ∷ []) (map speech_of doors ++ speech_of entrance ∷ []) = one_spoken (take place asked) (map speech_of doors) (get_or asked place door) (speech_of entrance) are spoken in
    subst (λ (front : List ServedDoor). AreSpoken front (map speech_of all)) (sym (take_more asked place door within))
    (subst (λ (speeches : List Speech). AreSpoken (take place asked ++ get_or asked place door ∷ []) speeches) (sym (ap (map speech_of) grown ∙ map-append speech_of doors (entrance ∷ []))) more)
