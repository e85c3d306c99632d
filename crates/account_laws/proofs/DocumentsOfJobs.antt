-- Each document stands under the number of its job, as it was sent.
use Rattle.std.proofs.Common.{◌≡◌, ℕ, Bool, true, false, cond, ◌==◌, ◌&&◌, not, List, [], ◌∷◌, ◌++◌, map, Option, Some, None, refl, sym, ap, ◌∙◌, arith, nat_lt, length, codes}
use Rattle.std.specs.FinMap.{FinMap, get, get-empty, get-insert}
use Rattle.std.specs.Fmt.{decimal}
use Rattle.std.specs.List.{flat_map}
use Rattle.std.specs.Option.{option_to_list}
use Rattle.std.proofs.lemmas.Bool.Decides.{nat_tests}
use Rattle.std.proofs.lemmas.Option.{none-some, same_Some}
use Rattle.ipp_coding.specs.Limits.{header_length}
use Rattle.account_machine.specs.Events.{AccountEvent, Ipp, OfAccount, Open}
use Rattle.account_machine.specs.JobRequests.{sent_document}
use Rattle.account_machine.specs.Machine.{answered}
use Rattle.account_machine.specs.NewJobs.{new_document}
use Rattle.account_machine.specs.Steps.{with_moved}
use Rattle.account_machine.specs.declared.event.Reply.{Reply}
use Rattle.account_laws.proofs.Changes.{Makes, refuses, reads, makes, takes, acts, releases, starts, settles, grants, makes_one}
use Rattle.account_lives.proofs.LifeLemmas.{of_each_life, unopened_answer}
use Rattle.account_lives.specs.Lives.{IsLife, Life}
use Rattle.account_laws.proofs.SpelledFields.{same_media_type}
use Rattle.account_laws.specs.StandsAsTold.{as_sent}
use Rattle.account_laws.specs.StationAnswers.{part_told}
use Rattle.account_replies.specs.Parts.{part_of}
use Rattle.account_replies.specs.declared.part.Part.{Part}
use Rattle.account_rules.specs.Devices.{Devices}
use Rattle.account_rules.specs.JobStates.{is_unfinished}
use Rattle.account_rules.specs.declared.job.Document.{Document}
use Rattle.account_rules.specs.declared.job.Standing.{Standing}
use Rattle.account_state.proofs.DocumentMaps.{pair_tie, place_cmp_total}
use Rattle.account_state.proofs.KeptDocuments.{left_document}
use Rattle.account_state.specs.Changes.{with_document, with_ended, with_standing, without_documents}
use Rattle.account_state.specs.Documents.{document_numbers, documents_of}
use Rattle.account_state.specs.Rooms.{RoomValue, place_cmp}

-- ---- each is of its job

abbrev pub AreOfJobs : FinMap place_cmp Document → Type 0
AreOfJobs documents = (number k : ℕ) (document : Document) → get documents (number, k) ≡ Some document → document.job ≡ number

-- one that comes stands under the number of its own
one_more : (documents : FinMap place_cmp Document) (more : Option Document) → AreOfJobs documents → AreOfJobs (with_document documents more)
one_more documents None are = are
one_more documents (Some it) are = λ number k document here.
    by number k document (it.job == number) (it.number == k) refl
    (sym (get-insert place_cmp_total documents (it.job, it.number) it (number, k) ∙ ap (λ (b : Bool). cond b (Some it) (get documents (number, k))) (pair_tie number k it.job it.number)) ∙ here)
  where
    by : (number k : ℕ) (document : Document) (a b : Bool) → (it.job == number) ≡ a → cond (a && b) (Some it) (get documents (number, k)) ≡ Some document → document.job ≡ number
    by number k document true true same is =
        let its : it.job ≡ number = grind (arith, nat_tests) in
        ap (λ (d : Document). d.job) (sym (same_Some it document is)) ∙ its
    by number k document true false same is = are number k document is
    by number k document false b same is = are number k document is

fewer : (documents : FinMap place_cmp Document) (gone : ℕ) → AreOfJobs documents → AreOfJobs (without_documents documents gone)
fewer documents gone are number k document here = by (number == gone) (sym (left_document documents gone (number, k)) ∙ here)
  where
    by : (b : Bool) → cond (not b) (get documents (number, k)) None ≡ Some document → document.job ≡ number
    by true is = absurd (none-some document is)
    by false is = are number k document is

moved : (room : RoomValue) (number : ℕ) (standing : Standing) → AreOfJobs room.documents → AreOfJobs (with_moved room number standing).documents
moved room number standing are =
    elim (is_unfinished standing.state) as (λ (b : Bool). AreOfJobs (cond b (with_standing room number standing None) (with_ended room number standing)).documents)
    [ true ↦ are | false ↦ fewer room.documents number are ]

each_keeps : (room : RoomValue) (devices : Devices) (now : ℕ) (account : List ℕ) (event : AccountEvent) (said : Reply) (after : RoomValue) → Makes room devices now account event said after → AreOfJobs room.documents → AreOfJobs after.documents
each_keeps room devices now account _ _ _ (refuses event said undone isnt none) are = are
each_keeps room devices now account _ _ _ (reads body ask text read only) are = are
each_keeps room devices now account _ _ _ (makes body ask text read a_job accepted done) are = one_more room.documents (new_document room.next ask) are
each_keeps room devices now account _ _ _ (takes body ask text job standing read sends there goes done) are = one_more room.documents (sent_document ask job) are
each_keeps room devices now account _ _ _ (acts body ask text job it standing read there is_act goes done) are = moved room ask.job standing are
each_keeps room devices now account _ _ _ (releases device number password impressions ready job standing is_ready there goes) are = moved room number standing are
each_keeps room devices now account _ _ _ (starts device number ready job standing is_ready there goes) are = moved room number standing are
each_keeps room devices now account _ _ _ (settles device number impressions failed of_it job standing is_known there goes) are = moved room number standing are
each_keeps room devices now account _ _ _ (grants month pages new) are = are

-- ---- over a life

abbrev pub RoomHasOfJobs : Option RoomValue → Type 0
RoomHasOfJobs None = Unit {0}
RoomHasOfJobs (Some room) = AreOfJobs room.documents

abbrev HasOfJobs : Life → Option RoomValue → Devices → Type 0
HasOfJobs life room devices = RoomHasOfJobs room

answered_keeps : (room : Option RoomValue) (devices : Devices) (now : ℕ) (account : List ℕ) (it : AccountEvent) → RoomHasOfJobs room → RoomHasOfJobs (answered room devices now (OfAccount account it)).room
answered_keeps None devices now account it has = unopened it
  where
    unopened : (it : AccountEvent) → RoomHasOfJobs (answered None devices now (OfAccount account it)).room
    unopened Open = λ number k document here. absurd (none-some document (sym (get-empty place_cmp (number, k)) ∙ here))
    unopened (Ipp body) = elim (nat_lt (length body) header_length) as (λ (b : Bool). RoomHasOfJobs (unopened_answer b).room) [ true ↦ tt | false ↦ tt ]
    unopened _ = tt
answered_keeps (Some room) devices now account it are = each_keeps room devices now account it _ _ (makes_one room devices now account it) are

pub has_of_jobs : (life : Life) (room : Option RoomValue) (devices : Devices) → IsLife life room devices → RoomHasOfJobs room
has_of_jobs = of_each_life HasOfJobs (record { begun = tt; by_account = λ past room devices now account it has. answered_keeps room devices now account it has; by_device = λ past room devices now device it has. has })

-- ---- what a device is handed

-- so many of these are found at the numbers of a list
abbrev its : (documents : FinMap place_cmp Document) (number : ℕ) (numbers : List ℕ) → List Document
its documents number numbers = flat_map (λ k. option_to_list (get documents (number, k))) numbers

same_part : (copies : ℕ) (document : Document) → part_of copies document ≡ part_told document.job copies (as_sent document)
same_part copies document =
    ap (λ (media : List ℕ). record { line = codes "document " ++ (decimal document.job ++ (codes " " ++ (decimal copies ++ (codes " " ++ (media ++ (codes " " ++ decimal (length document.bytes))))))); bytes = document.bytes }) (same_media_type document.format)

one_handed : (number copies : ℕ) (found : Option Document) (rest : List Document) → ((document : Document) → found ≡ Some document → document.job ≡ number) → map (part_of copies) rest ≡ map (part_told number copies) (map as_sent rest)
    → map (part_of copies) (option_to_list found ++ rest) ≡ map (part_told number copies) (map as_sent (option_to_list found ++ rest))
one_handed number copies None rest of same = same
one_handed number copies (Some document) rest of same = ap (λ (parts : List Part). part_of copies document ∷ parts) same ∙ ap (λ (part : Part). part ∷ map (part_told number copies) (map as_sent rest)) (same_part copies document) ∙ ap (λ (n : ℕ). part_told n copies (as_sent document) ∷ map (part_told number copies) (map as_sent rest)) (of document refl)

handed : (documents : FinMap place_cmp Document) (number copies : ℕ) → AreOfJobs documents → (numbers : List ℕ) → map (part_of copies) (its documents number numbers) ≡ map (part_told number copies) (map as_sent (its documents number numbers))
handed documents number copies are [] = refl
handed documents number copies are (k ∷ numbers) = one_handed number copies (get documents (number, k)) (its documents number numbers) (are number k) (handed documents number copies are numbers)

-- each document as it was sent, under the number of its job
pub handed_as_sent : (room : RoomValue) (number copies : ℕ) → AreOfJobs room.documents → map (part_of copies) (documents_of room number) ≡ map (part_told number copies) (map as_sent (documents_of room number))
handed_as_sent room number copies are = handed room.documents number copies are document_numbers
