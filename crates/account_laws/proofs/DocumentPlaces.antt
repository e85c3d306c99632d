-- Each document stands at its place, and only while its job goes on.
use Rattle.std.proofs.Common.{◌≡◌, ℕ, ◌+◌, ◌≤◌, Bool, true, false, cond, ◌==◌, ◌&&◌, not, List, Option, Some, None, Ok, IsSomeAnd, refl, sym, ap, subst, ◌∙◌, arith, nat_lt, length}
use Rattle.std.specs.FinMap.{FinMap, get, get-empty, get-insert}
use Rattle.std.specs.Ordering.{nat_cmp}
use Rattle.std.proofs.lemmas.Bool.{eq-eqb, eqb-true}
use Rattle.std.proofs.lemmas.Option.{none-some, same_Some}
use Rattle.ipp_coding.specs.Limits.{header_length}
use Rattle.account_asks.specs.Asks.{PlainAsk}
use Rattle.account_asks.specs.Operations.{is_print_job}
use Rattle.account_machine.specs.Events.{AccountEvent, Ipp, OfAccount, Open}
use Rattle.account_machine.specs.JobRequests.{has_data, sent_document}
use Rattle.account_machine.specs.Machine.{answered}
use Rattle.account_machine.specs.NewJobs.{new_document, new_job}
use Rattle.account_machine.specs.Steps.{with_moved}
use Rattle.account_machine.specs.declared.event.Reply.{Reply}
use Rattle.account_laws.proofs.Afterwards.{inserted}
use Rattle.account_laws.proofs.AsTold.{jobs_moved}
use Rattle.account_laws.proofs.Changes.{Makes, refuses, reads, makes, takes, acts, releases, starts, settles, grants, makes_one}
use Rattle.account_lives.proofs.LifeLemmas.{of_each_life, unopened_answer}
use Rattle.account_laws.proofs.Moved.{document_taken}
use Rattle.account_lives.specs.Lives.{IsLife, Life}
use Rattle.account_rules.specs.Acts.{SendDocument}
use Rattle.account_rules.specs.Devices.{Devices}
use Rattle.account_rules.specs.JobStates.{is_unfinished}
use Rattle.account_rules.specs.Moves.{move}
use Rattle.account_rules.specs.declared.job.Document.{Document}
use Rattle.account_rules.specs.declared.job.Job.{Job}
use Rattle.account_rules.specs.declared.job.Standing.{Standing}
use Rattle.account_state.proofs.DocumentMaps.{pair_tie, place_cmp_total}
use Rattle.account_state.proofs.KeptDocuments.{left_document}
use Rattle.account_state.proofs.KeptRooms.{restood_there}
use Rattle.account_state.specs.Changes.{with_document, with_ended, with_new_job, with_standing, without_documents}
use Rattle.account_state.specs.Rooms.{RoomValue, place_cmp}

-- ---- the places

-- a job that has not ended
abbrev pub HasNotEnded : Job → Type 0
HasNotEnded job = is_unfinished job.standing.state ≡ true

abbrev pub GoesOn : (room : RoomValue) (number : ℕ) → Type 0
GoesOn room number = IsSomeAnd (get room.jobs number) HasNotEnded

-- each stands under its own number, which is 1 at least, and its job is such
abbrev pub ArePlaced : FinMap place_cmp Document → (Goes : ℕ → Type 0) → Type 0
ArePlaced documents Goes = (number k : ℕ) (document : Document) → get documents (number, k) ≡ Some document → (document.number ≡ k) × (1 ≤ k) × Goes number

abbrev pub IsPlaced : RoomValue → Type 0
IsPlaced room = ArePlaced room.documents (GoesOn room)

-- one more
one_more : (documents : FinMap place_cmp Document) (more : Option Document) (Before After : ℕ → Type 0) → ((q : ℕ) → Before q → After q) → ((it : Document) → more ≡ Some it → (1 ≤ it.number) × After it.job)
    → ArePlaced documents Before → ArePlaced (with_document documents more) After
one_more documents None Before After later new are = λ number k document here. let was = are number k document here in (was.0, was.1, later number was.2)
one_more documents (Some it) Before After later new are = λ number k document here.
    by number k document (it.job == number) (it.number == k) refl refl
    (sym (get-insert place_cmp_total documents (it.job, it.number) it (number, k) ∙ ap (λ (b : Bool). cond b (Some it) (get documents (number, k))) (pair_tie number k it.job it.number)) ∙ here)
  where
    by : (number k : ℕ) (document : Document) (a b : Bool) → (it.job == number) ≡ a → (it.number == k) ≡ b → cond (a && b) (Some it) (get documents (number, k)) ≡ Some document → (document.number ≡ k) × (1 ≤ k) × After number
    by number k document true true of_it at is =
        let its : it.job ≡ number = eqb-true it.job number of_it in
        let place : it.number ≡ k = eqb-true it.number k at in
        let this : it ≡ document = same_Some it document is in
        let good = new it refl in
        (ap (λ (d : Document). d.number) (sym this) ∙ place, subst (λ (n : ℕ). 1 ≤ n) place good.0, subst After its good.1)
    by number k document true false of_it at is = let was = are number k document is in (was.0, was.1, later number was.2)
    by number k document false b of_it at is = let was = are number k document is in (was.0, was.1, later number was.2)

-- those of a job are gone
fewer : (documents : FinMap place_cmp Document) (gone : ℕ) (Before After : ℕ → Type 0) → ((q : ℕ) → (q == gone) ≡ false → Before q → After q) → ArePlaced documents Before → ArePlaced (without_documents documents gone) After
fewer documents gone Before After later are number k document here = by (number == gone) refl (sym (left_document documents gone (number, k)) ∙ here)
  where
    by : (b : Bool) → (number == gone) ≡ b → cond (not b) (get documents (number, k)) None ≡ Some document → (document.number ≡ k) × (1 ≤ k) × After number
    by true same is = absurd (none-some document is)
    by false other is = let was = are number k document is in (was.0, was.1, later number other was.2)

-- ---- where one job is another

still_goes : (b : Bool) (job : Job) (found : Option Job) → HasNotEnded job → IsSomeAnd found HasNotEnded → IsSomeAnd (cond b (Some job) found) HasNotEnded
still_goes true job found goes was = goes
still_goes false job found goes was = was

goes_there : (b : Bool) (job : Job) (found : Option Job) → b ≡ true → HasNotEnded job → IsSomeAnd (cond b (Some job) found) HasNotEnded
goes_there b job found is goes = subst (λ (b : Bool). IsSomeAnd (cond b (Some job) found) HasNotEnded) (sym is) goes

module _ (room after : RoomValue) (number : ℕ) (job : Job) (jobs : (q : ℕ) → get after.jobs q ≡ cond (q == number) (Some job) (get room.jobs q)) where
  goes_later : HasNotEnded job → (q : ℕ) → GoesOn room q → GoesOn after q
  goes_later goes q was = subst (λ (o : Option Job). IsSomeAnd o HasNotEnded) (sym (jobs q)) (still_goes (q == number) job (get room.jobs q) goes was)

  goes_itself : HasNotEnded job → GoesOn after number
  goes_itself goes = subst (λ (o : Option Job). IsSomeAnd o HasNotEnded) (sym (jobs number)) (goes_there (number == number) job (get room.jobs number) (eq-eqb number number refl) goes)

  goes_beside : (q : ℕ) → (q == number) ≡ false → GoesOn room q → GoesOn after q
  goes_beside q other was = subst (λ (o : Option Job). IsSomeAnd o HasNotEnded) (sym (jobs q ∙ ap (λ (b : Bool). cond b (Some job) (get room.jobs q)) other)) was

  -- a document that comes for it
  new_one : (b : Bool) (document : Document) → document.job ≡ number → 1 ≤ document.number → HasNotEnded job → (it : Document) → cond b (Some document) None ≡ Some it → (1 ≤ it.number) × GoesOn after it.job
  new_one true document its from_one goes it is =
      let this : document ≡ it = same_Some document it is in
      (subst (λ (d : Document). 1 ≤ d.number) this from_one, subst (GoesOn after) (sym its ∙ ap (λ (d : Document). d.job) this) (goes_itself goes))
  new_one false document its from_one goes it is = absurd (none-some it is)

-- ---- each event

made : (room : RoomValue) (now : ℕ) (ask : PlainAsk) → IsPlaced room → IsPlaced (with_new_job room (new_job room.next ask now) (new_document room.next ask))
made room now ask are =
    let job = new_job room.next ask now in
    let after = with_new_job room job (new_document room.next ask) in
    let first : Document = record { job = room.next; number = 1; format = ask.format; bytes = ask.payload } in
    one_more room.documents (new_document room.next ask) (GoesOn room) (GoesOn after)
    (goes_later room after room.next job (λ q. inserted room.jobs room.next job q) refl)
    (new_one room after room.next job (λ q. inserted room.jobs room.next job q) (is_print_job ask.operation) first refl (omega arith) refl) are

taken : (room : RoomValue) (ask : PlainAsk) (job : Job) (standing : Standing) → get room.jobs ask.job ≡ Some job → move (SendDocument ask.last (has_data ask)) job.standing ≡ Ok standing → IsPlaced room → IsPlaced (with_standing room ask.job standing (sent_document ask job))
taken room ask job standing there goes are =
    let so : Job = record job { standing = standing } in
    let after = with_standing room ask.job standing (sent_document ask job) in
    let next : Document = record { job = ask.job; number = job.standing.documents + 1; format = ask.format; bytes = ask.payload } in
    let held : HasNotEnded so = ap is_unfinished (document_taken job.standing standing ask.last (has_data ask) goes).is_held in
    one_more room.documents (sent_document ask job) (GoesOn room) (GoesOn after)
    (goes_later room after ask.job so (jobs_then so) held)
    (new_one room after ask.job so (jobs_then so) (has_data ask) next refl (omega arith) held) are
  where
    jobs_then : (so : Job) → (q : ℕ) → get (with_standing room ask.job standing (sent_document ask job)).jobs q ≡ cond (q == ask.job) (Some (record job { standing = standing })) (get room.jobs q)
    jobs_then so q = ap (λ (jobs : FinMap nat_cmp Job). get jobs q) (restood_there room.jobs ask.job standing job there) ∙ inserted room.jobs ask.job (record job { standing = standing }) q

moved : (room : RoomValue) (number : ℕ) (job : Job) (standing : Standing) → get room.jobs number ≡ Some job → IsPlaced room → IsPlaced (with_moved room number standing)
moved room number job standing there are = by (is_unfinished standing.state) refl
  where
    so : Job
    so = record job { standing = standing }

    after : RoomValue
    after = with_moved room number standing

    jobs : (q : ℕ) → get after.jobs q ≡ cond (q == number) (Some so) (get room.jobs q)
    jobs q = jobs_moved room number job standing there q

    by : (b : Bool) → is_unfinished standing.state ≡ b → ArePlaced (cond b (with_standing room number standing None) (with_ended room number standing)).documents (GoesOn after)
    by true goes = λ q k document here. let was = are q k document here in (was.0, was.1, goes_later room after number so jobs goes q was.2)
    by false ends = fewer room.documents number (GoesOn room) (GoesOn after) (goes_beside room after number so jobs) are

each_keeps : (room : RoomValue) (devices : Devices) (now : ℕ) (account : List ℕ) (event : AccountEvent) (said : Reply) (after : RoomValue) → Makes room devices now account event said after → IsPlaced room → IsPlaced after
each_keeps room devices now account _ _ _ (refuses event said undone isnt none) are = are
each_keeps room devices now account _ _ _ (reads body ask text read only) are = are
each_keeps room devices now account _ _ _ (makes body ask text read a_job accepted done) are = made room now ask are
each_keeps room devices now account _ _ _ (takes body ask text job standing read sends there goes done) are = taken room ask job standing there goes are
each_keeps room devices now account _ _ _ (acts body ask text job it standing read there is_act goes done) are = moved room ask.job job standing there are
each_keeps room devices now account _ _ _ (releases device number password impressions ready job standing is_ready there goes) are = moved room number job standing there are
each_keeps room devices now account _ _ _ (starts device number ready job standing is_ready there goes) are = moved room number job standing there are
each_keeps room devices now account _ _ _ (settles device number impressions failed of_it job standing is_known there goes) are = moved room number job standing there are
each_keeps room devices now account _ _ _ (grants month pages new) are = are

-- ---- over a life

abbrev pub RoomIsPlaced : Option RoomValue → Type 0
RoomIsPlaced None = Unit {0}
RoomIsPlaced (Some room) = IsPlaced room

answered_keeps : (room : Option RoomValue) (devices : Devices) (now : ℕ) (account : List ℕ) (it : AccountEvent) → RoomIsPlaced room → RoomIsPlaced (answered room devices now (OfAccount account it)).room
answered_keeps None devices now account it has = unopened it
  where
    unopened : (it : AccountEvent) → RoomIsPlaced (answered None devices now (OfAccount account it)).room
    unopened Open = λ number k document here. absurd (none-some document (sym (get-empty place_cmp (number, k)) ∙ here))
    unopened (Ipp body) = elim (nat_lt (length body) header_length) as (λ (b : Bool). RoomIsPlaced (unopened_answer b).room) [ true ↦ tt | false ↦ tt ]
    unopened _ = tt
answered_keeps (Some room) devices now account it are = each_keeps room devices now account it _ _ (makes_one room devices now account it) are

abbrev IsPlacedIn : Life → Option RoomValue → Devices → Type 0
IsPlacedIn life room devices = RoomIsPlaced room

pub is_placed : (life : Life) (room : Option RoomValue) (devices : Devices) → IsLife life room devices → RoomIsPlaced room
is_placed = of_each_life IsPlacedIn (record { begun = tt; by_account = λ past room devices now account it has. answered_keeps room devices now account it has; by_device = λ past room devices now device it has. has })
