-- All that there is of an account was asked and told.
use Rattle.std.proofs.Common.{◌≡◌, ℕ, zero, suc, ◌+◌, ◌<◌, ◌≤◌, Bool, true, false, not, List, length, Option, Some, None, option_map, IsSomeAnd, refl, sym, ap, subst, ◌∙◌, arith, inl, inr}
use Rattle.std.specs.Cmp.{nat_cmp_total}
use Rattle.std.specs.Cmp.Lexicographic.{nat_list_cmp_total}
use Rattle.std.specs.FinMap.{get, nat_cmp-IsAntisymmetric, same_map}
use Rattle.std.proofs.lemmas.Bool.{cases_lt, true≢false}
use Rattle.std.proofs.lemmas.Option.{none-some, same_Some}
use Rattle.account_laws.proofs.AsTold.{AccountKeeps, Keeps, all_keep}
use Rattle.account_laws.proofs.AsToldSums.{ends_at}
use Rattle.account_laws.proofs.DocumentPlaces.{GoesOn, HasNotEnded, IsPlaced, RoomIsPlaced, is_placed}
use Rattle.account_laws.proofs.DocumentsOfJobs.{AreOfJobs, RoomHasOfJobs, has_of_jobs}
use Rattle.account_laws.proofs.FilledPlaces.{at_most_all, filled, nth, nth_changed}
use Rattle.account_laws.proofs.ToldLists.{length_changed}
use Rattle.account_laws.proofs.WholeJobs.{jobs_whole}
use Rattle.account_laws.specs.AccountsTold.{AccountTold, account_told}
use Rattle.account_laws.specs.JobsTold.{JobTold, Sent, is_over}
use Rattle.account_laws.specs.NothingElseKept as law
use Rattle.account_laws.specs.StandsAsTold.{AreAsTold, IsAsTold, as_sent, device_told}
use Rattle.account_rules.proofs.DeviceMaps.{names_exact}
use Rattle.account_rules.specs.JobStates.{is_unfinished}
use Rattle.account_rules.specs.declared.job.Document.{Document}
use Rattle.account_rules.specs.declared.job.Job.{Job}
use Rattle.account_state.proofs.DocumentMaps.{exact_places, place_cmp_total}
use Rattle.account_state.specs.Documents.{documents_of}
use Rattle.account_state.specs.Rooms.{RoomValue}

-- ---- the documents of one room

module _ (told : AccountTold) (room : RoomValue) (keeps : Keeps told room) (placed : IsPlaced room) (q : ℕ) where
  abbrev at : ℕ → Option Document
  at k = get room.documents (q, k)

  -- there is none that could not be
  none_if : (k : ℕ) → ((document : Document) → at k ≡ Some document → ⊥) → at k ≡ None
  none_if k cannot = by (at k) refl
    where
      by : (o : Option Document) → at k ≡ o → o ≡ None
      by None is = refl
      by (Some document) is = absurd (cannot document is)

  none_unless_it_goes_on : (k : ℕ) → (GoesOn room q → ⊥) → at k ≡ None
  none_unless_it_goes_on k over = none_if k (λ document is. over (placed q k document is).2)

  none_at_zero : at 0 ≡ None
  none_at_zero = none_if 0 (λ document is. let from_one = (placed q 0 document is).1 in omega (arith, from_one))

  -- as many as were sent, each at its number
  module _ (ticket : JobTold) (job : Job) (here : get room.jobs q ≡ Some job) (is : IsAsTold q ticket room job) (goes : is_unfinished job.standing.state ≡ true) where
    abbrev many : ℕ
    many = length ticket.documents

    none_behind : (k : ℕ) → 1 + many ≤ k → at k ≡ None
    none_behind k above = let count = is.count in keeps.no_further q job here goes k (omega (arith, count, above))

    so_many : length (documents_of room q) ≡ many
    so_many = sym (length_changed as_sent (documents_of room q)) ∙ ap (λ (sent : List Sent). length sent) (is.documents goes)

    none_past : (k : ℕ) → 9 ≤ k → at k ≡ None
    none_past k past = let few = at_most_all at 1 8 in let all = so_many in none_behind k (omega (arith, few, all, past))

    each : (i : ℕ) → i < 8 → option_map as_sent (at (1 + i)) ≡ nth ticket.documents i
    each i less =
        ap (option_map as_sent) (filled at 1 8 many none_behind so_many i less)
        ∙ nth_changed as_sent (documents_of room q) i
        ∙ ap (λ (sent : List Sent). nth sent i) (is.documents goes)

-- ---- the documents of both

-- a document is what was sent, at its place
one : (q k : ℕ) (x y : Option Document) → ((document : Document) → x ≡ Some document → (document.job ≡ q) × (document.number ≡ k)) → ((document : Document) → y ≡ Some document → (document.job ≡ q) × (document.number ≡ k))
    → option_map as_sent x ≡ option_map as_sent y → x ≡ y
one q k None None at_x at_y same = refl
one q k None (Some e) at_x at_y same = absurd (none-some (as_sent e) same)
one q k (Some d) None at_x at_y same = absurd (none-some (as_sent d) (sym same))
one q k (Some d) (Some e) at_x at_y same =
    let first = at_x d refl in
    let second = at_y e refl in
    let job : d.job ≡ e.job = first.0 ∙ sym second.0 in
    let number : d.number ≡ e.number = first.1 ∙ sym second.1 in
    let sent : as_sent d ≡ as_sent e = same_Some (as_sent d) (as_sent e) same in
    λ i. Some (record { job = job i; number = number i; format = (sent i).format; bytes = (sent i).bytes })

module _ (told : AccountTold) (a b : RoomValue) (keeps : Keeps told a) (too : Keeps told b) (of_a : AreOfJobs a.documents) (of_b : AreOfJobs b.documents) (in_a : IsPlaced a) (in_b : IsPlaced b) where
  abbrev SameAt : (q k : ℕ) → Type 0
  SameAt q k = get a.documents (q, k) ≡ get b.documents (q, k)

  neither : (q k : ℕ) → (GoesOn a q → ⊥) → (GoesOn b q → ⊥) → SameAt q k
  neither q k ended over = none_unless_it_goes_on told a keeps in_a q k ended ∙ sym (none_unless_it_goes_on told b too in_b q k over)

  module _ (q : ℕ) (ticket : JobTold) (x y : Job) (here : get a.jobs q ≡ Some x) (there : get b.jobs q ≡ Some y) (is : IsAsTold q ticket a x) (was : IsAsTold q ticket b y) where
    both : is_unfinished x.standing.state ≡ true → is_unfinished y.standing.state ≡ true → (k : ℕ) → SameAt q k
    both goes goes_too zero = none_at_zero told a keeps in_a q ∙ sym (none_at_zero told b too in_b q)
    both goes goes_too (suc i) = elim (cases_lt i 8) [
      | inl less ↦
          let next : suc i ≡ 1 + i = omega arith in
          ap (λ (k : ℕ). get a.documents (q, k)) next
          ∙ one q (1 + i) (get a.documents (q, 1 + i)) (get b.documents (q, 1 + i)) (λ document found. (of_a q (1 + i) document found, (in_a q (1 + i) document found).0)) (λ document found. (of_b q (1 + i) document found, (in_b q (1 + i) document found).0))
          (each told a keeps in_a q ticket x here is goes i less ∙ sym (each told b too in_b q ticket y there was goes_too i less))
          ∙ ap (λ (k : ℕ). get b.documents (q, k)) (sym next)
      | inr past ↦ none_past told a keeps in_a q ticket x here is goes (suc i) (omega arith) ∙ sym (none_past told b too in_b q ticket y there was goes_too (suc i) (omega arith))
    ]

    over_in : (room : RoomValue) (job : Job) → get room.jobs q ≡ Some job → is_unfinished job.standing.state ≡ false → GoesOn room q → ⊥
    over_in room job found over goes = let on : is_unfinished job.standing.state ≡ true = subst (λ (o : Option Job). IsSomeAnd o HasNotEnded) found goes in true≢false (sym on ∙ over)

    by_end : (b_over : Bool) → is_over ticket.stage ≡ b_over → (k : ℕ) → SameAt q k
    by_end true over k =
        neither q k
        (over_in a x here (ends_at ticket.stage x.standing is.stage ∙ ap not over))
        (over_in b y there (ends_at ticket.stage y.standing was.stage ∙ ap not over))
    by_end false goes k = both (ends_at ticket.stage x.standing is.stage ∙ ap not goes) (ends_at ticket.stage y.standing was.stage ∙ ap not goes) k

  by_jobs : (q : ℕ) (ticket : Option JobTold) (x y : Option Job) → get a.jobs q ≡ x → get b.jobs q ≡ y → AreAsTold q ticket a x → AreAsTold q ticket b y → (k : ℕ) → SameAt q k
  by_jobs q None x y here there is was k = neither q k (λ goes. subst (λ (o : Option Job). IsSomeAnd o HasNotEnded) (here ∙ is) goes) (λ goes. subst (λ (o : Option Job). IsSomeAnd o HasNotEnded) (there ∙ was) goes)
  by_jobs q (Some ticket) None y here there is was k = absurd is
  by_jobs q (Some ticket) (Some x) None here there is was k = absurd was
  by_jobs q (Some ticket) (Some x) (Some y) here there is was k = by_end q ticket x y here there is was (is_over ticket.stage) refl k

  same_documents : a.documents ≡ b.documents
  same_documents = same_map place_cmp_total exact_places a.documents b.documents (λ place. by_jobs place.0 (get told.jobs place.0) (get a.jobs place.0) (get b.jobs place.0) refl refl (keeps.stands.jobs place.0) (too.stands.jobs place.0) place.1)

  -- ---- all of both

  same_rooms : a ≡ b
  same_rooms =
      let opened : a.opened ≡ b.opened = same_Some a.opened b.opened (sym keeps.stands.opened ∙ too.stands.opened) in
      let next : a.next ≡ b.next = keeps.stands.next ∙ sym too.stands.next in
      let jobs : a.jobs ≡ b.jobs = jobs_whole told a keeps.stands ∙ sym (jobs_whole told b too.stands) in
      let grants : a.grants ≡ b.grants = same_map nat_cmp_total nat_cmp-IsAntisymmetric a.grants b.grants (λ month. keeps.stands.grants month ∙ sym (too.stands.grants month)) in
      let documents = same_documents in
      λ i. record { opened = opened i; next = next i; jobs = jobs i; documents = documents i; grants = grants i }

by_rooms : (told : AccountTold) (room other : Option RoomValue) → AccountKeeps told room → AccountKeeps told other → RoomHasOfJobs room → RoomHasOfJobs other → RoomIsPlaced room → RoomIsPlaced other → room ≡ other
by_rooms told None None keeps too of_a of_b in_a in_b = refl
by_rooms told None (Some b) keeps too of_a of_b in_a in_b = absurd (none-some b.opened (sym keeps.opened ∙ too.stands.opened))
by_rooms told (Some a) None keeps too of_a of_b in_a in_b = absurd (none-some a.opened (sym too.opened ∙ keeps.stands.opened))
by_rooms told (Some a) (Some b) keeps too of_a of_b in_a in_b = ap Some (same_rooms told a b keeps too of_a of_b in_a in_b)

pub nothing_else_is_kept : law.NothingElseIsKept
nothing_else_is_kept life another room other devices known is was same =
    let one = all_keep life room devices is in
    let two = all_keep another other known was in
    let too : AccountKeeps (account_told life) other = subst (λ (t : AccountTold). AccountKeeps t other) (sym same) two.account in (
      by_rooms (account_told life) room other one.account too (has_of_jobs life room devices is) (has_of_jobs another other known was) (is_placed life room devices is) (is_placed another other known was),
      same_map nat_list_cmp_total names_exact devices known (λ name. one.knows.known name ∙ ap (λ (t : AccountTold). device_told t name) same ∙ sym (two.knows.known name)),
    )
