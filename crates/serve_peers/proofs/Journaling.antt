-- What comes to a journal, one after another.
use Rattle.std.proofs.Common.{◌≡◌, Bool, not, true, false, Option, None, Some, List, [], ◌∷◌, ◌++◌, map, Result, refl, subst, sym, ap, ◌∙◌, append-nil, append_assoc, inl, inr}
use Rattle.std.proofs.lemmas.Grind.{flat_map-append}
use Rattle.std.proofs.lemmas.List.{map-append}
use Rattle.sqlite.specs.Held.{Held}
use Rattle.sqlite_trees.specs.declared.store.Store.{Ghosts}
use Rattle.account_machine.specs.declared.event.Reply.{Reply}
use Rattle.account_questions.specs.declared.question.Question.{Question}
use Rattle.room_store.specs.Questions.{AnswersQuestion}
use Rattle.store_rounds.specs.declared.fault.StoreFault.{StoreFault}
use Rattle.input_lines.specs.declared.backup.BackupLine.{BackupLine}
use Rattle.serve_peers.specs.Keeping.{AsksNext, backup_of}
use Rattle.serve_peers.specs.declared.background.Background.{Background}
use Rattle.serve_peers.specs.declared.backup.BackupTold.{BackupTold}
use Rattle.serve_peers.specs.declared.entry.Entry.{Entry}
use Rattle.serve_peers.specs.declared.served.Served.{Served}
use Rattle.http_server.specs.Exchange.{Call, Chain}
use Rattle.serve_peers.specs.Answers.{Answers}
use Rattle.serve_peers.specs.LinePeers as line_peers
use Rattle.serve_peers.specs.ProofServices.{answer_continues, one_more, stays}
use Rattle.serve_peers.specs.LinePeers.{LineCall}
use Rattle.serve_peers.specs.declared.line_connection.Side.{Side}
use Rattle.serve_peers.specs.Journals.{Notes, Told, applied, asked_of, by_themselves, is_lost_of, list_of, page_rules_of, open_of, round_alone, rounds_of, shares_of, store_of}
use Rattle.serve_peers.specs.Applying.{DoesEach, Leads, OnlyLooks}
use Rattle.serve_peers.specs.Rounds.{Ends, IsSettled}
use Rattle.serve_peers.specs.Space.{spare_of}
use Rattle.serve_peers.specs.Turns.{AnswersNext, Continues}

grown : {X : Type 0} (a b c first more : List X) → b ≡ a ++ first → c ≡ b ++ more → c ≡ a ++ (first ++ more)
grown a b c first more one two = two ∙ ap (λ x. x ++ more) one ∙ append_assoc a first more

pub applied_then : (first more : List (Option Told)) → applied (first ++ more) ≡ applied first ++ applied more
applied_then first more = flat_map-append (λ (one : Option Told). list_of one) first more

-- what was asked
abbrev entries : List (Option Told) → List Entry
entries more = map (λ (told : Told). told.0) (applied more)

entries_then : (first more : List (Option Told)) → entries (first ++ more) ≡ entries first ++ entries more
entries_then first more = ap (λ (tolds : List Told). map (λ (told : Told). told.0) tolds) (applied_then first more) ∙ map-append (λ (told : Told). told.0) (applied first) (applied more)

module _ {S : Type 0} where
  pub notes_then : (shares : Bool) (first more : List (Option Told)) (old mid new : Served S) → Notes shares first old mid → Notes shares more mid new → Notes shares (first ++ more) old new
  notes_then false first more old mid new one two = (
    grown (rounds_of old) (rounds_of mid) (rounds_of new) (by_themselves first) (by_themselves more) one.0 two.0 ∙ ap (λ x. rounds_of old ++ x) (sym (map-append round_alone first more)),
    two.1 ∙ one.1,
    two.2 ∙ one.2,
  )
  notes_then true first more old mid new one two = (
    two.0 ∙ one.0,
    grown (open_of old) (open_of mid) (open_of new) (applied first) (applied more) one.1 two.1 ∙ ap (λ x. open_of old ++ x) (sym (applied_then first more)),
    grown (asked_of old) (asked_of mid) (asked_of new) (entries first) (entries more) one.2 two.2 ∙ ap (λ x. asked_of old ++ x) (sym (entries_then first more)),
  )

-- nothing but what goes on in the background is another
pub background_noted : {S : Type 0} → (shares : Bool) (served : Served S) (background : Background) → Notes shares [] served (record served { background = background })
background_noted false served background = (sym (append-nil (rounds_of served)), refl, refl)
background_noted true served background = (refl, sym (append-nil (open_of served)), sym (append-nil (asked_of served)))

module _ {S : Type 0} (store : Ghosts S) where
  unfoldable pub background_only : (served : Served S) (background : Background) → background.page_rules ≡ page_rules_of served → Continues store served (record served { background = background })
  background_only served background rules = record { more = []; notes = background_noted (shares_of served) served background; does = refl; shares = refl; is_lost = refl; page_rules = rules }

  pub looks_only : (question : Question) (told : Result Reply StoreFault) (old new : Held S) → AnswersQuestion store question old new told → OnlyLooks store old new
  looks_only question told old new answers = record { unchanged = answers.same; connection = answers.connection }

  -- a question
  unfoldable pub looked : (question : Question) (told : Result Reply StoreFault) (old new : Served S) → AnswersNext store question told old new → Continues store old new
  looked question told old new next = record {
    more = None ∷ [];
    notes = subst (λ b. Notes b (None ∷ []) old new) (sym next.alone) (next.over, next.none_more, ap (λ (served : Served S). asked_of served) next.same);
    does = subst (λ b. DoesEach store b (store_of old) (None ∷ []) (store_of new)) (sym next.alone) (store_of new, looks_only question told (store_of old) (store_of new) next.answers, refl);
    shares = ap (λ (served : Served S). shares_of served) next.same;
    is_lost = ap (λ (served : Served S). is_lost_of served) next.same;
    page_rules = ap (λ (served : Served S). page_rules_of served) next.same;
  }

  -- a line of a backup
  unfoldable pub backup_asked : (line : BackupLine) (told : BackupTold) (old new : Served S) → AsksNext line told old new → Continues store old new
  unfolding stays
  backup_asked line told old new next = subst (λ (served : Served S). Continues store old served) (sym next.same) (background_only old (record old.background { backup = backup_of new }) refl)

  pub does_then : (shares : Bool) (first more : List (Option Told)) (old mid new : Held S) → DoesEach store shares old first mid → DoesEach store shares mid more new → DoesEach store shares old (first ++ more) new
  does_then shares [] more old mid new is later = subst (λ (held : Held S). DoesEach store shares held more new) is later
  does_then shares (one ∷ first) more old mid new does later = (does.0, does.1, does_then shares first more does.0 mid new does.2 later)

  pub leads_then : (shares : Bool) (first more : List Told) (old mid new : Held S) → Leads store shares old first mid → Leads store shares mid more new → Leads store shares old (first ++ more) new
  leads_then shares [] more old mid new is later = subst (λ (held : Held S). Leads store shares held more new) is later
  leads_then shares (told ∷ first) more old mid new leads later = (leads.0, leads.1, leads_then shares first more leads.0 mid new leads.2 later)

  -- in a round no question is asked
  pub leads_applied : (more : List (Option Told)) (old new : Held S) → DoesEach store true old more new → Leads store true old (applied more) new
  leads_applied [] old new is = is
  leads_applied (Some told ∷ more) old new does = (does.0, does.1, leads_applied more does.0 new does.2)
  leads_applied (None ∷ more) old new does = absurd does.1

  unfoldable pub then : (old mid new : Served S) → Continues store old mid → Continues store mid new → Continues store old new
  then old mid new first later = record {
    more = first.more ++ later.more;
    notes = notes_then (shares_of old) first.more later.more old mid new first.notes (subst (λ b. Notes b later.more mid new) first.shares later.notes);
    does = does_then (shares_of old) first.more later.more (store_of old) (store_of mid) (store_of new) first.does (subst (λ b. DoesEach store b (store_of mid) later.more (store_of new)) first.shares later.does);
    shares = later.shares ∙ first.shares;
    is_lost = later.is_lost ∙ first.is_lost;
    page_rules = later.page_rules ∙ first.page_rules;
  }

  -- ---- requests over HTTP

  pub chain : (calls : List Call) (old new : Served S) → Chain (Answers store) old calls new → Continues store old new
  chain [] old new is = subst (λ (served : Served S). Continues store old served) (sym is) (stays store old)
  chain (call ∷ calls) old new is = then old is.0 new (answer_continues store old is.0 call.0 call.1 is.1) (chain calls is.0 new is.2)

  -- ---- lines

  pub line_chain : (side : Side) (calls : List LineCall) (old new : Served S) → line_peers.Chain store side old calls new → Continues store old new
  line_chain side [] old new is = subst (λ (served : Served S). Continues store old served) (sym is) (stays store old)
  line_chain side (call ∷ calls) old new is =
      let first : Continues store old is.0 =
      elim is.1 [
        | inl asked ↦ one_more store asked.entry asked.told old is.0 asked.next
        | inr (inl looks) ↦ looked looks.question looks.told old is.0 looks.next
        | inr (inr (inl backs)) ↦ backup_asked backs.asked backs.told old is.0 backs.next
        | inr (inr (inr bad)) ↦ subst (λ (served : Served S). Continues store old served) (sym bad.1) (stays store old)
      ]
      in
      then old is.0 new first (line_chain side calls is.0 new is.2)

-- ---- the end of a round

-- and the log then
module _ {S : Type 0} (store : Ghosts S) where
  pub settled_then : (old mid new : Served S) → IsSettled store old mid → rounds_of new ≡ rounds_of mid → open_of new ≡ open_of mid → new ≡ record mid { journal = new.journal; spare = spare_of new } → IsSettled store old new
  settled_then old mid new settled over none same =
      let lost : is_lost_of new ≡ is_lost_of mid = ap (λ (served : Served S). is_lost_of served) same in
      let kept : store_of new ≡ store_of mid = ap (λ (served : Served S). store_of served) same in
      record {
        shared = settled.shared;
        ends = subst (λ lost. Ends store (not lost) (store_of old) (store_of new)) (sym lost) (subst (λ (held : Held S). Ends store (not (is_lost_of mid)) (store_of old) held) (sym kept) settled.ends);
        over = over ∙ settled.over ∙ ap (λ lost. rounds_of old ++ (open_of old, not lost) ∷ []) (sym lost);
        none_left = none ∙ settled.none_left;
        same = same ∙ ap (λ (served : Served S). record served { journal = new.journal; spare = spare_of new }) settled.same
            ∙ ap (λ (held : Held S). record old { rounds = held; journal = new.journal; spare = spare_of new; shares = false; is_lost = is_lost_of mid; bytes_told = 0 }) (sym kept)
            ∙ ap (λ lost. record old { rounds = store_of new; journal = new.journal; spare = spare_of new; shares = false; is_lost = lost; bytes_told = 0 }) (sym lost);
      }
