-- What is gathered is nothing that is applied.
use Rattle.std.proofs.Common.{◌≡◌, ℕ, false, List, [], ◌∷◌, Option, None, Some, refl, sym, ap, subst, ◌∙◌}
use Rattle.sqlite.specs.Held.{Held}
use Rattle.sqlite_trees.specs.declared.store.Store.{Ghosts}
use Rattle.serve_peers.proofs.BackupKept.{only_background, rules_of}
use Rattle.serve_peers.proofs.Journaling.{background_noted}
use Rattle.serve_peers.specs.Applying.{DoesEach, OnlyLooks}
use Rattle.serve_peers.specs.Gathering.{AddsBy, StepsOn, gathered_then, next_of}
use Rattle.serve_peers.specs.Journals.{Notes, asked_of, is_lost_of, shares_of, store_of}
use Rattle.serve_peers.specs.Keeping.{IsKeptIn, OnlyKeeps}
use Rattle.serve_peers.specs.Overviews.{GathersBy, GathersOn, with_gathered}
use Rattle.serve_peers.specs.Turns.{Continues}
use Rattle.serve_peers.specs.declared.background.Background.{Background}
use Rattle.serve_peers.specs.declared.gathering.Adding.{Adding}
use Rattle.serve_peers.specs.declared.gathering.Gathered.{Gathered}
use Rattle.serve_peers.specs.declared.gathering.Gathering.{Gathering}
use Rattle.serve_peers.specs.declared.gathering.Gathering.TheVariants.{Adds, Begun}
use Rattle.serve_peers.specs.declared.gathering.Stepped.{Stepped}
use Rattle.serve_peers.specs.declared.gathering.Stepped.TheVariants.{GivenUp, More, Whole}
use Rattle.serve_peers.specs.declared.journal.Journal.{Journal}
use Rattle.serve_peers.specs.declared.served.Served.{Served}

-- what was taken does not matter to what is kept
kept_of_taken : (stepped : Stepped) (it : Gathered) → gathered_then stepped (record it { under_way = None }) ≡ gathered_then stepped it
kept_of_taken (More gathering) it = refl
kept_of_taken (Whole overview) it = refl
kept_of_taken GivenUp it = refl

module _ {S : Type 0} (store : Ghosts S) where
  -- where somebody asks for the page
  abbrev pub gathered_only : (served : Served S) (gathered : Gathered) → Continues store served (with_gathered served gathered)
  gathered_only served gathered = record { more = []; notes = background_noted (shares_of served) served (record served.background { gathered = gathered }); does = refl; shares = refl; is_lost = refl; page_rules = refl }

  adds_looks : (next : Option (List ℕ)) (from : Adding) (old new : Held S) (to : Stepped) → AddsBy store next from old new to → OnlyLooks store old new
  adds_looks (Some account) from old new to adds = adds.looks
  adds_looks None from old new to finds = finds.looks

  step_looks : (from : Gathering) (old new : Held S) (to : Stepped) → StepsOn store from old new to → OnlyLooks store old new
  step_looks (Begun at) old new to begins = begins.looks
  step_looks (Adds adding) old new to adds = adds_looks (next_of adding) adding old new to adds

  -- it goes on with what was taken
  pub taken_first : (gathering : Gathering) (old mid new : Background) (source looked : Held S) (journal noted : Journal) → mid ≡ record old { gathered = record old.gathered { under_way = None } } → GathersOn store gathering mid new source looked journal noted
      → GathersOn store gathering old new source looked journal noted
  taken_first gathering old mid new source looked journal noted taken is =
      let same = subst (λ (background : Background). GathersOn store gathering background new source looked journal noted) taken is in
      record {
        stepped = same.stepped;
        steps = same.steps;
        over = same.over;
        none_more = same.none_more;
        same = same.same ∙ ap (λ (it : Gathered). record old { gathered = it }) (kept_of_taken same.stepped old.gathered);
      }

  module _ (old new : Served S) (alone : shares_of old ≡ false) (same : IsKeptIn old new) where
    a_step : (gathering : Gathering) → GathersOn store gathering old.background new.background (store_of old) (store_of new) old.journal new.journal → OnlyKeeps store old new
    a_step gathering is = (
      record {
        more = None ∷ [];
        notes = subst (λ b. Notes b (None ∷ []) old new) (sym alone) (is.over, is.none_more, ap (λ (served : Served S). asked_of served) same);
        does = subst (λ b. DoesEach store b (store_of old) (None ∷ []) (store_of new)) (sym alone) (store_of new, step_looks gathering (store_of old) (store_of new) is.stepped is.steps, refl);
        shares = ap (λ (served : Served S). shares_of served) same;
        is_lost = ap (λ (served : Served S). is_lost_of served) same;
        page_rules = rules_of is.same;
      },
      refl,
    )

    pub gathered : (under_way : Option Gathering) → GathersBy store under_way old.background new.background (store_of old) (store_of new) old.journal new.journal → OnlyKeeps store old new
    gathered None none = only_background store old new same none.1 none.2 (rules_of none.0)
    gathered (Some gathering) is = a_step gathering is
