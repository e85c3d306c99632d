-- What goes on in the background is nothing that is applied.
use Rattle.std.proofs.Common.{◌≡◌, ◌∙◌, Bool, true, false, [], ◌∷◌, Option, None, refl, sym, ap, subst}
use Rattle.sqlite.specs.Held.{Held}
use Rattle.sqlite_trees.specs.declared.store.Store.{Ghosts}
use Rattle.serve_peers.proofs.Journaling.{background_only}
use Rattle.serve_peers.specs.Applying.{DoesEach}
use Rattle.serve_peers.specs.Journals.{Notes, asked_of, is_lost_of, page_rules_of, shares_of, store_of}
use Rattle.serve_peers.specs.Keeping.{DoesSlice, IsKeptIn, KeepsBy, KeepsOn, OnlyKeeps, is_begun, is_wanted, stage_in}
use Rattle.serve_peers.specs.ProofServices.{stays}
use Rattle.serve_peers.specs.declared.background.Background.{Background}
use Rattle.serve_peers.specs.declared.copies.CopyUnderWay.{CopyUnderWay}
use Rattle.serve_peers.specs.declared.journal.Journal.{Journal}
use Rattle.serve_peers.specs.declared.served.Served.{Served}

-- what the pages hold requests to
pub rules_of : {a b : Background} → a ≡ b → a.page_rules ≡ b.page_rules
rules_of is = ap (λ (background : Background). background.page_rules) is

module _ {S : Type 0} (store : Ghosts S) where
  pub nothing : (served : Served S) → OnlyKeeps store served served
  unfolding stays
  nothing served = (stays store served, refl)

  another_background : (old new : Served S) (background : Background) → background.page_rules ≡ page_rules_of old → new ≡ record old { background = background } → OnlyKeeps store old new
  unfolding background_only
  another_background old new background rules is = subst (λ (served : Served S). OnlyKeeps store old served) (sym is) (background_only store old background rules, refl)

  -- where nothing was read or noted
  pub only_background : (old new : Served S) → IsKeptIn old new → store_of new ≡ store_of old → new.journal ≡ old.journal → page_rules_of new ≡ page_rules_of old → OnlyKeeps store old new
  only_background old new is same_store same_journal rules = another_background old new new.background rules
      (is
      ∙ ap (λ (held : Held S). record old { rounds = held; journal = new.journal; background = new.background }) same_store
      ∙ ap (λ (journal : Journal). record old { journal = journal; background = new.background }) same_journal)

  a_slice : {T : Type 0} (copy_store : Ghosts T) (old new : Served S) (was now : Option (CopyUnderWay T)) → shares_of old ≡ false → DoesSlice store copy_store old.background new.background (store_of old) (store_of new) old.journal new.journal was now → IsKeptIn old new → OnlyKeeps store old new
  a_slice copy_store old new was now alone is same = (
    record {
      more = None ∷ [];
      notes = subst (λ b. Notes b (None ∷ []) old new) (sym alone) (is.over, is.none_more, ap (λ (served : Served S). asked_of served) same);
      does = subst (λ b. DoesEach store b (store_of old) (None ∷ []) (store_of new)) (sym alone) (store_of new, is.copies.looks, refl);
      shares = ap (λ (served : Served S). shares_of served) same;
      is_lost = ap (λ (served : Served S). is_lost_of served) same;
      page_rules = rules_of is.same;
    },
    refl,
  )

  module _ {T : Type 0} (copy_store : Ghosts T) (old new : Served S) (was now : Option (CopyUnderWay T)) (alone : shares_of old ≡ false) (same : IsKeptIn old new) where
    by : (begun wanted : Bool) → KeepsBy store copy_store begun wanted old.background new.background (store_of old) (store_of new) old.journal new.journal was now → OnlyKeeps store old new
    by true wanted made = only_background old new same made.1 made.2 (rules_of made.0.same)
    by false true slice = a_slice copy_store old new was now alone slice same
    by false false none = only_background old new same none.1 none.2 (rules_of none.0)

    -- what is done for a backup
    pub kept : KeepsOn store copy_store old.background new.background (store_of old) (store_of new) old.journal new.journal was now → OnlyKeeps store old new
    kept keeps = by (is_begun (stage_in old.background.backup)) (is_wanted (stage_in old.background.backup)) keeps
