-- A slice of a copy, by what the calls that make it say.
use Rattle.std.proofs.Common.{◌≡◌, ℕ, Bool, true, false, IsTrue, Option, None, Result, Ok, IfOk, IfSome, refl, sym, ap, subst, ◌∙◌, ◌⊎◌, inl, inr}
use Rattle.sqlite.specs.Held.{Held, state}
use Rattle.sqlite.specs.State.{State}
use Rattle.sqlite_trees.specs.declared.store.Store.{Ghosts}
use Rattle.store_copy.specs.Slices.{ComesFurther, CopiesAtMost, CopiesSlice, IfNamed, IsDone, StartsAgain, next_job}
use Rattle.store_copy.specs.Sources.{LeavesSource}
use Rattle.store_copy.specs.declared.slices.Progress.{Progress}
use Rattle.rows_tables.specs.Calls.{Changes, ChangesWhole, IfOurTables, IsUnchanged, KeepsConnection, UnchangedOrUndone}
use Rattle.rows_tables.specs.declared.fault.TableFault.{TableFault}
use Rattle.serve_peers.specs.Applying.{OnlyLooks}
use Rattle.serve_peers.specs.Copies.{Advances, CopiesPart, Restarts}
use Rattle.serve_peers.specs.declared.copies.CopyUnderWay.{CopyUnderWay}
use Rattle.serve_peers.specs.declared.copies.SliceOutcome.{SliceOutcome}
use Rattle.serve_peers.specs.declared.copies.SliceOutcome.TheVariants.{Failed, Whole}

-- where no transaction was under way, nothing could be undone
unchanged : (old new : State) → old.in_transaction ≡ false → (IsTrue old.is_open → old.now ≡ old.committed) → UnchangedOrUndone old new → IsTrue new.is_open → IsUnchanged old new
unchanged old new alone settled (inl is) shown = is
unchanged old new alone settled (inr undone) shown = record { now = undone.now shown ∙ sym (settled (undone.was_open shown)); committed = undone.committed shown; mode = undone.mode ∙ sym alone }

-- a copy of its parts
abbrev pub of_parts : {T : Type 0} → Held T × Progress × ℕ → CopyUnderWay T
of_parts parts = record { rows = parts.0; progress = parts.1; anew = parts.2 }

pub parted : {T : Type 0} (copy : CopyUnderWay T) (parts : Held T × Progress × ℕ) → parts ≡ (copy.rows, copy.progress, copy.anew) → copy ≡ of_parts parts
parted {T} copy parts is = ap (λ (it : Held T × Progress × ℕ). of_parts it) (sym is)

module _ {S : Type 0} (store : Ghosts S) where
  pub only_looks : {A E : Type 0} (old new : Held S) (result : Result A E) → (state store old).in_transaction ≡ false → (IsTrue (state store old).is_open → (state store old).now ≡ (state store old).committed) → LeavesSource store old new result → OnlyLooks store old new
  only_looks old new result alone settled leaves = record {
    unchanged = λ clean has shown. unchanged (state store old) (state store new) alone settled (leaves.stays clean has) shown;
    connection = leaves.keeps;
  }

module _ {S T : Type 0} (store : Ghosts S) (copy_store : Ghosts T) where
  pub begins_anew : {E : Type 0} (touched : Bool) (from to : Progress) (rows begun : Held T) (result : Result Progress E) → touched ≡ true → result ≡ Ok to → Changes copy_store rows begun result (λ before after. IfOk result (λ to. StartsAgain from to before after))
      → Restarts store copy_store touched from to rows begun
  begins_anew {E} touched from to rows begun result is ok changes =
      let done = subst (λ (r : Result Progress E). Changes copy_store rows begun r (λ before after. IfOk r (λ to. StartsAgain from to before after))) ok changes in
      subst (λ b. Restarts store copy_store b from to rows begun) (sym is) (λ clean has. done clean has)

  pub gone_on : (touched : Bool) (from : Progress) (rows : Held T) → touched ≡ false → Restarts store copy_store touched from from rows rows
  gone_on touched from rows is = subst (λ b. Restarts store copy_store b from from rows rows) (sym is) (refl, refl)

  -- what the slice begins with, under another name
  abbrev pub Begins : (touched : Bool) (from again : Progress) (rows begun : Held T) → Type 0
  Begins touched from again rows begun = Restarts store copy_store touched from again rows begun × KeepsConnection (state copy_store rows) (state copy_store begun)

  pub begins_as : (touched : Bool) (from again its : Progress) (rows begun there : Held T) → its ≡ again → there ≡ begun → Begins touched from again rows begun → Begins touched from its rows there
  begins_as touched from again its rows begun there same_progress same_rows begins =
      subst (λ (held : Held T). Begins touched from its rows held) (sym same_rows) (subst (λ (progress : Progress). Begins touched from progress rows begun) (sym same_progress) begins)

  pub advances_by : (touched : Bool) (most : Option ℕ) (from again : Progress) (source looked : Held S) (result : Result (Option Progress) TableFault) (rows begun new : Held T) → Begins touched from again rows begun
      → ChangesWhole copy_store begun new result (λ before after. IfOurTables store source looked (λ db. IfNamed db (IfOk result (λ to. CopiesSlice again to db before after))))
      → IfOk result (λ to. IfSome to (ComesFurther (next_job again))) → (most ≡ None → IfOk result (λ to. IfSome to IsDone)) → IfOurTables store source looked (λ db. IfOk result (λ to. IfSome to (λ to. CopiesAtMost most again to db)))
      → (to : Option Progress) → result ≡ Ok to → Advances store copy_store touched most from to source looked rows new
  advances_by touched most from again source looked result rows begun new begins copies further whole at_most to is =
      let made = subst (λ (r : Result (Option Progress) TableFault). Changes copy_store begun new r (λ before after. IfOurTables store source looked (λ db. IfNamed db (IfOk r (λ to. CopiesSlice again to db before after))))) is copies.made in
      record {
        slices = record {
          again = again;
          begun = begun;
          restarts = begins.0;
          restarted = begins.1;
          slice = λ clean has. made clean has;
          copied = copies.whole.keeps;
        };
        further = subst (λ (r : Result (Option Progress) TableFault). IfOk r (λ to. IfSome to (ComesFurther (next_job again)))) is further;
        whole = λ none. subst (λ (r : Result (Option Progress) TableFault). IfOk r (λ to. IfSome to IsDone)) is (whole none);
        at_most = λ clean has. subst (λ (r : Result (Option Progress) TableFault). IfOk r (λ to. IfSome to (λ to. CopiesAtMost most again to (state store source).now))) is (at_most clean has);
      }

  -- all is copied, and its file is closed, or it could not be
  pub closed : (touched : Bool) (source looked : Held S) (done : SliceOutcome) (was now : Option (CopyUnderWay T)) → (done ≡ Whole) ⊎ (done ≡ Failed) → CopiesPart store copy_store touched source looked Whole was now → now ≡ None → CopiesPart store copy_store touched source looked done was now
  closed touched source looked done was now (inl is) part none = subst (λ (it : SliceOutcome). CopiesPart store copy_store touched source looked it was now) (sym is) part
  closed touched source looked done was now (inr is) part none = subst (λ (it : SliceOutcome). CopiesPart store copy_store touched source looked it was now) (sym is) none
