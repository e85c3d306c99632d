-- What a connection keeps from one call to the next.
use Rattle.std.proofs.Common.{◌≡◌, false, ◌∙◌, sym, subst, inl, inr, IsTrue, arith}
use Rattle.sqlite_trees.specs.Tree.{Trees}
use Rattle.sqlite.specs.State.{State, HasCleanDisk, Survives}
use Rattle.rows_tables.specs.Calls.{IsUnchanged, KeepsConnection, KeepsTransaction, UnchangedOrUndone}

-- by what the library says of a call
pub goes_by : (old new : State) (Commits : Trees → Type 0) → Survives old new Commits → (HasCleanDisk new → IsTrue new.is_open → IsTrue old.is_open) → (HasCleanDisk new → old.in_transaction ≡ false → new.in_transaction ≡ false) → KeepsConnection old new
goes_by old new Commits survives back mode = record {
  clean = survives.clean;
  back = back;
  mode = mode;
  shield = survives.shield;
  counts = survives.counts;
  limit = survives.limit;
  closes = survives.closes;
}

pub goes_on : (old was now : State) → KeepsConnection old was → KeepsConnection was now → KeepsConnection old now
goes_on old was now first second =
    let before : HasCleanDisk now → HasCleanDisk was = λ clean. omega (arith, second.clean, clean) in
    record {
      clean = omega (arith, first.clean, second.clean);
      back = λ clean is_open. first.back (before clean) (second.back clean is_open);
      mode = λ clean outside. second.mode clean (first.mode (before clean) outside);
      shield = λ shielded. second.shield (first.shield shielded);
      counts = omega (arith, first.counts, second.counts);
      limit = second.limit ∙ first.limit;
      closes = λ clean is_open. elim (first.closes (before clean) is_open) [
        | inl still ↦ elim (second.closes clean still) [ inl open_yet ↦ inl open_yet | inr more ↦ inr (omega (arith, more, first.counts)) ]
        | inr more ↦ inr (omega (arith, more, second.counts))
      ];
    }

-- ---- what becomes of a transaction behind a read that was answered

pub keeps_unchanged : (old new : State) → IsUnchanged old new → KeepsTransaction old new
keeps_unchanged old new same = record { mode = same.mode; committed = λ _. same.committed }

pub unchanged_after : (old mid new : State) → IsUnchanged old mid → IsUnchanged mid new → IsUnchanged old new
unchanged_after old mid new first second = record { now = second.now ∙ first.now; committed = second.committed ∙ first.committed; mode = second.mode ∙ first.mode }

pub keeps_after : (old mid new : State) → IsUnchanged old mid → KeepsTransaction mid new → KeepsTransaction old new
keeps_after old mid new same keeps = record { mode = keeps.mode ∙ same.mode; committed = λ inside. keeps.committed (subst IsTrue (sym same.mode) inside) ∙ same.committed }

pub undone_after : (old mid new : State) → (IsTrue mid.is_open → IsTrue old.is_open) → IsUnchanged old mid → UnchangedOrUndone mid new → UnchangedOrUndone old new
undone_after old mid new back same (inl unchanged) = inl (unchanged_after old mid new same unchanged)
undone_after old mid new back same (inr undone) = inr (record {
  was_open = λ is_open. back (undone.was_open is_open);
  now = λ is_open. undone.now is_open ∙ same.committed;
  committed = λ is_open. undone.committed is_open ∙ same.committed;
  mode = undone.mode;
  unmarked = undone.unmarked;
})
