-- What the texts mean that begin and end a round, under any schema, and what becomes of one that fails.
use Rattle.std.proofs.Common.{◌≡◌, ◌⊎◌, ℕ, List, [], codes, length, Option, None, Some, Result, Ok, Err, Bool, true, false, not, IsSome, IsTrue, refl, sym, ap, subst, ◌∙◌, inl, inr, arith}
use Rattle.std.proofs.lemmas.Bool.{cases_Bool, not-true, true≢false}
use Rattle.sqlite_tied.specs.Compute.{everything}
use Rattle.sqlite_trees.specs.Tree.{Trees}
use Rattle.sqlite_value.specs.Order.{Row}
use Rattle.sqlite_schema.specs.declared.schema.Schema.{Schema}
use Rattle.sqlite_schema.specs.declared.command.Command.{Command}
use Rattle.sqlite_schema.specs.declared.command.Command.TheVariants.{Begin, Commit, Nothing}
use Rattle.sqlite_schema.specs.declared.command.Returning.{Returning}
use Rattle.sqlite_resolve.specs.declared.compiled.Compiled.{Compiled}
use Rattle.sqlite_resolve.specs.declared.error.CompileError.{CompileError}
use Rattle.sqlite.specs.declared.error.Error.{Error}
use Rattle.sqlite.specs.declared.run.Mode.{Mode}
use Rattle.sqlite.specs.Calls.{IsWrite}
use Rattle.sqlite.specs.Effect.{Database}
use Rattle.sqlite.specs.Does.{Does, Tally}
use Rattle.sqlite.specs.Listing.{understood}
use Rattle.sqlite.specs.State.{State, CommitsBy, Executes, ExecutesIn, IsMisplaced, IsNoStatement, IsNotRun, IsRolledBack, IsUnchanged, MayChange, RunsAlone, Survives, mode_of, shows_rows, text_of}
use Rattle.sqlite.specs.Clock.{timed}
use Rattle.sqlite.proofs.Callers.{IsPlain, command_of, runs_as}
use Rattle.rows_tables.specs.Calls.{IsUnchanged as HasSameTables, IsUndone, UnchangedOrUndone}
use Rattle.rows_tables.proofs.Savepoints.{undone_by}
use Rattle.rows_statements.specs.Rounds.{BeginsRound, EndsRound}

abbrev tail_of : Result Compiled CompileError → ℕ
tail_of (Ok c) = c.tail
tail_of (Err e) = 0

abbrev names_of : Result Compiled CompileError → List (List ℕ)
names_of (Ok c) = c.names
names_of (Err e) = []

begin_is : (s : Schema) → command_of (understood s (codes "BEGIN")) ≡ Begin
unfolding understood everything
begin_is s = refl

begin_plain : (s : Schema) → IsPlain (understood s (codes "BEGIN"))
unfolding understood everything
begin_plain s = (refl, refl)

commit_is : (s : Schema) → command_of (understood s (codes "COMMIT")) ≡ Commit
unfolding understood everything
commit_is s = refl

commit_plain : (s : Schema) → IsPlain (understood s (codes "COMMIT"))
unfolding understood everything
commit_plain s = (refl, refl)

commit_tail : (s : Schema) → tail_of (understood s (codes "COMMIT")) ≡ 6
unfolding understood everything
commit_tail s = refl

commit_names : (s : Schema) → names_of (understood s (codes "COMMIT")) ≡ []
unfolding understood everything
commit_names s = refl

abbrev is_read : Result Compiled CompileError → Bool
is_read (Ok c) = true
is_read (Err e) = false

abbrev formats_of : Result Compiled CompileError → List (List ℕ)
formats_of (Ok c) = c.formats
formats_of (Err e) = []

empty_is_read : (s : Schema) → is_read (understood s []) ≡ true
unfolding understood everything
empty_is_read s = refl

empty_names : (s : Schema) → names_of (understood s []) ≡ []
unfolding understood everything
empty_names s = refl

empty_formats : (s : Schema) → formats_of (understood s []) ≡ []
unfolding understood everything
empty_formats s = refl

-- the empty text is a statement, of no parameter
pub empty_is_one : (s : State) (error : Error) → IsNoStatement s [] [] error → ⊥
empty_is_one s error (inl (fault, is, told)) = true≢false (sym (empty_is_read s.now.schema) ∙ ap is_read is)
empty_is_one s error (inr (c, is, inl (longer, told))) = longer (omega arith)
empty_is_one s error (inr (c, is, inr (inl (many, told)))) = many (sym (ap length (empty_names s.now.schema)) ∙ ap (λ r. length (names_of r)) is)
empty_is_one s error (inr (c, is, inr (inr (formats, told)))) = formats (sym (ap formats_of is) ∙ empty_formats s.now.schema)

-- `settled`: outside a transaction what is seen is what was committed
pub begins : (old new : State) (count : ℕ) → (IsTrue (not old.in_transaction) → IsTrue old.is_open → old.now ≡ old.committed) → Executes (codes "BEGIN") [] old new (Ok count) → BeginsRound old new
begins old new count settled ran =
    let it = runs_as (codes "BEGIN") [] old new old.now.schema refl Begin (begin_is _) (begin_plain _) count ran in
    record { was_none = it.0; now = it.1.now_is; committed = it.1.committed_is ∙ sym (settled (ap not it.0) it.1.was_open); mode = it.1.mode; opened = (it.1.was_open, it.1.is_open) }

pub ends : (old new : State) (count : ℕ) → Executes (codes "COMMIT") [] old new (Ok count) → EndsRound old new
ends old new count ran =
    let it = runs_as (codes "COMMIT") [] old new old.now.schema refl Commit (commit_is _) (commit_plain _) count ran in
    record { was_under_way = it.0; now = it.1.now_is; committed = it.1.committed_is; mode = it.1.mode; opened = (it.1.was_open, it.1.is_open) }

-- ---- a statement that fails

-- all is as before, or undone, and only an open connection is left open
pub record IsRefused (old new : State) : Type 0 where
  pub stays : UnchangedOrUndone old new
  pub back : IsTrue new.is_open → IsTrue old.is_open

same_tables : (old new : State) → IsUnchanged old new → IsRefused old new
same_tables old new same = record {
  stays = inl (record { now = same.0.now_is; committed = same.0.committed_is; mode = same.0.mode });
  back = λ _. same.0.was_open;
}

rolled_back : (old new : State) → IsRolledBack old new → IsRefused old new
rolled_back old new undone = record { stays = inr (undone_by old new undone); back = undone.was_open }

fails_alone : (old new : State) (text : List ℕ) (c : Compiled) (params : Row) (error : Error) → RunsAlone false old new text c params (Err error) → IsRefused old new
fails_alone old new text c params error ran = elim (cases_Bool (shows_rows false c)) [
  | inl shows ↦ same_tables old new ((rw shows at ran).1)
  | inr isnt ↦ elim (rw isnt at ran) [ inl refused ↦ same_tables old new refused.1 | inr fails ↦ rolled_back old new fails.3 ]
]

pub fails : (text : List ℕ) (params : Row) (old new : State) (error : Error) → Executes text params old new (Err error) → IsRefused old new
unfolding ExecutesIn IsNotRun
fails text params old new error (inl (inl refused)) = same_tables old new refused.1
fails text params old new error (inl (inr failed)) = rolled_back old new failed.3
fails text params old new error (inr (c, it, ran)) = fails_alone old new text c _ error ran

-- where none was under way all is as it was
pub mode_alone : (old new : State) → IsTrue (not old.in_transaction) → UnchangedOrUndone old new → new.in_transaction ≡ old.in_transaction
mode_alone old new alone (inl same) = same.mode
mode_alone old new alone (inr undone) = undone.mode ∙ sym (not-true old.in_transaction alone)

pub same_alone : (old new : State) → (IsTrue (not old.in_transaction) → IsTrue old.is_open → old.now ≡ old.committed) → IsTrue (not old.in_transaction) → IsRefused old new → IsTrue new.is_open → HasSameTables old new
same_alone old new settled alone refused is_open = elim refused.stays [
  | inl same ↦ same
  | inr undone ↦ record {
    now = undone.now is_open ∙ sym (settled alone (refused.back is_open));
    committed = undone.committed is_open;
    mode = mode_alone old new alone (inr undone);
  }
]

-- ---- a commit that fails

is_commit : (s : Schema) (c : Compiled) → understood s (codes "COMMIT") ≡ Ok c → (c.command ≡ Commit) × (c.returning ≡ None)
is_commit s c is = (sym (ap command_of is) ∙ commit_is s, (subst IsPlain is (commit_plain s)).0)

is_statement : (old : State) (error : Error) → IsNoStatement old (codes "COMMIT") [] error → ⊥
is_statement old error (inl (fault, is, same)) = let no : Nothing ≡ Commit = sym (ap command_of is) ∙ commit_is old.now.schema in cc
is_statement old error (inr (c, is, inl (short, same))) = let tail : c.tail ≡ 6 = sym (ap tail_of is) ∙ commit_tail old.now.schema in short (omega (arith, tail))
is_statement old error (inr (c, is, inr (inl (other, same)))) = let names : c.names ≡ [] = sym (ap names_of is) ∙ commit_names old.now.schema in other (ap length (sym names))
is_statement old error (inr (c, is, inr (inr (formats, same)))) = formats (subst IsPlain is (commit_plain old.now.schema)).1

-- a commit of a round is placed well
well_placed : (old : State) (command : Command) (error : Error) → command ≡ Commit → IsTrue old.in_transaction → IsMisplaced old command error → ⊥
well_placed old command error is inside (inl (same, inl (begin, mode))) = let no = sym is ∙ begin in cc
well_placed old command error is inside (inl (same, inr (which, mode))) = let no = sym inside ∙ mode in cc
well_placed old command error is inside (inr (same, name, inl release, unnamed)) = let no = sym is ∙ release in cc
well_placed old command error is inside (inr (same, name, inr back, unnamed)) = let no = sym is ∙ back in cc

never_changes : (c : Compiled) → c.command ≡ Commit → c.returning ≡ None → MayChange c → ⊥
never_changes c is none (inl write) = subst IsWrite is write
never_changes c is none (inr returning) = let no = subst IsSome none returning in cc

commit_ran : (old new : State) (c : Compiled) (params : Row) (error : Error) → c.command ≡ Commit → c.returning ≡ None → IsTrue old.in_transaction → RunsAlone false old new (codes "COMMIT") c params (Err error) → IsUndone old new
commit_ran old new c params error is none inside ran =
    let isnt : shows_rows false c ≡ false = rw (is, none) refl in
    elim (rw isnt at ran) [
      | inl (inl misplaced, same) ↦ absurd (well_placed old c.command error is inside misplaced)
      | inl (inr changes, same) ↦ absurd (never_changes c is none changes.0)
      | inr fails ↦ undone_by old new fails.3
    ]

pub commit_fails : (old new : State) (error : Error) → Executes (codes "COMMIT") [] old new (Err error) → IsTrue old.in_transaction → IsUndone old new
unfolding ExecutesIn IsNotRun
commit_fails old new error (inl (inl refused)) inside = absurd (is_statement old error refused.0)
commit_fails old new error (inl (inr failed)) inside = undone_by old new failed.3
commit_fails old new error (inr (c, it, ran)) inside = let so = is_commit old.now.schema c it.is in commit_ran old new c _ error so.0 so.1 inside ran

-- ---- what a crash may leave of it

never_writes : (limit : Option ℕ) (mode : Mode) (params : Row) (db : Database) (text : List ℕ) (returning : Option Returning) (command : Command) (tally : Tally) (after : Database) → (command ≡ Begin) ⊎ (command ≡ Commit)
    → Does limit mode params db text returning command (Ok (tally, after)) → ⊥
never_writes limit mode params db text returning command tally after (inl is) does = none returning (rw is at does)
  where
    none : (r : Option Returning) → Does limit mode params db text r Begin (Ok (tally, after)) → ⊥
    none None h = let e = h in cc
    none (Some it) h = let e = h in cc
never_writes limit mode params db text returning command tally after (inr is) does = none returning (rw is at does)
  where
    none : (r : Option Returning) → Does limit mode params db text r Commit (Ok (tally, after)) → ⊥
    none None h = let e = h in cc
    none (Some it) h = let e = h in cc

begin_commits : (old : State) (found : Trees) → CommitsBy (codes "BEGIN") [] old found → ⊥
unfolding CommitsBy
begin_commits old found (c, is, may) =
    let command : c.command ≡ Begin = sym (ap command_of is.is) ∙ begin_is old.now.schema in
    elim may [
      | inl ((inl commit, trees)) ↦ let same = sym command ∙ commit in cc
      | inl ((inr (name, at, release, newest, begins_it), trees)) ↦ let same = sym command ∙ release in cc
      | inr (outside, tally, after, does, sound, trees, frozen) ↦ never_writes old.step_limit (mode_of old) (timed [] c.formats is.now) old.now (text_of (codes "BEGIN") c) c.returning c.command tally after (inl command) does
    ]

commit_commits : (old : State) (found : Trees) → CommitsBy (codes "COMMIT") [] old found → found ≡ old.now.trees
unfolding CommitsBy
commit_commits old found (c, is, may) =
    let command : c.command ≡ Commit = sym (ap command_of is.is) ∙ commit_is old.now.schema in
    elim may [
      | inl (ended, trees) ↦ trees
      | inr (outside, tally, after, does, sound, trees, frozen) ↦ absurd (never_writes old.step_limit (mode_of old) (timed [] c.formats is.now) old.now (text_of (codes "COMMIT") c) c.returning c.command tally after (inr command) does)
    ]

survives_so : (old new : State) (Commits Told : Trees → Type 0) → ((found : Trees) → Commits found → Told found) → Survives old new Commits → Survives old new Told
survives_so old new Commits Told tells survives = record {
  clean = survives.clean;
  shield = survives.shield;
  counts = survives.counts;
  limit = survives.limit;
  closes = survives.closes;
  crash = λ clean found may. elim (survives.crash clean found may) [ inl before ↦ inl before | inr commits ↦ inr (tells found commits) ];
}

pub begin_survives : (old new : State) → Survives old new (CommitsBy (codes "BEGIN") [] old) → Survives old new (λ _. ⊥)
begin_survives old new survives = survives_so old new (CommitsBy (codes "BEGIN") [] old) (λ _. ⊥) (begin_commits old) survives

pub commit_survives : (old new : State) → Survives old new (CommitsBy (codes "COMMIT") [] old) → Survives old new (λ found. found ≡ old.now.trees)
commit_survives old new survives = survives_so old new (CommitsBy (codes "COMMIT") [] old) (λ found. found ≡ old.now.trees) (commit_commits old) survives
