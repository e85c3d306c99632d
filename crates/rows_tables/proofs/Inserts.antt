-- A statement that puts a row in whose key is free: what its text has to mean, what it leaves, and why it is refused.
use Rattle.std.proofs.Common.{◌≡◌, ◌≢◌, is_eq, ℤ, ℕ, ◌/◌, ◌&&◌, zero, suc, Bool, true, false, not, cond, List, [], ◌∷◌, ◌++◌, length, drop, find, Option, Some, None, option_map, Ok, Err, refl, sym, ap, subst, subst₂, append-nil, ◌∙◌, ◌⊎◌, inl, inr, arith}
use Rattle.std.proofs.lemmas.Bool.{cases_Bool, cases_eq, and_parts, and_from, eq-eqb, ne_eqb, not-true}
use Rattle.std.proofs.lemmas.Cmp.{tied_itself}
use Rattle.std.proofs.lemmas.List.{length-append}
use Rattle.sqlite_value.specs.declared.value.Value.TheVariants.{Null, Int}
use Rattle.sqlite_value.specs.Order.{Row, value_cmp}
use Rattle.sqlite_value.specs.Keys.{plain}
use Rattle.sqlite_value.proofs.OrderLemmas.{value_cmp_total}
use Rattle.sqlite_sql.specs.Ops.{binary}
use Rattle.sqlite_sql.specs.Term.{Term}
use Rattle.sqlite_trees.specs.declared.error.StoreError.{StoreError}
use Rattle.sqlite_trees.specs.declared.error.StoreError.TheVariants.{OutOfMemory, Io, Corrupt, Full, Broken, Unstorable}
use Rattle.sqlite_trees.specs.Tree.{Trees, rowid, with_tree}
use Rattle.sqlite_schema.specs.declared.schema.Constraint.TheVariants.{Unique}
use Rattle.sqlite_schema.specs.declared.schema.Keys.TheVariants.{Enforced}
use Rattle.sqlite_schema.specs.declared.schema.Table.{Table}
use Rattle.sqlite_schema.specs.declared.schema.Column.{Column}
use Rattle.sqlite_schema.specs.declared.command.Command.{Command}
use Rattle.sqlite_schema.specs.declared.command.Command.TheVariants.{Insert}
use Rattle.sqlite_schema.specs.declared.command.Source.TheVariants.{Values}
use Rattle.sqlite_schema.specs.Rules.{agree, clashes, differ, Keeps}
use Rattle.sqlite_schema.specs.Rules as rules_of
use Rattle.sqlite_rules.specs.Action.{Leads, Writes, works}
use Rattle.sqlite_rules.specs.Cast.{cast_all, cast_row}
use Rattle.sqlite_rules.specs.declared.error.Refusal.{Refusal}
use Rattle.sqlite_rules.specs.declared.error.Refusal.TheVariants.{Violates, Mismatch, NoRowid, BadReference, TooDeep}
use Rattle.sqlite_rules.specs.Edit.{Edit, IsRefused, edit_of, edited, is_taken, next_rowid, put_all, taken_by, with_rowid}
use Rattle.sqlite_rules.specs.Lists.{Has}
use Rattle.sqlite_rules.specs.declared.error.Rowids.TheVariants.{Chosen}
use Rattle.sqlite_rules.proofs.KeyLemmas.{agree_back}
use Rattle.sqlite_rules.proofs.ListLemmas.{some_from, some_has}
use Rattle.sqlite_rules.proofs.RuleLemmas.{keeps_at, keeps_from}
use Rattle.sqlite_rules.proofs.TableLemmas.{put_all_has}
use Rattle.sqlite.specs.Effect.{Database, value_rows, edit_error}
use Rattle.sqlite.specs.Rows.{Edited, Inserts, Sourced, Task, Written, stamped}
use Rattle.sqlite.specs.Listing.{understood}
use Rattle.sqlite.specs.Clock.{timed}
use Rattle.sqlite.specs.Does.{Does, Concludes, OnRows, Tally}
use Rattle.sqlite.specs.declared.run.Mode.{Mode}
use Rattle.sqlite.specs.State.{State, Executes, ExecutesIn, IsNotRun, IsNoStatement, IsMisplaced, RunsCommand, shows_rows, store_error, mode_of}
use Rattle.sqlite.specs.declared.error.Error.{Error}
use Rattle.sqlite.specs.declared.error.Error.TheVariants.{SqliteFailure}
use Rattle.sqlite.specs.declared.error.ErrorCode.TheVariants.{ConstraintViolation}
use Rattle.sqlite.proofs.Callers.{IsPlain, command_of, one_step, runs_as, statement_of}
use Rattle.rows_tables.specs.Tables.{room_schema, keyed}
use Rattle.rows_tables.specs.Keyed.{HasSchema, SetsRow, has_key, row_at}
use Rattle.rows_tables.proofs.Edits.{AreNumbered, edit_adds, edit_from, edit_keeps, edit_wrote}
use Rattle.rows_tables.proofs.Finds.{IsOnce, Replaces, found_at, lacks, key_passed, replaced}
use Rattle.rows_tables.proofs.KeyedTables.{places_from, IsInSchema}
use Rattle.rows_tables.proofs.Settings.{AllKept, all_kept}
use Rattle.rows_tables.proofs.Statements.{fits_in, keeps_schema, numbered_in, once_in}
use Rattle.rows_tables.proofs.StatementParts.{cast_null, same_value, task_of, went}

-- two same numbers do not differ
never_differ : (n : ℤ) → differ (Int n) (Int n) ≡ false
unfolding binary
never_differ n = rw (tied_itself value_cmp_total (Int n)) refl

module _ {at : ℕ} {name : List ℕ} {tree : ℕ} {columns : List Column} (key : Row) (in_schema : IsInSchema at name tree (length key) columns) (db : Database) (has : HasSchema db) (new : Row)
    (number : ℤ) (numbered_so : rowid new ≡ Int number) (keyed_so : has_key (keyed name tree (places_from (length key) 1) columns) key new ≡ true) (free : row_at (keyed name tree (places_from (length key) 1) columns) key db ≡ None) where
  abbrev table : Table
  table = keyed name tree (places_from (length key) 1) columns

  abbrev after : List Row
  after = put_all (db.trees tree) (new ∷ [])

  abbrev trees : Trees
  trees = with_tree db.trees tree after

  -- no row that is there has the key
  none_has : (r : Row) → Has (db.trees tree) r → has_key table key r ≡ false
  none_has r h = lacks (has_key table key) (db.trees tree) r h (unfound (find (has_key table key) (db.trees tree)) free)
    where
      unfound : (o : Option Row) → option_map (drop 1) o ≡ None → o ≡ None
      unfound None e = refl
      unfound (Some r) e = absurd (let no = e in cc)

  which : (r : Row) → Has after r → (r ≡ new) ⊎ Has (db.trees tree) r
  which r h = elim (put_all_has (new ∷ []) (db.trees tree) r h) [
    | inl fresh ↦ elim fresh [ inl same ↦ inl same | inr none ↦ absurd none ]
    | inr old ↦ inr old
  ]

  -- so the new row is in the way of none
  apart : (a b : Row) → Has after a → Has after b → agree plain (places_from (length key) 1) a (places_from (length key) 1) b ≡ true → differ (rowid a) (rowid b) ≡ true → ⊥
  apart a b h k same other = elim (which a h) [
    | inl a_new ↦ elim (which b k) [
      | inl b_new ↦ let is : differ (Int number) (Int number) ≡ true = subst₂ (λ x y. differ x y ≡ true) (ap rowid a_new ∙ numbered_so) (ap rowid b_new ∙ numbered_so) other in let isnt = never_differ number in cc
      | inr b_old ↦
          let has_it = key_passed table key [] [] b new (agree_back plain (places_from (length key) 1) (places_from (length key) 1) new b (subst (λ x. agree plain (places_from (length key) 1) x (places_from (length key) 1) b ≡ true) a_new same)) keyed_so in
          let lacks_it = none_has b b_old in
          cc
    ]
    | inr a_old ↦ elim (which b k) [
      | inl b_new ↦
          let has_it = key_passed table key [] [] a new (subst (λ x. agree plain (places_from (length key) 1) a (places_from (length key) 1) x ≡ true) b_new same) keyed_so in
          let lacks_it = none_has a a_old in
          cc
      | inr b_old ↦
          let unique = in_schema.guarded db.trees b (keeps_at Unique room_schema db.trees table b ((fits_in db has).rules Unique (λ e. absurd cc)) in_schema.listed b_old) in
          let clash = some_from (λ x. agree plain (places_from (length key) 1) x (places_from (length key) 1) b && differ (rowid x) (rowid b)) (db.trees tree) a a_old (and_from _ _ same other) in
          cc
    ]
  ]

  no_clash : (r : Row) → Has after r → clashes plain (places_from (length key) 1) after r ≡ false
  no_clash r h = elim (cases_Bool (clashes plain (places_from (length key) 1) after r)) [
    | inl clash ↦
        let one = some_has (λ x. agree plain (places_from (length key) 1) x (places_from (length key) 1) r && differ (rowid x) (rowid r)) after clash in
        let parts = and_parts (agree plain (places_from (length key) 1) one.0 (places_from (length key) 1) r) (differ (rowid one.0) (rowid r)) one.2 in
        absurd (apart one.0 r one.1 h parts.0 parts.1)
    | inr none ↦ none
  ]

  here : trees tree ≡ after
  here = rw (eq-eqb tree tree refl) refl

  elsewhere : (t : ℕ) → t ≢ tree → trees t ≡ db.trees t
  elsewhere t other = rw (ne_eqb t tree other) refl

  abbrev unique_in : ℕ → Row → Bool
  unique_in n row = rules_of.passes Unique room_schema trees (keyed name n (places_from (length key) 1) columns) row

  pub still_unique : Keeps Unique room_schema trees
  still_unique = keeps_from Unique room_schema trees (λ t row listed there. elim (cases_eq t.tree tree) [
    | inl same ↦
        let rows : trees t.tree ≡ after = ap trees same ∙ here in
        let free_here : clashes plain (places_from (length key) 1) (trees tree) row ≡ false = subst (λ rs. clashes plain (places_from (length key) 1) rs row ≡ false) (sym here) (no_clash row (subst (λ rs. Has rs row) rows there)) in
        by_tree t.tree tree same row ∙ in_schema.unguarded trees row free_here
    | inr other ↦ kept t row (elsewhere t.tree other) (keeps_at Unique room_schema db.trees t row ((fits_in db has).rules Unique (λ e. absurd cc)) listed (subst (λ rs. Has rs row) (elsewhere t.tree other) there))
  ])
    where
      by_tree : (m n : ℕ) → m ≡ n → (row : Row) → unique_in m row ≡ unique_in n row
      by_tree m n same row = ap (λ k. unique_in k row) same

      kept : (t : Table) (row : Row) → trees t.tree ≡ db.trees t.tree → rules_of.passes Unique room_schema db.trees t row ≡ true → rules_of.passes Unique room_schema trees t row ≡ true
      kept t row same was = rw same was

-- ---- what the text means

module _ {at : ℕ} {name : List ℕ} {tree : ℕ} {columns : List Column} (key rest : Row) (in_schema : IsInSchema at name tree (length key) columns) (text : List ℕ) (terms : List Term) where
  abbrev cells : Row
  cells = key ++ rest

  abbrev the_table : Table
  the_table = keyed name tree (places_from (length key) 1) columns

  abbrev width : ℕ
  width = suc (length columns)

  abbrev command_put : Command
  command_put = Insert at (Values terms width)

  -- the text, whose parameters are the cells, puts the row of the key in
  pub record IsPutting : Type 0 where
    pub command : command_of (understood room_schema text) ≡ command_put
    pub is_plain : IsPlain (understood room_schema text)
    pub rows : value_rows (stamped the_table cells) width (length terms / width) terms ≡ (Null ∷ cells) ∷ []
    pub kept : AllKept columns cells
    pub begins : has_key the_table key (Null ∷ cells) ≡ true

  -- ---- why it is refused as a second row of a key

  abbrev taken : Error
  taken = SqliteFailure (ConstraintViolation Unique)

  never_store : (cause : StoreError) → taken ≡ store_error cause → ⊥
  never_store OutOfMemory e = let no = e in cc
  never_store Io e = let no = e in cc
  never_store Corrupt e = let no = e in cc
  never_store Full e = let no = e in cc
  never_store Broken e = let no = e in cc
  never_store Unstorable e = let no = e in cc

  never_unread : (old : State) (params : Row) → IsNoStatement old text params taken → ⊥
  never_unread old params (inl fault) = let no = fault.2 in cc
  never_unread old params (inr (c, is, inl many)) = let no = many.1 in cc
  never_unread old params (inr (c, is, inr (inl few))) = let no = few.1 in cc
  never_unread old params (inr (c, is, inr (inr clock))) = let no = clock.1 in cc

  never_misplaced : (old : State) (command : Command) → IsMisplaced old command taken → ⊥
  never_misplaced old command (inl mode) = let no = mode.0 in cc
  never_misplaced old command (inr mark) = let no = mark.0 in cc

  -- the command was refused so on the database
  pub refused_as : (it : IsPutting) (old new : State) → HasSchema old.now → Executes text cells old new (Err taken)
      → Does old.step_limit (mode_of old) cells old.now (statement_of text (understood room_schema text)) None command_put (Err (Some taken))
  unfolding ExecutesIn IsNotRun
  refused_as it old new has (inl (inl unread)) = absurd (never_unread old cells unread.0)
  refused_as it old new has (inl (inr failed)) = absurd (never_store failed.0 failed.1)
  refused_as it old new has (inr (c, is, run)) =
      let known = sym is.is ∙ ap (λ s. understood s text) has.schema_is in
      let bare = subst IsPlain (sym known) it.is_plain in
      let ran : RunsCommand old new text c (timed cells c.formats is.now) (Err taken) = elim (cases_Bool (shows_rows false c)) [
        | inl shows ↦ absurd (let no = (rw shows at run).0 in cc)
        | inr runs ↦ rw runs at run
      ] in
      elim ran [
        | inl (inl misplaced, same) ↦ absurd (never_misplaced old c.command misplaced)
        | inl (inr (may, does), same) ↦
            subst₂ (λ k t. Does old.step_limit (mode_of old) cells old.now t None k (Err (Some taken))) (ap command_of known ∙ it.command) (ap (statement_of text) known) (rw (bare.0, bare.1, append-nil cells) at does)
        | inr failed ↦ absurd (never_store failed.0 failed.1)
      ]

  abbrev task : Option ℕ → Task
  task limit = task_of limit cells the_table

  abbrev put_edit : Trees → Edit
  put_edit db = edit_of db the_table [] Chosen 0 ((Null ∷ cells) ∷ [])

  -- the new row has the next number
  edit_is : IsPutting → (db : Trees) → edited db (put_edit db) ≡ put_all (db tree) ((Int (next_rowid (db tree)) ∷ cells) ∷ [])
  edit_is it db =
      let recast : cast_row the_table (Null ∷ cells) ≡ Null ∷ cells = ap (λ v. v ∷ cast_all columns cells) cast_null ∙ ap (λ vs. Null ∷ vs) (all_kept columns cells it.kept) in
      ap (λ row. put_all (db tree) (with_rowid Chosen (db tree) row ∷ [])) recast

  writes_refused : (db : Trees) (edit : Edit) → works room_schema Enforced 0 edit.table.tree (taken_by db edit) edit.news ≡ [] → Writes room_schema Enforced db edit (Err (Some (Violates Unique)))
      → Keeps Unique room_schema (with_tree db edit.table.tree (edited db edit)) → ⊥
  writes_refused db edit none (inl (why, refused, same)) keeps =
      let is : Violates Unique ≡ why = cc in
      (subst (λ w. IsRefused room_schema Enforced db edit w) (sym is) refused) keeps
  writes_refused db edit none (inr (inl (row, h, big, same))) keeps = let no = same in cc
  writes_refused db edit none (inr (inr (next, applies, settles))) keeps = settled settles.0 (rw none at settles.1)
    where
      settled : (n : ℕ) → Leads room_schema Enforced n next [] (Err (Some (Violates Unique))) → ⊥
      settled zero h = let e = h.1 in cc
      settled (suc n) h = absurd (omega (arith, ap length h.2, length-append h.0 (h.1 ∷ [])))

  only_unique : (why : Refusal) → edit_error why ≡ taken → why ≡ Violates Unique
  only_unique (Violates rule) e = cc
  only_unique Mismatch e = absurd (let no = e in cc)
  only_unique NoRowid e = absurd (let no = e in cc)
  only_unique BadReference e = absurd (let no = e in cc)
  only_unique TooDeep e = absurd (let no = e in cc)

  edit_refused : (db : Trees) (edit : Edit) (stop : Option Error) → works room_schema Enforced 0 edit.table.tree (taken_by db edit) edit.news ≡ [] → Edited room_schema Enforced db edit (Err stop) → stop ≡ Some taken
      → Keeps Unique room_schema (with_tree db edit.table.tree (edited db edit)) → ⊥
  edit_refused db edit stop none (None, writes, told) is keeps = let no = sym told ∙ is in cc
  edit_refused db edit stop none (Some why, writes, told) is keeps =
      let same : edit_error why ≡ taken = let e = sym told ∙ is in cc in
      writes_refused db edit none (subst (λ w. Writes room_schema Enforced db edit (Err (Some w))) (only_unique why same) writes) keeps

  never_sourced : (limit : Option ℕ) (db : Database) (params : Row) (stop : Option Error) → Sourced limit db params (Values terms width) (Err stop) → stop ≡ Some taken → ⊥
  never_sourced limit db params None sourced is = sourced
  never_sourced limit db params (Some e) (inl typed) is = let a = typed.0 in let b = is in cc
  never_sourced limit db params (Some e) (inr stopped) is = let a = stopped.0 in let b = is in cc

  inserts_refused : (it : IsPutting) (limit : Option ℕ) (db : Trees) → Inserts (task limit) (Values terms width) db (Err (Some taken)) → Keeps Unique room_schema (with_tree db tree (edited db (put_edit db))) → ⊥
  inserts_refused it limit db (inl (stop, sourced, same)) keeps = never_sourced limit (record { schema = room_schema; trees = db }) (stamped the_table cells) stop sourced (let e = same in cc)
  inserts_refused it limit db (inr (rows, sourced, inl (stop, counter, same))) keeps = let no = counter in cc
  inserts_refused it limit db (inr (rows, sourced, inr (counter, counted, inl (stop, edits, same)))) keeps =
      let given : rows ≡ (Null ∷ cells) ∷ [] = sourced.1 ∙ it.rows in
      edit_refused db (put_edit db) stop refl (subst (λ rs. Edited room_schema Enforced db (edit_of db the_table [] Chosen 0 rs) (Err stop)) given edits) (let e = same in cc) keeps
  inserts_refused it limit db (inr (rows, sourced, inr (counter, counted, inr (mid, edits, inl (stop, counts, same))))) keeps = let no = counts in cc
  inserts_refused it limit db (inr (rows, sourced, inr (counter, counted, inr (mid, edits, inr (next, counts, gives))))) keeps = let no = gives in cc

  never_concludes : (limit : Option ℕ) (mode : Mode) (w : Written) → Concludes (task limit) mode None w (Err (Some taken)) → ⊥
  never_concludes limit mode w (inl (stop, tested, same)) = let a = tested.1 in let b = same in cc
  never_concludes limit mode w (inr (doubt, tested, inl (stop, none, same))) = let no = none in cc
  never_concludes limit mode w (inr (doubt, tested, inr (rows, given, gives))) = let no = gives in cc

  put_refused : (it : IsPutting) (limit : Option ℕ) (mode : Mode) (db : Trees) → OnRows (task limit) mode None command_put db (Err (Some taken)) → Keeps Unique room_schema (with_tree db tree (edited db (put_edit db))) → ⊥
  put_refused it limit mode db (inl (stop, first, same)) keeps = inserts_refused it limit db (subst (λ s. Inserts (task limit) (Values terms width) db (Err s)) (let e = same in cc) first) keeps
  put_refused it limit mode db (inr (w, wrote, ends)) keeps = absurd (never_concludes limit mode w ends)

  -- where it is refused so, the row of the key was there
  pub was_taken : IsPutting → (old new : State) → HasSchema old.now → Executes text cells old new (Err taken) → row_at the_table key old.now ≡ None → ⊥
  was_taken it old new has h free =
      let statement = statement_of text (understood room_schema text) in
      let does : Does old.step_limit (mode_of old) cells (record { schema = room_schema; trees = old.now.trees }) statement None command_put (Err (Some taken)) =
      subst (λ s. Does old.step_limit (mode_of old) cells (record old.now { schema = s }) statement None command_put (Err (Some taken))) has.schema_is (refused_as it old new has h) in
      let id = next_rowid (old.now.trees tree) in
      let keyed_so : has_key the_table key (Int id ∷ cells) ≡ true = (in_schema.numberless (Int id) cells (Null ∷ key)).1 ∙ it.begins in
      put_refused it old.step_limit (mode_of old) old.now.trees (rw in_schema.place at does)
      (subst (λ rows. Keeps Unique room_schema (with_tree old.now.trees tree rows)) (sym (edit_is it old.now.trees)) (still_unique key in_schema old.now has (Int id ∷ cells) id refl keyed_so free))

  -- ---- what it leaves

  abbrev has_its_key : ℤ → Row → Bool
  has_its_key id x = agree plain (places_from (length key) 1) x (places_from (length key) 1) (Int id ∷ cells)

  abbrev one_edit : ℤ → Edit
  one_edit id = record { table = the_table; gone = []; news = (Int id ∷ cells) ∷ [] }

  module _ (db next : Trees) (id : ℤ) (was : AreNumbered (db tree)) (step : Writes room_schema Enforced db (one_edit id) (Ok next)) (one : IsOnce the_table (next tree)) where
    -- its number was free
    never_there : (r : Row) → Has (db tree) r → r ≡ Int id ∷ cells → ⊥
    never_there r h same =
        let fresh = (one_step room_schema Enforced db next (one_edit id) refl step).fresh in
        let isnt = not-true (is_taken (db tree) (Int id ∷ cells)) (and_parts (not (is_taken (db tree) (Int id ∷ cells))) true fresh).0 in
        let tie : is_eq (value_cmp (rowid r) (Int id)) ≡ true = rw same (ap is_eq (tied_itself value_cmp_total (Int id))) in
        let is = some_from (λ x. is_eq (value_cmp (rowid x) (Int id))) (db tree) r h tie in
        cc

    put_in : Replaces (has_its_key id) (Int id ∷ cells) (db tree) (next tree)
    put_in =
        let news = (Int id ∷ cells) ∷ [] in
        let here = edit_adds the_table db next [] news was step (Int id ∷ cells) (inl refl) in
        let stays : (x : Row) → Has (db tree) x → Has (next tree) x = λ x k. edit_keeps the_table db next [] news was step x k in
        let apart_from : (x : Row) → Has (db tree) x → has_its_key id x ≡ false = λ x k. elim (cases_Bool (has_its_key id x)) [
          | inl same ↦ absurd (never_there x k (one x (Int id ∷ cells) (stays x k) here same))
          | inr isnt ↦ isnt
        ] in
        record {
          here = here;
          from = λ x k. elim (edit_from the_table db next [] news was step x k) [
            | inl fresh ↦ elim fresh [ inl same ↦ inl same | inr none ↦ absurd none ]
            | inr old ↦ inr (old, apart_from x old)
          ];
          kept = λ x k isnt. stays x k;
        }

  pub puts_row : IsPutting → (old new : State) (count : ℕ) → HasSchema old.now → Executes text cells old new (Ok count) → HasSchema new.now × SetsRow the_table cells old.now new.now
  puts_row it old new count has h =
      let ran = runs_as text cells old new room_schema has.schema_is command_put it.command it.is_plain count h in
      let statement = statement_of text (understood room_schema text) in
      let does : Does old.step_limit (mode_of old) cells (record { schema = room_schema; trees = old.now.trees }) statement None command_put (Ok (ran.tally, new.now)) =
      subst (λ s. Does old.step_limit (mode_of old) cells (record old.now { schema = s }) statement None command_put (Ok (ran.tally, new.now))) has.schema_is ran.changed in
      let done = went (rw in_schema.place at does) in
      let now : new.now ≡ record { schema = room_schema; trees = done.0.trees } = ap (λ (p : Tally × Database). p.1) (same_value (went (went done.2).2).2) in
      let db = old.now.trees in
      let id = next_rowid (db tree) in
      let sourced = went done.1 in
      let written = went (went sourced.2).2 in
      let counted = went written.2 in
      let trees : new.now.trees ≡ written.0 = ap (λ (d : Database). d.trees) now ∙ ap (λ (w : Written). w.trees) (same_value counted.2) ∙ same_value counted.1 in
      let recast : cast_row the_table (Null ∷ cells) ≡ Null ∷ cells = ap (λ v. v ∷ cast_all columns cells) cast_null ∙ ap (λ vs. Null ∷ vs) (all_kept columns cells it.kept) in
      let first = subst (λ rs. Writes room_schema Enforced db (edit_of db the_table [] Chosen 0 rs) (Ok written.0)) (sourced.1.1 ∙ it.rows) written.1 in
      let step : Writes room_schema Enforced db (one_edit id) (Ok written.0) =
      subst (λ row. Writes room_schema Enforced db (record { table = the_table; gone = []; news = with_rowid Chosen (db tree) row ∷ [] }) (Ok written.0)) recast first in
      let numbered = numbered_in the_table in_schema.listed old.now has in
      let wrote = edit_wrote the_table db written.0 [] ((Int id ∷ cells) ∷ []) numbered step in
      let whole : new.now ≡ record { schema = room_schema; trees = written.0 } = now ∙ ap (λ (t : Trees). record { schema = room_schema; trees = t }) (ap (λ (w : Written). w.trees) (same_value counted.2) ∙ same_value counted.1) in
      let left = keeps_schema the_table old.now new.now written.0 has ran.sound whole wrote in
      let after_once = once_in the_table in_schema.listed in_schema.guarded written.0 wrote.fits wrote.numbered in
      let put = put_in db written.0 id numbered step after_once in (
        left.0,
        record {
          rows = λ other.
              ap (λ (t : Trees). option_map (drop 1) (found_at the_table other (t tree))) trees
              ∙ ap (option_map (drop 1)) (replaced the_table other (db tree) (written.0 tree) (has_its_key id) (Int id ∷ cells) (λ x. refl) put after_once)
              ∙ by_case (has_key the_table other (Int id ∷ cells)) (has_key the_table other (Null ∷ cells)) (in_schema.numberless (Int id) cells (Null ∷ other)).1 (Int id ∷ cells) (found_at the_table other (db tree));
          rest = left.1;
        },
      )
    where
      by_case : (a b : Bool) → a ≡ b → (new : Row) (was : Option Row) → option_map (drop 1) (cond a (Some new) was) ≡ cond b (Some (drop 1 new)) (option_map (drop 1) was)
      by_case true b same new was = rw (sym same) refl
      by_case false b same new was = rw (sym same) refl
