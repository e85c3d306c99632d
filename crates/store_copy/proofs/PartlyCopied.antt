-- An account that is copied part by part.
use Rattle.std.proofs.Common.{◌≡◌, ◌+◌, ◌≤◌, ℕ, List, Option, Some, None, IsSome, refl, sym, ap, subst, ◌∙◌, arith}
use Rattle.sqlite_value.specs.Order.{Row, column}
use Rattle.sqlite.specs.Effect.{Database}
use Rattle.account_rules.specs.declared.account.Account.{Account}
use Rattle.account_state.specs.Rooms.{RoomValue}
use Rattle.rows_tables.specs.Tables.{account as account_table}
use Rattle.rows_tables.specs.Keyed.{SetsRow}
use Rattle.rows_tables.specs.Cells.{account_cells}
use Rattle.rows_tables.specs.Accounts.{account_at, account_of_room, AgreeOnRows, HoldsNothing, HoldsRoom, HoldsRows}
use Rattle.rows_tables.proofs.AgreedRows.{still_holds}
use Rattle.rows_tables.proofs.KeyedRows.{same_row}
use Rattle.rows_tables.proofs.ReadBackLemmas.{number_back}
use Rattle.rows_statements.proofs.LeftAlone.{account_alone, alone_then, same_rows}
use Rattle.store_copy.specs.Copies.{IsCopyOf}
use Rattle.store_copy.specs.Parts.{AddsJobs, HoldsPart, IsPartly}
use Rattle.store_copy.specs.ProofParts.{CopiesMore, HasAll, HasGrants, HasWholeJob}
use Rattle.store_copy.specs.Slices.{CopiesFurther}
use Rattle.store_copy.specs.declared.slices.Progress.{Progress}
use Rattle.store_copy.specs.declared.slices.Progress.TheVariants.{UpTo, Anew, Within}
use Rattle.store_copy.proofs.PartRows.{jobs_last, no_jobs, one_job_more}
use Rattle.store_copy.proofs.WholeAccounts.{bare, bare_held, bare_part, is_room}

-- ---- its beginning

module _ (name : List ℕ) (source a : Database) where
  pub not_there : account_at source name ≡ None → HoldsNothing a name → IsCopyOf name source a
  not_there none empty None holds = empty
  not_there none empty (Some room) holds = let no : ⊥ = let e = sym none ∙ holds.rows.account_row in cc in absurd no

  pub nobody_begun : account_at source name ≡ None → CopiesFurther name (Anew name) (UpTo (Some name)) source a a
  nobody_begun none = record { same_account = refl; further = not_there none; alone = same_rows name a }

module _ (name : List ℕ) (source a b : Database) (it : Account) (there : account_at source name ≡ Some (account_cells name it)) (sets : SetsRow account_table (account_cells name it) a b) where
  own_part : HoldsNothing a name → (room : RoomValue) → HoldsRoom source name room → HoldsPart b name it.next_job 1 room
  own_part empty room held =
      let own = account_of_room room in
      let same : account_cells name it ≡ account_cells name own = same_row (sym there ∙ held.rows.account_row) in
      let set : SetsRow account_table (account_cells name own) a b = subst (λ (cells : Row). SetsRow account_table cells a b) same sets in
      record {
        own_next = sym (number_back it.next_job room.next (ap (λ (cells : Row). column cells 2) same));
        part = bare own;
        rows = bare_held name a b own empty set;
        is_part = bare_part room;
        jobs = no_jobs room (bare own);
      }

  pub begun_further : (to : Progress) (c : Database) → CopiesFurther name (Within name it.next_job 1) to source b c → CopiesFurther name (Anew name) to source a c
  begun_further to c rest = record {
    same_account = rest.same_account;
    further = λ empty. rest.further (record { there = subst (λ (o : Option Row). IsSome o) (sym there) refl; part = own_part empty });
    alone = alone_then a b c name (account_alone name a b _ sets) rest.alone;
  }

-- ---- its jobs

module _ (name : List ℕ) (source : Database) (first : ℕ) where
  pub adds_none : (a : Database) → AddsJobs name first first source a a
  adds_none a = record { added = λ next partly. partly; alone = same_rows name a }

  pub adds_one : (k : ℕ) (a b c : Database) → AddsJobs name first k source a b → CopiesMore name (HasWholeJob k) source b c → AddsJobs name first (k + 1) source a c
  adds_one k a b c adds copies = record {
    added = λ next partly.
        let was = adds.added next partly in
        record {
          there = was.there;
          part = λ room held.
              let had = was.part room held in
              let more = copies.more room had.part held had.is_part had.rows in
              record {
                own_next = had.own_next;
                part = more.further;
                rows = more.rows;
                is_part = more.is_part;
                jobs = one_job_more k room more.further (jobs_last k room had.part more.further more.goes_on had.jobs) more.has;
              };
        };
    alone = alone_then a b c name adds.alone copies.alone;
  }

  pub adds_fewer : (k further : ℕ) (a b : Database) → further ≤ k → AddsJobs name first k source a b → AddsJobs name first further source a b
  adds_fewer k further a b enough adds = record {
    added = λ next partly.
        let was = adds.added next partly in
        record {
          there = was.there;
          part = λ room held.
              let had = was.part room held in
              record { own_next = had.own_next; part = had.part; rows = had.rows; is_part = had.is_part; jobs = λ n from below. had.jobs n from (omega (arith, enough, below)) };
        };
    alone = adds.alone;
  }

-- ---- its end

module _ (name : List ℕ) (source : Database) (next job further : ℕ) (a b : Database) (adds : AddsJobs name job further source a b) where
  pub goes_further : CopiesFurther name (Within name next job) (Within name next further) source a b
  goes_further = record { same_account = refl; further = adds.added next; alone = adds.alone }

  pub is_ended : (c : Database) → next ≤ further → CopiesMore name HasGrants source b c → CopiesFurther name (Within name next job) (UpTo (Some name)) source a c
  is_ended c enough copies = record { same_account = refl; further = λ partly. by (adds.added next partly); alone = alone_then a b c name adds.alone copies.alone }
    where
      by : IsPartly name next further source b → IsCopyOf name source c
      by was None holds = let no : ⊥ = let e = subst (λ (o : Option Row). IsSome o) holds.no_account was.there in cc in absurd no
      by was (Some room) held =
          let had = was.part room held in
          let more = copies.more room had.part held had.is_part had.rows in
          let jobs = jobs_last further room had.part more.further more.goes_on had.jobs in
          let all : HasAll room.next room more.further = record { jobs = λ n from below. jobs n from (omega (arith, enough, had.own_next, below)); grants = more.has } in
          record { is_room = held.is_room; rows = subst (HoldsRows c name) (is_room name source room more.further held more.is_part all) more.rows }

-- ---- while the source's rows of it stay

agree_back : (name : List ℕ) (a b : Database) → AgreeOnRows name a b → AgreeOnRows name b a
agree_back name a b agree = record {
  same_account = sym agree.same_account;
  same_jobs = λ number. sym (agree.same_jobs number);
  same_documents = λ job number. sym (agree.same_documents job number);
  same_grants = λ month. sym (agree.same_grants month);
}

pub partly_stays : (name : List ℕ) (next job : ℕ) (source later copy : Database) → AgreeOnRows name source later → IsPartly name next job source copy → IsPartly name next job later copy
partly_stays name next job source later copy agree partly = record {
  there = subst (λ (o : Option Row). IsSome o) (sym agree.same_account) partly.there;
  part = λ room held. partly.part room (still_holds name later source (agree_back name source later agree) (Some room) held);
}
