-- What the statement leaves that makes the index on jobs.
use Rattle.std.proofs.Common.{◌≡◌, ℕ, [], None, Ok, sym, ap, subst, ◌∙◌}
use Rattle.sqlite_schema.specs.declared.command.Command.TheVariants.{CreateIndex}
use Rattle.sqlite_catalog.specs.Change.{indexed}
use Rattle.sqlite.specs.Effect.{Database, IsDatabase}
use Rattle.sqlite.specs.Does.{Does, Tally}
use Rattle.sqlite.specs.Listing.{understood}
use Rattle.sqlite.specs.State.{State, Executes, mode_of}
use Rattle.sqlite.proofs.Callers.{statement_of, runs_as}
use Rattle.rows_tables.specs.Tables.{unindexed_schema, job, job_ended}
use Rattle.rows_tables.specs.Making.{AddsIndex}
use Rattle.rows_tables.proofs.MakingTexts.{job_ended_text, job_ended_is, job_ended_whole, job_ended_plain, job_ended_defined, room_schema_is}
use Rattle.rows_tables.proofs.StatementParts.{went, same_value}

pub adds_index : (old new : State) (count : ℕ) → Executes job_ended_text [] old new (Ok count) → old.now.schema ≡ unindexed_schema → AddsIndex old.now new.now
adds_index old new count h was =
    let command = CreateIndex 2 in
    let ran = runs_as job_ended_text [] old new unindexed_schema was command job_ended_is job_ended_plain count h in
    let statement = statement_of job_ended_text (understood unindexed_schema job_ended_text) in
    let does = went (subst (λ s. Does old.step_limit (mode_of old) [] (record old.now { schema = s }) statement None command (Ok (ran.tally, new.now))) was ran.changed) in
    let made = does.1 in
    let defined = subst (λ t. Rattle.sqlite_resolve.specs.Compile.index_defined_by job t ≡ Ok made.index) job_ended_whole made.defined in
    let same : ◌≡◌ (Ok made.index) (Ok (record job_ended { tree = 0 })) = sym defined ∙ job_ended_defined in
    let now : new.now ≡ does.0 = ap (λ (p : Tally × Database). p.1) (same_value does.2) in
    subst (AddsIndex old.now) (sym now) (record {
      schema_is = made.is ∙ ap (indexed unindexed_schema job) (same_value same) ∙ room_schema_is;
      is_database = subst IsDatabase now ran.sound;
      kept = made.rows;
    })
