use Rattle.std.proofs.Common.{◌≡◌, ℕ, List, [], Result, Ok, OnOk, subst, sym}
use Rattle.sqlite_trees.specs.declared.store.Store.{Ghosts}
use Rattle.sqlite.specs.declared.error.Error.{Error}
use Rattle.sqlite.specs.Held.{Held, state}
use Rattle.sqlite.specs.State.{State, HasCleanDisk, Executes}
use Rattle.rows_tables.specs.Tables.{no_schema, meta, account, job, document, grants, device}
use Rattle.rows_tables.specs.Making.{with_meta, with_account, with_job, with_documents, with_grants, schema_before, schema_with, IsBlank}
use Rattle.rows_tables.specs.Calls.{HasRun, MakesIfHonest}
use Rattle.rows_tables.specs.declared.making.FirstTable.{FirstTable}
use Rattle.rows_tables.specs.declared.making.FirstTable.TheVariants.{Meta, Account, Job, Document, Grants, Device}
use Rattle.rows_tables.proofs.MakingTexts.{meta_text, account_text, job_text, document_text, grants_text, device_text, makes_meta, makes_account, makes_job, makes_document, makes_grants, makes_device, first_schema_is}
use Rattle.rows_tables.proofs.Created.{creates}
use Rattle.rows_tables.proofs.Savepoints.{then_changed}
use Rattle.rows_tables.proofs.making.make.Goals as goal

abbrev text_of : FirstTable → List ℕ
text_of Meta = meta_text
text_of Account = account_text
text_of Job = job_text
text_of Document = document_text
text_of Grants = grants_text
text_of Device = device_text

creates_it : (table : FirstTable) (old new : State) (count : ℕ) → Executes (text_of table) [] old new (Ok count) → IsBlank (schema_before table) old.now → IsBlank (schema_with table) new.now
creates_it Meta = creates no_schema meta_text meta makes_meta
creates_it Account = creates with_meta account_text account makes_account
creates_it Job = creates with_account job_text job makes_job
creates_it Document = creates with_job document_text document makes_document
creates_it Grants = creates with_documents grants_text grants makes_grants
creates_it Device = λ old new count run blank. subst (λ s. IsBlank s new.now) first_schema_is (creates with_grants device_text device makes_device old new count run blank)

made : {S : Type 0} (store : Ghosts S) (old new : Held S) (told : Result (Unit {0}) Error) {table : FirstTable} (is : FirstTable) → table ≡ is
    → (HasCleanDisk (state store new) → OnOk told (HasRun (text_of is) [] (state store old) (state store new)))
    → MakesIfHonest store old new told (λ before after. IsBlank (schema_before table) before → IsBlank (schema_with table) after)
made store old new told is same runs =
    subst (λ table. MakesIfHonest store old new told (λ before after. IsBlank (schema_before table) before → IsBlank (schema_with table) after)) (sym same)
    (λ clean. then_changed told _ _ (λ run. creates_it is (state store old) (state store new) run.0 run.1) (runs clean))

pub returns-in-Meta-clause-made : goal.returns-in-Meta-clause-made
returns-in-Meta-clause-made g c = made g.S.Store c.args.savepoint.now.conn.now c.write.new.savepoint.conn.now c.write.result Meta c.in-Meta.is (λ clean. c.write.ensures.runs clean)

pub returns-in-Account-clause-made : goal.returns-in-Account-clause-made
returns-in-Account-clause-made g c = made g.S.Store c.args.savepoint.now.conn.now c.write-in-Account.new.savepoint.conn.now c.write-in-Account.result Account c.in-Account.is (λ clean. c.write-in-Account.ensures.runs clean)

pub returns-in-Job-clause-made : goal.returns-in-Job-clause-made
returns-in-Job-clause-made g c = made g.S.Store c.args.savepoint.now.conn.now c.write-in-Job.new.savepoint.conn.now c.write-in-Job.result Job c.in-Job.is (λ clean. c.write-in-Job.ensures.runs clean)

pub returns-in-Document-clause-made : goal.returns-in-Document-clause-made
returns-in-Document-clause-made g c = made g.S.Store c.args.savepoint.now.conn.now c.write-in-Document.new.savepoint.conn.now c.write-in-Document.result Document c.in-Document.is (λ clean. c.write-in-Document.ensures.runs clean)

pub returns-in-Grants-clause-made : goal.returns-in-Grants-clause-made
returns-in-Grants-clause-made g c = made g.S.Store c.args.savepoint.now.conn.now c.write-in-Grants.new.savepoint.conn.now c.write-in-Grants.result Grants c.in-Grants.is (λ clean. c.write-in-Grants.ensures.runs clean)

pub returns-in-Device-clause-made : goal.returns-in-Device-clause-made
returns-in-Device-clause-made g c = made g.S.Store c.args.savepoint.now.conn.now c.write-in-Device.new.savepoint.conn.now c.write-in-Device.result Device c.in-Device.is (λ clean. c.write-in-Device.ensures.runs clean)
