use Rattle.rows_tables.proofs.schema.is_job_table.Goals as goal

pub returns : goal.returns
returns c = rw (c.text.ensures, c.integer.ensures, c.blob.ensures, c.blob-2.ensures, c.integer-2.ensures, c.integer-3.ensures, c.integer-4.ensures, c.integer-5.ensures, c.integer-6.ensures, c.integer-7.ensures, c.integer-8.ensures, c.integer-9.ensures, c.integer-10.ensures, c.text-2.ensures, c.integer-11.ensures, c.integer-12.ensures, c.integer-13.ensures) at c.is_keyed.ensures
