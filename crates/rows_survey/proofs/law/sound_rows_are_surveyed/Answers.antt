use Rattle.std.proofs.Common.{None}
use Rattle.sqlite_rules.proofs.ListLemmas.{has_filtered}
use Rattle.rows_statements.proofs.QueueJobs.{has_first}
use Rattle.rows_statements.proofs.SoundReads.{sound_rows_are_read}
use Rattle.rows_statements.specs.Queues.{by_rising_number}
use Rattle.rows_statements.specs.SoundRows.{tells_unfinished}
use Rattle.rows_survey.proofs.law.sound_rows_are_surveyed.Goals as goal

pub returns : goal.returns
returns c db name month has sound =
    let read = sound_rows_are_read.accounts db name has sound in
    record {
      jobs = read.summed;
      unfinished = λ first they row there. read.queues row (has_filtered tells_unfinished _ row (has_first by_rising_number None _ first they row there)).0;
      grants = read.added month;
    }
