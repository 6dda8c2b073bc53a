-- The numbers of the latest items about keys.
use Rattle.std.specs.Prelude.{ℕ, Bool, true, ◌==◌}
use Rattle.pl_base.specs.Files.{file_cmp, text_cmp}
use Rattle.pl_log.specs.Keys.{Named, File, Pipeline, Resource, Principal, Agent, Run, Stage, Job}
use Rattle.pl_log.specs.Keys.{SecondNamed, Token, Taker, Queue, resource_cmp}
use Rattle.pl_log.specs.Tables.{row, has_row, place, has_place, same_stage, same_job}
use Rattle.pl_log.specs.declared.rows.Rows.{Rows}
use Rattle.pl_log.specs.declared.second_rows.SecondRows.{SecondRows}

abbrev pub number_at : Rows → Named → ℕ
number_at rows (File key) = row file_cmp rows.files.rows key
number_at rows (Pipeline name) = row text_cmp rows.pipelines.rows name
number_at rows (Resource key) = row resource_cmp rows.resources.rows key
number_at rows (Principal name) = row text_cmp rows.principals.rows name
number_at rows (Agent name) = row text_cmp rows.agents.rows name
number_at rows (Run run) = place (◌==◌) rows.runs.rows run
number_at rows (Stage run stage) = place same_stage rows.stages.rows (run, stage)
number_at rows (Job run stage job) = place same_job rows.jobs.rows (run, stage, job)

-- whether a key's number can change without memory
abbrev pub has_row_at : Rows → Named → Bool
has_row_at rows (File key) = has_row file_cmp rows.files.rows key
has_row_at rows (Pipeline name) = has_row text_cmp rows.pipelines.rows name
has_row_at rows (Resource key) = has_row resource_cmp rows.resources.rows key
has_row_at rows (Principal name) = has_row text_cmp rows.principals.rows name
has_row_at rows (Agent name) = has_row text_cmp rows.agents.rows name
has_row_at rows (Run run) = has_place (◌==◌) rows.runs.rows run
has_row_at rows (Stage run stage) = has_place same_stage rows.stages.rows (run, stage)
has_row_at rows (Job run stage job) = has_place same_job rows.jobs.rows (run, stage, job)

abbrev pub second_number_at : SecondRows → SecondNamed → ℕ
second_number_at rows (Token digest) = row text_cmp rows.tokens.rows digest
second_number_at rows (Taker name) = row text_cmp rows.takers.rows name
second_number_at rows Queue = rows.queue

abbrev pub has_second_row_at : SecondRows → SecondNamed → Bool
has_second_row_at rows (Token digest) = has_row text_cmp rows.tokens.rows digest
has_second_row_at rows (Taker name) = has_row text_cmp rows.takers.rows name
has_second_row_at rows Queue = true
