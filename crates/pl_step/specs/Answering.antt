-- What a request is answered on settled facts, a case a request.
use Rattle.std.specs.Prelude.{◌≡◌, ℕ, List, codes}
use Rattle.pl_answers.specs.Answers.{empty_object, without_fact}
use Rattle.pl_answers.specs.declared.answer.Answer.{Answer}
use Rattle.pl_decisions.specs.Decisions.{decide}
use Rattle.pl_jobs.specs.Granting.{Asks, Claims, Draws}
use Rattle.pl_jobs.specs.Reports.{report}
use Rattle.pl_journal.specs.Log.{Log}
use Rattle.pl_queueing.specs.Queueing.{Made, queue}
use Rattle.pl_requests.specs.declared.request.Request.{Request}
use Rattle.pl_requests.specs.declared.request.Request.TheVariants as request
use Rattle.pl_runs.specs.Runs.{cancel, read_run}
use Rattle.pl_settings.specs.Files.{get_file, put_file, remove_file}
use Rattle.pl_settings.specs.Settings.{set_agent, set_pipeline, set_principal, set_resource}

-- by whom, at which moment, and to what it was compiled where it queues a run
abbrev pub Answers : Log → ℕ → List ℕ → Made → Request → Answer → Type 0
Answers log moment who made (request.PutFile file) answer = answer ≡ put_file log file
Answers log moment who made (request.RemoveFile key) answer = answer ≡ remove_file log key
Answers log moment who made (request.GetFile key) answer = answer ≡ get_file log.facts key
Answers log moment who made (request.SetPipeline told) answer = answer ≡ set_pipeline told
Answers log moment who made (request.SetResource told) answer = answer ≡ set_resource log told
Answers log moment who made (request.SetPrincipal told) answer = answer ≡ set_principal log told
Answers log moment who made (request.SetAgent told) answer = answer ≡ set_agent told
Answers log moment who made (request.QueueText text) answer =
    answer ≡ queue log (codes "text") who made
Answers log moment who made (request.Queue order) answer =
    answer ≡ queue log order.pipeline who made
Answers log moment who made (request.ReadRun run) answer = answer ≡ read_run log.facts run
Answers log moment who made (request.Cancel run) answer = answer ≡ cancel log.facts run
Answers log moment who made (request.Decide run stage approve) answer =
    answer ≡ decide log.facts who run stage approve
Answers log moment who made request.Draw answer = Draws log.facts who answer
Answers log moment who made (request.Claim job) answer = Claims log.facts moment who job answer
Answers log moment who made (request.Why job named) answer = Asks log.facts moment named job answer
Answers log moment who made (request.Report job told) answer =
    answer ≡ report log.facts who job told
Answers log moment who made request.Shutdown answer = answer ≡ without_fact empty_object
