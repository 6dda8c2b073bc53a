-- Which calls are well-formed: what parts of paths and bodies of requests may be.
use Rattle.std.specs.Prelude.{ℕ, nat_le, Bool, true, false, not, ◌&&◌, List, map}
use Rattle.std.specs.List.{list_all}
use Rattle.pl_base.specs.declared.expanded.Argument.{Argument}
use Rattle.pl_base.specs.declared.outcome.Outcome.{Outcome}
use Rattle.pl_base.specs.declared.outcome.Outcome.TheVariants.{Skipped}
use Rattle.pl_digests.specs.Digests.{is_of_nothing}
use Rattle.pl_json.specs.Members.{is_in_order}
use Rattle.pl_limits.specs.Limits.{are_capabilities, are_outputs, is_check, is_file_text, is_run}
use Rattle.pl_limits.specs.Limits.{may_be_granted}
use Rattle.pl_names.specs.Names.{is_key, is_label, is_name, is_path, is_ref, is_repository}
use Rattle.pl_requests.specs.declared.call.Call.{Call}
use Rattle.pl_requests.specs.declared.request.JobName.{JobName}
use Rattle.pl_requests.specs.declared.request.Order.{Order}
use Rattle.pl_requests.specs.declared.request.Report.{Report as JobReport}
use Rattle.pl_requests.specs.declared.request.Request.{Request}
use Rattle.pl_requests.specs.declared.request.Request.TheVariants.{PutFile, RemoveFile, GetFile}
use Rattle.pl_requests.specs.declared.request.Request.TheVariants.{SetPipeline, SetResource}
use Rattle.pl_requests.specs.declared.request.Request.TheVariants.{SetPrincipal, SetAgent}
use Rattle.pl_requests.specs.declared.request.Request.TheVariants.{QueueText, Queue, ReadRun}
use Rattle.pl_requests.specs.declared.request.Request.TheVariants.{Cancel, Decide, Draw, Claim, Why}
use Rattle.pl_requests.specs.declared.request.Request.TheVariants.{Report, Shutdown}

-- a run by its number, a stage by its name, and a job by its label
abbrev pub is_job_name : JobName → Bool
is_job_name told = is_run told.run && (is_name told.stage && is_label told.job)

-- texts for parameters by their names, each once and in byte order, as a JSON object has them
abbrev pub are_arguments : List Argument → Bool
are_arguments told = list_all (λ one. is_name one.name) told &&
    is_in_order (map (λ one. one.name) told)

abbrev pub is_order : Order → Bool
is_order told = is_name told.pipeline && (is_ref told.git_ref && are_arguments told.arguments)

abbrev pub is_skipped : Outcome → Bool
is_skipped Skipped = true
is_skipped _ = false

-- no report says Skipped; the outputs stand by their keys, each once and in byte order
abbrev pub is_report : JobReport → Bool
is_report told = not (is_skipped told.outcome) && (are_outputs told.outputs &&
    is_in_order (map (λ one. one.0) told.outputs))

abbrev pub is_request : Request → Bool
is_request (PutFile file) = is_key file.key && is_file_text file.text
is_request (RemoveFile key) = is_key key
is_request (GetFile key) = is_key key
is_request (SetPipeline told) =
    is_name told.name && (is_repository told.repo && is_path told.path)
is_request (SetResource told) = is_name told.key.name && (may_be_granted told.pipelines &&
    list_all is_check told.checks)
is_request (SetPrincipal told) = is_name told.name && not (is_of_nothing told.digest)
is_request (SetAgent told) = is_name told.name && (is_name told.pool &&
    are_capabilities told.capabilities)
is_request (QueueText text) = is_file_text text
is_request (Queue order) = is_order order
is_request (ReadRun run) = is_run run
is_request (Cancel run) = is_run run
is_request (Decide run stage approve) = is_run run && is_name stage
is_request Draw = true
is_request (Claim job) = is_job_name job
is_request (Why job agent) = is_job_name job && is_name agent
is_request (Report job report) = is_job_name job && is_report report
is_request Shutdown = true

-- a clock tells no moment after 2099-12-31T23:59:59Z
abbrev pub is_well_formed : Call → Bool
is_well_formed call = nat_le call.moment 4102444799 && is_request call.request
