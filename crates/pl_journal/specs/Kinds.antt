-- Kinds of facts.
use Rattle.std.specs.Prelude.{ℕ, Bool, true, false, List}
use Rattle.std.specs.Ordering.{is_eq}
use Rattle.pl_base.specs.Files.{text_cmp}
use Rattle.pl_facts.specs.declared.fact.Event.{Event}
use Rattle.pl_facts.specs.declared.fact.Event.TheVariants as event
use Rattle.pl_journal.specs.declared.kinds.What.{What}
use Rattle.pl_journal.specs.declared.kinds.What.TheVariants as what

abbrev pub is_file_change : Event → Bool
is_file_change (event.FilePut file) = true
is_file_change (event.FileRemoved key) = true
is_file_change _ = false

abbrev pub is_queueing : Event → Bool
is_queueing (event.RunQueued told) = true
is_queueing _ = false

abbrev pub is_canceling : Event → Bool
is_canceling (event.RunCanceled run) = true
is_canceling _ = false

abbrev pub is_start : Event → Bool
is_start (event.StageStarted run stage) = true
is_start _ = false

abbrev pub is_stage_end : Event → Bool
is_stage_end (event.StageEnded run stage outcome rule) = true
is_stage_end _ = false

abbrev pub is_decision_by : List ℕ → Event → Bool
is_decision_by name (event.DecisionMade run stage approver approve) = is_eq (text_cmp approver name)
is_decision_by name _ = false

abbrev pub is_taking : Event → Bool
is_taking (event.JobTaken run stage job agent) = true
is_taking _ = false

abbrev pub is_job_end : Event → Bool
is_job_end (event.JobEnded outcome reported stage job run rule outputs) = true
is_job_end _ = false

-- whether it is a fact of that kind
abbrev pub is_of : What → Event → Bool
is_of what.Queueing fact = is_queueing fact
is_of what.Canceling fact = is_canceling fact
is_of what.Start fact = is_start fact
is_of what.StageEnd fact = is_stage_end fact
is_of (what.DecisionBy name) fact = is_decision_by name.now fact
is_of what.Taking fact = is_taking fact
is_of what.JobEnd fact = is_job_end fact
