-- What was made can run, and so can what happens.
use Rattle.std.specs.Prelude.{Option, Some, None, Ok, Err}
use Rattle.pl_decisions.specs.Below.pl_due.specs.Fit.{CanRunIf}
use Rattle.pl_facts.specs.declared.fact.Event.{Event}
use Rattle.pl_journal.specs.Runs.{run_told}
use Rattle.pl_queueing.specs.Queueing.{Made}
use Rattle.pl_decisions.specs.Below.pl_results.specs.Nodes.{CanRun}

abbrev pub CanRunMade : Made → Type 0
CanRunMade None = Unit {0}
CanRunMade (Some (Err refusal)) = Unit {0}
CanRunMade (Some (Ok compiled)) = CanRun compiled.plan

-- where something happens that queues a run, the run's plan can run
abbrev pub CanHappen : Option Event → Type 0
CanHappen None = Unit {0}
CanHappen (Some event) = CanRunIf (run_told event)
