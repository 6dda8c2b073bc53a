-- What is true of a fact that is due.
use Rattle.std.specs.Prelude.{◌≡◌, ℕ, List, None}
use Rattle.pl_facts.specs.declared.fact.Event.{Event}
use Rattle.pl_facts.specs.declared.fact.Event.TheVariants as event
use Rattle.pl_facts.specs.declared.fact.Fact.{Fact}
use Rattle.pl_due.specs.Below.pl_journal.specs.Runs.{job_end, stage_end}
use Rattle.pl_settling.specs.Laws.{WasNext}

-- a stage that starts was the next one; a stage or a job that ends hadn't; nothing else is due
abbrev pub Gives : List Fact → ℕ → Event → Type 0
Gives facts moment (event.StageStarted run stage) = WasNext facts moment run stage
Gives facts moment (event.StageEnded run stage outcome rule) = stage_end run stage facts ≡ None
Gives facts moment (event.JobEnded outcome reported stage job run rule outputs) =
    job_end run stage job facts ≡ None
Gives facts moment _ = ⊥
