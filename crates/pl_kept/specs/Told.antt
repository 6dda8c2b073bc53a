-- What a fact tells of a row.
use Rattle.std.specs.Prelude.{ℕ, List, map, Option, Some, None}
use Rattle.std.specs.Option.{option_and_then, option_map}
use Rattle.pl_base.specs.declared.place.FileKey.{FileKey}
use Rattle.pl_facts.specs.declared.fact.Event.{Event}
use Rattle.pl_facts.specs.declared.fact.Event.TheVariants as event
use Rattle.pl_facts.specs.declared.fact.Fact.{Fact}
use Rattle.pl_keeper.specs.declared.records.JobEnd.{JobEnd}
use Rattle.pl_keeper.specs.declared.records.KeptFile.{KeptFile}
use Rattle.pl_keeper.specs.declared.records.StageEnd.{StageEnd}
use Rattle.pl_keeper.specs.declared.records.Taking.{Taking}

-- when it was
abbrev pub moment_of : Fact → ℕ
moment_of fact = fact.moment

-- how a stage ended
abbrev pub stage_end_at : ℕ → Event → Option StageEnd
stage_end_at moment (event.StageEnded run stage outcome rule) = Some (record {
  moment = moment;
  outcome = outcome;
  rule = rule;
})
stage_end_at moment _ = None

abbrev pub stage_end_told : Option Fact → Option StageEnd
stage_end_told fact = option_and_then (λ one. stage_end_at one.moment one.event) fact

-- who took a job
abbrev pub taking_at : ℕ → Event → Option Taking
taking_at moment (event.JobTaken run stage job agent) = Some (record {
  agent = agent;
  moment = moment;
})
taking_at moment _ = None

abbrev pub taking_told : Option Fact → Option Taking
taking_told fact = option_and_then (λ one. taking_at one.moment one.event) fact

-- how a job ended
abbrev pub job_end_at : ℕ → Event → Option JobEnd
job_end_at moment (event.JobEnded outcome reported stage job run rule outputs) = Some (record {
  moment = moment;
  outcome = outcome;
  rule = rule;
  reported = reported;
  outputs = outputs;
})
job_end_at moment _ = None

abbrev pub job_end_told : Option Fact → Option JobEnd
job_end_told fact = option_and_then (λ one. job_end_at one.moment one.event) fact

-- a file that a run was compiled from, and its text
abbrev pub used_file : FileKey × List ℕ → KeptFile
used_file pair = record { key = pair.0; text = pair.1 }
