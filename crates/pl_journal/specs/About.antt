-- What a fact is about. The latest fact about a file, a stage and so on counts.
use Rattle.std.specs.Prelude.{ℕ, Bool, ◌&&◌, List, Option, Some, None}
use Rattle.pl_facts.specs.declared.fact.Event.{Event}
use Rattle.pl_facts.specs.declared.fact.Event.TheVariants as event
use Rattle.pl_facts.specs.declared.fact.Fact.{Fact}
use Rattle.pl_log.specs.Keys.{Named, File, Pipeline, Resource, Principal, Agent, Run, Stage, Job}
use Rattle.pl_log.specs.Keys.{SecondNamed, Token, Taker, Queue, names, same_key}
use Rattle.pl_log.specs.Latest.{latest}

abbrev pub key_of : Event → Named
key_of (event.FilePut file) = File file.key
key_of (event.FileRemoved key) = File key
key_of (event.PipelineSet told) = Pipeline told.name
key_of (event.ResourceSet told) = Resource told.key
key_of (event.PrincipalSet told) = Principal told.name
key_of (event.AgentSet told) = Agent told.name
key_of (event.RunQueued told) = Run told.run
key_of (event.DecisionMade run stage approver approve) = Stage run stage
key_of (event.StageStarted run stage) = Stage run stage
key_of (event.StageEnded run stage outcome rule) = Stage run stage
key_of (event.JobTaken run stage job agent) = Job run stage job
key_of (event.JobEnded outcome reported stage job run rule outputs) = Job run stage job
key_of (event.RunCanceled run) = Run run

-- a principal is found by its token too, a taken job by its agent, and the last run without its
-- number
abbrev pub second_of : Event → Option SecondNamed
second_of (event.PrincipalSet told) = Some (Token told.digest.bytes)
second_of (event.JobTaken run stage job agent) = Some (Taker agent)
second_of (event.RunQueued told) = Some Queue
second_of _ = None

abbrev pub is_about : Named → Fact → Bool
is_about key fact = same_key (key_of fact.event) key

abbrev pub is_also_about : SecondNamed → Fact → Bool
is_also_about key fact = names (second_of fact.event) key

-- the latest fact about something, and the latest of those that pass a test
abbrev pub latest_about : Named → List Fact → Option Fact
latest_about key facts = latest (is_about key) facts

abbrev pub latest_of : Named → (Event → Bool) → List Fact → Option Fact
latest_of key test facts = latest (λ fact. is_about key fact && test fact.event) facts

abbrev pub latest_also : SecondNamed → List Fact → Option Fact
latest_also key facts = latest (is_also_about key) facts
