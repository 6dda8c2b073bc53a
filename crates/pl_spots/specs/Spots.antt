-- A place as the code has it.
use Rattle.pl_kept.specs.Kept.{Where, File, Pipeline, Resource, Principal, Agent, Run, Stage, Job}
use Rattle.pl_kept.specs.Kept.{Decision}
use Rattle.pl_spots.specs.declared.spots.Spot.{Spot}
use Rattle.pl_spots.specs.declared.spots.Spot.TheVariants as spot

abbrev pub seen : Spot → Where
seen (spot.File key) = File key.now
seen (spot.Pipeline name) = Pipeline name.now
seen (spot.Resource key) = Resource key.now
seen (spot.Principal name) = Principal name.now
seen (spot.Agent name) = Agent name.now
seen (spot.Run run) = Run run
seen (spot.Stage run stage) = Stage run stage
seen (spot.Job run stage job) = Job run stage job
seen (spot.Decision run stage approver) = Decision run stage approver.now
