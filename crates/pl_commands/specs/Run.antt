-- What a run of the program does, by its words and by what it has of the outside.
use Rattle.std.specs.Prelude.{◌≡◌, ◌⊎◌, ℕ, List, Option, Some, None, codes}
use Rattle.pl_base.specs.Counts.{one_more}
use Rattle.pl_base.specs.declared.expanded.Argument.{Argument}
use Rattle.pl_commands.specs.People.{told_of}
use Rattle.pl_listener.specs.Handles.{Handle}
use Rattle.pl_offline.specs.Running.{Runs as RunsOffline}
use Rattle.pl_offline.specs.declared.ending.Ending.{Ending}
use Rattle.pl_offline.specs.declared.ending.Ending.TheVariants as ending
use Rattle.pl_outfit.specs.Outside.{Outside}
use Rattle.pl_outfit.specs.declared.status.Status.{Status}
use Rattle.pl_outfit.specs.declared.status.Status.TheVariants as status
use Rattle.pl_rehearse.specs.Rehearse.{Rehearsed}
use Rattle.pl_replaying.specs.Replaying.{Replays}
use Rattle.pl_serving.specs.Serving.{Serves}
use Rattle.pl_sessions.specs.Told.{Told, Writes, Begun, IsAtEnd}
use Rattle.pl_streams.specs.Whole.{Inflow, Outflow}
use Rattle.pl_words.specs.declared.command.Command.{Command}
use Rattle.pl_words.specs.declared.command.Command.TheVariants.{Compile, Rehearse, Replay, Serve}

-- ---- words that are no command

-- the line that is written then
abbrev pub usage_line : List ℕ
usage_line = codes "usage: pipectl replay, serve, compile or rehearse\n"

-- nothing was read, and the line was written, or its beginning where a write failed
pub record ShowsUsage (old : Outside) (ends : Status) (new : Outside) : Type 0 where
  pub ending_is : ends ≡ status.Usage
  pub shows :
      Writes usage_line old.link new.link
      ⊎ Begun usage_line (one_more old.link.write_faults) old.link new.link
  pub is : new ≡ record old { link = new.link }

-- ---- `compile`

-- a link's source and its sink
abbrev pub inflow_of : Told → Inflow
inflow_of link =
    record { left = link.left; ended = link.ended; faults = link.read_faults }

abbrev pub outflow_of : Told → Outflow
outflow_of link = record { held = link.held; faults = link.write_faults }

-- the status of a compilation, by how it ended
abbrev pub compile_status : Ending → Status
compile_status ending.Compiled = status.Finished
compile_status ending.Refused = status.Refused
compile_status ending.NotBundle = status.NotWhole
compile_status ending.ReadFault = status.ReadFault
compile_status ending.Spent = status.Spent
compile_status ending.WriteFault = status.WriteFault
compile_status (ending.Memory passed) = status.Memory

-- the bundle of the source, compiled onto the sink, with the line for people, where one is told
pub record Compiles (arguments : List Argument) (old : Outside) (ends : Status) (new : Outside)
    : Type 0 where
  pub ended : Ending
  pub ending_is : ends ≡ compile_status ended
  pub is : new ≡ record old { link = new.link; people = told_of ended old.people }
  pub runs :
      RunsOffline arguments ended (inflow_of old.link) (inflow_of new.link) (outflow_of old.link)
      (outflow_of new.link)

-- ---- the run of a command, or of words that are none

-- memory was wanting for what the words hold, and nothing was asked for
abbrev pub LacksMemory : Outside → Status → Outside → Type 0
LacksMemory old ends new = (ends ≡ status.Memory) × (new ≡ old)

module _ {L C : Type 0} (coming : C → Option (ℕ → ℕ)) (tells : L → Handle) where
  abbrev pub Runs : Option Command → Outside → Status → Outside → Type 0
  Runs (Some (Replay admin path)) old ends new =
      LacksMemory old ends new ⊎ Replays admin path old ends new
  Runs (Some (Serve admin address path)) old ends new =
      LacksMemory old ends new ⊎ Serves coming tells admin address path old ends new
  Runs (Some (Compile arguments)) old ends new =
      LacksMemory old ends new ⊎ Compiles arguments old ends new
  Runs (Some (Rehearse runs)) old ends new =
      LacksMemory old ends new ⊎ Rehearsed runs old ends new
  Runs None old ends new = ShowsUsage old ends new

-- with 0 a source that is read was read to its end: `serve` and `rehearse` read none
abbrev pub ReadsToItsEnd : Option Command → Status → Told → Type 0
ReadsToItsEnd (Some (Serve admin address path)) ends link = Unit {0}
ReadsToItsEnd (Some (Rehearse runs)) ends link = Unit {0}
ReadsToItsEnd other ends link = ends ≡ status.Finished → IsAtEnd link
