-- How the open runs are kept.
use Rattle.std.specs.Prelude.{◌≡◌, ℕ, ◌<◌, ◌≤◌, ◌^◌, ◌==◌, Bool, true, List, All, AllPairs, length}
use Rattle.std.specs.Prelude.{take, Option, None, Some}
use Rattle.std.specs.List.{list_any}
use Rattle.pl_facts.specs.declared.fact.Event.{Event}
use Rattle.pl_facts.specs.declared.fact.Event.TheVariants as event
use Rattle.pl_facts.specs.declared.fact.Fact.{Fact}
use Rattle.pl_facts.specs.declared.fact.QueuedRun.{QueuedRun}
use Rattle.pl_journal.specs.Log.{Log}
use Rattle.pl_journal.specs.Runs.{run_told}
use Rattle.pl_open_runs.specs.Open.{is_open, open_runs}

-- the run of which a stage ended
abbrev pub ended_told : Event → Option ℕ
ended_told (event.StageEnded run stage outcome rule) = Some run
ended_told _ = None

-- the places of a run's stages are numbers of 32 bits
abbrev pub HasFewStages : Fact → Type 0
HasFewStages fact = (queued : QueuedRun) → run_told fact.event ≡ Some queued →
    length queued.compiled.plan.stages < 2 ^ 32

abbrev pub has : List ℕ → ℕ → Bool
has numbers number = list_any (λ one. one == number) numbers

-- each number is less than those behind it
abbrev pub Ascends : List ℕ → Type 0
Ascends numbers = AllPairs (λ one later. one < later) numbers

-- all runs that are open are among these
abbrev pub Covers : List ℕ → List Fact → Type 0
Covers known facts = (run : ℕ) → is_open run facts ≡ true → has known run ≡ true

-- The open runs are kept, and beside them known ones in order, among which are all that are open
-- and all that were when the last fact was installed.
pub record IsIndex (journal : Log) (known runs : List ℕ) : Type 0 where
  pub few : All HasFewStages journal.facts
  pub within : journal.installed ≤ length journal.facts
  pub runs_are : runs ≡ open_runs journal.facts
  pub ascends : Ascends known
  pub covers : Covers known journal.facts
  pub covers_installed : Covers known (take journal.installed journal.facts)
