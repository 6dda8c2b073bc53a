-- What a service has been through, and what it answers to a call behind that.
use Rattle.std.specs.Prelude.{◌≡◌, ◌+◌, ◌++◌, ℕ, max, List, [], ◌∷◌, length}
use Rattle.pl_opening.specs.Below.pl_core.specs.State.{State}
use Rattle.pl_facts.specs.declared.entry.Entry.{Entry}
use Rattle.pl_facts.specs.declared.fact.Fact.{Fact}
use Rattle.pl_opening.specs.Below.pl_history.specs.Claims.{IsOrderly}
use Rattle.pl_opening.specs.Below.pl_history.specs.Guarded.{IsAnswered, IsGuarded}
use Rattle.pl_opening.specs.Below.pl_history.specs.History.{Opening, held_of, log_of}
use Rattle.pl_opening.specs.Below.pl_history.specs.Legal.{Legal}
use Rattle.pl_opening.specs.Below.pl_history.specs.Made.{IsMadeFor}
use Rattle.pl_journal.specs.Log.{Log, last_moment}
use Rattle.pl_keeper.specs.declared.keeper.Keeper as the_keeper
use Rattle.pl_opening.specs.Below.pl_queueing.specs.Queueing.{Made}
use Rattle.pl_requests.specs.declared.call.Call.{Call}
use Rattle.pl_requests.specs.declared.reply.Reply.{Reply}
use Rattle.pl_service.specs.declared.service.Service.{Service}
use Rattle.pl_opening.specs.Below.pl_step.specs.Step.{IsStep, stepped_with}

-- what it was opened with, and the entries since
pub record Past : Type 0 where
  pub opening : Opening
  pub entries : List Entry

abbrev pub past_at : State → Past
past_at core = record { opening = core.opening; entries = core.entries }

abbrev pub past_of : {K : Type 0} {tells : the_keeper.Ghosts K} → Service K tells → Past
past_of service = past_at service.core

abbrev pub log : Past → Log
log past = log_of past.opening past.entries

-- a call behind these entries: its moment is the later of its own and the last entry's
abbrev pub lifted : Past → Call → Call
lifted past call = record call { moment = max call.moment (last_moment (log past)) }

-- a call that adds facts is an entry, which names its seat
abbrev pub recorded : ℕ → List Entry → Call → List Fact → List Entry
recorded seat before call [] = []
recorded seat before call (fact ∷ more) =
    record { number = length before + 1; seat = seat; call = call; facts = fact ∷ more } ∷ []

-- The reply is the step's, and the call is an entry where it adds facts. So a claim is answered
-- with the job exactly where its agent may have it, and else with the first rule that it breaks;
-- each stage was started as the next one, and what is exclusive has one holder at most.
pub record Answers (seat : ℕ) (old : Past) (call : Call) (reply : Reply) (new : Past) : Type 0 where
  pub made : Made
  pub is : IsMadeFor (log old) call made
  pub added : List Fact
  pub steps :
      IsStep (held_of old.opening old.entries) (log old) call made (stepped_with reply added)
  pub opening : new.opening ≡ old.opening
  pub entries : new.entries ≡ old.entries ++ recorded seat old.entries call added
  pub guarded : IsGuarded new.opening new.entries
  pub answered :
      IsOrderly old.opening → IsAnswered old.opening old.entries call (stepped_with reply added)

-- all entries are a legal history
abbrev pub IsLegal : Past → Type 0
IsLegal past = Legal past.opening past.entries
