-- Which histories of a service are legal: each entry is what the step makes of its call.
use Rattle.std.specs.Prelude.{◌≡◌, ◌≤◌, ◌+◌, ◌++◌, true, List, [], ◌∷◌, length}
use Rattle.pl_facts.specs.declared.entry.Entry.{Entry}
use Rattle.pl_history.specs.Made.{IsMadeFor}
use Rattle.pl_history.specs.History.{Opening, held_of, log_of}
use Rattle.pl_journal.specs.Log.{last_moment}
use Rattle.pl_step.specs.Below.pl_queueing.specs.Queueing.{Made}
use Rattle.pl_requests.specs.WellFormed.{is_well_formed}
use Rattle.pl_requests.specs.declared.reply.Reply.{Reply}
use Rattle.pl_step.specs.Step.{IsStep, stepped_with}

-- an entry that comes behind these: it has the next number, its call is well-formed and no earlier
-- than what happened before, and its facts, of which there is one, are what the call adds
pub record Follows (opening : Opening) (before : List Entry) (entry : Entry) : Type 0 where
  pub number : entry.number ≡ length before + 1
  pub well_formed : is_well_formed entry.call ≡ true
  pub later : last_moment (log_of opening before) ≤ entry.call.moment
  pub adds : ¬ (entry.facts ≡ [])
  pub made : Made
  pub is : IsMadeFor (log_of opening before) entry.call made
  pub reply : Reply
  pub steps :
      IsStep (held_of opening before) (log_of opening before) entry.call made
      (stepped_with reply entry.facts)

-- behind these entries, one after the other
abbrev pub LegalFrom : Opening → List Entry → List Entry → Type 0
LegalFrom opening before [] = Unit {0}
LegalFrom opening before (entry ∷ entries) =
    Follows opening before entry × LegalFrom opening (before ++ entry ∷ []) entries

abbrev pub Legal : Opening → List Entry → Type 0
Legal opening entries = LegalFrom opening [] entries
