-- That each entry of a history begins with what was due, and leaves no gap there.
use Rattle.std.specs.Prelude.{◌≡◌, ◌++◌, ℕ, List, [], ◌∷◌, Option}
use Rattle.pl_facts.specs.declared.entry.Entry.{Entry}
use Rattle.pl_facts.specs.declared.fact.Event.{Event}
use Rattle.pl_facts.specs.declared.fact.Fact.{Fact}
use Rattle.pl_requests.specs.declared.call.Call.{Call}
use Rattle.pl_granting_laws.specs.Below.pl_settling.specs.Laws.{Gap}
use Rattle.pl_granting_laws.specs.Below.pl_settling.specs.Settles.{Settles}
use Rattle.pl_step.specs.Step.{happened}

-- These facts are all that was due, and then what happens by the call, which is one thing at most.
-- Behind what was due, something keeps each stage waiting that is neither started nor ended: a
-- stage, a permission, an open approval or closed hours, a holder, or an earlier stage.
pub record IsSettled (facts : List Fact) (call : Call) (added : List Fact) : Type 0 where
  pub due : List Fact
  pub settles : Settles call.moment facts due
  pub told : Option Event
  pub are : added ≡ due ++ happened call.moment told
  pub no_gap : (run stage : ℕ) → ¬ Gap (facts ++ due) call.moment run stage

abbrev pub EachSettles : List Fact → List Entry → Type 0
EachSettles facts [] = Unit {0}
EachSettles facts (entry ∷ entries) = IsSettled facts entry.call entry.facts
    × EachSettles (facts ++ entry.facts) entries
