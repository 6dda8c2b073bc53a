use Rattle.std.proofs.Common.{ℕ, List, sym, subst}
use Rattle.pl_facts.specs.declared.fact.Event.{Event}
use Rattle.pl_facts.specs.declared.fact.Event.TheVariants as event
use Rattle.pl_facts.specs.declared.fact.Fact.{Fact}
use Rattle.pl_settling.specs.Gives.{Gives}
use Rattle.pl_settling.specs.Laws.{HasOneHolder, NextIfStart, StartsAsNext}
use Rattle.pl_settling.proofs.Adding.{holds_along, kept_along, one_settling}
use Rattle.pl_settling.proofs.Bounded.{bounded}
use Rattle.pl_settling.proofs.Counting.{once}
use Rattle.pl_settling.proofs.Occupying.{keeps_one}
use Rattle.pl_settling.proofs.Waiting.{no_gap}
use Rattle.pl_settling.proofs.laws.settling_laws.Goals as goal

next_if_start : (facts : List Fact) (moment : ℕ) (told : Event) → Gives facts moment told →
    NextIfStart facts moment told
next_if_start facts moment (event.StageStarted run stage) is = is
next_if_start facts moment (event.StageEnded run stage outcome rule) is = tt
next_if_start facts moment (event.JobEnded outcome reported stage job run rule outputs) is = tt
next_if_start facts moment (event.FilePut file) is = tt
next_if_start facts moment (event.FileRemoved key) is = tt
next_if_start facts moment (event.PipelineSet told) is = tt
next_if_start facts moment (event.ResourceSet told) is = tt
next_if_start facts moment (event.PrincipalSet told) is = tt
next_if_start facts moment (event.AgentSet told) is = tt
next_if_start facts moment (event.RunQueued told) is = tt
next_if_start facts moment (event.DecisionMade run stage approver approve) is = tt
next_if_start facts moment (event.JobTaken run stage job agent) is = tt
next_if_start facts moment (event.RunCanceled run) is = tt

pub returns-clause-next : goal.returns-clause-next
returns-clause-next c = λ moment facts added adds.
    holds_along StartsAsNext moment
    (λ before one at is. subst (λ m. NextIfStart before m one.event) (sym at)
    (next_if_start before moment one.event is)) facts added adds

pub returns-clause-one_holder : goal.returns-clause-one_holder
returns-clause-one_holder c = λ moment facts added adds holds.
    kept_along HasOneHolder moment (keeps_one moment) facts added adds holds

pub returns-clause-no_gap : goal.returns-clause-no_gap
returns-clause-no_gap c = λ moment facts none run stage gap.
    no_gap facts moment run stage gap none

pub returns-clause-once : goal.returns-clause-once
returns-clause-once c = once

pub returns-clause-bounded : goal.returns-clause-bounded
returns-clause-bounded c = λ moment facts added adds.
    bounded moment facts added (once moment facts added adds) adds

pub returns-clause-one : goal.returns-clause-one
returns-clause-one c = λ moment facts left right. one_settling
    (λ before a b. c.due_laws.ensures.one before moment a b) facts left right
