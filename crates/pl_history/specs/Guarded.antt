-- What every legal history makes sure of, and every answer behind one.
use Rattle.std.specs.Prelude.{◌++◌, List}
use Rattle.pl_facts.specs.declared.entry.Entry.{Entry}
use Rattle.pl_facts.specs.declared.fact.Fact.{Fact}
use Rattle.pl_history.specs.Access.{HoldAlone, IsSound, StartAsNext}
use Rattle.pl_history.specs.Claims.{IsAnsweredExactly, IsClaim, IsFull, IsQuestion, IsToldExactly}
use Rattle.pl_history.specs.History.{Opening, log_of}
use Rattle.pl_history.specs.Settled.{EachSettles}
use Rattle.pl_requests.specs.declared.call.Call.{Call}
use Rattle.pl_requests.specs.declared.request.JobName.{JobName}
use Rattle.pl_requests.specs.declared.settings.AgentSetting.{AgentSetting}
use Rattle.pl_step.specs.declared.stepped.Stepped.{Stepped}

-- Each stage that an entry starts was the next one; an exclusive resource has one holder at most,
-- where the opening is sound; each entry begins with all that was due, and leaves no gap there.
pub record IsGuarded (opening : Opening) (entries : List Entry) : Type 0 where
  pub next : StartAsNext opening entries
  pub one_holder : IsSound opening → HoldAlone opening entries
  pub no_gap : EachSettles opening.facts entries

-- Behind these entries, where the journal isn't full: a claim is answered with the job exactly
-- where the agent may have it, and else refused by the first rule that it breaks; and who asks why
-- is told that rule.
pub record IsAnswered (opening : Opening) (entries : List Entry) (call : Call)
    (stepped : Stepped) : Type 0 where
  pub claims : (name : JobName) (who : AgentSetting) (due : List Fact) →
      IsClaim (log_of opening entries) call name who due → ¬ IsFull stepped →
      IsAnsweredExactly ((log_of opening entries).facts ++ due) call.moment name who due stepped
  pub why : (name : JobName) (who : AgentSetting) (due : List Fact) →
      IsQuestion (log_of opening entries) call name who due → ¬ IsFull stepped →
      IsToldExactly ((log_of opening entries).facts ++ due) call.moment name who due stepped
