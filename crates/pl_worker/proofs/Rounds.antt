-- Workers between two rounds: before the first one, and where each found the door closed.
use Rattle.std.proofs.Common.{◌≡◌, ℕ, Bool, true, false, Option, None, refl, sym, ◌∙◌, ap}
use Rattle.pl_base.specs.Counts.{one_more}
use Rattle.pl_listener.specs.Handles.{Handle, TakesAsOpen}
use Rattle.pl_sessions.specs.declared.answer.Answer.{Answer}
use Rattle.pl_wire.specs.declared.message.Message.{Message}
use Rattle.pl_worker.specs.Crew.{AreIn, CrewWorks, stand_of}
use Rattle.pl_worker.specs.Ends.{was_stopped}
use Rattle.pl_worker.specs.Works.{ClosesDoor, CountsFault, ServesAll, Stand, Works}
use Rattle.pl_worker.specs.declared.post.Crew.{Crew}
use Rattle.pl_worker.specs.declared.why.Reasons.{Reasons}
use Rattle.pl_worker.specs.declared.why.Why.{Why}
use Rattle.pl_worker.specs.declared.why.Why.TheVariants as why
use Rattle.pl_worker.proofs.Chains.{serves_none, serves_then}
use Rattle.pl_worker.proofs.Ending.{AllClosed}

clash : (b : Bool) → b ≡ true → b ≡ false → ⊥
clash b is not = cc (sym is ∙ not)

faults_then : (reason : Why) (old mid new : ℕ) → mid ≡ old → CountsFault reason mid new
    → CountsFault reason old new
faults_then why.Stopped old mid new is more = more ∙ is
faults_then why.Closed old mid new is more = more ∙ is
faults_then why.Failed old mid new is more = more ∙ ap one_more is
faults_then why.Memory old mid new is more = more ∙ is

-- links were served, none of which was stopped; a door that the handle takes as open it took so
-- before
pub record Between {D : Type 0} (act : D → ℕ → Message → Answer → D → Type 0) (old new : Stand D)
    : Type 0 where
  pub serves : ServesAll act old false new
  pub faults : new.handle.faults ≡ old.handle.faults
  pub closed : new.handle.closed ≡ old.handle.closed
  pub found : new.handle.found_closed ≡ false → old.handle.found_closed ≡ false

module _ {D : Type 0} (act : D → ℕ → Message → Answer → D → Type 0) where
  between_none : (old : Stand D) → old.handle.out ≡ None → Between act old old
  between_none old out = record {
    serves = serves_none act old out;
    faults = refl;
    closed = refl;
    found = λ none. none;
  }

  -- a worker that found the door closed, and is started again
  between_more : (old mid new : Stand D) (reason : Why) → reason ≡ why.Closed
      → Between act old mid → Works act mid reason new → Between act old new
  between_more old mid new why.Stopped is first more = absurd (cc is)
  between_more old mid new why.Failed is first more = absurd (cc is)
  between_more old mid new why.Memory is first more = absurd (cc is)
  between_more old mid new why.Closed is first more = record {
    serves = serves_then act old mid new false first.serves more.serves;
    faults = more.faults ∙ first.faults;
    closed = more.closed.0 ∙ first.closed;
    found = λ none. absurd (clash new.handle.found_closed more.closed.1 none);
  }

  opened : (old mid : Stand D) → Between act old mid → TakesAsOpen mid.handle
      → TakesAsOpen old.handle
  opened old mid first takes = (sym first.closed ∙ takes.0, first.found takes.1)

  closed_then : (reason : Why) (old mid new : Stand D) → Between act old mid
      → ClosesDoor reason mid.handle new.handle → ClosesDoor reason old.handle new.handle
  closed_then why.Stopped old mid new first more = (opened old mid first more.0, more.1, more.2)
  closed_then why.Closed old mid new first more = (more.0 ∙ first.closed, more.1)
  closed_then why.Failed old mid new first more = (opened old mid first more.0, more.1, more.2)
  closed_then why.Memory old mid new first more = (opened old mid first more.0, more.1, more.2)

  -- a worker's last round
  works_then : (old mid new : Stand D) (reason : Why) → Between act old mid
      → Works act mid reason new → Works act old reason new
  works_then old mid new reason first more = record {
    serves = serves_then act old mid new (was_stopped reason) first.serves more.serves;
    faults =
        faults_then reason old.handle.faults mid.handle.faults new.handle.faults first.faults
        more.faults;
    closed = closed_then reason old mid new first more.closed;
  }

module _ {D L C : Type 0} (coming : C → Option (ℕ → ℕ)) (tells : L → Handle)
    (act : D → ℕ → Message → Answer → D → Type 0) where
  -- each of the four
  pub record CrewBetween (old new : Crew D L C) : Type 0 where
    pub first : Between act (stand_of coming tells old.first) (stand_of coming tells new.first)
    pub second : Between act (stand_of coming tells old.second) (stand_of coming tells new.second)
    pub third : Between act (stand_of coming tells old.third) (stand_of coming tells new.third)
    pub fourth : Between act (stand_of coming tells old.fourth) (stand_of coming tells new.fourth)

  pub before_all : (crew : Crew D L C) → AreIn coming tells crew → CrewBetween crew crew
  before_all crew are = record {
    first = between_none act (stand_of coming tells crew.first) are.first;
    second = between_none act (stand_of coming tells crew.second) are.second;
    third = between_none act (stand_of coming tells crew.third) are.third;
    fourth = between_none act (stand_of coming tells crew.fourth) are.fourth;
  }

  module _ (old mid new : Crew D L C) (reasons : Reasons) (first : CrewBetween old mid)
      (works : CrewWorks coming tells act mid reasons new) where
    pub one_more_round : AllClosed reasons → CrewBetween old new
    one_more_round closed = record {
      first = between_more act _ _ _ reasons.first closed.first first.first works.first;
      second = between_more act _ _ _ reasons.second closed.second first.second works.second;
      third = between_more act _ _ _ reasons.third closed.third first.third works.third;
      fourth = between_more act _ _ _ reasons.fourth closed.fourth first.fourth works.fourth;
    }

    pub last_round : CrewWorks coming tells act old reasons new
    last_round = record {
      first = works_then act _ _ _ reasons.first first.first works.first;
      second = works_then act _ _ _ reasons.second first.second works.second;
      third = works_then act _ _ _ reasons.third first.third works.third;
      fourth = works_then act _ _ _ reasons.fourth first.fourth works.fourth;
    }
