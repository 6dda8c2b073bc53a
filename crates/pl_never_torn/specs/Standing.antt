-- What a service's past has at first, and so ever after.
use Rattle.std.specs.Prelude.{[]}
use Rattle.pl_history.specs.Access.{IsSound}
use Rattle.pl_history.specs.Claims.{IsOrderly}
use Rattle.pl_history.specs.History.{Opening, log_of}
use Rattle.pl_never_torn.specs.Free.{AreFree}
use Rattle.pl_never_torn.specs.Holders.{HoldOne}
use Rattle.pl_never_torn.specs.Jobs.{AreJobsInTime, AreSaid}
use Rattle.pl_never_torn.specs.Legs.{HaveRoom}
use Rattle.pl_never_torn.specs.Own.{AreOwn}
use Rattle.pl_never_torn.specs.Owners.{AreApart}
use Rattle.pl_never_torn.specs.Planned.{ArePlanned}
use Rattle.pl_never_torn.specs.Rising.{NoneLater}
use Rattle.pl_never_torn.specs.Stages.{AreInTime}

-- no fact is later than the last moment, no name is reserved, no two principals have one token, an
-- exclusive resource has one holder at most and no run is above the last one, decisions are about
-- stages that are planned, stages were started and jobs taken behind the ends of what they wait
-- for, jobs ended by a report or a rule, and in stages that were started, all of them where the
-- stage has ended too, no agent holds two jobs and no more legs of a job are held than may be, and
-- runs were compiled to what their own sources compile to
pub record HasStood (opening : Opening) : Type 0 where
  pub later : NoneLater (log_of opening [])
  pub free : AreFree opening.facts
  pub apart : AreApart opening.admin opening.facts
  pub sound : IsSound opening
  pub planned : ArePlanned opening.facts
  pub in_time : AreInTime opening.facts
  pub own : AreOwn opening.facts
  pub orderly : IsOrderly opening
  pub said : AreSaid opening.facts
  pub jobs : AreJobsInTime opening.facts
  pub holds : HoldOne opening.facts
  pub room : HaveRoom opening.facts
