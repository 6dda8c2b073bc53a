-- What four workers did.
use Rattle.std.specs.Prelude.{◌≡◌, ℕ, Option, None}
use Rattle.pl_listener.specs.Handles.{Handle}
use Rattle.pl_sessions.specs.declared.answer.Answer.{Answer}
use Rattle.pl_wire.specs.declared.message.Message.{Message}
use Rattle.pl_worker.specs.Works.{Stand, Works, stand}
use Rattle.pl_worker.specs.declared.crew.Worked.{Worked}
use Rattle.pl_worker.specs.declared.post.Crew.{Crew}
use Rattle.pl_worker.specs.declared.post.Post.{Post}
use Rattle.pl_worker.specs.declared.why.Reasons.{Reasons}

module _ {D L C : Type 0} (coming : C → Option (ℕ → ℕ)) (tells : L → Handle) where
  -- where the worker at a post stands
  abbrev pub stand_of : Post D L C → Stand D
  stand_of post = stand post.desk (coming post.clock) (tells post.door)

  -- no link is out
  abbrev pub IsIn : Post D L C → Type 0
  IsIn post = (tells post.door).out ≡ None

  -- at none of the posts
  pub record AreIn (crew : Crew D L C) : Type 0 where
    pub first : IsIn crew.first
    pub second : IsIn crew.second
    pub third : IsIn crew.third
    pub fourth : IsIn crew.fourth

  -- a worker that began at this post served its links, and left the post so, for its reason
  abbrev pub HasWorked : (D → ℕ → Message → Answer → D → Type 0) → Post D L C → Worked D L C
      → Type 0
  HasWorked act old left = Works act (stand_of old) left.reason (stand_of left.post)

  -- each of the four served its links at its own post, and ended for its own reason
  pub record CrewWorks (act : D → ℕ → Message → Answer → D → Type 0) (old : Crew D L C)
      (reasons : Reasons) (new : Crew D L C) : Type 0 where
    pub first : Works act (stand_of old.first) reasons.first (stand_of new.first)
    pub second : Works act (stand_of old.second) reasons.second (stand_of new.second)
    pub third : Works act (stand_of old.third) reasons.third (stand_of new.third)
    pub fourth : Works act (stand_of old.fourth) reasons.fourth (stand_of new.fourth)
