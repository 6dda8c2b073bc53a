-- A rehearsal: the generated input is asked, and then a job is drawn and reported, one after the
-- other, until a draw gives none.
use Rattle.std.specs.Prelude.{◌≡◌, ◌++◌, ℕ, List, [], ◌∷◌, Some, flat_map}
use Rattle.std.specs.List.{AllByRecursion}
use Rattle.pl_base.specs.declared.digest.Digest.{Digest}
use Rattle.pl_base.specs.declared.outcome.Outcome.TheVariants.{Succeeded}
use Rattle.pl_generated.specs.Input.{input}
use Rattle.pl_rehearsing.specs.Asking.{Asked, asked, requests_of, turns_from}
use Rattle.pl_rehearsing.specs.Drawn.{job_in}
use Rattle.pl_requests.specs.declared.reply.Reply.{Reply as Replied}
use Rattle.pl_requests.specs.declared.request.JobName.{JobName}
use Rattle.pl_requests.specs.declared.request.Request.{Request}
use Rattle.pl_requests.specs.declared.request.Request.TheVariants.{Draw, Report}
use Rattle.pl_sessions.specs.Acts.{Acts}
use Rattle.pl_sessions.specs.declared.answer.Answer.{Answer}
use Rattle.pl_wire.specs.declared.message.Message.{Message}

-- a job that was drawn and reported: its name, and the replies to the draw and to the report
pub record Worked : Type 0 where
  pub job : JobName
  pub drawn : Replied
  pub reported : Replied

-- the draw gave it
abbrev pub IsGiven : Worked → Type 0
IsGiven one = (one.drawn.status ≡ 200) × (job_in one.drawn.body ≡ Some one.job)

-- it is reported as succeeded, without outputs
abbrev pub report_of : JobName → Request
report_of job = Report job (record { outcome = Succeeded; outputs = [] })

abbrev pub asked_for : Worked → List Asked
asked_for one = asked Draw one.drawn ∷ asked (report_of one.job) one.reported ∷ []

-- 2024-01-01T00:00:00Z
abbrev pub first_moment : ℕ
first_moment = 1704067200

pub record Rehearsal {D : Type 0} (act : D → ℕ → Message → Answer → D → Type 0)
    (caller : Digest) (runs : ℕ) (old new : D) : Type 0 where
  pub begun : List Asked
  pub worked : List Worked
  pub last : Replied
  pub begins : requests_of begun ≡ input runs
  pub given : AllByRecursion IsGiven worked
  pub ends : last.status ≡ 204
  pub acts : Acts act old (turns_from caller first_moment
      (begun ++ (flat_map asked_for worked ++ asked Draw last ∷ []))) new
