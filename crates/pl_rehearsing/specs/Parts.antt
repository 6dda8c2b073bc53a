-- The parts of a rehearsal.
use Rattle.std.specs.Prelude.{◌≡◌, ◌++◌, ℕ, List, [], ◌∷◌, Some, flat_map, length}
use Rattle.std.specs.List.{AllByRecursion}
use Rattle.pl_generated.specs.Input.{input, text}
use Rattle.pl_rehearsing.specs.Asking.{Asked, Asks, asked, requests_of}
use Rattle.pl_rehearsing.specs.Drawn.{job_in}
use Rattle.pl_rehearsing.specs.Rehearsal.{IsGiven, Worked, asked_for, report_of}
use Rattle.pl_rehearsing.specs.declared.asking.Asker.{Asker}
use Rattle.pl_requests.specs.declared.reply.Reply.{Reply as Replied}
use Rattle.pl_requests.specs.declared.request.JobName.{JobName}
use Rattle.pl_requests.specs.declared.request.Request.TheVariants.{Draw, QueueText}
use Rattle.pl_sessions.specs.declared.answer.Answer.{Answer}
use Rattle.pl_wire.specs.declared.message.Message.{Message}

module _ {D : Type 0} (act : D → ℕ → Message → Answer → D → Type 0) where
  -- the generated input was asked
  abbrev pub Begins : ℕ → D → Asker → D → Asker → Type 0
  Begins runs old asker new behind =
      (begun : List Asked) × (requests_of begun ≡ input runs) × Asks act old asker begun new behind

  -- the run of this number was queued
  abbrev pub Queues : ℕ → D → Asker → D → Asker → Type 0
  Queues number old asker new behind =
      (reply : Replied) × Asks act old asker (asked (QueueText (text number)) reply ∷ []) new behind

  -- the job that a draw gave was reported
  abbrev pub Reports : Replied → D → Asker → D → Asker → Type 0
  Reports drawn old asker new behind =
      (job : JobName) × (reported : Replied) × (drawn.status ≡ 200)
      × (job_in drawn.body ≡ Some job)
      × Asks act old asker (asked (report_of job) reported ∷ []) new behind

  -- so many jobs were drawn and reported
  abbrev pub WorksOff : ℕ → D → Asker → D → Asker → Type 0
  WorksOff jobs old asker new behind =
      (worked : List Worked) × (length worked ≡ jobs) × AllByRecursion IsGiven worked
      × Asks act old asker (flat_map asked_for worked) new behind

  -- ... and then a draw gave none
  abbrev pub Works : ℕ → D → Asker → D → Asker → Type 0
  Works jobs old asker new behind =
      (worked : List Worked) × (last : Replied) × (length worked ≡ jobs)
      × AllByRecursion IsGiven worked × (last.status ≡ 204)
      × Asks act old asker (flat_map asked_for worked ++ asked Draw last ∷ []) new behind
