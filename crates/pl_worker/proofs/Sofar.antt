-- A worker between two links, and how it ends.
use Rattle.std.proofs.Common.{◌≡◌, ℕ, Bool, true, false, Option, None, refl, sym, ◌∙◌, ap}
use Rattle.pl_listener.specs.Handles.{Handle, TakesAsOpen, gave}
use Rattle.pl_sessions.specs.Told.{Told}
use Rattle.pl_sessions.specs.declared.answer.Answer.{Answer}
use Rattle.pl_sessions.specs.declared.served.Served.{Served}
use Rattle.pl_wire.specs.declared.message.Message.{Message}
use Rattle.pl_worker.specs.Chain.{is_stopped}
use Rattle.pl_worker.specs.Works.{Stand, stand, ServesOne, ServesAll, Works, shut_if}
use Rattle.pl_worker.specs.declared.why.Why.TheVariants as why
use Rattle.pl_worker.proofs.Chains.{serves_more, serves_none, shut_faults, shut_found}

-- links were served, none of which was stopped, and nothing else happened
pub record Sofar {D : Type 0} (act : D → ℕ → Message → Answer → D → Type 0) (old new : Stand D)
    : Type 0 where
  pub serves : ServesAll act old false new
  pub faults : new.handle.faults ≡ old.handle.faults
  pub closed : new.handle.closed ≡ old.handle.closed
  pub found : new.handle.found_closed ≡ old.handle.found_closed

module _ {D : Type 0} (act : D → ℕ → Message → Answer → D → Type 0) where
  pub sofar_none : (old : Stand D) → old.handle.out ≡ None → Sofar act old old
  sofar_none old out = record {
    serves = serves_none act old out;
    faults = refl;
    closed = refl;
    found = refl;
  }

  -- one link more, which wasn't stopped
  pub sofar_more : (old mid new : Stand D) (with_it : Handle) (given : Told) (ending : Served)
      → Sofar act old mid → with_it ≡ gave mid.handle given
      → ServesOne act given (stand mid.desk mid.coming with_it) ending new
      → is_stopped ending ≡ false → Sofar act old new
  sofar_more old mid new with_it given ending before is one last = record {
    serves = serves_more act old mid new with_it given ending false before.serves is one last;
    faults =
        ap (λ h. h.faults) one.back
        ∙ (shut_faults (is_stopped ending) with_it ∙ (ap (λ h. h.faults) is ∙ before.faults));
    closed =
        ap (λ h. h.closed) one.back
        ∙ (ap (λ stopped. (shut_if stopped with_it).closed) last
        ∙ (ap (λ h. h.closed) is ∙ before.closed));
    found =
        ap (λ h. h.found_closed) one.back
        ∙ (shut_found (is_stopped ending) with_it ∙ (ap (λ h. h.found_closed) is ∙ before.found));
  }

  -- a handle that takes the door as open took it so before
  pub opened : (old mid : Stand D) → Sofar act old mid → TakesAsOpen mid.handle
      → TakesAsOpen old.handle
  opened old mid before takes = (sym before.closed ∙ takes.0, sym before.found ∙ takes.1)

  -- one link more, which was stopped
  pub works_stopped : (old mid new : Stand D) (with_it : Handle) (given : Told) (ending : Served)
      → Sofar act old mid → TakesAsOpen mid.handle
      → with_it ≡ gave mid.handle given
      → ServesOne act given (stand mid.desk mid.coming with_it) ending new
      → is_stopped ending ≡ true → Works act old why.Stopped new
  works_stopped old mid new with_it given ending before takes is one stopped = record {
    serves = serves_more act old mid new with_it given ending true before.serves is one stopped;
    faults =
        ap (λ h. h.faults) one.back
        ∙ (shut_faults (is_stopped ending) with_it ∙ (ap (λ h. h.faults) is ∙ before.faults));
    closed = (
      opened old mid before takes,
      ap (λ h. h.closed) one.back
          ∙ ap (λ stopped. (shut_if stopped with_it).closed) stopped,
      ap (λ h. h.found_closed) one.back
          ∙ (shut_found (is_stopped ending) with_it ∙ (ap (λ h. h.found_closed) is ∙ takes.1)),
    );
  }
