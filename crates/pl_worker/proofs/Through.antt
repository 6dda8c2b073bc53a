-- What a worker did at a desk is what is seen of it through what a desk is seen as.
use Rattle.std.proofs.Common.{◌≡◌, ℕ, Bool, true, List, [], ◌∷◌, Option, ap}
use Rattle.pl_sessions.proofs.Through.{seen_by, session_through}
use Rattle.pl_sessions.specs.declared.answer.Answer.{Answer}
use Rattle.pl_wire.specs.declared.message.Message.{Message}
use Rattle.pl_worker.specs.Chain.{Visit, Chain, point_of}
use Rattle.pl_worker.specs.Ends.{was_stopped}
use Rattle.pl_worker.specs.Works.{Stand, ServesAll, Works}
use Rattle.pl_worker.specs.declared.why.Why.{Why}

module _ {D E : Type 0} (f : D → E) (act : E → ℕ → Message → Answer → E → Type 0) where
  pub chain_through : (old : D) (coming : Option (ℕ → ℕ)) (visits : List Visit) (new : D)
      (later : Option (ℕ → ℕ)) → Chain (seen_by f act) old coming visits new later
      → Chain act (f old) coming visits (f new) later
  chain_through old coming [] new later c = (ap f c.0, c.1)
  chain_through old coming (visit ∷ visits) new later c = (
    f c.0,
    c.1,
    session_through f act true (point_of visit.given coming old) (point_of visit.left c.1 c.0)
        visit.ending c.2,
    chain_through c.0 c.1 visits new later c.3,
  )

  abbrev pub seen_stand : Stand D → Stand E
  seen_stand s = record { desk = f s.desk; coming = s.coming; handle = s.handle }

  pub serves_through : (old : Stand D) (stopped : Bool) (new : Stand D)
      → ServesAll (seen_by f act) old stopped new
      → ServesAll act (seen_stand old) stopped (seen_stand new)
  serves_through old stopped new all = record {
    visits = all.visits;
    chain = chain_through old.desk old.coming all.visits new.desk new.coming all.chain;
    stops = all.stops;
    passed = all.passed;
    accepted = all.accepted;
    out = all.out;
  }

  pub works_through : (old : Stand D) (reason : Why) (new : Stand D)
      → Works (seen_by f act) old reason new
      → Works act (seen_stand old) reason (seen_stand new)
  works_through old reason new works = record {
    serves = serves_through old (was_stopped reason) new works.serves;
    faults = works.faults;
    closed = works.closed;
  }
