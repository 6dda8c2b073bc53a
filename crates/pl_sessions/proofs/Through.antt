-- A session of a desk is one of what is seen of it.
use Rattle.std.proofs.Common.{◌≡◌, ℕ, Bool, List, [], ◌∷◌, ap}
use Rattle.pl_sessions.specs.Acts.{Acts, Turn}
use Rattle.pl_sessions.specs.Session.{Point, Session}
use Rattle.pl_sessions.specs.declared.answer.Answer.{Answer}
use Rattle.pl_sessions.specs.declared.served.Served.{Served}
use Rattle.pl_wire.specs.declared.message.Message.{Message}

module _ {D E : Type 0} (f : D → E) (act : E → ℕ → Message → Answer → E → Type 0) where
  abbrev pub seen_by : D → ℕ → Message → Answer → D → Type 0
  seen_by old moment message answer new = act (f old) moment message answer (f new)

  pub acts_through : (old : D) (turns : List Turn) (new : D) → Acts seen_by old turns new
      → Acts act (f old) turns (f new)
  acts_through old [] new is = ap f is
  acts_through old (turn ∷ turns) new acts =
      (f acts.0, acts.1, acts_through acts.0 turns new acts.2)

  abbrev pub through : Point D → Point E
  through p = record { link = p.link; coming = p.coming; desk = f p.desk }

  pub session_through : (heeds : Bool) (old new : Point D) (ending : Served)
      → Session seen_by heeds old new ending → Session act heeds (through old) (through new) ending
  session_through heeds old new ending s = record {
    read = s.read;
    turns = s.turns;
    rest = s.rest;
    wrote = s.wrote;
    reads = s.reads;
    within = s.within;
    spelled = s.spelled;
    acts = acts_through old.desk s.turns new.desk s.acts;
    halts = s.halts;
    tells = s.tells;
    writes = s.writes;
    ends = s.ends;
    told = s.told;
    read_faults = s.read_faults;
    write_faults = s.write_faults;
  }
