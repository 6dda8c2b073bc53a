-- How a desk grows, link after link.
use Rattle.std.proofs.Common.{◌≡◌, ◌++◌, ℕ, List, [], ◌∷◌, Option}
use Rattle.std.proofs.Common.{sym, ap, subst, ◌∙◌, append_assoc, arith}
use Rattle.pl_facts.specs.declared.entry.Entry.{Entry}
use Rattle.pl_serve.specs.History.{turns_in}
use Rattle.pl_hall.specs.Below.pl_service.proofs.Growing.{grows}
use Rattle.pl_hall.specs.Below.pl_service.specs.Desk.{Act, Parts}
use Rattle.pl_hall.specs.Below.pl_service.specs.Grown.{AreOwnOf, Grew}
use Rattle.pl_sessions.specs.Acts.{Turn}
use Rattle.pl_turn.proofs.Beginnings.{prefix-trans}
use Rattle.pl_worker.specs.Chain.{Chain, Visit}

-- ---- two stretches of messages

own_then : (number : ℕ) (turns more : List Turn) (entries behind : List Entry)
    → AreOwnOf number turns entries → AreOwnOf number more behind
    → AreOwnOf number (turns ++ more) (entries ++ behind)
own_then number [] more entries behind are then =
    subst (λ (front : List Entry). AreOwnOf number more (front ++ behind)) (sym are) then
own_then number (turn ∷ turns) more entries behind are then = (
  are.0,
  are.1 ++ behind,
  ap (λ (front : List Entry). front ++ behind) are.2 ∙ append_assoc are.0 are.1 behind,
  are.3,
  own_then number turns more are.1 behind are.4 then,
)

grew_none : (old new : Parts) → new ≡ old → Grew old [] new
grew_none old new is = grows old new [] is

grew_then : (old mid new : Parts) (turns more : List Turn) → Grew old turns mid
    → Grew mid more new → Grew old (turns ++ more) new
grew_then old mid new turns more g h = record {
  lock = h.lock ∙ g.lock;
  opening = h.opening ∙ g.opening;
  number = h.number ∙ g.number;
  begins = prefix-trans old.seen mid.seen new.seen g.begins h.begins;
  turns = omega (arith, g.turns, h.turns);
  faults = omega (arith, g.faults, h.faults);
  own = g.own ++ h.own;
  mine =
      h.mine ∙ ap (λ (mine : List Entry). mine ++ h.own) g.mine
      ∙ append_assoc old.mine g.own h.own;
  are = own_then old.number turns more g.own h.own g.are
      (subst (λ (n : ℕ). AreOwnOf n more h.own) g.number h.are);
  legal = λ opening told legal.
      h.legal opening told (g.legal opening (sym h.opening ∙ told) legal);
}

-- ---- links

pub grew_along : (old : Parts) (coming : Option (ℕ → ℕ)) (visits : List Visit) (new : Parts)
    (later : Option (ℕ → ℕ)) (chain : Chain Act old coming visits new later)
    → Grew old (turns_in old coming visits new later chain) new
grew_along old coming [] new later chain = grew_none old new chain.0
grew_along old coming (visit ∷ visits) new later chain =
    grew_then old chain.0 new chain.2.turns (turns_in chain.0 chain.1 visits new later chain.3)
    (grows old chain.0 chain.2.turns chain.2.acts)
    (grew_along chain.0 chain.1 visits new later chain.3)
