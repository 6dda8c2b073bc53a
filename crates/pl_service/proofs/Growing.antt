-- How a desk grows, message after message.
use Rattle.std.proofs.Common.{◌≡◌, ◌≤◌, ◌++◌, ℕ, List, [], ◌∷◌, Some, refl, sym}
use Rattle.std.proofs.Common.{ap, subst, ◌∙◌, append-nil, append_assoc, arith}
use mathlib.Core.List.{IsPrefix}
use Rattle.pl_base.specs.declared.digest.Digest.{Digest}
use Rattle.pl_facts.specs.declared.entry.Entry.{Entry}
use Rattle.pl_facts.specs.declared.fact.Fact.{Fact}
use Rattle.pl_opening.specs.Below.pl_history.specs.History.{Opening}
use Rattle.pl_opening.specs.Below.pl_history.specs.Legal.{Legal}
use Rattle.pl_requests.specs.declared.reply.Reply.{Reply as Replied}
use Rattle.pl_requests.specs.declared.request.Request.{Request}
use Rattle.pl_service.specs.Desk.{Act, Keeps, Parts, asked}
use Rattle.pl_service.specs.Grown.{AreOwnOf, DesksGrow, Grew, IsOwnOf}
use Rattle.pl_service.specs.Past.{Past, lifted, recorded}
use Rattle.pl_sessions.specs.Acts.{Turn}
use Rattle.pl_sessions.specs.declared.answer.Answer.{Answer}
use Rattle.pl_sessions.specs.declared.answer.Answer.TheVariants.{Reply, KeeperFault, Memory}
use Rattle.pl_turn.proofs.Beginnings.{prefix-same, prefix-trans}
use Rattle.pl_wire.specs.declared.message.Message.{Message}
use Rattle.pl_wire.specs.declared.message.Message.TheVariants.{Ask, Refused}

abbrev turn_of : ℕ → Message → Answer → Turn
turn_of moment message answer =
    record { moment = moment; message = message; answer = answer }

-- what one message makes of a desk
record Steps (old : Parts) (turn : Turn) (new : Parts) : Type 0 where
  pub lock : new.lock ≡ old.lock
  pub opening : new.opening ≡ old.opening
  pub number : new.number ≡ old.number
  pub begins : IsPrefix old.seen new.seen
  pub turns : old.turns ≤ new.turns
  pub faults : old.faults ≤ new.faults
  pub own : List Entry
  pub mine : new.mine ≡ old.mine ++ own
  pub is : IsOwnOf old.number turn own
  pub legal :
      (opening : Opening) → new.opening ≡ Some opening → Legal opening old.seen
      → Legal opening new.seen

same : (old new : Parts) (turn : Turn) → new ≡ old → Steps old turn new
same old new turn is = subst (λ (p : Parts). Steps old turn p) (sym is)
    (record {
      lock = refl;
      opening = refl;
      number = refl;
      begins = prefix-same old.seen old.seen refl;
      turns = omega arith;
      faults = omega arith;
      own = [];
      mine = sym (append-nil old.mine);
      is = tt;
      legal = λ opening told legal. legal;
    })

own_of : (number : ℕ) (before : Past) (moment : ℕ) (caller : Digest) (request : Request)
    (reply : Replied) (added : List Fact)
    → IsOwnOf number (turn_of moment (Ask caller request) (Reply reply))
    (recorded number before.entries (lifted before (asked moment caller request)) added)
own_of number before moment caller request reply [] = tt
own_of number before moment caller request reply (fact ∷ more) = (refl, refl, (reply, refl))

-- by the desk's number and what it found
kept : (old new : Parts) (turn : Turn) (own : List Entry) → Keeps old new
    → new.mine ≡ old.mine ++ own → IsOwnOf old.number turn own → Steps old turn new
kept old new turn own k mine is = record {
  lock = k.lock;
  opening = k.opening;
  number = k.number;
  begins = k.begins;
  turns = k.turns;
  faults = k.faults;
  own = own;
  mine = mine;
  is = is;
  legal = λ opening told legal. k.legal opening told;
}

nothing_own : (old new : Parts) → new.mine ≡ old.mine → new.mine ≡ old.mine ++ []
nothing_own old new is = is ∙ sym (append-nil old.mine)

steps : (old new : Parts) (moment : ℕ) (message : Message) (answer : Answer)
    → Act old moment message answer new → Steps old (turn_of moment message answer) new
steps old new moment (Ask caller request) (Reply reply) act =
    let s = act.1 in
    let before : Past = record { opening = s.opening; entries = s.found } in
    kept old new (turn_of moment (Ask caller request) (Reply reply))
    (recorded old.number s.found (lifted before (asked moment caller request)) s.answers.added)
    act.0 s.mine (own_of old.number before moment caller request reply s.answers.added)
steps old new moment (Ask caller request) KeeperFault act =
    kept old new (turn_of moment (Ask caller request) KeeperFault) [] act.0
    (nothing_own old new act.1) tt
steps old new moment (Ask caller request) Memory act =
    kept old new (turn_of moment (Ask caller request) Memory) [] act.0
    (nothing_own old new act.1) tt
steps old new moment (Refused fault) (Reply reply) act =
    same old new (turn_of moment (Refused fault) (Reply reply)) act.1
steps old new moment (Refused fault) KeeperFault act = absurd act
steps old new moment (Refused fault) Memory act =
    same old new (turn_of moment (Refused fault) Memory) act

own_at : (n m : ℕ) (turns : List Turn) (own : List Entry) → m ≡ n → AreOwnOf m turns own
    → AreOwnOf n turns own
own_at n m turns own is are = subst (λ (k : ℕ). AreOwnOf k turns own) is are

pub grows : DesksGrow
grows old new [] is = subst (λ (p : Parts). Grew old [] p) (sym is)
    (record {
      lock = refl;
      opening = refl;
      number = refl;
      begins = prefix-same old.seen old.seen refl;
      turns = omega arith;
      faults = omega arith;
      own = [];
      mine = sym (append-nil old.mine);
      are = refl;
      legal = λ opening told legal. legal;
    })
grows old new (turn ∷ turns) acts =
    let between = acts.0 in
    let s = steps old between turn.moment turn.message turn.answer acts.1 in
    let g = grows between new turns acts.2 in
    record {
      lock = g.lock ∙ s.lock;
      opening = g.opening ∙ s.opening;
      number = g.number ∙ s.number;
      begins = prefix-trans old.seen between.seen new.seen s.begins g.begins;
      turns = omega (arith, s.turns, g.turns);
      faults = omega (arith, s.faults, g.faults);
      own = s.own ++ g.own;
      mine =
          g.mine ∙ ap (λ (mine : List Entry). mine ++ g.own) s.mine
          ∙ append_assoc old.mine s.own g.own;
      are = (
        s.own,
        g.own,
        refl,
        s.is,
        own_at old.number between.number turns g.own s.number g.are,
      );
      legal = λ opening told legal.
          g.legal opening told (s.legal opening (sym g.opening ∙ told) legal);
    }
