-- What a desk is behind the messages of a link.
use Rattle.std.specs.Prelude.{◌≡◌, ◌≤◌, ◌++◌, ℕ, List, [], ◌∷◌, Some}
use mathlib.Core.List.{IsPrefix}
use Rattle.pl_facts.specs.declared.entry.Entry.{Entry}
use Rattle.pl_opening.specs.Below.pl_history.specs.History.{Opening}
use Rattle.pl_opening.specs.Below.pl_history.specs.Legal.{Legal}
use Rattle.pl_requests.specs.declared.reply.Reply.{Reply as Replied}
use Rattle.pl_service.specs.Desk.{Act, Parts}
use Rattle.pl_sessions.specs.Acts.{Acts, Turn}
use Rattle.pl_sessions.specs.declared.answer.Answer.TheVariants.{Reply}
use Rattle.pl_wire.specs.declared.message.Message.TheVariants.{Ask}

-- the entry of a message, which names the desk's number: the message is its call, and was answered
-- with a reply; a message has one entry at most
abbrev pub IsOwnOf : ℕ → Turn → List Entry → Type 0
IsOwnOf number turn [] = Unit {0}
IsOwnOf number turn (entry ∷ []) =
    (entry.seat ≡ number) × (turn.message ≡ Ask entry.call.caller entry.call.request)
    × ((reply : Replied) × (turn.answer ≡ Reply reply))
IsOwnOf number turn (entry ∷ next ∷ more) = ⊥

-- those of messages, in their order
abbrev pub AreOwnOf : ℕ → List Turn → List Entry → Type 0
AreOwnOf number [] entries = entries ≡ []
AreOwnOf number (turn ∷ turns) entries =
    (first : List Entry) × (more : List Entry) × (entries ≡ first ++ more)
    × IsOwnOf number turn first × AreOwnOf number turns more

-- Behind the messages a desk is the same desk, of the same service, and has seen no less than
-- before; its own entries grew by those of these messages, and what it has seen is a legal history
-- if it was one before.
pub record Grew (old : Parts) (acted : List Turn) (new : Parts) : Type 0 where
  pub lock : new.lock ≡ old.lock
  pub opening : new.opening ≡ old.opening
  pub number : new.number ≡ old.number
  pub begins : IsPrefix old.seen new.seen
  pub turns : old.turns ≤ new.turns
  pub faults : old.faults ≤ new.faults
  pub own : List Entry
  pub mine : new.mine ≡ old.mine ++ own
  pub are : AreOwnOf old.number acted own
  pub legal :
      (opening : Opening) → new.opening ≡ Some opening → Legal opening old.seen
      → Legal opening new.seen

abbrev pub DesksGrow : Type 0
DesksGrow = (old new : Parts) (turns : List Turn) → Acts Act old turns new → Grew old turns new
