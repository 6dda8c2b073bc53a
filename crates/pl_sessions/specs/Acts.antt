-- What a desk makes of the messages that it is given, one after the other, and what is sent.
use Rattle.std.specs.Prelude.{◌≡◌, ◌≤◌, ℕ, List, [], ◌∷◌, ◌++◌, Option, codes}
use Rattle.std.specs.Option.{IfSome}
use Rattle.pl_base.specs.Streams.{after_next}
use Rattle.pl_heads.specs.declared.fault.HttpFault.{HttpFault}
use Rattle.pl_requests.specs.Replies.{refusal}
use Rattle.pl_sessions.specs.declared.answer.Answer.{Answer}
use Rattle.pl_sessions.specs.declared.answer.Answer.TheVariants.{Reply, KeeperFault, Memory}
use Rattle.pl_wire.specs.declared.message.Message.{Message}
use Rattle.pl_wire.specs.Refusals.{reply_to_fault}
use Rattle.pl_wire.specs.Written.{written}

-- a message that was acted on: the moment that the clock told, the message, and its answer
pub record Turn : Type 0 where
  pub moment : ℕ
  pub message : Message
  pub answer : Answer

abbrev pub messages_of : List Turn → List Message
messages_of [] = []
messages_of (turn ∷ turns) = turn.message ∷ messages_of turns

module _ {D : Type 0} (act : D → ℕ → Message → Answer → D → Type 0) where
  -- one act a turn, in order
  abbrev pub Acts : D → List Turn → D → Type 0
  Acts old [] new = new ≡ old
  Acts old (turn ∷ turns) new =
      (between : D) × act old turn.moment turn.message turn.answer between
      × Acts between turns new

-- the clock was asked once a turn, and told its moment, which is at most 2099-12-31T23:59:59Z
abbrev pub Tells : Option (ℕ → ℕ) → List Turn → Option (ℕ → ℕ) → Type 0
Tells coming [] later = later ≡ coming
Tells coming (turn ∷ turns) later =
    (turn.moment ≤ 4102444799) × IfSome coming (λ moment. turn.moment ≡ moment 0)
    × Tells (after_next coming) turns later

-- an answer as it is sent
abbrev pub sent : Answer → List ℕ
sent (Reply reply) = written reply
sent KeeperFault = written (refusal 503 (codes "keeper.fault"))
sent Memory = written (refusal 507 (codes "memory"))

-- the reply to bytes that are no message, by what is wrong with them
abbrev pub refused : HttpFault → List ℕ
refused fault = written (reply_to_fault fault)

abbrev pub replies : List Turn → List (List ℕ)
replies [] = []
replies (turn ∷ turns) = sent turn.answer ∷ replies turns

-- replies one behind the other
abbrev pub joined : List (List ℕ) → List ℕ
joined [] = []
joined (reply ∷ more) = reply ++ joined more
