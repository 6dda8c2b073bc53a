-- The messages of a stream of bytes, and what follows them.
use Rattle.std.specs.Prelude.{◌≡◌, ℕ, List, [], ◌∷◌, ◌++◌, take}
use Rattle.pl_heads.specs.declared.fault.HttpFault.{HttpFault}
use Rattle.pl_wire.specs.declared.message.Message.{Message}
use Rattle.pl_wire.specs.Message.{IsMessage, IsPartial, IsBad}

-- the bytes are these messages, in order, and then a rest
abbrev pub Spelled : List ℕ → List Message → List ℕ → Type 0
Spelled bytes [] rest = bytes ≡ rest
Spelled bytes (message ∷ messages) rest =
    (front : List ℕ) × (more : List ℕ) × (bytes ≡ front ++ more) × IsMessage front message
    × Spelled more messages rest

-- no message stands at the front of the bytes
abbrev pub NoneFirst : List ℕ → Type 0
NoneFirst bytes = (len : ℕ) (message : Message) → IsMessage (take len bytes) message → ⊥

-- a stream has one list of messages and one rest, however it comes in pieces
abbrev pub OneStream : Type 0
OneStream = (bytes rest other : List ℕ) (messages others : List Message)
    → Spelled bytes messages rest → Spelled bytes others other → NoneFirst rest → NoneFirst other
    → (messages ≡ others) × (rest ≡ other)

-- where a message is begun or a fault shows, none stands at the front
abbrev pub RestsAreOpen : Type 0
RestsAreOpen =
    ((rest : List ℕ) → IsPartial rest → NoneFirst rest)
    × ((rest : List ℕ) (fault : HttpFault) → IsBad rest fault → NoneFirst rest)
