-- Where a session ends by a message: at the first accepted shutdown, where it heeds these.
use Rattle.std.specs.Prelude.{◌≡◌, ◌==◌, ◌&&◌, Bool, true, false, List, [], ◌∷◌}
use Rattle.pl_requests.specs.declared.request.Request.{Request}
use Rattle.pl_requests.specs.declared.request.Request.TheVariants.{Shutdown}
use Rattle.pl_sessions.specs.Acts.{Turn}
use Rattle.pl_sessions.specs.declared.answer.Answer.{Answer}
use Rattle.pl_sessions.specs.declared.answer.Answer.TheVariants.{Reply, KeeperFault, Memory}
use Rattle.pl_wire.specs.declared.message.Message.{Message}
use Rattle.pl_wire.specs.declared.message.Message.TheVariants.{Ask, Refused}

abbrev pub asks_to_stop : Request → Bool
asks_to_stop Shutdown = true
asks_to_stop other = false

-- a message that asks the service to stop
abbrev pub is_shutdown : Message → Bool
is_shutdown (Ask caller request) = asks_to_stop request
is_shutdown (Refused fault) = false

-- an answer that says that it is done
abbrev pub is_done : Answer → Bool
is_done (Reply reply) = reply.status == 200
is_done KeeperFault = false
is_done Memory = false

-- an accepted shutdown, where the session heeds these
abbrev pub halts : Bool → Turn → Bool
halts heeds turn = (heeds && is_shutdown turn.message) && is_done turn.answer

-- none of the turns but the last is an accepted shutdown, and the last is one or not
abbrev pub Halting : Bool → Bool → List Turn → Type 0
Halting heeds halted [] = halted ≡ false
Halting heeds halted (turn ∷ []) = halts heeds turn ≡ halted
Halting heeds halted (turn ∷ next ∷ turns) =
    (halts heeds turn ≡ false) × Halting heeds halted (next ∷ turns)
