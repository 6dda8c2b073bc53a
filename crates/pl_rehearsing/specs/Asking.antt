-- What one caller asks a desk, a second later each time.
use Rattle.std.specs.Prelude.{◌≡◌, ◌+◌, ℕ, List, [], ◌∷◌, length, map}
use Rattle.pl_base.specs.declared.digest.Digest.{Digest}
use Rattle.pl_rehearsing.specs.declared.asking.Asker.{Asker}
use Rattle.pl_requests.specs.declared.reply.Reply.{Reply as Replied}
use Rattle.pl_requests.specs.declared.request.Request.{Request}
use Rattle.pl_sessions.specs.Acts.{Acts, Turn}
use Rattle.pl_sessions.specs.declared.answer.Answer.{Answer}
use Rattle.pl_sessions.specs.declared.answer.Answer.TheVariants.{Reply}
use Rattle.pl_wire.specs.declared.message.Message.{Message}
use Rattle.pl_wire.specs.declared.message.Message.TheVariants.{Ask}

-- a request and the reply to it
pub record Asked : Type 0 where
  pub request : Request
  pub reply : Replied

abbrev pub asked : Request → Replied → Asked
asked request reply = record { request = request; reply = reply }

abbrev pub requests_of : List Asked → List Request
requests_of all = map (λ one. one.request) all

abbrev pub turn_at : Digest → ℕ → Asked → Turn
turn_at caller moment one = record {
  moment = moment;
  message = Ask caller one.request;
  answer = Reply one.reply;
}

-- one after the other, from a moment on
abbrev pub turns_from : Digest → ℕ → List Asked → List Turn
turns_from caller moment [] = []
turns_from caller moment (one ∷ more) =
    turn_at caller moment one ∷ turns_from caller (moment + 1) more

-- the asker behind so many requests
abbrev pub later : Asker → ℕ → Asker
later asker count = record { caller = asker.caller; moment = asker.moment + count }

-- the desk answered these requests so
pub record Asks {D : Type 0} (act : D → ℕ → Message → Answer → D → Type 0) (old : D)
    (asker : Asker) (all : List Asked) (new : D) (behind : Asker) : Type 0 where
  pub acts : Acts act old (turns_from asker.caller asker.moment all) new
  pub behind_is : behind ≡ later asker (length all)
