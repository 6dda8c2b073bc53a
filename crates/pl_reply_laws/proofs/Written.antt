-- What a session writes leaves no choice.
use Rattle.std.proofs.Common.{◌≡◌, ℕ, ◌+◌, false, List, [], ◌∷◌, ◌++◌, Option, Some, None, sym, ap}
use Rattle.std.proofs.Common.{subst, ◌∙◌}
use Rattle.std.proofs.Math.Seq.{take-nil}
use Rattle.std.specs.Prelude.{IfSome}
use Rattle.pl_alone.specs.Desk.{Act, Parts, past}
use Rattle.pl_base.specs.Streams.{with_end, with_front}
use Rattle.pl_sessions.proofs.Sessions.{append-nil}
use Rattle.pl_sessions.proofs.Streams.{one_stream}
use Rattle.pl_sessions.specs.Acts.{Tells, Turn, joined, messages_of, replies}
use Rattle.pl_sessions.specs.Messages.{NoneFirst, Spelled}
use Rattle.pl_sessions.specs.Session.{Point, Session}
use Rattle.pl_sessions.specs.declared.served.Served.TheVariants.{Ended}
use Rattle.pl_sources.specs.Again.{CompilesToOne}
use Rattle.pl_wire.proofs.Nothing.{nothing_none}
use Rattle.pl_wire.specs.Message.{IsMessage, OneReading}
use Rattle.pl_wire.specs.declared.message.Message.{Message}
use Rattle.pl_reply_laws.specs.Alike.{AreAsked, AreReplied}
use Rattle.pl_reply_laws.proofs.Desks.{OneStep, one_turns}

-- ---- what was read, and its messages

-- where the source told its end, all was read
all_read : (read bytes : List ℕ) (left : Option (List ℕ)) → Some bytes ≡ with_front read left →
    IfSome left (λ rest. rest ≡ []) → read ≡ bytes
all_read read bytes None is end = absurd (cc is)
all_read read bytes (Some rest) is end =
    let all : bytes ≡ read ++ rest = cc is in
    sym (all ∙ (ap (λ rest. read ++ rest) end ∙ append-nil read))

none_first : NoneFirst []
none_first len message is =
    nothing_none message (subst (λ bytes. IsMessage bytes message) (take-nil len) is)

spelled_whole : (bytes read rest : List ℕ) (messages : List Message) → read ≡ bytes → rest ≡ [] →
    Spelled read messages rest → Spelled bytes messages []
spelled_whole bytes read rest messages all none spelled =
    subst (λ rest. Spelled bytes messages rest) none
    (subst (λ bytes. Spelled bytes messages rest) all spelled)

-- ---- the same moments

asked : (coming : ℕ → ℕ) (left right : List Turn) (later other : Option (ℕ → ℕ)) →
    messages_of left ≡ messages_of right → Tells (Some coming) left later →
    Tells (Some coming) right other → AreAsked left right
asked coming [] [] later other same a b = tt
asked coming [] (turn ∷ turns) later other same a b = absurd (cc same)
asked coming (turn ∷ turns) [] later other same a b = absurd (cc same)
asked coming (turn ∷ turns) (next ∷ others) later other same (within, at, tells)
    (under, also, told) =
    let message : turn.message ≡ next.message = cc same in
    let more : messages_of turns ≡ messages_of others = cc same in (
      at ∙ sym also,
      message,
      asked (λ call. coming (call + 1)) turns others later other more tells
          told,
    )

-- ---- the session

pub one_session : OneReading → CompilesToOne → OneStep → (old new other : Point Parts)
    (also : Parts) (bytes : List ℕ) (coming : ℕ → ℕ) → old.link.left ≡ Some bytes →
    old.coming ≡ Some coming → past also ≡ past old.desk →
    (left : Session Act false old new Ended) →
    (right : Session Act false (record old { desk = also }) other Ended) →
    AreReplied left.turns → AreReplied right.turns →
    (new.link.held ≡ other.link.held) × (past new.desk ≡ past other.desk)
one_session reads compiles steps old new other also bytes coming there tells same_past left right
    l r =
    let read : left.read ≡ bytes =
    all_read left.read bytes new.link.left (sym there ∙ left.reads) left.told.1 in
    let again : right.read ≡ bytes =
    all_read right.read bytes other.link.left (sym there ∙ right.reads) right.told.1 in
    let messages : messages_of left.turns ≡ messages_of right.turns =
    (one_stream reads bytes [] [] (messages_of left.turns) (messages_of right.turns)
    (spelled_whole bytes left.read left.rest (messages_of left.turns) read left.ends.0
    left.spelled)
    (spelled_whole bytes right.read right.rest (messages_of right.turns) again right.ends.0
    right.spelled) none_first none_first).0 in
    let alike : AreAsked left.turns right.turns =
    asked coming left.turns right.turns new.coming other.coming messages
    (subst (λ (coming : Option (ℕ → ℕ)). Tells coming left.turns new.coming) tells left.tells)
    (subst (λ (coming : Option (ℕ → ℕ)). Tells coming right.turns other.coming) tells right.tells)
    in
    let same : (left.turns ≡ right.turns) × (past new.desk ≡ past other.desk) =
    one_turns compiles steps old.desk also left.turns right.turns new.desk other.desk same_past
    left.acts right.acts alike l r in
    let wrote : left.wrote ≡ right.wrote = left.ends.2
    ∙ (ap (λ (turns : List Turn). joined (replies turns)) same.0 ∙ sym right.ends.2) in
    (left.writes ∙ (ap (λ bytes. with_end old.link.held bytes) wrote ∙ sym right.writes), same.1)
