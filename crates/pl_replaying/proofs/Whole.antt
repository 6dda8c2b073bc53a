-- How a session over whole messages ends.
use Rattle.std.proofs.Common.{◌≡◌, ℕ, ◌<◌, List, [], ◌∷◌, ◌++◌, length, refl, sym, ◌∙◌, ap, subst}
use Rattle.std.proofs.Common.{arith, Bool, true, false, length-append, Option, Some, None, inl, inr}
use Rattle.std.specs.Prelude.{IfSome}
use Rattle.std.proofs.Math.Seq.{take-nil}
use Rattle.pl_alone.specs.Desk.{Act, Parts}
use Rattle.pl_base.specs.Streams.{with_front}
use Rattle.pl_wire.specs.declared.message.Message.{Message}
use Rattle.pl_wire.specs.Message.{IsMessage, IsPartial, IsBad, OneReading}
use Rattle.pl_heads.specs.declared.fault.HttpFault.{HttpFault}
use Rattle.pl_wire.proofs.Readings.{partial_none, bad_none, stay}
use Rattle.pl_wire.proofs.Nothing.{nothing_none, nothing_not_bad}
use Rattle.pl_base.specs.declared.digest.Digest.{Digest}
use Rattle.pl_sessions.specs.declared.served.Served.{Served}
use Rattle.pl_sessions.specs.declared.served.Served.TheVariants as served
use Rattle.pl_outfit.specs.declared.status.Status.{Status}
use Rattle.pl_outfit.specs.declared.status.Status.TheVariants as status
use Rattle.pl_sessions.specs.Acts.{messages_of}
use Rattle.pl_sessions.specs.Messages.{Spelled, NoneFirst}
use Rattle.pl_outfit.specs.Outside.{Outside}
use Rattle.pl_replaying.specs.Replaying.{FinishesUnlessBroken, Replays, status_of}
use Rattle.pl_alone.specs.Below.pl_service.specs.declared.fault.OpenFault.{OpenFault}
use Rattle.pl_alone.specs.Below.pl_service.specs.declared.fault.OpenFault.TheVariants as fault
use Rattle.pl_streams.specs.Whole.{taken_limit}
use Rattle.pl_unopened.specs.Unopened.{Tells, WritesLine, no_store_status, with_store}
use Rattle.pl_sessions.specs.Session.{Point, Session}
use Rattle.pl_sessions.proofs.Sessions.{append-nil, Spelled-more}
use Rattle.pl_sessions.proofs.Streams.{one_stream}

-- ---- lists

-- what a source told is what was read and what is left
told_is : (read : List ℕ) (left : Option (List ℕ)) (bytes : List ℕ)
    → Some bytes ≡ with_front read left
    → (rest : List ℕ) × (left ≡ Some rest) × (bytes ≡ read ++ rest)
told_is read None bytes is = absurd (cc is)
told_is read (Some rest) bytes is = (rest, refl, cc is)

no_front : (a b : List ℕ) → [] ≡ a ++ b → a ≡ []
no_front [] b is = refl
no_front (x ∷ a) b is = absurd (cc is)

not_shorter : (read rest : List ℕ) (n : ℕ) → length (read ++ rest) < n → length read ≡ n → ⊥
not_shorter read rest n short is = omega (arith, short, is, length-append read rest)

-- ---- the endings that don't come

-- where the source told its end, all was read
all_read : (read bytes : List ℕ) (left : Option (List ℕ)) → Some bytes ≡ with_front read left
    → IfSome left (λ rest. rest ≡ []) → read ≡ bytes
all_read read bytes None is end = absurd (cc is)
all_read read bytes (Some rest) is end = let all : bytes ≡ read ++ rest = cc is in sym (all ∙ (ap (λ
    r. read ++ r) end ∙ append-nil read))

none_first : NoneFirst []
none_first len message is = nothing_none message (subst (λ b. IsMessage b message) (take-nil len)
    is)

no_rest : OneReading → (bytes rest : List ℕ) (messages others : List Message)
    → Spelled bytes messages [] → Spelled bytes others rest → NoneFirst rest → [] ≡ rest
no_rest one bytes rest messages others whole spelled none =
    (one_stream one bytes [] rest messages others whole spelled none_first none).1

not_cut : OneReading → (bytes read rest : List ℕ) (messages others : List Message)
    → Spelled bytes messages [] → read ≡ bytes → Spelled read others rest → IsPartial rest
    → 0 < length rest → ⊥
not_cut one bytes read rest messages others whole all spelled partial some =
    let none : [] ≡ rest = no_rest one bytes rest messages others whole (subst (λ b. Spelled b
    others rest) all spelled) (partial_none rest partial) in
    omega (arith, some, ap length none)

not_bad :
    OneReading →
    (bytes read rest more : List ℕ) (messages others : List Message) (fault : HttpFault)
    → Spelled bytes messages [] → bytes ≡ read ++ more → Spelled read others rest
    → IsBad rest fault → ⊥
not_bad one bytes read rest more messages others fault whole all spelled bad =
    let none : [] ≡ rest ++ more =
    no_rest one bytes (rest ++ more) messages others whole
    (subst (λ b. Spelled b others (rest ++ more)) (sym all) (Spelled-more read more others rest
    spelled))
    (bad_none (rest ++ more) fault (stay.faults rest more fault bad))
    in
    nothing_not_bad fault (subst (λ b. IsBad b fault) (no_front rest more none) bad)

whole_session : OneReading
    → (old new : Point Parts) (bytes : List ℕ) (messages : List Message) (ending : Served)
    → old.link.left ≡ Some bytes → Spelled bytes messages [] → length bytes < taken_limit
    → Session Act false old new ending
    → FinishesUnlessBroken (status_of ending)
whole_session one old new bytes messages served.Ended left whole short s = tt
whole_session one old new bytes messages (served.Cut len) left whole short s =
    let all : s.read ≡ bytes = all_read s.read bytes new.link.left (sym left ∙ s.reads) s.told.1 in
    not_cut one bytes s.read s.rest messages (messages_of s.turns) whole all s.spelled s.ends.0
    s.ends.1
whole_session one old new bytes messages (served.Bad fault) left whole short s =
    let told_all = told_is s.read new.link.left bytes (sym left ∙ s.reads) in
    not_bad one bytes s.read s.rest told_all.0 messages (messages_of s.turns) fault whole told_all.2
    s.spelled s.ends.0
whole_session one old new bytes messages served.Spent left whole short s =
    let told_all = told_is s.read new.link.left bytes (sym left ∙ s.reads) in
    not_shorter s.read told_all.0 taken_limit (subst (λ b. length b < taken_limit) told_all.2 short)
    s.ends.1
whole_session one old new bytes messages served.Stopped left whole short s = tt
whole_session one old new bytes messages served.ReadFault left whole short s = tt
whole_session one old new bytes messages served.WriteFault left whole short s = tt
whole_session one old new bytes messages served.Memory left whole short s = tt

-- ---- the runs without a session

no_store : (failed : Bool) → FinishesUnlessBroken (no_store_status failed)
no_store true = tt
no_store false = tt

torn : (line : List ℕ) (old : Outside) (ending : Status) (new : Outside) → WritesLine line old ending new
    → FinishesUnlessBroken ending
torn line old status.Torn new writes = tt
torn line old status.WriteFault new writes = tt
torn line old status.Memory new writes = tt
torn line old status.Finished new writes = absurd writes
torn line old status.ReadFault new writes = absurd writes
torn line old status.Usage new writes = absurd writes
torn line old status.KeeperFault new writes = absurd writes
torn line old status.ListenerFault new writes = absurd writes
torn line old status.Refused new writes = absurd writes
torn line old status.NotWhole new writes = absurd writes
torn line old status.Spent new writes = absurd writes

refused : (why : OpenFault) (old : Outside) (ending : Status) (new : Outside)
    → Tells why old ending new → FinishesUnlessBroken ending
refused (fault.Torn table key bytes) old ending new tells = torn _ old ending new tells.writes
refused fault.KeeperFault old ending new tells =
    subst (λ status. FinishesUnlessBroken status) (sym tells.0) tt
refused fault.Memory old ending new tells =
    subst (λ status. FinishesUnlessBroken status) (sym tells.0) tt

pub whole_input : OneReading
    → (admin : Digest) (path : Option (List ℕ)) (old : Outside) (ending : Status) (new : Outside)
    (bytes : List ℕ) (messages : List Message)
    → old.link.left ≡ Some bytes → Spelled bytes messages [] → length bytes < taken_limit
    → Replays admin path old ending new → FinishesUnlessBroken ending
whole_input one admin path old ending new bytes messages left whole short (inl none) =
    subst (λ status. FinishesUnlessBroken status) (sym none.ending_is) (no_store none.failed)
whole_input one admin path old ending new bytes messages left whole short (inr (inl unopened)) =
    refused unopened.why (with_store path old) ending unopened.refuses.between
    unopened.refuses.tells
whole_input one admin path old ending new bytes messages left whole short (inr (inr replayed)) =
    let replays = replayed.replays in
    subst (λ status. FinishesUnlessBroken status) (sym replays.ending_is)
    (whole_session one _ _ bytes messages replays.served left whole short replays.session)
