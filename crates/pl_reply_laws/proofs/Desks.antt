-- What a desk answers leaves no choice, nor do the desks behind many messages.
use Rattle.std.proofs.Common.{◌≡◌, ◌++◌, ℕ, List, [], ◌∷◌, refl, sym, ap, subst, ◌∙◌}
use Rattle.pl_alone.specs.Desk.{Act, Parts, Serves, call_at, past}
use Rattle.pl_base.specs.declared.digest.Digest.{Digest}
use Rattle.pl_facts.specs.declared.fact.Fact.{Fact}
use Rattle.pl_alone.specs.Below.pl_history.specs.History.{held_of}
use Rattle.pl_journal.specs.Log.{Log}
use Rattle.pl_queueing.specs.Queueing.{Made}
use Rattle.pl_requests.specs.declared.call.Call.{Call}
use Rattle.pl_requests.specs.declared.reply.Reply.{Reply as Replied}
use Rattle.pl_requests.specs.declared.request.Request.{Request}
use Rattle.pl_alone.specs.Below.pl_service.specs.Past.{Answers, Past, lifted, log, recorded}
use Rattle.pl_sessions.specs.Acts.{Acts, Turn}
use Rattle.pl_sessions.specs.declared.answer.Answer.{Answer}
use Rattle.pl_sessions.specs.declared.answer.Answer.TheVariants.{Reply, KeeperFault, Memory}
use Rattle.pl_sources.specs.Again.{CompilesToOne}
use Rattle.pl_step_laws.specs.Below.pl_step.specs.Step.{IsStep, stepped_with}
use Rattle.pl_step_laws.specs.Below.pl_step.specs.declared.held.Held.{Held}
use Rattle.pl_step_laws.specs.Below.pl_step.specs.declared.stepped.Stepped.{Stepped}
use Rattle.pl_wire.specs.declared.message.Message.{Message}
use Rattle.pl_wire.specs.declared.message.Message.TheVariants.{Ask, Refused}
use Rattle.pl_reply_laws.specs.Alike.{AreAsked, AreOne, AreReplied, IsReply}
use Rattle.pl_reply_laws.proofs.Wanted.{one_made_for}

abbrev pub OneStep : Type 0
OneStep = (held : Held) (log : Log) (call : Call) (made : Made) (left right : Stepped) →
    IsStep held log call made left → IsStep held log call made right → left ≡ right

abbrev AreSame : Answer → Parts → Answer → Parts → Type 0
AreSame left one right other = (left ≡ right) × (past one ≡ past other)

module _ (compiles : CompilesToOne) (steps : OneStep) where
  one_answered : (old : Past) (call : Call) (left right : Replied) (one other : Past) →
      Answers 0 old call left one → Answers 0 old call right other →
      (left ≡ right) × (one ≡ other)
  one_answered old call left right one other is has =
      let made : is.made ≡ has.made =
      one_made_for compiles (log old) call is.made has.made is.is has.is in
      let stepped : stepped_with left is.added ≡ stepped_with right has.added =
      steps (held_of old.opening old.entries) (log old) call has.made
      (stepped_with left is.added) (stepped_with right has.added)
      (subst (λ (made : Made). IsStep (held_of old.opening old.entries) (log old) call made
      (stepped_with left is.added)) made is.steps) has.steps in
      let reply : left ≡ right = ap (λ (stepped : Stepped). stepped.reply) stepped in
      let added : is.added ≡ has.added = ap (λ (stepped : Stepped). stepped.added) stepped in
      let opening : one.opening ≡ other.opening = is.opening ∙ sym has.opening in
      let entries : one.entries ≡ other.entries =
      is.entries ∙ (ap (λ (facts : List Fact). old.entries ++ recorded 0 old.entries call facts)
      added ∙ sym has.entries) in
      (reply, λ i. record { opening = opening i; entries = entries i })

  -- a request at a moment, behind what has happened
  abbrev asked_at : Past → ℕ → Digest → Request → Call
  asked_at old moment caller request =
      lifted old (record { moment = moment; caller = caller; request = request })

  one_served : (old also : Parts) (moment : ℕ) (caller : Digest) (request : Request)
      (left right : Replied) (one other : Parts) → past also ≡ past old →
      Serves old (call_at old moment caller request) left one →
      Serves also (call_at also moment caller request) right other →
      (left ≡ right) × (past one ≡ past other)
  one_served old also moment caller request left right one other same a b =
      one_answered (past old) (asked_at (past old) moment caller request) left right (past one)
      (past other) a.answers
      (subst (λ (p : Past). Answers 0 p (asked_at p moment caller request) right (past other))
      same b.answers)

  pub one_act : (old also : Parts) (moment : ℕ) (message : Message) (left right : Answer)
      (one other : Parts) → past also ≡ past old → Act old moment message left one →
      Act also moment message right other → AreOne left one right other
  one_act old also moment (Ask caller asked) (Reply left) (Reply right) one other same a b =
      one_served old also moment caller asked left right one other same a b
  one_act old also moment (Ask caller asked) (Reply left) KeeperFault one other same a b = tt
  one_act old also moment (Ask caller asked) (Reply left) Memory one other same a b = tt
  one_act old also moment (Ask caller asked) KeeperFault right one other same a b = tt
  one_act old also moment (Ask caller asked) Memory right one other same a b = tt
  one_act old also moment (Refused fault) (Reply left) (Reply right) one other same a b = (
    a.0 ∙ sym b.0,
    ap (λ (p : Parts). past p) a.1 ∙ sym same ∙ sym (ap (λ (p : Parts). past p) b.1),
  )
  one_act old also moment (Refused fault) (Reply left) KeeperFault one other same a b = tt
  one_act old also moment (Refused fault) (Reply left) Memory one other same a b = tt
  one_act old also moment (Refused fault) KeeperFault right one other same a b = tt
  one_act old also moment (Refused fault) Memory right one other same a b = tt

  replied : (left right : Answer) (one other : Parts) → IsReply left → IsReply right →
      AreOne left one right other → AreSame left one right other
  replied (Reply left) (Reply right) one other l r (reply, parts) = (ap Reply reply, parts)
  replied (Reply left) KeeperFault one other l r is = absurd r
  replied (Reply left) Memory one other l r is = absurd r
  replied KeeperFault right one other l r is = absurd l
  replied Memory right one other l r is = absurd l

  pub one_turns : (old also : Parts) (left right : List Turn) (one other : Parts) →
      past also ≡ past old → Acts Act old left one → Acts Act also right other →
      AreAsked left right → AreReplied left → AreReplied right →
      (left ≡ right) × (past one ≡ past other)
  one_turns old also [] [] one other same a b asked l r = (
    refl,
    ap (λ (p : Parts). past p) a ∙ sym same ∙ sym (ap (λ (p : Parts). past p) b),
  )
  one_turns old also [] (turn ∷ turns) one other same a b asked l r = absurd asked
  one_turns old also (turn ∷ turns) [] one other same a b asked l r = absurd asked
  one_turns old also (turn ∷ turns) (next ∷ others) one other same (between, act, acts)
      (middle, acted, more) (moment, message, asked) (l, ls) (r, rs) =
      let at : Act old next.moment turn.message turn.answer between =
      subst (λ (moment : ℕ). Act old moment turn.message turn.answer between) moment act in
      let of : Act old next.moment next.message turn.answer between =
      subst (λ (message : Message). Act old next.moment message turn.answer between) message at in
      let both : AreSame turn.answer between next.answer middle =
      replied turn.answer next.answer between middle l r
      (one_act old also next.moment next.message turn.answer next.answer between middle same of
      acted) in
      let rest : (turns ≡ others) × (past one ≡ past other) =
      one_turns between middle turns others one other (sym both.1) acts more asked ls rs in
      let turn_is : turn ≡ next =
      λ i. record { moment = moment i; message = message i; answer = both.0 i } in
      let turns_are : turn ∷ turns ≡ next ∷ others = λ i. turn_is i ∷ rest.0 i in
      (turns_are, rest.1)
