-- Two rehearsals of as many runs are one.
use Rattle.std.proofs.Common.{◌≡◌, ◌+◌, ◌++◌, ℕ, suc, List, [], ◌∷◌, Some, length, flat_map, refl, sym}
use Rattle.std.proofs.Common.{ap, subst, ◌∙◌, arith}
use Rattle.std.specs.List.{AllByRecursion}
use Rattle.pl_rehearsal.specs.Below.pl_alone.specs.Below.pl_history.specs.History.{facts_of}
use Rattle.pl_rehearsal.specs.Below.pl_alone.specs.Below.pl_service.specs.Past.{Past}
use Rattle.pl_rehearsal.specs.Below.pl_alone.specs.Desk.{Act, Parts, past}
use Rattle.pl_base.specs.declared.digest.Digest.{Digest}
use Rattle.pl_rehearsal.specs.Summary.{IsSummary, start, superseded_among}
use Rattle.pl_rehearsal.specs.declared.summary.Summary.{Summary}
use Rattle.pl_rehearsing.specs.Asking.{Asked, asked, requests_of, turns_from}
use Rattle.pl_rehearsing.specs.Drawn.{job_in}
use Rattle.pl_rehearsing.specs.Rehearsal.{IsGiven, Worked, asked_for, first_moment, report_of}
use Rattle.pl_reply_laws.specs.Alike.{AreOne}
use Rattle.pl_requests.specs.declared.reply.Reply.{Reply as Replied}
use Rattle.pl_requests.specs.declared.request.JobName.{JobName}
use Rattle.pl_requests.specs.declared.request.Request.{Request}
use Rattle.pl_requests.specs.declared.request.Request.TheVariants.{Draw}
use Rattle.pl_sessions.specs.Acts.{Acts}
use Rattle.pl_sessions.specs.declared.answer.Answer.{Answer}
use Rattle.pl_sessions.specs.declared.answer.Answer.TheVariants.{Reply}
use Rattle.pl_wire.specs.declared.message.Message.{Message}
use Rattle.pl_wire.specs.declared.message.Message.TheVariants.{Ask}

abbrev pub OneAct : Type 0
OneAct = (old also : Parts) (moment : ℕ) (message : Message) (left right : Answer)
    (one other : Parts) → past also ≡ past old → Act old moment message left one →
    Act also moment message right other → AreOne left one right other

behind_nothing : (n : ℕ) → n ≡ n + 0
behind_nothing n = omega arith

one_further : (n m : ℕ) → (n + 1) + m ≡ n + suc m
one_further n m = omega arith

-- the first turns, and those behind them
split : (caller : Digest) (moment : ℕ) (xs ys : List Asked) (old new : Parts) →
    Acts Act old (turns_from caller moment (xs ++ ys)) new →
    (between : Parts) × Acts Act old (turns_from caller moment xs) between
    × Acts Act between (turns_from caller (moment + length xs) ys) new
split caller moment [] ys old new acts = (
  old,
  refl,
  subst (λ n. Acts Act old (turns_from caller n ys) new) (behind_nothing moment) acts,
)
split caller moment (x ∷ xs) ys old new acts =
    let rest = split caller (moment + 1) xs ys acts.0 new acts.2 in (
      rest.0,
      (acts.0, acts.1, rest.1),
      subst (λ n. Acts Act rest.0 (turns_from caller n ys) new)
          (one_further moment (length xs)) rest.2,
    )

past_at : (one other : Parts) → one ≡ other → past one ≡ past other
past_at one other is = ap (λ (p : Parts). past p) is

module _ (one_act : OneAct) (caller : Digest) where
  -- what is asked alike is answered alike
  same_reply : (old also : Parts) (moment : ℕ) (asks wants : Request) (left right : Replied)
      (one other : Parts) → past also ≡ past old → asks ≡ wants →
      Act old moment (Ask caller asks) (Reply left) one →
      Act also moment (Ask caller wants) (Reply right) other →
      (left ≡ right) × (past one ≡ past other)
  same_reply old also moment asks wants left right one other same is a b =
      one_act old also moment (Ask caller wants) (Reply left) (Reply right) one other same
      (subst (λ (request : Request). Act old moment (Ask caller request) (Reply left) one) is a) b

  same_asked : (moment : ℕ) (xs ys : List Asked) (old also one other : Parts) →
      past also ≡ past old → requests_of xs ≡ requests_of ys →
      Acts Act old (turns_from caller moment xs) one →
      Acts Act also (turns_from caller moment ys) other →
      (length xs ≡ length ys) × (past one ≡ past other)
  same_asked moment [] [] old also one other same is a b =
      (refl, past_at one old a ∙ (sym same ∙ sym (past_at other also b)))
  same_asked moment [] (y ∷ ys) old also one other same is a b = absurd (cc is)
  same_asked moment (x ∷ xs) [] old also one other same is a b = absurd (cc is)
  same_asked moment (x ∷ xs) (y ∷ ys) old also one other same is a b =
      let head : x.request ≡ y.request = cc is in
      let tail : requests_of xs ≡ requests_of ys = cc is in
      let first = same_reply old also moment x.request y.request x.reply y.reply a.0 b.0 same head
      a.1 b.1 in
      let rest = same_asked (moment + 1) xs ys a.0 b.0 one other (sym first.1) tail a.2 b.2 in
      (ap suc rest.0, rest.1)

  abbrev worked_off : List Worked → Replied → List Asked
  worked_off worked last = flat_map asked_for worked ++ asked Draw last ∷ []

  same_worked : (moment : ℕ) (ws vs : List Worked) (last other_last : Replied)
      (old also one other : Parts) → past also ≡ past old → AllByRecursion IsGiven ws →
      AllByRecursion IsGiven vs → last.status ≡ 204 → other_last.status ≡ 204 →
      Acts Act old (turns_from caller moment (worked_off ws last)) one →
      Acts Act also (turns_from caller moment (worked_off vs other_last)) other →
      (length ws ≡ length vs) × (past one ≡ past other)
  same_worked moment [] [] last other_last old also one other same gs hs e f a b =
      let drawn = same_reply old also moment Draw Draw last other_last a.0 b.0 same refl a.1 b.1 in
      (refl, past_at one a.0 a.2 ∙ (drawn.1 ∙ sym (past_at other b.0 b.2)))
  same_worked moment [] (v ∷ vs) last other_last old also one other same gs hs e f a b =
      let drawn = same_reply old also moment Draw Draw last v.drawn a.0 b.0 same refl a.1 b.1 in
      let wrong : 204 ≡ 200 =
      sym e ∙ (ap (λ (reply : Replied). reply.status) drawn.0 ∙ hs.0.0) in
      absurd (omega (arith, wrong))
  same_worked moment (w ∷ ws) [] last other_last old also one other same gs hs e f a b =
      let drawn = same_reply old also moment Draw Draw w.drawn other_last a.0 b.0 same refl a.1
      b.1 in
      let wrong : 200 ≡ 204 =
      sym gs.0.0 ∙ (ap (λ (reply : Replied). reply.status) drawn.0 ∙ f) in
      absurd (omega (arith, wrong))
  same_worked moment (w ∷ ws) (v ∷ vs) last other_last old also one other same gs hs e f a b =
      let drawn = same_reply old also moment Draw Draw w.drawn v.drawn a.0 b.0 same refl a.1 b.1 in
      let named : Some w.job ≡ Some v.job =
      sym gs.0.1 ∙ (ap (λ (reply : Replied). job_in reply.body) drawn.0 ∙ hs.0.1) in
      let job : w.job ≡ v.job = cc named in
      let told = same_reply a.0 b.0 (moment + 1) (report_of w.job) (report_of v.job) w.reported
      v.reported a.2.0 b.2.0 (sym drawn.1) (ap (λ (name : JobName). report_of name) job) a.2.1
      b.2.1 in
      let rest = same_worked (moment + 1 + 1) ws vs last other_last a.2.0 b.2.0 one other
      (sym told.1) gs.1 hs.1 e f a.2.2 b.2.2 in
      (ap suc rest.0, rest.1)

pub one_summary : OneAct → (admin : Digest) (runs : ℕ) (left right : Summary) →
    IsSummary admin runs left → IsSummary admin runs right → left ≡ right
one_summary one_act admin runs left right is has =
    let a = is.rehearsal in
    let b = has.rehearsal in
    let l = split admin first_moment a.begun (worked_off one_act admin a.worked a.last)
    (start admin) is.desk a.acts in
    let r = split admin first_moment b.begun (worked_off one_act admin b.worked b.last)
    (start admin) has.desk b.acts in
    let begun = same_asked one_act admin first_moment a.begun b.begun (start admin) (start admin)
    l.0 r.0 refl (a.begins ∙ sym b.begins) l.1 r.1 in
    let worked = same_worked one_act admin (first_moment + length b.begun) a.worked b.worked a.last
    b.last l.0 r.0 is.desk has.desk (sym begun.1) a.given b.given a.ends b.ends
    (subst (λ n. Acts Act l.0 (turns_from admin (first_moment + n)
    (worked_off one_act admin a.worked a.last)) is.desk) begun.0 l.2) r.2 in
    let superseded = is.superseded_are
    ∙ (ap (λ (p : Past). superseded_among (facts_of p.entries)) worked.1
    ∙ sym has.superseded_are) in
    let jobs = is.jobs_are ∙ (worked.0 ∙ sym has.jobs_are) in
    let queued = is.runs_are ∙ sym has.runs_are in
    λ i. record { runs = queued i; jobs = jobs i; superseded = superseded i }
