-- The parts of a rehearsal, one behind the other.
use Rattle.std.proofs.Common.{◌≡◌, ◌+◌, ◌++◌, ℕ, suc, List, [], ◌∷◌, Some, length, flat_map, refl}
use Rattle.std.proofs.Common.{sym, ap, subst, ◌∙◌, arith, length-append}
use Rattle.std.specs.List.{AllByRecursion}
use Rattle.pl_generated.specs.Input.{input, text}
use Rattle.pl_rehearsing.proofs.Behind.{asks_more, asks_none}
use Rattle.pl_rehearsing.specs.Asking.{Asked, Asks, asked, requests_of}
use Rattle.pl_rehearsing.specs.Drawn.{job_in}
use Rattle.pl_rehearsing.specs.Parts.{Begins, Queues, Reports, Works, WorksOff}
use Rattle.pl_rehearsing.specs.Rehearsal.{IsGiven, Rehearsal, Worked, asked_for, first_moment}
use Rattle.pl_rehearsing.specs.Rehearsal.{report_of}
use Rattle.pl_rehearsing.specs.declared.asking.Asker.{Asker}
use Rattle.pl_requests.specs.declared.reply.Reply.{Reply as Replied}
use Rattle.pl_requests.specs.declared.request.JobName.{JobName}
use Rattle.pl_requests.specs.declared.request.Request.{Request}
use Rattle.pl_requests.specs.declared.request.Request.TheVariants.{Draw, QueueText}
use Rattle.pl_sessions.specs.declared.answer.Answer.{Answer}
use Rattle.pl_wire.specs.declared.message.Message.{Message}

plus_one : (n : ℕ) → suc n ≡ n + 1
plus_one n = omega arith

input_more : (runs : ℕ) → input runs ++ QueueText (text (runs + 1)) ∷ [] ≡ input (runs + 1)
input_more runs =
    subst (λ n. input runs ++ QueueText (text n) ∷ [] ≡ input n) (plus_one runs) refl

requests_append : (xs : List Asked) (one : Asked) →
    requests_of (xs ++ one ∷ []) ≡ requests_of xs ++ one.request ∷ []
requests_append [] one = refl
requests_append (x ∷ xs) one = ap (λ all. x.request ∷ all) (requests_append xs one)

given_more : (xs : List Worked) (one : Worked) → AllByRecursion IsGiven xs → IsGiven one →
    AllByRecursion IsGiven (xs ++ one ∷ [])
given_more [] one all is = (is, tt)
given_more (x ∷ xs) one all is = (all.0, given_more xs one all.1 is)

asked_more : (xs : List Worked) (one : Worked) →
    flat_map asked_for xs ++ asked_for one ≡ flat_map asked_for (xs ++ one ∷ [])
asked_more [] one = refl
asked_more (x ∷ xs) one =
    ap (λ all. asked Draw x.drawn ∷ asked (report_of x.job) x.reported ∷ all) (asked_more xs one)

module _ {D : Type 0} (act : D → ℕ → Message → Answer → D → Type 0) (old : D) (asker : Asker)
    (between new : D) (middle behind : Asker) where
  pub begins_once : (request : Request) (reply : Replied) → request ∷ [] ≡ input 0 →
      Asks act old asker (asked request reply ∷ []) new behind →
      Begins act 0 old asker new behind
  begins_once request reply is asks = (asked request reply ∷ [], is, asks)

  pub begins_more : (runs : ℕ) → Begins act runs old asker between middle →
      Queues act (runs + 1) between middle new behind → Begins act (runs + 1) old asker new behind
  begins_more runs begins queues =
      let one = asked (QueueText (text (runs + 1))) queues.0 in (
        begins.0 ++ one ∷ [],
        requests_append begins.0 one ∙ (ap (λ all. all ++ one.request ∷ []) begins.1
            ∙ input_more runs),
        asks_more act old between new asker middle behind begins.0 (one ∷ []) begins.2 queues.1,
      )

  pub queued : (number : ℕ) (request : Request) (reply : Replied) →
      request ≡ QueueText (text number) → Asks act old asker (asked request reply ∷ []) new behind →
      Queues act number old asker new behind
  queued number request reply is asks = (
    reply,
    subst (λ (one : Request). Asks act old asker (asked one reply ∷ []) new behind) is asks,
  )

  pub reports : (drawn : Replied) (job : JobName) (request : Request) (reply : Replied) →
      drawn.status ≡ 200 → job_in drawn.body ≡ Some job → request ≡ report_of job →
      Asks act old asker (asked request reply ∷ []) new behind →
      Reports act drawn old asker new behind
  reports drawn job request reply status told is asks = (
    job,
    reply,
    status,
    told,
    subst (λ (one : Request). Asks act old asker (asked one reply ∷ []) new behind) is asks,
  )

  pub works_last : (jobs : ℕ) (last : Replied) → last.status ≡ 204 →
      WorksOff act jobs old asker between middle →
      Asks act between middle (asked Draw last ∷ []) new behind → Works act jobs old asker new behind
  works_last jobs last is works asks = (
    works.0,
    last,
    works.1,
    works.2,
    is,
    asks_more act old between new asker middle behind (flat_map asked_for works.0)
        (asked Draw last ∷ []) works.3 asks,
  )

  pub rehearsed : (jobs runs : ℕ) → asker.moment ≡ first_moment →
      Begins act runs old asker between middle → Works act jobs between middle new behind →
      (one : Rehearsal act asker.caller runs old new) × (jobs ≡ length one.worked)
  rehearsed jobs runs at begins works = (
    record {
      begun = begins.0;
      worked = works.0;
      last = works.1;
      begins = begins.1;
      given = works.3;
      ends = works.4;
      acts = (subst (λ n. Asks act old (record { caller = asker.caller; moment = n })
          (begins.0 ++ (flat_map asked_for works.0 ++ asked Draw works.1 ∷ [])) new behind) at
          (asks_more act old between new asker middle behind begins.0
          (flat_map asked_for works.0 ++ asked Draw works.1 ∷ []) begins.2 works.5)).acts;
    },
    sym works.2,
  )

module _ {D : Type 0} (act : D → ℕ → Message → Answer → D → Type 0) where
  pub works_none : (desk : D) (asker : Asker) → WorksOff act 0 desk asker desk asker
  works_none desk asker = ([], refl, tt, asks_none act desk asker)

  pub works_more : (old : D) (asker : Asker) (jobs : ℕ) (drawn : Replied) (one two new : D)
      (first second behind : Asker) → WorksOff act jobs old asker one first →
      Asks act one first (asked Draw drawn ∷ []) two second →
      Reports act drawn two second new behind → WorksOff act (jobs + 1) old asker new behind
  works_more old asker jobs drawn one two new first second behind works draws reports =
      let worked : Worked = record { job = reports.0; drawn = drawn; reported = reports.1 } in (
        works.0 ++ worked ∷ [],
        length-append works.0 (worked ∷ []) ∙ ap (λ n. n + 1) works.1,
        given_more works.0 worked works.2 (reports.2, reports.3),
        subst (λ all. Asks act old asker all new behind) (asked_more works.0 worked)
            (asks_more act old one new asker first behind (flat_map asked_for works.0)
            (asked_for worked) works.3
            (asks_more act one two new first second behind (asked Draw drawn ∷ [])
            (asked (report_of reports.0) reports.1 ∷ []) draws reports.4)),
      )
