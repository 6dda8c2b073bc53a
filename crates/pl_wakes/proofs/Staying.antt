-- Verdicts that stay.
use Rattle.std.proofs.Common.{◌≡◌, ◌≤◌, ◌<◌, ◌+◌, ◌⊎◌, ℕ, List, [], ◌∷◌, Option, Some}
use Rattle.std.proofs.Common.{None, get_or, length, take, refl, ap, subst, inl, inr, arith}
use Rattle.std.specs.List.{All}
use Rattle.std.specs.Option.{IfSome}
use Rattle.std.proofs.lemmas.Bool.{cases_lt}
use Rattle.std.proofs.lemmas.List.Elements.{All-head, All-more, All-tail, All-weaker}
use Rattle.pl_checks.specs.Approvals.{IsApprovalVerdict, deadline}
use Rattle.pl_checks.specs.Verdicts.{IsVerdict}
use Rattle.pl_checks.specs.declared.check.Approval.{Approval as AnApproval}
use Rattle.pl_checks.specs.declared.check.BranchControl.{BranchControl}
use Rattle.pl_checks.specs.declared.check.Check.{Check}
use Rattle.pl_checks.specs.declared.check.Check.TheVariants.{Approval, Branch}
use Rattle.pl_checks.specs.declared.check.Check.TheVariants.{RequiredTemplate}
use Rattle.pl_checks.specs.declared.check.RequiredTemplate.{RequiredTemplate as ATemplate}
use Rattle.pl_checks.specs.declared.view.CheckView.{CheckView}
use Rattle.pl_checks.specs.declared.view.Verdict.{Verdict}
use Rattle.pl_checks.specs.declared.view.Verdict.TheVariants.{Pass, Wait, Fail}
use Rattle.pl_judgement.specs.Said.{all_pass, first_fail}
use Rattle.pl_wakes.specs.Steady.{AreSteady, IsBefore, IsSteady, SameSaid, SaysSame, StillSay}
use Rattle.pl_wakes.specs.Steady.{StillSays, sooner}

-- ---- moments

pub before_first : (later : ℕ) (one other : Option ℕ) → IsBefore later (sooner one other) →
    IsBefore later one
before_first later None other before = tt
before_first later (Some one) None before = before
before_first later (Some one) (Some other) before = omega (arith, before)

pub before_second : (later : ℕ) (one other : Option ℕ) → IsBefore later (sooner one other) →
    IsBefore later other
before_second later None other before = before
before_second later (Some one) None before = tt
before_second later (Some one) (Some other) before = omega (arith, before)

-- ---- one check

same_itself : (verdict : Verdict) → SameSaid verdict verdict
same_itself Pass = tt
same_itself (Wait rule) = tt
same_itself (Fail rule) = refl

-- what doesn't ask the moment
pub always : (check : Check) (view : CheckView) (from : ℕ) (until : Option ℕ) →
    ((one other : ℕ) (verdict : Verdict) → IsVerdict check view one verdict →
    IsVerdict check view other verdict) → IsSteady check view from until
always check view from until same later behind before = record {
  ahead = λ verdict is. (verdict, same from later verdict is, same_itself verdict);
  back = λ verdict is. (verdict, same later from verdict is, same_itself verdict);
}

pub template_stays : (check : ATemplate) (view : CheckView) (from : ℕ) (until : Option ℕ) →
    IsSteady (RequiredTemplate check) view from until
template_stays check view from until =
    always (RequiredTemplate check) view from until (λ one other verdict is. is)

pub branch_stays : (check : BranchControl) (view : CheckView) (from : ℕ) (until : Option ℕ) →
    IsSteady (Branch check) view from until
branch_stays check view from until =
    always (Branch check) view from until (λ one other verdict is. is)

-- until the next moment everything stays
pub next_stays : (check : Check) (view : CheckView) (from : ℕ) →
    IsSteady check view from (Some (from + 1))
next_stays check view from later behind before =
    let same : from ≡ later = omega (arith, behind, before) in
    subst (λ moment. SaysSame check view from moment) same (record {
      ahead = λ verdict is. (verdict, is, same_itself verdict);
      back = λ verdict is. (verdict, is, same_itself verdict);
    })

module _ (check : AnApproval) (view : CheckView) (from : ℕ) (until : Option ℕ)
    (within : from < deadline view.ready check.minutes → (later : ℕ) → IsBefore later until →
    later < deadline view.ready check.minutes) where
  approval_ahead : (later : ℕ) → from ≤ later → IsBefore later until → (verdict : Verdict) →
      IsApprovalVerdict check view from verdict → IsApprovalVerdict check view later verdict
  approval_ahead later behind before Pass is = is
  approval_ahead later behind before (Wait rule) is =
      (is.0, is.1, is.2, within is.3 later before)
  approval_ahead later behind before (Fail rule) (inl rejected) = inl rejected
  approval_ahead later behind before (Fail rule) (inr over) =
      inr (over.0, over.1, over.2, omega (arith, over.3, behind))

  approval_back : (later : ℕ) → from ≤ later → IsBefore later until → (verdict : Verdict) →
      IsApprovalVerdict check view later verdict → IsApprovalVerdict check view from verdict
  approval_back later behind before Pass is = is
  approval_back later behind before (Wait rule) is =
      (is.0, is.1, is.2, omega (arith, is.3, behind))
  approval_back later behind before (Fail rule) (inl rejected) = inl rejected
  approval_back later behind before (Fail rule) (inr over) =
      inr (over.0, over.1, over.2, by (cases_lt from (deadline view.ready check.minutes)))
    where
      by : (from < deadline view.ready check.minutes)
          ⊎ (deadline view.ready check.minutes ≤ from) →
          deadline view.ready check.minutes ≤ from
      by (inl early) = let late = within early later before in
          absurd (omega (arith, late, over.3))
      by (inr over_now) = over_now

  pub approval_stays : IsSteady (Approval check) view from until
  approval_stays later behind before = record {
    ahead = λ verdict is.
        (verdict, approval_ahead later behind before verdict is, same_itself verdict);
    back = λ verdict is.
        (verdict, approval_back later behind before verdict is, same_itself verdict);
  }

-- ---- several checks

said_first : (left right : Verdict) (lefts rights : List Verdict) → SameSaid left right →
    first_fail lefts ≡ first_fail rights → first_fail (left ∷ lefts) ≡ first_fail (right ∷ rights)
said_first Pass Pass lefts rights same rest = rest
said_first (Wait rule) (Wait other) lefts rights same rest = rest
said_first (Fail rule) (Fail other) lefts rights same rest = ap Some same
said_first Pass (Wait other) lefts rights same rest = absurd same
said_first Pass (Fail other) lefts rights same rest = absurd same
said_first (Wait rule) Pass lefts rights same rest = absurd same
said_first (Wait rule) (Fail other) lefts rights same rest = absurd same
said_first (Fail rule) Pass lefts rights same rest = absurd same
said_first (Fail rule) (Wait other) lefts rights same rest = absurd same

said_all : (left right : Verdict) (lefts rights : List Verdict) → SameSaid left right →
    all_pass lefts ≡ all_pass rights → all_pass (left ∷ lefts) ≡ all_pass (right ∷ rights)
said_all Pass Pass lefts rights same rest = rest
said_all (Wait rule) (Wait other) lefts rights same rest = refl
said_all (Fail rule) (Fail other) lefts rights same rest = refl
said_all Pass (Wait other) lefts rights same rest = absurd same
said_all Pass (Fail other) lefts rights same rest = absurd same
said_all (Wait rule) Pass lefts rights same rest = absurd same
said_all (Wait rule) (Fail other) lefts rights same rest = absurd same
said_all (Fail rule) Pass lefts rights same rest = absurd same
said_all (Fail rule) (Wait other) lefts rights same rest = absurd same

pub still_say : (checks : List Check) (view : CheckView) (from to : ℕ) →
    All (λ check. StillSays check view from to) checks → StillSay checks view from to
still_say [] view from to all [] are = ([], tt, refl, refl)
still_say [] view from to all (left ∷ lefts) are = absurd are
still_say (check ∷ checks) view from to all [] are = absurd are
still_say (check ∷ checks) view from to all (left ∷ lefts) are =
    let one = All-head (λ it. StillSays it view from to) check checks all left are.0 in
    let rest = still_say checks view from to
    (All-tail (λ it. StillSays it view from to) check checks all) lefts are.1 in (
      one.0 ∷ rest.0,
      (one.1, rest.1),
      said_first left one.0 lefts rest.0 one.2 rest.2,
      said_all left one.0 lefts rest.0 one.2 rest.3,
    )

pub says_ahead : (checks : List Check) (view : CheckView) (from later : ℕ) →
    All (λ check. SaysSame check view from later) checks → StillSay checks view from later
says_ahead checks view from later all =
    still_say checks view from later (λ k d within. (all k d within).ahead)

pub says_back : (checks : List Check) (view : CheckView) (from later : ℕ) →
    All (λ check. SaysSame check view from later) checks → StillSay checks view later from
says_back checks view from later all =
    still_say checks view later from (λ k d within. (all k d within).back)

-- ---- the soonest

pub steady_more : (checks : List Check) (i : ℕ) (check : Check) (ready from : ℕ)
    (until one : Option ℕ) → i < length checks → AreSteady (take i checks) ready from until →
    ((view : CheckView) → view.ready ≡ ready → IsSteady (get_or checks i check) view from one) →
    AreSteady (take (i + 1) checks) ready from (sooner until one)
steady_more checks i check ready from until one within so_far more view is =
    All-more (λ it. IsSteady it view from (sooner until one)) checks i check within
    (All-weaker (λ it. IsSteady it view from until)
    (λ it. IsSteady it view from (sooner until one))
    (λ it steady later behind before. steady later behind
    (before_first later until one before)) (take i checks) (so_far view is))
    (λ later behind before. more view is later behind (before_second later until one before))

pub later_both : (moment : ℕ) (one other : Option ℕ) → IfSome one (λ at. moment < at) →
    IfSome other (λ at. moment < at) → IfSome (sooner one other) (λ at. moment < at)
later_both moment None other less more = more
later_both moment (Some one) None less more = less
later_both moment (Some one) (Some other) less more = omega (arith, less, more)
