-- The facts and a moment leave no choice in what is due.
use Rattle.std.proofs.Common.{◌≡◌, ◌≤◌, ◌⊎◌, ℕ, List, [], ◌∷◌, Option}
use Rattle.std.proofs.Common.{Some, None, drop, refl, sym, ap, ◌∙◌, subst, arith, inl, inr, ⊎_elim}
use Rattle.std.specs.List.{Contains}
use Rattle.pl_base.specs.declared.outcome.Outcome.TheVariants.{Skipped}
use Rattle.pl_checks.specs.declared.check.Check.{Check}
use Rattle.pl_checks.specs.declared.view.CheckView.{CheckView}
use Rattle.pl_checks.specs.declared.view.Verdict.{Verdict}
use Rattle.pl_checks.specs.Verdicts.{IsVerdict}
use Rattle.pl_facts.specs.declared.fact.Event.{Event}
use Rattle.pl_facts.specs.declared.fact.Event.TheVariants.{StageEnded, StageStarted}
use Rattle.pl_facts.specs.declared.fact.Fact.{Fact}
use Rattle.pl_facts.specs.declared.fact.QueuedRun.{QueuedRun}
use Rattle.pl_judgement.specs.Said.{first_fail}
use Rattle.pl_judgement.proofs.Asking.{one_list}
use Rattle.pl_locks.specs.Locks.{IsLeastLaterRun, IsLeastSuperseded, IsNext, Locks}
use Rattle.pl_locks.specs.Locks.{IsSuperseded, MayStart, Precedes}
use Rattle.pl_locks.specs.Kept.{IsOrdered}
use Rattle.pl_locks.specs.declared.contender.Contender.{Contender}
use Rattle.pl_locks.proofs.Ordered.{neither_precedes, same_at}
use Rattle.pl_plan.specs.declared.plan.PlanStage.{PlanStage}
use Rattle.pl_rules.specs.declared.rule.Rule.TheVariants as rules
use Rattle.pl_views.specs.CheckViews.{check_view}
use Rattle.pl_due.specs.Checked.{AreVerdictsOf, all_checks}
use Rattle.pl_due.specs.Contention.{AreThose, Holds, InRun, IsContention, IsEligible, IsOne}
use Rattle.pl_due.specs.Contention.{contender_of, locks}
use Rattle.pl_due.specs.Due.{Among, IsDue, Next, Superseded, findings}
use Rattle.pl_due.specs.Kinds.{Fails, IsDone, IsPassedOver, JobIsPassedOver, TimesOut, fail_end}
use Rattle.pl_due.specs.Least.{FirstOf, InStage, Least, OfStages}
use Rattle.pl_due.specs.Least.{Precedes as Before}
use Rattle.pl_due.specs.Nodes.{IsStageOf}
use Rattle.pl_due.proofs.Members.{cons_cases, head_before, here, of_member, tail_pairs, there}
use Rattle.pl_due.proofs.OneStage.{moved, one_planned, one_told}

-- a finding that gives one thing alone
pub record IsExact (finding : Option Event → Type 0) : Type 0 where
  pub one : (a b : Event) → finding (Some a) → finding (Some b) → a ≡ b
  pub apart : (a : Event) → finding (Some a) → finding None → ⊥

first_exact : (finding : Option Event → Type 0) (rest : List (Option Event → Type 0)) →
    IsExact finding →
    ((a b : Option Event) → FirstOf rest a → FirstOf rest b → a ≡ b) →
    (a b : Option Event) → FirstOf (finding ∷ rest) a → FirstOf (finding ∷ rest) b → a ≡ b
first_exact finding rest exact others a b (inl (x, is, found)) (inl (y, also, too)) =
    is ∙ ap (λ (e : Event). Some e) (exact.one x y found too) ∙ sym also
first_exact finding rest exact others a b (inl (x, is, found)) (inr (none, later)) =
    absurd (exact.apart x found none)
first_exact finding rest exact others a b (inr (none, later)) (inl (y, also, too)) =
    absurd (exact.apart y too none)
first_exact finding rest exact others a b (inr (none, later)) (inr (nothing, after)) =
    others a b later after

-- ---- the least of a kind

trichotomy : (r s j p q k : ℕ) → (Before r s j p q k → ⊥) → (Before p q k r s j → ⊥) →
    (r ≡ p) × (s ≡ q) × (j ≡ k)
trichotomy r s j p q k left right = (grind arith, grind arith, grind arith)

least_exact : (facts : List Fact) (kind : InStage) →
    ((told : QueuedRun) (one : PlanStage) (run stage job : ℕ) (a b : Event) →
    kind told one run stage job a → kind told one run stage job b → a ≡ b) →
    IsExact (Least facts kind)
least_exact facts kind one = record {
  one = λ a b left right.
      let (r, s, j) = trichotomy left.run left.stage left.job right.run right.stage right.job
      (right.least left.run left.stage left.job a left.is)
      (left.least right.run right.stage right.job b right.is) in
      let (told, planned, is_there, k) = right.is in
      let (t, o, also, h) : OfStages facts kind right.run right.stage right.job a =
      subst (λ x. OfStages facts kind right.run right.stage x a) j
      (subst (λ x. OfStages facts kind right.run x left.job a) s
      (subst (λ x. OfStages facts kind x left.stage left.job a) r left.is)) in
      one told planned right.run right.stage right.job a b
      (moved facts right.run right.stage t told o planned
      (λ x y. kind x y right.run right.stage right.job a) also is_there h) k;
  apart = λ a left none. none left.run left.stage left.job a left.is;
}

-- ---- lists in order with the same members are one list

irreflexive : (stage : Contender) → Precedes stage stage → ⊥
irreflexive stage h = ⊎_elim (λ run. omega arith) (λ same. omega arith) h

one_way : (a b : Contender) → Precedes a b → Precedes b a → ⊥
one_way a b h k = grind arith

abbrev Within : List Contender → List Contender → Type 0
Within xs ys = (z : Contender) → Contains xs z → Contains ys z

one_head : (x y : Contender) (xs ys : List Contender) → IsOrdered (x ∷ xs) → IsOrdered (y ∷ ys) →
    Contains (y ∷ ys) x → Contains (x ∷ xs) y → x ≡ y
one_head x y xs ys left right also too =
    ⊎_elim (λ same. sym same)
    (λ behind. ⊎_elim (λ same. same)
    (λ after. absurd (one_way y x (head_before Precedes y x ys right behind)
    (head_before Precedes x y xs left after)))
    (cons_cases y x xs too))
    (cons_cases x y ys also)

within_rest : (x : Contender) (xs ys : List Contender) → IsOrdered (x ∷ xs) →
    Within (x ∷ xs) (x ∷ ys) → Within xs ys
within_rest x xs ys ordered whole z among =
    ⊎_elim (λ same. absurd (irreflexive x (subst (Precedes x) (sym same)
    (head_before Precedes x z xs ordered among))))
    (λ behind. behind)
    (cons_cases z x ys (whole z (there z x xs among)))

one_list_of : (xs ys : List Contender) → IsOrdered xs → IsOrdered ys → Within xs ys →
    Within ys xs → xs ≡ ys
one_list_of [] [] left right also too = refl
one_list_of [] (y ∷ ys) left right also too =
    let (k, below, is) = too y (here y ys) in absurd (omega arith)
one_list_of (x ∷ xs) [] left right also too =
    let (k, below, is) = also x (here x xs) in absurd (omega arith)
one_list_of (x ∷ xs) (y ∷ ys) left right also too =
    let e = one_head x y xs ys left right (also x (here x xs)) (too y (here y ys)) in
    let P : Contender → Type 0 = λ z. IsOrdered (z ∷ ys) in
    let Q : Contender → Type 0 = λ z. Within (x ∷ xs) (z ∷ ys) in
    let R : Contender → Type 0 = λ z. Within (z ∷ ys) (x ∷ xs) in
    let right_x : IsOrdered (x ∷ ys) = subst P (sym e) right in
    let rest = one_list_of xs ys (tail_pairs Precedes x xs left) (tail_pairs Precedes y ys right)
    (within_rest x xs ys left (subst Q (sym e) also))
    (within_rest x ys xs right_x (subst R (sym e) too)) in
    ap (λ z. z ∷ xs) e ∙ ap (λ zs. y ∷ zs) rest

-- ---- the contenders are what they are

module _ (facts : List Fact) (P : InRun) (xs ys : List Contender)
    (left : AreThose facts P xs) (right : AreThose facts P ys) where
  pub also_in : Within xs ys
  also_in stage is =
      let one = of_member (IsOne facts P) xs stage left.only is in
      let (k, other, below, at, same_place) =
      right.all one.told one.one stage.run stage.position one.there one.holds in
      let two = of_member (IsOne facts P) ys other right.only (k, below, at) in
      let is_here : IsStageOf facts stage.run stage.position two.told two.one =
      subst (λ s. IsStageOf facts stage.run s two.told two.one) same_place.1
      (subst (λ r. IsStageOf facts r other.position two.told two.one) same_place.0 two.there) in
      let t = one_told facts stage.run stage.position two.told one.told two.one one.one is_here
      one.there in
      let o = one_planned facts stage.run stage.position two.told one.told two.one one.one is_here
      one.there in
      let e : other ≡ stage = two.is
      ∙ ap (λ r. contender_of facts two.told two.one r other.position) same_place.0
      ∙ ap (λ s. contender_of facts two.told two.one stage.run s) same_place.1
      ∙ ap (λ q. contender_of facts q two.one stage.run stage.position) t
      ∙ ap (λ p. contender_of facts one.told p stage.run stage.position) o
      ∙ sym one.is in
      subst (Contains ys) e (k, below, at)

one_those : (facts : List Fact) (P : InRun) (xs ys : List Contender) → AreThose facts P xs →
    AreThose facts P ys → xs ≡ ys
one_those facts P xs ys left right = one_list_of xs ys left.ordered right.ordered
    (also_in facts P xs ys left right) (also_in facts P ys xs right left)

pub one_contention : (facts : List Fact) (moment : ℕ) (some others : Locks) →
    IsContention facts moment some → IsContention facts moment others → some ≡ others
one_contention facts moment some others left right =
    let e = one_those facts (IsEligible facts moment) some.eligible others.eligible left.eligible
    right.eligible in
    let h = one_those facts (Holds facts) some.holders others.holders left.holders
    right.holders in
    ap (λ x. locks x some.holders) e ∙ ap (λ x. locks others.eligible x) h

-- ---- among them

pub record IsExactIn (finding : Locks → Option Event → Type 0) : Type 0 where
  pub one : (some : Locks) → IsOrdered some.eligible → (a b : Event) → finding some (Some a) →
      finding some (Some b) → a ≡ b
  pub apart : (some : Locks) → (a : Event) → finding some (Some a) → finding some None → ⊥

among_exact : (facts : List Fact) (moment : ℕ) (finding : Locks → Option Event → Type 0) →
    IsExactIn finding → IsExact (Among facts moment finding)
among_exact facts moment finding exact = record {
  one = λ a b (some, left, found) (others, right, too).
      let same = one_contention facts moment others some right left in
      exact.one some left.eligible.ordered a b found
      (subst (λ l. finding l (Some b)) same too);
  apart = λ a (some, left, found) (others, right, none).
      let same = one_contention facts moment others some right left in
      exact.apart some a found (subst (λ l. finding l None) same none);
}

module _ (eligible : List Contender) (ordered : IsOrdered eligible) where
  one_superseded : (left right : Contender) → IsLeastSuperseded eligible left →
      IsLeastSuperseded eligible right → left ≡ right
  one_superseded left right a b = same_at eligible left right ordered a.is_eligible b.is_eligible
      (neither_precedes left right (b.least left a.is_eligible a.superseded)
      (a.least right b.is_eligible b.superseded))

  one_next : (holders : List Contender) (left right : Contender) →
      IsNext eligible holders left → IsNext eligible holders right → left ≡ right
  one_next holders left right a b = same_at eligible left right ordered a.is_eligible b.is_eligible
      (neither_precedes left right (b.least left a.is_eligible a.may_start)
      (a.least right b.is_eligible b.may_start))

at_most : (eligible : List Contender) (stage : Contender) (m n : ℕ) →
    IsLeastLaterRun eligible stage m → IsLeastLaterRun eligible stage n → n ≤ m
at_most eligible stage m n left right =
    let (k, later, below, is, (gives, run)) = left.some in
    let le = right.least later (k, below, is) gives in
    omega (arith, le, run)

abbrev end_of : Contender → ℕ → Event
end_of stage run = StageEnded stage.run stage.position Skipped (Some (rules.LockSuperseded run))

superseded_exact : IsExactIn Superseded
superseded_exact = record {
  one = λ some ordered a b left right.
      let same = one_superseded some.eligible ordered left.stage right.stage left.is right.is in
      let P : Contender → Type 0 = λ x. IsLeastLaterRun some.eligible x left.run in
      let later = subst P same left.later in
      let le = at_most some.eligible right.stage left.run right.run later right.later in
      let ge = at_most some.eligible right.stage right.run left.run right.later later in
      let n : left.run ≡ right.run = omega (arith, le, ge) in
      left.gets ∙ ap (λ x. end_of x left.run) same ∙ ap (end_of right.stage) n ∙ sym right.gets;
  apart = λ some a found none.
      of_member (λ one. IsSuperseded some.eligible one → ⊥) some.eligible found.stage none
      found.is.is_eligible found.is.superseded;
}

abbrev start_of : Contender → Event
start_of stage = StageStarted stage.run stage.position

next_exact : IsExactIn Next
next_exact = record {
  one = λ some ordered a b left right.
      let same = one_next some.eligible ordered some.holders left.stage right.stage left.is
      right.is in
      left.gets ∙ ap start_of same ∙ sym right.gets;
  apart = λ some a found none.
      of_member (λ one. MayStart some.eligible some.holders one → ⊥) some.eligible found.stage none
      found.is.is_eligible found.is.may_start;
}

-- ---- all seven kinds

module _ (one : (check : Check) (view : CheckView) (moment : ℕ) (left right : Verdict) →
    IsVerdict check view moment left → IsVerdict check view moment right → left ≡ right)
    (facts : List Fact) (moment : ℕ) where
  pub one_verdicts : (told : QueuedRun) (planned : PlanStage) (run stage : ℕ)
      (left right : List Verdict) → AreVerdictsOf facts moment told planned run stage left →
      AreVerdictsOf facts moment told planned run stage right → left ≡ right
  one_verdicts told planned run stage left right a b = one_list
      (λ check verdict. IsVerdict check (check_view told planned run stage facts) moment verdict)
      (λ check l r. one check (check_view told planned run stage facts) moment l r)
      (all_checks facts planned.uses) left right a b

  fails_exact : (told : QueuedRun) (planned : PlanStage) (run stage job : ℕ) (a b : Event) →
      Fails facts moment told planned run stage job a →
      Fails facts moment told planned run stage job b → a ≡ b
  fails_exact told planned run stage job a b left right =
      let same = one_verdicts told planned run stage left.verdicts right.verdicts left.are
      right.are in
      let some : Some left.rule ≡ Some right.rule =
      sym left.first ∙ ap first_fail same ∙ right.first in
      let rule : left.rule ≡ right.rule = cc in
      left.gets ∙ ap (fail_end run stage) rule ∙ sym right.gets

  abbrev rest : ℕ → List (Option Event → Type 0)
  rest count = drop count (findings facts moment)

  pub one_due : (a b : Option Event) → IsDue facts moment a → IsDue facts moment b → a ≡ b
  one_due =
      first_exact (Least facts (TimesOut facts moment)) (rest 1)
      (least_exact facts (TimesOut facts moment)
      (λ told planned run stage job a b left right. left.gets ∙ sym right.gets))
      (first_exact (Least facts (JobIsPassedOver facts)) (rest 2)
      (least_exact facts (JobIsPassedOver facts)
      (λ told planned run stage job a b left right. left.gets ∙ sym right.gets))
      (first_exact (Least facts (IsDone facts)) (rest 3)
      (least_exact facts (IsDone facts)
      (λ told planned run stage job a b left right. left.gets ∙ sym right.gets))
      (first_exact (Least facts (IsPassedOver facts)) (rest 4)
      (least_exact facts (IsPassedOver facts)
      (λ told planned run stage job a b left right. left.gets ∙ sym right.gets))
      (first_exact (Least facts (Fails facts moment)) (rest 5)
      (least_exact facts (Fails facts moment) fails_exact)
      (first_exact (Among facts moment Superseded) (rest 6)
      (among_exact facts moment Superseded superseded_exact)
      (first_exact (Among facts moment Next) (rest 7)
      (among_exact facts moment Next next_exact)
      (λ a b none nothing. none ∙ sym nothing)))))))
