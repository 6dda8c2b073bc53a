-- Until when several things stay.
use Rattle.std.proofs.Common.{◌≡◌, ◌≤◌, ◌<◌, ◌+◌, ◌*◌, ◌++◌, nat_lt, nat_le, min, ℕ, Bool, true}
use Rattle.std.proofs.Common.{false, List, length, filter, flat_map, Option, Some, None, refl, sym, ap}
use Rattle.std.proofs.Common.{subst, ◌∙◌, arith, get_or, take, slice_get, ⊎_elim}
use Rattle.std.specs.List.{All}
use Rattle.std.specs.Option.{option_map_or}
use Rattle.std.proofs.lemmas.Bool.{cases_lt, false≢true}
use Rattle.std.proofs.lemmas.List.Elements.{All-append, All-filter, All-weaker}
use Rattle.std.proofs.lemmas.Option.{slice_get_within}
use Rattle.pl_base.specs.declared.resource.ResourceKey.{ResourceKey}
use Rattle.pl_checks.specs.declared.check.Check.{Check}
use Rattle.pl_due.proofs.Looping.{lists_more}
use Rattle.pl_due.proofs.Standing.{both, first_of_two, second_of_two}
use Rattle.pl_due.specs.Below.pl_journal.specs.Runs.{holding}
use Rattle.pl_due.specs.Below.pl_views.specs.CheckViews.{check_view}
use Rattle.pl_due.specs.Below.pl_views.specs.Ready.{ready_moment}
use Rattle.pl_due.specs.Checked.{checks_on}
use Rattle.pl_due.specs.Nodes.{has_had, is_out_of_time}
use Rattle.pl_facts.specs.declared.fact.Fact.{Fact}
use Rattle.pl_facts.specs.declared.fact.QueuedRun.{QueuedRun}
use Rattle.pl_facts.specs.Below.pl_plan.specs.declared.plan.PlanJob.{PlanJob}
use Rattle.pl_facts.specs.Below.pl_plan.specs.declared.plan.PlanStage.{PlanStage}
use Rattle.pl_judgement.specs.Kinds.{by_kind, is_of}
use Rattle.pl_judgement.specs.declared.kind.CheckKind.{CheckKind}
use Rattle.pl_judgement.specs.declared.kind.CheckKind.TheVariants as kind
use Rattle.pl_wakes.proofs.Staying.{before_first, before_second}
use Rattle.pl_wakes.specs.Steady.{AreSteady, IsSteady, SaysSame, sooner}
use Rattle.pl_looks.specs.Quiet.{ChecksAreQuiet, JobIsQuiet, StaysUntil}

-- ---- numbers

le_of : (a b : ℕ) → nat_le a b ≡ true → a ≤ b
le_of a b is = grind arith

le_to : (a b : ℕ) → a ≤ b → nat_le a b ≡ true
le_to a b less = grind arith

-- what has had its minutes before their end had them already
pub on_time : (minutes taken moment over later : ℕ) → moment ≤ 4102444799 →
    over ≡ min (taken + 60 * minutes) 18446744073709551615 → (moment < over → later < over) →
    has_had minutes taken later ≡ true → has_had minutes taken moment ≡ true
on_time minutes taken moment over later within is before had =
    let end = taken + 60 * minutes in
    let late : taken + 60 * minutes ≤ later =
    le_of end later (second_of_two (nat_lt 0 minutes) (nat_le end later) had) in
    both (nat_lt 0 minutes) (nat_le end moment)
    (first_of_two (nat_lt 0 minutes) (nat_le end later) had)
    (le_to end moment (⊎_elim
    (λ early. let less = before early in absurd (omega (arith, less, is, late)))
    (λ shut. omega (arith, shut, is, within))
    (cases_lt moment over)))

-- ---- one after the other

module _ (Q : ℕ → ℕ → Type 0) (n moment : ℕ) (until one : Option ℕ) where
  pub stays_more : StaysUntil (λ later. (k : ℕ) → k < n → Q later k) moment until →
      StaysUntil (λ later. Q later n) moment one →
      StaysUntil (λ later. (k : ℕ) → k < n + 1 → Q later k) moment (sooner until one)
  stays_more so_far here later behind before k below = ⊎_elim
      (λ less. so_far later behind (before_first later until one before) k less)
      (λ rest. let same : n ≡ k = omega (arith, rest, below) in
      subst (Q later) same (here later behind (before_second later until one before)))
      (cases_lt k n)

-- ---- jobs

pub is_there : (facts : List Fact) (moment : ℕ) (one : PlanStage) (run stage job : ℕ) →
    is_out_of_time moment one run stage job facts ≡ true → job < length one.jobs
is_there facts moment one run stage job over =
    go (slice_get one.jobs job) refl over
  where
    go : (planned : Option PlanJob) → slice_get one.jobs job ≡ planned →
        option_map_or (λ (p : PlanJob). option_map_or
        (λ (f : Fact). has_had p.timeout f.moment moment) (holding run stage job facts) false)
        planned false ≡ true → job < length one.jobs
    go None is over = absurd (false≢true over)
    go (Some planned) is over = slice_get_within one.jobs job planned is

module _ (facts : List Fact) (moment later : ℕ) (one : PlanStage) (run stage job : ℕ) where
  abbrev over_by : ℕ → Option PlanJob → Option Fact → Bool
  over_by at planned fact = option_map_or (λ (p : PlanJob). option_map_or
      (λ (f : Fact). has_had p.timeout f.moment at) fact false) planned false

  pub no_job : slice_get one.jobs job ≡ None → JobIsQuiet facts moment later one run stage job
  no_job none over = absurd (false≢true
      (sym (ap (λ p. over_by later p (holding run stage job facts)) none) ∙ over))

  module _ (planned : PlanJob) (is : slice_get one.jobs job ≡ Some planned) where
    over_is : (at : ℕ) (fact : Option Fact) → holding run stage job facts ≡ fact →
        is_out_of_time at one run stage job facts ≡ over_by at (Some planned) fact
    over_is at fact held = λ i. over_by at (is i) (held i)

    pub not_held : holding run stage job facts ≡ None →
        JobIsQuiet facts moment later one run stage job
    not_held none over = absurd (false≢true (sym (over_is later None none) ∙ over))

    pub held_job : (fact : Fact) → holding run stage job facts ≡ Some fact →
        (has_had planned.timeout fact.moment later ≡ true →
        has_had planned.timeout fact.moment moment ≡ true) →
        JobIsQuiet facts moment later one run stage job
    held_job fact held quiet over = over_is moment (Some fact) held
        ∙ quiet (sym (over_is later (Some fact) held) ∙ over)

-- ---- checks

pub steady_both : (xs ys : List Check) (ready from : ℕ) (until one : Option ℕ) →
    AreSteady xs ready from until → AreSteady ys ready from one →
    AreSteady (xs ++ ys) ready from (sooner until one)
steady_both xs ys ready from until one left right view is =
    All-append (λ check. IsSteady check view from (sooner until one)) xs ys
    (All-weaker (λ check. IsSteady check view from until)
    (λ check. IsSteady check view from (sooner until one))
    (λ check steady later behind before. steady later behind
    (before_first later until one before)) xs (left view is))
    (All-weaker (λ check. IsSteady check view from one)
    (λ check. IsSteady check view from (sooner until one))
    (λ check steady later behind before. steady later behind
    (before_second later until one before)) ys (right view is))

pub steady_more : (facts : List Fact) (uses : List ResourceKey) (i : ℕ) (key : ResourceKey)
    (ready from : ℕ) (until one : Option ℕ) → i < length uses → key ≡ get_or uses i key →
    AreSteady (flat_map (checks_on facts) (take i uses)) ready from until →
    AreSteady (checks_on facts key) ready from one →
    AreSteady (flat_map (checks_on facts) (take (i + 1) uses)) ready from (sooner until one)
steady_more facts uses i key ready from until one within is so_far here =
    subst (λ (checks : List Check). AreSteady checks ready from (sooner until one))
    (lists_more (checks_on facts) uses i key (flat_map (checks_on facts) (take i uses))
    (flat_map (checks_on facts) (take i uses) ++ checks_on facts key) within is refl refl)
    (steady_both (flat_map (checks_on facts) (take i uses)) (checks_on facts key) ready from until
    one so_far here)

all_by_kind : (P : Check → Type 0) (checks : List Check) → All P checks → All P (by_kind checks)
all_by_kind P checks all =
    let of : CheckKind → List Check = λ one. filter (is_of one) checks in
    let each : (one : CheckKind) → All P (of one) = λ one. All-filter (is_of one) P checks all in
    All-append P (of kind.RequiredTemplate ++ of kind.Branch ++ of kind.Approval) (of kind.Hours)
    (All-append P (of kind.RequiredTemplate ++ of kind.Branch) (of kind.Approval)
    (All-append P (of kind.RequiredTemplate) (of kind.Branch) (each kind.RequiredTemplate)
    (each kind.Branch)) (each kind.Approval)) (each kind.Hours)

pub checks_quiet : (facts : List Fact) (told : QueuedRun) (one : PlanStage) (run stage : ℕ)
    (ready moment : ℕ) (until : Option ℕ) → ready ≡ ready_moment one run facts →
    AreSteady (flat_map (checks_on facts) one.uses) ready moment until →
    StaysUntil (λ later. ChecksAreQuiet facts moment later told one run stage) moment until
checks_quiet facts told one run stage ready moment until is steady later behind before =
    let view = check_view told one run stage facts in
    all_by_kind (λ check. SaysSame check view moment later) (flat_map (checks_on facts) one.uses)
    (All-weaker (λ check. IsSteady check view moment until)
    (λ check. SaysSame check view moment later) (λ check one_steady. one_steady later behind before)
    (flat_map (checks_on facts) one.uses) (steady view (sym is)))
