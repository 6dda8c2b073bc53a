-- A check, what it sees and a moment leave no choice in the verdict.
use Rattle.std.proofs.Common.{◌≡◌, ◌<◌, ℕ, List, Some, true, false, refl, sym, ap, ◌∙◌, subst}
use Rattle.std.proofs.Common.{arith, inl, inr, ⊎_elim, get_or}
use Rattle.std.specs.List.{All}
use Rattle.std.proofs.lemmas.Bool.{cases_lt, false≢true}
use Rattle.std.proofs.lemmas.List.{get_or_default}
use Rattle.pl_base.specs.declared.place.FileKey.{FileKey}
use Rattle.pl_rules.specs.declared.rule.Rule.TheVariants as rules
use Rattle.pl_zones.specs.declared.local.Local.{Local}
use Rattle.pl_zones.specs.Locals.{IsLocal}
use Rattle.pl_checks.specs.declared.check.Arguments.{Arguments}
use Rattle.pl_checks.specs.declared.check.Arguments.TheVariants.{Any, Values}
use Rattle.pl_checks.specs.declared.check.Approval.{Approval}
use Rattle.pl_checks.specs.declared.check.BranchControl.{BranchControl}
use Rattle.pl_checks.specs.declared.check.BusinessHours.{BusinessHours}
use Rattle.pl_checks.specs.declared.check.RequiredTemplate.{RequiredTemplate}
use Rattle.pl_checks.specs.declared.check.Check.{Check}
use Rattle.pl_checks.specs.declared.check.Check.TheVariants as checks
use Rattle.pl_checks.specs.declared.view.CheckView.{CheckView}
use Rattle.pl_checks.specs.declared.view.StepMark.{StepMark}
use Rattle.pl_checks.specs.declared.view.Verdict.{Verdict}
use Rattle.pl_checks.specs.declared.view.Verdict.TheVariants.{Pass, Wait, Fail}
use Rattle.pl_checks.specs.Approvals.{IsApprovalVerdict, IsUnrejected, has_rejected}
use Rattle.pl_checks.specs.Branches.{IsAllowed, IsBranchVerdict}
use Rattle.pl_base.specs.Firsts.{IsFirst}
use Rattle.pl_checks.specs.Hours.{IsHoursVerdictAt}
use Rattle.pl_checks.specs.Provenance.{IsLiteral}
use Rattle.pl_checks.specs.Templates.{IsArgumentsVerdict, IsStepsVerdict, IsTemplateVerdict}
use Rattle.pl_checks.specs.Verdicts.{IsVerdict}

module _ {X : Type 0} (P : X → Type 0) (xs : List X) where
  not_sooner : (a b : X) (f : IsFirst P xs a) (g : IsFirst P xs b) → f.place < g.place → ⊥
  not_sooner a b f g sooner = g.before f.place a sooner (subst P (sym f.is) f.here)

  -- there is one first item of which something holds
  one_first : (a b : X) → IsFirst P xs a → IsFirst P xs b → a ≡ b
  one_first a b f g =
      ⊎_elim (λ sooner. absurd (not_sooner a b f g sooner))
      (λ rest. ⊎_elim (λ later. absurd (not_sooner b a g f later))
      (λ still. let same : f.place ≡ g.place = omega arith in
      sym f.is ∙ get_or_default xs f.place a b f.within ∙ ap (λ n. get_or xs n b) same ∙ g.is)
      (cases_lt g.place f.place))
      (cases_lt f.place g.place)

  -- and none where it holds of no item
  no_first : (Q : X → Type 0) → ((x : X) → P x → Q x → ⊥) → (a : X) → All Q xs → IsFirst P xs a → ⊥
  no_first Q apart a all f = apart a f.here (subst Q f.is (all f.place a f.within))

one_of_steps : (file : FileKey) (steps : List StepMark) (v w : Verdict) →
    IsStepsVerdict file steps v → IsStepsVerdict file steps w → v ≡ w
one_of_steps file steps Pass Pass l r = refl
one_of_steps file steps Pass (Wait rule) l r = absurd r
one_of_steps file steps Pass (Fail rule) l (step, is, first) =
    absurd (no_first (λ s. ¬ IsLiteral file s) steps (IsLiteral file) (λ s fails holds. fails
    holds) step l first)
one_of_steps file steps (Wait rule) w l r = absurd l
one_of_steps file steps (Fail rule) Pass (step, is, first) r =
    absurd (no_first (λ s. ¬ IsLiteral file s) steps (IsLiteral file) (λ s fails holds. fails
    holds) step r first)
one_of_steps file steps (Fail rule) (Wait other) l r = absurd r
one_of_steps file steps (Fail rule) (Fail other) (step, is, first) (also, same, again) =
    let one = one_first (λ s. ¬ IsLiteral file s) steps step also first again in
    ap Fail (is ∙ ap (λ s. rules.TemplateArgument s.job s.number) one ∙ sym same)

one_of_arguments : (arguments : Arguments) (file : FileKey) (steps : List StepMark) (v w :
    Verdict) →
    IsArgumentsVerdict arguments file steps v → IsArgumentsVerdict arguments file steps w → v ≡ w
one_of_arguments Any file steps v w l r = l ∙ sym r
one_of_arguments Values file steps v w l r = one_of_steps file steps v w l r

one_of_template : (check : RequiredTemplate) (view : CheckView) (v w : Verdict) →
    IsTemplateVerdict check view v → IsTemplateVerdict check view w → v ≡ w
one_of_template check view v w (inl l) (inl r) = l.0 ∙ sym r.0
one_of_template check view v w (inl l) (inr (file, listed, verdict)) = absurd (l.1 file listed)
one_of_template check view v w (inr (file, listed, verdict)) (inl r) = absurd (r.1 file listed)
one_of_template check view v w (inr (file, listed, verdict)) (inr (also, too, other)) =
    let some : Some file ≡ Some also = sym listed.extends ∙ too.extends in
    let same : file ≡ also = cc in
    one_of_arguments check.arguments also view.steps v w
    (subst (λ f. IsArgumentsVerdict check.arguments f view.steps v) same verdict) other

one_of_branch : (check : BranchControl) (view : CheckView) (v w : Verdict) →
    IsBranchVerdict check view v → IsBranchVerdict check view w → v ≡ w
one_of_branch check view Pass Pass l r = refl
one_of_branch check view Pass (Wait rule) l r = absurd r
one_of_branch check view Pass (Fail rule) l (linked, is, first) =
    absurd (no_first (λ s. ¬ IsAllowed check s) view.linked (IsAllowed check) (λ s fails holds.
    fails holds) linked l first)
one_of_branch check view (Wait rule) w l r = absurd l
one_of_branch check view (Fail rule) Pass (linked, is, first) r =
    absurd (no_first (λ s. ¬ IsAllowed check s) view.linked (IsAllowed check) (λ s fails holds.
    fails holds) linked r first)
one_of_branch check view (Fail rule) (Wait other) l r = absurd r
one_of_branch check view (Fail rule) (Fail other) (linked, is, first) (also, same, again) =
    let one = one_first (λ s. ¬ IsAllowed check s) view.linked linked also first again in
    ap Fail (is ∙ ap (λ l. rules.BranchRefused l.git_ref) one ∙ sym same)

-- a rejection that isn't there
rejected : (check : Approval) (view : CheckView) (name : List ℕ) → IsUnrejected check view →
    IsFirst (λ n. has_rejected check view n ≡ true) check.approvers name → ⊥
rejected check view name none first =
    no_first (λ n. has_rejected check view n
    ≡ true) check.approvers (λ n. has_rejected check view n ≡ false)
    (λ n yes no. false≢true (sym no ∙ yes)) name none first

one_of_approval : (check : Approval) (view : CheckView) (moment : ℕ) (v w : Verdict) →
    IsApprovalVerdict check view moment v → IsApprovalVerdict check view moment w → v ≡ w
one_of_approval check view moment Pass Pass l r = refl
one_of_approval check view moment Pass (Wait rule) (none, enough) (is, also, few, early) = absurd
    (omega arith)
one_of_approval check view moment Pass (Fail rule) (none, enough) (inl (name, is, first)) =
    absurd (rejected check view name none first)
one_of_approval check view moment Pass (Fail rule) (none, enough) (inr (is, also, few, late)) =
    absurd (omega arith)
one_of_approval check view moment (Wait rule) Pass (is, also, few, early) (none, enough) = absurd
    (omega arith)
one_of_approval check view moment (Wait rule) (Wait other) (is, also, few, early) (
  same,
  none,
  less,
  soon,
) = ap Wait (is ∙ sym same)
one_of_approval check view moment (Wait rule) (Fail other) (is, none, few, early) (inl (
  name,
  same,
  first,
)) = absurd (rejected check view name none first)
one_of_approval check view moment (Wait rule) (Fail other) (is, none, few, early) (inr (
  same,
  also,
  less,
  late,
)) = absurd (omega arith)
one_of_approval check view moment (Fail rule) Pass (inl (name, is, first)) (none, enough) =
    absurd (rejected check view name none first)
one_of_approval check view moment (Fail rule) Pass (inr (is, also, few, late)) (none, enough) =
    absurd (omega arith)
one_of_approval check view moment (Fail rule) (Wait other) (inl (name, is, first)) (
  same,
  none,
  less,
  soon,
) = absurd (rejected check view name none first)
one_of_approval check view moment (Fail rule) (Wait other) (inr (is, also, few, late)) (
  same,
  none,
  less,
  soon,
) = absurd (omega arith)
one_of_approval check view moment (Fail rule) (Fail other) (inl (name, is, first)) (inl (
  also,
  same,
  again,
)) =
    ap Fail (is ∙ ap rules.ApprovalRejected (one_first (λ n. has_rejected check view n
    ≡ true) check.approvers name also first again) ∙ sym same)
one_of_approval check view moment (Fail rule) (Fail other) (inl (name, is, first)) (inr (
  same,
  none,
  less,
  late,
)) = absurd (rejected check view name none first)
one_of_approval check view moment (Fail rule) (Fail other) (inr (is, none, few, late)) (inl
    (name, same, first)) = absurd (rejected check view name none first)
one_of_approval check view moment (Fail rule) (Fail other) (inr (is, none, few, late)) (inr
    (same, also, less, over)) = ap Fail (is ∙ sym same)

one_of_hours : (check : BusinessHours) (view : CheckView) (moment : ℕ) (local : Local) (v w :
    Verdict) →
    IsHoursVerdictAt check view moment local v → IsHoursVerdictAt check view moment local w → v ≡ w
one_of_hours check view moment local Pass Pass l r = refl
one_of_hours check view moment local Pass (Wait rule) l (is, closed, early) = absurd (closed l)
one_of_hours check view moment local Pass (Fail rule) l (is, closed, late) = absurd (closed l)
one_of_hours check view moment local (Wait rule) Pass (is, closed, early) r = absurd (closed r)
one_of_hours check view moment local (Wait rule) (Wait other) (is, closed, early) (
  same,
  also,
  soon,
) = ap Wait (is ∙ sym same)
one_of_hours check view moment local (Wait rule) (Fail other) (is, closed, early) (
  same,
  also,
  late,
) = absurd (omega arith)
one_of_hours check view moment local (Fail rule) Pass (is, closed, late) r = absurd (closed r)
one_of_hours check view moment local (Fail rule) (Wait other) (is, closed, late) (
  same,
  also,
  soon,
) = absurd (omega arith)
one_of_hours check view moment local (Fail rule) (Fail other) (is, closed, late) (
  same,
  also,
  over,
) = ap Fail (is ∙ sym same)

-- where a zone's clocks show one thing alone, a check gives one verdict
pub one_verdict : ((text : List ℕ) (moment : ℕ) (left right : Local) →
    IsLocal text moment left → IsLocal text moment right → left ≡ right) →
    (check : Check) (view : CheckView) (moment : ℕ) (left right : Verdict) →
    IsVerdict check view moment left → IsVerdict check view moment right → left ≡ right
one_verdict one (checks.RequiredTemplate check) view moment left right l r = one_of_template
    check view left right l r
one_verdict one (checks.Branch check) view moment left right l r = one_of_branch check view left
    right l r
one_verdict one (checks.Approval check) view moment left right l r = one_of_approval check view
    moment left right l r
one_verdict one (checks.Hours check) view moment left right (local, shown, l) (other, also, r) =
    let same = one check.zone moment local other shown also in
    one_of_hours check view moment other left right (subst (λ x. IsHoursVerdictAt check view
    moment x left) same l) r
