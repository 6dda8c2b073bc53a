-- Where nothing is due, something keeps each stage waiting that is neither started nor ended.
use Rattle.std.proofs.Common.{◌≡◌, ◌&&◌, ℕ, Bool, true, false, List, Option, Some, None}
use Rattle.std.proofs.Common.{is_none, refl, ap, ◌∙◌, subst, inl, inr}
use Rattle.std.specs.List.{Contains}
use Rattle.pl_facts.specs.declared.fact.Fact.{Fact}
use Rattle.pl_due.specs.Below.pl_journal.specs.Runs.{stage_end, stage_start}
use Rattle.pl_judgement.specs.Said.{all_pass, first_fail, first_wait}
use Rattle.pl_judgement.proofs.Asking.{passing}
use Rattle.pl_locks.specs.Locks.{IsBehind, IsHeld, IsSuperseded, Locks, MayStart}
use Rattle.pl_locks.specs.declared.contender.Contender.{Contender}
use Rattle.pl_due.specs.Below.pl_results.specs.declared.members.PlanNode.TheVariants.{Stage}
use Rattle.pl_rules.specs.declared.rule.Rule.{Rule}
use Rattle.pl_due.specs.Below.pl_views.specs.Ready.{is_ready}
use Rattle.pl_due.specs.Contention.{IsContention, IsEligible, IsOne}
use Rattle.pl_due.specs.Contention.{contender_of}
use Rattle.pl_due.specs.Due.{Among, IsDue, Next, Superseded}
use Rattle.pl_due.specs.Kinds.{Fails, IsPassedOver, fail_end, false_stage_end}
use Rattle.pl_due.specs.Least.{Least}
use Rattle.pl_due.specs.Nodes.{IsStageOf, condition, is_canceled, is_waiting}
use Rattle.pl_due.proofs.Members.{of_member}
use Rattle.pl_due.proofs.OneDue.{one_contention}
use Rattle.pl_due.proofs.OneStage.{one_planned, one_told}
use Rattle.pl_settling.specs.Laws.{Gap}

-- what isn't there where nothing is due
record IsIdle (facts : List Fact) (moment : ℕ) : Type 0 where
  pub passed_over : Least facts (IsPassedOver facts) None
  pub fails : Least facts (Fails facts moment) None
  pub superseded : Among facts moment Superseded None
  pub next : Among facts moment Next None

idle : (facts : List Fact) (moment : ℕ) → IsDue facts moment None → IsIdle facts moment
idle f m (inl (x, is, k)) = absurd (cc)
idle f m (inr (n1, inl (x, is, k))) = absurd (cc)
idle f m (inr (n1, inr (n2, inl (x, is, k)))) = absurd (cc)
idle f m (inr (n1, inr (n2, inr (n3, inl (x, is, k))))) = absurd (cc)
idle f m (inr (n1, inr (n2, inr (n3, inr (n4, inl (x, is, k)))))) = absurd (cc)
idle f m (inr (n1, inr (n2, inr (n3, inr (n4, inr (n5, inl (x, is, k))))))) = absurd (cc)
idle f m (inr (n1, inr (n2, inr (n3, inr (n4, inr (n5, inr (n6, inl (x, is, k)))))))) =
    absurd (cc)
idle f m (inr (n1, inr (n2, inr (n3, inr (n4, inr (n5, inr (n6, inr (n7, none)))))))) = record {
  passed_over = n4;
  fails = n5;
  superseded = n6;
  next = n7;
}

-- ---- a stage that nothing keeps waiting

all_three : (a b c : Bool) → a ≡ true → b ≡ true → c ≡ true → (a && b && c) ≡ true
all_three a b c x y z = rw (x, y, z) refl

module _ (facts : List Fact) (moment run stage : ℕ) (gap : Gap facts moment run stage) where
  waits : is_waiting gap.one run stage facts ≡ true
  waits = all_three (is_none (stage_start run stage facts)) (is_none (stage_end run stage facts))
      (is_ready gap.one run facts) (ap is_none gap.unstarted) (ap is_none gap.unended) gap.ready

  says : Least facts (IsPassedOver facts) None →
      condition gap.told run (Stage stage) facts ≡ true
  says none = go (condition gap.told run (Stage stage) facts) refl
    where
      go : (b : Bool) → condition gap.told run (Stage stage) facts ≡ b →
          condition gap.told run (Stage stage) facts ≡ true
      go true is = is
      go false is = absurd (none run stage 0
          (false_stage_end (is_canceled run facts) run stage) (
            gap.told,
            gap.one,
            gap.there,
            record {
              itself = refl;
              waits = waits;
              says = is;
              gets = refl;
            },
          ))

  pass : Least facts (Fails facts moment) None → all_pass gap.verdicts ≡ true
  pass none = go (first_fail gap.verdicts) refl
    where
      go : (o : Option Rule) → first_fail gap.verdicts ≡ o → all_pass gap.verdicts ≡ true
      go None is = passing gap.verdicts
          ∙ ap (λ f. is_none f && is_none (first_wait gap.verdicts)) is
          ∙ ap is_none gap.waits
      go (Some rule) is = absurd (none run stage 0 (fail_end run stage rule) (
        gap.told,
        gap.one,
        gap.there,
        record {
          itself = refl;
          waits = waits;
          verdicts = gap.verdicts;
          are = gap.are;
          rule = rule;
          first = is;
          gets = refl;
        },
      ))

  eligible : Least facts (IsPassedOver facts) None → Least facts (Fails facts moment) None →
      IsEligible facts moment gap.told gap.one run stage
  eligible none nothing = record {
    waits = waits;
    says = says none;
    permitted = gap.permitted;
    verdicts = gap.verdicts;
    are = gap.are;
    pass = pass nothing;
  }

  abbrev itself : Contender
  itself = contender_of facts gap.told gap.one run stage

  -- it is itself among the eligible ones
  among : (locks : Locks) → IsContention facts moment locks →
      IsEligible facts moment gap.told gap.one run stage → Contains locks.eligible itself
  among locks contention is =
      let (k, other, below, at, same_place) =
      contention.eligible.all gap.told gap.one run stage gap.there is in
      let two = of_member (IsOne facts (IsEligible facts moment)) locks.eligible other
      contention.eligible.only (k, below, at) in
      let here : IsStageOf facts run stage two.told two.one =
      subst (λ s. IsStageOf facts run s two.told two.one) same_place.1
      (subst (λ r. IsStageOf facts r other.position two.told two.one) same_place.0 two.there) in
      let t = one_told facts run stage two.told gap.told two.one gap.one here gap.there in
      let o = one_planned facts run stage two.told gap.told two.one gap.one here gap.there in
      let e : other ≡ itself = two.is
      ∙ ap (λ r. contender_of facts two.told two.one r other.position) same_place.0
      ∙ ap (λ s. contender_of facts two.told two.one run s) same_place.1
      ∙ ap (λ q. contender_of facts q two.one run stage) t
      ∙ ap (λ p. contender_of facts gap.told p run stage) o in
      subst (Contains locks.eligible) e (k, below, at)

  pub no_gap : IsDue facts moment None → ⊥
  no_gap none =
      let nothing = idle facts moment none in
      let (early, early_is, none_superseded) = nothing.superseded in
      let (late, late_is, none_next) = nothing.next in
      let is = eligible nothing.passed_over nothing.fails in
      let in_early = among early early_is is in
      let in_late = among late late_is is in
      let to_early = one_contention facts moment late early late_is early_is in
      let to_gap = one_contention facts moment late gap.locks late_is gap.contention in
      of_member (λ one. MayStart late.eligible late.holders one → ⊥) late.eligible itself none_next
      in_late (record {
        stands = λ gives. of_member (λ one. IsSuperseded early.eligible one → ⊥) early.eligible
            itself none_superseded in_early
            (subst (λ l. IsSuperseded l.eligible itself) to_early gives);
        unheld = λ held. gap.unheld (subst (λ l. IsHeld l.holders itself) to_gap held);
        first = λ behind. gap.first (subst (λ l. IsBehind l.eligible itself) to_gap behind);
      })
