-- Stages that haven't ended.
use Rattle.std.proofs.Common.{◌≡◌, ◌&&◌, ℕ, Bool, true, false, List, Option, Some, None, is_some}
use Rattle.std.proofs.Common.{Bor, is_none, not, refl, sym, ap, ◌∙◌}
use Rattle.std.specs.Option.{option_copied}
use Rattle.pl_facts.specs.declared.fact.Fact.{Fact}
use Rattle.pl_journal.specs.Runs.{stage_end, stage_start}
use Rattle.pl_plan.specs.declared.plan.PlanStage.{PlanStage}
use Rattle.pl_views.specs.Ready.{is_ready}
use Rattle.pl_due.specs.Nodes.{is_running, is_waiting}

-- ---- tests

pub first_of_two : (a b : Bool) → (a && b) ≡ true → a ≡ true
first_of_two true b h = refl
first_of_two false b h = h

pub second_of_two : (a b : Bool) → (a && b) ≡ true → b ≡ true
second_of_two true b h = h
second_of_two false true h = refl
second_of_two false false h = h

pub both : (a b : Bool) → a ≡ true → b ≡ true → (a && b) ≡ true
both a b l r = ap (λ x. x && b) l ∙ r

pub is_nothing : {X : Type 0} (o : Option X) → is_none o ≡ true → o ≡ None
is_nothing None h = refl
is_nothing (Some x) h = absurd (cc)

-- what a look-up says, by the answer of its `is_none`
pub some_by : {X : Type 0} (o : Option (Bor X)) (told : Option X) (none : Bool) →
    option_copied o ≡ told → is_some o ≡ not none → is_some told ≡ not none
some_by None told none is tells = sym (ap is_some is) ∙ tells
some_by (Some x) told none is tells = sym (ap is_some is) ∙ tells

pub none_when : {X : Type 0} (o : Option X) (b : Bool) → is_some o ≡ not b → is_none o ≡ b
none_when o true tells = ap not tells
none_when o false tells = ap not tells

-- ---- stages

pub running_open : (run stage : ℕ) (facts : List Fact) → is_running run stage facts ≡ true →
    stage_end run stage facts ≡ None
running_open run stage facts runs = is_nothing (stage_end run stage facts)
    (second_of_two (is_some (stage_start run stage facts)) (is_none (stage_end run stage facts))
    runs)

module _ (one : PlanStage) (run stage : ℕ) (facts : List Fact)
    (waits : is_waiting one run stage facts ≡ true) where
  neither : (is_none (stage_start run stage facts) && is_none (stage_end run stage facts)) ≡ true
  neither = first_of_two
      (is_none (stage_start run stage facts) && is_none (stage_end run stage facts))
      (is_ready one run facts) waits

  pub waiting_unstarted : stage_start run stage facts ≡ None
  waiting_unstarted = is_nothing (stage_start run stage facts)
      (first_of_two (is_none (stage_start run stage facts))
      (is_none (stage_end run stage facts)) neither)

  pub waiting_open : stage_end run stage facts ≡ None
  waiting_open = is_nothing (stage_end run stage facts)
      (second_of_two (is_none (stage_start run stage facts))
      (is_none (stage_end run stage facts)) neither)
