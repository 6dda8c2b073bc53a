use Rattle.std.proofs.Common.{◌≡◌, ℕ, List, ap, map, subst, ◌∙◌, IfOk}
use Rattle.std.specs.Prelude.{codes}
use Rattle.pl_json.specs.declared.json.Json.{Json}
use Rattle.pl_json.specs.declared.json.Json.TheVariants as json
use Rattle.pl_json.specs.declared.members.Member.{Member}
use Rattle.pl_json.specs.Members.{member}
use Rattle.pl_json.specs.Objects.{object}
use Rattle.pl_plan.specs.declared.plan.PlanStep.{PlanStep}
use Rattle.pl_refusals.specs.Rows.{number}
use Rattle.pl_objects.specs.Steps.{step_object}
use Rattle.pl_objects.proofs.Gathered.{first, more}
use Rattle.pl_objects.proofs.jobs.job_object.Goals as goal

pub returns : goal.returns
returns c =
    subst (λ (all : List (Member Json)). IfOk c.object.result (λ made. made ≡ object all))
    (more _ _ _ _ _
    (more _ _ _ _ _
    (more _ _ _ _ _
    (more _ _ _ _ _
    (more _ _ _ _ _
    (more _ _ _ _ _
    (first _ _ _ _ c.new-members.ensures c.in_ok-push.ensures
    (ap (member (codes "groups")) c.in_ok-groups.ensures))
    c.in_ok-push-2.ensures
    (ap (λ (text : List ℕ). member (codes "job") (json.Text text)) c.in_ok-label_of.ensures))
    c.in_ok-push-3.ensures.ok c.in_ok-number.ensures)
    c.in_ok-push-4.ensures.ok c.in_ok-text.ensures)
    c.in_ok-push-5.ensures
    (ap (member (codes "steps")) c.in_ok-steps.ensures
    ∙ ap (λ (steps : List PlanStep). member (codes "steps") (json.Array (map step_object steps)))
    c.deref.ensures))
    c.in_ok-push-6.ensures.ok
    (c.in_ok-number-2.ensures ∙ ap (number (codes "timeout")) c.from.ensures))
    c.in_ok-push-7.ensures (ap (member (codes "variables")) c.in_ok-variables.ensures))
    c.object.ensures
