use Rattle.std.proofs.Common.{◌≡◌, List, ap, map, refl, subst, ◌∙◌, IfOk}
use Rattle.std.specs.Prelude.{codes}
use Rattle.pl_json.specs.declared.json.Json.{Json}
use Rattle.pl_json.specs.declared.json.Json.TheVariants as json
use Rattle.pl_json.specs.declared.members.Member.{Member}
use Rattle.pl_json.specs.Members.{member}
use Rattle.pl_json.specs.Objects.{object}
use Rattle.pl_plan.specs.declared.plan.Compiled.{Compiled}
use Rattle.pl_refusals.specs.Rows.{text}
use Rattle.pl_objects.specs.Runs.{beside, stage_status, unstarted_stage}
use Rattle.pl_objects.proofs.Gathered.{first, more}
use Rattle.pl_objects.proofs.runs.run_object.Goals as goal

pub returns : goal.returns
returns c =
    subst (λ (all : List (Member Json)). IfOk c.object.result (λ made. made ≡ object all))
    (more _ _ _ _ _
    (more _ _ _ _ _
    (more _ _ _ _ _
    (more _ _ _ _ _
    (more _ _ _ _ _
    (first _ _ _ _ c.new-members.ensures c.in_ok-push.ensures refl)
    c.in_ok-push-2.ensures.ok c.in_ok-text.ensures)
    c.in_ok-push-3.ensures.ok
    (c.in_ok-text-2.ensures
    ∙ ap (λ (told : Compiled). text (codes "ref") told.sources.root.git_ref) c.deref.ensures))
    c.in_ok-push-4.ensures.ok c.in_ok-text-3.ensures)
    c.in_ok-push-5.ensures.ok c.in_ok-number.ensures)
    c.in_ok-push-6.ensures
    (ap (member (codes "stages")) c.in_ok-stages.ensures
    ∙ ap (λ (told : Compiled). member (codes "stages") (json.Array (map stage_status
    (beside unstarted_stage told.plan.stages c.args.status.now.stages)))) c.deref-2.ensures))
    c.object.ensures
