use Rattle.std.proofs.Common.{◌≡◌, List, ap, subst, IfOk}
use Rattle.std.specs.Prelude.{codes}
use Rattle.pl_json.specs.declared.json.Json.{Json}
use Rattle.pl_json.specs.declared.members.Member.{Member}
use Rattle.pl_json.specs.Members.{member}
use Rattle.pl_json.specs.Objects.{object}
use Rattle.pl_objects.proofs.Gathered.{first, more}
use Rattle.pl_objects.proofs.steps.step_object.Goals as goal

pub returns : goal.returns
returns c =
    subst (λ (all : List (Member Json)). IfOk c.object.result (λ made. made ≡ object all))
    (more _ _ _ _ _
    (more _ _ _ _ _
    (more _ _ _ _ _
    (first _ _ _ _ c.new-members.ensures c.in_ok-push.ensures.ok c.in_ok-text.ensures)
    c.in_ok-push-2.ensures (ap (member (codes "key")) c.in_ok-key.ensures))
    c.in_ok-push-3.ensures (ap (member (codes "origin")) c.in_ok-origin.ensures))
    c.in_ok-push-4.ensures (ap (member (codes "step")) c.in_ok-mapping.ensures))
    c.object.ensures
