use Rattle.std.proofs.Common.{◌≡◌, List, ap, subst, ◌∙◌, IfOk}
use Rattle.std.specs.Prelude.{codes}
use Rattle.pl_json.specs.declared.json.Json.{Json}
use Rattle.pl_json.specs.declared.members.Member.{Member}
use Rattle.pl_json.specs.Members.{member}
use Rattle.pl_json.specs.Objects.{object}
use Rattle.pl_refusals.specs.Rows.{file_members, number}
use Rattle.pl_objects.proofs.Gathered.{all_more, first, more}
use Rattle.pl_objects.proofs.origins.origin_object.Goals as goal

pub returns : goal.returns
returns c =
    subst (λ (all : List (Member Json)). IfOk c.object.result (λ made. made ≡ object all))
    (all_more _ _ _ _ _
    (more _ _ _ _ _
    (more _ _ _ _ _
    (first _ _ _ _ c.new-members.ensures c.in_ok-push.ensures.ok
    (c.in_ok-number.ensures ∙ ap (number (codes "col")) c.from.ensures))
    c.in_ok-push-2.ensures (ap (member (codes "crossings")) c.in_ok-crossings.ensures))
    c.in_ok-push-3.ensures.ok
    (c.in_ok-number-2.ensures ∙ ap (number (codes "line")) c.from-2.ensures))
    c.in_ok-push_file.ensures (ap file_members c.deref.ensures))
    c.object.ensures
