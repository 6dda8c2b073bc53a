use Rattle.std.proofs.Common.{codes, ap, ◌∙◌}
use Rattle.pl_base.specs.declared.value.Value.{Str}
use Rattle.pl_cond.specs.Variables.{evaluated}
use Rattle.pl_cond.proofs.Segments.{three}
use Rattle.pl_cond.proofs.written.with_run.Goals as goal

pub returns : goal.returns
returns c =
    three _ _ _ _ _ _ _ _ _ _ c.in_ok-with_branch.ensures c.in_ok-with_name.ensures
    c.in_ok-all.ensures c.in_ok-branch.ensures
    (c.in_ok-name.ensures ∙ ap (λ text. evaluated (codes "Build.SourceBranchName") (Str text))
    c.last_segment.ensures)
    c.in_ok-reason.ensures
