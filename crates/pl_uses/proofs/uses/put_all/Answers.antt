use Rattle.std.proofs.Common.{◌≡◌, List, ap, subst, ◌∙◌}
use Rattle.std.specs.Prelude.{OnOk, flat_map}
use Rattle.pl_base.specs.declared.resource.Kind.TheVariants.{Group}
use Rattle.pl_base.specs.declared.resource.ResourceKey.{ResourceKey}
use Rattle.pl_uses.specs.Uses.{job_uses, kept, put_all, uses_by}
use Rattle.pl_uses.proofs.Putting.{put_three}
use Rattle.pl_uses.proofs.uses.put_all.Goals as goal

pub returns : goal.returns
returns c =
    let old = kept c.args.uses.now in
    let one = kept c.put_groups.new.uses in
    let P : List ResourceKey → Type 0 = λ meant.
    OnOk c.put_jobs.result (kept c.put_jobs.new.uses ≡ meant) in
    subst P (put_three old one (kept c.put_groups-2.new.uses)
    (uses_by Group c.args.pipeline.now.groups) (uses_by Group c.args.stage.now.groups)
    (flat_map (job_uses c.args.pipeline.now c.args.stage.now) c.args.stage.now.jobs)
    (c.in_ok-put_groups.ensures
    ∙ ap (λ groups. put_all old (uses_by Group groups)) c.as_slice.ensures)
    (c.in_ok-put_groups-2.ensures
    ∙ ap (λ groups. put_all one (uses_by Group groups)) c.as_slice-2.ensures))
    c.put_jobs.ensures
