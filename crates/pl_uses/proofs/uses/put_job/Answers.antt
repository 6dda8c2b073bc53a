use Rattle.std.proofs.Common.{◌≡◌, [], ◌∷◌, List, ap, subst, ◌∙◌}
use Rattle.std.specs.Prelude.{OnOk, flat_map}
use Rattle.pl_base.specs.declared.resource.Kind.TheVariants.{Group, Pool}
use Rattle.pl_base.specs.declared.resource.ResourceKey.{ResourceKey}
use Rattle.pl_uses.specs.Pools.{pool_of, pool_name}
use Rattle.pl_uses.specs.Uses.{environment_uses, kept, put_all, step_uses, use_of, uses_by}
use Rattle.pl_uses.proofs.Putting.{put_four}
use Rattle.pl_uses.proofs.uses.put_job.Goals as goal

pub returns : goal.returns
returns c =
    let job = c.args.job.now in
    let pool = pool_of c.args.pipeline.now c.args.stage.now job in
    let repositories = c.args.pipeline.now.repositories in
    let old = kept c.args.uses.now in
    let one = kept c.put_environment.new.uses in
    let two = kept c.put_groups.new.uses in
    let three = kept c.put.new.uses in
    let P : List ResourceKey → Type 0 = λ meant.
    OnOk c.put_steps.result (kept c.put_steps.new.uses ≡ meant) in
    subst P
    (ap (λ rs. put_all three (flat_map (step_uses rs) c.as_slice-3.result.now)) c.as_slice-2.ensures
    ∙ ap (λ ss. put_all three (flat_map (step_uses repositories) ss)) c.as_slice-3.ensures
    ∙ put_four old one two three (environment_uses job.environment) (uses_by Group job.groups)
    (use_of Pool (pool_name pool) ∷ []) (flat_map (step_uses repositories) job.steps)
    c.in_ok-put_environment.ensures
    (c.in_ok-put_groups.ensures
    ∙ ap (λ groups. put_all one (uses_by Group groups)) c.as_slice.ensures)
    (c.in_ok-put.ensures ∙ ap (λ name. put_all two (use_of Pool name ∷ []))
    (c.in_ok-pool.ensures ∙ ap pool_name c.pool_of.ensures)))
    c.put_steps.ensures
