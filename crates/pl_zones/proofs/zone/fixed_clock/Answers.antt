use Rattle.std.proofs.Common.{ap, ◌∙◌, FitsSigned, w32}
use Rattle.std.proofs.lemmas.Int.{to_z-of_z}
use Rattle.jiff_tz.specs.Zone.{offset_at}
use Rattle.jiff.proofs.ZoneFacts.{offset_at-fixed_zone}
use Rattle.pl_zones.proofs.zone.fixed_clock.Goals as goal

pub returns : goal.returns
returns c =
    let range : FitsSigned w32 c.args.seconds = c.ranges.seconds in
    let same = simp to_z-of_z at c.in-Ok.ensures.value in
    λ instant. ap (λ zone. offset_at zone instant) c.fixed.ensures ∙
    offset_at-fixed_zone c.in-Ok.offset instant ∙ same
