use Rattle.std.proofs.Common.{ap, ◌∙◌, subst, FitsSigned, w32, ℕ, List}
use Rattle.std.proofs.lemmas.Int.{to_z-of_z}
use Rattle.jiff.specs.ZoneView.{plain_zone}
use Rattle.jiff_tz.specs.Zone.{offset_at}
use Rattle.pl_zones.specs.Zones.{IsOffsetAt}
use Rattle.pl_zones.proofs.Clocks.{clock_offset}
use Rattle.pl_zones.proofs.zone.Zone.offset_at.Goals as goal

pub returns-clause-value : goal.returns-clause-value
returns-clause-value c =
    let clock = plain_zone c.in-Some.clock in
    let range : FitsSigned w32 c.seconds.result = record { sfits = c.seconds.type_inv } in
    let seconds = c.seconds.result in
    let same = c.seconds.ensures ∙ c.to_offset.ensures
    ∙ ap (offset_at clock) c.instant_of.ensures in
    let is = clock_offset c.as_str.result.now c.args.moment clock seconds c.in-Some.ensures.some same in
    let P : List ℕ → Type 0 = λ text. IsOffsetAt text c.args.moment seconds in
    simp to_z-of_z (subst P c.self.view_is (subst P c.as_str.ensures is))
