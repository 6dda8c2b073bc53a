use Rattle.std.proofs.Common.{◌≡◌, ◌+◌, ◌-◌, ◌<◌, length, arith}
use Rattle.std.specs.Str.{bytes_eq}
use Rattle.std.proofs.lemmas.Map.Text.{text_keys}
use Rattle.pl_base.specs.Folding.{folded}
use Rattle.pl_params.proofs.Places.{place_before}
use Rattle.pl_params.proofs.names.places_of_params.Goals as goal

pub loop-at-preserved : goal.loop-at-preserved
loop-at-preserved c = λ upper.
    let at = c.loop-at.at in
    let items = c.as_slice-items.result.now in
    let next : at ≡ at - 1 + 1 = omega arith in
    let within : at - 1 < length items = omega arith in
    let step = place_before (λ param. bytes_eq upper (folded param.name)) items (at - 1) at
    c.index-items-at.result next within c.index-items-at.is in
    let h = c.in_ok-insert in
    grind (arith, text_keys, step, c.loop-at.invariant upper, c.in_ok-name.ensures)
