use Rattle.std.proofs.Common.{◌≡◌, length, arith}
use Rattle.std.proofs.lemmas.Grind.{common_steps}
use Rattle.pl_texts.proofs.Filling.{filled_empty, all_filled}
use Rattle.pl_texts.proofs.formatting.fill.Goals as goal

pub returns : goal.returns
returns c =
    let ended : length c.loop-rest.rest.now ≡ 0 = grind (arith, common_steps, c.is_empty.ensures) in
    all_filled _ _ _ c.loop-rest.invariant.made
    (filled_empty c.args.arguments.now c.loop-rest.rest.now ended) c.loop-rest.invariant.within
