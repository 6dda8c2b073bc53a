use Rattle.std.proofs.Common.{◌≡◌, length, is_some, ap, sym, ◌∙◌, arith}
use Rattle.std.proofs.lemmas.Grind.{common_steps}
use Rattle.pl_texts.proofs.Filling.{filled_empty}
use Rattle.pl_texts.proofs.formatting.is_pattern.Goals as goal

pub returns : goal.returns
returns c =
    let ended : length c.loop-rest.rest.now ≡ 0 = grind (arith, common_steps, c.is_empty.ensures) in
    sym (c.loop-rest.invariant.same ∙
    ap is_some (filled_empty c.args.arguments.now c.loop-rest.rest.now ended))
