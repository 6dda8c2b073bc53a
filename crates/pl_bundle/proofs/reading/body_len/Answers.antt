use Rattle.std.proofs.Common.{ap, refl, rules, sym, ◌∙◌}
use Rattle.std.proofs.lemmas.List.{take_rest}
use Rattle.pl_bundle.specs.Bundles.{lines_of}
use Rattle.pl_bundle.proofs.Bodies.{passed}
use Rattle.pl_bundle.proofs.reading.body_len.Goals as goal

pub loop-len-preserved : goal.loop-len-preserved
loop-len-preserved c =
    passed c.args.bytes.now c.first_line.result.0.now c.first_line.result.1.now c.loop-len.len _
    c.loop-len.invariant refl
    (sym (take_rest c.args.bytes.now c.loop-len.len) ∙ c.first_line.ensures.whole)
    (ap lines_of (sym (take_rest c.args.bytes.now c.loop-len.len)) ∙ c.first_line.ensures.lines)
    (search rules)
