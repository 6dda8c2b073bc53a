use Rattle.std.proofs.Common.{ap, ◌∙◌, length, false}
use Rattle.std.specs.Option.{option_map}
use Rattle.pl_template.specs.Cutting.{before_closing}
use Rattle.pl_template.proofs.Closing.{end_here, end_later, end_nowhere}
use Rattle.pl_template.proofs.ends.count_inside.Goals as goal

pub returns-then-closes : goal.returns-then-closes
returns-then-closes c =
    end_here _ _ _ _ c.if-closes.ensures c.loop-count.invariant
    ∙ ap (λ bytes. option_map length (before_closing false bytes))
    c.as_bytes-bytes.ensures.value

pub loop-count-preserved : goal.loop-count-preserved
loop-count-preserved c =
    end_later _ _ _ _ _ c.loop-count-test.true c.if-closes.ensures c.is_quoted_behind-quoted.ensures
    c.loop-count.invariant

pub returns : goal.returns
returns c =
    end_nowhere _ _ _ _ c.loop-count-test.false c.loop-count.invariant
    ∙ ap (λ bytes. option_map length (before_closing false bytes))
    c.as_bytes-bytes.ensures.value
