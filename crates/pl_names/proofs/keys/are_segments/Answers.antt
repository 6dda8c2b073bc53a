use Rattle.std.proofs.Common.{ap, lit<, not, rules, tests, ◌∙◌}
use Rattle.std.proofs.lemmas.Iterator.Search.{all_from_yields_List}
use Rattle.std.proofs.lemmas.Iterator.Splits.{YieldsList-from_str_split}
use Rattle.pl_names.specs.Bytes.{goes_wrong, slash}
use Rattle.pl_names.proofs.Segments.{segments}
use Rattle.pl_names.proofs.keys.are_segments.Goals as goal

pub returns-then-bytes-gt18 : goal.returns-then-bytes-gt18
returns-then-bytes-gt18 c =
    ap not (c.go_wrong.ensures ∙ ap (goes_wrong slash slash slash) c.as_bytes-bytes.ensures.value)
    ∙ segments c.args.text.now

pub returns : goal.returns
returns c =
    all_from_yields_List _ _ _ _ c.all.ensures.ran
    (YieldsList-from_str_split 47 c.args.text.now (lit< tt) c.split.ensures.text
    c.split.ensures.has_more c.split.ensures.pattern)
    (λ x b q k. search (rules, tests))
