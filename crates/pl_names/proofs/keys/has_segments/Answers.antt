use Rattle.std.proofs.Common.{lit<, None, Some, sym, ◌∙◌}
use Rattle.std.proofs.lemmas.Str.Pattern.{strip_prefix_char}
use Rattle.pl_names.proofs.Fronts.{elsewhere, in_front}
use Rattle.pl_names.proofs.keys.has_segments.Goals as goal

pub returns-in-None : goal.returns-in-None
returns-in-None c =
    sym (elsewhere c.args.text.now
    (strip_prefix_char 47 c.args.text.now None c.in-None.ensures.cases (lit< tt)))

pub returns-in-Some : goal.returns-in-Some
returns-in-Some c =
    c.are_segments.ensures ∙ sym (in_front c.args.text.now _
    (strip_prefix_char 47 c.args.text.now (Some c.in-Some.rest) c.in-Some.ensures.cases
    (lit< tt)))
