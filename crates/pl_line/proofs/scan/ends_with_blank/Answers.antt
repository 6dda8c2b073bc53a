use Rattle.std.proofs.Common.{None, ap, sym, ◌∙◌}
use Rattle.std.specs.List.{last_or}
use Rattle.pl_reading.specs.Bytes.{is_blank}
use Rattle.pl_line.specs.Scanning.{ends_with_blank}
use Rattle.pl_line.proofs.Laws.Ends.{last_or-slice_get}
use Rattle.pl_line.proofs.scan.ends_with_blank.Goals as goal

pub returns-in-Some : goal.returns-in-Some
returns-in-Some c =
    c.is_blank.ensures
    ∙ ap is_blank c.from.ensures
    ∙ ap ends_with_blank
    (c.in-Some.ensures.value ∙ sym (last_or-slice_get c.as_bytes.result.now) ∙
    ap (last_or None) c.as_bytes.ensures.value)
