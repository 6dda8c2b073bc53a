use Rattle.std.proofs.Common.{Some, sym, ap, ◌∙◌}
use Rattle.pl_file_sets.specs.Spread.{is_high}
use Rattle.pl_file_sets.proofs.Tries.{with_high, with_low}
use Rattle.pl_file_sets.proofs.trie.+with.Goals as goal

pub returns-in_ok-new-in-Fork : goal.returns-in_ok-new-in-Fork
returns-in_ok-new-in-Fork t c =
    with_high c.args.bit c.saturating_sub.result c.args.file.key (Some c.args.file.text)
    c.args.trie.now c.in-Fork.low c.in-Fork.high c.deref.result.now c.in_ok-high-in-Fork.high
    c.in_ok-copy-in-Fork.field-0 c.in_ok-new-in-Fork.field-0 c.in-Fork.is c.saturating_sub.ensures
    c.in_ok-high-in-Fork.ensures c.deref.ensures c.in_ok-copy-in-Fork.ensures
    c.in_ok-new-in-Fork.ensures
    (ap (is_high c.args.bit) (sym c.requires.spread) ∙ sym c.is_high.ensures ∙ c.if-is_high.true)

pub returns-in_ok-copy-in-Fork-2 : goal.returns-in_ok-copy-in-Fork-2
returns-in_ok-copy-in-Fork-2 t c =
    with_low c.args.bit c.saturating_sub-else-is_high.result c.args.file.key
    (Some c.args.file.text) c.args.trie.now c.in-Fork.low c.in-Fork.high
    c.deref-else-is_high.result.now c.in_ok-low-in-Fork.low c.in_ok-new-in-Fork-2.field-0
    c.in_ok-copy-in-Fork-2.field-0 c.in-Fork.is c.saturating_sub-else-is_high.ensures
    c.in_ok-low-in-Fork.ensures c.deref-else-is_high.ensures c.in_ok-new-in-Fork-2.ensures
    c.in_ok-copy-in-Fork-2.ensures
    (ap (is_high c.args.bit) (sym c.requires.spread) ∙ sym c.is_high.ensures ∙ c.if-is_high.false)
