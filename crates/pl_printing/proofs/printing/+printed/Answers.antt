use Rattle.std.proofs.Common.{◌≡◌, ◌++◌, ◌∷◌, [], length, codes, ap, sym, ◌∙◌, arith}
use Rattle.std.proofs.lemmas.Result.{on_ok_weaker}
use Rattle.std.proofs.lemmas.Bool.{false≢true}
use Rattle.std.specs.List.{flat_map}
use Rattle.pl_printing.specs.Printed.{written, written_pair}
use Rattle.pl_printing.specs.Levels.{at_level}
use Rattle.pl_printing.proofs.Entries.{entry_written, entries_whole}
use Rattle.pl_printing.proofs.Nodes.{item_lines, key_written, sequence_lines, mapping_lines}
use Rattle.pl_printing.proofs.printing.+printed.Goals as goal

pub push_item-returns : goal.push_item-returns
push_item-returns t c =
    on_ok_weaker c.push_behind_mark.result
    (entry_written c.args.level (codes "-") (written c.args.item.now) c.args.output.now.items _ _ _
    c.in_ok-push_indentation.ensures c.in_ok-push.ensures.items)
    c.push_behind_mark.ensures

pub push_pair-returns : goal.push_pair-returns
push_pair-returns t c =
    on_ok_weaker c.push_behind_mark.result
    (key_written c.args.level c.args.pair.now c.as_bytes.result.now c.args.output.now.items _ _ _ _
    c.as_bytes.ensures c.in_ok-push_indentation.ensures c.in_ok-push_quoted.ensures
    c.in_ok-push.ensures.items)
    c.push_behind_mark.ensures

pub push_sequence-returns : goal.push_sequence-returns
push_sequence-returns t c =
    let old = c.args.output.now.items in
    let items = c.as_slice-item-items.result.now in
    let end : c.loop-item.item-index ≡ length items = omega arith in
    entries_whole c.args.level item_lines items c.loop-item.item-index old c.loop-item.output.items
    end c.loop-item.invariant
    ∙ ap (λ xs. old ++ at_level c.args.level (flat_map item_lines xs)) c.as_slice-item-items.ensures
    ∙ ap (λ lines. old ++ at_level c.args.level lines)
    (sym (sequence_lines c.args.items.now (λ none. false≢true (c.if-is_empty.ensures.1 none))))

pub push_mapping-returns : goal.push_mapping-returns
push_mapping-returns t c =
    let old = c.args.output.now.items in
    let pairs = c.as_slice-pair-items.result.now in
    let end : c.loop-pair.pair-index ≡ length pairs = omega arith in
    entries_whole c.args.level written_pair pairs c.loop-pair.pair-index old
    c.loop-pair.output.items end c.loop-pair.invariant
    ∙ ap (λ xs. old ++ at_level c.args.level (flat_map written_pair xs))
    c.as_slice-pair-items.ensures
    ∙ ap (λ lines. old ++ at_level c.args.level lines)
    (sym (mapping_lines c.args.pairs.now (λ none. false≢true (c.if-is_empty.ensures.1 none))))
