use Rattle.std.proofs.Common.{◌-◌, length, refl, sym, ap, ◌∙◌, arith}
use Rattle.std.proofs.lemmas.Result.{err_from_is_err_and}
use Rattle.pl_base.specs.declared.node.NodeBody.TheVariants.{Seq, Map}
use Rattle.pl_line.specs.Characters.{all_of}
use Rattle.pl_line.specs.Lines.{row}
use Rattle.pl_line.specs.Trees.{node_at}
use Rattle.pl_line.specs.Flow.{node, value, pair}
use Rattle.pl_line.proofs.Laws.Entries.{node_shuts, node_sequence, node_mapping, gathered_ends}
use Rattle.pl_line.proofs.Laws.Entries.{gathered_breaks, gathered_strays, gathered_goes}
use Rattle.pl_line.proofs.flows.+collections.Goals as goal

pub collection-returns-then-depth-eq0-clause-gives :
    goal.collection-returns-then-depth-eq0-clause-gives
collection-returns-then-depth-eq0-clause-gives t c =
    node_shuts c.args.file.now c.args.depth (row c.args.line.now) c.fault_at.result
    c.if-depth-eq0.true c.fault_at.ensures

pub collection-returns-then-begins_with-clause-gives :
    goal.collection-returns-then-begins_with-clause-gives
collection-returns-then-begins_with-clause-gives t c =
    rw (node_sequence c.args.file.now c.args.depth (row c.args.line.now) c.if-depth-eq0.false
    (sym c.if-begins_with.ensures)) c.sequence.ensures.gives

pub collection-returns-else-begins_with-clause-gives :
    goal.collection-returns-else-begins_with-clause-gives
collection-returns-else-begins_with-clause-gives t c =
    rw (node_mapping c.args.file.now c.args.depth (row c.args.line.now) c.if-depth-eq0.false
    (sym c.if-begins_with.ensures)) c.mapping.ensures.gives

pub sequence-loop-line-init : goal.sequence-loop-line-init
sequence-loop-line-init t c = (
  length (all_of c.args.line.now.text),
  omega (arith, c.advance.ensures.shorter),
  omega (arith, c.advance.ensures.shorter),
  rw (c.new-items.ensures, c.advance.ensures.value) refl,
)

pub sequence-returns-in_err-next-clause-gives : goal.sequence-returns-in_err-next-clause-gives
sequence-returns-in_err-next-clause-gives t c =
    let p = err_from_is_err_and c.from_residual.result c.from_residual.ensures.1 in
    let inv = c.loop-line.invariant in
    rw (p.1, p.2)
    (gathered_breaks c.args.file.now Seq 93
    (λ _ left. value c.args.file.now (node c.args.file.now c.args.depth) left)
    (row c.args.line.now) inv.0 c.loop-line.items (row c.loop-line.line)
    (omega (arith, inv.1)) inv.3 c.in_err-next.field-0.0 (sym c.loop-line-test.ensures)
    c.in_err-next.ensures.gives)

pub sequence-returns-in_err-separated-clause-gives :
    goal.sequence-returns-in_err-separated-clause-gives
sequence-returns-in_err-separated-clause-gives t c =
    let p = err_from_is_err_and c.from_residual-in_err-separated.result
    c.from_residual-in_err-separated.ensures.1 in
    let inv = c.loop-line.invariant in
    rw (p.1, p.2)
    (gathered_strays c.args.file.now Seq 93
    (λ _ left. value c.args.file.now (node c.args.file.now c.args.depth) left)
    (row c.args.line.now) inv.0 c.loop-line.items (row c.loop-line.line)
    (omega (arith, inv.1)) inv.3 c.in_err-separated.field-0.0 c.in_ok-next.next
    (row c.value.new.line) (sym c.loop-line-test.ensures) c.in_ok-next.ensures.gives
    c.in_err-separated.ensures.gives)

pub sequence-loop-line-preserved : goal.sequence-loop-line-preserved
sequence-loop-line-preserved t c =
    let inv = c.loop-line.invariant in (
      inv.0 - 1,
      omega (arith, inv.1, c.in_ok-next.ensures.falls, c.in_ok-separated.ensures.falls),
      omega (arith, inv.2, c.in_ok-next.ensures.falls, c.in_ok-separated.ensures.falls),
      gathered_goes c.args.file.now Seq 93
          (λ _ left. value c.args.file.now (node c.args.file.now c.args.depth) left)
          (row c.args.line.now) inv.0 c.loop-line.items (row c.loop-line.line)
          (omega (arith, inv.1)) inv.3 c.in_ok-next.next (row c.value.new.line)
          (row c.separated.new.line) c.push.new.self (sym c.loop-line-test.ensures)
          c.in_ok-next.ensures.gives
          c.in_ok-separated.ensures.gives c.in_ok-push.ensures.ok,
    )

pub sequence-returns-clause-gives : goal.sequence-returns-clause-gives
sequence-returns-clause-gives t c =
    let inv = c.loop-line.invariant in
    gathered_ends c.args.file.now Seq 93
    (λ _ left. value c.args.file.now (node c.args.file.now c.args.depth) left)
    (row c.args.line.now) inv.0 c.loop-line.items (row c.loop-line.line)
    (omega (arith, inv.1)) inv.3 c.in_ok-node.node (sym c.loop-line-test.ensures)
    c.in_ok-node.ensures

pub mapping-loop-pairs-init : goal.mapping-loop-pairs-init
mapping-loop-pairs-init t c = (
  length (all_of c.args.line.now.text),
  omega (arith, c.advance.ensures.shorter),
  omega (arith, c.advance.ensures.shorter),
  rw (c.new-pairs.ensures, c.advance.ensures.value) refl,
)

pub mapping-returns-in_err-next-clause-gives : goal.mapping-returns-in_err-next-clause-gives
mapping-returns-in_err-next-clause-gives t c =
    let p = err_from_is_err_and c.from_residual.result c.from_residual.ensures.1 in
    let inv = c.loop-pairs.invariant in
    rw (p.1, p.2)
    (gathered_breaks c.args.file.now Map 125
    (pair c.args.file.now (node c.args.file.now c.args.depth)) (row c.args.line.now) inv.0
    c.loop-pairs.pairs.pairs (row c.loop-pairs.line)
    (omega (arith, inv.1)) inv.3 c.in_err-next.field-0.0 (sym c.loop-pairs-test.ensures)
    c.in_err-next.ensures.gives)

pub mapping-returns-in_err-separated-clause-gives :
    goal.mapping-returns-in_err-separated-clause-gives
mapping-returns-in_err-separated-clause-gives t c =
    let p = err_from_is_err_and c.from_residual-in_err-separated.result
    c.from_residual-in_err-separated.ensures.1 in
    let inv = c.loop-pairs.invariant in
    rw (p.1, p.2)
    (gathered_strays c.args.file.now Map 125
    (pair c.args.file.now (node c.args.file.now c.args.depth)) (row c.args.line.now) inv.0
    c.loop-pairs.pairs.pairs (row c.loop-pairs.line)
    (omega (arith, inv.1)) inv.3 c.in_err-separated.field-0.0 c.in_ok-next.next
    (row c.pair.new.line) (sym c.loop-pairs-test.ensures) c.in_ok-next.ensures.gives
    c.in_err-separated.ensures.gives)

pub mapping-loop-pairs-preserved : goal.mapping-loop-pairs-preserved
mapping-loop-pairs-preserved t c =
    let inv = c.loop-pairs.invariant in (
      inv.0 - 1,
      omega (arith, inv.1, c.in_ok-next.ensures.falls, c.in_ok-separated.ensures.falls),
      omega (arith, inv.2, c.in_ok-next.ensures.falls, c.in_ok-separated.ensures.falls),
      gathered_goes c.args.file.now Map 125
          (pair c.args.file.now (node c.args.file.now c.args.depth)) (row c.args.line.now) inv.0
          c.loop-pairs.pairs.pairs (row c.loop-pairs.line)
          (omega (arith, inv.1)) inv.3 c.in_ok-next.next (row c.pair.new.line)
          (row c.separated.new.line) c.in_ok-pairs.pairs.pairs (sym c.loop-pairs-test.ensures)
          c.in_ok-next.ensures.gives
          c.in_ok-separated.ensures.gives c.in_ok-pairs.ensures,
    )

pub mapping-returns-clause-gives : goal.mapping-returns-clause-gives
mapping-returns-clause-gives t c =
    let inv = c.loop-pairs.invariant in
    gathered_ends c.args.file.now Map 125 (pair c.args.file.now (node c.args.file.now c.args.depth))
    (row c.args.line.now) inv.0 c.loop-pairs.pairs.pairs (row c.loop-pairs.line)
    (omega (arith, inv.1)) inv.3 c.in_ok-node.node (sym c.loop-pairs-test.ensures)
    (c.in_ok-node.ensures ∙ ap (λ ps. node_at c.args.file.now (row c.args.line.now) (Map ps))
    c.into_pairs.ensures)
