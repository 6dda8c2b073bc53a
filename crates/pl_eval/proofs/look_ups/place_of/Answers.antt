use Rattle.std.proofs.Common.{sym, ◌∙◌}
use Rattle.pl_eval.specs.Known.{same_name}
use Rattle.pl_eval.proofs.Finding.{found_at}
use Rattle.pl_eval.proofs.look_ups.place_of.Goals as goal

pub returns-then-is_named : goal.returns-then-is_named
returns-then-is_named c =
    let within = rw c.as_slice-pair-items.ensures at c.loop-index-test.true in
    let is = rw c.as_slice-pair-items.ensures at c.pair-item.is in (
      within,
      found_at (λ pair. same_name c.args.name.now pair.key) c.args.pairs.now
          c.loop-index.index c.pair-item.result within is (sym c.is_named.ensures ∙
          c.if-is_named.true) c.loop-index.invariant,
    )
