use Rattle.std.proofs.Common.{false, sym, ◌∙◌}
use Rattle.std.proofs.lemmas.List.{get_or_default}
use Rattle.pl_counters.proofs.Lowered.{kept_less}
use Rattle.pl_counters.proofs.counters.Counters.end.Goals as goal

pub invariant_of-self : goal.invariant_of-self
invariant_of-self c =
    let was = c.self.inside in
    let within = rw (← c.self.view_is) at c.requires in
    let waits = get_or_default was.ended.items c.args.node false c.index.result.now within
    ∙ sym c.index.ensures ∙ c.if-not-index.true in
    kept_less was.lists.items c.as_slice.result.now was.left.items c.as_mut_slice.result.now
    c.lower.new.left was.ended.items c.args.node was.left.len c.self.invariant within waits
    c.as_slice.ensures.value c.as_mut_slice.ensures.value c.as_mut_slice.ensures.len
    c.lower.auto.left c.lower.ensures
