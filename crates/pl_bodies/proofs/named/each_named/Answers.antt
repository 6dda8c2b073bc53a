use Rattle.std.proofs.Common.{ap, ◌∙◌}
use Rattle.pl_bodies.proofs.Steps.{one_named}
use Rattle.pl_bodies.proofs.named.each_named.Goals as goal

pub loop-name-preserved : goal.loop-name-preserved
loop-name-preserved g c =
    one_named g.N.Named.makes _ c.loop-name.all c.push.new.self c.loop-name.name-iterator
    c.next.new.self c.in-Some.name c.in-Some.value c.in_ok-text.text c.named-item.result
    c.in-Some.ensures.steps c.in_ok-text.ensures
    (c.named-item.ensures ∙ ap (λ name. g.N.Named.makes name c.in_ok-text.text) c.in_ok-own.ensures)
    c.in_ok-push.ensures.ok c.loop-name.invariant
