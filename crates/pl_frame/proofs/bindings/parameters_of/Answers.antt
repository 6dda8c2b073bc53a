use Rattle.std.proofs.Common.{◌≡◌, length, arith}
use Rattle.pl_frame.proofs.Bound.{binds, no_more_declared, no_more_bound, empty}
use Rattle.pl_frame.proofs.bindings.parameters_of.Goals as goal

pub returns-in_default-get : goal.returns-in_default-get
returns-in_default-get c =
    no_more_declared _ _ _ _ c.loop-one.rest.items _ c.len.ensures c.in_default-get.ensures.value
    c.loop-one.invariant

pub loop-one-preserved : goal.loop-one-preserved
loop-one-preserved c =
    binds _ _ _ _ _ c.loop-one.rest.items c.pop.new.self.items _ _ _ _ c.in-Some.ensures.items
    c.len.ensures c.in-Some-get.ensures.value
    c.in_ok-parameter_of.ensures c.in_ok-push.ensures.ok c.loop-one.invariant

pub returns : goal.returns
returns c =
    let none : length c.loop-one.rest.items ≡ 0 =
    omega (arith, c.in_default.ensures.cases.0, c.loop-one.rest.ok.0) in
    no_more_bound _ _ _ _ c.loop-one.rest.items (empty c.loop-one.rest.items none)
    c.loop-one.invariant
