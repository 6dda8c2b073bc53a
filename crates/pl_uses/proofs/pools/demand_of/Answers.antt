use Rattle.std.proofs.Common.{◌≡◌, subst}
use Rattle.std.specs.Prelude.{IfOk}
use Rattle.pl_uses.specs.declared.demand.Demand.{Demand}
use Rattle.pl_uses.proofs.Cutting.{one_part, two_parts}
use Rattle.pl_uses.proofs.pools.demand_of.Goals as goal

pub returns-in-Some : goal.returns-in-Some
returns-in-Some c =
    let P : Demand → Type 0 = λ meant. IfOk c.demand_of_two.result (λ demand. demand ≡ meant) in
    subst P (two_parts c.as_str.result.now c.args.text.now c.in-Some.name.now c.in-Some.value.now
    c.as_str.ensures c.in-Some.ensures.cases) c.demand_of_two.ensures

pub returns-in_ok-name-in-None : goal.returns-in_ok-name-in-None
returns-in_ok-name-in-None c = one_part c.as_str.result.now c.args.text.now
    c.in_ok-name-in-None.name c.as_str.ensures c.in_ok-name-in-None.ensures
    c.in-None.ensures.cases
