use Rattle.std.proofs.Common.{ap}
use Rattle.std.specs.Option.{option_copied}
use Rattle.pl_cond.proofs.Resolved.{found_path}
use Rattle.pl_cond.proofs.resolving.+path_of.Goals as goal

pub returns-in_ok-with_name-in-Some-2 : goal.returns-in_ok-with_name-in-Some-2
returns-in_ok-with_name-in-Some-2 n c =
    found_path c.args.expr.now c.in-Index.of c.in-Index.at _ _ _ c.in-Some.name.now _
    c.in-Some-2.path
    c.in_ok-with_name-in-Some-2.field-0 c.in-Index.is c.get.ensures c.get-in-Some.ensures
    c.literal.ensures (ap option_copied c.in-Some.is) c.in_ok-path-in-Some.ensures c.in-Some-2.is
    c.in_ok-with_name-in-Some-2.ensures
