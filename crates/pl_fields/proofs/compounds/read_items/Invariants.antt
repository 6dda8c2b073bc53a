use Rattle.std.proofs.Common.{◌≡◌, ◌++◌, length}
use Rattle.std.specs.List.{flat_map, AllByRecursion}
use Rattle.pl_fields.proofs.compounds.read_items.Given as goal

abbrev pub invariant-loop : goal.invariant-loop
invariant-loop g l = record {
  parts : l.bytes ≡ flat_map g.T.Written.spelled l.items ++ l.rest;
  each : AllByRecursion g.T.Written.fits l.items;
  len : length l.items ≡ l.counter;
}
