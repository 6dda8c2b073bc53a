use Rattle.std.proofs.Common.{◌≡◌, ◌++◌, map, take}
use Rattle.pl_uses.specs.Pools.{demand_of}
use Rattle.pl_uses.proofs.pools.push_written.Given as goal

abbrev pub invariant-loop-text : goal.invariant-loop-text
invariant-loop-text l = l.demands ≡ l.initial.demands ++ map demand_of (take l.text-index l.texts)
