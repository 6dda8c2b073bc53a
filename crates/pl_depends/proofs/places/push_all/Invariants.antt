use Rattle.std.proofs.Common.{◌≡◌, ◌++◌, take}
use Rattle.pl_depends.proofs.places.push_all.Given as goal

abbrev pub invariant-loop-place : goal.invariant-loop-place
invariant-loop-place l = l.found ≡ l.initial.found ++ take l.place-index l.places
