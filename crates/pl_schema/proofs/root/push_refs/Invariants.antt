use Rattle.std.proofs.Common.{◌≡◌, ◌++◌, map, take}
use Rattle.pl_schema.specs.Pipelines.{ref_of}
use Rattle.pl_schema.proofs.root.push_refs.Given as goal

abbrev pub invariant-loop-repository : goal.invariant-loop-repository
invariant-loop-repository l = l.linked ≡ l.initial.linked ++ map ref_of
    (take l.repository-index l.repositories)
