-- Legs of a job, of which no more are held than may be at once.
use Rattle.std.specs.Prelude.{◌≤◌, List}
use Rattle.pl_facts.specs.declared.fact.Fact.{Fact}
use Rattle.pl_granting.specs.Named.{IsJobOf, JobOf}
use Rattle.pl_granting.specs.Rules.{legs_taken}

abbrev pub HaveRoom : List Fact → Type 0
HaveRoom facts = (at : JobOf) → IsJobOf facts at → legs_taken facts at ≤ at.planned.max_parallel
