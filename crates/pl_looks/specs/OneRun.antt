-- The places of one run's stages.
use Rattle.std.specs.Prelude.{◌≡◌, ℕ, List, All}
use Rattle.pl_facts.specs.declared.fact.Fact.{Fact}
use Rattle.pl_due.specs.Contention.{InRun}
use Rattle.pl_due.specs.Scans.{HasStages}
use Rattle.pl_due.specs.declared.open_stages.Place.{Place}
use Rattle.pl_looks.specs.Looks.{OfRun}

-- ascending, each of the run, and among them each of its stages of which it holds
pub record HasOfRun (facts : List Fact) (run : ℕ) (P : InRun) (places : List Place) : Type 0 where
  pub has : HasStages facts (OfRun run P) places
  pub own : All (λ at. at.run ≡ run) places
