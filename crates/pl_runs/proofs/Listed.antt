-- A run is open exactly where it is among the open runs.
use Rattle.std.proofs.Common.{◌≡◌, ◌==◌, ℕ, List}
use Rattle.std.specs.Cmp.{both_ways}
use Rattle.std.specs.List.{list_any}
use Rattle.pl_facts.specs.declared.fact.Fact.{Fact}
use Rattle.pl_open_runs.specs.Open.{is_open, open_runs}
use Rattle.pl_open_runs.proofs.Numbers.{among_of, has_of}
use Rattle.pl_open_runs.proofs.OpenRuns.{among_is_open, open_is_among}

pub listed_is_open : (facts : List Fact) (run : ℕ) →
    list_any (λ one. one == run) (open_runs facts) ≡ is_open run facts
listed_is_open facts run =
    both_ways (list_any (λ one. one == run) (open_runs facts)) (is_open run facts)
    (λ is. among_is_open facts run (among_of (open_runs facts) run is))
    (λ is. has_of (open_runs facts) run (open_is_among facts run is))
