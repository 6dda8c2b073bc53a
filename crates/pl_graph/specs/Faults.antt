-- What is said of the fault that `order` answers.
use Rattle.std.specs.Prelude.{ℕ, List}
use Rattle.pl_graph.specs.declared.fault.GraphFault.{GraphFault}
use Rattle.pl_graph.specs.declared.fault.GraphFault.TheVariants.{Cycle, Memory}

-- a fact about the cycle of a fault; of want of memory nothing is said
abbrev pub OnCycle : GraphFault → (List ℕ → Type 0) → Type 0
OnCycle (Cycle nodes) P = P nodes
OnCycle Memory P = Unit {0}
