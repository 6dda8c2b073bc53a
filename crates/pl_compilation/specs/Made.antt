-- What a snapshot of the files is compiled to.
use Rattle.std.specs.Prelude.{Option, Some, None, Result, Ok, Err}
use Rattle.pl_base.specs.declared.expanded.Refusal.{Refusal}
use Rattle.pl_compile.specs.Compiling.{IsCompiledOf, IsRefusalOf}
use Rattle.pl_plan.specs.declared.plan.Compiled.{Compiled}
use Rattle.pl_queueing.specs.Queueing.{Made}
use Rattle.pl_snapshots.specs.declared.snapshot.Snapshot.{Snapshot}

-- its root file with its arguments, compiled, or the refusal of that
abbrev pub IsMadeOf : Snapshot → Result Compiled Refusal → Type 0
IsMadeOf snapshot (Ok compiled) =
    IsCompiledOf snapshot.files snapshot.root snapshot.arguments compiled
IsMadeOf snapshot (Err refusal) =
    IsRefusalOf snapshot.files snapshot.root snapshot.arguments refusal

-- something was compiled exactly where something was wanted, and that was it
abbrev pub IsMade : Option Snapshot → Made → Type 0
IsMade None None = Unit {0}
IsMade None (Some made) = ⊥
IsMade (Some snapshot) None = ⊥
IsMade (Some snapshot) (Some made) = IsMadeOf snapshot made
