-- Compiling a plan's sources again.
use Rattle.std.specs.Prelude.{◌≡◌, List, Result, Ok, Err}
use Rattle.std.specs.FinMap as finite
use Rattle.pl_base.specs.declared.expanded.Argument.{Argument}
use Rattle.pl_base.specs.declared.place.FileKey.{FileKey}
use Rattle.pl_compile.specs.Compiling.{Compiles, IsCompiledOf}
use Rattle.pl_compile.specs.Reading.{Texts}
use Rattle.pl_compile.specs.declared.fault.CompileFault.{CompileFault}
use Rattle.pl_compile.specs.declared.fault.CompileFault.TheVariants as told
use Rattle.pl_plan.specs.declared.plan.Compiled.{Compiled}
use Rattle.pl_plan.specs.declared.plan.Sources.{Sources}

-- the files among a plan's sources, and no other
abbrev pub files_of : Sources → Texts
files_of sources = finite.from_entries sources.files

-- over them alone, with the same root and the same arguments, the same comes out
abbrev pub SourcesCompileAgain : Type 0
SourcesCompileAgain =
    (texts : Texts) (root : FileKey) (arguments : List Argument) (compiled : Compiled) →
    IsCompiledOf texts root arguments compiled →
    IsCompiledOf (files_of compiled.sources) compiled.sources.root compiled.sources.arguments
    compiled

-- want of memory is free
abbrev pub IsSame : Compiled → Result Compiled CompileFault → Type 0
IsSame compiled (Ok again) = again ≡ compiled
IsSame compiled (Err (told.Refused refusal)) = ⊥
IsSame compiled (Err told.Memory) = Unit {0}

-- what compiles compiles to one thing
abbrev pub CompilesToOne : Type 0
CompilesToOne =
    (texts : Texts) (root : FileKey) (arguments : List Argument) (compiled : Compiled)
    (again : Result Compiled CompileFault) → IsCompiledOf texts root arguments compiled →
    Compiles texts root arguments again → IsSame compiled again
