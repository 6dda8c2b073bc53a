-- Compiles that are made, and shared.
use Rattle.std.specs.Prelude.{◌≡◌, List, All, Option, Some, None}
use Rattle.pl_base.specs.declared.expanded.Argument.{Argument}
use Rattle.pl_base.specs.declared.place.FileKey.{FileKey}
use Rattle.pl_sources.specs.Below.pl_compile.specs.Compiling.{IsCompiledOf}
use Rattle.pl_sources.specs.Below.pl_compile.specs.Reading.{Texts}
use Rattle.pl_plan.specs.declared.plan.Compiled.{Compiled}
use Rattle.pl_seeing.specs.Seeing.{IsCompileOf}

-- the one compile of these files, or none where there is no such
abbrev pub Comes : Texts → FileKey → List Argument → Option Compiled → Type 0
Comes texts root arguments (Some compiled) = IsCompiledOf texts root arguments compiled
    × ((other : Compiled) → IsCompiledOf texts root arguments other → other ≡ compiled)
Comes texts root arguments None = (compiled : Compiled) → ¬ IsCompiledOf texts root arguments compiled

-- each is the compile of its own sources
abbrev pub AreOwn : List Compiled → Type 0
AreOwn made = All (λ compiled. IsCompileOf compiled.sources compiled) made
