-- What is told of an input: the text of a plan, the line of a refusal, or nothing.
use Rattle.std.specs.Prelude.{◌≡◌, ℕ, List, Option, Some, None, ⊤}
use Rattle.pl_base.specs.declared.expanded.Argument.{Argument}
use Rattle.pl_base.specs.declared.expanded.Refusal.{Refusal}
use Rattle.pl_bundle.specs.declared.bundle.Bundle.{Bundle}
use Rattle.pl_compile.specs.Compiling.{IsCompiledOf, IsRefusalOf}
use Rattle.pl_plan.specs.declared.plan.Compiled.{Compiled}
use Rattle.pl_plan_report.specs.Lines.{plan_text}
use Rattle.pl_report.specs.Places.{refusal_line}
use Rattle.pl_offline.specs.declared.output.Output.{Output}
use Rattle.pl_offline.specs.declared.output.Output.TheVariants as output

-- the pipeline compiles, and this is its plan's text
abbrev pub IsPlan : Bundle → List Argument → List ℕ → Type 0
IsPlan bundle arguments text =
    (compiled : Compiled) × IsCompiledOf bundle.files bundle.root arguments compiled
    × (text ≡ plan_text compiled.plan)

-- it is refused, and this is the refusal's line
abbrev pub IsLine : Bundle → List Argument → List ℕ → Type 0
IsLine bundle arguments line =
    (refusal : Refusal) × IsRefusalOf bundle.files bundle.root arguments refusal
    × (line ≡ refusal_line refusal)

abbrev pub IsOutput : Option Bundle → List Argument → Output → Type 0
IsOutput (Some bundle) arguments (output.Plan text) = IsPlan bundle arguments text
IsOutput (Some bundle) arguments (output.Line line) = IsLine bundle arguments line
IsOutput (Some bundle) arguments output.Nothing = ⊥
IsOutput None arguments (output.Plan text) = ⊥
IsOutput None arguments (output.Line line) = ⊥
IsOutput None arguments output.Nothing = ⊤
