-- Where a step comes from (Microsoft Learn, Azure Pipelines, "Security through templates"): through
-- the template that the run extends, and with its mapping and its first key as they stand there.
use Rattle.std.specs.Prelude.{◌≡◌, List, ◌∷◌, All}
use Rattle.pl_base.specs.declared.place.FileKey.{FileKey}
use Rattle.pl_base.specs.declared.origin.Crossing.{Crossing}
use Rattle.pl_base.specs.declared.origin.Crossing.TheVariants.{Extends, Include, Argument, Made}
use Rattle.pl_checks.specs.declared.view.StepMark.{StepMark}

-- neither an argument brought the node over this border, nor did an expression make it
abbrev pub IsWritten : Crossing → Type 0
IsWritten (Extends file) = Unit {0}
IsWritten (Include file place) = Unit {0}
IsWritten (Argument name place) = ⊥
IsWritten Made = ⊥

-- the first border that was crossed is that of the template which the root extends
abbrev pub BeginsWith : FileKey → List Crossing → Type 0
BeginsWith file crossings = (rest : List Crossing) × (crossings ≡ Extends file ∷ rest)

-- a step is from a template: its mapping and its first key came through it
pub record IsFrom (file : FileKey) (step : StepMark) : Type 0 where
  pub mapping : BeginsWith file step.mapping.crossings
  pub key : BeginsWith file step.key.crossings

-- a node came through a template as it is written there
pub record IsOwn (file : FileKey) (crossings : List Crossing) : Type 0 where
  pub from : BeginsWith file crossings
  pub written : All IsWritten crossings

-- a step is literal: it is from the template, and neither its mapping nor its first key was brought
-- by an argument or made by an expression
pub record IsLiteral (file : FileKey) (step : StepMark) : Type 0 where
  pub from : IsFrom file step
  pub mapping : All IsWritten step.mapping.crossings
  pub key : All IsWritten step.key.crossings
