-- The refusal that a fault of an expansion is told as: its code, its place, and the code of what is
-- wrong with an expression, its value, a parameter or a text.
use Rattle.std.specs.Prelude.{◌≡◌, ℕ, List, [], ◌∷◌, Result, Ok, Err}
use Rattle.pl_base.specs.declared.expanded.Refusal.{Refusal}
use Rattle.pl_directives.specs.Codes.{code_of}
use Rattle.pl_directives.specs.declared.fault.Complaint.{Complaint}
use Rattle.pl_directives.specs.declared.fault.ExpandFault.{ExpandFault}
use Rattle.pl_directives.specs.declared.fault.ExpandFault.TheVariants.{Refused}
use Rattle.pl_directives.specs.declared.fault.ExpandProblem.{ExpandProblem}
use Rattle.pl_directives.specs.declared.fault.ExpandProblem.TheVariants.{BadFile, Evaluation}
use Rattle.pl_directives.specs.declared.fault.ExpandProblem.TheVariants.{Expression, Parameter}
use Rattle.pl_params.specs.Codes.{code_of as parameter_code}
use Rattle.pl_compile.specs.Codes.{evaluation_code, expression_code, text_code}
use Rattle.pl_compile.specs.declared.fault.CompileFault.{CompileFault}
use Rattle.pl_compile.specs.declared.fault.CompileFault.TheVariants as told

abbrev pub detail_of : ExpandProblem → List (List ℕ)
detail_of (Expression code) = expression_code code ∷ []
detail_of (Evaluation code) = evaluation_code code ∷ []
detail_of (Parameter problem) = parameter_code problem ∷ []
detail_of (BadFile code) = text_code code ∷ []
detail_of problem = []

abbrev pub refusal_of : Complaint → Refusal
refusal_of complaint = record {
  code = code_of complaint.problem;
  place = complaint.place;
  detail = detail_of complaint.problem;
}

-- what is told is what is meant, and want of memory is free
abbrev pub Tells : {X : Type 0} → Result X CompileFault → Result X ExpandFault → Type 0
Tells (Ok value) meant = meant ≡ Ok value
Tells (Err (told.Refused refusal)) meant =
    (complaint : Complaint) × ((meant ≡ Err (Refused complaint)) × (refusal ≡ refusal_of complaint))
Tells (Err told.Memory) meant = Unit {0}
