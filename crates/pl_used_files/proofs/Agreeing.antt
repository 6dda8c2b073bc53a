-- Two runs of steps that may call templates: where the first gives something, so does the second,
-- as long as U holds of the files that were called by the end.
use Rattle.std.proofs.Common.{◌≡◌, Result, Ok, Err, List, refl, ap, ◌∙◌}
use Rattle.std.specs.Prelude.{IfOk}
use Rattle.pl_base.specs.declared.place.FileKey.{FileKey}
use Rattle.pl_directives.specs.declared.fault.ExpandFault.{ExpandFault}
use Rattle.pl_reading.specs.Steps.{◌>>=◌}
use Rattle.pl_calls.specs.Meant.{◌>>>◌, alone}
use Rattle.pl_origins.proofs.Steps.{Used}

abbrev pub Agree :
    {X : Type 0} → (List FileKey → Type 0) → List FileKey → Used X → Used X → Type 0
Agree U used one other = IfOk one (λ both. U both.1 → U used × (other ≡ Ok both))

module _ (U : List FileKey → Type 0) where
  pub done : {X : Type 0} (used : List FileKey) (x : X) → Agree U used (Ok (x, used)) (Ok (x, used))
  done used x = λ ends. (ends, refl)

  pub both_alone :
      {X : Type 0} (used : List FileKey) (step : Result X ExpandFault) →
      Agree U used (alone step used) (alone step used)
  both_alone used (Ok x) = λ ends. (ends, refl)
  both_alone used (Err fault) = tt

  pub same_then :
      {A B : Type 0} (used : List FileKey) (step : Result A ExpandFault) (next more : A → Used B) →
      ((x : A) → Agree U used (next x) (more x)) → Agree U used (step >>= next) (step >>= more)
  same_then used (Ok x) next more agree = agree x
  same_then used (Err fault) next more agree = tt

  joined :
      {A B : Type 0} (used later : List FileKey) (x : A) (other : Used A) (one : Used B)
      (more : A → List FileKey → Used B) → (U later → U used × (other ≡ Ok (x, later))) →
      Agree U later one (more x later) → Agree U used one (other >>> more)
  joined used later x other (Ok both) more first agree = λ ends.
      let then = agree ends in
      let before = first then.0 in
      (before.0, ap (λ step. step >>> more) before.1 ∙ then.1)
  joined used later x other (Err fault) more first agree = tt

  pub both_then :
      {A B : Type 0} (used : List FileKey) (one other : Used A)
      (next more : A → List FileKey → Used B) → Agree U used one other →
      ((x : A) (later : List FileKey) → Agree U later (next x later) (more x later)) →
      Agree U used (one >>> next) (other >>> more)
  both_then used (Ok both) other next more first agree =
      joined used both.1 both.0 other (next both.0 both.1) more first (agree both.0 both.1)
  both_then used (Err fault) other next more first agree = tt
