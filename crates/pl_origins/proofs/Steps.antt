-- Steps one after the other, and what holds behind them.
use Rattle.std.proofs.Common.{Result, Ok, Err, List}
use Rattle.std.specs.Prelude.{IfOk}
use Rattle.pl_base.specs.declared.place.FileKey.{FileKey}
use Rattle.pl_directives.specs.declared.fault.ExpandFault.{ExpandFault}
use Rattle.pl_reading.specs.Steps.{◌>>=◌}
use Rattle.pl_recursion.specs.Below.pl_calls.specs.Meant.{◌>>>◌, alone}

-- of what a step gives, with the files that were called by then
abbrev pub Used : Type 0 → Type 0
Used X = Result (X × List FileKey) ExpandFault

-- ---- steps that call nothing

pub ok_then :
    {A B : Type 0} (Q : A → Type 0) (S : B → Type 0) (step : Result A ExpandFault)
    (next : A → Result B ExpandFault) → IfOk step Q → ((x : A) → Q x → IfOk (next x) S) →
    IfOk (step >>= next) S
ok_then Q S (Ok x) next holds goes = goes x holds
ok_then Q S (Err fault) next holds goes = tt

pub any_then :
    {A B : Type 0} (S : B → Type 0) (step : Result A ExpandFault)
    (next : A → Result B ExpandFault) → ((x : A) → IfOk (next x) S) → IfOk (step >>= next) S
any_then S (Ok x) next goes = goes x
any_then S (Err fault) next goes = tt

-- ---- Steps that may call templates. U is asked of the files that were called by the end, and then
-- holds of those that were called before; what a step gives holds where H does.

abbrev pub Gives :
    {X : Type 0} → (List FileKey → Type 0) → Type 0 → List FileKey → Used X → (X → Type 0) →
    Type 0
Gives U H used step Q = IfOk step (λ both. (U both.1 → U used) × (U both.1 → H → Q both.0))

module _ (U : List FileKey → Type 0) where
  pub given :
      {X : Type 0} (Q : X → Type 0) (G H : Type 0) (used : List FileKey) (step : Used X) →
      (H → G) → Gives U G used step Q → Gives U H used step Q
  given Q G H used (Ok both) more gives = (gives.0, λ ends h. gives.1 ends (more h))
  given Q G H used (Err fault) more gives = tt

  pub implied :
      {X : Type 0} (Q S : X → Type 0) (H : Type 0) (used : List FileKey) (step : Used X) →
      ((x : X) → H → Q x → S x) → Gives U H used step Q → Gives U H used step S
  implied Q S H used (Ok both) implies gives =
      (gives.0, λ ends h. implies both.0 h (gives.1 ends h))
  implied Q S H used (Err fault) implies gives = tt

  pub done_gives :
      {X : Type 0} (Q : X → Type 0) (H : Type 0) (used : List FileKey) (x : X) → (H → Q x) →
      Gives U H used (Ok (x, used)) Q
  done_gives Q H used x holds = (λ ends. ends, λ ends h. holds h)

  pub alone_gives :
      {X : Type 0} (Q : X → Type 0) (H : Type 0) (used : List FileKey)
      (step : Result X ExpandFault) → (H → IfOk step Q) → Gives U H used (alone step used) Q
  alone_gives Q H used (Ok x) holds = (λ ends. ends, λ ends h. holds h)
  alone_gives Q H used (Err fault) holds = tt

  -- with what holds of a step whatever H says
  pub static_then :
      {A B : Type 0} (F : A → Type 0) (S : B → Type 0) (H : Type 0) (used : List FileKey)
      (step : Result A ExpandFault) (next : A → Used B) → IfOk step F →
      ((x : A) → F x → Gives U H used (next x) S) → Gives U H used (step >>= next) S
  static_then F S H used (Ok x) next holds goes = goes x holds
  static_then F S H used (Err fault) next holds goes = tt

  pub plain_then :
      {A B : Type 0} (S : B → Type 0) (H : Type 0) (used : List FileKey)
      (step : Result A ExpandFault) (next : A → Used B) →
      ((x : A) → Gives U H used (next x) S) → Gives U H used (step >>= next) S
  plain_then S H used (Ok x) next goes = goes x
  plain_then S H used (Err fault) next goes = tt

  joined :
      {A B : Type 0} (Q : A → Type 0) (S : B → Type 0) (H : Type 0) (used later : List FileKey)
      (x : A) (step : Used B) → (U later → U used) → (U later → H → Q x) →
      Gives U (H × Q x) later step S → Gives U H used step S
  joined Q S H used later x (Ok both) before holds gives = (
    λ ends. before (gives.0 ends),
    λ ends h. gives.1 ends (h, holds (gives.0 ends) h),
  )
  joined Q S H used later x (Err fault) before holds gives = tt

  pub first_then :
      {A B : Type 0} (Q : A → Type 0) (S : B → Type 0) (H : Type 0) (used : List FileKey)
      (step : Result A ExpandFault) (next : A → Used B) → (H → IfOk step Q) →
      ((x : A) → Gives U (H × Q x) used (next x) S) → Gives U H used (step >>= next) S
  first_then Q S H used (Ok x) next holds goes =
      joined Q S H used used x (next x) (λ ends. ends) (λ ends h. holds h) (goes x)
  first_then Q S H used (Err fault) next holds goes = tt

  pub used_then :
      {A B : Type 0} (Q : A → Type 0) (S : B → Type 0) (H : Type 0) (used : List FileKey)
      (step : Used A) (next : A → List FileKey → Used B) → Gives U H used step Q →
      ((x : A) (later : List FileKey) → Gives U (H × Q x) later (next x later) S) →
      Gives U H used (step >>> next) S
  used_then Q S H used (Ok both) next gives goes =
      joined Q S H used both.1 both.0 (next both.0 both.1) gives.0 gives.1 (goes both.0 both.1)
  used_then Q S H used (Err fault) next gives goes = tt

  pub used_static_then :
      {A B : Type 0} (F Q : A → Type 0) (S : B → Type 0) (H : Type 0) (used : List FileKey)
      (step : Used A) (next : A → List FileKey → Used B) → IfOk step (λ both. F both.0) →
      Gives U H used step Q →
      ((x : A) (later : List FileKey) → F x → Gives U (H × Q x) later (next x later) S) →
      Gives U H used (step >>> next) S
  used_static_then F Q S H used (Ok both) next holds gives goes =
      joined Q S H used both.1 both.0 (next both.0 both.1) gives.0 gives.1
      (goes both.0 both.1 holds)
  used_static_then F Q S H used (Err fault) next holds gives goes = tt
