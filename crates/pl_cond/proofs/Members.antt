-- The two members of a stage or of a job.
use Rattle.std.proofs.Common.{◌≡◌, ℕ, Bool, true, false, cond, Option, Some, None, List, [], ◌∷◌}
use Rattle.std.proofs.Common.{refl, ap, sym, ◌∙◌}
use Rattle.std.specs.Prelude.{codes, find, nat_eq, unwrap_or}
use Rattle.std.specs.Option.{option_map}
use Rattle.std.specs.Cmp.Lexicographic.{pointwise}
use Rattle.pl_base.specs.Folding.{folded}
use Rattle.pl_base.specs.declared.origin.Origin.{Origin}
use Rattle.pl_base.specs.declared.value.Value.{Value, Null, Object, Str}
use Rattle.pl_base.specs.declared.value.MarkedPair.{MarkedPair}
use Rattle.pl_eval.specs.Known.{same_name}
use Rattle.pl_eval.specs.LookUps.{looked_up, made, property}
use Rattle.pl_eval.specs.Means.{answer}
use Rattle.pl_literal.specs.Booleans.{spells}
use Rattle.pl_results.specs.declared.parts.Part.{Part}
use Rattle.pl_cond.specs.Objects.{outputs_value, pair, part_value, result_value}
use Rattle.pl_cond.specs.Paths.{inside}
use Rattle.pl_cond.proofs.Inside.{goes_in, in_null, looked_in}
use Rattle.pl_cond.proofs.Swapped.{pointwise_swap}

spelled : (name word : List ℕ) → same_name name word ≡ spells name word
spelled name word = pointwise_swap (folded word) (folded name)

abbrev pub chosen : Origin → Part → Bool → Bool → Value
chosen here part is_result is_outputs = cond is_result (result_value part.result)
    (cond is_outputs (outputs_value here part.legs) Null)

looked_part : (here : Origin) (part : Part) (name : List ℕ) →
    looked_up here (part_value here part) (Str name) ≡
    made here (chosen here part (spells name (codes "result")) (spells name (codes "outputs")))
looked_part here part name =
    looked_in here
    (pair here (codes "result") (result_value part.result)
    ∷ pair here (codes "outputs") (outputs_value here part.legs) ∷ []) name
    ∙ ap (λ b. unwrap_or (option_map (λ (one : MarkedPair). one.item)
    (cond b (Some (pair here (codes "result") (result_value part.result)))
    (find (λ (one : MarkedPair). same_name name one.key)
    (pair here (codes "outputs") (outputs_value here part.legs) ∷ [])))) (made here Null))
    (spelled name (codes "result"))
    ∙ ap (λ c. unwrap_or (option_map (λ (one : MarkedPair). one.item)
    (cond (spells name (codes "result"))
    (Some (pair here (codes "result") (result_value part.result)))
    (cond c (Some (pair here (codes "outputs") (outputs_value here part.legs))) None)))
    (made here Null)) (spelled name (codes "outputs"))
    ∙ by (spells name (codes "result")) (spells name (codes "outputs"))
  where
    by : (b c : Bool) → unwrap_or (option_map (λ (one : MarkedPair). one.item)
        (cond b (Some (pair here (codes "result") (result_value part.result)))
        (cond c (Some (pair here (codes "outputs") (outputs_value here part.legs))) None)))
        (made here Null) ≡ made here (chosen here part b c)
    by true c = refl
    by false true = refl
    by false false = refl

pub in_part : (here : Origin) (part : Part) (name : List ℕ) (names : List (List ℕ)) →
    inside here (part_value here part) (name ∷ names) ≡ inside here
    (chosen here part (spells name (codes "result")) (spells name (codes "outputs"))) names
in_part here part name names =
    goes_in here (part_value here part)
    (chosen here part (spells name (codes "result")) (spells name (codes "outputs"))) name names
    (looked_part here part name)

pub no_part : (here : Origin) (part : Part) (name : List ℕ) (names : List (List ℕ)) →
    spells name (codes "result") ≡ false → spells name (codes "outputs") ≡ false →
    inside here (part_value here part) (name ∷ names) ≡ answer here Null
no_part here part name names other another =
    in_part here part name names ∙ rw (other, another) (in_null here names)
