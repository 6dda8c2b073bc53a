-- A set of names with one more.
use Rattle.std.proofs.Common.{◌≡◌, ℕ, Bool, true, false, ◌||◌, cond, List, [], ◌∷◌, ◌++◌, map, refl}
use Rattle.std.proofs.Common.{sym, ap, ap₂, ◌∙◌}
use Rattle.std.specs.Prelude.{nat_eq}
use Rattle.std.specs.Ordering.{nat_cmp}
use Rattle.std.specs.Cmp.Lexicographic.{slice_cmp, pointwise, texts_ties}
use Rattle.std.specs.BTreeMap.{is_at}
use Rattle.std.specs.BTreeSet.{BTreeSet, contains}
use Rattle.std.specs.Cmp.{eq_by_cmp_equiv}
use Rattle.std.proofs.lemmas.Cmp.{nat_list_cmp_total}
use Rattle.pl_base.specs.Folding.{folded}
use Rattle.pl_literal.specs.Booleans.{spells}
use Rattle.std.specs.Prelude.{Option, Some, None}
use Rattle.std.specs.List.{filter_map, cons_option, list_any}
use Rattle.std.proofs.lemmas.List.Folds.{list_any-append}
use Rattle.std.proofs.lemmas.List.{append-nil}
use Rattle.std.proofs.lemmas.List.Elements.{filter_map-append}
use Rattle.pl_schema_parts.specs.declared.pipeline.StepSpec.{StepSpec}
use Rattle.pl_schema_parts.specs.Names.{is_taken, also_taken}
use Rattle.pl_schema_parts.specs.Steps.{step_name, step_names}

either : (b c : Bool) → cond b true c ≡ (c || b)
either true true = refl
either true false = refl
either false true = refl
either false false = refl

pub one_more : (old new : BTreeSet (List ℕ)) (name upper : List ℕ)
    → ((key : List ℕ) → contains (slice_cmp nat_cmp) new key ≡ cond (is_at (slice_cmp nat_cmp upper)
    key) true (contains (slice_cmp nat_cmp) old key))
    → upper ≡ folded name
    → (λ other. contains (slice_cmp nat_cmp) new (folded other)) ≡ also_taken
    (λ other. contains (slice_cmp nat_cmp) old (folded other)) (Some name)
one_more old new name upper updated is_upper i other =
    let was = contains (slice_cmp nat_cmp) old (folded other) in
    (updated (folded other)
    ∙ ap (λ u. cond (is_at (slice_cmp nat_cmp u) (folded other)) true was) is_upper
    ∙ ap (λ is. cond is true was) ((eq_by_cmp_equiv nat_list_cmp_total).symm (folded name)
    (folded other) ∙ sym (texts_ties (folded other) (folded name)))
    ∙ either (spells other name) was) i

-- ---- the names of a list with one more item

pub more :
    (names : List (List ℕ)) (name other : List ℕ) → (is_taken names other || spells other name) ≡
    is_taken (names ++ name ∷ []) other
more names name other = ap (λ b. is_taken names other || b) (or_none (spells other name))
    ∙ sym (list_any-append (spells other) names (name ∷ []))
  where
    or_none : (b : Bool) → b ≡ (b || false)
    or_none true = refl
    or_none false = refl

with_option : (names : List (List ℕ)) (name : Option (List ℕ)) (other : List ℕ) →
    also_taken (is_taken names) name other ≡ is_taken (names ++ cons_option name []) other
with_option names None other = ap (λ ns. is_taken ns other) (sym (append-nil names))
with_option names (Some name) other = more names name other

pub step_more : (taken : List ℕ → Bool) (steps : List StepSpec) (step : StepSpec) →
    taken ≡ is_taken (step_names steps) → also_taken taken (step_name step) ≡ is_taken
    (step_names (steps ++ step ∷ []))
step_more taken steps step same i other =
    (ap (λ (t : List ℕ → Bool). also_taken t (step_name step) other) same
    ∙ with_option (step_names steps) (step_name step) other
    ∙ ap (λ names. is_taken names other) (sym (filter_map-append step_name steps (step ∷ [])))) i
