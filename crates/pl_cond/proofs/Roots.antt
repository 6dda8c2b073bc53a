-- The roots of a stage or of a job, looked up one by one.
use Rattle.std.proofs.Common.{◌≡◌, ◌≢◌, ℕ, true, false, cond, Option, Some, None, List, [], ◌∷◌}
use Rattle.std.proofs.Common.{◌++◌, refl, ap, subst, sym, ◌∙◌}
use Rattle.std.specs.Prelude.{codes, nat_eq, IfOk, MatchOption, Result, Ok, Err}
use Rattle.std.specs.Option.{option_map}
use Rattle.std.specs.Cmp.Lexicographic.{pointwise}
use Rattle.std.proofs.lemmas.Slice.Eq.{bytes_eq-Decides}
use Rattle.std.specs.FinMap as finite
use Rattle.std.proofs.lemmas.Cmp.{nat_list_cmp_total}
use Rattle.pl_base.specs.Files.{text_cmp}
use Rattle.pl_base.specs.Folding.{folded}
use Rattle.pl_base.specs.declared.origin.Origin.{Origin}
use Rattle.pl_base.specs.declared.value.Value.{Value}
use Rattle.pl_base.specs.declared.value.MarkedNode.{MarkedNode}
use Rattle.pl_expr.proofs.Folding.{same_by_cmp}
use Rattle.pl_eval.specs.declared.fault.EvalCode.{EvalCode}
use Rattle.pl_eval.specs.declared.fault.EvalCode.TheVariants.{UnknownRoot}
use Rattle.pl_eval.specs.Known.{root_of}
use Rattle.pl_eval.specs.LookUps.{made}
use Rattle.pl_eval.specs.Means.{Meaning, answer, rooted}
use Rattle.pl_literal.specs.Booleans.{spells}
use Rattle.pl_plan.specs.declared.plan.Plan.{Plan}
use Rattle.pl_results.specs.declared.members.PlanNode.{PlanNode}
use Rattle.pl_results.specs.declared.view.RunView.{RunView}
use Rattle.pl_cond.specs.declared.variables.Variable.{Variable}
use Rattle.pl_cond.specs.Contexts.{dependencies_at, here_in, known_at, root_if, roots_at}
use Rattle.pl_cond.specs.Contexts.{stage_dependencies_at}
use Rattle.pl_cond.specs.Objects.{variables_value}
use Rattle.pl_cond.specs.Paths.{LeadsTo, along, inside, path_means}

-- the roots are three, or two where the second one isn't there; only a name that no other root has
-- is looked up behind the first
looked_up :
    (here : Origin) (first : Value) (second : Option Value) (third : Value) (name : List ℕ) →
    finite.find text_cmp (folded name) (
    (codes "DEPENDENCIES", made here first)
    ∷ root_if here (codes "STAGEDEPENDENCIES") second
    ++ (codes "VARIABLES", made here third) ∷ []) ≡
    cond (spells name (codes "dependencies")) (Some (made here first))
    (finite.find text_cmp (folded name) (root_if here (codes "STAGEDEPENDENCIES") second
    ++ (codes "VARIABLES", made here third) ∷ []))
looked_up here first second third name =
    ap (λ b. cond b (Some (made here first))
    (finite.find text_cmp (folded name) (root_if here (codes "STAGEDEPENDENCIES") second
    ++ (codes "VARIABLES", made here third) ∷ [])))
    (sym (same_by_cmp (folded name) (codes "DEPENDENCIES")))

last_root : (here : Origin) (third : Value) (name : List ℕ) →
    finite.find text_cmp (folded name) ((codes "VARIABLES", made here third) ∷ []) ≡
    cond (spells name (codes "variables")) (Some (made here third)) None
last_root here third name =
    ap (λ b. cond b (Some (made here third)) None)
    (sym (same_by_cmp (folded name) (codes "VARIABLES")))

abbrev pub second_is : Origin → Option Value → Value → List ℕ → Option MarkedNode
second_is here None third name =
    cond (spells name (codes "variables")) (Some (made here third)) None
second_is here (Some second) third name =
    cond (spells name (codes "stageDependencies")) (Some (made here second))
    (cond (spells name (codes "variables")) (Some (made here third)) None)

behind_first : (here : Origin) (second : Option Value) (third : Value) (name : List ℕ) →
    finite.find text_cmp (folded name) (root_if here (codes "STAGEDEPENDENCIES") second
    ++ (codes "VARIABLES", made here third) ∷ []) ≡ second_is here second third name
behind_first here None third name = last_root here third name
behind_first here (Some second) third name =
    ap (λ b. cond b (Some (made here second))
    (finite.find text_cmp (folded name) ((codes "VARIABLES", made here third) ∷ [])))
    (sym (same_by_cmp (folded name) (codes "STAGEDEPENDENCIES")))
    ∙ ap (cond (spells name (codes "stageDependencies")) (Some (made here second)))
    (last_root here third name)

pub root_is : (plan : Plan) (view : RunView) (node : PlanNode) (variables : List Variable)
    (name : List ℕ) → root_of (known_at plan view node variables) name ≡
    cond (spells name (codes "dependencies"))
    (Some (made (here_in plan) (dependencies_at (here_in plan) plan view node)))
    (second_is (here_in plan) (stage_dependencies_at (here_in plan) plan view node)
    (variables_value (here_in plan) variables) name)
root_is plan view node variables name =
    finite.get-from_entries nat_list_cmp_total
    (roots_at (here_in plan) plan view node variables) (folded name)
    ∙ looked_up (here_in plan) (dependencies_at (here_in plan) plan view node)
    (stage_dependencies_at (here_in plan) plan view node)
    (variables_value (here_in plan) variables) name
    ∙ ap (cond (spells name (codes "dependencies"))
    (Some (made (here_in plan) (dependencies_at (here_in plan) plan view node))))
    (behind_first (here_in plan) (stage_dependencies_at (here_in plan) plan view node)
    (variables_value (here_in plan) variables) name)

-- ---- what a path of names means from each root on

along_fault : (here : Origin) (code : EvalCode) (names : List (List ℕ)) →
    along here (Err code) names ≡ Err code
along_fault here code [] = refl
along_fault here code (name ∷ names) = along_fault here code names

-- a value that was found, or that there is no such root
abbrev pub Finds : Plan → RunView → PlanNode → List Variable → Origin → List ℕ → List (List ℕ) →
    Option Value → Type 0
Finds plan view node variables here root names value = MatchOption value
    (names ≡ [] → root_of (known_at plan view node variables) root ≡ None)
    (λ found. path_means (known_at plan view node variables) here root names ≡ answer here found)

module _ (plan : Plan) (view : RunView) (node : PlanNode) (variables : List Variable)
    (root : List ℕ)
    (names : List (List ℕ)) where
  from_root :
      (o : Option MarkedNode) (m : Meaning) → root_of (known_at plan view node variables) root
      ≡ o → along (here_in plan) (rooted o) names ≡ m →
      path_means (known_at plan view node variables) (here_in plan) root names ≡ m
  from_root o m is rest = ap (λ o. along (here_in plan) (rooted o) names) is ∙ rest

  pub at_dependencies : (here : Origin) (value : Value) → here ≡ here_in plan →
      true ≡ spells root (codes "dependencies") →
      inside here (dependencies_at here plan view node) names ≡ answer here value →
      path_means (known_at plan view node variables) here root names ≡ answer here value
  at_dependencies here value is same =
      let P : Origin → Type 0 = λ h. inside h (dependencies_at h plan view node) names ≡
      answer h value → path_means (known_at plan view node variables) h root names ≡
      answer h value in
      subst P (sym is) (λ found. from_root
      (Some (made (here_in plan) (dependencies_at (here_in plan) plan view node)))
      (answer (here_in plan) value)
      (root_is plan view node variables root ∙ rw (← same) refl) found)

  other_word : true ≡ spells root (codes "stageDependencies") →
      spells root (codes "variables") ≡ false
  other_word same =
      let word : folded root ≡ codes "STAGEDEPENDENCIES" =
      (bytes_eq-Decides (folded root) (codes "STAGEDEPENDENCIES")).0 (sym same) in
      ap (λ w. pointwise nat_eq w (codes "VARIABLES")) word

  behind : (o : Option MarkedNode) → false ≡ spells root (codes "dependencies") →
      second_is (here_in plan) (stage_dependencies_at (here_in plan) plan view node)
      (variables_value (here_in plan) variables) root ≡ o →
      root_of (known_at plan view node variables) root ≡ o
  behind o other is = root_is plan view node variables root ∙ rw (← other) is

  stage_by : (of value : Option Value) →
      second_is (here_in plan) of (variables_value (here_in plan) variables) root ≡
      root_of (known_at plan view node variables) root →
      true ≡ spells root (codes "stageDependencies") → LeadsTo (here_in plan) of names value →
      Finds plan view node variables (here_in plan) root names value
  stage_by of None is same none = λ empty. sym is
      ∙ ap (λ o. second_is (here_in plan) o (variables_value (here_in plan) variables) root) none
      ∙ rw (other_word same) refl
  stage_by None (Some value) is same found = absurd
      (let fault = sym (along_fault (here_in plan) UnknownRoot names) ∙ found in cc)
  stage_by (Some of) (Some value) is same found =
      from_root (Some (made (here_in plan) of)) (answer (here_in plan) value)
      (sym is ∙ rw (← same) refl) found

  pub at_stage_dependencies : (here : Origin) (value : Option Value) → here ≡ here_in plan →
      false ≡ spells root (codes "dependencies") →
      true ≡ spells root (codes "stageDependencies") →
      LeadsTo here (stage_dependencies_at here plan view node) names value →
      Finds plan view node variables here root names value
  at_stage_dependencies here value is other same =
      let P : Origin → Type 0 = λ h. LeadsTo h (stage_dependencies_at h plan view node) names
      value →
      Finds plan view node variables h root names value in
      subst P (sym is) (λ found. stage_by (stage_dependencies_at (here_in plan) plan view node)
      value
      (sym (behind (second_is (here_in plan) (stage_dependencies_at (here_in plan) plan view node)
      (variables_value (here_in plan) variables) root) other refl)) same found)

  variables_last : (of : Option Value) → false ≡ spells root (codes "stageDependencies") →
      true ≡ spells root (codes "variables") →
      second_is (here_in plan) of (variables_value (here_in plan) variables) root ≡
      Some (made (here_in plan) (variables_value (here_in plan) variables))
  variables_last None other same = rw (← same) refl
  variables_last (Some of) other same = rw (← other, ← same) refl

  pub at_variables : (here : Origin) (value : Option Value) → here ≡ here_in plan →
      false ≡ spells root (codes "dependencies") →
      false ≡ spells root (codes "stageDependencies") →
      true ≡ spells root (codes "variables") →
      MatchOption value (names ≢ [])
      (λ found. inside here (variables_value here variables) names ≡ answer here found) →
      Finds plan view node variables here root names value
  at_variables here None is first second same some = λ empty. absurd (some empty)
  at_variables here (Some value) is first second same found =
      let P : Origin → Type 0 = λ h. inside h (variables_value h variables) names ≡ answer h value →
      path_means (known_at plan view node variables) h root names ≡ answer h value in
      subst P (sym is) (λ leads. from_root
      (Some (made (here_in plan) (variables_value (here_in plan) variables)))
      (answer (here_in plan) value)
      (behind (Some (made (here_in plan) (variables_value (here_in plan) variables))) first
      (variables_last (stage_dependencies_at (here_in plan) plan view node) second same)) leads)
      found

  nothing_last : (of : Option Value) → false ≡ spells root (codes "stageDependencies") →
      false ≡ spells root (codes "variables") →
      second_is (here_in plan) of (variables_value (here_in plan) variables) root ≡ None
  nothing_last None other another = rw (← another) refl
  nothing_last (Some of) other another = rw (← other, ← another) refl

  pub at_none : false ≡ spells root (codes "dependencies") →
      false ≡ spells root (codes "stageDependencies") →
      false ≡ spells root (codes "variables") →
      root_of (known_at plan view node variables) root ≡ None
  at_none first second third = behind None first
      (nothing_last (stage_dependencies_at (here_in plan) plan view node) second third)

-- ---- a root other than `variables`

pub same_root : (plan : Plan) (view : RunView) (node : PlanNode) (some others : List Variable)
    (root : List ℕ) → false ≡ spells root (codes "variables") →
    root_of (known_at plan view node some) root ≡ root_of (known_at plan view node others) root
same_root plan view node some others root other =
    root_is plan view node some root
    ∙ ap (cond (spells root (codes "dependencies"))
    (Some (made (here_in plan) (dependencies_at (here_in plan) plan view node))))
    (by (stage_dependencies_at (here_in plan) plan view node))
    ∙ sym (root_is plan view node others root)
  where
    by : (of : Option Value) →
        second_is (here_in plan) of (variables_value (here_in plan) some) root ≡
        second_is (here_in plan) of (variables_value (here_in plan) others) root
    by None = rw (← other) refl
    by (Some of) = rw (← other) refl

-- ---- along a result

pub if_ok : {X E : Type 0} (P Q : X → Type 0) (r : Result X E) → ((x : X) → P x → Q x) → IfOk r P →
    IfOk r Q
if_ok P Q (Ok x) step holds = step x holds
if_ok P Q (Err e) step holds = tt
