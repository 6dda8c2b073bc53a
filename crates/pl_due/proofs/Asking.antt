-- The checks of one use more are asked.
use Rattle.std.proofs.Common.{◌≡◌, ◌<◌, ◌≤◌, ◌+◌, arith, ℕ, true, List, []}
use Rattle.std.proofs.Common.{◌∷◌, ◌++◌}
use Rattle.std.proofs.Common.{length, get_or, take, flat_map, None, refl, sym, ap, ◌∙◌, subst}
use Rattle.std.specs.List.{filter}
use Rattle.std.specs.Prelude.{◌==◌}
use Rattle.std.proofs.lemmas.List.{append_assoc, append-nil, take_all, take_more}
use Rattle.std.proofs.lemmas.List.Concat.{flat_map-cons}
use Rattle.std.proofs.lemmas.List.Elements.{filter-append}
use Rattle.std.proofs.lemmas.Grind.{flat_map-append}
use Rattle.pl_base.specs.declared.resource.ResourceKey.{ResourceKey}
use Rattle.pl_checks.specs.declared.check.Check.{Check}
use Rattle.pl_checks.specs.declared.view.CheckView.{CheckView}
use Rattle.pl_facts.specs.declared.fact.Fact.{Fact}
use Rattle.pl_judgement.specs.declared.judgement.Judgement.{Judgement}
use Rattle.pl_judgement.specs.declared.kind.CheckKind.{CheckKind}
use Rattle.pl_judgement.specs.declared.kind.CheckKind.TheVariants as kinds
use Rattle.pl_judgement.specs.Kinds.{by_kind, is_of}
use Rattle.pl_judgement.specs.Said.{IsJudgement}
use Rattle.pl_due.specs.Checked.{all_checks, are_unguarded, checks_on}
use Rattle.pl_due.proofs.Standing.{first_of_two, second_of_two}

module _ (facts : List Fact) (view : CheckView) (moment : ℕ) (kind : CheckKind)
    (uses : List ResourceKey) (start : Judgement) where
  -- the checks of so many uses were asked
  abbrev pub AskedOf : ℕ → Judgement → Type 0
  AskedOf count judgement = (before : List Check) → IsJudgement before view moment start →
      IsJudgement (before ++ filter (is_of kind) (flat_map (checks_on facts) (take count uses)))
      view moment judgement

  pub asked_of_none : AskedOf 0 start
  asked_of_none = λ before is. let P : List Check → Type 0 = λ checks.
      IsJudgement checks view moment start in
      subst P (sym (append-nil before)) is

  of_one_more : (count : ℕ) (key : ResourceKey) → count < length uses →
      key ≡ get_or uses count key →
      flat_map (checks_on facts) (take (count + 1) uses)
      ≡ flat_map (checks_on facts) (take count uses) ++ checks_on facts key
  of_one_more count key within is =
      ap (flat_map (checks_on facts)) (take_more uses count key within)
      ∙ ap (λ k. flat_map (checks_on facts) (take count uses ++ k ∷ [])) (sym is)
      ∙ flat_map-append (checks_on facts) (take count uses) (key ∷ [])
      ∙ ap (λ cs. flat_map (checks_on facts) (take count uses) ++ cs)
      (flat_map-cons (checks_on facts) key [] ∙ append-nil (checks_on facts key))

  pub asked_of_one : (count : ℕ) (key : ResourceKey) (old new : Judgement) →
      count < length uses → key ≡ get_or uses count key →
      ((before : List Check) → IsJudgement before view moment old →
      IsJudgement (before ++ filter (is_of kind) (checks_on facts key)) view moment new) →
      AskedOf count old → AskedOf (count + 1) new
  asked_of_one count key old new within is asks asked = λ before starts.
      let P : List Check → Type 0 = λ checks. IsJudgement checks view moment new in
      let some = filter (is_of kind) (flat_map (checks_on facts) (take count uses)) in
      let more = filter (is_of kind) (checks_on facts key) in
      subst P (append_assoc before some more
      ∙ ap (λ all. before ++ all)
      (sym (filter-append (is_of kind) (flat_map (checks_on facts) (take count uses))
      (checks_on facts key)))
      ∙ ap (λ all. before ++ filter (is_of kind) all) (sym (of_one_more count key within is)))
      (asks (before ++ some) (asked before starts))

  pub asked_of_all : (count : ℕ) (now : Judgement) → length uses ≤ count → AskedOf count now →
      (before : List Check) → IsJudgement before view moment start →
      IsJudgement (before ++ filter (is_of kind) (flat_map (checks_on facts) uses)) view moment now
  asked_of_all count now past asked = λ before starts.
      let P : List ResourceKey → Type 0 = λ some.
      IsJudgement (before ++ filter (is_of kind) (flat_map (checks_on facts) some)) view moment now
      in
      subst P (take_all count uses past) (asked before starts)

-- ---- nothing guards them

no_checks : (checks : List Check) → (length checks == 0) ≡ true → checks ≡ []
no_checks [] h = refl
no_checks (check ∷ checks) h = absurd (grind arith)

none_on : (facts : List Fact) (uses : List ResourceKey) → are_unguarded facts uses ≡ true →
    flat_map (checks_on facts) uses ≡ []
none_on facts [] h = refl
none_on facts (key ∷ uses) h =
    flat_map-cons (checks_on facts) key uses
    ∙ ap (λ cs. cs ++ flat_map (checks_on facts) uses)
    (no_checks (checks_on facts key) (first_of_two (length (checks_on facts key) == 0)
    (are_unguarded facts uses) h))
    ∙ none_on facts uses (second_of_two (length (checks_on facts key) == 0)
    (are_unguarded facts uses) h)

pub unguarded : (facts : List Fact) (uses : List ResourceKey) → are_unguarded facts uses ≡ true →
    all_checks facts uses ≡ []
unguarded facts uses h = ap by_kind (none_on facts uses h)

pub judged_nothing : (facts : List Fact) (view : CheckView) (moment : ℕ) (uses : List ResourceKey)
    (judgement : Judgement) → are_unguarded facts uses ≡ true → judgement.fail ≡ None →
    judgement.wait ≡ None → IsJudgement (all_checks facts uses) view moment judgement
judged_nothing facts view moment uses judgement none fail wait =
    let P : List Check → Type 0 = λ checks. IsJudgement checks view moment judgement in
    subst P (sym (unguarded facts uses none)) ([], tt, record { fail = fail; wait = wait })

-- ---- all kinds

abbrev Step : List Fact → List ResourceKey → CheckView → ℕ → CheckKind → Judgement → Judgement →
    Type 0
Step facts uses view moment kind old new = (before : List Check) →
    IsJudgement before view moment old →
    IsJudgement (before ++ filter (is_of kind) (flat_map (checks_on facts) uses)) view moment new

pub asked_all : (facts : List Fact) (uses shown : List ResourceKey) (view : CheckView)
    (moment : ℕ) (none one two three all : Judgement) → shown ≡ uses → none.fail ≡ None →
    none.wait ≡ None → Step facts shown view moment kinds.RequiredTemplate none one →
    Step facts shown view moment kinds.Branch one two →
    Step facts shown view moment kinds.Approval two three →
    Step facts shown view moment kinds.Hours three all →
    IsJudgement (all_checks facts uses) view moment all
asked_all facts uses shown view moment none one two three all same fail wait a b c d =
    let checks = flat_map (checks_on facts) shown in
    let P : List Check → Type 0 = λ checks. IsJudgement checks view moment all in
    let first = filter (is_of kinds.RequiredTemplate) checks in
    let second = filter (is_of kinds.Branch) checks in
    let third = filter (is_of kinds.Approval) checks in
    subst P (ap (all_checks facts) same)
    (d ((first ++ second) ++ third) (c (first ++ second) (b first
    (a [] ([], tt, record { fail = fail; wait = wait })))))
