-- One check more is asked.
use Rattle.std.proofs.Common.{◌≡◌, ◌<◌, ◌≤◌, ◌+◌, ◌&&◌, ℕ, Bool, true, false, cond, List, [], ◌∷◌}
use Rattle.std.proofs.Common.{◌++◌, length, get_or, take, Option, Some, None, is_none, is_some, not}
use Rattle.std.proofs.Common.{refl, sym}
use Rattle.std.proofs.Common.{ap, ◌∙◌, subst}
use Rattle.std.specs.List.{AllZip, filter}
use Rattle.std.specs.Option.{option_or}
use Rattle.std.proofs.lemmas.Bool.{false≢true}
use Rattle.std.proofs.lemmas.List.{append_assoc, append-nil, take_all, take_more}
use Rattle.std.proofs.lemmas.List.Elements.{filter-append}
use Rattle.pl_checks.specs.declared.check.Check.{Check}
use Rattle.pl_checks.specs.declared.view.CheckView.{CheckView}
use Rattle.pl_checks.specs.declared.view.Verdict.{Verdict}
use Rattle.pl_checks.specs.declared.view.Verdict.TheVariants.{Pass, Wait, Fail}
use Rattle.pl_checks.specs.Verdicts.{IsVerdict}
use Rattle.pl_rules.specs.declared.rule.Rule.{Rule}
use Rattle.pl_judgement.specs.declared.judgement.Judgement.{Judgement}
use Rattle.pl_judgement.specs.declared.kind.CheckKind.{CheckKind}
use Rattle.pl_judgement.specs.Kinds.{is_of}
use Rattle.pl_judgement.specs.Said.{AreVerdicts, IsJudgement, all_pass, first_fail, first_wait}

-- ---- one verdict more

fail_more : (verdicts : List Verdict) (one : Verdict) →
    first_fail (verdicts ++ one ∷ []) ≡ option_or (first_fail verdicts) (first_fail (one ∷ []))
fail_more [] one = refl
fail_more (Pass ∷ verdicts) one = fail_more verdicts one
fail_more (Wait rule ∷ verdicts) one = fail_more verdicts one
fail_more (Fail rule ∷ verdicts) one = refl

wait_more : (verdicts : List Verdict) (one : Verdict) →
    first_wait (verdicts ++ one ∷ []) ≡ option_or (first_wait verdicts) (first_wait (one ∷ []))
wait_more [] one = refl
wait_more (Pass ∷ verdicts) one = wait_more verdicts one
wait_more (Wait rule ∷ verdicts) one = refl
wait_more (Fail rule ∷ verdicts) one = wait_more verdicts one

and_false : {X : Type 0} (o : Option X) → false ≡ (is_none o && false)
and_false None = refl
and_false (Some x) = refl

pub passing : (verdicts : List Verdict) →
    all_pass verdicts ≡ (is_none (first_fail verdicts) && is_none (first_wait verdicts))
passing [] = refl
passing (Pass ∷ verdicts) = passing verdicts
passing (Wait rule ∷ verdicts) = and_false (first_fail verdicts)
passing (Fail rule ∷ verdicts) = refl

zip_more : {A B : Type 0} (R : A → B → Type 0) (xs : List A) (ys : List B) (x : A) (y : B) →
    AllZip R xs ys → R x y → AllZip R (xs ++ x ∷ []) (ys ++ y ∷ [])
zip_more R [] [] x y pairs one = (one, tt)
zip_more R [] (b ∷ ys) x y pairs one = absurd pairs
zip_more R (a ∷ xs) [] x y pairs one = absurd pairs
zip_more R (a ∷ xs) (b ∷ ys) x y (first, pairs) one = (first, zip_more R xs ys x y pairs one)

-- where each check says one thing alone, all together say one list
pub one_list : {A B : Type 0} (R : A → B → Type 0) →
    ((a : A) (l r : B) → R a l → R a r → l ≡ r) → (xs : List A) (ls rs : List B) →
    AllZip R xs ls → AllZip R xs rs → ls ≡ rs
one_list R one [] [] [] left right = refl
one_list R one [] [] (r ∷ rs) left right = absurd right
one_list R one [] (l ∷ ls) rs left right = absurd left
one_list R one (x ∷ xs) [] rs left right = absurd left
one_list R one (x ∷ xs) (l ∷ ls) [] left right = absurd right
one_list R one (x ∷ xs) (l ∷ ls) (r ∷ rs) (a, left) (b, right) =
    let e = one x l r a b in
    let f = one_list R one xs ls rs left right in
    ap (λ y. y ∷ ls) e ∙ ap (λ ys. r ∷ ys) f

-- ---- one check more

asked_more : (view : CheckView) (moment : ℕ) (checks : List Check) (check : Check)
    (verdict : Verdict) (old new : Judgement) → IsJudgement checks view moment old →
    IsVerdict check view moment verdict →
    new.fail ≡ option_or old.fail (first_fail (verdict ∷ [])) →
    new.wait ≡ option_or old.wait (first_wait (verdict ∷ [])) →
    IsJudgement (checks ++ check ∷ []) view moment new
asked_more view moment checks check verdict old new (verdicts, are, sums) says fail wait = (
  verdicts ++ verdict ∷ [],
  zip_more (λ c v. IsVerdict c view moment v) checks verdicts check verdict are says,
  record {
    fail = fail ∙ ap (λ o. option_or o (first_fail (verdict ∷ []))) sums.fail
        ∙ sym (fail_more verdicts verdict);
    wait = wait ∙ ap (λ o. option_or o (first_wait (verdict ∷ []))) sums.wait
        ∙ sym (wait_more verdicts verdict);
  },
)

module _ (view : CheckView) (moment : ℕ) (kind : CheckKind) (all : List Check)
    (start : Judgement) where
  -- so many of them were asked
  abbrev pub Asked : ℕ → Judgement → Type 0
  Asked count judgement = (before : List Check) → IsJudgement before view moment start →
      IsJudgement (before ++ filter (is_of kind) (take count all)) view moment judgement

  pub asked_none : Asked 0 start
  asked_none = λ before is. let P : List Check → Type 0 = λ checks.
      IsJudgement checks view moment start in
      subst P (sym (append-nil before)) is

  grown : (count : ℕ) (check : Check) (b : Bool) → count < length all →
      check ≡ get_or all count check → is_of kind check ≡ b →
      filter (is_of kind) (take (count + 1) all)
      ≡ filter (is_of kind) (take count all) ++ cond b (check ∷ []) []
  grown count check b within is told =
      ap (filter (is_of kind)) (take_more all count check within)
      ∙ ap (λ c. filter (is_of kind) (take count all ++ c ∷ [])) (sym is)
      ∙ filter-append (is_of kind) (take count all) (check ∷ [])
      ∙ ap (λ t. filter (is_of kind) (take count all) ++ cond t (check ∷ []) []) told

  pub asked_one : (count : ℕ) (check : Check) (verdict : Verdict) (old new : Judgement) →
      count < length all → check ≡ get_or all count check → is_of kind check ≡ true →
      IsVerdict check view moment verdict →
      new.fail ≡ option_or old.fail (first_fail (verdict ∷ [])) →
      new.wait ≡ option_or old.wait (first_wait (verdict ∷ [])) →
      Asked count old → Asked (count + 1) new
  asked_one count check verdict old new within is told says fail wait asked = λ before starts.
      let P : List Check → Type 0 = λ checks. IsJudgement checks view moment new in
      let some = filter (is_of kind) (take count all) in
      subst P (append_assoc before some (check ∷ [])
      ∙ ap (λ more. before ++ more) (sym (grown count check true within is told)))
      (asked_more view moment (before ++ some) check verdict old new (asked before starts) says fail
      wait)

  pub asked_other : (count : ℕ) (check : Check) (old new : Judgement) → count < length all →
      check ≡ get_or all count check → is_of kind check ≡ false → new ≡ old →
      Asked count old → Asked (count + 1) new
  asked_other count check old new within is told same asked = λ before starts.
      let P : List Check → Type 0 = λ checks. IsJudgement checks view moment new in
      let Q : Judgement → Type 0 = λ judgement.
      IsJudgement (before ++ filter (is_of kind) (take count all)) view moment judgement in
      let some = filter (is_of kind) (take count all) in
      subst P (ap (λ more. before ++ more) (sym (append-nil some)
      ∙ sym (grown count check false within is told)))
      (subst Q (sym same) (asked before starts))

module _ (view : CheckView) (moment : ℕ) (kind : CheckKind) (all : List Check)
    (start : Judgement) where
  pub all_asked : (count : ℕ) (now : Judgement) → length all ≤ count →
      Asked view moment kind all start count now →
      (before : List Check) → IsJudgement before view moment start →
      IsJudgement (before ++ filter (is_of kind) all) view moment now
  all_asked count now past asked = λ before starts.
      let P : List Check → Type 0 = λ checks.
      IsJudgement (before ++ filter (is_of kind) checks) view moment now in
      subst P (take_all count all past) (asked before starts)

-- ---- whether all pass

pub none_waits : (o p : Option Rule) (a b : Bool) → is_some o ≡ not a → is_some p ≡ not b →
    a ≡ true → b ≡ (is_none o && is_none p)
none_waits None None a true first second holds = refl
none_waits None None a false first second holds = second
none_waits None (Some rule) a true first second holds = absurd (false≢true (sym second))
none_waits None (Some rule) a false first second holds = refl
none_waits (Some rule) p true b first second holds = absurd (false≢true (sym first))
none_waits (Some rule) p false b first second holds = absurd (false≢true holds)

pub one_fails : (o p : Option Rule) (a : Bool) → is_some o ≡ not a → a ≡ false →
    a ≡ (is_none o && is_none p)
one_fails None p true first lacks = absurd (false≢true (sym lacks))
one_fails None p false first lacks = absurd (false≢true first)
one_fails (Some rule) p a first lacks = lacks
