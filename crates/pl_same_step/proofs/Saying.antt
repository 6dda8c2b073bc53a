-- What checks say of a stage where the same is found: they see who decided what, in no order.
use Rattle.std.proofs.Common.{◌≡◌, ◌≤◌, ◌<◌, ◌&&◌, ◌||◌, ℕ, Bool, true, false, List, [], ◌∷◌, ◌++◌, not}
use Rattle.std.proofs.Common.{All, Option, Some, None, count_by, flat_map, if◌then◌else◌, is_some}
use Rattle.std.proofs.Common.{inl, inr, refl, sym, ap, subst, ◌∙◌, true≢false}
use Rattle.std.proofs.lemmas.Cmp.{nat_list_cmp_total, tied_itself}
use Rattle.std.specs.Cmp.Lexicographic.{same_text, texts_ties}
use Rattle.std.specs.List.{list_any, AllZip}
use Rattle.std.specs.Option.{option_map_or, option_or}
use Rattle.std.specs.Ordering.{is_eq}
use Rattle.std.specs.Prelude.{unwrap_or}
use Rattle.std.specs.Set.{unique_keys}
use Rattle.pl_base.specs.Files.{text_cmp}
use Rattle.pl_base.specs.Firsts.{IsFirst}
use Rattle.pl_checks.specs.Approvals.{approvals, counts, deadline, has_approved, has_decided}
use Rattle.pl_checks.specs.Approvals.{has_rejected, same_name, IsApprovalVerdict}
use Rattle.pl_checks.specs.Branches.{IsBranchVerdict}
use Rattle.pl_checks.specs.Hours.{IsHoursVerdict, IsHoursVerdictAt}
use Rattle.pl_checks.specs.Templates.{IsTemplateVerdict}
use Rattle.pl_checks.specs.Verdicts.{IsVerdict}
use Rattle.pl_checks.specs.declared.check.Approval.{Approval}
use Rattle.pl_checks.specs.declared.check.BranchControl.{BranchControl}
use Rattle.pl_checks.specs.declared.check.BusinessHours.{BusinessHours}
use Rattle.pl_checks.specs.declared.check.Check.{Check}
use Rattle.pl_checks.specs.declared.check.Check.TheVariants as check
use Rattle.pl_checks.specs.declared.check.RequiredTemplate.{RequiredTemplate}
use Rattle.pl_checks.specs.declared.view.CheckView.{CheckView}
use Rattle.pl_checks.specs.declared.view.Verdict.{Verdict}
use Rattle.pl_checks.specs.declared.view.Verdict.TheVariants.{Pass, Wait, Fail}
use Rattle.pl_step_laws.specs.Below.pl_step.specs.Below.pl_decisions.specs.Below.pl_due.specs.Checked.{all_checks, AreVerdictsOf}
use Rattle.pl_step_laws.specs.Below.pl_step.specs.Below.pl_decisions.specs.Below.pl_due.proofs.Standing.{both, first_of_two, second_of_two}
use Rattle.pl_facts.specs.declared.fact.Event.{Event}
use Rattle.pl_facts.specs.declared.fact.Event.TheVariants as event
use Rattle.pl_facts.specs.declared.fact.Fact.{Fact}
use Rattle.pl_facts.specs.declared.fact.QueuedRun.{QueuedRun}
use Rattle.pl_journal.specs.About.{is_about, key_of}
use Rattle.pl_journal.specs.Kinds.{is_decision_by}
use Rattle.pl_journal.specs.Runs.{decided, decision, decisions, still_decided, verdict_told}
use Rattle.pl_journal.specs.Settings.{by}
use Rattle.pl_log.proofs.Naming.{exact_key, key_itself}
use Rattle.pl_log.specs.Keys.{same_key, Named, Stage}
use Rattle.pl_log.specs.Latest.{latest, latest_first}
use Rattle.pl_plan.specs.declared.plan.PlanStage.{PlanStage}
use Rattle.pl_same_lookups.specs.Alike.{LookAlike}
use Rattle.pl_rules.specs.declared.rule.Rule.TheVariants as rules
use Rattle.pl_same_lookups.proofs.Finding.{passes, same_truth, there}
use Rattle.pl_same_step.proofs.Seeing.{all_checks_same, since_same}
use Rattle.pl_step_laws.specs.Below.pl_step.specs.Below.pl_granting.specs.Below.pl_views.specs.CheckViews.{check_view}
use Rattle.pl_zones.specs.declared.local.Local.{Local}

-- ---- a test of what a list of facts tells is one of the facts

or_again : (a b c : Bool) → ((a || b) || c) ≡ (a || (b || c))
or_again true b c = refl
or_again false b c = refl

or_false : (a : Bool) → (a || false) ≡ a
or_false true = refl
or_false false = refl

or_turned : (a b : Bool) → (a || b) ≡ (b || a)
or_turned true true = refl
or_turned true false = refl
or_turned false true = refl
or_turned false false = refl

module _ {X : Type 0} (p : X → Bool) where
  any_joined : (xs ys : List X) → list_any p (xs ++ ys) ≡ (list_any p xs || list_any p ys)
  any_joined [] ys = refl
  any_joined (x ∷ xs) ys = ap (λ (b : Bool). p x || b) (any_joined xs ys)
      ∙ sym (or_again (p x) (list_any p xs) (list_any p ys))

module _ {X Y : Type 0} (p : Y → Bool) (f : X → List Y) (test : X → Bool) where
  abbrev here : X → Bool
  here x = test x && list_any p (f x)

  one_here : (x : X) (b : Bool) → list_any p (flat_map f (if b then x ∷ [] else []))
      ≡ (b && list_any p (f x))
  one_here x true = any_joined p (f x) [] ∙ or_false (list_any p (f x))
  one_here x false = refl

  flat_joined : (xs ys : List X) →
      list_any p (flat_map f (xs ++ ys)) ≡
      (list_any p (flat_map f xs) || list_any p (flat_map f ys))
  flat_joined [] ys = refl
  flat_joined (x ∷ xs) ys = any_joined p (f x) (flat_map f (xs ++ ys))
      ∙ (ap (λ (b : Bool). list_any p (f x) || b) (flat_joined xs ys)
      ∙ (sym (or_again (list_any p (f x)) (list_any p (flat_map f xs))
      (list_any p (flat_map f ys)))
      ∙ ap (λ (b : Bool). b || list_any p (flat_map f ys))
      (sym (any_joined p (f x) (flat_map f xs)))))

  any_told : (xs : List X) → list_any p (flat_map f (latest_first test xs)) ≡ list_any here xs
  any_told [] = refl
  any_told (x ∷ xs) = flat_joined (latest_first test xs) (if test x then x ∷ [] else [])
      ∙ (ap (λ (b : Bool). b || list_any p (flat_map f (if test x then x ∷ [] else [])))
      (any_told xs)
      ∙ (ap (λ (b : Bool). list_any here xs || b) (one_here x (test x))
      ∙ or_turned (list_any here xs) (here x)))

any_latest : {X : Type 0} (p : X → Bool) (xs : List X) → list_any p xs ≡ is_some (latest p xs)
any_latest p [] = refl
any_latest {X} p (x ∷ xs) = ap (λ (b : Bool). p x || b) (any_latest p xs)
    ∙ go (latest p xs) (p x)
  where
    go : (o : Option X) (b : Bool) →
        (b || is_some o) ≡ is_some (option_or o (if b then Some x else None))
    go None true = refl
    go None false = refl
    go (Some y) true = refl
    go (Some y) false = refl

-- ---- who decided

same_names : (a b : List ℕ) → same_name a b ≡ true → a ≡ b
same_names a b e = same_text a b (sym e)

names_itself : (a : List ℕ) → same_name a a ≡ true
names_itself a = texts_ties a a ∙ ap is_eq (tied_itself nat_list_cmp_total a)

tied_names : (a b : List ℕ) → is_eq (text_cmp a b) ≡ true → a ≡ b
tied_names a b e = same_text a b (sym (texts_ties a b ∙ e))

-- a verdict that somebody's is
meant : (approve said : Bool) → (if approve then said else not said) ≡ true → said ≡ approve
meant true said e = e
meant false true e = sym e
meant false false e = refl

meant_itself : (approve : Bool) → (if approve then approve else not approve) ≡ true
meant_itself true = refl
meant_itself false = refl

module _ (facts : List Fact) (run stage : ℕ) (name : List ℕ) (approve : Bool) where
  abbrev counted_one : Fact → Bool
  counted_one fact = is_about (Stage run stage) fact && still_decided facts fact.event

  abbrev is_his : List ℕ × Bool → Bool
  is_his one = same_name one.0 name && (if approve then one.1 else not one.1)

  abbrev tells : Fact → Bool
  tells fact = counted_one fact && list_any is_his (decided fact.event)

  abbrev Says : Type 0
  Says = by verdict_told (decision run stage name facts) ≡ Some approve

  says_by : (one : Event) → same_key (key_of one) (Stage run stage) ≡ true →
      still_decided facts one ≡ true → list_any is_his (decided one) ≡ true → Says
  says_by (event.DecisionMade r s approver said) about still his =
      let k : Stage r s ≡ Stage run stage = exact_key (Stage r s) (Stage run stage) about in
      let m : r ≡ run = cc in
      let n : s ≡ stage = cc in
      let it : is_his (approver, said) ≡ true = sym (or_false (is_his (approver, said))) ∙ his in
      let who : approver ≡ name =
      same_names approver name (first_of_two (same_name approver name)
      (if approve then said else not said) it) in
      let what : said ≡ approve = meant approve said (second_of_two (same_name approver name)
      (if approve then said else not said) it) in
      by_kept (by verdict_told (decision run stage name facts)) refl
      (subst (λ (a : Bool). option_map_or (λ now. if now then a else not a)
      (by verdict_told (decision run stage name facts)) false ≡ true) what
      (subst (λ (w : List ℕ). option_map_or (λ now. if now then said else not said)
      (by verdict_told (decision run stage w facts)) false ≡ true) who
      (subst (λ x. option_map_or (λ now. if now then said else not said)
      (by verdict_told (decision run x approver facts)) false ≡ true) n
      (subst (λ x. option_map_or (λ now. if now then said else not said)
      (by verdict_told (decision x s approver facts)) false ≡ true) m still))))
    where
      by_kept : (o : Option Bool) → by verdict_told (decision run stage name facts) ≡ o →
          option_map_or (λ now. if now then approve else not approve)
          (by verdict_told (decision run stage name facts)) false ≡ true → Says
      by_kept None e h = absurd (true≢false (sym (sym (ap (λ (o : Option Bool).
          option_map_or (λ now. if now then approve else not approve) o false) e) ∙ h)))
      by_kept (Some now) e h = e ∙ ap Some (sym (meant now approve (sym (ap (λ (o : Option Bool).
          option_map_or (λ now. if now then approve else not approve) o false) e) ∙ h)))
  says_by _ about still his = absurd (true≢false (sym his))

  told_says : (fact : Fact) → tells fact ≡ true → Says
  told_says fact is =
      let first = first_of_two (counted_one fact) (list_any is_his (decided fact.event)) is in
      says_by fact.event
      (first_of_two (is_about (Stage run stage) fact) (still_decided facts fact.event) first)
      (second_of_two (is_about (Stage run stage) fact) (still_decided facts fact.event) first)
      (second_of_two (counted_one fact) (list_any is_his (decided fact.event)) is)

  -- the fact of a decision that counts tells it
  tells_by : (one : Event) → (same_key (key_of one) (Stage run stage) && is_decision_by name one)
      ≡ true → verdict_told one ≡ Some approve → Says →
      ((same_key (key_of one) (Stage run stage) && still_decided facts one)
      && list_any is_his (decided one)) ≡ true
  tells_by (event.DecisionMade r s approver said) is told says =
      let about : same_key (Stage r s) (Stage run stage) ≡ true =
      first_of_two (same_key (Stage r s) (Stage run stage)) (is_eq (text_cmp approver name)) is in
      let k : Stage r s ≡ Stage run stage = exact_key (Stage r s) (Stage run stage) about in
      let m : r ≡ run = cc in
      let n : s ≡ stage = cc in
      let who : approver ≡ name = tied_names approver name
      (second_of_two (same_key (Stage r s) (Stage run stage)) (is_eq (text_cmp approver name)) is)
      in
      let what : said ≡ approve = ap (λ (o : Option Bool). unwrap_or o said) told in
      let still : option_map_or (λ now. if now then said else not said)
      (by verdict_told (decision r s approver facts)) false ≡ true =
      subst (λ x. option_map_or (λ now. if now then said else not said)
      (by verdict_told (decision x s approver facts)) false ≡ true) (sym m)
      (subst (λ x. option_map_or (λ now. if now then said else not said)
      (by verdict_told (decision run x approver facts)) false ≡ true) (sym n)
      (subst (λ (w : List ℕ). option_map_or (λ now. if now then said else not said)
      (by verdict_told (decision run stage w facts)) false ≡ true) (sym who)
      (subst (λ (a : Bool). option_map_or (λ now. if now then a else not a)
      (by verdict_told (decision run stage name facts)) false ≡ true) (sym what)
      (ap (λ (o : Option Bool). option_map_or (λ now. if now then approve else not approve) o
      false) says ∙ meant_itself approve)))) in
      let his : list_any is_his ((approver, said) ∷ []) ≡ true =
      or_false (is_his (approver, said))
      ∙ both (same_name approver name) (if approve then said else not said)
      (ap (λ (w : List ℕ). same_name approver w) (sym who) ∙ names_itself approver)
      (ap (λ (a : Bool). if approve then a else not a) what ∙ meant_itself approve) in
      both (same_key (Stage r s) (Stage run stage)
      && option_map_or (λ now. if now then said else not said)
      (by verdict_told (decision r s approver facts)) false)
      (list_any is_his ((approver, said) ∷ []))
      (both (same_key (Stage r s) (Stage run stage)) (option_map_or
      (λ now. if now then said else not said)
      (by verdict_told (decision r s approver facts)) false) about still) his
  tells_by one is told says = absurd (true≢false (sym (second_of_two
      (same_key (key_of one) (Stage run stage)) (is_decision_by name one) is)))

  abbrev of_his : Fact → Bool
  of_his fact = is_about (Stage run stage) fact && is_decision_by name fact.event

  says_found : Says → is_some (latest tells facts) ≡ true
  says_found says = go (decision run stage name facts) refl where
    go : (o : Option Fact) → decision run stage name facts ≡ o →
        is_some (latest tells facts) ≡ true
    go None e = absurd (true≢false (ap is_some (sym says)
        ∙ ap (λ (o : Option Fact). is_some (by verdict_told o)) e))
    go (Some fact) e =
        let told : verdict_told fact.event ≡ Some approve =
        sym (ap (λ (o : Option Fact). by verdict_told o) e) ∙ says in
        let found = there of_his tells facts fact e
        (tells_by fact.event (passes of_his facts fact e) told says) in
        ap is_some found.1

  found_says : (o : Option Fact) → latest tells facts ≡ o → is_some o ≡ true → Says
  found_says None e h = absurd (true≢false (sym h))
  found_says (Some fact) e h = told_says fact (passes tells facts fact e)

  abbrev decided_so : Bool
  decided_so = list_any is_his (decisions run stage facts)

  decided_is : decided_so ≡ is_some (latest tells facts)
  decided_is = any_told is_his (λ fact. decided fact.event) counted_one facts
      ∙ any_latest tells facts

  pub to_says : decided_so ≡ true → Says
  to_says h = found_says (latest tells facts) refl (sym decided_is ∙ h)

  pub of_says : Says → decided_so ≡ true
  of_says says = decided_is ∙ says_found says

module _ (facts other : List Fact) (alike : LookAlike facts other) where
  says_same : (run stage : ℕ) (name : List ℕ) (approve : Bool) →
      Says facts run stage name approve → Says other run stage name approve
  says_same run stage name approve says =
      sym (ap (λ (o : Option Fact). by verdict_told o) (alike.decisions run stage name)) ∙ says

-- ---- so the verdicts are the same

module _ (told : QueuedRun) (one : PlanStage) (run stage : ℕ) (facts other : List Fact)
    (alike : LookAlike facts other) (back : LookAlike other facts) where
  abbrev left : CheckView
  left = check_view told one run stage facts

  abbrev right : CheckView
  right = check_view told one run stage other

  decided_same : (name : List ℕ) (approve : Bool) →
      has_decided left name approve ≡ has_decided right name approve
  decided_same name approve = same_truth (has_decided left name approve)
      (has_decided right name approve)
      (λ h. of_says other run stage name approve (says_same facts other alike run stage name approve
      (to_says facts run stage name approve h)))
      (λ h. of_says facts run stage name approve (says_same other facts back run stage name approve
      (to_says other run stage name approve h)))

  module _ (its : Approval) where
    approved_same : (name : List ℕ) → has_approved its left name ≡ has_approved its right name
    approved_same name = λ i. counts its left name && decided_same name true i

    rejected_same : (name : List ℕ) → has_rejected its left name ≡ has_rejected its right name
    rejected_same name = λ i. counts its left name && decided_same name false i

    approvals_same : approvals its left ≡ approvals its right
    approvals_same = λ i.
        count_by (λ name. approved_same name i) (unique_keys same_name its.approvers)

    unrejected_same : All (λ name. has_rejected its left name ≡ false) its.approvers →
        All (λ name. has_rejected its right name ≡ false) its.approvers
    unrejected_same h = λ k d within. sym (rejected_same _) ∙ h k d within

    since : left.ready ≡ right.ready
    since = since_same facts other alike one run

    first_rejected : (name : List ℕ) →
        IsFirst (λ n. has_rejected its left n ≡ true) its.approvers name →
        IsFirst (λ n. has_rejected its right n ≡ true) its.approvers name
    first_rejected name is = record {
      place = is.place;
      within = is.within;
      is = is.is;
      here = sym (rejected_same name) ∙ is.here;
      before = λ k d early h. is.before k d early (rejected_same _ ∙ h);
    }

    approval_same : (moment : ℕ) (verdict : Verdict) → IsApprovalVerdict its left moment verdict →
        IsApprovalVerdict its right moment verdict
    approval_same moment Pass is =
        (unrejected_same is.0, subst (λ n. its.least ≤ n) approvals_same is.1)
    approval_same moment (Wait rule) is = (
      is.0 ∙ ap (λ n. rules.ApprovalOpen n its.least) approvals_same,
      unrejected_same is.1,
      subst (λ n. n < its.least) approvals_same is.2,
      subst (λ n. moment < deadline n its.minutes) since is.3,
    )
    approval_same moment (Fail rule) (inl is) = inl (is.0, is.1, first_rejected is.0 is.2)
    approval_same moment (Fail rule) (inr is) = inr (
      is.0,
      unrejected_same is.1,
      subst (λ n. n < its.least) approvals_same is.2,
      subst (λ n. deadline n its.minutes ≤ moment) since is.3,
    )

  module _ (its : BusinessHours) where
    ready_at : left.ready ≡ right.ready
    ready_at = since_same facts other alike one run

    hours_at : (moment : ℕ) (local : Local) (verdict : Verdict) →
        IsHoursVerdictAt its left moment local verdict →
        IsHoursVerdictAt its right moment local verdict
    hours_at moment local Pass is = is
    hours_at moment local (Wait rule) is =
        (is.0, is.1, subst (λ n. moment < deadline n its.minutes) ready_at is.2)
    hours_at moment local (Fail rule) is =
        (is.0, is.1, subst (λ n. deadline n its.minutes ≤ moment) ready_at is.2)

    hours_same : (moment : ℕ) (verdict : Verdict) → IsHoursVerdict its left moment verdict →
        IsHoursVerdict its right moment verdict
    hours_same moment verdict is = (is.0, is.1, hours_at moment is.0 verdict is.2)

  -- ---- what isn't seen of decisions

  template_same : (its : RequiredTemplate) (verdict : Verdict) →
      IsTemplateVerdict its left verdict → IsTemplateVerdict its right verdict
  template_same its verdict (inl is) = inl (
    is.0,
    λ file extended. is.1 file (record {
      extends = extended.extends;
      listed = extended.listed;
    }),
  )
  template_same its verdict (inr is) = inr (
    is.0,
    record { extends = is.1.extends; listed = is.1.listed },
    is.2,
  )

  branch_same : (its : BranchControl) (verdict : Verdict) → IsBranchVerdict its left verdict →
      IsBranchVerdict its right verdict
  branch_same its Pass is = is
  branch_same its (Wait rule) is = is
  branch_same its (Fail rule) is = is

  verdict_same : (moment : ℕ) (its : Check) (verdict : Verdict) →
      IsVerdict its left moment verdict → IsVerdict its right moment verdict
  verdict_same moment (check.RequiredTemplate its) verdict is = template_same its verdict is
  verdict_same moment (check.Branch its) verdict is = branch_same its verdict is
  verdict_same moment (check.Approval its) verdict is = approval_same its moment verdict is
  verdict_same moment (check.Hours its) verdict is = hours_same its moment verdict is

  each_same : (moment : ℕ) (checks : List Check) (verdicts : List Verdict) →
      AllZip (λ its verdict. IsVerdict its left moment verdict) checks verdicts →
      AllZip (λ its verdict. IsVerdict its right moment verdict) checks verdicts
  each_same moment [] [] is = tt
  each_same moment [] (verdict ∷ verdicts) is = absurd is
  each_same moment (its ∷ checks) [] is = absurd is
  each_same moment (its ∷ checks) (verdict ∷ verdicts) is =
      (verdict_same moment its verdict is.0, each_same moment checks verdicts is.1)

  pub verdicts_same : (moment : ℕ) (verdicts : List Verdict) →
      AreVerdictsOf facts moment told one run stage verdicts →
      AreVerdictsOf other moment told one run stage verdicts
  verdicts_same moment verdicts is = subst (λ (checks : List Check).
      AllZip (λ its verdict. IsVerdict its right moment verdict) checks verdicts)
      (all_checks_same facts other alike one.uses)
      (each_same moment (all_checks facts one.uses) verdicts is)
