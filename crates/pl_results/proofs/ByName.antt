-- Results under names.
use Rattle.std.proofs.Common.{◌≡◌, ℕ, ◌+◌, ◌<◌, ◌⊎◌, inl, inr, Bool, true, false, cond, Option}
use Rattle.std.proofs.Common.{Some}
use Rattle.std.proofs.Common.{None, List, [], ◌∷◌, ◌++◌, length, take, get_or, map, refl, sym, ap}
use Rattle.std.proofs.Common.{ap₂}
use Rattle.std.proofs.Common.{◌∙◌, arith}
use Rattle.std.specs.Prelude.{◌==◌, ◌&&◌, ◌||◌, is_none, nat_eq, not, if◌then◌else◌}
use Rattle.std.specs.Option.{option_map}
use Rattle.std.specs.List.{list_all, list_any, filter_map, find, cons_option}
use Rattle.std.specs.Cmp.Lexicographic.{pointwise}
use Rattle.std.proofs.lemmas.Bool.{cases_Bool, eqb-true, true≢false}
use Rattle.std.proofs.lemmas.Slice.Eq.{bytes_eq-Decides}
use Rattle.std.proofs.lemmas.List.{append-nil, take_more}
use Rattle.std.proofs.lemmas.List.Elements.{filter_map-append}
use Rattle.pl_base.specs.Folding.{folded}
use Rattle.pl_base.specs.declared.outcome.Outcome.{Outcome}
use Rattle.pl_eval.specs.Known.{same_name}
use Rattle.pl_expr.specs.declared.expr.Function.{Function}
use Rattle.pl_expr.specs.declared.expr.Function.TheVariants.{Failed, Succeeded, SucceededOrFailed}
use Rattle.pl_eval.specs.Statuses.{result_named, results_named, results, status_of, was_run}
use Rattle.pl_eval.specs.Statuses.{went_well, went_wrong}
use Rattle.pl_results.specs.declared.members.Member.{Member}
use Rattle.pl_results.specs.Combining.{combined}
use Rattle.pl_results.specs.Members.{any_run}
use Rattle.pl_results.specs.Members.{also, combined_if_any, result_by, result_of, named_result}
use Rattle.pl_results.specs.Members.{named_results, known_of, results_under}
use Rattle.pl_results.proofs.Outweighing.{combined_last, combined_one}

-- ---- one result more

also_last : (all : List Outcome) (last : Outcome) →
    combined_if_any (all ++ last ∷ []) ≡ also (combined_if_any all) (Some last)
also_last [] last = ap (λ one. Some one) (combined_one last)
also_last (first ∷ all) last = ap (λ one. Some one) (combined_last (first ∷ all) last)

also_none : (all : Option Outcome) → all ≡ also all None
also_none None = refl
also_none (Some all) = refl

one_more : (all : List Outcome) (one : Option Outcome) →
    combined_if_any (all ++ cons_option one []) ≡ also (combined_if_any all) one
one_more all (Some last) = also_last all last
one_more all None = ap combined_if_any (append-nil all) ∙ also_none (combined_if_any all)

pub turn : (h : Member → Option Outcome) (members : List Member) (at : ℕ) (one : Member)
    (all more : Option Outcome) → at < length members → one ≡ get_or members at one →
    all ≡ combined_if_any (filter_map h (take at members)) → more ≡ also all (h one) →
    more ≡ combined_if_any (filter_map h (take (at + 1) members))
turn h members at one all more within is so_far made =
    made ∙ ap (λ before. also before (h one)) so_far
    ∙ sym (one_more (filter_map h (take at members)) (h one))
    ∙ ap combined_if_any (sym (filter_map-append h (take at members) (one ∷ [])))
    ∙ ap (λ last. combined_if_any (filter_map h (take at members ++ last ∷ []))) is
    ∙ ap (λ some. combined_if_any (filter_map h some)) (sym (take_more members at one within))

abbrev pub under_name : List ℕ → Member → Option Outcome
under_name name one = if same_name name one.name then one.result else None

pub turn_named : (name : List ℕ) (members : List Member) (at : ℕ) (one : Member)
    (all more : Option Outcome) → at < length members → one ≡ get_or members at one →
    same_name name one.name ≡ true → all ≡ combined_if_any
    (filter_map (under_name name) (take at members)) → more ≡ also all one.result →
    more ≡ combined_if_any (filter_map (under_name name) (take (at + 1) members))
turn_named name members at one all more within is same so_far made =
    turn (under_name name) members at one all more within is so_far
    (made ∙ ap (λ t. also all (cond t one.result None)) (sym same))

pub turn_other : (name : List ℕ) (members : List Member) (at : ℕ) (one : Member)
    (all : Option Outcome) → at < length members → one ≡ get_or members at one →
    same_name name one.name ≡ false → all ≡ combined_if_any
    (filter_map (under_name name) (take at members)) →
    all ≡ combined_if_any (filter_map (under_name name) (take (at + 1) members))
turn_other name members at one all within is other so_far =
    turn (under_name name) members at one all all within is so_far
    (also_none all ∙ ap (λ t. also all (cond t one.result None)) (sym other))

-- ---- no one has the name

none_picked : (picks : Member → Bool) (members : List Member) → list_any picks members ≡ false →
    filter_map (λ one. if picks one then one.result else None) members ≡ []
none_picked picks [] none = refl
none_picked picks (one ∷ members) none = by (picks one) none (none_picked picks members)
  where
    by : (b : Bool) → (b || list_any picks members) ≡ false →
        (list_any picks members ≡ false →
        filter_map (λ one. if picks one then one.result else None) members ≡ []) →
        cons_option (cond b one.result None)
        (filter_map (λ one. if picks one then one.result else None) members) ≡ []
    by true none later = absurd (cc)
    by false none later = later none

by_none : (b : Bool) (all : List Outcome) → all ≡ [] →
    cond b None (combined_if_any all) ≡ None
by_none true all none = refl
by_none false all none = ap combined_if_any none

no_result : (name : List ℕ) (members : List Member) →
    list_any (λ one. same_name name one.name) members ≡ false → result_of members name ≡ None
unfolding result_of
no_result name members none =
    by_none (list_any (λ one. same_name name one.name && is_none one.result) members)
    (filter_map (λ one. if same_name name one.name then one.result else None) members)
    (none_picked (λ one. same_name name one.name) members none)

-- ---- names that are alike

pub alike : (name key : List ℕ) → same_name name key ≡ true → folded key ≡ folded name
alike name key same = (bytes_eq-Decides (folded key) (folded name)).0 same

same_result : (members : List Member) (name key : List ℕ) → same_name name key ≡ true →
    result_of members key ≡ result_of members name
unfolding result_of
same_result members name key same =
    ap (λ f. result_by (λ one. pointwise nat_eq (folded one.name) f) members) (alike name key same)

-- ---- results by the pairs of names and results

module _ (name : List ℕ) (R : List ℕ → Option Outcome)
    (same : (key : List ℕ) → same_name name key ≡ true → R key ≡ R name) where
  abbrev named : Member → Option (List ℕ × Outcome)
  named one = option_map (λ result. (one.name, result)) (R one.name)

  found_by : (one : Member) (rest : List (List ℕ × Outcome)) (any b : Bool) (o : Option Outcome) →
      same_name name one.name ≡ b → (b ≡ true → o ≡ R name) →
      result_named rest name ≡ cond any (R name) None →
      result_named (cons_option (option_map (λ result. (one.name, result)) o) rest) name ≡
      cond (b || any) (R name) None
  found_by one rest any true (Some result) is here later = rw is (here refl)
  found_by one rest true true None is here later = later
  found_by one rest false true None is here later = later ∙ here refl
  found_by one rest any false (Some result) is here later = rw is later
  found_by one rest any false None is here later = later

  found_among : (members : List Member) → result_named (filter_map named members) name ≡
      cond (list_any (λ one. same_name name one.name) members) (R name) None
  found_among [] = refl
  found_among (one ∷ members) =
      found_by one (filter_map named members)
      (list_any (λ one. same_name name one.name) members) (same_name name one.name) (R one.name)
      refl (same one.name) (found_among members)

pub result_is : (members : List Member) (name : List ℕ) →
    result_named (named_results members) name ≡ result_of members name
result_is members name =
    found_among name (result_of members) (same_result members name) members
    ∙ by (cases_Bool (list_any (λ one. same_name name one.name) members))
  where
    by : (list_any (λ one. same_name name one.name) members ≡ true) ⊎
        (list_any (λ one. same_name name one.name) members ≡ false) →
        cond (list_any (λ one. same_name name one.name) members) (result_of members name) None
        ≡ result_of members name
    by (inl some) = rw some refl
    by (inr none) = rw none (sym (no_result name members none))

pub results_are : (members : List Member) (names : List (List ℕ)) →
    results_named (named_results members) names ≡ map (result_of members) names
results_are members [] = refl
results_are members (name ∷ names) =
    λ i. result_is members name i ∷ results_are members names i

pub looks_at : (canceled : Bool) (members : List Member) (names : List (List ℕ)) →
    results (known_of canceled members) names ≡ results_under members names
looks_at canceled members [] = refl
looks_at canceled members (name ∷ names) = results_are members (name ∷ names)

-- ---- status functions

without : (names : List (List ℕ)) → (length names == 0) ≡ true → names ≡ []
without [] none = refl
without (name ∷ names) none = absurd (let e = eqb-true (length (name ∷ names)) 0 none in
    omega arith)

pub looked_without : (members : List Member) (names : List (List ℕ)) →
    (length names == 0) ≡ true → results_under members names ≡ map (λ one. one.result) members
looked_without members names none = ap (results_under members) (without names none)

pub looked_with : (members : List Member) (names : List (List ℕ)) →
    (length names == 0) ≡ false → results_under members names ≡ map (result_of members) names
looked_with members [] some = absurd (true≢false some)
looked_with members (name ∷ names) some = refl

pub ran_with : (members : List Member) (names : List (List ℕ)) → (length names == 0) ≡ false →
    any_run members names ≡ list_any was_run (map (result_of members) names)
ran_with members [] some = absurd (true≢false some)
ran_with members (name ∷ names) some = refl

pub succeeded_is : (canceled r : Bool) (members ms : List Member) (names ns : List (List ℕ))
    (function : Function) → function ≡ Succeeded → canceled ≡ false → ms ≡ members → ns ≡ names →
    r ≡ list_all went_well (results_under ms ns) →
    r ≡ status_of (known_of canceled members) function names
succeeded_is canceled r members ms names ns function is going same alike made =
    made ∙ ap₂ (λ ms ns. list_all went_well (results_under ms ns)) same alike
    ∙ ap (list_all went_well) (sym (looks_at canceled members names))
    ∙ ap (λ b. not b && list_all went_well (results (known_of canceled members) names)) (sym going)
    ∙ ap (λ f. status_of (known_of canceled members) f names) (sym is)

pub failed_is : (canceled r : Bool) (members ms : List Member) (names ns : List (List ℕ))
    (function : Function) → function ≡ Failed → ms ≡ members → ns ≡ names →
    r ≡ list_any went_wrong (results_under ms ns) →
    r ≡ status_of (known_of canceled members) function names
failed_is canceled r members ms names ns function is same alike made =
    made ∙ ap₂ (λ ms ns. list_any went_wrong (results_under ms ns)) same alike
    ∙ ap (list_any went_wrong) (sym (looks_at canceled members names))
    ∙ ap (λ f. status_of (known_of canceled members) f names) (sym is)

ran : (canceled : Bool) (members : List Member) (names : List (List ℕ)) → canceled ≡ false →
    any_run members names ≡ status_of (known_of canceled members) SucceededOrFailed names
ran canceled members [] going = ap not (sym going)
ran canceled members (name ∷ names) going =
    ap (list_any was_run) (sym (results_are members (name ∷ names)))
    ∙ ap (λ b. not b && list_any was_run (results_named (named_results members) (name ∷ names)))
    (sym going)

pub succeeded_or_failed_is : (canceled r : Bool) (members ms : List Member)
    (names ns : List (List ℕ)) (function : Function) → function ≡ SucceededOrFailed →
    canceled ≡ false → ms ≡ members → ns ≡ names → r ≡ any_run ms ns →
    r ≡ status_of (known_of canceled members) function names
succeeded_or_failed_is canceled r members ms names ns function is going same alike made =
    made ∙ ap₂ any_run same alike ∙ ran canceled members names going
    ∙ ap (λ f. status_of (known_of canceled members) f names) (sym is)
