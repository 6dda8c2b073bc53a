-- Jobs by their names: each where its first leg stands.
use Rattle.std.proofs.Common.{◌≡◌, ℕ, ◌+◌, ◌<◌, ◌≤◌, ◌⊎◌, inl, inr, Bool, true, false, cond, Option}
use Rattle.std.proofs.Common.{Some, None, List, [], ◌∷◌, ◌++◌, length, take, drop, get_or, map}
use Rattle.std.proofs.Common.{refl}
use Rattle.std.proofs.Common.{sym, ap, ◌∙◌, arith, append_assoc}
use Rattle.std.specs.Prelude.{◌||◌, nat_eq}
use Rattle.std.specs.Option.{option_map}
use Rattle.std.specs.List.{list_any, find}
use Rattle.std.specs.Cmp.Lexicographic.{pointwise}
use Rattle.std.proofs.lemmas.Bool.{cases_Bool}
use Rattle.std.proofs.lemmas.List.{append-nil, at_drop_all, at_drop_more, map-append, take_more}
use Rattle.std.proofs.lemmas.List.Folds.{list_any-append}
use Rattle.pl_base.specs.Folding.{folded}
use Rattle.pl_eval.specs.Known.{same_name}
use Rattle.pl_results.specs.declared.legs.Leg.{Leg}
use Rattle.pl_results.specs.declared.parts.Part.{Part}
use Rattle.pl_results.specs.Parts.{job_part, job_parts, names_of, once_behind}
use Rattle.pl_results.proofs.ByName.{alike}

-- ---- a turn of the loop

abbrev rest_at : List Leg → ℕ → List (List ℕ)
rest_at legs at = once_behind (names_of (take at legs)) (names_of (drop at legs))

names_more : (legs : List Leg) (at : ℕ) (leg : Leg) → at < length legs → leg ≡ get_or legs at leg →
    names_of (take at legs) ++ leg.job ∷ [] ≡ names_of (take (at + 1) legs)
names_more legs at leg within is =
    sym (map-append (λ (one : Leg). one.job) (take at legs) (leg ∷ []))
    ∙ ap (λ one. names_of (take at legs ++ one ∷ [])) is
    ∙ ap names_of (sym (take_more legs at leg within))

step : (legs : List Leg) (at : ℕ) (leg : Leg) → at < length legs → leg ≡ get_or legs at leg →
    rest_at legs at ≡ cond (list_any (same_name leg.job) (names_of (take at legs)))
    (rest_at legs (at + 1)) (leg.job ∷ rest_at legs (at + 1))
step legs at leg within is =
    at_drop_more (λ rest. once_behind (names_of (take at legs)) (names_of rest)) legs at leg within
    ∙ ap (λ (one : Leg). once_behind (names_of (take at legs))
    (one.job ∷ names_of (drop (at + 1) legs))) (sym is)
    ∙ ap (λ before. cond (list_any (same_name leg.job) (names_of (take at legs)))
    (once_behind before (names_of (drop (at + 1) legs)))
    (leg.job ∷ once_behind before (names_of (drop (at + 1) legs))))
    (names_more legs at leg within is)

pub passed : (legs : List Leg) (at : ℕ) (leg : Leg) (parts all : List Part) → at < length legs →
    leg ≡ get_or legs at leg → list_any (same_name leg.job) (names_of (take at legs)) ≡ true →
    parts ++ map (job_part legs) (rest_at legs at) ≡ all →
    parts ++ map (job_part legs) (rest_at legs (at + 1)) ≡ all
passed legs at leg parts all within is before so_far =
    let rest : rest_at legs at ≡ rest_at legs (at + 1) =
    step legs at leg within is ∙ ap (λ b. cond b (rest_at legs (at + 1))
    (leg.job ∷ rest_at legs (at + 1))) before in
    ap (λ names. parts ++ map (job_part legs) names) (sym rest) ∙ so_far

pub put : (legs : List Leg) (at : ℕ) (leg : Leg) (parts more all : List Part) → at < length legs →
    leg ≡ get_or legs at leg → list_any (same_name leg.job) (names_of (take at legs)) ≡ false →
    more ≡ parts ++ job_part legs leg.job ∷ [] →
    parts ++ map (job_part legs) (rest_at legs at) ≡ all →
    more ++ map (job_part legs) (rest_at legs (at + 1)) ≡ all
put legs at leg parts more all within is new grown so_far =
    let rest : rest_at legs at ≡ leg.job ∷ rest_at legs (at + 1) =
    step legs at leg within is ∙ ap (λ b. cond b (rest_at legs (at + 1))
    (leg.job ∷ rest_at legs (at + 1))) new in
    ap (λ front. front ++ map (job_part legs) (rest_at legs (at + 1))) grown
    ∙ append_assoc parts (job_part legs leg.job ∷ []) (map (job_part legs) (rest_at legs (at + 1)))
    ∙ ap (λ names. parts ++ map (job_part legs) names) (sym rest) ∙ so_far

pub ended : (legs : List Leg) (at : ℕ) (parts all : List Part) → length legs ≤ at →
    parts ++ map (job_part legs) (rest_at legs at) ≡ all → parts ≡ all
ended legs at parts all past so_far =
    sym (append-nil parts)
    ∙ ap (λ names. parts ++ map (job_part legs) names)
    (sym (at_drop_all (λ rest. once_behind (names_of (take at legs)) (names_of rest)) legs at past))
    ∙ so_far

-- ---- the first job of a name

same_tests : (name other : List ℕ) (names : List (List ℕ)) → same_name name other ≡ true →
    list_any (same_name other) names ≡ list_any (same_name name) names
same_tests name other names same =
    ap (λ f. list_any (λ key. pointwise nat_eq (folded key) f) names) (alike name other same)

abbrev sought : List ℕ → Part → Bool
sought name part = same_name name part.name

either_way : (b : Bool) → (let none : Option Part = None in none) ≡ cond b None None
either_way true = refl
either_way false = refl

or_false : (b : Bool) → (b || (false || false)) ≡ b
or_false true = refl
or_false false = refl

-- one more name, by whether it stands before, and whether it is the one that is sought
module _ (legs : List Leg) (name : List ℕ) (before : List (List ℕ)) (first : List ℕ)
    (names : List (List ℕ)) where
  abbrev found : Option Part
  found = find (sought name) (map (job_part legs) (once_behind before (first ∷ names)))

  abbrev later : Option Part
  later = find (sought name) (map (job_part legs) (once_behind (before ++ first ∷ []) names))

  abbrev wanted : Option Part
  wanted = cond (list_any (same_name name) before) None
      (option_map (job_part legs) (find (same_name name) (first ∷ names)))

  abbrev behind : Option Part
  behind = cond (list_any (same_name name) before || (same_name name first || false)) None
      (option_map (job_part legs) (find (same_name name) names))

  by_same : later ≡ behind → same_name name first ≡ true →
      list_any (same_name first) before ≡ list_any (same_name name) before →
      (list_any (same_name name) before ≡ true) ⊎ (list_any (same_name name) before ≡ false) →
      found ≡ wanted
  by_same rest same tests (inl stands) =
      let past : behind ≡ None = rw stands refl in
      let here : found ≡ later = rw (tests, stands) refl in
      let none : wanted ≡ None = rw stands refl in
      here ∙ rest ∙ past ∙ sym none
  by_same rest same tests (inr new) =
      let here : found ≡ Some (job_part legs first) = rw (tests, new, same) refl in
      let some : wanted ≡ Some (job_part legs first) = rw (new, same) refl in
      here ∙ sym some

  by_other : later ≡ behind → same_name name first ≡ false →
      (list_any (same_name first) before ≡ true) ⊎ (list_any (same_name first) before ≡ false) →
      found ≡ wanted
  by_other rest other (inl stands) =
      let here : found ≡ later = rw stands refl in
      let same : behind ≡ wanted = rw other
      (ap (λ t. cond t None (option_map (job_part legs) (find (same_name name) names)))
      (or_false (list_any (same_name name) before))) in
      here ∙ rest ∙ same
  by_other rest other (inr new) =
      let here : found ≡ later = rw (new, other) refl in
      let same : behind ≡ wanted = rw other
      (ap (λ t. cond t None (option_map (job_part legs) (find (same_name name) names)))
      (or_false (list_any (same_name name) before))) in
      here ∙ rest ∙ same

found_once : (legs : List Leg) (name : List ℕ) (before names : List (List ℕ)) →
    find (sought name) (map (job_part legs) (once_behind before names)) ≡
    cond (list_any (same_name name) before) None
    (option_map (job_part legs) (find (same_name name) names))
found_once legs name before [] = either_way (list_any (same_name name) before)
found_once legs name before (first ∷ names) =
    let rest : later legs name before first names ≡ behind legs name before first names =
    found_once legs name (before ++ first ∷ []) names
    ∙ ap (λ t. cond t None (option_map (job_part legs) (find (same_name name) names)))
    (list_any-append (same_name name) before (first ∷ [])) in
    elim (cases_Bool (same_name name first)) [
      | inl same ↦ by_same legs name before first names rest same
          (same_tests name first before same) (cases_Bool (list_any (same_name name) before))
      | inr other ↦ by_other legs name before first names rest other
          (cases_Bool (list_any (same_name first) before))
    ]

job_found : (legs : List Leg) (name : List ℕ) → find (same_name name) (names_of legs) ≡
    option_map (λ leg. leg.job) (find (λ leg. same_name name leg.job) legs)
job_found [] name = refl
job_found (leg ∷ legs) name = by (same_name name leg.job) (job_found legs name)
  where
    by : (b : Bool) → find (same_name name) (names_of legs) ≡
        option_map (λ leg. leg.job) (find (λ leg. same_name name leg.job) legs) →
        cond b (Some leg.job) (find (same_name name) (names_of legs)) ≡
        option_map (λ (one : Leg). one.job)
        (cond b (Some leg) (find (λ one. same_name name one.job) legs))
    by true rest = refl
    by false rest = rest

over : (legs : List Leg) (first : Option Leg) →
    option_map (job_part legs) (option_map (λ leg. leg.job) first) ≡
    option_map (λ leg. job_part legs leg.job) first
over legs None = refl
over legs (Some leg) = refl

pub first_is : (legs : List Leg) (name : List ℕ) (first : Option Leg) →
    first ≡ find (λ leg. same_name name leg.job) legs →
    option_map (λ leg. job_part legs leg.job) first ≡ find (sought name) (job_parts legs)
first_is legs name first is =
    sym (found_once legs name [] (names_of legs)
    ∙ ap (option_map (job_part legs)) (job_found legs name)
    ∙ over legs (find (λ leg. same_name name leg.job) legs)
    ∙ ap (option_map (λ (leg : Leg). job_part legs leg.job)) (sym is))
