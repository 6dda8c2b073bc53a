-- The latest moment of facts.
use Rattle.std.proofs.Common.{◌≡◌, ℕ, zero, suc, ◌<◌, ◌≤◌, max, Bool, true, false, not, ◌&&◌, ◌||◌}
use Rattle.std.proofs.Common.{cond}
use Rattle.std.proofs.Common.{List, [], ◌∷◌, length, map, fold, find, Option, None, Some, is_none}
use Rattle.std.proofs.Common.{IfSome}
use Rattle.std.proofs.Common.{All, AllPairs, if◌then◌else◌, refl, sym, ap, ◌∙◌, subst, arith}
use Rattle.std.specs.List.{list_all, list_any}
use Rattle.std.specs.Option.{option_or}
use Rattle.std.proofs.lemmas.List.Elements.{All-head, All-tail}
use Rattle.pl_journal.specs.Below.pl_facts.specs.declared.fact.Fact.{Fact}
use Rattle.pl_log.specs.Latest.{latest}
use Rattle.pl_views.specs.Ready.{NeverFall, later, latest_moment}

-- ---- what holds of all facts holds of the latest

holds_by : {X : Type 0} (P : X → Type 0) (o : Option X) (b : Bool) (x : X) → IfSome o P → P x →
    IfSome (option_or o (if b then Some x else None)) P
holds_by P (Some one) b x h here = h
holds_by P None true x h here = here
holds_by P None false x h here = tt

pub latest_holds : {X : Type 0} (P : X → Type 0) (test : X → Bool) (xs : List X) → All P xs →
    IfSome (latest test xs) P
latest_holds P test [] all = tt
latest_holds P test (x ∷ xs) all = holds_by P (latest test xs) (test x) x
    (latest_holds P test xs (All-tail P x xs all)) (All-head P x xs all)

-- ---- bounds

pub later_bound : (a m : ℕ) (o : Option Fact) → a ≤ m → IfSome o (λ fact. fact.moment ≤ m) →
    later a o ≤ m
later_bound a m None le h = le
later_bound a m (Some fact) le h = omega (arith, h)

pub fold_bound : {C : Type 0} (m : ℕ) (f : C → Option Fact) →
    ((c : C) → IfSome (f c) (λ fact. fact.moment ≤ m)) → (cs : List C) (a : ℕ) → a ≤ m →
    fold later a (map f cs) ≤ m
fold_bound m f each [] a le = le
fold_bound m f each (c ∷ cs) a le =
    fold_bound m f each cs (later a (f c)) (later_bound a m (f c) le (each c))

-- ---- where moments never fall

abbrev moment_by : (Fact → Bool) → List Fact → ℕ
moment_by test facts = later 0 (latest test facts)

abbrev here : Bool → Fact → ℕ
here b fact = if b then fact.moment else 0

later_is : (a : ℕ) (o : Option Fact) → later a o ≡ max a (later 0 o)
later_is a None = omega arith
later_is a (Some fact) = omega arith

step_by : (fact : Fact) (b : Bool) (o : Option Fact) →
    IfSome o (λ one. fact.moment ≤ one.moment) →
    later 0 (option_or o (if b then Some fact else None)) ≡ max (later 0 o) (here b fact)
step_by fact true (Some one) le = omega (arith, le)
step_by fact false (Some one) le = omega arith
step_by fact true None le = omega arith
step_by fact false None le = omega arith

front : (fact : Fact) (facts : List Fact) → NeverFall (fact ∷ facts) →
    All (λ one. fact.moment ≤ one.moment) facts
front fact facts up = λ k d within. up 0 (suc k) d (omega arith) (omega arith)

behind : (fact : Fact) (facts : List Fact) → NeverFall (fact ∷ facts) → NeverFall facts
behind fact facts up = λ i j d less within. up (suc i) (suc j) d (omega arith) (omega arith)

step : (test : Fact → Bool) (fact : Fact) (facts : List Fact) → NeverFall (fact ∷ facts) →
    moment_by test (fact ∷ facts) ≡ max (moment_by test facts) (here (test fact) fact)
step test fact facts up = step_by fact (test fact) (latest test facts)
    (latest_holds (λ one. fact.moment ≤ one.moment) test facts (front fact facts up))

here_either : (b c : Bool) (fact : Fact) → here (b || c) fact ≡ max (here b fact) (here c fact)
here_either true true fact = omega arith
here_either true false fact = omega arith
here_either false true fact = omega arith
here_either false false fact = refl

either : (p q : Fact → Bool) (facts : List Fact) → NeverFall facts →
    moment_by (λ fact. p fact || q fact) facts ≡ max (moment_by p facts) (moment_by q facts)
either p q [] up = refl
either p q (fact ∷ facts) up = omega (
  arith,
  step (λ one. p one || q one) fact facts up,
  step p fact facts up,
  step q fact facts up,
  here_either (p fact) (q fact) fact,
  either p q facts (behind fact facts up),
)

never : (facts : List Fact) → latest (λ fact. false) facts ≡ None
never [] = refl
never (fact ∷ facts) = ap (λ o. option_or o None) (never facts)

pub of_any : {C : Type 0} (test : C → Fact → Bool) (facts : List Fact) → NeverFall facts →
    (cs : List C) (a : ℕ) →
    fold later a (map (λ c. latest (test c) facts) cs) ≡
    max a (moment_by (λ fact. list_any (λ c. test c fact) cs) facts)
of_any test facts up [] a = omega (arith, ap (later 0) (never facts))
of_any test facts up (c ∷ cs) a = omega (
  arith,
  of_any test facts up cs (later a (latest (test c) facts)),
  later_is a (latest (test c) facts),
  either (test c) (λ fact. list_any (λ one. test one fact) cs) facts up,
)

-- the latest moment of the latest facts that pass tests is that of the latest fact that passes one
pub latest_of_all : {C : Type 0} (first : Fact → Bool) (test : C → Fact → Bool) (facts : List Fact)
    (cs : List C) → NeverFall facts →
    latest_moment (latest first facts ∷ map (λ c. latest (test c) facts) cs) ≡
    later 0 (latest (λ fact. first fact || list_any (λ c. test c fact) cs) facts)
latest_of_all first test facts cs up = omega (
  arith,
  of_any test facts up cs (later 0 (latest first facts)),
  either first (λ fact. list_any (λ one. test one fact) cs) facts up,
)

-- ---- all have ended, or one is awaited

found_by : {X : Type 0} (p : X → Bool) (x : X) (xs : List X) (b : Bool) →
    list_all p xs ≡ is_none (find (λ one. not (p one)) xs) →
    (b && list_all p xs) ≡ is_none (cond (not b) (Some x) (find (λ one. not (p one)) xs))
found_by p x xs true others = others
found_by p x xs false others = refl

pub all_or_found : {X : Type 0} (p : X → Bool) (xs : List X) →
    list_all p xs ≡ is_none (find (λ one. not (p one)) xs)
all_or_found p [] = refl
all_or_found p (x ∷ xs) = found_by p x xs (p x) (all_or_found p xs)
