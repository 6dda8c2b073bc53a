-- The least of what is found in each run is the least of all.
use Rattle.std.proofs.Common.{◌≡◌, ◌⊎◌, ◌<◌, ◌≤◌, ◌++◌, ℕ, suc, zero, List, [], ◌∷◌, Option, Some}
use Rattle.std.proofs.Common.{None, map, inl, inr, refl, sym, ap, subst, ◌∙◌, arith}
use Rattle.std.proofs.lemmas.Bool.{cases_lt}
use Rattle.pl_due.specs.Least.{FirstOf, InStage, IsLeastOf, Least, OfStages, Precedes}
use Rattle.pl_facts.specs.declared.fact.Event.{Event}
use Rattle.pl_facts.specs.declared.fact.Fact.{Fact}
use Rattle.pl_run_laws.specs.ByRuns.{DueBy, FirstIn, Firsts, Found, IsEarlier}
use Rattle.pl_run_laws.specs.ByRuns.{IsLeastIn, LeastOfAll}

-- what is told of something found
abbrev number_of : Found → ℕ
number_of None = zero
number_of (Some (number, event)) = number

abbrev event_of : Event → Found → Event
event_of otherwise None = otherwise
event_of otherwise (Some (number, event)) = event

pub clash : (found : Found) (number : ℕ) (event : Event) → found ≡ None →
    found ≡ Some (number, event) → ⊥
clash found number event none some = cc

module _ (facts : List Fact) where
  -- what is found is of one of the kinds
  within : (number : ℕ) (all : List InStage) (run k : ℕ) (event : Event) →
      FirstIn facts number all run (Some (k, event)) → number ≤ k
  within number [] run k event is = absurd (cc)
  within number (kind ∷ more) run k event (inl first) =
      let same : k ≡ number = ap number_of first.1 in omega arith
  within number (kind ∷ more) run k event (inr later) =
      let rest = within (suc number) more run k event later.1 in omega arith

  -- where the first kind has something in a run, that is found there
  found_there : (number : ℕ) (kind : InStage) (more : List InStage) (run stage job : ℕ)
      (event : Event) (found : Found) → OfStages facts kind run stage job event →
      FirstIn facts number (kind ∷ more) run found →
      (other : Event) × (found ≡ Some (number, other))
  found_there number kind more run stage job event found is (inl first) = (first.0, first.1)
  found_there number kind more run stage job event found is (inr later) =
      absurd (later.0 stage job event is)

  module _ (number : ℕ) (kind : InStage) (more : List InStage) (found : ℕ → Found)
      (firsts : (run : ℕ) → FirstIn facts number (kind ∷ more) run (found run)) where
    -- no run has something of the first kind
    abbrev NoneFirst : Type 0
    NoneFirst = (run : ℕ) (other : Event) → ¬ (found run ≡ Some (number, other))

    nothing : NoneFirst → Least facts kind None
    nothing none run stage job event is =
        let there = found_there number kind more run stage job event (found run) is (firsts run) in
        none run there.0 there.1

    behind : NoneFirst → (run : ℕ) → FirstIn facts (suc number) more run (found run)
    behind none run = by (firsts run)
      where
        by : FirstIn facts number (kind ∷ more) run (found run) →
            FirstIn facts (suc number) more run (found run)
        by (inl first) = absurd (none run first.0 first.1)
        by (inr later) = later.1

    -- where what is found first is of the first kind, it is the least of that
    least : (run : ℕ) (event : Event) → found run ≡ Some (number, event) →
        ((r k : ℕ) (other : Event) → found r ≡ Some (k, other) → ¬ IsEarlier k r number run) →
        Least facts kind (Some event)
    least run event is first = by (firsts run)
      where
        by : FirstIn facts number (kind ∷ more) run (found run) → IsLeastOf facts kind event
        by (inl told) =
            let same : told.0 ≡ event = ap (event_of event) (sym told.1 ∙ is) in
            let one : IsLeastIn facts kind run event =
            subst (IsLeastIn facts kind run) same told.2 in
            record {
              run = run;
              stage = one.stage;
              job = one.job;
              is = one.is;
              least = no_less one;
            }
          where
            no_less : (one : IsLeastIn facts kind run event) (r s j : ℕ) (other : Event) →
                OfStages facts kind r s j other → ¬ Precedes r s j run one.stage one.job
            no_less one r s j other of (inl less) =
                let there = found_there number kind more r s j other (found r) of (firsts r) in
                first r number there.0 there.1 (inr (refl, less))
            no_less one r s j other of (inr same) =
                one.least s j other
                (subst (λ n. OfStages facts kind n s j other) same.0 of) same.1
        by (inr later) =
            let far = within (suc number) more run number event
            (subst (FirstIn facts (suc number) more run) is later.1) in
            absurd (omega (arith, far))

  by_first : (number : ℕ) (kind : InStage) (more : List InStage)
      (rest : List (Option Event → Type 0)) (found : ℕ → Found) (due : Option Event)
      (one : Firsts) → ((run : ℕ) → FirstIn facts number (kind ∷ more) run (found run)) →
      LeastOfAll found (Some one) → DueBy rest (Some one) due →
      (((run : ℕ) → FirstIn facts (suc number) more run (found run)) →
      FirstOf (map (Least facts) more ++ rest) due) →
      FirstOf (Least facts kind ∷ (map (Least facts) more ++ rest)) due
  by_first number kind more rest found due one firsts least_is is next =
      by (cases_lt number one.kind)
    where
      far : number ≤ one.kind
      far = within number (kind ∷ more) one.run one.kind one.event
          (subst (FirstIn facts number (kind ∷ more) one.run) least_is.0 (firsts one.run))

      by : (number < one.kind) ⊎ (one.kind ≤ number) →
          FirstOf (Least facts kind ∷ (map (Least facts) more ++ rest)) due
      by (inl less) =
          let none : (run : ℕ) (other : Event) → ¬ (found run ≡ Some (number, other)) =
          λ run other some. least_is.1 run number other some (inl less) in
          inr (
            nothing number kind more found firsts none,
            next (behind number kind more found firsts none),
          )
      by (inr near) =
          let same : one.kind ≡ number = omega (arith, far, near) in
          inl (
            one.event,
            is,
            least number kind more found firsts one.run one.event
                (subst (λ n. found one.run ≡ Some (n, one.event)) same least_is.0)
                (subst (λ n. (r k : ℕ) (other : Event) → found r ≡ Some (k, other) →
                ¬ IsEarlier k r n one.run) same least_is.1),
          )

  pub due_of_all : (number : ℕ) (all : List InStage) (rest : List (Option Event → Type 0))
      (found : ℕ → Found) (due : Option Event) (first : Option Firsts) →
      ((run : ℕ) → FirstIn facts number all run (found run)) → LeastOfAll found first →
      DueBy rest first due → FirstOf (map (Least facts) all ++ rest) due
  due_of_all number [] rest found due None firsts least_is is = is
  due_of_all number [] rest found due (Some one) firsts least_is is =
      absurd (clash (found one.run) one.kind one.event (firsts one.run) least_is.0)
  due_of_all number (kind ∷ more) rest found due None firsts least_is is =
      let none : (run : ℕ) (other : Event) → ¬ (found run ≡ Some (number, other)) =
      λ run other some. clash (found run) number other (least_is run) some in
      inr (
        nothing number kind more found firsts none,
        due_of_all (suc number) more rest found due None
            (behind number kind more found firsts none) least_is is,
      )
  due_of_all number (kind ∷ more) rest found due (Some one) firsts least_is is =
      by_first number kind more rest found due one firsts least_is is
      (λ later. due_of_all (suc number) more rest found due (Some one) later least_is is)
