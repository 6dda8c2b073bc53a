-- Facts that come behind those that were installed.
use Rattle.std.proofs.Common.{◌≡◌, ◌≤◌, ◌<◌, ◌⊎◌, ◌+◌, ℕ, suc, List, [], ◌∷◌, ◌++◌, Some, None}
use Rattle.std.proofs.Common.{length}
use Rattle.std.proofs.Common.{take, drop, get_or, inl, inr}
use Rattle.std.proofs.Common.{slice_get, sym, ap, ◌∙◌, subst, arith}
use Rattle.std.proofs.lemmas.List.{append_assoc, append-nil, drop-append-le, length-append}
use Rattle.std.proofs.lemmas.List.{length-take-le, take-append-drop}
use Rattle.std.proofs.lemmas.Option.{get_or_from_slice_get, slice_get_cases, slice_get_within}
use Rattle.std.proofs.Math.Seq.{drop-append_seam, take-append_seam, take-suc}
use Rattle.pl_facts.specs.declared.fact.Fact.{Fact}
use Rattle.pl_journal.specs.Log.{Log}
use Rattle.pl_step.specs.Full.{back, with_facts}

-- ---- copies, one more a turn

module _ {X : Type 0} (xs : List X) (from at : ℕ) (x : X) (is : slice_get xs at ≡ Some x) where
  below : suc at ≤ length xs
  below = slice_get_within xs at x is

  taken_one : take (at + 1) xs ≡ take at xs ++ x ∷ []
  taken_one =
      let e : at + 1 ≡ suc at = omega arith in
      ap (λ n. take n xs) e ∙ take-suc xs at x below
      ∙ ap (λ y. take at xs ++ y ∷ []) (get_or_from_slice_get xs at x x is)

  pub one_more : from ≤ at → (old new : List X) → old ≡ drop from (take at xs) →
      new ≡ old ++ x ∷ [] → new ≡ drop from (take (at + 1) xs)
  one_more first old new so_far grown =
      let all : length (take at xs) ≡ at = length-take-le at xs (omega (arith, below)) in
      let within : from ≤ length (take at xs) = subst (λ n. from ≤ n) (sym all) first in
      grown ∙ ap (λ ys. ys ++ x ∷ []) so_far
      ∙ sym (drop-append-le from (take at xs) (x ∷ []) within) ∙ ap (drop from) (sym taken_one)

-- within the list there is one
pub one_within : {X : Type 0} (xs : List X) (at : ℕ) → at < length xs → slice_get xs at ≡ None → ⊥
one_within {X = X} xs at within none = go (slice_get_cases xs at).1
  where
    go : ((x : X) × (at < length xs) × (slice_get xs at ≡ Some x) × (get_or xs at x ≡ x))
        ⊎ ((length xs ≤ at) × (slice_get xs at ≡ None)) → ⊥
    go (inl (x, below, is, gets)) = absurd (cc)
    go (inr (all, gets)) = omega (arith, all, within)

-- ---- a journal, and what is behind its installed facts

-- what is installed with what is behind it
pub whole : (log : Log) → with_facts (back log) (drop log.installed log.facts) ≡ log
whole log = ap (λ facts. record log { facts = facts }) (take-append-drop log.installed log.facts)

pub with_none : (log : Log) → with_facts log [] ≡ log
with_none log = ap (λ facts. record log { facts = facts }) (append-nil log.facts)

-- facts that come twice
pub twice : (log : Log) (due more : List Fact) →
    with_facts (with_facts log due) more ≡ with_facts log (due ++ more)
twice log due more =
    ap (λ facts. record log { facts = facts }) (append_assoc log.facts due more)

module _ (log : Log) (all : log.installed ≡ length log.facts) (more : List Fact) where
  pub back_again : back (with_facts log more) ≡ log
  back_again = ap (λ facts. record log { facts = facts })
      (ap (λ n. take n (log.facts ++ more)) all ∙ take-append_seam log.facts more)

  pub behind : (from : ℕ) → from ≡ length log.facts → drop from (log.facts ++ more) ≡ more
  behind from is = ap (λ n. drop n (log.facts ++ more)) is ∙ drop-append_seam log.facts more

-- ---- what is due, and behind it what happens

module _ (log : Log) (all : log.installed ≡ length log.facts) (due more : List Fact) (mid new : Log)
    (settled : mid ≡ with_facts log due) (pushed : new ≡ with_facts mid more) where
  pub both : new ≡ with_facts log (due ++ more)
  both = pushed ∙ ap (λ before. with_facts before more) settled ∙ twice log due more

  pub still_installed : new.installed ≡ log.installed
  still_installed = ap (λ after. after.installed) both

  pub back_to : back new ≡ log
  back_to = ap back both ∙ back_again log all (due ++ more)

  pub added : (from : ℕ) → from ≡ length log.facts → drop from new.facts ≡ due ++ more
  added from is =
      ap (λ after. drop from after.facts) both ∙ behind log all (due ++ more) from is

  pub within : (from : ℕ) → from ≡ length log.facts → from ≤ length new.facts
  within from is =
      omega (
        arith,
        is,
        ap (λ after. length after.facts) both,
        length-append log.facts (due ++ more),
      )
