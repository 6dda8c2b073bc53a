-- Steps of a search for the first item of which something holds.
use Rattle.std.proofs.Common.{◌≡◌, ◌<◌, ◌+◌, ℕ, List, length, get_or, sym, ◌∙◌, subst, arith}
use Rattle.std.proofs.Common.{⊎_elim}
use Rattle.std.proofs.lemmas.Bool.{cases_lt}
use Rattle.std.proofs.lemmas.List.{get_or_default}
use Rattle.pl_base.specs.Firsts.{IsFirstAt}
use Rattle.pl_base.specs.Firsts.{IsFirst}

module _ {X : Type 0} (P : X →
    Type 0) (xs : List X) (i : ℕ) (x : X) (within : i < length xs) (is : x ≡ get_or xs i x) where
  -- the item that is there, whatever stands for those past the end
  there : (d : X) → get_or xs i d ≡ x
  there d = get_or_default xs i d x within ∙ sym is

  -- what holds of all before an item and of it holds of all before the next
  pub one_more : ((k : ℕ) (d : X) → k < i → P (get_or xs k d)) → P x → (k : ℕ) (d : X) →
      k < i + 1 → P (get_or xs k d)
  one_more before here k d below =
      ⊎_elim (λ sooner. before k d sooner)
      (λ later. let same : i ≡ k = omega arith in
      subst (λ n. P (get_or xs n d)) same (subst P (sym (there d)) here))
      (cases_lt k i)

  -- the first place at which something doesn't hold
  pub first_at : ((k : ℕ) (d : X) → k < i → P (get_or xs k d)) → (P x → ⊥) →
      IsFirstAt (λ y. ¬ P y) xs i
  first_at before not = record {
    within = within;
    here = λ d holds. not (subst P (there d) holds);
    before = λ k d below fails. fails (before k d below);
  }

-- the item at the first place is the first item
pub first_item : {X : Type 0} (P : X → Type 0) (xs : List X) (i : ℕ) (x : X) →
    x ≡ get_or xs i x → IsFirstAt P xs i → IsFirst P xs x
first_item P xs i x is first = record {
  place = i;
  within = first.within;
  is = sym is;
  here = subst P (sym is) (first.here x);
  before = first.before;
}
