-- Counting the names of a list, each once, at its last place.
use Rattle.std.proofs.Common.{◌≡◌, ◌+◌, ◌-◌, ◌<◌, ℕ, Bool, true, false, cond, not, ◌&&◌, List}
use Rattle.std.proofs.Common.{◌∷◌, length, get_or, take, drop, count_by, refl, sym, ap, ◌∙◌}
use Rattle.std.proofs.Common.{zero-add}
use Rattle.std.specs.Set.{is_member, unique_keys}
use Rattle.std.proofs.lemmas.List.{drop_more, take_rest}
use Rattle.std.proofs.lemmas.List.Sums.{sum_by-cons}

and_true : (b : Bool) → (b && not false) ≡ b
and_true true = refl
and_true false = refl

module _ {X : Type 0} (eq : X → X → Bool) (p : X → Bool) where
  counted_by : (x : X) (keys : List X) (member passes : Bool) → p x ≡ passes →
      count_by p (cond member keys (x ∷ keys)) ≡ cond (passes && not member) 1 0 + count_by p keys
  counted_by x keys true true is = sym (zero-add (count_by p keys))
  counted_by x keys true false is = sym (zero-add (count_by p keys))
  counted_by x keys false passes is =
      sum_by-cons (λ y. cond (p y) 1 0) x keys ∙ ap (λ b. cond b 1 0 + count_by p keys) (is
      ∙ sym (and_true passes))

  -- one name more counts where it passes and doesn't stand behind
  pub counted : (x : X) (rest : List X) →
      count_by p (unique_keys eq (x ∷ rest))
      ≡ cond (p x && not (is_member eq rest x)) 1 0 + count_by p (unique_keys eq rest)
  counted x rest = counted_by x (unique_keys eq rest) (is_member eq rest x) (p x) refl

  -- what is still to be counted, from one place to the next; the rest is read as a part of the list
  pub next_counted : (xs : List X) (i : ℕ) (x : X) (more : Bool) → i < length xs →
      x ≡ get_or xs i x →
      more ≡ (p x && not (is_member eq (take (length xs - (i + 1)) (drop (i + 1) xs)) x)) →
      count_by p (unique_keys eq (drop i xs))
      ≡ cond more 1 0 + count_by p (unique_keys eq (drop (i + 1) xs))
  next_counted xs i x more within is tells =
      let rest = drop (i + 1) xs in
      let cut : drop i xs ≡ x ∷ rest = drop_more xs i x within ∙ ap (λ y. y ∷ rest) (sym is) in
      let told : more ≡ (p x && not (is_member eq rest x)) = tells
      ∙ ap (λ ys. p x && not (is_member eq ys x)) (take_rest xs (i + 1)) in
      ap (λ ys. count_by p (unique_keys eq ys)) cut ∙ counted x rest
      ∙ ap (λ b. cond b 1 0 + count_by p (unique_keys eq rest)) (sym told)
