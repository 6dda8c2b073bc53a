-- Tests on items, one after the other.
use Rattle.std.proofs.Common.{◌≡◌, ℕ, zero, suc, ◌+◌, ◌<◌, ◌≤◌, Bool, true, false, List, [], ◌∷◌}
use Rattle.std.proofs.Common.{length, map, get_or, drop, refl, ap, sym, ◌∙◌, arith}
use Rattle.std.specs.Prelude.{◌&&◌}
use Rattle.std.proofs.lemmas.List.{at_drop_more, at_drop_all}
use Rattle.pl_literal.specs.Values.{all_pass}

pub of_two_lengths :
    {X : Type 0} (f : X → X → Bool) (ls rs : List X) → (length ls ≡ length rs → ⊥) →
    false ≡ all_pass (map f ls) rs
of_two_lengths f [] [] differ = absurd (differ refl)
of_two_lengths f [] (r ∷ rs) differ = refl
of_two_lengths f (l ∷ ls) [] differ = refl
of_two_lengths f (l ∷ ls) (r ∷ rs) differ =
    elim (f l r) as (λ b. false ≡ b && all_pass (map f ls) rs) [
      | true ↦ of_two_lengths f ls rs (λ e. differ (ap suc e))
      | false ↦ refl
    ]

pub next_pair :
    {X : Type 0} (f : X → X → Bool) (ls rs : List X) (i : ℕ) (d e : X) → i < length ls →
    i < length rs
    → all_pass (map f (drop i ls)) (drop i rs) ≡ (f (get_or ls i d) (get_or rs i e) &&
    all_pass (map f (drop (i + 1) ls)) (drop (i + 1) rs))
next_pair f ls rs i d e left right =
    at_drop_more (λ rest. all_pass (map f rest) (drop i rs)) ls i d left
    ∙ at_drop_more (λ rest. all_pass (f (get_or ls i d) ∷ map f (drop (i + 1) ls)) rest) rs i e
    right

pub none_left :
    {X : Type 0} (f : X → X → Bool) (ls rs : List X) (i : ℕ) → length ls ≤ i → length rs ≤ i →
    all_pass (map f (drop i ls)) (drop i rs) ≡ true
none_left f ls rs i left right =
    at_drop_all (λ rest. all_pass (map f rest) (drop i rs)) ls i left
    ∙ at_drop_all (λ rest. all_pass [] rest) rs i right
