-- Turns of a loop over stages behind others.
use Rattle.std.proofs.Common.{◌≡◌, ◌<◌, ◌+◌, ◌||◌, ℕ, Bool, true, false, List, ◌++◌, length, take}
use Rattle.std.proofs.Common.{get_or, refl, sym, ap, ◌∙◌}
use Rattle.std.specs.List.{list_any}
use Rattle.std.proofs.lemmas.List.Folds.{list_any-append, list_any_more}

either : (a b c : Bool) → ((a || b) || c) ≡ (a || (b || c))
either true b c = refl
either false b c = refl

-- one more of them may pass
pub any_more : {X : Type 0} (p : X → Bool) (ys xs : List X) (i : ℕ) (x : X) (old new : Bool) →
    i < length xs → x ≡ get_or xs i x → new ≡ (old || p x) →
    old ≡ list_any p (ys ++ take i xs) → new ≡ list_any p (ys ++ take (i + 1) xs)
any_more p ys xs i x old new within is turn so_far =
    let more = list_any_more p xs i x within
    ∙ ap (λ y. list_any p (take i xs) || p y) (sym is) in
    turn ∙ ap (λ b. b || p x) (so_far ∙ list_any-append p ys (take i xs))
    ∙ either (list_any p ys) (list_any p (take i xs)) (p x)
    ∙ ap (λ b. list_any p ys || b) (sym more)
    ∙ sym (list_any-append p ys (take (i + 1) xs))
