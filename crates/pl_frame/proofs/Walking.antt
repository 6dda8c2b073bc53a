-- Look-ups in a loop.
use Rattle.std.proofs.Common.{◌≡◌, ℕ, ◌+◌, ◌<◌, Bool, true, false, Some, List, length, get_or}
use Rattle.std.proofs.Common.{drop, refl, ◌∙◌}
use Rattle.std.specs.List.{find}
use Rattle.std.proofs.lemmas.List.{at_drop_more}

pub find_yes : {X : Type 0} (p : X → Bool) (xs : List X) (i : ℕ) (d : X) → i < length xs →
    p (get_or xs i d) ≡ true → find p (drop i xs) ≡ Some (get_or xs i d)
find_yes p xs i d within passes = at_drop_more (find p) xs i d within ∙ rw passes refl

pub find_no : {X : Type 0} (p : X → Bool) (xs : List X) (i : ℕ) (d : X) → i < length xs →
    p (get_or xs i d) ≡ false → find p (drop i xs) ≡ find p (drop (i + 1) xs)
find_no p xs i d within fails = at_drop_more (find p) xs i d within ∙ rw fails refl
