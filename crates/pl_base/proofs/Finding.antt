-- Look-ups in a loop.
use Rattle.std.proofs.Common.{◌≡◌, ℕ, ◌+◌, ◌<◌, Bool, true, false, Some, List, length, get_or, drop}
use Rattle.std.proofs.Common.{refl, ◌∙◌}
use Rattle.std.specs.List.{find, list_any}
use Rattle.std.proofs.lemmas.List.{at_drop_more}

pub find_drop_yes :
    {X : Type 0} (p : X → Bool) (xs : List X) (i : ℕ) (d : X) → i < length xs →
    p (get_or xs i d) ≡ true → find p (drop i xs) ≡ Some (get_or xs i d)
find_drop_yes p xs i d within passes = at_drop_more (find p) xs i d within ∙ rw passes refl

pub find_drop_no :
    {X : Type 0} (p : X → Bool) (xs : List X) (i : ℕ) (d : X) → i < length xs →
    p (get_or xs i d) ≡ false → find p (drop i xs) ≡ find p (drop (i + 1) xs)
find_drop_no p xs i d within fails = at_drop_more (find p) xs i d within ∙ rw fails refl

pub any_drop_yes :
    {X : Type 0} (p : X → Bool) (xs : List X) (i : ℕ) (d : X) → i < length xs →
    p (get_or xs i d) ≡ true → list_any p (drop i xs) ≡ true
any_drop_yes p xs i d within passes = at_drop_more (list_any p) xs i d within ∙ rw passes refl

pub any_drop_no :
    {X : Type 0} (p : X → Bool) (xs : List X) (i : ℕ) (d : X) → i < length xs →
    p (get_or xs i d) ≡ false → list_any p (drop i xs) ≡ list_any p (drop (i + 1) xs)
any_drop_no p xs i d within fails = at_drop_more (list_any p) xs i d within ∙ rw fails refl
