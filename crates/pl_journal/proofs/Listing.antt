-- What is listed of items that are seen through references.
use Rattle.std.proofs.Common.{◌≡◌, ◌≤◌, ℕ, List, length, map, take, sym, ap, ◌∙◌}
use Rattle.std.specs.List.{flat_map}
use Rattle.std.proofs.lemmas.List.{take_all}
use Rattle.std.proofs.lemmas.List.Folds.{flat_map-map}

-- a loop that has listed what each item tells has listed what all tell once it is past them
pub listed_all : {A B C : Type 0} (h : B → List C) (v : A → B) (xs : List A) (i : ℕ)
    (told : List C) → told ≡ flat_map (λ x. h (v x)) (take i xs) → length xs ≤ i →
    told ≡ flat_map h (map v xs)
listed_all h v xs i told is past =
    is ∙ ap (flat_map (λ x. h (v x))) (take_all i xs past) ∙ sym (flat_map-map h v xs)
