-- Edges of one after the other.
use Rattle.std.proofs.Common.{◌≡◌, ℕ, zero, suc, ◌+◌, ◌<◌, List, [], ◌∷◌, ◌++◌, length, take}
use Rattle.std.proofs.Common.{get_or}
use Rattle.std.proofs.Common.{map, refl, sym, ap, ◌∙◌, arith, append_assoc}
use Rattle.std.proofs.lemmas.List.{take_more, append-nil}
use Rattle.pl_graph.specs.Waits.{edges_by, edges_of_one}

edges_last : {X : Type 0} (waits : X → List ℕ) (first at : ℕ) (xs : List X) (x : X) →
    at ≡ first + length xs → edges_by first (map waits (xs ++ x ∷ [])) ≡
    edges_by first (map waits xs) ++ edges_of_one at (waits x)
edges_last waits first at [] x is =
    let same : at ≡ first = omega (arith, is) in
    append-nil (edges_of_one first (waits x)) ∙ ap (λ n. edges_of_one n (waits x)) (sym same)
edges_last waits first at (x ∷ xs) last is =
    ap (λ rest. edges_of_one first (waits x) ++ rest)
    (edges_last waits (first + 1) at xs last (omega (arith, is)))
    ∙ sym (append_assoc (edges_of_one first (waits x)) (edges_by (first + 1) (map waits xs))
    (edges_of_one at (waits last)))

length_taken : {X : Type 0} (xs : List X) (n : ℕ) → n < length xs → n ≡ 0 + length (take n xs)
length_taken [] n within = absurd (omega (arith, within))
length_taken (x ∷ xs) zero within = refl
length_taken (x ∷ xs) (suc n) within =
    let e : n ≡ 0 + length (take n xs) = length_taken xs n (omega (arith, within)) in
    omega (arith, e)

-- a turn of the loop
pub edges_more : {X : Type 0} (waits : X → List ℕ) (xs : List X) (at : ℕ) (x : X)
    (edges more : List (ℕ × ℕ)) → at < length xs → x ≡ get_or xs at x →
    edges ≡ edges_by 0 (map waits (take at xs)) → more ≡ edges ++ edges_of_one at (waits x) →
    more ≡ edges_by 0 (map waits (take (at + 1) xs))
edges_more waits xs at x edges more within is so_far grown =
    grown ∙ ap (λ es. es ++ edges_of_one at (waits x)) so_far
    ∙ sym (edges_last waits 0 at (take at xs) x (length_taken xs at within))
    ∙ ap (λ one. edges_by 0 (map waits (take at xs ++ one ∷ []))) is
    ∙ ap (λ ys. edges_by 0 (map waits ys)) (sym (take_more xs at x within))
