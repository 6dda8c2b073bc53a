-- A list's items as a set.
use Rattle.std.proofs.Common.{◌≡◌, ℕ, Bool, true, false, ◌||◌, ◌&&◌, cond, List, [], ◌∷◌, ◌++◌}
use Rattle.std.proofs.Common.{refl, sym, ap, ap₂, ◌∙◌, arith}
use Rattle.std.specs.Prelude.{nat_eq}
use Rattle.std.specs.List.{list_any}
use Rattle.std.specs.Ordering.{nat_cmp}
use Rattle.std.specs.Cmp.Lexicographic.{slice_cmp, texts_ties}
use Rattle.std.specs.BTreeSet.{BTreeSet, contains}
use Rattle.std.specs.BTreeMap.{is_at}
use Rattle.std.proofs.lemmas.Bool.Decides.{nat_tests}
use Rattle.std.proofs.lemmas.List.Folds.{list_any-append}
use Rattle.pl_base.specs.Texts.{is}

nat_swap : (m n : ℕ) → nat_eq m n ≡ nat_eq n m
nat_swap m n = grind (arith, nat_tests)

is_swap : (xs ys : List ℕ) → is xs ys ≡ is ys xs
is_swap [] [] = refl
is_swap [] (y ∷ ys) = refl
is_swap (x ∷ xs) [] = refl
is_swap (x ∷ xs) (y ∷ ys) = λ i. nat_swap x y i && is_swap xs ys i

either : (b c : Bool) → cond b true c ≡ (c || (b || false))
either true true = refl
either true false = refl
either false true = refl
either false false = refl

-- one item more is in both
pub one_more :
    (old new : BTreeSet (List ℕ)) (all : List (List ℕ)) (item copy key : List ℕ) → copy ≡ item →
    contains (slice_cmp nat_cmp) new key ≡ cond (is_at (slice_cmp nat_cmp copy) key) true
    (contains (slice_cmp nat_cmp) old key) →
    contains (slice_cmp nat_cmp) old key ≡ list_any (is key) all →
    contains (slice_cmp nat_cmp) new key ≡ list_any (is key) (all ++ item ∷ [])
one_more old new all item copy key copied updated same =
    updated
    ∙ ap₂ (λ b c. cond b true c) (sym (texts_ties copy key) ∙ is_swap copy key) same
    ∙ either (is key copy) (list_any (is key) all)
    ∙ sym (list_any-append (is key) all (copy ∷ []))
    ∙ ap (λ last. list_any (is key) (all ++ last ∷ [])) copied
