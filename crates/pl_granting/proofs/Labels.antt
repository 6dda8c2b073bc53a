-- A leg's label, compared without making it.
use Rattle.std.proofs.Common.{◌≡◌, ◌≢◌, ◌&&◌, ◌++◌, ℕ, Bool, true, false, List, [], ◌∷◌, refl, sym}
use Rattle.std.proofs.Common.{ap, ◌∙◌}
use Rattle.std.proofs.lemmas.Bool.Decides.{Decides-eqb}
use Rattle.pl_base.specs.Texts.{is}
use Rattle.pl_granting.proofs.Look.{same}

cancels : (name one other : List ℕ) → is (name ++ one) (name ++ other) ≡ is one other
cancels [] one other = refl
cancels (x ∷ xs) one other =
    ap (λ t. t && is (xs ++ one) (xs ++ other)) ((Decides-eqb x x).1 refl) ∙ cancels xs one other

pub behind_name : (name leg text rest : List ℕ) → text ≡ name ++ rest →
    is (46 ∷ leg) rest ≡ is (name ++ 46 ∷ leg) text
behind_name name leg text rest begins =
    sym (cancels name (46 ∷ leg) rest) ∙ sym (ap (is (name ++ 46 ∷ leg)) begins)

pub other_name : (name leg text : List ℕ) → ((rest : List ℕ) → text ≢ name ++ rest) →
    false ≡ is (name ++ 46 ∷ leg) text
other_name name leg text none = go (is (name ++ 46 ∷ leg) text) refl
  where
    go : (b : Bool) → is (name ++ 46 ∷ leg) text ≡ b → false ≡ is (name ++ 46 ∷ leg) text
    go true told = absurd (none (46 ∷ leg) (sym (same (name ++ 46 ∷ leg) text told)))
    go false told = sym told
