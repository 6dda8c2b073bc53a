-- Members that are put one behind the other.
use Rattle.std.proofs.Common.{◌≡◌, List, [], ◌∷◌, ◌++◌, ap, ◌∙◌}

module _ {X : Type 0} where
  -- one more behind those of before
  pub more :
      (before old new : List X) (x y : X) → old ≡ before → new ≡ old ++ x ∷ [] → x ≡ y →
      new ≡ before ++ y ∷ []
  more before old new x y was is same =
      is ∙ (ap (λ xs. xs ++ x ∷ []) was ∙ ap (λ z. before ++ z ∷ []) same)

  -- the first one
  pub first :
      (old new : List X) (x y : X) → old ≡ [] → new ≡ old ++ x ∷ [] → x ≡ y → new ≡ y ∷ []
  first old new x y was is same = more [] old new x y was is same

  -- several more
  pub all_more :
      (before old new xs ys : List X) → old ≡ before → new ≡ old ++ xs → xs ≡ ys →
      new ≡ before ++ ys
  all_more before old new xs ys was is same =
      is ∙ (ap (λ zs. zs ++ xs) was ∙ ap (λ zs. before ++ zs) same)
