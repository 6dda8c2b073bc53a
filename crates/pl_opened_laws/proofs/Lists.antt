-- What is in lists, and the latest item that passes a test.
use Rattle.std.proofs.Common.{◌≡◌, ◌⊎◌, Bool, true, false, true≢false, cond, List, [], ◌∷◌, ◌++◌}
use Rattle.std.proofs.Common.{Option, Some, None, refl, sym, ap, subst, ◌∙◌, inl, inr}
use Rattle.std.specs.List.{flat_map, AllByRecursion}
use Rattle.std.specs.Option.{option_map, option_or, option_to_list}
use Rattle.std.specs.Prelude.{is_none, unwrap_or, IsPermutation}
use Rattle.std.proofs.lemmas.List.Elements.{All-from_recursion, recursion_from_All}
use Rattle.std.proofs.lemmas.List.Sorted.{All-permutation}
use Rattle.pl_log.specs.Latest.{latest}

pub some_is : {X : Type 0} (x y : X) → Some x ≡ Some y → x ≡ y
some_is x y e = ap (λ o. unwrap_or o x) e

pub never_some : {X : Type 0} (x : X) → Some x ≡ None → ⊥
never_some x e = true≢false (sym (ap is_none e))

-- ---- what is in a list

abbrev pub In : {X : Type 0} → X → List X → Type 0
In x [] = ⊥
In x (y ∷ ys) = (y ≡ x) ⊎ In x ys

module _ {X : Type 0} (x : X) where
  pub in_left : (xs ys : List X) → In x xs → In x (xs ++ ys)
  in_left [] ys is = absurd is
  in_left (a ∷ xs) ys (inl e) = inl e
  in_left (a ∷ xs) ys (inr rest) = inr (in_left xs ys rest)

  pub in_right : (xs ys : List X) → In x ys → In x (xs ++ ys)
  in_right [] ys is = is
  in_right (a ∷ xs) ys is = inr (in_right xs ys is)

  further : (a : X) (xs ys : List X) → In x xs ⊎ In x ys → In x (a ∷ xs) ⊎ In x ys
  further a xs ys (inl is) = inl (inr is)
  further a xs ys (inr is) = inr is

  pub in_joined : (xs ys : List X) → In x (xs ++ ys) → In x xs ⊎ In x ys
  in_joined [] ys is = inr is
  in_joined (a ∷ xs) ys (inl e) = inl (inl e)
  in_joined (a ∷ xs) ys (inr rest) = further a xs ys (in_joined xs ys rest)

-- what holds of each holds of what is in it, and the other way round
module _ {X : Type 0} (P : X → Type 0) where
  pub each_in : (xs : List X) → AllByRecursion P xs → (x : X) → In x xs → P x
  each_in [] all x is = absurd is
  each_in (a ∷ xs) all x (inl e) = subst P e all.0
  each_in (a ∷ xs) all x (inr rest) = each_in xs all.1 x rest

  pub in_each : (xs : List X) → ((x : X) → In x xs → P x) → AllByRecursion P xs
  in_each [] holds = tt
  in_each (a ∷ xs) holds = (holds a (inl refl), in_each xs (λ x is. holds x (inr is)))

-- what comes of the items of a list comes of one of them
pub record ComesOf {X Y : Type 0} (f : X → List Y) (xs : List X) (y : Y) : Type 0 where
  pub one : X
  pub there : In one xs
  pub among : In y (f one)

module _ {X Y : Type 0} (f : X → List Y) where
  later : (a : X) (xs : List X) (y : Y) → ComesOf f xs y → ComesOf f (a ∷ xs) y
  later a xs y is = record { one = is.one; there = inr is.there; among = is.among }

  comes_by : (a : X) (xs : List X) (y : Y) → In y (f a) ⊎ In y (flat_map f xs) →
      (In y (flat_map f xs) → ComesOf f xs y) → ComesOf f (a ∷ xs) y
  comes_by a xs y (inl is) rest = record { one = a; there = inl refl; among = is }
  comes_by a xs y (inr is) rest = later a xs y (rest is)

  pub comes_of : (xs : List X) (y : Y) → In y (flat_map f xs) → ComesOf f xs y
  comes_of [] y is = absurd is
  comes_of (a ∷ xs) y is =
      comes_by a xs y (in_joined y (f a) (flat_map f xs) is) (λ rest. comes_of xs y rest)

  pub goes_in : (xs : List X) (x : X) (y : Y) → In x xs → In y (f x) → In y (flat_map f xs)
  goes_in [] x y is among = absurd is
  goes_in (a ∷ xs) x y (inl e) among = in_left y (f a) (flat_map f xs)
      (subst (λ (b : X). In y (f b)) (sym e) among)
  goes_in (a ∷ xs) x y (inr rest) among =
      in_right y (f a) (flat_map f xs) (goes_in xs x y rest among)

-- the same items in another order
pub in_permuted : {X : Type 0} (xs ys : List X) → IsPermutation xs ys → (x : X) → In x ys → In x xs
in_permuted {X} xs ys same x is = each_in (λ (y : X). In y xs) ys
    (recursion_from_All (λ (y : X). In y xs) ys (All-permutation (λ (y : X). In y xs) xs ys same
    (All-from_recursion (λ (y : X). In y xs) xs (in_each (λ (y : X). In y xs) xs (λ y there. there)))))
    x is

-- an item that may be there
module _ {X Y : Type 0} (f : X → Y) where
  pub in_option : (o : Option X) (y : Y) → In y (option_to_list (option_map f o)) →
      (x : X) × (o ≡ Some x) × (f x ≡ y)
  in_option None y is = absurd is
  in_option (Some x) y (inl e) = (x, refl, e)
  in_option (Some x) y (inr rest) = absurd rest

  pub option_in : (o : Option X) (x : X) → o ≡ Some x → In (f x) (option_to_list (option_map f o))
  option_in None x e = absurd (never_some x (sym e))
  option_in (Some z) x e = inl (ap f (some_is z x e))

-- ---- the latest item that passes a test

module _ {X : Type 0} (test : X → Bool) where
  abbrev Finds : List X → X → Type 0
  Finds xs x = In x xs × (test x ≡ true)

  found_by : (a : X) (xs : List X) (x : X) (o : Option X) → latest test xs ≡ o → (b : Bool) →
      test a ≡ b → option_or o (cond b (Some a) None) ≡ Some x →
      (latest test xs ≡ Some x → Finds xs x) → Finds (a ∷ xs) x
  found_by a xs x (Some y) is b t e rest = let found = rest (is ∙ e) in (inr found.0, found.1)
  found_by a xs x None is true t e rest =
      let same : a ≡ x = some_is a x e in
      (inl same, subst (λ (z : X). test z ≡ true) same t)
  found_by a xs x None is false t e rest = absurd (never_some x (sym e))

  pub latest_in : (xs : List X) (x : X) → latest test xs ≡ Some x → In x xs × (test x ≡ true)
  latest_in [] x e = absurd (never_some x (sym e))
  latest_in (a ∷ xs) x e =
      found_by a xs x (latest test xs) refl (test a) refl e (λ later. latest_in xs x later)

  there_by : (a : X) (xs : List X) (x : X) (o : Option X) → latest test xs ≡ o → In x (a ∷ xs) →
      test x ≡ true → (In x xs → latest test xs ≡ None → ⊥) →
      option_or o (cond (test a) (Some a) None) ≡ None → ⊥
  there_by a xs x (Some y) is there t rest e = never_some y e
  there_by a xs x None is (inl same) t rest e =
      let passes : test a ≡ true = ap test same ∙ t in
      never_some a (sym (ap (λ (b : Bool). cond b (Some a) None) passes) ∙ e)
  there_by a xs x None is (inr later) t rest e = rest later is

  pub latest_there : (xs : List X) (x : X) → In x xs → test x ≡ true → latest test xs ≡ None → ⊥
  latest_there [] x is t e = is
  latest_there (a ∷ xs) x is t e = there_by a xs x (latest test xs) refl is t
      (λ there none. latest_there xs x there t none) e

  -- the only item that passes, if one does
  nothing : (xs : List X) (o : Option X) → latest test xs ≡ None →
      ((x : X) → o ≡ Some x → In x xs × (test x ≡ true)) → None ≡ o
  nothing xs None is there = refl
  nothing xs (Some x) is there =
      let found = there x refl in absurd (latest_there xs x found.0 found.1 is)

  only_by : (xs : List X) (o found : Option X) → latest test xs ≡ found →
      ((x : X) → In x xs → test x ≡ true → o ≡ Some x) →
      ((x : X) → o ≡ Some x → In x xs × (test x ≡ true)) → found ≡ o
  only_by xs o (Some x) is comes there =
      let found = latest_in xs x is in sym (comes x found.0 found.1)
  only_by xs o None is comes there = nothing xs o is there

  pub only_one : (xs : List X) (o : Option X) →
      ((x : X) → In x xs → test x ≡ true → o ≡ Some x) →
      ((x : X) → o ≡ Some x → In x xs × (test x ≡ true)) → latest test xs ≡ o
  only_one xs o comes there = only_by xs o (latest test xs) refl comes there
