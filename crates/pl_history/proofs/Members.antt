-- Members of filtered lists, and of lists that give something at most once.
use Rattle.std.proofs.Common.{◌≡◌, ◌⊎◌, ◌≤◌, ◌+◌, ◌||◌, Bool, true, false, cond, List, []}
use Rattle.std.proofs.Common.{◌∷◌, ◌++◌, filter, flat_map, length, refl, sym, ap, subst, ◌∙◌}
use Rattle.std.proofs.Common.{inl, inr, arith}
use Rattle.std.specs.List.{Contains, list_any}
use Rattle.std.proofs.lemmas.List.{length-append}
use Rattle.pl_granting_laws.specs.Below.pl_settling.specs.Below.pl_due.proofs.Members.{cons_cases, here, there}
use Rattle.pl_graph.proofs.Lists.{Contains-none}

module _ {X : Type 0} (p : X → Bool) where
  by_first : (b : Bool) (x y : X) (xs : List X) → p y ≡ b →
      Contains (cond b (y ∷ filter p xs) (filter p xs)) x →
      (Contains (filter p xs) x → (p x ≡ true) × Contains xs x) →
      (p x ≡ true) × Contains (y ∷ xs) x
  by_first true x y xs is in_it later = go (cons_cases x y (filter p xs) in_it)
    where
      go : (y ≡ x) ⊎ Contains (filter p xs) x → (p x ≡ true) × Contains (y ∷ xs) x
      go (inl same) = (ap p (sym same) ∙ is, subst (Contains (y ∷ xs)) same (here y xs))
      go (inr more) = ((later more).0, there x y xs (later more).1)
  by_first false x y xs is in_it later = ((later in_it).0, there x y xs (later in_it).1)

  pub in_filter : (xs : List X) (x : X) → Contains (filter p xs) x → (p x ≡ true) × Contains xs x
  in_filter [] x in_it = absurd (Contains-none x in_it)
  in_filter (y ∷ xs) x in_it = by_first (p y) x y xs refl in_it (in_filter xs x)

  kept_first : (b : Bool) (x y : X) (xs : List X) → p y ≡ b → p x ≡ true →
      (y ≡ x) ⊎ Contains xs x → (Contains xs x → Contains (filter p xs) x) →
      Contains (cond b (y ∷ filter p xs) (filter p xs)) x
  kept_first true x y xs is passes (inl same) later =
      subst (Contains (y ∷ filter p xs)) same (here y (filter p xs))
  kept_first true x y xs is passes (inr more) later = there x y (filter p xs) (later more)
  kept_first false x y xs is passes (inl same) later =
      let e : false ≡ true = sym is ∙ ap p same ∙ passes in absurd (cc)
  kept_first false x y xs is passes (inr more) later = later more

  pub kept_in_filter : (xs : List X) (x : X) → p x ≡ true → Contains xs x →
      Contains (filter p xs) x
  kept_in_filter [] x passes in_it = absurd (Contains-none x in_it)
  kept_in_filter (y ∷ xs) x passes in_it =
      kept_first (p y) x y xs refl passes (cons_cases x y xs in_it) (kept_in_filter xs x passes)

  any_by : (b rest : Bool) → (b ≡ true) ⊎ (rest ≡ true) → (b || rest) ≡ true
  any_by true rest is = refl
  any_by false rest (inl is) = absurd (let e : false ≡ true = is in cc)
  any_by false rest (inr is) = is

  pub any_contains : (xs : List X) (x : X) → p x ≡ true → Contains xs x → list_any p xs ≡ true
  any_contains [] x passes in_it = absurd (Contains-none x in_it)
  any_contains (y ∷ xs) x passes in_it =
      go (cons_cases x y xs in_it) (any_contains xs x passes)
    where
      go : (y ≡ x) ⊎ Contains xs x → (Contains xs x → list_any p xs ≡ true) →
          list_any p (y ∷ xs) ≡ true
      go (inl same) rest = any_by (p y) (list_any p xs) (inl (ap p same ∙ passes))
      go (inr more) rest = any_by (p y) (list_any p xs) (inr (rest more))

-- ---- of a list of which at most one thing comes, at most one item gives something

module _ {X Y : Type 0} (f : X → List Y) where
  pub some_in : (xs : List X) (x : X) → Contains xs x → 1 ≤ length (f x) →
      1 ≤ length (flat_map f xs)
  some_in [] x in_it some = absurd (Contains-none x in_it)
  some_in (y ∷ xs) x in_it some = go (cons_cases x y xs in_it) (some_in xs x)
    where
      go : (y ≡ x) ⊎ Contains xs x →
          (Contains xs x → 1 ≤ length (f x) → 1 ≤ length (flat_map f xs)) →
          1 ≤ length (f y ++ flat_map f xs)
      go (inl same) rest =
          let first : 1 ≤ length (f y) = subst (λ (z : X). 1 ≤ length (f z)) (sym same) some in
          omega (arith, first, length-append (f y) (flat_map f xs))
      go (inr more) rest =
          omega (arith, rest more some, length-append (f y) (flat_map f xs))

  pub one_giver : (xs : List X) (a b : X) → length (flat_map f xs) ≤ 1 → Contains xs a →
      Contains xs b → 1 ≤ length (f a) → 1 ≤ length (f b) → a ≡ b
  one_giver [] a b few in_a in_b some also = absurd (Contains-none a in_a)
  one_giver (y ∷ xs) a b few in_a in_b some also =
      go (cons_cases a y xs in_a) (cons_cases b y xs in_b) (one_giver xs a b)
    where
      sum : length (f y) + length (flat_map f xs) ≤ 1
      sum = omega (arith, few, length-append (f y) (flat_map f xs))

      go : (y ≡ a) ⊎ Contains xs a → (y ≡ b) ⊎ Contains xs b →
          (length (flat_map f xs) ≤ 1 → Contains xs a → Contains xs b → 1 ≤ length (f a) →
          1 ≤ length (f b) → a ≡ b) → a ≡ b
      go (inl is_a) (inl is_b) rest = sym is_a ∙ is_b
      go (inl is_a) (inr more) rest =
          let first : 1 ≤ length (f y) = subst (λ (z : X). 1 ≤ length (f z)) (sym is_a) some in
          absurd (omega (arith, first, sum, some_in xs b more also))
      go (inr more) (inl is_b) rest =
          let first : 1 ≤ length (f y) = subst (λ (z : X). 1 ≤ length (f z)) (sym is_b) also in
          absurd (omega (arith, first, sum, some_in xs a more some))
      go (inr in_a) (inr in_b) rest = rest (omega (arith, sum)) in_a in_b some also

  -- what an item gives is no more than all of it
  pub each_within : (xs : List X) (x : X) → Contains xs x →
      length (f x) ≤ length (flat_map f xs)
  each_within [] x in_it = absurd (Contains-none x in_it)
  each_within (y ∷ xs) x in_it = go (cons_cases x y xs in_it) (each_within xs x)
    where
      go : (y ≡ x) ⊎ Contains xs x → (Contains xs x → length (f x) ≤ length (flat_map f xs)) →
          length (f x) ≤ length (f y ++ flat_map f xs)
      go (inl same) rest =
          let first : length (f x) ≡ length (f y) = ap (λ (z : X). length (f z)) (sym same) in
          omega (arith, first, length-append (f y) (flat_map f xs))
      go (inr more) rest =
          omega (arith, rest more, length-append (f y) (flat_map f xs))
