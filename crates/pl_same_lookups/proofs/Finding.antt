-- The latest item that passes a test.
use Rattle.std.proofs.Common.{◌≡◌, ◌&&◌, Bool, true, false, true≢false, List, [], ◌∷◌, ◌++◌, Option}
use Rattle.std.proofs.Common.{Some, None, is_none, if◌then◌else◌, refl, sym, ap, subst, ◌∙◌}
use Rattle.std.specs.Option.{option_or}
use Rattle.std.specs.Prelude.{unwrap_or}
use Rattle.pl_log.specs.Latest.{latest}

pub never : {X : Type 0} (x : X) → None ≡ Some x → ⊥
never x e = true≢false (ap is_none e)

pub same_some : {X : Type 0} (x y : X) → Some x ≡ Some y → x ≡ y
same_some x y e = ap (λ o. unwrap_or o x) e

pub same_truth : (a b : Bool) → (a ≡ true → b ≡ true) → (b ≡ true → a ≡ true) → a ≡ b
same_truth true b to from = sym (to refl)
same_truth false true to from = from refl
same_truth false false to from = refl

module _ {X : Type 0} (test : X → Bool) where
  -- the latest is of what comes behind, or it is the first and nothing behind passes
  pub passes : (xs : List X) (x : X) → latest test xs ≡ Some x → test x ≡ true
  passes [] x e = absurd (never x e)
  passes (y ∷ xs) x e = go (latest test xs) refl (test y) refl e (passes xs x) where
    go : (o : Option X) → latest test xs ≡ o → (b : Bool) → test y ≡ b →
        option_or o (if b then Some y else None) ≡ Some x →
        (latest test xs ≡ Some x → test x ≡ true) → test x ≡ true
    go (Some z) f b t g rest = rest (f ∙ g)
    go None f true t g rest = ap test (sym (same_some y x g)) ∙ t
    go None f false t g rest = absurd (never x g)

-- where one is found, another test that it passes finds one
module _ {X : Type 0} (p q : X → Bool) where
  pub there : (xs : List X) (x : X) → latest p xs ≡ Some x → q x ≡ true →
      (found : X) × (latest q xs ≡ Some found)
  there [] x e is = absurd (never x e)
  there (y ∷ xs) x e is = go (latest p xs) refl (latest q xs) refl (there xs x) where
    this : (b : Bool) → (if b then Some y else None) ≡ Some x → y ≡ x
    this true h = same_some y x h
    this false h = absurd (never x h)

    behind : (o : Option X) → latest p xs ≡ o →
        option_or o (if p y then Some y else None) ≡ Some x
    behind o f = sym (ap (λ (o : Option X). option_or o (if p y then Some y else None)) f) ∙ e

    go : (o : Option X) → latest p xs ≡ o → (r : Option X) → latest q xs ≡ r →
        (latest p xs ≡ Some x → q x ≡ true → (found : X) × (latest q xs ≡ Some found)) →
        (found : X) × (option_or (latest q xs) (if q y then Some y else None) ≡ Some found)
    go o f (Some found) g rest =
        (found, ap (λ (o : Option X). option_or o (if q y then Some y else None)) g)
    go (Some z) f None g rest =
        let got = rest (f ∙ behind (Some z) f) is in absurd (never got.0 (sym g ∙ got.1))
    go None f None g rest = (
      y,
      ap (λ (o : Option X). option_or o (if q y then Some y else None)) g
          ∙ ap (λ (b : Bool). if b then Some y else None)
          (ap q (this (p y) (behind None f)) ∙ is),
    )

-- where each of two tests passes what the other finds, both find the same
module _ {X : Type 0} (p q : X → Bool) where
  pub one_found : (xs : List X) (x y : X) → latest p xs ≡ Some x → latest q xs ≡ Some y →
      q x ≡ true → p y ≡ true → x ≡ y
  one_found [] x y e f is also = absurd (never x e)
  one_found (z ∷ xs) x y e f is also =
      go (latest p xs) refl (latest q xs) refl (one_found xs x y)
    where
      behind : (test : X → Bool) (w : X) (o : Option X) → latest test xs ≡ o →
          latest test (z ∷ xs) ≡ Some w → option_or o (if test z then Some z else None) ≡ Some w
      behind test w o g h =
          sym (ap (λ (o : Option X). option_or o (if test z then Some z else None)) g) ∙ h

      this : (b : Bool) (w : X) → (if b then Some z else None) ≡ Some w → z ≡ w
      this true w h = same_some z w h
      this false w h = absurd (never w h)

      go : (o : Option X) → latest p xs ≡ o → (r : Option X) → latest q xs ≡ r →
          (latest p xs ≡ Some x → latest q xs ≡ Some y → q x ≡ true → p y ≡ true → x ≡ y) →
          x ≡ y
      go (Some a) g (Some b) h rest =
          rest (g ∙ behind p x (Some a) g e) (h ∙ behind q y (Some b) h f) is also
      go None g None h rest = sym (this (p z) x (behind p x None g e))
          ∙ this (q z) y (behind q y None h f)
      go (Some a) g None h rest =
          let found = there p q xs x (g ∙ behind p x (Some a) g e) is in
          absurd (never found.0 (sym h ∙ found.1))
      go None g (Some b) h rest =
          let found = there q p xs y (h ∙ behind q y (Some b) h f) also in
          absurd (never found.0 (sym g ∙ found.1))
