-- What is looked up behind one fact more.
use Rattle.std.proofs.Common.{◌≡◌, Bool, true, false, List, [], ◌∷◌, ◌++◌, Option, Some}
use Rattle.std.proofs.Common.{None, refl, sym, ap, ◌∙◌}
use Rattle.std.specs.Prelude.{if◌then◌else◌}
use Rattle.std.specs.Option.{option_or}
use Rattle.pl_log.specs.Latest.{latest}

or_nothing : {X : Type 0} (a : Option X) → option_or a None ≡ a
or_nothing None = refl
or_nothing (Some x) = refl

or_again : {X : Type 0} (a b c : Option X) →
    option_or (option_or a b) c ≡ option_or a (option_or b c)
or_again None b c = refl
or_again (Some x) b c = refl

module _ {X : Type 0} (test : X → Bool) where
  latest_push : (xs : List X) (x : X) →
      latest test (xs ++ x ∷ []) ≡ option_or (if test x then Some x else None) (latest test xs)
  latest_push [] x = sym (or_nothing (if test x then Some x else None))
  latest_push (y ∷ xs) x =
      ap (λ o. option_or o (if test y then Some y else None)) (latest_push xs x)
      ∙ or_again (if test x then Some x else None) (latest test xs)
      (if test y then Some y else None)

  -- a fact that doesn't count changes nothing
  pub untouched : (xs : List X) (x : X) → test x ≡ false →
      latest test (xs ++ x ∷ []) ≡ latest test xs
  untouched xs x fails = latest_push xs x
      ∙ ap (λ (b : Bool). option_or (if b then Some x else None) (latest test xs)) fails

  -- one that counts is the latest
  pub touched : (xs : List X) (x : X) → test x ≡ true → latest test (xs ++ x ∷ []) ≡ Some x
  touched xs x passes = latest_push xs x
      ∙ ap (λ (b : Bool). option_or (if b then Some x else None) (latest test xs)) passes

  -- where there is none now, there was none before
  pub none_before : (xs : List X) (x : X) → latest test (xs ++ x ∷ []) ≡ None →
      latest test xs ≡ None
  none_before xs x none = go (test x) refl
    where
      go : (b : Bool) → test x ≡ b → latest test xs ≡ None
      go true is = let e : Some x ≡ None = sym (touched xs x is) ∙ none in absurd (cc)
      go false is = sym (untouched xs x is) ∙ none
