-- Lists compared from their ends.
use Rattle.std.proofs.Common.{◌≡◌, ◌++◌, ◌∷◌, [], List, Bool, true, false, rules, refl, ap, sym}
use Rattle.std.proofs.Common.{◌∙◌}
use Rattle.std.specs.Prelude.{◌&&◌}
use Rattle.std.specs.Cmp.Lexicographic.{pointwise}
use Rattle.pl_base.specs.declared.shared_list.Chain.{Chain, Start, Then}
use Rattle.pl_base.specs.declared.shared_list.Chain.{the_lemmas}
use Rattle.pl_base.specs.Chains.{in_order}

swap : (a b c : Bool) → (a && (b && c)) ≡ (b && (a && c))
swap true b c = refl
swap false true c = refl
swap false false c = refl

never : (a : Bool) → (a && false) ≡ false
never true = refl
never false = refl

module _ {X : Type 0} (E : X → X → Bool) where
  -- a list with a last item differs from the empty one
  pub ended-none : (xs : List X) (x : X) → pointwise E (xs ++ x ∷ []) [] ≡ false
  ended-none [] x = refl
  ended-none (first ∷ xs) x = refl

  pub none-ended : (ys : List X) (y : X) → pointwise E [] (ys ++ y ∷ []) ≡ false
  none-ended [] y = refl
  none-ended (first ∷ ys) y = refl

  -- two lists are alike where their last items are, and what comes before these
  pub by_ends :
      (xs ys : List X) (x y : X) →
      pointwise E (xs ++ x ∷ []) (ys ++ y ∷ []) ≡ (E x y && pointwise E xs ys)
  by_ends [] [] x y = refl
  by_ends [] (second ∷ ys) x y = ap (λ rest. E x second && rest) (none-ended ys y) ∙
      never (E x second) ∙ sym (never (E x y))
  by_ends (first ∷ xs) [] x y = ap (λ rest. E first y && rest) (ended-none xs x) ∙
      never (E first y) ∙ sym (never (E x y))
  by_ends (first ∷ xs) (second ∷ ys) x y = ap (λ rest. E first second && rest) (by_ends xs ys x y) ∙
      swap (E first second) (E x y) (pointwise E xs ys)

  in_order-start : in_order {X = X} Start ≡ []
  in_order-start = search (rules, the_lemmas)

  in_order-then : (before : Chain X) (last : X) → in_order (Then before last) ≡ in_order before ++
      last ∷ []
  in_order-then before last = search (rules, the_lemmas)

  module _ (left right before other : Chain X) (x y : X) (is_left : left ≡ Then before x)
      (is_right : right ≡ Then other y) where
    by_lasts : pointwise E (in_order left) (in_order right) ≡
        (E x y && pointwise E (in_order before) (in_order other))
    by_lasts =
        rw is_left
        (rw is_right
        (rw (in_order-then before x)
        (rw (in_order-then other y) (by_ends (in_order before) (in_order other) x y))))

    pub last_alike :
        E x y ≡ true →
        pointwise E (in_order before) (in_order other) ≡
        pointwise E (in_order left) (in_order right)
    last_alike alike =
        sym (by_lasts ∙ ap (λ it. it && pointwise E (in_order before) (in_order other)) alike)

    pub last_differs : E x y ≡ false → false ≡ pointwise E (in_order left) (in_order right)
    last_differs differs =
        sym (by_lasts ∙ ap (λ it. it && pointwise E (in_order before) (in_order other)) differs)

  pub start_then :
      (left right other : Chain X) (y : X) → left ≡ Start → right ≡ Then other y →
      false ≡ pointwise E (in_order left) (in_order right)
  start_then left right other y is_left is_right =
      rw is_left
      (rw is_right
      (rw in_order-start (rw (in_order-then other y) (sym (none-ended (in_order other) y)))))

  pub then_start :
      (left right before : Chain X) (x : X) → left ≡ Then before x → right ≡ Start →
      false ≡ pointwise E (in_order left) (in_order right)
  then_start left right before x is_left is_right =
      rw is_left
      (rw is_right
      (rw in_order-start (rw (in_order-then before x) (sym (ended-none (in_order before) x)))))
