-- What a stage uses has the items that are met, and no two such lists ascend.
use Rattle.std.proofs.Common.{◌≡◌, ℕ, zero, suc, ◌<◌, ◌⊎◌, inl, inr, List, [], ◌∷◌, length}
use Rattle.std.proofs.Common.{refl, sym, ap, subst, ◌∙◌, arith}
use Rattle.std.specs.Prelude.{All, AllPairs, Contains}
use Rattle.std.specs.List.{AllByRecursion, slice_index_or}
use Rattle.std.specs.BTreeSet.{insert_key}
use Rattle.std.specs.Cmp.{IsTotalOrder}
use Rattle.std.specs.FinMap.{IsAntisymmetric, nat_cmp-IsAntisymmetric, slice_cmp-IsAntisymmetric}
use Rattle.std.specs.Ordering.{nat_cmp, ordering_reverse, ordering_then, match_ordering}
use Rattle.std.specs.declared.cmp.Ordering.{Ordering}
use Rattle.std.specs.declared.cmp.Ordering.TheVariants.{Less, Equal, Greater}
use Rattle.std.proofs.lemmas.List.Elements.{All-from_recursion, recursion_from_All}
use Rattle.std.proofs.lemmas.List.Elements.{All-contains_itself}
use Rattle.std.proofs.lemmas.Map.Views.{All-insert_key}
use Rattle.pl_base.specs.Files.{text_cmp}
use Rattle.pl_base.specs.declared.resource.Kind.{Kind}
use Rattle.pl_base.specs.declared.resource.Kind.TheVariants.{Environment, Connection, Group, Pool}
use Rattle.pl_base.specs.declared.resource.Kind.TheVariants as kind
use Rattle.pl_base.specs.declared.resource.ResourceKey.{ResourceKey}
use Rattle.pl_uses.specs.Uses.{key_cmp, put_all, rank}
use Rattle.pl_plan.specs.Laws.{Ascend}
use Rattle.pl_plan.proofs.Ascending.{Ascending, IsBelow, key_order}

-- ---- items by recursion

module _ {K : Type 0} where
  abbrev pub Among : List K → K → Type 0
  Among [] x = ⊥
  Among (y ∷ ys) x = (y ≡ x) ⊎ Among ys x

  among_at : (ys : List K) (x : K) (k : ℕ) → k < length ys → slice_index_or ys k x ≡ x → Among ys x
  among_at [] x k within e = absurd (omega arith)
  among_at (y ∷ ys) x zero within e = inl e
  among_at (y ∷ ys) x (suc k) within e = inr (among_at ys x k (omega arith) e)

  among : (ys : List K) (x : K) → Contains ys x → Among ys x
  among ys x h = among_at ys x h.0 h.1 h.2

  contained : (ys : List K) (x : K) → Among ys x → Contains ys x
  contained [] x h = absurd h
  contained (y ∷ ys) x (inl e) = (0, omega arith, e)
  contained (y ∷ ys) x (inr h) =
      let later = contained ys x h in
      let within : later.0 < length ys = later.1 in
      (suc later.0, omega arith, later.2)

  -- what holds of all holds of one among them
  carried : (P : K → Type 0) (xs : List K) (z : K) → AllByRecursion P xs → Among xs z → P z
  carried P [] z all h = absurd h
  carried P (x ∷ xs) z all (inl e) = subst P e all.0
  carried P (x ∷ xs) z all (inr h) = carried P xs z all.1 h

  each_among : (P : K → Type 0) (xs : List K) → ((z : K) → Among xs z → P z) → AllByRecursion P xs
  each_among P [] all = tt
  each_among P (x ∷ xs) all = (all x (inl refl), each_among P xs (λ z h. all z (inr h)))

  -- from the items of one list to those of another one
  moved : (xs ys : List K) → All (Contains ys) xs → (z : K) → Among xs z → Among ys z
  moved xs ys all z h =
      carried (Among ys) xs z
      (each_among (Among ys) xs (λ w g.
      among ys w (carried (Contains ys) xs w (recursion_from_All (Contains ys) xs all) g))) h

-- ---- one ascending list

module _ {K : Type 0} (cmp : K → K → Ordering) (order : IsTotalOrder cmp) where
  never_both : (x y : K) → cmp x y ≡ Less → cmp y x ≡ Less → ⊥
  never_both x y less more =
      let e : Less ≡ Greater = sym less ∙ (order.antisymm x y ∙ ap ordering_reverse more) in cc

  first_same : (x y : K) (xs ys : List K) → AllByRecursion (IsBelow cmp order x) xs →
      AllByRecursion (IsBelow cmp order y) ys → Among (y ∷ ys) x → Among (x ∷ xs) y → x ≡ y
  first_same x y xs ys left right (inl e) h = sym e
  first_same x y xs ys left right (inr g) (inl e) = e
  first_same x y xs ys left right (inr g) (inr h) =
      absurd (never_both x y (carried (IsBelow cmp order x) xs y left h)
      (carried (IsBelow cmp order y) ys x right g))

  behind : (x y z : K) (ys : List K) → x ≡ y → cmp x z ≡ Less → Among (y ∷ ys) z → Among ys z
  behind x y z ys same less (inl e) =
      let itself : cmp z z ≡ Less =
      (let P : K → Type 0 = λ w. cmp w z ≡ Less in subst P (same ∙ e) less) in
      absurd (never_both z z itself itself)
  behind x y z ys same less (inr h) = h

  pub one_list : (xs ys : List K) → Ascending cmp order xs → Ascending cmp order ys →
      ((z : K) → Among xs z → Among ys z) → ((z : K) → Among ys z → Among xs z) → xs ≡ ys
  one_list [] [] left right to from = refl
  one_list [] (y ∷ ys) left right to from = absurd (from y (inl refl))
  one_list (x ∷ xs) [] left right to from = absurd (to x (inl refl))
  one_list (x ∷ xs) (y ∷ ys) left right to from =
      let same : x ≡ y =
      first_same x y xs ys left.0 right.0 (to x (inl refl)) (from y (inl refl)) in
      let rest : xs ≡ ys = one_list xs ys left.1 right.1
      (λ z h. behind x y z ys same (carried (IsBelow cmp order x) xs z left.0 h) (to z (inr h)))
      (λ z h. behind y x z xs (sym same) (carried (IsBelow cmp order y) ys z right.0 h)
      (from z (inr h))) in
      λ i. same i ∷ rest i

  pub ascending : (xs : List K) → AllPairs (IsBelow cmp order) xs → Ascending cmp order xs
  ascending [] all = tt
  ascending (x ∷ xs) all = (
    recursion_from_All (IsBelow cmp order x) xs
        (λ k d within. all 0 (suc k) d (omega arith) (omega arith)),
    ascending xs (λ i j d less within. all (suc i) (suc j) d (omega arith) (omega arith)),
  )

-- ---- one item more

module _ {K : Type 0} (cmp : K → K → Ordering) (ties : IsAntisymmetric cmp) where
  itself_by : (k x : K) (xs : List K) (r : Ordering) → cmp k x ≡ r →
      Among (insert_key cmp xs k) k →
      Among (match_ordering r (k ∷ x ∷ xs) (x ∷ xs) (x ∷ insert_key cmp xs k)) k
  itself_by k x xs Less e h = inl refl
  itself_by k x xs Equal e h = inl (sym (ties k x e))
  itself_by k x xs Greater e h = inr h

  pub among_itself : (xs : List K) (k : K) → Among (insert_key cmp xs k) k
  among_itself [] k = inl refl
  among_itself (x ∷ xs) k = itself_by k x xs (cmp k x) refl (among_itself xs k)

  stays_by : (k x z : K) (xs : List K) (r : Ordering) →
      (Among xs z → Among (insert_key cmp xs k) z) → Among (x ∷ xs) z →
      Among (match_ordering r (k ∷ x ∷ xs) (x ∷ xs) (x ∷ insert_key cmp xs k)) z
  stays_by k x z xs Less later h = inr h
  stays_by k x z xs Equal later h = h
  stays_by k x z xs Greater later (inl e) = inl e
  stays_by k x z xs Greater later (inr h) = inr (later h)

  pub among_stays : (xs : List K) (k z : K) → Among xs z → Among (insert_key cmp xs k) z
  among_stays [] k z h = absurd h
  among_stays (x ∷ xs) k z h =
      stays_by k x z xs (cmp k x) (λ later. among_stays xs k z later) h

-- ---- resources

kind_at : ℕ → Kind
kind_at zero = Environment
kind_at (suc zero) = Connection
kind_at (suc (suc zero)) = Group
kind_at (suc (suc (suc zero))) = Pool
kind_at (suc (suc (suc (suc n)))) = kind.Repository

kind_of_rank : (one : Kind) → kind_at (rank one) ≡ one
unfolding kind_at
kind_of_rank Environment = refl
kind_of_rank Connection = refl
kind_of_rank Group = refl
kind_of_rank Pool = refl
kind_of_rank kind.Repository = refl

both_tie : (a b : Ordering) → ordering_then a b ≡ Equal → (a ≡ Equal) × (b ≡ Equal)
both_tie Less b e = absurd (let bad : Less ≡ Equal = e in cc)
both_tie Equal b e = (refl, e)
both_tie Greater b e = absurd (let bad : Greater ≡ Equal = e in cc)

key_ties : IsAntisymmetric key_cmp
key_ties left right e =
    let tied = both_tie (nat_cmp (rank left.kind) (rank right.kind))
    (text_cmp left.name right.name) e in
    let kinds : left.kind ≡ right.kind =
    sym (kind_of_rank left.kind)
    ∙ (ap kind_at (nat_cmp-IsAntisymmetric (rank left.kind) (rank right.kind) tied.0)
    ∙ kind_of_rank right.kind) in
    let names : left.name ≡ right.name =
    slice_cmp-IsAntisymmetric nat_cmp-IsAntisymmetric left.name right.name tied.1 in
    λ i. record { kind = kinds i; name = names i }

put_only : (P : ResourceKey → Type 0) (kept keys : List ResourceKey) → All P kept →
    AllByRecursion P keys → All P (put_all kept keys)
put_only P kept [] all more = all
put_only P kept (key ∷ keys) all more =
    put_only P (insert_key key_cmp kept key) keys
    (All-insert_key key_cmp key P kept all more.0) more.1

pub put_has_only : (keys : List ResourceKey) → All (Contains keys) (put_all [] keys)
put_has_only keys =
    put_only (Contains keys) [] keys (λ k d within. absurd (omega arith))
    (recursion_from_All (Contains keys) keys (All-contains_itself keys))

put_stays : (kept keys : List ResourceKey) (z : ResourceKey) → Among kept z →
    Among (put_all kept keys) z
put_stays kept [] z h = h
put_stays kept (key ∷ keys) z h =
    put_stays (insert_key key_cmp kept key) keys z (among_stays key_cmp key_ties kept key z h)

put_has : (kept keys : List ResourceKey) (z : ResourceKey) → Among keys z →
    Among (put_all kept keys) z
put_has kept [] z h = absurd h
put_has kept (key ∷ keys) z (inl e) =
    subst (Among (put_all kept (key ∷ keys))) e
    (put_stays (insert_key key_cmp kept key) keys key (among_itself key_cmp key_ties kept key))
put_has kept (key ∷ keys) z (inr h) = put_has (insert_key key_cmp kept key) keys z h

pub put_has_all : (keys : List ResourceKey) → All (Contains (put_all [] keys)) keys
put_has_all keys =
    All-from_recursion (Contains (put_all [] keys)) keys
    (each_among (Contains (put_all [] keys)) keys (λ z h.
    contained (put_all [] keys) z (put_has [] keys z h)))

pub one_set : (met left right : List ResourceKey) → Ascend left → Ascend right →
    All (Contains met) left → All (Contains left) met → All (Contains met) right →
    All (Contains right) met → left ≡ right
one_set met left right up also only all only_right all_right =
    one_list key_cmp key_order left right (ascending key_cmp key_order left up)
    (ascending key_cmp key_order right also)
    (λ z h. moved met right all_right z (moved left met only z h))
    (λ z h. moved met left all z (moved right met only_right z h))
