-- The latest item that passes a test, and the numbers that lead to it.
use Rattle.std.proofs.Common.{◌≡◌, ◌<◌, ◌≤◌, ℕ, zero, suc, Bool, true, false, cond, List}
use Rattle.std.proofs.Common.{[], ◌∷◌, ◌++◌, map, length, take, get_or, Option, None, Some, refl}
use Rattle.std.proofs.Common.{sym, ap, ◌∙◌, subst, arith, ◌&&◌, ◌⊎◌, inl, inr}
use Rattle.std.specs.List.{slice_get}
use Rattle.std.specs.Option.{option_map, option_or}
use Rattle.std.proofs.lemmas.List.{length_push, take-take}
use Rattle.std.proofs.lemmas.List.{length-map, get_or_append_left}
use Rattle.std.proofs.lemmas.List.{get_or_default}
use Rattle.std.proofs.lemmas.Bool.{cases_lt}
use Rattle.pl_log.specs.Latest.{latest, last_number, behind_one}
use Rattle.pl_log.specs.Kept.{IsLinked, LeadsBack, IsTied}

-- ---- one item more

behind_cond : (b : Bool) (n m : ℕ) (here : Bool) →
    behind_one (cond b (suc n) m) here ≡ cond b (suc (suc n)) (behind_one m here)
behind_cond true n m here = refl
behind_cond false n m here = refl

pub last_number_push : {X : Type 0} (test : X → Bool) (xs : List X) (x : X) →
    last_number test (xs ++ x ∷ []) ≡ cond (test x) (suc (length xs)) (last_number test xs)
last_number_push test [] x = refl
last_number_push test (y ∷ ys) x =
    ap (λ n. behind_one n (test y)) (last_number_push test ys x)
    ∙ behind_cond (test x) (length ys) (last_number test ys) (test y)

or_cond : {X : Type 0} (b : Bool) (x : X) (o p : Option X) →
    option_or (cond b (Some x) o) p ≡ cond b (Some x) (option_or o p)
or_cond true x o p = refl
or_cond false x o p = refl

pub latest_push : {X : Type 0} (test : X → Bool) (xs : List X) (x : X) →
    latest test (xs ++ x ∷ []) ≡ cond (test x) (Some x) (latest test xs)
latest_push test [] x = refl
latest_push test (y ∷ ys) x =
    ap (λ o. option_or o (cond (test y) (Some y) None)) (latest_push test ys x)
    ∙ or_cond (test x) x (latest test ys) (cond (test y) (Some y) None)

-- ---- where the number leads

behind_le : (n len : ℕ) (here : Bool) → n ≤ len → behind_one n here ≤ suc len
behind_le zero len true le = omega arith
behind_le zero len false le = omega arith
behind_le (suc n) len here le = omega arith

pub last_number_le : {X : Type 0} (test : X → Bool) (xs : List X) → last_number test xs ≤ length xs
last_number_le test [] = omega arith
last_number_le test (x ∷ xs) =
    behind_le (last_number test xs) (length xs) (test x) (last_number_le test xs)

-- up to the latest item that passes, it is still the latest
stands_behind : {X : Type 0} (test : X → Bool) (x : X) (xs : List X) (n : ℕ) (here : Bool) →
    here ≡ test x → last_number test (take n xs) ≡ n →
    last_number test (take (behind_one n here) (x ∷ xs)) ≡ behind_one n here
stands_behind test x xs zero true is stands = ap (behind_one 0) (sym is)
stands_behind test x xs zero false is stands = refl
stands_behind test x xs (suc n) here is stands = ap (λ m. behind_one m (test x)) stands

pub last_number_stands : {X : Type 0} (test : X → Bool) (xs : List X) →
    last_number test (take (last_number test xs) xs) ≡ last_number test xs
last_number_stands test [] = refl
last_number_stands test (x ∷ xs) =
    stands_behind test x xs (last_number test xs) (test x) refl (last_number_stands test xs)

-- ---- the latest of a narrower test stands no later

none_narrow : {X : Type 0} (test : X → Bool) (x : X) (o : Option X) → o ≡ None → test x ≡ false →
    option_or o (cond (test x) (Some x) None) ≡ None
none_narrow test x o none fails = ap (λ p. option_or p (cond (test x) (Some x) None)) none
    ∙ ap (λ b. cond b (Some x) None) fails

pub fails_too : {X : Type 0} (test wider : X → Bool) (x : X) →
    ((y : X) → test y ≡ true → wider y ≡ true) → wider x ≡ false → test x ≡ false
fails_too test wider x narrow fails = go (test x) refl
  where
    go : (b : Bool) → test x ≡ b → b ≡ false
    go true is = sym (narrow x is) ∙ fails
    go false is = refl

upto_behind : {X : Type 0} (test wider : X → Bool) (x : X) (xs : List X) (n : ℕ) (here : Bool) →
    ((y : X) → test y ≡ true → wider y ≡ true) → wider x ≡ here →
    latest test xs ≡ latest test (take n xs) →
    latest test (x ∷ xs) ≡ latest test (take (behind_one n here) (x ∷ xs))
upto_behind test wider x xs zero true narrow is upto =
    ap (λ o. option_or o (cond (test x) (Some x) None)) upto
upto_behind test wider x xs zero false narrow is upto =
    none_narrow test x (latest test xs) upto (fails_too test wider x narrow is)
upto_behind test wider x xs (suc n) here narrow is upto =
    ap (λ o. option_or o (cond (test x) (Some x) None)) upto

pub latest_upto : {X : Type 0} (test wider : X → Bool) (xs : List X) →
    ((y : X) → test y ≡ true → wider y ≡ true) →
    latest test xs ≡ latest test (take (last_number wider xs) xs)
latest_upto test wider [] narrow = refl
latest_upto test wider (x ∷ xs) narrow = upto_behind test wider x xs (last_number wider xs)
    (wider x) narrow refl (latest_upto test wider xs narrow)

-- ---- a walk: everything behind the number fails

-- The number stands at an item that passes the wider test, or is 0, and the latest that passes both
-- tests is the latest up to there.
pub record Walks {X : Type 0} (wider test : X → Bool) (xs : List X) (n : ℕ) : Type 0 where
  pub stands : last_number wider (take n xs) ≡ n
  pub upto : latest (λ x. wider x && test x) xs ≡ latest (λ x. wider x && test x) (take n xs)

pub wide_of_both : {X : Type 0} (wider test : X → Bool) (x : X) → (wider x && test x) ≡ true →
    wider x ≡ true
wide_of_both wider test x both = go (wider x) refl
  where
    go : (b : Bool) → wider x ≡ b → wider x ≡ true
    go true is = is
    go false is = is ∙ (sym (ap (λ b. b && test x) is) ∙ both)

pub take_suc : {X : Type 0} (xs : List X) (m : ℕ) (d : X) → m < length xs →
    take (suc m) xs ≡ take m xs ++ get_or xs m d ∷ []
take_suc [] m d lt = absurd (omega arith)
take_suc (x ∷ xs) zero d lt = refl
take_suc (x ∷ xs) (suc m) d lt = ap (λ ys. x ∷ ys) (take_suc xs m d (omega arith))

length_take_le : {X : Type 0} (n : ℕ) (xs : List X) → length (take n xs) ≤ length xs
length_take_le zero xs = omega arith
length_take_le (suc n) [] = omega arith
length_take_le (suc n) (x ∷ xs) = let le = length_take_le n xs in omega arith

pub length_take_le_n : {X : Type 0} (n : ℕ) (xs : List X) → length (take n xs) ≤ n
length_take_le_n zero xs = omega arith
length_take_le_n (suc n) [] = omega arith
length_take_le_n (suc n) (x ∷ xs) = let le = length_take_le_n n xs in omega arith

pub stands_within : {X : Type 0} (test : X → Bool) (xs : List X) (n : ℕ) →
    last_number test (take n xs) ≡ n → n ≤ length xs
stands_within test xs n stands =
    let le = last_number_le test (take n xs) in
    let within = length_take_le n xs in
    omega arith

-- a number that stands is that of an item which passes
pub stands_here : {X : Type 0} (test : X → Bool) (xs : List X) (m : ℕ) (d : X) →
    m < length xs → last_number test (take (suc m) xs) ≡ suc m → test (get_or xs m d) ≡ true
stands_here {X} test xs m d lt stands = go (test (get_or xs m d)) refl
  where
    pushed : last_number test (take (suc m) xs) ≡ cond (test (get_or xs m d))
        (suc (length (take m xs))) (last_number test (take m xs))
    pushed = ap (last_number test) (take_suc xs m d lt)
        ∙ last_number_push test (take m xs) (get_or xs m d)

    go : (b : Bool) → test (get_or xs m d) ≡ b → test (get_or xs m d) ≡ true
    go true is = is
    go false is =
        let e : last_number test (take (suc m) xs) ≡ last_number test (take m xs) =
        pushed ∙ ap (λ b. cond b (suc (length (take m xs))) (last_number test (take m xs))) is in
        let le = last_number_le test (take m xs) in
        let short = length_take_le_n m xs in
        absurd (omega arith)

pub walk_begins : {X : Type 0} (wider test : X → Bool) (xs : List X) (n : ℕ) →
    last_number wider xs ≡ n → Walks wider test xs n
walk_begins wider test xs n is =
    let P : ℕ → Type 0 = Walks wider test xs in
    subst P is (record {
      stands = last_number_stands wider xs;
      upto = latest_upto (λ x. wider x && test x) wider xs (wide_of_both wider test);
    })

latest_before : {X : Type 0} (wider test : X → Bool) (xs : List X) (m : ℕ) (d : X) →
    m < length xs → Walks wider test xs (suc m) →
    latest (λ x. wider x && test x) xs ≡ cond (test (get_or xs m d)) (Some (get_or xs m d))
    (latest (λ x. wider x && test x) (take m xs))
latest_before {X} wider test xs m d lt walks =
    let both : X → Bool = λ x. wider x && test x in
    let here = get_or xs m d in
    walks.upto ∙ ap (latest both) (take_suc xs m d lt) ∙ latest_push both (take m xs) here
    ∙ ap (λ b. cond (b && test here) (Some here) (latest both (take m xs)))
    (stands_here wider xs m d lt walks.stands)

pub walk_finds : {X : Type 0} (wider test : X → Bool) (xs : List X) (m : ℕ) (d : X) →
    m < length xs → Walks wider test xs (suc m) → test (get_or xs m d) ≡ true →
    latest (λ x. wider x && test x) xs ≡ Some (get_or xs m d)
walk_finds {X} wider test xs m d lt walks passes =
    let both : X → Bool = λ x. wider x && test x in
    let here = get_or xs m d in
    latest_before wider test xs m d lt walks
    ∙ ap (λ b. cond b (Some here) (latest both (take m xs))) passes

pub walk_goes_on : {X : Type 0} (wider test : X → Bool) (xs : List X) (m : ℕ) (d : X) (n : ℕ) →
    m < length xs → Walks wider test xs (suc m) → test (get_or xs m d) ≡ false →
    n ≡ last_number wider (take m xs) → Walks wider test xs n
walk_goes_on {X} wider test xs m d n lt walks fails is =
    let both : X → Bool = λ x. wider x && test x in
    let here = get_or xs m d in
    let before = take m xs in
    let le = last_number_le wider before in
    let short = length_take_le_n m xs in
    let same : take n before ≡ take n xs = take-take n m xs (omega arith) in
    let upto : latest both before ≡ latest both (take n xs) =
    latest_upto both wider before (wide_of_both wider test)
    ∙ ap (λ k. latest both (take k before)) (sym is) ∙ ap (latest both) same in
    record {
      stands = ap (last_number wider) (sym same) ∙ ap (λ k. last_number wider (take k before)) is
          ∙ last_number_stands wider before ∙ sym is;
      upto = latest_before wider test xs m d lt walks
          ∙ ap (λ b. cond b (Some here) (latest both before)) fails ∙ upto;
    }

pub walk_ends : {X : Type 0} (wider test : X → Bool) (xs : List X) → Walks wider test xs 0 →
    latest (λ x. wider x && test x) xs ≡ None
walk_ends wider test xs walks = walks.upto

-- ---- ties

pub tied_push : {Q X : Type 0} (about : Q → X → Bool) (old new : Q → ℕ) (xs : List X) (x : X) →
    IsTied about old xs →
    ((key : Q) → new key ≡ cond (about key x) (suc (length xs)) (old key)) →
    IsTied about new (xs ++ x ∷ [])
tied_push about old new xs x tied set = λ key. set key
    ∙ ap (cond (about key x) (suc (length xs))) (tied key)
    ∙ sym (last_number_push (about key) xs x)

pub tied_back : {Q X : Type 0} (about : Q → X → Bool) (old new : Q → ℕ) (xs : List X) (x : X)
    (link : ℕ) → IsTied about old (xs ++ x ∷ []) →
    ((key : Q) → about key x ≡ true → link ≡ last_number (about key) xs) →
    ((key : Q) → new key ≡ cond (about key x) link (old key)) →
    IsTied about new xs
tied_back {Q} about old new xs x link tied linked set = λ key. go key (about key x) refl
  where
    go : (key : Q) (b : Bool) → about key x ≡ b → new key ≡ last_number (about key) xs
    go key true is = set key ∙ ap (λ b. cond b link (old key)) is ∙ linked key is
    go key false is = set key ∙ ap (λ b. cond b link (old key)) is ∙ tied key
        ∙ last_number_push (about key) xs x
        ∙ ap (λ b. cond b (suc (length xs)) (last_number (about key) xs)) is

-- ---- links

map_get_or : {K X : Type 0} (item : K → X) (kept : List K) (i : ℕ) (d : K) →
    get_or (map item kept) i (item d) ≡ item (get_or kept i d)
map_get_or item [] i d = refl
map_get_or item (k ∷ kept) zero d = refl
map_get_or item (k ∷ kept) (suc i) d = map_get_or item kept i d

pub map_get_or_at : {K X : Type 0} (item : K → X) (kept : List K) (i : ℕ) (d : X) (e : K) →
    i < length kept → get_or (map item kept) i d ≡ item (get_or kept i e)
map_get_or_at item kept i d e lt = get_or_default (map item kept) i d (item e)
    (rw (length-map kept item) lt) ∙ map_get_or item kept i e

items_upto : {K X : Type 0} (item : K → X) (kept : List K) (k : K) (i : ℕ) → i ≤ length kept →
    take i (map item (kept ++ k ∷ [])) ≡ take i (map item kept)
items_upto item [] k zero le = refl
items_upto item [] k (suc i) le = absurd (omega arith)
items_upto item (j ∷ kept) k zero le = refl
items_upto item (j ∷ kept) k (suc i) le =
    ap (λ ys. item j ∷ ys) (items_upto item kept k i (omega arith))

pub items_all : {K X : Type 0} (item : K → X) (kept : List K) (k : K) →
    take (length kept) (map item (kept ++ k ∷ [])) ≡ map item kept
items_all item [] k = refl
items_all item (j ∷ kept) k = ap (λ ys. item j ∷ ys) (items_all item kept k)

at_end : {K : Type 0} (kept : List K) (k d : K) → get_or (kept ++ k ∷ []) (length kept) d ≡ k
at_end [] k d = refl
at_end (j ∷ kept) k d = at_end kept k d

pub linked_push : {K X : Type 0} (item : K → X) (link : K → ℕ) (test : X → Bool) (kept : List K)
    (k : K) → IsLinked item link test kept →
    (test (item k) ≡ true → link k ≡ last_number test (map item kept)) →
    IsLinked item link test (kept ++ k ∷ [])
linked_push {K} item link test kept k linked last = λ i d lt passes.
    go i d passes (cases_lt i (length kept)) lt
  where
    go : (i : ℕ) (d : K) → test (item (get_or (kept ++ k ∷ []) i d)) ≡ true →
        (i < length kept) ⊎ (length kept ≤ i) → i < length (kept ++ k ∷ []) →
        link (get_or (kept ++ k ∷ []) i d) ≡ last_number test (take i (map item (kept ++ k ∷ [])))
    go i d passes (inl before) lt =
        let same = get_or_append_left kept (k ∷ []) d i before in
        ap link same ∙ linked i d before (sym (ap (λ j. test (item j)) same) ∙ passes)
        ∙ ap (last_number test) (sym (items_upto item kept k i (omega arith)))
    go i d passes (inr behind) lt =
        let len = length_push kept k in
        let is : i ≡ length kept = omega arith in
        let P : ℕ → Type 0 = λ n. test (item (get_or (kept ++ k ∷ []) n d)) ≡ true →
        link (get_or (kept ++ k ∷ []) n d) ≡
        last_number test (take n (map item (kept ++ k ∷ []))) in
        subst P (sym is) (λ here. ap link (at_end kept k d)
        ∙ last (sym (ap (λ j. test (item j)) (at_end kept k d)) ∙ here)
        ∙ ap (last_number test) (sym (items_all item kept k))) passes

pub linked_front : {K X : Type 0} (item : K → X) (link : K → ℕ) (test : X → Bool) (kept : List K)
    (k : K) → IsLinked item link test (kept ++ k ∷ []) → IsLinked item link test kept
linked_front item link test kept k linked = λ i d lt passes.
    let len = length_push kept k in
    let same = get_or_append_left kept (k ∷ []) d i lt in
    sym (ap link same) ∙ linked i d (omega arith) (ap (λ j. test (item j)) same ∙ passes)
    ∙ ap (last_number test) (items_upto item kept k i (omega arith))

pub linked_last : {K X : Type 0} (item : K → X) (link : K → ℕ) (test : X → Bool) (kept : List K)
    (k : K) → IsLinked item link test (kept ++ k ∷ []) → test (item k) ≡ true →
    link k ≡ last_number test (map item kept)
linked_last item link test kept k linked passes =
    let len = length_push kept k in
    sym (ap link (at_end kept k k))
    ∙ linked (length kept) k (omega arith) (ap (λ j. test (item j)) (at_end kept k k) ∙ passes)
    ∙ ap (last_number test) (items_all item kept k)

pub leads_push : {K : Type 0} (link : K → ℕ) (kept : List K) (k : K) → LeadsBack link kept →
    link k ≤ length kept → LeadsBack link (kept ++ k ∷ [])
leads_push {K} link kept k leads last = λ i d lt. go i d (cases_lt i (length kept)) lt
  where
    go : (i : ℕ) (d : K) → (i < length kept) ⊎ (length kept ≤ i) → i < length (kept ++ k ∷ []) →
        link (get_or (kept ++ k ∷ []) i d) ≤ i
    go i d (inl before) lt =
        let same = ap link (get_or_append_left kept (k ∷ []) d i before) in
        let le = leads i d before in
        omega arith
    go i d (inr behind) lt =
        let len = length_push kept k in
        let is : i ≡ length kept = omega arith in
        let P : ℕ → Type 0 = λ n. link (get_or (kept ++ k ∷ []) n d) ≤ n in
        subst P (sym is) (let same = ap link (at_end kept k d) in omega arith)

pub leads_front : {K : Type 0} (link : K → ℕ) (kept : List K) (k : K) →
    LeadsBack link (kept ++ k ∷ []) → LeadsBack link kept
leads_front link kept k leads = λ i d lt.
    let len = length_push kept k in
    let same = ap link (get_or_append_left kept (k ∷ []) d i lt) in
    let le = leads i d (omega arith) in
    omega arith

-- ---- the item that has the number

pub latest_at : {X : Type 0} (test : X → Bool) (xs : List X) (m : ℕ) (d : X) →
    last_number test xs ≡ suc m → latest test xs ≡ Some (get_or xs m d)
latest_at test xs m d is =
    let stands : last_number test (take (suc m) xs) ≡ suc m =
    ap (λ n. last_number test (take n xs)) (sym is) ∙ last_number_stands test xs ∙ is in
    let lt : m < length xs =
    (let le = last_number_le test xs in omega arith) in
    let here = get_or xs m d in
    latest_upto test test xs (λ y passes. passes) ∙ ap (λ n. latest test (take n xs)) is
    ∙ ap (latest test) (take_suc xs m d lt) ∙ latest_push test (take m xs) here
    ∙ ap (λ b. cond b (Some here) (latest test (take m xs))) (stands_here test xs m d lt stands)

pub latest_none : {X : Type 0} (test : X → Bool) (xs : List X) → last_number test xs ≡ 0 →
    latest test xs ≡ None
latest_none test xs is = latest_upto test test xs (λ y passes. passes)
    ∙ ap (λ n. latest test (take n xs)) is

behind_true : (n : ℕ) → behind_one n true ≡ suc n
behind_true zero = refl
behind_true (suc n) = refl

pub last_number_all : {X : Type 0} (xs : List X) → last_number (λ _. true) xs ≡ length xs
last_number_all [] = refl
last_number_all (x ∷ xs) =
    ap (λ n. behind_one n true) (last_number_all xs) ∙ behind_true (length xs)

pub get_of_map : {K X : Type 0} (item : K → X) (kept : List K) (i : ℕ) →
    slice_get (map item kept) i ≡ option_map item (slice_get kept i)
get_of_map item [] i = refl
get_of_map item (k ∷ kept) zero = refl
get_of_map item (k ∷ kept) (suc i) = get_of_map item kept i
