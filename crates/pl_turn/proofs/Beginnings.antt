-- Beginnings of a history, and the entries in it that name a number.
use Rattle.std.proofs.Common.{◌≡◌, ℕ, zero, suc, ◌+◌, ◌<◌, ◌≤◌, ◌==◌, ◌≢◌, Bool, true, false, cond}
use Rattle.std.proofs.Common.{not, T, List, [], ◌∷◌, ◌++◌, length, get_or, drop, set, All, Contains}
use Rattle.std.proofs.Common.{count_by, ltb, sym, refl, ap, ◌∙◌, subst, ⊎_elim, append_assoc}
use Rattle.std.proofs.Common.{append-nil, zero-add, arith, ltb→lt, nltb→le, eq-eqb, ne_eqb}
use Rattle.std.proofs.lemmas.List.Elements.{filter-append}
use Rattle.std.proofs.lemmas.List.Sums.{sum_by-set, sum_by-append}
use mathlib.Core.List.{IsPrefix}
use mathlib.Core.Option.{some, some-ne-none, some-injective}
use lib.ListN.{get_elem?}
use mathlib.Core.Logic.{dite}
use native.Mathlib.Decide.{ℕ_discrete}
use Rattle.pl_turn.specs.History.{entries_of, Adds, longer}

module _ {E : Type 0} where
  pub prefix-same : (xs ys : List E) → xs ≡ ys → IsPrefix xs ys
  prefix-same xs ys e = ([], append-nil xs ∙ e)

  pub prefix-more : (xs ys zs : List E) → IsPrefix xs ys → IsPrefix xs (ys ++ zs)
  prefix-more xs ys zs p = (p.0 ++ zs, sym (append_assoc xs p.0 zs) ∙ ap (λ l. l ++ zs) p.1)

  pub prefix-trans : (xs ys zs : List E) → IsPrefix xs ys → IsPrefix ys zs → IsPrefix xs zs
  prefix-trans xs ys zs p q =
      (p.0 ++ q.0, sym (append_assoc xs p.0 q.0) ∙ (ap (λ l. l ++ q.0) p.1 ∙ q.1))

  -- of two beginnings of one list the shorter begins the longer
  pub prefix-between : (xs ys zs : List E) → IsPrefix xs zs → IsPrefix ys zs
      → length xs ≤ length ys → IsPrefix xs ys
  prefix-between [] ys zs p q le = (ys, refl)
  prefix-between (x ∷ xs) [] zs p q le = absurd (omega arith)
  prefix-between (x ∷ xs) (y ∷ ys) zs p q le =
      let e : x ∷ (xs ++ p.0) ≡ y ∷ (ys ++ q.0) = p.1 ∙ sym q.1 in
      let head : x ≡ y = ap (λ l. get_or l 0 x) e in
      let tail : xs ++ p.0 ≡ ys ++ q.0 = ap (drop 1) e in
      let r = prefix-between xs ys (xs ++ p.0) (p.0, refl) (q.0, sym tail) (omega arith) in
      (r.0, λ i. head i ∷ r.1 i)

  by_length : (xs ys zs : List E) → IsPrefix xs zs → IsPrefix ys zs → (b : Bool) → ltb (length xs)
      (length ys) ≡ b
      → IsPrefix xs (cond b ys xs) × IsPrefix ys (cond b ys xs) × IsPrefix (cond b ys xs) zs
  by_length xs ys zs p q true is = (
    prefix-between xs ys zs p q (omega (
      arith,
      ltb→lt (length xs) (length ys)
          (subst (λ b. T b) (sym is) tt),
    )),
    prefix-same ys ys refl,
    q,
  )
  by_length xs ys zs p q false is = (
    prefix-same xs xs refl,
    prefix-between ys xs zs q p
        (omega (arith, nltb→le (length xs) (length ys) (subst (λ b. T (not b)) (sym is) tt))),
    p,
  )

  -- two beginnings of one list begin the longer of them, which begins the list
  pub prefix-longer : (xs ys zs : List E) → IsPrefix xs zs → IsPrefix ys zs
      → IsPrefix xs (longer xs ys) × IsPrefix ys (longer xs ys) × IsPrefix (longer xs ys) zs
  prefix-longer xs ys zs p q = by_length xs ys zs p q (ltb (length xs) (length ys)) refl

  -- the longer of two lists is one of them, so it has what both have
  pub longer-has : (P : List E → Type 0) (xs ys : List E) → P xs → P ys → P (longer xs ys)
  longer-has P xs ys p q = by_test (ltb (length xs) (length ys))
    where
      by_test : (b : Bool) → P (cond b ys xs)
      by_test true = q
      by_test false = p

  -- an entry that is the only one of a list
  pub only : (x y : E) → Contains (x ∷ []) y → x ≡ y
  only x y c = let lt = c.1 in let first : c.0 ≡ 0 = omega arith in subst
      (λ k. get_or (x ∷ []) k y ≡ y) first c.2

  -- no entry, or one entry that names this number
  abbrev pub IsAtMostOne : (E → ℕ) → ℕ → List E → Type 0
  IsAtMostOne names number added = (length added ≤ 1) × All (λ e. names e ≡ number) added

  -- what was added, as a list
  pub added : (names : E → ℕ) (number : ℕ) (before after : List E) → Adds names number before after
      → (new : List E) × IsAtMostOne names number new × (after ≡ before ++ new)
  added names number before after adds =
      ⊎_elim
      (λ same. ([], (omega arith, λ k d lt. absurd (omega arith)), same ∙ sym (append-nil before)))
      (λ one. (one.0 ∷ [], (omega arith, λ k d lt. first names number one.0 one.1 k d lt), one.2))
      adds
    where
      first : (names : E → ℕ) (number : ℕ) (e : E) → names e ≡ number → (k : ℕ) (d : E)
          → k < length (e ∷ []) → names (get_or (e ∷ []) k d) ≡ number
      first names number e is zero d lt = is
      first names number e is (suc k) d lt = absurd (omega arith)

  module _ (names : E → ℕ) where
    of_none : (n m : ℕ) (xs : List E) → length xs ≤ 1 → All (λ e. names e ≡ m) xs → m ≢ n
        → entries_of names n xs ≡ []
    of_none n m [] le all ne = refl
    of_none n m (x ∷ []) le all ne = ap (λ b. cond b (x ∷ []) [])
        (ne_eqb (names x) n (λ e. ne (sym (all 0 x (omega arith)) ∙ e)))
    of_none n m (x ∷ y ∷ ys) le all ne = absurd (omega arith)

    -- the entries of another number stay where at most one of this number is added
    pub entries-other : (n m : ℕ) (h added : List E) → IsAtMostOne names m added → m ≢ n
        → entries_of names n (h ++ added) ≡ entries_of names n h
    entries-other n m h added one ne = filter-append (λ e. names e == n) h added ∙ ap
        (λ l. entries_of names n h ++ l) (of_none n m added one.0 one.1 ne) ∙ append-nil
        (entries_of names n h)

    -- a seat's own entries stay where nothing is added
    pub own-stays : (n : ℕ) (before after mine mine' : List E) → after ≡ before
        → mine ≡ entries_of names n before → mine' ≡ entries_of names n after → mine' ≡ mine
    own-stays n before after mine mine' same own own' =
        own' ∙ (ap (entries_of names n) same ∙ sym own)

    -- they grow by an entry that names its number
    pub own-grows : (n : ℕ) (before after mine mine' : List E) (e : E) → names e ≡ n
        → after ≡ before ++ e ∷ [] → mine ≡ entries_of names n before
        → mine' ≡ entries_of names n after → mine' ≡ mine ++ e ∷ []
    own-grows n before after mine mine' e is grown own own' =
        own'
        ∙ (ap (entries_of names n) grown
        ∙ (filter-append (λ x. names x == n) before (e ∷ [])
        ∙ ((λ i. entries_of names n before ++ cond (eq-eqb (names e) n is i) (e ∷ []) [])
        ∙ ap (λ l. l ++ e ∷ []) (sym own))))

    -- the entries of one number name no other
    pub entries-apart : (n m : ℕ) (xs : List E) → m ≢ n → entries_of names n
        (entries_of names m xs) ≡ []
    entries-apart n m [] ne = refl
    entries-apart n m (x ∷ xs) ne =
        let rest = entries_of names m xs in
        let none = entries-apart n m xs ne in
        dite (ℕ_discrete (names x) m)
        (λ is. ap (λ b. entries_of names n (cond b (x ∷ rest) rest)) (eq-eqb (names x) m is)
        ∙ (ap (λ b. cond b (x ∷ entries_of names n rest) (entries_of names n rest))
        (ne_eqb (names x) n (λ e. ne (sym is ∙ e)))
        ∙ none))
        (λ other. ap (λ b. entries_of names n (cond b (x ∷ rest) rest)) (ne_eqb (names x) m other)
        ∙ none)

    -- where all entries name lower numbers, none names this one
    pub entries-below : (n : ℕ) (xs : List E) → All (λ e. names e < n) xs
        → entries_of names n xs ≡ []
    entries-below n [] all = refl
    entries-below n (x ∷ xs) all =
        let below = all 0 x (omega arith) in
        ap (λ b. cond b (x ∷ entries_of names n xs) (entries_of names n xs))
        (ne_eqb (names x) n (λ e. absurd (omega arith)))
        ∙ entries-below n xs (λ k d lt. all (suc k) d (omega arith))

module _ {A : Type 0} where
  pub contains-nothing : (x : A) → Contains [] x → ⊥
  contains-nothing x c = let lt = c.1 in omega arith

  length-at : (l : List A) (i : ℕ) (a : A) → get_elem? l i ≡ some a → i < length l
  length-at [] i a e = absurd (some-ne-none a (sym e))
  length-at (x ∷ xs) zero a e = omega arith
  length-at (x ∷ xs) (suc i) a e = omega (arith, length-at xs i a e)

  read-at : (l : List A) (i : ℕ) (a d : A) → get_elem? l i ≡ some a → get_or l i d ≡ a
  read-at [] i a d e = absurd (some-ne-none a (sym e))
  read-at (x ∷ xs) zero a d e = some-injective x a e
  read-at (x ∷ xs) (suc i) a d e = read-at xs i a d e

  pub set-at : (l : List A) (i : ℕ) (a b : A) → get_elem? l i ≡ some a → get_elem?
      (set l i b) i ≡ some b
  set-at [] i a b e = absurd (some-ne-none a (sym e))
  set-at (x ∷ xs) zero a b e = refl
  set-at (x ∷ xs) (suc i) a b e = set-at xs i a b e

  -- what stands at one place is one thing
  pub same-at : (l : List A) (i j : ℕ) (a b : A) → get_elem? l i ≡ some a → get_elem? l j ≡ some b
      → i ≡ j → a ≡ b
  same-at l i j a b e f is = some-injective a b (sym e ∙ (ap (get_elem? l) is ∙ f))

  abbrev pub one_if : (A → Bool) → A → ℕ
  one_if p a = cond (p a) 1 0

  pub count-set : (p : A → Bool) (l : List A) (i : ℕ) (a b : A) → get_elem? l i ≡ some a
      → count_by p (set l i b) + one_if p a ≡ count_by p l + one_if p b
  count-set p l i a b e = ap (λ x. count_by p (set l i b) + one_if p x) (sym (read-at l i a a e))
      ∙ sum_by-set (λ x. cond (p x) 1 0) l i b a (length-at l i a e)

  pub count-snoc : (p : A → Bool) (l : List A) (a : A) → count_by p
      (l ++ a ∷ []) ≡ count_by p l + one_if p a
  count-snoc p l a = sum_by-append (λ x. cond (p x) 1 0) l (a ∷ []) ∙ ap (λ k. count_by p l + k)
      (zero-add (one_if p a))
