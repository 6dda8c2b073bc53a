-- How many pass a test, and how many places there are for them.
use Rattle.std.proofs.Common.{◌≡◌, ◌≤◌, ◌<◌, ◌+◌, ◌&&◌, ℕ, zero, suc, nat_eq, Bool, true, false}
use Rattle.std.proofs.Common.{not}
use Rattle.std.proofs.Common.{true≢false, cond, List, [], ◌∷◌, ◌++◌, refl, sym, ap, ◌∙◌, arith}
use Rattle.std.proofs.lemmas.Bool.Decides.{nat_tests}
use Rattle.std.proofs.lemmas.List.Sums.{sum_by-cons}
use Rattle.std.specs.List.{count_by, range_with_len, AllByRecursion}
use Rattle.pl_granting.specs.Below.pl_due.proofs.Standing.{first_of_two, second_of_two}

abbrev pub many : {X : Type 0} → (X → Bool) → List X → ℕ
many p [] = 0
many p (x ∷ xs) = cond (p x) 1 0 + many p xs

pub many_is : {X : Type 0} (p : X → Bool) (xs : List X) → count_by p xs ≡ many p xs
many_is p [] = refl
many_is p (x ∷ xs) = sum_by-cons (λ y. cond (p y) 1 0) x xs
    ∙ ap (λ n. cond (p x) 1 0 + n) (many_is p xs)

-- one that passes counts beside those in front of it
pub many_inside : {X : Type 0} (p : X → Bool) (front : List X) (one : X) (rest : List X) →
    p one ≡ true → many p front + 1 ≤ many p (front ++ one ∷ rest)
many_inside p [] one rest is = here (p one) (many p rest) is where
  here : (b : Bool) (n : ℕ) → b ≡ true → 0 + 1 ≤ cond b 1 0 + n
  here true n e = omega arith
  here false n e = absurd (true≢false (sym e))
many_inside p (x ∷ front) one rest is =
    behind (cond (p x) 1 0) (many p front) (many p (front ++ one ∷ rest))
    (many_inside p front one rest is)
  where
    behind : (k m n : ℕ) → m + 1 ≤ n → (k + m) + 1 ≤ k + n
    behind k m n few = omega (arith, few)

-- ---- one more on both sides

step : (b c : Bool) (m n : ℕ) → (b ≡ true → c ≡ true) → m ≤ n →
    cond b 1 0 + m ≤ cond c 1 0 + n
step true true m n leads few = omega (arith, few)
step true false m n leads few = absurd (true≢false (sym (leads refl)))
step false true m n leads few = omega (arith, few)
step false false m n leads few = omega (arith, few)

step_one : (b c : Bool) (m n : ℕ) → (b ≡ true → c ≡ true) → m ≤ n + 1 →
    cond b 1 0 + m ≤ (cond c 1 0 + n) + 1
step_one true true m n leads few = omega (arith, few)
step_one true false m n leads few = absurd (true≢false (sym (leads refl)))
step_one false true m n leads few = omega (arith, few)
step_one false false m n leads few = omega (arith, few)

step_any : (b c : Bool) (m n : ℕ) → m ≤ n → cond b 1 0 + m ≤ (cond c 1 0 + n) + 1
step_any true true m n few = omega (arith, few)
step_any true false m n few = omega (arith, few)
step_any false true m n few = omega (arith, few)
step_any false false m n few = omega (arith, few)

step_out : (b c : Bool) (m n : ℕ) → (b ≡ true → c ≡ true) → m + 1 ≤ n →
    (cond b 1 0 + m) + 1 ≤ cond c 1 0 + n
step_out true true m n leads few = omega (arith, few)
step_out true false m n leads few = absurd (true≢false (sym (leads refl)))
step_out false true m n leads few = omega (arith, few)
step_out false false m n leads few = omega (arith, few)

step_here : (b c : Bool) (m n : ℕ) → b ≡ false → c ≡ true → m ≤ n →
    (cond b 1 0 + m) + 1 ≤ cond c 1 0 + n
step_here false true m n e f few = omega (arith, few)
step_here true c m n e f few = absurd (true≢false e)
step_here false false m n e f few = absurd (true≢false (sym f))

-- ---- places

-- fewer pass what says more
fewer_from : (p q : ℕ → Bool) (a n : ℕ) → ((k : ℕ) → a ≤ k → p k ≡ true → q k ≡ true) →
    many p (range_with_len a n) ≤ many q (range_with_len a n)
fewer_from p q a zero leads = omega arith
fewer_from p q a (suc n) leads = step (p a) (q a) (many p (range_with_len (a + 1) n))
    (many q (range_with_len (a + 1) n)) (leads a (omega arith))
    (fewer_from p q (a + 1) n (λ k l. leads k (omega (arith, l))))

pub fewer : (p q : ℕ → Bool) (n : ℕ) → ((k : ℕ) → p k ≡ true → q k ≡ true) →
    many p (range_with_len 0 n) ≤ many q (range_with_len 0 n)
fewer p q n leads = fewer_from p q 0 n (λ k l. leads k)

-- none where none passes
none_from : (p : ℕ → Bool) (a n : ℕ) → ((k : ℕ) → p k ≡ true → ⊥) →
    many p (range_with_len a n) ≡ 0
none_from p a zero none = refl
none_from p a (suc n) none = go (p a) refl (none_from p (a + 1) n none) where
  go : (b : Bool) → p a ≡ b → many p (range_with_len (a + 1) n) ≡ 0 →
      cond (p a) 1 0 + many p (range_with_len (a + 1) n) ≡ 0
  go true e rest = absurd (none a e)
  go false e rest =
      let zero_more : 0 + many p (range_with_len (a + 1) n) ≡ 0 = omega (arith, rest) in
      ap (λ (b : Bool). cond b 1 0 + many p (range_with_len (a + 1) n)) e ∙ zero_more

pub none_pass : (p : ℕ → Bool) (n : ℕ) → ((k : ℕ) → p k ≡ true → ⊥) →
    many p (range_with_len 0 n) ≡ 0
none_pass p n none = none_from p 0 n none

-- one more at most where it says more but at one place
one_more_from : (p q : ℕ → Bool) (k a n : ℕ) →
    ((i : ℕ) → nat_eq i k ≡ false → p i ≡ true → q i ≡ true) →
    many p (range_with_len a n) ≤ many q (range_with_len a n) + 1
one_more_from p q k a zero leads = omega arith
one_more_from p q k a (suc n) leads =
    go (nat_eq a k) refl (one_more_from p q k (a + 1) n leads) where
      go : (b : Bool) → nat_eq a k ≡ b → many p (range_with_len (a + 1) n) ≤
          many q (range_with_len (a + 1) n) + 1 → cond (p a) 1 0 + many p (range_with_len (a + 1) n)
          ≤
          (cond (q a) 1 0 + many q (range_with_len (a + 1) n)) + 1
      go true e rest =
          let same : a ≡ k = grind (arith, nat_tests, e) in
          step_any (p a) (q a) (many p (range_with_len (a + 1) n))
          (many q (range_with_len (a + 1) n))
          (fewer_from p q (a + 1) n (λ i l. leads i
          (let off : nat_eq i k ≡ false = grind (arith, nat_tests, l, same) in off)))
      go false e rest = step_one (p a) (q a) (many p (range_with_len (a + 1) n))
          (many q (range_with_len (a + 1) n)) (leads a e) rest

pub one_more : (p q : ℕ → Bool) (k n : ℕ) →
    ((i : ℕ) → nat_eq i k ≡ false → p i ≡ true → q i ≡ true) →
    many p (range_with_len 0 n) ≤ many q (range_with_len 0 n) + 1
one_more p q k n leads = one_more_from p q k 0 n leads

abbrev pub but : (ℕ → Bool) → ℕ → ℕ → Bool
but q k i = q i && not (nat_eq i k)

taken_out : (q : ℕ → Bool) (k a n : ℕ) → a ≤ k → k < a + n → q k ≡ true →
    many (but q k) (range_with_len a n) + 1 ≤ many q (range_with_len a n)
taken_out q k a zero above below is = absurd (omega (arith, above, below))
taken_out q k a (suc n) above below is =
    go (nat_eq a k) refl (λ off. taken_out q k (a + 1) n off (omega (arith, below)) is) where
      go : (b : Bool) → nat_eq a k ≡ b → (a + 1 ≤ k →
          many (but q k) (range_with_len (a + 1) n) + 1 ≤ many q (range_with_len (a + 1) n)) →
          (cond (but q k a) 1 0 + many (but q k) (range_with_len (a + 1) n)) + 1 ≤
          cond (q a) 1 0 + many q (range_with_len (a + 1) n)
      go true e rest =
          let same : a ≡ k = grind (arith, nat_tests, e) in
          step_here (but q k a) (q a) (many (but q k) (range_with_len (a + 1) n))
          (many q (range_with_len (a + 1) n))
          (ap (λ (b : Bool). q a && not b) e ∙ never (q a)) (ap q same ∙ is)
          (fewer_from (but q k) q (a + 1) n
          (λ i l both. first_of_two (q i) (not (nat_eq i k)) both))
        where
          never : (b : Bool) → (b && false) ≡ false
          never true = refl
          never false = refl
      go false e rest =
          let off : a + 1 ≤ k = grind (arith, nat_tests, e, above) in
          step_out (but q k a) (q a) (many (but q k) (range_with_len (a + 1) n))
          (many q (range_with_len (a + 1) n))
          (λ both. first_of_two (q a) (not (nat_eq a k)) both)
          (rest off)

-- ---- each at a place of its own

module _ {X : Type 0} (p : X → Bool) (f : X → ℕ) where
  abbrev pub Apart : List X → Type 0
  Apart [] = Unit {0}
  Apart (x ∷ xs) =
      AllByRecursion (λ y. p x ≡ true → p y ≡ true → nat_eq (f y) (f x) ≡ false) xs × Apart xs

  abbrev pub Placed : ℕ → (ℕ → Bool) → X → Type 0
  Placed n q x = p x ≡ true → (f x < n) × (q (f x) ≡ true)

  without : (n : ℕ) (q : ℕ → Bool) (k : ℕ) (xs : List X) →
      AllByRecursion (Placed n q) xs →
      AllByRecursion (λ y. p y ≡ true → nat_eq (f y) k ≡ false) xs →
      AllByRecursion (Placed n (but q k)) xs
  without n q k [] each off = tt
  without n q k (x ∷ xs) each off = (
    λ is. let at = each.0 is in (at.0, both (q (f x)) (nat_eq (f x) k) at.1 (off.0 is)),
    without n q k xs each.1 off.1,
  )
    where
      both : (b c : Bool) → b ≡ true → c ≡ false → (b && not c) ≡ true
      both true false e g = refl
      both true true e g = absurd (true≢false g)
      both false c e g = absurd (true≢false (sym e))

  given : (P Q : X → Type 0) → ((y : X) → P y → Q y) → (xs : List X) → AllByRecursion P xs →
      AllByRecursion Q xs
  given P Q leads [] each = tt
  given P Q leads (x ∷ xs) each = (leads x each.0, given P Q leads xs each.1)

  pub have_places : (n : ℕ) (q : ℕ → Bool) (xs : List X) → Apart xs →
      AllByRecursion (Placed n q) xs → many p xs ≤ many q (range_with_len 0 n)
  have_places n q [] apart each = omega arith
  have_places n q (x ∷ xs) apart each =
      go (p x) refl (λ r placed. have_places n r xs apart.1 placed) where
        go : (b : Bool) → p x ≡ b → ((r : ℕ → Bool) → AllByRecursion (Placed n r) xs →
            many p xs ≤ many r (range_with_len 0 n)) → cond (p x) 1 0 + many p xs ≤ many q
            (range_with_len 0 n)
        go true e later =
            let at = each.0 e in
            let rest = later (but q (f x)) (without n q (f x) xs each.1
            (given (λ y. p x ≡ true → p y ≡ true → nat_eq (f y) (f x) ≡ false)
            (λ y. p y ≡ true → nat_eq (f y) (f x) ≡ false) (λ y h. h e) xs apart.0)) in
            let out = taken_out q (f x) 0 n (omega arith) (omega (arith, at.0)) at.1 in
            joined (p x) (many p xs) (many (but q (f x)) (range_with_len 0 n))
            (many q (range_with_len 0 n)) rest out
          where
            joined : (b : Bool) (m k l : ℕ) → m ≤ k → k + 1 ≤ l → cond b 1 0 + m ≤ l
            joined true m k l one two = omega (arith, one, two)
            joined false m k l one two = omega (arith, one, two)
        go false e later = passed_over (p x) (many p xs) (many q (range_with_len 0 n)) e
            (later q each.1)
          where
            passed_over : (b : Bool) (m n : ℕ) → b ≡ false → m ≤ n → cond b 1 0 + m ≤ n
            passed_over false m n e few = omega (arith, few)
            passed_over true m n e few = absurd (true≢false e)
