-- Spellings of fields sort as the fields do.
use Rattle.std.proofs.Common.{◌≡◌, ℕ, zero, suc, ◌^◌, ◌<◌, ◌+◌, ◌*◌, ◌/◌, ◌%◌, List, [], ◌∷◌, ◌++◌}
use Rattle.std.proofs.Common.{◌≤◌, length, refl, sym, ap, ◌∙◌, append_assoc, append-nil, arith}
use Rattle.std.proofs.Math.Arith.{mod-mul}
use Rattle.std.proofs.Math.Nat.{div-one, mod-one, mod-lt, mod-eq_of_lt, mul-le-mul_right, pow-succ'}
use Rattle.std.proofs.lemmas.Cmp.{ranked}
use Rattle.std.specs.Cmp.{nat_cmp_is}
use Rattle.std.specs.Cmp.Lexicographic.{slice_cmp}
use Rattle.std.specs.Int.{byte_at, bytes_high_first}
use Rattle.std.specs.Ordering.{nat_cmp, ordering_then, MatchOrdering}
use Rattle.std.specs.declared.cmp.Ordering.{Ordering}
use Rattle.std.specs.declared.cmp.Ordering.TheVariants.{Less, Equal, Greater}
use Rattle.pl_fields.specs.Fields.{number, count, text}
use Rattle.pl_keeper.specs.Sorting.{shorter_first_cmp}

-- spellings sort as their values, and where these are equal what stands behind decides
abbrev pub SortsAs : {X : Type 0} → (X → List ℕ) → (X → Type 0) → (X → X → Ordering) → Type 0
SortsAs {X} spelled fits cmp = (x y : X) (r s : List ℕ) → fits x → fits y →
    slice_cmp nat_cmp (spelled x ++ r) (spelled y ++ s) ≡ ordering_then (cmp x y)
    (slice_cmp nat_cmp r s)

then_assoc : (a b c : Ordering) →
    ordering_then a (ordering_then b c) ≡ ordering_then (ordering_then a b) c
then_assoc Less b c = refl
then_assoc Equal b c = refl
then_assoc Greater b c = refl

then_equal : (a : Ordering) → ordering_then a Equal ≡ a
then_equal Less = refl
then_equal Equal = refl
then_equal Greater = refl

positive : (k : ℕ) → 0 < 256 ^ k
positive zero = omega arith
positive (suc k) = rw (pow-succ' 256 k) (omega (arith, positive k))

-- a digit before others
next_digit : (p a b : ℕ) → a < b → (x y : ℕ) → x < p → a * p + x < b * p + y
next_digit p a b less x y within =
    let step : (a + 1) * p ≤ b * p = mul-le-mul_right p (omega arith) in
    let apart : (a + 1) * p ≡ a * p + p = omega arith in
    omega arith

same_digit : (q x y : ℕ) (o : Ordering) → MatchOrdering o (x < y) (x ≡ y) (y < x) →
    o ≡ nat_cmp (q + x) (q + y)
same_digit q x y Less h = nat_cmp_is (q + x) (q + y) Less (omega arith)
same_digit q x y Equal h = nat_cmp_is (q + x) (q + y) Equal (omega arith)
same_digit q x y Greater h = nat_cmp_is (q + x) (q + y) Greater (omega arith)

digits : (p a b x y : ℕ) (o : Ordering) → MatchOrdering o (a < b) (a ≡ b) (b < a) → x < p →
    y < p → ordering_then o (nat_cmp x y) ≡ nat_cmp (a * p + x) (b * p + y)
digits p a b x y Less h xs ys = nat_cmp_is _ _ Less (next_digit p a b h x y xs)
digits p a b x y Equal h xs ys =
    rw (sym h) (same_digit (a * p) x y (nat_cmp x y) (ranked x y (nat_cmp x y) refl))
digits p a b x y Greater h xs ys = nat_cmp_is _ _ Greater (next_digit p b a h y x ys)

byte_is : (k n : ℕ) → byte_at k n ≡ n / 256 ^ k % 256
byte_is zero n = rw (div-one n)
byte_is (suc k) n = refl

low_digits : (k n : ℕ) → n % 256 ^ suc k ≡ byte_at k n * 256 ^ k + n % 256 ^ k
low_digits k n = rw (pow-succ' 256 k, byte_is k n) (mod-mul n {m = 256} {c = 256 ^ k} (omega arith)
    (positive k))

first_digit : (k m n : ℕ) → ordering_then (nat_cmp (byte_at k m) (byte_at k n))
    (nat_cmp (m % 256 ^ k) (n % 256 ^ k)) ≡ nat_cmp (m % 256 ^ suc k) (n % 256 ^ suc k)
first_digit k m n = rw (low_digits k m, low_digits k n)
    (digits (256 ^ k) (byte_at k m) (byte_at k n) (m % 256 ^ k) (n % 256 ^ k)
    (nat_cmp (byte_at k m) (byte_at k n)) (ranked (byte_at k m) (byte_at k n) _ refl)
    (mod-lt m (positive k))
    (mod-lt n (positive k)))

-- bytes with the highest first sort as the numbers
bytes_sort : (k m n : ℕ) (r s : List ℕ) →
    slice_cmp nat_cmp (bytes_high_first k m ++ r) (bytes_high_first k n ++ s) ≡
    ordering_then (nat_cmp (m % 256 ^ k) (n % 256 ^ k)) (slice_cmp nat_cmp r s)
bytes_sort zero m n r s = rw (mod-one m, mod-one n)
bytes_sort (suc k) m n r s =
    ap (λ (o : Ordering). ordering_then (nat_cmp (byte_at k m) (byte_at k n)) o)
    (bytes_sort k m n r s) ∙
    (then_assoc (nat_cmp (byte_at k m) (byte_at k n)) (nat_cmp (m % 256 ^ k) (n % 256 ^ k))
    (slice_cmp nat_cmp r s) ∙
    ap (λ (o : Ordering). ordering_then o (slice_cmp nat_cmp r s)) (first_digit k m n))

pub number_sorts : SortsAs number (λ n. n < 2 ^ 64) nat_cmp
unfolding number
number_sorts m n r s small less =
    let low : m % 256 ^ 8 ≡ m = mod-eq_of_lt small in
    let high : n % 256 ^ 8 ≡ n = mod-eq_of_lt less in
    bytes_sort 8 m n r s ∙ ap (λ (o : Ordering). ordering_then o (slice_cmp nat_cmp r s))
    (ap (λ (i : ℕ). nat_cmp i (n % 256 ^ 8)) low ∙ ap (λ (i : ℕ). nat_cmp m i) high)

count_sorts : SortsAs count (λ n. n < 2 ^ 32) nat_cmp
unfolding count
count_sorts m n r s small less =
    let low : m % 256 ^ 4 ≡ m = mod-eq_of_lt small in
    let high : n % 256 ^ 4 ≡ n = mod-eq_of_lt less in
    bytes_sort 4 m n r s ∙ ap (λ (o : Ordering). ordering_then o (slice_cmp nat_cmp r s))
    (ap (λ (i : ℕ). nat_cmp i (n % 256 ^ 4)) low ∙ ap (λ (i : ℕ). nat_cmp m i) high)

-- lists of one length, with others behind them
same_length : (x y r s : List ℕ) → length x ≡ length y → slice_cmp nat_cmp (x ++ r) (y ++ s) ≡
    ordering_then (slice_cmp nat_cmp x y) (slice_cmp nat_cmp r s)
same_length [] [] r s e = refl
same_length [] (b ∷ y) r s e = absurd (omega arith)
same_length (a ∷ x) [] r s e = absurd (omega arith)
same_length (a ∷ x) (b ∷ y) r s e =
    ap (λ (o : Ordering). ordering_then (nat_cmp a b) o) (same_length x y r s (omega arith)) ∙
    then_assoc (nat_cmp a b) (slice_cmp nat_cmp x y) (slice_cmp nat_cmp r s)

-- what decides only where something else is equal
where_equal : (o a b c : Ordering) → (o ≡ Equal → a ≡ ordering_then b c) →
    ordering_then o a ≡ ordering_then (ordering_then o b) c
where_equal Less a b c h = refl
where_equal Equal a b c h = h refl
where_equal Greater a b c h = refl

equal_numbers : (m n : ℕ) → nat_cmp m n ≡ Equal → m ≡ n
equal_numbers m n e = ranked m n Equal (sym e)

pub text_sorts : SortsAs text (λ bytes. length bytes < 2 ^ 32) shorter_first_cmp
unfolding text
text_sorts x y r s short less =
    ap (λ (bytes : List ℕ). slice_cmp nat_cmp bytes ((count (length y) ++ y) ++ s))
    (append_assoc (count (length x)) x r) ∙
    (ap (λ (bytes : List ℕ). slice_cmp nat_cmp (count (length x) ++ (x ++ r)) bytes)
    (append_assoc (count (length y)) y s) ∙
    (count_sorts (length x) (length y) (x ++ r) (y ++ s) short less ∙
    where_equal (nat_cmp (length x) (length y)) (slice_cmp nat_cmp (x ++ r) (y ++ s))
    (slice_cmp nat_cmp x y) (slice_cmp nat_cmp r s)
    (λ e. same_length x y r s (equal_numbers (length x) (length y) e))))

-- two fields, the one behind the other
pub pair_sorts : {A B : Type 0} (a : A → List ℕ) (a_fits : A → Type 0) (a_cmp : A → A → Ordering) →
    SortsAs a a_fits a_cmp → (b : B → List ℕ) (b_fits : B → Type 0) (b_cmp : B → B → Ordering) →
    SortsAs b b_fits b_cmp → SortsAs (λ (p : A × B). a p.0 ++ b p.1)
    (λ p. a_fits p.0 × b_fits p.1) (λ p q. ordering_then (a_cmp p.0 q.0) (b_cmp p.1 q.1))
pair_sorts a a_fits a_cmp first b b_fits b_cmp second p q r s fit fits =
    ap (λ (bytes : List ℕ). slice_cmp nat_cmp bytes ((a q.0 ++ b q.1) ++ s))
    (append_assoc (a p.0) (b p.1) r) ∙
    (ap (λ (bytes : List ℕ). slice_cmp nat_cmp (a p.0 ++ (b p.1 ++ r)) bytes)
    (append_assoc (a q.0) (b q.1) s) ∙
    (first p.0 q.0 (b p.1 ++ r) (b q.1 ++ s) fit.0 fits.0 ∙
    (ap (λ (o : Ordering). ordering_then (a_cmp p.0 q.0) o) (second p.1 q.1 r s fit.1 fits.1) ∙
    then_assoc (a_cmp p.0 q.0) (b_cmp p.1 q.1) (slice_cmp nat_cmp r s))))

-- a value of one field, alone
pub alone_sorts : {X : Type 0} (spelled : X → List ℕ) (fits : X → Type 0) (cmp : X → X → Ordering) →
    SortsAs spelled fits cmp → (x y : X) → fits x → fits y →
    slice_cmp nat_cmp (spelled x) (spelled y) ≡ cmp x y
alone_sorts spelled fits cmp sorts x y fit fits_too =
    ap (λ (bytes : List ℕ). slice_cmp nat_cmp bytes (spelled y)) (sym (append-nil (spelled x))) ∙
    (ap (λ (bytes : List ℕ). slice_cmp nat_cmp (spelled x ++ []) bytes)
    (sym (append-nil (spelled y))) ∙
    (sorts x y [] [] fit fits_too ∙ then_equal (cmp x y)))
