-- Numbers in order, each once.
use Rattle.std.proofs.Common.{◌≡◌, ℕ, zero, suc, ◌+◌, ◌<◌, ◌≤◌, ◌==◌, ◌||◌, Bool, true, false, not}
use Rattle.std.proofs.Common.{◌⊎◌, inl, inr}
use Rattle.std.proofs.Common.{List, [], ◌∷◌, ◌++◌, length, get_or, take, drop, filter, insert, refl}
use Rattle.std.proofs.Common.{sym}
use Rattle.std.proofs.Common.{ap, ◌∙◌, subst, arith, cond, Result, Ok, Err}
use Rattle.std.proofs.Common.{MatchResult, ⊎_elim}
use Rattle.std.specs.BTreeSet.{insert_key}
use Rattle.std.specs.Cmp.{nat_cmp_is, nat_cmp_total}
use Rattle.std.specs.FinMap.{nat_cmp-IsAntisymmetric}
use Rattle.std.specs.List.{AllPairs, list_any}
use Rattle.std.specs.List.Sorted.{IsBinarySearchResult}
use Rattle.std.specs.Ordering.{match_ordering, nat_cmp}
use Rattle.std.specs.declared.cmp.Ordering.{Ordering}
use Rattle.std.specs.declared.cmp.Ordering.TheVariants.{Less, Equal, Greater}
use Rattle.std.proofs.lemmas.Bool.{cases_eq, true≢false}
use Rattle.std.proofs.lemmas.List.Kept.{AllPairs-filter}
use Rattle.std.proofs.lemmas.List.Sorted.{searched}
use Rattle.std.proofs.lemmas.Map.Views.{exact_unsigned_eq}
use Rattle.pl_open_runs.specs.Index.{Ascends, has}
use Rattle.pl_open_runs.specs.Open.{in_order}
use Rattle.pl_facts.specs.Below.pl_plan.proofs.Ascending.{Ascending, ascend_put, pairs_ascend}
use Rattle.pl_facts.specs.Below.pl_plan.proofs.Members.{Among, ascending, among_itself, among_stays}
use Rattle.pl_facts.specs.Below.pl_plan.proofs.Members.{one_list}

abbrev pub InOrder : List ℕ → Type 0
InOrder = Ascending nat_cmp nat_cmp_total

less : (a b : ℕ) → a < b → nat_cmp a b ≡ Less
less a b lt = sym (nat_cmp_is a b Less lt)

greater : (a b : ℕ) → b < a → nat_cmp a b ≡ Greater
greater a b lt = sym (nat_cmp_is a b Greater lt)

same : (a b : ℕ) → a ≡ b → nat_cmp a b ≡ Equal
same a b e = sym (nat_cmp_is a b Equal e)

below : (a b : ℕ) → nat_cmp a b ≡ Less → a < b
below a b h = grind arith

same_number : (a b : ℕ) → a ≡ b → (a == b) ≡ true
same_number a b e = grind arith

pub in_order_of : (xs : List ℕ) → Ascends xs → InOrder xs
in_order_of xs up = ascending nat_cmp nat_cmp_total xs
    (λ i j d lt within. less _ _ (up i j d lt within))

pub ascends_of : (xs : List ℕ) → InOrder xs → Ascends xs
ascends_of xs up = λ i j d lt within.
    below _ _ (pairs_ascend nat_cmp nat_cmp_total xs up i j d lt within)

-- ---- members

among_by : (x r : ℕ) (xs : List ℕ) (b : Bool) → (x == r) ≡ b → (b || has xs r) ≡ true →
    (has xs r ≡ true → Among xs r) → Among (x ∷ xs) r
among_by x r xs true is h later = inl (exact_unsigned_eq x r is)
among_by x r xs false is h later = inr (later h)

pub among_of : (xs : List ℕ) (r : ℕ) → has xs r ≡ true → Among xs r
among_of [] r h = absurd (true≢false (sym h))
among_of (x ∷ xs) r h = among_by x r xs (x == r) refl h (among_of xs r)

or_true : (b : Bool) → (b || true) ≡ true
or_true true = refl
or_true false = refl

pub has_of : (xs : List ℕ) (r : ℕ) → Among xs r → has xs r ≡ true
has_of [] r h = absurd h
has_of (x ∷ xs) r (inl e) = ap (λ b. b || has xs r) (same_number x r e)
has_of (x ∷ xs) r (inr h) = ap (λ b. (x == r) || b) (has_of xs r h) ∙ or_true (x == r)

filter_by : (p : ℕ → Bool) (x r : ℕ) (xs : List ℕ) (b : Bool) → p x ≡ b →
    (Among (filter p xs) r → (p r ≡ true) × Among xs r) →
    Among (cond b (x ∷ filter p xs) (filter p xs)) r → (p r ≡ true) × Among (x ∷ xs) r
filter_by p x r xs true is later (inl e) = (sym (ap p e) ∙ is, inl e)
filter_by p x r xs true is later (inr h) = ((later h).0, inr (later h).1)
filter_by p x r xs false is later h = ((later h).0, inr (later h).1)

pub among_filter : (p : ℕ → Bool) (xs : List ℕ) (r : ℕ) → Among (filter p xs) r →
    (p r ≡ true) × Among xs r
among_filter p [] r h = absurd h
among_filter p (x ∷ xs) r h = filter_by p x r xs (p x) refl (among_filter p xs r) h

kept_by : (p : ℕ → Bool) (x r : ℕ) (xs : List ℕ) (b : Bool) → p x ≡ b → p r ≡ true →
    (Among xs r → Among (filter p xs) r) → Among (x ∷ xs) r →
    Among (cond b (x ∷ filter p xs) (filter p xs)) r
kept_by p x r xs true is passes later (inl e) = inl e
kept_by p x r xs true is passes later (inr h) = inr (later h)
kept_by p x r xs false is passes later (inl e) =
    absurd (true≢false (sym passes ∙ sym (ap p e) ∙ is))
kept_by p x r xs false is passes later (inr h) = later h

pub among_kept : (p : ℕ → Bool) (xs : List ℕ) (r : ℕ) → p r ≡ true → Among xs r →
    Among (filter p xs) r
among_kept p [] r passes h = absurd h
among_kept p (x ∷ xs) r passes h =
    kept_by p x r xs (p x) refl passes (among_kept p xs r passes) h

pub in_order_filter : (p : ℕ → Bool) (xs : List ℕ) → InOrder xs → InOrder (filter p xs)
in_order_filter p xs up = ascending nat_cmp nat_cmp_total (filter p xs)
    (AllPairs-filter (λ one later. nat_cmp one later ≡ Less) p xs
    (pairs_ascend nat_cmp nat_cmp_total xs up))

-- ---- one more

put_by : (k x r : ℕ) (xs : List ℕ) (o : Ordering) →
    (Among (insert_key nat_cmp xs k) r → (k ≡ r) ⊎ Among xs r) →
    Among (match_ordering o (k ∷ x ∷ xs) (x ∷ xs) (x ∷ insert_key nat_cmp xs k)) r →
    (k ≡ r) ⊎ Among (x ∷ xs) r
put_by k x r xs Less later h = h
put_by k x r xs Equal later h = inr h
put_by k x r xs Greater later (inl e) = inr (inl e)
put_by k x r xs Greater later (inr h) = behind_first (later h)
  where
    behind_first : (k ≡ r) ⊎ Among xs r → (k ≡ r) ⊎ Among (x ∷ xs) r
    behind_first (inl e) = inl e
    behind_first (inr g) = inr (inr g)

pub among_put : (xs : List ℕ) (k r : ℕ) → Among (insert_key nat_cmp xs k) r → (k ≡ r) ⊎ Among xs r
among_put [] k r (inl e) = inl e
among_put [] k r (inr h) = absurd h
among_put (x ∷ xs) k r h = put_by k x r xs (nat_cmp k x) (among_put xs k r) h

pub in_order_put : (xs : List ℕ) (k : ℕ) → InOrder xs → InOrder (insert_key nat_cmp xs k)
in_order_put = ascend_put nat_cmp nat_cmp_total

pub in_order_all : (ns : List ℕ) → InOrder (in_order ns)
in_order_all [] = tt
in_order_all (n ∷ ns) = in_order_put (in_order ns) n (in_order_all ns)

pub among_all : (ns : List ℕ) (r : ℕ) → Among ns r → Among (in_order ns) r
among_all [] r h = absurd h
among_all (n ∷ ns) r (inl e) = subst (Among (insert_key nat_cmp (in_order ns) n)) e
    (among_itself nat_cmp nat_cmp-IsAntisymmetric (in_order ns) n)
among_all (n ∷ ns) r (inr h) =
    among_stays nat_cmp nat_cmp-IsAntisymmetric (in_order ns) n r (among_all ns r h)

-- ---- where one more is put

insert_by : (x k : ℕ) (xs : List ℕ) (r : Ordering) → nat_cmp k x ≡ r →
    insert_key nat_cmp (x ∷ xs) k ≡
    match_ordering r (k ∷ x ∷ xs) (x ∷ xs) (x ∷ insert_key nat_cmp xs k)
insert_by x k xs r is = ap (λ o. match_ordering o (k ∷ x ∷ xs) (x ∷ xs)
    (x ∷ insert_key nat_cmp xs k)) is

pub put_at : (xs : List ℕ) (k i : ℕ) → i ≤ length xs →
    ((j : ℕ) → j < i → get_or xs j 0 < k) →
    ((j : ℕ) → i ≤ j → j < length xs → k < get_or xs j 0) →
    insert xs i k ≡ insert_key nat_cmp xs k
put_at [] k zero within low high = refl
put_at [] k (suc i) within low high = absurd (omega arith)
put_at (x ∷ xs) k zero within low high =
    sym (insert_by x k xs Less (less k x (high 0 (omega arith) (omega arith))))
put_at (x ∷ xs) k (suc i) within low high =
    ap (λ l. x ∷ l) (put_at xs k i (omega arith) (λ j lt. low (suc j) (omega arith))
    (λ j le lt. high (suc j) (omega arith) (omega arith)))
    ∙ sym (insert_by x k xs Greater (greater k x (low 0 (omega arith))))

pub put_there : (xs : List ℕ) (k i : ℕ) → InOrder xs → i < length xs → get_or xs i 0 ≡ k →
    insert_key nat_cmp xs k ≡ xs
put_there [] k i up within is = absurd (omega arith)
put_there (x ∷ xs) k zero up within is = insert_by x k xs Equal (same k x (sym is))
put_there (x ∷ xs) k (suc i) up within is =
    let under : x < k = subst (λ n. x < n) is (ascends_of (x ∷ xs) up 0 (suc i) 0 (omega arith)
    (omega arith)) in
    insert_by x k xs Greater (greater k x under)
    ∙ ap (λ l. x ∷ l) (put_there xs k i up.1 (omega arith) is)

rises : (xs : List ℕ) → Ascends xs → (i j : ℕ) → i ≤ j → j < length xs →
    get_or xs i 0 ≤ get_or xs j 0
rises xs up i j le within = ⊎_elim
    (λ e. omega (arith, ap (λ n. get_or xs n 0) e))
    (λ apart. omega (arith, up i j 0 (omega arith) within))
    (cases_eq i j)

-- what a search tells of the place of a number
pub put_found : (xs : List ℕ) (k : ℕ) (r : Result ℕ ℕ) → Ascends xs →
    IsBinarySearchResult (λ y. nat_cmp y k) xs r →
    MatchResult r (λ i. insert_key nat_cmp xs k ≡ xs)
    (λ i. (i ≤ length xs) × (insert xs i k ≡ insert_key nat_cmp xs k))
put_found xs k (Ok i) up h =
    let found = searched xs k (Ok i) h (rises xs up) in
    put_there xs k i (in_order_of xs up) found.0 found.1
put_found xs k (Err i) up h =
    let absent = searched xs k (Err i) h (rises xs up) in
    (absent.0, put_at xs k i absent.0 absent.1 absent.2)
