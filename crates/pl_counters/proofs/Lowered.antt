-- What is left once a node is added, or has ended.
use Rattle.std.proofs.Common.{◌≡◌, ◌<◌, ◌+◌, ◌-◌, ◌++◌, ◌==◌, ℕ, zero, suc, Bool, true, false, not}
use Rattle.std.proofs.Common.{List, [], ◌∷◌, length, map, get_or, set, cond, refl, sym, ap, ◌∙◌, arith}
use Rattle.std.proofs.Common.{drop, subst, take, ⊎_elim}
use Rattle.std.specs.List.{count_by, sum_by}
use Rattle.std.proofs.lemmas.Bool.{cases_eq, eq-eqb, ne_eqb}
use Rattle.std.proofs.lemmas.List.{ext_get_or, get_or-set_other, get_or-set_same, length-map, length-set, length_push}
use Rattle.std.proofs.lemmas.List.{map-append, take_at}
use Rattle.std.proofs.lemmas.List.Sums.{sum_by-cons}
use Rattle.pl_counters.specs.Counting.{AreCounted, has_ended, left_of, times}

-- ---- a node more

still : (ended : List Bool) (node : ℕ) → has_ended (ended ++ false ∷ []) node ≡ has_ended ended node
still [] zero = refl
still [] (suc node) = refl
still (is ∷ ended) zero = refl
still (is ∷ ended) (suc node) = still ended node

pub counted_more : (lists : List (List ℕ)) (left : List ℕ) (ended : List Bool) (waits : List ℕ) →
    left ≡ map (left_of ended) lists → left ++ left_of ended waits ∷ []
    ≡ map (left_of (ended ++ false ∷ [])) (lists ++ waits ∷ [])
counted_more lists left ended waits counted =
    ap (λ all. all ++ left_of ended waits ∷ []) counted
    ∙ (sym (map-append (left_of ended) lists (waits ∷ []))
    ∙ sym (λ i. map (λ list. count_by (λ node. not (still ended node i)) list)
    (lists ++ waits ∷ [])))

pub kept_more : (lists more : List (List ℕ)) (left lefts : List ℕ) (ended ends : List Bool)
    (waits : List ℕ) (count : ℕ) → AreCounted lists left ended → more ≡ lists ++ waits ∷ [] →
    lefts ≡ left ++ count ∷ [] → ends ≡ ended ++ false ∷ [] → count ≡ left_of ended waits →
    AreCounted more lefts ends
kept_more lists more left lefts ended ends waits count counted m l e is = record {
  as_many = ap length e ∙ length_push ended false ∙ ap (λ n. n + 1) counted.as_many
      ∙ sym (length_push lists waits) ∙ ap length (sym m);
  counted = l ∙ ap (λ n. left ++ n ∷ []) is
      ∙ counted_more lists left ended waits counted.counted
      ∙ sym (λ i. map (left_of (e i)) (m i));
}

-- ---- a node that has ended

get_or_map : {X Y : Type 0} (f : X → Y) (xs : List X) (i : ℕ) (d : Y) (e : X) → i < length xs →
    get_or (map f xs) i d ≡ f (get_or xs i e)
get_or_map f [] i d e within = absurd (omega arith)
get_or_map f (x ∷ xs) zero d e within = refl
get_or_map f (x ∷ xs) (suc i) d e within = get_or_map f xs i d e (omega arith)

-- one that ended counts no longer where it stands, and nowhere else
one_less : (ended : List Bool) (node : ℕ) → node < length ended → has_ended ended node ≡ false →
    (other : ℕ) → cond (not (has_ended (set ended node true) other)) 1 0
    + cond (other == node) 1 0 ≡ cond (not (has_ended ended other)) 1 0
one_less ended node within waits other = ⊎_elim here there (cases_eq other node)
  where
    Is : Type 0
    Is = cond (not (has_ended (set ended node true) other)) 1 0 + cond (other == node) 1 0
        ≡ cond (not (has_ended ended other)) 1 0

    here : other ≡ node → Is
    here same =
        let a : has_ended (set ended node true) other ≡ true =
        ap (has_ended (set ended node true)) same ∙ get_or-set_same ended node true false within in
        let b : (other == node) ≡ true = eq-eqb other node same in
        let c : has_ended ended other ≡ false = ap (has_ended ended) same ∙ waits in
        (λ i. cond (not (a i)) 1 0 + cond (b i) 1 0) ∙ sym (λ i. cond (not (c i)) 1 0)

    there : (other ≡ node → ⊥) → Is
    there apart =
        let a : has_ended (set ended node true) other ≡ has_ended ended other =
        get_or-set_other ended node other true false apart in
        let b : (other == node) ≡ false = ne_eqb other node apart in
        (λ i. cond (not (a i)) 1 0 + cond (b i) 1 0) ∙ omega arith

left_less : (ended : List Bool) (node : ℕ) → node < length ended → has_ended ended node ≡ false →
    (waits : List ℕ) → left_of (set ended node true) waits + times node waits ≡ left_of ended waits
left_less ended node within unended [] = refl
left_less ended node within unended (other ∷ waits) = omega (
  arith,
  sum_by-cons (λ n. cond (not (has_ended (set ended node true) n)) 1 0) other waits,
  sum_by-cons (λ n. cond (n == node) 1 0) other waits,
  sum_by-cons (λ n. cond (not (has_ended ended n)) 1 0) other waits,
  one_less ended node within unended other,
  left_less ended node within unended waits,
)

-- the counters are those of what is left then
pub counted_less : (lists : List (List ℕ)) (left new : List ℕ) (ended : List Bool) (node : ℕ) →
    node < length ended → has_ended ended node ≡ false → left ≡ map (left_of ended) lists →
    length new ≡ length left →
    ((at : ℕ) → at < length lists → get_or new at 0
    ≡ get_or left at 0 - times node (get_or lists at [])) →
    new ≡ map (left_of (set ended node true)) lists
counted_less lists left new ended node within unended counted long lowered =
    let many : length left ≡ length lists = ap length counted ∙ length-map lists (left_of ended) in
    ext_get_or 0 new (map (left_of (set ended node true)) lists)
    (long ∙ many ∙ sym (length-map lists (left_of (set ended node true))))
    (λ at below. let inside : at < length lists = omega (arith, long, many, below) in
    lowered at inside
    ∙ ap (λ all. get_or all at 0 - times node (get_or lists at [])) counted
    ∙ ap (λ n. n - times node (get_or lists at [])) (get_or_map (left_of ended) lists at 0 [] inside)
    ∙ omega (arith, left_less ended node within unended (get_or lists at []))
    ∙ sym (get_or_map (left_of (set ended node true)) lists at 0 [] inside))

pub kept_less : (lists seen : List (List ℕ)) (left lent new : List ℕ) (ended : List Bool)
    (node len : ℕ) → AreCounted lists left ended → node < length ended →
    has_ended ended node ≡ false → seen ≡ lists → lent ≡ left → length lent ≡ len →
    length new ≡ length lent → ((at : ℕ) → at < length seen → get_or new at 0
    ≡ get_or lent at 0 - times node (get_or seen at [])) →
    AreCounted lists (take len (new ++ drop (length new) left)) (set ended node true)
kept_less lists seen left lent new ended node len counted within unended is lends many long lowered =
    record {
      as_many = length-set ended node true ∙ counted.as_many;
      counted = take_at new (drop (length new) left) len (long ∙ many)
          ∙ counted_less lists left new ended node within unended counted.counted
          (long ∙ ap length lends)
          (λ at below. lowered at (subst (λ (l : List (List ℕ)). at < length l) (sym is) below)
          ∙ λ i. get_or (lends i) at 0 - times node (get_or (is i) at []));
    }
