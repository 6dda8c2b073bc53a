-- The keys of a mapping's pairs, by their numbers and as an ordered set.
use Rattle.std.proofs.Common.{◌≡◌, ℕ, zero, suc, ◌+◌, ◌<◌, ◌≤◌, Bool, true, false, ◌||◌, cond, List}
use Rattle.std.proofs.Common.{[], ◌∷◌, ◌++◌, length, take, get_or, Option, Some, None, refl, sym}
use Rattle.std.proofs.Common.{ap, ap₂, subst, ◌∙◌, arith}
use Rattle.std.specs.Prelude.{nat_eq, nat_lt, slice_get, is_some}
use Rattle.std.specs.Option.{option_map_or}
use Rattle.std.specs.Ordering.{nat_cmp}
use Rattle.std.specs.Cmp.Lexicographic.{slice_cmp, pointwise, texts_ties}
use Rattle.std.specs.BTreeSet.{BTreeSet, contains}
use Rattle.std.specs.BTreeMap.{BTreeMap, get, is_at}
use Rattle.std.specs.Cmp.{Equal-is, unsigned_ties}
use Rattle.pl_base.specs.declared.node.NodePair.{NodePair}
use Rattle.pl_line.specs.Trees.{has_key}
use Rattle.pl_line.specs.declared.keys.Keys.{Keys}
use Rattle.pl_line.specs.declared.keys.Keys.TheVariants.{Numbered}
use Rattle.pl_line.specs.Keys.{IsKept, IsNumbered, is_within, number_of, stands_at}
use Rattle.std.proofs.lemmas.List.Folds.{list_any-append}
use Rattle.std.proofs.lemmas.List.{length-append, length-take-le, take_more}
use Rattle.std.proofs.lemmas.Bool.{eqb-true, eq-eqb, ltb-true, lt-ltb, false≢true}
use Rattle.std.proofs.lemmas.Map.Text.{is_eq-slice_cmp}
use Rattle.std.proofs.lemmas.Map.Lookups.{exact_bytes}

either : (b c : Bool) → cond b true c ≡ (c || (b || false))
either true true = refl
either true false = refl
either false true = refl
either false false = refl

pub keys_more : (old new : BTreeSet (List ℕ)) (pairs : List NodePair) (pair : NodePair)
    (key : List ℕ)
    → contains (slice_cmp nat_cmp) new key ≡ cond (is_at (slice_cmp nat_cmp pair.key) key) true
    (contains (slice_cmp nat_cmp) old key)
    → contains (slice_cmp nat_cmp) old key ≡ has_key key pairs
    → contains (slice_cmp nat_cmp) new key ≡ has_key key (pairs ++ pair ∷ [])
keys_more old new pairs pair key updated same =
    updated
    ∙ ap₂ (λ b c. cond b true c) (sym (texts_ties pair.key key)) same
    ∙ either (pointwise nat_eq pair.key key) (has_key key pairs)
    ∙ sym (list_any-append (λ p. pointwise nat_eq p.key key) pairs (pair ∷ []))

pub keys_next :
    (old new : BTreeSet (List ℕ)) (pairs : List NodePair) (i : ℕ) (none : NodePair) (key : List ℕ) →
    i < length pairs
    → contains (slice_cmp nat_cmp) new key ≡
    cond (is_at (slice_cmp nat_cmp (get_or pairs i none).key) key) true
    (contains (slice_cmp nat_cmp) old key)
    → contains (slice_cmp nat_cmp) old key ≡ has_key key (take i pairs)
    → contains (slice_cmp nat_cmp) new key ≡ has_key key (take (i + 1) pairs)
keys_next old new pairs i none key within updated same =
    keys_more old new (take i pairs) (get_or pairs i none) key updated same ∙
    ap (has_key key) (sym (take_more pairs i none within))

seam :
    (pairs : List NodePair) (pair : NodePair) →
    slice_get (pairs ++ pair ∷ []) (length pairs) ≡ Some pair
seam [] pair = refl
seam (first ∷ pairs) pair = seam pairs pair

before :
    (pairs : List NodePair) (pair : NodePair) (at : ℕ) → at < length pairs →
    slice_get (pairs ++ pair ∷ []) at ≡ slice_get pairs at
before [] pair at within = absurd (omega (arith, within))
before (first ∷ pairs) pair zero within = refl
before (first ∷ pairs) pair (suc at) within = before pairs pair at (omega (arith, within))

or_none : (b : Bool) → b ≡ (b || (false || false))
or_none true = refl
or_none false = refl

none_or : (b : Bool) → b ≡ (false || (b || false))
none_or true = refl
none_or false = refl

-- a key is found among the pairs and one more, where the numbers are the same or not
found_more : (same : Bool) (place : Option ℕ) (pairs : List NodePair) (pair : NodePair)
    (key : List ℕ)
    → (same ≡ true → place ≡ None) → (same ≡ false → pointwise nat_eq pair.key key ≡ false) →
    is_within (length pairs) place ≡ true → stands_at pairs key place ≡ has_key key pairs
    → stands_at (pairs ++ pair ∷ []) key (cond same (Some (length pairs)) place) ≡
    (has_key key pairs || (pointwise nat_eq pair.key key || false))
found_more true place pairs pair key none other within found =
    ap (λ p. option_map_or (λ q. pointwise nat_eq q.key key) p false) (seam pairs pair)
    ∙ none_or (pointwise nat_eq pair.key key)
    ∙ ap (λ b. b || (pointwise nat_eq pair.key key || false))
    (sym (ap (stands_at pairs key) (none refl)) ∙ found)
found_more false None pairs pair key none other within found =
    or_none false ∙ ap₂ (λ b c. b || (c || false)) found (sym (other refl))
found_more false (Some at) pairs pair key none other within found =
    ap (λ p. option_map_or (λ q. pointwise nat_eq q.key key) p false)
    (before pairs pair at (ltb-true at (length pairs) within))
    ∙ or_none (stands_at pairs key (Some at))
    ∙ ap₂ (λ b c. b || (c || false)) found (sym (other refl))

within_more :
    (same : Bool) (place : Option ℕ) (len : ℕ) → is_within len place ≡ true →
    is_within (len + 1) (cond same (Some len) place) ≡ true
within_more true place len within = lt-ltb len (len + 1) (omega arith)
within_more false None len within = refl
within_more false (Some at) len within = let less : at < len = ltb-true at len within in
    lt-ltb at (len + 1) (omega (arith, less))

none_of : (place : Option ℕ) → is_some place ≡ false → place ≡ None
none_of None none = refl
none_of (Some at) none = absurd (false≢true (sym none))

same_number : (a b : ℕ) → is_at (nat_cmp a) b ≡ true → a ≡ b
same_number a b same = eqb-true a b (unsigned_ties a b ∙ same)

-- equal keys have the same number
other_number :
    (a b : List ℕ) (same : Bool) → pointwise nat_eq a b ≡ same →
    is_at (nat_cmp (number_of a)) (number_of b) ≡ false → same ≡ false
other_number a b true same other =
    let is : a ≡ b = exact_bytes a b ((Equal-is (slice_cmp nat_cmp a b)).0 (sym (texts_ties a b) ∙
    same)) in
    sym (sym (unsigned_ties (number_of a) (number_of b)) ∙ eq-eqb (number_of a) (number_of b)
    (ap number_of is)) ∙ other
other_number a b false same other = refl

pub numbered_more : (old new : BTreeMap ℕ ℕ) (pairs : List NodePair) (pair : NodePair)
    (none : is_some (get nat_cmp old (number_of pair.key)) ≡ false)
    → ((n : ℕ) → get nat_cmp new n ≡ cond (is_at (nat_cmp (number_of pair.key)) n)
    (Some (length pairs)) (get nat_cmp old n))
    → IsNumbered old pairs → IsNumbered new (pairs ++ pair ∷ [])
numbered_more old new pairs pair none updated numbered = (
  λ key.
      ap (stands_at (pairs ++ pair ∷ []) key) (updated (number_of key))
      ∙ found_more (is_at (nat_cmp (number_of pair.key)) (number_of key))
      (get nat_cmp old (number_of key)) pairs pair key
      (λ same. subst (λ n. get nat_cmp old n ≡ None)
      (same_number (number_of pair.key) (number_of key) same)
      (none_of (get nat_cmp old (number_of pair.key)) none))
      (λ other. other_number pair.key key (pointwise nat_eq pair.key key) refl other)
      (numbered.1 (number_of key)) (numbered.0 key)
      ∙ sym (list_any-append (λ p. pointwise nat_eq p.key key) pairs (pair ∷ [])),
  λ n.
      ap₂ is_within (length-append pairs (pair ∷ [])) (updated n)
      ∙ within_more (is_at (nat_cmp (number_of pair.key)) n) (get nat_cmp old n) (length pairs)
      (numbered.1 n),
)

pub placed_more :
    (old new : BTreeMap ℕ ℕ) (pairs : List NodePair) (key : List ℕ) (number : ℕ)
    (place : Option ℕ) →
    number ≡ number_of key → place ≡ get nat_cmp old number → false ≡ is_some place
    → ((n : ℕ) → get nat_cmp new n ≡ cond (is_at (nat_cmp number) n) (Some (length pairs))
    (get nat_cmp old n))
    → IsNumbered old pairs → (pair : NodePair) → pair.key ≡ key →
    IsKept (Numbered new) (pairs ++ pair ∷ [])
placed_more old new pairs key number place is place_is none updated numbered pair same =
    let number_is : number ≡ number_of pair.key = is ∙ sym (ap number_of same) in
    let new_number : is_some (get nat_cmp old (number_of pair.key)) ≡ false =
    sym (ap is_some (place_is ∙ ap (get nat_cmp old) number_is)) ∙ sym none in
    numbered_more old new pairs pair new_number (λ n. updated n ∙
    ap (λ m. cond (is_at (nat_cmp m) n) (Some (length pairs)) (get nat_cmp old n)) number_is)
    numbered

pub numbered_turn :
    (old new : BTreeMap ℕ ℕ) (pairs : List NodePair) (i at number : ℕ) (first : NodePair)
    (place : Option ℕ) →
    i < length pairs → first ≡ get_or pairs i first
    → at ≡ i → number ≡ number_of first.key → place ≡ get nat_cmp old number → false ≡ is_some place
    → ((n : ℕ) → get nat_cmp new n ≡ cond (is_at (nat_cmp number) n) (Some at) (get nat_cmp old n))
    → IsNumbered old (take i pairs)
    → (at + 1 ≡ i + 1) × IsNumbered new (take (i + 1) pairs)
numbered_turn old new pairs i at number first place within stands at_is number_is place_is none
    updated numbered =
    let len : length (take i pairs) ≡ i = length-take-le i pairs (omega (arith, within)) in
    let new_number : is_some (get nat_cmp old (number_of first.key)) ≡ false =
    sym (ap is_some (place_is ∙ ap (get nat_cmp old) number_is)) ∙ sym none in (
      ap (λ n. n + 1) at_is,
      subst (IsNumbered new) (ap (λ p. take i pairs ++ p ∷ []) stands ∙
          sym (take_more pairs i first within))
          (numbered_more old new (take i pairs) first new_number
          (λ n. updated n ∙ ap₂ (λ m l. cond (is_at (nat_cmp m) n) (Some l) (get nat_cmp old n))
          number_is (at_is ∙ sym len)) numbered),
    )

pub kept_behind :
    (keys : Keys) (before seen after : List NodePair) (pair : NodePair) → seen ≡ before →
    after ≡ before ++ pair ∷ [] → IsKept keys (seen ++ pair ∷ []) → IsKept keys after
kept_behind keys before seen after pair same pushed kept =
    subst (IsKept keys) (ap (λ ps. ps ++ pair ∷ []) same ∙ sym pushed) kept
