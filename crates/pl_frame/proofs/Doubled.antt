-- The first pair whose key stands before it.
use Rattle.std.proofs.Common.{◌≡◌, ℕ, ◌+◌, ◌<◌, ◌≤◌, Bool, true, false, ◌||◌, cond, Option, Some}
use Rattle.std.proofs.Common.{None, List, [], ◌∷◌, ◌++◌, length, take, drop, map, get_or, refl, sym}
use Rattle.std.proofs.Common.{ap, ap₂, ◌∙◌}
use Rattle.std.specs.Prelude.{nat_eq}
use Rattle.std.specs.List.{list_any}
use Rattle.std.specs.Ordering.{nat_cmp}
use Rattle.std.specs.Cmp.Lexicographic.{slice_cmp, pointwise, texts_ties}
use Rattle.std.specs.BTreeSet.{BTreeSet, contains}
use Rattle.std.specs.BTreeMap.{is_at}
use Rattle.std.proofs.lemmas.List.{take_more, at_drop_more, at_drop_all}
use Rattle.std.proofs.lemmas.List.Folds.{list_any-append}
use Rattle.pl_base.specs.declared.value.MarkedPair.{MarkedPair}
use Rattle.pl_base.specs.Texts.{is}
use Rattle.pl_frame.specs.Doubles.{double_in}
use Rattle.pl_frame.proofs.Named.{pointwise_swap}

abbrev pub keys_of : List MarkedPair → List (List ℕ)
keys_of pairs = map (λ pair. pair.key) pairs

keys_last : (pairs : List MarkedPair) (pair : MarkedPair) →
    keys_of (pairs ++ pair ∷ []) ≡ keys_of pairs ++ pair.key ∷ []
keys_last [] pair = refl
keys_last (first ∷ pairs) pair = ap (λ keys. first.key ∷ keys) (keys_last pairs pair)

keys_next : (pairs : List MarkedPair) (at : ℕ) (pair : MarkedPair) → at < length pairs →
    pair ≡ get_or pairs at pair →
    keys_of (take at pairs) ++ pair.key ∷ [] ≡ keys_of (take (at + 1) pairs)
keys_next pairs at pair within is =
    sym (ap keys_of (take_more pairs at pair within
    ∙ ap (λ last. take at pairs ++ last ∷ []) (sym is)) ∙ keys_last (take at pairs) pair)

any_key : (key : List ℕ) (pairs : List MarkedPair) →
    list_any (λ pair. is key pair.key) pairs ≡ list_any (is key) (keys_of pairs)
any_key key [] = refl
any_key key (pair ∷ pairs) = ap (λ later. is key pair.key || later) (any_key key pairs)

-- what a turn of the search tests
pub tested : (key : List ℕ) (before pairs : List MarkedPair) (test : Bool) → before ≡ pairs →
    test ≡ list_any (λ pair. is key pair.key) before → list_any (is key) (keys_of pairs) ≡ test
tested key before pairs test before_is test_is =
    sym (test_is ∙ (ap (list_any (λ pair. is key pair.key)) before_is ∙ any_key key pairs))

turn : (pairs : List MarkedPair) (at : ℕ) (pair : MarkedPair) (keys : List (List ℕ)) →
    at < length pairs → pair ≡ get_or pairs at pair →
    double_in keys (drop at pairs) ≡ double_in keys (pair ∷ drop (at + 1) pairs)
turn pairs at pair keys within is =
    at_drop_more (double_in keys) pairs at pair within
    ∙ ap (λ first. double_in keys (first ∷ drop (at + 1) pairs)) (sym is)

pub double_here : (pairs : List MarkedPair) (at : ℕ) (pair : MarkedPair)
    (whole : Option MarkedPair) → at < length pairs → pair ≡ get_or pairs at pair →
    list_any (is pair.key) (keys_of (take at pairs)) ≡ true →
    whole ≡ double_in (keys_of (take at pairs)) (drop at pairs) → Some pair ≡ whole
double_here pairs at pair whole within is there whole_is =
    sym (whole_is ∙ (turn pairs at pair (keys_of (take at pairs)) within is ∙ rw there refl))

pub double_later : (pairs : List MarkedPair) (at : ℕ) (pair : MarkedPair)
    (whole : Option MarkedPair) → at < length pairs → pair ≡ get_or pairs at pair →
    list_any (is pair.key) (keys_of (take at pairs)) ≡ false →
    whole ≡ double_in (keys_of (take at pairs)) (drop at pairs) →
    whole ≡ double_in (keys_of (take (at + 1) pairs)) (drop (at + 1) pairs)
double_later pairs at pair whole within is new whole_is =
    whole_is ∙ (turn pairs at pair (keys_of (take at pairs)) within is
    ∙ (rw new refl ∙ ap (λ keys. double_in keys (drop (at + 1) pairs))
    (keys_next pairs at pair within is)))

pub no_double : (pairs : List MarkedPair) (at : ℕ) (keys : List (List ℕ))
    (whole : Option MarkedPair) → length pairs ≤ at → whole ≡ double_in keys (drop at pairs) →
    None ≡ whole
no_double pairs at keys whole ended whole_is =
    sym (whole_is ∙ at_drop_all (double_in keys) pairs at ended)

-- ---- the set of keys

either : (b c : Bool) → cond b true c ≡ (c || (b || false))
either true true = refl
either true false = refl
either false true = refl
either false false = refl

pub keys_more : (old new : BTreeSet (List ℕ)) (pairs : List MarkedPair) (at : ℕ) (pair : MarkedPair)
    (copy key : List ℕ) → at < length pairs → pair ≡ get_or pairs at pair → copy ≡ pair.key →
    contains (slice_cmp nat_cmp) new key ≡ cond (is_at (slice_cmp nat_cmp copy) key) true
    (contains (slice_cmp nat_cmp) old key) →
    contains (slice_cmp nat_cmp) old key ≡ list_any (is key) (keys_of (take at pairs)) →
    contains (slice_cmp nat_cmp) new key ≡ list_any (is key) (keys_of (take (at + 1) pairs))
keys_more old new pairs at pair copy key within item copied updated same =
    updated
    ∙ ap₂ (λ b c. cond b true c) (sym (texts_ties copy key) ∙ pointwise_swap copy key) same
    ∙ either (pointwise nat_eq key copy) (list_any (is key) (keys_of (take at pairs)))
    ∙ sym (list_any-append (λ other. pointwise nat_eq key other) (keys_of (take at pairs))
    (copy ∷ []))
    ∙ ap (λ last. list_any (λ other. pointwise nat_eq key other)
    (keys_of (take at pairs) ++ last ∷ [])) copied
    ∙ ap (list_any (λ other. pointwise nat_eq key other)) (keys_next pairs at pair within item)
