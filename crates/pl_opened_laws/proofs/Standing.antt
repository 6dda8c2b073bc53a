-- Rows in order of which none is torn: each comes before those behind it.
use Rattle.std.proofs.Common.{◌≡◌, ◌⊎◌, ℕ, zero, suc, ◌+◌, ◌-◌, ◌<◌, ◌≤◌, Bool, true, false, cond}
use Rattle.std.proofs.Common.{true≢false, ◌||◌, List, [], ◌∷◌, ◌++◌, length, get_or, Option, Some, None}
use Rattle.std.proofs.Common.{refl, sym, ap, subst, ◌∙◌, inl, inr, arith}
use Rattle.std.specs.List.{find, AllByRecursion}
use Rattle.std.specs.List.Sorted.{IsSortedBy}
use Rattle.std.specs.Option.{option_map, option_map_or}
use Rattle.std.specs.Ordering.{is_eq, is_lt, ordering_reverse}
use Rattle.std.specs.Prelude.{slice_get}
use Rattle.std.specs.declared.cmp.Ordering.{Ordering}
use Rattle.std.specs.declared.cmp.Ordering.TheVariants.{Less, Equal, Greater}
use Rattle.std.proofs.lemmas.List.{length-append}
use Rattle.pl_base.specs.declared.digest.Digest.{Digest}
use Rattle.pl_base.specs.declared.row.Row.{Row}
use Rattle.pl_changes.specs.Differing.{row_in, stands_at, Ascend}
use Rattle.pl_changes.proofs.Places.{is_less, itself, places_total, same_place, then_not, Place}
use Rattle.pl_keeper.specs.Keeping.{comes_before as row_before, place, place_cmp}
use Rattle.pl_seeing.specs.Seeing.{AreSeen}
use Rattle.pl_torn.specs.Seen.{comes_before, seen_at, AreInOrder}
use Rattle.pl_torn.specs.Torn.{is_bad, is_bad_record, is_second, lacks_numbers, torn, torn_from}
use Rattle.pl_torn.specs.declared.seen.Seen.{Seen}
use Rattle.pl_opened_laws.proofs.Good.{neither}
use Rattle.pl_opened_laws.proofs.Lists.{each_in, never_some, some_is, In}

abbrev pub AscendSeen : List Seen → Type 0
AscendSeen [] = Unit {0}
AscendSeen (one ∷ all) =
    AllByRecursion (λ later. comes_before one later ≡ true) all × AscendSeen all

-- ---- each comes before the next

abbrev Steps : Seen → List Seen → Type 0
Steps last [] = Unit {0}
Steps last (one ∷ later) = (comes_before last one ≡ true) × Steps one later

pub through : (a b c : Seen) → comes_before a b ≡ true → comes_before b c ≡ true →
    comes_before a c ≡ true
through a b c x y = ap is_lt (places_total.trans (place a.row.now) (place b.row.now)
    (place c.row.now) (is_less (place_cmp (place a.row.now) (place b.row.now)) x)
    (is_less (place_cmp (place b.row.now) (place c.row.now)) y))

behind : (front last : Seen) (later : List Seen) → comes_before front last ≡ true →
    Steps last later → AllByRecursion (λ one. comes_before front one ≡ true) later
behind front last [] less steps = tt
behind front last (one ∷ later) less steps =
    let next : comes_before front one ≡ true = through front last one less steps.0 in
    (next, behind front one later next steps.1)

ascending : (last : Seen) (later : List Seen) → Steps last later → AscendSeen (last ∷ later)
ascending last [] steps = (tt, tt)
ascending last (one ∷ later) steps =
    ((steps.0, behind last one later steps.0 steps.1), ascending one later steps.1)

less_of : (o : Ordering) → is_eq o ≡ false → is_lt (ordering_reverse o) ≡ false → is_lt o ≡ true
less_of Less same turned = refl
less_of Equal same turned = absurd (true≢false same)
less_of Greater same turned = absurd (true≢false turned)

-- the last of a list
last_there : (front : List Seen) (last : Seen) →
    slice_get (front ++ last ∷ []) (length front) ≡ Some last
last_there [] last = refl
last_there (one ∷ front) last = last_there front last

last_place : (front : List Seen) (last : Seen) →
    length (front ++ last ∷ []) - 1 ≡ length front
last_place front last = omega (arith, length-append front (last ∷ []))

parted : {X : Type 0} (b : Bool) (x : X) (rest : Option X) → cond b (Some x) rest ≡ None →
    (b ≡ false) × (rest ≡ None)
parted true x rest e = absurd (never_some x e)
parted false x rest e = (refl, e)

tail_order : (last : Seen) (later : List Seen) → AreInOrder (last ∷ later) → AreInOrder later
tail_order last later order k d low high =
    (λ i. comes_before (get_or (last ∷ later) (step i) d) (get_or later k d)) ∙
    order (suc k) d (omega arith) (omega (arith, high)) where
      step : suc (k + 1) ≡ suc k + 1
      step = omega arith

head_order : (last one : Seen) (later : List Seen) → AreInOrder (last ∷ one ∷ later) →
    comes_before one last ≡ false
head_order last one later order = order 0 last (omega arith) (omega arith)

module _ (admin : Digest) (all : List Seen) where
  not_second : (front : List Seen) (last one : Seen) →
      is_bad admin all (front ++ last ∷ []) one ≡ false →
      is_eq (place_cmp (place last.row.now) (place one.row.now)) ≡ false
  not_second front last one good =
      let before : List Seen = front ++ last ∷ [] in
      let rest = neither (lacks_numbers before one) (is_second before one || option_map_or
      (is_bad_record admin all before one.compiled) one.kept true) good in
      let second : is_second before one ≡ false = (neither (is_second before one) (option_map_or
      (is_bad_record admin all before one.compiled) one.kept true) rest.1).0 in
      let there : slice_get before (length before - 1) ≡ Some last =
      ap (λ (k : ℕ). slice_get before k) (last_place front last) ∙ last_there front last in
      ap (λ (o : Option Seen). option_map_or
      (λ (other : Seen). stands_at (place one.row.now) other.row.now) o false) (sym there) ∙ second

  steps : (front : List Seen) (last : Seen) (later : List Seen) →
      torn_from admin all (front ++ last ∷ []) later ≡ None → AreInOrder (last ∷ later) →
      Steps last later
  steps front last [] none order = tt
  steps front last (one ∷ later) none order =
      let before : List Seen = front ++ last ∷ [] in
      let parts = parted (is_bad admin all before one) one
      (torn_from admin all (before ++ one ∷ []) later) none in
      let less : comes_before last one ≡ true =
      less_of (place_cmp (place last.row.now) (place one.row.now))
      (not_second front last one parts.0)
      (ap is_lt (sym (places_total.antisymm (place one.row.now) (place last.row.now))) ∙
      head_order last one later order) in
      (less, steps before one later parts.1 (tail_order last (one ∷ later) order))

pub all_ascend : (admin : Digest) (all : List Seen) → AreInOrder all → torn admin all ≡ None →
    AscendSeen all
all_ascend admin [] order none = tt
all_ascend admin (one ∷ all) order none = ascending one all
    (steps admin (one ∷ all) [] one all (parted (is_bad admin (one ∷ all) [] one) one
    (torn_from admin (one ∷ all) (one ∷ []) all) none).1 order)

-- ---- what stands at a place

module _ {X : Type 0} (test : X → Bool) where
  finds_by : (a : X) (xs : List X) (x : X) (b : Bool) → test a ≡ b →
      cond b (Some a) (find test xs) ≡ Some x → (find test xs ≡ Some x →
      In x xs × (test x ≡ true)) → In x (a ∷ xs) × (test x ≡ true)
  finds_by a xs x true t e rest =
      let same : a ≡ x = some_is a x e in
      (inl same, subst (λ (z : X). test z ≡ true) same t)
  finds_by a xs x false t e rest = let found = rest e in (inr found.0, found.1)

  pub find_in : (xs : List X) (x : X) → find test xs ≡ Some x → In x xs × (test x ≡ true)
  find_in [] x e = absurd (never_some x (sym e))
  find_in (a ∷ xs) x e = finds_by a xs x (test a) refl e (λ later. find_in xs x later)

  lacks_by : (a : X) (xs : List X) (x : X) (b : Bool) → test a ≡ b → In x (a ∷ xs) →
      test x ≡ true → cond b (Some a) (find test xs) ≡ None →
      (In x xs → find test xs ≡ None → ⊥) → ⊥
  lacks_by a xs x true t is passes e rest = never_some a e
  lacks_by a xs x false t (inl same) passes e rest =
      true≢false (sym passes ∙ (ap test (sym same) ∙ t))
  lacks_by a xs x false t (inr later) passes e rest = rest later e

  pub find_lacks : (xs : List X) (x : X) → In x xs → test x ≡ true → find test xs ≡ None → ⊥
  find_lacks [] x is passes e = is
  find_lacks (a ∷ xs) x is passes e =
      lacks_by a xs x (test a) refl is passes e (λ later none. find_lacks xs x later passes none)

pub never_before : (a b : Seen) → place a.row.now ≡ place b.row.now → comes_before a b ≡ true → ⊥
never_before a b same less =
    let before : is_lt (place_cmp (place a.row.now) (place a.row.now)) ≡ true =
    ap (λ (p : Place). is_lt (place_cmp (place a.row.now) p)) same ∙ less in
    true≢false (sym (itself (place a.row.now)) ∙
    then_not (place a.row.now) (place a.row.now)
    (is_less (place_cmp (place a.row.now) (place a.row.now)) before))

-- of two rows at one place each is the other
pub one_at : (all : List Seen) → AscendSeen all → (a b : Seen) → In a all → In b all →
    place a.row.now ≡ place b.row.now → a ≡ b
one_at [] ascend a b is other same = absurd is
one_at (one ∷ all) ascend a b (inl x) (inl y) same = sym x ∙ y
one_at (one ∷ all) ascend a b (inl x) (inr later) same = absurd (never_before one b
    (ap (λ (s : Seen). place s.row.now) x ∙ same)
    (each_in (λ (s : Seen). comes_before one s ≡ true) all ascend.0 b later))
one_at (one ∷ all) ascend a b (inr later) (inl y) same = absurd (never_before one a
    (ap (λ (s : Seen). place s.row.now) y ∙ sym same)
    (each_in (λ (s : Seen). comes_before one s ≡ true) all ascend.0 a later))
one_at (one ∷ all) ascend a b (inr x) (inr y) same = one_at all ascend.1 a b x y same

pub seen_is : (at : Place) (all : List Seen) (one : Seen) → seen_at at all ≡ Some one →
    In one all × (place one.row.now ≡ at)
seen_is at all one e =
    let found = find_in (λ (s : Seen). stands_at at s.row.now) all one e in
    (found.0, same_place (place one.row.now) at found.1)

seen_by : (all : List Seen) → AscendSeen all → (at : Place) (one : Seen) → In one all →
    place one.row.now ≡ at → (o : Option Seen) → seen_at at all ≡ o → o ≡ Some one
seen_by all ascend at one there same (Some other) e =
    let found = seen_is at all other e in
    ap Some (one_at all ascend other one found.0 there (found.1 ∙ sym same))
seen_by all ascend at one there same None e =
    absurd (find_lacks (λ (s : Seen). stands_at at s.row.now) all one there
    (ap (λ (p : Place). is_eq (place_cmp p at)) same ∙ itself at) e)

pub seen_there : (all : List Seen) → AscendSeen all → (at : Place) (one : Seen) → In one all →
    place one.row.now ≡ at → seen_at at all ≡ Some one
seen_there all ascend at one there same =
    seen_by all ascend at one there same (seen_at at all) refl

-- ---- the rows themselves

map_cond : (b : Bool) (one : Seen) (o : Option Seen) →
    option_map (λ (s : Seen). s.row.now) (cond b (Some one) o) ≡
    cond b (Some one.row.now) (option_map (λ (s : Seen). s.row.now) o)
map_cond true one o = refl
map_cond false one o = refl

pub row_seen : (at : Place) (rows : List Row) (all : List Seen) → AreSeen rows all →
    row_in at rows ≡ option_map (λ (s : Seen). s.row.now) (seen_at at all)
row_seen at [] [] seen = refl
row_seen at [] (one ∷ all) seen = absurd seen
row_seen at (row ∷ rows) [] seen = absurd seen
row_seen at (row ∷ rows) (one ∷ all) seen =
    ap (λ (r : Row). cond (stands_at at r) (Some r) (row_in at rows)) (sym seen.0.same) ∙
    ap (λ (o : Option Row). cond (stands_at at one.row.now) (Some one.row.now) o)
    (row_seen at rows all seen.1) ∙
    sym (map_cond (stands_at at one.row.now) one (seen_at at all))

each_behind : (one : Seen) (row : Row) → one.row.now ≡ row → (rows : List Row) (all : List Seen) →
    AreSeen rows all → AllByRecursion (λ later. comes_before one later ≡ true) all →
    AllByRecursion (λ later. row_before row later ≡ true) rows
each_behind one row same [] [] seen each = tt
each_behind one row same [] (other ∷ all) seen each = tt
each_behind one row same (other ∷ rows) [] seen each = absurd seen
each_behind one row same (other ∷ rows) (later ∷ all) seen each = (
  (λ i. row_before (same_back i) (other_back i)) ∙ each.0,
  each_behind one row same rows all seen.1 each.1,
) where
  same_back : row ≡ one.row.now
  same_back = sym same

  other_back : other ≡ later.row.now
  other_back = sym seen.0.same

pub rows_ascend : (rows : List Row) (all : List Seen) → AreSeen rows all → AscendSeen all →
    Ascend rows
rows_ascend [] all seen ascend = tt
rows_ascend (row ∷ rows) [] seen ascend = absurd seen
rows_ascend (row ∷ rows) (one ∷ all) seen ascend = (
  each_behind one row seen.0.same rows all seen.1 ascend.0,
  rows_ascend rows all seen.1 ascend.1,
)
