-- What isn't at the front of bytes, by what isn't at the front of their parts.
use Rattle.std.proofs.Common.{◌≡◌, ◌≢◌, ℕ, zero, suc, ◌^◌, ◌<◌, Bool, true, false, List, [], ◌∷◌}
use Rattle.std.proofs.Common.{◌++◌, length, Option, Some, None, Result, Ok, Err, ◌+◌, ◌≤◌, take}
use Rattle.std.proofs.Common.{length-append, refl, sym, ap, subst, ◌∙◌, append_assoc, arith}
use Rattle.std.proofs.lemmas.Bool.Decides.{nat_tests}
use Rattle.std.specs.Cmp.Lexicographic.{pointwise}
use Rattle.std.specs.Prelude.{nat_eq, IfSome, IsErrOf, IsUtf8}
use Rattle.std.specs.List.{flat_map, AllByRecursion}
use Rattle.std.specs.Str.{is_utf8}
use Rattle.std.proofs.lemmas.List.{append-nil, take_all}
use Rattle.std.proofs.lemmas.Str.{IsUtf8-from_is_utf8, is_utf8-from_IsUtf8}
use Rattle.pl_fields.specs.Fields.{number, count, flag, text, option, list, told_size, IsShort}
use Rattle.pl_fields.specs.Fields.{IsText, IsListOf}
use Rattle.pl_fields.specs.Reading.{Begins, BeginsNot, Is, IsOneWay, Misses, Reads}
use Rattle.pl_fields.specs.declared.fault.DecodeFault.{DecodeFault}
use Rattle.pl_fields.specs.declared.fault.DecodeFault.TheVariants.{Torn, Memory}
use Rattle.pl_fields.specs.WaysOfFields.{count_len, count_one_way, head_is, number_one_way}
use Rattle.pl_fields.specs.WaysOfFields.{piece_one_way, tail_is}

pub via_begins_not : {X Y : Type 0} (to : X → Y) (spelled : Y → List ℕ) (fits : Y → Type 0)
    (bytes : List ℕ)
    → BeginsNot spelled fits bytes → BeginsNot (λ (x : X). spelled (to x)) (λ x. fits (to x)) bytes
via_begins_not to spelled fits bytes miss x rest begins =
    miss (to x) rest (record { does_fit = begins.does_fit; parts = begins.parts })

pub via_misses : {X Y : Type 0} (to : X → Y) (spelled : Y → List ℕ) (fits : Y → Type 0)
    (bytes : List ℕ) (fault : DecodeFault)
    → Misses spelled fits bytes fault → Misses (λ (x : X). spelled (to x)) (λ x. fits (to x)) bytes
    fault
via_misses to spelled fits bytes Torn miss = via_begins_not to spelled fits bytes miss
via_misses to spelled fits bytes Memory miss = tt

pub same_bytes : (xs : List ℕ) → pointwise nat_eq xs xs ≡ true
same_bytes [] = refl
same_bytes (x ∷ xs) = let inner = same_bytes xs in grind (arith, nat_tests, inner)

same_err : {X : Type 0} (told fault : DecodeFault) →
    (let read : Result X DecodeFault = Err told in read) ≡ Err fault → told ≡ fault
same_err told fault e = cc

module _ {A B : Type 0} (a_spelled : A → List ℕ) (a_fits : A → Type 0) (b_spelled : B → List ℕ)
    (b_fits : B → Type 0) where
  abbrev pub both : A × B → List ℕ
  both p = a_spelled p.0 ++ b_spelled p.1

  abbrev pub Both : A × B → Type 0
  Both p = a_fits p.0 × b_fits p.1

  pub pair_begins : (a : A) (b : B) (bytes rest more : List ℕ) →
      Begins a_spelled a_fits bytes a rest → Begins b_spelled b_fits rest b more
      → Begins both Both bytes (a, b) more
  pair_begins a b bytes rest more first second = record {
    does_fit = (first.does_fit, second.does_fit);
    parts = first.parts ∙ (ap (λ (r : List ℕ). a_spelled a ++ r) second.parts ∙
        sym (append_assoc (a_spelled a) (b_spelled b) more));
  }

  pub pair_not_first : (bytes : List ℕ) → BeginsNot a_spelled a_fits bytes →
      BeginsNot both Both bytes
  pair_not_first bytes miss p more begins = miss p.0 (b_spelled p.1 ++ more) (record {
    does_fit = begins.does_fit.0;
    parts = begins.parts ∙ append_assoc (a_spelled p.0) (b_spelled p.1) more;
  })

  pub pair_not_second : IsOneWay a_spelled a_fits → (a : A) (bytes rest : List ℕ) →
      Begins a_spelled a_fits bytes a rest
      → BeginsNot b_spelled b_fits rest → BeginsNot both Both bytes
  pair_not_second one_way a bytes rest first miss p more begins =
      let same = one_way a p.0 rest (b_spelled p.1 ++ more) first.does_fit begins.does_fit.0
      (sym first.parts ∙ (begins.parts ∙ append_assoc (a_spelled p.0) (b_spelled p.1) more)) in
      miss p.1 more (record { does_fit = begins.does_fit.1; parts = same.1 })

module _ {X : Type 0} (spelled : X → List ℕ) (fits : X → Type 0) where
  abbrev Fit : Option X → Type 0
  Fit value = IfSome value fits

  pub some_begins : (x : X) (bytes rest : List ℕ) → Begins spelled fits bytes x rest →
      Begins (option spelled) Fit (1 ∷ bytes) (Some x) rest
  some_begins x bytes rest begins =
      record { does_fit = begins.does_fit; parts = ap (λ (r : List ℕ). 1 ∷ r) begins.parts }

  pub some_not : (bytes : List ℕ) → BeginsNot spelled fits bytes →
      BeginsNot (option spelled) Fit (1 ∷ bytes)
  some_not bytes miss None rest begins = let e = begins.parts in absurd cc
  some_not bytes miss (Some x) rest begins =
      miss x rest (record {
        does_fit = begins.does_fit;
        parts =
            tail_is 1 1 bytes (spelled x ++ rest) begins.parts;
      })

  pub option_not_empty : BeginsNot (option spelled) Fit []
  option_not_empty None rest begins = let e = begins.parts in absurd cc
  option_not_empty (Some x) rest begins = let e = begins.parts in absurd cc

  pub option_not_flag : (first : ℕ) (bytes : List ℕ) → first ≢ 0 → first ≢ 1 →
      BeginsNot (option spelled) Fit (first ∷ bytes)
  option_not_flag first bytes none some None rest begins =
      none (head_is first 0 bytes rest begins.parts)
  option_not_flag first bytes none some (Some x) rest begins =
      some (head_is first 1 bytes (spelled x ++ rest) begins.parts)

  -- so many items that fit
  abbrev pub AreItems : ℕ → List X → Type 0
  AreItems many items = (length items ≡ many) × AllByRecursion fits items

  more_items : IsOneWay spelled fits → (items xs : List X) (rest more : List ℕ) →
      length items < length xs → AllByRecursion fits items → AllByRecursion fits xs
      → flat_map spelled items ++ rest ≡ flat_map spelled xs ++ more → BeginsNot spelled fits rest →
      ⊥
  more_items one_way items [] rest more len a b e miss = absurd (omega arith)
  more_items one_way [] (x ∷ xs) rest more len a b e miss =
      miss x (flat_map spelled xs ++ more) (record {
        does_fit = b.0;
        parts = e ∙ append_assoc (spelled x) (flat_map spelled xs) more;
      })
  more_items one_way (item ∷ items) (x ∷ xs) rest more len a b e miss =
      let regrouped : spelled item ++ (flat_map spelled items ++ rest) ≡ spelled x ++
      (flat_map spelled xs ++ more) =
      sym (append_assoc (spelled item) (flat_map spelled items) rest) ∙
      (e ∙ append_assoc (spelled x) (flat_map spelled xs) more) in
      let first = one_way item x (flat_map spelled items ++ rest) (flat_map spelled xs ++ more) a.0
      b.0 regrouped in
      more_items one_way items xs rest more (omega arith) a.1 b.1 first.1 miss

  -- behind some of the items no further one is there
  pub items_not : IsOneWay spelled fits → (many : ℕ) (items : List X) (bytes rest : List ℕ) →
      length items < many → AllByRecursion fits items
      → bytes ≡ flat_map spelled items ++ rest → BeginsNot spelled fits rest →
      BeginsNot (flat_map spelled) (AreItems many) bytes
  items_not one_way many items bytes rest few each parts miss xs more begins =
      more_items one_way items xs rest more (omega (arith, begins.does_fit.0)) each
      begins.does_fit.1 (sym parts ∙ begins.parts) miss

  -- a list: its length and its items
  pub list_begins : (many : ℕ) (items : List X) (bytes rest more : List ℕ) → many < 2 ^ 32 → bytes ≡
      count many ++ rest
      → Begins (flat_map spelled) (AreItems many) rest items more →
      Begins (list spelled) (IsListOf fits) bytes items more
  unfolding list
  list_begins many items bytes rest more small parts begins = record {
    does_fit = record { short = omega (arith, begins.does_fit.0); each = begins.does_fit.1 };
    parts = parts ∙ (ap (λ (r : List ℕ). count many ++ r) begins.parts ∙
        (sym (append_assoc (count many) (flat_map spelled items) more)
        ∙ ap (λ (n : ℕ). (count n ++ flat_map spelled items) ++ more) (sym begins.does_fit.0)));
  }

  pub list_not : (many : ℕ) (bytes rest : List ℕ) → many < 2 ^ 32 → bytes ≡ count many ++ rest
      → BeginsNot (flat_map spelled) (AreItems many) rest →
      BeginsNot (list spelled) (IsListOf fits) bytes
  unfolding list
  list_not many bytes rest small parts miss items more begins =
      let regrouped : count many ++ rest ≡ count (length items) ++
      (flat_map spelled items ++ more) =
      sym parts ∙ (begins.parts ∙ append_assoc (count (length items)) (flat_map spelled items) more)
      in
      let same = count_one_way many (length items) rest (flat_map spelled items ++ more) small
      begins.does_fit.short regrouped in
      miss items more (record { does_fit = (sym same.0, begins.does_fit.each); parts = same.1 })

  pub list_not_counted : (bytes : List ℕ) →
      ((n : ℕ) (rest : List ℕ) → n < 2 ^ 32 → bytes ≢ count n ++ rest) →
      BeginsNot (list spelled) (IsListOf fits) bytes
  unfolding list
  list_not_counted bytes miss items more begins =
      miss (length items) (flat_map spelled items ++ more) begins.does_fit.short
      (begins.parts ∙ append_assoc (count (length items)) (flat_map spelled items) more)

  pub items_misses : IsOneWay spelled fits → (many : ℕ) (items : List X) (bytes rest : List ℕ) →
      length items < many → AllByRecursion fits items
      → bytes ≡ flat_map spelled items ++ rest → (fault : DecodeFault) →
      Misses spelled fits rest fault → Misses (flat_map spelled) (AreItems many) bytes fault
  items_misses one_way many items bytes rest few each parts Torn miss =
      items_not one_way many items bytes rest few each parts miss
  items_misses one_way many items bytes rest few each parts Memory miss = tt

  pub list_reads : {Y : Type 0} (seen : Y → List X × List ℕ) (many : ℕ) (bytes rest : List ℕ) →
      many < 2 ^ 32 → bytes ≡ count many ++ rest
      → (read : Result Y DecodeFault) → Reads (flat_map spelled) (AreItems many) seen rest read →
      Reads (list spelled) (IsListOf fits) seen bytes read
  list_reads seen many bytes rest small parts (Ok read) found =
      list_begins many (seen read).0 bytes rest (seen read).1 small parts found
  list_reads seen many bytes rest small parts (Err Torn) miss =
      list_not many bytes rest small parts miss
  list_reads seen many bytes rest small parts (Err Memory) miss = tt

  pub list_size : (items xs : List X) (size i : ℕ) → size ≡
      told_size (4 + length (flat_map spelled (take i xs))) → length xs ≤ i → xs ≡ items
      → size ≡ told_size (length (list spelled items))
  unfolding list
  list_size items xs size i told all same =
      let whole : length (list spelled items) ≡ 4 + length (flat_map spelled (take i xs)) =
      omega (
        arith,
        length-append (count (length items)) (flat_map spelled items),
        count_len (length items),
        ap (λ (ys : List X). length (flat_map spelled ys)) (take_all i xs all ∙ same),
      ) in
      told ∙ ap told_size (sym whole)

  -- bytes that are left behind a value are left behind every value
  pub not_whole : IsOneWay spelled fits → (x : X) (bytes rest : List ℕ) →
      Begins spelled fits bytes x rest → rest ≢ [] → (y : X) → ¬ Is spelled fits bytes y
  not_whole one_way x bytes rest begins left y is =
      let whole : spelled x ++ rest ≡ spelled y ++ [] = sym begins.parts ∙
      (is.whole ∙ sym (append-nil (spelled y))) in
      left (one_way x y rest [] begins.does_fit is.does_fit whole).1

  pub not_begun : (bytes : List ℕ) → BeginsNot spelled fits bytes → (y : X) →
      ¬ Is spelled fits bytes y
  not_begun bytes miss y is = miss y []
      (record { does_fit = is.does_fit; parts = is.whole ∙ sym (append-nil (spelled y)) })

  pub not_decoded : (bytes : List ℕ) (read : Result X DecodeFault) (told fault : DecodeFault) →
      read ≡ Err told → told ≡ fault
      → Misses spelled fits bytes fault → IsErrOf read Torn → (y : X) → ¬ Is spelled fits bytes y
  not_decoded bytes read told Torn is same miss torn = not_begun bytes miss
  not_decoded bytes read told Memory is same miss torn = λ y whole. let e : told ≡ Torn =
      same_err told Torn (sym is ∙ torn) in absurd cc

  pub is_whole : (x : X) (bytes rest : List ℕ) → Begins spelled fits bytes x rest → rest ≡ [] →
      Is spelled fits bytes x
  is_whole x bytes rest begins none = record {
    does_fit = begins.does_fit;
    whole = begins.parts ∙ (ap (λ (r : List ℕ). spelled x ++ r) none ∙ append-nil (spelled x));
  }

-- a piece that isn't UTF-8 is no text
pub text_not_utf8 : (piece bytes rest : List ℕ) → length piece < 2 ^ 32 → bytes ≡ text piece ++
    rest → ¬ IsUtf8 piece → BeginsNot text IsText bytes
text_not_utf8 piece bytes rest short parts wrong told more begins =
    let same = piece_one_way told piece more rest begins.does_fit.short short
    (sym begins.parts ∙ parts) in
    wrong (subst IsUtf8 same.0 (IsUtf8-from_is_utf8 told begins.does_fit.utf8))

pub text_not_piece : (bytes : List ℕ) →
    ((piece rest : List ℕ) → length piece < 2 ^ 32 → bytes ≢ text piece ++ rest) →
    BeginsNot text IsText bytes
text_not_piece bytes miss told rest begins = miss told rest begins.does_fit.short begins.parts

-- a number before the rest
module _ {X : Type 0} (number_of : X → ℕ) (behind : X → List ℕ) (fits : X → Type 0)
    (small : (x : X) → fits x → number_of x < 2 ^ 64) where
  abbrev pub numbered : X → List ℕ
  numbered x = number (number_of x) ++ behind x

  pub numbered_begins : (n : ℕ) (x : X) (bytes rest more : List ℕ) → bytes ≡ number n ++ rest
      → Begins behind (λ x. fits x × (number_of x ≡ n)) rest x more →
      Begins numbered fits bytes x more
  numbered_begins n x bytes rest more parts begins = record {
    does_fit = begins.does_fit.0;
    parts = parts ∙ (ap (λ (r : List ℕ). number n ++ r) begins.parts ∙
        (sym (append_assoc (number n) (behind x) more)
        ∙ ap (λ (k : ℕ). (number k ++ behind x) ++ more) (sym begins.does_fit.1)));
  }

  pub numbered_not : (n : ℕ) (bytes rest : List ℕ) → n < 2 ^ 64 → bytes ≡ number n ++ rest
      → BeginsNot behind (λ x. fits x × (number_of x ≡ n)) rest → BeginsNot numbered fits bytes
  numbered_not n bytes rest less parts miss x more begins =
      let regrouped : number n ++ rest ≡ number (number_of x) ++ (behind x ++ more) =
      sym parts ∙ (begins.parts ∙ append_assoc (number (number_of x)) (behind x) more) in
      let same = number_one_way n (number_of x) rest (behind x ++ more) less
      (small x begins.does_fit) regrouped in
      miss x more (record { does_fit = (begins.does_fit, sym same.0); parts = same.1 })

  pub numbered_not_number : (bytes : List ℕ) → BeginsNot number (λ n. n < 2 ^ 64) bytes →
      BeginsNot numbered fits bytes
  numbered_not_number bytes miss x more begins = miss (number_of x) (behind x ++ more) (record {
    does_fit = small x begins.does_fit;
    parts = begins.parts ∙ append_assoc (number (number_of x)) (behind x) more;
  })

  pub numbered_reads : {Y : Type 0} (seen : Y → X × List ℕ) (n : ℕ) (bytes rest : List ℕ) →
      n < 2 ^ 64 → bytes ≡ number n ++ rest
      → (read : Result Y DecodeFault) → Reads behind (λ x. fits x × (number_of x ≡ n)) seen rest
      read → Reads numbered fits seen bytes read
  numbered_reads seen n bytes rest less parts (Ok read) found =
      numbered_begins n (seen read).0 bytes rest (seen read).1 parts found
  numbered_reads seen n bytes rest less parts (Err Torn) miss =
      numbered_not n bytes rest less parts miss
  numbered_reads seen n bytes rest less parts (Err Memory) miss = tt

pub text_begins : (told piece bytes rest : List ℕ) → told ≡ piece → length piece < 2 ^ 32 →
    IsUtf8 piece → bytes ≡ text piece ++ rest → Begins text IsText bytes told rest
text_begins told piece bytes rest same short utf8 parts = record {
  does_fit = record {
    short = omega (arith, ap length same);
    utf8 = ap is_utf8 same ∙
        is_utf8-from_IsUtf8 piece utf8;
  };
  parts = parts ∙ ap (λ (t : List ℕ). text t ++ rest) (sym same);
}

pub same_ok : {X E : Type 0} (x y : X) → (let read : Result X E = Ok x in read) ≡ Ok y → x ≡ y
same_ok x y e = cc
