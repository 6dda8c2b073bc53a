-- Fields looked up one by one, and lengths read digit by digit.
use Rattle.std.proofs.Common.{◌≡◌, ℕ, ◌+◌, ◌-◌, ◌*◌, ◌<◌, ◌≤◌, Bool, true, false, List, [], ◌∷◌}
use Rattle.std.proofs.Common.{◌++◌, length, take, drop, map, refl, sym, ap, ◌∙◌, subst, arith}
use Rattle.std.proofs.Common.{append_assoc, if◌then◌else◌, get_or, suc, add-one, append-nil}
use Rattle.std.proofs.Common.{drop-cons, All}
use Rattle.std.proofs.Math.Seq.{take-suc}
use Rattle.std.proofs.lemmas.List.{map-append}
use Rattle.httparse.specs.declared.spans.HeaderSpan.{HeaderSpan}
use Rattle.httparse.specs.declared.spans.Span.{Span}
use Rattle.httparse.specs.Spans.{header_bytes, span_bytes, IsHeaderWithin, IsWithin}
use Rattle.pl_heads.specs.declared.fields.Found.{Found}
use Rattle.pl_heads.specs.declared.fields.Found.TheVariants.{Absent, One, Many}
use Rattle.pl_heads.specs.Fields.{Named, same_name, values_of}
use Rattle.pl_heads.specs.Found.{IsFound, after_one}
use Rattle.pl_heads.specs.Framing.{value_behind, content_limit}

-- ---- values of a name

values_of-append : (name : List ℕ) (xs ys : List Named) → values_of name (xs ++ ys) ≡
    values_of name xs ++ values_of name ys
values_of-append name [] ys = refl
values_of-append name (x ∷ xs) ys = go (same_name x.0 name) (values_of-append name xs ys)
  where
    go : (t : Bool) → values_of name (xs ++ ys) ≡ values_of name xs ++ values_of name ys
        → (if t then x.1 ∷ values_of name (xs ++ ys) else values_of name (xs ++ ys))
        ≡ (if t then x.1 ∷ values_of name xs else values_of name xs) ++ values_of name ys
    go true same = ap (λ (vs : List (List ℕ)). x.1 ∷ vs) same
    go false same = same

-- one value more
found_one :
    (bytes : List ℕ) (values : List (List ℕ)) (found : Found) (value : Span) →
    IsWithin (length bytes) value
    → IsFound bytes values found → IsFound bytes (values ++ span_bytes bytes value ∷ [])
    (after_one found value)
found_one bytes values Absent value within is =
    (ap (λ (vs : List (List ℕ)). vs ++ span_bytes bytes value ∷ []) is, within)
found_one bytes values (One first) value within is = (
  span_bytes bytes first,
  span_bytes bytes value,
  [],
  ap (λ (vs : List (List ℕ)). vs ++
      span_bytes bytes value ∷ []) is.0,
)
found_one bytes values Many value within (one, two, more, is) = (
  one,
  two,
  more ++ span_bytes bytes value ∷ [],
  ap (λ (vs : List (List ℕ)). vs ++
      span_bytes bytes value ∷ []) is,
)

-- what stands in no list
abbrev pub no_field : HeaderSpan
no_field = record { name = record { start = 0; end = 0 }; value = record { start = 0; end = 0 } }

found_last : (bytes name : List ℕ) (values : List (List ℕ)) (field : HeaderSpan) (t : Bool)
    (old : Found)
    → IsHeaderWithin (length bytes) field → IsFound bytes values old
    → IsFound bytes (values ++ (if t then span_bytes bytes field.value ∷ [] else [])) (if t
    then after_one old field.value else old)
found_last bytes name values field true old fits is = found_one bytes values old field.value fits.1
    is
found_last bytes name values field false old fits is =
    subst (λ (vs : List (List ℕ)). IsFound bytes vs old) (sym (append-nil values)) is

-- one field more
pub found_more :
    (bytes name : List ℕ) (fields : List HeaderSpan) (at : ℕ) (old new : Found) → at < length fields
    → All (IsHeaderWithin (length bytes)) fields
    → IsFound bytes (values_of name (map (header_bytes bytes) (take at fields))) old
    → new ≡ (if same_name (span_bytes bytes (get_or fields at no_field).name) name
    then after_one old (get_or fields at no_field).value else old)
    → IsFound bytes (values_of name (map (header_bytes bytes) (take (at + 1) fields))) new
found_more bytes name fields at old new within all is step =
    let field = get_or fields at no_field in
    let values = values_of name (map (header_bytes bytes) (take at fields)) in
    let fits : IsHeaderWithin (length bytes) field = all at no_field within in
    let next : take (at + 1) fields ≡ take at fields ++ field ∷ [] =
    ap (λ (k : ℕ). take k fields) (add-one at) ∙ take-suc fields at no_field within in
    let list : values_of name (map (header_bytes bytes) (take (at + 1) fields))
    ≡ values ++ values_of name (header_bytes bytes field ∷ []) =
    ap (λ (hs : List HeaderSpan). values_of name (map (header_bytes bytes) hs)) next
    ∙ ap (values_of name) (map-append (header_bytes bytes) (take at fields) (field ∷ []))
    ∙ values_of-append name (map (header_bytes bytes) (take at fields)) (header_bytes bytes field ∷
    []) in
    subst
    (λ (f : Found). IsFound bytes
    (values_of name (map (header_bytes bytes) (take (at + 1) fields))) f) (sym step)
    (subst (λ (vs : List (List ℕ)). IsFound bytes vs (if same_name (span_bytes bytes field.name)
    name then after_one old field.value else old))
    (sym list)
    (found_last bytes name values field (same_name (span_bytes bytes field.name) name) old fits is))

-- ---- digits

pub value_behind-le : (before : ℕ) (digits : List ℕ) → before ≤ value_behind before digits
value_behind-le before [] = omega arith
value_behind-le before (d ∷ digits) = omega (arith, value_behind-le (10 * before + (d - 48)) digits)

-- one digit more is over the limit
pub value_over : (digits : List ℕ) (at value : ℕ) → at < length digits
    → value_behind value (drop at digits) ≡ value_behind 0 digits
    → content_limit < 10 * value + (get_or digits at 0 - 48) → content_limit < value_behind 0 digits
value_over digits at value within says over =
    let next : drop at digits ≡ get_or digits at 0 ∷ drop (suc at) digits =
    drop-cons digits at 0 within in
    let same : value_behind (10 * value + (get_or digits at 0 - 48)) (drop (suc at) digits) ≡
    value_behind 0 digits =
    sym (ap (value_behind value) next) ∙ says in
    omega (
      arith,
      same,
      value_behind-le (10 * value + (get_or digits at 0 - 48))
          (drop (suc at) digits),
    )
