-- The values of one name, as they are found in the fields.
use Rattle.std.specs.Prelude.{◌≡◌, ℕ, List, [], ◌∷◌, length}
use Rattle.httparse.specs.declared.spans.Span.{Span}
use Rattle.httparse.specs.Spans.{span_bytes, IsWithin}
use Rattle.pl_heads.specs.declared.fields.Found.{Found}
use Rattle.pl_heads.specs.declared.fields.Found.TheVariants.{Absent, One, Many}

abbrev pub after_one : Found → Span → Found
after_one Absent value = One value
after_one (One first) value = Many
after_one Many value = Many

-- these are the values: none, one that stands in the bytes, or more
abbrev pub IsFound : List ℕ → List (List ℕ) → Found → Type 0
IsFound bytes values Absent = values ≡ []
IsFound bytes values (One value) = (values ≡ span_bytes bytes value ∷ []) ×
    IsWithin (length bytes) value
IsFound bytes values Many = (one : List ℕ) × (two : List ℕ) × (more : List (List ℕ)) ×
    (values ≡ one ∷ two ∷ more)
