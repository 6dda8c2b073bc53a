-- The bytes of a text, wherever they are, and whether two texts are the same.
use Rattle.std.specs.Prelude.{ℕ, Bool, List, string_bytes, nat_eq}
use Rattle.std.specs.Cmp.Lexicographic.{pointwise}
use Rattle.std.specs.Arc.{arc_value}
use Rattle.pl_base.specs.declared.text.Kept.{Kept}
use Rattle.pl_base.specs.declared.text.Kept.TheVariants.{Own, Shared}

abbrev pub bytes_of : Kept → List ℕ
bytes_of (Own own) = string_bytes own
bytes_of (Shared shared) = string_bytes (arc_value shared)

-- whether two texts are the same
abbrev pub is : List ℕ → List ℕ → Bool
is text other = pointwise nat_eq text other
