-- What parts of a path must be, once they are decoded.
use Rattle.std.specs.Prelude.{ℕ, nat_le, nat_lt, nat_eq, Bool, true, not, ◌&&◌, ◌==◌, List, [], ◌∷◌}
use Rattle.std.specs.Prelude.{length, codes, slice_index, Result, Ok, Err, if◌then◌else◌}
use Rattle.std.specs.Char.{digit_value}
use Rattle.std.specs.Cmp.Lexicographic.{pointwise}
use Rattle.std.specs.Str.Parse.{digits_value}
use Rattle.pl_base.specs.declared.resource.Kind.{Kind}
use Rattle.pl_base.specs.declared.resource.Kind.TheVariants.{Environment, Connection, Group, Pool}
use Rattle.pl_base.specs.declared.resource.Kind.TheVariants.{Repository}
use Rattle.pl_routes.specs.declared.fault.RouteFault.{RouteFault}
use Rattle.pl_routes.specs.declared.fault.RouteFault.TheVariants.{RouteUnknown}

-- at most 18 bytes, the first of which is neither a `+` nor a `0`
abbrev pub is_plain : List ℕ → Bool
is_plain text = not (slice_index text 0 == 43) && (not (slice_index text 0 == 48) &&
    nat_le (length text) 18)

abbrev pub are_digits : List ℕ → Bool
are_digits [] = true
are_digits (digit ∷ more) = nat_lt (digit_value digit) 10 && are_digits more

-- decimal digits, at least one
abbrev pub is_numeral : List ℕ → Bool
is_numeral text = nat_lt 0 (length text) && are_digits text

-- the number of a run: 1 to 18 decimal digits, of which the first isn't 0
unfoldable pub run_said : List ℕ → Result ℕ RouteFault
run_said text =
    if is_plain text && is_numeral text then Ok (digits_value 10 text) else Err RouteUnknown

abbrev pub is_word : List ℕ → List ℕ → Bool
is_word word text = pointwise nat_eq text word

-- the kind of a resource, by its word, which is compared exactly
abbrev pub kind_said : List ℕ → Result Kind RouteFault
kind_said text =
    if is_word (codes "environment") text then Ok Environment
    else if is_word (codes "connection") text then Ok Connection
    else if is_word (codes "group") text then Ok Group
    else if is_word (codes "pool") text then Ok Pool
    else if is_word (codes "repository") text then Ok Repository
    else Err RouteUnknown
