-- What a stream tells of its contents, if it tells anything.
use Rattle.std.specs.Prelude.{ℕ, ◌+◌, Bool, List, ◌++◌, Option, nat_eq}
use Rattle.std.specs.List.{list_any}
use Rattle.std.specs.Option.{option_map}

-- what was left before these bytes were read
abbrev pub with_front : List ℕ → Option (List ℕ) → Option (List ℕ)
with_front bytes left = option_map (λ rest. bytes ++ rest) left

-- what is held after these bytes were written
abbrev pub with_end : Option (List ℕ) → List ℕ → Option (List ℕ)
with_end held bytes = option_map (λ front. front ++ bytes) held

-- the moments of the calls after the next one
abbrev pub after_next : Option (ℕ → ℕ) → Option (ℕ → ℕ)
after_next coming = option_map (λ moment call. moment (call + 1)) coming

-- whether a call is among those that are to fail; the first call is 1
abbrev pub is_listed : ℕ → List ℕ → Bool
is_listed call failing = list_any (λ listed. nat_eq listed call) failing
