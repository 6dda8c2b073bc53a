-- The bound on the texts that functions make: 65,536 bytes.
use Rattle.std.specs.Prelude.{ℕ, Bool, List, length, nat_le, Result, Ok, Err, if◌then◌else◌}
use Rattle.std.specs.List.{list_all}
use Rattle.pl_texts.specs.declared.fault.TextFault.{TextFault}
use Rattle.pl_texts.specs.declared.fault.TextFault.TheVariants.{TooLong}

-- whether a text is within the bound
abbrev pub fits : List ℕ → Bool
fits text = nat_le (length text) 65536

-- the text, where it is within the bound
abbrev pub bounded : List ℕ → Result (List ℕ) TextFault
bounded text = if fits text then Ok text else Err TooLong

-- the texts, where each is within the bound
abbrev pub all_bounded : List (List ℕ) → Result (List (List ℕ)) TextFault
all_bounded texts = if list_all fits texts then Ok texts else Err TooLong
