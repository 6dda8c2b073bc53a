-- Texts, flags and numbers.
use Rattle.std.specs.Prelude.{ℕ, nat_le, Bool, ◌||◌, List, Result, Ok, Err}
use Rattle.std.specs.Prelude.{if◌then◌else◌, option_and_then}
use Rattle.std.specs.Option.{is_some}
use Rattle.jiff_tz.specs.PosixReader.{read_whole}
use Rattle.serde_json.specs.Data.{Data}
use Rattle.serde_json.specs.Find.{as_bool, as_number, as_str, as_u64}
use Rattle.pl_base.specs.declared.digest.Digest.{Digest}
use Rattle.pl_digests.specs.Digests.{digest_in}
use Rattle.pl_reading.specs.Steps.{◌>>=◌}
use Rattle.pl_zones.specs.Fixed.{fixed_offset}
use Rattle.pl_bodies.specs.declared.fault.BodyFault.{BodyFault}
use Rattle.pl_bodies.specs.declared.fault.BodyFault.TheVariants.{Bad}
use Rattle.pl_bodies.specs.Meaning.{wanted}

abbrev pub text_of : Data → Result (List ℕ) BodyFault
text_of value = wanted (as_str value)

abbrev pub flag_of : Data → Result Bool BodyFault
flag_of value = wanted (as_bool value)

-- a number of four bytes
abbrev pub small : ℕ → Result ℕ BodyFault
small number = if nat_le number 4294967295 then Ok number else Err Bad

-- a whole number, as `serde_json` tells one: `1.0`, `1e2` and `-0` are none
abbrev pub number_of : Data → Result ℕ BodyFault
number_of value = wanted (option_and_then as_u64 (as_number value)) >>= small

-- the digest whose 64 hexadecimal digits in lower case a text is
abbrev pub digest_of : Data → Result Digest BodyFault
digest_of value = text_of value >>= λ text. wanted (digest_in text)

-- a text that names a zone: it is of the first form, or `jiff` reads a rule from it
unfoldable pub is_zone : List ℕ → Bool
is_zone text = is_some (fixed_offset text) || is_some (read_whole text)

abbrev pub zone_in : List ℕ → Result (List ℕ) BodyFault
zone_in text = if is_zone text then Ok text else Err Bad

abbrev pub zone_of : Data → Result (List ℕ) BodyFault
zone_of value = text_of value >>= zone_in
