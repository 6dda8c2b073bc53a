-- SHA-256 digests (FIPS 180-4) as texts.
use Rattle.std.specs.Prelude.{◌≡◌, ℕ, Bool, ◌&&◌, ◌||◌, nat_eq, nat_le, List, [], length, Option}
use Rattle.std.specs.Prelude.{Some, None, Result, Ok, Err, if◌then◌else◌}
use Rattle.std.specs.Char.{is_ascii_digit}
use Rattle.std.specs.Cmp.Lexicographic.{pointwise}
use Rattle.std.specs.List.{list_all}
use Rattle.hex.specs.Hex.{IsBytes, decode_sized, encode_lower}
use Rattle.hex.specs.declared.FromHexError.{FromHexError}
use Rattle.sha2.specs.Sha256.{sha256}
use Rattle.pl_base.specs.declared.digest.Digest.{Digest}

-- 32 bytes
pub record IsDigest (told : Digest) : Type 0 where
  pub len : length told.bytes ≡ 32
  pub bytes : IsBytes told.bytes

-- its bytes as hexadecimal digits in lower case, two a byte, the high four bits first (RFC 4648,
-- section 8, but for the case)
abbrev pub hex_of : Digest → List ℕ
hex_of told = encode_lower told.bytes

-- 0 to 9 and a to f
abbrev pub is_lower_hex : ℕ → Bool
is_lower_hex digit = is_ascii_digit digit || (nat_le 97 digit && nat_le digit 102)

abbrev pub made_of : Result (List ℕ) FromHexError → Option Digest
made_of (Ok bytes) = Some (record { bytes = bytes })
made_of (Err fault) = None

-- the digest whose 64 hexadecimal digits in lower case a text is
abbrev pub digest_in : List ℕ → Option Digest
digest_in text = if list_all is_lower_hex text then made_of (decode_sized text 32) else None

-- the digest of no bytes: a caller without a token would have it
abbrev pub is_of_nothing : Digest → Bool
is_of_nothing told = pointwise nat_eq told.bytes (sha256 [])
