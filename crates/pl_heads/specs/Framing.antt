-- How many bytes of content follow a head (RFC 9112, section 6; RFC 9110, section 8.6).
use Rattle.std.specs.Prelude.{ℕ, ◌+◌, ◌*◌, ◌-◌, Bool, ◌&&◌, ◌||◌, List, [], ◌∷◌, length, codes}
use Rattle.std.specs.Prelude.{if◌then◌else◌, nat_eq, nat_le, Result, Ok, Err}
use Rattle.std.specs.Char.{is_ascii_digit}
use Rattle.std.specs.List.{list_all}
use Rattle.std.specs.Cmp.Lexicographic.{pointwise}
use Rattle.pl_heads.specs.declared.fault.HttpFault.{HttpFault}
use Rattle.pl_heads.specs.declared.fault.HttpFault.TheVariants.{HeadBad, LengthMissing, BodyLarge}
use Rattle.pl_heads.specs.Fields.{Named, values_of}

-- the most bytes of content
abbrev pub content_limit : ℕ
content_limit = 262144

-- PUT and POST announce their content (RFC 9110, sections 9.3.3 and 9.3.4)
abbrev pub wants_length : List ℕ → Bool
wants_length method = pointwise nat_eq method (codes "PUT") ||
    pointwise nat_eq method (codes "POST")

-- what decimal digits say, behind a number that stands before them
abbrev pub value_behind : ℕ → List ℕ → ℕ
value_behind before [] = before
value_behind before (digit ∷ digits) = value_behind (10 * before + (digit - 48)) digits

-- 1 to 10 digits
abbrev pub is_length : List ℕ → Bool
is_length value = nat_le 1 (length value) && nat_le (length value) 10 &&
    list_all is_ascii_digit value

-- the length that a value says
abbrev pub length_said : List ℕ → Result ℕ HttpFault
length_said value =
    if is_length value then
    (if nat_le (value_behind 0 value) content_limit then Ok (value_behind 0 value)
    else Err BodyLarge)
    else Err HeadBad

-- the length, by the values of Content-Length
abbrev pub length_by : Bool → List (List ℕ) → Result ℕ HttpFault
length_by wants [] = if wants then Err LengthMissing else Ok 0
length_by wants (value ∷ []) = length_said value
length_by wants (one ∷ two ∷ more) = Err HeadBad

-- the same where there are no values of Transfer-Encoding, which the service doesn't read
abbrev pub length_unless : Bool → List (List ℕ) → List (List ℕ) → Result ℕ HttpFault
length_unless wants [] lengths = length_by wants lengths
length_unless wants (encoding ∷ more) lengths = Err HeadBad

-- the length of the content of a request with this method and these fields
abbrev pub content_length : List ℕ → List Named → Result ℕ HttpFault
content_length method fields =
    length_unless (wants_length method) (values_of (codes "transfer-encoding") fields)
    (values_of (codes "content-length") fields)
