-- Where bytes end that begin the head of a request (RFC 9112, sections 2 to 5), in pieces of
-- `httparse`'s grammar.
use Rattle.std.specs.Prelude.{◌≡◌, ℕ, ◌+◌, ◌≤◌, List, [], ◌∷◌, ◌++◌, length, take, codes}
use Rattle.httparse.specs.Ascii.{carriage_return, colon}
use Rattle.httparse.specs.Grammar.{LineEnd, Field, IsToken, AllPass, is_uri_byte, is_value_byte}
use Rattle.httparse.specs.Pieces.{Piece, Then, BlankLines, Newline, FieldLines}
use Rattle.httparse.specs.Pieces as piece
use Rattle.pl_heads.specs.Heads.{field_limit}
use Rattle.pl_scan.specs.declared.place.Place.{Place}
use Rattle.pl_scan.specs.declared.place.Place.TheVariants.{EmptyLines, EmptyLineReturn, Method}
use Rattle.pl_scan.specs.declared.place.Place.TheVariants.{Target, Version, StartLine}
use Rattle.pl_scan.specs.declared.place.Place.TheVariants.{StartLineReturn, Lines, LastReturn, Name}
use Rattle.pl_scan.specs.declared.place.Place.TheVariants.{Value, ValueReturn}

-- empty lines, a method and its space
abbrev pub ToTarget : Piece (List LineEnd × List ℕ)
ToTarget = Then BlankLines piece.Method

-- these, a target and its space
abbrev pub ToVersion : Piece ((List LineEnd × List ℕ) × List ℕ)
ToVersion = Then ToTarget piece.Target

-- these and the version
abbrev pub ToStartEnd : Piece (((List LineEnd × List ℕ) × List ℕ) × ℕ)
ToStartEnd = Then ToVersion piece.Version

-- the whole start line
abbrev pub ToFields : Piece ((((List LineEnd × List ℕ) × List ℕ) × ℕ) × LineEnd)
ToFields = Then ToStartEnd Newline

-- the start line and some header lines
abbrev pub Start : Type 0
Start = ((((List LineEnd × List ℕ) × List ℕ) × ℕ) × LineEnd) × List Field

abbrev pub ToLine : Piece Start
ToLine = Then ToFields FieldLines

-- the bytes are such a piece, and then these
abbrev pub IsBefore : {A : Type 0} → Piece A → List ℕ → List ℕ → Type 0
IsBefore {A} piece rest bytes = (tree : A) × piece tree bytes rest

-- the bytes are a start line, so many header lines, and then these
abbrev pub IsBehindLines : ℕ → List ℕ → List ℕ → Type 0
IsBehindLines fields rest bytes =
    (start : Start) × ToLine start bytes rest × (length start.1 ≡ fields) × (fields ≤ field_limit)

-- what stands before the version's last digit
abbrev pub version : List ℕ
version = codes "HTTP/1."

-- the bytes begin a head, and end at this place
abbrev pub EndsAt : Place → List ℕ → Type 0
EndsAt EmptyLines bytes = IsBefore BlankLines [] bytes
EndsAt EmptyLineReturn bytes = IsBefore BlankLines (carriage_return ∷ []) bytes
EndsAt Method bytes = (word : List ℕ) × IsToken word × IsBefore BlankLines word bytes
EndsAt (Target start) bytes =
    (word : List ℕ) × AllPass is_uri_byte word × (start + length word ≡ length bytes)
    × IsBefore ToTarget word bytes
EndsAt (Version count) bytes = (count ≤ 7) × IsBefore ToVersion (take count version) bytes
EndsAt StartLine bytes = IsBefore ToStartEnd [] bytes
EndsAt StartLineReturn bytes = IsBefore ToStartEnd (carriage_return ∷ []) bytes
EndsAt (Lines fields) bytes = IsBehindLines fields [] bytes
EndsAt (LastReturn fields) bytes = IsBehindLines fields (carriage_return ∷ []) bytes
EndsAt (Name fields) bytes = (name : List ℕ) × IsToken name × IsBehindLines fields name bytes
EndsAt (Value fields) bytes =
    (name : List ℕ) × (raw : List ℕ) × IsToken name × AllPass is_value_byte raw
    × IsBehindLines fields (name ++ colon ∷ raw) bytes
EndsAt (ValueReturn fields) bytes =
    (name : List ℕ) × (raw : List ℕ) × IsToken name × AllPass is_value_byte raw
    × IsBehindLines fields (name ++ colon ∷ (raw ++ carriage_return ∷ [])) bytes
