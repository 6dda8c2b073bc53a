-- What bytes in UTF-8 tell: control characters, and the ends of segments of a path.
use Rattle.std.specs.Prelude.{ℕ, nat_lt, nat_le, Bool, false, ◌==◌, ◌&&◌, ◌||◌, List, [], ◌∷◌}

-- a byte of one of ASCII's printable characters, from the space to the tilde
abbrev pub is_printable : ℕ → Bool
is_printable byte = nat_le 32 byte && nat_le byte 126

-- a byte that ends a control character, where this one stands before it: those below 128 are one
-- byte, and the others are 194 and a byte below 160
abbrev pub ends_control : ℕ → ℕ → Bool
ends_control last byte = (nat_lt byte 32 || byte == 127) || (last == 194 && nat_lt byte 160)

-- whether a test of what stands before a byte and of the byte holds somewhere, where each byte leads
-- from what stands before it to what stands before the next one
abbrev pub somewhere : {S : Type 0} → (S → ℕ → Bool) → (S → ℕ → S) → S → List ℕ → Bool
somewhere test next state [] = false
somewhere test next state (byte ∷ bytes) =
    test state byte || somewhere test next (next state byte) bytes

abbrev pub has_control_behind : ℕ → List ℕ → Bool
has_control_behind last bytes = somewhere ends_control (λ before byte. byte) last bytes

abbrev pub slash : ℕ
slash = 47

abbrev pub dot : ℕ
dot = 46

-- a segment that is empty, `.` or `..` ends with these three bytes, the last one at the end
abbrev pub ends_badly : ℕ → ℕ → ℕ → Bool
ends_badly third second first =
    first == slash || (first == dot && (second == slash || (second == dot && third == slash)))

-- such a segment ends somewhere in bytes, which stand behind these three
abbrev pub goes_wrong : ℕ → ℕ → ℕ → List ℕ → Bool
goes_wrong third second first [] = ends_badly third second first
goes_wrong third second first (byte ∷ bytes) =
    (byte == slash && ends_badly third second first) || goes_wrong second first byte bytes

-- it ends at a slash among them
abbrev pub wrong_at : ℕ × ℕ × ℕ → ℕ → Bool
wrong_at before byte = byte == slash && ends_badly before.0 before.1 before.2

abbrev pub shifted : ℕ × ℕ × ℕ → ℕ → ℕ × ℕ × ℕ
shifted before byte = (before.1, before.2, byte)

abbrev pub goes_wrong_in : ℕ → ℕ → ℕ → List ℕ → Bool
goes_wrong_in third second first bytes = somewhere wrong_at shifted (third, second, first) bytes
