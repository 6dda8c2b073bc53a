-- Characters at the front and at the end of a text (YAML 1.2.2, sections 5.3, 6.6 and 7.3.3).
use Rattle.std.specs.Prelude.{ℕ, ◌+◌, Bool, false, ◌==◌, ◌&&◌, ◌||◌, List, [], ◌∷◌, Option, Some}
use Rattle.std.specs.Prelude.{None, if◌then◌else◌}
use Rattle.pl_reading.specs.Bytes.{is_blank}

-- an indicator is one before a blank or the line's end
abbrev pub ends_word : Bool → List ℕ → Bool
ends_word whole [] = whole
ends_word whole (c ∷ cs) = is_blank c

-- A plain scalar ends before `:` as an indicator, before a comment, and at the line's end. How many
-- characters it takes, blanks behind it counted; and whether a blank stands before them.
abbrev pub plain_len : Bool → Bool → List ℕ → ℕ
plain_len whole blank [] = 0
plain_len whole blank (c ∷ cs) = if c == 58 && ends_word whole cs || c == 35 && blank then 0
    else 1 + plain_len whole (is_blank c) cs

-- without the blanks at the end
abbrev pub content_len : List ℕ → ℕ
content_len [] = 0
content_len (c ∷ cs) = if is_blank c && content_len cs == 0 then 0 else 1 + content_len cs

abbrev pub ends_with_blank : Option ℕ → Bool
ends_with_blank None = false
ends_with_blank (Some c) = is_blank c

-- `,`, `]`, `}`, `#`, `%`, `@` and the grave accent begin no node
abbrev pub is_stray : ℕ → Bool
is_stray c = c == 44 || c == 93 || c == 125 || c == 35 || c == 37 || c == 64 || c == 96
