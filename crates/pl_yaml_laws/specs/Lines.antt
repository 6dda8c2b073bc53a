-- What may stand behind a scalar on its line (YAML 1.2.2, sections 5.1, 6.2 and 6.6).
use Rattle.std.specs.Prelude.{◌≡◌, ℕ, Bool, true, ◌==◌, ◌&&◌, ◌||◌, not, List, [], ◌∷◌}
use Rattle.std.specs.List.{list_all}
use Rattle.pl_line.specs.Rows.{is_control, rows_of}
use Rattle.pl_reading.specs.Bytes.{is_blank}

-- no character is a line feed or another control character than tab
abbrev pub is_line : List ℕ → Bool
is_line = list_all (λ c. not (is_control c))

-- Each row of a text is read up to a control character at most.
abbrev pub RowsAreLines : Type 0
RowsAreLines = (text : List ℕ) → list_all (λ row. is_line row.text) (rows_of text) ≡ true

-- behind a blank: blanks, and perhaps a comment
abbrev pub is_comment_or_blank : List ℕ → Bool
is_comment_or_blank [] = true
is_comment_or_blank (c ∷ cs) = c == 35 || is_blank c && is_comment_or_blank cs

-- behind a scalar: nothing, or a blank and such
abbrev pub is_end : List ℕ → Bool
is_end [] = true
is_end (c ∷ cs) = is_blank c && is_comment_or_blank cs
