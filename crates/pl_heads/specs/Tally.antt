-- Lines counted byte by byte.
use Rattle.std.specs.Prelude.{ℕ, ◌+◌, ◌==◌, Bool, true, false, List, [], ◌∷◌, if◌then◌else◌}
use Rattle.httparse.specs.Pieces.{is_newline}
use Rattle.pl_heads.specs.declared.lines.Tally.{Tally}
use Rattle.pl_heads.specs.Lines.{lines_behind}

-- a byte stands there that is neither CR nor LF
abbrev pub is_begun : List ℕ → Bool
is_begun [] = false
is_begun (b ∷ bytes) = if is_newline b then is_begun bytes else true

abbrev pub tally_of : List ℕ → Tally
tally_of bytes = record { begun = is_begun bytes; lines = lines_behind bytes }

abbrev pub after_byte : Tally → ℕ → Tally
after_byte tally byte =
    if byte == 10 then record {
      begun = tally.begun;
      lines = if tally.begun then tally.lines + 1
          else tally.lines;
    }
    else if byte == 13 then tally
    else record { begun = true; lines = tally.lines }
