-- Lines of a printed text at a level of its nesting.
use Rattle.std.specs.Prelude.{ℕ, Bool, true, false, zero, suc, ◌+◌, List, [], ◌∷◌, ◌++◌, flat_map}
use Rattle.pl_printing.specs.Printed.{Line, Written, inline, below}

-- the indentation of a level: two spaces each
abbrev pub spaces : ℕ → List ℕ
spaces zero = []
spaces (suc level) = 32 ∷ 32 ∷ spaces level

-- lines at a level, each with its line feed
abbrev pub at_level : ℕ → List Line → List ℕ
at_level level lines = flat_map (λ line. spaces level ++ line ++ 10 ∷ []) lines

-- what stands behind the mark of an entry at a level, to the end of the entry's last line
abbrev pub behind_mark : ℕ → Written → List ℕ
behind_mark level (inline text) = 32 ∷ text ++ 10 ∷ []
behind_mark level (below lines) = 10 ∷ at_level (level + 1) lines

-- whether it is a text that goes on on the line of its entry's mark
abbrev pub is_inline : Written → Bool
is_inline (inline text) = true
is_inline (below lines) = false
