-- Lines at a level: one level deeper, behind a mark, and entry after entry.
use Rattle.std.proofs.Common.{◌≡◌, ℕ, zero, suc, ◌+◌, ◌<◌, List, [], ◌∷◌, ◌++◌, take, get_or}
use Rattle.std.proofs.Common.{length, refl, ap, sym, ◌∙◌, append_assoc}
use Rattle.std.specs.List.{flat_map}
use Rattle.std.proofs.Math.Numerals.{add-one}
use Rattle.std.proofs.Math.Seq.{take-length}
use Rattle.std.proofs.lemmas.Grind.{flat_map-append}
use Rattle.std.proofs.lemmas.List.{append-nil, take_more}
use Rattle.pl_printing.specs.Printed.{Line, Written, inline, below, indented, entry}
use Rattle.pl_printing.specs.Levels.{spaces, at_level, behind_mark}

next_spaces : (level : ℕ) → spaces (suc level) ≡ spaces level ++ 32 ∷ 32 ∷ []
next_spaces zero = refl
next_spaces (suc level) = ap (λ xs. 32 ∷ 32 ∷ xs) (next_spaces level)

pub spaces_more : (level : ℕ) → spaces (level + 1) ≡ spaces level ++ 32 ∷ 32 ∷ []
spaces_more level = ap spaces (add-one level) ∙ next_spaces level

-- what is indented is a level deeper
indented_at_level :
    (level : ℕ) (lines : List Line) → at_level level (indented lines) ≡ at_level (level + 1) lines
indented_at_level level [] = refl
indented_at_level level (line ∷ lines) =
    let deeper : spaces level ++ 32 ∷ 32 ∷ line ≡ spaces (level + 1) ++ line =
    sym (append_assoc (spaces level) (32 ∷ 32 ∷ []) line) ∙
    ap (λ xs. xs ++ line) (sym (spaces_more level)) in
    ap (λ xs. xs ++ 10 ∷ [] ++ at_level level (indented lines)) deeper
    ∙ ap (λ xs. spaces (level + 1) ++ line ++ 10 ∷ [] ++ xs) (indented_at_level level lines)

-- an entry is its indentation, its mark and what is behind that
pub entry_at_level :
    (level : ℕ) (mark : Line) (node : Written) →
    at_level level (entry mark node) ≡ spaces level ++ mark ++ behind_mark level node
entry_at_level level mark (inline text) =
    append-nil (spaces level ++ (mark ++ 32 ∷ text) ++ 10 ∷ [])
    ∙ ap (λ xs. xs ++ 10 ∷ []) (sym (append_assoc (spaces level) mark (32 ∷ text)))
    ∙ append_assoc (spaces level ++ mark) (32 ∷ text) (10 ∷ [])
entry_at_level level mark (below lines) =
    append_assoc (spaces level ++ mark) (10 ∷ []) (at_level level (indented lines))
    ∙ ap (λ xs. spaces level ++ mark ++ 10 ∷ xs) (indented_at_level level lines)

-- one entry more
pub entries_more :
    {X : Type 0} (level : ℕ) (lines : X → List Line) (xs : List X) (i : ℕ) (x : X)
    (old before after : List ℕ)
    → i < length xs → x ≡ get_or xs i x
    → before ≡ old ++ at_level level (flat_map lines (take i xs)) → after ≡ before ++
    at_level level (lines x)
    → after ≡ old ++ at_level level (flat_map lines (take (i + 1) xs))
entries_more level lines xs i x old before after inside is front grown =
    let front_lines : List Line = flat_map lines (take i xs) in
    let taken : take (i + 1) xs ≡ take i xs ++ x ∷ [] = take_more xs i x inside ∙
    ap (λ y. take i xs ++ y ∷ []) (sym is) in
    let more : flat_map lines (take (i + 1) xs) ≡ front_lines ++ lines x =
    ap (flat_map lines) taken ∙ flat_map-append lines (take i xs) (x ∷ []) ∙
    ap (λ ys. front_lines ++ ys) (append-nil (lines x)) in
    let leveled : at_level level (flat_map lines (take (i + 1) xs)) ≡ at_level level front_lines ++
    at_level level (lines x) =
    ap (at_level level) more ∙ flat_map-append _ front_lines (lines x) in
    grown ∙ ap (λ ys. ys ++ at_level level (lines x)) front ∙
    append_assoc old (at_level level front_lines) (at_level level (lines x))
    ∙ ap (λ ys. old ++ ys) (sym leveled)

-- all of them
pub entries_whole :
    {X : Type 0} (level : ℕ) (lines : X → List Line) (xs : List X) (i : ℕ) (old all : List ℕ)
    → i ≡ length xs → all ≡ old ++ at_level level (flat_map lines (take i xs)) → all ≡ old ++
    at_level level (flat_map lines xs)
entries_whole level lines xs i old all end written =
    written ∙ ap (λ ys. old ++ at_level level (flat_map lines ys)) (ap (λ n. take n xs) end ∙
    take-length xs)

-- the indentation, the mark and what is behind it, one after the other
pub entry_written : (level : ℕ) (mark : Line) (node : Written) (old indented marked new : List ℕ)
    → indented ≡ old ++ spaces level → marked ≡ indented ++ mark → new ≡ marked ++
    behind_mark level node
    → new ≡ old ++ at_level level (entry mark node)
entry_written level mark node old indented marked new first second third =
    let behind : List ℕ = behind_mark level node in
    third ∙ ap (λ xs. xs ++ behind) (second ∙ ap (λ xs. xs ++ mark) first)
    ∙ ap (λ xs. xs ++ behind) (append_assoc old (spaces level) mark)
    ∙ append_assoc old (spaces level ++ mark) behind
    ∙ ap (λ xs. old ++ xs) (sym (entry_at_level level mark node))
