-- What a node, its body and its parts are written as.
use Rattle.std.proofs.Common.{◌≡◌, ℕ, Bool, true, false, List, [], ◌∷◌, ◌++◌, map, codes, refl, ap}
use Rattle.std.proofs.Common.{sym, ◌∙◌, append_assoc, rules}
use Rattle.std.specs.Prelude.{◌↔◌, IsTrue}
use Rattle.std.specs.List.{flat_map}
use Rattle.std.proofs.lemmas.List.Folds.{flat_map-map}
use Rattle.std.proofs.lemmas.Bool.{false≢true}
use Rattle.pl_base.specs.declared.node.Node.{Node}
use Rattle.pl_base.specs.declared.node.NodeBody.{NodeBody, the_lemmas}
use Rattle.pl_base.specs.declared.node.NodeBody.TheVariants.{Seq, Map}
use Rattle.pl_base.specs.declared.node.NodePair.{NodePair}
use Rattle.pl_printing.specs.Printed.{Line, item_entry, pair_entry, quoted, sequence_of, mapping_of}
use Rattle.pl_printing.specs.Printed.{lines_of, written, written_body, written_pair}
use Rattle.pl_printing.specs.Levels.{spaces, at_level, behind_mark, is_inline}
use Rattle.pl_printing.proofs.Entries.{entry_written}

pub node_written : (node : Node) → written node ≡ written_body node.body
node_written node = search (rules, the_lemmas)

pub pair_written : (pair : NodePair) → written_pair pair ≡ pair_entry pair.key (written pair.item)
pair_written pair = search (rules, the_lemmas)

pub sequence_written :
    (items : List Node) → written_body (Seq items) ≡ sequence_of (map written items)
sequence_written items = search (rules, the_lemmas)

pub mapping_written :
    (pairs : List NodePair) → written_body (Map pairs) ≡ mapping_of (map written_pair pairs)
mapping_written pairs = search (rules, the_lemmas)

-- the lines of an item of a sequence
abbrev pub item_lines : Node → List Line
item_lines node = item_entry (written node)

pub sequence_lines :
    (items : List Node) → (items ≡ [] → ⊥) →
    lines_of (sequence_of (map written items)) ≡ flat_map item_lines items
sequence_lines [] some = absurd (some refl)
sequence_lines (item ∷ items) some = flat_map-map item_entry written (item ∷ items)

pub mapping_lines :
    (pairs : List NodePair) → (pairs ≡ [] → ⊥) →
    lines_of (mapping_of (map written_pair pairs)) ≡ flat_map written_pair pairs
mapping_lines [] some = absurd (some refl)
mapping_lines (pair ∷ pairs) some = flat_map-map (λ entry. entry) written_pair (pair ∷ pairs)

-- a collection is one text exactly where it is empty
pub sequence_inline :
    (items : List Node) (empty : Bool) → IsTrue empty ↔ (items ≡ []) →
    empty ≡ is_inline (sequence_of (map written items))
sequence_inline [] empty h = h.1 refl
sequence_inline (item ∷ items) false h = refl
sequence_inline (item ∷ items) true h = let none : item ∷ items ≡ [] = h.0 refl in cc

pub mapping_inline :
    (pairs : List NodePair) (empty : Bool) → IsTrue empty ↔ (pairs ≡ []) →
    empty ≡ is_inline (mapping_of (map written_pair pairs))
mapping_inline [] empty h = h.1 refl
mapping_inline (pair ∷ pairs) false h = refl
mapping_inline (pair ∷ pairs) true h = let none : pair ∷ pairs ≡ [] = h.0 refl in cc

-- the indentation, the key, the colon and what is behind it, one after the other
pub key_written : (level : ℕ) (pair : NodePair) (key old indented keyed marked new : List ℕ)
    → key ≡ pair.key → indented ≡ old ++ spaces level → keyed ≡ indented ++ quoted key →
    marked ≡ keyed ++ 58 ∷ []
    → new ≡ marked ++ behind_mark level (written pair.item) → new ≡ old ++
    at_level level (written_pair pair)
key_written level pair key old indented keyed marked new is first second third fourth =
    let mark : marked ≡ indented ++ (quoted pair.key ++ codes ":") =
    third ∙ ap (λ xs. xs ++ 58 ∷ []) (second ∙ ap (λ k. indented ++ quoted k) is) ∙
    append_assoc indented (quoted pair.key) (58 ∷ []) in
    entry_written level (quoted pair.key ++ codes ":") (written pair.item) old indented marked new
    first mark fourth
    ∙ ap (λ lines. old ++ at_level level lines) (sym (pair_written pair))
