-- What is printed of a tree is read as that tree, up to places.
use Rattle.std.proofs.Common.{◌≡◌, ℕ, zero, suc, ◌+◌, ◌≤◌, true, false, Ok, List, [], ◌∷◌, ◌++◌}
use Rattle.std.proofs.Common.{length, map, refl, ap, ap₂, sym, subst, ◌∙◌, arith}
use Rattle.pl_base.specs.declared.place.FileKey.{FileKey}
use Rattle.pl_base.specs.declared.place.Place.{Place}
use Rattle.pl_base.specs.declared.node.Node.{Node}
use Rattle.pl_base.specs.declared.node.NodeBody.{NodeBody}
use Rattle.pl_base.specs.declared.node.NodeBody.TheVariants.{Scalar, Seq, Map}
use Rattle.pl_base.specs.declared.node.NodePair.{NodePair}
use Rattle.pl_line.specs.Rows.{Row, row_at}
use Rattle.pl_yaml.specs.Content.{content, lead}
use Rattle.pl_yaml.specs.Nodes.{node}
use Rattle.pl_yaml.specs.Spells.{document, whole_text}
use Rattle.pl_printing.specs.Printed.{Written, inline, below, lines_of, written}
use Rattle.pl_round_trip.specs.Trees.{highest, depth as deep, keys_differ, without_places}
use Rattle.pl_round_trip.proofs.Rows.{rows_behind}
use Rattle.pl_round_trip.proofs.Texts.{encoded}
use Rattle.pl_round_trip.proofs.TreeEquations.{body_cases, node_of, written_scalar}
use Rattle.pl_round_trip.proofs.TreeEquations.{written_sequence, written_mapping, depth_in_pair}
use Rattle.pl_round_trip.proofs.TreeEquations.{depth_sequence, depth_mapping, sequence_differs}
use Rattle.pl_round_trip.proofs.TreeEquations.{mapping_differs, pair_encoded, encoded_sequence}
use Rattle.pl_round_trip.proofs.TreeEquations.{encoded_mapping}
use Rattle.pl_round_trip.proofs.TreeRows.{row_from, front_lead, nothing_content, row_of_front}
use Rattle.pl_round_trip.proofs.TreeRows.{row_nothing, laid, laid_behind}
use Rattle.pl_round_trip.proofs.TreeInline.{scalar_reads, no_items_reads, no_pairs_reads}
use Rattle.pl_round_trip.proofs.TreeBlocks.{Ends, Reads}
use Rattle.pl_round_trip.proofs.TreeSequences.{AllRead, sequence_reads}
use Rattle.pl_round_trip.proofs.TreeMappings.{mapping_reads}

-- ---- any node

ReadsBody : FileKey → ℕ → Place → NodeBody → Type 0
ReadsBody file depth place body = deep (encoded (node_of place body)) ≤ depth →
    keys_differ (encoded (node_of place body)) ≡ true →
    Reads file depth (encoded (node_of place body)) (written (node_of place body))

deep_items :
    (place : Place) (items : List Node) →
    deep (encoded (node_of place (Seq items))) ≡ 1 + highest (map deep (map encoded items))
deep_items place items = ap deep (encoded_sequence place items) ∙
    depth_sequence place (map encoded items)

deep_pairs :
    (place : Place) (pairs : List NodePair) →
    deep (encoded (node_of place (Map pairs))) ≡
    1 + highest (map depth_in_pair (map pair_encoded pairs))
deep_pairs place pairs = ap deep (encoded_mapping place pairs) ∙
    depth_mapping place (map pair_encoded pairs)

scalar_any :
    (file : FileKey) (depth : ℕ) (place : Place) (text : List ℕ) →
    ReadsBody file depth place (Scalar text)
unfolding ReadsBody
scalar_any file depth place text shallow differ =
    subst (Reads file depth (encoded (node_of place (Scalar text))))
    (sym (written_scalar place text)) (scalar_reads file depth place text)

items_any :
    (file : FileKey) (depth : ℕ) (place : Place) → AllRead file depth → (items : List Node) →
    ReadsBody file (suc depth) place (Seq items)
unfolding ReadsBody
items_any file depth place all [] shallow differ =
    subst (Reads file (suc depth) (encoded (node_of place (Seq []))))
    (sym (written_sequence place [])) (no_items_reads file depth place)
items_any file depth place all (tree ∷ trees) shallow differ =
    subst (Reads file (suc depth) (encoded (node_of place (Seq (tree ∷ trees)))))
    (sym (written_sequence place (tree ∷ trees)))
    (sequence_reads file depth place tree trees all (omega (arith, deep_items place (tree ∷ trees)))
    (sym (ap keys_differ (encoded_sequence place (tree ∷ trees)) ∙
    sequence_differs place (map encoded (tree ∷ trees))) ∙ differ))

pairs_any :
    (file : FileKey) (depth : ℕ) (place : Place) → AllRead file depth → (pairs : List NodePair) →
    ReadsBody file (suc depth) place (Map pairs)
unfolding ReadsBody
pairs_any file depth place all [] shallow differ =
    subst (Reads file (suc depth) (encoded (node_of place (Map []))))
    (sym (written_mapping place [])) (no_pairs_reads file depth place)
pairs_any file depth place all (one ∷ trees) shallow differ =
    subst (Reads file (suc depth) (encoded (node_of place (Map (one ∷ trees)))))
    (sym (written_mapping place (one ∷ trees)))
    (mapping_reads file depth place one trees all (omega (arith, deep_pairs place (one ∷ trees)))
    (sym (ap keys_differ (encoded_mapping place (one ∷ trees)) ∙
    mapping_differs place (map pair_encoded (one ∷ trees))) ∙ differ))

pub all_read : (file : FileKey) (depth : ℕ) → AllRead file depth
unfolding ReadsBody
all_read file zero tree =
    body_cases (ReadsBody file zero tree.place) (scalar_any file zero tree.place)
    (λ items shallow differ. absurd (omega (arith, deep_items tree.place items)))
    (λ pairs shallow differ. absurd (omega (arith, deep_pairs tree.place pairs)))
    tree.body
all_read file (suc depth) tree =
    body_cases (ReadsBody file (suc depth) tree.place) (scalar_any file (suc depth) tree.place)
    (items_any file depth tree.place (all_read file depth))
    (pairs_any file depth tree.place (all_read file depth)) tree.body

-- ---- a whole text

-- a text is the node of these rows, which no row with content follows
whole :
    (file : FileKey) (rows left after : List Row) (made : Node) → lead rows ≡ Ok left →
    node file 64 whole_text left ≡ Ok (made, after) → content after ≡ Ok [] →
    document file rows ≡ Ok made
unfolding document
whole file rows left after made leads read nothing = rw (leads, read, nothing) refl

ends_text : (number : ℕ) → Ends 1 (row_from number 1 [] ∷ [])
unfolding content
ends_text number = ([], nothing_content number 1, refl, tt)

written_read :
    (file : FileKey) (tree : Node) (node : Written) → Reads file 64 tree node →
    (made : Node) × (document file (rows_behind 1 (lines_of node)) ≡ Ok made) ×
    (without_places file made ≡ without_places file tree)
written_read file tree (inline text) reads =
    let rest : List Row = row_from 2 1 [] ∷ [] in
    let read = reads.2 1 1 1 1 0 false rest (omega arith) in
    let rows : row_at 1 text ∷ (row_at 2 [] ∷ []) ≡ row_from 1 1 text ∷ rest =
    ap₂ (λ row last. row ∷ (last ∷ [])) (row_of_front 1 text reads.0 reads.1) (row_nothing 2) in (
      read.0,
      ap (document file) rows ∙ whole file (row_from 1 1 text ∷ rest) (row_from 1 1 text ∷
          rest) rest read.0 (front_lead 1 1 text rest reads.0) read.1 (nothing_content 2 1),
      read.2,
    )
written_read file tree (below lines) reads =
    let last : ℕ = 1 + length lines in
    let rest : List Row = row_from last 1 [] ∷ [] in
    let read = reads.0 1 0 1 1 0 false rest (omega arith) (ends_text last) in
    let rows : rows_behind 1 lines ≡ laid 1 0 lines ++ rest = laid_behind 1 lines ∙
    ap (λ row. laid 1 0 lines ++ row ∷ []) (row_nothing last) in (
      read.0,
      ap (document file) rows ∙ whole file (laid 1 0 lines ++ rest) (laid 1 0 lines ++ rest)
          read.1 read.0 (reads.1 1 0 rest) read.2 (read.3 ∙ nothing_content last 1),
      read.4,
    )

pub document_reads :
    (file : FileKey) (tree : Node) → deep (encoded tree) ≤ 64 → keys_differ (encoded tree) ≡ true
    → (made : Node) × (document file (rows_behind 1 (lines_of (written tree))) ≡ Ok made) ×
    (without_places file made ≡ without_places file (encoded tree))
document_reads file tree shallow differ = written_read file (encoded tree) (written tree)
    (all_read file 64 tree shallow differ)
