-- Scalars and empty collections, which stand on the line that they begin on.
use Rattle.std.proofs.Common.{◌≡◌, ℕ, suc, ◌+◌, ◌<◌, Bool, true, Option, Ok, List, [], ◌∷◌, length}
use Rattle.std.proofs.Common.{drop, refl, ap, sym, ◌∙◌}
use Rattle.std.specs.Prelude.{encode_utf8_all}
use Rattle.std.proofs.lemmas.Bool.{lt-ltb}
use Rattle.std.proofs.lemmas.List.{append-nil}
use Rattle.pl_base.specs.declared.place.FileKey.{FileKey}
use Rattle.pl_base.specs.declared.place.Place.{Place}
use Rattle.pl_base.specs.Places.{place_at}
use Rattle.pl_base.specs.declared.node.Node.{Node}
use Rattle.pl_base.specs.declared.node.NodeBody.TheVariants.{Scalar, Seq, Map}
use Rattle.pl_line.specs.Rows.{Row}
use Rattle.pl_line.specs.Left.{behind}
use Rattle.pl_reading.specs.Steps.{◌>>=◌}
use Rattle.pl_line.specs.Trees.{node_at}
use Rattle.pl_line.specs.Quoted as reading
use Rattle.pl_yaml.specs.Reading.{Read}
use Rattle.pl_yaml.specs.Heads.{head_at}
use Rattle.pl_yaml.specs.Inline.{quoted_node, flow_node, with_left, inline}
use Rattle.pl_yaml.specs.Nodes.{Values, node, node_in, inner, begun, begun_quoted, begun_flow}
use Rattle.pl_printing.specs.Printed.{quoted}
use Rattle.pl_round_trip.specs.Trees.{without_places}
use Rattle.pl_round_trip.proofs.Quotes.{quoted_reads, quoted_spans}
use Rattle.pl_round_trip.proofs.Rows.{is_clean, quoted_is_clean}
use Rattle.pl_round_trip.proofs.Texts.{encoded}
use Rattle.pl_round_trip.proofs.TreeEquations.{node_of, encoded_scalar, encoded_sequence}
use Rattle.pl_round_trip.proofs.TreeEquations.{encoded_mapping, without_scalar, without_sequence}
use Rattle.pl_round_trip.proofs.TreeEquations.{without_mapping}
use Rattle.pl_round_trip.proofs.TreeRows.{row_from, IsFront, quote, no_items, no_pairs}
use Rattle.pl_round_trip.proofs.TreeRows.{front_content, behind_at, flow_no_items, flow_no_pairs}

-- the node that stands there: its place where it is empty, the column of the block that holds it,
-- and whether it is a key's own
abbrev pub node_held : FileKey → ℕ → ℕ → ℕ → ℕ → Bool → List Row → Read Node
node_held file depth line at parent own rows =
    node file depth (record { line = line; column = at; parent = parent; own = own }) rows

-- a node was read that is this one up to places, and these rows are left
abbrev pub ReadsTo : FileKey → Node → Read Node → List Row → Type 0
ReadsTo file tree read rest = (made : Node) × (read ≡ Ok (made, rest)) ×
    (without_places file made ≡ without_places file tree)

-- a text on one line is read as a node, at any row that it is what is left of
abbrev pub ReadsInline : FileKey → ℕ → Node → List ℕ → Type 0
ReadsInline file depth tree text =
    IsFront text
    × (is_clean text ≡ true)
    × ((number column line at parent : ℕ) (own : Bool) (rest : List Row) → parent < column →
    ReadsTo file tree (node_held file depth line at parent own (row_from number column text ∷
    rest)) rest)
    × ((number column parent : ℕ) (rest : List Row) →
    ReadsTo file tree (inline file depth parent (row_from number column text) rest) rest)

-- ---- what begins at a row

pub node_begun :
    (file : FileKey) (depth number column line at parent : ℕ) (own : Bool) (text : List ℕ)
    (rest : List Row) →
    IsFront text → parent < column
    → node_held file depth line at parent own (row_from number column text ∷ rest) ≡
    begun file depth (inner file depth) parent (row_from number column text)
    (row_from number column text ∷ rest)
unfolding node
node_begun file depth number column line at parent own text rest front deeper =
    ap (λ rows. rows >>= node_in file depth (inner file depth)
    (record { line = line; column = at; parent = parent; own = own }))
    (front_content number column text rest front)
    ∙ rw (lt-ltb parent column deeper) refl

-- ---- scalars

scalar_node :
    (file : FileKey) (values : Option Values) (number column n : ℕ) (text bytes : List ℕ)
    (rows : List Row) →
    behind n (row_from number column text) ≡ row_from number (column + n) []
    → begun_quoted file values (row_from number column text) rows (bytes, n) ≡
    Ok (node_at file (row_from number column text) (Scalar bytes), drop 1 rows)
scalar_node file values number column n text bytes rows left = rw left refl

scalar_value :
    (file : FileKey) (number column n : ℕ) (text bytes : List ℕ) →
    behind n (row_from number column text) ≡ row_from number (column + n) []
    → quoted_node file (row_from number column text) (bytes, n) ≡
    Ok (node_at file (row_from number column text) (Scalar bytes))
scalar_value file number column n text bytes left = rw left refl

module _ (file : FileKey) (number column : ℕ) (cs : List ℕ) where
  scalar_read : reading.quoted (row_from number column (quoted cs)) ≡
      Ok (encode_utf8_all cs, length (quoted cs))
  scalar_read = ap (λ text. reading.quoted (row_from number column text))
      (sym (append-nil (quoted cs))) ∙ quoted_reads number column cs [] true

  scalar_left : behind (length (quoted cs)) (row_from number column (quoted cs)) ≡
      row_from number (column + length (quoted cs)) []
  scalar_left = behind_at (length (quoted cs)) number column (quoted cs) []
      (ap (drop (length (quoted cs))) (sym (append-nil (quoted cs))) ∙ quoted_spans cs []) refl

  scalar_begun : (depth parent : ℕ) (values : Option Values) (rows : List Row)
      → begun file depth values parent (row_from number column (quoted cs)) rows ≡
      Ok (
        node_at file (row_from number column (quoted cs)) (Scalar (encode_utf8_all cs)),
        drop 1 rows,
      )
  unfolding begun head_at
  scalar_begun depth parent values rows =
      ap (λ read. read >>= begun_quoted file values (row_from number column (quoted cs)) rows)
      scalar_read
      ∙ scalar_node file values number column (length (quoted cs)) (quoted cs) (encode_utf8_all cs)
      rows scalar_left

  scalar_inline : (depth parent : ℕ) (rows : List Row)
      → inline file depth parent (row_from number column (quoted cs)) rows ≡
      Ok (node_at file (row_from number column (quoted cs)) (Scalar (encode_utf8_all cs)), rows)
  unfolding inline head_at
  scalar_inline depth parent rows =
      ap (with_left rows)
      (ap (λ read. read >>= quoted_node file (row_from number column (quoted cs))) scalar_read
      ∙ scalar_value file number column (length (quoted cs)) (quoted cs) (encode_utf8_all cs)
      scalar_left)

scalar_same :
    (file : FileKey) (at place : Place) (cs : List ℕ) →
    without_places file (node_of at (Scalar (encode_utf8_all cs))) ≡
    without_places file (encoded (node_of place (Scalar cs)))
scalar_same file at place cs =
    without_scalar file at (encode_utf8_all cs) ∙
    sym (without_scalar file place (encode_utf8_all cs)) ∙
    sym (ap (without_places file) (encoded_scalar place cs))

pub scalar_reads :
    (file : FileKey) (depth : ℕ) (place : Place) (cs : List ℕ) →
    ReadsInline file depth (encoded (node_of place (Scalar cs))) (quoted cs)
scalar_reads file depth place cs = (
  quote _,
  quoted_is_clean cs,
  λ number column line at parent own rest deeper. (
    node_at file (row_from number column (quoted cs)) (Scalar (encode_utf8_all cs)),
    node_begun file depth number column line at parent own (quoted cs) rest (quote _) deeper ∙
        scalar_begun file number column cs depth parent (inner file depth)
        (row_from number column (quoted cs) ∷ rest),
    scalar_same file (place_at file number column) place cs,
  ),
  λ number column parent rest. (
    node_at file (row_from number column (quoted cs)) (Scalar (encode_utf8_all cs)),
    scalar_inline file number column cs depth parent rest,
    scalar_same file (place_at file number column) place cs,
  ),
)

-- ---- empty collections

module _ (file : FileKey) (depth number column parent : ℕ) (rows : List Row) where
  no_items_begun : (values : Option Values)
      → begun file (suc depth) values parent (row_from number column (91 ∷ 93 ∷ [])) rows ≡
      Ok (node_at file (row_from number column (91 ∷ 93 ∷ [])) (Seq []), drop 1 rows)
  unfolding begun head_at behind
  no_items_begun values =
      ap (λ read. with_left (drop 1 rows) (read >>=
      begun_flow (row_from number column (91 ∷ 93 ∷ [])))) (flow_no_items file depth number column)

  no_pairs_begun : (values : Option Values)
      → begun file (suc depth) values parent (row_from number column (123 ∷ 125 ∷ [])) rows ≡
      Ok (node_at file (row_from number column (123 ∷ 125 ∷ [])) (Map []), drop 1 rows)
  unfolding begun head_at behind
  no_pairs_begun values =
      ap (λ read. with_left (drop 1 rows) (read >>=
      begun_flow (row_from number column (123 ∷ 125 ∷ []))))
      (flow_no_pairs file depth number column)

  no_items_inline : inline file (suc depth) parent (row_from number column (91 ∷ 93 ∷ [])) rows ≡
      Ok (node_at file (row_from number column (91 ∷ 93 ∷ [])) (Seq []), rows)
  unfolding inline head_at behind
  no_items_inline =
      ap (λ read. with_left rows (read >>= flow_node (row_from number column (91 ∷ 93 ∷ []))))
      (flow_no_items file depth number column)

  no_pairs_inline : inline file (suc depth) parent (row_from number column (123 ∷ 125 ∷ [])) rows ≡
      Ok (node_at file (row_from number column (123 ∷ 125 ∷ [])) (Map []), rows)
  unfolding inline head_at behind
  no_pairs_inline =
      ap (λ read. with_left rows (read >>= flow_node (row_from number column (123 ∷ 125 ∷ []))))
      (flow_no_pairs file depth number column)

no_items_same :
    (file : FileKey) (at place : Place) →
    without_places file (node_of at (Seq [])) ≡
    without_places file (encoded (node_of place (Seq [])))
no_items_same file at place = without_sequence file at [] ∙ sym (without_sequence file place []) ∙
    sym (ap (without_places file) (encoded_sequence place []))

no_pairs_same :
    (file : FileKey) (at place : Place) →
    without_places file (node_of at (Map [])) ≡
    without_places file (encoded (node_of place (Map [])))
no_pairs_same file at place = without_mapping file at [] ∙ sym (without_mapping file place []) ∙
    sym (ap (without_places file) (encoded_mapping place []))

pub no_items_reads :
    (file : FileKey) (depth : ℕ) (place : Place) →
    ReadsInline file (suc depth) (encoded (node_of place (Seq []))) (91 ∷ 93 ∷ [])
no_items_reads file depth place = (
  no_items,
  refl,
  λ number column line at parent own rest deeper. (
    node_at file (row_from number column (91 ∷ 93 ∷ [])) (Seq []),
    node_begun file (suc depth) number column line at parent own (91 ∷ 93 ∷ []) rest no_items deeper
        ∙ no_items_begun file depth number column parent (row_from number column (91 ∷ 93 ∷ []) ∷
        rest) (inner file (suc depth)),
    no_items_same file (place_at file number column) place,
  ),
  λ number column parent rest. (
    node_at file (row_from number column (91 ∷ 93 ∷ [])) (Seq []),
    no_items_inline file depth number column parent rest,
    no_items_same file (place_at file number column) place,
  ),
)

pub no_pairs_reads :
    (file : FileKey) (depth : ℕ) (place : Place) →
    ReadsInline file (suc depth) (encoded (node_of place (Map []))) (123 ∷ 125 ∷ [])
no_pairs_reads file depth place = (
  no_pairs,
  refl,
  λ number column line at parent own rest deeper. (
    node_at file (row_from number column (123 ∷ 125 ∷ [])) (Map []),
    node_begun file (suc depth) number column line at parent own (123 ∷ 125 ∷ []) rest no_pairs
        deeper
        ∙ no_pairs_begun file depth number column parent (row_from number column (123 ∷ 125 ∷ []) ∷
        rest) (inner file (suc depth)),
    no_pairs_same file (place_at file number column) place,
  ),
  λ number column parent rest. (
    node_at file (row_from number column (123 ∷ 125 ∷ [])) (Map []),
    no_pairs_inline file depth number column parent rest,
    no_pairs_same file (place_at file number column) place,
  ),
)
