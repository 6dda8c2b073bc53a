-- Rows that are passed over.
use Rattle.std.proofs.Common.{◌≡◌, true, cond, Ok, List, ◌∷◌, refl, ap, ◌∙◌, [], ◌++◌, subst}
use Rattle.std.specs.List.{AllByRecursion}
use Rattle.std.proofs.lemmas.Bool.{or_left}
use Rattle.pl_base.specs.declared.place.FileKey.{FileKey}
use Rattle.pl_line.specs.Rows.{Row}
use Rattle.pl_line.specs.Left.{line_end, is_empty}
use Rattle.pl_reading.specs.Steps.{◌>>=◌}
use Rattle.pl_yaml.specs.Reading.{many, many_step}
use Rattle.pl_yaml.specs.Heads.{is_start}
use Rattle.pl_yaml.specs.Content.{begins, stands, content, lead}
use Rattle.pl_yaml.specs.Keys.{key_in, next_key}
use Rattle.pl_yaml.specs.Nodes.{below, item_in, next_item, pair, inner, node_in, node}
use Rattle.pl_yaml.specs.Spells.{whole_text, nothing_left, document, placed}
use Rattle.pl_yaml_laws.specs.EmptyLines.{IsPassedOver, PassedOverInDocuments, PassedOverInTexts}
use Rattle.pl_yaml_laws.specs.EmptyLines.{PassedOverBeforeNodes, PassedOverBeforeItems}
use Rattle.pl_yaml_laws.specs.EmptyLines.{PassedOverBeforePairs}
use Rattle.pl_yaml_laws.proofs.Texts.{spelled_is}
use Rattle.pl_yaml_laws.proofs.Fronts.{rows_before, rows_behind, front_rows}

ended : (row : Row) → row.whole ≡ true → line_end row ≡ Ok tt
ended row whole = rw whole refl

in_content : (row : Row) (rows : List Row) → IsPassedOver row → content (row ∷ rows) ≡ content rows
unfolding content
in_content row rows is =
    ap (λ b. cond b (line_end row >>= λ _. content rows) (stands row >>= λ _. Ok (row ∷ rows))) is.0
    ∙ ap (λ end. end >>= λ _. content rows) (ended row is.1)

in_lead : (row : Row) (rows : List Row) → IsPassedOver row → lead (row ∷ rows) ≡ lead rows
unfolding lead
in_lead row rows is =
    ap (λ b. cond b (line_end row >>= λ _. lead rows) (begins row >>= λ _. Ok (row ∷ rows)))
    (or_left (is_empty row) (is_start row) is.0)
    ∙ ap (λ end. end >>= λ _. lead rows) (ended row is.1)

pub in_documents : PassedOverInDocuments
unfolding document
in_documents file row rows is =
    ap (λ read. read >>= λ left. node file 64 whole_text left >>= λ read. content read.1
    >>= λ rest. nothing_left rest >>= λ _. Ok read.0) (in_lead row rows is)

all_front : (P : Row → Type 0) (front rows : List Row) → AllByRecursion P (front ++ rows)
    → AllByRecursion P front
all_front P [] rows all = tt
all_front P (row ∷ front) rows all = (all.0, all_front P front rows all.1)

all_passed : (file : FileKey) (front rows : List Row) → AllByRecursion IsPassedOver front
    → document file (front ++ rows) ≡ document file rows
all_passed file [] rows all = refl
all_passed file (row ∷ front) rows all =
    in_documents file row (front ++ rows) all.0 ∙ all_passed file front rows all.1

pub in_texts : PassedOverInTexts
in_texts file front text is all =
    let passed = all_front IsPassedOver (rows_before front) (rows_behind front [])
    (subst (AllByRecursion IsPassedOver) (front_rows front []) all) in
    spelled_is file (front ++ 10 ∷ text) is
    ∙ ap (λ rows. placed file (document file rows)) (front_rows front text)
    ∙ ap (placed file) (all_passed file (rows_before front) (rows_behind front text) passed)

pub before_nodes : PassedOverBeforeNodes
unfolding node
before_nodes file depth own begun row rows is =
    ap (λ read. read >>= node_in file depth (inner file depth) (below own begun))
    (in_content row rows is)

pub before_items : PassedOverBeforeItems
unfolding many next_item
before_items entry parent column turns before row rows is =
    ap (λ read. read >>= item_in parent column
    >>= λ found. many_step
    (many (next_item parent column) (λ _ row left. entry row left) turns)
    (λ _ row left. entry row left) before found.0 found.1)
    (in_content row rows is)

pub before_pairs : PassedOverBeforePairs
unfolding many next_key
before_pairs file values column turns before row rows is =
    ap (λ read. read >>= key_in file values.depth column
    >>= λ found. many_step (many (next_key file values.depth column) (pair file values) turns)
    (pair file values) before found.0 found.1)
    (in_content row rows is)
