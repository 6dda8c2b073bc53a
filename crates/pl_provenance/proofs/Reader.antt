-- A node that is read of a file names that file at each of its places.
use Rattle.std.proofs.Common.{ℕ, zero, suc, Bool, true, false, cond, Option, Some, None}
use Rattle.std.proofs.Common.{Result, Ok, Err, List, [], ◌∷◌, ◌++◌, refl}
use Rattle.std.specs.Prelude.{IfOk, length, not, nat_lt, chars, drop, ◌+◌, ◌==◌, ◌&&◌, ◌||◌}
use Rattle.std.specs.Str.{is_utf8}
use Rattle.std.specs.List.{AllByRecursion as Each}
use Rattle.pl_base.specs.Places.{place_at}
use Rattle.pl_base.specs.declared.node.Node.{Node}
use Rattle.pl_base.specs.declared.node.NodeBody.TheVariants as written
use Rattle.pl_base.specs.declared.node.NodePair.{NodePair}
use Rattle.pl_base.specs.declared.place.FileKey.{FileKey}
use Rattle.pl_base.specs.declared.place.Place.{Place}
use Rattle.pl_reading.specs.Bytes.{begins_with}
use Rattle.pl_reading.specs.Steps.{◌>>=◌}
use Rattle.pl_line.specs.declared.line_fault.Fault.{Fault}
use Rattle.pl_line.specs.Flow as flows
use Rattle.pl_line.specs.Flow.{FlowRead}
use Rattle.pl_line.specs.Left.{behind, is_done, line_end, spaces_only}
use Rattle.pl_line.specs.Quoted.{quoted}
use Rattle.pl_line.specs.Rows.{Row, size, rows_of}
use Rattle.pl_line.specs.Scanning.{ends_word, plain_len, is_stray}
use Rattle.pl_line.specs.Trees.{node_at, is_doubled}
use Rattle.pl_yaml.specs.BlockScalars.{content_column, lines, block}
use Rattle.pl_yaml.specs.Content.{content, closed, lead}
use Rattle.pl_yaml.specs.Heads.{head_at, is_quote, is_bracket, is_block}
use Rattle.pl_yaml.specs.Inline.{quoted_node, flow_node, with_left, inline_by, inline}
use Rattle.pl_yaml.specs.Keys.{FoundKey, is_colon, next_key}
use Rattle.pl_yaml.specs.Nodes as nodes
use Rattle.pl_yaml.specs.Nodes.{Values, Holder}
use Rattle.pl_yaml.specs.Plain.{behind_line, word}
use Rattle.pl_yaml.specs.Reading.{Read, many_step, many}
use Rattle.pl_yaml.specs.Spells.{whole_text, nothing_left, document, placed, spells}
use Rattle.pl_origins.specs.Places.{places_of}
use Rattle.pl_origins.proofs.Nodes.{site, NodeIn, PairIn, scalar_made, seq_made, map_made}
use Rattle.pl_origins.proofs.Nodes.{pair_made}
use Rattle.pl_eval_laws.proofs.Lists.{each_append}
use Rattle.pl_provenance.specs.Reader.{NamesFile, ReadersNameTheirFile}

-- ---- steps

ok_then :
    {A B E : Type 0} (Q : A → Type 0) (S : B → Type 0) (step : Result A E)
    (next : A → Result B E) → IfOk step Q → ((x : A) → Q x → IfOk (next x) S) →
    IfOk (step >>= next) S
ok_then Q S (Ok x) next holds goes = goes x holds
ok_then Q S (Err fault) next holds goes = tt

any_then :
    {A B E : Type 0} (S : B → Type 0) (step : Result A E) (next : A → Result B E) →
    ((x : A) → IfOk (next x) S) → IfOk (step >>= next) S
any_then S (Ok x) next goes = goes x
any_then S (Err fault) next goes = tt

either :
    {X E : Type 0} (Q : X → Type 0) (b : Bool) (one other : Result X E) → IfOk one Q →
    IfOk other Q → IfOk (cond b one other) Q
either Q true one other first second = first
either Q false one other first second = second

-- of either of two, so of the one that a test takes
through :
    {H : Type 0} (Q : H → Type 0) (b : Bool) (one other : H) → Q one → Q other →
    Q (cond b one other)
through Q true one other first second = first
through Q false one other first second = second

module _ (file : FileKey) where
  abbrev Here : Place → Type 0
  Here = NamesFile file

  abbrev NodeHere : Node → Type 0
  NodeHere = NodeIn (site Here)

  abbrev PairHere : NodePair → Type 0
  PairHere = PairIn (site Here)

  -- a node, and what is left behind it
  abbrev ReadHere : {X : Type 0} → Node × X → Type 0
  ReadHere read = NodeHere read.0

  scalar_at : (line column : ℕ) (text : List ℕ) →
      NodeHere (record { place = place_at file line column; body = written.Scalar text })
  scalar_at line column text = scalar_made Here (place_at file line column) text refl

  -- ---- flow collections

  abbrev FlowHere : (Row → FlowRead Node) → Type 0
  FlowHere reader = (row : Row) → IfOk (reader row) ReadHere

  entries_here :
      {A : Type 0} (Q : A → Type 0) (close : ℕ) (one : List A → Row → FlowRead A) →
      ((before : List A) (row : Row) → IfOk (one before row) (λ read. Q read.0)) → (turns : ℕ)
      (before : List A) (row : Row) → Each Q before →
      IfOk (flows.entries close one turns before row) (λ read. Each Q read.0)
  unfolding flows.entries
  entries_here Q close one reads zero before row all = all
  entries_here Q close one reads (suc turns) before row all =
      either (λ read. Each Q read.0) (begins_with close row.text) (Ok (before, row)) _ all
      (ok_then (λ read. Q read.0) (λ read. Each Q read.0) (one before row) _ (reads before row)
      (λ next is. any_then (λ read. Each Q read.0) (flows.separated close next.1) _
      (λ left. entries_here Q close one reads turns (before ++ next.0 ∷ []) left
      (each_append Q before (next.0 ∷ []) all (is, tt)))))

  module _ (reader : Row → FlowRead Node) (reads : FlowHere reader) where
    -- a scalar, or nothing, whatever begins there
    scalar_here : (row : Row) (read : FlowRead (List ℕ)) →
        IfOk (read >>= λ read. Ok (node_at file row (written.Scalar read.0), read.1)) ReadHere
    scalar_here row read =
        any_then ReadHere read _ (λ read. scalar_at row.number row.column read.0)

    head_here : (row : Row) (whole : Bool) (text : List ℕ) →
        IfOk (flows.value_by file reader row (flows.head_at whole text)) ReadHere
    unfolding flows.head_at
    head_here row whole [] = scalar_here row _
    head_here row whole (c ∷ cs) =
        through (λ head. IfOk (flows.value_by file reader row head) ReadHere) (c == 91 || c == 123)
        _ _ (ok_then ReadHere ReadHere (reader row) _ (reads row) (λ read here. here))
        (through (λ head. IfOk (flows.value_by file reader row head) ReadHere)
        (c == 39 || c == 34) _ _ (scalar_here row _)
        (through (λ head. IfOk (flows.value_by file reader row head) ReadHere)
        (c == 38 || c == 42) _ _ (scalar_here row _)
        (through (λ head. IfOk (flows.value_by file reader row head) ReadHere) (c == 33) _ _
        (scalar_here row _)
        (through (λ head. IfOk (flows.value_by file reader row head) ReadHere)
        (c == 63 && ends_word whole cs) _ _ (scalar_here row _)
        (through (λ head. IfOk (flows.value_by file reader row head) ReadHere)
        (flows.is_stray whole c cs) _ _ (scalar_here row _) (scalar_here row _))))))

    value_here : (row : Row) → IfOk (flows.value file reader row) ReadHere
    unfolding flows.value
    value_here row = head_here row row.whole row.text

    item_here : (at row : Row) → IfOk (flows.item file reader at row) ReadHere
    unfolding flows.item
    item_here at row =
        either ReadHere (begins_with 44 row.text || begins_with 125 row.text)
        (Ok (node_at file at (written.Scalar []), row)) _ (scalar_at at.number at.column [])
        (value_here row)

    flow_pair_here : (before : List NodePair) (row : Row) →
        IfOk (flows.pair file reader before row) (λ read. PairHere read.0)
    unfolding flows.pair
    flow_pair_here before row =
        any_then (λ read. PairHere read.0) (flows.key reader row) _
        (λ key. either (λ read. PairHere read.0) (is_doubled key.0 before) (Err _) _ tt
        (ok_then ReadHere (λ read. PairHere read.0) (flows.item file reader row key.1) _
        (item_here row key.1)
        (λ read here. pair_made Here key.0 (place_at file row.number row.column) read.0 refl here)))

    collection_here : FlowHere (flows.collection file (Some reader))
    unfolding flows.collection flows.gathered
    collection_here row =
        either ReadHere (begins_with 91 row.text) (flows.sequence file reader row) _
        (ok_then (λ read. Each NodeHere read.0) ReadHere
        (flows.entries 93 (λ _ left. flows.value file reader left) (length row.text) []
        (behind 1 row)) _
        (entries_here NodeHere 93 (λ _ left. flows.value file reader left)
        (λ before left. value_here left) (length row.text) [] (behind 1 row) tt)
        (λ read all. seq_made Here (place_at file row.number row.column) read.0 refl all))
        (ok_then (λ read. Each PairHere read.0) ReadHere
        (flows.entries 125 (flows.pair file reader) (length row.text) [] (behind 1 row)) _
        (entries_here PairHere 125 (flows.pair file reader) flow_pair_here (length row.text) []
        (behind 1 row) tt)
        (λ read all. map_made Here (place_at file row.number row.column) read.0 refl all))

  flow_inner : (depth : ℕ) → FlowHere (flows.collection file (flows.inner file depth))
  unfolding flows.inner flows.collection
  flow_inner zero row = tt
  flow_inner (suc depth) row =
      collection_here (flows.collection file (flows.inner file depth)) (flow_inner depth) row

  flow_here : (depth : ℕ) (row : Row) → IfOk (flows.flow file depth row) ReadHere
  unfolding flows.flow
  flow_here depth row =
      either ReadHere (begins_with 91 row.text || begins_with 123 row.text) _ (Err _)
      (ok_then ReadHere ReadHere (flows.node file depth row) _ (flow_inner depth row)
      (λ read here. here)) tt

  -- ---- nodes on one line

  word_here : (parent : ℕ) (row : Row) (n : ℕ) (rows : List Row) →
      IfOk (word file parent row n rows) ReadHere
  word_here parent row n rows =
      any_then ReadHere (line_end row) _
      (λ none. any_then ReadHere (behind_line parent row n rows) _
      (λ read. scalar_at row.number row.column _))

  block_here : (parent : ℕ) (row : Row) (rows : List Row) →
      IfOk (block file parent row rows) ReadHere
  unfolding block
  block_here parent row rows =
      any_then ReadHere (closed _ row) _
      (λ none. any_then ReadHere (content_column parent _ rows) _
      (λ column. any_then ReadHere (lines column rows) _
      (λ read. scalar_at row.number row.column _)))

  with_left_here :
      (rows : List Row) (read : Result Node Fault) → IfOk read NodeHere →
      IfOk (with_left rows read) ReadHere
  with_left_here rows read here = ok_then NodeHere ReadHere read _ here (λ made is. is)

  quoted_here : (row : Row) (read : List ℕ × ℕ) → IfOk (quoted_node file row read) NodeHere
  quoted_here row read =
      any_then NodeHere (closed read.1 row) _ (λ none. scalar_at row.number row.column read.0)

  flow_node_here : (row : Row) (read : Node × ℕ) → NodeHere read.0 →
      IfOk (flow_node row read) NodeHere
  flow_node_here row read here = any_then NodeHere (closed read.1 row) _ (λ none. here)

  inline_at : (depth parent : ℕ) (row : Row) (rows : List Row) (whole : Bool) (text : List ℕ) →
      IfOk (inline_by file depth parent row (head_at whole text) rows) ReadHere
  unfolding head_at
  inline_at depth parent row rows whole [] = tt
  inline_at depth parent row rows whole (c ∷ cs) =
      through (λ head. IfOk (inline_by file depth parent row head rows) ReadHere)
      (c == 45 && ends_word whole cs) _ _ tt
      (through (λ head. IfOk (inline_by file depth parent row head rows) ReadHere)
      (c == 63 && ends_word whole cs) _ _ tt
      (through (λ head. IfOk (inline_by file depth parent row head rows) ReadHere)
      (c == 38 || c == 42) _ _ tt
      (through (λ head. IfOk (inline_by file depth parent row head rows) ReadHere) (c == 33) _ _ tt
      (through (λ head. IfOk (inline_by file depth parent row head rows) ReadHere) (is_quote c) _ _
      (with_left_here rows (quoted row >>= quoted_node file row)
      (any_then NodeHere (quoted row) _ (λ read. quoted_here row read)))
      (through (λ head. IfOk (inline_by file depth parent row head rows) ReadHere)
      (is_bracket c) _ _
      (with_left_here rows (flows.flow file depth row >>= flow_node row)
      (ok_then ReadHere NodeHere (flows.flow file depth row) _ (flow_here depth row)
      (λ read here. flow_node_here row read here)))
      (through (λ head. IfOk (inline_by file depth parent row head rows) ReadHere)
      (is_block c) _ _ (block_here parent row rows)
      (through (λ head. IfOk (inline_by file depth parent row head rows) ReadHere)
      (is_stray c || c == 58 && ends_word whole cs) _ _ tt
      (through (λ head. IfOk (inline_by file depth parent row head rows) ReadHere)
      (begins_with 58 (drop (plain_len whole false (c ∷ cs)) (c ∷ cs))) _ _ tt
      (word_here parent row (plain_len whole false (c ∷ cs)) rows)))))))))

  inline_here : (depth parent : ℕ) (row : Row) (rows : List Row) →
      IfOk (inline file depth parent row rows) ReadHere
  unfolding inline
  inline_here depth parent row rows = inline_at depth parent row rows row.whole row.text

  -- ---- block collections

  step_here :
      {X A : Type 0} (Q : A → Type 0) (one : List A → X → List Row → Read A) →
      ((before : List A) (x : X) (rows : List Row) → IfOk (one before x rows) (λ read. Q read.0)) →
      (more : List A → List Row → Read (List A)) →
      ((before : List A) (rows : List Row) → Each Q before →
      IfOk (more before rows) (λ read. Each Q read.0)) →
      (before : List A) (found : Option X) (rows : List Row) → Each Q before →
      IfOk (many_step more one before found rows) (λ read. Each Q read.0)
  step_here Q one reads more goes before None rows all = all
  step_here Q one reads more goes before (Some x) rows all =
      ok_then (λ read. Q read.0) (λ read. Each Q read.0) (one before x rows) _
      (reads before x rows)
      (λ read is. goes (before ++ read.0 ∷ []) read.1
      (each_append Q before (read.0 ∷ []) all (is, tt)))

  many_here :
      {X A : Type 0} (Q : A → Type 0) (next : List Row → Read (Option X))
      (one : List A → X → List Row → Read A) →
      ((before : List A) (x : X) (rows : List Row) → IfOk (one before x rows) (λ read. Q read.0)) →
      (turns : ℕ) (before : List A) (rows : List Row) → Each Q before →
      IfOk (many next one turns before rows) (λ read. Each Q read.0)
  unfolding many
  many_here Q next one reads zero before rows all = all
  many_here Q next one reads (suc turns) before rows all =
      any_then (λ read. Each Q read.0) (next rows) _
      (λ found. step_here Q one reads (many next one turns)
      (λ before rows all. many_here Q next one reads turns before rows all) before found.0 found.1
      all)

  abbrev ValuesHere : Values → Type 0
  ValuesHere values = (slot : _) (rows : List Row) → IfOk (values.node slot rows) ReadHere

  module _ (values : Values) (reads : ValuesHere values) where
    slot_here : (slot : _) (row : Row) (rows : List Row) →
        IfOk (nodes.value file values slot row rows) ReadHere
    unfolding nodes.value
    slot_here slot row rows =
        either ReadHere (is_done row) _ _
        (any_then ReadHere (line_end row) _ (λ none. reads slot rows))
        (inline_here values.depth slot.parent row rows)

    entry_here : (row : Row) (rows : List Row) →
        IfOk (nodes.item file values row rows) ReadHere
    unfolding nodes.item
    entry_here row rows =
        either ReadHere (not (is_done (behind 1 row)) && spaces_only 1 row) _ _
        (reads (nodes.below false row) (behind 1 row ∷ drop 1 rows))
        (slot_here (nodes.below false row) (behind 1 row) (drop 1 rows))

    block_pair_here : (before : List NodePair) (key : FoundKey) (rows : List Row) →
        IfOk (nodes.pair file values before key rows) (λ read. PairHere read.0)
    unfolding nodes.pair
    block_pair_here before key rows =
        either (λ read. PairHere read.0) (is_doubled key.text before) (Err _) _ tt
        (ok_then ReadHere (λ read. PairHere read.0)
        (nodes.value file values (nodes.below true key.start) key.left (drop 1 rows)) _
        (slot_here (nodes.below true key.start) key.left (drop 1 rows))
        (λ read here.
        pair_made Here key.text (place_at file key.start.number key.start.column) read.0 refl here))

    sequence_of_here : (parent : ℕ) (row : Row) (rows : List Row) →
        IfOk (nodes.sequence_of file values parent row rows) ReadHere
    sequence_of_here parent row rows =
        ok_then (λ read. Each NodeHere read.0) ReadHere
        (nodes.items (nodes.item file values) parent row.column (size rows + 1) [] rows) _
        (many_here NodeHere (nodes.next_item parent row.column)
        (λ _ row left. nodes.item file values row left)
        (λ before row left. entry_here row left) (size rows + 1) [] rows tt)
        (λ read all. seq_made Here (place_at file row.number row.column) read.0 refl all)

    mapping_of_here : (row : Row) (rows : List Row) →
        IfOk (nodes.mapping_of file values row rows) ReadHere
    mapping_of_here row rows =
        ok_then (λ read. Each PairHere read.0) ReadHere
        (nodes.pairs file values row.column (size rows + 1) [] rows) _
        (many_here PairHere (next_key file values.depth row.column) (nodes.pair file values)
        block_pair_here (size rows + 1) [] rows tt)
        (λ read all. map_made Here (place_at file row.number row.column) read.0 refl all)

  abbrev InnerHere : Option Values → Type 0
  InnerHere None = Unit {0}
  InnerHere (Some values) = ValuesHere values

  sequence_here : (inner : Option Values) → InnerHere inner → (parent : ℕ) (row : Row)
      (rows : List Row) → IfOk (nodes.sequence file inner parent row rows) ReadHere
  unfolding nodes.sequence
  sequence_here None reads parent row rows = tt
  sequence_here (Some values) reads parent row rows =
      sequence_of_here values reads parent row rows

  mapping_here : (inner : Option Values) → InnerHere inner → (row : Row) (rows : List Row) →
      IfOk (nodes.mapping file inner row rows) ReadHere
  unfolding nodes.mapping
  mapping_here None reads row rows = tt
  mapping_here (Some values) reads row rows = mapping_of_here values reads row rows

  -- ---- block nodes

  module _ (depth : ℕ) (inner : Option Values) (reads : InnerHere inner) where
    begun_at : (parent : ℕ) (row : Row) (rows : List Row) (whole : Bool) (text : List ℕ) →
        IfOk (nodes.begun_by (nodes.holder file depth parent) inner row (head_at whole text) rows)
        ReadHere
    unfolding head_at
    begun_at parent row rows whole [] = tt
    begun_at parent row rows whole (c ∷ cs) =
        let held : Holder = nodes.holder file depth parent in
        through (λ head. IfOk (nodes.begun_by held inner row head rows) ReadHere)
        (c == 45 && ends_word whole cs) _ _
        (sequence_here inner reads parent row rows)
        (through (λ head. IfOk (nodes.begun_by held inner row head rows) ReadHere)
        (c == 63 && ends_word whole cs) _ _ tt
        (through (λ head. IfOk (nodes.begun_by held inner row head rows) ReadHere)
        (c == 38 || c == 42) _ _ tt
        (through (λ head. IfOk (nodes.begun_by held inner row head rows) ReadHere) (c == 33) _ _ tt
        (through (λ head. IfOk (nodes.begun_by held inner row head rows) ReadHere) (is_quote c) _ _
        (any_then ReadHere (quoted row) _
        (λ read. either ReadHere (is_colon (behind read.1 row)) _ _
        (mapping_here inner reads row rows)
        (with_left_here (drop 1 rows) (quoted_node file row read) (quoted_here row read))))
        (through (λ head. IfOk (nodes.begun_by held inner row head rows) ReadHere)
        (is_bracket c) _ _
        (with_left_here (drop 1 rows) (nodes.in_brackets file depth row)
        (ok_then ReadHere NodeHere (flows.flow file depth row) _ (flow_here depth row)
        (λ read here. either NodeHere (begins_with 58 (behind read.1 row).text) (Err _) _ tt
        (flow_node_here row read here))))
        (through (λ head. IfOk (nodes.begun_by held inner row head rows) ReadHere) (is_block c) _ _
        (block_here parent row (drop 1 rows))
        (through (λ head. IfOk (nodes.begun_by held inner row head rows) ReadHere)
        (is_stray c || c == 58 && ends_word whole cs) _ _ tt
        (through (λ head. IfOk (nodes.begun_by held inner row head rows) ReadHere)
        (begins_with 58 (drop (plain_len whole false (c ∷ cs)) (c ∷ cs))) _ _
        (mapping_here inner reads row rows)
        (word_here parent row (plain_len whole false (c ∷ cs)) (drop 1 rows))))))))))

    begun_here : (parent : ℕ) (row : Row) (rows : List Row) →
        IfOk (nodes.begun file depth inner parent row rows) ReadHere
    unfolding nodes.begun
    begun_here parent row rows = begun_at parent row rows row.whole row.text

    node_in_here : (slot : _) (rows : List Row) →
        IfOk (nodes.node_in file depth inner slot rows) ReadHere
    node_in_here slot [] = scalar_at slot.line slot.column []
    node_in_here slot (row ∷ rows) =
        either ReadHere (nodes.fits slot row) _ _ (begun_here slot.parent row (row ∷ rows))
        (scalar_at slot.line slot.column [])

    node_with_here : (slot : _) (rows : List Row) →
        IfOk (nodes.node_with file depth inner slot rows) ReadHere
    node_with_here slot rows =
        any_then ReadHere (content rows) _ (λ rows. node_in_here slot rows)

  inner_here : (depth : ℕ) → InnerHere (nodes.inner file depth)
  unfolding nodes.inner
  inner_here zero = tt
  inner_here (suc depth) =
      λ slot rows. node_with_here depth (nodes.inner file depth) (inner_here depth) slot rows

  node_here : (depth : ℕ) (slot : _) (rows : List Row) →
      IfOk (nodes.node file depth slot rows) ReadHere
  unfolding nodes.node
  node_here depth slot rows =
      node_with_here depth (nodes.inner file depth) (inner_here depth) slot rows

  -- ---- the whole text

  document_here : (rows : List Row) → IfOk (document file rows) NodeHere
  unfolding document
  document_here rows =
      any_then NodeHere (lead rows) _
      (λ left. ok_then ReadHere NodeHere (nodes.node file 64 whole_text left) _
      (node_here 64 whole_text left)
      (λ read here. any_then NodeHere (content read.1) _
      (λ rest. any_then NodeHere (nothing_left rest) _ (λ none. here))))

  placed_here : (read : Result Node Fault) → IfOk read NodeHere →
      IfOk (placed file read) NodeHere
  placed_here (Ok node) here = here
  placed_here (Err fault) here = tt

  pub spelled_here : (text : List ℕ) → IfOk (spells file text) NodeHere
  unfolding spells
  spelled_here text =
      either NodeHere (nat_lt 262144 (length text)) (Err _) _ tt
      (either NodeHere (not (is_utf8 text)) (Err _) _ tt
      (placed_here (document file (rows_of (chars text))) (document_here (rows_of (chars text)))))

places_here :
    {E : Type 0} (file : FileKey) (step : Result Node E) → IfOk step (NodeHere file) →
    IfOk step (λ node. Each (NamesFile file) (places_of node))
unfolding NodeIn
places_here file (Ok node) here = here.0
places_here file (Err told) here = tt

pub named : ReadersNameTheirFile
named file text = places_here file (spells file text) (spelled_here file text)
