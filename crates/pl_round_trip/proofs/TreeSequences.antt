-- Sequences in a block, item by item.
use Rattle.std.proofs.Common.{◌≡◌, ℕ, suc, ◌+◌, ◌-◌, ◌<◌, ◌≤◌, Bool, true, false, Some, None, Ok}
use Rattle.std.proofs.Common.{List, [], ◌∷◌, ◌++◌, length, map, flat_map, refl, ap, ap₂, sym, subst}
use Rattle.std.proofs.Common.{◌∙◌, append_assoc, arith}
use Rattle.std.specs.List.{list_all}
use Rattle.std.proofs.lemmas.Bool.{and_parts, le-ltb, lt-ltb}
use Rattle.std.proofs.lemmas.List.{append-nil, length-append}
use Rattle.pl_base.specs.declared.place.FileKey.{FileKey}
use Rattle.pl_base.specs.declared.place.Place.{Place}
use Rattle.pl_base.specs.Places.{place_at}
use Rattle.pl_base.specs.declared.node.Node.{Node}
use Rattle.pl_base.specs.declared.node.NodeBody.TheVariants.{Seq}
use Rattle.pl_line.specs.Rows.{Row, size}
use Rattle.pl_line.specs.Left.{behind}
use Rattle.pl_reading.specs.Steps.{◌>>=◌}
use Rattle.pl_line.specs.Trees.{node_at}
use Rattle.pl_yaml.specs.Heads.{head_at}
use Rattle.pl_yaml.specs.Content.{content, lead}
use Rattle.pl_yaml.specs.Nodes.{Values, values_at, node, inner, begun, next_item, item_in, item}
use Rattle.pl_yaml.specs.Nodes.{items, sequence, sequence_of, value}
use Rattle.pl_yaml.proofs.Laws.Many.{many_ends, many_goes}
use Rattle.pl_printing.specs.Printed.{Line, Written, inline, below, item_entry, written}
use Rattle.pl_round_trip.specs.Trees.{highest, depth as deep, keys_differ, without_places}
use Rattle.pl_round_trip.proofs.Texts.{encoded}
use Rattle.pl_round_trip.proofs.TreeEquations.{node_of, encoded_sequence, without_sequence}
use Rattle.pl_round_trip.proofs.TreeRows.{row_from, IsFront, dash, dash_space, front_content}
use Rattle.pl_round_trip.proofs.TreeRows.{front_lead, front_more, front_spaces, behind_space, laid}
use Rattle.pl_round_trip.proofs.TreeRows.{size_laid}
use Rattle.pl_round_trip.proofs.TreeInline.{node_held, node_begun}
use Rattle.pl_round_trip.proofs.TreeBlocks.{Ends, IsBefore, ReadsOver, Reads, behind_mark}
use Rattle.pl_round_trip.proofs.TreeBlocks.{rows_below, number_behind, mark_row, entry_laid}
use Rattle.pl_round_trip.proofs.TreeBlocks.{clean_behind, ends_mark, ends_more, entry_some}

-- the row of an item's dash
abbrev pub dash_row : ℕ → ℕ → Written → Row
dash_row number more node = mark_row number more (45 ∷ []) node

dash_front : (node : Written) → IsFront (45 ∷ behind_mark node)
dash_front (inline text) = dash_space text
dash_front (below lines) = dash

-- an item before others
item_laid :
    (file : FileKey) (depth number more : ℕ) (tree : Node) (node : Written) (lines : List Line)
    (rest : List Row) →
    Reads file depth tree node
    → laid number more (item_entry node ++ lines) ++ rest ≡ dash_row number more node ∷
    (rows_below number more node ++ (laid (number_behind number node) more lines ++ rest))
item_laid file depth number more tree node lines rest reads = entry_laid number more 45 [] node
    lines rest (omega arith) (clean_behind file depth tree node reads)

found_dash :
    (number more parent : ℕ) (node : Written) (rows : List Row) →
    next_item parent (1 + more) (dash_row number more node ∷ rows) ≡
    Ok (Some (dash_row number more node), dash_row number more node ∷ rows)
unfolding next_item head_at
found_dash number more parent (inline text) rows = ap (λ read. read >>= item_in parent (1 + more))
    (front_content number (1 + more) (45 ∷ 32 ∷ text) rows (dash_space text)) ∙
    rw (le-ltb (1 + more) (1 + more) (omega arith)) refl
found_dash number more parent (below lines) rows = ap (λ read. read >>= item_in parent (1 + more))
    (front_content number (1 + more) (45 ∷ []) rows dash) ∙
    rw (le-ltb (1 + more) (1 + more) (omega arith)) refl

found_none :
    (parent column : ℕ) (rows : List Row) → IsBefore column rows →
    item_in parent column rows ≡ Ok (None, rows)
found_none parent column [] before = refl
found_none parent column (row ∷ rows) before = rw (lt-ltb row.column column before) refl

-- what stands next is told by the lines with content
found_as :
    (parent column : ℕ) (rows others : List Row) → content rows ≡ content others →
    next_item parent column rows ≡ next_item parent column others
unfolding next_item
found_as parent column rows others same = ap (λ read. read >>= item_in parent column) same

found_end :
    (parent column : ℕ) (rows : List Row) (ends : Ends column rows) →
    next_item parent column rows ≡ Ok (None, ends.0)
unfolding next_item
found_end parent column rows ends = ap (λ read. read >>= item_in parent column) ends.1 ∙
    found_none parent column ends.0 ends.3

-- an item is read
item_inline :
    (file : FileKey) (depth number more : ℕ) (text : List ℕ) (rest : List Row) → IsFront text
    → item file (values_at file depth) (row_from number (1 + more) (45 ∷ 32 ∷ text))
    (row_from number (1 + more) (45 ∷ 32 ∷ text) ∷ rest)
    ≡ node_held file depth number (1 + more) (1 + more) false (row_from number (1 + more + 2) text ∷
    rest)
unfolding item
item_inline file depth number more text rest front =
    rw (
      behind_space number (1 + more) 45 text front,
      front_more number (1 + more + 2) text front,
      front_spaces number (1 + more) text front,
    ) refl

item_below : (file : FileKey) (depth number more : ℕ) (rows : List Row)
    → item file (values_at file depth) (row_from number (1 + more) (45 ∷ []))
    (row_from number (1 + more) (45 ∷ []) ∷ rows) ≡ node_held file depth number (1 + more)
    (1 + more) false rows
unfolding item value behind
item_below file depth number more rows = refl

item_read :
    (file : FileKey) (depth number more : ℕ) (tree : Node) (node : Written) (rest : List Row) →
    Reads file depth tree node → Ends (1 + (more + 2)) rest
    → ReadsOver file tree (item file (values_at file depth) (dash_row number more node)
    (dash_row number more node ∷ (rows_below number more node ++ rest))) rest
item_read file depth number more tree (inline text) rest reads ends =
    let read = reads.2 number (1 + more + 2) number (1 + more) (1 + more) false rest
    (omega arith) in
    (read.0, rest, item_inline file depth number more text rest reads.0 ∙ read.1, refl, read.2)
item_read file depth number more tree (below lines) rest reads ends =
    let read = reads.0 (number + 1) (more + 2) number (1 + more) (1 + more) false rest (omega arith)
    ends in (
      read.0,
      read.1,
      item_below file depth number more (laid (number + 1) (more + 2) lines ++
          rest) ∙ read.2,
      read.3,
      read.4,
    )

-- ---- all of them

abbrev pub lines_of_items : List Node → List Line
lines_of_items trees = flat_map item_entry (map written trees)

-- each node of at most so many levels reads
abbrev pub AllRead : FileKey → ℕ → Type 0
AllRead file depth = (tree : Node) → deep (encoded tree) ≤ depth → keys_differ (encoded tree) ≡
    true → Reads file depth (encoded tree) (written tree)

items_step :
    (file : FileKey) (values : Values) (parent column turns : ℕ) (before others : List Node)
    (rows left after last : List Row) (row : Row) (made : Node) →
    0 < turns
    → next_item parent column rows ≡ Ok (Some row, left) → item file values row left ≡
    Ok (made, after)
    → items (item file values) parent column (turns - 1) (before ++ made ∷ []) after ≡
    Ok ((before ++ made ∷ []) ++ others, last)
    → items (item file values) parent column turns before rows ≡ Ok (before ++ made ∷ others, last)
items_step file values parent column turns before others rows left after last row made some found
    read more =
    many_goes (next_item parent column) (λ _ r rs. item file values r rs) turns before rows left row
    some found
    ∙ ap (λ r. r >>= λ next. items (item file values) parent column (turns - 1) (before ++ next.0 ∷
    []) next.1) read
    ∙ more ∙ ap (λ xs. Ok (xs, last)) (append_assoc before (made ∷ []) others)

items_same :
    (file : FileKey) (made tree : Node) (mades trees : List Node) →
    without_places file made ≡ without_places file tree →
    map (without_places file) mades ≡ map (without_places file) trees
    → map (without_places file) (made ∷ mades) ≡ map (without_places file) (tree ∷ trees)
items_same file made tree mades trees same others = ap₂ (λ x xs. x ∷ xs) same others

module _ (file : FileKey) (depth : ℕ) (all : AllRead file depth) where
  ends_items :
      (trees : List Node) (number more column : ℕ) (rest : List Row) →
      highest (map deep (map encoded trees)) ≤ depth →
      list_all (λ differ. differ) (map keys_differ (map encoded trees)) ≡ true
      → 1 + more < column → Ends (1 + more) rest →
      Ends column (laid number more (lines_of_items trees) ++ rest)
  ends_items [] number more column rest shallow differ deeper ends =
      ends_more (1 + more) column rest (omega arith) ends
  ends_items (tree ∷ trees) number more column rest shallow differ deeper ends =
      let here = and_parts (keys_differ (encoded tree)) _ differ in
      subst (Ends column)
      (sym (item_laid file depth number more (encoded tree) (written tree)
      (lines_of_items trees) rest (all tree (omega arith) here.0)))
      (ends_mark number more column (45 ∷ behind_mark (written tree)) _ (dash_front (written tree))
      deeper)

  items_read :
      (trees : List Node) (turns : ℕ) (before : List Node) (number more parent : ℕ)
      (rows rest : List Row) →
      highest (map deep (map encoded trees)) ≤ depth
      → list_all (λ differ. differ) (map keys_differ (map encoded trees)) ≡ true →
      length trees < turns → content rows ≡ content (laid number more (lines_of_items trees) ++
      rest) → Ends (1 + more) rest
      → (made : List Node) × (after : List Row) ×
      (items (item file (values_at file depth)) parent (1 + more) turns before rows ≡
      Ok (before ++ made, after)) × (content after ≡ content rest)
      × (map (without_places file) made ≡ map (without_places file) (map encoded trees))
  items_read [] turns before number more parent rows rest shallow differ enough same ends = (
    [],
    ends.0,
    many_ends (next_item parent (1 + more)) (λ _ row left. item file (values_at file depth) row
        left) turns before rows ends.0 enough (found_as parent (1 + more) rows rest same ∙
        found_end parent (1 + more) rest ends)
        ∙ ap (λ xs. Ok (xs, ends.0)) (sym (append-nil before)),
    ends.2 ∙ sym ends.1,
    refl,
  )
  items_read (tree ∷ trees) turns before number more parent rows rest shallow differ enough same
      ends =
      let here = and_parts (keys_differ (encoded tree))
      (list_all (λ d. d) (map keys_differ (map encoded trees))) differ in
      let reads : Reads file depth (encoded tree) (written tree) = all tree (omega arith) here.0 in
      let number_next : ℕ = number_behind number (written tree) in
      let behind_it : List Row = laid number_next more (lines_of_items trees) ++ rest in
      let row : Row = dash_row number more (written tree) in
      let left : List Row = row ∷ (rows_below number more (written tree) ++ behind_it) in
      let found : next_item parent (1 + more) rows ≡ Ok (Some row, left) =
      found_as parent (1 + more) rows (laid number more (lines_of_items (tree ∷ trees)) ++ rest)
      same
      ∙ ap (next_item parent (1 + more)) (item_laid file depth number more (encoded tree)
      (written tree) (lines_of_items trees) rest reads)
      ∙ found_dash number more parent (written tree) (rows_below number more (written tree) ++
      behind_it) in
      let few : highest (map deep (map encoded trees)) ≤ depth = omega arith in
      let read = item_read file depth number more (encoded tree) (written tree) behind_it reads
      (ends_items trees number_next more (1 + (more + 2)) rest few here.1 (omega arith) ends) in
      let others = items_read trees (turns - 1) (before ++ read.0 ∷ []) number_next more parent
      read.1 rest few here.1 (omega arith) read.3 ends in (
        read.0 ∷ others.0,
        others.1,
        items_step file (values_at file depth) parent (1 + more) turns before others.0 rows left
            read.1 others.1 row read.0 (omega arith) found read.2 others.2,
        others.3,
        items_same file read.0 (encoded tree) others.0 (map encoded trees) read.4 others.4,
      )

-- ---- a sequence

length_items : (trees : List Node) → length trees ≤ length (lines_of_items trees)
length_items [] = omega arith
length_items (tree ∷ trees) = omega (
  arith,
  entry_some (45 ∷ []) (written tree),
  length_items trees,
  length-append (item_entry (written tree)) (lines_of_items trees),
)

sequence_begun : (file : FileKey) (depth number more parent : ℕ) (node : Written) (rows : List Row)
    → begun file (suc depth) (inner file (suc depth)) parent (dash_row number more node) rows ≡
    sequence_of file (values_at file depth) parent (dash_row number more node) rows
unfolding begun head_at sequence inner node
sequence_begun file depth number more parent (inline text) rows = refl
sequence_begun file depth number more parent (below lines) rows = refl

-- a sequence of which all items were read
sequence_made :
    (file : FileKey) (depth number more line at parent : ℕ) (own : Bool) (node : Written)
    (rows left after : List Row) (made : List Node) →
    parent < 1 + more
    → rows ≡ dash_row number more node ∷ left
    → items (item file (values_at file depth)) parent (1 + more)
    (size (dash_row number more node ∷ left) + 1) [] (dash_row number more node ∷ left) ≡
    Ok (made, after)
    → node_held file (suc depth) line at parent own rows ≡
    Ok (node_at file (dash_row number more node) (Seq made), after)
sequence_made file depth number more line at parent own node rows left after made deeper is read =
    let row : Row = dash_row number more node in
    ap (node_held file (suc depth) line at parent own) is
    ∙ node_begun file (suc depth) number (1 + more) line at parent own (45 ∷ behind_mark node) left
    (dash_front node) deeper
    ∙ sequence_begun file depth number more parent node (row ∷ left)
    ∙ ap (λ found. found >>= λ got. Ok (node_at file row (Seq got.0), got.1)) read

sequence_same :
    (file : FileKey) (at place : Place) (made trees : List Node) →
    map (without_places file) made ≡ map (without_places file) (map encoded trees)
    → without_places file (node_of at (Seq made)) ≡
    without_places file (encoded (node_of place (Seq trees)))
sequence_same file at place made trees same =
    without_sequence file at made ∙ ap (λ nodes. node_of (place_at file 1 1) (Seq nodes)) same
    ∙ sym (without_sequence file place (map encoded trees)) ∙
    sym (ap (without_places file) (encoded_sequence place trees))

module _ (file : FileKey) (depth : ℕ) (place : Place) (tree : Node) (trees : List Node)
    (all : AllRead file depth) (shallow : highest (map deep (map encoded (tree ∷ trees))) ≤ depth)
    (differ : list_all (λ differ. differ) (map keys_differ (map encoded (tree ∷ trees))) ≡ true)
  where
    first_reads : Reads file depth (encoded tree) (written tree)
    first_reads =
        all tree (omega arith) (and_parts (keys_differ (encoded tree))
        (list_all (λ d. d) (map keys_differ (map encoded trees))) differ).0

    abbrev left_behind : ℕ → ℕ → List Row → List Row
    left_behind number more rest = rows_below number more (written tree) ++
        (laid (number_behind number (written tree)) more (lines_of_items trees) ++ rest)

    sequence_read :
        (number more line at parent : ℕ) (own : Bool) (rest : List Row) → parent < 1 + more →
        Ends (1 + more) rest
        → ReadsOver file (encoded (node_of place (Seq (tree ∷ trees))))
        (node_held file (suc depth) line at parent own
        (laid number more (lines_of_items (tree ∷ trees)) ++ rest)) rest
    sequence_read number more line at parent own rest deeper ends =
        let row : Row = dash_row number more (written tree) in
        let rows : List Row = row ∷ left_behind number more rest in
        let is : laid number more (lines_of_items (tree ∷ trees)) ++ rest ≡ rows =
        item_laid file depth number more (encoded tree) (written tree) (lines_of_items trees) rest
        first_reads in
        let enough : length (tree ∷ trees) < size rows + 1 =
        omega (
          arith,
          length_items (tree ∷ trees),
          size_laid number more (lines_of_items (tree ∷ trees)) rest,
          ap size is,
        ) in
        let read =
        items_read file depth all (tree ∷ trees) (size rows + 1) [] number more parent rows
        rest shallow differ enough (ap content (sym is)) ends in (
          node_at file row (Seq read.0),
          read.1,
          sequence_made file depth number more line at parent own (written tree)
              (laid number more (lines_of_items (tree ∷ trees)) ++ rest)
              (left_behind number more rest) read.1 read.0 deeper is read.2,
          read.3,
          sequence_same file (place_at file number (1 + more)) place read.0 (tree ∷ trees) read.4,
        )

    sequence_leads :
        (number more : ℕ) (rest : List Row) →
        lead (laid number more (lines_of_items (tree ∷ trees)) ++ rest) ≡
        Ok (laid number more (lines_of_items (tree ∷ trees)) ++ rest)
    sequence_leads number more rest =
        let is =
        item_laid file depth number more (encoded tree) (written tree) (lines_of_items trees)
        rest first_reads in
        ap lead is ∙ front_lead number (1 + more) (45 ∷ behind_mark (written tree))
        (left_behind number more rest) (dash_front (written tree)) ∙ ap (λ rows. Ok rows) (sym is)

    pub sequence_reads : Reads file (suc depth) (encoded (node_of place (Seq (tree ∷ trees))))
        (below (lines_of_items (tree ∷ trees)))
    sequence_reads = (sequence_read, sequence_leads)
