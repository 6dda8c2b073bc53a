-- Mappings in a block, pair by pair.
use Rattle.std.proofs.Common.{◌≡◌, ℕ, suc, ◌+◌, ◌-◌, ◌<◌, ◌≤◌, Bool, true, false, not, ◌&&◌, ◌||◌}
use Rattle.std.proofs.Common.{nat_eq, Some, None, Option, Ok, List, [], ◌∷◌, ◌++◌, length, drop}
use Rattle.std.proofs.Common.{map, flat_map, codes, refl, ap, ap₂, sym, subst, ◌∙◌, append_assoc}
use Rattle.std.proofs.Common.{arith}
use Rattle.std.specs.Prelude.{encode_utf8_all}
use Rattle.std.specs.List.{list_any, starts_with}
use Rattle.std.specs.Cmp.Lexicographic.{pointwise}
use Rattle.std.proofs.lemmas.Bool.{and_parts, not-true, le-ltb, lt-ltb}
use Rattle.std.proofs.lemmas.List.{append-nil, length-append, map-append}
use Rattle.pl_base.specs.declared.place.FileKey.{FileKey}
use Rattle.pl_base.specs.declared.place.Place.{Place}
use Rattle.pl_base.specs.Places.{place_at}
use Rattle.pl_base.specs.declared.node.Node.{Node}
use Rattle.pl_base.specs.declared.node.NodeBody.TheVariants.{Map}
use Rattle.pl_base.specs.declared.node.NodePair.{NodePair}
use Rattle.pl_line.specs.Rows.{Row, size}
use Rattle.pl_line.specs.Left.{behind}
use Rattle.pl_reading.specs.Steps.{◌>>=◌}
use Rattle.pl_line.specs.Scanning.{ends_word}
use Rattle.pl_line.specs.Trees.{node_at, pair_of, is_doubled}
use Rattle.pl_line.specs.Quoted as reading
use Rattle.pl_yaml.specs.Heads.{head_at}
use Rattle.pl_yaml.specs.Content.{content, lead}
use Rattle.pl_yaml.specs.Inline as lines
use Rattle.pl_yaml.specs.Keys.{FoundKey, quoted_key, key_in, next_key}
use Rattle.pl_yaml.specs.Nodes.{Values, values_at, node, inner, begun, begun_quoted, pair, pairs}
use Rattle.pl_yaml.specs.Nodes.{mapping, mapping_of, value}
use Rattle.pl_yaml.specs.Nodes as nodes
use Rattle.pl_yaml.proofs.Laws.Many.{many_ends, many_goes}
use Rattle.pl_printing.specs.Printed.{Line, Written, inline, below, quoted, pair_entry, written}
use Rattle.pl_printing.specs.Printed.{written_pair}
use Rattle.pl_round_trip.specs.Trees.{highest, depth as deep, is_again, differ_behind, keys_differ}
use Rattle.pl_round_trip.specs.Trees.{without_places}
use Rattle.pl_round_trip.proofs.Quotes.{quoted_reads, quoted_spans}
use Rattle.pl_round_trip.proofs.Rows.{is_clean, clean_append, quoted_is_clean}
use Rattle.pl_round_trip.proofs.Texts.{encoded}
use Rattle.pl_round_trip.proofs.TreeEquations.{node_of, pair_written, depth_in_pair, pair_depth}
use Rattle.pl_round_trip.proofs.TreeEquations.{pair_differs, differs_in_pair, pair_encoded}
use Rattle.pl_round_trip.proofs.TreeEquations.{encoded_mapping, encoded_pair, without_in_pair}
use Rattle.pl_round_trip.proofs.TreeEquations.{without_mapping, without_pair}
use Rattle.pl_round_trip.proofs.TreeRows.{row_from, IsFront, quote, front_content, front_lead}
use Rattle.pl_round_trip.proofs.TreeRows.{front_more, behind_at, behind_space}
use Rattle.pl_round_trip.proofs.TreeRows.{behind_mark as behind_last, laid, size_laid}
use Rattle.pl_round_trip.proofs.TreeInline.{node_held, node_begun}
use Rattle.pl_round_trip.proofs.TreeBlocks.{Ends, IsBefore, ReadsOver, Reads, behind_mark}
use Rattle.pl_round_trip.proofs.TreeBlocks.{rows_below, number_behind, entry_laid, clean_behind}
use Rattle.pl_round_trip.proofs.TreeBlocks.{ends_mark, ends_more, entry_some}
use Rattle.pl_round_trip.proofs.TreeSequences.{AllRead}

-- the row of a pair's key
abbrev pub key_row : ℕ → ℕ → List ℕ → Written → Row
key_row number more key node = row_from number (1 + more) (quoted key ++ 58 ∷ behind_mark node)

key_clean : (key xs : List ℕ) → is_clean xs ≡ true → is_clean ((quoted key ++ 58 ∷ []) ++ xs) ≡ true
key_clean key xs clean = clean_append (quoted key ++ 58 ∷ []) xs
    (clean_append (quoted key) (58 ∷ []) (quoted_is_clean key) refl) clean

-- a pair before others
pair_laid :
    (file : FileKey) (depth number more : ℕ) (key : List ℕ) (tree : Node) (node : Written)
    (lines : List Line) (rest : List Row) →
    Reads file depth tree node
    → laid number more (pair_entry key node ++ lines) ++ rest ≡ key_row number more key node ∷
    (rows_below number more node ++ (laid (number_behind number node) more lines ++ rest))
pair_laid file depth number more key tree node lines rest reads =
    entry_laid number more 34 _ node lines rest (omega arith)
    (key_clean key (behind_mark node) (clean_behind file depth tree node reads))
    ∙ ap (λ text. row_from number (1 + more) text ∷
    (rows_below number more node ++ (laid (number_behind number node) more lines ++ rest)))
    (append_assoc (quoted key) (58 ∷ []) (behind_mark node))

-- ---- a key

-- what is left of a key's line behind the colon
abbrev left_row : ℕ → ℕ → Written → Row
left_row number column (inline text) = row_from number (column + 2) text
left_row number column (below lines) = row_from number (column + 1) []

left_is :
    (file : FileKey) (depth number column : ℕ) (tree : Node) (node : Written) →
    Reads file depth tree node →
    behind 1 (row_from number column (58 ∷ behind_mark node)) ≡ left_row number column node
left_is file depth number column tree (inline text) reads = behind_space number column 58 text
    reads.0
left_is file depth number column tree (below lines) reads = behind_last number column 58

colon_ends : (node : Written) → ends_word true (behind_mark node) ≡ true
colon_ends (inline text) = refl
colon_ends (below lines) = refl

module _ (number column : ℕ) (key rest : List ℕ) where
  key_read : reading.quoted (row_from number column (quoted key ++ rest)) ≡
      Ok (encode_utf8_all key, length (quoted key))
  key_read = quoted_reads number column key rest true

  colon_row :
      (more : List ℕ) → rest ≡ 58 ∷ more →
      behind (length (quoted key)) (row_from number column (quoted key ++ rest)) ≡
      row_from number (column + length (quoted key)) (58 ∷ more)
  colon_row more is = behind_at (length (quoted key)) number column (quoted key ++ rest) (58 ∷ more)
      (quoted_spans key rest ∙ is) refl

key_found :
    (number column n : ℕ) (text bytes rest : List ℕ) (left : Row) →
    behind n (row_from number column text) ≡ row_from number (column + n) (58 ∷ rest) →
    ends_word true rest ≡ true
    → behind 1 (row_from number (column + n) (58 ∷ rest)) ≡ left
    → quoted_key (row_from number column text) (bytes, n) ≡
    Ok (record { start = row_from number column text; text = bytes; left = left })
key_found number column n text bytes rest left is word found = rw (is, word, found) refl

-- the key that is found there
abbrev key_there : ℕ → ℕ → List ℕ → Written → FoundKey
key_there number more key node = record {
  start = key_row number more key node;
  text =
      encode_utf8_all key;
  left = left_row number (1 + more + length (quoted key)) node;
}

key_of :
    (file : FileKey) (depth number more : ℕ) (key : List ℕ) (tree : Node) (node : Written)
    (rows : List Row) →
    Reads file depth tree node
    → next_key file depth (1 + more) (key_row number more key node ∷ rows) ≡
    Ok (Some (key_there number more key node), key_row number more key node ∷ rows)
unfolding next_key head_at
key_of file depth number more key tree node rows reads =
    let row : Row = key_row number more key node in
    ap (λ read. read >>= key_in file depth (1 + more))
    (front_content number (1 + more) (quoted key ++ 58 ∷ behind_mark node) rows (quote _))
    ∙ rw (le-ltb (1 + more) (1 + more) (omega arith))
    (ap (λ read. read >>= quoted_key row >>= λ found. Ok (Some found, row ∷ rows))
    (key_read number (1 + more) key (58 ∷ behind_mark node))
    ∙ ap (λ found. found >>= λ got. Ok (Some got, row ∷ rows))
    (key_found number (1 + more) (length (quoted key)) (quoted key ++ 58 ∷ behind_mark node)
    (encode_utf8_all key) (behind_mark node) (left_row number (1 + more + length (quoted key))
    node)
    (colon_row number (1 + more) key (58 ∷ behind_mark node) (behind_mark node) refl)
    (colon_ends node) (left_is file depth number (1 + more + length (quoted key)) tree node
    reads)))

none_in :
    (file : FileKey) (depth column : ℕ) (rows : List Row) → IsBefore column rows →
    key_in file depth column rows ≡ Ok (None, rows)
none_in file depth column [] before = refl
none_in file depth column (row ∷ rows) before = rw (lt-ltb row.column column before) refl

found_as :
    (file : FileKey) (depth column : ℕ) (rows others : List Row) → content rows ≡ content others →
    next_key file depth column rows ≡ next_key file depth column others
unfolding next_key
found_as file depth column rows others same = ap (λ read. read >>= key_in file depth column) same

found_end :
    (file : FileKey) (depth column : ℕ) (rows : List Row) (ends : Ends column rows) →
    next_key file depth column rows ≡ Ok (None, ends.0)
unfolding next_key
found_end file depth column rows ends = ap (λ read. read >>= key_in file depth column) ends.1 ∙
    none_in file depth column ends.0 ends.3

-- ---- a value

value_inline :
    (file : FileKey) (depth number column line at parent : ℕ) (own : Bool) (text : List ℕ)
    (rows : List Row) →
    IsFront text
    → value file (values_at file depth) (record {
      line = line;
      column = at;
      parent = parent;
      own =
          own;
    }) (row_from number column text) rows ≡ lines.inline file depth parent
    (row_from number column text) rows
unfolding value
value_inline file depth number column line at parent own text rows front =
    rw (front_more number column text front) refl

value_below : (file : FileKey) (depth number column line at parent : ℕ) (own : Bool)
    (rows : List Row)
    → value file (values_at file depth) (record {
      line = line;
      column = at;
      parent = parent;
      own =
          own;
    }) (row_from number column []) rows ≡ node_held file depth line at parent own rows
unfolding value
value_below file depth number column line at parent own rows = refl

value_read :
    (file : FileKey) (depth number more column : ℕ) (tree : Node) (node : Written)
    (rest : List Row) →
    Reads file depth tree node → Ends (1 + (more + 2)) rest
    → ReadsOver file tree
    (value file (values_at file depth) (record {
      line = number;
      column = 1 + more;
      parent =
          1 + more;
      own = true;
    }) (left_row number column node) (rows_below number more node ++ rest))
    rest
value_read file depth number more column tree (inline text) rest reads ends =
    let read = reads.3 number (column + 2) (1 + more) rest in (
      read.0,
      rest,
      value_inline file depth number (column + 2) number (1 + more) (1 + more) true
          text rest reads.0 ∙ read.1,
      refl,
      read.2,
    )
value_read file depth number more column tree (below lines) rest reads ends =
    let read = reads.0 (number + 1) (more + 2) number (1 + more) (1 + more) true rest (omega arith)
    ends in (
      read.0,
      read.1,
      value_below file depth number (column + 1) number (1 + more) (1 + more) true
          (laid (number + 1) (more + 2) lines ++ rest) ∙ read.2,
      read.3,
      read.4,
    )

pair_of_value :
    (file : FileKey) (values : Values) (before : List NodePair) (key : FoundKey)
    (rows after : List Row) (made : Node) →
    is_doubled key.text before ≡ false
    → value file values (nodes.below true key.start) key.left (drop 1 rows) ≡ Ok (made, after) →
    pair file values before key rows ≡ Ok (pair_of file key.start key.text made, after)
unfolding pair
pair_of_value file values before key rows after made single read = rw (single, read) refl

-- ---- keys that differ

has_same :
    (key : List ℕ) (before : List NodePair) →
    list_any (λ other. pointwise nat_eq other key) (map (λ p. p.key) before) ≡
    list_any (λ p. pointwise nat_eq p.key key) before
has_same key [] = refl
has_same key (one ∷ before) = ap (λ b. pointwise nat_eq one.key key || b) (has_same key before)

doubled_is :
    (key : List ℕ) (before : List NodePair) →
    is_doubled key before ≡ is_again key (map (λ p. p.key) before)
doubled_is key before =
    ap (λ b. not (starts_with nat_eq key (codes "${{")) && b) (sym (has_same key before))

-- of a pair's key in UTF-8, and of its value
coded_is :
    (one : NodePair) →
    pair_differs (pair_encoded one) ≡ (encode_utf8_all one.key, keys_differ (encoded one.item))
coded_is one = ap pair_differs (encoded_pair one) ∙ differs_in_pair _

coded_depth : (one : NodePair) → depth_in_pair (pair_encoded one) ≡ deep (encoded one.item)
coded_depth one = ap depth_in_pair (encoded_pair one) ∙ pair_depth _

differ_parts :
    (keys : List (List ℕ)) (one : NodePair) (others : List (List ℕ × Bool)) →
    differ_behind keys (pair_differs (pair_encoded one) ∷ others) ≡ true
    → (is_again (encode_utf8_all one.key) keys ≡ false) × (keys_differ (encoded one.item) ≡ true) ×
    (differ_behind (keys ++ encode_utf8_all one.key ∷ []) others ≡ true)
differ_parts keys one others differ =
    let here = and_parts (not (is_again (encode_utf8_all one.key) keys))
    (keys_differ (encoded one.item) && differ_behind (keys ++ encode_utf8_all one.key ∷ [])
    others)
    (ap (λ x. differ_behind keys (x ∷ others)) (sym (coded_is one)) ∙ differ) in
    let there = and_parts (keys_differ (encoded one.item))
    (differ_behind (keys ++ encode_utf8_all one.key ∷ []) others) here.1 in
    (not-true (is_again (encode_utf8_all one.key) keys) here.0, there.0, there.1)

-- ---- all pairs

abbrev pub lines_of_pairs : List NodePair → List Line
lines_of_pairs trees = flat_map (λ lines. lines) (map written_pair trees)

abbrev keys_before : List NodePair → List (List ℕ)
keys_before before = map (λ p. p.key) before

pairs_step :
    (file : FileKey) (values : Values) (column turns : ℕ) (before others : List NodePair)
    (rows left after last : List Row) (key : FoundKey) (made : NodePair) →
    0 < turns
    → next_key file values.depth column rows ≡ Ok (Some key, left) →
    pair file values before key left ≡ Ok (made, after)
    → pairs file values column (turns - 1) (before ++ made ∷ []) after ≡
    Ok ((before ++ made ∷ []) ++ others, last)
    → pairs file values column turns before rows ≡ Ok (before ++ made ∷ others, last)
pairs_step file values column turns before others rows left after last key made some found read
    more =
    many_goes (next_key file values.depth column) (pair file values) turns before rows left key
    some found
    ∙ ap (λ r. r >>= λ next. pairs file values column (turns - 1) (before ++ next.0 ∷ []) next.1)
    read
    ∙ more ∙ ap (λ xs. Ok (xs, last)) (append_assoc before (made ∷ []) others)

pair_same :
    (file : FileKey) (row : Row) (one : NodePair) (made : Node) →
    without_places file made ≡ without_places file (encoded one.item)
    → without_in_pair file (pair_of file row (encode_utf8_all one.key) made) ≡
    without_in_pair file (pair_encoded one)
pair_same file row one made same =
    without_pair file (pair_of file row (encode_utf8_all one.key) made)
    ∙ ap (λ item. record {
      key = encode_utf8_all one.key;
      key_place = place_at file 1 1;
      item =
          item;
    }) same
    ∙ sym (without_pair file (record {
      key = encode_utf8_all one.key;
      key_place =
          one.key_place;
      item = encoded one.item;
    }))
    ∙ sym (ap (without_in_pair file) (encoded_pair one))

pairs_same :
    (file : FileKey) (made one : NodePair) (mades trees : List NodePair) →
    without_in_pair file made ≡ without_in_pair file one →
    map (without_in_pair file) mades ≡ map (without_in_pair file) trees
    → map (without_in_pair file) (made ∷ mades) ≡ map (without_in_pair file) (one ∷ trees)
pairs_same file made one mades trees same others = ap₂ (λ x xs. x ∷ xs) same others

module _ (file : FileKey) (depth : ℕ) (all : AllRead file depth) where
  one_reads :
      (keys : List (List ℕ)) (one : NodePair) (trees : List NodePair)
      (others : List (List ℕ × Bool)) →
      highest (map depth_in_pair (map pair_encoded (one ∷ trees))) ≤ depth
      → differ_behind keys (pair_differs (pair_encoded one) ∷ others) ≡ true →
      Reads file depth (encoded one.item) (written one.item)
  one_reads keys one trees others shallow differ = all one.item (omega (arith, coded_depth one))
      (differ_parts keys one others differ).1

  one_laid :
      (one : NodePair) (trees : List NodePair) (number more : ℕ) (rest : List Row) →
      Reads file depth (encoded one.item) (written one.item)
      → laid number more (lines_of_pairs (one ∷ trees)) ++ rest
      ≡ key_row number more one.key (written one.item) ∷
      (rows_below number more (written one.item) ++
      (laid (number_behind number (written one.item)) more (lines_of_pairs trees) ++ rest))
  one_laid one trees number more rest reads =
      ap (λ lines. laid number more (lines ++ lines_of_pairs trees) ++ rest) (pair_written one) ∙
      pair_laid file depth number more one.key (encoded one.item) (written one.item)
      (lines_of_pairs trees) rest reads

  ends_pairs :
      (trees : List NodePair) (keys : List (List ℕ)) (number more column : ℕ) (rest : List Row) →
      highest (map depth_in_pair (map pair_encoded trees)) ≤ depth
      → differ_behind keys (map pair_differs (map pair_encoded trees)) ≡ true → 1 + more < column →
      Ends (1 + more) rest → Ends column (laid number more (lines_of_pairs trees) ++ rest)
  ends_pairs [] keys number more column rest shallow differ deeper ends =
      ends_more (1 + more) column rest (omega arith) ends
  ends_pairs (one ∷ trees) keys number more column rest shallow differ deeper ends =
      subst (Ends column)
      (sym (one_laid one trees number more rest
      (one_reads keys one trees (map pair_differs (map pair_encoded trees)) shallow differ)))
      (ends_mark number more column (quoted one.key ++ 58 ∷ behind_mark (written one.item)) _
      (quote _) deeper)

  pairs_read :
      (trees : List NodePair) (turns : ℕ) (before : List NodePair) (number more : ℕ)
      (rows rest : List Row) →
      highest (map depth_in_pair (map pair_encoded trees)) ≤ depth
      → differ_behind (keys_before before) (map pair_differs (map pair_encoded trees)) ≡ true →
      length trees < turns → content rows ≡ content (laid number more (lines_of_pairs trees) ++
      rest) → Ends (1 + more) rest
      → (made : List NodePair) × (after : List Row) ×
      (pairs file (values_at file depth) (1 + more) turns before rows ≡
      Ok (before ++ made, after)) × (content after ≡ content rest)
      × (map (without_in_pair file) made ≡ map (without_in_pair file) (map pair_encoded trees))
  pairs_read [] turns before number more rows rest shallow differ enough same ends = (
    [],
    ends.0,
    many_ends (next_key file depth (1 + more)) (pair file (values_at file depth)) turns before rows
        ends.0 enough (found_as file depth (1 + more) rows rest same ∙
        found_end file depth (1 + more) rest ends)
        ∙ ap (λ xs. Ok (xs, ends.0)) (sym (append-nil before)),
    ends.2 ∙ sym ends.1,
    refl,
  )
  pairs_read (one ∷ trees) turns before number more rows rest shallow differ enough same ends =
      let parts = differ_parts (keys_before before) one (map pair_differs (map pair_encoded trees))
      differ in
      let reads : Reads file depth (encoded one.item) (written one.item) =
      one_reads (keys_before before) one trees (map pair_differs (map pair_encoded trees))
      shallow differ in
      let next : ℕ = number_behind number (written one.item) in
      let behind_it : List Row = laid next more (lines_of_pairs trees) ++ rest in
      let row : Row = key_row number more one.key (written one.item) in
      let left : List Row = row ∷ (rows_below number more (written one.item) ++ behind_it) in
      let key : FoundKey = key_there number more one.key (written one.item) in
      let found : next_key file depth (1 + more) rows ≡ Ok (Some key, left) =
      found_as file depth (1 + more) rows (laid number more (lines_of_pairs (one ∷ trees)) ++ rest)
      same
      ∙ ap (next_key file depth (1 + more)) (one_laid one trees number more rest reads)
      ∙ key_of file depth number more one.key (encoded one.item) (written one.item)
      (rows_below number more (written one.item) ++ behind_it) reads in
      let few : highest (map depth_in_pair (map pair_encoded trees)) ≤ depth = omega arith in
      let read = value_read file depth number more (1 + more + length (quoted one.key))
      (encoded one.item) (written one.item) behind_it reads
      (ends_pairs trees (keys_before before ++ encode_utf8_all one.key ∷ []) next more
      (1 + (more + 2)) rest few parts.2 (omega arith) ends) in
      let made : NodePair = pair_of file row (encode_utf8_all one.key) read.0 in
      let paired : pair file (values_at file depth) before key left ≡ Ok (made, read.1) =
      pair_of_value file (values_at file depth) before key left read.1 read.0
      (doubled_is (encode_utf8_all one.key) before ∙ parts.0) read.2 in
      let known : differ_behind (keys_before (before ++ made ∷ []))
      (map pair_differs (map pair_encoded trees)) ≡ true =
      ap (λ keys. differ_behind keys (map pair_differs (map pair_encoded trees)))
      (map-append (λ p. p.key) before (made ∷ [])) ∙ parts.2 in
      let others = pairs_read trees (turns - 1) (before ++ made ∷ []) next more read.1 rest few
      known (omega arith) read.3 ends in (
        made ∷ others.0,
        others.1,
        pairs_step file (values_at file depth) (1 + more) turns before others.0 rows left read.1
            others.1 key made (omega arith) found paired others.2,
        others.3,
        pairs_same file made (pair_encoded one) others.0 (map pair_encoded trees)
            (pair_same file row one read.0 read.4) others.4,
      )

-- ---- a mapping

length_pairs : (trees : List NodePair) → length trees ≤ length (lines_of_pairs trees)
length_pairs [] = omega arith
length_pairs (one ∷ trees) =
    omega (
      arith,
      ap length (pair_written one),
      entry_some (quoted one.key ++ codes ":")
          (written one.item),
      length_pairs trees,
      length-append (written_pair one)
          (lines_of_pairs trees),
    )

begun_mapping :
    (file : FileKey) (values : Option Values) (number column n : ℕ) (text bytes rest : List ℕ)
    (rows : List Row) →
    behind n (row_from number column text) ≡ row_from number (column + n) (58 ∷ rest)
    → ends_word true rest ≡ true → begun_quoted file values (row_from number column text) rows
    (bytes, n) ≡ mapping file values (row_from number column text) rows
begun_mapping file values number column n text bytes rest rows is word = rw (is, word) refl

mapping_begun : (file : FileKey) (depth number more parent : ℕ) (key : List ℕ) (node : Written)
    (rows : List Row)
    → begun file (suc depth) (inner file (suc depth)) parent (key_row number more key node) rows ≡
    mapping_of file (values_at file depth) (key_row number more key node) rows
unfolding begun head_at mapping inner nodes.node
mapping_begun file depth number more parent key node rows =
    ap (λ read. read >>= begun_quoted file (inner file (suc depth)) (key_row number more key node)
    rows) (key_read number (1 + more) key (58 ∷ behind_mark node))
    ∙ begun_mapping file (inner file (suc depth)) number (1 + more) (length (quoted key))
    (quoted key ++ 58 ∷ behind_mark node) (encode_utf8_all key) (behind_mark node) rows
    (colon_row number (1 + more) key (58 ∷ behind_mark node) (behind_mark node) refl)
    (colon_ends node)

-- a mapping of which all pairs were read
mapping_made :
    (file : FileKey) (depth number more line at parent : ℕ) (own : Bool) (key : List ℕ)
    (node : Written) (rows left after : List Row) (made : List NodePair) →
    parent < 1 + more
    → rows ≡ key_row number more key node ∷ left
    → pairs file (values_at file depth) (1 + more) (size (key_row number more key node ∷ left) + 1)
    [] (key_row number more key node ∷ left) ≡ Ok (made, after)
    → node_held file (suc depth) line at parent own rows ≡
    Ok (node_at file (key_row number more key node) (Map made), after)
mapping_made file depth number more line at parent own key node rows left after made deeper is
    read =
    let row : Row = key_row number more key node in
    ap (node_held file (suc depth) line at parent own) is
    ∙ node_begun file (suc depth) number (1 + more) line at parent own (quoted key ++ 58 ∷
    behind_mark node) left (quote _) deeper
    ∙ mapping_begun file depth number more parent key node (row ∷ left)
    ∙ ap (λ found. found >>= λ got. Ok (node_at file row (Map got.0), got.1)) read

mapping_same :
    (file : FileKey) (at place : Place) (made trees : List NodePair) →
    map (without_in_pair file) made ≡ map (without_in_pair file) (map pair_encoded trees)
    → without_places file (node_of at (Map made)) ≡
    without_places file (encoded (node_of place (Map trees)))
mapping_same file at place made trees same =
    without_mapping file at made ∙ ap (λ pairs. node_of (place_at file 1 1) (Map pairs)) same
    ∙ sym (without_mapping file place (map pair_encoded trees)) ∙
    sym (ap (without_places file) (encoded_mapping place trees))

module _ (file : FileKey) (depth : ℕ) (place : Place) (one : NodePair) (trees : List NodePair)
    (all : AllRead file depth)
    (shallow : highest (map depth_in_pair (map pair_encoded (one ∷ trees))) ≤ depth)
    (differ : differ_behind [] (map pair_differs (map pair_encoded (one ∷ trees))) ≡ true) where
  first_reads : Reads file depth (encoded one.item) (written one.item)
  first_reads = one_reads file depth all [] one trees (map pair_differs (map pair_encoded trees))
      shallow differ

  abbrev left_behind : ℕ → ℕ → List Row → List Row
  left_behind number more rest = rows_below number more (written one.item) ++
      (laid (number_behind number (written one.item)) more (lines_of_pairs trees) ++ rest)

  mapping_read :
      (number more line at parent : ℕ) (own : Bool) (rest : List Row) → parent < 1 + more →
      Ends (1 + more) rest
      → ReadsOver file (encoded (node_of place (Map (one ∷ trees))))
      (node_held file (suc depth) line at parent own
      (laid number more (lines_of_pairs (one ∷ trees)) ++ rest)) rest
  mapping_read number more line at parent own rest deeper ends =
      let row : Row = key_row number more one.key (written one.item) in
      let rows : List Row = row ∷ left_behind number more rest in
      let is : laid number more (lines_of_pairs (one ∷ trees)) ++ rest ≡ rows =
      one_laid file depth all one trees number more rest first_reads in
      let enough : length (one ∷ trees) < size rows + 1 = omega (
        arith,
        length_pairs (one ∷ trees),
        size_laid number more (lines_of_pairs (one ∷ trees)) rest,
        ap size is,
      ) in
      let read = pairs_read file depth all (one ∷ trees) (size rows + 1) [] number more rows rest
      shallow differ enough (ap content (sym is)) ends in (
        node_at file row (Map read.0),
        read.1,
        mapping_made file depth number more line at parent own one.key (written one.item)
            (laid number more (lines_of_pairs (one ∷ trees)) ++ rest) (left_behind number more rest)
            read.1 read.0 deeper is read.2,
        read.3,
        mapping_same file (place_at file number (1 + more)) place read.0 (one ∷ trees) read.4,
      )

  mapping_leads :
      (number more : ℕ) (rest : List Row) →
      lead (laid number more (lines_of_pairs (one ∷ trees)) ++ rest) ≡
      Ok (laid number more (lines_of_pairs (one ∷ trees)) ++ rest)
  mapping_leads number more rest =
      let is = one_laid file depth all one trees number more rest first_reads in
      ap lead is ∙ front_lead number (1 + more) (quoted one.key ++ 58 ∷
      behind_mark (written one.item)) (left_behind number more rest) (quote _) ∙
      ap (λ rows. Ok rows) (sym is)

  pub mapping_reads : Reads file (suc depth) (encoded (node_of place (Map (one ∷ trees))))
      (below (lines_of_pairs (one ∷ trees)))
  mapping_reads = (mapping_read, mapping_leads)
