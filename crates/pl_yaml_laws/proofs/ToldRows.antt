-- The lines on which faults are told, where rows are read, and the rows that are left.
use Rattle.std.proofs.Common.{◌≡◌, ℕ, zero, suc, ◌+◌, ◌<◌, ◌≤◌, Bool, true, false, ◌||◌, cond}
use Rattle.std.proofs.Common.{Option, Some, None, Ok, Err, List, [], ◌∷◌, ◌++◌, length, refl, ap}
use Rattle.std.proofs.Common.{sym, subst, arith}
use Rattle.std.specs.Prelude.{◌==◌}
use Rattle.std.proofs.lemmas.Bool.{both_ways}
use Rattle.std.proofs.lemmas.List.{length-drop}
use Rattle.pl_base.specs.declared.place.FileKey.{FileKey}
use Rattle.pl_base.specs.declared.node.Node.{Node}
use Rattle.pl_base.specs.declared.node.NodePair.{NodePair}
use Rattle.pl_line.specs.declared.code.YamlCode.TheVariants as codes_of
use Rattle.pl_line.specs.Rows.{Row, size}
use Rattle.pl_line.specs.Reading.{fault_at}
use Rattle.pl_line.specs.Left.{behind, is_bare, is_comment, is_empty, is_done}
use Rattle.pl_reading.specs.Bytes.{begins_with}
use Rattle.pl_yaml.specs.Reading.{Read, many, many_step}
use Rattle.pl_yaml.specs.Heads.{head_at, head_of, is_marker, is_start}
use Rattle.pl_yaml.specs.Content.{stands, content, begins, lead, is_closed, closed}
use Rattle.pl_yaml.specs.Plain.{continued, further, word}
use Rattle.pl_yaml.specs.BlockScalars.{header_of, first_column, within_column, content_column}
use Rattle.pl_yaml.specs.BlockScalars.{reaches, inside, lines, block}
use Rattle.pl_yaml.specs.Inline.{quoted_node, flow_node, inline_by, inline}
use Rattle.pl_yaml.specs.Keys.{FoundKey, is_colon, quoted_key, key_by, key_in, next_key}
use Rattle.pl_yaml.specs.Nodes.{Values, is_dash, item_in, next_item, value, item, pair, items}
use Rattle.pl_yaml.specs.Nodes.{pairs, sequence, mapping, fits, holder, begun_by, begun, node_in}
use Rattle.pl_yaml.specs.Nodes.{node_with, inner, node}
use Rattle.pl_yaml.specs.Spells.{whole_text, nothing_left, document}
use Rattle.pl_yaml_laws.proofs.Heads.{by_head}
use Rattle.pl_yaml_laws.proofs.Told.{Told, Whatever, is_ok, is_err, goes, either, weaker, ended}
use Rattle.pl_yaml_laws.proofs.Told.{quoted_told, flow_told, behind_on}

module _ (P : ℕ → Type 0) where
  -- of each row's number
  abbrev pub Each : List Row → Type 0
  Each [] = Unit {0}
  Each (row ∷ rows) = P row.number × Each rows

  -- of each row that is left behind what was read, which are no more than so many lines and
  -- characters
  abbrev pub Left : {A : Type 0} → ℕ → A × List Row → Type 0
  Left most read = Each read.1 × (size read.1 ≤ most)

  -- ---- content

  pub stands_told : (row : Row) → P row.number → Told P Whatever (stands row)
  stands_told row on =
      either (begins_with 9 row.text) (is_err _ on)
      (either (is_marker row) (is_err _ on) (is_ok tt tt))

  pub begins_told : (row : Row) → P row.number → Told P Whatever (begins row)
  begins_told row on = either _ (is_err _ on) (stands_told row on)

  pub inside_told : (row : Row) → P row.number → Told P Whatever (inside row)
  inside_told row on = either (is_marker row) (is_err _ on) (ended row on)

  pub closed_told : (n : ℕ) (row : Row) → P row.number → Told P Whatever (closed n row)
  closed_told n row on = either (is_closed n row) (ended row on) (is_err _ (behind_on P n row on))

  abbrev pub Rows : ℕ → List Row → Type 0
  Rows most left = Each left × (size left ≤ most)

  pub content_told : (rows : List Row) → Each rows → Told P (Rows (size rows)) (content rows)
  unfolding content
  content_told [] all = is_ok _ (tt, omega arith)
  content_told (row ∷ rows) all =
      either (is_empty row)
      (goes (ended row all.0)
      (λ _ _. weaker (content_told rows all.1) (λ left k. (k.0, omega (arith, k.1)))))
      (goes (stands_told row all.0) (λ _ _. is_ok _ (all, omega arith)))

  pub lead_told : (rows : List Row) → Each rows → Told P (Rows (size rows)) (lead rows)
  unfolding lead
  lead_told [] all = is_ok _ (tt, omega arith)
  lead_told (row ∷ rows) all =
      either (is_empty row || is_start row)
      (goes (ended row all.0)
      (λ _ _. weaker (lead_told rows all.1) (λ left k. (k.0, omega (arith, k.1)))))
      (goes (begins_told row all.0) (λ _ _. is_ok _ (all, omega arith)))

  -- ---- plain scalars

  pub continued_told : (row : Row) → P row.number → Told P Whatever (continued row)
  continued_told row on = either _ (is_err _ on) (goes (ended row on) (λ _ _. is_ok _ tt))

  pub fewer : {A : Type 0} {read : Read A} (least most : ℕ) → least ≤ most
      → Told P (Left least) read → Told P (Left most) read
  fewer least most less told = weaker told (λ read k. (k.0, omega (arith, less, k.1)))

  pub further_told : (parent last : ℕ) (rows : List Row) → Each rows
      → Told P (Left (size rows)) (further parent last rows)
  unfolding further
  further_told parent last [] all = is_ok _ (tt, omega arith)
  further_told parent last (row ∷ rows) all =
      let more =
      λ (at : ℕ). fewer (size rows) (size (row ∷ rows)) (omega arith)
      (further_told parent at rows all.1) in
      either (is_bare row) (more last)
      (either (is_comment row) (is_ok _ (all, omega arith))
      (goes (stands_told row all.0) (λ _ _. either _
      (goes (continued_told row all.0)
      (λ n _. goes
      (either (n == length row.text) (more row.number) (is_ok _ (all.1, omega arith)))
      (λ read k. is_ok _ k)))
      (is_ok _ (all, omega arith)))))

  pub word_told : (file : FileKey) (parent : ℕ) (row : Row) (n : ℕ) (rows : List Row) → P row.number
      → Each rows → Told P (Left (size rows)) (word file parent row n rows)
  word_told file parent row n rows on all =
      goes (ended row on)
      (λ _ _. goes
      (either _ (further_told parent row.number rows all) (is_ok _ (all, omega arith)))
      (λ read k. is_ok _ k))

  -- ---- block scalars

  pub within_told : (column : ℕ) (rows : List Row) → Each rows
      → Told P Whatever (within_column column rows)
  unfolding within_column
  within_told column [] all = is_ok tt tt
  within_told column (row ∷ rows) all =
      either (is_bare row) (either _ (is_err _ all.0) (within_told column rows all.1)) (is_ok tt tt)

  pub column_told : (parent : ℕ) (digit : Option ℕ) (rows : List Row) → Each rows
      → Told P Whatever (content_column parent digit rows)
  column_told parent None rows all =
      either _ (goes (within_told (first_column rows) rows all) (λ _ _. is_ok _ tt)) (is_ok _ tt)
  column_told parent (Some n) rows all = is_ok _ tt

  pub lines_told : (column : Option ℕ) (rows : List Row) → Each rows
      → Told P (Left (size rows)) (lines column rows)
  unfolding lines
  lines_told column [] all = is_ok _ (tt, omega arith)
  lines_told column (row ∷ rows) all =
      either (is_bare row || reaches column row)
      (goes (inside_told row all.0)
      (λ _ _. goes
      (fewer (size rows) (size (row ∷ rows)) (omega arith) (lines_told column rows all.1))
      (λ read k. is_ok _ k)))
      (is_ok _ (all, omega arith))

  pub block_told : (file : FileKey) (parent : ℕ) (row : Row) (rows : List Row) → P row.number
      → Each rows → Told P (Left (size rows)) (block file parent row rows)
  unfolding block
  block_told file parent row rows on all =
      goes (closed_told _ row on)
      (λ _ _. goes (column_told parent (header_of row).digit rows all)
      (λ column _. goes (lines_told column rows all) (λ read k. is_ok _ k)))

  -- ---- values on the line of their key or dash

  pub quoted_node_told : (file : FileKey) (row : Row) → P row.number → (read : List ℕ × ℕ)
      → Told P Whatever (quoted_node file row read)
  quoted_node_told file row on read = goes (closed_told read.1 row on) (λ _ _. is_ok _ tt)

  pub flow_node_told : (row : Row) → P row.number → (read : Node × ℕ)
      → Told P Whatever (flow_node row read)
  flow_node_told row on read = goes (closed_told read.1 row on) (λ _ _. is_ok _ tt)

  pub inline_at : (file : FileKey) (depth parent : ℕ) (row : Row) (rows : List Row) → P row.number
      → Each rows → (whole : Bool) (text : List ℕ)
      → Told P (Left (size rows)) (inline_by file depth parent row (head_at whole text) rows)
  unfolding head_at
  inline_at file depth parent row rows on all whole text =
      by_head (λ head. Told P (Left (size rows))
      (inline_by file depth parent row head rows)) whole text
      (is_err _ on) (is_err _ on) (is_err _ on) (is_err _ on)
      (goes (goes (quoted_told row on) (λ read _. quoted_node_told file row on read))
      (λ made _. is_ok _ (all, omega arith)))
      (goes (goes (flow_told P file depth row on) (λ read _. flow_node_told row on read))
      (λ made _. is_ok _ (all, omega arith)))
      (block_told file parent row rows on all) (is_err _ on) (λ text n is. rw is (is_err _ on))
      (λ text n isnt. rw isnt (word_told file parent row n rows on all))

  pub inline_told : (file : FileKey) (depth parent : ℕ) (row : Row) (rows : List Row) → P row.number
      → Each rows → Told P (Left (size rows)) (inline file depth parent row rows)
  unfolding inline
  inline_told file depth parent row rows on all =
      inline_at file depth parent row rows on all row.whole row.text

  -- ---- keys

  unfoldable pub Begun : FoundKey → Type 0
  Begun key = P key.start.number × P key.left.number

  pub quoted_key_told : (row : Row) → P row.number → (read : List ℕ × ℕ)
      → Told P Begun (quoted_key row read)
  unfolding Begun
  quoted_key_told row on read =
      either (is_colon (behind read.1 row))
      (is_ok _ (on, behind_on P 1 (behind read.1 row) (behind_on P read.1 row on)))
      (is_err _ (behind_on P read.1 row on))

  pub key_at : (file : FileKey) (depth : ℕ) (row : Row) → P row.number
      → (whole : Bool) (text : List ℕ) → Told P Begun (key_by file depth row (head_at whole text))
  unfolding head_at Begun
  key_at file depth row on whole text =
      by_head (λ head. Told P Begun (key_by file depth row head)) whole text
      (is_err _ on) (is_err _ on) (is_err _ on) (is_err _ on)
      (goes (quoted_told row on) (λ read _. quoted_key_told row on read))
      (goes (flow_told P file depth row on) (λ read _. is_err _ (behind_on P read.1 row on)))
      (is_err _ on) (is_err _ on) (λ text n is. rw is (is_ok _ (on, behind_on P _ row on)))
      (λ text n isnt. rw isnt (is_err _ on))

  -- ---- the next entry of a collection

  unfoldable pub KeyFound : ℕ → Option FoundKey × List Row → Type 0
  KeyFound most (None, left) = Rows most left
  KeyFound most (Some key, left) = Rows most left × Begun key × (0 < length left)

  pub key_in_told : (file : FileKey) (depth column : ℕ) (rows : List Row) → Each rows
      → Told P (KeyFound (size rows)) (key_in file depth column rows)
  unfolding KeyFound
  key_in_told file depth column [] all = is_ok _ (tt, omega arith)
  key_in_told file depth column (row ∷ rows) all =
      either _ (is_ok _ (all, omega arith)) (either _ (is_err _ all.0)
      (goes (key_at file depth row all.0 row.whole row.text)
      (λ key begun. is_ok _ ((all, omega arith), begun, omega arith))))

  pub found_less : (least most : ℕ) → least ≤ most → (found : Option FoundKey × List Row)
      → KeyFound least found → KeyFound most found
  unfolding KeyFound
  found_less least most less (None, left) k = (k.0, omega (arith, k.1))
  found_less least most less (Some key, left) k = ((k.0.0, omega (arith, k.0.1)), k.1, k.2)

  pub next_key_told : (file : FileKey) (depth column : ℕ) (rows : List Row) → Each rows
      → Told P (KeyFound (size rows)) (next_key file depth column rows)
  unfolding next_key
  next_key_told file depth column rows all =
      goes (content_told rows all)
      (λ left k. weaker (key_in_told file depth column left k.0)
      (found_less (size left) (size rows) k.1))

  unfoldable pub ItemFound : ℕ → Option Row × List Row → Type 0
  ItemFound most (None, left) = Rows most left
  ItemFound most (Some row, []) = ⊥
  ItemFound most (Some row, first ∷ left) = Rows most (first ∷ left) × (row ≡ first)
      × (0 < length row.text)

  pub dash_some : (whole : Bool) (text : List ℕ) → is_dash (head_at whole text) ≡ true
      → 0 < length text
  unfolding head_at
  dash_some whole [] is = absurd (both_ways false refl is)
  dash_some whole (c ∷ cs) is = omega arith

  pub item_in_told : (parent column : ℕ) (rows : List Row) → Each rows
      → Told P (ItemFound (size rows)) (item_in parent column rows)
  unfolding ItemFound
  item_in_told parent column [] all = is_ok _ (tt, omega arith)
  item_in_told parent column (row ∷ rows) all =
      either _ (is_ok _ (all, omega arith))
      (either _ (is_err _ all.0) (dashed row rows all (is_dash (head_of row)) refl))
    where
      dashed : (row : Row) (rows : List Row) → Each (row ∷ rows) → (b : Bool)
          → is_dash (head_of row) ≡ b
          → Told P (ItemFound (size (row ∷ rows)))
          (cond b (Ok (Some row, row ∷ rows))
          (cond (parent == column) (Ok (None, row ∷ rows))
          (Err (fault_at codes_of.NoEntry row))))
      dashed row rows all true is =
          is_ok _ ((all, omega arith), refl, dash_some row.whole row.text is)
      dashed row rows all false is = either _ (is_ok _ (all, omega arith)) (is_err _ all.0)

  pub item_less : (least most : ℕ) → least ≤ most → (found : Option Row × List Row)
      → ItemFound least found → ItemFound most found
  unfolding ItemFound
  item_less least most less (None, left) k = (k.0, omega (arith, k.1))
  item_less least most less (Some row, []) k = k
  item_less least most less (Some row, first ∷ left) k = ((k.0.0, omega (arith, k.0.1)), k.1, k.2)

  pub next_item_told : (parent column : ℕ) (rows : List Row) → Each rows
      → Told P (ItemFound (size rows)) (next_item parent column rows)
  unfolding next_item
  next_item_told parent column rows all =
      goes (content_told rows all)
      (λ left k. weaker (item_in_told parent column left k.0)
      (item_less (size left) (size rows) k.1))

  -- ---- entries

  -- fewer than so many lines and characters are left
  abbrev pub Less : {A : Type 0} → ℕ → A × List Row → Type 0
  Less most read = Each read.1 × (size read.1 < most)

  pub behind_less : (row : Row) → 0 < length row.text → length (behind 1 row).text < length row.text
  unfolding behind
  behind_less row some = omega (arith, length-drop {A = ℕ})

  module _ {X A : Type 0} (here : List Row → Read (Option X)) (one : List A → X → List Row → Read A)
      (Found : ℕ → Option X × List Row → Type 0)
      (here_told : (rows : List Row) → Each rows → Told P (Found (size rows)) (here rows))
      (none : (most : ℕ) (left : List Row) → Found most (None, left) → Rows most left)
      (one_told : (most : ℕ) (before : List A) (x : X) (left : List Row) → Found most (Some x, left)
      → Told P (Less most) (one before x left)) where
    pub step_told : (turns : ℕ) (before : List A) (most : ℕ)
        → ((before : List A) (rows : List Row) → Each rows
        → Told P (Left (size rows)) (many here one turns before rows))
        → (found : Option X × List Row) → Found most found
        → Told P (Left most) (many_step (many here one turns) one before found.0 found.1)
    step_told turns before most more (None, left) k = is_ok _ (none most left k)
    step_told turns before most more (Some x, left) k =
        goes (one_told most before x left k)
        (λ next less. let few = less.1 in
        fewer (size next.1) most (omega (arith, few))
        (more (before ++ next.0 ∷ []) next.1 less.0))

    pub many_told : (turns : ℕ) (before : List A) (rows : List Row) → Each rows
        → Told P (Left (size rows)) (many here one turns before rows)
    unfolding many
    many_told zero before rows all = is_ok _ (all, omega arith)
    many_told (suc turns) before rows all =
        goes (here_told rows all)
        (λ found k. step_told turns before (size rows) (many_told turns) found k)

  -- values whose faults are told so
  unfoldable pub Sound : Values → Type 0
  Sound values = (slot : _) (rows : List Row) → Each rows
      → Told P (Left (size rows)) (values.node slot rows)

  module _ (file : FileKey) (values : Values) (sound : Sound values) where
    pub value_told : (slot : _) (row : Row) (rows : List Row) → P row.number → Each rows
        → Told P (Left (size rows)) (value file values slot row rows)
    unfolding value Sound
    value_told slot row rows on all =
        either (is_done row) (goes (ended row on) (λ _ _. sound slot rows all))
        (inline_told file values.depth _ row rows on all)

    pub item_told : (row : Row) (rows : List Row) → 0 < length row.text → Each (row ∷ rows)
        → Told P (Less (size (row ∷ rows))) (item file values row (row ∷ rows))
    unfolding item Sound
    item_told row rows some all =
        let less = behind_less row some in
        either _ (weaker (sound _ (behind 1 row ∷ rows) (behind_on P 1 row all.0, all.1))
        (λ read k. (k.0, omega (arith, k.1, less))))
        (weaker (value_told _ (behind 1 row) rows (behind_on P 1 row all.0) all.1)
        (λ read k. (k.0, omega (arith, k.1))))

    pub pair_told : (before : List NodePair) (key : FoundKey) (rows : List Row) → Begun key
        → 0 < length rows → Each rows → Told P (Less (size rows)) (pair file values before key rows)
    unfolding pair Begun
    pair_told before key [] begun some all = absurd (omega arith)
    pair_told before key (row ∷ rows) begun some all =
        either _ (is_err _ begun.0)
        (goes (value_told _ key.left rows begun.1 all.1)
        (λ read k. is_ok _ (k.0, omega (arith, k.1))))

    pub item_step : (most : ℕ) (before : List Node) (row : Row) (left : List Row)
        → ItemFound most (Some row, left) → Told P (Less most) (item file values row left)
    unfolding ItemFound
    item_step most before row [] k = absurd k
    item_step most before row (first ∷ left) k =
        let all : Each (row ∷ left) =
        (subst (λ (r : Row). P r.number) (sym k.1) k.0.0.0, k.0.0.1) in
        let same : length row.text ≡ length first.text = ap (λ (r : Row). length r.text) k.1 in
        subst (λ (r : Row). Told P (Less most) (item file values row (r ∷ left))) k.1
        (weaker (item_told row left k.2 all)
        (λ read less. (less.0, omega (arith, less.1, k.0.1, same))))

    pub items_told : (parent column turns : ℕ) (before : List Node) (rows : List Row) → Each rows
        → Told P (Left (size rows)) (items (item file values) parent column turns before rows)
    unfolding ItemFound
    items_told parent column =
        many_told (next_item parent column) (λ _ row left. item file values row left) ItemFound
        (next_item_told parent column) (λ most left k. k) item_step

    pub pair_step : (most : ℕ) (before : List NodePair) (key : FoundKey) (left : List Row)
        → KeyFound most (Some key, left) → Told P (Less most) (pair file values before key left)
    unfolding KeyFound
    pair_step most before key left k =
        weaker (pair_told before key left k.1 k.2 k.0.0)
        (λ read less. (less.0, omega (arith, less.1, k.0.1)))

    pub pairs_told : (column turns : ℕ) (before : List NodePair) (rows : List Row) → Each rows
        → Told P (Left (size rows)) (pairs file values column turns before rows)
    unfolding KeyFound
    pairs_told column =
        many_told (next_key file values.depth column) (pair file values) KeyFound
        (next_key_told file values.depth column) (λ most left k. k) pair_step

  -- ---- nodes

  unfoldable pub InnerSound : Option Values → Type 0
  InnerSound None = Unit {0}
  InnerSound (Some values) = Sound values

  pub sequence_told : (file : FileKey) (inside : Option Values) → InnerSound inside
      → (parent : ℕ) (row : Row) (rows : List Row) → P row.number → Each rows
      → Told P (Left (size rows)) (sequence file inside parent row rows)
  unfolding sequence InnerSound
  sequence_told file None sound parent row rows on all = is_err _ on
  sequence_told file (Some values) sound parent row rows on all =
      goes (items_told file values sound parent row.column (size rows + 1) [] rows all)
      (λ read k. is_ok _ k)

  pub mapping_told : (file : FileKey) (inside : Option Values) → InnerSound inside
      → (row : Row) (rows : List Row) → P row.number → Each rows
      → Told P (Left (size rows)) (mapping file inside row rows)
  unfolding mapping InnerSound
  mapping_told file None sound row rows on all = is_err _ on
  mapping_told file (Some values) sound row rows on all =
      goes (pairs_told file values sound row.column (size rows + 1) [] rows all)
      (λ read k. is_ok _ k)

  module _ (file : FileKey) (depth : ℕ) (inside : Option Values) (sound : InnerSound inside) where
    pub begun_at : (parent : ℕ) (row : Row) (rows : List Row) → P row.number → Each rows
        → (whole : Bool) (text : List ℕ)
        → Told P (Left (size (row ∷ rows)))
        (begun_by (holder file depth parent) inside row (head_at whole text) (row ∷ rows))
    unfolding head_at
    begun_at parent row rows on all whole text =
        by_head (λ head. Told P (Left (size (row ∷ rows)))
        (begun_by (holder file depth parent) inside row head (row ∷ rows))) whole text
        (sequence_told file inside sound parent row (row ∷ rows) on (on, all)) (is_err _ on)
        (is_err _ on) (is_err _ on)
        (goes (quoted_told row on)
        (λ read _. either _ (mapping_told file inside sound row (row ∷ rows) on (on, all))
        (goes (quoted_node_told file row on read) (λ made _. is_ok _ (all, omega arith)))))
        (goes (goes (flow_told P file depth row on)
        (λ read _. either _ (is_err _ (behind_on P read.1 row on)) (flow_node_told row on read)))
        (λ made _. is_ok _ (all, omega arith)))
        (fewer (size rows) (size (row ∷ rows)) (omega arith)
        (block_told file parent row rows on all)) (is_err _ on)
        (λ text n is. rw is (mapping_told file inside sound row (row ∷ rows) on (on, all)))
        (λ text n isnt. rw isnt (fewer (size rows) (size (row ∷ rows)) (omega arith)
        (word_told file parent row n rows on all)))

    pub node_in_told : (slot : _) (rows : List Row) → Each rows
        → Told P (Left (size rows)) (node_in file depth inside slot rows)
    unfolding begun
    node_in_told slot [] all = is_ok _ (tt, omega arith)
    node_in_told slot (row ∷ rows) all =
        either (fits slot row) (begun_at _ row rows all.0 all.1 row.whole row.text)
        (is_ok _ (all, omega arith))

    pub node_with_told : (slot : _) (rows : List Row) → Each rows
        → Told P (Left (size rows)) (node_with file depth inside slot rows)
    node_with_told slot rows all =
        goes (content_told rows all)
        (λ left k. fewer (size left) (size rows) k.1 (node_in_told slot left k.0))

  pub inner_sound : (file : FileKey) (depth : ℕ) → InnerSound (inner file depth)
  unfolding inner InnerSound Sound
  inner_sound file zero = tt
  inner_sound file (suc depth) =
      node_with_told file depth (inner file depth) (inner_sound file depth)

  pub node_told : (file : FileKey) (depth : ℕ) (slot : _) (rows : List Row) → Each rows
      → Told P (Left (size rows)) (node file depth slot rows)
  unfolding node
  node_told file depth slot rows all =
      node_with_told file depth (inner file depth) (inner_sound file depth) slot rows all

  pub document_told : (file : FileKey) (rows : List Row) → Each rows
      → Told P Whatever (document file rows)
  unfolding document
  document_told file rows all =
      goes (lead_told rows all)
      (λ left k. goes (node_told file 64 whole_text left k.0)
      (λ read here. goes (content_told read.1 here.0)
      (λ rest more. goes (nothing_told rest more.0) (λ _ _. is_ok _ tt))))
    where
      nothing_told : (rows : List Row) → Each rows → Told P Whatever (nothing_left rows)
      nothing_told [] all = is_ok _ tt
      nothing_told (row ∷ rows) all = is_err _ all.0
