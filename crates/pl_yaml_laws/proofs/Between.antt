-- Two readings of rows that differ in one row between them, which is passed over.
use Rattle.std.proofs.Common.{◌≡◌, ℕ, zero, suc, ◌+◌, ◌<◌, ◌≤◌, Bool, true, false, not, ◌&&◌, ◌||◌}
use Rattle.std.proofs.Common.{cond, Option, Some, None, Result, Ok, Err, List, [], ◌∷◌, ◌++◌}
use Rattle.std.proofs.Common.{length, drop, refl, ap, sym, subst, ◌∙◌, arith, inl, inr}
use Rattle.std.specs.Prelude.{◌==◌, nat_lt, encode_utf8_all}
use Rattle.std.proofs.lemmas.Bool.{cases_Bool, both_ways, and_parts, or_cases, and_from}
use Rattle.std.proofs.lemmas.Bool.{or_parts, or_right}
use Rattle.std.proofs.lemmas.Bool.{not-true, or_left, eqb-true}
use Rattle.pl_base.specs.declared.place.FileKey.{FileKey}
use Rattle.pl_base.specs.declared.node.Node.{Node}
use Rattle.pl_base.specs.declared.node.NodeBody.TheVariants.{Scalar}
use Rattle.pl_base.specs.declared.node.NodePair.{NodePair}
use Rattle.pl_line.specs.declared.code.YamlCode.TheVariants as codes_of
use Rattle.pl_line.specs.declared.line_fault.Fault.{Fault}
use Rattle.pl_line.specs.Rows.{Row, size}
use Rattle.pl_line.specs.Reading.{fault_at, fault_behind}
use Rattle.pl_reading.specs.Steps.{◌>>=◌}
use Rattle.pl_line.specs.Left.{behind, line_end, is_bare, is_comment, is_empty, is_done}
use Rattle.pl_line.specs.Left.{spaces_only}
use Rattle.pl_line.specs.Scanning.{plain_len}
use Rattle.pl_line.specs.Trees.{node_at, is_doubled}
use Rattle.pl_line.specs.Quoted.{quoted}
use Rattle.pl_line.specs.Flow.{flow}
use Rattle.pl_yaml.specs.Reading.{Read, has_row, many, many_step}
use Rattle.pl_yaml.specs.Heads.{head_at, head_of, is_start}
use Rattle.pl_yaml.specs.Content.{stands, content, begins, lead, closed}
use Rattle.pl_yaml.specs.Plain.{continued, further, behind_line, word}
use Rattle.pl_yaml.specs.BlockScalars.{header_of, first_column, within_column, found_column}
use Rattle.pl_yaml.specs.BlockScalars.{content_column, reaches, inside, line_from, lines}
use Rattle.pl_yaml.specs.BlockScalars.{indicators, block_text, block}
use Rattle.pl_yaml.specs.Inline.{quoted_node, flow_node, inline_by, inline}
use Rattle.pl_yaml.specs.Keys.{FoundKey, is_colon, key_by, key_in, next_key}
use Rattle.pl_yaml.specs.Nodes.{Values, is_dash, item_in, next_item, below, value, item, pair}
use Rattle.pl_yaml.specs.Nodes.{items, pairs, sequence, mapping, in_brackets, holder, begun_by}
use Rattle.pl_yaml.specs.Nodes.{begun, fits, node_in, node_with, inner, node}
use Rattle.pl_yaml.specs.Spells.{whole_text, nothing_left, document, placed}
use Rattle.pl_yaml_laws.proofs.Heads.{by_heads}
use Rattle.pl_yaml_laws.specs.EmptyLines.{IsPassedOver}
use Rattle.pl_yaml_laws.specs.Between.{held_at, is_scalar, has_colon, is_low, is_left, stops}
use Rattle.pl_yaml_laws.specs.Between.{is_passed, alone_ended, each_ended}
use Rattle.pl_yaml_laws.specs.Between.{PassedOverBetween, PassedOverInside}
use Rattle.pl_yaml_laws.proofs.Texts.{spelled_is}
use Rattle.pl_yaml_laws.proofs.Told.{Told, Whatever}
use Rattle.pl_yaml_laws.proofs.ToldRows.{stands_told, Less, Sound, InnerSound}
use Rattle.pl_yaml_laws.proofs.ToldRows.{inner_sound, KeyFound, ItemFound, next_key_told}
use Rattle.pl_yaml_laws.proofs.ToldRows.{next_item_told, item_step, pair_step}
use Rattle.pl_yaml_laws.proofs.Agreeing.{Any, any_each, size_append}
use Rattle.pl_yaml_laws.proofs.BetweenRows.{start_refused, colon_refused, deeper_colon, len_open}
use Rattle.pl_yaml_laws.proofs.BetweenRows.{Out, column_told, digit_some, KeyLink, key_found}
use Rattle.pl_yaml_laws.proofs.BetweenRows.{mark_len, held_plain, held_key, held_least, held_more}
use Rattle.pl_yaml_laws.proofs.BetweenRows.{ItemLink, bind_same, Stops, Shut, Alone, Fits, Full}
use Rattle.pl_yaml_laws.proofs.BetweenRows.{shut_behind, alone_more, alone_is, fits_is, fits_skip}
use Rattle.pl_yaml_laws.proofs.BetweenRows.{FitsIn, alone_skip, bare_stops, deeper_stops, shut_left}

module _ (row next : Row) (rest : List Row) (passed : IsPassedOver row)
    (full : is_empty next ≡ false) where
  abbrev one : List Row
  one = next ∷ rest

  abbrev two : List Row
  two = row ∷ next ∷ rest

  -- ---- what is read alike

  data Sync {A : Type 0} : A × List Row → A × List Row → Type 0 where
    sync : (x : A) (front : List Row) → Fits next front → Sync (x, front ++ one) (x, front ++ two)

  -- rows of which more is known, the first of which has content
  data SyncRows (Q : List Row → Type 0) : List Row → List Row → Type 0 where
    sync_rows : (front : List Row) → Q front → Full front
        → SyncRows Q (front ++ one) (front ++ two)

  -- the same in both, or refused on the next line
  data Alike {Y : Type 0} (S : Y → Y → Type 0) : Result Y Fault → Result Y Fault → Type 0 where
    same : (read : Result Y Fault) → Alike S read read
    both : (y z : Y) → S y z → Alike S (Ok y) (Ok z)
    lost : (fault : Fault) (other : Result Y Fault) → fault.line ≡ next.number
        → Alike S (Err fault) other

  by_equal : {Y : Type 0} {S : Y → Y → Type 0} {read other : Result Y Fault} → read ≡ other
      → Alike S read other
  by_equal {S = S} {read = read} is = subst (Alike S read) is (same read)

  goes : {Y Z : Type 0} {S : Y → Y → Type 0} {T : Z → Z → Type 0} {read other : Result Y Fault}
      {more : Y → Result Z Fault} → Alike S read other
      → ((y z : Y) → S y z → Alike T (more y) (more z)) → Alike T (read >>= more) (other >>= more)
  goes {more = more} (same read) then = same (read >>= more)
  goes (both y z s) then = then y z s
  goes {more = more} (lost fault other on) then = lost fault (other >>= more) on

  -- the same where what is known of the first is used, and reading goes on in two ways
  known_goes : {Y Z : Type 0} {S : Y → Y → Type 0} {T : Z → Z → Type 0} {I : Y → Type 0}
      {read other : Result Y Fault} {more further : Y → Result Z Fault} → Told Any I read
      → Alike S read other → ((y z : Y) → S y z → I y → Alike T (more y) (further z))
      → ((y : Y) → I y → more y ≡ further y) → Alike T (read >>= more) (other >>= further)
  known_goes info (same (Ok y)) then equal = by_equal (equal y info.holds)
  known_goes info (same (Err fault)) then equal = same (Err fault)
  known_goes info (both y z s) then equal = then y z s info.holds
  known_goes {further = further} info (lost fault other on) then equal =
      lost fault (other >>= further) on

  -- what is read of a row alone is the same in both
  at : {Y Z : Type 0} {T : Z → Z → Type 0} (read : Result Y Fault)
      {more further : Y → Result Z Fault} → ((y : Y) → Alike T (more y) (further y))
      → Alike T (read >>= more) (read >>= further)
  at (Ok y) then = then y
  at (Err fault) then = same (Err fault)

  known_at : {Y Z : Type 0} {T : Z → Z → Type 0} {K : Y → Type 0} (read : Result Y Fault)
      {more further : Y → Result Z Fault} → Told Any K read
      → ((y : Y) → K y → Alike T (more y) (further y)) → Alike T (read >>= more) (read >>= further)
  known_at (Ok y) told then = then y told.holds
  known_at (Err fault) told then = same (Err fault)

  refused : {Y Z : Type 0} {T : Z → Z → Type 0} {read : Result Y Fault} (fault : Fault)
      (more others : Y → Result Z Fault) → read ≡ Err fault
      → Alike T (read >>= more) (read >>= others)
  refused {T = T} fault more others is =
      subst (λ r. Alike T (r >>= more) (r >>= others)) (sym is) (same (Err fault))

  either : {Y : Type 0} {S : Y → Y → Type 0} (b : Bool) {x y u v : Result Y Fault}
      → Alike S x u → Alike S y v → Alike S (cond b x y) (cond b u v)
  either true yes_alike no_alike = yes_alike
  either false yes_alike no_alike = no_alike

  by_sync : {A Z : Type 0} {T : Z → Z → Type 0} (more : A × List Row → Result Z Fault)
      → ((x : A) (front : List Row) → Fits next front
      → Alike T (more (x, front ++ one)) (more (x, front ++ two)))
      → (y z : A × List Row) → Sync y z → Alike T (more y) (more z)
  by_sync more then y z (sync x front fits) = then x front fits

  by_rows : {Z : Type 0} {T : Z → Z → Type 0} (Q : List Row → Type 0)
      (more : List Row → Result Z Fault)
      → ((front : List Row) → Q front → Full front
      → Alike T (more (front ++ one)) (more (front ++ two)))
      → (y z : List Row) → SyncRows Q y z → Alike T (more y) (more z)
  by_rows Q more then y z (sync_rows front q full) = then front q full

  -- ---- content

  row_ends : line_end row ≡ Ok tt
  row_ends = rw passed.1 refl

  module _ (Q : List Row → Type 0)
      (skips : (first : Row) (front : List Row) → is_passed first ≡ true → Q (first ∷ front)
      → Q front) where
    content_alike : (front : List Row) → Q front
        → Alike (SyncRows Q) (content (front ++ one)) (content (front ++ two))
    unfolding content Full
    content_alike [] q =
        by_equal (sym (ap (λ b. cond b (line_end row >>= λ _. content one)
        (stands row >>= λ _. Ok (row ∷ one))) passed.0
        ∙ ap (λ end. end >>= λ _. content one) row_ends))
    content_alike (first ∷ front) q = elim (cases_Bool (is_empty first)) [
      | inl empty ↦
          rw empty (at (line_end first)
          (λ _. content_alike front (skips first front (ap (λ b. b || is_start first) empty) q)))
      | inr full ↦ elim (cases_Bool (is_start first)) [
        | inl start ↦
            let refusal = start_refused first start in rw full (refused refusal.0 _ _ refusal.1)
        | inr none ↦
            rw full (at (stands first)
            (λ _. both _ _ (sync_rows (first ∷ front) q (or_none full none))))
      ]
    ]
      where
        or_none : is_empty first ≡ false → is_start first ≡ false → is_passed first ≡ false
        or_none full none = rw (full, none) refl

    lead_alike : (front : List Row) → Q front
        → Alike (SyncRows Q) (lead (front ++ one)) (lead (front ++ two))
    unfolding lead Full
    lead_alike [] q =
        by_equal (sym (ap (λ b. cond b (line_end row >>= λ _. lead one)
        (begins row >>= λ _. Ok (row ∷ one))) (ap (λ b. b || is_start row) passed.0)
        ∙ ap (λ end. end >>= λ _. lead one) row_ends))
    lead_alike (first ∷ front) q = elim (cases_Bool (is_passed first)) [
      | inl empty ↦ rw empty
          (at (line_end first) (λ _. lead_alike front (skips first front empty q)))
      | inr full ↦
          rw full (at (begins first) (λ _. both _ _ (sync_rows (first ∷ front) q full)))
    ]

  -- ---- plain scalars

  no_bare : is_bare next ≡ false
  no_bare = (or_parts (is_bare next) (is_comment next) full).0

  no_comment : is_comment next ≡ false
  no_comment = (or_parts (is_bare next) (is_comment next) full).1

  abbrev On : ℕ → Type 0
  On n = n ≡ next.number

  judged : {Y : Type 0} {T : Y → Y → Type 0} (end : Result Unit Fault)
      (more : Unit → Result Y Fault) (other : Result Y Fault) → Told On Whatever end →
      Alike T (more tt) other
      → Alike T (end >>= more) other
  judged (Ok x) more other told then = then
  judged (Err fault) more other told then = lost fault other told.holds

  next_alike : (parent last column : ℕ) → column ≤ parent → stops column next ≡ true
      → Alike Sync (further parent last one) (further parent last two)
  unfolding further Fits
  next_alike parent last column within stop = elim (cases_Bool (is_bare row)) [
    | inl bare ↦ rw bare (same (further parent last one))
    | inr some ↦
        let comment : is_comment row ≡ true = rw some at passed.0 in
        rw (some, comment, no_bare, no_comment)
        (judged (stands next) _ _ (stands_told On next refl)
        (elim (cases_Bool (nat_lt parent next.column)) [
          | inl deeper ↦
              let refusal =
              colon_refused next (deeper_colon column parent next within deeper no_comment stop) in
              rw (deeper, refusal.1) (lost refusal.0 (Ok ([], two)) refusal.2)
          | inr low ↦ rw low (both _ _ (sync [] [] tt))
        ]))
  ]

  further_alike : (parent last column : ℕ) (front : List Row) → Fits next front → column ≤ parent
      → Stops next column front
      → Alike Sync (further parent last (front ++ one)) (further parent last (front ++ two))
  unfolding further Fits Stops
  further_alike parent last column [] fits within (inl left) = absurd (both_ways false refl left)
  further_alike parent last column [] fits within (inr stop) =
      next_alike parent last column within stop
  further_alike parent last column (first ∷ front) fits within stop =
      elim (cases_Bool (is_bare first)) [
        | inl bare ↦
            rw bare (further_alike parent last column front fits.1 within
            (bare_stops next column first front bare stop))
        | inr full ↦ elim (cases_Bool (is_comment first)) [
          | inl comment ↦ rw (full, comment) (both _ _ (sync [] (first ∷ front) fits))
          | inr text ↦ rw (full, text) (at (stands first)
              (λ _. elim (cases_Bool (nat_lt parent first.column)) [
                | inl deeper ↦
                    rw deeper
                    (elim (deeper_stops next parent column first front within full text deeper
                    stop) [
                      | inl more ↦
                          at (continued first)
                          (λ n. goes (either (n == length first.text)
                          (further_alike parent first.number column front fits.1 within more)
                          (both _ _ (sync [] front fits.1)))
                          (by_sync _ (λ x rest fit. both _ _ (sync _ rest fit))))
                      | inr colon ↦
                          let refusal = colon_refused first colon in
                          refused refusal.0 _ _ refusal.1
                    ])
                | inr low ↦ rw low (both _ _ (sync [] (first ∷ front) fits))
              ]))
        ]
      ]

  word_alike : (file : FileKey) (parent : ℕ) (first : Row) (front : List Row) → Fits next front
      → 0 < length first.text → Shut next parent first.text front
      → Alike Sync
      (word file parent first (plain_len first.whole false first.text) (front ++ one))
      (word file parent first (plain_len first.whole false first.text) (front ++ two))
  unfolding Shut Stops
  word_alike file parent first front fits some shut = elim (cases_Bool first.whole) [
    | inl whole ↦
        at (line_end first) (λ _. goes (behind_alike whole)
        (by_sync _ (λ x rest fit. both _ _ (sync _ rest fit))))
    | inr cut ↦
        let stop : line_end first ≡ Err (fault_behind codes_of.NoEntry (length first.text) first) =
        rw cut refl in
        refused _ _ _ stop
  ]
    where
      len : ℕ
      len = plain_len first.whole false first.text

      all_len : first.whole ≡ true → (length first.text == len) ≡ true
          → plain_len true false first.text ≡ length first.text
      all_len whole all =
          ap (λ w. plain_len w false first.text) (sym whole)
          ∙ sym (eqb-true (length first.text) len all)

      behind_alike : first.whole ≡ true
          → Alike Sync (behind_line parent first len (front ++ one))
          (behind_line parent first len (front ++ two))
      behind_alike whole = elim (cases_Bool (length first.text == len)) [
        | inl all ↦ rw all (elim shut [
          | inl left ↦
              further_alike parent first.number parent front fits (omega arith) (inl left)
          | inr other ↦ elim other.1 [
            | inl closed ↦ absurd (len_open false first.text closed some (all_len whole all))
            | inr stopped ↦
                further_alike parent first.number parent front fits (omega arith) (inr stopped)
          ]
        ])
        | inr less ↦ rw less (both _ _ (sync [] front fits))
      ]

  -- ---- block scalars

  same_row : (front : List Row) → has_row (front ++ one) ≡ has_row (front ++ two)
  same_row [] = refl
  same_row (first ∷ front) = refl

  left_on : (parent : ℕ) (column : Option ℕ) (first : Row) (front : List Row) → Out parent column
      → (is_bare first || reaches column first) ≡ true → is_left parent (first ∷ front) ≡ true
      → is_left parent front ≡ true
  unfolding Out
  left_on parent column first front out inner left =
      elim (or_cases (not (is_bare first) && is_low parent first) (is_left parent front) left) [
        | inl here ↦
            let parts = and_parts (not (is_bare first)) (is_low parent first) here in
            let full : is_bare first ≡ false = not-true (is_bare first) parts.0 in
            let beside : (is_bare first || reaches column first) ≡ false =
            rw (full, out first parts.1) refl in
            absurd (both_ways (is_bare first || reaches column first) beside inner)
        | inr more ↦ more
      ]

  lines_alike : (parent : ℕ) (column : Option ℕ) (front : List Row) → Fits next front
      → Out parent column → is_left parent front ≡ true
      → Alike Sync (lines column (front ++ one)) (lines column (front ++ two))
  unfolding lines Fits
  lines_alike parent column [] fits out left = absurd (both_ways false refl left)
  lines_alike parent column (first ∷ front) fits out left =
      elim (cases_Bool (is_bare first || reaches column first)) [
        | inl inner ↦
            rw inner (subst
            (λ b. Alike Sync
            (inside first >>= λ _. lines column (front ++ one)
            >>= λ read. Ok (line_from column first (has_row (front ++ one)) ∷ read.0, read.1))
            (inside first >>= λ _. lines column (front ++ two)
            >>= λ read. Ok (line_from column first b ∷ read.0, read.1))) (same_row front)
            (at (inside first)
            (λ _. goes (lines_alike parent column front fits.1 out
            (left_on parent column first front out inner left))
            (by_sync _ (λ x rest fit. both _ _ (sync _ rest fit))))))
        | inr beside ↦ rw beside (both _ _ (sync [] (first ∷ front) fits))
      ]

  first_same : (parent : ℕ) (front : List Row) → is_left parent front ≡ true
      → first_column (front ++ one) ≡ first_column (front ++ two)
  unfolding first_column
  first_same parent [] left = absurd (both_ways false refl left)
  first_same parent (first ∷ front) left = elim (cases_Bool (is_bare first)) [
    | inl bare ↦ rw bare (first_same parent front (rw bare at left))
    | inr full ↦ rw full refl
  ]

  within_same : (parent column : ℕ) (front : List Row) → is_left parent front ≡ true
      → within_column column (front ++ one) ≡ within_column column (front ++ two)
  unfolding within_column
  within_same parent column [] left = absurd (both_ways false refl left)
  within_same parent column (first ∷ front) left = elim (cases_Bool (is_bare first)) [
    | inl bare ↦
        rw bare (ap
        (λ r. cond (nat_lt column first.column) (Err (fault_at codes_of.BadIndent first)) r)
        (within_same parent column front (rw bare at left)))
    | inr full ↦ rw full refl
  ]

  column_same : (parent : ℕ) (digit : Option ℕ) (front : List Row) → is_left parent front ≡ true
      → content_column parent digit (front ++ one) ≡ content_column parent digit (front ++ two)
  column_same parent (Some n) front left = refl
  column_same parent None front left =
      ap (λ c. found_column parent c (front ++ one)) (first_same parent front left)
      ∙ ap (λ r. cond (nat_lt parent (first_column (front ++ two)))
      (r >>= λ _. Ok (Some (first_column (front ++ two)))) (Ok None))
      (within_same parent (first_column (front ++ two)) front left)

  abbrev scalar_from : FileKey → Row → List Row → Option ℕ → Read Node
  scalar_from file first rows column =
      lines column rows
      >>= λ read. Ok (
        node_at file first
            (Scalar (encode_utf8_all
            (block_text (header_of first).folded (header_of first).chomping read.0))),
        read.1,
      )

  block_alike : (file : FileKey) (parent : ℕ) (first : Row) (front : List Row) → Fits next front
      → is_left parent front ≡ true
      → Alike Sync (block file parent first (front ++ one)) (block file parent first (front ++ two))
  unfolding block
  block_alike file parent first front fits left =
      at (closed (header_of first).len first)
      (λ _. subst (λ r. Alike Sync
      (content_column parent (header_of first).digit (front ++ one)
      >>= scalar_from file first (front ++ one))
      (r >>= scalar_from file first (front ++ two)))
      (column_same parent (header_of first).digit front left)
      (known_at (content_column parent (header_of first).digit (front ++ one))
      (column_told parent (header_of first).digit (front ++ one)
      (digit_some (indicators (drop 1 first.text))))
      (λ column out. goes (lines_alike parent column front fits out left)
      (by_sync _ (λ x rest fit. both _ _ (sync _ rest fit))))))

  -- ---- values on the line of their key or dash

  inline_alike :
      (file : FileKey) (depth parent : ℕ) (first : Row) (front : List Row) → Fits next front
      → (is_scalar first ≡ true → Shut next parent first.text front)
      → Alike Sync (inline file depth parent first (front ++ one))
      (inline file depth parent first (front ++ two))
  unfolding inline head_at
  inline_alike file depth parent first front fits shut =
      by_heads (λ head. Alike Sync (inline_by file depth parent first head (front ++ one))
      (inline_by file depth parent first head (front ++ two))) first.whole first.text
      (same _) (same _) (same _) (same _)
      (at (quoted first >>= quoted_node file first) (λ made. both _ _ (sync made front fits)))
      (at (flow file depth first >>= flow_node first) (λ made. both _ _ (sync made front fits)))
      (λ no_dash bar. block_alike file parent first front fits
      (shut_left next parent first.text front bar
      (shut (and_from _ _ (ap not no_dash) (or_right (not (has_colon first)) _ bar)))))
      (same _) (λ text n is. rw is (same _))
      (λ no_dash some isnt. rw isnt (word_alike file parent first front fits some
      (shut (and_from _ _ (ap not no_dash) (or_left (not (has_colon first)) _ (ap not isnt))))))

  -- ---- the next entry of a collection

  -- an entry that was found begins at the first of the rows
  data SyncFound {E : Type 0} (Link : E → Row → Type 0) : Option E × List Row
      → Option E × List Row → Type 0 where
    sync_none : (front : List Row) → Fits next front
        → SyncFound Link (None, front ++ one) (None, front ++ two)
    sync_some : (x : E) (first : Row) (front : List Row) → Fits next (first ∷ front)
        → is_passed first ≡ false → Link x first
        → SyncFound Link (Some x, first ∷ front ++ one) (Some x, first ∷ front ++ two)

  next_key_alike : (file : FileKey) (depth column : ℕ) (front : List Row) → Fits next front
      → Alike (SyncFound KeyLink) (next_key file depth column (front ++ one))
      (next_key file depth column (front ++ two))
  unfolding next_key Full
  next_key_alike file depth column front fits =
      goes (content_alike (Fits next) (fits_skip next) front fits) (by_rows (Fits next) _ found)
    where
      found : (rest : List Row) → Fits next rest → Full rest
          → Alike (SyncFound KeyLink) (key_in file depth column (rest ++ one))
          (key_in file depth column (rest ++ two))
      found [] fit full = absurd full
      found (first ∷ rest) fit full =
          either (nat_lt first.column column) (both _ _ (sync_none (first ∷ rest) fit))
          (either (nat_lt column first.column) (same _)
          (known_at (key_by file depth first (head_of first))
          (key_found file depth first)
          (λ key link. both _ _ (sync_some key first rest fit full link))))

  next_item_alike : (parent column : ℕ) (front : List Row) → Fits next front
      → Alike (SyncFound ItemLink) (next_item parent column (front ++ one))
      (next_item parent column (front ++ two))
  unfolding next_item Full ItemLink
  next_item_alike parent column front fits =
      goes (content_alike (Fits next) (fits_skip next) front fits) (by_rows (Fits next) _ found)
    where
      found : (rest : List Row) → Fits next rest → Full rest
          → Alike (SyncFound ItemLink) (item_in parent column (rest ++ one))
          (item_in parent column (rest ++ two))
      found [] fit full = absurd full
      found (first ∷ rest) fit full =
          either (nat_lt first.column column) (both _ _ (sync_none (first ∷ rest) fit))
          (either (nat_lt column first.column) (same _)
          (either (is_dash (head_of first)) (both _ _ (sync_some first first rest fit full refl))
          (either (parent == column) (both _ _ (sync_none (first ∷ rest) fit)) (same _))))

  -- ---- entries

  -- the values of a collection are read alike
  AllAlike : Values → Type 0
  AllAlike values = (own : Bool) (holder : Row) (front : List Row) → Fits next front
      → Alone next holder.column front
      → Alike Sync (values.node (below own holder) (front ++ one))
      (values.node (below own holder) (front ++ two))

  module _ (file : FileKey) (values : Values) (alike : AllAlike values) where
    value_alike : (own : Bool) (holder first : Row) (front : List Row) → Fits next front
        → (is_scalar first ≡ true → Shut next holder.column first.text front)
        → (is_done first ≡ true → Alone next holder.column front)
        → Alike Sync (value file values (below own holder) first (front ++ one))
        (value file values (below own holder) first (front ++ two))
    unfolding value AllAlike
    value_alike own holder first front fits shut alone =
        elim (cases_Bool (is_done first)) [
          | inl done ↦
              rw done (at (line_end first) (λ _. alike own holder front fits (alone done)))
          | inr more ↦
              rw more (inline_alike file values.depth holder.column first front fits shut)
        ]

    item_alike :
        (first : Row) (front : List Row) → Fits next (first ∷ front) → is_passed first ≡ false
        → Alike Sync (item file values first (first ∷ front ++ one))
        (item file values first (first ∷ front ++ two))
    unfolding item AllAlike Fits Alone behind
    item_alike first front fits full =
        let here = fits.0 full in
        let n : ℕ = mark_len first.text in
        let scalar : is_scalar (behind 1 first) ≡ true
        → Shut next first.column (drop n first.text) front =
        λ is. shut_behind next (held_at first) first.column n first.text front
        (omega (
          arith,
          held_plain first (or_right (is_passed (behind 1 first)) _
              (or_right (is_done (behind 1 first)) _ is)),
        )) here.0
        in
        let beside : held_at first ≡ first.column → Alone next first.column front =
        λ is. alone_more next (held_at first) first.column front (omega (arith, is)) here.1 in
        let further : held_at first ≤ held_at (behind 1 first) =
        omega (arith, held_more first, held_least (behind 1 first)) in
        either (not (is_done (behind 1 first)) && spaces_only 1 first)
        (alike false first (behind 1 first ∷ front) (
          (λ _. (
            shut_behind next (held_at first) (held_at (behind 1 first)) n first.text front further
                here.0,
            alone_more next (held_at first) (held_at (behind 1 first)) front further here.1,
          )),
          fits.1,
        ) (
          (λ passed. beside (held_plain first (or_left (is_passed (behind 1 first)) _ passed))),
          (λ _. scalar),
        ))
        (value_alike false first (behind 1 first) front fits.1 scalar
        (λ done. beside (held_plain first (or_right (is_passed (behind 1 first)) _
        (or_left (is_done (behind 1 first)) _ done)))))

    pair_alike : (before : List NodePair) (key : FoundKey) (first : Row) (front : List Row)
        → Fits next (first ∷ front) → is_passed first ≡ false → KeyLink key first
        → Alike Sync (pair file values before key (first ∷ front ++ one))
        (pair file values before key (first ∷ front ++ two))
    unfolding pair Fits KeyLink
    pair_alike before key first front fits full link =
        let here = fits.0 full in
        let a : ℕ = link.2.0 in
        let b : ℕ = link.2.1 in
        let column : first.column ≤ key.start.column = omega (arith, link.1) in
        let shut : Shut next key.start.column (drop a (drop b first.text)) front =
        shut_behind next first.column key.start.column a (drop b first.text) front column
        (shut_behind next (held_at first) first.column b first.text front
        (omega (arith, held_key first link.0)) here.0) in
        either (is_doubled key.text before) (same _)
        (goes (value_alike true key.start key.left front fits.1
        (λ _. subst (λ text. Shut next key.start.column text front) (sym link.2.2) shut)
        (λ _. alone_more next (held_at first) key.start.column front
        (omega (arith, held_key first link.0, column)) here.1))
        (by_sync _ (λ x rest fit. both _ _ (sync _ rest fit))))

  module _ {E A : Type 0} (here : List Row → Read (Option E))
      (entry : List A → E → List Row → Read A) (Found : ℕ → Option E × List Row → Type 0)
      (Link : E → Row → Type 0)
      (here_any : (rows : List Row) → Told Any (Found (size rows)) (here rows))
      (entry_any : (most : ℕ) (before : List A) (x : E) (left : List Row)
      → Found most (Some x, left) → Told Any (Less Any most) (entry before x left))
      (here_alike : (front : List Row) → Fits next front
      → Alike (SyncFound Link) (here (front ++ one)) (here (front ++ two)))
      (entry_alike : (before : List A) (x : E) (first : Row) (front : List Row)
      → Fits next (first ∷ front) → is_passed first ≡ false → Link x first
      → Alike Sync (entry before x (first ∷ front ++ one))
      (entry before x (first ∷ front ++ two))) where
    AllSame : ℕ → Type 0
    AllSame turns = (others : ℕ) (before : List A) (rows : List Row) → size rows < turns
        → size rows < others → many here entry turns before rows ≡ many here entry others before
        rows

    step_same : (turns others most : ℕ) → AllSame turns → most ≤ turns → most ≤ others
        → (before : List A) (found : Option E × List Row) → Found most found
        → many_step (many here entry turns) entry before found.0 found.1
        ≡ many_step (many here entry others) entry before found.0 found.1
    unfolding AllSame
    step_same turns others most all few less before (None, left) k = refl
    step_same turns others most all few less before (Some x, left) k =
        bind_same (entry_any most before x left k)
        (λ next short. let fewer = short.1 in
        all others (before ++ next.0 ∷ []) next.1 (omega (arith, few, fewer))
        (omega (arith, less, fewer)))

    many_same : (turns : ℕ) → AllSame turns
    unfolding many AllSame
    many_same zero others before rows few less = absurd (omega arith)
    many_same (suc turns) zero before rows few less = absurd (omega arith)
    many_same (suc turns) (suc others) before rows few less =
        bind_same (here_any rows)
        (step_same turns others (size rows) (many_same turns) (omega arith) (omega arith) before)

    ManyAlike : ℕ → Type 0
    ManyAlike turns = (others : ℕ) (before : List A) (front : List Row) → Fits next front
        → size (front ++ one) < turns → size (front ++ two) < others
        → Alike Sync (many here entry turns before (front ++ one))
        (many here entry others before (front ++ two))

    longer : (front : List Row) → size (front ++ one) ≤ size (front ++ two)
    longer front = omega (arith, size_append front one, size_append front two)

    next_alike_of : (turns others : ℕ) → ManyAlike turns → (before : List A) (front : List Row)
        → size (front ++ one) ≤ turns → size (front ++ two) ≤ others
        → (y z : A × List Row) → Sync y z → Less Any (size (front ++ one)) y
        → Alike Sync (many here entry turns (before ++ y.0 ∷ []) y.1)
        (many here entry others (before ++ z.0 ∷ []) z.1)
    unfolding ManyAlike
    next_alike_of turns others more before front few less y z (sync a last fit) short =
        let fewer = short.1 in
        more others (before ++ a ∷ []) last fit (omega (arith, few, fewer))
        (omega (
          arith,
          less,
          fewer,
          size_append front one,
          size_append front two,
          size_append last one,
          size_append last two,
        ))

    found_alike : (turns others : ℕ) → ManyAlike turns → (before : List A) (front : List Row)
        → size (front ++ one) ≤ turns → size (front ++ two) ≤ others
        → (y z : Option E × List Row) → SyncFound Link y z → Found (size (front ++ one)) y
        → Alike Sync (many_step (many here entry turns) entry before y.0 y.1)
        (many_step (many here entry others) entry before z.0 z.1)
    unfolding AllSame
    found_alike turns others more before front few less y z (sync_none last fit) info =
        both _ _ (sync before last fit)
    found_alike turns others more before front few less y z
        (sync_some x first last fit full link) info =
        known_goes (entry_any (size (front ++ one)) before x (first ∷ last ++ one) info)
        (entry_alike before x first last fit full link)
        (next_alike_of turns others more before front few less)
        (λ next short. let fewer = short.1 in
        many_same turns others (before ++ next.0 ∷ []) next.1 (omega (arith, few, fewer))
        (omega (arith, less, fewer, longer front)))

    many_alike : (turns : ℕ) → ManyAlike turns
    unfolding many ManyAlike
    many_alike zero others before front fits few less = absurd (omega arith)
    many_alike (suc turns) zero before front fits few less = absurd (omega arith)
    many_alike (suc turns) (suc others) before front fits few less =
        known_goes (here_any (front ++ one)) (here_alike front fits)
        (found_alike turns others (many_alike turns) before front (omega arith) (omega arith))
        (step_same turns others (size (front ++ one)) (many_same turns) (omega arith)
        (omega (arith, less, longer front)) before)

  module _ (file : FileKey) (values : Values) (sound : Sound Any values)
      (alike : AllAlike values) where
    items_alike : (parent column turns others : ℕ) (before : List Node) (front : List Row)
        → Fits next front → size (front ++ one) < turns → size (front ++ two) < others
        → Alike Sync (items (item file values) parent column turns before (front ++ one))
        (items (item file values) parent column others before (front ++ two))
    unfolding ManyAlike ItemLink
    items_alike parent column turns =
        many_alike (next_item parent column) (λ _ row left. item file values row left)
        (ItemFound Any) ItemLink (λ rows. next_item_told Any parent column rows (any_each rows))
        (item_step Any file values sound) (next_item_alike parent column)
        (λ before x first front fits full link. subst
        (λ (r : Row). Alike Sync (item file values r (first ∷ front ++ one))
        (item file values r (first ∷ front ++ two))) (sym link)
        (item_alike file values alike first front fits full))
        turns

    pairs_alike : (column turns others : ℕ) (before : List NodePair) (front : List Row)
        → Fits next front → size (front ++ one) < turns → size (front ++ two) < others
        → Alike Sync (pairs file values column turns before (front ++ one))
        (pairs file values column others before (front ++ two))
    unfolding ManyAlike
    pairs_alike column turns =
        many_alike (next_key file values.depth column) (pair file values)
        (KeyFound Any) KeyLink
        (λ rows. next_key_told Any file values.depth column rows (any_each rows))
        (pair_step Any file values sound) (next_key_alike file values.depth column)
        (pair_alike file values alike) turns

  -- ---- nodes

  InnerAlike : Option Values → Type 0
  InnerAlike None = Unit {0}
  InnerAlike (Some values) = AllAlike values

  sequence_alike : (file : FileKey) (inside : Option Values) → InnerSound Any inside
      → InnerAlike inside → (parent : ℕ) (first : Row) (front : List Row) → Fits next front
      → Alike Sync (sequence file inside parent first (front ++ one))
      (sequence file inside parent first (front ++ two))
  unfolding sequence InnerSound InnerAlike
  sequence_alike file None sound alike parent first front fits = same _
  sequence_alike file (Some values) sound alike parent first front fits =
      goes (items_alike file values sound alike parent first.column (size (front ++ one) + 1)
      (size (front ++ two) + 1) [] front fits (omega arith) (omega arith))
      (by_sync _ (λ x rest fit. both _ _ (sync _ rest fit)))

  mapping_alike : (file : FileKey) (inside : Option Values) → InnerSound Any inside
      → InnerAlike inside → (first : Row) (front : List Row) → Fits next front
      → Alike Sync (mapping file inside first (front ++ one))
      (mapping file inside first (front ++ two))
  unfolding mapping InnerSound InnerAlike
  mapping_alike file None sound alike first front fits = same _
  mapping_alike file (Some values) sound alike first front fits =
      goes (pairs_alike file values sound alike first.column (size (front ++ one) + 1)
      (size (front ++ two) + 1) [] front fits (omega arith) (omega arith))
      (by_sync _ (λ x rest fit. both _ _ (sync _ rest fit)))

  module _ (file : FileKey) (depth : ℕ) (inside : Option Values) (sound : InnerSound Any inside)
      (alike : InnerAlike inside) where
    begun_alike : (parent : ℕ) (first : Row) (front : List Row) → Fits next (first ∷ front)
        → is_passed first ≡ false → Alone next parent (first ∷ front)
        → Alike Sync (begun file depth inside parent first (first ∷ front ++ one))
        (begun file depth inside parent first (first ∷ front ++ two))
    unfolding begun head_at Fits Alone
    begun_alike parent first front fits full alone =
        by_heads (λ head. Alike Sync
        (begun_by (holder file depth parent) inside first head (first ∷ front ++ one))
        (begun_by (holder file depth parent) inside first head (first ∷ front ++ two)))
        first.whole first.text
        (sequence_alike file inside sound alike parent first (first ∷ front) fits) (same _)
        (same _) (same _)
        (at (quoted first)
        (λ read. either (is_colon (behind read.1 first))
        (mapping_alike file inside sound alike first (first ∷ front) fits)
        (at (quoted_node file first read) (λ made. both _ _ (sync made front fits.1)))))
        (at (in_brackets file depth first) (λ made. both _ _ (sync made front fits.1)))
        (λ no_dash bar. block_alike file parent first front fits.1
        (shut_left next parent first.text front bar (alone.1 full
        (and_from _ _ (ap not no_dash) (or_right (not (has_colon first)) _ bar)))))
        (same _)
        (λ text n is. rw is (mapping_alike file inside sound alike first (first ∷ front) fits))
        (λ no_dash some isnt. rw isnt (word_alike file parent first front fits.1 some (alone.1 full
        (and_from _ _ (ap not no_dash) (or_left (not (has_colon first)) _ (ap not isnt))))))

    node_in_alike : (slot : _) (front : List Row) → let test : Row → Bool = fits slot in
        FitsIn next slot.parent front → Full front
        → Alike Sync (node_in file depth inside slot (front ++ one))
        (node_in file depth inside slot (front ++ two))
    unfolding FitsIn Full
    node_in_alike slot [] fit full = absurd full
    node_in_alike slot (first ∷ front) fit full =
        either (fits slot first) (begun_alike slot.parent first front fit.0 full fit.1)
        (both _ _ (sync _ (first ∷ front) fit.0))

    node_with_alike : (slot : _) (front : List Row) → let test : Row → Bool = fits slot in
        Fits next front → Alone next slot.parent front
        → Alike Sync (node_with file depth inside slot (front ++ one))
        (node_with file depth inside slot (front ++ two))
    unfolding FitsIn
    node_with_alike slot front fit alone =
        goes (content_alike (FitsIn next slot.parent) (alone_skip next slot.parent) front
        (fit, alone))
        (by_rows (FitsIn next slot.parent) _ (node_in_alike slot))

  inner_alike : (file : FileKey) (depth : ℕ) → InnerAlike (inner file depth)
  unfolding inner InnerAlike AllAlike
  inner_alike file zero = tt
  inner_alike file (suc depth) = λ own block.
      node_with_alike file depth (inner file depth) (inner_sound Any file depth)
      (inner_alike file depth) (below own block)

  node_alike : (file : FileKey) (depth : ℕ) (slot : _) (front : List Row) → let test : Row →
      Bool = fits slot in
      Fits next front → Alone next slot.parent front
      → Alike Sync (node file depth slot (front ++ one)) (node file depth slot (front ++ two))
  unfolding node
  node_alike file depth slot front fit alone =
      node_with_alike file depth (inner file depth) (inner_sound Any file depth)
      (inner_alike file depth) slot front fit alone

  -- ---- whole texts

  abbrev Equal : Node → Node → Type 0
  Equal made other = made ≡ other

  end_alike : (made : Node) (front : List Row) → Fits next front → Full front
      → Alike Equal (nothing_left (front ++ one) >>= λ _. Ok made)
      (nothing_left (front ++ two) >>= λ _. Ok made)
  unfolding Full
  end_alike made [] fit full = absurd full
  end_alike made (first ∷ front) fit full = same _

  document_alike : (file : FileKey) (front : List Row) → Fits next front → Alone next 0 front
      → Alike Equal (document file (front ++ one)) (document file (front ++ two))
  unfolding document FitsIn
  document_alike file front fit alone =
      goes (lead_alike (FitsIn next 0) (alone_skip next 0) front (fit, alone))
      (by_rows (FitsIn next 0) _
      (λ rest fits full. goes (node_alike file 64 whole_text rest fits.0 fits.1)
      (by_sync _ (λ made last more. goes (content_alike (Fits next) (fits_skip next) last more)
      (by_rows (Fits next) _ (end_alike made))))))

  equal_of : (read other : Result Node Fault) → Alike Equal read other
      → ((fault : Fault) → read ≡ Err fault → fault.line ≡ next.number → ⊥) → other ≡ read
  equal_of read other (same _) unless = refl
  equal_of read other (both y z is) unless = ap (λ (made : Node). Ok made) (sym is)
  equal_of read other (lost fault _ on) unless = absurd (unless fault refl on)

pub passed_over_between : PassedOverBetween
passed_over_between file front row next rest passed full ended unless =
    let parts = and_parts (alone_ended 0 front next) (each_ended front next) ended in
    equal_of row next rest passed full (document file (front ++ next ∷ rest))
    (document file (front ++ row ∷ next ∷ rest))
    (document_alike row next rest passed full file front
    (fits_is next front parts.1)
    (alone_is next 0 front parts.0)) unless

pub passed_over_inside : PassedOverInside
passed_over_inside file text front row next rest is are passed full ended unless =
    spelled_is file text is
    ∙ ap (λ rows. placed file (document file rows)) are
    ∙ ap (placed file) (passed_over_between file front row next rest passed full ended unless)
