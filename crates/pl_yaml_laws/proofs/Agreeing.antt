-- Two readings of rows that begin alike: they agree, until one reads past these rows.
use Rattle.std.proofs.Common.{◌≡◌, ℕ, zero, suc, ◌+◌, ◌<◌, ◌≤◌, Bool, true, false, not, ◌&&◌, ◌||◌}
use Rattle.std.proofs.Common.{cond, ◌⊎◌, Option, Some, None, Result, Ok, Err, List, [], ◌∷◌, ◌++◌}
use Rattle.std.proofs.Common.{length, refl, ap, sym, subst, ◌∙◌, arith, inl, inr}
use Rattle.std.specs.Prelude.{◌==◌, nat_lt, max, encode_utf8_all}
use Rattle.std.specs.List.{list_all}
use Rattle.std.proofs.lemmas.Bool.{cases_Bool, both_ways, and_parts, not-true}
use Rattle.pl_base.specs.declared.place.FileKey.{FileKey}
use Rattle.pl_base.specs.declared.node.Node.{Node}
use Rattle.pl_base.specs.declared.node.NodeBody.TheVariants.{Scalar}
use Rattle.pl_base.specs.declared.node.NodePair.{NodePair}
use Rattle.pl_line.specs.declared.code.YamlCode.TheVariants as codes_of
use Rattle.pl_line.specs.declared.line_fault.Fault.{Fault}
use Rattle.pl_line.specs.Rows.{Row, size}
use Rattle.pl_line.specs.Reading.{fault_at}
use Rattle.pl_reading.specs.Steps.{◌>>=◌}
use Rattle.pl_line.specs.Left.{behind, line_end, is_bare, is_comment, is_empty, is_done}
use Rattle.pl_line.specs.Left.{spaces_only}
use Rattle.pl_line.specs.Trees.{node_at}
use Rattle.pl_line.specs.Quoted.{quoted}
use Rattle.pl_line.specs.Flow.{flow}
use Rattle.pl_yaml.specs.Reading.{Read, has_row, many, many_step}
use Rattle.pl_yaml.specs.Heads.{head_at, head_of, is_start}
use Rattle.pl_yaml.specs.Content.{stands, content, begins, lead, closed}
use Rattle.pl_yaml.specs.Plain.{continued, further, word}
use Rattle.pl_yaml.specs.BlockScalars.{header_of, first_column, within_column, found_column}
use Rattle.pl_yaml.specs.BlockScalars.{content_column, reaches, inside, line_from, lines}
use Rattle.pl_yaml.specs.BlockScalars.{block_text, block}
use Rattle.pl_yaml.specs.Inline.{quoted_node, flow_node, inline_by, inline}
use Rattle.pl_yaml.specs.Keys.{FoundKey, key_by, key_in, next_key}
use Rattle.pl_yaml.specs.Nodes.{Values, is_dash, item_in, next_item, below, value, item, pair}
use Rattle.pl_yaml.specs.Nodes.{items, pairs, sequence, mapping, in_brackets, holder, begun_by}
use Rattle.pl_yaml.specs.Nodes.{begun, node_in, node_with, inner, node}
use Rattle.pl_yaml.specs.Spells.{whole_text, nothing_left, document}
use Rattle.pl_yaml_laws.proofs.Heads.{by_head}
use Rattle.pl_yaml_laws.proofs.Lines.{bare_done}
use Rattle.pl_yaml_laws.proofs.Told as T
use Rattle.pl_yaml_laws.proofs.Told.{Told, Whatever, is_ok, is_err, weaker}
use Rattle.pl_yaml_laws.proofs.ToldRows.{Each, Left, Less, content_told, lead_told, further_told}
use Rattle.pl_yaml_laws.proofs.ToldRows.{lines_told, column_told, Sound, InnerSound, inner_sound}
use Rattle.pl_yaml_laws.proofs.ToldRows.{KeyFound, key_in_told, ItemFound, item_in_told}
use Rattle.pl_yaml_laws.proofs.ToldRows.{next_key_told, next_item_told, step_told, item_step}
use Rattle.pl_yaml_laws.proofs.ToldRows.{items_told, pair_step, pairs_told, node_in_told, node_told}

pub size_append : (front rows : List Row) → size (front ++ rows) ≡ size front + size rows
size_append [] rows = omega arith
size_append (row ∷ front) rows = omega (arith, size_append front rows)

-- of any number
abbrev pub Any : ℕ → Type 0
Any n = Unit {0}

pub any_each : (rows : List Row) → Each Any rows
any_each [] = tt
any_each (row ∷ rows) = (tt, any_each rows)

-- P holds of the numbers of the rows behind, and of the rows of blanks before them.
module _ (P : ℕ → Type 0) (one two : List Row) where
  abbrev pub Fits : List Row → Type 0
  Fits [] = Unit {0}
  Fits (row ∷ rows) = (is_bare row ≡ true → P row.number) × Fits rows

  pub data Sync {A : Type 0} : A × List Row → A × List Row → Type 0 where
    sync : (x : A) (front : List Row) → Fits front → Sync (x, front ++ one) (x, front ++ two)

  pub data SyncRows : List Row → List Row → Type 0 where
    sync_rows : (front : List Row) → Fits front → SyncRows (front ++ one) (front ++ two)

  -- an entry that was found begins at the first of the rows
  pub data SyncFound {E : Type 0} : Option E × List Row → Option E × List Row → Type 0 where
    sync_none : (front : List Row) → Fits front
        → SyncFound (None, front ++ one) (None, front ++ two)
    sync_some : (x : E) (row : Row) (front : List Row) → Fits (row ∷ front)
        → SyncFound (Some x, row ∷ front ++ one) (Some x, row ∷ front ++ two)

  abbrev AgreeOn : {Y : Type 0} → (Y → Y → Type 0) → (Y → Type 0) → Result Y Fault → Result Y Fault
      → Type 0
  AgreeOn {Y} S K (Ok y) other = ((z : Y) × (other ≡ Ok z) × S y z) ⊎ K y
  AgreeOn S K (Err fault) other = (other ≡ Err fault) ⊎ P fault.line

  -- the same in both, or the first has read past the rows
  pub record Agree {Y : Type 0} (S : Y → Y → Type 0) (K : Y → Type 0)
      (read other : Result Y Fault) : Type 0 where
    pub holds : AgreeOn S K read other

  abbrev pub Late : {A : Type 0} → A × List Row → Type 0
  Late read = Each P read.1

  pub same_ok : {Y : Type 0} {S : Y → Y → Type 0} {K : Y → Type 0} (y z : Y) → S y z
      → Agree S K (Ok y) (Ok z)
  same_ok y z s = record { holds = inl (z, refl, s) }

  pub same_err : {Y : Type 0} {S : Y → Y → Type 0} {K : Y → Type 0} (fault : Fault)
      → Agree S K (Err fault) (Err fault)
  same_err fault = record { holds = inl refl }

  pub told : {Y : Type 0} {S : Y → Y → Type 0} {K : Y → Type 0} {read other : Result Y Fault}
      → Told P K read → Agree S K read other
  told {read = Ok y} is = record { holds = inr is.holds }
  told {read = Err fault} is = record { holds = inr is.holds }

  pub known_goes : {Y Z : Type 0} {S : Y → Y → Type 0} {T : Z → Z → Type 0} {K I : Y
      → Type 0} {L : Z → Type 0} {read other : Result Y Fault} {more further : Y → Result Z Fault}
      → Told Any I read → Agree S K read other
      → ((y z : Y) → S y z → I y → Agree T L (more y) (further z))
      → ((y : Y) → K y → Told P L (more y)) → Agree T L (read >>= more) (other >>= further)
  known_goes {T = T} {L = L} {read = Ok y} {other = other} {more = more} {further =
      further} info agree then late =
      elim agree.holds [
        | inl same ↦
            subst (λ r. Agree T L (more y) (r >>= further)) (sym same.1)
            (then y same.0 same.2 info.holds)
        | inr k ↦ told (late y k)
      ]
  known_goes {read = Err fault} {further = further} info agree then late =
      elim agree.holds [
        | inl same ↦ record { holds = inl (ap (λ r. r >>= further) same) }
        | inr past ↦ record { holds = inr past }
      ]

  pub goes : {Y Z : Type 0} {S : Y → Y → Type 0} {T : Z → Z → Type 0} {K : Y → Type 0} {L : Z
      → Type 0} {read other : Result Y Fault} {more further : Y → Result Z Fault}
      → Agree S K read other → ((y z : Y) → S y z → Agree T L (more y) (further z))
      → ((y : Y) → K y → Told P L (more y)) → Agree T L (read >>= more) (other >>= further)
  goes {T = T} {L = L} {read = Ok y} {other = other} {more = more} {further =
      further} agree then late =
      elim agree.holds [
        | inl same ↦
            subst (λ r. Agree T L (more y) (r >>= further)) (sym same.1) (then y same.0 same.2)
        | inr k ↦ told (late y k)
      ]
  goes {read = Err fault} {further = further} agree then late =
      elim agree.holds [
        | inl same ↦ record { holds = inl (ap (λ r. r >>= further) same) }
        | inr past ↦ record { holds = inr past }
      ]

  -- what is read of a row alone is the same in both
  pub at : {Y Z : Type 0} {T : Z → Z → Type 0} {L : Z → Type 0}
      (read : Result Y Fault) {more further : Y → Result Z Fault}
      → ((y : Y) → Agree T L (more y) (further y))
      → Agree T L (read >>= more) (read >>= further)
  at (Ok y) then = then y
  at (Err fault) then = same_err fault

  pub either : {Y : Type 0} {S : Y → Y → Type 0} {K : Y → Type 0}
      (b : Bool) {x y u v : Result Y Fault} → Agree S K x u → Agree S K y v
      → Agree S K (cond b x y) (cond b u v)
  either true yes_agree no_agree = yes_agree
  either false yes_agree no_agree = no_agree

  pub by_sync : {A Z : Type 0} {T : Z → Z → Type 0} {L : Z → Type 0}
      (more further : A × List Row → Result Z Fault)
      → ((x : A) (front : List Row) → Fits front
      → Agree T L (more (x, front ++ one)) (further (x, front ++ two))) → (y z : A × List Row)
      → Sync y z → Agree T L (more y) (further z)
  by_sync more further then y z (sync x front fits) = then x front fits

  pub by_rows : {Z : Type 0} {T : Z → Z → Type 0} {L : Z → Type 0}
      (more further : List Row → Result Z Fault)
      → ((front : List Row) → Fits front → Agree T L (more (front ++ one)) (further (front ++ two)))
      → (y z : List Row) → SyncRows y z → Agree T L (more y) (further z)
  by_rows more further then y z (sync_rows front fits) = then front fits

  left_late : {A : Type 0} {most : ℕ} {read : Read A} → Told P (Left P most) read → Told P Late read
  left_late told = weaker told (λ read k. k.0)

  module _ (late : Each P one) where
    -- ---- content

    content_agrees : (front : List Row) → Fits front
        → Agree SyncRows (Each P) (content (front ++ one)) (content (front ++ two))
    unfolding content
    content_agrees [] fits = told (weaker (content_told P one late) (λ left k. k.0))
    content_agrees (row ∷ front) fits =
        either (is_empty row) (at (line_end row) (λ _. content_agrees front fits.1))
        (at (stands row) (λ _. same_ok _ _ (sync_rows (row ∷ front) fits)))

    lead_agrees : (front : List Row) → Fits front
        → Agree SyncRows (Each P) (lead (front ++ one)) (lead (front ++ two))
    unfolding lead
    lead_agrees [] fits = told (weaker (lead_told P one late) (λ left k. k.0))
    lead_agrees (row ∷ front) fits =
        either (is_empty row || is_start row) (at (line_end row) (λ _. lead_agrees front fits.1))
        (at (begins row) (λ _. same_ok _ _ (sync_rows (row ∷ front) fits)))

    -- ---- plain scalars

    further_agrees : (parent last : ℕ) (front : List Row) → Fits front
        → Agree Sync Late (further parent last (front ++ one)) (further parent last (front ++ two))
    unfolding further
    further_agrees parent last [] fits = told (left_late (further_told P parent last one late))
    further_agrees parent last (row ∷ front) fits =
        either (is_bare row) (further_agrees parent last front fits.1)
        (either (is_comment row) (same_ok _ _ (sync _ (row ∷ front) fits))
        (at (stands row) (λ _. either (nat_lt parent row.column)
        (at (continued row)
        (λ n. goes
        (either (n == length row.text) (further_agrees parent row.number front fits.1)
        (same_ok _ _ (sync _ front fits.1)))
        (by_sync _ _ (λ x rest fit. same_ok _ _ (sync _ rest fit))) (λ read k. is_ok _ k)))
        (same_ok _ _ (sync _ (row ∷ front) fits)))))

    word_agrees : (file : FileKey) (parent : ℕ) (row : Row) (n : ℕ) (front : List Row) → Fits front
        → Agree Sync Late (word file parent row n (front ++ one))
        (word file parent row n (front ++ two))
    word_agrees file parent row n front fits =
        at (line_end row)
        (λ _. goes
        (either (length row.text == n) (further_agrees parent row.number front fits)
        (same_ok _ _ (sync _ front fits)))
        (by_sync _ _ (λ x rest fit. same_ok _ _ (sync _ rest fit))) (λ read k. is_ok _ k))

    -- ---- block scalars

    module _ (both : has_row one ≡ has_row two) where
      same_row : (front : List Row) → has_row (front ++ one) ≡ has_row (front ++ two)
      same_row [] = both
      same_row (row ∷ front) = refl

      lines_agree : (column : Option ℕ) (front : List Row) → Fits front
          → Agree Sync Late (lines column (front ++ one)) (lines column (front ++ two))
      unfolding lines
      lines_agree column [] fits = told (left_late (lines_told P column one late))
      lines_agree column (row ∷ front) fits =
          either (is_bare row || reaches column row)
          (at (inside row) (λ _. goes (lines_agree column front fits.1)
          (by_sync _ _
          (λ x rest fit. subst
          (λ b. Agree Sync Late
          (Ok (line_from column row (has_row (front ++ one)) ∷ x, rest ++ one))
          (Ok (line_from column row b ∷ x, rest ++ two))) (same_row front)
          (same_ok _ _ (sync _ rest fit)))) (λ read k. is_ok _ k)))
          (same_ok _ _ (sync _ (row ∷ front) fits))

      abbrev all_bare : List Row → Bool
      all_bare rows = list_all is_bare rows

      first_same : (front : List Row) → all_bare front ≡ false
          → first_column (front ++ one) ≡ first_column (front ++ two)
      unfolding first_column
      first_same [] some = absurd (both_ways true some refl)
      first_same (row ∷ front) some = elim (cases_Bool (is_bare row)) [
        | inl bare ↦ rw bare (first_same front (rw bare at some))
        | inr full ↦ rw full refl
      ]

      within_same : (column : ℕ) (front : List Row) → all_bare front ≡ false
          → within_column column (front ++ one) ≡ within_column column (front ++ two)
      unfolding within_column
      within_same column [] some = absurd (both_ways true some refl)
      within_same column (row ∷ front) some = elim (cases_Bool (is_bare row)) [
        | inl bare ↦
            rw bare (ap
            (λ r. cond (nat_lt column row.column) (Err (fault_at codes_of.BadIndent row)) r)
            (within_same column front (rw bare at some)))
        | inr full ↦ rw full refl
      ]

      each_bare : (front : List Row) → Fits front → all_bare front ≡ true → Each P (front ++ one)
      each_bare [] fits bare = late
      each_bare (row ∷ front) fits bare = let parts =
          and_parts (is_bare row) (all_bare front) bare in
          (fits.0 parts.0, each_bare front fits.1 parts.1)

      abbrev scalar_from : FileKey → Row → List Row → Option ℕ → Read Node
      scalar_from file row rows column =
          lines column rows
          >>= λ read. Ok (
            node_at file row
                (Scalar (encode_utf8_all
                (block_text (header_of row).folded (header_of row).chomping read.0))),
            read.1,
          )

      scalar_agrees : (file : FileKey) (row : Row) (front : List Row) → Fits front
          → (column : Option ℕ)
          → Agree Sync Late (scalar_from file row (front ++ one) column)
          (scalar_from file row (front ++ two) column)
      scalar_agrees file row front fits column =
          goes (lines_agree column front fits)
          (by_sync _ _ (λ x rest fit. same_ok _ _ (sync _ rest fit))) (λ read k. is_ok _ k)

      column_agrees : (file : FileKey) (parent : ℕ) (row : Row) (digit : Option ℕ)
          (front : List Row) → Fits front
          → Agree Sync Late
          (content_column parent digit (front ++ one) >>= scalar_from file row (front ++ one))
          (content_column parent digit (front ++ two) >>= scalar_from file row (front ++ two))
      column_agrees file parent row (Some n) front fits =
          scalar_agrees file row front fits (Some (max parent 1 + n))
      column_agrees file parent row None front fits = elim (cases_Bool (all_bare front)) [
        | inl bare ↦
            let all = each_bare front fits bare in
            told (left_late
            (T.goes (column_told P parent None (front ++ one) all)
            (λ column _. T.goes (lines_told P column (front ++ one) all)
            (λ read k. is_ok _ k))))
        | inr full ↦
            let column : first_column (front ++ one) ≡ first_column (front ++ two) =
            first_same front full in
            let within : content_column parent None (front ++ one)
            ≡ content_column parent None (front ++ two) =
            ap (λ c. found_column parent c (front ++ one)) column
            ∙ ap (λ r. cond (nat_lt parent (first_column (front ++ two)))
            (r >>= λ _. Ok (Some (first_column (front ++ two)))) (Ok None))
            (within_same (first_column (front ++ two)) front full)
            in
            subst (λ r. Agree Sync Late
            (content_column parent None (front ++ one) >>= scalar_from file row (front ++ one))
            (r >>= scalar_from file row (front ++ two))) within
            (at (content_column parent None (front ++ one)) (scalar_agrees file row front fits))
      ]

      block_agrees : (file : FileKey) (parent : ℕ) (row : Row) (front : List Row) → Fits front
          → Agree Sync Late (block file parent row (front ++ one))
          (block file parent row (front ++ two))
      unfolding block
      block_agrees file parent row front fits =
          at (closed (header_of row).len row)
          (λ _. column_agrees file parent row (header_of row).digit front fits)

      -- ---- values on the line of their key or dash

      inline_at_agrees : (file : FileKey) (depth parent : ℕ) (row : Row) (front : List Row)
          → Fits front → (whole : Bool) (text : List ℕ)
          → Agree Sync Late (inline_by file depth parent row (head_at whole text) (front ++ one))
          (inline_by file depth parent row (head_at whole text) (front ++ two))
      unfolding head_at
      inline_at_agrees file depth parent row front fits whole text =
          by_head (λ head. Agree Sync Late (inline_by file depth parent row head (front ++ one))
          (inline_by file depth parent row head (front ++ two))) whole text
          (same_err _) (same_err _) (same_err _) (same_err _)
          (at (quoted row >>= quoted_node file row) (λ made. same_ok _ _ (sync made front fits)))
          (at (flow file depth row >>= flow_node row) (λ made. same_ok _ _ (sync made front fits)))
          (block_agrees file parent row front fits) (same_err _) (λ text n is. rw is (same_err _))
          (λ text n isnt. rw isnt (word_agrees file parent row n front fits))

      inline_agrees : (file : FileKey) (depth parent : ℕ) (row : Row) (front : List Row)
          → Fits front
          → Agree Sync Late (inline file depth parent row (front ++ one))
          (inline file depth parent row (front ++ two))
      unfolding inline
      inline_agrees file depth parent row front fits =
          inline_at_agrees file depth parent row front fits row.whole row.text

      -- ---- the next entry of a collection

      KeyLate : Option FoundKey × List Row → Type 0
      KeyLate found = (most : ℕ) × KeyFound P most found

      next_key_agrees : (file : FileKey) (depth column : ℕ) (front : List Row) → Fits front
          → Agree SyncFound KeyLate (next_key file depth column (front ++ one))
          (next_key file depth column (front ++ two))
      unfolding next_key KeyLate
      next_key_agrees file depth column front fits =
          goes (content_agrees front fits) (by_rows _ _ found)
          (λ left all. weaker (key_in_told P file depth column left all)
          (λ y k. (size left, k)))
        where
          found : (rest : List Row) → Fits rest
              → Agree SyncFound KeyLate (key_in file depth column (rest ++ one))
              (key_in file depth column (rest ++ two))
          found [] fit =
              told (weaker (key_in_told P file depth column one late) (λ y k. (size one, k)))
          found (row ∷ rest) fit =
              either _ (same_ok _ _ (sync_none (row ∷ rest) fit))
              (either _ (same_err _)
              (at (key_by file depth row (head_of row))
              (λ key. same_ok _ _ (sync_some key row rest fit))))

      ItemLate : Option Row × List Row → Type 0
      ItemLate found = (most : ℕ) × ItemFound P most found

      next_item_agrees : (parent column : ℕ) (front : List Row) → Fits front
          → Agree SyncFound ItemLate (next_item parent column (front ++ one))
          (next_item parent column (front ++ two))
      unfolding next_item ItemLate
      next_item_agrees parent column front fits =
          goes (content_agrees front fits) (by_rows _ _ found)
          (λ left all. weaker (item_in_told P parent column left all) (λ y k. (size left, k)))
        where
          found : (rest : List Row) → Fits rest
              → Agree SyncFound ItemLate (item_in parent column (rest ++ one))
              (item_in parent column (rest ++ two))
          found [] fit =
              told (weaker (item_in_told P parent column one late) (λ y k. (size one, k)))
          found (row ∷ rest) fit =
              either (nat_lt row.column column) (same_ok _ _ (sync_none (row ∷ rest) fit))
              (either (nat_lt column row.column) (same_err _)
              (either (is_dash (head_of row)) (same_ok _ _ (sync_some row row rest fit))
              (either (parent == column) (same_ok _ _ (sync_none (row ∷ rest) fit))
              (same_err _))))

      -- ---- entries

      -- the values of a collection are read alike
      Alike : Values → Type 0
      Alike values = (slot : _) (front : List Row) → Fits front
          → Agree Sync Late (values.node slot (front ++ one)) (values.node slot (front ++ two))

      module _ (file : FileKey) (values : Values) (sound : Sound P values) (any : Sound Any values)
          (alike : Alike values) where
        value_agrees : (slot : _) (row : Row) (front : List Row) → Fits front
            → Agree Sync Late (value file values slot row (front ++ one))
            (value file values slot row (front ++ two))
        unfolding value Alike
        value_agrees slot row front fits =
            either (is_done row) (at (line_end row) (λ _. alike slot front fits))
            (inline_agrees file values.depth _ row front fits)

        item_agrees : (row : Row) (front : List Row) → Fits front
            → Agree Sync Late (item file values row (row ∷ front ++ one))
            (item file values row (row ∷ front ++ two))
        unfolding item Alike
        item_agrees row front fits =
            by_test (not (is_done (behind 1 row)) && spaces_only 1 row) refl
          where
            by_test : (b : Bool) → (not (is_done (behind 1 row)) && spaces_only 1 row) ≡ b
                → Agree Sync Late
                (cond b (values.node (below false row) (behind 1 row ∷ front ++ one))
                (value file values (below false row) (behind 1 row) (front ++ one)))
                (cond b (values.node (below false row) (behind 1 row ∷ front ++ two))
                (value file values (below false row) (behind 1 row) (front ++ two)))
            by_test true is =
                let open_row =
                not-true (is_done (behind 1 row))
                (and_parts (not (is_done (behind 1 row))) (spaces_only 1 row) is).0 in
                alike (below false row) (behind 1 row ∷ front) (
                  (λ bare. absurd
                      (both_ways (is_done (behind 1 row)) open_row (bare_done 1 row bare))),
                  fits,
                )
            by_test false is = value_agrees (below false row) (behind 1 row) front fits

        pair_agrees : (before : List NodePair) (key : FoundKey) (row : Row) (front : List Row)
            → Fits front
            → Agree Sync Late (pair file values before key (row ∷ front ++ one))
            (pair file values before key (row ∷ front ++ two))
        unfolding pair
        pair_agrees before key row front fits =
            either _ (same_err _)
            (goes (value_agrees (below true key.start) key.left front fits)
            (by_sync _ _ (λ x rest fit. same_ok _ _ (sync _ rest fit))) (λ read k. is_ok _ k))

        module _ {E A : Type 0} (here : List Row → Read (Option E))
            (entry : List A → E → List Row → Read A) (Found : ℕ → Option E × List Row → Type 0)
            (here_any : (rows : List Row) → Told Any (Found (size rows)) (here rows))
            (entry_any : (most : ℕ) (before : List A) (x : E) (left : List Row)
            → Found most (Some x, left) → Told Any (Less Any most) (entry before x left))
            (K : Option E × List Row → Type 0)
            (here_agrees : (front : List Row) → Fits front
            → Agree SyncFound K (here (front ++ one)) (here (front ++ two)))
            (step_late : (turns : ℕ) (before : List A) (found : Option E × List Row) → K found
            → Told P Late (many_step (many here entry turns) entry before found.0 found.1))
            (many_late : (turns : ℕ) (before : List A) (rows : List Row) → Each P rows
            → Told P Late (many here entry turns before rows))
            (entry_agrees : (most : ℕ) (before : List A) (x : E) (row : Row) (front : List Row)
            → Fits (row ∷ front) → Found most (Some x, row ∷ front ++ one)
            → Agree Sync Late (entry before x (row ∷ front ++ one))
            (entry before x (row ∷ front ++ two))) where
          AllAgree : ℕ → Type 0
          AllAgree turns =
              (others : ℕ) (before : List A) (front : List Row) → Fits front
              → size (front ++ one) < turns → size (front ++ two) < others
              → Agree Sync Late (many here entry turns before (front ++ one))
              (many here entry others before (front ++ two))

          next_agrees : (turns others : ℕ) → AllAgree turns → (before : List A) (front : List Row)
              → size (front ++ one) ≤ turns → size (front ++ two) ≤ others
              → (y z : A × List Row) → Sync y z → Less Any (size (front ++ one)) y
              → Agree Sync Late (many here entry turns (before ++ y.0 ∷ []) y.1)
              (many here entry others (before ++ z.0 ∷ []) z.1)
          unfolding AllAgree
          next_agrees turns others more before front few less y z (sync a rest fit) short =
              let fewer = short.1 in
              more others (before ++ a ∷ []) rest fit (omega (arith, few, fewer))
              (omega (
                arith,
                less,
                fewer,
                size_append front one,
                size_append front two,
                size_append rest one,
                size_append rest two,
              ))

          found_agrees : (turns others : ℕ) → AllAgree turns → (before : List A) (front : List Row)
              → size (front ++ one) ≤ turns → size (front ++ two) ≤ others
              → (y z : Option E × List Row) → SyncFound y z → Found (size (front ++ one)) y
              → Agree Sync Late (many_step (many here entry turns) entry before y.0 y.1)
              (many_step (many here entry others) entry before z.0 z.1)
          found_agrees turns others more before front few less y z (sync_none rest fit) info =
              same_ok _ _ (sync before rest fit)
          found_agrees turns others more before front few less y z (sync_some x row rest fit) info =
              known_goes (entry_any (size (front ++ one)) before x (row ∷ rest ++ one) info)
              (entry_agrees (size (front ++ one)) before x row rest fit info)
              (next_agrees turns others more before front few less)
              (λ next all. many_late turns (before ++ next.0 ∷ []) next.1 all)

          many_agrees : (turns : ℕ) → AllAgree turns
          unfolding many AllAgree
          many_agrees zero others before front fits few less = absurd (omega arith)
          many_agrees (suc turns) zero before front fits few less = absurd (omega arith)
          many_agrees (suc turns) (suc others) before front fits few less =
              known_goes (here_any (front ++ one)) (here_agrees front fits)
              (found_agrees turns others (many_agrees turns) before front (omega arith)
              (omega arith))
              (λ found k. step_late turns before found k)

        items_agree : (parent column turns others : ℕ) (before : List Node) (front : List Row)
            → Fits front → size (front ++ one) < turns → size (front ++ two) < others
            → Agree Sync Late (items (item file values) parent column turns before (front ++ one))
            (items (item file values) parent column others before (front ++ two))
        unfolding AllAgree ItemFound ItemLate
        items_agree parent column turns =
            many_agrees (next_item parent column) (λ _ row left. item file values row left)
            (ItemFound Any) (λ rows. next_item_told Any parent column rows (any_each rows))
            (item_step Any file values any) ItemLate (next_item_agrees parent column)
            (λ turns before found k. left_late
            (step_told P (next_item parent column) (λ _ row left. item file values row left)
            (ItemFound P) (next_item_told P parent column) (λ most left k. k)
            (item_step P file values sound) turns before k.0
            (items_told P file values sound parent column turns) found k.1))
            (λ turns before rows all. left_late
            (items_told P file values sound parent column turns before rows all))
            (λ most before x row front fit info. subst
            (λ (r : Row). Agree Sync Late (item file values r (row ∷ front ++ one))
            (item file values r (row ∷ front ++ two))) (sym info.1)
            (item_agrees row front fit.1))
            turns

        pairs_agree : (column turns others : ℕ) (before : List NodePair) (front : List Row)
            → Fits front → size (front ++ one) < turns → size (front ++ two) < others
            → Agree Sync Late (pairs file values column turns before (front ++ one))
            (pairs file values column others before (front ++ two))
        unfolding AllAgree KeyFound KeyLate
        pairs_agree column turns =
            many_agrees (next_key file values.depth column) (pair file values) (KeyFound Any)
            (λ rows. next_key_told Any file values.depth column rows (any_each rows))
            (pair_step Any file values any) KeyLate (next_key_agrees file values.depth column)
            (λ turns before found k. left_late
            (step_told P (next_key file values.depth column) (pair file values) (KeyFound P)
            (next_key_told P file values.depth column) (λ most left k. k)
            (pair_step P file values sound) turns before k.0
            (pairs_told P file values sound column turns) found k.1))
            (λ turns before rows all. left_late
            (pairs_told P file values sound column turns before rows all))
            (λ most before key row front fit info. pair_agrees before key row front fit.1)
            turns

      -- ---- nodes

      InnerAlike : Option Values → Type 0
      InnerAlike None = Unit {0}
      InnerAlike (Some values) = Alike values

      sequence_agrees : (file : FileKey) (inside : Option Values) → InnerSound P inside
          → InnerSound Any inside → InnerAlike inside → (parent : ℕ) (row : Row) (front : List Row)
          → Fits front
          → Agree Sync Late (sequence file inside parent row (front ++ one))
          (sequence file inside parent row (front ++ two))
      unfolding sequence InnerSound InnerAlike
      sequence_agrees file None sound any alike parent row front fits = same_err _
      sequence_agrees file (Some values) sound any alike parent row front fits =
          goes (items_agree file values sound any alike parent row.column (size (front ++ one) + 1)
          (size (front ++ two) + 1) [] front fits (omega arith) (omega arith))
          (by_sync _ _ (λ x rest fit. same_ok _ _ (sync _ rest fit))) (λ read k. is_ok _ k)

      mapping_agrees : (file : FileKey) (inside : Option Values) → InnerSound P inside
          → InnerSound Any inside → InnerAlike inside → (row : Row) (front : List Row) → Fits front
          → Agree Sync Late (mapping file inside row (front ++ one))
          (mapping file inside row (front ++ two))
      unfolding mapping InnerSound InnerAlike
      mapping_agrees file None sound any alike row front fits = same_err _
      mapping_agrees file (Some values) sound any alike row front fits =
          goes (pairs_agree file values sound any alike row.column (size (front ++ one) + 1)
          (size (front ++ two) + 1) [] front fits (omega arith) (omega arith))
          (by_sync _ _ (λ x rest fit. same_ok _ _ (sync _ rest fit))) (λ read k. is_ok _ k)

      module _ (file : FileKey) (depth : ℕ) (inside : Option Values) (sound : InnerSound P inside)
          (any : InnerSound Any inside) (alike : InnerAlike inside) where
        begun_agrees : (parent : ℕ) (row : Row) (front : List Row) → Fits (row ∷ front)
            → (whole : Bool) (text : List ℕ)
            → Agree Sync Late
            (begun_by (holder file depth parent) inside row (head_at whole text) (row ∷ front ++
            one))
            (begun_by (holder file depth parent) inside row (head_at whole text) (row ∷ front ++
            two))
        unfolding head_at
        begun_agrees parent row front fits whole text =
            by_head (λ head. Agree Sync Late
            (begun_by (holder file depth parent) inside row head (row ∷ front ++ one))
            (begun_by (holder file depth parent) inside row head (row ∷ front ++ two))) whole text
            (sequence_agrees file inside sound any alike parent row (row ∷ front) fits) (same_err _)
            (same_err _) (same_err _)
            (at (quoted row)
            (λ read. either _ (mapping_agrees file inside sound any alike row (row ∷ front) fits)
            (at (quoted_node file row read) (λ made. same_ok _ _ (sync made front fits.1)))))
            (at (in_brackets file depth row) (λ made. same_ok _ _ (sync made front fits.1)))
            (block_agrees file parent row front fits.1) (same_err _)
            (λ text n is. rw is (mapping_agrees file inside sound any alike row (row ∷ front) fits))
            (λ text n isnt. rw isnt (word_agrees file parent row n front fits.1))

        node_in_agrees : (slot : _) (front : List Row) → Fits front
            → Agree Sync Late (node_in file depth inside slot (front ++ one))
            (node_in file depth inside slot (front ++ two))
        unfolding begun
        node_in_agrees slot [] fits =
            told (left_late (node_in_told P file depth inside sound slot one late))
        node_in_agrees slot (row ∷ front) fits =
            either _ (begun_agrees _ row front fits row.whole row.text)
            (same_ok _ _ (sync _ (row ∷ front) fits))

        node_with_agrees : (slot : _) (front : List Row) → Fits front
            → Agree Sync Late (node_with file depth inside slot (front ++ one))
            (node_with file depth inside slot (front ++ two))
        node_with_agrees slot front fits =
            goes (content_agrees front fits) (by_rows _ _ (node_in_agrees slot))
            (λ left all. left_late (node_in_told P file depth inside sound slot left all))

      inner_alike : (file : FileKey) (depth : ℕ) → InnerAlike (inner file depth)
      unfolding inner InnerAlike Alike
      inner_alike file zero = tt
      inner_alike file (suc depth) =
          node_with_agrees file depth (inner file depth) (inner_sound P file depth)
          (inner_sound Any file depth) (inner_alike file depth)

      node_agrees : (file : FileKey) (depth : ℕ) (slot : _) (front : List Row) → Fits front
          → Agree Sync Late (node file depth slot (front ++ one))
          (node file depth slot (front ++ two))
      unfolding node
      node_agrees file depth slot front fits =
          node_with_agrees file depth (inner file depth) (inner_sound P file depth)
          (inner_sound Any file depth) (inner_alike file depth) slot front fits

      -- ---- whole texts

      abbrev pub Both : Node → Node → Type 0
      Both made other = Unit {0}

      nothing_told : (rows : List Row) → Each P rows → Told P Whatever (nothing_left rows)
      nothing_told [] all = is_ok _ tt
      nothing_told (row ∷ rows) all = is_err _ all.0

      end_told : (made : Node) (rows : List Row) → Each P rows
          → Told P Whatever (nothing_left rows >>= λ _. Ok made)
      end_told made rows all = T.goes (nothing_told rows all) (λ _ _. is_ok _ tt)

      end_agrees : (made : Node) (front : List Row) → Fits front
          → Agree Both Whatever (nothing_left (front ++ one) >>= λ _. Ok made)
          (nothing_left (front ++ two) >>= λ _. Ok made)
      end_agrees made [] fits = told (end_told made one late)
      end_agrees made (row ∷ front) fits = same_err _

      pub document_agrees : (file : FileKey) (front : List Row) → Fits front
          → Agree Both Whatever (document file (front ++ one)) (document file (front ++ two))
      unfolding document
      document_agrees file front fits =
          goes (lead_agrees front fits)
          (by_rows _ _ (λ rest fit. goes (node_agrees file 64 whole_text rest fit)
          (by_sync _ _
          (λ made last more. goes (content_agrees last more) (by_rows _ _ (end_agrees made))
          (λ left all. end_told made left all)))
          (λ read all. T.goes (content_told P read.1 all) (λ left k. end_told read.0 left k.0))))
          (λ left all. T.goes (node_told P file 64 whole_text left all)
          (λ read k. T.goes (content_told P read.1 k.0)
          (λ rest more. end_told read.0 rest more.0)))
