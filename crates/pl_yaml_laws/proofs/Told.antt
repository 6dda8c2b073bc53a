-- On which lines faults are told, and which rows are left.
use Rattle.std.proofs.Common.{ℕ, zero, suc, ◌+◌, Bool, true, false, ◌&&◌, ◌||◌, cond, Option, Some}
use Rattle.std.proofs.Common.{None, Result, Ok, Err, List, [], ◌∷◌, ◌++◌, length, drop, inl, inr}
use Rattle.std.specs.Prelude.{◌==◌, nat_lt}
use Rattle.std.proofs.lemmas.Bool.{cases_Bool}
use Rattle.pl_base.specs.declared.place.FileKey.{FileKey}
use Rattle.pl_base.specs.declared.node.Node.{Node}
use Rattle.pl_base.specs.declared.node.NodeBody.{NodeBody}
use Rattle.pl_base.specs.declared.node.NodePair.{NodePair}
use Rattle.pl_line.specs.declared.code.YamlCode.TheVariants as codes_of
use Rattle.pl_line.specs.declared.line_fault.Fault.{Fault}
use Rattle.pl_line.specs.Rows.{Row}
use Rattle.pl_line.specs.Reading.{fault_at}
use Rattle.pl_reading.specs.Steps.{◌>>=◌}
use Rattle.pl_line.specs.Left.{behind, line_end}
use Rattle.pl_line.specs.Scanning.{ends_word}
use Rattle.pl_reading.specs.Bytes.{begins_with}
use Rattle.pl_line.specs.Quoted.{single, double, escape, numbered, spelled, named, piece}
use Rattle.pl_line.specs.Quoted.{next_piece, pieces_of, quoted}
use Rattle.pl_line.specs.Flow.{FlowRead, head_at, head_of, scalar_by, value_by, misplaced, colon}
use Rattle.pl_line.specs.Flow.{no_key, key_by, is_stray, item, pair, separated, entries, gathered}
use Rattle.pl_line.specs.Flow.{sequence, mapping, collection, inner, node, flow}
use Rattle.pl_line.specs.Flow as flows

-- a value of which that holds, or a fault on a line of which that holds
abbrev Tells : (ℕ → Type 0) → {X : Type 0} → (X → Type 0) → Result X Fault → Type 0
Tells P K (Ok x) = K x
Tells P K (Err fault) = P fault.line

pub record Told (P : ℕ → Type 0) {X : Type 0} (K : X → Type 0)
    (read : Result X Fault) : Type 0 where
  pub holds : Tells P K read

-- of any value
abbrev pub Whatever : {X : Type 0} → X → Type 0
Whatever x = Unit {0}

module _ {P : ℕ → Type 0} where
  pub is_ok : {X : Type 0} {K : X → Type 0} (x : X) → K x → Told P K (Ok x)
  is_ok x k = record { holds = k }

  pub is_err : {X : Type 0} {K : X → Type 0} (fault : Fault) → P fault.line → Told P K (Err fault)
  is_err fault on = record { holds = on }

  pub goes : {X Y : Type 0} {K : X → Type 0} {L : Y → Type 0} {read : Result X Fault} {more : X
      → Result Y Fault}
      → Told P K read → ((x : X) → K x → Told P L (more x)) → Told P L (read >>= more)
  goes {read = Ok x} told then = then x told.holds
  goes {read = Err fault} told then = record { holds = told.holds }

  pub either : {X : Type 0} {K : X → Type 0} (b : Bool) {x y : Result X Fault} → Told P K x
      → Told P K y → Told P K (cond b x y)
  either true yes_told no_told = yes_told
  either false yes_told no_told = no_told

  pub weaker : {X : Type 0} {K L : X → Type 0} {read : Result X Fault} → Told P K read
      → ((x : X) → K x → L x) → Told P L read
  weaker {read = Ok x} told then = record { holds = then x told.holds }
  weaker {read = Err fault} told then = record { holds = told.holds }

  -- ---- a row

  pub ended : (row : Row) → P row.number → Told P Whatever (line_end row)
  ended row on = either row.whole (is_ok tt tt) (is_err _ on)

  -- ---- quoted scalars

  module _ (row : Row) (on : P row.number) where
    spelled_told : (more : List ℕ → ℕ → Result (List ℕ × ℕ) Fault)
        → ((before : List ℕ) (at : ℕ) → Told P Whatever (more before at))
        → (before : List ℕ) (at n : ℕ) (c : Option ℕ)
        → Told P Whatever (next_piece more row before at (spelled n c))
    spelled_told more goes_on before at n None = is_err _ on
    spelled_told more goes_on before at n (Some c) = goes_on _ _

    single_told : (more : List ℕ → ℕ → Result (List ℕ × ℕ) Fault)
        → ((before : List ℕ) (at : ℕ) → Told P Whatever (more before at))
        → (before : List ℕ) (at : ℕ) (cs : List ℕ)
        → Told P Whatever (next_piece more row before at (single cs))
    unfolding single
    single_told more goes_on before at [] = is_err _ on
    single_told more goes_on before at (c ∷ cs) = elim (cases_Bool (c == 39)) [
      | inl is ↦
          elim (cases_Bool (begins_with 39 cs)) [
            | inl two ↦ rw (is, two) (goes_on _ _)
            | inr one ↦
                rw (is, one) (is_ok _ tt)
          ]
      | inr isnt ↦ rw isnt (goes_on _ _)
    ]

    numbered_told : (more : List ℕ → ℕ → Result (List ℕ × ℕ) Fault)
        → ((before : List ℕ) (at : ℕ) → Told P Whatever (more before at))
        → (before : List ℕ) (at n : ℕ) (cs : List ℕ)
        → Told P Whatever (next_piece more row before at (numbered n cs))
    unfolding numbered
    numbered_told more goes_on before at n cs = elim (cases_Bool (nat_lt (length cs) n)) [
      | inl few ↦ rw few (is_err _ on)
      | inr enough ↦ rw enough (spelled_told more goes_on before at (n + 2) _)
    ]

    escape_told : (more : List ℕ → ℕ → Result (List ℕ × ℕ) Fault)
        → ((before : List ℕ) (at : ℕ) → Told P Whatever (more before at))
        → (before : List ℕ) (at : ℕ) (cs : List ℕ)
        → Told P Whatever (next_piece more row before at (escape cs))
    unfolding escape
    escape_told more goes_on before at [] = is_err _ on
    escape_told more goes_on before at (c ∷ cs) = elim (cases_Bool (c == 120)) [
      | inl is ↦ rw is (numbered_told more goes_on before at 2 cs)
      | inr no_x ↦ elim (cases_Bool (c == 117)) [
        | inl is ↦ rw (no_x, is) (numbered_told more goes_on before at 4 cs)
        | inr no_u ↦ elim (cases_Bool (c == 85)) [
          | inl is ↦ rw (no_x, no_u, is) (numbered_told more goes_on before at 8 cs)
          | inr other ↦ rw (no_x, no_u, other) (spelled_told more goes_on before at 2 (named c))
        ]
      ]
    ]

    double_told : (more : List ℕ → ℕ → Result (List ℕ × ℕ) Fault)
        → ((before : List ℕ) (at : ℕ) → Told P Whatever (more before at))
        → (before : List ℕ) (at : ℕ) (cs : List ℕ)
        → Told P Whatever (next_piece more row before at (double cs))
    unfolding double
    double_told more goes_on before at [] = is_err _ on
    double_told more goes_on before at (c ∷ cs) = elim (cases_Bool (c == 34)) [
      | inl is ↦ rw is (is_ok _ tt)
      | inr no_quote ↦ elim (cases_Bool (c == 92)) [
        | inl is ↦ rw (no_quote, is) (escape_told more goes_on before at cs)
        | inr other ↦ rw (no_quote, other) (goes_on _ _)
      ]
    ]

    pieces_told : (style : _)
        → ((more : List ℕ → ℕ → Result (List ℕ × ℕ) Fault)
        → ((before : List ℕ) (at : ℕ) → Told P Whatever (more before at))
        → (before : List ℕ) (at : ℕ) (cs : List ℕ)
        → Told P Whatever (next_piece more row before at (piece style cs)))
        → (turns : ℕ) (before : List ℕ) (at : ℕ)
        → Told P Whatever (pieces_of style row turns before at)
    unfolding pieces_of
    pieces_told style told zero before at = is_ok _ tt
    pieces_told style told (suc turns) before at =
        told (pieces_of style row turns) (pieces_told style told turns) before at (drop at row.text)

    pub quoted_told : Told P Whatever (quoted row)
    unfolding quoted
    quoted_told =
        either (begins_with 39 row.text) (pieces_told _ single_told (length row.text) [] 1)
        (either (begins_with 34 row.text) (pieces_told _ double_told (length row.text) [] 1)
        (is_err _ on))

-- ---- flow collections

module _ (P : ℕ → Type 0) where
  abbrev pub InRow : {A : Type 0} → A × Row → Type 0
  InRow read = P read.1.number

  pub behind_on : (n : ℕ) (row : Row) → P row.number → P (behind n row).number
  unfolding behind
  behind_on n row on = on

  no_key_on : (row : Row) → P row.number → P (no_key row).line
  no_key_on row on =
      elim (begins_with 58 row.text) as
      (λ b. P (cond b (fault_at codes_of.ComplexKey row) (misplaced row)).line) [
        | true ↦
            on
        | false ↦ on
      ]

  colon_told : (row : Row) → P row.number → Told P (λ left. P left.number) (colon row)
  unfolding colon
  colon_told row on = either (begins_with 58 row.text) (is_ok _ (behind_on 1 row on)) (is_err _ on)

  separated_told : (close : ℕ) (row : Row) → P row.number
      → Told P (λ left. P left.number) (separated close row)
  unfolding separated
  separated_told close row on =
      either (begins_with 44 row.text) (is_ok _ (behind_on 1 row on))
      (either (begins_with close row.text) (is_ok _ on) (is_err _ on))

  entries_told : {A : Type 0} (close : ℕ) (one : List A → Row → FlowRead A)
      → ((before : List A) (row : Row) → P row.number → Told P InRow (one before row))
      → (turns : ℕ) (before : List A) (row : Row) → P row.number
      → Told P InRow (entries close one turns before row)
  unfolding entries
  entries_told close one told zero before row on = is_ok _ on
  entries_told close one told (suc turns) before row on =
      either (begins_with close row.text) (is_ok _ on)
      (goes (told before row on)
      (λ next at. goes (separated_told close next.1 at)
      (λ left here. entries_told close one told turns (before ++ next.0 ∷ []) left here)))

  gathered_told : {A : Type 0} (file : FileKey) (body : List A → NodeBody) (close : ℕ)
      (one : List A → Row → FlowRead A)
      → ((before : List A) (row : Row) → P row.number → Told P InRow (one before row)) → (row : Row)
      → P row.number → Told P InRow (gathered file body close one row)
  unfolding gathered
  gathered_told file body close one told row on =
      goes (entries_told close one told (length row.text) [] (behind 1 row) (behind_on 1 row on))
      (λ read at. is_ok _ at)

  module _ (file : FileKey) (inside : Row → FlowRead Node)
      (told : (row : Row) → P row.number → Told P InRow (inside row)) where
    value_at : (row : Row) → P row.number → (whole : Bool) (text : List ℕ)
        → Told P InRow (value_by file inside row (head_at whole text))
    unfolding head_at scalar_by
    value_at row on whole [] = is_err _ on
    value_at row on whole (c ∷ cs) = elim (cases_Bool (c == 91 || c == 123)) [
      | inl is ↦ rw is (goes (told row on) (λ read at. is_ok _ (behind_on 1 read.1 at)))
      | inr no_bracket ↦ elim (cases_Bool (c == 39 || c == 34)) [
        | inl is ↦
            rw (no_bracket, is)
            (goes (goes (quoted_told row on) (λ read _. is_ok _ (behind_on read.1 row on)))
            (λ read at. is_ok _ at))
        | inr no_quote ↦ elim (cases_Bool (c == 38 || c == 42)) [
          | inl is ↦ rw (no_bracket, no_quote, is) (is_err _ on)
          | inr no_anchor ↦ elim (cases_Bool (c == 33)) [
            | inl is ↦ rw (no_bracket, no_quote, no_anchor, is) (is_err _ on)
            | inr no_tag ↦ elim (cases_Bool (c == 63 && ends_word whole cs)) [
              | inl is ↦ rw (no_bracket, no_quote, no_anchor, no_tag, is) (is_err _ on)
              | inr no_question ↦ elim (cases_Bool (is_stray whole c cs)) [
                | inl is ↦
                    rw (no_bracket, no_quote, no_anchor, no_tag, no_question, is) (is_err _ on)
                | inr no_stray ↦
                    rw (no_bracket, no_quote, no_anchor, no_tag, no_question, no_stray)
                    (is_ok _ (behind_on _ row on))
              ]
            ]
          ]
        ]
      ]
    ]

    value_told : (row : Row) → P row.number → Told P InRow (flows.value file inside row)
    unfolding flows.value
    value_told row on = value_at row on row.whole row.text

    key_at : (row : Row) → P row.number → (whole : Bool) (text : List ℕ)
        → Told P InRow (key_by inside row (head_at whole text))
    unfolding head_at scalar_by
    key_at row on whole [] = is_err _ on
    key_at row on whole (c ∷ cs) = elim (cases_Bool (c == 91 || c == 123)) [
      | inl is ↦
          rw is (goes (told row on)
          (λ read at. is_err (no_key (behind 1 read.1))
          (no_key_on (behind 1 read.1) (behind_on 1 read.1 at))))
      | inr no_bracket ↦ elim (cases_Bool (c == 39 || c == 34)) [
        | inl is ↦
            rw (no_bracket, is)
            (goes (goes (quoted_told row on) (λ read _. is_ok _ (behind_on read.1 row on)))
            (λ read at. goes (colon_told read.1 at) (λ left here. is_ok _ here)))
        | inr no_quote ↦ elim (cases_Bool (c == 38 || c == 42)) [
          | inl is ↦ rw (no_bracket, no_quote, is) (is_err _ on)
          | inr no_anchor ↦ elim (cases_Bool (c == 33)) [
            | inl is ↦ rw (no_bracket, no_quote, no_anchor, is) (is_err _ on)
            | inr no_tag ↦ elim (cases_Bool (c == 63 && ends_word whole cs)) [
              | inl is ↦ rw (no_bracket, no_quote, no_anchor, no_tag, is) (is_err _ on)
              | inr no_question ↦ elim (cases_Bool (is_stray whole c cs)) [
                | inl is ↦
                    rw (no_bracket, no_quote, no_anchor, no_tag, no_question, is) (is_err _ on)
                | inr no_stray ↦
                    rw (no_bracket, no_quote, no_anchor, no_tag, no_question, no_stray)
                    (goes (colon_told (behind _ row) (behind_on _ row on))
                    (λ left here. is_ok _ here))
              ]
            ]
          ]
        ]
      ]
    ]

    item_told : (at row : Row) → P row.number → Told P InRow (item file inside at row)
    unfolding item
    item_told at row on =
        either (begins_with 44 row.text || begins_with 125 row.text) (is_ok _ on)
        (value_told row on)

    pair_told : (before : List NodePair) (row : Row) → P row.number
        → Told P InRow (pair file inside before row)
    unfolding pair flows.key
    pair_told before row on =
        goes (key_at row on row.whole row.text)
        (λ key at. either _ (is_err _ on)
        (goes (item_told row key.1 at) (λ read here. is_ok _ here)))

  Inner : Option (Row → FlowRead Node) → Type 0
  Inner None = Unit {0}
  Inner (Some inside) = (row : Row) → P row.number → Told P InRow (inside row)

  collection_told : (file : FileKey) (inside : Option (Row → FlowRead Node)) → Inner inside
      → (row : Row) → P row.number → Told P InRow (collection file inside row)
  unfolding collection Inner
  collection_told file None told row on = is_err _ on
  collection_told file (Some inside) told row on =
      either (begins_with 91 row.text)
      (gathered_told file _ 93 (λ _ left. flows.value file inside left)
      (λ before left at. value_told file inside told left at) row on)
      (gathered_told file _ 125 (pair file inside) (pair_told file inside told) row on)

  inner_told : (file : FileKey) (depth : ℕ) → Inner (inner file depth)
  unfolding inner Inner
  inner_told file zero = tt
  inner_told file (suc depth) = collection_told file (inner file depth) (inner_told file depth)

  pub flow_told : (file : FileKey) (depth : ℕ) (row : Row) → P row.number
      → Told P Whatever (flow file depth row)
  unfolding flow
  flow_told file depth row on =
      either (begins_with 91 row.text || begins_with 123 row.text)
      (goes (collection_told file (inner file depth) (inner_told file depth) row on)
      (λ read at. is_ok _ tt)) (is_err _ on)
