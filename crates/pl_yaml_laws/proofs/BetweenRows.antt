-- Where no scalar goes on between the lines of a text.
use Rattle.std.proofs.Common.{◌≡◌, ℕ, zero, suc, ◌+◌, ◌<◌, ◌≤◌, Bool, true, false, not, ◌&&◌, ◌||◌}
use Rattle.std.proofs.Common.{◌⊎◌, Option, Some, None, Result, Ok, Err, List, [], ◌∷◌}
use Rattle.std.proofs.Common.{length, drop, take, codes, ◌-◌, refl, subst, ap, sym, arith, inl, inr}
use Rattle.std.specs.Prelude.{◌==◌, nat_lt, max}
use Rattle.std.specs.List.{list_any, position_or_len}
use Rattle.std.proofs.lemmas.Bool.{cases_Bool, both_ways, and_parts, or_cases}
use Rattle.std.proofs.lemmas.Bool.{or_parts, or_right}
use Rattle.std.proofs.Math.Nat.{le-max_left}
use Rattle.std.proofs.lemmas.Bool.{not-true, or_left, ltb-true, ltb-false, lt-ltb, le-ltb}
use Rattle.pl_base.specs.declared.place.FileKey.{FileKey}
use Rattle.pl_line.specs.declared.code.YamlCode.TheVariants as codes_of
use Rattle.pl_line.specs.declared.line_fault.Fault.{Fault}
use Rattle.pl_line.specs.Rows.{Row}
use Rattle.pl_line.specs.Reading.{fault_at, fault_behind}
use Rattle.pl_reading.specs.Steps.{◌>>=◌}
use Rattle.pl_line.specs.Left.{is_done, behind, is_bare, is_comment}
use Rattle.pl_line.specs.Scanning.{ends_word, plain_len}
use Rattle.pl_reading.specs.Bytes.{begins_with, is_blank}
use Rattle.pl_yaml.specs.Heads.{head_of, head_at, is_start, is_block, is_word}
use Rattle.pl_yaml.specs.Content.{stands, closed}
use Rattle.pl_yaml.specs.Plain.{continued}
use Rattle.pl_yaml.specs.BlockScalars.{first_column}
use Rattle.pl_yaml.specs.BlockScalars.{content_column, reaches, digit}
use Rattle.pl_yaml.specs.BlockScalars.{is_digit}
use Rattle.pl_yaml.specs.Keys.{FoundKey, is_colon, key_by}
use Rattle.pl_yaml.specs.Nodes.{fits}
use Rattle.pl_yaml_laws.proofs.Heads.{by_head}
use Rattle.pl_yaml_laws.specs.Between.{is_plain, held_at, begins_item, has_colon, leaves_open}
use Rattle.pl_yaml_laws.specs.Between.{is_low, is_left, stops, is_stopped}
use Rattle.pl_yaml_laws.specs.Between.{is_ended, is_scalar, is_passed, alone_ended, each_ended}
use Rattle.pl_yaml_laws.proofs.Told as T
use Rattle.pl_yaml_laws.proofs.Told.{Told, Whatever, is_ok, is_err, weaker, quoted_told, flow_told}
use Rattle.pl_yaml_laws.proofs.ToldRows.{within_told}
use Rattle.pl_yaml_laws.proofs.Agreeing.{Any, any_each}

-- ---- what stands behind a scalar's first line

pub not_low : (column : ℕ) (row : Row) → is_low column row ≡ true → nat_lt column row.column ≡ false
not_low column row low = not-true (nat_lt column row.column) low

pub low_more : (least most : ℕ) (row : Row) → least ≤ most → is_low least row ≡ true
    → is_low most row ≡ true
low_more least most row less low =
    let under = ltb-false least row.column (not_low least row low) in
    ap not (le-ltb most row.column (omega (arith, less, under)))

pub left_more : (least most : ℕ) (rows : List Row) → least ≤ most → is_left least rows ≡ true
    → is_left most rows ≡ true
left_more least most [] less left = left
left_more least most (row ∷ rows) less left =
    elim (or_cases (not (is_bare row) && is_low least row) (is_left least rows) left) [
      | inl here ↦
          let parts = and_parts (not (is_bare row)) (is_low least row) here in
          rw (parts.0, low_more least most row less parts.1) refl
      | inr more ↦
          or_right (not (is_bare row) && is_low most row) (is_left most rows)
          (left_more least most rows less more)
    ]

pub stops_more : (least most : ℕ) (row : Row) → least ≤ most → stops least row ≡ true
    → stops most row ≡ true
stops_more least most row less stop =
    elim (or_cases (is_comment row) (has_colon row || is_low least row) stop) [
      | inl comment ↦ rw comment refl
      | inr other ↦ or_right (is_comment row) _
          (elim (or_cases (has_colon row) (is_low least row) other) [
            | inl colon ↦ rw colon refl
            | inr low ↦ or_right (has_colon row) _ (low_more least most row less low)
          ])
    ]

pub stopped_more : (least most : ℕ) (rows : List Row) (next : Row) → least ≤ most
    → is_stopped least rows next ≡ true → is_stopped most rows next ≡ true
stopped_more least most [] next less stop = stops_more least most next less stop
stopped_more least most (row ∷ rows) next less stop = elim (cases_Bool (is_bare row)) [
  | inl bare ↦ rw bare (stopped_more least most rows next less (rw bare at stop))
  | inr full ↦ rw full (stops_more least most row less (rw full at stop))
]

-- the characters behind
pub any_drop : (p : ℕ → Bool) (n : ℕ) (text : List ℕ) → list_any p text ≡ false
    → list_any p (drop n text) ≡ false
any_drop p zero text none = none
any_drop p (suc n) [] none = none
any_drop p (suc n) (c ∷ cs) none = any_drop p n cs (or_parts (p c) (list_any p cs) none).1

pub open_tail : (c : ℕ) (cs : List ℕ) → leaves_open (c ∷ cs) ≡ false → leaves_open cs ≡ false
open_tail c [] shut = refl
open_tail c (d ∷ cs) shut = shut

pub open_drop :
    (n : ℕ) (text : List ℕ) → leaves_open text ≡ false → leaves_open (drop n text) ≡ false
open_drop zero text shut = shut
open_drop (suc n) [] shut = shut
open_drop (suc n) (c ∷ cs) shut = open_drop n cs (open_tail c cs shut)

unfoldable pub Full : List Row → Type 0
Full [] = ⊥
Full (first ∷ front) = is_passed first ≡ false

pub start_refused : (first : Row) → is_start first ≡ true
    → (fault : Fault) × (stands first ≡ Err fault)
start_refused first start =
    let word = and_parts (is_word (codes "---") first) _ start in
    elim (cases_Bool (begins_with 9 first.text)) [
      | inl tab ↦ (fault_at codes_of.TabIndent first, rw tab refl)
      | inr none ↦ (fault_at codes_of.Documents first, rw (none, word.0) refl)
    ]

pub colon_refused : (first : Row) → has_colon first ≡ true
    → (fault : Fault) × (continued first ≡ Err fault) × (fault.line ≡ first.number)
colon_refused first colon = (
  fault_behind codes_of.NoEntry (plain_len first.whole false first.text) first,
  rw colon refl,
  refl,
)

pub deeper_colon : (column parent : ℕ) (first : Row) → column ≤ parent
    → nat_lt parent first.column ≡ true → is_comment first ≡ false → stops column first ≡ true
    → has_colon first ≡ true
deeper_colon column parent first within deeper text stop =
    elim (or_cases (is_comment first) (has_colon first || is_low column first) stop) [
      | inl comment ↦ absurd (both_ways (is_comment first) text comment)
      | inr other ↦ elim (or_cases (has_colon first) (is_low column first) other) [
        | inl colon ↦ colon
        | inr low ↦
            absurd (both_ways (nat_lt parent first.column)
            (not_low parent first (low_more column parent first within low)) deeper)
      ]
    ]

-- a plain scalar that goes to its line's end ends with no `:`
pub len_open : (blank : Bool) (text : List ℕ) → leaves_open text ≡ false → 0 < length text
    → plain_len true blank text ≡ length text → ⊥
len_open blank [] shut some is = omega arith
len_open blank (c ∷ []) shut some is =
    let colon : (c == 58) ≡ true = not_false (c == 58) shut in
    let none : plain_len true blank (c ∷ []) ≡ 0 = rw colon refl in
    omega (arith, none, is)
  where
    not_false : (b : Bool) → not b ≡ false → b ≡ true
    not_false true is = refl
    not_false false is = sym is
len_open blank (c ∷ (d ∷ cs)) shut some is =
    elim (cases_Bool (c == 58 && is_blank d || c == 35 && blank)) [
      | inl ends ↦
          let none : plain_len true blank (c ∷ (d ∷ cs)) ≡ 0 = rw ends refl in
          omega (arith, none, is)
      | inr on ↦
          let more : plain_len true blank (c ∷ (d ∷ cs))
          ≡ 1 + plain_len true (is_blank c) (d ∷ cs) = rw on refl in
          len_open (is_blank c) (d ∷ cs) shut (omega arith) (omega (arith, more, is))
    ]

-- no line that isn't deeper than the block is content
unfoldable pub Out : ℕ → Option ℕ → Type 0
Out parent column = (line : Row) → is_low parent line ≡ true → reaches column line ≡ false

pub out_some : (parent column : ℕ) → parent < column → Out parent (Some column)
unfolding Out
out_some parent column deeper line low =
    let at_most = ltb-false parent line.column (not_low parent line low) in
    ap not (lt-ltb line.column column (omega (arith, deeper, at_most)))

pub column_told : (parent : ℕ) (digit : Option ℕ) (rows : List Row)
    → ((n : ℕ) → digit ≡ Some n → 0 < n)
    → Told Any (Out parent) (content_column parent digit rows)
unfolding Out
column_told parent (Some n) rows some =
    let more = some n refl in
    is_ok _ (out_some parent (max parent 1 + n) (omega (arith, le-max_left parent 1, more)))
column_told parent None rows some = elim (cases_Bool (nat_lt parent (first_column rows))) [
  | inl deeper ↦
      rw deeper (T.goes (within_told Any (first_column rows) rows (any_each rows))
      (λ _ _. is_ok _ (out_some parent (first_column rows)
      (ltb-true parent (first_column rows) deeper))))
  | inr low ↦ rw low (is_ok None (λ line _. refl))
]

pub digit_some : (cs : List ℕ) (n : ℕ) → digit cs ≡ Some n → 0 < n
digit_some [] n is = absurd (cc)
digit_some (c ∷ cs) n is = elim (cases_Bool (is_digit c)) [
  | inl here ↦
      let more = ltb-true 48 c (and_parts (nat_lt 48 c) (nat_lt c 58) here).0 in
      let found : Some (c - 48) ≡ Some n = rw here at is in
      let same_n : c - 48 ≡ n = cc in
      omega (arith, more, same_n)
  | inr none ↦ digit_some cs n (rw none at is)
]

pub any_take : (p : ℕ → Bool) (text : List ℕ) → list_any p (take 1 text) ≡ true
    → list_any p text ≡ true
any_take p [] some = some
any_take p (c ∷ cs) some = elim (or_cases (p c) false some) [
  | inl here ↦ or_left (p c) (list_any p cs) here
  | inr none ↦ absurd (both_ways false refl none)
]

unfoldable pub KeyLink : FoundKey → Row → Type 0
KeyLink key first = (begins_item first ≡ false) × (key.start.column ≡ first.column)
    × ((a : ℕ) × (b : ℕ) × (key.left.text ≡ drop a (drop b first.text)))

pub key_linked : (file : FileKey) (depth : ℕ) (first : Row) → begins_item first ≡ false
    → (whole : Bool) (text : List ℕ)
    → Told Any (λ key. KeyLink key first) (key_by file depth first (head_at whole text))
unfolding head_at KeyLink behind
key_linked file depth first no_dash whole text =
    by_head (λ head. Told Any (λ key. KeyLink key first) (key_by file depth first head)) whole text
    (is_err _ tt) (is_err _ tt) (is_err _ tt) (is_err _ tt)
    (T.goes (quoted_told {P = Any} first tt) (λ read _. T.either (is_colon (behind read.1 first))
    (is_ok _ (no_dash, refl, (_, _, refl))) (is_err _ tt)))
    (T.goes (flow_told Any file depth first tt) (λ read _. is_err _ tt))
    (is_err _ tt) (is_err _ tt) (λ text n is. rw is (is_ok _ (no_dash, refl, (0, _, refl))))
    (λ text n isnt. rw isnt (is_err _ tt))

dash_head : (first : Row) → begins_item first ≡ true → head_of first ≡ head_at true (45 ∷ [])
unfolding head_at
dash_head first dash = by_text first.whole first.text dash
  where
    by_text : (whole : Bool) (text : List ℕ)
        → (begins_with 45 text && ends_word whole (drop 1 text)) ≡ true
        → head_at whole text ≡ head_at true (45 ∷ [])
    by_text whole [] dash = absurd (both_ways false refl dash)
    by_text whole (c ∷ cs) dash = rw dash refl

pub key_found : (file : FileKey) (depth : ℕ) (first : Row)
    → Told Any (λ key. KeyLink key first) (key_by file depth first (head_of first))
unfolding head_at
key_found file depth first = elim (cases_Bool (begins_item first)) [
  | inl dash ↦
      subst (λ head. Told Any (λ key. KeyLink key first) (key_by file depth first head))
      (sym (dash_head first dash)) (is_err _ tt)
  | inr none ↦ key_linked file depth first none first.whole first.text
]

-- ---- where a scalar on a line is held

pub held_plain : (row : Row) → is_plain (behind 1 row) ≡ true → held_at row ≡ row.column
held_plain row plain = elim (cases_Bool (begins_item row)) [
  | inl dash ↦ rw (dash, plain) refl
  | inr none ↦ rw none refl
]

pub held_key : (row : Row) → begins_item row ≡ false → held_at row ≡ row.column
held_key row none = rw none refl

pub held_least : (row : Row) → row.column ≤ held_at row
held_least row = elim (cases_Bool (begins_item row && not (is_plain (behind 1 row)))) [
  | inl on ↦ let two : held_at row ≡ row.column + 2 = rw on refl in omega (arith, two)
  | inr off ↦ let none : held_at row ≡ row.column = rw off refl in omega (arith, none)
]

-- how many characters stand before the content behind a dash
abbrev pub mark_len : List ℕ → ℕ
mark_len text = 1 + position_or_len (λ c. not (is_blank c)) (drop 1 text)

pub held_more : (row : Row) → held_at row ≤ row.column + mark_len row.text
unfolding behind
held_more row = elim (cases_Bool (begins_item row && not (is_plain (behind 1 row)))) [
  | inl on ↦
      let parts = and_parts (begins_item row) (not (is_plain (behind 1 row))) on in
      let rest = or_parts (is_passed (behind 1 row)) _
      (not-true (is_plain (behind 1 row)) parts.1) in
      let more = two_more row parts.0 (or_parts (is_done (behind 1 row)) _ rest.1).1 in
      let two : held_at row ≡ row.column + 2 = rw on refl in
      omega (arith, two, more)
  | inr off ↦ let none : held_at row ≡ row.column = rw off refl in omega (arith, none)
]
  where
    by_text : (whole : Bool) (column : ℕ) (number : ℕ) (text : List ℕ)
        → (begins_with 45 text && ends_word whole (drop 1 text)) ≡ true
        → is_scalar
        (behind 1 (record { number = number; column = column; text = text; whole = whole })) ≡ false
        → 2 ≤ mark_len text
    by_text whole column number [] dash collection = absurd (both_ways false refl dash)
    by_text whole column number (c ∷ []) dash collection = absurd (both_ways true collection refl)
    by_text whole column number (c ∷ (d ∷ cs)) dash collection =
        let blank : is_blank d ≡ true = (and_parts (c == 45) (is_blank d) dash).1 in
        let more : position_or_len (λ c. not (is_blank c)) (d ∷ cs)
        ≡ 1 + position_or_len (λ c. not (is_blank c)) cs = rw blank refl in
        omega (arith, more)

    two_more : (row : Row) → begins_item row ≡ true → is_scalar (behind 1 row) ≡ false
        → 2 ≤ mark_len row.text
    two_more row dash collection =
        by_text row.whole row.column row.number row.text dash collection

unfoldable pub ItemLink : Row → Row → Type 0
ItemLink found first = found ≡ first

pub bind_same : {Y Z : Type 0} {K : Y → Type 0} {read : Result Y Fault}
    {more others : Y → Result Z Fault} → Told Any K read → ((y : Y) → K y → more y ≡ others y)
    → (read >>= more) ≡ (read >>= others)
bind_same {read = Ok y} told equal = equal y told.holds
bind_same {read = Err fault} told equal = refl

-- the next line
module _ (next : Row) where
  -- a plain scalar or a block scalar that began in a block of that column is ended
  unfoldable pub Stops : ℕ → List Row → Type 0
  Stops column front = (is_left column front ≡ true) ⊎ (is_stopped column front next ≡ true)

  unfoldable pub Shut : ℕ → List ℕ → List Row → Type 0
  Shut column text front =
      (is_left column front ≡ true)
      ⊎ ((list_any is_block text ≡ false)
      × ((leaves_open text ≡ false) ⊎ (is_stopped column front next ≡ true)))

  unfoldable pub Alone : ℕ → List Row → Type 0
  Alone column [] = Unit {0}
  Alone column (first ∷ front) =
      (is_passed first ≡ true → Alone column front)
      × (is_passed first ≡ false → is_scalar first ≡ true → Shut column first.text front)

  unfoldable pub Fits : List Row → Type 0
  Fits [] = Unit {0}
  Fits (first ∷ front) =
      (is_passed first ≡ false
      → Shut (held_at first) first.text front × Alone (held_at first) front)
      × Fits front

  pub shut_behind : (least most n : ℕ) (text : List ℕ) (front : List Row) → least ≤ most
      → Shut least text front → Shut most (drop n text) front
  unfolding Shut
  shut_behind least most n text front less shut = elim shut [
    | inl left ↦ inl (left_more least most front less left)
    | inr other ↦ inr (
      any_drop is_block n text other.0,
      elim other.1 [
        | inl closed ↦ inl (open_drop n text closed)
        | inr stopped ↦ inr (stopped_more least most front next less stopped)
      ],
    )
  ]

  pub alone_more : (least most : ℕ) (front : List Row) → least ≤ most → Alone least front
      → Alone most front
  unfolding Alone
  alone_more least most [] less alone = tt
  alone_more least most (first ∷ front) less alone = (
    (λ passed. alone_more least most front less (alone.0 passed)),
    (λ full scalar. shut_behind least most 0 first.text front less (alone.1 full scalar)),
  )

  pub shut_is : (column : ℕ) (text : List ℕ) (front : List Row)
      → is_ended column text front next ≡ true → Shut column text front
  unfolding Shut
  shut_is column text front ended = elim (or_cases (is_left column front) _ ended) [
    | inl left ↦ inl left
    | inr other ↦
        let both = and_parts (not (list_any is_block text)) _ other in
        inr (
          not-true (list_any is_block text) both.0,
          elim (or_cases (not (leaves_open text)) (is_stopped column front next) both.1) [
            | inl closed ↦ inl (not-true (leaves_open text) closed)
            | inr stopped ↦ inr stopped
          ],
        )
  ]

  pub alone_is : (column : ℕ) (front : List Row) → alone_ended column front next ≡ true
      → Alone column front
  unfolding Alone
  alone_is column [] ended = tt
  alone_is column (first ∷ front) ended = (
    (λ passed. alone_is column front (rw passed at ended)),
    (λ full scalar. shut_is column first.text front (alone_of full scalar (rw full at ended))),
  )
    where
      alone_of : is_passed first ≡ false → is_scalar first ≡ true
          → (not (is_scalar first) || is_ended column first.text front next) ≡ true
          → is_ended column first.text front next ≡ true
      alone_of full scalar ended = rw scalar at ended

  pub fits_is : (front : List Row) → each_ended front next ≡ true → Fits front
  unfolding Fits
  fits_is [] all = tt
  fits_is (first ∷ front) all =
      let parts = and_parts (is_passed first || _) (each_ended front next) all in (
        (λ full. fits_here full (or_cases (is_passed first) _ parts.0)),
        fits_is front parts.1,
      )
    where
      fits_here : is_passed first ≡ false
          → (is_passed first ≡ true)
          ⊎ ((is_ended (held_at first) first.text front next
          && alone_ended (held_at first) front next) ≡ true)
          → Shut (held_at first) first.text front × Alone (held_at first) front
      fits_here full (inl passed) = absurd (both_ways (is_passed first) full passed)
      fits_here full (inr ended) =
          let both = and_parts (is_ended (held_at first) first.text front next) _ ended in
          (shut_is (held_at first) first.text front both.0, alone_is (held_at first) front both.1)

  pub fits_skip : (first : Row) (front : List Row) → is_passed first ≡ true → Fits (first ∷ front)
      → Fits front
  unfolding Fits
  fits_skip first front is fits = fits.1

  unfoldable pub FitsIn : ℕ → List Row → Type 0
  FitsIn column front = Fits front × Alone column front

  pub alone_skip : (column : ℕ) (first : Row) (front : List Row) → is_passed first ≡ true
      → FitsIn column (first ∷ front) → FitsIn column front
  unfolding Fits FitsIn Alone
  alone_skip column first front is fits = (fits.0.1, fits.1.0 is)

  pub bare_stops : (column : ℕ) (first : Row) (front : List Row) → is_bare first ≡ true
      → Stops column (first ∷ front) → Stops column front
  unfolding Stops
  bare_stops column first front bare (inl left) = inl (rw bare at left)
  bare_stops column first front bare (inr stop) = inr (rw bare at stop)

  -- a line that is deeper than a plain scalar's block, where the scalar is ended
  pub deeper_stops : (parent column : ℕ) (first : Row) (front : List Row) → column ≤ parent
      → is_bare first ≡ false → is_comment first ≡ false → nat_lt parent first.column ≡ true
      → Stops column (first ∷ front) → (Stops column front) ⊎ (has_colon first ≡ true)
  unfolding Stops
  deeper_stops parent column first front within full text deeper (inl left) =
      elim (or_cases (not (is_bare first) && is_low column first) (is_left column front) left) [
        | inl here ↦
            absurd (both_ways (nat_lt parent first.column)
            (not_low parent first (low_more column parent first within
            (and_parts (not (is_bare first)) (is_low column first) here).1)) deeper)
        | inr more ↦ inl (inl more)
      ]
  deeper_stops parent column first front within full text deeper (inr stop) =
      inr (deeper_colon column parent first within deeper text (rw full at stop))

  pub shut_left : (parent : ℕ) (text : List ℕ) (front : List Row)
      → list_any is_block (take 1 text) ≡ true → Shut parent text front
      → is_left parent front ≡ true
  unfolding Shut
  shut_left parent text front bar (inl left) = left
  shut_left parent text front bar (inr other) =
      absurd (both_ways (list_any is_block text) other.0 (any_take is_block text bar))
