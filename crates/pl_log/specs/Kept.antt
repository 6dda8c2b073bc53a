-- How the items of a log are kept: each with the numbers that its keys had before it.
use Rattle.std.specs.Prelude.{◌≡◌, ℕ, ◌<◌, ◌≤◌, ◌^◌, Bool, true, List, map, length, take}
use Rattle.std.specs.Prelude.{get_or, Option, None, Some}
use Rattle.pl_log.specs.Keys.{Named, SecondNamed, names, same_key}
use Rattle.pl_log.specs.Latest.{last_number}
use Rattle.pl_log.specs.Rows.{number_at, second_number_at, has_second_row_at}
use Rattle.pl_log.specs.declared.kept.Kept.{Kept}
use Rattle.pl_log.specs.declared.kept.Link.{Link}
use Rattle.pl_log.specs.declared.kept.Link.TheVariants.{First, Second}
use Rattle.pl_log.specs.declared.rows.Rows.{Rows}
use Rattle.pl_log.specs.declared.second_rows.SecondRows.{SecondRows}

-- ---- what items are about

abbrev pub is_about : {X : Type 0} → (X → Named) → Named → X → Bool
is_about named key item = same_key (named item) key

abbrev pub is_also_about : {X : Type 0} → (X → Option SecondNamed) → SecondNamed → X → Bool
is_also_about second key item = names (second item) key

-- ---- numbers that lead from an item to the one before it about the same key

-- Each kept thing whose item passes the test has the number of the latest item before it that does.
abbrev pub IsLinked :
    {K X : Type 0} → (K → X) → (K → ℕ) → (X → Bool) → List K → Type 0
IsLinked {K} item link test kept = (i : ℕ) (d : K) → i < length kept →
    test (item (get_or kept i d)) ≡ true →
    link (get_or kept i d) ≡ last_number test (take i (map item kept))

-- the numbers lead back
abbrev pub LeadsBack : {K : Type 0} → (K → ℕ) → List K → Type 0
LeadsBack {K} link kept = (i : ℕ) (d : K) → i < length kept → link (get_or kept i d) ≤ i

-- each key's number is that of the latest item about it
abbrev pub IsTied : {Q X : Type 0} → (Q → X → Bool) → (Q → ℕ) → List X → Type 0
IsTied {Q} about number items = (key : Q) → number key ≡ last_number (about key) items

-- ---- what is kept

abbrev pub item_of : {X : Type 0} → Kept X → X
item_of one = one.item

abbrev pub items_of : {X : Type 0} → List (Kept X) → List X
items_of kept = map item_of kept

abbrev pub link_of : {X : Type 0} → Link → Kept X → ℕ
link_of First one = one.before
link_of Second one = one.second_before

-- the number of what an item is about besides, and whether it can change without memory
abbrev pub second_number : SecondRows → Option SecondNamed → ℕ
second_number rows None = 0
second_number rows (Some key) = second_number_at rows key

abbrev pub has_second_row : SecondRows → Option SecondNamed → Bool
has_second_row rows None = true
has_second_row rows (Some key) = has_second_row_at rows key

-- the rows have the numbers of the latest items, and each item leads to those before it
pub record IsKept {X : Type 0} (named : X → Named) (second : X → Option SecondNamed) (rows : Rows)
    (second_rows : SecondRows) (kept : List (Kept X)) : Type 0 where
  pub tied : IsTied (is_about named) (number_at rows) (items_of kept)
  pub second_tied :
      IsTied (is_also_about second) (second_number_at second_rows) (items_of kept)
  pub linked : (key : Named) → IsLinked item_of (link_of First) (is_about named key) kept
  pub second_linked : (key : SecondNamed) →
      IsLinked item_of (link_of Second) (is_also_about second key) kept
  pub leads : (link : Link) → LeadsBack (link_of link) kept
  pub few : length kept < 2 ^ 32
