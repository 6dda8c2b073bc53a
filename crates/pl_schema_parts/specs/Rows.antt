-- Objects by their rows: each key with what its value makes of what was read before it.
use Rattle.std.specs.Prelude.{ℕ, Bool, List, [], ◌∷◌, ◌++◌, Result, Ok, Err, if◌then◌else◌}
use Rattle.std.specs.List.{list_any}
use Rattle.pl_base.specs.declared.value.MarkedNode.{MarkedNode}
use Rattle.pl_base.specs.declared.value.MarkedPair.{MarkedPair}
use Rattle.pl_base.specs.Texts.{is}
use Rattle.pl_schema_parts.specs.declared.fault.SchemaCode.{SchemaCode}
use Rattle.pl_schema_parts.specs.declared.fault.SchemaCode.TheVariants.{UnknownKey, MissingKey}
use Rattle.pl_schema_parts.specs.Gives.{Fault}
use Rattle.pl_reading.specs.Steps.{◌>>=◌}

-- a fault at a node
abbrev pub at_node : {X : Type 0} → SchemaCode → MarkedNode → Result X Fault
at_node code node = Err (code, node.origin.source)

-- a fault at a key
abbrev pub at_key : {X : Type 0} → SchemaCode → MarkedPair → Result X Fault
at_key code pair = Err (code, pair.key_origin.source)

-- what a pair makes of what was read before it
abbrev pub Reading : Type 0 → Type 0
Reading S = S → MarkedPair → Result S Fault

-- a key whose value is read, and where that is kept
abbrev pub sets : {S X : Type 0} → (MarkedNode → Result X Fault) → (S → X → S) → Reading S
sets read keep made pair = read pair.item >>= λ value. Ok (keep made value)

-- a key that is passed over
abbrev pub ignored : {S : Type 0} → Reading S
ignored made pair = Ok made

-- a key that may not stand behind another one of those that exclude it
abbrev pub alone : {S : Type 0} → (S → Bool) → SchemaCode → Reading S → Reading S
alone is_there code read made pair = if is_there made then at_key code pair else read made pair

-- a key that some objects of its kind alone have
abbrev pub only_if : {S : Type 0} → Bool → Reading S → Reading S
only_if has read made pair = if has then read made pair else at_key UnknownKey pair

-- a row of an object: its keys
abbrev pub Row : Type 0 → Type 0
Row S = List (List ℕ × Reading S)

-- a key, how its value is read, and where that is kept
abbrev pub reads : {S X : Type 0} → List ℕ → (MarkedNode → Result X Fault) → (S → X → S) →
    List ℕ × Reading S
reads key read keep = (key, sets read keep)

-- a key that is accepted with any value
abbrev pub passed : {S : Type 0} → List ℕ → List ℕ × Reading S
passed key = (key, ignored)

-- keys are exact, and a key that isn't in the row is refused
abbrev pub read_pair : {S : Type 0} → Row S → Reading S
read_pair [] made pair = at_key UnknownKey pair
read_pair (entry ∷ row) made pair = if is pair.key entry.0 then entry.1 made pair
    else read_pair row made pair

-- one after the other
abbrev pub in_order : {S X : Type 0} → (S → X → Result S Fault) → S → List X → Result S Fault
in_order read made [] = Ok made
in_order read made (item ∷ items) = read made item >>= λ next. in_order read next items

-- item after item, each beside those before it
abbrev pub in_turn : {X Y F : Type 0} → (List Y → X → Result Y F) → List Y → List X →
    Result (List Y) F
in_turn make made [] = Ok made
in_turn make made (item ∷ items) = make made item >>= λ one. in_turn make (made ++ one ∷ []) items

-- whether a mapping has that key
abbrev pub has : List MarkedPair → List ℕ → Bool
has pairs key = list_any (λ pair. is pair.key key) pairs

-- a mapping whose pairs are read by a row, once it has what it must have
abbrev pub read_object : {S : Type 0} → MarkedNode → Bool → Row S → S → List MarkedPair →
    Result S Fault
read_object node is_whole row start pairs = if is_whole then in_order (read_pair row) start pairs
    else at_node MissingKey node

-- a list that must have an item
abbrev pub some_items : MarkedNode → List MarkedNode → Result (List MarkedNode) Fault
some_items node [] = at_node MissingKey node
some_items node items = Ok items
