-- Objects and lists that are read, and what their readers keep.
use Rattle.std.proofs.Common.{◌≡◌, ℕ, Bool, true, false, cond, Result, Ok, Err, refl}
use Rattle.std.proofs.Common.{List, [], ◌∷◌, ◌++◌}
use Rattle.std.specs.Prelude.{IfOk}
use Rattle.std.specs.List.{AllByRecursion as Each}
use Rattle.pl_base.specs.declared.value.Value.{out-Value}
use Rattle.pl_base.specs.declared.value.Value.TheOpen as layer
use Rattle.pl_base.specs.declared.value.MarkedNode.{MarkedNode}
use Rattle.pl_base.specs.declared.value.MarkedPair.{MarkedPair}
use Rattle.pl_eval_laws.proofs.Lists.{each_append}
use Rattle.pl_eval_laws.proofs.Leads.{Opened}
use Rattle.pl_eval_laws.proofs.Trees.{Any, Asked, NodeFrom, OpenedFrom, PairFrom}
use Rattle.pl_eval_laws.proofs.Trees.{node_parts}
use Rattle.pl_eval_laws.proofs.Trees.{value_parts}
use Rattle.pl_base.specs.Texts.{is}
use Rattle.pl_schema_parts.specs.declared.fault.SchemaCode.{SchemaCode}
use Rattle.pl_schema_parts.specs.Gives.{Fault}
use Rattle.pl_schema_parts.specs.Rows.{Reading, Row, at_key, ignored, in_order, in_turn, only_if}
use Rattle.pl_reading.specs.Steps.{◌>>=◌}
use Rattle.pl_schema_parts.specs.Rows.{alone, read_object, read_pair, sets, some_items}
use Rattle.pl_schema_parts.specs.Scalars.{items_from, items_in, pairs_from, pairs_in}

-- ---- one step behind another

pub then_ok :
    {A B : Type 0} (Q : A → Type 0) (S : B → Type 0) (step : Result A Fault)
    (next : A → Result B Fault) → IfOk step Q → ((x : A) → Q x → IfOk (next x) S) →
    IfOk (step >>= next) S
then_ok Q S (Ok x) next holds goes = goes x holds
then_ok Q S (Err fault) next holds goes = tt

pub then_any :
    {A B : Type 0} (S : B → Type 0) (step : Result A Fault) (next : A → Result B Fault) →
    ((x : A) → IfOk (next x) S) → IfOk (step >>= next) S
then_any S (Ok x) next goes = goes x
then_any S (Err fault) next goes = tt

-- a choice of which the second part is a refusal
pub chosen :
    {B : Type 0} (S : B → Type 0) (test : Bool) (step : Result B Fault) (fault : Fault) →
    (test ≡ true → IfOk step S) → IfOk (cond test step (Err fault)) S
chosen S true step fault holds = holds refl
chosen S false step fault holds = tt

-- ---- lists

infixr 4 ◌also◌
pub ◌also◌ : {A B : Type 0} → A → B → A × B
first also rest = (first, rest)

pub order_keeps :
    {S X : Type 0} (I : S → Type 0) (R : X → Type 0) (read : S → X → Result S Fault) →
    ((made : S) (item : X) → I made → R item → IfOk (read made item) I) →
    (made : S) (items : List X) → I made → Each R items → IfOk (in_order read made items) I
order_keeps I R read keeps made [] holds all = holds
order_keeps I R read keeps made (item ∷ items) holds all =
    then_ok I I (read made item) (λ next. in_order read next items)
    (keeps made item holds all.0)
    (λ next kept. order_keeps I R read keeps next items kept all.1)

pub turn_gives :
    {X Y : Type 0} (R : X → Type 0) (Q : Y → Type 0) (make : List Y → X → Result Y Fault) →
    ((made : List Y) (item : X) → R item → IfOk (make made item) Q) →
    (made : List Y) (items : List X) → Each Q made → Each R items →
    IfOk (in_turn make made items) (Each Q)
turn_gives R Q make gives made [] before all = before
turn_gives R Q make gives made (item ∷ items) before all =
    then_ok Q (Each Q) (make made item) (λ one. in_turn make (made ++ one ∷ []) items)
    (gives made item all.0)
    (λ one is. turn_gives R Q make gives (made ++ one ∷ []) items
    (each_append Q made (one ∷ []) before (is, tt)) all.1)

-- ---- objects: R is asked of each pair, and I is kept

abbrev pub Keeps : {S : Type 0} → (S → Type 0) → (MarkedPair → Type 0) → Reading S → Type 0
Keeps I R read = (made : _) (pair : MarkedPair) → I made → R pair → IfOk (read made pair) I

-- at the pairs with its key
abbrev pub KeepsAt :
    {S : Type 0} → (S → Type 0) → (MarkedPair → Type 0) → List ℕ × Reading S → Type 0
KeepsAt I R entry =
    (made : _) (pair : MarkedPair) → I made → R pair → is pair.key entry.0 ≡ true →
    IfOk (entry.1 made pair) I

module _ {S : Type 0} (I : S → Type 0) (R : MarkedPair → Type 0) where
  row_keeps : (row : Row S) → Each (KeepsAt I R) row → Keeps I R (read_pair row)
  row_keeps [] all made pair holds given = tt
  row_keeps (entry ∷ row) all made pair holds given =
      by (is pair.key entry.0) refl (row_keeps row all.1 made pair holds given)
    where
      by : (test : Bool) → is pair.key entry.0 ≡ test → IfOk (read_pair row made pair) I →
          IfOk (cond test (entry.1 made pair) (read_pair row made pair)) I
      by true is_so rest = all.0 made pair holds given is_so
      by false is_so rest = rest

  pub object_keeps :
      (node : MarkedNode) (is_whole : Bool) (row : Row S) (start : S) (pairs : List MarkedPair) →
      Each (KeepsAt I R) row → I start → Each R pairs →
      IfOk (read_object node is_whole row start pairs) I
  object_keeps node true row start pairs all holds given =
      order_keeps I R (read_pair row) (row_keeps row all) start pairs holds given
  object_keeps node false row start pairs all holds given = tt

  -- what is read leaves I alone
  pub plain :
      {X : Type 0} (key : List ℕ) (read : MarkedNode → Result X Fault) (keep : S → X → S) →
      ((made : S) (x : X) → I made → I (keep made x)) → KeepsAt I R (key, sets read keep)
  plain key read keep keeps made pair holds given is_so =
      then_any I (read pair.item) (λ value. Ok (keep made value)) (λ x. keeps made x holds)

  pub passed_keeps : (key : List ℕ) → KeepsAt I R (key, ignored)
  passed_keeps key made pair holds given is_so = holds

  pub alone_keeps :
      (key : List ℕ) (is_there : S → Bool) (code : SchemaCode) (read : Reading S) →
      KeepsAt I R (key, read) → KeepsAt I R (key, alone is_there code read)
  alone_keeps key is_there code read keeps made pair holds given is_so = by (is_there made)
    where
      by : (test : Bool) → IfOk (cond test (at_key code pair) (read made pair)) I
      by true = tt
      by false = keeps made pair holds given is_so

  pub only_keeps :
      (key : List ℕ) (has : Bool) (read : Reading S) → KeepsAt I R (key, read) →
      KeepsAt I R (key, only_if has read)
  only_keeps key true read keeps made pair holds given is_so =
      keeps made pair holds given is_so
  only_keeps key false read keeps made pair holds given is_so = tt

-- ---- the parts of a node

module _ (P : Asked) where
  -- what is read is of what P holds
  pub taken :
      {S X : Type 0} (I : S → Type 0) (R : MarkedPair → Type 0) (Q : X → Type 0) (key : List ℕ)
      (read : MarkedNode → Result X Fault) (keep : S → X → S) →
      ((pair : MarkedPair) → is pair.key key ≡ true → R pair → NodeFrom P Any pair.item) →
      ((node : MarkedNode) → NodeFrom P Any node → IfOk (read node) Q) →
      ((made : S) (x : X) → I made → Q x → I (keep made x)) →
      KeepsAt I R (key, sets read keep)
  taken I R Q key read keep own reads keeps made pair holds given is_so =
      then_ok Q I (read pair.item) (λ value. Ok (keep made value))
      (reads pair.item (own pair is_so given)) (λ x is. keeps made x holds is)

  opened_pairs : (node : MarkedNode) (one : Opened) → OpenedFrom P Any one →
      IfOk (pairs_from node one) (Each (PairFrom P Any))
  opened_pairs node (layer.Object pairs) all = all
  opened_pairs node layer.Null all = tt
  opened_pairs node (layer.Str []) all = tt
  opened_pairs node (layer.Str (first ∷ text)) all = tt
  opened_pairs node (layer.Bool truth) all = tt
  opened_pairs node (layer.Number number) all = tt
  opened_pairs node (layer.Version segments) all = tt
  opened_pairs node (layer.Array items) all = tt

  pub pairs_give : (node : MarkedNode) → NodeFrom P Any node →
      IfOk (pairs_in node) (Each (PairFrom P Any))
  pairs_give node all = opened_pairs node (out-Value node.value)
      (value_parts P Any node.value (node_parts P Any node all).1)

  opened_items : (node : MarkedNode) (one : Opened) → OpenedFrom P Any one →
      IfOk (items_from node one) (Each (NodeFrom P Any))
  opened_items node (layer.Array items) all = all
  opened_items node layer.Null all = tt
  opened_items node (layer.Str []) all = tt
  opened_items node (layer.Str (first ∷ text)) all = tt
  opened_items node (layer.Bool truth) all = tt
  opened_items node (layer.Number number) all = tt
  opened_items node (layer.Version segments) all = tt
  opened_items node (layer.Object pairs) all = tt

  pub items_give : (node : MarkedNode) → NodeFrom P Any node →
      IfOk (items_in node) (Each (NodeFrom P Any))
  items_give node all = opened_items node (out-Value node.value)
      (value_parts P Any node.value (node_parts P Any node all).1)

  pub some_give : (node : MarkedNode) (items : List MarkedNode) → Each (NodeFrom P Any) items →
      IfOk (some_items node items) (Each (NodeFrom P Any))
  some_give node [] all = tt
  some_give node (item ∷ items) all = all
