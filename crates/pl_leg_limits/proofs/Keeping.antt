-- What each step of reading keeps is kept by all of them.
use Rattle.std.proofs.Common.{◌≡◌, Bool, true, false, List, [], ◌∷◌, ◌++◌, refl, subst}
use Rattle.std.specs.List.{AllByRecursion}
use Rattle.std.specs.Prelude.{ℕ, Result, Ok, Err, if◌then◌else◌}
use Rattle.pl_base.specs.Texts.{is}
use Rattle.pl_base.specs.declared.value.MarkedNode.{MarkedNode}
use Rattle.pl_base.specs.declared.value.MarkedPair.{MarkedPair}
use Rattle.pl_reading.specs.Steps.{◌>>=◌}
use Rattle.pl_schema_parts.specs.Gives.{Fault}
use Rattle.pl_schema_parts.specs.Rows.{alone, at_key, at_node, ignored, in_order, in_turn, only_if}
use Rattle.pl_schema_parts.specs.Rows.{read_object, read_pair, sets, Reading, Row}
use Rattle.pl_schema_parts.specs.declared.fault.SchemaCode.{SchemaCode}

-- ---- steps

-- a step that was good, and what came of it
pub record Good {A B E : Type 0} (r : Result A E) (next : A → Result B E) (end : B) : Type 0 where
  pub value : A
  pub is : r ≡ Ok value
  pub then_is : next value ≡ Ok end

pub good : {A B E : Type 0} (r : Result A E) (next : A → Result B E) (end : B) →
    (r >>= next) ≡ Ok end → Good r next end
good (Ok a) next end e = record { value = a; is = refl; then_is = e }
good (Err fault) next end e = absurd (cc)

abbrev pub ok_of : {A : Type 0} (E : Type 0) → A → Result A E
ok_of E a = Ok a

pub same_value : {A E : Type 0} (a b : A) → ok_of E a ≡ ok_of E b → a ≡ b
same_value a b e = cc

-- ---- one after the other

pub in_order_keeps : {S X : Type 0} (P : S → Type 0) (read : S → X → Result S Fault) →
    ((made : S) (item : X) (next : S) → P made → read made item ≡ Ok next → P next) →
    (items : List X) (start end : S) → P start → in_order read start items ≡ Ok end → P end
in_order_keeps P read keeps [] start end p e = subst P (same_value start end e) p
in_order_keeps P read keeps (item ∷ items) start end p e =
    let step = good (read start item) (λ next. in_order read next items) end e in
    in_order_keeps P read keeps items step.value end
    (keeps start item step.value p step.is) step.then_is

pub in_turn_keeps : {X Y : Type 0} (P : List Y → Type 0) (make : List Y → X → Result Y Fault) →
    ((made : List Y) (item : X) (one : Y) → P made → make made item ≡ Ok one →
    P (made ++ one ∷ [])) → (items : List X) (made end : List Y) → P made →
    in_turn make made items ≡ Ok end → P end
in_turn_keeps P make keeps [] made end p e = subst P (same_value made end e) p
in_turn_keeps P make keeps (item ∷ items) made end p e =
    let step = good (make made item) (λ one. in_turn make (made ++ one ∷ []) items) end e in
    in_turn_keeps P make keeps items (made ++ step.value ∷ []) end
    (keeps made item step.value p step.is) step.then_is

-- ---- rows

abbrev pub Keeps : {S : Type 0} → (S → Type 0) → Reading S → Type 0
Keeps {S} P read = (made : S) (pair : MarkedPair) (next : S) → P made →
    read made pair ≡ Ok next → P next

abbrev pub AllKeep : {S : Type 0} → (S → Type 0) → Row S → Type 0
AllKeep P row = AllByRecursion (λ entry. Keeps P entry.1) row

pub pair_keeps : {S : Type 0} (P : S → Type 0) (row : Row S) → AllKeep P row →
    Keeps P (read_pair row)
pair_keeps P [] each made pair next p e = absurd (cc)
pair_keeps {S} P (entry ∷ row) each made pair next p e =
    go (is pair.key entry.0) e (pair_keeps P row each.1 made pair next p) where
      go : (b : Bool) → (if b then entry.1 made pair else read_pair row made pair) ≡ Ok next →
          (read_pair row made pair ≡ Ok next → P next) → P next
      go true f later = each.0 made pair next p f
      go false f later = later f

pub object_keeps : {S : Type 0} (P : S → Type 0) (node : MarkedNode) (whole : Bool) (row : Row S)
    (start : S) (pairs : List MarkedPair) (end : S) → AllKeep P row → P start →
    read_object node whole row start pairs ≡ Ok end → P end
object_keeps P node true row start pairs end each p e =
    in_order_keeps P (read_pair row) (pair_keeps P row each) pairs start end p e
object_keeps P node false row start pairs end each p e = absurd (cc)

pub sets_keep : {S X : Type 0} (P : S → Type 0) (read : MarkedNode → Result X Fault)
    (keep : S → X → S) → ((made : S) (value : X) (node : MarkedNode) → read node ≡ Ok value →
    P made → P (keep made value)) → Keeps P (sets read keep)
sets_keep P read keep keeps made pair next p e =
    let step = good (read pair.item) (λ value. Ok (keep made value)) next e in
    subst P (same_value (keep made step.value) next step.then_is)
    (keeps made step.value pair.item step.is p)

pub ignored_keep : {S : Type 0} (P : S → Type 0) → Keeps P ignored
ignored_keep P made pair next p e = subst P (same_value made next e) p

pub alone_keep : {S : Type 0} (P : S → Type 0) (is_there : S → Bool) (code : SchemaCode)
    (read : Reading S) → Keeps P read → Keeps P (alone is_there code read)
alone_keep P is_there code read keeps made pair next p e = go (is_there made) e where
  go : (b : Bool) → (if b then at_key code pair else read made pair) ≡ Ok next → P next
  go true f = absurd (cc)
  go false f = keeps made pair next p f

pub only_keep : {S : Type 0} (P : S → Type 0) (has : Bool) (read : Reading S) → Keeps P read →
    Keeps P (only_if has read)
only_keep P true read keeps made pair next p e = keeps made pair next p e
only_keep P false read keeps made pair next p e = absurd (cc)
