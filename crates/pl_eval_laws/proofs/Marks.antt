-- What the scalars and keys of a tree say, by the parts of the tree.
use Rattle.std.proofs.Common.{◌≡◌, ℕ, Some, None, List, [], ◌∷◌, ◌++◌, map}
use Rattle.std.proofs.Common.{ap, refl, subst, sym, ◌∙◌, rules}
use Rattle.pl_base.specs.declared.origin.Origin.{Origin}
use Rattle.pl_base.specs.declared.value.Value.{Value, out-Value, roll-Value, the_lemmas}
use Rattle.pl_base.specs.declared.value.Value.TheVariants as value
use Rattle.pl_base.specs.declared.value.Value.TheOpen.{Null, Bool as Truth, Number, Version, Str}
use Rattle.pl_base.specs.declared.value.Value.TheOpen.{Array, Object}
use Rattle.pl_base.specs.declared.value.MarkedNode.{MarkedNode}
use Rattle.pl_base.specs.declared.value.MarkedPair.{MarkedPair}
use Rattle.pl_eval_laws.specs.Marks.{Marks, ValueMarks, together, mark, key, said_at}
use Rattle.pl_eval_laws.specs.Marks.{collection, alone, node_step, marks_of, value_marks, marks_in}
use Rattle.pl_expr.specs.Conversions.{text_of}
use Rattle.pl_eval_laws.proofs.Leads.{Opened, rolled, opened_array, opened_object, atom_by, atom_of}
use Rattle.pl_eval_laws.proofs.Lists.{Has}

abbrev pub marks_below : Value → Marks
marks_below one = (value_marks one).marks

abbrev layer_seen : Opened → ValueMarks
layer_seen (Array items) = collection (map marks_of items)
layer_seen (Object pairs) = collection (map marks_in pairs)
layer_seen Null = alone value.Null
layer_seen (Truth truth) = alone (value.Bool truth)
layer_seen (Number number) = alone (value.Number number)
layer_seen (Version segments) = alone (value.Version segments)
layer_seen (Str text) = alone (value.Str text)

layer_is : (layer : Opened) → value_marks (roll-Value layer) ≡ layer_seen layer
unfolding marks_of value_marks marks_in
layer_is Null = search (rules, the_lemmas)
layer_is (Truth truth) = search (rules, the_lemmas)
layer_is (Number number) = search (rules, the_lemmas)
layer_is (Version segments) = search (rules, the_lemmas)
layer_is (Str text) = search (rules, the_lemmas)
layer_is (Array items) = search (rules, the_lemmas)
layer_is (Object pairs) = search (rules, the_lemmas)

layer_atom : (layer : Opened) → (layer_seen layer).atom ≡ atom_by layer
layer_atom Null = refl
layer_atom (Truth truth) = refl
layer_atom (Number number) = refl
layer_atom (Version segments) = refl
layer_atom (Str text) = refl
layer_atom (Array items) = refl
layer_atom (Object pairs) = refl

atom_is : (one : Value) → (value_marks one).atom ≡ atom_of one
atom_is one =
    ap (λ (one : Value). (value_marks one).atom) (sym (rolled one))
    ∙ (ap (λ (seen : ValueMarks). seen.atom) (layer_is (out-Value one))
    ∙ layer_atom (out-Value one))

node_is :
    (origin : Origin) (one : Value) →
    marks_of (record { origin = origin; value = one })
    ≡ node_step (record { origin = origin; value = value_marks one })
unfolding marks_of value_marks
node_is origin one = search (rules, the_lemmas)

pub node_marks :
    (origin : Origin) (one : Value) →
    marks_of (record { origin = origin; value = one })
    ≡ said_at origin (atom_of one) ++ marks_below one
node_marks origin one =
    node_is origin one ∙ ap (λ atom. said_at origin atom ++ marks_below one) (atom_is one)

pub pair_marks :
    (name : List ℕ) (key_origin : Origin) (item : MarkedNode) →
    marks_in (record { key = name; key_origin = key_origin; item = item })
    ≡ mark key_origin (key name) ∷ marks_of item
unfolding marks_of marks_in
pair_marks name key_origin item = search (rules, the_lemmas)

abbrev pub opened_marks : Opened → Marks
opened_marks (Array items) = together (map marks_of items)
opened_marks (Object pairs) = together (map marks_in pairs)
opened_marks atom = []

seen_marks : (layer : Opened) → (layer_seen layer).marks ≡ opened_marks layer
seen_marks Null = refl
seen_marks (Truth truth) = refl
seen_marks (Number number) = refl
seen_marks (Version segments) = refl
seen_marks (Str text) = refl
seen_marks (Array items) = refl
seen_marks (Object pairs) = refl

pub layer_marks : (layer : Opened) → marks_below (roll-Value layer) ≡ opened_marks layer
layer_marks layer = ap (λ (seen : ValueMarks). seen.marks) (layer_is layer) ∙ seen_marks layer

-- ---- the atom of a value is the value

layer_value : (layer : Opened) → Has (λ one. one ≡ roll-Value layer) (atom_by layer)
layer_value Null = sym value.rolls-Null
layer_value (Truth truth) = sym (value.rolls-Bool truth)
layer_value (Number number) = sym (value.rolls-Number number)
layer_value (Version segments) = sym (value.rolls-Version segments)
layer_value (Str text) = sym (value.rolls-Str text)
layer_value (Array items) = tt
layer_value (Object pairs) = tt

pub atom_value : (one : Value) → Has (λ atom. atom ≡ one) (atom_of one)
atom_value one =
    subst (λ (value : Value). Has (λ atom. atom ≡ value) (atom_by (out-Value one))) (rolled one)
    (layer_value (out-Value one))

-- what converts to text is an atom
layer_text :
    (layer : Opened) (text : List ℕ) → text_of (roll-Value layer) ≡ Some text →
    atom_by layer ≡ Some (roll-Value layer)
layer_text Null text is = ap (λ one. Some one) (sym value.rolls-Null)
layer_text (Truth truth) text is = ap (λ one. Some one) (sym (value.rolls-Bool truth))
layer_text (Number number) text is = ap (λ one. Some one) (sym (value.rolls-Number number))
layer_text (Version segments) text is = ap (λ one. Some one) (sym (value.rolls-Version segments))
layer_text (Str bytes) text is = ap (λ one. Some one) (sym (value.rolls-Str bytes))
layer_text (Array items) text is =
    let none : text_of (roll-Value (Array items)) ≡ None = search (rules, the_lemmas) in
    absurd (cc)
layer_text (Object pairs) text is =
    let none : text_of (roll-Value (Object pairs)) ≡ None = search (rules, the_lemmas) in
    absurd (cc)

pub text_atom : (one : Value) (text : List ℕ) → text_of one ≡ Some text → atom_of one ≡ Some one
text_atom one text is =
    layer_text (out-Value one) text (ap text_of (rolled one) ∙ is)
    ∙ ap (λ value. Some value) (rolled one)

pub str_atom : (text : List ℕ) → atom_of (value.Str text) ≡ Some (value.Str text)
str_atom text = search (rules, the_lemmas)

pub array_atom : (items : List MarkedNode) → atom_of (value.Array items) ≡ None
array_atom items = ap atom_by (opened_array items)

pub object_atom : (pairs : List MarkedPair) → atom_of (value.Object pairs) ≡ None
object_atom pairs = ap atom_by (opened_object pairs)
