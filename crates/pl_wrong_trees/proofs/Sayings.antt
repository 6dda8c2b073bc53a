-- Texts that a place admits.
use Rattle.std.proofs.Common.{◌≡◌, inl, inr, ◌⊎◌, ℕ, Bool, true, false, Option, None, Some, List, []}
use Rattle.std.proofs.Common.{◌∷◌, refl, ap, sym, subst, ◌∙◌, rules}
use Rattle.std.specs.Prelude.{if◌then◌else◌}
use Rattle.std.specs.Option.{option_map}
use Rattle.pl_base.specs.declared.value.Value.{Value, Str, Array, out-Value, the_lemmas}
use Rattle.pl_base.specs.declared.value.Value as value
use Rattle.pl_base.specs.declared.value.Value.TheOpen as layer
use Rattle.pl_expr.specs.Conversions.{cast_text, text_of}
use Rattle.pl_expr.specs.Numerals.{number_in}
use Rattle.pl_literal.specs.Booleans.{boolean_in}
use Rattle.pl_literal.specs.Items.{Opened}
use Rattle.pl_literal.specs.declared.items.ItemKind.{ItemKind}
use Rattle.pl_literal.specs.declared.items.ItemKind.TheVariants as item
use Rattle.pl_params.specs.Kinds.{value_as, number_from, boolean_from, is_item, item_in, items_from}
use Rattle.pl_params.specs.declared.kind.ParamKind.{ParamKind}
use Rattle.pl_params.specs.declared.kind.ParamKind.TheVariants as kind
use Rattle.pl_eval_laws.specs.Marks.{Said, key, scalar, mark, marks_of}
use Rattle.pl_provenance.specs.Texts.{IsKey, IsWord, MaySay, IsSaid, value_said}
use Rattle.pl_wrong_trees.specs.Wrong.{IsPlainText, NoOtherText}
use Rattle.pl_wrong_trees.proofs.Members.{contained}

opened_text : (text : List ℕ) → out-Value (Str text) ≡ layer.Str text
opened_text text = search (rules, the_lemmas)

text_is : (text : List ℕ) → text_of (Str text) ≡ Some text
text_is text = search (rules, the_lemmas)

str_text : (text : List ℕ) → cast_text (Str text) ≡ text
str_text text = search (rules, the_lemmas)

list_text : cast_text (Array []) ≡ []
list_text = search (rules, the_lemmas)

same_text : (text other : List ℕ) → Str text ≡ Str other → text ≡ other
same_text text other is = sym (str_text text) ∙ (ap cast_text is ∙ str_text other)

some_is : {X : Type 0} (x y : X) → Some x ≡ Some y → y ≡ x
some_is x y is = let same : x ≡ y = cc in sym same

none_is : {X A : Type 0} (y : X) → None ≡ Some y → A
none_is y is = absurd (cc)

-- ---- what a parameter's type reads of a text: the text as it is, or the empty list

abbrev IsAsItIs : List ℕ → Value → Type 0
IsAsItIs text one = (one ≡ Str text) ⊎ (one ≡ Array [])

item_reads : (text : List ℕ) (of : ItemKind) (one : Value) → item_in of (Str text) ≡ Some one →
    IsAsItIs text one
item_reads text of one = by (is_item of (Str text))
  where
    by : (b : Bool) → (if b then Some (Str text) else None) ≡ Some one → IsAsItIs text one
    by true is = inl (some_is (Str text) one is)
    by false is = none_is one is

-- what is read of the text with its value opened
reads_by :
    {A : Type 0} (text : List ℕ) (reads : Opened → Option Value) (one : Value) →
    (reads (layer.Str text) ≡ Some one → A) → reads (out-Value (Str text)) ≡ Some one → A
reads_by text reads one follows is =
    follows (subst (λ (opened : Opened). reads opened ≡ Some one) (opened_text text) is)

string_reads : (text : List ℕ) (one : Value) → value_as kind.String (Str text) ≡ Some one →
    IsAsItIs text one
string_reads text one is =
    inl (some_is (Str text) one
    (subst (λ (found : Option (List ℕ)). option_map Str found ≡ Some one) (text_is text) is))

empty_list : (of : ItemKind) (one : Value) → items_from of (layer.Str []) ≡ Some one →
    IsAsItIs [] one
empty_list of one is = inr (some_is (Array []) one is)

empty_reads : (of : ParamKind) (one : Value) → value_as of (Str []) ≡ Some one → IsAsItIs [] one
empty_reads kind.String one is = string_reads [] one is
empty_reads kind.Number one is = reads_by [] number_from one (none_is one) is
empty_reads kind.Boolean one is = reads_by [] boolean_from one (none_is one) is
empty_reads kind.Object one is = inl (some_is (Str []) one is)
empty_reads kind.Step one is = item_reads [] item.Step one is
empty_reads kind.StepList one is =
    reads_by [] (items_from item.Step) one (empty_list item.Step one) is
empty_reads kind.Job one is = item_reads [] item.Job one is
empty_reads kind.JobList one is = reads_by [] (items_from item.Job) one (empty_list item.Job one) is
empty_reads kind.Deployment one is = item_reads [] item.Deployment one is
empty_reads kind.DeploymentList one is =
    reads_by [] (items_from item.Deployment) one (empty_list item.Deployment one) is
empty_reads kind.Stage one is = item_reads [] item.Stage one is
empty_reads kind.StageList one is =
    reads_by [] (items_from item.Stage) one (empty_list item.Stage one) is

module _ (byte : ℕ) (bytes : List ℕ)
    (no_number : number_in (byte ∷ bytes) ≡ None) (no_truth : boolean_in (byte ∷ bytes) ≡ None) where
  abbrev X : List ℕ
  X = byte ∷ bytes

  number_reads : (one : Value) → number_from (layer.Str X) ≡ Some one → IsAsItIs X one
  number_reads one is =
      none_is one
      (subst (λ (found : Option _). option_map value.Number found ≡ Some one) no_number is)

  truth_reads : (one : Value) → boolean_from (layer.Str X) ≡ Some one → IsAsItIs X one
  truth_reads one is =
      none_is one
      (subst (λ (found : Option Bool). option_map value.Bool found ≡ Some one) no_truth is)

  some_reads : (of : ParamKind) (one : Value) → value_as of (Str X) ≡ Some one → IsAsItIs X one
  some_reads kind.String one is = string_reads X one is
  some_reads kind.Number one is = reads_by X number_from one (number_reads one) is
  some_reads kind.Boolean one is = reads_by X boolean_from one (truth_reads one) is
  some_reads kind.Object one is = inl (some_is (Str X) one is)
  some_reads kind.Step one is = item_reads X item.Step one is
  some_reads kind.StepList one is = reads_by X (items_from item.Step) one (none_is one) is
  some_reads kind.Job one is = item_reads X item.Job one is
  some_reads kind.JobList one is = reads_by X (items_from item.Job) one (none_is one) is
  some_reads kind.Deployment one is = item_reads X item.Deployment one is
  some_reads kind.DeploymentList one is =
      reads_by X (items_from item.Deployment) one (none_is one) is
  some_reads kind.Stage one is = item_reads X item.Stage one is
  some_reads kind.StageList one is = reads_by X (items_from item.Stage) one (none_is one) is

abbrev ReadsAsItIs : List ℕ → Type 0
ReadsAsItIs text = (of : ParamKind) (one : Value) → value_as of (Str text) ≡ Some one →
    IsAsItIs text one

plain_reads : (text : List ℕ) → IsPlainText text → ReadsAsItIs text
plain_reads [] plain = absurd (plain.some refl)
plain_reads (byte ∷ bytes) plain = some_reads byte bytes plain.no_number plain.no_truth

-- ---- so nothing else is said there

module _ (text other : List ℕ) (reads : ReadsAsItIs text) (some : other ≡ [] → ⊥) where
  abbrev IsSame : Type 0
  IsSame = (other ≡ text) ⊎ IsWord other

  value_same : (one : Value) → one ≡ Str other → IsAsItIs text one → IsSame
  value_same one is (inl same) = inl (same_text other text (sym is ∙ same))
  value_same one is (inr empty) =
      absurd (some (sym (str_text other) ∙ (ap cast_text (sym is ∙ empty) ∙ list_text)))

  cast_same : (one : Value) → cast_text one ≡ other → IsAsItIs text one → IsSame
  cast_same one is (inl same) = inl (sym is ∙ (ap cast_text same ∙ str_text text))
  cast_same one is (inr empty) = absurd (some (sym is ∙ (ap cast_text empty ∙ list_text)))

  key_same : (name : List ℕ) → name ≡ other → IsKey (Str text) name → IsSame
  key_same name is (inl cast) =
      cast_same cast.one (cast.is ∙ is) (reads cast.read.of cast.one cast.read.is)
  key_same name is (inr word) = inr (subst IsWord is word)

  said_same : (said : Said) → value_said said ≡ Str other → MaySay (Str text) said → IsSame
  said_same (scalar one) is (inl read) = value_same one is (reads read.of one read.is)
  said_same (scalar one) is (inr named) =
      key_same named.name (same_text named.name other (sym named.is ∙ is)) named.key
  said_same (key name) is may = key_same name (same_text name other is) may

pub as_written : NoOtherText
as_written files home used arguments tree traced origin said told of_files text other plain only
    unlike some no_word is =
    let says =
    contained (IsSaid files) (marks_of tree) (mark origin said) traced.texts told of_files
    in by (value_said says.written) (only says.written says.stands) says.says
  where
    ends : (found : List ℕ) → ReadsAsItIs found → (other ≡ found → ⊥) → MaySay (Str found) said → ⊥
    ends found reads differs may = last (said_same found other reads some said is may)
      where
        last : (other ≡ found) ⊎ IsWord other → ⊥
        last (inl same) = differs same
        last (inr word) = no_word word

    by : (found : Value) → (found ≡ Str text) ⊎ (found ≡ Str []) → MaySay found said → ⊥
    by found (inl there) may =
        ends text (plain_reads text plain) unlike
        (subst (λ (one : Value). MaySay one said) there may)
    by found (inr empty) may =
        ends [] empty_reads some (subst (λ (one : Value). MaySay one said) empty may)
