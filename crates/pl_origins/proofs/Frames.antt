-- What an expression gives in a frame, where a predicate holds of all origins that the frame has.
use Rattle.std.proofs.Common.{◌≡◌, ℕ, Bool, true, false, cond, Option, Some, None, Result, Ok, Err}
use Rattle.std.proofs.Common.{List, [], ◌∷◌, ◌++◌, map, reverse, refl, sym, subst, ◌∙◌}
use Rattle.std.specs.Prelude.{IfOk, codes}
use Rattle.std.specs.FinMap as finite
use Rattle.std.specs.Ordering.{is_eq}
use Rattle.std.specs.List.{AllByRecursion as Each}
use Rattle.std.proofs.lemmas.Cmp.{nat_list_cmp_total}
use Rattle.std.proofs.lemmas.List.{reverse-append}
use Rattle.pl_base.specs.Files.{text_cmp}
use Rattle.pl_base.specs.Folding.{folded}
use Rattle.pl_base.specs.declared.origin.Crossing.{Crossing}
use Rattle.pl_base.specs.declared.origin.Crossing.TheVariants.{Made}
use Rattle.pl_base.specs.declared.origin.Origin.{Origin}
use Rattle.pl_base.specs.declared.place.Place.{Place}
use Rattle.pl_base.specs.declared.value.Value.{Value, Str, Object}
use Rattle.pl_base.specs.declared.value.MarkedNode.{MarkedNode}
use Rattle.pl_base.specs.declared.value.MarkedPair.{MarkedPair}
use Rattle.pl_expr.specs.Conversions.{cast_text}
use Rattle.pl_expr.specs.declared.expr.Expr.{Expr}
use Rattle.pl_expr.specs.declared.expr.Mode.TheVariants.{Compile}
use Rattle.pl_expr.specs.Grammar.{Fault, parses}
use Rattle.pl_expr.proofs.Sound.{parses_given}
use Rattle.pl_eval.specs.Known.{root_of}
use Rattle.pl_eval.specs.LookUps.{made}
use Rattle.pl_eval.specs.Means.{Meaning, means}
use Rattle.pl_frame.specs.declared.frame.Frame.{Frame}
use Rattle.pl_frame.specs.declared.frame.Loop.{Loop}
use Rattle.pl_frame.specs.declared.frame.Parameter.{Parameter}
use Rattle.pl_frame.specs.declared.frame.Variable.{Variable}
use Rattle.pl_frame.specs.Expressions.{defined, meant_by}
use Rattle.pl_frame.specs.Names.{taken, parameter_pair, parameters_at, variable_pair, variables_at}
use Rattle.pl_frame.specs.Names.{loop_entry, contexts_at, roots_at, known_at, within}
use Rattle.pl_frame.specs.Origins.{literal_at, made_at, across}
use Rattle.pl_params.specs.declared.kind.ParamKind.{ParamKind}
use Rattle.pl_params.specs.Kinds.{value_as}
use Rattle.pl_directives.specs.Scalars.{told_at, value_at}
use Rattle.pl_eval_laws.specs.Marks.{Said, key as key_said, scalar, IsOfFiles}
use Rattle.pl_eval_laws.proofs.Lists.{Has, each_append, each_back, each_front, each_map, each_of}
use Rattle.pl_eval_laws.proofs.Lists.{each_one}
use Rattle.pl_eval_laws.proofs.Leads.{Head, head_in}
use Rattle.pl_eval_laws.proofs.Trees.{Asked, Told, Marked, Begun, Calling}
use Rattle.pl_eval_laws.proofs.Trees.{NodeFrom, PairFrom, Any, pair_from, object_node, led_from}
use Rattle.pl_eval_laws.proofs.Trees.{first_from, nothing_led}
use Rattle.pl_eval_laws.proofs.Evaluated.{evaluated}
use Rattle.pl_origins.proofs.Moved.{all_moved_from}
use Rattle.pl_origins.proofs.Nodes.{Site, Asks}

-- What is seen in a frame has P itself, and so has a call that stands in the frame's file and whose
-- path it is. R holds of the places of that file that are spoken of.
abbrev pub Seen : Asked → Site → Asked
Seen P R = record {
  own =
      λ origin. P.own origin
      × ((place : Place) → R.at place →
      P.own (record { source = place; crossings = origin.crossings }));
  says = P.says;
  calls = P.calls;
}

-- a tree that is seen in a frame: calls in it have P
abbrev pub SeenFrom : Asked → Site → MarkedNode → Type 0
SeenFrom P R node = NodeFrom (Seen P R) P node

-- What a place says: its text as a key and the text of its key, and where a variable is written as
-- a pair the two keys of the item that it becomes.
pub record Keeps (says : Place → Said → Type 0) : Type 0 where
  pub cast : (place : Place) (one : Value) → says place (scalar one) →
      says place (key_said (cast_text one))
  pub text : (place : Place) (name : List ℕ) → says place (key_said name) →
      says place (scalar (Str name))
  pub name : (place : Place) (name : List ℕ) → says place (key_said name) →
      says place (key_said (codes "name"))
  pub value : (place : Place) (name : List ℕ) → says place (key_said name) →
      says place (key_said (codes "value"))

-- What the file of a frame says is what is asked, as it stands there or as a parameter's type reads
-- it of a default. An item calls there that begins with `template`, and one that an expression
-- gives.
pub record Reads (R : Site) (P : Asked) : Type 0 where
  pub says : (place : Place) (said : Said) → R.says place said → P.says place said
  pub default :
      (place : Place) (of : ParamKind) (before after : Value) → R.says place (scalar before) →
      value_as of before ≡ Some after → P.says place (scalar after)
  pub calls :
      (at from : Place) (text : List ℕ) →
      R.begins at (record { key = codes "template"; place = from; text = text }) →
      P.calls at from (Str text)
  pub asked : (at from : Place) (one : Value) → Asks R at → P.calls at from one
  pub keeps : Keeps P.says

-- a parameter: where it is declared, its name there, and what an expression takes of it
abbrev pub ParameterFrom : Asked → Site → Parameter → Type 0
ParameterFrom P R parameter =
    (R.at parameter.place × P.says parameter.place (key_said parameter.name))
    × ((place : Place) → R.at place → SeenFrom P R (taken place parameter))

pub record FrameFrom (P : Asked) (R : Site) (frame : Frame) : Type 0 where
  pub literal : (place : Place) → R.at place → P.own (literal_at frame place)
  pub made : (place : Place) → R.at place → P.own (made_at frame place)
  pub reads : Reads R P
  pub parameters : Each (ParameterFrom P R) frame.parameters
  pub loops : Each (λ (one : Loop). SeenFrom P R one.item) frame.loops

-- ---- what is said across one more border, and what an expression or an argument gave

pub across_told :
    (P : Asked) (crossing : Crossing) (origin : Origin) (said : Said) → Told P origin said →
    Told P (across crossing origin) said
across_told P crossing origin said told files =
    told (each_front IsOfFiles origin.crossings (crossing ∷ []) files)

-- behind a border that isn't one between files nothing is told
pub none_told :
    (P : Asked) (crossings : List Crossing) (crossing : Crossing) (place : Place) (said : Said) →
    (IsOfFiles crossing → ⊥) →
    Told P (record { source = place; crossings = crossings ++ crossing ∷ [] }) said
none_told P crossings crossing place said none files =
    absurd (none (each_back IsOfFiles crossings (crossing ∷ []) files).0)

-- nor is a call whose path comes from there
pub none_calling :
    (P : Asked) (item at : Origin) (crossings : List Crossing) (crossing : Crossing) (one : Value) →
    (IsOfFiles crossing → ⊥) →
    Calling P item (record { source = at.source; crossings = crossings ++ crossing ∷ [] }) one
none_calling P item at crossings crossing one none files =
    absurd (none (each_back IsOfFiles crossings (crossing ∷ []) files).0)

pub made_told :
    (P : Asked) (frame : Frame) (place : Place) (said : Said) → Told P (made_at frame place) said
made_told P frame place said = none_told P frame.crossings Made place said (λ none. none)

each_reversed : {X : Type 0} (P : X → Type 0) (xs : List X) → Each P xs → Each P (reverse xs)
each_reversed P [] all = tt
each_reversed P (x ∷ xs) all =
    subst (Each P) (sym (reverse-append (x ∷ []) xs))
    (each_append P (reverse xs) (x ∷ []) (each_reversed P xs all.1) (each_one P x all.0))

abbrev Named : Type 0
Named = List ℕ × MarkedNode

found_by :
    (P : MarkedNode → Type 0) (name : List ℕ) (entries : List Named) →
    Each (λ (entry : Named). P entry.1) entries → Has P (finite.find text_cmp name entries)
found_by P name [] all = tt
found_by P name (entry ∷ entries) all =
    by (is_eq (text_cmp name entry.0)) (found_by P name entries all.1)
  where
    by : (b : Bool) → Has P (finite.find text_cmp name entries) →
        Has P (cond b (Some entry.1) (finite.find text_cmp name entries))
    by true later = all.0
    by false later = later

has_some :
    {X : Type 0} (P : X → Type 0) (found : Option X) (x : X) → Has P found → found ≡ Some x → P x
has_some P found x has is = subst (Has P) is has

-- of a tree that is made anew nothing is asked
pub anything : (node : MarkedNode) → NodeFrom Any Any node
unfolding NodeFrom
anything node = (
  each_of Any.own (λ origin. tt) _,
  (nothing_led _, each_of (Marked Any) (λ one files. tt) _),
)

module _ (P : Asked) (R : Site) (frame : Frame) (from : FrameFrom P R frame)
  where
    pub turn_from : (name : List ℕ) (item : MarkedNode) → SeenFrom P R item →
        FrameFrom P R (within frame name item)
    turn_from name item from_item = record {
      literal = from.literal;
      made = from.made;
      reads = from.reads;
      parameters = from.parameters;
      loops =
          each_append (λ (one : Loop). SeenFrom P R one.item) frame.loops _ from.loops
          (each_one (λ (one : Loop). SeenFrom P R one.item) (record { name = name; item = item })
          from_item);
    }

    module _ (place : Place) (stands : R.at place) where
      pub literal_seen : (Seen P R).own (literal_at frame place)
      literal_seen = (from.literal place stands, from.literal)

      pub made_seen : (Seen P R).own (made_at frame place)
      made_seen = (from.made place stands, from.made)

      -- a mapping that is made there
      pub made_object :
          (pairs : List MarkedPair) → Each (PairFrom (Seen P R) P) pairs →
          Has (Begun P (made_at frame place)) (head_in pairs) →
          SeenFrom P R (made (made_at frame place) (Object pairs))
      made_object pairs all begun =
          object_node (Seen P R) P (made_at frame place) made_seen pairs all
          (led_from (Seen P R) P (made_at frame place) (λ path seen. seen.1 place stands)
          (head_in pairs) (first_from (Seen P R) P pairs all) begun)

      parameter_from :
          (parameter : Parameter) → ParameterFrom P R parameter →
          PairFrom (Seen P R) P (parameter_pair frame place parameter)
      parameter_from parameter all =
          pair_from (Seen P R) P parameter.name (literal_at frame parameter.place)
          (taken place parameter) (from.literal parameter.place all.0.0, from.literal)
          (λ files. all.0.1) (all.1 place stands)

      variable_from : (one : Variable) → PairFrom (Seen P R) P (variable_pair frame place one)
      variable_from one =
          pair_from (Seen P R) P one.name (made_at frame place) _ made_seen
          (made_told P frame place (key_said one.name))
          (all_moved_from Any (Seen P R) Any P (λ _. made_at frame place) (λ _ _. made_seen)
          (λ _ _. made_seen.0) (λ _ _. refl)
          (λ item path one _ _. none_calling P (made_at frame place) (made_at frame place)
          frame.crossings Made one (λ none. none))
          (λ _ said _ _. made_told P frame place said)
          (made_at frame place) one.value
          (anything (made (made_at frame place) one.value)))

      each_variable_from :
          (variables : List Variable) →
          Each (PairFrom (Seen P R) P) (map (variable_pair frame place) variables)
      each_variable_from [] = tt
      each_variable_from (one ∷ variables) = (variable_from one, each_variable_from variables)

    -- where an expression stands
    module _ (place : Place) (stands : R.at place) (asks : Asks R place) where
      -- of a mapping that it makes there nothing more is asked
      given_there : (path : Origin) (atom : Option Value) →
          Has (Calling P (made_at frame place) path) atom
      given_there path None = tt
      given_there path (Some one) = λ files. from.reads.asked place path.source one asks

      asked_there : (head : Option Head) → Has (Begun P (made_at frame place)) head
      asked_there None = tt
      asked_there (Some head) = λ is. given_there head.path head.atom

      parameters_from : SeenFrom P R (parameters_at frame place)
      parameters_from =
          made_object place stands _ (each_map (ParameterFrom P R) (PairFrom (Seen P R) P)
          (parameter_pair frame place) (parameter_from place stands) frame.parameters
          from.parameters) (asked_there _)

      variables_from : SeenFrom P R (variables_at frame place)
      variables_from =
          made_object place stands _ (each_variable_from place stands frame.variables)
          (asked_there _)

      abbrev EntryFrom : Named → Type 0
      EntryFrom entry = SeenFrom P R entry.1

      roots_from : Each EntryFrom (roots_at frame place)
      roots_from =
          each_append EntryFrom (map loop_entry (reverse frame.loops)) (contexts_at frame place)
          (each_map (λ (one : Loop). SeenFrom P R one.item) EntryFrom loop_entry (λ one all. all)
          (reverse frame.loops)
          (each_reversed (λ (one : Loop). SeenFrom P R one.item) frame.loops from.loops))
          (parameters_from, (variables_from, tt))

      known_from :
          (name : List ℕ) (root : MarkedNode) → root_of (known_at frame place) name ≡ Some root →
          SeenFrom P R root
      known_from name root is =
          has_some (SeenFrom P R) (finite.find text_cmp (folded name) (roots_at frame place)) root
          (found_by (SeenFrom P R) (folded name) (roots_at frame place) roots_from)
          (sym (finite.get-from_entries nat_list_cmp_total (roots_at frame place) (folded name))
          ∙ is)

      told_from :
          (meaning : Meaning) → IfOk meaning (SeenFrom P R) →
          IfOk (told_at place (defined meaning)) (SeenFrom P R)
      told_from (Ok node) all = all
      told_from (Err code) all = tt

      meant_from :
          (text : List ℕ) (read : Result Expr Fault) → parses Compile text ≡ read →
          IfOk (told_at place (meant_by frame place read)) (SeenFrom P R)
      meant_from text (Ok expr) is =
          told_from (means (known_at frame place) (made_at frame place) expr)
          (evaluated (Seen P R) P (made_at frame place) (made_seen place stands)
          (made_told P frame place)
          (known_at frame place) known_from Compile 50 expr (parses_given Compile text expr is))
      meant_from text (Err fault) is = tt

      -- the value of an expression in the scalar or key there
      pub value_from : (text : List ℕ) → IfOk (value_at frame place text) (SeenFrom P R)
      value_from text = meant_from text (parses Compile text) refl
