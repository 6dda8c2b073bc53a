-- Scalars, keys and what keys ask for, in a frame.
use Rattle.std.proofs.Common.{◌≡◌, ℕ, Bool, true, false, Option, Some, None, List, [], refl, subst}
use Rattle.std.specs.Prelude.{IfOk, codes}
use Rattle.std.specs.List.{AllByRecursion as Each}
use Rattle.pl_base.specs.declared.origin.Origin.{Origin}
use Rattle.pl_base.specs.declared.place.Place.{Place}
use Rattle.pl_base.specs.declared.value.Value.{Value, Str, out-Value}
use Rattle.pl_base.specs.declared.value.Value.TheOpen as layer
use Rattle.pl_base.specs.declared.value.MarkedNode.{MarkedNode}
use Rattle.pl_base.specs.declared.value.MarkedPair.{MarkedPair}
use Rattle.pl_expr.specs.Conversions.{cast_text}
use Rattle.pl_eval.specs.LookUps.{made}
use Rattle.pl_frame.specs.declared.frame.Frame.{Frame}
use Rattle.pl_frame.specs.Names.{pair_object}
use Rattle.pl_frame.specs.Origins.{literal_at, made_at}
use Rattle.pl_frame.specs.Trees.{nodes_in}
use Rattle.pl_template.specs.Forms.{form_of}
use Rattle.pl_template.specs.declared.forms.ScalarForm.{ScalarForm}
use Rattle.pl_template.specs.declared.forms.ScalarForm.TheVariants.{Plain, Whole, Joined, Unclosed}
use Rattle.pl_template.specs.declared.forms.KeyForm.{KeyForm}
use Rattle.pl_template.specs.declared.forms.KeyForm.TheVariants as form
use Rattle.pl_template.specs.Keys.{key_form_of}
use Rattle.pl_directives.specs.declared.action.Action.{Action}
use Rattle.pl_directives.specs.declared.action.Action.TheVariants as action
use Rattle.pl_directives.specs.declared.keys.MadeKey.{MadeKey}
use Rattle.pl_directives.specs.declared.progress.Chain.{Chain}
use Rattle.pl_directives.specs.declared.progress.Chain.TheVariants.{Closed, Waiting, Taken}
use Rattle.pl_directives.specs.declared.progress.Counted.{Counted}
use Rattle.pl_directives.specs.declared.region.Region.{Region}
use Rattle.pl_directives.specs.Actions.{branch, if_asks, elseif_asks, else_asks, items_for}
use Rattle.pl_directives.specs.Actions.{each_asks, computed_asks, asks, key_asks}
use Rattle.pl_directives.specs.Counting.{counted, entered}
use Rattle.pl_directives.specs.Keys.{key_from, key_pieces_behind, key_by}
use Rattle.pl_directives.specs.Scalars.{value_at, truth_at, one_more, counted_value_at}
use Rattle.pl_directives.specs.Scalars.{pieces_behind, scalar_by, scalar_value}
use Rattle.pl_directives.specs.Strays.{given_stray, unless_stray, given_value}
use Rattle.pl_eval_laws.proofs.Leads.{Opened, head_of, atom_by, atom_of}
use Rattle.pl_eval_laws.specs.Marks.{key as key_said, scalar}
use Rattle.pl_eval_laws.proofs.Marks.{atom_value}
use Rattle.pl_eval_laws.proofs.Lists.{Has, each_map}
use Rattle.pl_eval_laws.proofs.Trees.{Asked, Told, Atom, node_told, pair_told}
use Rattle.pl_eval_laws.proofs.Trees.{NodeFrom, PairFrom, OpenedFrom, pair_from, text_node}
use Rattle.pl_eval_laws.proofs.Trees.{node_parts, pair_parts, value_parts, head_from, node_implies}
use Rattle.pl_eval_laws.proofs.Trees.{HeadOwn}
use Rattle.pl_origins.proofs.Frames.{Seen, SeenFrom, FrameFrom, literal_seen, made_seen}
use Rattle.pl_origins.proofs.Frames.{made_object, value_from, made_told, Keeps}
use Rattle.pl_origins.proofs.Nodes.{Site, Asks}
use Rattle.pl_origins.proofs.Plainly.{by_scalar, by_key, asks_unless, key_asks_unless}
use Rattle.pl_origins.proofs.Steps.{ok_then, any_then}

-- What stands in a frame's place: calls that it holds gave what isn't seen in the frame, but its
-- own origin is, and the one of its first value.
abbrev pub HeldFrom : Asked → Site → MarkedNode → Type 0
HeldFrom P R node =
    NodeFrom P P node
    × ((Seen P R).own node.origin × Has (HeadOwn (Seen P R)) (head_of node.value))

abbrev pub OneFrom : Asked → Site → Counted → Type 0
OneFrom P R one = HeldFrom P R one.node

-- a value that an expression gave there
abbrev pub SeenOne : Asked → Site → Counted → Type 0
SeenOne P R one = SeenFrom P R one.node

abbrev pub KeyFrom : Asked → Site → MadeKey → Type 0
KeyFrom P R made = (Seen P R).own made.origin × Told P made.origin (key_said made.key)

abbrev pub ActionFrom : Asked → Site → Action → Type 0
ActionFrom P R (action.Put key origin) = (Seen P R).own origin × Told P origin (key_said key)
ActionFrom P R (action.Run chain) = Unit {0}
ActionFrom P R (action.Pass chain) = Unit {0}
ActionFrom P R (action.Repeat loop count) = Each (SeenFrom P R) loop.items
ActionFrom P R action.Insert = Unit {0}

module _ (P : Asked) (R : Site) where
  pub seen_tree : (node : MarkedNode) → SeenFrom P R node → NodeFrom P P node
  seen_tree =
      node_implies (Seen P R) P P P (λ origin seen. seen.0) (λ origin is. is)
      (λ item path one calls. calls) (λ origin said told. told)

  pub seen_held : (node : MarkedNode) → SeenFrom P R node → HeldFrom P R node
  seen_held node all =
      let parts = node_parts (Seen P R) P node all in
      (seen_tree node all, (parts.0, head_from (Seen P R) P node.value parts.1))

  text_seen :
      (origin : Origin) (text : List ℕ) → (Seen P R).own origin →
      Told P origin (scalar (Str text)) → SeenFrom P R (made origin (Str text))
  text_seen origin text own told = text_node (Seen P R) P origin own text told

  pub text_held :
      (origin : Origin) (text : List ℕ) → (Seen P R).own origin →
      Told P origin (scalar (Str text)) → HeldFrom P R (made origin (Str text))
  text_held origin text own told =
      seen_held (made origin (Str text)) (text_seen origin text own told)

-- the text of an atom says what the atom does
cast_told :
    (P : Asked) (keeps : Keeps P.says) (origin : Origin) (one : Value) (atom : Option Value) →
    Has (λ atom. atom ≡ one) atom → Atom P origin atom →
    Has (λ atom. Told P origin (key_said (cast_text one))) atom
cast_told P keeps origin one None is told = tt
cast_told P keeps origin one (Some atom) is told =
    λ files. keeps.cast origin.source one
    (subst (λ (one : Value). P.says origin.source (scalar one)) is (told files))

module _ (P : Asked) (R : Site) (frame : Frame) (from : FrameFrom P R frame)
    (place : Place) (stands : R.at place) where
  -- `key` is another key than `template`
  no_template : codes "key" ≡ codes "template" → ⊥
  no_template is = absurd (cc)

  -- ---- scalars

  pub counted_value_from :
      Asks R place → (text : List ℕ) (count : ℕ) →
      IfOk (counted_value_at frame place text count) (SeenOne P R)
  counted_value_from asks text count =
      ok_then (SeenFrom P R) (SeenOne P R) (value_at frame place text) (one_more place count)
      (value_from P R frame from place stands asks text)
      (λ node all. any_then (SeenOne P R) (counted place (nodes_in node) count) _ (λ count. all))

  scalar_from :
      (form : ScalarForm) (text : List ℕ) → form_of text ≡ form → R.says place (scalar (Str text)) →
      (count : ℕ) → IfOk (scalar_by form text frame place count) (SeenOne P R)
  scalar_from Plain text is says count =
      text_seen P R (literal_at frame place) text (literal_seen P R frame from place stands)
      (λ files. from.reads.says place (scalar (Str text)) says)
  scalar_from (Whole inside) text is says count =
      counted_value_from (by_scalar R place text (asks_unless text (Whole inside) is tt) says)
      inside count
  scalar_from (Joined pieces) text is says count =
      any_then (SeenOne P R)
      (pieces_behind frame place pieces (record { text = []; count = count }))
      _ (λ joined. text_seen P R (made_at frame place) joined.text
      (made_seen P R frame from place stands)
      (made_told P frame place (scalar (Str joined.text))))
  scalar_from Unclosed text is says count = tt

  pub scalar_value_from :
      (text : List ℕ) → R.says place (scalar (Str text)) → (count : ℕ) →
      IfOk (scalar_value text frame place count) (SeenOne P R)
  scalar_value_from text says count =
      any_then (SeenOne P R) (entered place count) _ (scalar_from (form_of text) text refl says)

  pub given_value_from :
      (text : List ℕ) → R.says place (scalar (Str text)) → (count : ℕ) (region : Region)
      (called : Option Bool) →
      IfOk (given_value text frame place count region called) (SeenOne P R)
  given_value_from text says count region called =
      ok_then (SeenOne P R) (SeenOne P R) (scalar_value text frame place count) _
      (scalar_value_from text says count)
      (λ one seen. any_then (SeenOne P R)
      (unless_stray (given_stray region called (out-Value one.node.value))) _ (λ none. seen))

  -- ---- keys

  atom_key : (opened : Opened) (node : MarkedNode) → (Seen P R).own node.origin →
      Has (λ atom. Told P node.origin (key_said (cast_text node.value))) (atom_by opened) →
      IfOk (key_from opened place node) (KeyFrom P R)
  atom_key (layer.Array items) node own told = tt
  atom_key (layer.Object pairs) node own told = tt
  atom_key layer.Null node own told = (own, told)
  atom_key (layer.Bool truth) node own told = (own, told)
  atom_key (layer.Number number) node own told = (own, told)
  atom_key (layer.Version segments) node own told = (own, told)
  atom_key (layer.Str text) node own told = (own, told)

  pub key_by_from : (made : ScalarForm) → Asks R place →
      IfOk (key_by made frame place) (KeyFrom P R)
  key_by_from (Whole inside) asks =
      ok_then (SeenFrom P R) (KeyFrom P R) (value_at frame place inside) _
      (value_from P R frame from place stands asks inside)
      (λ node all. atom_key (out-Value node.value) node (node_parts (Seen P R) P node all).0
      (cast_told P from.reads.keeps node.origin node.value (atom_of node.value)
      (atom_value node.value) (node_told (Seen P R) P node all)))
  key_by_from (Joined pieces) asks =
      any_then (KeyFrom P R) (key_pieces_behind frame place pieces []) _
      (λ text. (made_seen P R frame from place stands, made_told P frame place (key_said text)))
  key_by_from Plain asks = tt
  key_by_from Unclosed asks = tt

  -- ---- what a key asks for

  branch_from : (truth : Bool) → ActionFrom P R (branch truth)
  branch_from true = tt
  branch_from false = tt

  if_from : (text : List ℕ) → IfOk (if_asks frame place text) (ActionFrom P R)
  if_from text =
      any_then (ActionFrom P R) (truth_at frame place text) _ branch_from

  elseif_from :
      (chain : Chain) (text : List ℕ) → IfOk (elseif_asks chain frame place text) (ActionFrom P R)
  elseif_from Closed text = tt
  elseif_from Waiting text = if_from text
  elseif_from Taken text = tt

  else_from : (chain : Chain) → IfOk (else_asks chain place) (ActionFrom P R)
  else_from Closed = tt
  else_from Waiting = tt
  else_from Taken = tt

  turn_of_pair :
      (pair : MarkedPair) → PairFrom (Seen P R) P pair → SeenFrom P R (pair_object frame place pair)
  turn_of_pair pair all =
      let own : (Seen P R).own (made_at frame place) = made_seen P R frame from place stands in
      let parts = pair_parts (Seen P R) P pair all in
      made_object P R frame from place stands _ (
        pair_from (Seen P R) P _ (made_at frame place) _ own
            (made_told P frame place (key_said (codes "key")))
            (text_seen P R pair.key_origin pair.key parts.0 (λ files. from.reads.keeps.text
            pair.key_origin.source pair.key (pair_told (Seen P R) P pair all files))),
        (
          pair_from (Seen P R) P _ (made_at frame place) pair.item own
              (made_told P frame place (key_said (codes "value"))) parts.1,
          tt,
        ),
      ) (λ is. absurd (no_template is))

  items_from :
      (opened : Opened) (name : List ℕ) (count : ℕ) → OpenedFrom (Seen P R) P opened →
      IfOk (items_for opened frame place name count) (ActionFrom P R)
  items_from (layer.Array items) name count all = all
  items_from (layer.Object pairs) name count all =
      each_map (PairFrom (Seen P R) P) (SeenFrom P R) (pair_object frame place) turn_of_pair pairs
      all
  items_from layer.Null name count all = tt
  items_from (layer.Bool truth) name count all = tt
  items_from (layer.Number number) name count all = tt
  items_from (layer.Version segments) name count all = tt
  items_from (layer.Str text) name count all = tt

  each_from :
      Asks R place → (name text : List ℕ) (count : ℕ) →
      IfOk (each_asks frame place name text count) (ActionFrom P R)
  each_from asks name text count =
      ok_then (SeenOne P R) (ActionFrom P R) (counted_value_at frame place text count) _
      (counted_value_from asks text count)
      (λ one all. items_from (out-Value one.node.value) name one.count
      (value_parts (Seen P R) P one.node.value (node_parts (Seen P R) P one.node all).1))

  computed_from : Asks R place → (made : ScalarForm) →
      IfOk (computed_asks made frame place) (ActionFrom P R)
  computed_from asks made =
      ok_then (KeyFrom P R) (ActionFrom P R) (key_by made frame place) _ (key_by_from made asks)
      (λ made own. own)

  asks_from :
      (asked : KeyForm) (key : List ℕ) → key_form_of key ≡ asked → R.says place (key_said key) →
      (chain : Chain) (count : ℕ) → IfOk (asks asked key frame place chain count) (ActionFrom P R)
  asks_from form.Plain key is says chain count = (
    literal_seen P R frame from place stands,
    λ files. from.reads.says place (key_said key) says,
  )
  asks_from (form.Computed made) key is says chain count =
      computed_from (by_key R place key (key_asks_unless key (form.Computed made) is tt) says) made
  asks_from (form.If text) key is says chain count = if_from text
  asks_from (form.ElseIf text) key is says chain count = elseif_from chain text
  asks_from form.Else key is says chain count = else_from chain
  asks_from (form.Each name text) key is says chain count =
      each_from
      (by_key R place key (key_asks_unless key (form.Each name text) is tt) says) name text
      count
  asks_from form.Insert key is says chain count = tt
  asks_from form.Bad key is says chain count = tt

  pub key_asks_from :
      (key : List ℕ) → R.says place (key_said key) → (chain : Chain) (count : ℕ) →
      IfOk (key_asks key frame place chain count) (ActionFrom P R)
  key_asks_from key says chain count = asks_from (key_form_of key) key refl says chain count
