-- What a file's node gives in a frame.
use Rattle.std.proofs.Common.{◌≡◌, ℕ, Bool, true, false, None, Ok, Err, List, []}
use Rattle.std.proofs.Common.{◌∷◌, map, refl, sym, subst, rules}
use Rattle.std.specs.Prelude.{IfOk}
use Rattle.std.specs.List.{AllByRecursion as Each}
use Rattle.pl_base.specs.declared.place.FileKey.{FileKey}
use Rattle.pl_base.specs.declared.place.Place.{Place}
use Rattle.pl_base.specs.declared.node.Node.{Node}
use Rattle.pl_base.specs.declared.node.NodeBody.{NodeBody, out-NodeBody, roll-NodeBody, the_lemmas}
use Rattle.pl_base.specs.declared.node.NodePair.{NodePair}
use Rattle.pl_base.specs.declared.node.NodeBody.TheOpen.{Scalar, Seq, Map}
use Rattle.pl_base.specs.declared.value.Value.{Str, the_lemmas as the_values}
use Rattle.pl_base.specs.declared.value.MarkedNode.{MarkedNode}
use Rattle.pl_expr.specs.Conversions.{cast_text}
use Rattle.pl_frame.specs.declared.frame.Frame.{Frame}
use Rattle.pl_frame.specs.Names.{within}
use Rattle.pl_frame.specs.Origins.{literal_at}
use Rattle.pl_template.specs.Forms.{form_of}
use Rattle.pl_template.specs.declared.forms.ScalarForm.{ScalarForm}
use Rattle.pl_template.specs.declared.forms.ScalarForm.TheVariants.{Plain, Whole, Joined, Unclosed}
use Rattle.pl_directives.specs.declared.action.Action.{Action}
use Rattle.pl_directives.specs.declared.action.Action.TheVariants as action
use Rattle.pl_directives.specs.declared.fault.ExpandProblem.{ExpandProblem}
use Rattle.pl_directives.specs.declared.fault.ExpandProblem.TheVariants.{WrongKind, InsertNoMapping}
use Rattle.pl_directives.specs.declared.manner.Kind.{Kind}
use Rattle.pl_directives.specs.declared.manner.Kind.TheVariants as kind
use Rattle.pl_directives.specs.declared.manner.Manner.{Manner}
use Rattle.pl_directives.specs.declared.manner.Manner.TheVariants.{Empty, Stays, Splices, Mixed}
use Rattle.pl_directives.specs.declared.manner.Manner.TheVariants.{Unclosed}
use Rattle.pl_directives.specs.declared.progress.Chain.{Chain}
use Rattle.pl_directives.specs.declared.progress.Chain.TheVariants.{Closed}
use Rattle.pl_directives.specs.declared.progress.Progress.{Progress}
use Rattle.pl_directives.specs.declared.region.Region.{Region}
use Rattle.pl_directives.specs.Actions.{key_asks}
use Rattle.pl_directives.specs.Contents.{with_chain, with_count, begun, as_items, as_pairs}
use Rattle.pl_directives.specs.Contents.{finished, absorbed}
use Rattle.pl_directives.specs.Counting.{entered}
use Rattle.pl_directives.specs.Manners.{manner_of}
use Rattle.pl_directives.specs.Regions.{under, inside, of_item, is_path}
use Rattle.pl_directives.specs.Scalars.{scalar_value}
use Rattle.pl_directives.specs.Strays.{told, key_stray, unless_stray, given_value}
use Rattle.pl_recursion.specs.Expanding.{Filling, Shape, Part, Entry, scalar, sequence, mapping}
use Rattle.pl_recursion.specs.Expanding.{collected, value_by, body_by, body, turns, path_by, done}
use Rattle.pl_recursion.specs.Expanding.{value_under, pair_behind, pairs_behind, mapping_behind}
use Rattle.pl_recursion.specs.Expanding.{item_by, item_behind, items_behind}
use Rattle.pl_recursion.specs.Expanding.{facet_of, part_of, shape_of, entry_of, expanded}
use Rattle.pl_recursion.specs.Following.{Follow, scope_of}
use Rattle.pl_recursion.specs.Scalars.{scalar_at, path_at}
use Rattle.pl_recursion.specs.Scalars.{path_by as path_text_by}
use Rattle.pl_recursion.specs.Settling.{node_settling}
use Rattle.pl_directives.specs.declared.progress.Counted.{Counted}
use Rattle.pl_recursion.specs.Below.pl_calls.specs.Parts.{Body}
use Rattle.pl_eval_laws.specs.Marks.{key as key_said, scalar as scalar_said}
use Rattle.pl_eval_laws.proofs.Lists.{Has}
use Rattle.pl_eval_laws.proofs.Trees.{Asked, Told, HeadOwn, pair_from}
use Rattle.pl_origins.proofs.Beginnings.{MappingHeaded, SequenceHeaded, pairs_headed}
use Rattle.pl_origins.proofs.Beginnings.{sequence_headed}
use Rattle.pl_origins.proofs.Contents.{Headed, ProgressFrom, nothing_from, as_items_from}
use Rattle.pl_origins.proofs.Contents.{as_pairs_from, put_pair_from, finished_from, absorbed_from}
use Rattle.pl_origins.proofs.Following.{FollowFrom, add_item_gives, splice_gives, spread_gives}
use Rattle.pl_origins.proofs.Following.{KeptFrom, settling_gives}
use Rattle.pl_origins.proofs.Frames.{Seen, SeenFrom, Reads, FrameFrom, turn_from, literal_seen}
use Rattle.pl_origins.proofs.Induction.{BodyParts, written_induction}
use Rattle.pl_origins.proofs.Nodes.{Site, NodeIn, PairIn, BodyIn, node_in, node_says, pair_in}
use Rattle.pl_origins.proofs.Nodes.{pair_says, said_in, Stood}
use Rattle.pl_origins.proofs.Plainly.{by_scalar, asks_unless}
use Rattle.pl_origins.proofs.Scalars.{OneFrom, KeyFrom, ActionFrom, scalar_value_from}
use Rattle.pl_origins.proofs.Scalars.{given_value_from, key_by_from, key_asks_from, SeenOne}
use Rattle.pl_origins.proofs.Scalars.{seen_tree}
use Rattle.pl_origins.proofs.Scalars.{seen_held, text_held}
use Rattle.pl_origins.proofs.Steps.{Used, Gives, ok_then, any_then, given, implied, done_gives}
use Rattle.pl_origins.proofs.Steps.{alone_gives}
use Rattle.pl_origins.proofs.Steps.{plain_then, first_then, used_then}

-- ---- the path of a call

module _ (P : Asked) (R : Site) (frame : Frame) (from : FrameFrom P R frame)
    (place : Place) (stands : R.at place) where
  -- the text of a text is that text
  str_text : (text : List ℕ) → cast_text (Str text) ≡ text
  str_text text = search (rules, the_values)

  plain_told : (text : List ℕ) → R.says place (scalar_said (Str text)) →
      Told P (literal_at frame place) (key_said text)
  plain_told text says files =
      subst (λ (name : List ℕ). P.says place (key_said name)) (str_text text)
      (from.reads.keeps.cast place (Str text)
      (from.reads.says place (scalar_said (Str text)) says))

  path_text_from :
      (form : ScalarForm) (text : List ℕ) → form_of text ≡ form →
      R.says place (scalar_said (Str text)) →
      IfOk (path_text_by form text frame place) (KeyFrom P R)
  path_text_from Plain text is says =
      (literal_seen P R frame from place stands, plain_told text says)
  path_text_from (Whole inside) text is says =
      key_by_from P R frame from place stands (Whole inside)
      (by_scalar R place text (asks_unless text (Whole inside) is tt) says)
  path_text_from (Joined pieces) text is says =
      key_by_from P R frame from place stands (Joined pieces)
      (by_scalar R place text (asks_unless text (Joined pieces) is tt) says)
  path_text_from Unclosed text is says = tt

  path_at_from :
      (text : List ℕ) → R.says place (scalar_said (Str text)) → (count : ℕ) →
      IfOk (path_at text frame place count) (OneFrom P R)
  path_at_from text says count =
      any_then (OneFrom P R) (entered place count) _
      (λ count. ok_then (KeyFrom P R) (OneFrom P R) (path_text_by (form_of text) text frame place) _
      (path_text_from (form_of text) text refl says)
      (λ path own. text_held P R path.origin path.key own.0
      (λ files. from.reads.keeps.text path.origin.source path.key (own.1 files))))

-- what a node of that shape says where it stands
abbrev pub ShapeSays : Asked → Site → Place → Shape → Type 0
ShapeSays P R place (scalar text) = R.says place (scalar_said (Str text))
ShapeSays P R place (sequence fill) = SequenceHeaded P fill
ShapeSays P R place (mapping manner fill) =
    (reads : Reads R P) → MappingHeaded P R reads place fill

abbrev pub StandsAs : Asked → Site → Place → Shape → Type 0
StandsAs P R place shape = R.at place × ShapeSays P R place shape

module _ (P : Asked) (R : Site) (frame : Frame) (from : FrameFrom P R frame)
    (place : Place) where
  pub path_from :
      (shape : Shape) → StandsAs P R place shape → (count : ℕ) →
      IfOk (path_by shape place frame count) (OneFrom P R)
  path_from (scalar text) stands count =
      path_at_from P R frame from place stands.0 text stands.1 count
  path_from (sequence fill) stands count =
      any_then (OneFrom P R) (entered place count) _ (λ count. tt)
  path_from (mapping manner fill) stands count =
      any_then (OneFrom P R) (entered place count) _ (λ count. tt)

kept_held :
    (P : Asked) (R : Site) (node : MarkedNode) (one : Counted) →
    SeenFrom P R node → KeptFrom P node one → OneFrom P R one
kept_held P R node one all kept =
    let held = seen_held P R node all in (
      kept.0,
      (
        subst (Seen P R).own (sym kept.1.0) held.1.0,
        subst (Has (HeadOwn (Seen P R))) (sym kept.1.1.0) held.1.1,
      ),
    )

-- with what holds whatever is asked
with_ok :
    {X : Type 0} (U : List FileKey → Type 0) (Q S : X → Type 0) (H : Type 0) (used : List FileKey)
    (step : Used X) → Gives U H used step Q → (H → IfOk step (λ both. S both.0)) →
    Gives U H used step (λ x. Q x × S x)
with_ok U Q S H used (Ok both) gives more =
    (gives.0, λ ends h. (gives.1 ends h, more h))
with_ok U Q S H used (Err fault) gives more = tt

module _ (P : Asked) (R : Site) (U : List FileKey → Type 0) where
  abbrev pub Held : Type 0 → Frame → Progress → Type 0
  Held H frame progress = (H → FrameFrom P R frame) × (H → ProgressFrom P R progress)

  -- what a filling puts behind what is there
  abbrev pub FillingFrom : Filling → Type 0
  FillingFrom fill =
      (follow : Follow) (frame : Frame) (region : Region) (progress : Progress)
      (used : List FileKey) → FollowFrom P U follow →
      Gives U (FrameFrom P R frame × ProgressFrom P R progress) used
      (fill (scope_of follow frame region) progress used) (ProgressFrom P R)

  abbrev pub ShapeFrom : Shape → Type 0
  ShapeFrom (scalar text) = Unit {0}
  ShapeFrom (sequence fill) = FillingFrom fill
  ShapeFrom (mapping manner fill) = FillingFrom fill

  abbrev pub PartFrom : Part → Type 0
  PartFrom part = StandsAs P R part.place part.shape × ShapeFrom part.shape

  abbrev pub EntryFrom : Entry → Type 0
  EntryFrom entry =
      (R.at entry.key_place × R.says entry.key_place (key_said entry.key)) × PartFrom entry.part

  module _ (follow : Follow) (follows : FollowFrom P U follow) where
    filled :
        (fill : Filling) → FillingFrom fill → (H : Type 0) (frame : Frame) (region : Region)
        (progress : Progress) (used : List FileKey) → (H → FrameFrom P R frame) →
        (H → ProgressFrom P R progress) →
        Gives U H used (fill (scope_of follow frame region) progress used) (ProgressFrom P R)
    filled fill fills H frame region progress used from all =
        given U (ProgressFrom P R) (FrameFrom P R frame × ProgressFrom P R progress) H used
        (fill (scope_of follow frame region) progress used) (λ h. (from h, all h))
        (fills follow frame region progress used follows)

    -- ---- scalars

    pub settled_gives :
        (one : Counted) (H : Type 0) (frame : Frame) (region : Region) (used : List FileKey) →
        (H → SeenOne P R one) →
        Gives U H used (node_settling one.node (scope_of follow frame region) one.count used)
        (OneFrom P R)
    settled_gives one H frame region used seen =
        implied U (KeptFrom P one.node) (OneFrom P R) H used
        (node_settling one.node (scope_of follow frame region) one.count used)
        (λ after h kept. kept_held P R one.node after (seen h) kept)
        (settling_gives P U H one.node follow frame region one.count used follows
        (λ h. seen_tree P R one.node (seen h)))

    scalar_gives :
        (text : List ℕ) (H : Type 0) (frame : Frame) (region : Region) (place : Place) (count : ℕ)
        (used : List FileKey) → StandsAs P R place (scalar text) → (H → FrameFrom P R frame) →
        Gives U H used (scalar_at text (scope_of follow frame region) place count used)
        (OneFrom P R)
    scalar_gives text H frame region place count used stands from =
        first_then U (SeenOne P R) (OneFrom P R) H used (scalar_value text frame place count) _
        (λ h. scalar_value_from P R frame (from h) place stands.0 text stands.1 count)
        (λ one. settled_gives one (H × SeenOne P R one) frame region used (λ h. h.1))

    -- ---- a node as a value

    -- a collection that stands in the file
    abbrev HeadedFrom : Frame → Place → Progress → Type 0
    HeadedFrom frame place inner =
        ProgressFrom P R inner × Headed P (literal_at frame place) inner.content

    begun_filled :
        (of : Kind) (chain : Chain) (fill : Filling) → FillingFrom fill → (H : Type 0)
        (place : Place) (frame : Frame) (region : Region) (count : ℕ) (used : List FileKey) →
        (H → FrameFrom P R frame) →
        (H → IfOk (fill (scope_of follow frame region) (begun of chain count) used)
        (λ both. Headed P (literal_at frame place) both.0.content)) →
        Gives U H used (fill (scope_of follow frame region) (begun of chain count) used)
        (HeadedFrom frame place)
    begun_filled of chain fill fills H place frame region count used from heads =
        with_ok U (ProgressFrom P R)
        (λ (inner : Progress). Headed P (literal_at frame place) inner.content) H used
        (fill (scope_of follow frame region) (begun of chain count) used)
        (filled fill fills H frame region (begun of chain count) used from
        (λ h. nothing_from P R of)) heads

    collected_gives :
        (of : Kind) (fill : Filling) → FillingFrom fill → (H : Type 0) (place : Place)
        (frame : Frame) (region : Region) (count : ℕ) (used : List FileKey) → R.at place →
        (H → FrameFrom P R frame) →
        (H → (count : ℕ) → IfOk (fill (scope_of follow frame region) (begun of Closed count) used)
        (λ both. Headed P (literal_at frame place) both.0.content)) →
        Gives U H used (collected of fill place (scope_of follow frame region) count used)
        (OneFrom P R)
    collected_gives of fill fills H place frame region count used stands from heads =
        plain_then U (OneFrom P R) H used (entered place count) _
        (λ count. used_then U (HeadedFrom frame place) (OneFrom P R) H used
        (fill (scope_of follow frame region) (begun of Closed count) used) _
        (begun_filled of Closed fill fills H place frame region count used from
        (λ h. heads h count))
        (λ inner later. alone_gives U (OneFrom P R) (H × HeadedFrom frame place inner) later
        (finished (literal_at frame place) inner)
        (λ h. finished_from P R (literal_at frame place)
        (literal_seen P R frame (from h.0) place stands) stands inner h.1.0 h.1.1)))

    pub value_gives :
        (shape : Shape) → ShapeFrom shape → (H : Type 0) (place : Place) (frame : Frame)
        (region : Region) (count : ℕ) (used : List FileKey) → StandsAs P R place shape →
        (H → FrameFrom P R frame) →
        Gives U H used (value_by shape place (scope_of follow frame region) count used)
        (OneFrom P R)
    value_gives (scalar text) fills H place frame region count used stands from =
        scalar_gives text H frame region place count used stands from
    value_gives (sequence fill) fills H place frame region count used stands from =
        collected_gives kind.Items fill fills H place frame region count used stands.0 from
        (λ h count. stands.1 Closed count (scope_of follow frame region) used
        (literal_at frame place))
    value_gives (mapping manner fill) fills H place frame region count used stands from =
        collected_gives kind.Pairs fill fills H place frame region count used stands.0 from
        (λ h count. stands.1 (from h).reads kind.Pairs Closed count (scope_of follow frame region)
        used)

    -- ---- a node in a directive's place

    body_by_gives :
        (shape : Shape) → ShapeFrom shape → (H : Type 0) (place : Place) (problem : ExpandProblem)
        (frame : Frame) (region : Region) (progress : Progress) (used : List FileKey) →
        StandsAs P R place shape → (H → FrameFrom P R frame) → (H → ProgressFrom P R progress) →
        Gives U H used (body_by shape place problem (scope_of follow frame region) progress used)
        (ProgressFrom P R)
    body_by_gives (scalar text) fills H place problem frame region progress used stands from all =
        first_then U (SeenOne P R) (ProgressFrom P R) H used
        (given_value text frame place progress.count region (told progress.content)) _
        (λ h. given_value_from P R frame (from h) place stands.0 text stands.1 progress.count
        region (told progress.content))
        (λ given. used_then U (OneFrom P R) (ProgressFrom P R) (H × SeenOne P R given) used
        (node_settling given.node (scope_of follow frame region) given.count used) _
        (settled_gives given (H × SeenOne P R given) frame region used (λ h. h.1))
        (λ one later. alone_gives U (ProgressFrom P R) ((H × SeenOne P R given) × OneFrom P R one)
        later (absorbed one.node problem place (with_count one.count progress))
        (λ h. absorbed_from P R one.node problem place (with_count one.count progress) h.1
        (all h.0.0))))
    body_by_gives (sequence fill) fills H place problem frame region progress used stands from
        all =
        plain_then U (ProgressFrom P R) H used (entered place progress.count) _
        (λ count. first_then U (ProgressFrom P R) (ProgressFrom P R) H used
        (as_items problem place (with_count count progress)) _
        (λ h. as_items_from P R problem place (with_count count progress) (all h))
        (λ begun. filled fill fills (H × ProgressFrom P R begun) frame region begun used
        (λ h. from h.0) (λ h. h.1)))
    body_by_gives (mapping manner fill) fills H place problem frame region progress used stands
        from all =
        plain_then U (ProgressFrom P R) H used (entered place progress.count) _
        (λ count. first_then U (ProgressFrom P R) (ProgressFrom P R) H used
        (as_pairs problem place (with_count count progress)) _
        (λ h. as_pairs_from P R problem place (with_count count progress) (all h))
        (λ begun. filled fill fills (H × ProgressFrom P R begun) frame region begun used
        (λ h. from h.0) (λ h. h.1)))

    body_gives :
        (part : Part) → PartFrom part → (H : Type 0) (problem : ExpandProblem) (frame : Frame)
        (region : Region) (progress : Progress) (used : List FileKey) →
        (H → FrameFrom P R frame) → (H → ProgressFrom P R progress) →
        Gives U H used (body part problem (scope_of follow frame region) progress used)
        (ProgressFrom P R)
    body_gives part fills H problem frame region progress used from all =
        used_then U (ProgressFrom P R) (ProgressFrom P R) H used
        (body_by part.shape part.place problem (scope_of follow frame region)
        (with_chain Closed progress)
        used) _
        (body_by_gives part.shape fills.1 H part.place problem frame region
        (with_chain Closed progress) used fills.0 from all)
        (λ after later. done_gives U (ProgressFrom P R) (H × ProgressFrom P R after) later
        (with_chain Closed after) (λ h. h.1))

    turns_give :
        (name : List ℕ) (part : Part) → PartFrom part → (items : List MarkedNode) (H : Type 0)
        (frame : Frame) (region : Region) (progress : Progress) (used : List FileKey) →
        (H → Each (SeenFrom P R) items) → (H → FrameFrom P R frame) →
        (H → ProgressFrom P R progress) →
        Gives U H used (turns name part items (scope_of follow frame region) progress used)
        (ProgressFrom P R)
    turns_give name part fills [] H frame region progress used each from all =
        done_gives U (ProgressFrom P R) H used progress all
    turns_give name part fills (item ∷ items) H frame region progress used each from all =
        used_then U (ProgressFrom P R) (ProgressFrom P R) H used
        (body part WrongKind (scope_of follow (within frame name item) region) progress used)
        (turns name part items (scope_of follow frame region))
        (body_gives part fills H WrongKind (within frame name item) region progress used
        (λ h. turn_from P R frame (from h) name item (each h).0) all)
        (λ after later. turns_give name part fills items (H × ProgressFrom P R after) frame region
        after later (λ h. (each h.0).1) (λ h. from h.0) (λ h. h.1))

    -- ---- pairs of a mapping

    value_under_gives :
        (path : Bool) (key : List ℕ) (part : Part) → PartFrom part → (H : Type 0) (frame : Frame)
        (region : Region) (count : ℕ) (used : List FileKey) → (H → FrameFrom P R frame) →
        Gives U H used (value_under path key part (scope_of follow frame region) count used)
        (OneFrom P R)
    value_under_gives true key part fills H frame region count used from =
        alone_gives U (OneFrom P R) H used (path_by part.shape part.place frame count)
        (λ h. path_from P R frame (from h) part.place part.shape fills.0 count)
    value_under_gives false key part fills H frame region count used from =
        value_gives part.shape fills.1 H part.place frame (under key region) count used fills.0 from

    pub done_gives_all :
        (asked : Action) (part : Part) → PartFrom part → (H : Type 0) (frame : Frame)
        (region : Region) (progress : Progress) (used : List FileKey) →
        (H → ActionFrom P R asked) → (H → FrameFrom P R frame) → (H → ProgressFrom P R progress) →
        Gives U H used (done asked part (scope_of follow frame region) progress used)
        (ProgressFrom P R)
    done_gives_all (action.Put key origin) part fills H frame region progress used own from all =
        plain_then U (ProgressFrom P R) H used
        (unless_stray (key_stray region progress.content key origin.source)) _
        (λ none. used_then U (OneFrom P R) (ProgressFrom P R) H used
        (value_under (is_path region progress.content key) key part (scope_of follow frame region)
        progress.count used) _
        (value_under_gives (is_path region progress.content key) key part fills H frame region
        progress.count used from)
        (λ one later. alone_gives U (ProgressFrom P R) (H × OneFrom P R one) later _
        (λ h. put_pair_from P R (record { key = key; key_origin = origin; item = one.node })
        one.count progress (pair_from P P key origin one.node (own h.0).0.0 (own h.0).1 h.1.0)
        h.1.1.0
        (all h.0))))
    done_gives_all (action.Run chain) part fills H frame region progress used own from all =
        used_then U (ProgressFrom P R) (ProgressFrom P R) H used
        (body part WrongKind (scope_of follow frame region) progress used) _
        (body_gives part fills H WrongKind frame region progress used from all)
        (λ after later. done_gives U (ProgressFrom P R) (H × ProgressFrom P R after) later
        (with_chain chain after) (λ h. h.1))
    done_gives_all (action.Pass chain) part fills H frame region progress used own from all =
        done_gives U (ProgressFrom P R) H used (with_chain chain progress) all
    done_gives_all (action.Repeat loop count) part fills H frame region progress used own from
        all =
        turns_give loop.name part fills loop.items H frame region
        (with_chain Closed (with_count count progress)) used own from all
    done_gives_all action.Insert part fills H frame region progress used own from all =
        body_gives part fills H InsertNoMapping frame region progress used from all

    pub pair_gives :
        (entry : Entry) → EntryFrom entry → (H : Type 0) (frame : Frame) (region : Region)
        (progress : Progress) (used : List FileKey) → (H → FrameFrom P R frame) →
        (H → ProgressFrom P R progress) →
        Gives U H used (pair_behind entry (scope_of follow frame region) progress used)
        (ProgressFrom P R)
    pair_gives entry fills H frame region progress used from all =
        first_then U (ActionFrom P R) (ProgressFrom P R) H used
        (key_asks entry.key frame entry.key_place progress.chain progress.count) _
        (λ h. key_asks_from P R frame (from h) entry.key_place fills.0.0 entry.key fills.0.1
        progress.chain progress.count)
        (λ asked. done_gives_all asked entry.part fills.1 (H × ActionFrom P R asked) frame region
        progress used (λ h. h.1) (λ h. from h.0) (λ h. all h.0))

    pairs_give :
        (entries : List Entry) → Each EntryFrom entries → (H : Type 0) (frame : Frame)
        (region : Region) (progress : Progress) (used : List FileKey) →
        (H → FrameFrom P R frame) → (H → ProgressFrom P R progress) →
        Gives U H used (pairs_behind entries (scope_of follow frame region) progress used)
        (ProgressFrom P R)
    pairs_give [] fills H frame region progress used from all =
        done_gives U (ProgressFrom P R) H used progress all
    pairs_give (entry ∷ entries) fills H frame region progress used from all =
        used_then U (ProgressFrom P R) (ProgressFrom P R) H used
        (pair_behind entry (scope_of follow frame region) progress used)
        (pairs_behind entries (scope_of follow frame region))
        (pair_gives entry fills.0 H frame region progress used from all)
        (λ after later. pairs_give entries fills.1 (H × ProgressFrom P R after) frame region after
        later (λ h. from h.0) (λ h. h.1))

    -- ---- items of a sequence

    mapping_gives :
        (manner : Manner) (fill : Filling) → FillingFrom fill → (H : Type 0) (place : Place)
        (frame : Frame) (region : Region) (count : ℕ) (progress : Progress)
        (used : List FileKey) → StandsAs P R place (mapping manner fill) →
        (H → FrameFrom P R frame) → (H → ProgressFrom P R progress) →
        Gives U H used
        (mapping_behind manner fill place (scope_of follow frame region) (with_count count progress)
        used)
        (ProgressFrom P R)
    mapping_gives Empty fill fills H place frame region count progress used stands from all =
        first_then U (OneFrom P R) (ProgressFrom P R) H used
        (finished (literal_at frame place) (begun kind.Pairs Closed count)) _
        (λ h. finished_from P R (literal_at frame place)
        (literal_seen P R frame (from h) place stands.0) stands.0 (begun kind.Pairs Closed count)
        (tt, tt) tt)
        (λ one. add_item_gives P R U follow follows frame region (H × OneFrom P R one) one.node
        (with_chain Closed (with_count one.count progress)) used (λ h. h.1.0) (λ h. all h.0))
    mapping_gives Stays fill fills H place frame region count progress used stands from all =
        used_then U (HeadedFrom frame place) (ProgressFrom P R) H used
        (fill (scope_of follow frame (of_item region)) (begun kind.Pairs progress.chain count) used)
        _ (begun_filled kind.Pairs progress.chain fill fills H place frame (of_item region) count
        used from
        (λ h. stands.1 (from h).reads kind.Pairs progress.chain count
        (scope_of follow frame (of_item region)) used))
        (λ inner later. first_then U (OneFrom P R) (ProgressFrom P R)
        (H × HeadedFrom frame place inner) later (finished (literal_at frame place) inner) _
        (λ h. finished_from P R (literal_at frame place)
        (literal_seen P R frame (from h.0) place stands.0) stands.0 inner h.1.0 h.1.1)
        (λ one. add_item_gives P R U follow follows frame region
        ((H × HeadedFrom frame place inner) × OneFrom P R one) one.node
        (with_chain inner.chain (with_count inner.count progress)) later (λ h. h.1.0)
        (λ h. all h.0.0)))
    mapping_gives (Splices of) fill fills H place frame region count progress used stands from
        all =
        used_then U (HeadedFrom frame place) (ProgressFrom P R) H used
        (fill (scope_of follow frame (of_item region)) (begun of progress.chain count) used) _
        (begun_filled of progress.chain fill fills H place frame (of_item region) count used from
        (λ h. stands.1 (from h).reads of progress.chain count
        (scope_of follow frame (of_item region)) used))
        (λ inner later. splice_gives P R U follow follows frame region
        (H × HeadedFrom frame place inner) (literal_at frame place) inner.content
        (with_chain inner.chain (with_count inner.count progress)) later stands.0
        (λ h. literal_seen P R frame (from h.0) place stands.0) (λ h. h.1) (λ h. all h.0))
    mapping_gives (Mixed other) fill fills H place frame region count progress used stands from
        all = tt
    mapping_gives (Unclosed key) fill fills H place frame region count progress used stands from
        all = tt

    item_by_gives :
        (shape : Shape) → ShapeFrom shape → (H : Type 0) (place : Place) (frame : Frame)
        (region : Region) (progress : Progress) (used : List FileKey) → StandsAs P R place shape →
        (H → FrameFrom P R frame) → (H → ProgressFrom P R progress) →
        Gives U H used (item_by shape place (scope_of follow frame region) progress used)
        (ProgressFrom P R)
    item_by_gives (scalar text) fills H place frame region progress used stands from all =
        first_then U (SeenOne P R) (ProgressFrom P R) H used
        (given_value text frame place progress.count (of_item region) None) _
        (λ h. given_value_from P R frame (from h) place stands.0 text stands.1 progress.count
        (of_item region) None)
        (λ given. used_then U (OneFrom P R) (ProgressFrom P R) (H × SeenOne P R given) used
        (node_settling given.node (scope_of follow frame region) given.count used) _
        (settled_gives given (H × SeenOne P R given) frame region used (λ h. h.1))
        (λ one later. spread_gives P R U follow follows frame region
        ((H × SeenOne P R given) × OneFrom P R one) one.node
        (with_chain Closed (with_count one.count progress)) later (λ h. h.1.0)
        (λ h. all h.0.0)))
    item_by_gives (sequence fill) fills H place frame region progress used stands from all =
        used_then U (OneFrom P R) (ProgressFrom P R) H used
        (collected kind.Items fill place (scope_of follow frame (inside region)) progress.count
        used) _
        (collected_gives kind.Items fill fills H place frame (inside region) progress.count used
        stands.0 from
        (λ h count. stands.1 Closed count (scope_of follow frame (inside region)) used
        (literal_at frame place)))
        (λ one later. add_item_gives P R U follow follows frame region (H × OneFrom P R one)
        one.node
        (with_chain Closed (with_count one.count progress)) later (λ h. h.1.0) (λ h. all h.0))
    item_by_gives (mapping manner fill) fills H place frame region progress used stands from all =
        plain_then U (ProgressFrom P R) H used (entered place progress.count) _
        (λ count. mapping_gives manner fill fills H place frame region count progress used stands
        from all)

    items_give :
        (parts : List Part) → Each PartFrom parts → (H : Type 0) (frame : Frame)
        (region : Region) (progress : Progress) (used : List FileKey) →
        (H → FrameFrom P R frame) → (H → ProgressFrom P R progress) →
        Gives U H used (items_behind parts (scope_of follow frame region) progress used)
        (ProgressFrom P R)
    items_give [] fills H frame region progress used from all =
        done_gives U (ProgressFrom P R) H used progress all
    items_give (part ∷ parts) fills H frame region progress used from all =
        used_then U (ProgressFrom P R) (ProgressFrom P R) H used
        (item_behind part (scope_of follow frame region) progress used)
        (items_behind parts (scope_of follow frame region))
        (item_by_gives part.shape fills.0.1 H part.place frame region progress used fills.0.0 from
        all)
        (λ after later. items_give parts fills.1 (H × ProgressFrom P R after) frame region after
        later (λ h. from h.0) (λ h. h.1))

  -- ---- by induction over the node

  abbrev BodyClaim : NodeBody → Type 0
  BodyClaim one = BodyIn R (out-NodeBody one) → ShapeFrom (shape_of one)

  abbrev NodeClaim : Node → Type 0
  NodeClaim one = NodeIn R one → PartFrom (part_of one)

  abbrev PairClaim : NodePair → Type 0
  PairClaim one = PairIn R one → EntryFrom (entry_of one)

  each_claim :
      {X Y : Type 0} (A : X → Type 0) (B : Y → Type 0) (f : X → Y) (xs : List X) →
      Each (λ x. A x → B (f x)) xs → Each A xs → Each B (map f xs)
  each_claim A B f [] claims all = tt
  each_claim A B f (x ∷ xs) claims all = (claims.0 all.0, each_claim A B f xs claims.1 all.1)

  opened_is : (layer : Body) → out-NodeBody (roll-NodeBody layer) ≡ layer
  opened_is layer = search (rules, the_lemmas)

  layer_claim :
      (layer : Body) → BodyParts NodeClaim PairClaim layer → BodyIn R layer →
      ShapeFrom (shape_of (roll-NodeBody layer))
  layer_claim (Scalar text) claims within =
      let is : scalar text ≡ shape_of (roll-NodeBody (Scalar text)) =
      search (rules, the_lemmas) in
      subst ShapeFrom is tt
  layer_claim (Seq items) claims within =
      let is :
      sequence (items_behind (map part_of items)) ≡ shape_of (roll-NodeBody (Seq items)) =
      search (rules, the_lemmas) in
      let parts : Each PartFrom (map part_of items) =
      each_claim (NodeIn R) PartFrom part_of items claims within in
      subst ShapeFrom is
      (λ follow frame region progress used follows.
      items_give follow follows (map part_of items) parts
      (FrameFrom P R frame × ProgressFrom P R progress) frame region progress used (λ h. h.0)
      (λ h. h.1))
  layer_claim (Map pairs) claims within =
      let is :
      mapping (manner_of (map facet_of (map entry_of pairs))) (pairs_behind (map entry_of pairs))
      ≡ shape_of (roll-NodeBody (Map pairs)) =
      search (rules, the_lemmas) in
      let entries : Each EntryFrom (map entry_of pairs) =
      each_claim (PairIn R) EntryFrom entry_of pairs claims within in
      subst ShapeFrom is
      (λ follow frame region progress used follows.
      pairs_give follow follows (map entry_of pairs) entries
      (FrameFrom P R frame × ProgressFrom P R progress) frame region progress used (λ h. h.0)
      (λ h. h.1))

  -- what is said there
  layer_says :
      (place : Place) (layer : Body) → Each (Stood R place) (said_in layer) →
      ShapeSays P R place (shape_of (roll-NodeBody layer))
  layer_says place (Scalar text) says =
      let is : scalar text ≡ shape_of (roll-NodeBody (Scalar text)) =
      search (rules, the_lemmas) in
      subst (ShapeSays P R place) is says.0
  layer_says place (Seq items) says =
      let is :
      sequence (items_behind (map part_of items)) ≡ shape_of (roll-NodeBody (Seq items)) =
      search (rules, the_lemmas) in
      subst (ShapeSays P R place) is (sequence_headed P (map part_of items))
  layer_says place (Map pairs) says =
      let is :
      mapping (manner_of (map facet_of (map entry_of pairs))) (pairs_behind (map entry_of pairs))
      ≡ shape_of (roll-NodeBody (Map pairs)) =
      search (rules, the_lemmas) in
      subst (ShapeSays P R place) is (λ reads. pairs_headed P R reads place pairs says.1)

  rolled : (body : NodeBody) → roll-NodeBody (out-NodeBody body) ≡ body
  rolled body = search (rules, the_lemmas)

  shape_says :
      (place : Place) (one : NodeBody) → Each (Stood R place) (said_in (out-NodeBody one)) →
      ShapeSays P R place (shape_of one)
  shape_says place one says =
      subst (λ (body : NodeBody). ShapeSays P R place (shape_of body)) (rolled one)
      (layer_says place (out-NodeBody one) says)

  of_layer :
      (layer : Body) → BodyParts NodeClaim PairClaim layer → BodyClaim (roll-NodeBody layer)
  of_layer layer claims within =
      layer_claim layer claims (subst (BodyIn R) (opened_is layer) within)

  of_node :
      (place : Place) (one : NodeBody) → BodyClaim one →
      NodeClaim (record { place = place; body = one })
  of_node place one claim within =
      let node : Node = record { place = place; body = one } in
      let is : record { place = place; shape = shape_of one } ≡ part_of node =
      search (rules, the_lemmas) in
      let parts = node_in R node within in
      subst PartFrom is
      ((parts.0, shape_says place one (node_says R node within)), claim parts.1)

  of_pair :
      (key : List ℕ) (key_place : Place) (item : Node) → NodeClaim item →
      PairClaim (record { key = key; key_place = key_place; item = item })
  of_pair key key_place item claim within =
      let pair : NodePair = record { key = key; key_place = key_place; item = item } in
      let is : record { key = key; key_place = key_place; part = part_of item } ≡ entry_of pair =
      search (rules, the_lemmas) in
      let parts = pair_in R pair within in
      subst EntryFrom is ((parts.0, pair_says R pair within), claim parts.1)

  pub part_from : (node : Node) → NodeIn R node → PartFrom (part_of node)
  part_from = written_induction BodyClaim NodeClaim PairClaim of_layer of_node of_pair

  pub entry_from : (pair : NodePair) → PairIn R pair → EntryFrom (entry_of pair)
  entry_from pair within = of_pair pair.key pair.key_place pair.item (part_from pair.item) within

  pub expanded_gives :
      (node : Node) → NodeIn R node → (H : Type 0) (follow : Follow) (frame : Frame)
      (region : Region) (count : ℕ) (used : List FileKey) → FollowFrom P U follow →
      (H → FrameFrom P R frame) →
      Gives U H used (expanded node (scope_of follow frame region) count used) (OneFrom P R)
  expanded_gives node within H follow frame region count used follows from =
      let part = part_from node within in
      value_gives follow follows (part_of node).shape part.1 H (part_of node).place frame region
      count used part.0 from
