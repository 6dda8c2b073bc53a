-- What a file's node gives in a frame, where calls are followed over two sets of files.
use Rattle.std.proofs.Common.{◌≡◌, ℕ, Bool, true, false, None, List, [], ◌∷◌, map, subst, rules}
use Rattle.std.specs.List.{AllByRecursion as Each}
use Rattle.pl_base.specs.declared.place.FileKey.{FileKey}
use Rattle.pl_base.specs.declared.place.Place.{Place}
use Rattle.pl_base.specs.declared.node.Node.{Node}
use Rattle.pl_base.specs.declared.node.NodeBody.{NodeBody, roll-NodeBody, the_lemmas}
use Rattle.pl_base.specs.declared.node.NodePair.{NodePair}
use Rattle.pl_base.specs.declared.node.NodeBody.TheOpen.{Scalar, Seq, Map}
use Rattle.pl_base.specs.declared.value.MarkedNode.{MarkedNode}
use Rattle.pl_frame.specs.declared.frame.Frame.{Frame}
use Rattle.pl_frame.specs.Names.{within}
use Rattle.pl_frame.specs.Origins.{literal_at}
use Rattle.pl_directives.specs.declared.action.Action.{Action}
use Rattle.pl_directives.specs.declared.action.Action.TheVariants as action
use Rattle.pl_directives.specs.declared.fault.ExpandProblem.{ExpandProblem}
use Rattle.pl_directives.specs.declared.fault.ExpandProblem.TheVariants.{WrongKind, InsertNoMapping}
use Rattle.pl_directives.specs.declared.manner.Kind.{Kind}
use Rattle.pl_directives.specs.declared.manner.Kind.TheVariants as kind
use Rattle.pl_directives.specs.declared.manner.Manner.{Manner}
use Rattle.pl_directives.specs.declared.manner.Manner.TheVariants.{Empty, Stays, Splices, Mixed}
use Rattle.pl_directives.specs.declared.manner.Manner.TheVariants.{Unclosed}
use Rattle.pl_directives.specs.declared.progress.Chain.TheVariants.{Closed}
use Rattle.pl_directives.specs.declared.progress.Progress.{Progress}
use Rattle.pl_directives.specs.declared.region.Region.{Region}
use Rattle.pl_directives.specs.Actions.{key_asks}
use Rattle.pl_directives.specs.Contents.{with_chain, with_count, begun, as_items, as_pairs}
use Rattle.pl_directives.specs.Contents.{put_pair, finished, absorbed}
use Rattle.pl_directives.specs.Counting.{entered}
use Rattle.pl_directives.specs.Manners.{manner_of}
use Rattle.pl_directives.specs.Regions.{under, inside, of_item, is_path}
use Rattle.pl_directives.specs.Scalars.{scalar_value}
use Rattle.pl_directives.specs.Strays.{told, key_stray, unless_stray, given_value}
use Rattle.pl_calls.specs.Parts.{Body}
use Rattle.pl_recursion.specs.Expanding.{Filling, Shape, Part, Entry, scalar, sequence, mapping}
use Rattle.pl_recursion.specs.Expanding.{collected, value_by, body_by, body, turns, path_by}
use Rattle.pl_recursion.specs.Expanding.{done as done_for, value_under, pair_behind, pairs_behind}
use Rattle.pl_recursion.specs.Expanding.{mapping_behind, item_by, item_behind, items_behind}
use Rattle.pl_recursion.specs.Expanding.{facet_of, part_of, shape_of, entry_of, expanded}
use Rattle.pl_recursion.specs.Following.{Follow, scope_of}
use Rattle.pl_recursion.specs.Scalars.{scalar_at}
use Rattle.pl_recursion.specs.Settling.{node_settling}
use Rattle.pl_origins.proofs.Induction.{BodyParts, written_induction}
use Rattle.pl_used_files.proofs.Agreeing.{Agree, done, both_alone, same_then, both_then}
use Rattle.pl_used_files.proofs.Settling.{FollowAgree, add_item_agree, splice_agree, spread_agree}
use Rattle.pl_used_files.proofs.Settling.{settling_agree}

module _ (U : List FileKey → Type 0) where
  abbrev pub FillingAgree : Filling → Type 0
  FillingAgree fill =
      (one other : Follow) (frame : Frame) (region : Region) (progress : Progress)
      (used : List FileKey) → FollowAgree U one other →
      Agree U used (fill (scope_of one frame region) progress used)
      (fill (scope_of other frame region) progress used)

  abbrev pub ShapeAgree : Shape → Type 0
  ShapeAgree (scalar text) = Unit {0}
  ShapeAgree (sequence fill) = FillingAgree fill
  ShapeAgree (mapping manner fill) = FillingAgree fill

  abbrev pub PartAgree : Part → Type 0
  PartAgree part = ShapeAgree part.shape

  abbrev pub EntryAgree : Entry → Type 0
  EntryAgree entry = PartAgree entry.part

  module _ (one other : Follow) (follows : FollowAgree U one other) where
    -- ---- scalars

    scalar_agree :
        (text : List ℕ) (frame : Frame) (region : Region) (place : Place) (count : ℕ)
        (used : List FileKey) →
        Agree U used (scalar_at text (scope_of one frame region) place count used)
        (scalar_at text (scope_of other frame region) place count used)
    scalar_agree text frame region place count used =
        same_then U used (scalar_value text frame place count) _ _
        (λ x. settling_agree U x.node one other frame region x.count used follows)

    -- ---- a node as a value

    collected_agree :
        (of : Kind) (fill : Filling) → FillingAgree fill → (place : Place) (frame : Frame)
        (region : Region) (count : ℕ) (used : List FileKey) →
        Agree U used (collected of fill place (scope_of one frame region) count used)
        (collected of fill place (scope_of other frame region) count used)
    collected_agree of fill fills place frame region count used =
        same_then U used (entered place count) _ _
        (λ count. both_then U used (fill (scope_of one frame region) (begun of Closed count) used)
        (fill (scope_of other frame region) (begun of Closed count) used) _ _
        (fills one other frame region (begun of Closed count) used follows)
        (λ inner later. both_alone U later (finished (literal_at frame place) inner)))

    pub value_agree :
        (shape : Shape) → ShapeAgree shape → (place : Place) (frame : Frame) (region : Region)
        (count : ℕ) (used : List FileKey) →
        Agree U used (value_by shape place (scope_of one frame region) count used)
        (value_by shape place (scope_of other frame region) count used)
    value_agree (scalar text) fills place frame region count used =
        scalar_agree text frame region place count used
    value_agree (sequence fill) fills place frame region count used =
        collected_agree kind.Items fill fills place frame region count used
    value_agree (mapping manner fill) fills place frame region count used =
        collected_agree kind.Pairs fill fills place frame region count used

    -- ---- a node in a directive's place

    body_by_agree :
        (shape : Shape) → ShapeAgree shape → (place : Place) (problem : ExpandProblem)
        (frame : Frame) (region : Region) (progress : Progress) (used : List FileKey) →
        Agree U used (body_by shape place problem (scope_of one frame region) progress used)
        (body_by shape place problem (scope_of other frame region) progress used)
    body_by_agree (scalar text) fills place problem frame region progress used =
        same_then U used
        (given_value text frame place progress.count region (told progress.content)) _ _
        (λ given. both_then U used
        (node_settling given.node (scope_of one frame region) given.count used)
        (node_settling given.node (scope_of other frame region) given.count used) _ _
        (settling_agree U given.node one other frame region given.count used follows)
        (λ x later. both_alone U later
        (absorbed x.node problem place (with_count x.count progress))))
    body_by_agree (sequence fill) fills place problem frame region progress used =
        same_then U used (entered place progress.count) _ _
        (λ count. same_then U used (as_items problem place (with_count count progress)) _ _
        (λ begun. fills one other frame region begun used follows))
    body_by_agree (mapping manner fill) fills place problem frame region progress used =
        same_then U used (entered place progress.count) _ _
        (λ count. same_then U used (as_pairs problem place (with_count count progress)) _ _
        (λ begun. fills one other frame region begun used follows))

    body_agree :
        (part : Part) → PartAgree part → (problem : ExpandProblem) (frame : Frame)
        (region : Region) (progress : Progress) (used : List FileKey) →
        Agree U used (body part problem (scope_of one frame region) progress used)
        (body part problem (scope_of other frame region) progress used)
    body_agree part fills problem frame region progress used =
        both_then U used
        (body_by part.shape part.place problem (scope_of one frame region)
        (with_chain Closed progress) used)
        (body_by part.shape part.place problem (scope_of other frame region)
        (with_chain Closed progress)
        used) _ _
        (body_by_agree part.shape fills part.place problem frame region
        (with_chain Closed progress) used)
        (λ after later. done U later (with_chain Closed after))

    turns_agree :
        (name : List ℕ) (part : Part) → PartAgree part → (items : List MarkedNode) (frame : Frame)
        (region : Region) (progress : Progress) (used : List FileKey) →
        Agree U used (turns name part items (scope_of one frame region) progress used)
        (turns name part items (scope_of other frame region) progress used)
    turns_agree name part fills [] frame region progress used = done U used progress
    turns_agree name part fills (item ∷ items) frame region progress used =
        both_then U used
        (body part WrongKind (scope_of one (within frame name item) region) progress used)
        (body part WrongKind (scope_of other (within frame name item) region) progress used)
        (turns name part items (scope_of one frame region))
        (turns name part items (scope_of other frame region))
        (body_agree part fills WrongKind (within frame name item) region progress used)
        (λ after later. turns_agree name part fills items frame region after later)

    -- ---- pairs of a mapping

    value_under_agree :
        (path : Bool) (key : List ℕ) (part : Part) → PartAgree part → (frame : Frame)
        (region : Region) (count : ℕ) (used : List FileKey) →
        Agree U used (value_under path key part (scope_of one frame region) count used)
        (value_under path key part (scope_of other frame region) count used)
    value_under_agree true key part fills frame region count used =
        both_alone U used (path_by part.shape part.place frame count)
    value_under_agree false key part fills frame region count used =
        value_agree part.shape fills part.place frame (under key region) count used

    pub done_agree :
        (asked : Action) (part : Part) → PartAgree part → (frame : Frame) (region : Region)
        (progress : Progress) (used : List FileKey) →
        Agree U used (done_for asked part (scope_of one frame region) progress used)
        (done_for asked part (scope_of other frame region) progress used)
    done_agree (action.Put key origin) part fills frame region progress used =
        same_then U used (unless_stray (key_stray region progress.content key origin.source)) _ _
        (λ none. both_then U used
        (value_under (is_path region progress.content key) key part (scope_of one frame region)
        progress.count used)
        (value_under (is_path region progress.content key) key part (scope_of other frame region)
        progress.count used) _ _
        (value_under_agree (is_path region progress.content key) key part fills frame region
        progress.count used)
        (λ x later. both_alone U later
        (put_pair (record { key = key; key_origin = origin; item = x.node }) x.count progress)))
    done_agree (action.Run chain) part fills frame region progress used =
        both_then U used (body part WrongKind (scope_of one frame region) progress used)
        (body part WrongKind (scope_of other frame region) progress used) _ _
        (body_agree part fills WrongKind frame region progress used)
        (λ after later. done U later (with_chain chain after))
    done_agree (action.Pass chain) part fills frame region progress used =
        done U used (with_chain chain progress)
    done_agree (action.Repeat loop count) part fills frame region progress used =
        turns_agree loop.name part fills loop.items frame region
        (with_chain Closed (with_count count progress)) used
    done_agree action.Insert part fills frame region progress used =
        body_agree part fills InsertNoMapping frame region progress used

    pub pair_agree :
        (entry : Entry) → EntryAgree entry → (frame : Frame) (region : Region)
        (progress : Progress) (used : List FileKey) →
        Agree U used (pair_behind entry (scope_of one frame region) progress used)
        (pair_behind entry (scope_of other frame region) progress used)
    pair_agree entry fills frame region progress used =
        same_then U used (key_asks entry.key frame entry.key_place progress.chain progress.count)
        _ _ (λ asked. done_agree asked entry.part fills frame region progress used)

    pairs_agree :
        (entries : List Entry) → Each EntryAgree entries → (frame : Frame) (region : Region)
        (progress : Progress) (used : List FileKey) →
        Agree U used (pairs_behind entries (scope_of one frame region) progress used)
        (pairs_behind entries (scope_of other frame region) progress used)
    pairs_agree [] fills frame region progress used = done U used progress
    pairs_agree (entry ∷ entries) fills frame region progress used =
        both_then U used (pair_behind entry (scope_of one frame region) progress used)
        (pair_behind entry (scope_of other frame region) progress used)
        (pairs_behind entries (scope_of one frame region))
        (pairs_behind entries (scope_of other frame region))
        (pair_agree entry fills.0 frame region progress used)
        (λ after later. pairs_agree entries fills.1 frame region after later)

    -- ---- items of a sequence

    mapping_agree :
        (manner : Manner) (fill : Filling) → FillingAgree fill → (place : Place) (frame : Frame)
        (region : Region) (count : ℕ) (progress : Progress) (used : List FileKey) →
        Agree U used (mapping_behind manner fill place (scope_of one frame region)
        (with_count count progress) used)
        (mapping_behind manner fill place (scope_of other frame region)
        (with_count count progress) used)
    mapping_agree Empty fill fills place frame region count progress used =
        same_then U used (finished (literal_at frame place) (begun kind.Pairs Closed count)) _ _
        (λ x. add_item_agree U one other follows frame region x.node
        (with_chain Closed (with_count x.count progress)) used)
    mapping_agree Stays fill fills place frame region count progress used =
        both_then U used
        (fill (scope_of one frame (of_item region)) (begun kind.Pairs progress.chain count) used)
        (fill (scope_of other frame (of_item region)) (begun kind.Pairs progress.chain count) used)
        _ _ (fills one other frame (of_item region) (begun kind.Pairs progress.chain count) used
        follows)
        (λ inner later. same_then U later (finished (literal_at frame place) inner) _ _
        (λ x. add_item_agree U one other follows frame region x.node
        (with_chain inner.chain (with_count inner.count progress)) later))
    mapping_agree (Splices of) fill fills place frame region count progress used =
        both_then U used (fill (scope_of one frame (of_item region)) (begun of progress.chain count)
        used)
        (fill (scope_of other frame (of_item region)) (begun of progress.chain count) used) _ _
        (fills one other frame (of_item region) (begun of progress.chain count) used follows)
        (λ inner later. splice_agree U one other follows frame region (literal_at frame place)
        inner.content (with_chain inner.chain (with_count inner.count progress)) later)
    mapping_agree (Mixed at) fill fills place frame region count progress used = tt
    mapping_agree (Unclosed at) fill fills place frame region count progress used = tt

    item_by_agree :
        (shape : Shape) → ShapeAgree shape → (place : Place) (frame : Frame) (region : Region)
        (progress : Progress) (used : List FileKey) →
        Agree U used (item_by shape place (scope_of one frame region) progress used)
        (item_by shape place (scope_of other frame region) progress used)
    item_by_agree (scalar text) fills place frame region progress used =
        same_then U used (given_value text frame place progress.count (of_item region) None) _ _
        (λ given. both_then U used
        (node_settling given.node (scope_of one frame region) given.count used)
        (node_settling given.node (scope_of other frame region) given.count used) _ _
        (settling_agree U given.node one other frame region given.count used follows)
        (λ x later. spread_agree U one other follows frame region x.node
        (with_chain Closed (with_count x.count progress)) later))
    item_by_agree (sequence fill) fills place frame region progress used =
        both_then U used
        (collected kind.Items fill place (scope_of one frame (inside region)) progress.count used)
        (collected kind.Items fill place (scope_of other frame (inside region)) progress.count used)
        _ _ (collected_agree kind.Items fill fills place frame (inside region) progress.count used)
        (λ x later. add_item_agree U one other follows frame region x.node
        (with_chain Closed (with_count x.count progress)) later)
    item_by_agree (mapping manner fill) fills place frame region progress used =
        same_then U used (entered place progress.count) _ _
        (λ count. mapping_agree manner fill fills place frame region count progress used)

    items_agree :
        (parts : List Part) → Each PartAgree parts → (frame : Frame) (region : Region)
        (progress : Progress) (used : List FileKey) →
        Agree U used (items_behind parts (scope_of one frame region) progress used)
        (items_behind parts (scope_of other frame region) progress used)
    items_agree [] fills frame region progress used = done U used progress
    items_agree (part ∷ parts) fills frame region progress used =
        both_then U used (item_behind part (scope_of one frame region) progress used)
        (item_behind part (scope_of other frame region) progress used)
        (items_behind parts (scope_of one frame region))
        (items_behind parts (scope_of other frame region))
        (item_by_agree part.shape fills.0 part.place frame region progress used)
        (λ after later. items_agree parts fills.1 frame region after later)

  -- ---- by induction over the node

  abbrev BodyClaim : NodeBody → Type 0
  BodyClaim x = ShapeAgree (shape_of x)

  abbrev NodeClaim : Node → Type 0
  NodeClaim x = PartAgree (part_of x)

  abbrev PairClaim : NodePair → Type 0
  PairClaim x = EntryAgree (entry_of x)

  each_claim :
      {X Y : Type 0} (B : Y → Type 0) (f : X → Y) (xs : List X) → Each (λ x. B (f x)) xs →
      Each B (map f xs)
  each_claim B f [] claims = tt
  each_claim B f (x ∷ xs) claims = (claims.0, each_claim B f xs claims.1)

  of_layer : (layer : Body) → BodyParts NodeClaim PairClaim layer → BodyClaim (roll-NodeBody layer)
  of_layer (Scalar text) claims =
      let is : scalar text ≡ shape_of (roll-NodeBody (Scalar text)) =
      search (rules, the_lemmas) in
      subst ShapeAgree is tt
  of_layer (Seq items) claims =
      let is :
      sequence (items_behind (map part_of items)) ≡ shape_of (roll-NodeBody (Seq items)) =
      search (rules, the_lemmas) in
      let parts : Each PartAgree (map part_of items) = each_claim PartAgree part_of items claims in
      subst ShapeAgree is
      (λ one other frame region progress used follows.
      items_agree one other follows (map part_of items) parts frame region progress used)
  of_layer (Map pairs) claims =
      let is :
      mapping (manner_of (map facet_of (map entry_of pairs))) (pairs_behind (map entry_of pairs))
      ≡ shape_of (roll-NodeBody (Map pairs)) =
      search (rules, the_lemmas) in
      let entries : Each EntryAgree (map entry_of pairs) =
      each_claim EntryAgree entry_of pairs claims in
      subst ShapeAgree is
      (λ one other frame region progress used follows.
      pairs_agree one other follows (map entry_of pairs) entries frame region progress used)

  of_node : (place : Place) (x : NodeBody) → BodyClaim x →
      NodeClaim (record { place = place; body = x })
  of_node place x claim =
      let node : Node = record { place = place; body = x } in
      let is : record { place = place; shape = shape_of x } ≡ part_of node =
      search (rules, the_lemmas) in
      subst PartAgree is claim

  of_pair :
      (key : List ℕ) (key_place : Place) (item : Node) → NodeClaim item →
      PairClaim (record { key = key; key_place = key_place; item = item })
  of_pair key key_place item claim =
      let pair : NodePair = record { key = key; key_place = key_place; item = item } in
      let is : record { key = key; key_place = key_place; part = part_of item } ≡ entry_of pair =
      search (rules, the_lemmas) in
      subst EntryAgree is claim

  pub part_agrees : (node : Node) → PartAgree (part_of node)
  part_agrees = written_induction BodyClaim NodeClaim PairClaim of_layer of_node of_pair

  pub entry_agrees : (pair : NodePair) → EntryAgree (entry_of pair)
  entry_agrees pair = of_pair pair.key pair.key_place pair.item (part_agrees pair.item)

  pub expanded_agree :
      (node : Node) (one other : Follow) (frame : Frame) (region : Region) (count : ℕ)
      (used : List FileKey) → FollowAgree U one other →
      Agree U used (expanded node (scope_of one frame region) count used)
      (expanded node (scope_of other frame region) count used)
  expanded_agree node one other frame region count used follows =
      value_agree one other follows (part_of node).shape (part_agrees node) (part_of node).place
      frame region count used
