-- Collections as far as they are expanded.
use Rattle.std.proofs.Common.{ℕ, Option, Some, None, List, [], ◌∷◌, ◌++◌, sym, subst}
use Rattle.std.specs.Prelude.{IfOk}
use Rattle.std.specs.List.{AllByRecursion as Each}
use Rattle.pl_base.specs.declared.origin.Origin.{Origin}
use Rattle.pl_base.specs.declared.place.Place.{Place}
use Rattle.pl_base.specs.declared.value.Value.{out-Value}
use Rattle.pl_base.specs.declared.value.Value.TheOpen as layer
use Rattle.pl_base.specs.declared.value.MarkedNode.{MarkedNode}
use Rattle.pl_base.specs.declared.value.MarkedPair.{MarkedPair}
use Rattle.pl_frame.specs.Doubles.{first_double}
use Rattle.pl_directives.specs.declared.fault.ExpandProblem.{ExpandProblem}
use Rattle.pl_directives.specs.declared.manner.Kind.{Kind}
use Rattle.pl_directives.specs.declared.manner.Kind.TheVariants as kind
use Rattle.pl_directives.specs.declared.progress.Content.{Content}
use Rattle.pl_directives.specs.declared.progress.Content.TheVariants.{Unknown, Items, Pairs}
use Rattle.pl_directives.specs.declared.progress.Progress.{Progress}
use Rattle.pl_directives.specs.Contents.{nothing_of, items_content, pairs_content}
use Rattle.pl_directives.specs.Contents.{as_items, as_pairs, items_behind, pairs_behind}
use Rattle.pl_directives.specs.Contents.{add_items, add_pairs, put_pair, distinct, object_of}
use Rattle.pl_directives.specs.Contents.{node_of, finished, absorbed_of, absorbed}
use Rattle.pl_eval_laws.proofs.Leads.{Opened, head_in, head_by, object_head, array_head}
use Rattle.pl_eval_laws.proofs.Lists.{Has, each_append}
use Rattle.pl_eval_laws.proofs.Trees.{Asked, Begun, HeadOwn}
use Rattle.pl_eval_laws.proofs.Trees.{NodeFrom, PairFrom, OpenedFrom, array_node, object_node}
use Rattle.pl_eval_laws.proofs.Trees.{node_parts, value_parts, led_from}
use Rattle.pl_origins.proofs.Frames.{Seen}
use Rattle.pl_origins.proofs.Nodes.{Site}
use Rattle.pl_origins.proofs.Scalars.{HeldFrom, OneFrom}
use Rattle.pl_origins.proofs.Steps.{ok_then}

-- pairs, whose first value is seen in their frame
abbrev pub PairsFrom : Asked → Site → List MarkedPair → Type 0
PairsFrom P R pairs = Each (PairFrom P P) pairs × Has (HeadOwn (Seen P R)) (head_in pairs)

abbrev pub ContentFrom : Asked → Site → Content → Type 0
ContentFrom P R Unknown = Unit {0}
ContentFrom P R (Items items) = Each (NodeFrom P P) items
ContentFrom P R (Pairs pairs) = PairsFrom P R pairs

-- what is asked of a mapping that stands there
abbrev pub Headed : Asked → Origin → Content → Type 0
Headed P origin Unknown = Unit {0}
Headed P origin (Items items) = Unit {0}
Headed P origin (Pairs pairs) = Has (Begun P origin) (head_in pairs)

abbrev pub ProgressFrom : Asked → Site → Progress → Type 0
ProgressFrom P R progress = ContentFrom P R progress.content

module _ (P : Asked) (R : Site) where
  pub nothing_from : (of : Kind) → ContentFrom P R (nothing_of of)
  nothing_from kind.Unknown = tt
  nothing_from kind.Items = tt
  nothing_from kind.Pairs = (tt, tt)

  pairs_behind_pairs :
      (pairs more : List MarkedPair) → PairsFrom P R pairs → PairsFrom P R more →
      PairsFrom P R (pairs ++ more)
  pairs_behind_pairs [] more all behind = behind
  pairs_behind_pairs (pair ∷ pairs) more all behind =
      (each_append (PairFrom P P) (pair ∷ pairs) more all.0 behind.0, all.1)

  items_kept :
      (problem : ExpandProblem) (place : Place) (content : Content) → ContentFrom P R content →
      IfOk (items_content problem place content) (ContentFrom P R)
  items_kept problem place Unknown all = tt
  items_kept problem place (Items items) all = all
  items_kept problem place (Pairs pairs) all = tt

  pairs_kept :
      (problem : ExpandProblem) (place : Place) (content : Content) → ContentFrom P R content →
      IfOk (pairs_content problem place content) (ContentFrom P R)
  pairs_kept problem place Unknown all = (tt, tt)
  pairs_kept problem place (Items items) all = tt
  pairs_kept problem place (Pairs pairs) all = all

  pub as_items_from :
      (problem : ExpandProblem) (place : Place) (progress : Progress) → ProgressFrom P R progress →
      IfOk (as_items problem place progress) (ProgressFrom P R)
  as_items_from problem place progress all =
      ok_then (ContentFrom P R) (ProgressFrom P R) (items_content problem place progress.content) _
      (items_kept problem place progress.content all) (λ content all. all)

  pub as_pairs_from :
      (problem : ExpandProblem) (place : Place) (progress : Progress) → ProgressFrom P R progress →
      IfOk (as_pairs problem place progress) (ProgressFrom P R)
  as_pairs_from problem place progress all =
      ok_then (ContentFrom P R) (ProgressFrom P R) (pairs_content problem place progress.content) _
      (pairs_kept problem place progress.content all) (λ content all. all)

  more_items :
      (place : Place) (more : List MarkedNode) (content : Content) → Each (NodeFrom P P) more →
      ContentFrom P R content → IfOk (items_behind place more content) (ContentFrom P R)
  more_items place more Unknown behind all = behind
  more_items place more (Items items) behind all = each_append (NodeFrom P P) items more all behind
  more_items place more (Pairs pairs) behind all = tt

  more_pairs :
      (place : Place) (more : List MarkedPair) (content : Content) → PairsFrom P R more →
      ContentFrom P R content → IfOk (pairs_behind place more content) (ContentFrom P R)
  more_pairs place more Unknown behind all = behind
  more_pairs place more (Items items) behind all = tt
  more_pairs place more (Pairs pairs) behind all = pairs_behind_pairs pairs more all behind

  pub add_items_from :
      (place : Place) (more : List MarkedNode) (progress : Progress) → Each (NodeFrom P P) more →
      ProgressFrom P R progress → IfOk (add_items place more progress) (ProgressFrom P R)
  add_items_from place more progress behind all =
      ok_then (ContentFrom P R) (ProgressFrom P R) (items_behind place more progress.content) _
      (more_items place more progress.content behind all) (λ content all. all)

  pub add_pairs_from :
      (place : Place) (more : List MarkedPair) (progress : Progress) → PairsFrom P R more →
      ProgressFrom P R progress → IfOk (add_pairs place more progress) (ProgressFrom P R)
  add_pairs_from place more progress behind all =
      ok_then (ContentFrom P R) (ProgressFrom P R) (pairs_behind place more progress.content) _
      (more_pairs place more progress.content behind all) (λ content all. all)

  pub put_pair_from :
      (pair : MarkedPair) (count : ℕ) (progress : Progress) → PairFrom P P pair →
      (Seen P R).own pair.item.origin → ProgressFrom P R progress →
      IfOk (put_pair pair count progress) (ProgressFrom P R)
  put_pair_from pair count progress one seen all =
      add_pairs_from pair.key_origin.source (pair ∷ []) _ ((one, tt), seen) all

  -- ---- the whole collection, which stands in the frame's file

  module _ (origin : Origin) (own : (Seen P R).own origin) (here : R.at origin.source) where
    abbrev BegunFrom : List MarkedPair → Type 0
    BegunFrom pairs = PairsFrom P R pairs × Has (Begun P origin) (head_in pairs)

    distinct_by :
        (double : Option Place) (pairs : List MarkedPair) → BegunFrom pairs →
        IfOk (distinct double pairs) BegunFrom
    distinct_by None pairs all = all
    distinct_by (Some place) pairs all = tt

    pub object_of_from :
        (pairs : List MarkedPair) → PairsFrom P R pairs → Has (Begun P origin) (head_in pairs) →
        IfOk (object_of origin pairs) (HeldFrom P R)
    object_of_from pairs all begun =
        ok_then BegunFrom (HeldFrom P R) (distinct (first_double pairs) pairs) _
        (distinct_by (first_double pairs) pairs (all, begun))
        (λ pairs all. (
          object_node P P origin own.0 pairs all.0.0
              (led_from (Seen P R) P origin (λ path seen. seen.1 origin.source here)
              (head_in pairs) all.0.1 all.1),
          (own, subst (Has (HeadOwn (Seen P R))) (sym (object_head pairs)) all.0.1),
        ))

    node_of_from :
        (content : Content) → ContentFrom P R content → Headed P origin content →
        IfOk (node_of origin content) (HeldFrom P R)
    node_of_from (Items items) all headed = (
      array_node P P origin own.0 items all,
      (own, subst (Has (HeadOwn (Seen P R))) (sym (array_head items)) tt),
    )
    node_of_from (Pairs pairs) all headed = object_of_from pairs all headed
    node_of_from Unknown all headed = object_of_from [] (tt, tt) tt

    pub finished_from :
        (progress : Progress) → ProgressFrom P R progress → Headed P origin progress.content →
        IfOk (finished origin progress) (OneFrom P R)
    finished_from progress all headed =
        ok_then (HeldFrom P R) (OneFrom P R) (node_of origin progress.content) _
        (node_of_from progress.content all headed) (λ node all. all)

  absorbed_by :
      (opened : Opened) (problem : ExpandProblem) (place : Place) (progress : Progress) →
      OpenedFrom P P opened → Has (HeadOwn (Seen P R)) (head_by opened) →
      ProgressFrom P R progress →
      IfOk (absorbed_of opened problem place progress) (ProgressFrom P R)
  absorbed_by (layer.Array items) problem place progress below head all =
      ok_then (ProgressFrom P R) (ProgressFrom P R) (as_items problem place progress)
      (add_items place items) (as_items_from problem place progress all)
      (λ progress all. add_items_from place items progress below all)
  absorbed_by (layer.Object pairs) problem place progress below head all =
      ok_then (ProgressFrom P R) (ProgressFrom P R) (as_pairs problem place progress)
      (add_pairs place pairs) (as_pairs_from problem place progress all)
      (λ progress all. add_pairs_from place pairs progress (below, head) all)
  absorbed_by layer.Null problem place progress below head all = tt
  absorbed_by (layer.Bool truth) problem place progress below head all = tt
  absorbed_by (layer.Number number) problem place progress below head all = tt
  absorbed_by (layer.Version segments) problem place progress below head all = tt
  absorbed_by (layer.Str text) problem place progress below head all = tt

  pub absorbed_from :
      (node : MarkedNode) (problem : ExpandProblem) (place : Place) (progress : Progress) →
      HeldFrom P R node → ProgressFrom P R progress →
      IfOk (absorbed node problem place progress) (ProgressFrom P R)
  absorbed_from node problem place progress own all =
      absorbed_by (out-Value node.value) problem place progress
      (value_parts P P node.value (node_parts P P node own.0).1) own.1.1 all
