-- Calls of templates and `extends`, over two sets of files.
use Rattle.std.proofs.Common.{ℕ, zero, suc, Bool, true, false, cond, Some, None}
use Rattle.std.proofs.Common.{Ok, List, [], ◌∷◌}
use Rattle.std.specs.Prelude.{codes}
use Rattle.pl_base.specs.declared.origin.Crossing.TheVariants.{Extends}
use Rattle.pl_base.specs.declared.origin.Origin.{Origin}
use Rattle.pl_base.specs.declared.place.FileKey.{FileKey}
use Rattle.pl_base.specs.declared.place.Place.{Place}
use Rattle.pl_base.specs.declared.node.Node.{Node}
use Rattle.pl_base.specs.declared.node.NodePair.{NodePair}
use Rattle.pl_base.specs.declared.node.NodeBody.TheOpen.{Scalar, Seq, Map}
use Rattle.pl_base.specs.declared.value.Value.{Value, out-Value}
use Rattle.pl_base.specs.declared.value.Value.TheOpen.{Value-F}
use Rattle.pl_base.specs.declared.value.Value.TheOpen as layer
use Rattle.pl_base.specs.declared.value.MarkedNode.{MarkedNode}
use Rattle.pl_base.specs.declared.value.MarkedPair.{MarkedPair}
use Rattle.pl_frame.specs.declared.frame.Frame.{Frame}
use Rattle.pl_base.specs.Texts.{is}
use Rattle.pl_directives.specs.declared.fault.ExpandProblem.TheVariants.{WrongKind}
use Rattle.pl_directives.specs.declared.manner.Kind.TheVariants as content
use Rattle.pl_directives.specs.declared.progress.Chain.TheVariants.{Closed}
use Rattle.pl_directives.specs.declared.progress.Progress.{Progress}
use Rattle.pl_directives.specs.declared.region.Region.{Region}
use Rattle.pl_directives.specs.declared.region.Region.TheVariants.{Free, Quiet, Calls as InCalls}
use Rattle.pl_directives.specs.declared.region.Region.TheVariants.{Extends as InExtends}
use Rattle.pl_directives.specs.Complaints.{refused}
use Rattle.pl_directives.specs.Contents.{begun}
use Rattle.pl_directives.specs.Counting.{entered}
use Rattle.pl_directives.specs.Scalars.{scalar_value}
use Rattle.pl_template.specs.Forms.{form_of}
use Rattle.pl_calls.specs.Calls.{path_text, call_of}
use Rattle.pl_calls.specs.Frames.{template_of, framed_by}
use Rattle.pl_calls.specs.Judging.{template_in, body_in, body_fits, may_give}
use Rattle.pl_calls.specs.Parts.{Body, body_of}
use Rattle.pl_calls.specs.Reaching.{Opens, node_in as file_node}
use Rattle.pl_calls.specs.declared.reaching.Opened.{Opened as OpenedFile}
use Rattle.pl_recursion.specs.Expanding.{entry_of, expanded, pair_behind}
use Rattle.pl_recursion.specs.Following.{Follow, scope_of}
use Rattle.pl_recursion.specs.Levels.{items_from, frame_for, call_by, followed}
use Rattle.pl_recursion.specs.declared.followed.SettledPairs.{SettledPairs}
use Rattle.pl_expand.specs.Below.pl_extends.specs.Extending.{path_in, mapping_from, value_from, argument_behind}
use Rattle.pl_expand.specs.Below.pl_extends.specs.Extending.{arguments_behind, extended_pairs, body_pair, body_pairs}
use Rattle.pl_expand.specs.Below.pl_extends.specs.Extending.{extension_of, opened_filled, reached_filled}
use Rattle.pl_expand.specs.Below.pl_extends.specs.Extending.{Asked, asking, shown, mapping_extended, pairs_asked}
use Rattle.pl_expand.specs.Below.pl_extends.specs.Extending.{extended_from}
use Rattle.pl_expand.specs.Below.pl_extends.specs.Extending.{value_extended, are_plain, pairs_extended, text_extended}
use Rattle.pl_expand.specs.Below.pl_extends.specs.Extending.{extended_by, extended}
use Rattle.pl_used_files.proofs.Agreeing.{Agree, done, both_alone, same_then, both_then}
use Rattle.pl_used_files.proofs.Expanding.{entry_agrees, expanded_agree, pair_agree}
use Rattle.pl_used_files.proofs.Settling.{FollowAgree}

-- what paths lead to, over both
abbrev pub OpensAgree : (List FileKey → Type 0) → Opens → Opens → Type 0
OpensAgree U one other =
    (at : Place) (path : List ℕ) (used : List FileKey) →
    Agree U used (one at path used) (other at path used)

module _ (U : List FileKey → Type 0) (one other : Opens) (opens : OpensAgree U one other) where
  -- ---- calls

  call_none :
      FollowAgree U (call_by None one) (call_by None other)
  call_none frame form item count used =
      same_then U used (call_of item) _ _ (λ call. tt)

  call_some :
      (next more : Follow) → FollowAgree U next more →
      FollowAgree U (call_by (Some next) one) (call_by (Some more) other)
  call_some next more goes frame form item count used =
      same_then U used (call_of item) _ _
      (λ call. both_then U used (one call.at call.path used) (other call.at call.path used) _ _
      (opens call.at call.path used)
      (λ opened later. same_then U later (file_node opened.file) _ _
      (λ node. same_then U later (template_in node) _ _
      (λ pairs. same_then U later (body_in form node.place pairs) _ _
      (λ body. same_then U later (frame_for opened.key pairs call frame) _ _
      (λ inner. same_then U later (entered node.place count) _ _
      (λ count. same_then U later (body_fits form body) _ _
      (λ none. both_then U later (expanded body (scope_of next inner (InCalls form)) count later)
      (expanded body (scope_of more inner (InCalls form)) count later) _ _
      (expanded_agree U body next more inner (InCalls form) count later goes)
      (λ x last. both_alone U last (items_from form body.place x))))))))))

  pub followed_agree : (levels : ℕ) → FollowAgree U (followed levels one) (followed levels other)
  unfolding followed
  followed_agree zero = call_none
  followed_agree (suc left) =
      call_some (followed left one) (followed left other) (followed_agree left)

  -- ---- arguments of `extends`

  argument_agree :
      (pair : NodePair) (frame : Frame) (before : SettledPairs) (used : List FileKey) →
      Agree U used (argument_behind pair (followed 100 one) frame before used)
      (argument_behind pair (followed 100 other) frame before used)
  argument_agree pair frame before used = by (is pair.key (codes "template"))
    where
      value : Agree U used (value_from pair.item (followed 100 one) frame before.count used)
          (value_from pair.item (followed 100 other) frame before.count used)
      value =
          both_then U used
          (expanded pair.item (scope_of (followed 100 one) frame Quiet) before.count used)
          (expanded pair.item (scope_of (followed 100 other) frame Quiet) before.count used) _ _
          (expanded_agree U pair.item (followed 100 one) (followed 100 other) frame Quiet
          before.count used (followed_agree 100))
          (λ x later. both_alone U later (mapping_from x))

      next : (b : Bool) → Agree U used
          (cond b (value_from pair.item (followed 100 one) frame before.count used)
          (refused WrongKind pair.key_place))
          (cond b (value_from pair.item (followed 100 other) frame before.count used)
          (refused WrongKind pair.key_place))
      next true = value
      next false = tt

      by : (b : Bool) → Agree U used
          (cond b (Ok (before, used)) (cond (is pair.key (codes "parameters"))
          (value_from pair.item (followed 100 one) frame before.count used)
          (refused WrongKind pair.key_place)))
          (cond b (Ok (before, used)) (cond (is pair.key (codes "parameters"))
          (value_from pair.item (followed 100 other) frame before.count used)
          (refused WrongKind pair.key_place)))
      by true = done U used before
      by false = next (is pair.key (codes "parameters"))

  arguments_agree :
      (pairs : List NodePair) (frame : Frame) (before : SettledPairs) (used : List FileKey) →
      Agree U used (arguments_behind pairs (followed 100 one) frame before used)
      (arguments_behind pairs (followed 100 other) frame before used)
  arguments_agree [] frame before used = done U used before
  arguments_agree (pair ∷ pairs) frame before used =
      both_then U used (argument_behind pair (followed 100 one) frame before used)
      (argument_behind pair (followed 100 other) frame before used)
      (arguments_behind pairs (followed 100 one) frame)
      (arguments_behind pairs (followed 100 other) frame)
      (argument_agree pair frame before used)
      (λ after later. arguments_agree pairs frame after later)

  -- ---- the template that is extended

  body_pair_agree :
      (pair : NodePair) (frame : Frame) (region : Region) (progress : Progress)
      (used : List FileKey) →
      Agree U used (body_pair pair (scope_of (followed 99 one) frame region) progress used)
      (body_pair pair (scope_of (followed 99 other) frame region) progress used)
  body_pair_agree pair frame region progress used = by (is pair.key (codes "parameters"))
    where
      by : (b : Bool) → Agree U used
          (cond b (Ok (progress, used))
          (pair_behind (entry_of pair) (scope_of (followed 99 one) frame region) progress used))
          (cond b (Ok (progress, used))
          (pair_behind (entry_of pair) (scope_of (followed 99 other) frame region) progress used))
      by true = done U used progress
      by false =
          pair_agree U (followed 99 one) (followed 99 other) (followed_agree 99) (entry_of pair)
          (entry_agrees U pair) frame region progress used

  body_pairs_agree :
      (pairs : List NodePair) (frame : Frame) (region : Region) (progress : Progress)
      (used : List FileKey) →
      Agree U used (body_pairs pairs (scope_of (followed 99 one) frame region) progress used)
      (body_pairs pairs (scope_of (followed 99 other) frame region) progress used)
  body_pairs_agree [] frame region progress used = done U used progress
  body_pairs_agree (pair ∷ pairs) frame region progress used =
      both_then U used (body_pair pair (scope_of (followed 99 one) frame region) progress used)
      (body_pair pair (scope_of (followed 99 other) frame region) progress used)
      (body_pairs pairs (scope_of (followed 99 one) frame region))
      (body_pairs pairs (scope_of (followed 99 other) frame region))
      (body_pair_agree pair frame region progress used)
      (λ after later. body_pairs_agree pairs frame region after later)

  opened_agree :
      (opened : OpenedFile) (asked : Asked) (frame : Frame) (count : ℕ) (used : List FileKey) →
      Agree U used
      (opened_filled opened asked.shown asked.arguments (followed 99 one) frame count used)
      (opened_filled opened asked.shown asked.arguments (followed 99 other) frame count used)
  opened_agree opened asked frame count used =
      same_then U used (file_node opened.file) _ _
      (λ node. same_then U used (extended_pairs node) _ _
      (λ pairs. same_then U used
      (framed_by (template_of opened.key pairs) frame.variables asked.arguments
      (Extends opened.key)
      asked.shown.crossings) _ _
      (λ inner. same_then U used (entered node.place count) _ _
      (λ count. both_then U used
      (body_pairs pairs (scope_of (followed 99 one) inner Free) (begun content.Pairs Closed count)
      used)
      (body_pairs pairs (scope_of (followed 99 other) inner Free) (begun content.Pairs Closed count)
      used)
      _ _ (body_pairs_agree pairs inner Free (begun content.Pairs Closed count) used)
      (λ after later. both_alone U later (extension_of opened.key after))))))

  reached_agree :
      (asked : Asked) (frame : Frame) (count : ℕ) (used : List FileKey) →
      Agree U used (reached_filled one asked frame count used)
      (reached_filled other asked frame count used)
  reached_agree asked frame count used =
      both_then U used (one asked.at asked.path used) (other asked.at asked.path used) _ _
      (opens asked.at asked.path used)
      (λ opened later. opened_agree opened asked frame count later)

  from_agree :
      (opened : Value-F Value MarkedNode MarkedPair) (key : Origin) (at place : Place)
      (frame : Frame) (count : ℕ) (used : List FileKey) →
      Agree U used (extended_from opened one key at place frame count used)
      (extended_from opened other key at place frame count used)
  from_agree (layer.Object pairs) key at place frame count used =
      same_then U used (pairs_asked key at pairs) _ _
      (λ asked. reached_agree asked frame count used)
  from_agree (layer.Array items) key at place frame count used = tt
  from_agree layer.Null key at place frame count used = tt
  from_agree (layer.Bool truth) key at place frame count used = tt
  from_agree (layer.Number number) key at place frame count used = tt
  from_agree (layer.Version segments) key at place frame count used = tt
  from_agree (layer.Str text) key at place frame count used = tt

  pub value_extends_agree :
      (key : Origin) (place : Place) (node : MarkedNode) (frame : Frame) (count : ℕ)
      (used : List FileKey) →
      Agree U used (value_extended one key place node frame count used)
      (value_extended other key place node frame count used)
  value_extends_agree key place node frame count used =
      from_agree (out-Value node.value) key node.origin.source place frame count used

  module _ (key : Origin) (frame : Frame) where
    mapping_agree :
        (place : Place) (pairs : List NodePair) (count : ℕ) (used : List FileKey) →
        Agree U used (mapping_extended one key place pairs frame count used)
        (mapping_extended other key place pairs frame count used)
    mapping_agree place pairs count used =
        same_then U used (entered place count) _ _
        (λ count. same_then U used (path_in pairs place frame count) _ _
        (λ path. same_then U used (path_text path.node) _ _
        (λ text. both_then U used
        (arguments_behind pairs (followed 100 one) frame
        (record { pairs = []; count = path.count }) used)
        (arguments_behind pairs (followed 100 other) frame
        (record { pairs = []; count = path.count }) used) _ _
        (arguments_agree pairs frame (record { pairs = []; count = path.count }) used)
        (λ arguments later. reached_agree
        (asking place text (shown key path.node.origin) arguments.pairs) frame arguments.count
        later))))

    pairs_extend_agree :
        (plain : Bool) (node : Node) (pairs : List NodePair) (count : ℕ) (used : List FileKey) →
        Agree U used (pairs_extended plain one key node pairs frame count used)
        (pairs_extended plain other key node pairs frame count used)
    pairs_extend_agree true node pairs count used = mapping_agree node.place pairs count used
    pairs_extend_agree false node pairs count used =
        both_then U used (expanded node (scope_of (followed 100 one) frame InExtends) count used)
        (expanded node (scope_of (followed 100 other) frame InExtends) count used) _ _
        (expanded_agree U node (followed 100 one) (followed 100 other) frame InExtends count used
        (followed_agree 100))
        (λ x later. value_extends_agree key node.place x.node frame x.count later)

    text_extends_agree :
        (given : Bool) (place : Place) (text : List ℕ) (count : ℕ) (used : List FileKey) →
        Agree U used (text_extended given one key place text frame count used)
        (text_extended given other key place text frame count used)
    text_extends_agree true place text count used =
        same_then U used (scalar_value text frame place count) _ _
        (λ x. value_extends_agree key place x.node frame x.count used)
    text_extends_agree false place text count used = tt

    extended_by_agree :
        (body : Body) (node : Node) (count : ℕ) (used : List FileKey) →
        Agree U used (extended_by body one key node frame count used)
        (extended_by body other key node frame count used)
    extended_by_agree (Map pairs) node count used =
        pairs_extend_agree (are_plain pairs) node pairs count used
    extended_by_agree (Scalar text) node count used =
        text_extends_agree (may_give (form_of text)) node.place text count used
    extended_by_agree (Seq items) node count used = tt

    pub extended_agree :
        (node : Node) (count : ℕ) (used : List FileKey) →
        Agree U used (extended one key node frame count used)
        (extended other key node frame count used)
    extended_agree node count used = extended_by_agree (body_of node) node count used
