-- The border `extends` stays the only one, whatever is crossed behind it.
use Rattle.std.proofs.Common.{◌≡◌, ℕ, Bool, true, false, Result, Ok, Err, List, [], ◌∷◌}
use Rattle.std.proofs.Common.{◌++◌, refl, ap, ◌∙◌}
use Rattle.std.specs.Prelude.{IfOk}
use Rattle.std.specs.List.{AllByRecursion as Each}
use Rattle.pl_base.specs.declared.origin.Crossing.{Crossing}
use Rattle.pl_base.specs.declared.origin.Crossing.TheVariants.{Extends, Include, Argument, Made}
use Rattle.pl_base.specs.declared.origin.Origin.{Origin}
use Rattle.pl_base.specs.declared.place.FileKey.{FileKey}
use Rattle.pl_base.specs.declared.place.Place.{Place}
use Rattle.pl_base.specs.declared.value.MarkedNode.{MarkedNode}
use Rattle.pl_frame.specs.declared.frame.Frame.{Frame}
use Rattle.pl_frame.specs.declared.frame.Loop.{Loop}
use Rattle.pl_frame.specs.declared.frame.Parameter.{Parameter}
use Rattle.pl_frame.specs.Names.{taken}
use Rattle.pl_frame.specs.Origins.{across}
use Rattle.pl_recursion.specs.Below.pl_calls.specs.Reaching.{Opens, node_in as file_node}
use Rattle.pl_recursion.specs.Expanding.{expanded}
use Rattle.pl_recursion.specs.Following.{scope_of}
use Rattle.pl_recursion.specs.Levels.{followed}
use Rattle.pl_eval_laws.specs.Marks.{Said, marks_of}
use Rattle.pl_eval_laws.proofs.Lists.{each_implies, each_of}
use Rattle.pl_eval_laws.specs.Trees.{origins_of}
use Rattle.pl_eval_laws.proofs.Trees.{Asked, Marked, NodeFrom, node_implies, only}
use Rattle.pl_origins.specs.Behind.{IsTreeThrough, KeepsWhatWasExtended}
use Rattle.pl_origins.specs.Through.{extended_in}
use Rattle.pl_origins.proofs.Called.{Borders, FileIn, OpensFrom, followed_gives}
use Rattle.pl_origins.proofs.Expanded.{expanded_gives}
use Rattle.pl_origins.proofs.Following.{FollowFrom}
use Rattle.pl_origins.proofs.Frames.{Seen, SeenFrom, Keeps, Reads, FrameFrom, ParameterFrom}
use Rattle.pl_origins.proofs.Leading.{leads_follow}
use Rattle.pl_origins.proofs.Moved.{moved_from}
use Rattle.pl_origins.proofs.Nodes.{Site, site, NodeIn, anywhere, nothing_said}
use Rattle.pl_origins.proofs.Scalars.{OneFrom}
use Rattle.pl_origins.proofs.Steps.{Used, Gives, implied}

-- ---- where nothing is asked

pub any_ok :
    {X E : Type 0} (Q : X → Type 0) → ((x : X) → Q x) → (step : Result X E) → IfOk step Q
any_ok Q all (Ok x) = all x
any_ok Q all (Err fault) = tt

-- of places nothing is known, and nothing of what is said there
abbrev pub NoPlace : FileKey → Site
NoPlace key = site (λ place. Unit {0})

abbrev pub NoFile : Place → List ℕ → FileKey → Type 0
NoFile at path key = Unit {0}

-- of origins alone nothing is asked of what is said
abbrev pub Silent : Place → Said → Type 0
Silent place said = Unit {0}

pub silent_keeps : Keeps Silent
silent_keeps = record {
  cast = λ place one says. tt;
  text = λ place name says. tt;
  name = λ place name says. tt;
  value = λ place name says. tt;
}

pub silent_reads : (R : Site) (own : Origin → Type 0) → Reads R (only own)
silent_reads R own = record {
  says = λ place said says. tt;
  default = λ place of before after says is. tt;
  calls = λ at from text begins. tt;
  asked = λ at from one asks. tt;
  keeps = silent_keeps;
}

abbrev pub NoFiles : List FileKey → Type 0
NoFiles used = Unit {0}

pub plainly :
    {X : Type 0} (Q : X → Type 0) (H : Type 0) (used : List FileKey) (step : Used X) → H →
    Gives NoFiles H used step Q → IfOk step (λ both. Q both.0)
plainly Q H used (Ok both) h gives = gives.1 tt h
plainly Q H used (Err fault) h gives = tt

pub opens_anything : (opens : Opens) → OpensFrom NoPlace NoFile NoFiles opens
opens_anything opens = record {
  file =
      λ at path used. any_ok (λ both. FileIn NoPlace both.0)
      (λ both. any_ok (NodeIn (NoPlace both.0.key)) (anywhere (NoPlace both.0.key) (λ place. tt)
      (nothing_said (λ place. Unit {0})))
      (file_node both.0.file))
      (opens at path used);
  used =
      λ at path used. any_ok (λ both. (NoFiles both.1 → NoFiles used)
      × (NoFiles both.1 → Unit {0} → NoFile at path both.0.key)) (λ both. (
        λ ends. tt,
        λ ends h.
            tt,
      ))
      (opens at path used);
}

-- ---- borders behind others

abbrev IsOther : Crossing → Type 0
IsOther crossing = extended_in (crossing ∷ []) ≡ []

pub extended_last :
    (crossings : List Crossing) (crossing : Crossing) → IsOther crossing →
    extended_in (crossings ++ crossing ∷ []) ≡ extended_in crossings
extended_last [] crossing other = other
extended_last (Extends file ∷ crossings) crossing other =
    ap (λ files. file ∷ files) (extended_last crossings crossing other)
extended_last (Include file at ∷ crossings) crossing other = extended_last crossings crossing other
extended_last (Argument name at ∷ crossings) crossing other =
    extended_last crossings crossing other
extended_last (Made ∷ crossings) crossing other = extended_last crossings crossing other

-- with a list of extended files that stays
module _ (files : List FileKey) where
  abbrev pub IsExtending : Origin → Type 0
  IsExtending origin = extended_in origin.crossings ≡ files

  abbrev pub Extending : Asked
  Extending = only IsExtending

  more :
      (crossings : List Crossing) (crossing : Crossing) → IsOther crossing →
      extended_in crossings ≡ files → extended_in (crossings ++ crossing ∷ []) ≡ files
  more crossings crossing other is = extended_last crossings crossing other ∙ is

  pub argument_kept :
      (name : List ℕ) (place : Place) (origin : Origin) → IsExtending origin →
      IsExtending (across (Argument name place) origin)
  argument_kept name place origin is = more origin.crossings (Argument name place) refl is

  pub kept : Borders Extending NoPlace NoFile
  kept = record {
    literal =
        λ key call place known from_call path stands.
        more call.crossings (Include key call.at) refl from_call;
    made =
        λ key call place known from_call path stands.
        more (call.crossings ++ Include key call.at ∷ []) Made refl
        (more call.crossings (Include key call.at) refl from_call);
    argument =
        λ key call given name place known from_call from_given stands.
        let is =
        more (given.crossings ++ Include key call.at ∷ []) (Argument name place) refl
        (more given.crossings (Include key call.at) refl from_given) in
        (is, λ at stands. is);
    reads = λ key. silent_reads (NoPlace key) IsExtending;
    keeps = silent_keeps;
  }

  module _ (file : FileKey) where
    -- no place is asked, so it holds of each call whose path it holds of
    abbrev SeenThere : Asked
    SeenThere = Seen Extending (NoPlace file)

    seen_kept : (node : MarkedNode) → Each IsExtending (origins_of node) →
        SeenFrom Extending (NoPlace file) node
    seen_kept node all =
        node_implies Extending SeenThere Extending Extending
        (λ origin is. (is, λ place stands. is)) (λ origin is. is)
        (λ item path one calls. calls) (λ origin said told. told) node
        (leads_follow Extending Extending (λ item path is_item is_path. is_path)
        (λ at from one. tt) node all
        (each_of (Marked Extending) (λ one files. tt) (marks_of node)))

    taken_kept :
        (given : Bool) (name : List ℕ) (at place : Place) (one : MarkedNode) →
        Each IsExtending (origins_of one) →
        SeenFrom Extending (NoPlace file) (taken place (record {
          name = name;
          place = at;
          value = one;
          given = given;
        }))
    taken_kept true name at place one all =
        moved_from SeenThere SeenThere Extending Extending (across (Argument name place))
        (λ origin seen. (
          argument_kept name place origin seen.0,
          λ at stands. argument_kept name place origin seen.0,
        ))
        (argument_kept name place) (λ item path. refl) (λ item path one own calls files. tt)
        (λ origin said own told files. tt) one
        (seen_kept one all)
    taken_kept false name at place one all = seen_kept one all

    pub frame_kept :
        (frame : Frame) → extended_in frame.crossings ≡ files →
        Each (λ (one : Parameter). Each IsExtending (origins_of one.value)) frame.parameters →
        Each (λ (one : Loop). Each IsExtending (origins_of one.item)) frame.loops →
        FrameFrom Extending (NoPlace file) frame
    frame_kept frame crossed parameters loops = record {
      literal = λ place stands. crossed;
      made = λ place stands. more frame.crossings Made refl crossed;
      reads = silent_reads (NoPlace file) IsExtending;
      parameters =
          each_implies (λ (one : Parameter). Each IsExtending (origins_of one.value))
          (ParameterFrom Extending (NoPlace file))
          (λ one all. (
            (tt, tt),
            λ place stands. taken_kept one.given one.name one.place place one.value
                all,
          ))
          frame.parameters parameters;
      loops =
          each_implies (λ (one : Loop). Each IsExtending (origins_of one.item))
          (λ (one : Loop). SeenFrom Extending (NoPlace file) one.item)
          (λ one all. seen_kept one.item all) frame.loops loops;
    }

  pub follow_kept :
      (levels : ℕ) (opens : Opens) → FollowFrom Extending NoFiles (followed levels opens)
  follow_kept levels opens =
      followed_gives Extending NoPlace NoFile NoFiles kept opens (opens_anything opens) levels

-- ---- what is expanded behind the border

pub keeps : KeepsWhatWasExtended
unfolding NodeFrom
keeps file levels opens frame node region count used behind =
    let step = expanded node (scope_of (followed levels opens) frame region) count used in
    plainly (λ one. IsTreeThrough file one.node) (Unit {0}) used step tt
    (implied NoFiles (OneFrom (Extending (file ∷ [])) (NoPlace file))
    (λ one. IsTreeThrough file one.node) (Unit {0}) used step (λ one h held. held.0.0)
    (expanded_gives (Extending (file ∷ [])) (NoPlace file) NoFiles node
    (anywhere (NoPlace file) (λ place. tt) (nothing_said (λ place. Unit {0})) node) (Unit {0})
    (followed levels opens) frame region
    count used (follow_kept (file ∷ []) levels opens)
    (λ h. frame_kept (file ∷ []) file frame behind.crossings behind.parameters behind.loops)))
