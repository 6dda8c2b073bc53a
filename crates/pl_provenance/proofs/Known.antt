-- Every origin of an expanded tree tells places that exist.
use Rattle.std.proofs.Common.{◌≡◌, inl, inr, ℕ, zero, suc, ◌<◌, Bool, true, false, cond}
use Rattle.std.proofs.Common.{Option, Some, None, Result, Ok, Err, List, [], ◌∷◌, ◌++◌, length}
use Rattle.std.proofs.Common.{refl, sym, subst, arith}
use Rattle.std.specs.Prelude.{Contains, IfOk, codes, filter, not, nat_le, ◌||◌}
use Rattle.std.specs.List.{slice_index_or}
use Rattle.std.specs.FinMap as finite
use Rattle.std.specs.List.{AllByRecursion as Each}
use Rattle.std.proofs.lemmas.Bool.{false≢true}
use Rattle.pl_base.specs.declared.expanded.Argument.{Argument as RunArgument}
use Rattle.pl_base.specs.declared.expanded.Expanded.{Expanded}
use Rattle.pl_base.specs.declared.node.Node.{Node}
use Rattle.pl_base.specs.declared.node.NodePair.{NodePair}
use Rattle.pl_base.specs.declared.node.NodeBody.TheOpen.{Scalar, Seq, Map}
use Rattle.pl_base.specs.declared.origin.Crossing.{Crossing}
use Rattle.pl_base.specs.declared.origin.Crossing.TheVariants.{Extends, Include, Argument, Made}
use Rattle.pl_base.specs.declared.origin.Origin.{Origin}
use Rattle.pl_base.specs.declared.place.FileKey.{FileKey}
use Rattle.pl_base.specs.declared.place.Place.{Place}
use Rattle.pl_base.specs.declared.value.Value.{Str}
use Rattle.pl_line.specs.declared.code.YamlCode.{YamlCode}
use Rattle.pl_base.specs.Texts.{is}
use Rattle.pl_paths.specs.Paths.{cut_path}
use Rattle.pl_yaml.specs.Spells as yaml
use Rattle.pl_frame.specs.declared.frame.Parameter.{Parameter}
use Rattle.pl_directives.specs.declared.fault.ExpandFault.{ExpandFault}
use Rattle.pl_directives.specs.declared.region.Region.TheVariants.{Free}
use Rattle.pl_directives.specs.declared.fault.ExpandProblem.TheVariants.{TooManyFiles}
use Rattle.pl_directives.specs.Complaints.{refused}
use Rattle.pl_calls.specs.Meant.{◌>>>◌}
use Rattle.pl_calls.specs.Parts.{Body, body_of}
use Rattle.pl_params.specs.Nodes.{under}
use Rattle.pl_calls.specs.Reaching.{Opens, opens as opens_of, target, same_file, is_called}
use Rattle.pl_calls.specs.Reaching.{called_then, found_at, opened_at}
use Rattle.pl_calls.specs.declared.files.Parsed.{Parsed}
use Rattle.pl_calls.specs.declared.reaching.Home.{Home}
use Rattle.pl_calls.specs.declared.reaching.Opened.{Opened as OpenedFile}
use Rattle.pl_origins.specs.Below.pl_recursion.specs.Expanding.{expanded}
use Rattle.pl_origins.specs.Below.pl_recursion.specs.Following.{scope_of}
use Rattle.pl_origins.specs.Below.pl_recursion.specs.Levels.{followed}
use Rattle.pl_eval_laws.proofs.Lists.{Has, each_append, each_front, each_back, each_implies}
use Rattle.pl_eval_laws.proofs.Lists.{each_contained, each_of}
use Rattle.pl_eval_laws.specs.Marks.{IsOfFiles, marks_of, scalar}
use Rattle.pl_eval_laws.specs.Trees.{origins_of}
use Rattle.pl_eval_laws.proofs.Trees.{Asked as Wanted, NodeFrom, Any, node_implies}
use Rattle.pl_origins.specs.Places.{places_of}
use Rattle.pl_origins.specs.Spots.{spots_of}
use Rattle.pl_origins.proofs.Called.{Borders, OpensFrom, followed_gives}
use Rattle.pl_origins.proofs.Contents.{ProgressFrom}
use Rattle.pl_origins.proofs.Expanded.{expanded_gives}
use Rattle.pl_origins.proofs.Frames.{Seen, Reads, ParameterFrom}
use Rattle.pl_origins.proofs.Nodes.{Site, site, Spotted, NodeIn, PairIn, BodyIn, node_in}
use Rattle.pl_origins.proofs.Nodes.{nothing_said}
use Rattle.pl_origins.proofs.Nodes.{under_in}
use Rattle.pl_origins.proofs.SameFile.{same_key}
use Rattle.pl_origins.proofs.Scalars.{OneFrom}
use Rattle.pl_origins.proofs.Steps.{Used, Gives, ok_then, static_then, used_then}
use Rattle.pl_origins.proofs.Steps.{done_gives}
use Rattle.pl_expand.specs.Below.pl_extends.specs.declared.rooting.RootFilling.{RootFilling}
use Rattle.pl_expand.specs.declared.root.RootNode.{RootNode}
use Rattle.pl_expand.specs.declared.root.RootTree.{RootTree}
use Rattle.pl_expand.specs.Below.pl_root.specs.Resources.{earliest}
use Rattle.pl_expand.specs.Tree.{Set, unless}
use Rattle.pl_expand.specs.Below.pl_root.specs.Arguments.{argument_file, parameters_by}
use Rattle.pl_expand.specs.Below.pl_root.specs.Keys.{root_complaints}
use Rattle.pl_expand.specs.Below.pl_root.specs.Frames.{first_frame}
use Rattle.pl_expand.specs.Tree.{root_from, root_object, root_mapping, pairs_expanded, home_of}
use Rattle.pl_expand.specs.Tree.{bare_home, used_files, mapping_expanded, bare_expanded}
use Rattle.pl_expand.specs.Tree.{other_expanded, body_expanded_by, root_node, tree_of}
use Rattle.pl_provenance.specs.Known.{IsUsed, IsGiven, IsPlace, IsUsedFile, IsBorder}
use Rattle.pl_provenance.specs.Known.{IsCalling, Leads, home_in, IsKnown, OriginsAreKnown}
use Rattle.pl_provenance.specs.Texts.{Says, IsSaid, TextsAreWritten}
use Rattle.pl_provenance.proofs.Saying.{Calls, saying_keeps, saying_reads}
use Rattle.pl_provenance.specs.Written.{StandsInFile}
use Rattle.pl_provenance.proofs.Extended.{ExtendsBorder, ExtensionFrom}
use Rattle.pl_provenance.proofs.Merged.{object_from_root}
use Rattle.pl_provenance.proofs.Rooted.{RootBorder, ArgumentIn, parameters_are, root_frame_from}
use Rattle.pl_provenance.proofs.Rooted.{pairs_expanded_give}
use Rattle.pl_provenance.proofs.Whole.{unless_kept}
use Rattle.pl_provenance.proofs.Standing.{IsIn, files_stand, root_stands}

-- ---- what stands in a list

pub first_in : {X : Type 0} (x : X) (xs : List X) → Contains (x ∷ xs) x
first_in x xs = (0, omega arith, refl)

pub later_in : {X : Type 0} (first : X) (xs : List X) (x : X) → Contains xs x →
    Contains (first ∷ xs) x
later_in first xs x (at, within, is) = (suc at, omega (arith, within), is)

-- ---- the files that are used in the end

module _ (final : List FileKey) where
  abbrev AreUsed : List FileKey → Type 0
  AreUsed used = Each (Contains final) used

  called_by :
      (key one : FileKey) (used : List FileKey) → Contains final one →
      (is_called key used ≡ true → Contains final key) →
      (b : Bool) → same_file key one ≡ b → (b || is_called key used) ≡ true → Contains final key
  called_by key one used first later true same called =
      subst (Contains final) (sym (same_key key one same)) first
  called_by key one used first later false other called = later called

  called_used :
      (key : FileKey) (used : List FileKey) → is_called key used ≡ true → AreUsed used →
      Contains final key
  called_used key [] called all = absurd (false≢true called)
  called_used key (one ∷ used) called all =
      called_by key one used all.0 (λ later. called_used key used later all.1)
      (same_file key one) refl called

  then_gives :
      (at : Place) (key : FileKey) (used : List FileKey) →
      Gives AreUsed (Unit {0}) used (called_then at key used) (λ none. Contains final key)
  then_gives at key used = by (is_called key used) refl
    where
      more : (b : Bool) → Gives AreUsed (Unit {0}) used
          (cond b (refused {X = Unit {0} × List FileKey} TooManyFiles at)
          (Ok (tt, used ++ key ∷ []))) (λ none. Contains final key)
      more true = tt
      more false = (
        λ all. each_front (Contains final) used (key ∷ []) all,
        λ all h. (each_back (Contains final) used (key ∷ []) all).0,
      )

      by : (b : Bool) → is_called key used ≡ b → Gives AreUsed (Unit {0}) used
          (cond b (Ok (tt, used))
          (cond (nat_le 100 (length used)) (refused {X = Unit {0} × List FileKey} TooManyFiles at)
          (Ok (tt, used ++ key ∷ [])))) (λ none. Contains final key)
      by true called = (λ all. all, λ all h. called_used key used called all)
      by false other = more (nat_le 100 (length used))

  module _ (files : Set) (home : Home) where
    -- of which is known where the item of a call stands
    abbrev IsCalledFrom : Place → List ℕ → FileKey → Type 0
    IsCalledFrom at path key =
        IsUsedFile files final key × (target at (cut_path path) home ≡ Ok (Some key))

    abbrev IsFinal : Place → List ℕ → OpenedFile → Type 0
    IsFinal at path opened = IsCalledFrom at path opened.key

    found_gives :
        (at : Place) (path : List ℕ) (key : FileKey) (found : Option Parsed)
        (used : List FileKey) → finite.get files key ≡ found →
        target at (cut_path path) home ≡ Ok (Some key) →
        Gives AreUsed (Unit {0}) used (found_at at key found used) (IsFinal at path)
    found_gives at path key None used there reached = tt
    found_gives at path key (Some file) used there reached =
        used_then AreUsed (λ none. Contains final key) (IsFinal at path) (Unit {0}) used
        (called_then at key used) _ (then_gives at key used)
        (λ none later. done_gives AreUsed (IsFinal at path) (Unit {0} × Contains final key) later
        (record { key = key; file = file }) (λ h. ((h.1, (file, there)), reached)))

    opened_gives :
        (at : Place) (path : List ℕ) (key : Option FileKey) (used : List FileKey) →
        target at (cut_path path) home ≡ Ok key →
        Gives AreUsed (Unit {0}) used (opened_at files at key used) (IsFinal at path)
    opened_gives at path None used leads = tt
    opened_gives at path (Some key) used leads =
        found_gives at path key (finite.get files key) used refl leads

    itself :
        {X : Type 0} (step : Result X ExpandFault) → IfOk step (λ x. step ≡ Ok x)
    itself (Ok x) = refl
    itself (Err fault) = tt

    opens_known : OpensFrom (IsIn files) IsCalledFrom AreUsed (opens_of files home)
    opens_known = record {
      file = files_stand files home;
      used =
          λ at path used. static_then AreUsed (λ key. target at (cut_path path) home ≡ Ok key)
          (IsFinal at path) (Unit {0}) used (target at (cut_path path) home) _
          (itself (target at (cut_path path) home))
          (λ key leads. opened_gives at path key used leads);
    }

-- ---- one border more leads on

module _ (files : Set) (home : Home) where
  -- the path of the call stands where the item does
  called_on :
      (file : FileKey) (crossings : List Crossing) (key : FileKey) (at from place : Place)
      (path : List ℕ) → Leads files home file crossings at →
      Leads files home file crossings from → Says files from (scalar (Str path)) →
      IsCalling files at from path →
      target at (cut_path path) home ≡ Ok (Some key) → StandsInFile files key place →
      Leads files home file (crossings ++ Include key at ∷ []) place
  called_on file [] key at from place path leads stands says calls reached here = (
    leads,
    (
      record {
        place = from;
        path = path;
        stands = stands;
        says = says;
        calls = calls;
        leads = reached;
      },
      here,
    ),
  )
  called_on file (Extends other ∷ crossings) key at from place path leads stands says calls
      reached here =
      called_on other crossings key at from place path leads stands says calls reached here
  called_on file (Include other there ∷ crossings) key at from place path leads stands says
      calls reached here = (
        leads.0,
        (
          leads.1.0,
          called_on other crossings key at from place path leads.1.1 stands.1.1 says calls
              reached here,
        ),
      )
  called_on file (Argument name there ∷ crossings) key at from place path leads stands says
      calls reached here = leads
  called_on file (Made ∷ crossings) key at from place path leads stands says calls reached here =
      leads

  extended_on :
      (file : FileKey) (crossings : List Crossing) (key : FileKey) (there place : Place) →
      Leads files home file crossings there → StandsInFile files key place →
      Leads files home file (crossings ++ Extends key ∷ []) place
  extended_on file [] key there place leads stands = stands
  extended_on file (Extends other ∷ crossings) key there place leads stands =
      extended_on other crossings key there place leads stands
  extended_on file (Include other at ∷ crossings) key there place leads stands =
      (leads.0, (leads.1.0, extended_on other crossings key there place leads.1.1 stands))
  extended_on file (Argument name at ∷ crossings) key there place leads stands = leads
  extended_on file (Made ∷ crossings) key there place leads stands = leads

-- ---- what is known is kept across borders

module _ (files : Set) (home : Home) (final : List FileKey) (arguments : List RunArgument) where
  abbrev IsSo : Origin → Type 0
  IsSo = IsKnown files home final arguments

  abbrev Known : Wanted
  Known = record { own = IsSo; says = Says files; calls = Calls files }

  known_reads : (key : FileKey) → Reads (IsIn files key) Known
  known_reads =
      saying_reads files Known (λ place said says. says) (λ at from one calls. calls)
      (saying_keeps files)

  abbrev Border : Crossing → Type 0
  Border = IsBorder files home final arguments

  abbrev Led : List Crossing → Place → Type 0
  Led crossings place = Each IsOfFiles crossings → Leads files home home.root crossings place

  in_file : (key : FileKey) (place : Place) → Contains final key → StandsInFile files key place →
      IsUsed files final place
  in_file key place known here = record { key = key; is_used = known; stands = here }

  behind : (crossings : List Crossing) (crossing : Crossing) → Each Border crossings →
      Border crossing → Each Border (crossings ++ crossing ∷ [])
  behind crossings crossing all one = each_append Border crossings (crossing ∷ []) all (one, tt)

  -- what stands before a border between files has such borders alone
  before : (crossings : List Crossing) (crossing : Crossing) →
      Each IsOfFiles (crossings ++ crossing ∷ []) → Each IsOfFiles crossings
  before crossings crossing all = each_front IsOfFiles crossings (crossing ∷ []) all

  -- behind an argument or an expression nothing is led
  given_led : (crossings : List Crossing) (crossing : Crossing) (place : Place) →
      (IsOfFiles crossing → ⊥) → Led (crossings ++ crossing ∷ []) place
  given_led crossings crossing place none all =
      absurd (none (each_back IsOfFiles crossings (crossing ∷ []) all).0)

  -- what an argument gave keeps its borders wherever it stands in the frame's file
  given_seen :
      (key : FileKey) (source : Place) (crossings : List Crossing) (name : List ℕ)
      (place : Place) → Contains final key → StandsInFile files key place →
      IsPlace files final arguments source → Each Border crossings →
      (Seen Known (IsIn files key)).own
      (record { source = source; crossings = crossings ++ Argument name place ∷ [] })
  given_seen key source crossings name place known here own all =
      let borders = behind crossings (Argument name place) all (in_file key place known here) in (
        (own, borders, given_led crossings (Argument name place) source (λ none. none)),
        λ at stands. (
          inl (in_file key at known stands),
          borders,
          given_led crossings (Argument name place) at (λ none. none),
        ),
      )

  abbrev Called : Place → List ℕ → FileKey → Type 0
  Called = IsCalledFrom final files home

  known_inside : Borders Known (IsIn files) Called
  known_inside = record {
    literal =
        λ key call place known own path here. (
          inl (in_file key place known.0.0 here),
          behind call.crossings (Include key call.at) own.1
              (known.0, own.0, (call.path, known.1)),
          λ all. let files_before = before call.crossings (Include key call.at) all in
              called_on files home home.root call.crossings key call.at path.0 place call.path
              (own.2 files_before) (path.1.0.2 files_before) (path.1.1.0 files_before)
              (subst (IsCalling files call.at path.0) path.1.1.1.1.0
              (path.1.1.1.1.1 files_before)) known.1 here,
        );
    made =
        λ key call place known own path here. (
          inl (in_file key place known.0.0 here),
          behind (call.crossings ++ Include key call.at ∷ []) Made
              (behind call.crossings (Include key call.at) own.1
              (known.0, own.0, (call.path, known.1))) tt,
          given_led (call.crossings ++ Include key call.at ∷ []) Made place (λ none. none),
        );
    argument =
        λ key call given name place known own from_given here.
        given_seen key given.source (given.crossings ++ Include key call.at ∷ []) name place
        known.0.0 here from_given.0
        (behind given.crossings (Include key call.at) from_given.1
        (known.0, own.0, (call.path, known.1)));
    reads = known_reads;
    keeps = saying_keeps files;
  }

  abbrev AnyFile : FileKey → Wanted
  AnyFile file = Known

  known_crossing : ExtendsBorder Known AnyFile (IsIn files) Called
  known_crossing = record {
    literal =
        λ key from words path place known own here. (
          inl (in_file key place known.0.0 here),
          behind path.crossings (Extends key) own.1 known.0,
          λ all. extended_on files home home.root path.crossings key path.source place
              (own.2 (before path.crossings (Extends key) all)) here,
        );
    made =
        λ key from words path place known own here. (
          inl (in_file key place known.0.0 here),
          behind (path.crossings ++ Extends key ∷ []) Made
              (behind path.crossings (Extends key) own.1 known.0) tt,
          given_led (path.crossings ++ Extends key ∷ []) Made place (λ none. none),
        );
    argument =
        λ key from words one name place known own here.
        given_seen key one.source (one.crossings ++ Extends key ∷ []) name place known.0.0 here
        own.0 (behind one.crossings (Extends key) own.1 known.0);
    reads = known_reads;
  }

  abbrev OfArguments : RunArgument → Place → Type 0
  OfArguments argument place = IsGiven arguments place

  begins : Contains final home.root → RootBorder Known (IsIn files home.root) OfArguments
  begins known = record {
    literal = λ place here. (inl (in_file home.root place known here), tt, λ all. here);
    made =
        λ place here. (
          inl (in_file home.root place known here),
          (tt, tt),
          given_led [] Made place (λ none. none),
        );
    argument =
        λ argument source stands parameter place here.
        given_seen home.root source [] parameter place known here (inr stands) tt;
    reads = known_reads home.root;
  }

-- ---- the places of run arguments

module _ (arguments : List RunArgument) where
  spelled_in :
      (argument : RunArgument) → Contains arguments argument →
      (read : Result Node (YamlCode × Place)) →
      yaml.spells (argument_file argument.name) argument.text ≡ read →
      IfOk read (NodeIn (site (λ place. IsGiven arguments place)))
  unfolding NodeIn
  spelled_in argument among (Ok node) is = (
    each_implies (Contains (places_of node)) (λ place. IsGiven arguments place)
        (λ place stands. record {
          argument = argument;
          is_given = among;
          stands = inr (record { node = node; spelled = is; stands = stands });
        }) (places_of node) (each_contained (places_of node)),
    each_of (Spotted (site (λ place. IsGiven arguments place)))
        (λ one. nothing_said (λ place. IsGiven arguments place) one.place one.written)
        (spots_of node),
  )
  spelled_in argument among (Err told) is = tt

  arguments_known : Each (ArgumentIn (λ argument place. IsGiven arguments place)) arguments
  arguments_known =
      each_implies (Contains arguments) (ArgumentIn (λ argument place. IsGiven arguments place))
      (λ argument among. (
        record { argument = argument; is_given = among; stands = inl refl },
        spelled_in argument among (yaml.spells (argument_file argument.name) argument.text) refl,
      )) arguments (each_contained arguments)

-- ---- all files that were called are among those that are used in the end

module _ (root : FileKey) where
  abbrev IsAnother : FileKey → Bool
  IsAnother key = not (same_file key root)

  shifted :
      (first : FileKey) (files : List FileKey) (key : FileKey) (at : ℕ) →
      at < length (root ∷ files) → slice_index_or (root ∷ files) at key ≡ key →
      Contains (root ∷ first ∷ files) key
  shifted first files key zero within is = (0, omega arith, is)
  shifted first files key (suc at) within is = (suc (suc at), omega (arith, within), is)

  all_used : (ends : List FileKey) → Each (Contains (used_files root ends)) ends
  all_used [] = tt
  all_used (key ∷ ends) = by (same_file key root) refl (all_used ends)
    where
      by : (b : Bool) → same_file key root ≡ b → Each (Contains (used_files root ends)) ends →
          Each (Contains (root ∷ cond (not b) (key ∷ filter IsAnother ends)
          (filter IsAnother ends))) (key ∷ ends)
      by true same all = (
        subst (Contains (used_files root ends)) (sym (same_key key root same))
            (first_in root (filter IsAnother ends)),
        all,
      )
      by false other all = (
        later_in root (key ∷ filter IsAnother ends) key (first_in key (filter IsAnother ends)),
        each_implies (Contains (used_files root ends))
            (Contains (root ∷ key ∷ filter IsAnother ends))
            (λ one stands. shifted key (filter IsAnother ends) one stands.0 stands.1 stands.2)
            ends all,
      )

-- ---- the whole

if_all :
    {X E : Type 0} (Q : List FileKey → X → Type 0) (step : Result X E) →
    ((ends : List FileKey) → IfOk step (Q ends)) → IfOk step (λ x. (ends : List FileKey) → Q ends x)
if_all Q (Ok x) all = all
if_all Q (Err fault) all = tt

module _ (files : Set) (root : FileKey) (arguments : List RunArgument) where
  abbrev In : Home → List FileKey → Wanted
  In home ends = Known files home (used_files root ends) arguments

  abbrev R : Site
  R = IsIn files root

  abbrev U : List FileKey → List FileKey → Type 0
  U ends = AreUsed (used_files root ends)

  abbrev TreeKnown : RootTree → Type 0
  TreeKnown one =
      NodeFrom (Known files (home_in root one.expanded) one.expanded.used arguments) Any
      one.expanded.tree

  ends_then :
      {A : Type 0} (Q : List FileKey → A → Type 0) (step : Used A)
      (next : A → List FileKey → Result RootTree ExpandFault) →
      ((ends : List FileKey) → Gives (U ends) (Unit {0}) [] step (Q ends)) →
      ((x : A) (ends : List FileKey) → Q ends x → IfOk (next x ends) TreeKnown) →
      IfOk (step >>> next) TreeKnown
  ends_then Q (Ok both) next gives goes =
      goes both.0 both.1 ((gives both.1).1 (all_used root both.1) tt)
  ends_then Q (Err fault) next gives goes = tt

  root_used : (ends : List FileKey) → Contains (used_files root ends) root
  root_used ends = first_in root (filter (IsAnother root) ends)

  finishes :
      (home : Home) (ends : List FileKey) (origin : Origin) (filling : RootFilling) →
      (In home ends).own origin →
      ProgressFrom (In home ends) R filling.progress
      × Has (ExtensionFrom (λ file. In home ends)) filling.extension →
      IfOk (root_from origin filling) (λ one. NodeFrom (In home ends) Any one.node)
  finishes home ends origin filling own all =
      ok_then (NodeFrom (In home ends) Any)
      (λ (one : RootNode). NodeFrom (In home ends) Any one.node)
      (root_object filling.extension origin filling.progress.content) _
      (object_from_root (In home ends) (saying_keeps files) R
      filling.extension origin filling.progress.content own all.1
      all.0)
      (λ node is. is)

  mapping_known :
      (place : Place) (pairs : List NodePair) → R.at place → Each (PairIn R) pairs →
      IfOk (mapping_expanded files root place pairs arguments) TreeKnown
  mapping_known place pairs here within =
      ok_then (Each (PairIn R)) TreeKnown (unless (earliest (root_complaints pairs)) pairs) _
      (unless_kept (Each (PairIn R)) (earliest (root_complaints pairs)) pairs within)
      (λ pairs within. let home : Home = home_of root pairs in
      ok_then
      (λ parameters. (ends : List FileKey) → Each (ParameterFrom (In home ends) R) parameters)
      TreeKnown (parameters_by (under (codes "parameters") pairs) arguments) _
      (if_all (λ ends. Each (ParameterFrom (In home ends) R))
      (parameters_by (under (codes "parameters") pairs) arguments)
      (λ ends. parameters_are (In home ends) R
      (OfArguments files home (used_files root ends) arguments)
      (begins files home (used_files root ends) arguments (root_used ends))
      (under (codes "parameters") pairs) arguments (arguments_known arguments)
      (under_in R (codes "parameters") pairs within)))
      (λ parameters are. ends_then (λ ends one. NodeFrom (In home ends) Any one.node)
      (pairs_expanded (root_mapping root place pairs parameters)
      (opens_of files home)) _
      (λ ends. pairs_expanded_give (In home ends) (λ file. In home ends) (IsIn files)
      (IsCalledFrom (used_files root ends) files home) (U ends)
      (known_crossing files home (used_files root ends) arguments)
      (λ file. known_inside files home (used_files root ends) arguments)
      (known_inside files home (used_files root ends) arguments)
      (opens_of files home)
      (opens_known (used_files root ends) files home) root
      (OfArguments files home (used_files root ends) arguments)
      (begins files home (used_files root ends) arguments (root_used ends))
      (λ one. NodeFrom (In home ends) Any one.node) (finishes home ends) place pairs parameters here
      within (are ends))
      (λ one ends is. is)))

  -- a root that is no mapping has no resources
  abbrev Bare : List FileKey → Wanted
  Bare ends = In (bare_home root) ends

  begins_bare : (ends : List FileKey) →
      RootBorder (Bare ends) R (OfArguments files (bare_home root) (used_files root ends) arguments)
  begins_bare ends =
      begins files (bare_home root) (used_files root ends) arguments (root_used ends)

  bare_known :
      (node : Node) (parameters : List Parameter) → NodeIn R node →
      ((ends : List FileKey) → Each (ParameterFrom (Bare ends) R) parameters) →
      IfOk (bare_expanded files root node (first_frame root parameters)) TreeKnown
  bare_known node parameters within are =
      let opens : Opens = opens_of files (bare_home root) in
      ends_then (λ ends. OneFrom (Bare ends) R)
      (expanded node (scope_of (followed 100 opens) (first_frame root parameters) Free) 0 []) _
      (λ ends. expanded_gives (Bare ends) R (U ends) node within (Unit {0}) (followed 100 opens)
      (first_frame root parameters) Free 0 []
      (followed_gives (Bare ends) (IsIn files)
      (IsCalledFrom (used_files root ends) files (bare_home root)) (U ends)
      (known_inside files (bare_home root) (used_files root ends) arguments) opens
      (opens_known (used_files root ends) files (bare_home root)) 100)
      (λ h. root_frame_from (Bare ends) R
      (OfArguments files (bare_home root) (used_files root ends) arguments) (begins_bare ends) root
      parameters _ (are ends)))
      (λ one ends is. node_implies (Bare ends) (Bare ends) (Bare ends) Any (λ origin own. own)
      (λ origin own. tt) (λ item path one calls files. tt) (λ origin said told. told) one.node is.0)

  other_known : (node : Node) → NodeIn R node →
      IfOk (other_expanded files root node arguments) TreeKnown
  other_known node within =
      ok_then (λ parameters. (ends : List FileKey) → Each (ParameterFrom (Bare ends) R) parameters)
      TreeKnown (parameters_by None arguments) _
      (if_all (λ ends. Each (ParameterFrom (Bare ends) R)) (parameters_by None arguments)
      (λ ends. parameters_are (Bare ends) R
      (OfArguments files (bare_home root) (used_files root ends) arguments) (begins_bare ends) None
      arguments (arguments_known arguments) tt))
      (λ parameters are. bare_known node parameters within are)

  body_known :
      (body : Body) (node : Node) → NodeIn R node → BodyIn R body →
      IfOk (body_expanded_by body files root node arguments) TreeKnown
  body_known (Map pairs) node within below =
      mapping_known node.place pairs (node_in R node within).0 below
  body_known (Scalar text) node within below = other_known node within
  body_known (Seq items) node within below = other_known node within

  tree_known : IfOk (tree_of files root arguments) TreeKnown
  tree_known =
      ok_then (NodeIn R) TreeKnown (root_node root (finite.get files root)) _
      (root_stands files root)
      (λ node within. body_known (body_of node) node within (node_in R node within).1)

pub known : OriginsAreKnown
unfolding NodeFrom
known files root arguments =
    ok_then (TreeKnown files root arguments)
    (λ (one : Expanded).
    Each (IsKnown files (home_in root one) one.used arguments) (origins_of one.tree))
    (tree_of files root arguments) _ (tree_known files root arguments)
    (λ one is. is.0)

pub texts : TextsAreWritten
unfolding NodeFrom
texts files root arguments =
    ok_then (TreeKnown files root arguments)
    (λ (one : Expanded). Each (IsSaid files) (marks_of one.tree))
    (tree_of files root arguments) _ (tree_known files root arguments)
    (λ one is. is.1.1)
