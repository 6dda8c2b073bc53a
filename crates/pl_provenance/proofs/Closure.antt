-- What is written stands in a file to which calls lead from the template.
use Rattle.std.proofs.Common.{◌≡◌, Bool, true, false, cond, Some, List, [], ◌∷◌, ◌++◌}
use Rattle.std.proofs.Common.{refl, ap, sym, subst, ◌∙◌}
use Rattle.std.specs.Prelude.{Contains, IfOk, filter}
use Rattle.std.specs.List.{AllByRecursion as Each}
use Rattle.std.proofs.lemmas.List.{append_assoc}
use Rattle.pl_base.specs.declared.expanded.Argument.{Argument as RunArgument}
use Rattle.pl_base.specs.declared.expanded.Expanded.{Expanded}
use Rattle.pl_base.specs.declared.origin.Crossing.{Crossing}
use Rattle.pl_base.specs.declared.origin.Crossing.TheVariants.{Extends, Include, Argument, Made}
use Rattle.pl_base.specs.declared.origin.Origin.{Origin}
use Rattle.pl_base.specs.declared.place.FileKey.{FileKey}
use Rattle.pl_base.specs.declared.place.Place.{Place}
use Rattle.pl_base.specs.declared.value.Value.{out-Value}
use Rattle.pl_base.specs.declared.value.Value.TheOpen as layer
use Rattle.pl_base.specs.declared.value.MarkedNode.{MarkedNode}
use Rattle.pl_base.specs.declared.value.MarkedPair.{MarkedPair}
use Rattle.pl_eval_laws.specs.Marks.{marks_of}
use Rattle.pl_eval_laws.specs.Trees.{origins_of, origins_in}
use Rattle.pl_eval_laws.proofs.Leads.{Opened, leads_of}
use Rattle.pl_eval_laws.proofs.Lists.{each_append, each_back, each_front, each_implies, each_of}
use Rattle.pl_eval_laws.proofs.Lists.{each_contained}
use Rattle.pl_eval_laws.proofs.Trees.{Asked as Wanted, Marked, nothing_led, only}
use Rattle.pl_eval_laws.proofs.Trees.{NodeFrom, PairFrom, OpenedFrom, Any, node_parts, value_parts}
use Rattle.pl_origins.specs.Through.{extended_in}
use Rattle.pl_origins.proofs.Called.{Borders}
use Rattle.pl_origins.proofs.Kept.{IsExtending, NoFile, extended_last, silent_keeps, silent_reads}
use Rattle.pl_origins.proofs.Steps.{ok_then}
use Rattle.pl_expand.specs.declared.root.RootTree.{RootTree}
use Rattle.pl_expand.specs.Below.pl_extends.specs.Forms.{is_form}
use Rattle.pl_expand.specs.Tree.{Set, tree_of}
use Rattle.pl_provenance.specs.Roots.{pairs_of, jobs_of}
use Rattle.pl_provenance.specs.Written.{StandsInFile, behind_extends, IsCall, IsWritten}
use Rattle.pl_provenance.specs.Closure.{IsLedTo, Closure, itself, called, IsInClosure}
use Rattle.pl_provenance.specs.Closure.{IsFromClosure, ArePairsFromClosure, WrittenInClosure}
use Rattle.pl_provenance.proofs.Extended.{ExtendsBorder}
use Rattle.pl_provenance.proofs.Standing.{IsIn, opens_own, root_stands}
use Rattle.pl_provenance.proofs.Through.{extends_one, Before, Behind, AnyArgument, begins}
use Rattle.pl_provenance.proofs.Through.{any_arguments}
use Rattle.pl_provenance.proofs.Whole.{TreeFrom, tree_jobs}

-- ---- borders behind others

-- behind a border `extends` an argument or an expression is no call
not_written :
    (crossings : List Crossing) (crossing : Crossing) (file : FileKey) (files : List FileKey) →
    (IsCall crossing → ⊥) → extended_in crossings ≡ file ∷ files →
    Each IsCall (behind_extends (crossings ++ crossing ∷ [])) → ⊥
not_written [] crossing file files none extends written = absurd (cc)
not_written (Extends other ∷ crossings) crossing file files none extends written =
    none (each_back IsCall crossings (crossing ∷ []) written).0
not_written (Include other at ∷ crossings) crossing file files none extends written =
    not_written crossings crossing file files none extends written
not_written (Argument name at ∷ crossings) crossing file files none extends written =
    not_written crossings crossing file files none extends written
not_written (Made ∷ crossings) crossing file files none extends written =
    not_written crossings crossing file files none extends written

-- a border behind that into the template stands behind it
last_behind :
    (crossings : List Crossing) (crossing : Crossing) (file : FileKey) (files : List FileKey) →
    extended_in crossings ≡ file ∷ files →
    behind_extends (crossings ++ crossing ∷ []) ≡ behind_extends crossings ++ crossing ∷ []
last_behind [] crossing file files extends = absurd (cc)
last_behind (Extends other ∷ crossings) crossing file files extends = refl
last_behind (Include other at ∷ crossings) crossing file files extends =
    last_behind crossings crossing file files extends
last_behind (Argument name at ∷ crossings) crossing file files extends =
    last_behind crossings crossing file files extends
last_behind (Made ∷ crossings) crossing file files extends =
    last_behind crossings crossing file files extends

-- behind that border itself there is nothing yet
first_behind :
    (crossings : List Crossing) (file : FileKey) → extended_in crossings ≡ [] →
    behind_extends (crossings ++ Extends file ∷ []) ≡ []
first_behind [] file none = refl
first_behind (Extends other ∷ crossings) file none = absurd (cc)
first_behind (Include other at ∷ crossings) file none = first_behind crossings file none
first_behind (Argument name at ∷ crossings) file none = first_behind crossings file none
first_behind (Made ∷ crossings) file none = first_behind crossings file none

-- ---- one call more

module _ (files : Set) where
  led_on :
      (file : FileKey) (crossings : List Crossing) (key : FileKey) (at place : Place) →
      IsLedTo files file crossings at → StandsInFile files key place →
      IsLedTo files file (crossings ++ Include key at ∷ []) place
  led_on file [] key at place led stands = (led, stands)
  led_on file (Include other there ∷ crossings) key at place led stands =
      (led.0, led_on other crossings key at place led.1 stands)
  led_on file (Extends other ∷ crossings) key at place led stands = led
  led_on file (Argument name there ∷ crossings) key at place led stands = led
  led_on file (Made ∷ crossings) key at place led stands = led

  abbrev IsLed : FileKey → Origin → Type 0
  IsLed file origin =
      IsWritten origin → IsLedTo files file (behind_extends origin.crossings) origin.source

  -- a predicate of the origins behind the border into the template
  abbrev pub IsBehindLed : FileKey → Origin → Type 0
  IsBehindLed file origin = (Behind file).own origin × IsLed file origin

  abbrev pub Led : FileKey → Wanted
  Led file = only (IsBehindLed file)

  no_call : {X : Type 0} → ⊥ → X
  no_call none = absurd none

  -- what an argument or an expression gave isn't written, wherever it stands
  given_led :
      (file : FileKey) (crossings : List Crossing) (crossing : Crossing) →
      (IsCall crossing → ⊥) → extended_in (crossing ∷ []) ≡ [] →
      extended_in crossings ≡ file ∷ [] → (place : Place) →
      IsBehindLed file (record { source = place; crossings = crossings ++ crossing ∷ [] })
  given_led file crossings crossing none other extends place = (
    extended_last crossings crossing other ∙ extends,
    λ written. no_call (not_written crossings crossing file [] none extends written),
  )

  pub led_inside : (file : FileKey) → Borders (Led file) (IsIn files) NoFile
  led_inside file = record {
    literal =
        λ key call place known own path here.
        let is = last_behind call.crossings (Include key call.at) file [] own.0 in (
          extended_last call.crossings (Include key call.at) refl ∙ own.0,
          λ written. subst (λ crossings. IsLedTo files file crossings place) (sym is)
              (led_on file (behind_extends call.crossings) key call.at place
              (own.1 (each_front IsCall (behind_extends call.crossings)
              (Include key call.at ∷ []) (subst (Each IsCall) is written)))
              here),
        );
    made =
        λ key call place known own path here.
        given_led file (call.crossings ++ Include key call.at ∷ []) Made (λ none. none) refl
        (extended_last call.crossings (Include key call.at) refl ∙ own.0) place;
    argument =
        λ key call given name place known own from_given here.
        let led = given_led file (given.crossings ++ Include key call.at ∷ [])
        (Argument name place) (λ none. none) refl
        (extended_last given.crossings (Include key call.at) refl ∙ from_given.0) in
        (led given.source, λ at stands. led at);
    reads = λ key. silent_reads (IsIn files key) (IsBehindLed file);
    keeps = silent_keeps;
  }

  pub before_inside : Borders Before (IsIn files) NoFile
  before_inside = record {
    literal =
        λ key call place known own path here.
        extended_last call.crossings (Include key call.at) refl ∙ own;
    made =
        λ key call place known own path here.
        extended_last (call.crossings ++ Include key call.at ∷ []) Made refl
        ∙ (extended_last call.crossings (Include key call.at) refl ∙ own);
    argument =
        λ key call given name place known own from_given here.
        let is =
        extended_last (given.crossings ++ Include key call.at ∷ []) (Argument name place) refl
        ∙ (extended_last given.crossings (Include key call.at) refl ∙ from_given) in
        (is, λ at stands. is);
    reads = λ key. silent_reads (IsIn files key) (IsExtending []);
    keeps = silent_keeps;
  }

  pub led_crossing : ExtendsBorder Before Led (IsIn files) NoFile
  led_crossing = record {
    literal =
        λ key at text path place known own here. (
          extends_one path.crossings key own,
          λ written. subst (λ crossings. IsLedTo files key crossings place)
              (sym (first_behind path.crossings key own)) here,
        );
    made =
        λ key at text path place known own here.
        given_led key (path.crossings ++ Extends key ∷ []) Made (λ none. none) refl
        (extends_one path.crossings key own) place;
    argument =
        λ key from text one name place known own here.
        let led = given_led key (one.crossings ++ Extends key ∷ []) (Argument name place)
        (λ none. none) refl (extends_one one.crossings key own) in
        (led one.source, λ at stands. led at);
    reads = λ key. silent_reads (IsIn files key) (IsBehindLed key);
  }

-- ---- the closure

record Split (file : FileKey) (crossings : List Crossing) : Type 0 where
  front : List Crossing
  is : crossings ≡ front ++ Extends file ∷ behind_extends crossings
  none : extended_in front ≡ []

split : (crossings : List Crossing) (file : FileKey) → extended_in crossings ≡ file ∷ [] →
    Split file crossings
split [] file extends = absurd (cc)
split (Extends other ∷ crossings) file extends =
    let same : other ≡ file = cc in
    record { front = []; is = ap (λ key. Extends key ∷ crossings) same; none = refl }
split (Include other at ∷ crossings) file extends =
    let rest = split crossings file extends in record {
      front = Include other at ∷ rest.front;
      is = ap (λ behind. Include other at ∷ behind) rest.is;
      none = rest.none;
    }
split (Argument name at ∷ crossings) file extends =
    let rest = split crossings file extends in record {
      front = Argument name at ∷ rest.front;
      is = ap (λ behind. Argument name at ∷ behind) rest.is;
      none = rest.none;
    }
split (Made ∷ crossings) file extends =
    let rest = split crossings file extends in record {
      front = Made ∷ rest.front;
      is = ap (λ behind. Made ∷ behind) rest.is;
      none = rest.none;
    }

module _ (files : Set) (tree : MarkedNode) (template : FileKey) (origin : Origin)
    (is_told : Contains (origins_of tree) origin) where
  reached :
      (before behind : List Crossing) (caller : FileKey) → Closure files tree template caller →
      origin.crossings ≡ before ++ behind → extended_in before ≡ template ∷ [] →
      Each IsCall (behind_extends before) → IsLedTo files caller behind origin.source →
      IsInClosure files tree template origin.source
  reached before [] caller among is extends written led =
      record { key = caller; among = among; stands = led }
  reached before (Include key at ∷ behind) caller among is extends written led =
      reached (before ++ Include key at ∷ []) behind key
      (called caller key among (record {
        origin = origin;
        is_told = is_told;
        before = before;
        at = at;
        behind = behind;
        crossings = is;
        extends = extends;
        written = written;
        stands = led.0;
      }))
      (is ∙ sym (append_assoc before (Include key at ∷ []) behind))
      (extended_last before (Include key at) refl ∙ extends)
      (subst (Each IsCall) (sym (last_behind before (Include key at) template [] extends))
      (each_append IsCall (behind_extends before) (Include key at ∷ []) written (tt, tt)))
      led.1
  reached before (Extends other ∷ behind) caller among is extends written led = absurd led
  reached before (Argument name at ∷ behind) caller among is extends written led = absurd led
  reached before (Made ∷ behind) caller among is extends written led = absurd led

  from_closure : IsBehindLed files template origin → IsFromClosure files tree template origin
  from_closure own written =
      let parts = split origin.crossings template own.0 in
      let front = parts.front ++ Extends template ∷ [] in
      let led = own.1 written in (
        led,
        reached front (behind_extends origin.crossings) template itself
            (parts.is
            ∙ sym (append_assoc parts.front (Extends template ∷ [])
            (behind_extends origin.crossings)))
            (extends_one parts.front template parts.none)
            (subst (Each IsCall) (sym (first_behind parts.front template parts.none)) tt) led,
      )

-- ---- all origins of the jobs are told

each_both :
    {X : Type 0} (A B C : X → Type 0) → ((x : X) → A x → B x → C x) → (xs : List X) → Each A xs →
    Each B xs → Each C xs
each_both A B C goes [] left right = tt
each_both A B C goes (x ∷ xs) left right =
    (goes x left.0 right.0, each_both A B C goes xs left.1 right.1)

each_kept :
    {X : Type 0} (P : X → Type 0) (test : X → Bool) (xs : List X) → Each P xs →
    Each P (filter test xs)
each_kept P test [] all = tt
each_kept P test (x ∷ xs) all = by (test x) (each_kept P test xs all.1)
  where
    by : (b : Bool) → Each P (filter test xs) →
        Each P (cond b (x ∷ filter test xs) (filter test xs))
    by true later = (all.0, later)
    by false later = later

abbrev AreTold : MarkedNode → MarkedPair → Type 0
AreTold tree pair = Each (Contains (origins_of tree)) (origins_in pair)

opened_told :
    (tree : MarkedNode) (opened : Opened) → OpenedFrom (only (Contains (origins_of tree))) Any
    opened →
    Each (AreTold tree) (pairs_of opened)
unfolding PairFrom
opened_told tree (layer.Object pairs) all =
    each_implies (PairFrom (only (Contains (origins_of tree))) Any) (AreTold tree) (λ pair own.
    own.0)
    pairs all
opened_told tree other all = tt

jobs_told : (tree : MarkedNode) → Each (AreTold tree) (jobs_of tree)
unfolding NodeFrom
jobs_told tree =
    let Told : Wanted = only (Contains (origins_of tree)) in
    let whole : NodeFrom Told Any tree = (
      each_contained (origins_of tree),
      (
        nothing_led (leads_of tree),
        each_of (Marked Told) (λ one files. tt) (marks_of tree),
      ),
    ) in
    each_kept (AreTold tree) (λ pair. is_form pair.key) (pairs_of (out-Value tree.value))
    (opened_told tree (out-Value tree.value)
    (value_parts Told Any tree.value (node_parts Told Any tree whole).1))

pairs_from_closure :
    (files : Set) (tree : MarkedNode) (file : FileKey) →
    Each (PairFrom (Led files file) (Led files file)) (jobs_of tree) →
    ArePairsFromClosure files tree file
unfolding PairFrom
pairs_from_closure files tree file all =
    each_both (AreTold tree) (PairFrom (Led files file) (Led files file))
    (λ (pair : MarkedPair). Each (IsFromClosure files tree file) (origins_in pair))
    (λ pair told led. each_both (Contains (origins_of tree)) (IsBehindLed files file)
    (IsFromClosure files tree file)
    (λ origin is_told own. from_closure files tree file origin is_told own) (origins_in pair) told
    led.0)
    (jobs_of tree) (jobs_told tree) all

-- ---- the whole

abbrev pub LedTree : Set → FileKey → RootTree → Type 0
LedTree files root =
    TreeFrom Before (Led files) (IsIn files) NoFile (led_crossing files) (led_inside files)
    (before_inside files) files (opens_own files) root AnyArgument (begins (IsIn files root))

pub led_tree :
    (files : Set) (root : FileKey) (arguments : List RunArgument) →
    IfOk (tree_of files root arguments) (LedTree files root)
led_tree files root arguments =
    tree_jobs Before (Led files) (IsIn files) NoFile (led_crossing files) (led_inside files)
    (before_inside files) files (opens_own files) root AnyArgument (begins (IsIn files root))
    arguments (any_arguments arguments) (root_stands files root)

pub closure : WrittenInClosure
closure files root arguments file =
    ok_then (LedTree files root)
    (λ (one : Expanded). one.extends ≡ Some file → ArePairsFromClosure files one.tree file)
    (tree_of files root arguments) _ (led_tree files root arguments)
    (λ one all extends. pairs_from_closure files one.expanded.tree file (all file extends))
