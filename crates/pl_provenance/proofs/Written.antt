-- What is written stands in the file of the last border.
use Rattle.std.proofs.Common.{◌≡◌, Option, Some, List, [], ◌∷◌, refl, ap, subst}
use Rattle.std.specs.Option.{option_or}
use Rattle.pl_base.specs.declared.expanded.Expanded.{Expanded}
use Rattle.pl_base.specs.declared.origin.Crossing.{Crossing}
use Rattle.pl_base.specs.declared.origin.Crossing.TheVariants.{Extends, Include, Argument, Made}
use Rattle.std.specs.List.{AllByRecursion as Each}
use Rattle.pl_base.specs.declared.origin.Origin.{Origin}
use Rattle.pl_base.specs.declared.place.FileKey.{FileKey}
use Rattle.pl_base.specs.declared.place.Place.{Place}
use Rattle.pl_base.specs.declared.value.MarkedPair.{MarkedPair}
use Rattle.pl_eval_laws.proofs.Lists.{each_implies}
use Rattle.pl_eval_laws.proofs.Trees.{PairFrom}
use Rattle.pl_eval_laws.specs.Trees.{origins_in}
use Rattle.pl_origins.specs.Through.{extended_in}
use Rattle.pl_origins.proofs.Steps.{ok_then}
use Rattle.pl_expand.specs.Tree.{Set, tree_of}
use Rattle.pl_provenance.specs.Closure.{IsLedTo}
use Rattle.pl_provenance.specs.Roots.{jobs_of}
use Rattle.pl_provenance.specs.Written.{behind_extends, file_of, last_file}
use Rattle.pl_provenance.specs.Written.{IsWhereTold, StandsInFile, ArePairsWhereTold}
use Rattle.pl_provenance.specs.Written.{WrittenWhereTold}
use Rattle.pl_provenance.proofs.Closure.{IsBehindLed, Led, LedTree, led_tree}

module _ (files : Set) where
  record Last (last : Option FileKey) (place : Place) : Type 0 where
    key : FileKey
    told : last ≡ Some key
    stands : StandsInFile files key place

  -- one border more in front of others tells no other last file
  in_front : (last first : Option FileKey) (place : Place) → Last last place →
      Last (option_or last first) place
  in_front last first place is = record {
    key = is.key;
    told = ap (λ last. option_or last first) is.told;
    stands = is.stands;
  }

  led_last :
      (file : FileKey) (crossings : List Crossing) (place : Place) →
      IsLedTo files file crossings place → Last (option_or (last_file crossings) (Some file)) place
  led_last file [] place led = record { key = file; told = refl; stands = led }
  led_last file (Include key at ∷ crossings) place led =
      in_front (option_or (last_file crossings) (Some key)) (Some file) place
      (led_last key crossings place led.1)
  led_last file (Extends key ∷ crossings) place led = absurd led
  led_last file (Argument name at ∷ crossings) place led = absurd led
  led_last file (Made ∷ crossings) place led = absurd led

  last_told :
      (crossings : List Crossing) (file : FileKey) (place : Place) →
      extended_in crossings ≡ file ∷ [] → IsLedTo files file (behind_extends crossings) place →
      Last (last_file crossings) place
  last_told [] file place extends led = absurd (cc)
  last_told (Extends other ∷ crossings) file place extends led =
      let same : file ≡ other = cc in
      subst (λ (key : FileKey). Last (option_or (last_file crossings) (Some key)) place) same
      (led_last file crossings place led)
  last_told (Include other at ∷ crossings) file place extends led =
      in_front (last_file crossings) (file_of (Include other at)) place
      (last_told crossings file place extends led)
  last_told (Argument name at ∷ crossings) file place extends led =
      in_front (last_file crossings) (file_of (Argument name at)) place
      (last_told crossings file place extends led)
  last_told (Made ∷ crossings) file place extends led =
      in_front (last_file crossings) (file_of Made) place
      (last_told crossings file place extends led)

  where_told : (file : FileKey) (origin : Origin) → IsBehindLed files file origin →
      IsWhereTold files origin
  where_told file origin own written =
      let last = last_told origin.crossings file origin.source own.0 (own.1 written) in
      record { key = last.key; told = last.told; stands = last.stands }

  pairs_told :
      (file : FileKey) (pairs : List MarkedPair) →
      Each (PairFrom (Led files file) (Led files file)) pairs → ArePairsWhereTold files pairs
  unfolding PairFrom
  pairs_told file pairs all =
      each_implies (PairFrom (Led files file) (Led files file))
      (λ (pair : MarkedPair). Each (IsWhereTold files) (origins_in pair))
      (λ pair led. each_implies (IsBehindLed files file) (IsWhereTold files) (where_told file)
      (origins_in pair) led.0) pairs all

pub written : WrittenWhereTold
written files root arguments file =
    ok_then (LedTree files root)
    (λ (one : Expanded). one.extends ≡ Some file → ArePairsWhereTold files (jobs_of one.tree))
    (tree_of files root arguments) _ (led_tree files root arguments)
    (λ one all extends. pairs_told files file (jobs_of one.expanded.tree) (all file extends))
