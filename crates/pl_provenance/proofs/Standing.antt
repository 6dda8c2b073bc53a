-- What stands in the files that paths lead to.
use Rattle.std.proofs.Common.{◌≡◌, ℕ, Option, Some, None, Ok, Err, List, refl}
use Rattle.std.specs.Prelude.{Contains, IfOk}
use Rattle.std.specs.FinMap as finite
use Rattle.pl_base.specs.declared.place.FileKey.{FileKey}
use Rattle.pl_base.specs.declared.place.Place.{Place}
use Rattle.pl_paths.specs.Paths.{cut_path}
use Rattle.pl_calls.specs.Meant.{◌>>>◌}
use Rattle.pl_calls.specs.Reaching.{opens as opens_of, target, called_then, found_at}
use Rattle.pl_calls.specs.Reaching.{opened_at, node_in as file_node}
use Rattle.pl_calls.specs.declared.files.Parsed.{Parsed}
use Rattle.pl_calls.specs.declared.files.Parsed.TheVariants.{Good, Bad}
use Rattle.pl_calls.specs.declared.reaching.Home.{Home}
use Rattle.pl_calls.specs.declared.reaching.Opened.{Opened as OpenedFile}
use Rattle.pl_yaml.specs.declared.fault.YamlFault.TheVariants as yaml_faults
use Rattle.pl_origins.specs.Places.{places_of}
use Rattle.pl_origins.specs.Spots.{Written, says, begins, spots_of}
use Rattle.pl_eval_laws.proofs.Lists.{each_implies, each_contained}
use Rattle.pl_origins.proofs.Called.{FileIn, OpensFrom}
use Rattle.pl_origins.proofs.Kept.{any_ok, NoFile, NoFiles}
use Rattle.pl_origins.proofs.Nodes.{Site, Stood, Spotted, NodeIn}
use Rattle.pl_origins.proofs.Steps.{Used, any_then}
use Rattle.pl_expand.specs.Tree.{Set, root_node}
use Rattle.pl_provenance.specs.Texts.{IsSpot}
use Rattle.pl_provenance.specs.Written.{StandsInFile}

-- what stands in a file, and what it says there
abbrev pub IsIn : Set → FileKey → Site
IsIn files key = record {
  at = StandsInFile files key;
  says = λ place said. IsSpot files place (says said);
  begins = λ place first. IsSpot files place (begins first);
}

spot_stands : (files : Set) (key : FileKey) (place : Place) (written : Written) →
    IsSpot files place written → Stood (IsIn files key) place written
spot_stands files key place (says said) is = is
spot_stands files key place (begins first) is = is

pub stood_is : (files : Set) (key : FileKey) (place : Place) (written : Written) →
    Stood (IsIn files key) place written → IsSpot files place written
stood_is files key place (says said) is = is
stood_is files key place (begins first) is = is

module _ (files : Set) where
  node_stands :
      (key : FileKey) (file : Parsed) → finite.get files key ≡ Some file →
      IfOk (file_node file) (NodeIn (IsIn files key))
  unfolding NodeIn
  node_stands key (Good node) is = (
    each_implies (Contains (places_of node)) (StandsInFile files key)
        (λ place stands. record { node = node; file = is; stands = stands }) (places_of node)
        (each_contained (places_of node)),
    each_implies (Contains (spots_of node)) (Spotted (IsIn files key))
        (λ one stands. spot_stands files key one.place one.written (record {
          key = key;
          node = node;
          file = is;
          stands = stands;
        })) (spots_of node) (each_contained (spots_of node)),
  )
  node_stands key (Bad (yaml_faults.Refused code place)) is = tt
  node_stands key (Bad yaml_faults.Memory) is = tt

  found_in :
      (at : Place) (key : FileKey) (found : Option Parsed) (used : List FileKey) →
      finite.get files key ≡ found →
      IfOk (found_at at key found used) (λ both. FileIn (IsIn files) both.0)
  found_in at key None used is = tt
  found_in at key (Some file) used is = by (called_then at key used)
    where
      found : Unit {0} → List FileKey → Used OpenedFile
      found none used = Ok (record { key = key; file = file }, used)

      by : (step : Used (Unit {0})) → IfOk (step >>> found) (λ both. FileIn (IsIn files) both.0)
      by (Ok both) = node_stands key file is
      by (Err fault) = tt

  opened_in :
      (at : Place) (key : Option FileKey) (used : List FileKey) →
      IfOk (opened_at files at key used) (λ both. FileIn (IsIn files) both.0)
  opened_in at None used = tt
  opened_in at (Some key) used = found_in at key (finite.get files key) used refl

  pub files_stand :
      (home : Home) (at : Place) (path : List ℕ) (used : List FileKey) →
      IfOk (opens_of files home at path used) (λ both. FileIn (IsIn files) both.0)
  files_stand home at path used =
      any_then (λ both. FileIn (IsIn files) both.0) (target at (cut_path path) home) _
      (λ key. opened_in at key used)

  pub opens_own : (home : Home) → OpensFrom (IsIn files) NoFile NoFiles (opens_of files home)
  opens_own home = record {
    file = files_stand home;
    used =
        λ at path used. any_ok (λ both. (NoFiles both.1 → NoFiles used)
        × (NoFiles both.1 → Unit {0} → NoFile at path both.0.key)) (λ both. (
          λ ends. tt,
          λ ends h.
              tt,
        ))
        (opens_of files home at path used);
  }

  root_by : (root : FileKey) (file : Option Parsed) → finite.get files root ≡ file →
      IfOk (root_node root file) (NodeIn (IsIn files root))
  root_by root None is = tt
  root_by root (Some file) is = node_stands root file is

  pub root_stands : (root : FileKey) →
      IfOk (root_node root (finite.get files root)) (NodeIn (IsIn files root))
  root_stands root = root_by root (finite.get files root) refl
