-- What a service is opened with, of kept rows that aren't torn.
use Rattle.std.specs.Prelude.{◌≡◌, ℕ, ◌++◌, List, flat_map, Option, None, IsPermutation}
use Rattle.std.specs.List.Sorted.{IsSortedByKey, IsStableByKey}
use Rattle.std.specs.Option.{option_map_or}
use Rattle.std.specs.Ordering.{nat_cmp}
use Rattle.pl_base.specs.declared.digest.Digest.{Digest}
use Rattle.pl_facts.specs.declared.fact.Fact.{Fact}
use Rattle.pl_keeper.specs.declared.records.Meta.{Meta}
use Rattle.pl_opened.specs.Told.{dated_of, setting_of}
use Rattle.pl_torn.specs.Looking.{meta_told}
use Rattle.pl_torn.specs.Torn.{torn}
use Rattle.pl_torn.specs.declared.seen.Seen.{Seen}

-- facts in order of their moments; those of one moment as they stood
pub record AreByMoment (facts sorted : List Fact) : Type 0 where
  pub same : IsPermutation facts sorted
  pub rise : IsSortedByKey (λ fact. fact.moment) nat_cmp sorted
  pub stay : IsStableByKey (λ fact. fact.moment) nat_cmp facts sorted

-- the settings in order of table and key, and then what has a moment, in order of moment, and
-- within one moment of table and key
pub record AreFactsOf (all : List Seen) (facts : List Fact) : Type 0 where
  pub dated : List Fact
  pub sorted : AreByMoment (flat_map dated_of all) dated
  pub whole : facts ≡ flat_map setting_of all ++ dated

-- the service's numbers, each 0 where no row was ever changed
abbrev pub number_of : (Meta → ℕ) → List Seen → ℕ
number_of told all = option_map_or told (meta_told all) 0

-- the digest of the admin's token, the moment of the last entry, the number of the last run, the
-- version of the files, the number of the next change of a row, and the facts
pub record IsOpened (admin : Digest) (all : List Seen) (moment run version change : ℕ)
    (facts : List Fact) : Type 0 where
  pub whole : torn admin all ≡ None
  pub moment_is : moment ≡ number_of (λ told. told.moment) all
  pub run_is : run ≡ number_of (λ told. told.run) all
  pub version_is : version ≡ number_of (λ told. told.version) all
  pub change_is : change ≡ number_of (λ told. told.change) all
  pub are : AreFactsOf all facts
