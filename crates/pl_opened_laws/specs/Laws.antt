-- What holds of the facts that kept rows tell where none of them is torn.
use Rattle.std.specs.Prelude.{◌≡◌, ◌≤◌, ℕ, List, None}
use Rattle.std.specs.Prelude.{length}
use Rattle.pl_base.specs.declared.digest.Digest.{Digest}
use Rattle.pl_base.specs.declared.row.Row.{Row}
use Rattle.pl_due.specs.Fit.{AreFit, last_moment}
use Rattle.pl_facts.specs.declared.fact.Fact.{Fact}
use Rattle.pl_journal.specs.Log.{Log}
use Rattle.pl_keeper.specs.Keeping.{IsInOrder}
use Rattle.pl_opened.specs.Opened.{number_of, AreFactsOf, IsOpened}
use Rattle.pl_plan.specs.declared.plan.Compiled.{Compiled}
use Rattle.pl_plan.specs.declared.plan.Sources.{Sources}
use Rattle.pl_results.specs.Nodes.{CanRun}
use Rattle.pl_rows.specs.Entry.{AllFit}
use Rattle.pl_rows.specs.State.{AreRows}
use Rattle.pl_seeing.specs.Seeing.{AreSeen, IsCompileOf}
use Rattle.pl_torn.specs.Torn.{torn}
use Rattle.pl_torn.specs.declared.seen.Seen.{Seen}

-- whatever sources compile to can run
abbrev pub CompilesRun : Type 0
CompilesRun = (sources : Sources) (compiled : Compiled) → IsCompileOf sources compiled →
    CanRun compiled.plan

-- their moments are such as a clock tells, and the plans of their runs can run
abbrev pub FactsFit : Type 0
FactsFit = (admin : Digest) (rows : List Row) (all : List Seen) (facts : List Fact) →
    IsInOrder rows → AreSeen rows all → torn admin all ≡ None → AreFactsOf all facts → AreFit facts

-- so is the moment of the last entry
abbrev pub MomentFits : Type 0
MomentFits = (admin : Digest) (rows : List Row) (all : List Seen) → AreSeen rows all →
    torn admin all ≡ None → number_of (λ told. told.moment) all ≤ last_moment

-- the journal of facts that a service was opened with, and of nothing since
abbrev pub begun : Digest → (moment run version : ℕ) → List Fact → Log
begun admin moment run version facts = record {
  admin = admin;
  opening = record { moment = moment; run = run; version = version; facts = length facts };
  facts = facts;
  installed = length facts;
}

-- the rows of these facts, all of which can be read again; and the number of the next change is
-- within its limit
pub record AreRowsOf (change : ℕ) (log : Log) (rows : List Row) : Type 0 where
  pub fit : AllFit log.facts
  pub rows_are : AreRows change log rows
  pub within : change ≤ 999999999999999999

-- they are the rows that told them
abbrev pub RowsStay : Type 0
RowsStay = (admin : Digest) (rows : List Row) (all : List Seen)
    (moment run version change : ℕ) (facts : List Fact) → IsInOrder rows → AreSeen rows all →
    IsOpened admin all moment run version change facts →
    AreRowsOf change (begun admin moment run version facts) rows
