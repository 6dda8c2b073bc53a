-- The rows that open a service are its rows.
use Rattle.std.proofs.Common.{◌≡◌, ◌≤◌, ◌+◌, ℕ, min, List, [], ◌∷◌, ◌++◌, length, Option, None}
use Rattle.std.proofs.Common.{refl, sym}
use Rattle.std.proofs.Common.{ap, subst, ◌∙◌, inl, append-nil, arith}
use Rattle.std.specs.Option.{option_map_or}
use Rattle.std.specs.Prelude.{IsPermutation}
use Rattle.pl_base.specs.declared.digest.Digest.{Digest}
use Rattle.pl_base.specs.declared.row.Row.{Row}
use Rattle.pl_opening.specs.Below.pl_core.specs.Rows.{AreKept}
use Rattle.pl_opening.specs.Below.pl_core.specs.State.{held, log, opened_state}
use Rattle.pl_facts.specs.Sizes.{counted}
use Rattle.pl_facts.specs.declared.fact.Fact.{Fact}
use Rattle.pl_opening.specs.Below.pl_history.specs.Access.{IsSound}
use Rattle.pl_opening.specs.Below.pl_history.specs.Claims.{IsOrderly}
use Rattle.pl_opening.specs.Below.pl_history.specs.History.{Opening, log_of, next_change, opened}
use Rattle.pl_journal.specs.Log.{Log}
use Rattle.pl_journal.specs.Runs.{queueing}
use Rattle.pl_keeper.specs.declared.records.Meta.{Meta}
use Rattle.pl_opened.specs.Opened.{IsOpened}
use Rattle.pl_opening.specs.Below.pl_opened_laws.specs.Laws.{begun, AreRowsOf}
use Rattle.pl_opening.specs.Below.pl_opened_laws.proofs.Good.{tell_numbers}
use Rattle.pl_opening.specs.Below.pl_opened_laws.proofs.Known.{AreOpened, IsOf}
use Rattle.pl_opening.specs.Below.pl_opened_laws.proofs.Lists.{in_permuted}
use Rattle.pl_opening.specs.Below.pl_opened_laws.proofs.Numbers.{not_above}
use Rattle.pl_rows.specs.Entry.{AllFit}
use Rattle.pl_rows.specs.State.{AreRows}
use Rattle.pl_kept.specs.Kept.{Run}
use Rattle.pl_opening.specs.Below.pl_seeing.specs.Seeing.{AreSeen}
use Rattle.pl_torn.specs.declared.seen.Seen.{Seen}
use Rattle.pl_opening_laws.proofs.Holders.{one_holder}
use Rattle.pl_opening_laws.proofs.Orderly.{are_orderly, queued_row}

-- the journal of an opening, behind which nothing has happened
begun_is : (opening : Opening) →
    begun opening.admin opening.moment opening.run opening.version opening.facts ≡
    log_of opening []
unfolding log_of
begun_is opening = ap (λ (facts : List Fact). record {
  admin = opening.admin;
  opening = record {
    moment = opening.moment;
    run = opening.run;
    version = opening.version;
    facts = length opening.facts;
  };
  facts = facts;
  installed = length facts;
}) (sym (append-nil opening.facts))

pub rows_kept : (rows : List Row) (opening : Opening) → AreRowsOf opening.change
    (begun opening.admin opening.moment opening.run opening.version opening.facts) rows →
    AreKept (opened_state opening) rows
rows_kept rows opening are =
    let change : opening.change ≡ counted (next_change opening []) =
    omega (arith, are.within) in
    record {
      fit = subst (λ (l : Log). AllFit l.facts) (begun_is opening) are.fit;
      rows_are = subst (λ (n : ℕ). AreRows n (log_of opening []) rows) change
          (subst (λ (l : Log). AreRows opening.change l rows) (begun_is opening) are.rows_are);
    }

-- ---- no run is above the last one

run_within : (admin : Digest) (rows : List Row) (all : List Seen) (opening : Opening) →
    AreOpened admin rows all opening.facts →
    IsOpened admin all opening.moment opening.run opening.version opening.change opening.facts →
    (run : ℕ) → IsOf all (Run run) → run ≤ opening.run
run_within admin rows [] opening opens is run row = absurd row.there
run_within admin rows (one ∷ all) opening opens is run row =
    let tell = tell_numbers admin rows one all opens.seen opens.none in
    let here : opening.run ≡ tell.numbers.run = is.run_is ∙
    ap (λ (o : Option Meta). option_map_or (λ (told : Meta). told.run) o 0) tell.told in
    omega (arith, here, not_above opens tell run row)

module _ (admin : Digest) (rows : List Row) (all : List Seen) (opening : Opening)
    (opens : AreOpened admin rows all opening.facts) (is : IsOpened admin all opening.moment
    opening.run opening.version opening.change opening.facts) where
  within : (run : ℕ) → (queueing run opening.facts ≡ None → ⊥) → run ≤ opening.run
  within run has = run_within admin rows all opening opens is run
      (queued_row opens run has (queueing run opening.facts) refl)

  pub orderly : IsOrderly opening
  orderly = record { orderly = are_orderly opens; numbers = within }

  pub sound : IsSound opening
  sound = record {
    one = one_holder opens;
    queued = (are_orderly opens).of_runs;
    numbers = within;
  }

-- ---- without rows

nothing : (dated : List Fact) → IsPermutation [] dated → dated ≡ []
nothing [] same = refl
nothing (fact ∷ dated) same =
    absurd (in_permuted [] (fact ∷ dated) same fact (inl refl))

pub empty_by : (admin : Digest) (opening : Opening) (all : List Seen) → AreSeen [] all →
    IsOpened admin all opening.moment opening.run opening.version opening.change opening.facts →
    opening.admin ≡ admin → opening ≡ opened admin
empty_by admin opening (one ∷ all) seen is admin_is = absurd seen
empty_by admin opening [] seen is admin_is =
    let facts_is : opening.facts ≡ [] =
    is.are.whole ∙ nothing is.are.dated is.are.sorted.same in
    λ i. record {
      admin = admin_is i;
      moment = is.moment_is i;
      run = is.run_is i;
      version = is.version_is i;
      change = is.change_is i;
      facts = facts_is i;
    }
