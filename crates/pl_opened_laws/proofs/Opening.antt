-- Rows that are whole, and what their facts are opened with.
use Rattle.std.proofs.Common.{◌≡◌, ◌≤◌, ℕ, List, [], ◌∷◌, Option, None, ap, arith}
use Rattle.std.specs.Option.{option_map_or}
use Rattle.pl_base.specs.declared.digest.Digest.{Digest}
use Rattle.pl_base.specs.declared.row.Row.{Row}
use Rattle.pl_due.specs.Fit.{last_moment}
use Rattle.pl_facts.specs.declared.fact.Fact.{Fact}
use Rattle.pl_keeper.specs.declared.records.Meta.{Meta}
use Rattle.pl_opened.specs.Opened.{number_of, IsOpened}
use Rattle.pl_opened_laws.specs.Laws.{begun, AreRowsOf}
use Rattle.pl_seeing.specs.Seeing.{AreSeen}
use Rattle.pl_torn.specs.Torn.{torn}
use Rattle.pl_torn.specs.declared.seen.Seen.{Seen}
use Rattle.pl_opened_laws.proofs.Good.{tell_numbers}
use Rattle.pl_opened_laws.proofs.Known.{ascend, AreOpened}
use Rattle.pl_opened_laws.proofs.Numbers.{change_within, numbers_of_all}
use Rattle.pl_opened_laws.proofs.Rows.{all_fit, each_again, only_places}
use Rattle.pl_opened_laws.proofs.Standing.{rows_ascend}

pub rows_stay : (admin : Digest) (rows : List Row) (all : List Seen)
    (moment run version change : ℕ) (facts : List Fact) → AreOpened admin rows all facts →
    IsOpened admin all moment run version change facts →
    AreRowsOf change (begun admin moment run version facts) rows
rows_stay admin rows all moment run version change facts opens is = record {
  fit = all_fit opens;
  rows_are = record {
    ascend = rows_ascend rows all opens.seen (ascend opens);
    numbers = numbers_of_all admin rows all moment run version change facts opens is;
    each = each_again opens;
    only = only_places opens;
  };
  within = change_within admin rows all change opens is.change_is;
}

pub moment_fits : (admin : Digest) (rows : List Row) (all : List Seen) → AreSeen rows all →
    torn admin all ≡ None → number_of (λ told. told.moment) all ≤ last_moment
moment_fits admin rows [] seen none = omega arith
moment_fits admin rows (one ∷ all) seen none =
    let tell = tell_numbers admin rows one all seen none in
    let here : number_of (λ told. told.moment) (one ∷ all) ≡ tell.numbers.moment =
    ap (λ (o : Option Meta). option_map_or (λ (told : Meta). told.moment) o 0) tell.told in
    omega (arith, here, tell.within.moment)
