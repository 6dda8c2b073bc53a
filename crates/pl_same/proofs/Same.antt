-- Two states with the same rows keep the same.
use Rattle.std.proofs.Common.{◌≡◌, ℕ, List, [], Option, Some, None, refl, sym, ap, ◌∙◌}
use Rattle.std.specs.Option.{option_map}
use Rattle.std.specs.Prelude.{unwrap_or, IfSome}
use Rattle.pl_base.specs.declared.row.Row.{Row}
use Rattle.pl_facts.specs.declared.fact.Fact.{Fact}
use Rattle.pl_journal.specs.Log.{Log}
use Rattle.pl_keeper.specs.Rows.{row_of, IsKept}
use Rattle.pl_keeper.specs.declared.records.Record.{Record}
use Rattle.pl_changes.proofs.Leading.{none_some}
use Rattle.pl_kept.specs.Kept.{kept_at, numbers_kept, row_at, Where}
use Rattle.pl_places.specs.Places.{place_at, Fits}
use Rattle.pl_places.proofs.OnePlace.{fits_there}
use Rattle.pl_rows.specs.Entry.{AllFit}
use Rattle.pl_same.specs.Same.{AreTheirs, KeepTheSame}

abbrev OneRecord : Type 0
OneRecord = (left right : Record) → IsKept left → IsKept right → row_of left ≡ row_of right →
    left ≡ right

module _ (one_record : OneRecord) where
  -- a row is one record's
  same_kept : (one other : Option Record) → IfSome one IsKept → IfSome other IsKept →
      option_map row_of one ≡ option_map row_of other → one ≡ other
  same_kept None None left right e = refl
  same_kept None (Some other) left right e = absurd (none_some None (row_of other) refl e)
  same_kept (Some one) None left right e = absurd (none_some None (row_of one) refl (sym e))
  same_kept (Some one) (Some other) left right e = ap (λ (kept : Record). Some kept)
      (one_record one other left right (ap (λ (o : Option Row). unwrap_or o (row_of one)) e))

  module _ (rows : List Row) (change : ℕ) (log : Log) (other_change : ℕ) (other : Log)
      (left : AreTheirs change log rows) (right : AreTheirs other_change other rows) where
    at_place : (at : Where) → Fits at → kept_at at log.facts ≡ kept_at at other.facts
    at_place at fits = same_kept (kept_at at log.facts) (kept_at at other.facts) (left.fit at)
        (right.fit at) (sym (left.are.each at fits) ∙ right.are.each at fits)

    -- what is kept at a place can be read again, and so its place can
    each_by : (at : Where) (one two : Option Record) → kept_at at log.facts ≡ one →
        kept_at at other.facts ≡ two → kept_at at log.facts ≡ kept_at at other.facts
    each_by at None None e f = e ∙ sym f
    each_by at (Some one) two e f =
        at_place at (fits_there log.facts at (row_of one) (left.fit at) (ap (option_map row_of) e))
    each_by at None (Some two) e f = at_place at
        (fits_there other.facts at (row_of two) (right.fit at) (ap (option_map row_of) f))

    pub keep_the_same : KeepTheSame change log other_change other
    keep_the_same = record {
      each = λ at. each_by at (kept_at at log.facts) (kept_at at other.facts) refl refl;
      numbers = same_kept (numbers_kept change log) (numbers_kept other_change other)
          left.numbers right.numbers (sym left.are.numbers ∙ right.are.numbers);
    }
