-- A service's past, as it stands.
use Rattle.std.specs.Prelude.{◌≡◌, ℕ, List, Some}
use Rattle.pl_facts.specs.declared.entry.Entry.{Entry}
use Rattle.pl_never_torn.specs.Below.pl_history.specs.History.{log_of, Opening}
use Rattle.pl_never_torn.specs.Below.pl_history.specs.Legal.{Legal}
use Rattle.pl_keeper.specs.declared.records.Meta.{Meta}
use Rattle.pl_keeper.specs.declared.records.Record.TheVariants as kept
use Rattle.pl_kept.specs.Kept.{numbers_kept}
use Rattle.pl_never_torn.specs.Standing.{HasStood}
use Rattle.pl_same.specs.Same.{KeepTheSame}
use Rattle.pl_same_past.specs.Rooted.{AreRooted}

-- what it was opened with stands as a new service does, and the entries since are legal
pub record IsPast (opening : Opening) (entries : List Entry) : Type 0 where
  pub stood : HasStood opening
  pub rooted : AreRooted opening.facts
  pub legal : Legal opening entries

-- two services of one admin that keep the same, in which something was changed; they may have come
-- to it in two ways, as the one that was opened of the other's rows has
pub record AreSame (opening : Opening) (entries : List Entry) (other : Opening)
    (others : List Entry) : Type 0 where
  pub one : IsPast opening entries
  pub two : IsPast other others
  pub admin : opening.admin ≡ other.admin
  pub change : ℕ
  pub their_change : ℕ
  pub keep :
      KeepTheSame change (log_of opening entries) their_change (log_of other others)
  pub numbers : Meta
  pub counted : numbers_kept change (log_of opening entries) ≡ Some (kept.Meta numbers)
