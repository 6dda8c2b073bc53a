-- How often files changed, as the journal keeps it.
use Rattle.std.specs.Prelude.{◌≡◌, ℕ, ◌≤◌, List, length, take}
use Rattle.pl_facts.specs.Sizes.{counted}
use Rattle.pl_facts.specs.declared.fact.Fact.{Fact}
use Rattle.pl_journal.specs.Log.{changes_since}

-- how often files changed behind the opening's facts: in all facts, and in those that are installed
pub record IsCounted (start installed all kept : ℕ) (facts : List Fact) : Type 0 where
  pub all_counted : all ≡ counted (changes_since start facts)
  pub kept_counted : kept ≡ counted (changes_since start (take installed facts))
  pub begins : start ≤ installed
  pub ends : installed ≤ length facts
