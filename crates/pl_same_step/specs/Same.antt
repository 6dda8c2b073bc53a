-- Journals in which the same is found, and steps that aren't full.
use Rattle.std.specs.Prelude.{◌≡◌, ◌++◌, ℕ, List}
use Rattle.pl_facts.specs.Sizes.{counted}
use Rattle.pl_facts.specs.declared.fact.Fact.{Fact}
use Rattle.pl_journal.specs.Log.{last_run, version, Log}
use Rattle.pl_rules.specs.declared.rule.Rule.TheVariants as rules
use Rattle.pl_same_lookups.specs.Alike.{FindAlike, LookAlike}
use Rattle.pl_step_laws.specs.Below.pl_step.specs.Below.pl_jobs.specs.Below.pl_settling.specs.Settles.{Settles}
use Rattle.pl_step_laws.specs.Below.pl_step.specs.Step.{refusing}
use Rattle.pl_step_laws.specs.Below.pl_step.specs.declared.stepped.Stepped.{Stepped}

-- the same is found in their facts; the token of `admin` and the number of the last run are the
-- same, and so is the version of the files as far as the code counts
pub record LogsAlike (log other : Log) : Type 0 where
  pub look : LookAlike log.facts other.facts
  pub finds : FindAlike log.facts other.facts
  pub admin : log.admin ≡ other.admin
  pub run : last_run log ≡ last_run other
  pub version : counted (version log) ≡ counted (version other)

-- ... and whose a token is and who holds which job stays the same behind what is due at a moment
pub record StayAlike (moment : ℕ) (log other : Log) : Type 0 where
  pub now : LogsAlike log other
  pub later : (due : List Fact) → Settles moment log.facts due →
      FindAlike (log.facts ++ due) (other.facts ++ due)

-- the service had room for what the call adds
abbrev pub HasRoom : Stepped → Type 0
HasRoom stepped = ¬ (stepped ≡ refusing 409 rules.JournalFull)
