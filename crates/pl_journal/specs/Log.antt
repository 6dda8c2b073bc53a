-- The journal as contracts see it.
use Rattle.std.specs.Prelude.{ℕ, ◌+◌, max, true, List, [], drop, count_by}
use Rattle.std.specs.Option.{option_map_or}
use Rattle.pl_base.specs.declared.digest.Digest.{Digest}
use Rattle.pl_facts.specs.declared.fact.Fact.{Fact}
use Rattle.pl_journal.specs.About.{latest_also}
use Rattle.pl_journal.specs.Kinds.{is_file_change}
use Rattle.pl_journal.specs.Runs.{number_told}
use Rattle.pl_journal.specs.Settings.{by}
use Rattle.pl_log.specs.Keys.{Queue}
use Rattle.pl_log.specs.Latest.{latest}

-- what a service was opened with: the moment of the last entry, the number of the run that was
-- queued last and the version of the files, and how many facts it had then
pub record Opening : Type 0 where
  pub moment : ℕ
  pub run : ℕ
  pub version : ℕ
  pub facts : ℕ

-- whose token is that of the principal `admin`, the opening, all facts in order, the opening's in
-- front, and how many of them are installed: those behind them can still be taken away
pub record Log : Type 0 where
  pub admin : Digest
  pub opening : Opening
  pub facts : List Fact
  pub installed : ℕ

-- nothing has happened yet
abbrev pub empty : Digest → Log
empty admin = record {
  admin = admin;
  opening = record { moment = 0; run = 0; version = 0; facts = 0 };
  facts = [];
  installed = 0;
}

-- ---- numbers

-- the later of the opening's moment and the last fact's
abbrev pub last_moment : Log → ℕ
last_moment log = option_map_or (λ fact. max log.opening.moment fact.moment)
    (latest (λ _. true) log.facts) log.opening.moment

-- the greater of the opening's run and the one that was queued last
abbrev pub last_run : Log → ℕ
last_run log = option_map_or (λ run. max log.opening.run run)
    (by number_told (latest_also Queue log.facts)) log.opening.run

-- how often files were put or removed behind the first so many facts
abbrev pub changes_since : ℕ → List Fact → ℕ
changes_since start facts = count_by (λ fact. is_file_change fact.event) (drop start facts)

-- the opening's version, and one more for each time that a file was put or removed since
abbrev pub version : Log → ℕ
version log = log.opening.version + changes_since log.opening.facts log.facts
