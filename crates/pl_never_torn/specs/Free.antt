-- Names that nobody has.
use Rattle.std.specs.Prelude.{◌≡◌, false, List, codes}
use Rattle.std.specs.List.{AllByRecursion}
use Rattle.pl_base.specs.Texts.{is}
use Rattle.pl_facts.specs.declared.fact.Event.{Event}
use Rattle.pl_facts.specs.declared.fact.Event.TheVariants as event
use Rattle.pl_facts.specs.declared.fact.Fact.{Fact}
use Rattle.pl_keeper.specs.declared.records.Record.{Record}
use Rattle.pl_keeper.specs.declared.records.Record.TheVariants as kept
use Rattle.pl_torn.specs.Names.{is_reserved_pipeline}

-- `text` is the pipeline of queued texts, and `admin` is built in
abbrev pub IsFree : Event → Type 0
IsFree (event.PipelineSet told) = is told.name (codes "text") ≡ false
IsFree (event.PrincipalSet told) = is told.name (codes "admin") ≡ false
IsFree _ = Unit {0}

abbrev pub AreFree : List Fact → Type 0
AreFree facts = AllByRecursion (λ fact. IsFree fact.event) facts

-- the same of records
abbrev pub HasFreeName : Record → Type 0
HasFreeName (kept.Pipeline told) = is_reserved_pipeline told ≡ false
HasFreeName (kept.Principal told) = is told.name (codes "admin") ≡ false
HasFreeName _ = Unit {0}
