-- Runs that were compiled to what their own sources compile to, and rows that tell so.
use Rattle.std.specs.Prelude.{List}
use Rattle.std.specs.List.{AllByRecursion}
use Rattle.pl_facts.specs.declared.fact.Event.{Event}
use Rattle.pl_facts.specs.declared.fact.Event.TheVariants as event
use Rattle.pl_facts.specs.declared.fact.Fact.{Fact}
use Rattle.pl_seeing.specs.Seeing.{IsCompileOf, IsMadeBy}
use Rattle.pl_torn.specs.declared.seen.Seen.{Seen}

abbrev pub IsOwn : Event → Type 0
IsOwn (event.RunQueued told) = IsCompileOf told.compiled.sources told.compiled
IsOwn _ = Unit {0}

abbrev pub AreOwn : List Fact → Type 0
AreOwn facts = AllByRecursion (λ fact. IsOwn fact.event) facts

-- each row has the compile of the sources that it tells, which is none where it tells none
abbrev pub AreCompiled : List Seen → Type 0
AreCompiled all = AllByRecursion (λ one. IsMadeBy one.kept one.compiled) all
