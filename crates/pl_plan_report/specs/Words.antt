-- The words of a plan's text.
use Rattle.std.specs.Prelude.{ℕ, List, codes}
use Rattle.pl_base.specs.declared.origin.Crossing.{Crossing}
use Rattle.pl_base.specs.declared.origin.Crossing.TheVariants.{Extends, Include, Argument, Made}
use Rattle.pl_base.specs.declared.outcome.Behaviour.{Behaviour}
use Rattle.pl_base.specs.declared.outcome.Behaviour.TheVariants.{Sequential, RunLatest}
use Rattle.pl_base.specs.declared.resource.Kind.{Kind}
use Rattle.pl_base.specs.declared.resource.Kind.TheVariants.{Environment, Connection, Group, Pool}
use Rattle.pl_base.specs.declared.resource.Kind.TheVariants.{Repository}

-- what kind of resource it is (Microsoft Learn, "Approvals and checks")
abbrev pub kind_word : Kind → List ℕ
kind_word Environment = codes "environment"
kind_word Connection = codes "connection"
kind_word Group = codes "group"
kind_word Pool = codes "pool"
kind_word Repository = codes "repository"

-- as `lockBehavior` spells it (Microsoft Learn, "YAML schema reference", stages.stage)
abbrev pub behaviour_word : Behaviour → List ℕ
behaviour_word Sequential = codes "sequential"
behaviour_word RunLatest = codes "runLatest"

-- which border a node crossed on its way into the pipeline
abbrev pub crossing_word : Crossing → List ℕ
crossing_word (Extends file) = codes "extends"
crossing_word (Include file place) = codes "include"
crossing_word (Argument name place) = codes "argument"
crossing_word Made = codes "made"
