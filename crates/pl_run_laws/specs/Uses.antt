-- Facts that leave the resources as they are that a stage uses.
use Rattle.std.specs.Prelude.{◌≡◌, false, List, [], ◌∷◌}
use Rattle.pl_base.specs.declared.resource.ResourceKey.{ResourceKey}
use Rattle.pl_facts.specs.declared.fact.Fact.{Fact}
use Rattle.pl_due.specs.Below.pl_journal.specs.About.{is_about}
use Rattle.pl_due.specs.Below.pl_journal.specs.Settings.{resource}
use Rattle.pl_log.specs.Keys.{Resource}

-- a fact that sets none of these resources
abbrev pub SetsNone : List ResourceKey → Fact → Type 0
SetsNone [] fact = Unit {0}
SetsNone (key ∷ uses) fact = (is_about (Resource key) fact ≡ false) × SetsNone uses fact

-- these resources are set alike
abbrev pub AreSameUses : List ResourceKey → List Fact → List Fact → Type 0
AreSameUses [] old new = Unit {0}
AreSameUses (key ∷ uses) old new =
    (resource key new ≡ resource key old) × AreSameUses uses old new
