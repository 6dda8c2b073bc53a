-- What is held of an expression while the indices behind it are evaluated.
use Rattle.std.specs.Prelude.{◌≡◌, ℕ, List, Result, Ok, Err}
use Rattle.pl_base.specs.declared.origin.Origin.{Origin}
use Rattle.pl_base.specs.declared.value.Value.{Value}
use Rattle.pl_eval.specs.declared.fault.EvalCode.TheVariants.{UnknownRoot}
use Rattle.pl_eval.specs.declared.fault.EvalFault.{EvalFault}
use Rattle.pl_eval.specs.declared.held.Held.{Held}
use Rattle.pl_eval.specs.declared.held.Held.TheVariants.{Part, Node}
use Rattle.pl_eval.specs.declared.parts.RootPart.{RootPart}
use Rattle.pl_eval.specs.declared.parts.RootPart.TheVariants.{NoRoot, Missing, Found}
use Rattle.pl_eval.specs.Gives.{Refuses}
use Rattle.pl_eval.specs.Known.{Known}
use Rattle.pl_eval.specs.LookUps.{root_part}
use Rattle.pl_eval.specs.Means.{Meaning, null}

-- a part of a root as a value: a Null that is made where the root lacks it
abbrev pub parted : Origin → RootPart → Meaning
parted here NoRoot = Err UnknownRoot
parted here Missing = Ok (null here)
parted here (Found node) = Ok node

abbrev pub part_means : Known → Origin → List ℕ → List Value → Meaning
part_means known here root path = parted here (root_part known root path)

abbrev pub held_means : Known → Origin → Held → Meaning
held_means known here (Part root path) = part_means known here root.now path
held_means known here (Node node) = Ok node

-- what is held stands for what is meant, and a fault is the one that is meant
abbrev pub Holds : Known → Origin → Result Held EvalFault → Meaning → Type 0
Holds known here (Ok one) meant = meant ≡ held_means known here one
Holds known here (Err fault) meant = Refuses fault meant
