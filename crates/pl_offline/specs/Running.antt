-- A bundle that a source holds, compiled onto a sink.
use Rattle.std.specs.Prelude.{◌≡◌, ◌≤◌, ◌⊎◌, ℕ, List, length, Some, None, Err}
use Rattle.pl_base.specs.declared.expanded.Argument.{Argument}
use Rattle.pl_bundle.specs.Bundles.{bundle_of}
use Rattle.pl_bundle.specs.declared.bundle.Bundle.{Bundle}
use Rattle.pl_base.specs.Streams.{with_front}
use Rattle.pl_streams.specs.Whole.{Inflow, IsBegun, IsRead, IsSent, IsWhole, Outflow, taken_limit}
use Rattle.pl_streams.specs.declared.reading.Unread.TheVariants as unread
use Rattle.pl_offline.specs.Output.{IsLine, IsPlan}
use Rattle.pl_offline.specs.declared.ending.Ending.{Ending}
use Rattle.pl_offline.specs.declared.ending.Ending.TheVariants as ending

-- The source was read to its end, and its bytes are a bundle of which this text is told.
pub record Holds
    (Tells : Bundle → List Argument → List ℕ → Type 0) (arguments : List Argument)
    (text : List ℕ) (old new : Inflow) : Type 0 where
  pub bytes : List ℕ
  pub whole : IsWhole bytes old new
  pub bundle : Bundle
  pub bundle_is : bundle_of bytes ≡ Some bundle
  pub tells : Tells bundle arguments text

-- a text that is told of a pipeline
abbrev pub Told : Bundle → List Argument → List ℕ → Type 0
Told bundle arguments text = IsPlan bundle arguments text ⊎ IsLine bundle arguments text

abbrev pub Runs : List Argument → Ending → Inflow → Inflow → Outflow → Outflow → Type 0
Runs arguments ending.Compiled old new before after =
    (text : List ℕ) × Holds IsPlan arguments text old new × IsSent text before after
Runs arguments ending.Refused old new before after =
    (line : List ℕ) × Holds IsLine arguments line old new × IsSent line before after
Runs arguments ending.NotBundle old new before after =
    (bytes : List ℕ) × IsWhole bytes old new × (bundle_of bytes ≡ None) × (after ≡ before)
Runs arguments ending.ReadFault old new before after =
    IsRead (Err unread.ReadFault) old new × (after ≡ before)
Runs arguments ending.Spent old new before after =
    IsRead (Err unread.Spent) old new × (after ≡ before)
Runs arguments ending.WriteFault old new before after =
    (text : List ℕ) × Holds Told arguments text old new × IsBegun text before after
Runs arguments (ending.Memory passed) old new before after =
    (bytes : List ℕ) × (old.left ≡ with_front bytes new.left) × (length bytes ≤ taken_limit)
    × (new.faults ≡ old.faults) × (after ≡ before)
