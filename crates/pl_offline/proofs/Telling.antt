-- What is told of the bytes of a source that was read to its end.
use Rattle.std.proofs.Common.{◌≡◌, ℕ, List, Option, Some, None, Err, inl, inr, refl, subst, arith}
use Rattle.pl_base.specs.declared.expanded.Argument.{Argument}
use Rattle.pl_budgets.specs.declared.budget.Budget.{Budget}
use Rattle.pl_bundle.specs.Bundles.{bundle_of}
use Rattle.pl_bundle.specs.declared.bundle.Bundle.{Bundle}
use Rattle.pl_streams.specs.Whole.{Inflow, IsRead, IsWhole, Outflow}
use Rattle.pl_streams.specs.declared.reading.Unread.TheVariants as unread
use Rattle.pl_offline.specs.Output.{IsLine, IsOutput, IsPlan}
use Rattle.pl_offline.specs.Running.{Holds, Runs, Told}
use Rattle.pl_offline.specs.declared.ending.Ending.TheVariants as ending
use Rattle.pl_offline.specs.declared.output.Output.TheVariants as output

module _ (arguments : List Argument) (bytes given : List ℕ) (old new : Inflow)
    (same : given ≡ bytes) (whole : IsWhole bytes old new) where
  pub plan_held :
      (text : List ℕ) → IsOutput (bundle_of given) arguments (output.Plan text) →
      Holds IsPlan arguments text old new
  plan_held text told =
      go (bundle_of bytes) refl
      (subst (λ bytes. IsOutput (bundle_of bytes) arguments (output.Plan text)) same told)
    where
      go :
          (found : Option Bundle) → bundle_of bytes ≡ found →
          IsOutput found arguments (output.Plan text) → Holds IsPlan arguments text old new
      go None is told = absurd told
      go (Some bundle) is told = record {
        bytes = bytes;
        whole = whole;
        bundle = bundle;
        bundle_is = is;
        tells = told;
      }

  pub line_held :
      (line : List ℕ) → IsOutput (bundle_of given) arguments (output.Line line) →
      Holds IsLine arguments line old new
  line_held line told =
      go (bundle_of bytes) refl
      (subst (λ bytes. IsOutput (bundle_of bytes) arguments (output.Line line)) same told)
    where
      go :
          (found : Option Bundle) → bundle_of bytes ≡ found →
          IsOutput found arguments (output.Line line) → Holds IsLine arguments line old new
      go None is told = absurd told
      go (Some bundle) is told = record {
        bytes = bytes;
        whole = whole;
        bundle = bundle;
        bundle_is = is;
        tells = told;
      }

module _ (arguments : List Argument) (text : List ℕ) (old new : Inflow) where
  pub plan_told : Holds IsPlan arguments text old new → Holds Told arguments text old new
  plan_told held = record {
    bytes = held.bytes;
    whole = held.whole;
    bundle = held.bundle;
    bundle_is = held.bundle_is;
    tells = inl held.tells;
  }

  pub line_told : Holds IsLine arguments text old new → Holds Told arguments text old new
  line_told held = record {
    bytes = held.bytes;
    whole = held.whole;
    bundle = held.bundle;
    bundle_is = held.bundle_is;
    tells = inr held.tells;
  }

-- ---- where memory was wanting

module _ (arguments : List Argument) (old new : Inflow) (before after : Outflow)
    (passed : Option Budget) (same : after ≡ before) where
  pub cut_memory :
      IsRead (Err unread.Memory) old new →
      Runs arguments (ending.Memory passed) old new before after
  cut_memory cut = (cut.bytes, cut.gave, cut.within, cut.broken, same)

  pub whole_memory :
      (bytes : List ℕ) → IsWhole bytes old new →
      Runs arguments (ending.Memory passed) old new before after
  whole_memory bytes whole = (bytes, whole.gave, omega (arith, whole.few), whole.quiet, same)
