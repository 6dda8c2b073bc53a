-- A run of the command that the words are.
use Rattle.std.proofs.Common.{◌≡◌, ℕ, List, Option, Some, None, refl, inl, inr, subst}
use Rattle.pl_base.specs.declared.digest.Digest.{Digest}
use Rattle.pl_commands.specs.Run.{Runs}
use Rattle.pl_listener.specs.Handles.{Handle}
use Rattle.pl_outfit.specs.Outside.{Outside}
use Rattle.pl_outfit.specs.declared.status.Status.{Status}
use Rattle.pl_outfit.specs.declared.status.Status.TheVariants as status
use Rattle.pl_rehearse.specs.Rehearse.{Rehearses}
use Rattle.pl_replaying.specs.Replaying.{Replays}
use Rattle.pl_serving.specs.Serving.{Serves}
use Rattle.pl_words.specs.Words.{TakesMemory}
use Rattle.pl_words.specs.declared.command.Command.{Command}
use Rattle.pl_words.specs.declared.command.Command.TheVariants.{Compile, Rehearse, Replay, Serve}

module _ {L C : Type 0} (coming : C → Option (ℕ → ℕ)) (tells : L → Handle)
    (command : Option Command) (admin : Digest) (store path : Option (List ℕ)) (old : Outside)
    (ends : Status) (new : Outside) where
  pub replay_is : Some (Replay admin store) ≡ command → path ≡ store
      → Replays admin path old ends new → Runs coming tells command old ends new
  replay_is is same replays =
      subst (λ told. Runs coming tells told old ends new) is
      (inr (subst (λ at. Replays admin at old ends new) same replays))

  pub serve_is : (address : List ℕ) → Some (Serve admin address store) ≡ command → path ≡ store
      → Serves coming tells admin address path old ends new
      → Runs coming tells command old ends new
  serve_is address is same serves =
      subst (λ told. Runs coming tells told old ends new) is
      (inr (subst (λ at. Serves coming tells admin address at old ends new) same serves))

pub rehearse_is : {L C : Type 0} (coming : C → Option (ℕ → ℕ)) (tells : L → Handle)
    (command : Option Command) (runs : ℕ) (old : Outside) (ends : Status) (new : Outside)
    → Some (Rehearse runs) ≡ command → Rehearses runs old ends new
    → Runs coming tells command old ends new
rehearse_is coming tells command runs old ends new is rehearses =
    subst (λ told. Runs coming tells told old ends new) is rehearses

-- memory was wanting before anything was read or written
pub before_all : {L C : Type 0} (coming : C → Option (ℕ → ℕ)) (tells : L → Handle)
    (command : Option Command) (old : Outside) → TakesMemory command
    → Runs coming tells command old status.Memory old
before_all coming tells None old takes = absurd takes
before_all coming tells (Some (Replay admin path)) old takes = inl (refl, refl)
before_all coming tells (Some (Serve admin address path)) old takes = inl (refl, refl)
before_all coming tells (Some (Compile arguments)) old takes = inl (refl, refl)
before_all coming tells (Some (Rehearse runs)) old takes = absurd takes
