-- What status functions answer where there is no run.
use Rattle.std.proofs.Common.{◌≡◌, ◌↔◌, ℕ, Bool, true, false, Option, None, List, [], ◌∷◌, refl}
use Rattle.std.proofs.Common.{sym, ◌∙◌}
use Rattle.std.specs.Prelude.{IsTrue}
use Rattle.std.specs.List.{list_any}
use Rattle.pl_base.specs.declared.outcome.Outcome.{Outcome}
use Rattle.pl_base.specs.declared.place.Place.{Place}
use Rattle.pl_expr.specs.declared.expr.Function.TheVariants.{Failed, Succeeded, SucceededOrFailed}
use Rattle.pl_eval.specs.Statuses.{went_wrong, was_run, results_named, status_of}
use Rattle.pl_frame.specs.declared.frame.Frame.{Frame}
use Rattle.pl_frame.specs.Names.{known_at}

no_results : (p : Option Outcome → Bool) → p None ≡ false → (names : List (List ℕ)) →
    list_any p (results_named [] names) ≡ false
no_results p none [] = refl
no_results p none (name ∷ names) = rw none (no_results p none names)

untrue : (b : Bool) → (b ≡ true → ⊥) → b ≡ false
untrue true h = absurd (h refl)
untrue false h = refl

pub failed : (frame : Frame) (place : Place) (names : List (List ℕ)) →
    false ≡ status_of (known_at frame place) Failed names
failed frame place [] = refl
failed frame place (name ∷ names) = sym (no_results went_wrong refl (name ∷ names))

pub succeeded : (frame : Frame) (place : Place) (names : List (List ℕ)) (test : Bool) →
    IsTrue test ↔ (names ≡ []) → test ≡ status_of (known_at frame place) Succeeded names
succeeded frame place [] test tells = tells.1 refl
succeeded frame place (name ∷ names) test tells = untrue test (λ is. let e = tells.0 is in cc)

pub succeeded_or_failed : (frame : Frame) (place : Place) (names : List (List ℕ)) (test : Bool) →
    IsTrue test ↔ (names ≡ []) → test ≡ status_of (known_at frame place) SucceededOrFailed names
succeeded_or_failed frame place [] test tells = tells.1 refl
succeeded_or_failed frame place (name ∷ names) test tells =
    untrue test (λ is. let e = tells.0 is in cc) ∙ sym (no_results was_run refl (name ∷ names))
