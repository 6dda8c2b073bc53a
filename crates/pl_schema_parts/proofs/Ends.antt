-- A text that doesn't end with another one.
use Rattle.std.proofs.Common.{◌≡◌, ℕ, ◌-◌, Bool, true, false, None, Option, List, ◌++◌, length}
use Rattle.std.proofs.Common.{take, drop, refl, sym, ap, ◌∙◌}
use Rattle.std.specs.Prelude.{nat_eq, if◌then◌else◌}
use Rattle.std.specs.List.{ends_with}
use Rattle.std.specs.Cmp.Lexicographic.{pointwise}
use Rattle.std.proofs.lemmas.Bool.Decides.{Decides-eqb}
use Rattle.std.proofs.lemmas.List.{take-append-drop}
use Rattle.std.proofs.lemmas.Slice.Eq.{slice_eq-Decides}

pub no_end : {X : Type 0} (text end : List ℕ) (ends : Bool) → ends_with nat_eq text end ≡ ends →
    ((front : List ℕ) → text ≡ front ++ end → ⊥) → (kept : Option X) →
    None ≡ (if ends then kept else None)
no_end text end false is absent kept = refl
no_end text end true is absent kept =
    let at = length text - length end in
    let same : end ≡ drop at text =
    (slice_eq-Decides Decides-eqb end (drop at text) (pointwise nat_eq end (drop at text))
    refl).0 is in
    absurd (absent (take at text) (sym (take-append-drop at text) ∙ ap
    (λ rest. take at text ++ rest) (sym same)))
