-- What is past the bound with its front is past it whole.
use Rattle.std.proofs.Common.{◌≡◌, ℕ, ◌<◌, ◌≤◌, List, ◌++◌, length, Ok, Err, refl, ap, sym, ◌∙◌}
use Rattle.std.proofs.Common.{append_assoc, arith, length-append}
use Rattle.std.proofs.lemmas.Bool.{le-leb, lt-leb}
use Rattle.pl_texts.specs.declared.fault.TextFault.{TextFault}
use Rattle.pl_texts.specs.declared.fault.TextFault.TheVariants.{Index, TooLong, Memory}
use Rattle.pl_texts.specs.Bound.{bounded}
use Rattle.pl_texts.specs.Gives.{Refuses, IsPast}

pub too_long : (text : List ℕ) → 65536 < length text → bounded text ≡ Err TooLong
too_long text past = rw (lt-leb (length text) 65536 past) refl

pub within_bound : (text : List ℕ) → length text ≤ 65536 → bounded text ≡ Ok text
within_bound text within = rw (le-leb (length text) 65536 within) refl

pub refuses :
    (fault : TextFault) (front more whole : List ℕ) → IsPast fault front → whole ≡ front ++ more →
    Refuses {X = List ℕ} fault (bounded whole)
refuses TooLong front more whole past e =
    too_long whole (omega (arith, length-append front more, ap length e))
refuses Memory front more whole past e = tt
refuses Index front more whole past e = absurd past

-- one piece more, and two
pub behind_one :
    (whole made first rest : List ℕ) → whole ≡ made ++ (first ++ rest) →
    whole ≡ (made ++ first) ++ rest
behind_one whole made first rest e = e ∙ sym (append_assoc made first rest)

pub behind_two :
    (whole made first second rest longer : List ℕ) → longer ≡ made ++ first →
    whole ≡ made ++ (first ++ (second ++ rest)) → whole ≡ (longer ++ second) ++ rest
behind_two whole made first second rest longer longer_is e =
    behind_one whole made first (second ++ rest) e ∙
    (ap (λ front. front ++ (second ++ rest)) (sym longer_is) ∙
    sym (append_assoc longer second rest))
