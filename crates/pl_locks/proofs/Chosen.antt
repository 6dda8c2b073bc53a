-- What is found first in a list in order is what the definitions call the least.
use Rattle.std.proofs.Common.{◌≡◌, ◌+◌, ◌<◌, ℕ, List, get_or, length, refl, sym, ap, ◌∙◌, subst}
use Rattle.std.proofs.Common.{arith, inl, ⊎_elim}
use Rattle.std.proofs.lemmas.Bool.{cases_lt}
use Rattle.std.proofs.lemmas.List.{get_or_default}
use Rattle.pl_locks.specs.declared.contender.Contender.{Contender}
use Rattle.pl_locks.specs.Locks.{GivesWay, IsAt, IsLeastSuperseded, IsLeastLaterRun, IsNext}
use Rattle.pl_locks.specs.Locks.{IsSuperseded, MayStart}
use Rattle.pl_base.specs.Firsts.{IsFirstAt}
use Rattle.pl_locks.specs.Kept.{IsOrdered}
use Rattle.pl_locks.proofs.Ordered.{least_of}

-- no stage so far, and not this one
pub none_more : (P : Contender → Type 0) (stages : List Contender) (i : ℕ) (stage : Contender) →
    i < length stages → stage ≡ get_or stages i stage →
    ((k : ℕ) (d : Contender) → k < i → P (get_or stages k d) → ⊥) → (P stage → ⊥) →
    (k : ℕ) (d : Contender) → k < i + 1 → P (get_or stages k d) → ⊥
none_more P stages i stage within is none fails k d below holds =
    ⊎_elim (λ earlier. none k d earlier holds)
    (λ rest. let e : k ≡ i = omega arith in
    let here = ap (λ n. get_or stages n d) e ∙ get_or_default stages i d stage within ∙ sym is in
    fails (subst P here holds))
    (cases_lt k i)

-- the first to whose stage it gives way has the least run
least_run : (eligible : List Contender) (stage : Contender) (place : ℕ) (d : Contender) →
    IsOrdered eligible → IsFirstAt (GivesWay stage) eligible place →
    IsLeastLaterRun eligible stage (get_or eligible place d).run
least_run eligible stage place d ordered first =
    let later = get_or eligible place d in
    let is = get_or_default eligible place later d first.within in
    record {
      some = (place, later, first.within, is, (first.here d, refl));
      least = λ other h gives. ⊎_elim
          (λ before. absurd (least_of (GivesWay stage) eligible place later ordered (sym is)
          first.before other h gives (inl before)))
          (λ rest. rest) (cases_lt other.run later.run);
    }

-- a stage that gives way, behind stages that don't
pub first_superseded : (eligible : List Contender) (i place : ℕ) (stage d : Contender) →
    IsOrdered eligible → i < length eligible → stage ≡ get_or eligible i stage →
    ((k : ℕ) (d : Contender) → k < i → IsSuperseded eligible (get_or eligible k d) → ⊥) →
    IsFirstAt (GivesWay stage) eligible place →
    (x : Contender) × IsLeastSuperseded eligible x × IsAt stage.run stage.position x ×
    IsLeastLaterRun eligible x (get_or eligible place d).run
first_superseded eligible i place stage d ordered within is none first =
    let later = get_or eligible place d in (
      stage,
      record {
        is_eligible = (i, within, sym is);
        superseded = (
          place,
          later,
          first.within,
          get_or_default eligible place later d
              first.within,
          first.here d,
        );
        least = least_of (IsSuperseded eligible) eligible i stage ordered is none;
      },
      (refl, refl),
      least_run eligible stage place d ordered first,
    )

-- a stage in whose way nothing stands, behind stages of which that isn't so
pub first_free : (eligible holders : List Contender) (i : ℕ) (stage : Contender) →
    IsOrdered eligible → i < length eligible → stage ≡ get_or eligible i stage →
    ((k : ℕ) (d : Contender) → k < i → MayStart eligible holders (get_or eligible k d) → ⊥) →
    MayStart eligible holders stage →
    (x : Contender) × IsNext eligible holders x × IsAt stage.run stage.position x
first_free eligible holders i stage ordered within is none may = (
  stage,
  record {
    is_eligible = (i, within, sym is);
    may_start = may;
    least = least_of (MayStart eligible holders) eligible i stage ordered is none;
  },
  (refl, refl),
)
