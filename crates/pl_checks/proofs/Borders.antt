-- Lists of borders behind references.
use Rattle.std.proofs.Common.{◌≡◌, ◌↔◌, ◌<◌, Bor, Some, List, [], ◌∷◌, length, map, sym, ap, ◌∙◌}
use Rattle.std.proofs.Common.{subst}
use Rattle.std.specs.List.{All, slice_get}
use Rattle.pl_base.specs.declared.place.FileKey.{FileKey}
use Rattle.pl_base.specs.declared.origin.Crossing.{Crossing}
use Rattle.pl_base.specs.declared.origin.Crossing.TheVariants.{Extends}
use Rattle.pl_checks.specs.Provenance.{BeginsWith, IsOwn, IsWritten}
use Rattle.std.proofs.lemmas.List.{get_or-map, length-map}
use Rattle.std.proofs.lemmas.List.Elements.{All-map}

-- the borders behind the references
abbrev pub borders : List (Bor Crossing) → List Crossing
borders crossings = map (λ crossing. crossing.now) crossings

-- the first border tells with what they begin
pub first_begins : (crossings : List (Bor Crossing)) (first : Bor Crossing) (file : FileKey) →
    slice_get crossings 0 ≡ Some first →
    (first.now ≡ Extends file) ↔ BeginsWith file (borders crossings)
first_begins [] first file is = cc
first_begins (crossing ∷ crossings) first file is =
    let same : crossing ≡ first = cc in (
      λ h. (borders crossings, ap (λ c. c ∷ borders crossings) (ap (λ c. c.now) same ∙ h)),
      λ b. let e = b.1 in sym (ap (λ c. c.now) same) ∙ (cc),
    )

-- a node is its template's own where its borders begin with the template's and all are as written
pub own : (crossings : List (Bor Crossing)) (file : FileKey) → BeginsWith file (borders crossings) →
    All (λ crossing. IsWritten crossing.now) crossings → IsOwn file (borders crossings)
own crossings file begins written = record {
  from = begins;
  written = All-map IsWritten (λ crossing. crossing.now) crossings written;
}

pub own_written : (crossings : List (Bor Crossing)) (file : FileKey) →
    IsOwn file (borders crossings) →
    All (λ crossing. IsWritten crossing.now) crossings
own_written crossings file own k d below =
    let within : k < length (borders crossings) = simp length-map below in
    subst IsWritten (get_or-map (λ crossing. crossing.now) crossings k d d.now below)
    (own.written k d.now within)
