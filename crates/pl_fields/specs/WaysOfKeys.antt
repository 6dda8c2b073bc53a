-- No spelling of a key, an argument, a digest or a zone begins another one.
use Rattle.std.proofs.Common.{◌≡◌, ℕ, ◌<◌, ◌^◌, List, [], ◌∷◌, ◌++◌, length, refl, sym, ap, ◌∙◌}
use Rattle.std.proofs.Common.{arith}
use Rattle.std.proofs.lemmas.Option.{same_Some}
use Rattle.pl_base.specs.declared.digest.Digest.{Digest}
use Rattle.pl_base.specs.declared.expanded.Argument.{Argument}
use Rattle.pl_base.specs.declared.place.FileKey.{FileKey}
use Rattle.pl_base.specs.declared.resource.Kind.{Kind}
use Rattle.pl_base.specs.declared.resource.ResourceKey.{ResourceKey}
use Rattle.pl_digests.specs.Digests.{digest_in, hex_of, IsDigest}
use Rattle.pl_digests.proofs.Texts.{hex_len, text_is_read}
use Rattle.pl_fields.specs.Checks.{argument, digest, file_key, resource_key, IsArgument}
use Rattle.pl_fields.specs.Checks.{IsFileKey, IsZone}
use Rattle.pl_fields.specs.Fields.{text, IsText}
use Rattle.pl_fields.specs.Kinds.{kind_number, kinds}
use Rattle.pl_fields.specs.Reading.{IsOneWay}
use Rattle.pl_fields.specs.WaysOfCompounds.{pair_one_way}
use Rattle.pl_fields.specs.WaysOfKinds.{kind_back, numbered_one_way}
use Rattle.pl_fields.specs.WaysOfFields.{piece_one_way, text_one_way}

-- values that are written as others are, from which they can be made again
pub via_one_way : {X Y : Type 0} (to : X → Y) (made : Y → X) (spelled : Y → List ℕ)
    (fits : Y → Type 0)
    → ((x : X) → made (to x) ≡ x) → IsOneWay spelled fits →
    IsOneWay (λ (x : X). spelled (to x)) (λ x. fits (to x))
via_one_way to made spelled fits back one_way x y r s a b e =
    let parts = one_way (to x) (to y) r s a b e in
    (sym (back x) ∙ (ap made parts.0 ∙ back y), parts.1)

abbrev two : List ℕ × List ℕ → List ℕ
two p = text p.0 ++ text p.1

abbrev AreTwo : List ℕ × List ℕ → Type 0
AreTwo p = IsText p.0 × IsText p.1

pub texts_one_way : IsOneWay two AreTwo
texts_one_way = pair_one_way text IsText text_one_way text IsText text_one_way

pub file_key_one_way : IsOneWay file_key IsFileKey
file_key_one_way = via_one_way {X = FileKey} {Y = List ℕ × (List ℕ × List ℕ)}
    (λ key. (key.repo, (key.git_ref, key.path)))
    (λ p. record { repo = p.0; git_ref = p.1.0; path = p.1.1 })
    (λ p. text p.0 ++ two p.1) (λ p. IsText p.0 × AreTwo p.1) (λ key. refl)
    (pair_one_way text IsText text_one_way two AreTwo texts_one_way)

pub resource_key_one_way : IsOneWay resource_key (λ key. Unit {0} × IsText key.name)
resource_key_one_way = via_one_way {X = ResourceKey} {Y = Kind × List ℕ}
    (λ key. (key.kind, key.name))
    (λ p. record { kind = p.0; name = p.1 })
    (λ p. (kind_number p.0 ∷ []) ++ text p.1) (λ p. Unit {0} × IsText p.1) (λ key. refl)
    (pair_one_way (λ (kind : Kind). kind_number kind ∷ []) (λ _. Unit {0})
    (numbered_one_way kind_number kinds kind_back) text IsText text_one_way)

pub argument_one_way : IsOneWay argument IsArgument
argument_one_way = via_one_way {X = Argument} {Y = List ℕ × List ℕ}
    (λ given. (given.name, given.text))
    (λ p. record { name = p.0; text = p.1 }) two AreTwo (λ given. refl) texts_one_way

pub digest_one_way : IsOneWay digest IsDigest
digest_one_way x y r s is_x is_y e =
    let parts = piece_one_way (hex_of x) (hex_of y) r s (omega (arith, hex_len x is_x))
    (omega (arith, hex_len y is_y)) e in (
      same_Some x y (sym (text_is_read x is_x) ∙ (ap digest_in parts.0 ∙ text_is_read y is_y)),
      parts.1,
    )

pub zone_one_way : IsOneWay text IsZone
zone_one_way x y r s is_x is_y e = text_one_way x y r s is_x.is_text is_y.is_text e
