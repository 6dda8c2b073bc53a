-- Whether bytes are a text, and how many parts a line has.
use Rattle.std.proofs.Common.{inl, inr, ◌≡◌, ◌<◌, ℕ, List, Some, None, true, false, length}
use Rattle.std.proofs.Common.{refl, ap, sym, arith}
use Rattle.std.specs.Prelude.{◌∷◌, [], codes, nat_eq, if◌then◌else◌}
use Rattle.std.specs.Cmp.Lexicographic.{pointwise}
use Rattle.std.specs.List.{slice_split}
use Rattle.std.specs.Str.{is_utf8, IsUtf8}
use Rattle.std.proofs.lemmas.Bool.{cases_Bool}
use Rattle.std.proofs.lemmas.List.Splits.{length-slice_split}
use Rattle.std.proofs.lemmas.Option.{cond_some}
use Rattle.std.proofs.lemmas.Str.{IsUtf8-from_is_utf8, is_utf8-from_IsUtf8}
use Rattle.pl_base.specs.declared.place.FileKey.{FileKey}
use Rattle.pl_names.specs.Names.{is_key}
use Rattle.pl_bundle.specs.Bundles.{are_texts, is_readable, is_space, key_by, three}

pub is_text :
    (text bytes : List ℕ) → text ≡ bytes → IsUtf8 bytes →
    Some text ≡ (if is_utf8 bytes then Some bytes else None)
is_text text bytes same utf8 = rw (is_utf8-from_IsUtf8 bytes utf8) (ap Some same)

pub no_text :
    (bytes : List ℕ) → ¬ IsUtf8 bytes → None ≡ (if is_utf8 bytes then Some bytes else None)
no_text bytes wrong =
    elim (cases_Bool (is_utf8 bytes)) [
      | inl right ↦ absurd (wrong (IsUtf8-from_is_utf8 bytes right))
      | inr other ↦ rw other refl
    ]

pub readable :
    (key told : FileKey) → Some key ≡ (if are_texts told then Some told else None) →
    is_key key ≡ true → Some key ≡ (if is_readable told then Some told else None)
readable key told same rules =
    let here = cond_some (are_texts told) told key (sym same) in
    rw here.0 (rw (ap is_key here.1) (rw rules (ap Some (sym here.1))))

pub unreadable :
    (key told : FileKey) → Some key ≡ (if are_texts told then Some told else None) →
    is_key key ≡ false → None ≡ (if is_readable told then Some told else None)
unreadable key told same breaks =
    let here = cond_some (are_texts told) told key (sym same) in
    rw here.0 (rw (ap is_key here.1) (rw breaks refl))

-- ---- parts

more_than_three :
    (repo git_ref path : List ℕ) (parts : List (List ℕ)) → 0 < length parts →
    three (repo ∷ git_ref ∷ path ∷ parts) ≡ None
more_than_three repo git_ref path [] some = absurd (omega (arith, some))
more_than_three repo git_ref path (part ∷ parts) some = refl

-- bytes have one part at least
pub too_many :
    (repo git_ref path bytes : List ℕ) →
    three (repo ∷ git_ref ∷ path ∷ slice_split is_space bytes) ≡ None
too_many repo git_ref path bytes =
    more_than_three repo git_ref path (slice_split is_space bytes)
    (omega (arith, length-slice_split is_space bytes))

pub one_part : (line : List ℕ) → key_by (line ∷ []) ≡ None
one_part line =
    elim (cases_Bool (pointwise nat_eq line (codes "%%%"))) [
      | inl same ↦ rw same refl
      | inr other ↦ rw other refl
    ]
