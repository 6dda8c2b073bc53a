-- Files whose keys have one, and the bundle of files.
use Rattle.std.proofs.Common.{◌≡◌, ◌<◌, true, false, ℕ, List, [], ◌∷◌, length, Option, Some, None}
use Rattle.std.proofs.Common.{refl, ap, sym, ◌∙◌, arith}
use Rattle.std.specs.Borrow.{Bor}
use Rattle.std.specs.FinMap as map
use Rattle.std.specs.Option.{is_none, is_some, option_copied, option_map}
use Rattle.std.proofs.lemmas.Option.{cond_some}
use Rattle.pl_base.specs.declared.place.FileKey.{FileKey}
use Rattle.pl_bundle.specs.Bundles.{Texts, is_readable, of_files}
use Rattle.pl_bundle.specs.Bundles.{of_read, placed, readable_key}

there :
    (found : Option (Bor (List ℕ))) → is_some found ≡ true → is_none (option_copied found) ≡ false
there None some = absurd (grind (arith, some))
there (Some text) some = refl

pub taken_key :
    (texts : Texts) (key : FileKey) (file : FileKey × List ℕ) (files : List (FileKey × List ℕ))
    (found : Option (Bor (List ℕ))) → Some key ≡ readable_key file.0 →
    option_copied found ≡ map.get texts key → is_some found ≡ true →
    placed texts (file ∷ files) ≡ None
taken_key texts key file files found readable got some =
    let here = cond_some (is_readable file.0) file.0 key (sym readable) in
    let held : is_none (map.get texts file.0) ≡ false =
    ap (λ key. is_none (map.get texts key)) here.1
    ∙ (ap is_none (sym got) ∙ there found some) in
    rw here.0 (rw held refl)

-- something stands before the first name
pub no_bundle :
    (read : List ℕ × List (FileKey × List ℕ)) → 0 < length read.0 → None ≡ of_read read
no_bundle ([], files) some = absurd (omega (arith, some))
no_bundle (byte ∷ front, files) some = refl

pub whole_bundle :
    (file : FileKey × List ℕ) (files : List (FileKey × List ℕ)) (root : FileKey) (texts : Texts) →
    Some root ≡ readable_key file.0 → placed map.empty (file ∷ files) ≡ Some texts →
    Some (record { root = root; files = texts }) ≡ of_files (file ∷ files)
whole_bundle file files root texts readable all =
    let here = cond_some (is_readable file.0) file.0 root (sym readable) in
    sym (ap (option_map (λ texts. record { root = file.0; files = texts })) all
    ∙ ap (λ key. Some (record { root = key; files = texts })) here.1)

pub cut_bundle :
    (file : FileKey × List ℕ) (files : List (FileKey × List ℕ)) →
    placed map.empty (file ∷ files) ≡ None → None ≡ of_files (file ∷ files)
cut_bundle file files none =
    sym (ap (option_map (λ texts. record { root = file.0; files = texts })) none)
