-- Files in lists.
use Rattle.std.proofs.Common.{◌≡◌, ℕ, Bool, true, false, cond, not, List, [], ◌∷◌, ◌++◌}
use Rattle.std.proofs.Common.{Option, Some, None, refl, sym, ap, ◌∙◌}
use Rattle.std.specs.Cmp.{Equal-is, eq_by_cmp_equiv}
use Rattle.std.specs.List.{filter}
use Rattle.std.specs.Option.{option_or}
use Rattle.pl_base.proofs.FileKeys.{exact_files, files_total}
use Rattle.pl_base.specs.Files.{file_cmp}
use Rattle.pl_base.specs.declared.place.FileKey.{FileKey}
use Rattle.pl_requests.specs.declared.settings.FileText.{FileText}
use Rattle.pl_file_sets.specs.Spread.{is_high, spread_of}
use Rattle.pl_file_sets.specs.Tries.{is_key, is_on_side, text_in}

-- two keys that compare alike are one
pub one_key : (a b : FileKey) → is_key a b ≡ true → a ≡ b
one_key a b h = exact_files a b ((Equal-is (file_cmp a b)).0 h)

none_else : (b : Bool) → ◌≡◌ {A = Option (List ℕ)} None (cond b None None)
none_else true = refl
none_else false = refl

-- ---- what is found among those that pass a test

module _ (p : FileKey → Bool) (key : FileKey) where
  one_more : (file : FileText) (files passing : List FileText) →
      text_in key passing ≡ cond (p key) (text_in key files) None →
      (same : Bool) → is_key key file.key ≡ same → (passes : Bool) → p file.key ≡ passes →
      text_in key (cond passes (file ∷ passing) passing)
      ≡ cond (p key) (cond same (Some file.text) (text_in key files)) None
  one_more file files passing rest true is true passes =
      ap (λ b. cond b (Some file.text) (text_in key passing)) is
      ∙ ap (λ b. cond b (Some file.text) None) (sym (ap p (one_key key file.key is) ∙ passes))
  one_more file files passing rest true is false fails =
      rest
      ∙ ap (λ b. cond b (text_in key files) None) (ap p (one_key key file.key is) ∙ fails)
      ∙ ap (λ b. cond b (Some file.text) None) (sym (ap p (one_key key file.key is) ∙ fails))
  one_more file files passing rest false is true passes =
      ap (λ b. cond b (Some file.text) (text_in key passing)) is ∙ rest
  one_more file files passing rest false is false fails = rest

  pub among : (files : List FileText) →
      text_in key (filter (λ file. p file.key) files) ≡ cond (p key) (text_in key files) None
  among [] = none_else (p key)
  among (file ∷ files) = one_more file files (filter (λ one. p one.key) files) (among files)
      (is_key key file.key) refl (p file.key) refl

-- ---- one file behind others

or_behind : (b : Bool) (text : List ℕ) (found rest last : Option (List ℕ)) →
    found ≡ option_or rest last →
    cond b (Some text) found ≡ option_or (cond b (Some text) rest) last
or_behind true text found rest last is = refl
or_behind false text found rest last is = is

behind : (files : List FileText) (file : FileText) (key : FileKey) →
    text_in key (files ++ file ∷ [])
    ≡ option_or (text_in key files) (cond (is_key key file.key) (Some file.text) None)
behind [] file key = refl
behind (one ∷ files) file key =
    or_behind (is_key key one.key) one.text _ (text_in key files) _ (behind files file key)

or_none : (found : Option (List ℕ)) → option_or found None ≡ found
or_none None = refl
or_none (Some text) = refl

in_place : (b : Bool) (text : List ℕ) (found : Option (List ℕ)) →
    option_or (cond (not b) found None) (cond b (Some text) None) ≡ cond b (Some text) found
in_place true text found = refl
in_place false text found = or_none found

but_none : (b : Bool) (found : Option (List ℕ)) → cond (not b) found None ≡ cond b None found
but_none true found = refl
but_none false found = refl

same_both : (a b : FileKey) → is_key a b ≡ is_key b a
same_both = (eq_by_cmp_equiv files_total).symm

module _ (files : List FileText) (name key : FileKey) where
  pub without_one :
      text_in key (filter (λ one. not (is_key name one.key)) files)
      ≡ cond (is_key key name) None (text_in key files)
  without_one =
      among (λ one. not (is_key name one)) key files
      ∙ ap (λ b. cond (not b) (text_in key files) None) (same_both name key)
      ∙ but_none (is_key key name) (text_in key files)

-- a file in the place of that of its key
pub with_one : (files : List FileText) (file : FileText) (key : FileKey) →
    text_in key (filter (λ one. not (is_key file.key one.key)) files ++ file ∷ [])
    ≡ cond (is_key key file.key) (Some file.text) (text_in key files)
with_one files file key =
    behind (filter (λ one. not (is_key file.key one.key)) files) file key
    ∙ ap (λ found. option_or found (cond (is_key key file.key) (Some file.text) None))
    (among (λ one. not (is_key file.key one)) key files
    ∙ ap (λ b. cond (not b) (text_in key files) None) (same_both file.key key))
    ∙ in_place (is_key key file.key) file.text (text_in key files)

-- ---- the two sides of a bit

both_sides : (h : Bool) (found : Option (List ℕ)) →
    cond h (cond h found None) (cond (not h) found None) ≡ found
both_sides true found = refl
both_sides false found = refl

pub by_sides : (bit : ℕ) (files : List FileText) (key : FileKey) →
    cond (is_high bit (spread_of key))
    (text_in key (filter (λ file. is_on_side true bit file.key) files))
    (text_in key (filter (λ file. is_on_side false bit file.key) files)) ≡ text_in key files
by_sides bit files key =
    (λ i. cond (is_high bit (spread_of key)) (among (is_on_side true bit) key files i)
    (among (is_on_side false bit) key files i))
    ∙ both_sides (is_high bit (spread_of key)) (text_in key files)
