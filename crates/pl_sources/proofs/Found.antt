-- The files of a set at some keys, and no other: what stands at these keys.
use Rattle.std.proofs.Common.{◌≡◌, ℕ, zero, suc, Bool, true, false, cond, Option, Some, None}
use Rattle.std.proofs.Common.{List, [], ◌∷◌, ◌++◌, refl, sym, ap, arith, ◌∙◌}
use Rattle.std.specs.Prelude.{Contains}
use Rattle.std.specs.FinMap as finite
use Rattle.std.specs.List.{AllByRecursion as Each}
use Rattle.std.specs.Cmp.{eq_by_cmp_equiv}
use Rattle.std.specs.Ordering.{eq_by_cmp}
use Rattle.std.proofs.lemmas.Bool.{false≢true}
use Rattle.pl_base.proofs.FileKeys.{files_total}
use Rattle.pl_base.specs.Files.{file_cmp}
use Rattle.pl_base.specs.declared.place.FileKey.{FileKey}
use Rattle.pl_compile.proofs.Reading.{same_key}
use Rattle.pl_compile.specs.Compiling.{text_at, texts_of}
use Rattle.pl_compile.specs.Reading.{Texts}
use Rattle.pl_eval_laws.proofs.Lists.{each_contained, each_implies}

behind :
    {X : Type 0} (first : X) (xs : List X) (x : X) → Contains (first ∷ xs) x →
    (first ≡ x → ⊥) → Contains xs x
behind first xs x (zero, within, is) differs = absurd (differs is)
behind first xs x (suc at, within, is) differs = (at, omega (arith, within), is)

module _ (texts : Texts) (key : FileKey) where
  -- a key without a file stays without
  absent : (keys : List FileKey) → finite.get texts key ≡ None →
      finite.find file_cmp key (texts_of texts keys) ≡ None
  absent [] none = refl
  absent (first ∷ keys) none = by (finite.get texts first) refl (absent keys none)
    where
      here : (text : List ℕ) → finite.get texts first ≡ Some text → (test : Bool) →
          eq_by_cmp file_cmp key first ≡ test →
          finite.find file_cmp key (texts_of texts keys) ≡ None →
          cond test (Some text) (finite.find file_cmp key (texts_of texts keys)) ≡ None
      here text is true equal rest =
          absurd (let e = sym none ∙ (ap (finite.get texts) (same_key key first equal) ∙ is) in cc)
      here text is false other rest = rest

      by : (found : Option (List ℕ)) → finite.get texts first ≡ found →
          finite.find file_cmp key (texts_of texts keys) ≡ None →
          finite.find file_cmp key (text_at first found ++ texts_of texts keys) ≡ None
      by None is rest = rest
      by (Some text) is rest = here text is (eq_by_cmp file_cmp key first) refl rest

  -- a key among them has its file
  present : (text : List ℕ) → finite.get texts key ≡ Some text → (keys : List FileKey) →
      Contains keys key → finite.find file_cmp key (texts_of texts keys) ≡ Some text
  present text has [] (at, within, is) = absurd (omega (arith, within))
  present text has (first ∷ keys) contains =
      by (finite.get texts first) refl
      (λ differs. present text has keys (behind first keys key contains differs))
    where
      Later : Type 0
      Later = (first ≡ key → ⊥) → finite.find file_cmp key (texts_of texts keys) ≡ Some text

      here : (one : List ℕ) → finite.get texts first ≡ Some one → (test : Bool) →
          eq_by_cmp file_cmp key first ≡ test → Later →
          cond test (Some one) (finite.find file_cmp key (texts_of texts keys)) ≡ Some text
      here one is true equal later =
          sym is ∙ (ap (finite.get texts) (sym (same_key key first equal)) ∙ has)
      here one is false other later =
          later (λ same. false≢true (sym other ∙ (ap (eq_by_cmp file_cmp key) same
          ∙ (eq_by_cmp_equiv files_total).refl key)))

      by : (found : Option (List ℕ)) → finite.get texts first ≡ found → Later →
          finite.find file_cmp key (text_at first found ++ texts_of texts keys) ≡ Some text
      by None is later =
          later (λ same. absurd (let e = sym is ∙ (ap (finite.get texts) same ∙ has) in cc))
      by (Some one) is later = here one is (eq_by_cmp file_cmp key first) refl later

  pub found : (keys : List FileKey) → Contains keys key →
      finite.get (finite.from_entries {R = file_cmp} (texts_of texts keys)) key
      ≡ finite.get texts key
  found keys contains =
      finite.get-from_entries files_total (texts_of texts keys) key
      ∙ by (finite.get texts key) refl
    where
      by : (own : Option (List ℕ)) → finite.get texts key ≡ own →
          finite.find file_cmp key (texts_of texts keys) ≡ own
      by None is = absent keys is
      by (Some text) is = present text is keys contains

-- ---- sets with the same files at some keys have the same texts there

abbrev pub SameAt : Texts → Texts → FileKey → Type 0
SameAt texts others key = finite.get others key ≡ finite.get texts key

pub same_texts :
    (texts others : Texts) (keys : List FileKey) → Each (SameAt texts others) keys →
    texts_of others keys ≡ texts_of texts keys
same_texts texts others [] all = refl
same_texts texts others (key ∷ keys) all =
    λ i. text_at key (all.0 i) ++ same_texts texts others keys all.1 i

pub each_same :
    (texts others : Texts) (keys : List FileKey) →
    ((key : FileKey) → Contains keys key → SameAt texts others key) →
    Each (SameAt texts others) keys
each_same texts others keys same =
    each_implies (Contains keys) (SameAt texts others) same keys (each_contained keys)
