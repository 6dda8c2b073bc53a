-- What reading a set of texts gives at a key.
use Rattle.std.proofs.Common.{◌≡◌, true, false, ℕ, List, [], ◌∷◌, map, Some, None}
use Rattle.std.proofs.Common.{arith, refl, ap, subst, sym, ◌∙◌}
use Rattle.std.specs.Prelude.{cond}
use Rattle.std.specs.FinMap as finite
use Rattle.std.proofs.lemmas.Bool.{false≢true}
use Rattle.std.specs.Option.{is_some, option_map}
use Rattle.std.specs.Ordering.{eq_by_cmp, is_eq}
use Rattle.std.specs.Cmp.{eq_by_cmp_equiv}
use Rattle.std.specs.declared.cmp.Ordering.{Ordering}
use Rattle.std.specs.declared.cmp.Ordering.TheVariants.{Less, Equal, Greater}
use Rattle.pl_base.specs.Files.{file_cmp}
use Rattle.pl_base.specs.declared.place.FileKey.{FileKey}
use Rattle.pl_base.proofs.FileKeys.{exact_files, files_total}
use Rattle.pl_step_origins.specs.Below.pl_expand.specs.Below.pl_root.specs.Reading.{parsed}
use Rattle.pl_compile.specs.Reading.{AreOf, Read, Texts, read_all, read_one}

tied : (order : Ordering) → is_eq order ≡ true → order ≡ Equal
tied Less equal = absurd (grind (arith, equal))
tied Equal equal = refl
tied Greater equal = absurd (grind (arith, equal))

-- keys that compare as equal are equal
pub same_key : (key file : FileKey) → eq_by_cmp file_cmp key file ≡ true → key ≡ file
same_key key file equal = exact_files key file (tied (file_cmp key file) equal)

find_read :
    (files : List (FileKey × List ℕ)) (key : FileKey) →
    finite.find file_cmp key (map read_one files)
    ≡ option_map (parsed key) (finite.find file_cmp key files)
find_read [] key = refl
find_read (file ∷ files) key =
    elim (eq_by_cmp file_cmp key file.0) as (λ equal. eq_by_cmp file_cmp key file.0 ≡ equal →
    cond equal (Some (parsed file.0 file.1)) (finite.find file_cmp key (map read_one files))
    ≡ option_map (parsed key) (cond equal (Some file.1) (finite.find file_cmp key files))) [
      | true ↦ λ equal. ap (λ at. Some (parsed at file.1)) (sym (same_key key file.0 equal))
      | false ↦ λ other. find_read files key
    ] refl

-- a key's file is its text, read as YAML
pub read_at :
    (texts : Texts) (key : FileKey) →
    finite.get (read_all texts) key ≡ option_map (parsed key) (finite.get texts key)
read_at texts key =
    finite.get-from_entries files_total (map read_one (finite.entries texts)) key
    ∙ (find_read (finite.entries texts) key
    ∙ ap (option_map (parsed key)) (sym (finite.get-entries texts key)))

-- ---- one file more was read

pub read_more :
    (texts : Texts) (read : Read) (key : FileKey) (text : List ℕ) → AreOf texts read →
    finite.get texts key ≡ Some text → AreOf texts (finite.insert read key (parsed key text))
read_more texts read key text are there at file found =
    elim (eq_by_cmp file_cmp at key) as (λ equal. eq_by_cmp file_cmp at key ≡ equal →
    cond equal (Some (parsed key text)) (finite.get read at) ≡ Some file →
    finite.get (read_all texts) at ≡ Some file) [
      | true ↦ λ equal here.
          ap (finite.get (read_all texts)) (same_key at key equal)
          ∙ (read_at texts key ∙ (ap (option_map (parsed key)) there ∙ here))
      | false ↦ λ other here. are at file here
    ] refl (sym (finite.get-insert files_total read key (parsed key text) at) ∙ found)

pub none_yet : (texts : Texts) (read : Read) → read ≡ finite.empty → AreOf texts read
none_yet texts read is key file found =
    absurd (false≢true
    (ap is_some (sym (finite.get-empty file_cmp key) ∙ (ap (λ read. finite.get read key) (sym is) ∙
    found))))

-- ---- a file that is asked for

pub absent :
    (texts here : Texts) (key : FileKey) → texts ≡ here → None ≡ finite.get texts key →
    None ≡ finite.get (read_all here) key
absent texts here key same none =
    sym (read_at here key
    ∙ ap (option_map (parsed key)) (ap (λ texts. finite.get texts key) (sym same) ∙ sym none))

-- one file more was read: its text is this one
pub record Stored (texts : Texts) (new : Read) (key : FileKey) : Type 0 where
  pub old : Read
  pub text : List ℕ
  pub are : AreOf texts old
  pub there : finite.get texts key ≡ Some text
  pub new_is : new ≡ finite.insert old key (parsed key text)

pub all_are : (texts : Texts) (new : Read) (key : FileKey) → Stored texts new key → AreOf texts new
all_are texts new key stored =
    subst (AreOf texts) (sym stored.new_is)
    (read_more texts stored.old key stored.text stored.are stored.there)

pub found :
    (texts here : Texts) (new : Read) (key : FileKey) → texts ≡ here → Stored texts new key →
    finite.get new key ≡ finite.get (read_all here) key
found texts here new key same stored =
    let itself : eq_by_cmp file_cmp key key ≡ true = (eq_by_cmp_equiv files_total).refl key in
    let there : finite.get new key ≡ Some (parsed key stored.text) =
    ap (λ read. finite.get read key) stored.new_is
    ∙ (finite.get-insert files_total stored.old key (parsed key stored.text) key
    ∙ ap (λ equal. cond equal (Some (parsed key stored.text)) (finite.get stored.old key)) itself)
    in
    there
    ∙ (sym (all_are texts new key stored key (parsed key stored.text) there)
    ∙ ap (λ texts. finite.get (read_all texts) key) same)
