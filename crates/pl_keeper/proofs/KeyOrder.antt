-- Rows sort as the records that they keep.
use Rattle.std.proofs.Common.{◌≡◌, ℕ, ◌<◌, ◌^◌, List, [], ◌∷◌, ◌++◌, refl, arith}
use Rattle.std.specs.Cmp.Lexicographic.{slice_cmp}
use Rattle.std.specs.Ordering.{nat_cmp, ordering_then}
use Rattle.std.specs.declared.cmp.Ordering.{Ordering}
use Rattle.pl_base.specs.declared.place.FileKey.{FileKey}
use Rattle.pl_base.specs.declared.resource.Kind.{Kind}
use Rattle.pl_base.specs.declared.resource.ResourceKey.{ResourceKey}
use Rattle.pl_fields.specs.Checks.{file_key, resource_key, IsFileKey}
use Rattle.pl_fields.specs.Fields.{number, text, IsText}
use Rattle.pl_fields.specs.Kinds.{kind_number}
use Rattle.pl_keeper.specs.Keeping.{place, place_cmp}
use Rattle.pl_keeper.specs.Parts.{texts}
use Rattle.pl_keeper.specs.Rows.{row_of, IsKept}
use Rattle.pl_keeper.specs.Sorting.{file_key_cmp, record_cmp, resource_key_cmp, shorter_first_cmp}
use Rattle.pl_keeper.specs.declared.records.Record.{Record}
use Rattle.pl_keeper.specs.declared.records.Record.TheVariants.{Meta, File, Pipeline, Resource}
use Rattle.pl_keeper.specs.declared.records.Record.TheVariants.{Principal, Agent, Run, Stage, Job}
use Rattle.pl_keeper.specs.declared.records.Record.TheVariants.{Decision}
use Rattle.pl_keeper.proofs.Tables.{decision_key, job_key, stage_key}
use Rattle.pl_keeper.proofs.Sorting.{alone_sorts, number_sorts, pair_sorts, text_sorts, SortsAs}

abbrev IsNumber : ℕ → Type 0
IsNumber n = n < 2 ^ 64

abbrev IsSmall : ℕ → Type 0
IsSmall n = n < 2 ^ 32

small_sorts : SortsAs number IsSmall nat_cmp
small_sorts m n r s small less = number_sorts m n r s (omega arith) (omega arith)

name_sorts : SortsAs text IsText shorter_first_cmp
name_sorts x y r s a b = text_sorts x y r s a.short b.short

abbrev kind_byte : Kind → List ℕ
kind_byte kind = kind_number kind ∷ []

abbrev kind_cmp : Kind → Kind → Ordering
kind_cmp left right = nat_cmp (kind_number left) (kind_number right)

kind_sorts : SortsAs kind_byte (λ _. Unit {0}) kind_cmp
kind_sorts x y r s a b = refl

names_sort : (x y : List ℕ) → IsText x → IsText y →
    slice_cmp nat_cmp (text x) (text y) ≡ shorter_first_cmp x y
names_sort = alone_sorts text IsText shorter_first_cmp name_sorts

abbrev file_texts : List ℕ × (List ℕ × List ℕ) → List ℕ
file_texts p = text p.0 ++ texts p.1

files_sort : (x y : FileKey) → IsFileKey x → IsFileKey y →
    slice_cmp nat_cmp (file_key x) (file_key y) ≡ file_key_cmp x y
files_sort x y a b = alone_sorts file_texts _ _
    (pair_sorts text IsText shorter_first_cmp name_sorts texts _ _
    (pair_sorts text IsText shorter_first_cmp name_sorts text IsText shorter_first_cmp name_sorts))
    (x.repo, (x.git_ref, x.path)) (y.repo, (y.git_ref, y.path)) a b

abbrev kind_and_name : Kind × List ℕ → List ℕ
kind_and_name p = kind_byte p.0 ++ text p.1

resources_sort : (x y : ResourceKey) → IsText x.name → IsText y.name →
    slice_cmp nat_cmp (resource_key x) (resource_key y) ≡ resource_key_cmp x y
resources_sort x y a b = alone_sorts kind_and_name _ _
    (pair_sorts kind_byte (λ _. Unit {0}) kind_cmp kind_sorts
    text IsText shorter_first_cmp name_sorts) (x.kind, x.name) (y.kind, y.name) (tt, a) (tt, b)

-- a run or a stage by its number, and a field behind it
module _ {X : Type 0} (spelled : X → List ℕ) (fits : X → Type 0) (cmp : X → X → Ordering)
    (sorts : SortsAs spelled fits cmp) where
  run_sorts : SortsAs (λ (p : ℕ × X). number p.0 ++ spelled p.1) (λ p. IsNumber p.0 × fits p.1)
      (λ p q. ordering_then (nat_cmp p.0 q.0) (cmp p.1 q.1))
  run_sorts = pair_sorts number IsNumber nat_cmp number_sorts spelled fits cmp sorts

  stage_sorts : SortsAs (λ (p : ℕ × X). number p.0 ++ spelled p.1) (λ p. IsSmall p.0 × fits p.1)
      (λ p q. ordering_then (nat_cmp p.0 q.0) (cmp p.1 q.1))
  stage_sorts = pair_sorts number IsSmall nat_cmp small_sorts spelled fits cmp sorts

abbrev stage_and_name : ℕ × List ℕ → List ℕ
stage_and_name p = number p.0 ++ text p.1

pub rows_sort : (left right : Record) → IsKept left → IsKept right →
    place_cmp (place (row_of left)) (place (row_of right)) ≡ record_cmp left right
rows_sort (Meta x) (Meta y) a b = refl
rows_sort (File x) (File y) a b = files_sort x.key y.key a.0 b.0
rows_sort (Pipeline x) (Pipeline y) a b = names_sort x.name y.name a.0 b.0
rows_sort (Resource x) (Resource y) a b = resources_sort x.key y.key a.0.1 b.0.1
rows_sort (Principal x) (Principal y) a b = names_sort x.name y.name a.0 b.0
rows_sort (Agent x) (Agent y) a b = names_sort x.name y.name a.0 b.0
rows_sort (Run x) (Run y) a b =
    alone_sorts number IsNumber nat_cmp number_sorts x.run y.run a.0 b.0
rows_sort (Stage x) (Stage y) a b =
    alone_sorts stage_key _ _ (run_sorts number IsSmall nat_cmp small_sorts)
    (x.run, x.position) (y.run, y.position) a.0 b.0
rows_sort (Job x) (Job y) a b =
    alone_sorts job_key _ _ (run_sorts stage_key _ _
    (stage_sorts number IsSmall nat_cmp small_sorts))
    (x.run, (x.stage, x.position)) (y.run, (y.stage, y.position)) a.0 b.0
rows_sort (Decision x) (Decision y) a b =
    alone_sorts decision_key _ _
    (run_sorts stage_and_name _ _ (stage_sorts text IsText shorter_first_cmp name_sorts))
    (x.run, (x.stage, x.approver)) (y.run, (y.stage, y.approver)) a.0 b.0
rows_sort left right a b = refl
