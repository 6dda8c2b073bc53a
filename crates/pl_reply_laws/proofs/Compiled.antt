-- What is compiled leaves no choice: a refusal is the first of the expansion, of the schema or of
-- the plan, each of which is one.
use Rattle.std.proofs.Common.{◌≡◌, Ok, Err, List, sym, ap, subst, ◌∙◌, inl, inr}
use Rattle.std.specs.Prelude.{◌⊎◌, Result}
use Rattle.pl_base.specs.declared.expanded.Argument.{Argument}
use Rattle.pl_base.specs.declared.expanded.Expanded.{Expanded}
use Rattle.pl_base.specs.declared.expanded.Refusal.{Refusal}
use Rattle.pl_base.specs.declared.place.FileKey.{FileKey}
use Rattle.pl_alone.specs.Below.pl_compilation.specs.Made.{IsMadeOf}
use Rattle.pl_sources.specs.Below.pl_compile.specs.Compiling.{IsMisread, IsRefusalOf, IsUnplanned, plan_refusal}
use Rattle.pl_sources.specs.Below.pl_compile.specs.Compiling.{schema_refusal}
use Rattle.pl_sources.specs.Below.pl_compile.specs.Reading.{Texts}
use Rattle.pl_sources.specs.Below.pl_compile.specs.Refusals.{refusal_of}
use Rattle.pl_sources.specs.Below.pl_compile.specs.declared.fault.CompileFault.TheVariants as told
use Rattle.pl_plan.proofs.OneAnswer.{one_answer}
use Rattle.pl_plan.specs.Plans.{IsPlanOf}
use Rattle.pl_plan.specs.declared.plan.Compiled.{Compiled}
use Rattle.pl_snapshots.specs.declared.snapshot.Snapshot.{Snapshot}
use Rattle.pl_sources.specs.Again.{CompilesToOne}

abbrev IsLater : Expanded → Refusal → Type 0
IsLater whole refusal = IsMisread whole refusal ⊎ IsUnplanned whole refusal

one_later : (whole : Expanded) (left right : Refusal) → IsLater whole left → IsLater whole right →
    left ≡ right
one_later whole left right (inl (fault, reads, is)) (inl (other, also, has)) =
    let e = sym reads ∙ also in
    let same : fault ≡ other = cc in
    is ∙ ap schema_refusal same ∙ sym has
one_later whole left right (inl (fault, reads, is)) (inr (pipeline, also, other, plans, has)) =
    absurd (let e = sym reads ∙ also in cc)
one_later whole left right (inr (pipeline, reads, fault, plans, is)) (inl (other, also, has)) =
    absurd (let e = sym reads ∙ also in cc)
one_later whole left right (inr (pipeline, reads, fault, plans, is))
    (inr (second, also, other, planned, has)) =
    let e = sym reads ∙ also in
    let same : pipeline ≡ second = cc in
    let answers = one_answer second (Err fault) (Err other)
    (subst (λ pipeline. IsPlanOf pipeline (Err fault)) same plans) planned in
    let faults : fault ≡ other = cc in
    is ∙ ap plan_refusal faults ∙ sym has

one_refusal : (texts : Texts) (root : FileKey) (arguments : List Argument)
    (left right : Refusal) → IsRefusalOf texts root arguments left →
    IsRefusalOf texts root arguments right → left ≡ right
one_refusal texts root arguments left right (inl (complaint, so, is)) (inl (other, also, has)) =
    let e = sym so ∙ also in
    let same : complaint ≡ other = cc in
    is ∙ ap refusal_of same ∙ sym has
one_refusal texts root arguments left right (inl (complaint, so, is)) (inr (whole, expands, has)) =
    absurd (let e = sym so ∙ expands in cc)
one_refusal texts root arguments left right (inr (whole, expands, is)) (inl (other, also, has)) =
    absurd (let e = sym expands ∙ also in cc)
one_refusal texts root arguments left right (inr (whole, expands, is))
    (inr (other, also, has)) =
    let e = sym expands ∙ also in
    let same : whole ≡ other = cc in
    one_later other left right (subst (λ (whole : Expanded). IsLater whole left) same is) has

pub one_made_of : CompilesToOne → (snapshot : Snapshot) (left right : Result Compiled Refusal) →
    IsMadeOf snapshot left → IsMadeOf snapshot right → left ≡ right
one_made_of one snapshot (Ok left) (Ok right) is has =
    ap Ok (one snapshot.files snapshot.root snapshot.arguments right (Ok left) has is)
one_made_of one snapshot (Ok left) (Err right) is has =
    absurd (one snapshot.files snapshot.root snapshot.arguments left (Err (told.Refused right))
    is has)
one_made_of one snapshot (Err left) (Ok right) is has =
    absurd (one snapshot.files snapshot.root snapshot.arguments right (Err (told.Refused left))
    has is)
one_made_of one snapshot (Err left) (Err right) is has =
    ap Err (one_refusal snapshot.files snapshot.root snapshot.arguments left right is has)
