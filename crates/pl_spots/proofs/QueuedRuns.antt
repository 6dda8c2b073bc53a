-- What a run's row holds can be read again.
use Rattle.std.proofs.Common.{ℕ, ◌<◌, ◌^◌, Option, Result, Ok, Err, IfOk}
use Rattle.std.specs.Prelude.{IfSome}
use Rattle.pl_facts.specs.declared.fact.QueuedRun.{QueuedRun}
use Rattle.pl_fields.specs.Checks.{IsArgument, IsFileKey}
use Rattle.pl_fields.specs.Fields.{IsListOf, IsText}
use Rattle.pl_keeper.specs.Parts.{IsKeptFile}
use Rattle.pl_keeper.specs.Rows.{IsKept}
use Rattle.pl_kept.specs.Kept.{run_record}
use Rattle.pl_kept.specs.Told.{used_file}
use Rattle.pl_spots.proofs.Mapped.{list_fits}

-- the row's key, and its body
abbrev pub BodyFits : Option ℕ → ℕ → QueuedRun → Type 0
BodyFits canceled moment told = IsText told.pipeline × (IsText told.requester ×
    ((moment < 2 ^ 64) × (IsFileKey told.compiled.sources.root ×
    (IsListOf IsArgument told.compiled.sources.arguments ×
    (IsListOf (λ pair. IsKeptFile (used_file pair)) told.compiled.sources.files ×
    IfSome canceled (λ moment. moment < 2 ^ 64))))))

pub run_fits : (run : ℕ) (canceled : Option ℕ) (moment : ℕ) (told : QueuedRun) → run < 2 ^ 64 →
    BodyFits canceled moment told → IsKept (run_record run canceled moment told)
run_fits run canceled moment told a (b, (c, (d, (e, (f, (g, h)))))) = (
  a,
  (
    b,
    (
      c,
      (
        d,
        (
          e,
          (
            f,
            (list_fits used_file IsKeptFile told.compiled.sources.files g, h),
          ),
        ),
      ),
    ),
  ),
)

pub ok_both : {X E : Type 0} (r : Result X E) (P Q R : Type 0) → IfOk r (λ _. P) →
    IfOk r (λ _. Q) → (P → Q → R) → IfOk r (λ _. R)
ok_both (Ok x) P Q R p q leads = leads p q
ok_both (Err e) P Q R p q leads = p
