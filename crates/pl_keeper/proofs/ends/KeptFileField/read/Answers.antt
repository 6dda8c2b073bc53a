use Rattle.std.proofs.Common.{ℕ, List, Option}
use Rattle.std.proofs.lemmas.Result.{err_from_is_err_and}
use Rattle.pl_base.specs.declared.place.FileKey.{FileKey}
use Rattle.pl_fields.specs.declared.texts.Raw.{Raw}
use Rattle.pl_fields.proofs.Misses.{via_misses}
use Rattle.pl_keeper.specs.declared.records.KeptFile.{KeptFile}
use Rattle.pl_keeper.proofs.ends.KeptFileField.read.Goals as goal

pub returns-in_err-key : goal.returns-in_err-key
returns-in_err-key c =
    let p = err_from_is_err_and c.from_residual.result c.from_residual.ensures.1 in
    rw (p.1, p.2) (via_misses {X = KeptFile} {Y = FileKey × Raw}
    (λ told. (told.key, record { bytes = told.text })) _ _ c.args.bytes.now
    c.in_err-key.field-0.0
    c.in_err-key.ensures)
