use Rattle.std.proofs.Common.{ℕ, List}
use Rattle.std.proofs.lemmas.Result.{err_from_is_err_and}
use Rattle.pl_base.specs.declared.place.FileKey.{FileKey}
use Rattle.pl_fields.proofs.Misses.{via_misses}
use Rattle.pl_fields.proofs.keys.FileKeyField.read.Goals as goal

pub returns-in_err-repo : goal.returns-in_err-repo
returns-in_err-repo c =
    let p = err_from_is_err_and c.from_residual.result c.from_residual.ensures.1 in
    rw (p.1, p.2) (via_misses {X = FileKey} {Y = List ℕ × (List ℕ × List ℕ)}
    (λ key. (key.repo, (key.git_ref, key.path))) _ _
    c.args.bytes.now c.in_err-repo.field-0.0 c.in_err-repo.ensures)
