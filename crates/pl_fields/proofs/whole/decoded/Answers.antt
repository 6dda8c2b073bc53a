use Rattle.std.proofs.Common.{◌≡◌, ℕ, List, length, true, false, ap, ◌∙◌}
use Rattle.std.specs.Prelude.{◌==◌}
use Rattle.std.proofs.lemmas.Result.{err_from_is_err_and}
use Rattle.pl_fields.proofs.Misses.{not_decoded, not_whole}
use Rattle.pl_fields.proofs.whole.decoded.Goals as goal

pub returns-in_err-value-clause-torn : goal.returns-in_err-value-clause-torn
returns-in_err-value-clause-torn g c =
    let p = err_from_is_err_and c.from_residual.result c.from_residual.ensures.1 in
    not_decoded g.T.Written.spelled g.T.Written.fits c.args.bytes.now c.from_residual.result p.0
    c.in_err-value.field-0.0 p.1 p.2 c.in_err-value.ensures

pub returns-else-is_empty-clause-torn : goal.returns-else-is_empty-clause-torn
returns-else-is_empty-clause-torn g c = λ torn.
    not_whole g.T.Written.spelled g.T.Written.fits g.met.T.Field.one_way c.in_ok-value.value
    c.args.bytes.now c.in_ok-value.rest.now c.in_ok-value.ensures
    (λ none. let e : false ≡ true = c.if-is_empty.ensures ∙
    ap (λ (r : List ℕ). length r == 0) none in cc)
