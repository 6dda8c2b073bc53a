use Rattle.std.proofs.Common.{ℕ, List, length, ap, arith, ◌∙◌}
use Rattle.std.specs.Prelude.{nat_le}
use Rattle.pl_generated.proofs.Lengths.{is_short}
use Rattle.pl_generated.proofs.requests.next_request.Goals as goal

pub returns-clause-well_formed : goal.returns-clause-well_formed
returns-clause-well_formed c =
    ap (λ (bytes : List ℕ). nat_le (length bytes) 262144)
    (c.in_ok-new.ensures ∙ (c.in_ok-bytes.ensures ∙ (c.as_bytes.ensures ∙ c.in_ok-text.ensures)))
    ∙ is_short c.args.number (omega (arith, c.ranges.number.fits))
