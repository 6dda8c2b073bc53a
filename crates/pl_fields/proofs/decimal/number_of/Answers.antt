use Rattle.std.proofs.Common.{ℕ, List, sym, subst}
use Rattle.std.specs.Fmt.{decimal}
use Rattle.std.specs.Prelude.{IsUtf8}
use Rattle.std.proofs.lemmas.Fmt.{IsAscii-decimal}
use Rattle.std.proofs.lemmas.Str.{IsUtf8-from_ascii}
use Rattle.pl_fields.proofs.decimal.number_of.Goals as goal

pub returns-in-Err : goal.returns-in-Err
returns-in-Err c = λ n small e.
    c.in-Err.ensures.cases.0 (subst IsUtf8 (sym e)
    (IsUtf8-from_ascii (decimal n) (IsAscii-decimal n small)))
