use Rattle.std.proofs.Common.{◌≡◌, ℕ, List, Ok, true, false, sym, ap, subst, ◌∙◌, arith}
use Rattle.std.specs.Cmp.Lexicographic.{pointwise}
use Rattle.std.specs.Fmt.{decimal}
use Rattle.std.specs.Prelude.{nat_eq}
use Rattle.std.proofs.lemmas.Fmt.{parse-decimal}
use Rattle.pl_fields.proofs.Misses.{same_bytes, same_ok}
use Rattle.pl_fields.proofs.decimal.number_in.Goals as goal

pub returns-in-Err : goal.returns-in-Err
returns-in-Err c = λ n small e.
    let parsed = parse-decimal 64 n c.args.digits.now c.parse.result small small e
    c.parse.ensures.value.0 in cc

pub returns-else-eq : goal.returns-else-eq
returns-else-eq c = λ n small e.
    let parsed = parse-decimal 64 n c.args.digits.now c.parse.result small small e
    c.parse.ensures.value.0 in
    let number : n ≡ c.in-Ok.number = same_ok n c.in-Ok.number (sym parsed ∙ c.in-Ok.is) in
    let same : c.format.result.now ≡ c.args.digits.now = c.format.ensures.text ∙
    (ap decimal (sym number) ∙ sym e) in
    let wrong : false ≡ true = c.if-eq.ensures ∙
    (ap (λ (xs : List ℕ). pointwise nat_eq xs c.args.digits.now) same ∙
    same_bytes c.args.digits.now) in cc
