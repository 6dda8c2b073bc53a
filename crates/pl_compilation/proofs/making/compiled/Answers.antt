use Rattle.std.proofs.Common.{sym, subst}
use Rattle.pl_base.specs.declared.expanded.Refusal.{Refusal}
use Rattle.pl_compile.specs.Compiling.{IsRefusalOf}
use Rattle.pl_compilation.proofs.making.compiled.Goals as goal

pub returns-in-Err-Refused : goal.returns-in-Err-Refused
returns-in-Err-Refused c =
    let asked = c.args.snapshot.now in
    let told = rw c.in-Err-Refused.field-0-is at c.in-Err-Refused.ensures.compiled in
    subst (λ (refusal : Refusal). IsRefusalOf asked.files asked.root asked.arguments refusal)
    (sym c.in-Err-Refused.refusal-is) told
