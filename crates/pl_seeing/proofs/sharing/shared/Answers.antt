use Rattle.std.proofs.Common.{◌≡◌, ◌<◌, List, Option, get_or, length, subst}
use Rattle.std.specs.List.{HoldsAt}
use Rattle.pl_plan.specs.declared.plan.Compiled.{Compiled}
use Rattle.pl_seeing.specs.Seeing.{sources_of, IsCompileOf, IsMadeOf}
use Rattle.pl_seeing.proofs.Compiling.{found_own, own, All-insert}
use Rattle.pl_seeing.proofs.sharing.shared.Goals as goal

pub returns-in-Ok-clause-made : goal.returns-in-Ok-clause-made
returns-in-Ok-clause-made c =
    let sources = sources_of c.args.told.now in
    let kept = c.index.result.now in
    let at = c.in-Ok.at in
    let within : at < length c.args.made.now.all.items =
    subst (λ (made : List Compiled). at < length made) c.as_slice.ensures.value
    c.in-Ok.ensures.within in
    let found : HoldsAt (λ (one : Compiled). one.sources ≡ sources) c.args.made.now.all.items at =
    subst (λ (made : List Compiled). HoldsAt (λ (one : Compiled). one.sources ≡ sources) made at)
    c.as_slice.ensures.value c.in-Ok.ensures.found in
    found_own sources (get_or c.args.made.now.all.items at kept) kept c.in_ok-copy-in-Ok.field-0
    (c.requires.own at kept within) (found kept) c.index.ensures c.in_ok-copy-in-Ok.ensures

pub returns-in_err-insert-clause-own : goal.returns-in_err-insert-clause-own
returns-in_err-insert-clause-own c = rw c.in_err-insert.ensures.items c.requires.own

pub returns-clause-own : goal.returns-clause-own
returns-clause-own c = rw c.in_ok-insert.ensures.items
    (All-insert (λ (one : Compiled). IsCompileOf one.sources one) _ _ _ c.requires.own
    (own (sources_of c.args.told.now) c.in-Some.compiled c.in_ok-copy.field-0
    c.in_ok-copy.ensures
    (subst (λ (o : Option Compiled). IsMadeOf (sources_of c.args.told.now) o) c.in-Some.is
    c.in_ok-compiled.ensures)))
