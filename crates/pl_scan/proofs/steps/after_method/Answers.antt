use Rattle.std.proofs.Common.{ℕ, ◌+◌, ◌++◌, ◌∷◌, [], length, subst, sym}
use Rattle.pl_scan.specs.Places.{EndsAt}
use Rattle.pl_scan.specs.declared.place.Place.TheVariants as place
use Rattle.pl_scan.proofs.Leading.{method_ends, method_more}
use Rattle.pl_scan.proofs.steps.after_method.Goals as goal

pub returns-in-32 : goal.returns-in-32
returns-in-32 c =
    let seen = c.args.seen.now in
    subst (λ (b : ℕ). EndsAt (place.Target (length seen + 1)) (seen ++ b ∷ [])) (sym c.in-32.is)
    (method_ends seen c.requires)

pub returns-in_default : goal.returns-in_default
returns-in_default c = method_more c.args.byte (cc) c.args.seen.now c.requires
