use Rattle.std.proofs.Common.{ℕ, ◌++◌, ◌∷◌, [], ◌<◌, List, IsUtf8, length, subst, sym}
use Rattle.pl_scan.specs.Places.{EndsAt}
use Rattle.pl_scan.specs.declared.place.Place.TheVariants as place
use Rattle.pl_scan.proofs.Leading.{target_ends, target_more}
use Rattle.pl_scan.proofs.steps.after_target.Goals as goal

pub returns-in-32 : goal.returns-in-32
returns-in-32 c =
    subst (λ (b : ℕ). EndsAt (place.Version 0) (c.args.seen.now ++ b ∷ [])) (sym c.in-32.is)
    (target_ends c.args.seen.now c.args.start c.requires
    (subst (λ (t : List ℕ). (0 < length t) × IsUtf8 t) c.split_at.ensures.back
    (c.is_text.ensures c.if-is_text.true)))

pub returns-in_default : goal.returns-in_default
returns-in_default c = target_more c.args.byte c.args.start (cc) c.args.seen.now c.requires
