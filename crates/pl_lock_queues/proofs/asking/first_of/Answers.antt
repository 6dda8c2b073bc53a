use Rattle.std.proofs.Common.{◌≡◌, Option, ap, subst, true, unwrap_or}
use Rattle.std.specs.BTreeSet.{contains}
use Rattle.pl_lock_queues.specs.Queues.{Place, place_cmp}
use Rattle.pl_lock_queues.proofs.Told.{never_in, no_less_in}
use Rattle.pl_lock_queues.proofs.asking.first_of.Goals as goal

pub returns-in-Some-clause-is : goal.returns-in-Some-clause-is
returns-in-Some-clause-is c = λ p e.
    subst (λ (q : Place). contains place_cmp c.args.places.now q ≡ true)
    (ap (λ (o : Option Place). unwrap_or o p) e) c.in-Some.ensures.member

pub returns-in-Some-clause-least : goal.returns-in-Some-clause-least
returns-in-Some-clause-least c =
    no_less_in c.args.places.now c.in-Some.place.now c.in-Some.ensures.least

pub returns-in-None-clause-is : goal.returns-in-None-clause-is
returns-in-None-clause-is c = λ p e. absurd (cc)

pub returns-in-None-clause-least : goal.returns-in-None-clause-least
returns-in-None-clause-least c = λ p h. absurd (never_in c.args.places.now c.in-None.ensures.variant p h)
