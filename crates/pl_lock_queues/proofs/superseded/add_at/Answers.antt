use Rattle.std.proofs.Common.{◌≡◌, true}
use Rattle.std.proofs.lemmas.Result.{on_ok_weaker}
use Rattle.std.specs.BTreeSet.{contains}
use Rattle.pl_lock_queues.specs.Queues.{Place, place_cmp}
use Rattle.pl_lock_queues.proofs.Earlier.{nobody_gives, one_there}
use Rattle.pl_lock_queues.proofs.superseded.add_at.Goals as goal

pub returns-in-Some-clause-ok : goal.returns-in-Some-clause-ok
returns-in-Some-clause-ok c =
    on_ok_weaker c.add_one.result (one_there c.args.eligible.now c.args.place.0 c.args.place.1 c.in-Some.at
    c.index-eligible-at.result c.requires c.in-Some.ensures c.index-eligible-at.is
    c.args.later.now (λ (p : Place). contains place_cmp c.args.superseded.now p ≡ true)
    (λ (p : Place). contains place_cmp c.add_one.new.superseded p ≡ true)) c.add_one.ensures.ok

pub returns-in-None-clause-ok : goal.returns-in-None-clause-ok
returns-in-None-clause-ok c =
    nobody_gives c.args.eligible.now c.args.place.0 c.args.place.1 c.in-None.ensures
    c.args.later.now (λ (p : Place). contains place_cmp c.args.superseded.now p ≡ true)
