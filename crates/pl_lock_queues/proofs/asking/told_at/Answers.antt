use Rattle.std.proofs.Common.{get_or}
use Rattle.std.proofs.lemmas.List.{get_or_default}
use Rattle.pl_lock_queues.proofs.Told.{gives_there, none_before}
use Rattle.pl_lock_queues.proofs.asking.told_at.Goals as goal

pub told_of-requires-clause-gives : goal.told_of-requires-clause-gives
told_of-requires-clause-gives c = λ d.
    gives_there c.args.eligible.now c.args.place.0 c.args.place.1 c.in-Some.at
    (get_or c.args.eligible.now c.in-Some.at d) c.requires.ordered c.in-Some.ensures
    (get_or_default c.args.eligible.now c.in-Some.at d (get_or c.args.eligible.now c.in-Some.at d)
    c.in-Some.ensures.within) c.requires.there

pub told_of-requires-clause-none : goal.told_of-requires-clause-none
told_of-requires-clause-none c = λ k d.
    none_before c.args.eligible.now c.args.place.0 c.args.place.1 c.in-Some.at
    (get_or c.args.eligible.now c.in-Some.at d) c.requires.ordered c.in-Some.ensures
    (get_or_default c.args.eligible.now c.in-Some.at d (get_or c.args.eligible.now c.in-Some.at d)
    c.in-Some.ensures.within) c.requires.least k d
