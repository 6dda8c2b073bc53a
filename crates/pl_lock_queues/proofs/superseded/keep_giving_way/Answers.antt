use Rattle.std.proofs.Common.{◌≤◌, ◌⊎◌, rules}
use Rattle.pl_lock_queues.specs.Queues.{IsSupersededAt, Place}
use Rattle.pl_lock_queues.proofs.Retained.{left_in, retained}
use Rattle.pl_lock_queues.proofs.superseded.keep_giving_way.Goals as goal

pub returns : goal.returns
returns c =
    left_in c.args.superseded.now c.retain.new.self
    (λ (p : Place). (c.args.run ≤ p.0) ⊎ IsSupersededAt c.args.eligible.now p)
    (retained _ (λ (p : Place). (c.args.run ≤ p.0) ⊎ IsSupersededAt c.args.eligible.now p) _
    (λ p b f called. search rules) c.args.superseded.now.keys c.retain.new.self.keys
    c.retain.ensures.filtered)
