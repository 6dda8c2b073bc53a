use Rattle.std.proofs.Common.{◌∙◌}
use Rattle.pl_lock_queues.proofs.Changed.{named_taken}
use Rattle.pl_lock_queues.proofs.Marked.{taken_out}
use Rattle.pl_lock_queues.proofs.entering.take_at.Goals as goal

pub dismiss-requires : goal.dismiss-requires
dismiss-requires c = rw c.deref.ensures.value
    (taken_out c.args.eligible.now.items c.remove-stage.new.self.items c.args.at
    c.remove-stage.result c.requires.ordered c.requires.within c.remove-stage.ensures.value
    c.remove-stage.ensures.items).1

pub returns-clause-stage : goal.returns-clause-stage
returns-clause-stage c = rw c.take_name.ensures.same c.remove-stage.ensures.value

pub returns-clause-eligible : goal.returns-clause-eligible
returns-clause-eligible c = rw c.take_name.ensures.same
    (taken_out c.args.eligible.now.items c.remove-stage.new.self.items c.args.at
    c.remove-stage.result c.requires.ordered c.requires.within c.remove-stage.ensures.value
    c.remove-stage.ensures.items).0

pub returns-clause-ordered : goal.returns-clause-ordered
returns-clause-ordered c =
    (taken_out c.args.eligible.now.items c.remove-stage.new.self.items c.args.at
    c.remove-stage.result c.requires.ordered c.requires.within c.remove-stage.ensures.value
    c.remove-stage.ensures.items).1

pub returns-clause-waiting : goal.returns-clause-waiting
returns-clause-waiting c =
    let out = taken_out c.args.eligible.now.items c.remove-stage.new.self.items c.args.at
    c.remove-stage.result c.requires.ordered c.requires.within c.remove-stage.ensures.value
    c.remove-stage.ensures.items in
    rw c.deref.ensures.value at (c.dismiss.ensures c.args.eligible.now.items c.requires.ordered
    out.2 (c.deref.ensures.value ∙ out.0) c.requires.waiting)

pub returns-clause-names : goal.returns-clause-names
returns-clause-names c =
    let out = taken_out c.args.eligible.now.items c.remove-stage.new.self.items c.args.at
    c.remove-stage.result c.requires.ordered c.requires.within c.remove-stage.ensures.value
    c.remove-stage.ensures.items in
    named_taken c.args.eligible.now.items c.args.queues.now.names.lines c.take_name.new.names.lines
    c.requires.names c.remove-stage.result c.remove-stage.new.self.items c.requires.ordered out.2
    out.0 c.take_name.ensures.names
