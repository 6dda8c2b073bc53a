use Rattle.std.proofs.Common.{◌≡◌, sym, true, ◌∙◌}
use Rattle.std.proofs.lemmas.Bool.{false≢true}
use Rattle.pl_lines.specs.Lines.{stands}
use Rattle.pl_lock_queues.specs.Queues.{GivesWayAt, Place, is_named, is_named_at, name_cmp}
use Rattle.pl_lock_queues.specs.Queues.{place_cmp}
use Rattle.pl_lock_queues.proofs.Bools.{either_true, on_err}
use Rattle.pl_lock_queues.proofs.Changed.{again, named_put, nobody_here}
use Rattle.pl_lock_queues.proofs.ByName.{is_of_name, matched}
use Rattle.pl_lock_queues.proofs.entering.admit_named.Goals as goal

pub admit-requires-clause-named : goal.admit-requires-clause-named
admit-requires-clause-named c =
    let stage = c.args.stage.now in
    let name = c.in_ok-name.name in
    let lines = c.put_name.new.names.lines in
    let there : (p : Place) → GivesWayAt c.args.eligible.now stage p →
    stands name_cmp place_cmp lines name p ≡ true = λ p gives. c.in_ok-put_name.ensures.ok name p
    ∙ either_true (stands name_cmp place_cmp c.args.queues.now.names.lines name p)
    (is_named_at name p stage) (c.requires.names name p
    ∙ is_of_name c.args.eligible.now stage name c.in_ok-name.ensures p gives) in
    matched c.line.result _ _ _ _
    (λ none p gives. false≢true (sym (none p) ∙ there p gives))
    (λ line are p gives. sym (are p) ∙ there p gives) c.line.ensures

pub returns-in-Ok-clause-names : goal.returns-in-Ok-clause-names
returns-in-Ok-clause-names c = λ more put.
    named_put c.args.eligible.now c.args.queues.now.names.lines c.put_name.new.names.lines
    c.requires.names c.args.stage.now more put c.in_ok-put_name.ensures.ok

pub returns-clause-names_err : goal.returns-clause-names_err
returns-clause-names_err c = λ key p.
    again (stands name_cmp place_cmp c.args.queues.now.names.lines key)
    (stands name_cmp place_cmp c.put_name.new.names.lines key)
    (stands name_cmp place_cmp c.drop_name.new.names.lines key) (is_named key c.args.stage.now)
    c.args.stage.now (c.requires.names key _ ∙ nobody_here (is_named key) c.args.eligible.now
    c.args.stage.now c.requires.absent) (c.in_ok-put_name.ensures.ok key) (c.drop_name.ensures key) p
    ∙ c.requires.names key p

pub returns-in_err-put_name-clause-names_err : goal.returns-in_err-put_name-clause-names_err
returns-in_err-put_name-clause-names_err c = on_err c.from_residual-in_err-put_name.result _
    (λ key p. c.in_err-put_name.ensures.err key p ∙ c.requires.names key p)
