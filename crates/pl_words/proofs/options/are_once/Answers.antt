use Rattle.std.proofs.Common.{◌∙◌, false, map, subst, sym, true}
use Rattle.pl_words.specs.Options.{is_given, options_of}
use Rattle.pl_words.specs.Parameters.{given}
use Rattle.pl_words.proofs.Fronts.{Judges, again, among, bytes_of, of_another_name, once_more}
use Rattle.pl_words.proofs.options.are_once.Goals.{then-not-contains-via-then-not-contains}
use Rattle.pl_words.proofs.options.are_once.Goals.{then-not-contains-via-else-not-contains+then-is_given}
use Rattle.pl_words.proofs.options.are_once.Goals as goal

pub returns-then-not-contains : goal.returns-then-not-contains
returns-then-not-contains c =
    let names = map (λ name. name.now) c.args.names.now in
    let one = given c.in-Some.front.option in
    let rest = options_of (bytes_of c.loop-rest.rest.now) in
    let behind = options_of (bytes_of c.in-Some.front.behind.now) in
    let there = among one.name c.args.names.now ∙ sym c.contains.ensures.value in
    elim c.then-not-contains.branch [
      | then-not-contains-via-then-not-contains w ↦
          of_another_name names one rest behind c.in-Some.ensures.front (there ∙ w.if-not-contains.true)
      | then-not-contains-via-else-not-contains+then-is_given w ↦
          again names one rest behind c.in-Some.ensures.front (there ∙ w.if-not-contains.false)
          (subst (Judges (is_given one.name) behind) w.if-is_given.true w.is_given.ensures)
    ]
    ∙ sym c.loop-rest.invariant

pub loop-rest-preserved : goal.loop-rest-preserved
loop-rest-preserved c =
    let names = map (λ name. name.now) c.args.names.now in
    let one = given c.in-Some.front.option in
    let rest = options_of (bytes_of c.loop-rest.rest.now) in
    let behind = options_of (bytes_of c.in-Some.front.behind.now) in
    c.loop-rest.invariant
    ∙ once_more names one rest behind c.in-Some.ensures.front
    (among one.name c.args.names.now ∙ sym c.contains.ensures.value ∙ c.if-not-contains.false)
    (subst (Judges (is_given one.name) behind) c.if-is_given.false c.is_given.ensures)
