use Rattle.std.proofs.Common.{◌≡◌, drop, ap, ◌∙◌, arith}
use Rattle.std.specs.Prelude.{chars}
use Rattle.std.proofs.lemmas.List.{drop-drop}
use Rattle.pl_line.proofs.Laws.Taking.{took, rest_of, within_all}
use Rattle.pl_line.proofs.characters.Characters.behind.Goals as goal

pub loop-preserved : goal.loop-preserved
loop-preserved c =
    took c.next.result (chars c.loop.rest.text.now) (chars c.next.new.self.text.now) c.next.ensures
    ∙ ap (drop 1) c.loop.invariant
    ∙ drop-drop 1 c.loop.counter (chars c.args.self.now.text.now)

pub overflow_sub-result : goal.overflow_sub-result
overflow_sub-result c = within_all c.args.len c.args.self.now.len (chars c.args.self.now.text.now)
    c.requires

pub returns : goal.returns
returns c =
    let all : c.loop.counter ≡ c.args.len = omega arith in
    rest_of c.args.len c.args.self.now.len (chars c.args.self.now.text.now)
    (chars c.loop.rest.text.now)
    (within_all c.args.len c.args.self.now.len (chars c.args.self.now.text.now) c.requires)
    (c.loop.invariant ∙ ap (λ n. drop n (chars c.args.self.now.text.now)) all)
