use Rattle.std.proofs.Common.{ap, arith}
use Rattle.std.proofs.lemmas.Map.Text.{text_keys}
use Rattle.pl_cond.specs.Placing.{place_of}
use Rattle.pl_cond.proofs.Standing.{extended_behind, extended_places}
use Rattle.pl_cond.proofs.gathering.Gathered.extended.Goals as goal

pub invariant_of-result : goal.invariant_of-result
invariant_of-result c = record {
  indexed = λ upper.
      let step = extended_places upper c.args.self.variables c.args.later _ c.requires.new
      c.len.ensures in
      let longer = ap (place_of upper) c.in_ok-push.ensures.ok in
      let h = c.in_ok-insert in
      grind (arith, text_keys, step, longer, c.args.self.indexed upper, c.requires.upper);
}

pub returns : goal.returns
returns c =
    extended_behind c.args.self.variables _ c.args.later c.requires.new c.in_ok-push.ensures.ok
