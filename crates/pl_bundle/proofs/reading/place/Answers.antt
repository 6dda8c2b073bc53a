use Rattle.std.proofs.Common.{rules}
use Rattle.pl_bundle.specs.Taking.{file_in}
use Rattle.pl_bundle.proofs.Placing.{taken_key}
use Rattle.pl_bundle.proofs.reading.place.Goals as goal

pub returns-then-is_some : goal.returns-then-is_some
returns-then-is_some c = (
  taken_key c.args.texts.now c.args.key (file_in c.args.opened.now) _ c.get.result
      c.requires.readable c.get.ensures (search rules),
  tt,
)
