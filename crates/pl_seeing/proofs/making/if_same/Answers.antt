use Rattle.pl_seeing.specs.Seeing.{sources_of}
use Rattle.pl_seeing.proofs.Compiling.{same}
use Rattle.pl_seeing.proofs.making.if_same.Goals as goal

pub returns-in_ok-new : goal.returns-in_ok-new
returns-in_ok-new c = same (sources_of c.args.told.now) c.args.compiled c.in_ok-new.field-0
    c.in_ok-new.ensures c.requires.comes (c.are_same.ensures.0 c.if-are_same.true)
