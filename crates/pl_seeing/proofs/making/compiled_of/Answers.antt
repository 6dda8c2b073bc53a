use Rattle.pl_seeing.specs.Seeing.{sources_of}
use Rattle.pl_seeing.proofs.Compiling.{nothing}
use Rattle.pl_seeing.proofs.making.compiled_of.Goals as goal

pub returns-in-None : goal.returns-in-None
returns-in-None c = nothing (sources_of c.args.told.now) c.in_ok-compiled.field-0 c.in-None.is
    c.in_ok-compiled.ensures
