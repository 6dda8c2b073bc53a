use Rattle.std.proofs.Common.{subst}
use Rattle.std.specs.Prelude.{Err}
use Rattle.pl_sources.specs.Below.pl_compile.specs.Compiling.{Compiles}
use Rattle.pl_sources.specs.Below.pl_compile.specs.declared.fault.CompileFault.{CompileFault}
use Rattle.pl_seeing.proofs.Compiling.{comes, refused}
use Rattle.pl_seeing.proofs.making.compiled_from.Goals as goal

pub returns-in-Ok : goal.returns-in-Ok
returns-in-Ok c = comes c.args.files.now c.args.told.now.root c.args.told.now.arguments
    c.sources_compile_again.ensures.one c.in-Ok.compiled c.in-Ok.ensures.compiled

pub returns-in-Refused : goal.returns-in-Refused
returns-in-Refused c =
    refused c.args.files.now c.args.told.now.root c.args.told.now.arguments
    c.sources_compile_again.ensures.one c.in-Refused._refusal
    (subst (λ (fault : CompileFault). Compiles c.args.files.now c.args.told.now.root
    c.args.told.now.arguments (Err fault)) c.in-Refused.is c.in-Err.ensures.compiled)
