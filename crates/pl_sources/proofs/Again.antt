-- A plan's sources compile to the same.
use Rattle.std.proofs.Common.{◌≡◌, Ok, Err, List, refl, sym, ap, subst, ◌∙◌}
use Rattle.std.specs.Prelude.{Contains, IfOk, Result}
use Rattle.std.specs.Option.{option_map}
use Rattle.pl_base.specs.declared.expanded.Argument.{Argument}
use Rattle.pl_base.specs.declared.expanded.Expanded.{Expanded}
use Rattle.pl_base.specs.declared.place.FileKey.{FileKey}
use Rattle.pl_compile.proofs.Reading.{read_at}
use Rattle.pl_compile.specs.Compiling.{IsCompiledOf, sources_of}
use Rattle.pl_compile.specs.Reading.{Read, Texts, read_all}
use Rattle.pl_reading.specs.Steps.{◌>>=◌}
use Rattle.pl_directives.specs.declared.fault.ExpandFault.{ExpandFault}
use Rattle.pl_used_files.specs.Below.pl_root.specs.Reading.{parsed}
use Rattle.pl_compile.specs.Below.pl_expand.specs.Tree.{expansion, tree_of as rooted}
use Rattle.pl_compile.specs.Below.pl_expand.specs.declared.root.RootTree.{RootTree}
use Rattle.pl_plan.specs.declared.plan.Compiled.{Compiled}
use Rattle.pl_plan.specs.declared.plan.Sources.{Sources}
use Rattle.pl_used_files.specs.Alone.{AgreeOn}
use Rattle.pl_used_files.proofs.Rooted.{decide}
use Rattle.pl_sources.specs.Again.{SourcesCompileAgain, files_of}
use Rattle.pl_sources.proofs.Found.{SameAt, each_same, found, same_texts}

abbrev without_count : RootTree → Result Expanded ExpandFault
without_count one = Ok one.expanded

expands_by :
    (files others : Read) (root : FileKey) (arguments : List Argument) (whole : Expanded)
    (one : Result RootTree ExpandFault) → rooted files root arguments ≡ one →
    (one >>= without_count) ≡ Ok whole → AgreeOn whole.used files others →
    expansion others root arguments ≡ Ok whole
expands_by files others root arguments whole (Ok one) is so agree =
    let used : (key : FileKey) → Contains one.expanded.used key → Contains whole.used key =
    λ key has. subst (λ step. IfOk step (λ whole. Contains whole.used key)) so has in
    ap (λ step. step >>= without_count)
    (decide files others root arguments one is (λ key has. agree key (used key has)))
    ∙ so
expands_by files others root arguments whole (Err fault) is so agree = absurd (cc)

-- texts that agree are read as files that agree
agree_read :
    (texts others : Texts) (used : List FileKey) →
    ((key : FileKey) → Contains used key → SameAt texts others key) →
    AgreeOn used (read_all texts) (read_all others)
agree_read texts others used same key has =
    read_at others key
    ∙ (ap (option_map (parsed key)) (same key has) ∙ sym (read_at texts key))

from_sources :
    (texts : Texts) (root : FileKey) (arguments : List Argument) (compiled : Compiled)
    (is : IsCompiledOf texts root arguments compiled) →
    IsCompiledOf (files_of (sources_of texts root arguments is.whole.used)) root arguments compiled
from_sources texts root arguments compiled is =
    let used = is.whole.used in
    let others : Texts = files_of (sources_of texts root arguments used) in
    let same : (key : FileKey) → Contains used key → SameAt texts others key =
    λ key has. found texts key used has in
    record {
      whole = is.whole;
      expands = expands_by (read_all texts) (read_all others) root arguments is.whole
          (rooted (read_all texts) root arguments) refl is.expands
          (agree_read texts others used same);
      pipeline = is.pipeline;
      reads = is.reads;
      plans = is.plans;
      sources = is.sources
          ∙ ap (λ files. record { root = root; arguments = arguments; files = files })
          (sym (same_texts texts others used (each_same texts others used same)));
    }

pub compiles_again : SourcesCompileAgain
compiles_again texts root arguments compiled is =
    subst (λ (sources : Sources).
    IsCompiledOf (files_of sources) sources.root sources.arguments compiled)
    (sym is.sources) (from_sources texts root arguments compiled is)
