-- What is seen of rows: what each is read as, and of a run's row the compile of its sources.
use Rattle.std.specs.Prelude.{◌≡◌, ℕ, List, map, Option, Some, None}
use Rattle.std.specs.List.{AllZip}
use Rattle.pl_base.specs.declared.place.FileKey.{FileKey}
use Rattle.pl_base.specs.declared.row.Row.{Row}
use Rattle.pl_sources.specs.Below.pl_compile.specs.Compiling.{IsCompiledOf}
use Rattle.pl_keeper.specs.declared.records.KeptFile.{KeptFile}
use Rattle.pl_keeper.specs.declared.records.KeptRun.{KeptRun}
use Rattle.pl_keeper.specs.declared.records.Record.{Record}
use Rattle.pl_keeper.specs.declared.records.Record.TheVariants as kept
use Rattle.pl_plan.specs.declared.plan.Compiled.{Compiled}
use Rattle.pl_plan.specs.declared.plan.Sources.{Sources}
use Rattle.pl_read.specs.Reading.{IsRead}
use Rattle.pl_sources.specs.Again.{files_of}
use Rattle.pl_torn.specs.declared.seen.Seen.{Seen}

-- ---- what a run was compiled from

abbrev pub pair_of : KeptFile → FileKey × List ℕ
pair_of file = (file.key, file.text)

abbrev pub sources_of : KeptRun → Sources
sources_of told = record {
  root = told.root;
  arguments = told.arguments;
  files = map pair_of told.files;
}

-- ---- its compile, which has these same sources

-- the compile of sources, over the files among them alone, from which it has them
pub record IsCompileOf (sources : Sources) (compiled : Compiled) : Type 0 where
  pub is : IsCompiledOf (files_of sources) sources.root sources.arguments compiled
  pub same : compiled.sources ≡ sources

-- that, or none where there is no such
abbrev pub IsMadeOf : Sources → Option Compiled → Type 0
IsMadeOf sources (Some compiled) = IsCompileOf sources compiled
IsMadeOf sources None = (compiled : Compiled) → ¬ IsCompileOf sources compiled

-- rows of other tables have no compile
abbrev pub IsMadeBy : Option Record → Option Compiled → Type 0
IsMadeBy (Some (kept.Run told)) compiled = IsMadeOf (sources_of told) compiled
IsMadeBy _ compiled = compiled ≡ None

pub record IsSeen (row : Row) (one : Seen) : Type 0 where
  pub same : one.row.now ≡ row
  pub read : IsRead row one.kept
  pub made : IsMadeBy one.kept one.compiled

-- of each row, in order
abbrev pub AreSeen : List Row → List Seen → Type 0
AreSeen rows all = AllZip IsSeen rows all
