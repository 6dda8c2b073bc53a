-- What compiles compiles to one thing.
use Rattle.std.proofs.Common.{◌≡◌, ℕ, ap, sym, subst, ◌∙◌, List, ◌∷◌, drop, take, Option}
use Rattle.std.specs.List.{All, insert}
use Rattle.std.proofs.lemmas.List.Elements.{All-append, All-cons, All-drop, All-take}
use Rattle.std.specs.Prelude.{Ok, Err, Some, None}
use Rattle.pl_base.specs.declared.expanded.Argument.{Argument}
use Rattle.pl_base.specs.declared.expanded.Refusal.{Refusal}
use Rattle.pl_base.specs.declared.place.FileKey.{FileKey}
use Rattle.pl_sources.specs.Below.pl_compile.specs.Compiling.{Compiles, IsCompiledOf}
use Rattle.pl_sources.specs.Below.pl_compile.specs.Reading.{Texts}
use Rattle.pl_sources.specs.Below.pl_compile.specs.declared.fault.CompileFault.TheVariants as told
use Rattle.pl_plan.specs.declared.plan.Compiled.{Compiled}
use Rattle.pl_plan.specs.declared.plan.Sources.{Sources}
use Rattle.pl_seeing.specs.Seeing.{IsCompileOf, IsMadeOf}
use Rattle.pl_seeing.specs.Sharing.{Comes}
use Rattle.pl_sources.specs.Again.{files_of, CompilesToOne}

module _ (texts : Texts) (root : FileKey) (arguments : List Argument) (one : CompilesToOne) where
  pub comes : (compiled : Compiled) → Compiles texts root arguments (Ok compiled) →
      Comes texts root arguments (Some compiled)
  comes compiled is = (is, λ other o. one texts root arguments compiled (Ok other) is o)

  -- what is refused has no compile
  pub refused : (refusal : Refusal) →
      Compiles texts root arguments (Err (told.Refused refusal)) → Comes texts root arguments None
  refused refusal is = λ compiled o.
      one texts root arguments compiled (Err (told.Refused refusal)) o is

-- the compile of a run's files alone, and none where they have none
module _ (sources : Sources) where
  abbrev Coming : Option Compiled → Type 0
  Coming made = Comes (files_of sources) sources.root sources.arguments made

  pub nothing : (made : Option Compiled) → made ≡ None → Coming made → IsMadeOf sources None
  nothing made is comes = λ compiled own. (subst Coming is comes) compiled own.is

  -- what compiles to a plan of other sources has none either
  pub other : (made : Compiled) → Coming (Some made) → ¬ (made.sources ≡ sources) →
      IsMadeOf sources None
  other made comes differs = λ compiled own. differs
      (sym (ap (λ (c : Compiled). c.sources) (comes.1 compiled own.is)) ∙ own.same)

  pub same : (made shared : Compiled) → shared ≡ made → Coming (Some made) →
      made.sources ≡ sources → IsMadeOf sources (Some shared)
  same made shared is comes e =
      subst (λ (c : Compiled). IsMadeOf sources (Some c)) (sym is)
      (record { is = comes.0; same = e })

-- it is the compile of the sources that it has
pub own : (sources : Sources) (made copied : Compiled) → copied ≡ made →
    IsMadeOf sources (Some made) → IsCompileOf copied.sources copied
own sources made copied same is = subst (λ (c : Compiled). IsCompileOf c.sources c) (sym same)
    (subst (λ (s : Sources). IsCompileOf s made) (sym is.same) is)

pub All-insert : {X : Type 0} (P : X → Type 0) (xs : List X) (i : ℕ) (y : X) → All P xs → P y →
    All P (insert xs i y)
All-insert P xs i y all here =
    All-append P (take i xs) (y ∷ drop i xs) (All-take P i xs all)
    (All-cons P y (drop i xs) here (All-drop P i xs all))

-- what is found among them is the compile of these sources
pub found_own : (sources : Sources) (found kept copied : Compiled) →
    IsCompileOf found.sources found → found.sources ≡ sources → kept ≡ found → copied ≡ kept →
    IsCompileOf sources copied
found_own sources found kept copied own is same copy =
    subst (λ (c : Compiled). IsCompileOf sources c) (sym (copy ∙ same))
    (subst (λ (s : Sources). IsCompileOf s found) is own)
