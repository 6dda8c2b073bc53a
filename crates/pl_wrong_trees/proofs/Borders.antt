-- Borders lead into sources, and are crossed by calls.
use Rattle.std.proofs.Common.{◌≡◌, ℕ, zero, suc, Some, None, Ok, List, [], ◌∷◌, subst, arith}
use Rattle.std.specs.Prelude.{Contains}
use Rattle.std.specs.FinMap as finite
use Rattle.pl_base.specs.declared.expanded.Argument.{Argument as RunArgument}
use Rattle.pl_base.specs.declared.origin.Crossing.{Crossing}
use Rattle.pl_base.specs.declared.origin.Crossing.TheVariants.{Extends, Include, Argument, Made}
use Rattle.pl_base.specs.declared.place.FileKey.{FileKey}
use Rattle.pl_base.specs.declared.place.Place.{Place}
use Rattle.pl_calls.specs.declared.reaching.Home.{Home}
use Rattle.pl_calls.specs.Reaching.{target}
use Rattle.pl_paths.specs.Paths.{cut_path}
use Rattle.pl_eval_laws.specs.Trees.{origins_of}
use Rattle.pl_expand.specs.Tree.{Set}
use Rattle.pl_provenance.specs.Known.{IsKnown, IsBorder, IsNamed, Leads, IsCalling}
use Rattle.pl_provenance.specs.Known.{as_written, by_expression}
use Rattle.pl_provenance.specs.Written.{file_of}
use Rattle.pl_wrong_trees.specs.Wrong.{NoOtherFile, NoOtherItem, HasNoExpression, BeginsNoCall}
use Rattle.pl_wrong_trees.proofs.Members.{contained}

module _ (files : Set) (home : Home) where
  into_source :
      (used : List FileKey) (arguments : List RunArgument) (key : FileKey) →
      finite.get files key ≡ None → (crossing : Crossing) →
      IsBorder files home used arguments crossing → file_of crossing ≡ Some key → ⊥
  into_source used arguments key none (Extends file) border is =
      let same : file ≡ key = cc in
      let there = border.1.1 in
      absurd (cc)
  into_source used arguments key none (Include file at) border is =
      let same : file ≡ key = cc in
      let there = border.0.1.1 in
      absurd (cc)
  into_source used arguments key none (Argument name at) border is = absurd (cc)
  into_source used arguments key none Made border is = absurd (cc)

  -- the item of a call of the way calls by a path that leads to the called file
  named_on_the_way :
      (key : FileKey) (at : Place) (file : FileKey) (crossings : List Crossing) (place : Place) →
      Leads files home file crossings place → Contains crossings (Include key at) →
      (caller : FileKey) × IsNamed files home caller at key
  named_on_the_way key at file [] place led (k, within, is) = absurd (omega (arith, within))
  named_on_the_way key at file (Extends other ∷ crossings) place led (zero, within, is) =
      absurd (cc)
  named_on_the_way key at file (Extends other ∷ crossings) place led (suc k, within, is) =
      named_on_the_way key at other crossings place led (k, omega (arith, within), is)
  named_on_the_way key at file (Include other from ∷ crossings) place led (zero, within, is) =
      let called : other ≡ key = cc in
      let item : from ≡ at = cc in (
        file,
        subst (λ (here : Place). IsNamed files home file here key) item
            (subst (λ (there : FileKey). IsNamed files home file from there) called led.1.0),
      )
  named_on_the_way key at file (Include other from ∷ crossings) place led (suc k, within, is) =
      named_on_the_way key at other crossings place led.1.1 (k, omega (arith, within), is)
  named_on_the_way key at file (Argument name from ∷ crossings) place led there = absurd led
  named_on_the_way key at file (Made ∷ crossings) place led there = absurd led

  no_call :
      (key : FileKey) (at place : Place) (path : List ℕ) → HasNoExpression files at →
      BeginsNoCall files home key at → target at (cut_path path) home ≡ Ok (Some key) →
      IsCalling files at place path → ⊥
  no_call key at place path plain other leads (as_written stands) = other place path stands leads
  no_call key at place path plain other leads (by_expression asked) =
      plain asked.text asked.written asked.stands asked.is_in asked.expression

pub into_sources : NoOtherFile
into_sources files home used arguments tree traced origin told crossing crossed key is none =
    let known =
    contained (IsKnown files home used arguments) (origins_of tree) origin traced.known told in
    into_source files home used arguments key none crossing
    (contained (IsBorder files home used arguments) origin.crossings crossing known.1 crossed) is

pub by_calls : NoOtherItem
by_calls files home used arguments tree traced origin told of_files key at crossed plain other =
    let known =
    contained (IsKnown files home used arguments) (origins_of tree) origin traced.known told in
    let (caller, named) =
    named_on_the_way files home key at home.root origin.crossings origin.source
    (known.2 of_files) crossed in
    no_call files home key at named.place named.path plain other named.leads named.calls
