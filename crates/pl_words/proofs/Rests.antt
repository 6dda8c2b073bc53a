-- The arguments that words spell, an argument more.
use Rattle.std.proofs.Common.{◌≡◌, ℕ, ◌||◌, Bool, true, false, List, [], ◌∷◌, ◌++◌, Option, Some, None}
use Rattle.std.proofs.Common.{refl, sym, ap, ◌∙◌, subst, append_assoc, append-nil, arith, length}
use Rattle.std.proofs.Common.{String, Global}
use Rattle.std.specs.Prelude.{◌==◌, nat_eq, if◌then◌else◌}
use Rattle.std.specs.Option.{IfSome, is_some, option_and_then}
use Rattle.std.specs.Cmp.Lexicographic.{pointwise}
use Rattle.std.proofs.lemmas.Bool.{false≢true}
use Rattle.pl_base.specs.declared.expanded.Argument.{Argument}
use Rattle.pl_words.specs.Options.{Given, and_more}
use Rattle.pl_words.specs.Words.{argument_given, arguments_given, arguments_of, before, is_named}
use Rattle.pl_words.proofs.Fronts.{bytes_of}

-- the first option gives an argument
pub led :
    (one : Given) (argument : Argument) (rest behind : Option (List Given)) →
    rest ≡ and_more one behind → argument_given one ≡ Some argument →
    option_and_then arguments_given rest
    ≡ option_and_then (before argument) (option_and_then arguments_given behind)
led one argument rest None is gives = ap (option_and_then arguments_given) is
led one argument rest (Some others) is gives =
    ap (option_and_then arguments_given) is
    ∙ ap (option_and_then (λ argument. option_and_then (before argument)
    (arguments_given others))) gives

-- it gives none
pub strayed :
    (one : Given) (rest behind : Option (List Given)) → rest ≡ and_more one behind →
    argument_given one ≡ None → option_and_then arguments_given rest ≡ None
strayed one rest None is gives = ap (option_and_then arguments_given) is
strayed one rest (Some others) is gives =
    ap (option_and_then arguments_given) is
    ∙ ap (option_and_then (λ argument. option_and_then (before argument)
    (arguments_given others))) gives

pub nothing :
    (words : List (String Global)) → (length words == 0) ≡ true →
    arguments_of (bytes_of words) ≡ Some []
nothing [] none = refl
nothing (word ∷ words) none = absurd (grind (arith, none))

-- an argument's front is itself and others
pub parted :
    (argument : Argument) (rest : Option (List Argument)) (arguments : List Argument) →
    option_and_then (before argument) rest ≡ Some arguments →
    (others : List Argument)
    × (rest ≡ Some others) × (is_named argument.name others ≡ false)
    × (arguments ≡ argument ∷ others)
parted argument None arguments is = absurd (false≢true (ap is_some is))
parted argument (Some others) arguments is =
    elim (is_named argument.name others) as (λ named. is_named argument.name others ≡ named →
    (if named then None else Some (argument ∷ others)) ≡ Some arguments →
    (more : List Argument)
    × (Some others ≡ Some more) × (is_named argument.name more ≡ false)
    × (arguments ≡ argument ∷ more)) [
      | true ↦ λ named is. absurd (false≢true (ap is_some is))
      | false ↦ λ fresh is. (others, refl, fresh, cc)
    ] refl is

abbrev pub Found : Type 0
Found = Option (List Argument)

-- ---- a name among the arguments

-- Some arguments have a name as those of a rest do.
abbrev pub Keeps : List ℕ → Found → Found → Type 0
Keeps name all rest =
    (arguments : List Argument) → all ≡ Some arguments →
    (others : List Argument)
    × (rest ≡ Some others) × (is_named name arguments ≡ is_named name others)

abbrev pub Judges : List ℕ → Found → Bool → Type 0
Judges name all answer = IfSome all (λ arguments. answer ≡ is_named name arguments)

pub at_none :
    (name : List ℕ) (all rest : Found) (answer : Bool) → Keeps name all rest → rest ≡ None →
    Judges name all answer
at_none name None rest answer keeps is = tt
at_none name (Some arguments) rest answer keeps is =
    absurd (false≢true (ap is_some (sym is ∙ (keeps arguments refl).1)))

none_named : (name : List ℕ) (others : List Argument) → Some [] ≡ Some others →
    false ≡ is_named name others
none_named name others is = go others (cc)
  where
    go : (others : List Argument) → [] ≡ others → false ≡ is_named name others
    go others is = subst (λ others. false ≡ is_named name others) is refl

pub at_end :
    (name : List ℕ) (all rest : Found) → Keeps name all rest → rest ≡ Some [] →
    Judges name all false
at_end name None rest keeps is = tt
at_end name (Some arguments) rest keeps is =
    let kept = keeps arguments refl in
    none_named name kept.0 (sym is ∙ kept.1) ∙ sym kept.2

pub at_named :
    (name : List ℕ) (argument : Argument) (all rest behind : Found) → Keeps name all rest →
    rest ≡ option_and_then (before argument) behind →
    pointwise nat_eq argument.name name ≡ true → Judges name all true
at_named name argument None rest behind keeps is same = tt
at_named name argument (Some arguments) rest behind keeps is same =
    let kept = keeps arguments refl in
    let parts = parted argument behind kept.0 (sym is ∙ kept.1) in
    sym (kept.2
    ∙ (ap (is_named name) parts.3 ∙ ap (λ first. first || is_named name parts.0) same))

pub past :
    (name : List ℕ) (argument : Argument) (all rest behind : Found) → Keeps name all rest →
    rest ≡ option_and_then (before argument) behind →
    pointwise nat_eq argument.name name ≡ false → Keeps name all behind
past name argument all rest behind keeps is other arguments all_is =
    let kept = keeps arguments all_is in
    let parts = parted argument behind kept.0 (sym is ∙ kept.1) in (
      parts.0,
      parts.1,
      kept.2 ∙ (ap (is_named name) parts.3 ∙ ap (λ first. first || is_named name parts.0) other),
    )

-- ---- whether words are arguments

pub again :
    (argument : Argument) (rest behind : Found) →
    rest ≡ option_and_then (before argument) behind → Judges argument.name behind true →
    false ≡ is_some rest
again argument rest None is named = sym (ap is_some is)
again argument rest (Some others) is named =
    sym (ap is_some is
    ∙ ap (λ named. is_some (if named then None else Some (argument ∷ others))) (sym named))

pub once :
    (argument : Argument) (rest behind : Found) →
    rest ≡ option_and_then (before argument) behind → Judges argument.name behind false →
    is_some rest ≡ is_some behind
once argument rest None is named = ap is_some is
once argument rest (Some others) is named =
    ap is_some is
    ∙ ap (λ named. is_some (if named then None else Some (argument ∷ others))) (sym named)

-- ---- arguments that are gathered

-- The words' arguments are those that were gathered, and those of a rest.
abbrev pub Gathers : Found → List Argument → Found → Type 0
Gathers all gathered rest =
    (others : List Argument) × (rest ≡ Some others) × (all ≡ Some (gathered ++ others))

pub none_yet : (all : Found) → is_some all ≡ true → Gathers all [] all
none_yet None some = absurd (false≢true some)
none_yet (Some arguments) some = (arguments, refl, refl)

pub one_more :
    (argument : Argument) (all : Found) (gathered : List Argument) (rest behind : Found) →
    Gathers all gathered rest → rest ≡ option_and_then (before argument) behind →
    Gathers all (gathered ++ argument ∷ []) behind
one_more argument all gathered rest behind gathers is =
    let parts = parted argument behind gathers.0 (sym is ∙ gathers.1) in (
      parts.0,
      parts.1,
      gathers.2
          ∙ ap Some (ap (λ others. gathered ++ others) parts.3
          ∙ sym (append_assoc gathered (argument ∷ []) parts.0)),
    )

pub all_of :
    (all : Found) (gathered : List Argument) (rest : Found) → Gathers all gathered rest →
    rest ≡ Some [] → all ≡ Some gathered
all_of all gathered rest gathers is =
    let others : gathers.0 ≡ [] = sym (some_is (sym is ∙ gathers.1)) in
    gathers.2
    ∙ ap Some (ap (λ others. gathered ++ others) others ∙ append-nil gathered)
  where
    some_is : {a b : List Argument} → Some a ≡ Some b → a ≡ b
    some_is is = cc

pub never_none :
    (all : Found) (gathered : List Argument) (rest : Found) → Gathers all gathered rest →
    rest ≡ None → ⊥
never_none all gathered rest gathers is = false≢true (ap is_some (sym is ∙ gathers.1))
