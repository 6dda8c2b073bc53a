-- Where memory may be wanting for the path of a store.
use Rattle.std.proofs.Common.{◌≡◌, ◌∙◌, Bool, true, false, List, [], ◌∷◌, Option, Some, None, Result}
use Rattle.std.proofs.Common.{Ok, Err, OnErr, ℕ, ap, subst, sym}
use Rattle.std.specs.Prelude.{codes, if◌then◌else◌}
use Rattle.std.specs.Option.{IfSome, IsSome, option_and_then, option_map, option_map_or}
use Rattle.std.proofs.lemmas.Bool.{false≢true}
use Rattle.pl_base.specs.declared.digest.Digest.{Digest}
use Rattle.pl_words.specs.Options.{Given, are_once}
use Rattle.pl_words.specs.Words.{TakesMemory, admin_of, replay_of, store_of}
use Rattle.pl_words.specs.declared.command.Command.TheVariants.{Replay}

abbrev pub names : List (List ℕ)
names = codes "--admin" ∷ codes "--store" ∷ []

pub on_err : {A E : Type 0} (told : Result A E) (X : Type 0) → X → OnErr told X
on_err (Ok a) X x = tt
on_err (Err e) X x = x

with_path : (admin : Digest) (path : Option (List ℕ)) → IsSome path →
    TakesMemory (Some (Replay admin path))
with_path admin None is = absurd (false≢true is)
with_path admin (Some path) is = tt

-- words with a path are those of a command whose texts take memory
pub takes_path : (all : Option (List Given)) (admin : Digest) →
    option_map_or (are_once names) all false ≡ true →
    IfSome all (λ options. Some admin ≡ admin_of options) →
    IfSome all (λ options. IsSome (store_of options)) →
    TakesMemory (option_and_then replay_of all)
takes_path None admin once is some = absurd (false≢true once)
takes_path (Some options) admin once is some =
    subst TakesMemory (sym told) (with_path admin (store_of options) some)
  where
    told : replay_of options ≡ Some (Replay admin (store_of options))
    told =
        ap (λ b. if b then option_map (λ admin. Replay admin (store_of options)) (admin_of options)
        else None) once
        ∙ ap (λ admin. option_map (λ admin. Replay admin (store_of options)) admin) (sym is)
