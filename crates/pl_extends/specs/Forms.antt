-- The keys of the jobs of a root file, which stand beside no `extends` (Microsoft Learn, Azure
-- Pipelines, "YAML schema reference", pipeline).
use Rattle.std.specs.Prelude.{ℕ, Bool, List, [], ◌∷◌}
use Rattle.std.specs.Prelude.{find, codes}
use Rattle.std.specs.Prelude.{Option}
use Rattle.std.specs.Option.{option_map}
use Rattle.std.specs.List.{list_any}
use Rattle.pl_base.specs.declared.place.Place.{Place}
use Rattle.pl_base.specs.declared.value.MarkedPair.{MarkedPair}
use Rattle.pl_base.specs.Texts.{is}

-- no job of the root stands beside the template's, wherever its key came from
abbrev pub is_form : List ℕ → Bool
is_form key = list_any (is key) (codes "stages" ∷ codes "jobs" ∷ codes "steps" ∷ [])

abbrev pub form_place : List MarkedPair → Option Place
form_place pairs =
    option_map (λ pair. pair.key_origin.source) (find (λ pair. is_form pair.key) pairs)
