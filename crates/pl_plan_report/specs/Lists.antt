-- Lists in a plan's text: in brackets, parted by a comma and a space.
use Rattle.std.specs.Prelude.{ℕ, List, [], ◌∷◌, ◌++◌, codes, slice_get}
use Rattle.std.specs.List.{filter_map, join_by}
use Rattle.pl_base.specs.declared.resource.ResourceKey.{ResourceKey}
use Rattle.pl_report.specs.Places.{and_word}
use Rattle.pl_plan_report.specs.Words.{kind_word}

-- `A, B`
abbrev pub parted : List (List ℕ) → List ℕ
parted words = join_by (λ word. word) (codes ", ") words

-- the names at these places
abbrev pub names_at : List (List ℕ) → List ℕ → List (List ℕ)
names_at names places = filter_map (slice_get names) places

-- ` depends [A, B]`
abbrev pub depends_text : List (List ℕ) → List ℕ → List ℕ
depends_text names places = codes " depends [" ++ parted (names_at names places) ++ codes "]"

-- `KIND NAME`
abbrev pub use_text : ResourceKey → List ℕ
use_text key = kind_word key.kind ++ and_word key.name

-- ` uses [KIND NAME, KIND NAME]`
abbrev pub uses_text : List ResourceKey → List ℕ
uses_text keys = codes " uses [" ++ join_by use_text (codes ", ") keys ++ codes "]"
