-- Line breaks (YAML 1.2.2, section 5.4).
use Rattle.std.specs.Prelude.{◌≡◌, ℕ, ◌==◌, ◌&&◌, List, [], ◌∷◌, if◌then◌else◌}
use Rattle.pl_base.specs.declared.place.FileKey.{FileKey}
use Rattle.pl_reading.specs.Bytes.{begins_with}
use Rattle.pl_yaml_laws.specs.Texts.{IsText, spelled}

-- each carriage return that stands before a line feed is left out
abbrev pub with_line_feeds : List ℕ → List ℕ
with_line_feeds [] = []
with_line_feeds (c ∷ cs) =
    if c == 13 && begins_with 10 cs then with_line_feeds cs else c ∷ with_line_feeds cs

-- What is left of a text so spells the same, where no carriage return stands before a line feed in
-- it again.
abbrev pub LineBreaksAreAlike : Type 0
LineBreaksAreAlike =
    (file : FileKey) (text : List ℕ) → IsText text
    → with_line_feeds (with_line_feeds text) ≡ with_line_feeds text
    → spelled file text ≡ spelled file (with_line_feeds text)
