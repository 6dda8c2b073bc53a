-- Patterns of refs, in which each `*` stands for any text (Microsoft Learn, Azure Pipelines,
-- "Define approvals and checks", Branch control).
use Rattle.std.specs.Prelude.{◌≡◌, ℕ, ◌==◌, List, [], ◌∷◌, ◌++◌, if◌then◌else◌}

-- a pattern whose stars are filled by texts, in order; where the texts run out, by empty ones
abbrev pub filled : List ℕ → List (List ℕ) → List ℕ
filled [] texts = []
filled (byte ∷ pattern) [] = if byte == 42 then filled pattern [] else byte ∷ filled pattern []
filled (byte ∷ pattern) (text ∷ texts) = if byte == 42 then text ++ filled pattern texts else
    byte ∷ filled pattern (text ∷ texts)

-- a pattern matches a text: there are texts with which its stars can be filled to make it
abbrev pub Matches : List ℕ → List ℕ → Type 0
Matches pattern text = (texts : List (List ℕ)) × (text ≡ filled pattern texts)

-- a pattern matches the end of a text
abbrev pub MatchesEnd : List ℕ → List ℕ → Type 0
MatchesEnd pattern text = (front rest : List ℕ) × (text ≡ front ++ rest) × Matches pattern rest
