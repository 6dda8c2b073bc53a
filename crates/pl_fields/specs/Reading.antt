-- What it means to read a field from the front of bytes.
use Rattle.std.specs.Prelude.{◌≡◌, ℕ, List, ◌++◌, Result, Ok, Err}
use Rattle.pl_fields.specs.declared.fault.DecodeFault.{DecodeFault}
use Rattle.pl_fields.specs.declared.fault.DecodeFault.TheVariants.{Torn, Memory}

-- the bytes are a value that fits, and then the rest
pub record Begins {X : Type 0} (spelled : X → List ℕ) (fits : X → Type 0) (bytes : List ℕ)
    (value : X) (rest : List ℕ) : Type 0 where
  pub does_fit : fits value
  pub parts : bytes ≡ spelled value ++ rest

-- no value that fits stands at their front
abbrev pub BeginsNot : {X : Type 0} → (X → List ℕ) → (X → Type 0) → List ℕ → Type 0
BeginsNot {X} spelled fits bytes = (value : X) (rest : List ℕ) →
    ¬ Begins spelled fits bytes value rest

-- a fault says that no such value is there, or nothing
abbrev pub Misses : {X : Type 0} → (X → List ℕ) → (X → Type 0) → List ℕ → DecodeFault → Type 0
Misses spelled fits bytes Torn = BeginsNot spelled fits bytes
Misses spelled fits bytes Memory = Unit {0}

-- what was read stands at the front of the bytes, or a fault says why nothing was read; `seen` is
-- what was read as a value and the bytes behind it
abbrev pub Reads : {X Y : Type 0} → (X → List ℕ) → (X → Type 0) → (Y → X × List ℕ) → List ℕ →
    Result Y DecodeFault → Type 0
Reads spelled fits seen bytes (Ok read) = Begins spelled fits bytes (seen read).0 (seen read).1
Reads spelled fits seen bytes (Err fault) = Misses spelled fits bytes fault

-- the bytes are a value that fits, all of them
pub record Is {X : Type 0} (spelled : X → List ℕ) (fits : X → Type 0) (bytes : List ℕ) (value : X) :
    Type 0 where
  pub does_fit : fits value
  pub whole : bytes ≡ spelled value

-- no spelling begins another one: bytes are at most one value with at most one rest
abbrev pub IsOneWay : {X : Type 0} → (X → List ℕ) → (X → Type 0) → Type 0
IsOneWay {X} spelled fits =
    (x y : X) (r s : List ℕ) → fits x → fits y → spelled x ++ r ≡ spelled y ++ s → (x ≡ y) × (r ≡ s)
