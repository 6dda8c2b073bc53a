-- What stands at the front of a link's bytes: a head with its content's length, the beginning of
-- one, or a fault, after which the link ends.
use Rattle.std.specs.Prelude.{◌≡◌, ℕ, List, ◌++◌, ◌⊎◌, length, take, map, Result, Ok, Err}
use Rattle.httparse.specs.Grammar.{RequestHead, print_request, EndsInTarget}
use Rattle.httparse.specs.Spans.{name_and_value}
use Rattle.pl_heads.specs.declared.fault.HttpFault.{HttpFault}
use Rattle.pl_heads.specs.declared.fault.HttpFault.TheVariants.{HeadBad, HeadLarge, LengthMissing}
use Rattle.pl_heads.specs.declared.fault.HttpFault.TheVariants.{BodyLarge}
use Rattle.pl_heads.specs.declared.front.Head.{Head}
use Rattle.pl_heads.specs.declared.front.Front.{Front}
use Rattle.pl_heads.specs.declared.front.Front.TheVariants.{Partial, Whole, Bad}
use Rattle.pl_heads.specs.Fields.{Named, token_of}
use Rattle.pl_heads.specs.Framing.{content_length}
use Rattle.pl_heads.specs.Heads.{HasHead, IsPartialHead, IsLargeHead, IsBadHead, below_limit}

-- the fields of a head, without the blanks around their values
abbrev pub fields_of : RequestHead → List Named
fields_of head = map name_and_value head.fields

-- the length of the content behind a head
abbrev pub framed : RequestHead → Result ℕ HttpFault
framed head = content_length head.method (fields_of head)

-- what was read of a head
pub record IsReadOf (front : Head) (head : RequestHead) : Type 0 where
  pub method : front.method.now ≡ head.method
  pub target : front.target.now ≡ head.target
  pub token : front.token.now ≡ token_of (fields_of head)
  pub len : front.len ≡ length (print_request head)
  pub content : framed head ≡ Ok front.content

-- a fault that is told before a head is whole
abbrev pub IsToldEarly : List ℕ → HttpFault → Type 0
IsToldEarly bytes HeadBad = IsBadHead bytes
IsToldEarly bytes HeadLarge = IsLargeHead bytes
IsToldEarly bytes LengthMissing = ⊥
IsToldEarly bytes BodyLarge = ⊥

-- a fault, told early or by a whole head
abbrev pub IsFaulty : List ℕ → HttpFault → Type 0
IsFaulty bytes fault =
    IsToldEarly bytes fault ⊎ ((head : RequestHead) × HasHead bytes head ×
    (framed head ≡ Err fault))

-- what stands at the front of the bytes
abbrev pub StandsAtFront : List ℕ → Front → Type 0
StandsAtFront bytes Partial = IsPartialHead bytes
StandsAtFront bytes (Whole front) = (head : RequestHead) × HasHead bytes head × IsReadOf front head
StandsAtFront bytes (Bad fault) = IsFaulty bytes fault

-- a head stays when more bytes come, and so does a fault
pub record FrontsStay : Type 0 where
  pub heads :
      (bytes more : List ℕ) (head : RequestHead) → HasHead bytes head → HasHead (bytes ++ more) head
  pub faults :
      (bytes more : List ℕ) (fault : HttpFault) → IsFaulty bytes fault →
      IsFaulty (bytes ++ more) fault

-- Bytes have one head or one fault, or begin one of these: but while they end inside a target, the
-- fault of a target that isn't UTF-8 may be told later, and behind the limit it is another one.
pub record OneFront : Type 0 where
  pub one_head : (bytes : List ℕ) (a b : RequestHead) → HasHead bytes a → HasHead bytes b → a ≡ b
  pub no_head : (bytes : List ℕ) (head : RequestHead) → HasHead bytes head → IsPartialHead bytes → ⊥
  pub of_head : (bytes : List ℕ) (head : RequestHead) (fault : HttpFault)
      → HasHead bytes head → IsFaulty bytes fault → framed head ≡ Err fault
  pub later : (bytes : List ℕ) (fault : HttpFault)
      → IsPartialHead bytes → IsFaulty bytes fault → (fault ≡ HeadBad) × EndsInTarget bytes
  pub one_fault : (bytes : List ℕ) (a b : HttpFault) → IsFaulty bytes a → IsFaulty bytes b
      → (a ≡ b) ⊎ EndsInTarget (take below_limit bytes)
