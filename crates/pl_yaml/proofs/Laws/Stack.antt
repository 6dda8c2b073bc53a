-- A stack of collections that are being read, as the loop over it values them.
use Rattle.std.proofs.Common.{◌≡◌, ℕ, ◌+◌, ◌-◌, ◌<◌, ◌≤◌, List, [], ◌∷◌, ◌++◌, Ok, Err, refl, sym}
use Rattle.std.proofs.Common.{ap, subst, ◌∙◌, arith}
use Rattle.std.specs.Prelude.{reverse}
use Rattle.std.proofs.lemmas.List.{reverse-append}
use Rattle.pl_base.specs.declared.place.FileKey.{FileKey}
use Rattle.pl_base.specs.declared.node.Node.{Node}
use Rattle.pl_line.specs.declared.line_fault.Fault.{Fault}
use Rattle.pl_line.specs.declared.line_fault.ReadFault.{ReadFault}
use Rattle.pl_line.specs.declared.line_fault.ReadFault.TheVariants as faults
use Rattle.pl_line.specs.Rows.{Row, size}
use Rattle.pl_line.specs.Gives.{Fails}
use Rattle.pl_reading.specs.Steps.{◌>>=◌}
use Rattle.pl_yaml.specs.declared.stack.Open.{Open}
use Rattle.pl_yaml.specs.Reading.{Read}
use Rattle.pl_yaml.specs.Stack.{Resumes, in_open, into}
use Rattle.pl_yaml.proofs.Laws.Many.{fails_along}

-- fewer rows, the same reading
pub resumes_less :
    (file : FileKey) (left less : ℕ) (stack : List Open) (read whole : Read Node) → less ≤ left →
    Resumes file left stack read whole → Resumes file less stack read whole
resumes_less file left less [] read whole within resumes = resumes
resumes_less file left less (begun ∷ others) read whole within resumes = (
  resumes.0,
  omega (arith, resumes.1),
  resumes_less file left less others (read >>=
      into file resumes.0 begun) whole within resumes.2,
)

pub resumes_along :
    (file : FileKey) (left : ℕ) (stack : List Open) (read same whole : Read Node) → read ≡ same →
    Resumes file left stack read whole → Resumes file left stack same whole
resumes_along file left stack read same whole is resumes =
    subst (λ (r : Read Node). Resumes file left stack r whole) is resumes

-- a fault in the innermost is the whole's
err_resumes :
    (file : FileKey) (left : ℕ) (stack : List Open) (fault : Fault) (whole : Read Node) →
    Resumes file left stack (Err fault) whole → whole ≡ Err fault
err_resumes file left [] fault whole resumes = sym resumes
err_resumes file left (begun ∷ others) fault whole resumes = err_resumes file left others fault
    whole resumes.2

pub resumes_fails :
    (file : FileKey) (left : ℕ) (stack : List Open) (read whole : Read Node) (e : ReadFault) →
    Fails e read → Resumes file left stack read whole → Fails e whole
resumes_fails file left stack read whole faults.Memory fails resumes = tt
resumes_fails file left stack read whole (faults.Refused fault) fails resumes =
    err_resumes file left stack fault whole (resumes_along file left stack read (Err fault) whole
    fails resumes)

pub entry_fails :
    (file : FileKey) (turns : ℕ) (begun : Open) (read : Read Node) (e : ReadFault) → Fails e read →
    Fails e (read >>= into file turns begun)
entry_fails file turns begun read e fails = fails_along e read (read >>= into file turns begun)
    (λ fault is. ap (λ r. r >>= into file turns begun) is) fails

-- the stack's top is its last
top_is :
    (stack others : List Open) (top : Open) → stack ≡ others ++ top ∷ [] →
    reverse stack ≡ top ∷ reverse others
top_is stack others top is = ap reverse is ∙ reverse-append others (top ∷ [])

-- with nothing on the stack, what is read is the whole
pub resumes_alone :
    (file : FileKey) (left : ℕ) (stack : List Open) (read : Read Node) → stack ≡ [] →
    Resumes file left (reverse stack) read read
resumes_alone file left stack read none =
    subst (λ (s : List Open). Resumes file left (reverse s) read read) (sym none) refl

pub ends :
    (file : FileKey) (left : ℕ) (stack : List Open) (read same whole : Read Node) → stack ≡ [] →
    read ≡ same → Resumes file left (reverse stack) read whole → whole ≡ same
ends file left stack read same whole none is resumes =
    sym (subst (λ (s : List Open). Resumes file left (reverse s) read whole) none resumes) ∙ is

-- The loop's turns: a collection has a value and goes to its next entry;
pub goes_on : (file : FileKey) (turns : ℕ) (stack : List Open) (begun : Open)
    (read whole : Read Node) (rows left : List Row)
    → size rows < turns → size left < size rows → read ≡ in_open file (turns - 1) begun left →
    Resumes file (size rows) (reverse stack) read whole
    → (more : ℕ) × (size left < more) × Resumes file (size left) (reverse stack)
    (in_open file more begun left) whole
goes_on file turns stack begun read whole rows left within falls goes resumes =
    let less : size left ≤ size rows = omega (arith, falls) in (
      turns - 1,
      omega (arith, within, falls),
      resumes_along file (size left) (reverse stack) read (in_open file (turns - 1) begun left)
          whole goes
          (resumes_less file (size rows) (size left) (reverse stack) read whole less resumes),
    )

-- a collection begins where a value of another is to be read, which comes to the stack's top;
pub enters : (file : FileKey) (turns : ℕ) (stack after : List Open) (inner begun : Open)
    (read whole : Read Node) (rows left : List Row)
    → size rows < turns → size left < size rows → after ≡ stack ++ begun ∷ [] →
    read ≡ (in_open file (size left + 1) inner left >>= into file (turns - 1) begun)
    → Resumes file (size rows) (reverse stack) read whole
    → (more : ℕ) × (size left < more) × Resumes file (size left) (reverse after)
    (in_open file more inner left) whole
enters file turns stack after inner begun read whole rows left within falls pushed goes resumes =
    let less : size left ≤ size rows = omega (arith, falls) in
    let here = in_open file (size left + 1) inner left in
    let waits : Resumes file (size left) (begun ∷ reverse stack) here whole = (
      turns - 1,
      omega (arith, within, falls),
      resumes_along file (size left) (reverse stack) read (here >>= into file (turns - 1) begun)
          whole goes
          (resumes_less file (size rows) (size left) (reverse stack) read whole less resumes),
    ) in (
      size left + 1,
      omega arith,
      subst (λ (s : List Open). Resumes file (size left) s here whole)
          (sym (top_is after stack begun pushed)) waits,
    )

-- a collection ends, and its node is a value of the one at the stack's top.
pub leaves : (file : FileKey) (stack others : List Open) (waiting begun : Open) (made : Node)
    (read whole : Read Node) (rows left : List Row)
    → size left ≤ size rows → stack ≡ others ++ waiting ∷ [] → read ≡ Ok (made, left)
    → ((turns : ℕ) (rows : List Row) → in_open file turns begun rows ≡
    into file turns waiting (made, rows)) → Resumes file (size rows) (reverse stack) read whole
    → (more : ℕ) × (size left < more) × Resumes file (size left) (reverse others)
    (in_open file more begun left) whole
leaves file stack others waiting begun made read whole rows left less popped ended takes resumes =
    let r : Resumes file (size rows) (waiting ∷ reverse others) read whole =
    subst (λ (s : List Open). Resumes file (size rows) s read whole)
    (top_is stack others waiting popped) resumes
    in (
      r.0,
      omega (arith, less, r.1),
      resumes_along file (size left) (reverse others) (read >>= into file r.0 waiting)
          (in_open file r.0 begun left) whole
          (ap (λ p. p >>= into file r.0 waiting) ended ∙ sym (takes r.0 left))
          (resumes_less file (size rows) (size left) (reverse others) (read >>=
          into file r.0 waiting) whole less r.2),
    )
