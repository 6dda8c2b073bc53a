-- Generated texts are short enough to be queued.
use Rattle.std.proofs.Common.{◌≡◌, ◌<◌, ◌≤◌, ◌+◌, ◌++◌, ◌^◌, ◌%◌, ℕ, nat_eq, Bool, true, false, List, []}
use Rattle.std.proofs.Common.{length, arith, length-append}
use Rattle.std.proofs.lemmas.Bool.{le-leb}
use Rattle.std.proofs.lemmas.Fmt.{length-decimal-le}
use Rattle.std.specs.Prelude.{codes, decimal, nat_le, if◌then◌else◌}
use Rattle.pl_generated.specs.Input.{behaviour_line, legs, text}

lengths : (a b c d e f : List ℕ) → length (a ++ b ++ c ++ d ++ e ++ f)
    ≡ length a + length b + length c + length d + length e + length f
lengths a b c d e f = omega (
  arith,
  length-append a b,
  length-append (a ++ b) c,
  length-append (a ++ b ++ c) d,
  length-append (a ++ b ++ c ++ d) e,
  length-append (a ++ b ++ c ++ d ++ e) f,
)

first_line : (b : Bool) →
    length (if b then codes "lockBehavior: sequential\n" else []) ≤ 25
first_line true = omega arith
first_line false = omega arith

few_legs : (number : ℕ) → legs number < 10
few_legs number = omega arith

pub is_short : (number : ℕ) → number < 2 ^ 64 → nat_le (length (text number)) 262144 ≡ true
is_short number small =
    let front = first_line (nat_eq (number % 2) 0) in
    let few = few_legs number in
    let digits = length-decimal-le 1 (legs number) (omega arith) (omega (arith, few))
    (omega (arith, few)) in
    let index = length-decimal-le 20 number (omega arith) (omega (arith, small)) small in
    let all = lengths (behaviour_line number)
    (codes "stages:\n- stage: A\n  jobs:\n  - job: J\n    strategy:\n      parallel: ")
    (decimal (legs number)) (codes "\n    steps:\n    - script: echo ") (decimal number)
    (codes "\n- stage: B\n  jobs:\n  - job: K\n    steps:\n    - script: echo done\n") in
    le-leb _ _ (omega (arith, front, digits, index, all))
