-- What was seen of bytes was seen of more bytes.
use Rattle.std.proofs.Common.{◌≡◌, ℕ, ◌≤◌, List, ◌++◌, length, take, sym, ◌∙◌, subst, arith}
use Rattle.std.proofs.Common.{length-append}
use Rattle.std.proofs.Math.Seq.{take-take}
use Rattle.std.proofs.lemmas.List.{take-append-le, length-take-le}
use Rattle.pl_scan.specs.declared.scanner.Scanner.{Scanner}
use Rattle.pl_scan.specs.Places.{EndsAt}
use Rattle.pl_scan.specs.Scans.{Follows}

pub follows_more : (scanner : Scanner) (bytes more : List ℕ) → Follows scanner bytes
    → Follows scanner (bytes ++ more)
follows_more scanner bytes more follows = record {
  within = omega (arith, length-append bytes more, follows.within);
  ends =
      subst (λ (front : List ℕ). EndsAt scanner.place front)
      (sym (take-append-le scanner.seen bytes more follows.within)) follows.ends;
}

-- from one front of bytes to a longer one
pub follows_on : (scanner : Scanner) (bytes : List ℕ) (a b : ℕ) → a ≤ b → b ≤ length bytes
    → Follows scanner (take a bytes) → Follows scanner (take b bytes)
follows_on scanner bytes a b longer within follows =
    let shorter : scanner.seen ≤ a =
    omega (arith, follows.within, length-take-le a bytes (omega arith)) in
    let same : take scanner.seen (take a bytes) ≡ take scanner.seen (take b bytes) =
    take-take scanner.seen a bytes shorter ∙ sym (take-take scanner.seen b bytes (omega arith)) in
    record {
      within = omega (arith, length-take-le b bytes within);
      ends = subst (λ (front : List ℕ). EndsAt scanner.place front) same follows.ends;
    }
