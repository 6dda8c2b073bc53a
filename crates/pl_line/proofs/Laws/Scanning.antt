-- Counting characters at the front and at the end of a text.
use Rattle.std.proofs.Common.{◌≡◌, ℕ, zero, suc, ◌+◌, ◌≤◌, Bool, true, false, not, ◌&&◌, cond, List}
use Rattle.std.proofs.Common.{[], ◌∷◌, length, refl, sym, ap, ◌∙◌, arith}
use Rattle.std.specs.Prelude.{◌==◌}
use Rattle.std.specs.List.{position_or_len}
use Rattle.std.proofs.lemmas.Bool.Decides.{nat_tests}
use Rattle.pl_reading.specs.Bytes.{is_blank}
use Rattle.pl_line.specs.Scanning.{content_len}

pub position_or_len_le :
    {X : Type 0} (p : X → Bool) (xs : List X) → position_or_len p xs ≤ length xs
position_or_len_le p [] = omega arith
position_or_len_le p (x ∷ xs) =
    let more : position_or_len p xs ≤ length xs = position_or_len_le p xs in
    elim (not (p x)) as (λ b. cond b (1 + position_or_len p xs) 0 ≤ length (x ∷ xs))
    [ true ↦ omega arith | false ↦ omega arith ]

-- with one character taken off, blank or not, behind so many
content_next :
    (blank : Bool) (n at len : ℕ) →
    cond (n == 0) (cond blank len (at + 1)) (at + 1 + n) ≡
    cond (cond (blank && n == 0) 0 (1 + n) == 0) len (at + cond (blank && n == 0) 0 (1 + n))
content_next true zero at len = refl
content_next true (suc n) at len = grind (arith, nat_tests)
content_next false zero at len = grind (arith, nat_tests)
content_next false (suc n) at len = grind (arith, nat_tests)

content_goes :
    (blank : Bool) (c : ℕ) (text rest : List ℕ) (at len most : ℕ) → is_blank c ≡ blank →
    text ≡ c ∷ rest → cond (content_len text == 0) len (at + content_len text) ≡ most
    → cond (content_len rest == 0) (cond blank len (at + 1)) (at + 1 + content_len rest) ≡ most
content_goes blank c text rest at len most is taken so_far =
    content_next blank (content_len rest) at len
    ∙ ap (λ b. cond (cond (b && content_len rest == 0) 0 (1 + content_len rest) == 0) len
    (at + cond (b && content_len rest == 0) 0 (1 + content_len rest))) (sym is)
    ∙ ap (λ cs. cond (content_len cs == 0) len (at + content_len cs)) (sym taken)
    ∙ so_far

pub content_stays :
    (c : ℕ) (text rest : List ℕ) (at len most : ℕ) → is_blank c ≡ true → text ≡ c ∷ rest →
    cond (content_len text == 0) len (at + content_len text) ≡ most
    → cond (content_len rest == 0) len (at + 1 + content_len rest) ≡ most
content_stays = content_goes true

pub content_grows :
    (c : ℕ) (text rest : List ℕ) (at len most : ℕ) → is_blank c ≡ false → text ≡ c ∷ rest →
    cond (content_len text == 0) len (at + content_len text) ≡ most
    → cond (content_len rest == 0) (at + 1) (at + 1 + content_len rest) ≡ most
content_grows = content_goes false
