-- Texts that stand at the front of others, the case of letters aside.
use Rattle.std.proofs.Common.{◌≡◌, ◌↔◌, ℕ, ◌-◌, Bool, nat_eq, IsTrue, List, length, take, drop, map}
use Rattle.std.proofs.Common.{ap, sym, ◌∙◌}
use Rattle.std.specs.Char.{to_ascii_lowercase}
use Rattle.std.specs.Cmp.Lexicographic.{pointwise}
use Rattle.std.proofs.lemmas.List.{length-map, take-map, drop-map}
use Rattle.std.proofs.lemmas.Bool.Decides.{same_from_decides}
use Rattle.std.proofs.lemmas.Slice.Eq.{bytes_eq-Decides}
use Rattle.pl_base.specs.Folding.{folded}
use Rattle.pl_base.proofs.Cases.{alike}
use Rattle.pl_texts.specs.Matching.{begins, ends}

-- one text in lower case is the other exactly where it is so in upper case
same_folded :
    (r : Bool) (left right : List ℕ) →
    IsTrue r ↔ (map to_ascii_lowercase left ≡ map to_ascii_lowercase right) →
    r ≡ pointwise nat_eq (folded right) (folded left)
same_folded r left right test =
    let both = alike left right in
    let decided = bytes_eq-Decides (folded right) (folded left) in
    same_from_decides r (pointwise nat_eq (folded right) (folded left))
    ((λ is. sym (both.0 (test.0 is))), (λ same. test.1 (both.1 (sym same)))) decided

pub begins_at_front :
    (r : Bool) (text sought : List ℕ) →
    IsTrue r ↔ (map to_ascii_lowercase (take (length sought) text) ≡
    map to_ascii_lowercase sought) →
    r ≡ begins (folded text) (folded sought)
begins_at_front r text sought test =
    same_folded r (take (length sought) text) sought test ∙
    ap (λ front. pointwise nat_eq (folded sought) front)
    (sym (ap (λ count. take count (folded text)) (length-map sought _) ∙
    take-map _ (length sought) text))

pub ends_at_end :
    (r : Bool) (text sought end : List ℕ) → end ≡ drop (length text - length sought) text →
    IsTrue r ↔ (map to_ascii_lowercase end ≡ map to_ascii_lowercase sought) →
    r ≡ ends (folded text) (folded sought)
ends_at_end r text sought end end_is test =
    same_folded r end sought test ∙ ap (λ end. pointwise nat_eq (folded sought) end)
    (ap folded end_is ∙
    sym (ap (λ count. drop count (folded text)) (ap (λ n. n - length (folded sought))
    (length-map text _) ∙ ap (λ n. length text - n) (length-map sought _)) ∙
    drop-map _ (length text - length sought) text))
