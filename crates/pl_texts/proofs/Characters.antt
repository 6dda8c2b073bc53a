-- The set of a text's characters.
use Rattle.std.proofs.Common.{◌≡◌, ℕ, ◌+◌, ◌<◌, Bool, true, false, cond, ◌||◌, ◌==◌, List, [], ◌∷◌}
use Rattle.std.proofs.Common.{◌++◌, length, get_or, take, refl, ap, sym, ◌∙◌, arith}
use Rattle.std.specs.Ordering.{nat_cmp, is_eq}
use Rattle.std.specs.List.{list_any}
use Rattle.std.proofs.lemmas.List.{take_more}
use Rattle.std.proofs.lemmas.List.Folds.{list_any-append}
use Rattle.std.proofs.lemmas.Bool.Decides.{nat_tests}

or_last : (old new : Bool) → cond new true old ≡ (old || (new || false))
or_last true true = refl
or_last true false = refl
or_last false true = refl
or_last false false = refl

same_test : (first second : ℕ) → is_eq (nat_cmp first second) ≡ (first == second)
same_test first second = grind (arith, nat_tests)

-- one character more
pub seen_more :
    (text : List ℕ) (at character sought : ℕ) (old new : Bool) →
    (at < length text) × (character ≡ get_or text at character) →
    old ≡ list_any (λ other. other == sought) (take at text) →
    new ≡ cond (is_eq (nat_cmp character sought)) true old →
    new ≡ list_any (λ other. other == sought) (take (at + 1) text)
seen_more text at character sought old new turn old_is new_is =
    let grown : take (at + 1) text ≡ take at text ++ character ∷ [] =
    take_more text at character turn.0 ∙ ap (λ last. take at text ++ last ∷ []) (sym turn.1) in
    new_is ∙ (ap (λ test. cond test true old) (same_test character sought) ∙
    (or_last old (character == sought) ∙
    (ap (λ seen. seen || ((character == sought) || false)) old_is ∙
    (sym (list_any-append (λ other. other == sought) (take at text) (character ∷ [])) ∙
    ap (list_any (λ other. other == sought)) (sym grown)))))
