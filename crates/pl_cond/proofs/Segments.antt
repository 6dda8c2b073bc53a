-- The last segment of a ref, and variables put one after the other.
use Rattle.std.proofs.Common.{◌≡◌, ◌≢◌, ℕ, suc, ◌+◌, ◌<◌, ◌==◌, false, None, List, [], ◌∷◌, ◌++◌}
use Rattle.std.proofs.Common.{length}
use Rattle.std.proofs.Common.{get_or, take, drop, lit<, fold, refl, ap, sym, ◌∙◌, inl, inr, arith}
use Rattle.std.proofs.Common.{append_assoc, append-nil}
use Rattle.std.proofs.lemmas.List.{at_drop_more, take-append-drop}
use Rattle.std.specs.Str.Pattern.{RFindsChar, SplitsAroundMatch}
use Rattle.std.proofs.lemmas.Str.Pattern.{NoCharPasses-char, drop_at_char}
use Rattle.std.proofs.lemmas.Bool.{cases_Bool}
use Rattle.std.proofs.lemmas.Bool.Decides.{nat_tests}
use Rattle.pl_cond.specs.declared.variables.Variable.{Variable}
use Rattle.pl_cond.specs.Placing.{placed}
use Rattle.pl_cond.specs.Variables.{last_segment}

-- ---- a turn of a loop

pub folds_on :
    {S X : Type 0} (step : S → X → S) (xs : List X) (at : ℕ) (x : X) (whole old new : S) →
    at < length xs → x ≡ get_or xs at x → new ≡ step old x →
    whole ≡ fold step old (drop at xs) → whole ≡ fold step new (drop (at + 1) xs)
folds_on step xs at x whole old new within is made walked =
    walked ∙ at_drop_more (λ rest. fold step old rest) xs at x within
    ∙ ap (λ one. fold step (step old one) (drop (at + 1) xs)) (sym is)
    ∙ ap (λ state. fold step state (drop (at + 1) xs)) (sym made)

-- ---- the last segment

slash : (byte : ℕ) → byte ≢ 47 → (byte == 47) ≡ false
slash byte other = grind (arith, nat_tests)

pub whole_segment : (segment text : List ℕ) →
    ((at : ℕ) → at < length text → get_or text at 0 ≢ 47) →
    last_segment segment text ≡ segment ++ text
whole_segment segment [] none = sym (append-nil segment)
whole_segment segment (byte ∷ text) none =
    rw (slash byte (none 0 (omega arith)))
    (whole_segment (segment ++ byte ∷ []) text (λ at within. none (suc at) (omega (arith, within)))
    ∙ append_assoc segment (byte ∷ []) text)

pub behind_slash : (segment front last : List ℕ) →
    last_segment segment (front ++ 47 ∷ last) ≡ last_segment [] last
behind_slash segment [] last = refl
behind_slash segment (byte ∷ front) last =
    elim (cases_Bool (byte == 47)) [
      | inl here ↦ rw here (behind_slash [] front last)
      | inr other ↦ rw other (behind_slash (segment ++ byte ∷ []) front last)
    ]

pub without_slash : (name : List ℕ) → RFindsChar 47 name None → last_segment [] name ≡ name
without_slash name none =
    whole_segment [] name (λ at within. NoCharPasses-char 47 name at none (lit< tt) within)

pub last_of : (name front last : List ℕ) → SplitsAroundMatch (RFindsChar 47) name front last →
    last_segment [] name ≡ last
last_of name front last (at, until, finds, front_is, last_is, ordered, front_length, last_length) =
    let whole : name ≡ take at name ++ (47 ∷ drop until name) =
    sym (take-append-drop at name)
    ∙ ap (λ rest. take at name ++ rest) (drop_at_char 47 name at until finds.1 (lit< tt)) in
    ap (last_segment []) whole
    ∙ (behind_slash [] (take at name) (drop until name)
    ∙ (without_slash (drop until name) finds.0
    ∙ sym last_is))

-- ---- three in turn

pub three : (before one two all : List Variable) (a b c a_is b_is c_is : Variable) →
    one ≡ placed before a → two ≡ placed one b → all ≡ placed two c →
    a ≡ a_is → b ≡ b_is → c ≡ c_is → all ≡ fold placed before (a_is ∷ b_is ∷ c_is ∷ [])
three before one two all a b c a_is b_is c_is first second third x y z =
    third
    ∙ (ap (λ two. placed two c) (second ∙ ap (λ one. placed one b) first)
    ∙ (ap (λ a. placed (placed (placed before a) b) c) x
    ∙ (ap (λ b. placed (placed (placed before a_is) b) c) y
    ∙ ap (placed (placed (placed before a_is) b_is)) z)))
