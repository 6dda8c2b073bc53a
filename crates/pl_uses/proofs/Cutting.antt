-- Where a text stands first in another one.
use Rattle.std.proofs.Common.{◌≡◌, ◌≢◌, ℕ, zero, suc, ◌+◌, ◌<◌, ◌≤◌, Bool, true, false, cond, Some}
use Rattle.std.proofs.Common.{None, Option, List, [], ◌∷◌, ◌++◌, length, take, drop, refl, sym, ap}
use Rattle.std.proofs.Common.{◌∙◌}
use Rattle.std.proofs.Common.{arith, length-append, nat_eq}
use Rattle.std.specs.Prelude.{codes}
use Rattle.std.specs.List.{starts_with, before_first, position_or_len}
use Rattle.std.specs.Option.{option_map}
use Rattle.std.specs.Str.Pattern.{FindsText, SplitsAroundMatch}
use Rattle.std.proofs.Math.Seq.{drop-append_seam}
use Rattle.std.proofs.lemmas.Bool.Decides.{Decides-eqb}
use Rattle.std.proofs.lemmas.List.{take_all}
use Rattle.std.proofs.lemmas.Slice.Eq.{starts_is}
use Rattle.pl_uses.specs.Pools.{cut_at, demand_of, demand_of_one, demand_of_two, demand_from}

untrue : (b : Bool) → (b ≡ true → ⊥) → b ≡ false
untrue true h = absurd (h refl)
untrue false h = refl

lacking : (text sought : List ℕ) → ((rest : List ℕ) → text ≢ sought ++ rest) →
    starts_with nat_eq text sought ≡ false
lacking text sought lacks = untrue (starts_with nat_eq text sought)
    (λ is. lacks _ ((starts_is Decides-eqb text sought (starts_with nat_eq text sought) refl).0 is))

standing : (text sought rest : List ℕ) → text ≡ sought ++ rest →
    starts_with nat_eq text sought ≡ true
standing text sought rest e =
    (starts_is Decides-eqb text sought (starts_with nat_eq text sought) refl).1 rest e

abbrev onto : ℕ → Option (List ℕ × List ℕ) → Option (List ℕ × List ℕ)
onto byte parts = option_map (λ parts. (byte ∷ parts.0, parts.1)) parts

here : (sought : List ℕ) (byte : ℕ) (text : List ℕ) →
    starts_with nat_eq (byte ∷ text) sought ≡ true →
    cut_at sought (byte ∷ text) ≡ Some ([], drop (length sought) (byte ∷ text))
here sought byte text is = ap (λ b. cond b (Some ([], drop (length sought) (byte ∷ text)))
    (onto byte (cut_at sought text))) is

later : (sought : List ℕ) (byte : ℕ) (text : List ℕ) →
    starts_with nat_eq (byte ∷ text) sought ≡ false →
    cut_at sought (byte ∷ text) ≡ onto byte (cut_at sought text)
later sought byte text other = ap (λ b. cond b (Some ([], drop (length sought) (byte ∷ text)))
    (onto byte (cut_at sought text))) other

found : (at : ℕ) (sought text behind : List ℕ) → 0 < length sought →
    ((place : ℕ) → place < at → starts_with nat_eq (drop place text) sought ≡ false) →
    drop at text ≡ sought ++ behind → cut_at sought text ≡ Some (take at text, behind)
found zero sought [] behind some none e =
    absurd (omega (arith, length-append sought behind, ap length e))
found zero sought (byte ∷ text) behind some none e =
    here sought byte text (standing (byte ∷ text) sought behind e)
    ∙ ap (λ rest. Some ([], rest)) (ap (drop (length sought)) e ∙ drop-append_seam sought behind)
found (suc at) sought [] behind some none e =
    absurd (omega (arith, length-append sought behind, ap length e))
found (suc at) sought (byte ∷ text) behind some none e =
    later sought byte text (none 0 (omega arith))
    ∙ ap (onto byte) (found at sought text behind some
    (λ place below. none (suc place) (omega (arith, below))) e)

pub cut_there : (sought text front behind : List ℕ) → 0 < length sought →
    SplitsAroundMatch (FindsText sought) text front behind →
    cut_at sought text ≡ Some (front, behind)
cut_there sought text front behind some
    (at, until, finds, front_is, behind_is, ordered, front_length, behind_length) =
    found at sought text behind some
    (λ place below. lacking (drop place text) sought (finds.0 place below))
    (finds.1.split ∙ ap (λ rest. sought ++ rest) (sym behind_is))
    ∙ ap (λ part. Some (part, behind)) (sym front_is)

nowhere : (sought text : List ℕ) → ((at : ℕ) → at ≤ length text →
    starts_with nat_eq (drop at text) sought ≡ false) → cut_at sought text ≡ None
nowhere sought [] none = refl
nowhere sought (byte ∷ text) none = later sought byte text (none 0 (omega arith))
    ∙ ap (onto byte) (nowhere sought text (λ at within. none (suc at) (omega (arith, within))))

pub cut_nowhere : (sought text : List ℕ) → FindsText sought text None →
    cut_at sought text ≡ None
cut_nowhere sought text finds =
    nowhere sought text (λ place within. lacking (drop place text) sought (finds place within))

-- ---- at one character

pub no_first : (is : ℕ → Bool) (text : List ℕ) → position_or_len is text ≡ length text →
    text ≡ before_first is text
no_first is text none = sym (take_all (position_or_len is text) text (omega (arith, none)))

-- ---- a demand

abbrev word : List ℕ
word = codes " -equals "

pub two_parts : (asked text front behind : List ℕ) → asked ≡ text →
    SplitsAroundMatch (FindsText word) asked front behind →
    demand_of_two front behind ≡ demand_of text
two_parts asked text front behind same cut =
    sym (ap (demand_from asked) (cut_there word asked front behind (omega arith) cut))
    ∙ ap demand_of same

pub one_part : (asked text name : List ℕ) → asked ≡ text → name ≡ text →
    FindsText word asked None → demand_of_one name ≡ demand_of text
one_part asked text name same named none =
    ap demand_of_one (named ∙ sym same)
    ∙ sym (ap (demand_from asked) (cut_nowhere word asked none)) ∙ ap demand_of same
