-- A text with another in the place of each occurrence of a third.
use Rattle.std.proofs.Common.{◌≡◌, ◌≢◌, ℕ, zero, suc, ◌-◌, ◌<◌, ◌≤◌, Bool, true, false, None, Ok}
use Rattle.std.proofs.Common.{List, [], ◌∷◌, ◌++◌, length, take, drop, refl, ap, sym, ◌∙◌}
use Rattle.std.proofs.Common.{append-nil, arith, length-append}
use Rattle.std.specs.Str.Pattern.{FindsText, SplitsAroundMatch}
use Rattle.std.proofs.Math.Seq.{drop-append_seam}
use Rattle.std.proofs.lemmas.Bool.Decides.{Decides-eqb}
use Rattle.std.proofs.lemmas.Slice.Eq.{starts_is}
use Rattle.pl_texts.specs.declared.fault.TextFault.{TextFault}
use Rattle.pl_texts.specs.Bound.{bounded}
use Rattle.pl_texts.specs.Gives.{Refuses, IsPast}
use Rattle.pl_texts.specs.Matching.{begins}
use Rattle.pl_texts.specs.Changing.{replaced, replaced_behind}
use Rattle.pl_texts.proofs.Bounds.{refuses, within_bound, behind_one, behind_two}

untrue : (b : Bool) → (b ≡ true → ⊥) → b ≡ false
untrue true h = absurd (h refl)
untrue false h = refl

-- what std's search finds, by the test
lacking :
    (text sought : List ℕ) → ((rest : List ℕ) → text ≢ sought ++ rest) → begins text sought ≡ false
lacking text sought lacks =
    untrue (begins text sought)
    (λ is. lacks _ ((starts_is Decides-eqb text sought (begins text sought) refl).0 is))

standing : (text sought rest : List ℕ) → text ≡ sought ++ rest → begins text sought ≡ true
standing text sought rest e = (starts_is Decides-eqb text sought (begins text sought) refl).1 rest e

passes :
    (passed : ℕ) (sought new text : List ℕ) →
    replaced_behind passed sought new text ≡ replaced_behind 0 sought new (drop passed text)
unfolding replaced_behind
passes zero sought new text = refl
passes (suc passed) sought new [] = refl
passes (suc passed) sought new (byte ∷ text) = passes passed sought new text

before_one :
    (byte : ℕ) (sought new text : List ℕ) → begins (byte ∷ text) sought ≡ false →
    replaced_behind 0 sought new (byte ∷ text) ≡ byte ∷ replaced_behind 0 sought new text
unfolding replaced_behind
before_one byte sought new text not_here = rw not_here refl

before_more :
    (count : ℕ) (sought new text : List ℕ) → count ≤ length text →
    ((at : ℕ) → at < count → begins (drop at text) sought ≡ false) →
    replaced_behind 0 sought new text ≡ take count text ++ replaced_behind 0 sought new
    (drop count text)
before_more zero sought new text within none = refl
before_more (suc count) sought new [] within none = absurd (omega (arith, within))
before_more (suc count) sought new (byte ∷ text) within none =
    before_one byte sought new text (none 0 (omega arith)) ∙
    ap (λ made. byte ∷ made) (before_more count sought new text (omega (arith, within))
    (λ at below. none (suc at) (omega (arith, below))))

here :
    (byte : ℕ) (sought new text : List ℕ) → begins (byte ∷ text) sought ≡ true →
    replaced_behind 0 sought new (byte ∷ text) ≡ new ++ replaced_behind (length sought - 1) sought
    new text
unfolding replaced_behind
here byte sought new text there = rw there refl

at_match :
    (text sought new behind : List ℕ) → 0 < length sought → text ≡ sought ++ behind →
    replaced_behind 0 sought new text ≡ new ++ replaced_behind 0 sought new behind
at_match [] sought new behind some e =
    absurd (omega (arith, length-append sought behind, ap length e))
at_match (byte ∷ text) [] new behind some e = absurd (omega (arith, some))
at_match (byte ∷ text) (first ∷ sought) new behind some e =
    let rest_is : drop (length sought) text ≡ behind = ap (drop (suc (length sought))) e ∙
    drop-append_seam sought behind in
    let less : suc (length sought) - 1 ≡ length sought = omega arith in
    here byte (first ∷ sought) new text (standing (byte ∷ text) (first ∷ sought) behind e) ∙
    ap (λ made. new ++ made) (passes _ (first ∷ sought) new text ∙
    ap (λ count. replaced_behind 0 (first ∷ sought) new (drop count text)) less ∙
    ap (replaced_behind 0 (first ∷ sought) new) rest_is)

-- up to the first occurrence and through it
pub through_match :
    (text sought new front behind : List ℕ) → 0 < length sought →
    SplitsAroundMatch (FindsText sought) text front behind →
    (replaced_behind 0 sought new text ≡ front ++ (new ++ replaced_behind 0 sought new behind)) ×
    (length behind < length text)
through_match text sought new front behind some (
  at,
  until,
  finds,
  front_is,
  behind_is,
  ordered,
  front_length,
  behind_length,
) = (
  before_more at sought new text (omega (arith, behind_length))
      (λ place below. lacking (drop place text) sought (finds.0 place below)) ∙
      (ap (λ made. made ++ replaced_behind 0 sought new (drop at text)) (sym front_is) ∙
      ap (λ made. front ++ made) (at_match (drop at text) sought new behind some (finds.1.split ∙
      ap (λ rest. sought ++ rest) (sym behind_is)))),
  omega (arith, behind_length, finds.1.ends, some),
)

all_stays :
    (text sought new : List ℕ) →
    ((at : ℕ) → at ≤ length text → begins (drop at text) sought ≡ false) →
    replaced_behind 0 sought new text ≡ text
unfolding replaced_behind
all_stays [] sought new none = refl
all_stays (byte ∷ text) sought new none = before_one byte sought new text (none 0 (omega arith)) ∙
    ap (λ made. byte ∷ made)
    (all_stays text sought new (λ at below. none (suc at) (omega (arith, below))))

pub without_match :
    (text sought new : List ℕ) → FindsText sought text None →
    replaced_behind 0 sought new text ≡ text
without_match text sought new finds =
    all_stays text sought new (λ place within. lacking (drop place text) sought
    (finds place within))

pub replaced_some :
    (text sought new : List ℕ) → 0 < length sought →
    replaced text sought new ≡ replaced_behind 0 sought new text
replaced_some text [] new some = absurd (omega (arith, some))
replaced_some text (byte ∷ sought) new some = refl

-- ---- a turn of the loop, whose invariant is `made`

cut_whole :
    (whole text sought new made front behind : List ℕ) → 0 < length sought →
    SplitsAroundMatch (FindsText sought) text front behind →
    whole ≡ made ++ replaced_behind 0 sought new text →
    whole ≡ made ++ (front ++ (new ++ replaced_behind 0 sought new behind))
cut_whole whole text sought new made front behind some cut made_is = made_is ∙
    ap (λ rest. made ++ rest) (through_match text sought new front behind some cut).0

pub past_front :
    (fault : TextFault) (whole text sought new made front behind : List ℕ) → 0 < length sought →
    SplitsAroundMatch (FindsText sought) text front behind →
    whole ≡ made ++ replaced_behind 0 sought new text → IsPast fault (made ++ front) →
    Refuses {X = List ℕ} fault (bounded whole)
past_front fault whole text sought new made front behind some cut made_is past =
    refuses fault (made ++ front) (new ++ replaced_behind 0 sought new behind) whole past
    (behind_one whole made front (new ++ replaced_behind 0 sought new behind)
    (cut_whole whole text sought new made front behind some cut made_is))

pub past_new :
    (fault : TextFault) (whole text sought new made front behind longer : List ℕ) →
    0 < length sought → SplitsAroundMatch (FindsText sought) text front behind →
    whole ≡ made ++ replaced_behind 0 sought new text → longer ≡ made ++ front →
    IsPast fault (longer ++ new) → Refuses {X = List ℕ} fault (bounded whole)
past_new fault whole text sought new made front behind longer some cut made_is longer_is past =
    refuses fault (longer ++ new) (replaced_behind 0 sought new behind) whole past
    (behind_two whole made front new (replaced_behind 0 sought new behind) longer longer_is
    (cut_whole whole text sought new made front behind some cut made_is))

pub goes_on :
    (whole text sought new made front behind longer longest after : List ℕ) → 0 < length sought →
    SplitsAroundMatch (FindsText sought) text front behind →
    whole ≡ made ++ replaced_behind 0 sought new text → longer ≡ made ++ front →
    longest ≡ longer ++ new → after ≡ behind → whole ≡ longest ++ replaced_behind 0 sought new after
goes_on whole text sought new made front behind longer longest after some cut made_is longer_is
    longest_is after_is =
    rw (longest_is, after_is) (behind_two whole made front new (replaced_behind 0 sought new behind)
    longer longer_is (cut_whole whole text sought new made front behind some cut made_is))

last_whole :
    (whole text sought new made : List ℕ) → FindsText sought text None →
    whole ≡ made ++ replaced_behind 0 sought new text → whole ≡ made ++ text
last_whole whole text sought new made none made_is = made_is ∙
    ap (λ rest. made ++ rest) (without_match text sought new none)

pub past_rest :
    (fault : TextFault) (whole text sought new made : List ℕ) → FindsText sought text None →
    whole ≡ made ++ replaced_behind 0 sought new text → IsPast fault (made ++ text) →
    Refuses {X = List ℕ} fault (bounded whole)
past_rest fault whole text sought new made none made_is past =
    refuses fault (made ++ text) [] whole past (last_whole whole text sought new made none made_is ∙
    sym (append-nil (made ++ text)))

pub is_whole :
    (whole text sought new made last : List ℕ) → FindsText sought text None →
    whole ≡ made ++ replaced_behind 0 sought new text → last ≡ made ++ text → length last ≤ 65536 →
    bounded whole ≡ Ok last
is_whole whole text sought new made last none made_is last_is within =
    ap bounded (last_whole whole text sought new made none made_is ∙ sym last_is) ∙
    within_bound last within
