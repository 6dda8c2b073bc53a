-- What is found in bytes piece by piece.
use Rattle.std.proofs.Common.{◌≡◌, ℕ, zero, suc, ◌+◌, ◌*◌, ◌≤◌, ◌<◌, Bool, true, false, List, [], ◌∷◌, ◌++◌}
use Rattle.std.proofs.Common.{length, take, drop, get_or, refl, ap, ap₂, sym, ◌∙◌, arith}
use Rattle.std.proofs.Common.{◌-◌, ◌/◌, append_assoc, length-append, length-drop, length-take}
use Rattle.std.proofs.Common.{take-add, take-append-drop, take_all}
use Rattle.std.specs.Prelude.{◌||◌}
use Rattle.std.proofs.lemmas.List.{take_more}
use Rattle.pl_names.specs.Bytes.{ends_badly, ends_control, goes_wrong, goes_wrong_in}
use Rattle.pl_names.specs.Bytes.{has_control_behind, shifted, slash, somewhere, wrong_at}

or_none : (b : Bool) → (b || false) ≡ b
or_none true = refl
or_none false = refl

or_assoc : (a b c : Bool) → ((a || b) || c) ≡ (a || (b || c))
or_assoc true b c = refl
or_assoc false b c = refl

or_shared : (a b c : Bool) → (b || c) ≡ c → ((a || b) || (a || c)) ≡ (a || c)
or_shared true b c is = refl
or_shared false b c is = is

module _ {S : Type 0} (test : S → ℕ → Bool) (next : S → ℕ → S) where
  -- what stands before the bytes that come next
  abbrev pub behind : S → List ℕ → S
  behind state [] = state
  behind state (byte ∷ bytes) = behind (next state byte) bytes

  pub behind_both : (state : S) (xs ys : List ℕ) →
      behind state (xs ++ ys) ≡ behind (behind state xs) ys
  behind_both state [] ys = refl
  behind_both state (x ∷ xs) ys = behind_both (next state x) xs ys

  pub both : (state : S) (xs ys : List ℕ) →
      somewhere test next state (xs ++ ys) ≡
      (somewhere test next state xs || somewhere test next (behind state xs) ys)
  both state [] ys = refl
  both state (x ∷ xs) ys =
      ap (λ b. test state x || b) (both (next state x) xs ys)
      ∙ sym (or_assoc (test state x) (somewhere test next (next state x) xs)
      (somewhere test next (behind (next state x) xs) ys))

  -- what is found in a front is found in all
  fronts : (state : S) (m : ℕ) (xs : List ℕ) →
      (somewhere test next state (take m xs) || somewhere test next state xs) ≡
      somewhere test next state xs
  fronts state zero xs = refl
  fronts state (suc m) [] = refl
  fronts state (suc m) (x ∷ xs) =
      or_shared (test state x) (somewhere test next (next state x) (take m xs))
      (somewhere test next (next state x) xs) (fronts (next state x) m xs)

  -- a front, and what stands behind a shorter one
  pub covered : (state : S) (m : ℕ) (xs ys : List ℕ) → length xs ≤ m →
      (somewhere test next state (take m (xs ++ ys)) ||
      somewhere test next (behind state xs) ys) ≡ somewhere test next state (xs ++ ys)
  covered state m [] ys within = fronts state m ys
  covered state zero (x ∷ xs) ys within = absurd (omega (arith, within))
  covered state (suc m) (x ∷ xs) ys within =
      or_assoc (test state x) (somewhere test next (next state x) (take m (xs ++ ys)))
      (somewhere test next (behind (next state x) xs) ys)
      ∙ ap (λ b. test state x || b) (covered (next state x) m xs ys (omega (arith, within)))

  pub covered_by : (state before : S) (m : ℕ) (xs ys bytes : List ℕ) → bytes ≡ xs ++ ys →
      length xs ≤ m → before ≡ behind state xs →
      (somewhere test next state (take m bytes) || somewhere test next before ys) ≡
      somewhere test next state bytes
  covered_by state before m xs ys bytes is within stands =
      ap₂ (λ b s. somewhere test next state (take m b) || somewhere test next s ys) is stands
      ∙ covered state m xs ys within ∙ sym (ap (somewhere test next state) is)

  -- one byte more
  pushed : (state : S) (n : ℕ) (xs : List ℕ) → n < length xs →
      behind state (take (n + 1) xs) ≡ next (behind state (take n xs)) (get_or xs n 0)
  pushed state n xs within =
      ap (behind state) (take_more xs n 0 within)
      ∙ behind_both state (take n xs) (get_or xs n 0 ∷ [])

  -- one piece more
  module _ (state last : S) (bytes : List ℕ) (m k : ℕ)
      (before : last ≡ behind state (take m bytes)) where
    pub found_further : (found more : Bool) → found ≡ somewhere test next state (take m bytes) →
        more ≡ somewhere test next last (take k (drop m bytes)) →
        (found || more) ≡ somewhere test next state (take (m + k) bytes)
    found_further found more told piece =
        ap₂ (λ a b. a || b) told (piece
        ∙ ap (λ s. somewhere test next s (take k (drop m bytes))) before)
        ∙ sym (both state (take m bytes) (take k (drop m bytes)))
        ∙ sym (ap (somewhere test next state) (take-add m k bytes))

    pub behind_further :
        behind last (take k (drop m bytes)) ≡ behind state (take (m + k) bytes)
    behind_further =
        ap (λ s. behind s (take k (drop m bytes))) before
        ∙ sym (behind_both state (take m bytes) (take k (drop m bytes)))
        ∙ sym (ap (behind state) (take-add m k bytes))

-- ---- control characters

abbrev same : ℕ → ℕ → ℕ
same before byte = byte

pub last_one : (before : ℕ) (piece : List ℕ) → length piece ≡ 16 →
    behind ends_control (λ before byte. byte) before piece ≡ get_or piece 15 0
last_one before piece sixteen =
    ap (behind ends_control same before) (sym (take_all 16 piece (omega (arith, sixteen))))
    ∙ pushed ends_control same before 15 piece (omega (arith, sixteen))

parted : (n : ℕ) (bytes end : List ℕ) → drop n bytes ≡ end → bytes ≡ take n bytes ++ end
parted n bytes end is = sym (take-append-drop n bytes) ∙ ap (λ b. take n bytes ++ b) is

-- a front of so many bytes, and the last ones with the one before them
with_last : (bytes piece : List ℕ) (last m n : ℕ) → n < length bytes → length bytes ≤ m + n →
    drop (length bytes - (n + 1)) bytes ≡ last ∷ piece →
    (has_control_behind 0 (take m bytes) || has_control_behind last piece) ≡
    has_control_behind 0 bytes
with_last bytes piece last m n long short is =
    let front = take (length bytes - (n + 1)) bytes in
    covered_by ends_control same 0 last m (front ++ last ∷ []) piece bytes
    (parted (length bytes - (n + 1)) bytes (last ∷ piece) is
    ∙ sym (append_assoc front (last ∷ []) piece))
    (omega (
      arith,
      length-append front (last ∷ []),
      length-take (length bytes - (n + 1)) bytes,
      long,
      short,
    ))
    (sym (behind_both ends_control same 0 front (last ∷ [])))

pub controls : (bytes piece : List ℕ) (last : ℕ) → 17 ≤ length bytes →
    drop (length bytes - 17) bytes ≡ last ∷ piece →
    (has_control_behind 0 (take (16 * (length bytes / 16)) bytes) ||
    has_control_behind last piece) ≡ has_control_behind 0 bytes
controls bytes piece last long is =
    with_last bytes piece last (16 * (length bytes / 16)) 16 (omega (arith, long)) (omega arith) is

-- ---- segments

pub last_three : (before : ℕ × ℕ × ℕ) (piece : List ℕ) → length piece ≡ 16 →
    behind wrong_at shifted before piece ≡ (get_or piece 13 0, get_or piece 14 0, get_or piece 15 0)
last_three before piece sixteen =
    ap (behind wrong_at shifted before) (sym (take_all 16 piece (omega (arith, sixteen))))
    ∙ pushed wrong_at shifted before 15 piece (omega (arith, sixteen))
    ∙ ap (λ s. shifted s (get_or piece 15 0)) (pushed wrong_at shifted before 14 piece
    (omega (arith, sixteen))
    ∙ ap (λ s. shifted s (get_or piece 14 0)) (pushed wrong_at shifted before 13 piece
    (omega (arith, sixteen))))

abbrev badly : ℕ × ℕ × ℕ → Bool
badly before = ends_badly before.0 before.1 before.2

ended : (third second first : ℕ) (bytes : List ℕ) → goes_wrong third second first bytes ≡
    (goes_wrong_in third second first bytes ||
    badly (behind wrong_at shifted (third, second, first) bytes))
ended third second first [] = refl
ended third second first (byte ∷ bytes) =
    ap (λ b. wrong_at (third, second, first) byte || b) (ended second first byte bytes)
    ∙ sym (or_assoc (wrong_at (third, second, first) byte) (goes_wrong_in second first byte bytes)
    (badly (behind wrong_at shifted (second, first, byte) bytes)))

pub segments_wrong : (bytes piece : List ℕ) (third second first : ℕ) → 19 ≤ length bytes →
    drop (length bytes - 19) bytes ≡ third ∷ second ∷ first ∷ piece →
    ((goes_wrong_in slash slash slash (take (16 * (length bytes / 16)) bytes) ||
    goes_wrong_in third second first piece) ||
    ends_badly (get_or piece 13 0) (get_or piece 14 0) (get_or piece 15 0)) ≡
    goes_wrong slash slash slash bytes
segments_wrong bytes piece third second first long is =
    let front = take (length bytes - 19) bytes in
    let three = third ∷ second ∷ first ∷ [] in
    let whole : bytes ≡ (front ++ three) ++ piece =
    parted (length bytes - 19) bytes (third ∷ second ∷ first ∷ piece) is
    ∙ sym (append_assoc front three piece) in
    let stands : (third, second, first) ≡
    behind wrong_at shifted (slash, slash, slash) (front ++ three) =
    sym (behind_both wrong_at shifted (slash, slash, slash) front three) in
    let all : length front ≡ length bytes - 19 =
    omega (arith, length-take (length bytes - 19) bytes, long) in
    let sixteen : length piece ≡ 16 =
    omega (arith, length-drop (length bytes - 19) bytes, ap length is, long) in
    ap₂ (λ a b. a || badly b)
    (covered_by wrong_at shifted (slash, slash, slash) (third, second, first)
    (16 * (length bytes / 16)) (front ++ three) piece bytes whole
    (omega (arith, length-append front three, all, long)) stands)
    (sym (last_three (third, second, first) piece sixteen)
    ∙ ap (λ s. behind wrong_at shifted s piece) stands
    ∙ sym (behind_both wrong_at shifted (slash, slash, slash) (front ++ three) piece)
    ∙ sym (ap (behind wrong_at shifted (slash, slash, slash)) whole))
    ∙ sym (ended slash slash slash bytes)

-- ---- the end as a slice of the bytes

pub controls_told : (bytes end : List ℕ) → 17 ≤ length bytes →
    end ≡ drop (length bytes - 17) bytes →
    (has_control_behind 0 (take (16 * (length bytes / 16)) bytes) ||
    has_control_behind (get_or end 0 0) (take (length end - 1) (drop 1 end))) ≡
    has_control_behind 0 bytes
controls_told bytes [] long is =
    absurd (omega (arith, ap length is, length-drop (length bytes - 17) bytes, long))
controls_told bytes (last ∷ piece) long is =
    ap (λ p. has_control_behind 0 (take (16 * (length bytes / 16)) bytes) ||
    has_control_behind last p) (take_all (length (last ∷ piece) - 1) piece (omega arith))
    ∙ controls bytes piece last long (sym is)

pub halves_told : (bytes end : List ℕ) → 9 ≤ length bytes → length bytes ≤ 16 →
    end ≡ drop (length bytes - 9) bytes →
    (has_control_behind 0 (take 8 bytes) ||
    has_control_behind (get_or end 0 0) (take (length end - 1) (drop 1 end))) ≡
    has_control_behind 0 bytes
halves_told bytes [] long short is =
    absurd (omega (arith, ap length is, length-drop (length bytes - 9) bytes, long))
halves_told bytes (last ∷ piece) long short is =
    ap (λ p. has_control_behind 0 (take 8 bytes) || has_control_behind last p)
    (take_all (length (last ∷ piece) - 1) piece (omega arith))
    ∙ with_last bytes piece last 8 8 (omega (arith, long)) (omega (arith, short)) (sym is)

pub segments_told : (bytes end : List ℕ) → 19 ≤ length bytes →
    end ≡ drop (length bytes - 19) bytes →
    ((goes_wrong_in slash slash slash (take (16 * (length bytes / 16)) bytes) ||
    goes_wrong_in (get_or end 0 0) (get_or end 1 0) (get_or end 2 0)
    (take (length end - 3) (drop 3 end))) ||
    ends_badly (get_or (take (length end - 3) (drop 3 end)) 13 0)
    (get_or (take (length end - 3) (drop 3 end)) 14 0)
    (get_or (take (length end - 3) (drop 3 end)) 15 0)) ≡ goes_wrong slash slash slash bytes
segments_told bytes [] long is =
    absurd (omega (arith, ap length is, length-drop (length bytes - 19) bytes, long))
segments_told bytes (third ∷ []) long is =
    absurd (omega (arith, ap length is, length-drop (length bytes - 19) bytes, long))
segments_told bytes (third ∷ second ∷ []) long is =
    absurd (omega (arith, ap length is, length-drop (length bytes - 19) bytes, long))
segments_told bytes (third ∷ second ∷ first ∷ piece) long is =
    ap (λ p. (goes_wrong_in slash slash slash (take (16 * (length bytes / 16)) bytes) ||
    goes_wrong_in third second first p) ||
    ends_badly (get_or p 13 0) (get_or p 14 0) (get_or p 15 0))
    (take_all (length (third ∷ second ∷ first ∷ piece) - 3) piece (omega arith))
    ∙ segments_wrong bytes piece third second first long (sym is)
