-- The first text at each place, and those whose places another text had before them.
use Rattle.std.proofs.Common.{◌≡◌, ℕ, zero, suc, ◌+◌, ◌≤◌, ◌<◌, ⊎_elim, Bool, true, false, cond}
use Rattle.std.proofs.Common.{true≢false, List, [], ◌∷◌, ◌++◌, map, replicate, length, get_or, set}
use Rattle.std.proofs.Common.{refl, sym, ap, subst, ◌∙◌, arith}
use Rattle.std.proofs.lemmas.List.{map-append}
use Rattle.std.specs.Cmp.Lexicographic.{nat_list_cmp_total, slice_cmp, texts_ties}
use Rattle.std.specs.Cmp.Lexicographic.{same_text as is_same}
use Rattle.std.specs.Ordering.{is_eq, nat_cmp}
use Rattle.std.specs.declared.cmp.Ordering.{Ordering}
use Rattle.std.specs.declared.cmp.Ordering.TheVariants.{Less, Equal, Greater}
use Rattle.std.specs.declared.option.Option.{Option}
use Rattle.std.specs.declared.option.Option.TheVariants.{None, Some}
use Rattle.std.proofs.lemmas.Cmp.{tied_itself}
use Rattle.std.proofs.lemmas.List.{get_or-set_other, get_or-set_same}
use Rattle.std.proofs.lemmas.Bool.{cases_eq as which}
use Rattle.pl_limits.specs.Limits.{are_distinct, same_text}
use Rattle.pl_limits.specs.Places.{place}
use Rattle.pl_limits.proofs.Rising.{apart_alike, count, count_both, hit, not_apart}

-- ---- texts that are equal

-- how often a text stands among texts, and whether it is another one
abbrev pub times : List ℕ → List (List ℕ) → ℕ
times one texts = count nat_list_cmp_total one texts

abbrev hits : List ℕ → List ℕ → ℕ
hits one other = hit nat_list_cmp_total (slice_cmp nat_cmp one other)

equal : (x y : List ℕ) → slice_cmp nat_cmp x y ≡ Equal → x ≡ y
equal x y is = is_same x y (sym (texts_ties x y ∙ ap is_eq is))

missed : (x y : List ℕ) → (x ≡ y → ⊥) → hits x y ≡ 0
missed x y other = go (slice_cmp nat_cmp x y) refl
  where
    go : (r : Ordering) → slice_cmp nat_cmp x y ≡ r → hits x y ≡ 0
    go Less is = ap (hit nat_list_cmp_total) is
    go Equal is = absurd (other (equal x y is))
    go Greater is = ap (hit nat_list_cmp_total) is

hit_itself : (x : List ℕ) → hits x x ≡ 1
hit_itself x = ap (hit nat_list_cmp_total) (tied_itself nat_list_cmp_total x)

pub alike : (x y : List ℕ) (told : Bool) → told ≡ same_text y x → told ≡ true → x ≡ y
alike x y told is same = sym (is_same y x (sym same ∙ is))

pub unlike :
    (x y : List ℕ) (told : Bool) → told ≡ same_text y x → told ≡ false → x ≡ y → ⊥
unlike x y told is other same = true≢false
    (sym (texts_ties x x ∙ ap is_eq (tied_itself nat_list_cmp_total x))
    ∙ ap (λ z. same_text z x) same ∙ sym is ∙ other)

one_more :
    (x : List ℕ) (texts : List (List ℕ)) (text : List ℕ) →
    times x (texts ++ text ∷ []) ≡ times x texts + hits x text
one_more x texts text =
    omega (arith, count_both nat_list_cmp_total x texts (text ∷ []))

-- ---- what stands at places

-- how often a text is the one at a place, and how often another one is there
abbrev pub stands : Option (List ℕ) → List ℕ → ℕ
stands None one = 0
stands (Some first) one = hits one first

abbrev pub others : Option (List ℕ) → List ℕ → ℕ
others None one = 0
others (Some first) one = cond (is_eq (slice_cmp nat_cmp one first)) 0 1

module _ {X : Type 0} (text : X → List ℕ) where
  abbrev pub shown : Option X → Option (List ℕ)
  shown None = None
  shown (Some x) = Some (text x)

  abbrev pub at : List (Option X) → ℕ → Option (List ℕ)
  at places p = shown (get_or places p None)

-- each text stands as often as in the rest and at its place, and in the rest only where another one
-- has its place
pub record ArePlaced {X : Type 0} (text : X → List ℕ) (room : ℕ) (before : List (List ℕ))
    (places : List (Option X)) (rest : List X) : Type 0 where
  pub all : (one : List ℕ) → times one before ≡
      times one (map text rest) + stands (at text places (place room one)) one
  pub behind : (one : List ℕ) → others (at text places (place room one)) one ≡ 0 →
      times one (map text rest) ≡ 0

module _ {X : Type 0} {text : X → List ℕ} {room : ℕ} {before : List (List ℕ)} where
  pub moved :
      {told : List (List ℕ)} {places : List (Option X)} {seen : List (Option X)} {rest : List X}
      {left : List X} → told ≡ before → places ≡ seen → rest ≡ left →
      ArePlaced text room before seen left → ArePlaced text room told places rest
  moved {places} {seen} {rest} {left} told is same placed =
      subst (λ texts. ArePlaced text room texts places rest) (sym told)
      (subst (λ all. ArePlaced text room before all rest) (sym is)
      (subst (λ some. ArePlaced text room before seen some) (sym same) placed))

module _ {X : Type 0} (text : X → List ℕ) (room : ℕ) where
  nowhere : (n p : ℕ) → at text (replicate n None) p ≡ None
  nowhere zero p = refl
  nowhere (suc n) zero = refl
  nowhere (suc n) (suc p) = nowhere n p

  pub at_first : (n : ℕ) → ArePlaced text room [] (replicate n None) []
  at_first n = record {
    all = λ one. let none : stands (at text (replicate n None) (place room one)) one ≡ 0 =
        ap (λ y. stands y one) (nowhere n (place room one)) in
        omega (arith, none);
    behind = λ one none. refl;
  }

  module _ (before : List (List ℕ)) (places : List (Option X)) (rest : List X) (x : X)
      (placed : ArePlaced text room before places rest) where
    abbrev here : ℕ
    here = place room (text x)

    -- where its place is free it stands there
    pub stays :
        here < length places → get_or places here None ≡ None →
        ArePlaced text room (before ++ text x ∷ []) (set places here (Some x)) rest
    stays within free = record {
      all = λ one. ⊎_elim (λ is. all_here one is) (λ ne. all_else one ne)
          (which (place room one) here);
      behind = λ one. ⊎_elim (λ is _. behind_here one is) (λ ne. behind_else one ne)
          (which (place room one) here);
    }
      where
        new : List (Option X)
        new = set places here (Some x)

        there : (one : List ℕ) → place room one ≡ here →
            at text new (place room one) ≡ Some (text x)
        there one is = ap (at text new) is
            ∙ ap (shown text) (get_or-set_same places here (Some x) None within)

        was : (one : List ℕ) → place room one ≡ here → at text places (place room one) ≡ None
        was one is = ap (at text places) is ∙ ap (shown text) free

        else_where : (one : List ℕ) → (place room one ≡ here → ⊥) →
            at text new (place room one) ≡ at text places (place room one)
        else_where one ne =
            ap (shown text) (get_or-set_other places here (place room one) (Some x) None ne)

        all_here : (one : List ℕ) → place room one ≡ here → times one (before ++ text x ∷ []) ≡
            times one (map text rest) + stands (at text new (place room one)) one
        all_here one is =
            let now : stands (at text new (place room one)) one ≡ hits one (text x) =
            ap (λ y. stands y one) (there one is) in
            let old : stands (at text places (place room one)) one ≡ 0 =
            ap (λ y. stands y one) (was one is) in
            omega (arith, one_more one before (text x), placed.all one, now, old)

        all_else : (one : List ℕ) → (place room one ≡ here → ⊥) →
            times one (before ++ text x ∷ []) ≡
            times one (map text rest) + stands (at text new (place room one)) one
        all_else one ne =
            let now : stands (at text new (place room one)) one ≡
            stands (at text places (place room one)) one =
            ap (λ y. stands y one) (else_where one ne) in
            omega (
              arith,
              one_more one before (text x),
              placed.all one,
              now,
              missed one (text x) (λ is. ne (ap (place room) is)),
            )

        behind_here : (one : List ℕ) → place room one ≡ here → times one (map text rest) ≡ 0
        behind_here one is = placed.behind one (ap (λ y. others y one) (was one is))

        behind_else : (one : List ℕ) → (place room one ≡ here → ⊥) →
            others (at text new (place room one)) one ≡ 0 → times one (map text rest) ≡ 0
        behind_else one ne none =
            placed.behind one (sym (ap (λ y. others y one) (else_where one ne)) ∙ none)

    module _ (first : X) (taken : get_or places here None ≡ Some first) where
      -- where another text has its place it is of the rest
      pub moves :
          (text x ≡ text first → ⊥) →
          ArePlaced text room (before ++ text x ∷ []) places (rest ++ x ∷ [])
      moves other = record {
        all = λ one. omega (arith, one_more one before (text x), placed.all one, more one);
        behind = λ one none. omega (
          arith,
          more one,
          placed.behind one none,
          missed one (text x) (λ is. not_it one is none),
        );
      }
        where
          more : (one : List ℕ) → times one (map text (rest ++ x ∷ [])) ≡
              times one (map text rest) + hits one (text x)
          more one = ap (times one) (map-append text rest (x ∷ []))
              ∙ one_more one (map text rest) (text x)

          apart : others (Some (text first)) (text x) ≡ 1
          apart = go (slice_cmp nat_cmp (text x) (text first)) refl
            where
              go : (r : Ordering) → slice_cmp nat_cmp (text x) (text first) ≡ r →
                  others (Some (text first)) (text x) ≡ 1
              go Less is = ap (λ s. cond (is_eq s) 0 1) is
              go Equal is = absurd (other (equal (text x) (text first) is))
              go Greater is = ap (λ s. cond (is_eq s) 0 1) is

          not_it : (one : List ℕ) → one ≡ text x →
              others (at text places (place room one)) one ≡ 0 → ⊥
          not_it one is none =
              let there : others (at text places (place room one)) one ≡ 1 =
              ap (λ y. others (at text places (place room y)) y) is
              ∙ ap (λ y. others (shown text y) (text x)) taken ∙ apart in
              omega (arith, none, there)

      -- where it stands there itself it stands twice
      pub doubles :
          (texts more : List (List ℕ)) → texts ≡ before ++ text x ∷ more →
          text x ≡ text first → are_distinct same_text texts ≡ false
      doubles texts more whole is =
          (λ i. are_distinct (λ a b. texts_ties a b i) texts)
          ∙ not_apart nat_list_cmp_total texts (text x)
          (subst (λ ys. 2 ≤ times (text x) ys) (sym whole) two)
        where
          once : stands (at text places here) (text x) ≡ 1
          once = ap (λ y. stands (shown text y) (text x)) taken
              ∙ ap (hits (text x)) (sym is) ∙ hit_itself (text x)

          two : 2 ≤ times (text x) (before ++ text x ∷ more)
          two = omega (
            arith,
            once,
            placed.all (text x),
            hit_itself (text x),
            count_both nat_list_cmp_total (text x) before (text x ∷ more),
          )

  -- at the end none of the rest stands twice where none of all does
  pub apart_behind :
      (texts : List (List ℕ)) (places : List (Option X)) (rest : List X) →
      ArePlaced text room texts places rest →
      are_distinct same_text (map text rest) ≡ are_distinct same_text texts
  apart_behind texts places rest placed =
      (λ i. are_distinct (λ a b. texts_ties a b i) (map text rest))
      ∙ apart_alike nat_list_cmp_total texts (map text rest) there
      (λ one two. omega (arith, two, placed.all one))
      ∙ sym (λ i. are_distinct (λ a b. texts_ties a b i) texts)
    where
      go : (one : List ℕ) (at : Option (List ℕ)) → 2 ≤ times one texts →
          times one texts ≡ times one (map text rest) + stands at one →
          (others at one ≡ 0 → times one (map text rest) ≡ 0) → 2 ≤ times one (map text rest)
      go one None two all behind = omega (arith, two, all)
      go one (Some first) two all behind = tell (slice_cmp nat_cmp one first) refl
        where
          tell : (r : Ordering) → slice_cmp nat_cmp one first ≡ r → 2 ≤ times one (map text rest)
          tell Less is = let no : hits one first ≡ 0 = ap (hit nat_list_cmp_total) is in
              omega (arith, two, all, no)
          tell Equal is = let once : hits one first ≡ 1 = ap (hit nat_list_cmp_total) is in
              absurd (omega (arith, two, all, once, behind (ap (λ s. cond (is_eq s) 0 1) is)))
          tell Greater is = let no : hits one first ≡ 0 = ap (hit nat_list_cmp_total) is in
              omega (arith, two, all, no)

      there : (one : List ℕ) → 2 ≤ times one texts → 2 ≤ times one (map text rest)
      there one two =
          go one (at text places (place room one)) two (placed.all one) (placed.behind one)
