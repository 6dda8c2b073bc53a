-- What stands at the front of bytes, when more bytes come, and beside another reading.
use Rattle.std.proofs.Common.{false, ◌==◌, min, length-drop, zero, suc, ◌≡◌, ℕ, ◌+◌, ◌-◌, ◌<◌, ◌≤◌}
use Rattle.std.proofs.Common.{◌⊎◌, inl, inr, List, [], ◌∷◌, ◌++◌, length, take, drop, refl, sym, ap}
use Rattle.std.proofs.Common.{◌∙◌, subst, arith, append_assoc, append-nil, Result, Ok, Err}
use Rattle.std.proofs.Common.{length-append}
use Rattle.std.proofs.lemmas.List.{take-append-drop, take-append-le, length-take-le, take_all}
use Rattle.std.proofs.Math.Seq.{take-take}
use Rattle.std.proofs.lemmas.Bool.{false≢true}
use Rattle.std.specs.List.{flat_map}
use Rattle.httparse.specs.Grammar.{lf, print_end, print_field, RequestHead, print_request}
use Rattle.httparse.specs.Grammar.{ReadsRequest, HasNoRequest, NeverHasRequest, MayBecomeRequest}
use Rattle.httparse.specs.Grammar.{EndsInTarget}
use Rattle.httparse.specs.Spans.{RequestExceeds}
use Rattle.httparse.proofs.GrammarLemmas.{ReadsRequest-append, request_unique}
use Rattle.pl_heads.specs.declared.fault.HttpFault.{HttpFault}
use Rattle.pl_heads.specs.declared.fault.HttpFault.TheVariants.{HeadBad, HeadLarge, LengthMissing}
use Rattle.pl_heads.specs.declared.fault.HttpFault.TheVariants.{BodyLarge}
use Rattle.pl_heads.specs.declared.front.Front.{Front}
use Rattle.pl_heads.specs.declared.front.Front.TheVariants.{Partial, Whole, Bad}
use Rattle.pl_heads.specs.Heads.{HasHead, IsOpen, IsPartialHead, IsLargeHead, IsBadHead, head_limit}
use Rattle.pl_heads.specs.Heads.{below_limit, field_limit}
use Rattle.pl_heads.specs.Lines.{lines_behind, line_limit, IsCut}
use Rattle.pl_heads.specs.Fronts.{framed, IsToldEarly, IsFaulty, StandsAtFront, FrontsStay}
use Rattle.pl_heads.specs.Fronts.{OneFront}
use Rattle.pl_heads.proofs.LineLemmas.{lines_behind-append}
use Rattle.pl_heads.proofs.ManyLines.{exceeds-append, few_lines, open_exceeds, many_lines}
use Rattle.pl_heads.proofs.ManyLines.{whole_or_many}

-- ---- bytes cut in two ways

pub two_cuts : (x y front rest : List ℕ) → x ++ y ≡ front ++ rest
    → ((z : List ℕ) × (x ≡ front ++ z) × (rest ≡ z ++ y)) ⊎ ((z : List ℕ) × (front ≡ x ++ z) ×
    (y ≡ z ++ rest))
two_cuts [] y front rest same = inr (front, refl, same)
two_cuts (a ∷ x) y [] rest same = inl (a ∷ x, refl, sym same)
two_cuts (a ∷ x) y (b ∷ front) rest same = go (two_cuts x y front rest tail)
  where
    head : a ≡ b
    head = cc

    tail : x ++ y ≡ front ++ rest
    tail = cc

    go : ((z : List ℕ) × (x ≡ front ++ z) × (rest ≡ z ++ y)) ⊎ ((z : List ℕ) × (front ≡ x ++ z) ×
        (y ≡ z ++ rest))
        → ((z : List ℕ) × (a ∷ x ≡ (b ∷ front) ++ z) × (rest ≡ z ++ y))
        ⊎ ((z : List ℕ) × (b ∷ front ≡ (a ∷ x) ++ z) × (y ≡ z ++ rest))
    go (inl (z, e, f)) = inl (z, cc, f)
    go (inr (z, e, f)) = inr (z, cc, f)

-- the front of bytes with more behind them
pub take-append : (n : ℕ) (xs ys : List ℕ) → take n (xs ++ ys) ≡ take n xs ++
    take (n - length xs) ys
take-append zero xs ys =
    let none : 0 ≡ 0 - length xs = omega arith in
    ap (λ (k : ℕ). take k ys) none
take-append (suc n) [] ys =
    let all : suc n ≡ suc n - 0 = omega arith in
    ap (λ (k : ℕ). take k ys) all
take-append (suc n) (x ∷ xs) ys =
    let left : n - length xs ≡ suc n - suc (length xs) = omega arith in
    ap (λ (zs : List ℕ). x ∷ zs) (take-append n xs ys ∙ ap (λ (k : ℕ). take n xs ++ take k ys) left)

-- ---- facts on bytes, and on more bytes

pub never-append : (x y : List ℕ) → NeverHasRequest x → NeverHasRequest (x ++ y)
never-append x y never more = subst HasNoRequest (sym (append_assoc x y more)) (never (y ++ more))

-- what no head can follow gets no 65th header line any more
pub few-append : (x y : List ℕ) → NeverHasRequest x → ¬ (RequestExceeds field_limit x) →
    ¬ (RequestExceeds field_limit (x ++ y))
few-append x y never few (front, rest, same, h, reads, over) = go (two_cuts x y front rest same)
  where
    go :
        ((z : List ℕ) × (x ≡ front ++ z) × (rest ≡ z ++ y)) ⊎ ((z : List ℕ) × (front ≡ x ++ z) ×
        (y ≡ z ++ rest)) →
        ⊥
    go (inl (z, e, f)) = few (front, z, e, h, reads, over)
    go (inr (z, e, f)) = never (z ++ print_end lf) h [] (
      reads.0,
      sym (append_assoc x z (print_end lf)) ∙ ap (λ (b : List ℕ). b ++ print_end lf) (sym e) ∙
          reads.1,
    )

pub head-append : (bytes more : List ℕ) (h : RequestHead) → HasHead bytes h →
    HasHead (bytes ++ more) h
head-append bytes more h has = record {
  rest = has.rest ++ more;
  reads = ReadsRequest-append bytes h has.rest more has.reads;
  short = has.short;
  few = has.few;
}

large-append : (bytes more : List ℕ) → IsLargeHead bytes → IsLargeHead (bytes ++ more)
large-append bytes more (inl exceeds) =
    inl (subst (RequestExceeds field_limit) (sym (take-append head_limit bytes more))
    (exceeds-append (take head_limit bytes) _ exceeds))
large-append bytes more (inr (long, none, begun)) = inr (
  omega (arith, length-append bytes more),
  subst HasNoRequest (sym (take-append-le head_limit bytes more long)) none,
  subst MayBecomeRequest (sym (take-append-le below_limit bytes more (omega arith))) begun,
)

bad-append : (bytes more : List ℕ) → IsBadHead bytes → IsBadHead (bytes ++ more)
bad-append bytes more bad = record {
  never = subst NeverHasRequest (sym (take-append below_limit bytes more))
      (never-append (take below_limit bytes) _ bad.never);
  few =
      subst (λ (b : List ℕ). ¬ (RequestExceeds field_limit b))
      (sym (take-append below_limit bytes more))
      (few-append (take below_limit bytes) _ bad.never bad.few);
}

early-append : (bytes more : List ℕ) (fault : HttpFault) → IsToldEarly bytes fault →
    IsToldEarly (bytes ++ more) fault
early-append bytes more HeadBad told = bad-append bytes more told
early-append bytes more HeadLarge told = large-append bytes more told
early-append bytes more LengthMissing told = elim told [ ]
early-append bytes more BodyLarge told = elim told [ ]

pub fault-append : (bytes more : List ℕ) (fault : HttpFault) → IsFaulty bytes fault →
    IsFaulty (bytes ++ more) fault
fault-append bytes more fault (inl told) = inl (early-append bytes more fault told)
fault-append bytes more fault (inr (h, has, framing)) =
    inr (h, head-append bytes more h has, framing)

pub stay : FrontsStay
stay = record { heads = head-append; faults = fault-append }

-- ---- two readings of the same bytes

-- where a 65th header line is whole, no head has at most 64 headers
pub exceeds_head :
    (bytes rest : List ℕ) (h : RequestHead) → ReadsRequest bytes h rest →
    RequestExceeds field_limit bytes
    → field_limit < length h.fields
exceeds_head bytes rest h reads (front, after, same, g, begun, over) =
    go (two_cuts (print_request h) rest front after (sym reads.1 ∙ same))
  where
    same_head : (z : List ℕ) → front ≡ print_request h ++ z → field_limit < length h.fields
    same_head z e =
        let of_h : ReadsRequest (front ++ print_end lf) h (z ++ print_end lf) =
        ReadsRequest-append front h z (print_end lf) (reads.0, e) in
        let one = request_unique (front ++ print_end lf) g h [] (z ++ print_end lf) begun of_h in
        subst (λ (k : RequestHead). field_limit < length k.fields) one.0 over

    go : ((z : List ℕ) × (print_request h ≡ front ++ z) × (after ≡ z ++ rest))
        ⊎ ((z : List ℕ) × (front ≡ print_request h ++ z) × (rest ≡ z ++ after)) →
        field_limit < length h.fields
    go (inr (z, e, f)) = same_head z e
    go (inl (z, e, f)) =
        many (whole_or_many front z h (reads.0, sym e ∙ sym (append-nil (print_request h)))
        (many_lines front g begun over))
      where
        many :
            (field_limit < length h.fields) ⊎
            ((behind : List ℕ) × (front ≡ print_request h ++ behind)) →
            field_limit < length h.fields
        many (inl over) = over
        many (inr (behind, is)) = same_head behind is

pub no_bad_head : (bytes : List ℕ) (h : RequestHead) → HasHead bytes h → IsBadHead bytes → ⊥
no_bad_head bytes h has bad =
    bad.never (drop below_limit bytes) h has.rest
    (subst (λ (b : List ℕ). ReadsRequest b h has.rest) (sym (take-append-drop below_limit bytes))
    has.reads)

-- a head within the limits stands in the bytes up to the limit
pub head_within :
    (bytes : List ℕ) (h : RequestHead) → HasHead bytes h → HasHead (take head_limit bytes) h
head_within bytes h has = record {
  rest = take (head_limit - length (print_request h)) has.rest;
  reads = (
    has.reads.0,
    ap (take head_limit) has.reads.1 ∙ take-append head_limit (print_request h) has.rest
        ∙ ap (λ (b : List ℕ). b ++ take (head_limit - length (print_request h)) has.rest)
        (take_all head_limit (print_request h) has.short),
  );
  short = has.short;
  few = has.few;
}

no_large_head : (bytes : List ℕ) (h : RequestHead) → HasHead bytes h → IsLargeHead bytes → ⊥
no_large_head bytes h has (inl exceeds) =
    let within = head_within bytes h has in
    let over = exceeds_head (take head_limit bytes) within.rest h within.reads exceeds in
    let few = has.few in omega arith
no_large_head bytes h has (inr (long, none, begun)) =
    let within = head_within bytes h has in none h within.rest within.reads

no_early :
    (bytes : List ℕ) (h : RequestHead) (fault : HttpFault) → HasHead bytes h →
    IsToldEarly bytes fault → ⊥
no_early bytes h HeadBad has told = no_bad_head bytes h has told
no_early bytes h HeadLarge has told = no_large_head bytes h has told
no_early bytes h LengthMissing has told = elim told [ ]
no_early bytes h BodyLarge has told = elim told [ ]

one_head : (bytes : List ℕ) (a b : RequestHead) → HasHead bytes a → HasHead bytes b → a ≡ b
one_head bytes a b x y = (request_unique bytes a b x.rest y.rest x.reads y.reads).0

of_head :
    (bytes : List ℕ) (h : RequestHead) (fault : HttpFault) → HasHead bytes h →
    IsFaulty bytes fault → framed h ≡ Err fault
of_head bytes h fault has (inl told) = absurd (no_early bytes h fault has told)
of_head bytes h fault has (inr (g, also, framing)) = ap framed (one_head bytes h g has also) ∙
    framing

-- bytes below the limit are all of their front
below_all : (bytes : List ℕ) → length bytes ≤ below_limit → take below_limit bytes ≡ bytes
below_all bytes short = take_all below_limit bytes short

head_all : (bytes : List ℕ) → length bytes ≤ head_limit → take head_limit bytes ≡ bytes
head_all bytes short = take_all head_limit bytes short

open_never : (bytes : List ℕ) → MayBecomeRequest bytes → NeverHasRequest bytes → EndsInTarget bytes
open_never bytes (inl (more, h, reads)) never = absurd (never more h [] reads)
open_never bytes (inr ends) never = ends

told_later :
    (bytes : List ℕ) (fault : HttpFault) → IsPartialHead bytes → IsToldEarly bytes fault →
    (fault ≡ HeadBad) × EndsInTarget bytes
told_later bytes HeadBad part told = (
  refl,
  open_never bytes part.open_is.unfinished (subst NeverHasRequest (below_all bytes part.short)
      told.never),
)
told_later bytes HeadLarge part (inl exceeds) =
    let short : length bytes ≤ head_limit = omega (arith, part.short) in
    absurd (part.open_is.few (subst (RequestExceeds field_limit) (head_all bytes short) exceeds))
told_later bytes HeadLarge part (inr (long, none, begun)) = absurd (omega (arith, part.short))
told_later bytes LengthMissing part told = elim told [ ]
told_later bytes BodyLarge part told = elim told [ ]

later :
    (bytes : List ℕ) (fault : HttpFault) → IsPartialHead bytes → IsFaulty bytes fault →
    (fault ≡ HeadBad) × EndsInTarget bytes
later bytes fault part (inl told) = told_later bytes fault part told
later bytes fault part (inr (h, has, framing)) = absurd (part.open_is.none h has.rest has.reads)

-- one byte more
limit_front :
    (bytes : List ℕ) →
    take head_limit bytes ≡ take below_limit (take head_limit bytes) ++
    drop below_limit (take head_limit bytes)
limit_front bytes = sym (take-append-drop below_limit (take head_limit bytes))

bad_or_large :
    (bytes : List ℕ) → IsBadHead bytes → IsLargeHead bytes → EndsInTarget (take below_limit bytes)
bad_or_large bytes bad (inl exceeds) =
    absurd (few-append (take below_limit bytes) (drop below_limit (take head_limit bytes)) bad.never
    bad.few
    (subst (RequestExceeds field_limit) (limit_front bytes ∙
    ap (λ (b : List ℕ). b ++ drop below_limit (take head_limit bytes))
    (take-take below_limit head_limit bytes (omega arith))) exceeds))
bad_or_large bytes bad (inr (long, none, begun)) = open_never (take below_limit bytes) begun
    bad.never

one_told :
    (bytes : List ℕ) (a b : HttpFault) → IsToldEarly bytes a → IsToldEarly bytes b →
    (a ≡ b) ⊎ EndsInTarget (take below_limit bytes)
one_told bytes HeadBad HeadBad x y = inl refl
one_told bytes HeadBad HeadLarge x y = inr (bad_or_large bytes x y)
one_told bytes HeadLarge HeadBad x y = inr (bad_or_large bytes y x)
one_told bytes HeadLarge HeadLarge x y = inl refl
one_told bytes LengthMissing b x y = elim x [ ]
one_told bytes BodyLarge b x y = elim x [ ]
one_told bytes HeadBad LengthMissing x y = elim y [ ]
one_told bytes HeadBad BodyLarge x y = elim y [ ]
one_told bytes HeadLarge LengthMissing x y = elim y [ ]
one_told bytes HeadLarge BodyLarge x y = elim y [ ]

one_fault :
    (bytes : List ℕ) (a b : HttpFault) → IsFaulty bytes a → IsFaulty bytes b →
    (a ≡ b) ⊎ EndsInTarget (take below_limit bytes)
one_fault bytes a b (inl x) (inl y) = one_told bytes a b x y
one_fault bytes a b (inl x) (inr (h, has, framing)) = absurd (no_early bytes h a has x)
one_fault bytes a b (inr (h, has, framing)) y =
    let both : ◌≡◌ {A = Result ℕ HttpFault} (Err a) (Err b) = sym framing ∙
    of_head bytes h b has y in
    let same : a ≡ b = cc in
    inl same

pub one : OneFront
one = record {
  one_head = one_head;
  no_head = λ bytes h has part. part.open_is.none h has.rest has.reads;
  of_head = of_head;
  later = later;
  one_fault = one_fault;
}

-- ---- faults of fewer bytes than the limit

pub large_short :
    (bytes : List ℕ) → length bytes ≤ head_limit → RequestExceeds field_limit bytes →
    IsFaulty bytes HeadLarge
large_short bytes short exceeds =
    inl (inl (subst (RequestExceeds field_limit) (sym (head_all bytes short)) exceeds))

pub large_full :
    (bytes : List ℕ) → length bytes ≡ head_limit → HasNoRequest bytes →
    MayBecomeRequest (take below_limit bytes)
    → IsFaulty bytes HeadLarge
large_full bytes full none begun = inl (inr (
  omega (arith, full),
  subst HasNoRequest (sym (head_all bytes (omega arith))) none,
  begun,
))

pub bad_short :
    (bytes : List ℕ) → length bytes ≤ below_limit → NeverHasRequest bytes →
    ¬ (RequestExceeds field_limit bytes)
    → IsFaulty bytes HeadBad
bad_short bytes short never few = inl (record {
  never = subst NeverHasRequest (sym (below_all bytes short)) never;
  few = subst (λ (b : List ℕ). ¬ (RequestExceeds field_limit b)) (sym (below_all bytes short)) few;
})

-- no continuation of bytes has a head: they have none
pub never_none : (bytes : List ℕ) → NeverHasRequest bytes → HasNoRequest bytes
never_none bytes never = subst HasNoRequest (append-nil bytes) (never [])

pub large_below :
    (bytes : List ℕ) → length bytes ≤ below_limit → RequestExceeds field_limit bytes →
    IsFaulty bytes HeadLarge
large_below bytes short exceeds = large_short bytes (omega arith) exceeds

-- bytes of fewer lines than a 65th header line wants
pub part_below :
    (bytes : List ℕ) → length bytes ≤ below_limit → HasNoRequest bytes → MayBecomeRequest bytes
    → lines_behind bytes < line_limit → IsPartialHead bytes
part_below bytes short none begun few = record {
  open_is = record { none = none; unfinished = begun; few = few_lines bytes few };
  short = short;
}

-- bytes that begin a head and have 66 lines
pub large_open :
    (bytes : List ℕ) (end : ℕ) → length bytes ≤ below_limit → HasNoRequest bytes →
    MayBecomeRequest bytes
    → IsCut bytes end → IsFaulty bytes HeadLarge
large_open bytes end short none begun cut =
    let fewer : lines_behind (take end bytes) ≤ lines_behind bytes =
    subst (λ (b : List ℕ). lines_behind (take end bytes) ≤ lines_behind b)
    (take-append-drop end bytes)
    (lines_behind-append (take end bytes) (drop end bytes)) in
    large_below bytes short (open_exceeds bytes none begun (omega (arith, cut.enough)))

-- ---- a front of the bytes

pub fault_stays :
    (bytes front : List ℕ) (n : ℕ) (fault : HttpFault) → front ≡ take n bytes →
    IsFaulty front fault → IsFaulty bytes fault
fault_stays bytes front n fault is faulty =
    subst (λ (b : List ℕ). IsFaulty b fault) (ap (λ (b : List ℕ). b ++ drop n bytes) is ∙
    take-append-drop n bytes)
    (fault-append front (drop n bytes) fault faulty)

pub stands_at :
    (bytes front : List ℕ) (r : Front) → length front ≡ head_limit → front ≡ take head_limit bytes
    → StandsAtFront front r → StandsAtFront bytes r
stands_at bytes front Partial full is part = absurd (omega (arith, part.short))
stands_at bytes front (Whole read) full is (h, has, of) = (
  h,
  subst (λ (b : List ℕ). HasHead b h) (ap (λ (b : List ℕ). b ++ drop head_limit bytes) is ∙
      take-append-drop head_limit bytes)
      (head-append front (drop head_limit bytes) h has),
  of,
)
stands_at bytes front (Bad fault) full is faulty = fault_stays bytes front head_limit fault is
    faulty

some_left : (rest : List ℕ) → false ≡ (length rest == 0) → 0 < length rest
some_left [] e = absurd (false≢true e)
some_left (b ∷ rest) e = omega arith

pub begun_at :
    (bytes front rest at : List ℕ) (n : ℕ) → n ≡ min (length bytes) below_limit →
    front ≡ take n bytes → rest ≡ drop n bytes
    → at ≡ take head_limit bytes → false ≡ (length rest == 0) → IsPartialHead front →
    MayBecomeRequest (take below_limit at)
begun_at bytes front rest at n least is behind cut more part =
    let some : 0 < length (drop n bytes) = subst (λ (b : List ℕ). 0 < length b) behind
    (some_left rest more) in
    let limit : n ≡ below_limit = omega (arith, length-drop n bytes) in
    let same : front ≡ take below_limit at =
    is ∙ ap (λ (k : ℕ). take k bytes) limit ∙
    sym (take-take below_limit head_limit bytes (omega arith))
    ∙ ap (take below_limit) (sym cut) in
    subst MayBecomeRequest same part.open_is.unfinished
