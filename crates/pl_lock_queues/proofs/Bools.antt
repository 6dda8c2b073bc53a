-- Both, either and not, and what is known after an error.
use Rattle.std.proofs.Common.{Result, Ok, Err}
use Rattle.std.specs.Result.{OnErr}
use Rattle.std.proofs.Common.{◌≡◌, Bool, true, false, not, ◌&&◌, ◌||◌, cond, refl, sym, ◌∙◌}

-- one more of those of which one is
pub both_more : (s a b c : Bool) → ((s || (a && c)) || (b && c)) ≡ (s || ((a || b) && c))
both_more true a b c = refl
both_more false true b true = refl
both_more false true true false = refl
both_more false true false false = refl
both_more false false b c = refl

-- and of which none is
pub none_more : (s a b c : Bool) →
    ((s && not (a && c)) && not (b && c)) ≡ (s && not ((a || b) && c))
none_more false a b c = refl
none_more true true b true = refl
none_more true true true false = refl
none_more true true false false = refl
none_more true false b c = refl

pub either_swap : (a b : Bool) → (a || b) ≡ (b || a)
either_swap true true = refl
either_swap true false = refl
either_swap false true = refl
either_swap false false = refl

pub both_false : (a b : Bool) → b ≡ false → (a && b) ≡ false
both_false true b h = h
both_false false b h = refl

pub and_not : (a b : Bool) → b ≡ false → (a && not b) ≡ a
and_not true b h = λ i. not (h i)
and_not false b h = refl

pub not_both : (a b : Bool) → (a ≡ true → b ≡ true) → (a && not b) ≡ false
not_both true b h = λ i. not (h refl i)
not_both false b h = refl

pub either_false : (a : Bool) → (a || false) ≡ a
either_false true = refl
either_false false = refl

pub cond_either : {A : Type 0} (a : Bool) (x y : A) → cond (a || true) x y ≡ x
cond_either true x y = refl
cond_either false x y = refl

-- what is added and taken again, where it wasn't there
pub back_again : (s b : Bool) → (b ≡ true → s ≡ false) → ((s || b) && not b) ≡ s
back_again true true h = sym (h refl)
back_again true false h = refl
back_again false true h = refl
back_again false false h = refl

pub part_false : (a d t : Bool) → ((a || d) && t) ≡ false → (a && t) ≡ false
part_false true d t h = h
part_false false d t h = refl

-- what was put in anywhere and is taken out everywhere
pub undone : (s m n b : Bool) → n ≡ (m && not b) → (b ≡ false → m ≡ s) → (b ≡ true → s ≡ false) →
    n ≡ s
undone s m n true is same none = is ∙ (both_false m false refl ∙ sym (none refl))
undone s m n false is same none = is ∙ (and_not m false refl ∙ same refl)

-- a test more or less, where another one holds or doesn't
pub put_where : (t a s : Bool) → t ≡ true → cond a true s ≡ (s || (t && a))
put_where true true true h = refl
put_where true true false h = refl
put_where true false true h = refl
put_where true false false h = refl
put_where false a s h = absurd (cc)

pub taken_where : (t a s : Bool) → t ≡ true → cond a false s ≡ (s && not (t && a))
taken_where true true true h = refl
taken_where true true false h = refl
taken_where true false true h = refl
taken_where true false false h = refl
taken_where false a s h = absurd (cc)

pub not_put : (t a s : Bool) → t ≡ false → s ≡ (s || (t && a))
not_put true a s h = absurd (cc)
not_put false a s h = sym (either_false s)

pub not_taken : (t a s : Bool) → t ≡ false → s ≡ (s && not (t && a))
not_taken true a s h = absurd (cc)
not_taken false a true h = refl
not_taken false a false h = refl

-- what only the latest of is to run, and what not
pub named_here : (l n h : Bool) → l ≡ true → (n && h) ≡ ((l && n) && h)
named_here true n h e = refl
named_here false n h e = absurd (cc)

pub not_named : (s l n h : Bool) → l ≡ false → s ≡ (s || ((l && n) && h))
not_named s true n h e = absurd (cc)
not_named s false n h e = sym (either_false s)

pub not_dropped : (s l n h : Bool) → l ≡ false → s ≡ (s && not ((l && n) && h))
not_dropped s true n h e = absurd (cc)
not_dropped true false n h e = refl
not_dropped false false n h e = refl

pub either_true : (a b : Bool) → a ≡ true → (a || b) ≡ true
either_true true b h = refl
either_true false b h = absurd (cc)

pub on_err : {X E : Type 0} (r : Result X E) (P : Type 0) → P → OnErr r P
on_err (Ok x) P p = tt
on_err (Err e) P p = p
