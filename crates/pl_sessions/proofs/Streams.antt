-- A stream has one list of messages.
use Rattle.std.proofs.Common.{◌≡◌, ℕ, List, [], ◌∷◌, ◌++◌, length, take, drop, refl, sym, ◌∙◌, ap}
use Rattle.std.proofs.Common.{subst}
use Rattle.std.proofs.Math.Seq.{take-append_seam, drop-append_seam}
use Rattle.pl_wire.specs.declared.message.Message.{Message}
use Rattle.pl_wire.specs.Message.{IsMessage, OneReading}
use Rattle.pl_sessions.specs.Messages.{Spelled, NoneFirst}

-- the front of bytes that are a message and more
front_is : (bytes front more : List ℕ) → bytes ≡ front ++ more → take (length front) bytes ≡ front
front_is bytes front more is = ap (λ b. take (length front) b) is ∙ take-append_seam front more

-- behind equal fronts the rests are equal
same_rest : (a b x y : List ℕ) → a ≡ b → a ++ x ≡ b ++ y → x ≡ y
same_rest a b x y is all = sym (drop-append_seam a x) ∙ (ap (λ bytes. drop (length a) bytes) all ∙
    (ap (λ front. drop (length front) (b ++ y)) is ∙ drop-append_seam b y))

pub one_stream : OneReading → (bytes rest other : List ℕ) (messages others : List Message)
    → Spelled bytes messages rest → Spelled bytes others other → NoneFirst rest → NoneFirst other
    → (messages ≡ others) × (rest ≡ other)
one_stream one bytes rest other [] [] s r none none' = (refl, sym s ∙ r)
one_stream one bytes rest other [] (n ∷ ns) s r none none' =
    absurd (none (length r.0) n (subst (λ b. IsMessage b n) (sym (front_is rest r.0 r.1 (sym s ∙
    r.2))) r.3))
one_stream one bytes rest other (m ∷ ms) [] s r none none' =
    absurd (none' (length s.0) m (subst (λ b. IsMessage b m) (sym (front_is other s.0 s.1 (sym r ∙
    s.2))) s.3))
one_stream one bytes rest other (m ∷ ms) (n ∷ ns) s r none none' =
    let all : s.0 ++ s.1 ≡ r.0 ++ r.1 = sym s.2 ∙ r.2 in
    let same = one s.0 r.0 s.1 r.1 m n s.3 r.3 all in
    let behind : s.1 ≡ r.1 = same_rest s.0 r.0 s.1 r.1 same.0 all in
    let rests = one_stream one s.1 rest other ms ns s.4 (subst (λ b. Spelled b ns other) (sym
    behind) r.4) none none' in
    (ap (λ k. k ∷ ms) same.1 ∙ ap (λ ks. n ∷ ks) rests.0, rests.1)
