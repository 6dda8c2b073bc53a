-- Messages are read in one way.
use Rattle.std.proofs.Common.{◌≡◌, ℕ, ◌+◌, ◌<◌, ◌≤◌, ◌⊎◌, inl, inr, List, [], ◌∷◌, ◌++◌}
use Rattle.std.proofs.Common.{length, take, drop, refl, sym, ap, ◌∙◌, subst, arith, append_assoc}
use Rattle.std.proofs.Common.{append-nil, Result, Ok, Err, length-append}
use Rattle.std.proofs.lemmas.List.{take-append-drop, take-append-le, length-take, length-take-le}
use Rattle.std.proofs.lemmas.List.{take_all}
use Rattle.std.proofs.Math.Seq.{take-append-add, take-append_seam, drop-append_seam}
use Rattle.httparse.specs.Grammar.{RequestHead, print_request, ReadsRequest, IsRequestHead}
use Rattle.httparse.specs.Grammar.{EndsInTarget, print_blank}
use Rattle.httparse.proofs.GrammarLemmas.{ReadsRequest-append, request_unique, print_request-append}
use Rattle.pl_heads.specs.declared.fault.HttpFault.{HttpFault}
use Rattle.pl_heads.specs.declared.front.Head.{Head}
use Rattle.pl_heads.specs.Fronts.{fields_of, framed, IsReadOf}
use Rattle.pl_heads.specs.Fields.{token_of}
use Rattle.pl_heads.specs.Heads.{HasHead, below_limit}
use Rattle.pl_heads.proofs.FrontLemmas.{fault-append, head-append, one}
use Rattle.pl_wire.specs.declared.message.Message.{Message}
use Rattle.pl_wire.specs.declared.message.Next.TheVariants.{Partial, Whole, Bad}
use Rattle.pl_wire.specs.Message.{told, message_of, IsMessage, IsPartial}
use Rattle.pl_wire.specs.Message.{IsBad, StandsFirst, WaitsFor, OneReading, OneAnswer, MessagesStay}

-- ---- a whole message

pub head_some : (h : RequestHead) → IsRequestHead h → 0 < length (print_request h)
head_some h is = some (print_blank h.blank) h.method _ (sym (append-nil (print_request h)) ∙
    print_request-append h [])
  where
    some :
        (a m rest : List ℕ) → print_request h ≡ a ++ (m ++ 32 ∷ rest) → 0 < length (print_request h)
    some a m rest same =
        omega (arith, ap length same, length-append a (m ++ 32 ∷ rest), length-append m (32 ∷ rest))

same_told : (front : Head) (content : List ℕ) (h : RequestHead) → IsReadOf front h
    → told front.token.now front.method.now front.target.now content ≡ message_of h content
same_told front content h of =
    ap (λ (t : List ℕ). told t front.method.now front.target.now content) of.token
    ∙ ap (λ (m : List ℕ). told (token_of (fields_of h)) m front.target.now content) of.method
    ∙ ap (λ (t : List ℕ). told (token_of (fields_of h)) h.method t content) of.target

pub whole_message : (bytes : List ℕ) (front : Head) (content : List ℕ) (message : Message)
    (h : RequestHead)
    → HasHead bytes h → IsReadOf front h → content ≡ take front.content (drop front.len bytes) →
    length content ≡ front.content
    → message ≡ told front.token.now front.method.now front.target.now content
    → StandsFirst bytes (Whole (front.len + front.content) message)
whole_message bytes front content message h has of cut len said =
    let rest = has.rest in
    let bytes_are : bytes ≡ print_request h ++ rest = has.reads.1 in
    let behind : drop front.len bytes ≡ rest =
    ap (λ (n : ℕ). drop n bytes) of.len ∙ ap (drop (length (print_request h))) bytes_are ∙
    drop-append_seam (print_request h) rest in
    let content_is : content ≡ take front.content rest = cut ∙ ap (take front.content) behind in
    let some = head_some h has.reads.0 in
    let size : length bytes ≡ length (print_request h) + length rest = ap length bytes_are ∙
    length-append (print_request h) rest in
    let enough : front.content ≤ length rest =
    omega (arith, ap length content_is, length-take front.content rest, len) in
    let front_is : take (front.len + front.content) bytes ≡ print_request h ++ content =
    ap (λ (n : ℕ). take (n + front.content) bytes) of.len ∙
    ap (take (length (print_request h) + front.content)) bytes_are
    ∙ take-append-add (print_request h) rest front.content ∙ ap (λ (c : List ℕ). print_request h ++
    c) (sym content_is) in (
      omega (arith, of.len),
      omega (arith, of.len),
      (
        h,
        content,
        record {
          reads = (has.reads.0, front_is);
          short = has.short;
          few = has.few;
          framing = of.content ∙ ap Ok (sym len);
        },
        said ∙ same_told front content h of,
      ),
    )

ok_same : {m n : ℕ} → ◌≡◌ {A = Result ℕ HttpFault} (Ok m) (Ok n) → m ≡ n
ok_same same = cc

ok_not_err : {n : ℕ} {fault : HttpFault} → ◌≡◌ {A = Result ℕ HttpFault} (Ok n) (Err fault) → ⊥
ok_not_err same = cc

-- fronts of one length
same_front : (c d x y : List ℕ) → length c ≡ length d → c ++ x ≡ d ++ y → c ≡ d
same_front [] [] x y len same = refl
same_front [] (b ∷ d) x y len same = absurd (omega arith)
same_front (a ∷ c) [] x y len same = absurd (omega arith)
same_front (a ∷ c) (b ∷ d) x y len same =
    let head : a ≡ b = cc in
    let tail : c ++ x ≡ d ++ y = cc in
    let rest : c ≡ d = same_front c d x y (omega arith) tail in
    cc

pub one_reading : OneReading
one_reading a b x y m n (h, c, f, m_is) (k, d, g, n_is) same =
    let first : ReadsRequest (a ++ x) h (c ++ x) = ReadsRequest-append a h c x f.reads in
    let second : ReadsRequest (b ++ y) k (d ++ y) = ReadsRequest-append b k d y g.reads in
    let heads = request_unique (b ++ y) h k (c ++ x) (d ++ y)
    (subst (λ (t : List ℕ). ReadsRequest t h (c ++ x)) same first) second in
    let lengths : ◌≡◌ {A = Result ℕ HttpFault} (Ok (length c)) (Ok (length d)) =
    sym f.framing ∙ ap framed heads.0 ∙ g.framing in
    let content : c ≡ d = same_front c d x y (ok_same lengths) heads.1 in (
      f.reads.1 ∙ ap (λ (h : RequestHead). print_request h ++ c) heads.0 ∙
          ap (λ (t : List ℕ). print_request k ++ t) content
          ∙ sym g.reads.1,
      m_is ∙ ap (λ (h : RequestHead). message_of h c) heads.0 ∙ ap (message_of k) content ∙
          sym n_is,
    )

-- ---- one answer

whole_head :
    (bytes : List ℕ) (taken : ℕ) (message : Message) → StandsFirst bytes (Whole taken message)
    → (h : RequestHead) × (len : ℕ) × HasHead bytes h × (framed h ≡ Ok len) ×
    (length (print_request h) + len ≤ length bytes)
whole_head bytes taken message (some, within, (h, content, f, message_is)) =
    let whole : bytes ≡ print_request h ++ (content ++ drop taken bytes) =
    sym (take-append-drop taken bytes) ∙ ap (λ (t : List ℕ). t ++ drop taken bytes) f.reads.1
    ∙ append_assoc (print_request h) content (drop taken bytes) in (
      h,
      length content,
      record {
        rest = content ++ drop taken bytes;
        reads = (f.reads.0, whole);
        short =
            f.short;
        few = f.few;
      },
      f.framing,
      omega (
        arith,
        ap length whole,
        length-append (print_request h) (content ++ drop taken bytes),
        length-append content (drop taken bytes),
      ),
    )

no_fault :
    (bytes : List ℕ) (h : RequestHead) (len : ℕ) (fault : HttpFault) → HasHead bytes h →
    framed h ≡ Ok len
    → IsBad bytes fault → ⊥
no_fault bytes h len fault has framing bad =
    ok_not_err (sym framing ∙ one.of_head bytes h fault has bad)

not_both :
    (bytes : List ℕ) (taken : ℕ) (message : Message) → StandsFirst bytes (Whole taken message) →
    IsPartial bytes → ⊥
not_both bytes taken message whole (inl part) =
    let w = whole_head bytes taken message whole in one.no_head bytes w.0 w.2 part
not_both bytes taken message whole (inr (k, len, waits)) =
    let w = whole_head bytes taken message whole in
    let heads : w.0 ≡ k = one.one_head bytes w.0 k w.2 waits.has in
    let lengths : ◌≡◌ {A = Result ℕ HttpFault} (Ok w.1) (Ok len) = sym w.3 ∙ ap framed heads ∙
    waits.framing in
    let same : w.1 ≡ len = ok_same lengths in
    let size : length (print_request w.0) ≡ length (print_request k) =
    ap (λ (h : RequestHead). length (print_request h)) heads in
    omega (arith, w.4, waits.missing, same, size)

part_fault :
    (bytes : List ℕ) (fault : HttpFault) → IsPartial bytes → IsBad bytes fault →
    EndsInTarget (take below_limit bytes)
part_fault bytes fault (inl part) bad =
    subst EndsInTarget (sym (take_all below_limit bytes part.short))
    (one.later bytes fault part bad).1
part_fault bytes fault (inr (h, len, waits)) bad =
    absurd (no_fault bytes h len fault waits.has waits.framing bad)

one_whole :
    (bytes : List ℕ) (t u : ℕ) (m n : Message) → StandsFirst bytes (Whole t m) →
    StandsFirst bytes (Whole u n)
    → Whole t m ≡ Whole u n
one_whole bytes t u m n (some, within, is) (more, also, other) =
    let same = one_reading (take t bytes) (take u bytes) (drop t bytes) (drop u bytes) m n is other
    (take-append-drop t bytes ∙ sym (take-append-drop u bytes)) in
    let lengths : t ≡ u =
    omega (arith, ap length same.0, length-take-le t bytes within, length-take-le u bytes also) in
    let messages : m ≡ n = same.1 in
    cc

pub one_answer : OneAnswer
one_answer bytes Partial Partial x y = inl refl
one_answer bytes Partial (Whole u n) x y = absurd (not_both bytes u n y x)
one_answer bytes Partial (Bad g) x y = inr (part_fault bytes g x y, tt, tt)
one_answer bytes (Whole t m) Partial x y = absurd (not_both bytes t m x y)
one_answer bytes (Whole t m) (Whole u n) x y = inl (one_whole bytes t u m n x y)
one_answer bytes (Whole t m) (Bad g) x y =
    let w = whole_head bytes t m x in absurd (no_fault bytes w.0 w.1 g w.2 w.3 y)
one_answer bytes (Bad f) Partial x y = inr (part_fault bytes f y x, tt, tt)
one_answer bytes (Bad f) (Whole u n) x y =
    let w = whole_head bytes u n y in absurd (no_fault bytes w.0 w.1 f w.2 w.3 x)
one_answer bytes (Bad f) (Bad g) x y = go (one.one_fault bytes f g x y)
  where
    go : (f ≡ g) ⊎ EndsInTarget (take below_limit bytes)
        → (Bad f ≡ Bad g) ⊎ (EndsInTarget (take below_limit bytes) × Unit {0} × Unit {0})
    go (inl same) = inl (ap Bad same)
    go (inr slack) = inr (slack, tt, tt)

-- ---- more bytes

pub stay : MessagesStay
stay = record {
  wholes = λ bytes more taken message whole. (
    whole.0,
    omega (arith, length-append bytes more, whole.1),
    subst (λ (t : List ℕ). IsMessage t message) (sym (take-append-le taken bytes more whole.1))
        whole.2,
  );
  faults = fault-append;
}

-- ---- nothing is read of a rest

pub message_stands : (front more : List ℕ) (message : Message) → IsMessage front message
    → StandsFirst (front ++ more) (Whole (length front) message)
message_stands front more message (h, content, f, message_is) = (
  omega (
    arith,
    head_some h f.reads.0,
    ap length f.reads.1,
    length-append (print_request h)
        content,
  ),
  omega (arith, length-append front more),
  subst (λ (t : List ℕ). IsMessage t message) (sym (take-append_seam front more)) (
    h,
    content,
    f,
    message_is,
  ),
)

front_stands : (rest : List ℕ) (len : ℕ) (message : Message) → IsMessage (take len rest) message
    → StandsFirst rest (Whole (length (take len rest)) message)
front_stands rest len message is =
    subst (λ (t : List ℕ). StandsFirst t (Whole (length (take len rest)) message))
    (take-append-drop len rest)
    (message_stands (take len rest) (drop len rest) message is)

pub partial_none :
    (rest : List ℕ) → IsPartial rest → (len : ℕ) (message : Message) →
    IsMessage (take len rest) message → ⊥
partial_none rest part len message is =
    not_both rest (length (take len rest)) message (front_stands rest len message is) part

pub bad_none :
    (rest : List ℕ) (fault : HttpFault) → IsBad rest fault → (len : ℕ) (message : Message)
    → IsMessage (take len rest) message → ⊥
bad_none rest fault bad len message is =
    let w = whole_head rest (length (take len rest)) message (front_stands rest len message is) in
    no_fault rest w.0 w.1 fault w.2 w.3 bad

-- ---- what is waited for

-- a whole head's content
pub waits_content :
    (bytes : List ℕ) (front : Head) (h : RequestHead) (wanted : ℕ) → HasHead bytes h →
    IsReadOf front h
    → wanted ≤ front.len + front.content → WaitsFor wanted bytes
waits_content bytes front h wanted has of least more short = inr (
  h,
  front.content,
  record {
    has = head-append bytes more h has;
    framing = of.content;
    missing = omega (arith, of.len);
  },
)
