-- How the parts of a session follow one another.
use Rattle.std.proofs.Common.{◌≡◌, ℕ, Bool, false, List, [], ◌∷◌, ◌++◌, Option, Some, None}
use Rattle.std.proofs.Common.{refl, sym, ◌∙◌, ap}
use Rattle.std.proofs.Common.{subst, inl, inr, append_assoc, ◌⊎◌, Result, Ok, Err, OnOk, take, drop}
use Rattle.std.proofs.lemmas.List.{take-append-drop}
use Rattle.pl_base.specs.Streams.{with_front, with_end, after_next}
use Rattle.pl_wire.specs.Message.{IsMessage, IsBad}
use Rattle.pl_heads.specs.declared.fault.HttpFault.{HttpFault}
use Rattle.pl_wire.specs.declared.message.Message.{Message}
use Rattle.pl_sessions.specs.declared.served.Broken.{Broken}
use Rattle.pl_sessions.specs.declared.served.Broken.TheVariants as broken
use Rattle.pl_sessions.specs.Acts.{Turn, messages_of, Acts, Tells, sent, refused, replies}
use Rattle.pl_sessions.specs.Acts.{joined}
use Rattle.pl_sessions.specs.Messages.{Spelled}
use Rattle.pl_sessions.specs.Halts.{halts}
use Rattle.pl_sessions.specs.Parts.{Advances, AnswersAll, Breaks, OnlyWrites}
use Rattle.pl_sessions.specs.Parts.{Sends}
use Rattle.pl_sessions.specs.Session.{Point, IsCut}
use Rattle.pl_sessions.specs.Told.{Told, Begins, Writes}
use Rattle.pl_sessions.specs.declared.answer.Answer.{Answer}
use Rattle.pl_sessions.specs.declared.served.Pause.{Pause}
use Rattle.pl_sessions.proofs.Halts.{halting_then}

pub append-nil : (xs : List ℕ) → xs ++ [] ≡ xs
append-nil [] = refl
append-nil (x ∷ xs) = ap (λ ys. x ∷ ys) (append-nil xs)

pub with_front-nil : (left : Option (List ℕ)) → with_front [] left ≡ left
with_front-nil None = refl
with_front-nil (Some bytes) = refl

pub with_front-append : (a b : List ℕ) (left : Option (List ℕ))
    → with_front a (with_front b left) ≡ with_front (a ++ b) left
with_front-append a b None = refl
with_front-append a b (Some bytes) = ap Some (sym (append_assoc a b bytes))

pub with_end-nil : (held : Option (List ℕ)) → with_end held [] ≡ held
with_end-nil None = refl
with_end-nil (Some bytes) = ap Some (append-nil bytes)

pub with_end-append : (held : Option (List ℕ)) (a b : List ℕ)
    → with_end (with_end held a) b ≡ with_end held (a ++ b)
with_end-append None a b = refl
with_end-append (Some bytes) a b = ap Some (append_assoc bytes a b)

pub joined-append : (xs ys : List (List ℕ)) → joined (xs ++ ys) ≡ joined xs ++ joined ys
joined-append [] ys = refl
joined-append (x ∷ xs) ys =
    ap (λ more. x ++ more) (joined-append xs ys) ∙ sym (append_assoc x (joined xs) (joined ys))

pub replies-append : (ts us : List Turn) → replies (ts ++ us) ≡ replies ts ++ replies us
replies-append [] us = refl
replies-append (t ∷ ts) us = ap (λ more. sent t.answer ∷ more) (replies-append ts us)

pub messages_of-append : (ts us : List Turn)
    → messages_of (ts ++ us) ≡ messages_of ts ++ messages_of us
messages_of-append [] us = refl
messages_of-append (t ∷ ts) us = ap (λ more. t.message ∷ more) (messages_of-append ts us)

pub Spelled-more : (bytes more : List ℕ) (messages : List Message) (rest : List ℕ)
    → Spelled bytes messages rest → Spelled (bytes ++ more) messages (rest ++ more)
Spelled-more bytes more [] rest is = ap (λ b. b ++ more) is
Spelled-more bytes more (m ∷ ms) rest s = (
  s.0,
  s.1 ++ more,
  ap (λ b. b ++ more) s.2 ∙ append_assoc s.0 s.1 more,
  s.3,
  Spelled-more s.1
      more ms rest s.4,
)

Spelled-then : (bytes : List ℕ) (ms ns : List Message) (between rest : List ℕ)
    → Spelled bytes ms between → Spelled between ns rest → Spelled bytes (ms ++ ns) rest
Spelled-then bytes [] ns between rest is s = subst (λ b. Spelled b ns rest) (sym is) s
Spelled-then bytes (m ∷ ms) ns between rest s r = (
  s.0,
  s.1,
  s.2,
  s.3,
  Spelled-then s.1 ms ns
      between rest s.4 r,
)

-- a buffer with what was read behind it in two parts
both_spelled : (buffer one two : List ℕ) (ts us : List Turn) (between rest : List ℕ)
    → Spelled (buffer ++ one) (messages_of ts) between → Spelled (between ++ two) (messages_of us)
    rest
    → Spelled (buffer ++ (one ++ two)) (messages_of (ts ++ us)) rest
both_spelled buffer one two ts us between rest s r =
    subst (λ ms. Spelled (buffer ++ (one ++ two)) ms rest) (sym (messages_of-append ts us))
    (Spelled-then (buffer ++ (one ++ two)) (messages_of ts) (messages_of us) (between ++ two) rest
    (subst (λ bytes. Spelled bytes (messages_of ts) (between ++ two)) (append_assoc buffer one two)
    (Spelled-more (buffer ++ one) two (messages_of ts) between s)) r)

pub Tells-then : (coming : Option (ℕ → ℕ)) (ts us : List Turn) (between later : Option (ℕ → ℕ))
    → Tells coming ts between → Tells between us later → Tells coming (ts ++ us) later
Tells-then coming [] us between later is t = subst (λ c. Tells c us later) is t
Tells-then coming (t ∷ ts) us between later a b = (
  a.0,
  a.1,
  Tells-then (after_next coming) ts us
      between later a.2 b,
)

-- replies that broke off behind whole ones
cut-behind : (front all : List (List ℕ)) (wrote : List ℕ) → IsCut all wrote
    → IsCut (front ++ all) (joined front ++ wrote)
cut-behind front all wrote cut = record {
  whole = front ++ cut.whole;
  begun = cut.begun;
  wrote_is =
      ap (λ bytes. joined front ++ bytes) cut.wrote_is
      ∙ (sym (append_assoc (joined front) (joined cut.whole) cut.begun)
      ∙ ap (λ bytes. bytes ++ cut.begun) (sym (joined-append front cut.whole)));
  all_is = elim cut.all_is as (λ _. ((front ++ all ≡ front ++ cut.whole) × (cut.begun ≡ [])) ⊎
      ((unsent : List ℕ) × (front ++ all ≡ (front ++ cut.whole) ++ (cut.begun ++ unsent) ∷ []))) [
        | inl whole ↦ inl (ap (λ xs. front ++ xs) whole.0, whole.1)
        | inr last ↦ inr (
          last.0,
          ap (λ xs. front ++ xs) last.1 ∙ sym (append_assoc front cut.whole
              ((cut.begun ++ last.0) ∷ [])),
        )
      ];
}

cut_at_nothing : IsCut [] []
cut_at_nothing = record { whole = []; begun = []; wrote_is = refl; all_is = inl (refl, refl) }

-- one reply that was begun at most
cut_in_first : (reply begun unsent : List ℕ) → reply ≡ begun ++ unsent → IsCut (reply ∷ []) begun
cut_in_first reply begun unsent is =
    record {
      whole = [];
      begun = begun;
      wrote_is = refl;
      all_is = inr (unsent, ap (λ r. r ∷ []) is);
    }

-- what sends reads nothing
pub only_begins : (A B : Type 0) (why : Broken) (bytes : List ℕ) (old new : Told)
    → (let how : Result A Broken = Err why in Sends how bytes old new)
    → (let how : Result B Broken = Err why in OnlyWrites how old new)
only_begins A B broken.WriteFault bytes old new s =
    record { counts = s.write_faults; reading = s.reading }
only_begins A B broken.Memory bytes old new s =
    record { counts = s.write_faults; reading = s.reading }

module _ {D : Type 0} (act : D → ℕ → Message → Answer → D → Type 0) where
  pub Acts-then : (old : D) (ts us : List Turn) (between new : D)
      → Acts act old ts between → Acts act between us new → Acts act old (ts ++ us) new
  Acts-then old [] us between new is a = subst (λ (s : D). Acts act s us new) is a
  Acts-then old (t ∷ ts) us between new a b = (a.0, a.1, Acts-then a.0 ts us between new a.2 b)

module _ {D : Type 0} {act : D → ℕ → Message → Answer → D → Type 0} {heeds : Bool} where
  -- nothing happens
  pub stays : (p : Point D) (buffer : List ℕ) → Advances act heeds false p buffer [] p buffer
  stays p buffer = record {
    turns = [];
    reads = sym (with_front-nil p.link.left);
    spelled = append-nil buffer;
    acts = refl;
    halts = refl;
    tells = refl;
    writes = sym (with_end-nil p.link.held);
  }

  -- one after the other
  pub goes_on : (halted : Bool) (a b c : Point D) (buffer one between two rest : List ℕ)
      → Advances act heeds false a buffer one b between
      → Advances act heeds halted b between two c rest
      → Advances act heeds halted a buffer (one ++ two) c rest
  goes_on halted a b c buffer one between two rest x y = record {
    turns = x.turns ++ y.turns;
    reads =
        x.reads
        ∙ (ap (λ left. with_front one left) y.reads ∙ with_front-append one two c.link.left);
    spelled = both_spelled buffer one two x.turns y.turns between rest x.spelled y.spelled;
    acts = Acts-then act a.desk x.turns y.turns b.desk c.desk x.acts y.acts;
    halts = halting_then heeds halted x.turns y.turns x.halts y.halts;
    tells = Tells-then a.coming x.turns y.turns b.coming c.coming x.tells y.tells;
    writes =
        y.writes
        ∙ (ap (λ held. with_end held (joined (replies y.turns))) x.writes
        ∙ (with_end-append a.link.held (joined (replies x.turns)) (joined (replies y.turns))
        ∙ ap (λ bytes. with_end a.link.held bytes)
        (sym (ap joined (replies-append x.turns y.turns)
        ∙ joined-append (replies x.turns) (replies y.turns)))));
  }

  -- broken off after an advance
  pub breaks_off : (a b c : Point D) (buffer one between two : List ℕ)
      → Advances act heeds false a buffer one b between → Breaks act heeds b between two c
      → Breaks act heeds a buffer (one ++ two) c
  breaks_off a b c buffer one between two x y = record {
    turns = x.turns ++ y.turns;
    rest = y.rest;
    wrote = joined (replies x.turns) ++ y.wrote;
    reads =
        x.reads
        ∙ (ap (λ left. with_front one left) y.reads ∙ with_front-append one two c.link.left);
    spelled = both_spelled buffer one two x.turns y.turns between y.rest x.spelled y.spelled;
    acts = Acts-then act a.desk x.turns y.turns b.desk c.desk x.acts y.acts;
    halted = y.halted;
    halts = halting_then heeds y.halted x.turns y.turns x.halts y.halts;
    tells = Tells-then a.coming x.turns y.turns b.coming c.coming x.tells y.tells;
    writes =
        y.writes
        ∙ (ap (λ held. with_end held y.wrote) x.writes
        ∙ with_end-append a.link.held (joined (replies x.turns)) y.wrote);
    cut = (
      y.cut.0,
      y.cut.1,
      subst (λ all. IsCut all (joined (replies x.turns) ++ y.wrote))
          (sym (ap (λ all. all ++ y.cut.0) (replies-append x.turns y.turns)
          ∙ append_assoc (replies x.turns) (replies y.turns) y.cut.0))
          (cut-behind (replies x.turns) (replies y.turns ++ y.cut.0) y.wrote y.cut.2),
    );
  }

  -- broken off before anything was written
  pub breaks_here : (p : Point D) (buffer : List ℕ) → Breaks act heeds p buffer [] p
  breaks_here p buffer = record {
    turns = [];
    rest = buffer;
    wrote = [];
    reads = sym (with_front-nil p.link.left);
    spelled = append-nil buffer;
    acts = refl;
    halted = false;
    halts = refl;
    tells = refl;
    writes = sym (with_end-nil p.link.held);
    cut = ([], tt, cut_at_nothing);
  }

  -- bytes were read, and then it broke off
  pub breaks_unread : (a b : Point D) (buffer read : List ℕ)
      → a.link.left ≡ with_front read b.link.left → b.link.held ≡ a.link.held
      → b.coming ≡ a.coming → b.desk ≡ a.desk → Breaks act heeds a buffer read b
  breaks_unread a b buffer read reads held coming desk = record {
    turns = [];
    rest = buffer ++ read;
    wrote = [];
    reads = reads;
    spelled = refl;
    acts = desk;
    halted = false;
    halts = refl;
    tells = coming;
    writes = held ∙ sym (with_end-nil a.link.held);
    cut = ([], tt, cut_at_nothing);
  }

  -- bytes were read behind the buffer
  pub reads_on : (a b : Point D) (buffer read : List ℕ)
      → a.link.left ≡ with_front read b.link.left → b.link.held ≡ a.link.held
      → b.coming ≡ a.coming → b.desk ≡ a.desk
      → Advances act heeds false a buffer read b (buffer ++ read)
  reads_on a b buffer read reads held coming desk = record {
    turns = [];
    reads = reads;
    spelled = refl;
    acts = desk;
    halts = refl;
    tells = coming;
    writes = held ∙ sym (with_end-nil a.link.held);
  }

  -- a message was acted on, and its answer was begun at most
  answer_cut : (a b : Point D) (front rest : List ℕ) (turn : Turn)
      → IsMessage front turn.message
      → act a.desk turn.moment turn.message turn.answer b.desk
      → Tells a.coming (turn ∷ []) b.coming → b.link.left ≡ a.link.left
      → Begins a.link.held (sent turn.answer) b.link.held
      → Breaks act heeds a (front ++ rest) [] b
  answer_cut a b front rest turn message acted told left begins = record {
    turns = turn ∷ [];
    rest = rest;
    wrote = begins.begun;
    reads = sym left ∙ sym (with_front-nil b.link.left);
    spelled = (front, rest, append-nil (front ++ rest), message, refl);
    acts = (b.desk, acted, refl);
    halted = halts heeds turn;
    halts = refl;
    tells = told;
    writes = begins.writes;
    cut = ([], tt, cut_in_first (sent turn.answer) begins.begun begins.unsent begins.bytes_are);
  }

  -- a message was acted on, and its answer was sent
  pub answered_whole : (a b : Point D) (front rest : List ℕ) (turn : Turn) (halted : Bool)
      → IsMessage front turn.message
      → act a.desk turn.moment turn.message turn.answer b.desk
      → Tells a.coming (turn ∷ []) b.coming → Writes (sent turn.answer) a.link b.link
      → halts heeds turn ≡ halted
      → Advances act heeds halted a (front ++ rest) [] b rest
  answered_whole a b front rest turn halted message acted told sends is = record {
    turns = turn ∷ [];
    reads = sym sends.reading.left ∙ sym (with_front-nil b.link.left);
    spelled = (front, rest, append-nil (front ++ rest), message, refl);
    acts = (b.desk, acted, refl);
    halts = is;
    tells = told;
    writes =
        sends.held
        ∙ ap (λ bytes. with_end a.link.held bytes) (sym (append-nil (sent turn.answer)));
  }

  pub answer_broke : (a b : Point D) (front rest : List ℕ) (turn : Turn) (why : Broken)
      → IsMessage front turn.message
      → act a.desk turn.moment turn.message turn.answer b.desk
      → Tells a.coming (turn ∷ []) b.coming
      → (let how : Result (Unit {0}) Broken = Err why in
      Sends how (sent turn.answer) a.link b.link)
      → Breaks act heeds a (front ++ rest) [] b
  answer_broke a b front rest turn broken.WriteFault message acted told sends =
      answer_cut a b front rest turn message acted told sends.reading.left sends.held
  answer_broke a b front rest turn broken.Memory message acted told sends =
      answer_cut a b front rest turn message acted told sends.reading.left sends.held

  -- an error broke off
  pub answers_broken : (how : Result Pause Broken) (a b : Point D) (buffer rest : List ℕ)
      → OnOk how ⊥ → Breaks act heeds a buffer [] b → AnswersAll act heeds how a buffer b rest
  answers_broken (Ok done) a b buffer rest not breaks = absurd not
  answers_broken (Err fault) a b buffer rest not breaks = breaks

  -- the reply to bytes that are no message was begun at most
  pub bad_cut : (a b : Point D) (rest : List ℕ) (fault : HttpFault)
      → IsBad rest fault → b.link.left ≡ a.link.left → b.coming ≡ a.coming → b.desk ≡ a.desk
      → Begins a.link.held (refused fault) b.link.held → Breaks act heeds a rest [] b
  bad_cut a b rest fault bad left coming desk begins = record {
    turns = [];
    rest = rest;
    wrote = begins.begun;
    reads = sym left ∙ sym (with_front-nil b.link.left);
    spelled = append-nil rest;
    acts = desk;
    halted = false;
    halts = refl;
    tells = coming;
    writes = begins.writes;
    cut = (
      refused fault ∷ [],
      (fault, bad, refl),
      cut_in_first (refused fault) begins.begun begins.unsent begins.bytes_are,
    );
  }

  -- a message was taken off the front, and answered
  pub answers_on : (halted told : Bool) (a b c : Point D) (buffer now after : List ℕ) (taken : ℕ)
      → halted ≡ told → Advances act heeds false a buffer [] b now → after ≡ drop taken now
      → ((front rest : List ℕ) → front ≡ take taken now
      → Advances act heeds halted b (front ++ rest) [] c rest)
      → Advances act heeds told a buffer [] c after
  answers_on halted told a b c buffer now after taken same so_far is next =
      subst (λ (last : Bool). Advances act heeds last a buffer [] c after) same
      (goes_on halted a b c buffer [] now [] after so_far
      (subst (λ (bytes : List ℕ). Advances act heeds halted b bytes [] c after)
      (ap (λ rest. take taken now ++ rest) is ∙ take-append-drop taken now)
      (next (take taken now) after refl)))

  -- the same broken off
  pub breaks_on : (a b c : Point D) (buffer now : List ℕ) (taken : ℕ)
      → Advances act heeds false a buffer [] b now
      → ((front rest : List ℕ) → front ≡ take taken now
      → Breaks act heeds b (front ++ rest) [] c)
      → Breaks act heeds a buffer [] c
  breaks_on a b c buffer now taken so_far next =
      breaks_off a b c buffer [] now [] so_far
      (subst (λ (bytes : List ℕ). Breaks act heeds b bytes [] c) (take-append-drop taken now)
      (next (take taken now) (drop taken now) refl))
