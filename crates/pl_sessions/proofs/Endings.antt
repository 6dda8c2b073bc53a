-- How a session ends, by what was served until then.
use Rattle.std.proofs.Common.{◌≡◌, ◌<◌, ◌≤◌, ℕ, ◌+◌, List, [], ◌∷◌, ◌++◌, length, refl, sym, ◌∙◌}
use Rattle.std.proofs.Common.{ap, subst, length-append, arith, Bool, true, false, ◌≢◌}
use Rattle.pl_base.specs.Counts.{one_more}
use Rattle.pl_base.specs.Streams.{with_front, with_end}
use Rattle.pl_wire.specs.Message.{IsPartial, IsBad}
use Rattle.pl_wire.specs.Waiting.{Awaits}
use Rattle.pl_wire.specs.declared.waiting.Waiting.{Waiting}
use Rattle.pl_wire.proofs.Waits.{awaits_more}
use Rattle.pl_heads.specs.declared.fault.HttpFault.{HttpFault}
use Rattle.pl_sessions.specs.declared.served.Served.{Served}
use Rattle.pl_sessions.specs.declared.served.Served.TheVariants as served
use Rattle.pl_sessions.specs.Acts.{Acts, Tells, refused, replies, joined}
use Rattle.pl_sessions.specs.Parts.{Advances, Breaks, EndsBad}
use Rattle.pl_sessions.specs.Session.{Point, Session, Ends, EndsBy, EndsTold, CountsReads}
use Rattle.pl_sessions.specs.Session.{CountsWrites}
use Rattle.pl_sessions.specs.declared.answer.Answer.{Answer}
use Rattle.pl_wire.specs.declared.message.Message.{Message}
use Rattle.pl_sessions.proofs.Halts.{never_halts}
use Rattle.pl_streams.specs.Whole.{taken_limit}
use Rattle.pl_sessions.specs.Told.{SameWriting, Writes, Begun, IsAtEnd}
use Rattle.pl_sessions.proofs.Sessions.{append-nil, with_front-nil, with_end-append, stays, goes_on}
use Rattle.pl_sessions.proofs.Sessions.{breaks_off, breaks_here, breaks_unread, reads_on, bad_cut}

-- what was served so far: the bytes that were taken, and what they led to, without a fault and
-- without an accepted shutdown that is heeded
pub record Serving {D : Type 0} (act : D → ℕ → Message → Answer → D → Type 0) (heeds : Bool)
    (old new : Point D) (buffer : List ℕ) (taken : ℕ) : Type 0 where
  pub read : List ℕ
  pub advances : Advances act heeds false old [] read new buffer
  pub taken_is : length read ≡ taken
  pub within : taken ≤ taken_limit
  pub read_faults : new.link.read_faults ≡ old.link.read_faults
  pub write_faults : new.link.write_faults ≡ old.link.write_faults

within_limit : (read : List ℕ) (taken : ℕ) → length read ≡ taken → taken ≤ taken_limit
    → length read ≤ taken_limit
within_limit read taken is within = subst (λ n. n ≤ taken_limit) (sym is) within

-- where no bytes came
pub nothing_came : (rest bytes more : List ℕ) (count : ℕ)
    → length bytes ≡ count → count ≡ 0 → more ≡ rest ++ bytes → more ≡ rest
nothing_came rest [] more count is none all = all ∙ append-nil rest
nothing_came rest (b ∷ bs) more count is none all =
    let no : length (b ∷ bs) ≡ 0 = is ∙ none in
    absurd (omega (arith, no))

pub still_partial : (rest more : List ℕ) → more ≡ rest → IsPartial rest → IsPartial more
still_partial rest more is partial = subst (λ bytes. IsPartial bytes) (sym is) partial

below_limit : (read : List ℕ) (taken : ℕ)
    → length read ≡ taken → taken < taken_limit → length read < taken_limit
below_limit read taken is below = subst (λ n. n < taken_limit) (sym is) below

some-bytes : (bytes : List ℕ) → (bytes ≡ [] → ⊥) → 0 < length bytes
some-bytes [] h = absurd (h refl)
some-bytes (b ∷ bs) h = omega arith

-- ---- what is waited for

pub waits_more : (waiting : Waiting) (buffer bytes after : List ℕ) → Awaits waiting buffer
    → after ≡ buffer ++ bytes → Awaits waiting after
waits_more waiting buffer bytes after awaits is =
    subst (λ (b : List ℕ). Awaits waiting b) (sym is) (awaits_more waiting buffer bytes awaits)

module _ {D : Type 0} {act : D → ℕ → Message → Answer → D → Type 0} {heeds : Bool} where
  pub serving_starts : (p : Point D) (buffer : List ℕ) → buffer ≡ []
      → Serving act heeds p p buffer 0
  serving_starts p buffer is =
      subst (λ bytes. Serving act heeds p p bytes 0) (sym is)
      (record {
        read = [];
        advances = stays p [];
        taken_is = refl;
        within = omega arith;
        read_faults =
            refl;
        write_faults = refl;
      })

  -- messages of the buffer were answered
  pub serving_answers : (a b c : Point D) (buffer rest : List ℕ) (taken : ℕ)
      → Serving act heeds a b buffer taken → Advances act heeds false b buffer [] c rest
      → c.link.read_faults ≡ b.link.read_faults → c.link.write_faults ≡ b.link.write_faults
      → Serving act heeds a c rest taken
  serving_answers a b c buffer rest taken s x reads writes = record {
    read = s.read;
    advances =
        subst (λ read. Advances act heeds false a [] read c rest) (append-nil s.read)
        (goes_on false a b c [] s.read buffer
        [] rest s.advances x);
    taken_is = s.taken_is;
    within = s.within;
    read_faults = reads ∙ s.read_faults;
    write_faults = writes ∙ s.write_faults;
  }

  -- bytes came
  pub serving_reads : (a b c : Point D) (buffer bytes rest : List ℕ) (taken count : ℕ)
      → Serving act heeds a b buffer taken → length bytes ≡ count → taken + count ≤ taken_limit
      → b.link.left ≡ with_front bytes c.link.left → c.link.read_faults ≡ b.link.read_faults
      → SameWriting b.link c.link → c.coming ≡ b.coming → c.desk ≡ b.desk → rest ≡ buffer ++ bytes
      → Serving act heeds a c rest (taken + count)
  serving_reads a b c buffer bytes rest taken n s count_is within left faults writing coming desk
      is =
      let on : Advances act heeds false b buffer bytes c (buffer ++ bytes) =
      reads_on b c buffer bytes left writing.held coming desk in
      let more = goes_on false a b c [] s.read buffer bytes (buffer ++ bytes) s.advances on in
      record {
        read = s.read ++ bytes;
        advances = subst (λ end. Advances act heeds false a [] (s.read ++ bytes) c end)
            (sym is) more;
        taken_is =
            length-append s.read bytes
            ∙ (ap (λ len. len + length bytes) s.taken_is ∙ ap (λ len. taken + len) count_is);
        within = within;
        read_faults = faults ∙ s.read_faults;
        write_faults = writing.write_faults ∙ s.write_faults;
      }

  -- all replies were written, behind the bytes that were read
  written_whole : (a d : Point D) (read rest : List ℕ) (ending : Served)
      (x : Advances act heeds false a [] read d rest)
      → length read ≤ taken_limit → EndsBy heeds ending x.turns
      → Ends ending read x.turns rest (joined (replies x.turns))
      → EndsTold ending d.link
      → CountsReads ending a.link.read_faults d.link.read_faults
      → CountsWrites ending a.link.write_faults d.link.write_faults → Session act heeds a d ending
  written_whole a d read rest ending x within by ends told reads writes = record {
    read = read;
    turns = x.turns;
    rest = rest;
    wrote = joined (replies x.turns);
    reads = x.reads;
    within = within;
    spelled = x.spelled;
    acts = x.acts;
    halts = by;
    tells = x.tells;
    writes = x.writes;
    ends = ends;
    told = told;
    read_faults = reads;
    write_faults = writes;
  }

  -- they broke off
  cut_short : (a d : Point D) (read : List ℕ) (ending : Served) (x : Breaks act heeds a [] read d)
      → length read ≤ taken_limit → EndsBy heeds ending x.turns
      → Ends ending read x.turns x.rest x.wrote → EndsTold ending d.link
      → CountsReads ending a.link.read_faults d.link.read_faults
      → CountsWrites ending a.link.write_faults d.link.write_faults → Session act heeds a d ending
  cut_short a d read ending x within by ends told reads writes = record {
    read = read;
    turns = x.turns;
    rest = x.rest;
    wrote = x.wrote;
    reads = x.reads;
    within = within;
    spelled = x.spelled;
    acts = x.acts;
    halts = by;
    tells = x.tells;
    writes = x.writes;
    ends = ends;
    told = told;
    read_faults = reads;
    write_faults = writes;
  }

  -- bytes came that are no message, and they were answered
  ends_bad : (a c d : Point D) (rest : List ℕ) (taken : ℕ) (fault : HttpFault)
      → Serving act heeds a c rest taken → IsBad rest fault → Writes (refused fault) c.link d.link
      → d.coming ≡ c.coming → d.desk ≡ c.desk → Session act heeds a d (served.Bad fault)
  ends_bad a c d rest taken fault s bad wrote coming desk =
      let turns = s.advances.turns in
      record {
        read = s.read;
        turns = turns;
        rest = rest;
        wrote = joined (replies turns) ++ refused fault;
        reads = s.advances.reads ∙ ap (λ left. with_front s.read left) (sym wrote.reading.left);
        within = within_limit s.read taken s.taken_is s.within;
        spelled = s.advances.spelled;
        acts = subst (λ parts. Acts act a.desk turns parts) (sym desk) s.advances.acts;
        halts = s.advances.halts;
        tells = subst (λ later. Tells a.coming turns later) (sym coming) s.advances.tells;
        writes =
            wrote.held
            ∙ (ap (λ held. with_end held (refused fault)) s.advances.writes
            ∙ with_end-append a.link.held (joined (replies turns)) (refused fault));
        ends = (bad, refl);
        told = tt;
        read_faults = wrote.reading.read_faults ∙ s.read_faults;
        write_faults = wrote.write_faults ∙ s.write_faults;
      }

  -- as many bytes were taken as may be
  pub ends_spent : (a c : Point D) (rest : List ℕ) (taken : ℕ)
      → Serving act heeds a c rest taken → IsPartial rest → taken_limit ≤ taken
      → Session act heeds a c served.Spent
  ends_spent a c rest taken s partial reached =
      let all : length s.read ≡ taken_limit = omega (arith, s.taken_is, s.within, reached) in
      written_whole a c s.read rest served.Spent s.advances
      (within_limit s.read taken s.taken_is s.within) s.advances.halts
      (partial, all, refl) tt s.read_faults
      s.write_faults

  -- a read failed
  pub ends_failed : (a c d : Point D) (rest : List ℕ) (taken : ℕ)
      → Serving act heeds a c rest taken → IsPartial rest → d.link.left ≡ c.link.left
      → d.link.read_faults ≡ one_more c.link.read_faults → SameWriting c.link d.link
      → d.coming ≡ c.coming → d.desk ≡ c.desk → Session act heeds a d served.ReadFault
  ends_failed a c d rest taken s partial left faults writing coming desk =
      let on : Advances act heeds false c rest [] d (rest ++ []) =
      reads_on c d rest [] (sym left ∙ sym (with_front-nil d.link.left)) writing.held coming desk in
      let all = goes_on false a c d [] s.read rest [] (rest ++ []) s.advances on in
      let whole : Advances act heeds false a [] s.read d rest =
      subst (λ (bytes : List ℕ). Advances act heeds false a [] s.read d bytes) (append-nil rest)
      (subst (λ (read : List ℕ). Advances act heeds false a [] read d (rest ++ []))
      (append-nil s.read) all) in
      written_whole a d s.read rest served.ReadFault whole
      (within_limit s.read taken s.taken_is s.within) whole.halts (partial, refl) tt
      (faults ∙ ap one_more s.read_faults) (writing.write_faults ∙ s.write_faults)

  -- the end came between messages
  pub ends_between : (a d : Point D) (more : List ℕ) (taken : ℕ)
      → Serving act heeds a d more taken → taken < taken_limit → more ≡ [] → IsAtEnd d.link
      → Session act heeds a d served.Ended
  ends_between a d more taken s below nothing end =
      written_whole a d s.read more served.Ended s.advances
      (within_limit s.read taken s.taken_is s.within) s.advances.halts
      (nothing, below_limit s.read taken s.taken_is below, refl) end s.read_faults s.write_faults

  -- the end came inside a message
  pub ends_inside : (a d : Point D) (more : List ℕ) (len taken : ℕ)
      → Serving act heeds a d more taken → taken < taken_limit → IsPartial more → (more ≡ [] → ⊥)
      → len ≡ length more → IsAtEnd d.link → Session act heeds a d (served.Cut len)
  ends_inside a d more len taken s below partial some len_is end =
      written_whole a d s.read more (served.Cut len) s.advances
      (within_limit s.read taken s.taken_is s.within) s.advances.halts (
        partial,
        some-bytes more some,
        sym len_is,
        below_limit s.read taken s.taken_is below,
        refl,
      ) end
      s.read_faults s.write_faults

  -- at the very start
  pub ends_at_once : (p : Point D) → Session act heeds p p served.Memory
  ends_at_once p =
      let x : Breaks act heeds p [] [] p = breaks_here p [] in
      cut_short p p [] served.Memory x (omega arith) (x.halted, x.halts) x.cut tt refl refl

  serving_breaks : (a c d : Point D) (rest : List ℕ) (taken : ℕ)
      (s : Serving act heeds a c rest taken)
      → Breaks act heeds c rest [] d → Breaks act heeds a [] s.read d
  serving_breaks a c d rest taken s x =
      let all = breaks_off a c d [] s.read rest [] s.advances x in
      subst (λ read. Breaks act heeds a [] read d) (append-nil s.read) all

  -- while the buffer's messages were answered
  pub write_broke : (a c d : Point D) (rest : List ℕ) (taken : ℕ)
      → Serving act heeds a c rest taken → Breaks act heeds c rest [] d
      → d.link.read_faults ≡ c.link.read_faults
      → d.link.write_faults ≡ one_more c.link.write_faults → Session act heeds a d served.WriteFault
  write_broke a c d rest taken s x reads writes =
      let all = serving_breaks a c d rest taken s x in
      cut_short a d s.read served.WriteFault all (within_limit s.read taken s.taken_is s.within)
      (all.halted, all.halts) all.cut
      tt (reads ∙ s.read_faults) (writes ∙ ap one_more s.write_faults)

  pub memory_broke : (a c d : Point D) (rest : List ℕ) (taken : ℕ)
      → Serving act heeds a c rest taken → Breaks act heeds c rest [] d
      → d.link.read_faults ≡ c.link.read_faults
      → d.link.write_faults ≡ c.link.write_faults → Session act heeds a d served.Memory
  memory_broke a c d rest taken s x reads writes =
      let all = serving_breaks a c d rest taken s x in
      cut_short a d s.read served.Memory all (within_limit s.read taken s.taken_is s.within)
      (all.halted, all.halts) all.cut
      tt (reads ∙ s.read_faults) (writes ∙ s.write_faults)

  -- the answer to bytes that are no message
  bad_unwritten : (a c d : Point D) (rest : List ℕ) (taken : ℕ) (fault : HttpFault)
      → Serving act heeds a c rest taken → IsBad rest fault
      → Begun (refused fault) (one_more c.link.write_faults) c.link d.link
      → d.coming ≡ c.coming → d.desk ≡ c.desk → Session act heeds a d served.WriteFault
  bad_unwritten a c d rest taken fault s bad begun coming desk =
      let breaks : Breaks act heeds c rest [] d =
      bad_cut c d rest fault bad begun.reading.left coming desk begun.held in
      write_broke a c d rest taken s breaks begun.reading.read_faults begun.write_faults

  bad_unkept : (a c d : Point D) (rest : List ℕ) (taken : ℕ) (fault : HttpFault)
      → Serving act heeds a c rest taken → IsBad rest fault
      → Begun (refused fault) c.link.write_faults c.link d.link
      → d.coming ≡ c.coming → d.desk ≡ c.desk → Session act heeds a d served.Memory
  bad_unkept a c d rest taken fault s bad begun coming desk =
      let breaks : Breaks act heeds c rest [] d =
      bad_cut c d rest fault bad begun.reading.left coming desk begun.held in
      memory_broke a c d rest taken s breaks begun.reading.read_faults begun.write_faults

  -- memory was wanting for the bytes that came
  pub memory_unread : (a c d : Point D) (rest bytes : List ℕ) (taken most : ℕ)
      → Serving act heeds a c rest taken → length bytes ≤ most → taken + most ≤ taken_limit
      → c.link.left ≡ with_front bytes d.link.left → d.link.read_faults ≡ c.link.read_faults
      → SameWriting c.link d.link → d.coming ≡ c.coming → d.desk ≡ c.desk
      → Session act heeds a d served.Memory
  memory_unread a c d rest bytes taken most s few within left reads writing coming desk =
      let breaks : Breaks act heeds c rest bytes d =
      breaks_unread c d rest bytes left writing.held coming desk in
      let all = breaks_off a c d [] s.read rest bytes s.advances breaks in
      let most_read : length (s.read ++ bytes) ≤ taken_limit =
      omega (arith, length-append s.read bytes, s.taken_is, few, within) in
      cut_short a d (s.read ++ bytes) served.Memory all most_read (all.halted, all.halts) all.cut tt
      (reads ∙ s.read_faults) (writing.write_faults ∙ s.write_faults)

  -- an accepted shutdown was answered
  pub ends_stopped : (a c d : Point D) (buffer rest : List ℕ) (taken : ℕ)
      → Serving act heeds a c buffer taken → Advances act heeds true c buffer [] d rest
      → d.link.read_faults ≡ c.link.read_faults → d.link.write_faults ≡ c.link.write_faults
      → Session act heeds a d served.Stopped
  ends_stopped a c d buffer rest taken s x reads writes =
      let all : Advances act heeds true a [] s.read d rest =
      subst (λ (read : List ℕ). Advances act heeds true a [] read d rest) (append-nil s.read)
      (goes_on true a c d [] s.read buffer [] rest s.advances x) in
      record {
        read = s.read;
        turns = all.turns;
        rest = rest;
        wrote = joined (replies all.turns);
        reads = all.reads;
        within = within_limit s.read taken s.taken_is s.within;
        spelled = all.spelled;
        acts = all.acts;
        halts = all.halts;
        tells = all.tells;
        writes = all.writes;
        ends = refl;
        told = tt;
        read_faults = reads ∙ s.read_faults;
        write_faults = writes ∙ s.write_faults;
      }

  -- bytes came that are no message
  pub ended_bad : (a c d : Point D) (rest : List ℕ) (taken : ℕ) (fault : HttpFault)
      (ending : Served) → Serving act heeds a c rest taken → IsBad rest fault
      → EndsBad ending fault c.link d.link → d.coming ≡ c.coming → d.desk ≡ c.desk
      → Session act heeds a d ending
  ended_bad a c d rest taken fault (served.Bad told) s bad ends coming desk =
      subst (λ (f : HttpFault). Session act heeds a d (served.Bad f)) (sym ends.0)
      (ends_bad a c d rest taken fault s bad ends.1 coming desk)
  ended_bad a c d rest taken fault served.WriteFault s bad ends coming desk =
      bad_unwritten a c d rest taken fault s bad ends coming desk
  ended_bad a c d rest taken fault served.Memory s bad ends coming desk =
      bad_unkept a c d rest taken fault s bad ends coming desk
  ended_bad a c d rest taken fault served.Ended s bad ends coming desk = absurd ends
  ended_bad a c d rest taken fault (served.Cut len) s bad ends coming desk = absurd ends
  ended_bad a c d rest taken fault served.Spent s bad ends coming desk = absurd ends
  ended_bad a c d rest taken fault served.Stopped s bad ends coming desk = absurd ends
  ended_bad a c d rest taken fault served.ReadFault s bad ends coming desk = absurd ends

-- where shutdowns aren't heeded it doesn't stop at one
module _ {D : Type 0} {act : D → ℕ → Message → Answer → D → Type 0} where
  pub no_stop : (old new : Point D) (ending : Served) → Session act false old new ending
      → ending ≢ served.Stopped
  no_stop old new ending session is =
      never_halts session.turns (subst (λ (e : Served). EndsBy false e session.turns) is
      session.halts)
