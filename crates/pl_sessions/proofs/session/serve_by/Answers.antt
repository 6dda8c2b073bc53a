use Rattle.std.proofs.Common.{refl, arith}
use Rattle.pl_sessions.proofs.Endings.{serving_starts, serving_answers, serving_reads}
use Rattle.pl_sessions.proofs.Endings.{ended_bad, ends_at_once, ends_between, ends_failed}
use Rattle.pl_sessions.proofs.Endings.{ends_inside, ends_spent, ends_stopped, memory_broke}
use Rattle.pl_sessions.proofs.Endings.{memory_unread, nothing_came, still_partial, waits_more}
use Rattle.pl_sessions.proofs.Endings.{write_broke}
use Rattle.pl_sessions.proofs.session.serve_by.Goals as goal

pub returns-in_default : goal.returns-in_default
returns-in_default g c = ends_at_once _

pub pieces-init : goal.pieces-init
pieces-init g c = record {
  serving = serving_starts _ c.new-buffer.result c.new-buffer.ensures;
  piece_len = c.in-Ok.ensures.len;
  waits = c.new-waiting.ensures _;
}

pub returns-in-Ok-Bad : goal.returns-in-Ok-Bad
returns-in-Ok-Bad g c =
    let told = c.in-Ok-Bad.ensures in
    let answers = rw c.in-Ok-Bad.field-0-is at told.answers in
    let s = serving_answers _ _ _ c.pieces.buffer c.answer_on.new.buffer c.pieces.taken
    c.pieces.invariant.serving answers.0 told.writes.reading.read_faults told.writes.counts
    in
    ended_bad _ _ _ c.answer_on.new.buffer c.pieces.taken c.in-Ok-Bad.fault c.end_bad.result s
    answers.1 c.end_bad.ensures refl refl

pub returns-in-Ok-Stopped : goal.returns-in-Ok-Stopped
returns-in-Ok-Stopped g c =
    let told = c.in-Ok-Stopped.ensures in
    let answers = rw c.in-Ok-Stopped.field-0-is at told.answers in
    ends_stopped _ _ _ c.pieces.buffer c.answer_on.new.buffer c.pieces.taken
    c.pieces.invariant.serving answers.0 told.writes.reading.read_faults told.writes.counts

pub returns-in-Err-WriteFault : goal.returns-in-Err-WriteFault
returns-in-Err-WriteFault g c =
    let told = c.in-Err-WriteFault.ensures in
    let counts = rw c.in-Err-WriteFault.field-0-is at told.writes.counts in
    write_broke _ _ _ c.pieces.buffer c.pieces.taken c.pieces.invariant.serving told.answers
    told.writes.reading.read_faults counts

pub returns-in-Err-Memory : goal.returns-in-Err-Memory
returns-in-Err-Memory g c =
    let told = c.in-Err-Memory.ensures in
    let counts = rw c.in-Err-Memory.field-0-is at told.writes.counts in
    memory_broke _ _ _ c.pieces.buffer c.pieces.taken c.pieces.invariant.serving told.answers
    told.writes.reading.read_faults counts

pub returns-then-most-eq0 : goal.returns-then-most-eq0
returns-then-most-eq0 g c =
    let told = c.in-Ok-More.ensures in
    let answers = rw c.in-Ok-More.field-0-is at told.answers in
    let s = serving_answers _ _ _ c.pieces.buffer c.answer_on.new.buffer c.pieces.taken
    c.pieces.invariant.serving answers.0 told.writes.reading.read_faults told.writes.counts
    in
    ends_spent _ _ c.answer_on.new.buffer c.pieces.taken s answers.1 (omega (
      arith,
      c.next_piece-most.ensures,
      c.if-most-eq0.true,
    ))

pub returns-in-Ok-eq0 : goal.returns-in-Ok-eq0
returns-in-Ok-eq0 g c =
    let told = c.in-Ok-More.ensures in
    let answers = rw c.in-Ok-More.field-0-is at told.answers in
    let reads = c.in-Ok-eq0.ensures.reads in
    let s = serving_answers _ _ _ c.pieces.buffer c.answer_on.new.buffer c.pieces.taken
    c.pieces.invariant.serving answers.0 told.writes.reading.read_faults told.writes.counts
    in
    let t =
    serving_reads _ _ _ c.answer_on.new.buffer reads.0 c.read_on.new.buffer c.pieces.taken
    c.in-Ok-eq0.field-0 s reads.1
    (omega (arith, s.within, c.in-Ok-eq0.field-0-test)) reads.3 c.in-Ok-eq0.ensures.counts
    c.read_on.ensures.writing refl refl reads.4
    in
    ends_between _ _ c.read_on.new.buffer _ t
    (omega (
      arith,
      s.within,
      c.in-Ok-eq0.field-0-test,
      c.next_piece-most.ensures,
      c.if-most-eq0.false,
    )) (c.is_empty.ensures.0 c.if-is_empty.true)
    (c.in-Ok-eq0.ensures.end (omega (
      arith,
      c.split_at_mut.ensures.front_len,
      c.next_piece-most.ensures,
      c.if-most-eq0.false,
    )) c.in-Ok-eq0.field-0-test)

pub returns-in-Ok-eq0-2 : goal.returns-in-Ok-eq0-2
returns-in-Ok-eq0-2 g c =
    let told = c.in-Ok-More.ensures in
    let answers = rw c.in-Ok-More.field-0-is at told.answers in
    let reads = c.in-Ok-eq0.ensures.reads in
    let s = serving_answers _ _ _ c.pieces.buffer c.answer_on.new.buffer c.pieces.taken
    c.pieces.invariant.serving answers.0 told.writes.reading.read_faults told.writes.counts
    in
    let t =
    serving_reads _ _ _ c.answer_on.new.buffer reads.0 c.read_on.new.buffer c.pieces.taken
    c.in-Ok-eq0.field-0 s reads.1
    (omega (arith, s.within, c.in-Ok-eq0.field-0-test)) reads.3 c.in-Ok-eq0.ensures.counts
    c.read_on.ensures.writing refl refl reads.4
    in
    let is = nothing_came c.answer_on.new.buffer reads.0 c.read_on.new.buffer c.in-Ok-eq0.field-0
    reads.1 c.in-Ok-eq0.field-0-test reads.4 in
    ends_inside _ _ c.read_on.new.buffer c.len.result _ t
    (omega (
      arith,
      s.within,
      c.in-Ok-eq0.field-0-test,
      c.next_piece-most.ensures,
      c.if-most-eq0.false,
    )) (still_partial _ _ is answers.1)
    (λ none. cc (c.is_empty.ensures.1 none, c.if-is_empty.false)) c.len.ensures
    (c.in-Ok-eq0.ensures.end (omega (
      arith,
      c.split_at_mut.ensures.front_len,
      c.next_piece-most.ensures,
      c.if-most-eq0.false,
    )) c.in-Ok-eq0.field-0-test)

pub pieces-preserved : goal.pieces-preserved
pieces-preserved g c =
    let told = c.in-Ok-More.ensures in
    let answers = rw c.in-Ok-More.field-0-is at told.answers in
    let reads = c.in-Ok-read_on.ensures.reads in
    let s = serving_answers _ _ _ c.pieces.buffer c.answer_on.new.buffer c.pieces.taken
    c.pieces.invariant.serving answers.0 told.writes.reading.read_faults told.writes.counts
    in
    record {
      serving =
          serving_reads _ _ _ c.answer_on.new.buffer reads.0 c.read_on.new.buffer c.pieces.taken
          c.in-Ok-read_on.count s reads.1
          (omega (
            arith,
            s.within,
            reads.2,
            c.split_at_mut.ensures.front_len,
            c.next_piece-most.ensures,
          )) reads.3
          c.in-Ok-read_on.ensures.counts c.read_on.ensures.writing refl refl reads.4;
      piece_len = c.pieces.invariant.piece_len;
      waits = waits_more _ c.answer_on.new.buffer reads.0 c.read_on.new.buffer told.waits reads.4;
    }

pub returns-in-Err-ReadFault : goal.returns-in-Err-ReadFault
returns-in-Err-ReadFault g c =
    let told = c.in-Ok-More.ensures in
    let answers = rw c.in-Ok-More.field-0-is at told.answers in
    let reads = rw c.in-Err-ReadFault.field-0-is at c.in-Err-ReadFault.ensures.reads in
    let counts = rw c.in-Err-ReadFault.field-0-is at c.in-Err-ReadFault.ensures.counts in
    let s = serving_answers _ _ _ c.pieces.buffer c.answer_on.new.buffer c.pieces.taken
    c.pieces.invariant.serving answers.0 told.writes.reading.read_faults told.writes.counts
    in
    ends_failed _ _ _ c.answer_on.new.buffer c.pieces.taken s answers.1 reads.0 counts
    c.read_on.ensures.writing refl refl

pub returns-in-Err-Memory-read_on : goal.returns-in-Err-Memory-read_on
returns-in-Err-Memory-read_on g c =
    let told = c.in-Ok-More.ensures in
    let answers = rw c.in-Ok-More.field-0-is at told.answers in
    let reads = rw c.in-Err-Memory-read_on.field-0-is at c.in-Err-Memory-read_on.ensures.reads in
    let counts = rw c.in-Err-Memory-read_on.field-0-is at c.in-Err-Memory-read_on.ensures.counts in
    let s = serving_answers _ _ _ c.pieces.buffer c.answer_on.new.buffer c.pieces.taken
    c.pieces.invariant.serving answers.0 told.writes.reading.read_faults told.writes.counts
    in
    memory_unread _ _ _ c.answer_on.new.buffer reads.0 c.pieces.taken _ s reads.1
    (omega (arith, s.within, c.split_at_mut.ensures.front_len, c.next_piece-most.ensures)) reads.2
    counts c.read_on.ensures.writing refl refl
