use Rattle.std.proofs.Common.{length, encode_utf8, string_bytes, sym, ap, ◌∙◌, refl, arith}
use Rattle.std.proofs.Common.{length-append}
use Rattle.std.specs.Str.{chars}
use Rattle.std.proofs.lemmas.Iterator.{YieldsList-from_chars}
use Rattle.std.proofs.lemmas.List.{length_push}
use Rattle.std.proofs.lemmas.Iterator.Consumers.{YieldsList-turn, YieldsList-end}
use Rattle.pl_texts.specs.Pieces.{is_of, pieces}
use Rattle.pl_texts.proofs.Cutting.{begun_nothing, ends_piece, goes_on_piece, past_piece, fits_more}
use Rattle.pl_texts.proofs.Cutting.{last_piece}
use Rattle.pl_texts.proofs.splitting.split_at_any.Goals as goal

pub loop-character-init : goal.loop-character-init
loop-character-init c = rw (c.new-pieces.ensures, c.new-piece.ensures.bytes) (
  tt,
  tt,
  sym (begun_nothing (is_of c.args.separators.now) (chars c.args.text.now)),
  refl,
  omega arith,
  c.new-piece.ensures.len,
)

pub loop-character-preserved-then-contains : goal.loop-character-preserved-then-contains
loop-character-preserved-then-contains c =
    let turn = YieldsList-turn (YieldsList-from_chars c.args.text.now c.utf8.text cc)
    c.loop-character.yielded _ c.loop-character.yielded_by _ _ c.in-Some.character c.in-Some.is
    c.next.ensures.steps in
    let longer = c.in_ok-push_piece.ensures in
    rw (
      c.new-piece-then-contains.ensures.bytes,
      length_push c.loop-character.yielded
          c.in-Some.character,
    ) (
      tt,
      tt,
      ends_piece (is_of c.args.separators.now) (chars c.args.text.now)
          (length c.loop-character.yielded) c.in-Some.character
          (pieces c.args.text.now c.args.separators.now) c.loop-character.pieces
          c.push_piece.new.pieces (string_bytes c.loop-character.piece) turn
          (sym (c.in_ok-separating.ensures c.in-Some.character) ∙ sym c.if-contains.ensures) longer
          c.loop-character.invariant.2,
      fits_more c.loop-character.pieces c.push_piece.new.pieces
          (string_bytes c.loop-character.piece) c.loop-character.invariant.3
          c.loop-character.invariant.4 longer,
      omega arith,
      c.new-piece-then-contains.ensures.len,
    )

pub returns-then-len-len_utf8-gt-LONGEST_TEXT : goal.returns-then-len-len_utf8-gt-LONGEST_TEXT
returns-then-len-len_utf8-gt-LONGEST_TEXT c =
    let turn = YieldsList-turn (YieldsList-from_chars c.args.text.now c.utf8.text cc)
    c.loop-character.yielded _ c.loop-character.yielded_by _ _ c.in-Some.character c.in-Some.is
    c.next.ensures.steps in
    past_piece (is_of c.args.separators.now) (chars c.args.text.now)
    (length c.loop-character.yielded) c.in-Some.character
    (pieces c.args.text.now c.args.separators.now) c.loop-character.pieces
    (string_bytes c.loop-character.piece) turn
    (sym (c.in_ok-separating.ensures c.in-Some.character) ∙ sym c.if-contains.ensures)
    (omega (arith, c.len.ensures, c.len_utf8.ensures.len, c.loop-character.invariant.5))
    c.loop-character.invariant.2

pub loop-character-preserved : goal.loop-character-preserved
loop-character-preserved c =
    let turn = YieldsList-turn (YieldsList-from_chars c.args.text.now c.utf8.text cc)
    c.loop-character.yielded _ c.loop-character.yielded_by _ _ c.in-Some.character c.in-Some.is
    c.next.ensures.steps in
    rw (length_push c.loop-character.yielded c.in-Some.character) (
      tt,
      tt,
      goes_on_piece (is_of c.args.separators.now) (chars c.args.text.now)
          (length c.loop-character.yielded) c.in-Some.character
          (pieces c.args.text.now c.args.separators.now) c.loop-character.pieces
          (string_bytes c.loop-character.piece) (string_bytes c.push.new.self) turn
          (sym (c.in_ok-separating.ensures c.in-Some.character) ∙ sym c.if-contains.ensures)
          c.in_ok-push.ensures.bytes c.loop-character.invariant.2,
      c.loop-character.invariant.3,
      omega (
        arith,
        c.len.ensures,
        c.len_utf8.ensures.len,
        c.loop-character.invariant.5,
        ap length c.in_ok-push.ensures.bytes,
        length-append (string_bytes c.loop-character.piece)
            (encode_utf8 c.in-Some.character),
      ),
      omega (
        arith,
        c.in_ok-push.ensures.len,
        c.loop-character.invariant.5,
        ap length c.in_ok-push.ensures.bytes,
        length-append (string_bytes c.loop-character.piece)
            (encode_utf8 c.in-Some.character),
      ),
    )

pub returns : goal.returns
returns c =
    let ended = YieldsList-end (YieldsList-from_chars c.args.text.now c.utf8.text cc)
    c.loop-character.yielded _ c.loop-character.yielded_by _ _ c.in-None.is
    c.next.ensures.steps in
    let longer = c.in_ok-push_piece-2.ensures in
    last_piece (is_of c.args.separators.now) (chars c.args.text.now)
    (length c.loop-character.yielded) (pieces c.args.text.now c.args.separators.now)
    c.loop-character.pieces c.push_piece-2.new.pieces (string_bytes c.loop-character.piece)
    ended.1 c.loop-character.invariant.3 c.loop-character.invariant.4 longer
    c.loop-character.invariant.2
