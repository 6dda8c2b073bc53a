use Rattle.std.proofs.Common.{◌≡◌, ◌≤◌, ◌++◌, true, length, drop, map, encode_utf8_all}
use Rattle.std.proofs.Common.{string_bytes}
use Rattle.std.specs.String.{string_len}
use Rattle.std.specs.List.{list_all}
use Rattle.std.specs.Str.{chars}
use Rattle.pl_texts.specs.Bound.{fits}
use Rattle.pl_texts.specs.Pieces.{pieces, cut, is_of}
use Rattle.pl_texts.proofs.Cutting.{begun}
use Rattle.pl_texts.proofs.splitting.split_at_any.Given as goal

abbrev pub invariant-loop-character : goal.invariant-loop-character
invariant-loop-character l =
    (goal.iterator-loop-character).can_next l.character-iterator ×
    (goal.iterator-loop-character).is_finite l.character-iterator ×
    (pieces l.text l.separators ≡ l.pieces ++ begun (string_bytes l.piece)
    (map encode_utf8_all (cut (is_of l.separators) (drop (length l.yielded) (chars l.text))))) ×
    (list_all fits l.pieces ≡ true) ×
    (length (string_bytes l.piece) ≤ 65536) ×
    (string_len l.piece ≡ length (string_bytes l.piece))
