use Rattle.std.proofs.Common.{ℕ, List, ◌++◌, sym, ap, ◌∙◌, arith}
use Rattle.pl_digests.specs.Digests.{digest_in, hex_of}
use Rattle.pl_digests.proofs.Texts.{hex_len, read_is_digest, read_is_text, text_is_read}
use Rattle.pl_fields.specs.Fields.{text}
use Rattle.pl_fields.specs.WaysOfFields.{piece_one_way}
use Rattle.pl_fields.proofs.keys.DigestField.read.Goals as goal

pub returns-in_default : goal.returns-in_default
returns-in_default c = λ value rest begins.
    c.in_default.ensures (hex_of value) rest (omega (arith, hex_len value begins.does_fit))
    begins.parts

pub returns-in-Some-digest_in : goal.returns-in-Some-digest_in
returns-in-Some-digest_in c =
    let read = sym c.in-Some-digest_in.ensures in
    record {
      does_fit = read_is_digest c.in-Some.piece.now c.in-Some-digest_in.digest read;
      parts = c.in-Some.ensures.1
          ∙ ap (λ (bytes : List ℕ). text bytes ++ c.in-Some.rest.now)
          (read_is_text c.in-Some.piece.now c.in-Some-digest_in.digest read);
    }

pub returns-in-None : goal.returns-in-None
returns-in-None c = λ value rest begins.
    let same = piece_one_way (hex_of value) c.in-Some.piece.now rest c.in-Some.rest.now
    (omega (arith, hex_len value begins.does_fit)) c.in-Some.ensures.0
    (sym begins.parts ∙ c.in-Some.ensures.1) in
    cc (sym (text_is_read value begins.does_fit) ∙ ap digest_in same.0)
