-- No bytes at all are no message, and may become one.
use Rattle.std.proofs.Common.{◌≡◌, ℕ, inl, inr, List, [], ◌∷◌, ◌++◌, length}
use Rattle.std.proofs.Common.{refl, ap, arith, true, IsUtf8, length-append}
use Rattle.std.proofs.lemmas.List.Elements.{All-cons, All-nil}
use lib.Utf8.{encode}
use Rattle.httparse.specs.Grammar.{RequestHead, print_request, ReadsRequest, IsRequestHead}
use Rattle.httparse.specs.Grammar.{is_token_byte, is_uri_byte, lf, IsField, NeverHasRequest}
use Rattle.httparse.specs.Grammar.{AllPass}
use Rattle.pl_heads.specs.declared.fault.HttpFault.{HttpFault}
use Rattle.pl_heads.specs.declared.fault.HttpFault.TheVariants.{HeadBad, HeadLarge, LengthMissing}
use Rattle.pl_heads.specs.declared.fault.HttpFault.TheVariants.{BodyLarge}
use Rattle.pl_heads.proofs.ManyLines.{few_lines}
use Rattle.pl_wire.specs.declared.message.Message.{Message}
use Rattle.pl_wire.specs.Message.{IsMessage, IsBad}
use Rattle.pl_wire.proofs.Readings.{head_some}

some_head : RequestHead
some_head = record {
  blank = [];
  method = 71 ∷ [];
  target = 47 ∷ [];
  minor = 1;
  line_end =
      lf;
  fields = [];
  last = lf;
}

some_token : AllPass is_token_byte (71 ∷ [])
unfolding is_token_byte
some_token = All-cons (λ b. is_token_byte b ≡ true) 71 [] refl
    (All-nil (λ b. is_token_byte b ≡ true))

slash_text : IsUtf8 (47 ∷ [])
unfolding encode
slash_text = (47 ∷ [], (refl, refl))

is_some : IsRequestHead some_head
unfolding some_head
is_some = record {
  method = (omega arith, some_token);
  target = (
    omega arith,
    All-cons (λ b. is_uri_byte b ≡ true) 47 [] refl
        (All-nil (λ b. is_uri_byte b ≡ true)),
  );
  target_text = slash_text;
  minor = omega arith;
  fields = All-nil IsField;
}

nothing_never : NeverHasRequest [] → ⊥
nothing_never never = never (print_request some_head ++ []) some_head [] (is_some, refl)

nothing_head : (h : RequestHead) (rest : List ℕ) → ReadsRequest [] h rest → ⊥
nothing_head h rest reads =
    omega (arith, head_some h reads.0, ap length reads.1, length-append (print_request h) rest)

pub nothing_none : (message : Message) → IsMessage [] message → ⊥
nothing_none message (h, content, f, is) = nothing_head h content f.reads

pub nothing_not_bad : (fault : HttpFault) → IsBad [] fault → ⊥
nothing_not_bad HeadBad (inl bad) = nothing_never bad.never
nothing_not_bad HeadLarge (inl (inl exceeds)) = few_lines [] (omega arith) exceeds
nothing_not_bad HeadLarge (inl (inr (long, none, begun))) = absurd (omega arith)
nothing_not_bad LengthMissing (inl told) = elim told [ ]
nothing_not_bad BodyLarge (inl told) = elim told [ ]
nothing_not_bad fault (inr (h, has, framing)) = nothing_head h has.rest has.reads
