-- Requests that are asked behind others.
use Rattle.std.proofs.Common.{◌≡◌, ◌+◌, ◌++◌, ℕ, suc, List, [], ◌∷◌, length, refl, sym, ap, subst, ◌∙◌}
use Rattle.std.proofs.Common.{arith, length-append}
use Rattle.pl_base.specs.declared.digest.Digest.{Digest}
use Rattle.pl_rehearsing.specs.Asking.{Asked, Asks, asked, later, turn_at, turns_from}
use Rattle.pl_rehearsing.specs.declared.asking.Asker.{Asker}
use Rattle.pl_requests.specs.declared.reply.Reply.{Reply as Replied}
use Rattle.pl_requests.specs.declared.request.Request.{Request}
use Rattle.pl_sessions.specs.Acts.{Acts, Turn}
use Rattle.pl_sessions.specs.declared.answer.Answer.{Answer}
use Rattle.pl_sessions.specs.declared.answer.Answer.TheVariants.{Reply}
use Rattle.pl_wire.specs.declared.message.Message.{Message}
use Rattle.pl_wire.specs.declared.message.Message.TheVariants.{Ask}

behind_nothing : (n : ℕ) → n ≡ n + 0
behind_nothing n = omega arith

one_further : (n m : ℕ) → (n + 1) + m ≡ n + suc m
one_further n m = omega arith

turns_append : (caller : Digest) (moment : ℕ) (xs ys : List Asked) →
    turns_from caller moment (xs ++ ys)
    ≡ turns_from caller moment xs ++ turns_from caller (moment + length xs) ys
turns_append caller moment [] ys = ap (λ n. turns_from caller n ys) (behind_nothing moment)
turns_append caller moment (x ∷ xs) ys =
    ap (λ turns. turn_at caller moment x ∷ turns)
    (turns_append caller (moment + 1) xs ys
    ∙ ap (λ n. turns_from caller (moment + 1) xs ++ turns_from caller n ys)
    (one_further moment (length xs)))

module _ {D : Type 0} (act : D → ℕ → Message → Answer → D → Type 0) where
  acts_append : (old between new : D) (xs ys : List Turn) → Acts act old xs between →
      Acts act between ys new → Acts act old (xs ++ ys) new
  acts_append old between new [] ys is more = subst (λ desk. Acts act desk ys new) is more
  acts_append old between new (x ∷ xs) ys acts more =
      (acts.0, acts.1, acts_append acts.0 between new xs ys acts.2 more)

  pub asks_one : (old new : D) (asker behind : Asker) (request : Request) (reply : Replied) →
      act old asker.moment (Ask asker.caller request) (Reply reply) new → behind ≡ later asker 1 →
      Asks act old asker (asked request reply ∷ []) new behind
  asks_one old new asker behind request reply acts is =
      record { acts = (new, acts, refl); behind_is = is }

  pub asks_none : (desk : D) (asker : Asker) → Asks act desk asker [] desk asker
  asks_none desk asker = record {
    acts = refl;
    behind_is = ap (λ n. let one : Asker =
        record { caller = asker.caller; moment = n } in one) (behind_nothing asker.moment);
  }

  pub asks_more : (old between new : D) (asker middle behind : Asker) (xs ys : List Asked) →
      Asks act old asker xs between middle → Asks act between middle ys new behind →
      Asks act old asker (xs ++ ys) new behind
  asks_more old between new asker middle behind xs ys first more = record {
    acts = subst (λ turns. Acts act old turns new)
        (sym (turns_append asker.caller asker.moment xs ys))
        (acts_append old between new (turns_from asker.caller asker.moment xs)
        (turns_from asker.caller (asker.moment + length xs) ys) first.acts
        (subst (λ (one : Asker). Acts act between (turns_from one.caller one.moment ys) new)
        first.behind_is more.acts));
    behind_is = more.behind_is ∙ ap (λ (one : Asker). later one (length ys)) first.behind_is
        ∙ ap (λ n. let one : Asker = record { caller = asker.caller; moment = n } in one)
        (summed asker.moment xs ys);
  }
    where
      summed : (n : ℕ) (xs ys : List Asked) → n + length xs + length ys ≡ n + length (xs ++ ys)
      summed n xs ys = omega (arith, length-append xs ys)
