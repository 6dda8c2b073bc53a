-- What is known of bytes stays known when more come.
use Rattle.std.proofs.Common.{ℕ, ◌<◌, List, ◌++◌, length, sym, subst, append_assoc}
use Rattle.std.proofs.Common.{append-nil, []}
use Rattle.pl_scan.proofs.Following.{follows_more}
use Rattle.pl_wire.specs.declared.waiting.Waiting.{Waiting}
use Rattle.pl_wire.specs.declared.waiting.Waiting.TheVariants.{Head, Content}
use Rattle.pl_wire.specs.Message.{IsPartial, WaitsFor}
use Rattle.pl_wire.specs.Waiting.{Awaits}

pub awaits_more : (waiting : Waiting) (bytes more : List ℕ) → Awaits waiting bytes
    → Awaits waiting (bytes ++ more)
awaits_more (Head scanner) bytes more follows = follows_more scanner bytes more follows
awaits_more (Content least) bytes more waits = λ rest short.
    subst IsPartial (sym (append_assoc bytes more rest))
    (waits (more ++ rest)
    (subst (λ (b : List ℕ). length b < least) (append_assoc bytes more rest) short))

pub waits_now : (least : ℕ) (bytes : List ℕ) → WaitsFor least bytes → length bytes < least
    → IsPartial bytes
waits_now least bytes waits short =
    subst IsPartial (append-nil bytes)
    (waits [] (subst (λ (b : List ℕ). length b < least) (sym (append-nil bytes)) short))
