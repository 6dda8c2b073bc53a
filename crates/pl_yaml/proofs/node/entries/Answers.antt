use Rattle.std.proofs.Common.{◌≡◌, ◌+◌, ◌-◌, ◌<◌, ◌≤◌, Ok, sym, ap, ◌∙◌, arith}
use Rattle.std.specs.Prelude.{reverse}
use Rattle.std.proofs.lemmas.Result.{err_from_is_err_and}
use Rattle.pl_line.specs.Rows.{size}
use Rattle.pl_reading.specs.Steps.{◌>>=◌}
use Rattle.pl_yaml.specs.Nodes.{node}
use Rattle.pl_yaml.specs.Stack.{in_open, into, made}
use Rattle.pl_yaml.proofs.Laws.Stack.{resumes_alone, resumes_fails, entry_fails, ends, goes_on}
use Rattle.pl_yaml.proofs.Laws.Stack.{enters, leaves}
use Rattle.pl_yaml.proofs.node.entries.Goals as goal

pub loop-outer-init : goal.loop-outer-init
loop-outer-init c =
    let a = c.args in (
      size a.reader.now + 1,
      omega arith,
      resumes_alone a.file.now (size a.reader.now) c.new-outer.result
          (in_open a.file.now (size a.reader.now + 1) a.begun a.reader.now) c.new-outer.ensures,
    )

pub returns-in_err-node : goal.returns-in_err-node
returns-in_err-node c =
    let p = err_from_is_err_and c.from_residual.result c.from_residual.ensures.1 in
    let l = c.loop-outer in
    let a = c.args in
    let some : 0 < l.invariant.0 = omega (arith, l.invariant.1) in
    rw (p.1, p.2)
    (resumes_fails a.file.now (size l.reader) (reverse l.outer)
    (in_open a.file.now l.invariant.0 l.top l.reader)
    (in_open a.file.now (size a.reader.now + 1) a.begun a.reader.now)
    c.in_err-node.field-0.0 (c.in_err-node.ensures.gives l.invariant.0 some) l.invariant.2)

pub loop-outer-preserved-in_ok-take-in-Some-Here : goal.loop-outer-preserved-in_ok-take-in-Some-Here
loop-outer-preserved-in_ok-take-in-Some-Here c =
    let l = c.loop-outer in
    let a = c.args in
    let some : 0 < l.invariant.0 = omega (arith, l.invariant.1) in
    let falls : size c.next.new.reader < size l.reader =
    rw c.in-Some-Here.is at c.in_ok-node.ensures.falls in
    let goes : in_open a.file.now l.invariant.0 l.top l.reader ≡ into a.file.now (l.invariant.0 - 1)
    c.next.new.self (c.in-Some-Here.node, c.next.new.reader) =
    rw (c.in-Some-Here.is, c.in-Some-Here.field-0-is) at (c.in_ok-node.ensures.gives l.invariant.0
    some)
    in
    goes_on a.file.now l.invariant.0 l.outer c.take.new.self (in_open a.file.now l.invariant.0 l.top
    l.reader) (in_open a.file.now (size a.reader.now + 1) a.begun a.reader.now)
    l.reader c.next.new.reader l.invariant.1 falls
    (goes ∙ sym (c.in_ok-take-in-Some-Here.ensures (l.invariant.0 - 1) c.next.new.reader))
    l.invariant.2

pub returns-in_err-node-in-Some-Below : goal.returns-in_err-node-in-Some-Below
returns-in_err-node-in-Some-Below c =
    let p = err_from_is_err_and c.from_residual-in_err-node-in-Some-Below.result
    c.from_residual-in_err-node-in-Some-Below.ensures.1 in
    let l = c.loop-outer in
    let a = c.args in
    let some : 0 < l.invariant.0 = omega (arith, l.invariant.1) in
    let below = node a.file.now c.in-Some-Below.depth c.in-Some-Below.slot c.next.new.reader in
    let read = below >>= into a.file.now (l.invariant.0 - 1) c.next.new.self in
    let goes : in_open a.file.now l.invariant.0 l.top l.reader ≡ read =
    rw (c.in-Some-Below.is, c.in-Some-Below.field-0-is) at
    (c.in_ok-node.ensures.gives l.invariant.0 some) in
    let e = c.in_err-node-in-Some-Below.field-0.0 in
    rw (p.1, p.2)
    (resumes_fails a.file.now (size l.reader) (reverse l.outer) read
    (in_open a.file.now (size a.reader.now + 1) a.begun a.reader.now) e
    (entry_fails a.file.now (l.invariant.0 - 1) c.next.new.self below e
    c.in_err-node-in-Some-Below.ensures.gives)
    (rw goes at l.invariant.2))

pub loop-outer-preserved-in_ok-take-in-Made : goal.loop-outer-preserved-in_ok-take-in-Made
loop-outer-preserved-in_ok-take-in-Made c =
    let l = c.loop-outer in
    let a = c.args in
    let some : 0 < l.invariant.0 = omega (arith, l.invariant.1) in
    let fell : size c.next.new.reader < size l.reader =
    rw c.in-Some-Below.is at c.in_ok-node.ensures.falls in
    let falls : size c.begin.new.reader < size l.reader =
    omega (arith, fell, c.in_ok-node-in-Some-Below.ensures.falls) in
    let below = node a.file.now c.in-Some-Below.depth c.in-Some-Below.slot c.next.new.reader in
    let goes : in_open a.file.now l.invariant.0 l.top l.reader ≡
    (below >>= into a.file.now (l.invariant.0 - 1) c.next.new.self) =
    rw (c.in-Some-Below.is, c.in-Some-Below.field-0-is) at (c.in_ok-node.ensures.gives l.invariant.0
    some)
    in
    let begins : below ≡ Ok (c.in-Made.node, c.begin.new.reader) =
    rw c.in-Made.is at c.in_ok-node-in-Some-Below.ensures.gives in
    goes_on a.file.now l.invariant.0 l.outer c.take-in-Made.new.self
    (in_open a.file.now l.invariant.0 l.top l.reader)
    (in_open a.file.now (size a.reader.now + 1) a.begun a.reader.now)
    l.reader c.begin.new.reader l.invariant.1 falls
    (goes ∙ ap (λ r. r >>= into a.file.now (l.invariant.0 - 1) c.next.new.self) begins ∙
    sym (c.in_ok-take-in-Made.ensures (l.invariant.0 - 1) c.begin.new.reader)) l.invariant.2

pub loop-outer-preserved-in_ok-push-in-Opened : goal.loop-outer-preserved-in_ok-push-in-Opened
loop-outer-preserved-in_ok-push-in-Opened c =
    let l = c.loop-outer in
    let a = c.args in
    let some : 0 < l.invariant.0 = omega (arith, l.invariant.1) in
    let fell : size c.next.new.reader < size l.reader =
    rw c.in-Some-Below.is at c.in_ok-node.ensures.falls in
    let falls : size c.begin.new.reader < size l.reader =
    omega (arith, fell, c.in_ok-node-in-Some-Below.ensures.falls) in
    let below = node a.file.now c.in-Some-Below.depth c.in-Some-Below.slot c.next.new.reader in
    let goes : in_open a.file.now l.invariant.0 l.top l.reader ≡
    (below >>= into a.file.now (l.invariant.0 - 1) c.next.new.self) =
    rw (c.in-Some-Below.is, c.in-Some-Below.field-0-is) at (c.in_ok-node.ensures.gives l.invariant.0
    some)
    in
    let begins : below ≡ in_open a.file.now (size c.begin.new.reader + 1) c.in-Opened.inner
    c.begin.new.reader = rw c.in-Opened.is at c.in_ok-node-in-Some-Below.ensures.gives in
    rw c.replace.ensures.after
    (enters a.file.now l.invariant.0 l.outer c.push.new.self c.in-Opened.inner c.next.new.self
    (in_open a.file.now l.invariant.0 l.top l.reader)
    (in_open a.file.now (size a.reader.now + 1) a.begun a.reader.now) l.reader c.begin.new.reader
    l.invariant.1 falls (rw c.replace.ensures.value at c.in_ok-push-in-Opened.ensures.ok)
    (goes ∙ ap (λ r. r >>= into a.file.now (l.invariant.0 - 1) c.next.new.self) begins)
    l.invariant.2)

pub loop-outer-preserved : goal.loop-outer-preserved
loop-outer-preserved c =
    let l = c.loop-outer in
    let a = c.args in
    let some : 0 < l.invariant.0 = omega (arith, l.invariant.1) in
    let falls : size c.next.new.reader ≤ size l.reader =
    rw c.in-None.is at c.in_ok-node.ensures.falls in
    let goes : in_open a.file.now l.invariant.0 l.top l.reader ≡
    Ok (made a.file.now c.next.new.self, c.next.new.reader) =
    rw c.in-None.is at (c.in_ok-node.ensures.gives l.invariant.0 some)
    in
    leaves a.file.now l.outer c.pop.new.self c.in-Some.waiting c.close.new.top
    (made a.file.now c.next.new.self) (in_open a.file.now l.invariant.0 l.top l.reader)
    (in_open a.file.now (size a.reader.now + 1) a.begun a.reader.now) l.reader c.next.new.reader
    falls c.in-Some.ensures goes c.in_ok-close-in-Some.ensures l.invariant.2

pub returns-in-None-pop : goal.returns-in-None-pop
returns-in-None-pop c =
    let l = c.loop-outer in
    let a = c.args in
    let some : 0 < l.invariant.0 = omega (arith, l.invariant.1) in
    let goes : in_open a.file.now l.invariant.0 l.top l.reader ≡
    Ok (made a.file.now c.next.new.self, c.next.new.reader) =
    rw c.in-None.is at (c.in_ok-node.ensures.gives l.invariant.0 some)
    in
    ends a.file.now (size l.reader) l.outer (in_open a.file.now l.invariant.0 l.top l.reader)
    (Ok (made a.file.now c.next.new.self, c.next.new.reader))
    (in_open a.file.now (size a.reader.now + 1) a.begun a.reader.now) c.in-None-pop.ensures.0 goes
    l.invariant.2
    ∙ ap (λ n. Ok (n, c.next.new.reader)) (sym c.in_ok-into_node-in-None-pop.ensures)
