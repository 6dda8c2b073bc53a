use Rattle.std.proofs.Common.{◌≡◌, ◌+◌, ◌-◌, ◌*◌, ap, arith, drop, length, length-drop, length-take}
use Rattle.std.proofs.Common.{sym, take, ◌∙◌}
use Rattle.pl_names.specs.Bytes.{ends_control, has_control_behind}
use Rattle.pl_names.proofs.Pieces.{behind, behind_further, found_further, last_one}
use Rattle.pl_names.proofs.names.pieces_have.Goals as goal

pub loop-at-preserved : goal.loop-at-preserved
loop-at-preserved c =
    let bytes = c.args.bytes.now in
    let at = c.loop-at.at in
    let m = 16 * at in
    let k = m + 16 - m in
    let piece = take k (drop m bytes) in
    let whole : m + k ≡ 16 * (at + 1) = omega arith in
    let sixteen : length piece ≡ 16 =
    omega (arith, length-take k (drop m bytes), length-drop m bytes, c.loop-at-test.true) in
    record {
      told = found_further ends_control (λ before byte. byte) 0 c.loop-at.last bytes m k
          c.loop-at.invariant.before c.loop-at.found c.piece_has-found.result
          c.loop-at.invariant.told c.piece_has-found.ensures
          ∙ ap (λ n. has_control_behind 0 (take n bytes)) whole;
      before = sym (last_one c.loop-at.last piece sixteen)
          ∙ behind_further ends_control (λ before byte. byte) 0 c.loop-at.last bytes m k
          c.loop-at.invariant.before
          ∙ ap (λ n. behind ends_control (λ before byte. byte) 0 (take n bytes)) whole;
    }
