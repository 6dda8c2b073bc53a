use Rattle.std.proofs.Common.{◌≡◌, ℕ, ◌+◌, ◌-◌, ◌*◌, ap, arith, drop, length, length-drop, length-take}
use Rattle.std.proofs.Common.{sym, take, ◌∙◌}
use Rattle.pl_names.specs.Bytes.{goes_wrong_in, shifted, slash, wrong_at}
use Rattle.pl_names.proofs.Pieces.{behind, behind_further, found_further, last_three}
use Rattle.pl_names.proofs.keys.pieces_go_wrong.Goals as goal

pub loop-at-preserved : goal.loop-at-preserved
loop-at-preserved c =
    let bytes = c.args.bytes.now in
    let at = c.loop-at.at in
    let m = 16 * at in
    let k = m + 16 - m in
    let piece = take k (drop m bytes) in
    let last : ℕ × ℕ × ℕ = (c.loop-at.third, c.loop-at.second, c.loop-at.first) in
    let whole : m + k ≡ 16 * (at + 1) = omega arith in
    let sixteen : length piece ≡ 16 =
    omega (arith, length-take k (drop m bytes), length-drop m bytes, c.loop-at-test.true) in
    record {
      told = found_further wrong_at shifted (slash, slash, slash) last bytes m k
          c.loop-at.invariant.before c.loop-at.wrong c.goes_wrong_in-wrong.result
          c.loop-at.invariant.told c.goes_wrong_in-wrong.ensures
          ∙ ap (λ n. goes_wrong_in slash slash slash (take n bytes)) whole;
      before = sym (last_three last piece sixteen)
          ∙ behind_further wrong_at shifted (slash, slash, slash) last bytes m k
          c.loop-at.invariant.before
          ∙ ap (λ n. behind wrong_at shifted (slash, slash, slash) (take n bytes)) whole;
    }
