use Rattle.std.proofs.Common.{◌<◌, ◌≤◌, get_or, sym, arith}
use Rattle.lines.proofs.Numbers.{over_front}
use Rattle.lines.proofs.number.leading_number.Goals as goal

pub returns-in_err-value : goal.returns-in_err-value
returns-in_err-value c =
    let rest = c.loop-rest.rest.now in
    let low : 48 ≤ get_or rest 0 0 = omega arith in
    let high : get_or rest 0 0 < 58 = omega arith in
    rw c.from_residual.ensures
    (sym (over_front c.args.bytes.now c.loop-rest.value rest c.loop-rest.invariant (omega arith) low high c.in_err-value.ensures))
