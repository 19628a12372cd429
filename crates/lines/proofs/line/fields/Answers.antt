use Rattle.std.proofs.Common.{Some, None, sym, arith}
use Rattle.std.proofs.lemmas.List.{length-replicate}
use Rattle.lines.proofs.Fields.{halfway_none, halfway_more, halfway_err, halfway_end}
use Rattle.lines.proofs.line.fields.Goals as goal

pub loop-number-init : goal.loop-number-init
loop-number-init g c = halfway_none _ _ _ (length-replicate _ _)

pub returns-in_err-number : goal.returns-in_err-number
returns-in_err-number g c =
    rw c.from_residual.ensures (sym (halfway_err c.loop-number.invariant (omega arith) (sym c.in_err-number.ensures)))

pub loop-number-preserved : goal.loop-number-preserved
loop-number-preserved g c = halfway_more _ c.loop-number.invariant (omega arith) (sym c.in_ok-number.ensures)

pub returns-in_err-rest : goal.returns-in_err-rest
returns-in_err-rest g c =
    rw c.from_residual-in_err-rest.ensures
    (sym (halfway_end None c.loop-number.invariant (omega arith) (sym c.in_err-rest.ensures)))

pub returns : goal.returns
returns g c = sym (halfway_end (Some _) c.loop-number.invariant (omega arith) (sym c.in_ok-rest.ensures))
