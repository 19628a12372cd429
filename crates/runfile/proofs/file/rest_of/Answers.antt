use Rattle.std.proofs.Common.{◌≡◌, List, Some, Ok, vec_items, sym, ap, ◌∙◌, subst}
use Rattle.std.proofs.lemmas.Result.{err_from_is_err_and}
use Rattle.turns.specs.declared.turn.Turn.{Turn}
use Rattle.runfile.specs.Files.{next_turn}
use Rattle.runfile.specs.Readers.{numbered}
use Rattle.runfile.proofs.Turns.{Halfway, halfway_none, halfway_end, halfway_err, from_none, from_err, step}
use Rattle.runfile.proofs.file.rest_of.Goals as goal

pub loop-turns-init : goal.loop-turns-init
loop-turns-init c =
    subst (λ (ts : List Turn). Halfway c.args.reader ts c.args.reader) (sym c.new-turns.ensures.items)
    (halfway_none c.args.reader c.requires)

pub returns-in_err-next : goal.returns-in_err-next
returns-in_err-next c =
    let p = err_from_is_err_and c.from_residual.result c.from_residual.ensures.1 in
    rw (p.1, p.2)
    (halfway_err c.args.reader (vec_items c.loop-turns.turns) c.loop-turns.reader _ c.loop-turns.invariant
    (from_err _ _ _ c.in_err-next.ensures.answer))

taken : (c : goal.In_ok-push)
    → Ok (Some c.in-Some.next) ≡ numbered c.loop-turns.reader.line (next_turn c.loop-turns.reader)
taken c = ap Ok (sym c.in-Some.is) ∙ c.in_ok-next.ensures.answer

pub loop-turns-smaller : goal.loop-turns-smaller
loop-turns-smaller c =
    (step c.args.reader (vec_items c.loop-turns.turns) c.loop-turns.reader c.next_turn.new.self c.in-Some.next
    c.loop-turns.invariant (taken c) c.next_turn.ensures.after).0

pub loop-turns-preserved : goal.loop-turns-preserved
loop-turns-preserved c =
    subst (λ (ts : List Turn). Halfway c.args.reader ts c.next_turn.new.self) (sym c.in_ok-push.ensures.items)
    (step c.args.reader (vec_items c.loop-turns.turns) c.loop-turns.reader c.next_turn.new.self c.in-Some.next
    c.loop-turns.invariant (taken c) c.next_turn.ensures.after).1

pub returns : goal.returns
returns c =
    halfway_end c.args.reader (vec_items c.loop-turns.turns) c.loop-turns.reader c.loop-turns.invariant
    (from_none _ _ (ap Ok (sym c.in_default.is) ∙ c.in_ok-next.ensures.answer))
