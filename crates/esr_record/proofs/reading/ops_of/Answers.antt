use Rattle.std.proofs.Common.{◌≡◌, ◌+◌, List, [], ◌∷◌, drop, map, sym, ap, subst, ℕ, ◌∙◌, arith}
use Rattle.std.proofs.lemmas.List.{at_drop_more}
use Rattle.serde_json.specs.View.{view}
use Rattle.serde_json.specs.declared.value.Value.{Value}
use Rattle.esr_record.specs.declared.op.RecordOp.{RecordOp}
use Rattle.esr_record.specs.Op.{IsOp, AreOps, last_op}
use Rattle.esr_record.specs.Reading.{ops_from}
use Rattle.esr_record.proofs.Rising.{ops_from_push, AreOps_push, last_from-push}
use Rattle.esr_record.proofs.reading.ops_of.Goals as goal

pub loop-value-preserved : goal.loop-value-preserved
loop-value-preserved c =
    let ops : List RecordOp = c.loop-value.ops in
    let op : RecordOp = c.in_ok-op.op in
    let rest : List Value = drop (c.loop-value.value-index + 1) c.args.values.now in
    let turn = at_drop_more (λ (xs : List Value). ops_from c.loop-value.last ops (map view xs)) c.args.values.now c.loop-value.value-index c.value-item.result (omega arith) in
    let item = ap (λ (v : Value). ops_from c.loop-value.last ops (view v ∷ map view rest)) (sym c.value-item.is) in
    let step = ops_from_push c.loop-value.last ops op (view c.value-item.result) (map view rest) c.in_ok-op.ensures.exact in
    let next : IsOp (last_op ops) op = subst (λ (last : ℕ). IsOp last op) c.loop-value.invariant.1 c.in_ok-op.ensures.valid in
    let pushed = c.in_ok-push.ensures.ok in (
      c.loop-value.invariant.0 ∙ turn ∙ item ∙ step ∙ ap (λ (os : List RecordOp). ops_from op.op os (map view rest)) (sym pushed),
      sym (ap last_op pushed ∙ last_from-push 0 ops op),
      subst (AreOps 0) (sym pushed) (AreOps_push 0 ops op c.loop-value.invariant.2 next),
    )
