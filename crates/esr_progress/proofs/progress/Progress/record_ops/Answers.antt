use Rattle.std.proofs.Common.{◌≡◌, ◌<◌, ◌+◌, ℕ, List, map, ◌++◌, sym, ap, ◌∙◌, subst}
use Rattle.esr_record.specs.Op.{last_op}
use Rattle.esr_core.specs.World.{Op, Deletion, record_ops}
use Rattle.esr_formats.specs.Clusters.{op_of}
use Rattle.esr_ops.specs.Plan.{Plan}
use Rattle.esr_ops.specs.Deletes.{deletion_entry, between}
use Rattle.esr_ops.specs.Inside.{numbers_of, Rise, AreNumbers}
use Rattle.esr_progress.proofs.Recorded.{merged, AreTold, none_told, number_most, may_tell, tell_op, all_are, all_told}
use Rattle.esr_progress.proofs.progress.Progress.record_ops.Goals as goal

pub loop-op-init : goal.loop-op-init
loop-op-init c =
    subst (AreTold c.deref-op-items.result.now c.self.inside.deletes.items c.self.inside.next_op 0 0) (sym c.new-ops.ensures)
    (none_told c.deref-op-items.result.now c.self.inside.deletes.items c.self.inside.next_op
    (subst (λ (es : List (ℕ × Op)). AreNumbers (numbers_of es) c.self.inside.next_op) (sym c.deref-op-items.ensures.value) c.self.invariant.ops_numbered))

-- what the list has of deletes
pub push_between-requires-clause-rise : goal.push_between-requires-clause-rise
push_between-requires-clause-rise c = subst (λ (ds : List (ℕ × Deletion)). Rise (numbers_of ds)) (sym c.deref.ensures.value) c.self.invariant.deletes_numbered.rise

pub push_between-requires-clause-last : goal.push_between-requires-clause-last
push_between-requires-clause-last c = c.loop-op.invariant.above

pub push_between-requires-clause-most : goal.push_between-requires-clause-most
push_between-requires-clause-most c =
    number_most c.deref-op-items.result.now c.self.inside.deletes.items c.self.inside.next_op c.loop-op.op-index c.loop-op.last c.loop-op.ops
    c.loop-op.invariant c.op-item.result c.loop-op-test.true c.op-item.is c.number.result c.number.ensures c.self.invariant.most

pub push-requires : goal.push-requires
push-requires c =
    let told = c.in_ok-push_between.ensures.told ∙ (λ j. map op_of c.loop-op.ops ++ map deletion_entry (between c.loop-op.last (c.number.ensures j) (c.deref.ensures.value j))) in
    let low = subst (λ (n : ℕ). c.loop-op.last < n → last_op c.push_between.new.ops < n) c.number.ensures c.in_ok-push_between.ensures.last in
    may_tell c.deref-op-items.result.now c.self.inside.deletes.items c.self.inside.next_op c.loop-op.op-index c.loop-op.last c.loop-op.ops c.push_between.new.ops c.loop-op.invariant c.op-item.result c.loop-op-test.true c.op-item.is
    told low c.in_ok-record_op.field-0 c.self.invariant.most c.in_ok-record_op.ensures.told c.in_ok-record_op.ensures.valid

pub loop-op-preserved : goal.loop-op-preserved
loop-op-preserved c =
    let told = c.in_ok-push_between.ensures.told ∙ (λ j. map op_of c.loop-op.ops ++ map deletion_entry (between c.loop-op.last (c.number.ensures j) (c.deref.ensures.value j))) in
    let low = subst (λ (n : ℕ). c.loop-op.last < n → last_op c.push_between.new.ops < n) c.number.ensures c.in_ok-push_between.ensures.last in
    subst (λ (n : ℕ). AreTold c.deref-op-items.result.now c.self.inside.deletes.items c.self.inside.next_op (c.loop-op.op-index + 1) n c.push.new.self) (sym c.number-last.ensures)
    (tell_op c.deref-op-items.result.now c.self.inside.deletes.items c.self.inside.next_op c.loop-op.op-index c.loop-op.last c.loop-op.ops c.push_between.new.ops c.loop-op.invariant c.op-item.result c.loop-op-test.true c.op-item.is
    told low c.in_ok-record_op.field-0 c.push.new.self c.in_ok-record_op.ensures.told c.in_ok-push.ensures.ok)

pub push_between-requires-2-clause-rise : goal.push_between-requires-2-clause-rise
push_between-requires-2-clause-rise c = subst (λ (ds : List (ℕ × Deletion)). Rise (numbers_of ds)) (sym c.deref-2.ensures.value) c.self.invariant.deletes_numbered.rise

pub push_between-requires-2-clause-last : goal.push_between-requires-2-clause-last
push_between-requires-2-clause-last c = c.loop-op.invariant.above

pub push_between-requires-2-clause-most : goal.push_between-requires-2-clause-most
push_between-requires-2-clause-most c = c.self.invariant.most

pub returns : goal.returns
returns c =
    let deletes : c.deref-2.result.now ≡ c.self.inside.deletes.items = c.deref-2.ensures.value in
    let told = c.in_ok-push_between-2.ensures.told ∙ ap (λ (ds : List (ℕ × Deletion)). map op_of c.loop-op.ops ++ map deletion_entry (between c.loop-op.last c.self.inside.next_op ds)) deletes in
    all_are c.deref-op-items.result.now c.self.inside.deletes.items c.self.inside.next_op c.loop-op.op-index c.loop-op.last c.loop-op.ops c.push_between-2.new.ops c.loop-op.invariant c.loop-op-test.false told
    ∙ (λ j. merged 0 (c.deref-op-items.ensures.value j) c.self.inside.deletes.items c.self.inside.next_op)
    ∙ all_told c.self.inside.ops.items c.self.inside.deletes.items c.self.inside.next_op c.self.invariant.ops_numbered c.self.invariant.deletes_numbered c.self.invariant.apart
    ∙ ap (λ (p : Plan). record_ops p.ops p.deletes) c.self.view_is
