use Rattle.esr_plain.proofs.Loops.{so, not_so}
use Rattle.esr_plain.proofs.Reaching.{once_more, read_new, read_old, has_moved, none_moved}
use Rattle.esr_plain.proofs.reached.each_once.Goals as goal
use Rattle.esr_plain.proofs.reached.each_once.Goals.{then-not-has_name+in_ok-push, else-not-has_name}

pub loop-name-preserved : goal.loop-name-preserved
loop-name-preserved c =
    let kept = c.loop-name.kept in
    let inv = c.loop-name.invariant in
    elim c.if-not-has_name.branch [
      | then-not-has_name+in_ok-push w ↦
          let new = none_moved c.as_slice.result.now kept _ c.as_slice.ensures (not_so c.has_name.result c.has_name.ensures w.if-not-has_name.true) in
          rw w.kept-is (record {
            same = read_new c.args.names.now c.loop-name.name-index _ kept w.push.new.self c.loop-name-test.true w.in_ok-push.ensures.ok inv.same;
            once = once_more kept w.push.new.self _ w.in_ok-push.ensures.ok inv.once new;
          })
      | else-not-has_name w ↦
          let there = has_moved c.as_slice.result.now kept _ c.as_slice.ensures (so c.has_name.result c.has_name.ensures w.if-not-has_name.false) in
          rw w.kept-is (record { same = read_old c.args.names.now c.loop-name.name-index _ kept c.loop-name-test.true there inv.same; once = inv.once })
    ]
