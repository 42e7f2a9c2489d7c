use Rattle.std.proofs.Common.{◌≤◌, arith}
use Rattle.esr_verify.proofs.Naming.{next_name, are_tests}
use Rattle.esr_verify.proofs.names.list_names.Goals as goal

pub loop-worker-preserved : goal.loop-worker-preserved
loop-worker-preserved c = next_name c.args.id c.loop-worker.worker c.loop-worker.names c.push-in-loop-worker.new.self c.loop-worker.invariant c.in_ok-push-2.ensures.ok

pub returns-clause-tests : goal.returns-clause-tests
returns-clause-tests c =
    let most : c.loop-worker.worker ≤ 64 = omega (arith, c.loop-worker.auto.worker-end, c.requires) in
    are_tests c.args.id.number c.loop-worker.worker c.loop-worker.names most c.loop-worker.invariant
