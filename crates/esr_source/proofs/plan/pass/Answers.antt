use Rattle.std.proofs.Common.{◌<◌, length, get_or, arith}
use Rattle.std.proofs.lemmas.List.{get_or_default}
use Rattle.std.proofs.lemmas.List.Edits.{map_over_more}
use Rattle.esr_source.specs.declared.plan.Call.TheVariants as Call
use Rattle.esr_source.specs.declared.plan.Failing.{Failing}
use Rattle.esr_source.specs.Plan.{passed}
use Rattle.esr_source.proofs.plan.pass.Goals as goal

pub loop-entry-preserved : goal.loop-entry-preserved
loop-entry-preserved c =
    let i = c.loop-entry.entry-index in
    let old = c.args.failing.now in
    let now = c.loop-entry.failing in
    let first : Failing = record { call = Call.List; nth = 0 } in
    let here = get_or now i first in
    let within : i < length old = omega arith in
    let same_length : i < length now = omega arith in
    rw c.passed.ensures (map_over_more (passed c.args.call) old now i here within c.loop-entry.invariant (get_or_default now i first here same_length))
