use Rattle.std.proofs.Common.{◌∙◌, List, take, sym, arith}
use Rattle.std.proofs.lemmas.List.{at_drop_all}
use Rattle.esr_core.specs.After.{or_else}
use Rattle.esr_core.specs.Entry.{Entry}
use Rattle.esr_report.specs.Replies.{end_of_op}
use Rattle.esr_report.specs.Ends.{first_end}
use Rattle.esr_report.proofs.FirstEnds.{or_else_none, end_read}
use Rattle.esr_report.proofs.tickets.ends_of.Goals as goal

pub loop-at-preserved : goal.loop-at-preserved
loop-at-preserved c =
    end_read c.args.entries.now c.loop-at.ends.items c.keep.new.ends.items c.push_aborts.new.ends.items c.loop-at.at c.index-entries-at.result c.in_ok-end.end c.loop-at-test.true c.index-entries-at.is c.in_ok-end.ensures
    c.in_ok-keep.ensures c.in_ok-push_aborts.ensures c.loop-at.invariant

pub returns : goal.returns
returns c op =
    let all = c.args.entries.now in
    let ends = c.loop-at.ends.items in
    let past = at_drop_all (λ (rest : List Entry). or_else (first_end ends op) (end_of_op all op (take c.loop-at.at all) rest)) all c.loop-at.at (omega arith) in
    sym (c.loop-at.invariant op ∙ past ∙ or_else_none (first_end ends op))
