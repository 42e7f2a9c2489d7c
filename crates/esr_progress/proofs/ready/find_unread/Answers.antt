use Rattle.std.proofs.Common.{◌∙◌, sym}
use Rattle.esr_progress.proofs.Unread.{unread_here, none_unread_more}
use Rattle.esr_progress.proofs.ready.find_unread.Goals as goal

pub returns-in-Some : goal.returns-in-Some
returns-in-Some c = unread_here c.args.restores.now c.loop-at.at c.in-Some.i c.index-restores-at.result c.loop-at-test.true c.index-restores-at.is (sym c.first_unread.ensures ∙ c.in-Some.is) c.loop-at.invariant

pub loop-at-preserved : goal.loop-at-preserved
loop-at-preserved c = none_unread_more c.args.restores.now c.loop-at.at c.index-restores-at.result c.loop-at-test.true c.index-restores-at.is (sym c.first_unread.ensures ∙ c.in_default.is) c.loop-at.invariant
