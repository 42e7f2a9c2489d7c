use Rattle.std.proofs.Common.{◌+◌, ◌≤◌, ◌<◌, ◌^◌, length, Err, sym, subst, inl, inr, arith}
use Rattle.esr_desk.specs.declared.refusal.StepRefusal.{StepRefusal}
use Rattle.esr_desk.specs.declared.refusal.StepRefusal.TheVariants as steps
use Rattle.esr_drive.specs.Takes.{idle_takes}
use Rattle.esr_drive.specs.Elections.{elections}
use Rattle.esr_complete.specs.Lines.{steps_of_item, failovers_of}
use Rattle.esr_run.specs.Checked.{asks_check}
use Rattle.esr_run.specs.Waits.{waits_of}
use Rattle.esr_run.proofs.Making.{IsTold, front_none, front_made, front_all, front_owes, front_few, line_few, good_next, good_line, none_left, asks_first, asks_here}
use Rattle.esr_run.proofs.Going.{is_err, err_told, told_may, line_front, line_fits, made_by, cut_by, turns_by}
use Rattle.esr_run.proofs.Verifying.{verified_whole}
use Rattle.esr_run.proofs.Taking.{waits_on, waits_end}
use Rattle.esr_run.proofs.carry.carry_lines.Goals as goal
use Rattle.esr_run.proofs.carry.carry_lines.Goals.{in-Ok, in-Err+in-Refused}

pub loop-left-init : goal.loop-left-init
loop-left-init g c = record { front = front_none g.Q.Desk.start c.args.moment c.args.lines.now (g.Q.Desk.seen c.args.desk); good = c.requires.carried; may = c.requires.may; takes = omega arith; fits = omega arith; small = c.is_count.ensures }

pub loop-left-preserved : goal.loop-left-preserved
loop-left-preserved g c =
    let s = g.Q.Desk.start in
    let mid = g.Q.Desk.seen c.loop-left.desk in
    let new = g.Q.Desk.seen c.carry_line-after.result.0 in
    let r = c.carry_line-after.result.1 in
    let lines = c.args.lines.now in
    let left = c.loop-left.left.now in
    let line = c.line-item.result in
    let inv = c.loop-left.invariant in
    let told : IsTold r = elim c.match-answer.branch [
      | in-Ok w ↦ subst IsTold (sym w.in-Ok.is) tt
      | in-Err+in-Refused w ↦ err_told r w.in-Err.refusal w.in-Err.is (subst (λ (e : StepRefusal). IsTold (Err e)) (sym w.in-Refused.is) tt)
    ] in
    record {
      front = line_front s c.args.moment c.loop-left.owed c.owed_after-owed.result line left lines (g.Q.Desk.seen c.args.desk) mid new r c.in-len1-up.len_at_least c.line-item.is c.owed_after-owed.ensures told inv.front
          c.carry_line-after.ensures.made c.carry_line-after.ensures.elects c.carry_line-after.ensures.checked c.carry_line-after.ensures.begun
          c.carry_line-after.ensures.only inv.may.idle c.carry_line-after.ensures.rests c.carry_line-after.ensures.ended;
      good = good_next left inv.good;
      may = told_may s c.args.workers (asks_check lines) new r told
          (c.carry_line-after.ensures.verified (asks_check lines) (asks_here s c.args.moment c.loop-left.owed line left lines (g.Q.Desk.seen c.args.desk) mid c.in-len1-up.len_at_least c.line-item.is inv.front) inv.may);
      takes = waits_on c.args.workers line left (idle_takes (g.Q.Desk.seen c.args.desk)) (idle_takes mid) (idle_takes new) (waits_of c.args.workers lines) c.in-len1-up.len_at_least c.line-item.is inv.takes c.carry_line-after.ensures.takes;
      fits = line_fits line.item c.loop-left.owed c.owed_after-owed.result left (length lines) c.in-len1-up.len_at_least c.owed_after-owed.ensures inv.fits;
      small = inv.small;
    }

pub owed_after-owed-requires : goal.owed_after-owed-requires
owed_after-owed-requires g c =
    let fits : c.loop-left.owed + length c.loop-left.left.now ≤ length c.args.lines.now = c.loop-left.invariant.fits in
    let some : 1 ≤ length c.loop-left.left.now = c.in-len1-up.len_at_least in
    let small : length c.args.lines.now < 2 ^ 64 = c.loop-left.invariant.small in
    omega (arith, fits, some, small)

pub carry_line-after-requires-clause-carried : goal.carry_line-after-requires-clause-carried
carry_line-after-requires-clause-carried g c κs within = good_line c.line-item.result c.loop-left.left.now c.in-len1-up.len_at_least c.line-item.is c.loop-left.invariant.good

pub carry_line-after-requires-clause-waits : goal.carry_line-after-requires-clause-waits
carry_line-after-requires-clause-waits g c κs within = c.requires.waits

pub carry_line-after-requires-clause-idle : goal.carry_line-after-requires-clause-idle
carry_line-after-requires-clause-idle g c κs within = c.loop-left.invariant.may.idle

pub carry_line-after-requires-clause-legal : goal.carry_line-after-requires-clause-legal
carry_line-after-requires-clause-legal g c κs within = c.loop-left.invariant.may.legal

pub returns-in-Memory-clause-made : goal.returns-in-Memory-clause-made
returns-in-Memory-clause-made g c =
    made_by g.Q.Desk.start c.args.moment c.loop-left.owed c.loop-left.left.now c.args.lines.now (steps_of_item c.args.moment c.line-item.result.item)
    (g.Q.Desk.seen c.args.desk) (g.Q.Desk.seen c.loop-left.desk) (g.Q.Desk.seen c.carry_line-after.result.0) c.carry_line-after.result.1
    (asks_first c.args.moment c.line-item.result c.loop-left.left.now c.in-len1-up.len_at_least c.line-item.is) c.loop-left.invariant.front c.carry_line-after.ensures.made
    (inl (is_err c.carry_line-after.result.1 c.in-Err.refusal steps.Memory c.in-Err.is c.in-Memory.is))

pub returns-in-Memory-clause-apart : goal.returns-in-Memory-clause-apart
returns-in-Memory-clause-apart g c none =
    cut_by g.Q.Desk.start c.args.moment c.loop-left.owed c.line-item.result.item c.loop-left.left.now c.args.lines.now (g.Q.Desk.seen c.args.desk)
    (g.Q.Desk.seen c.loop-left.desk) (g.Q.Desk.seen c.carry_line-after.result.0) c.carry_line-after.result.1 c.loop-left.invariant.front
    c.carry_line-after.ensures.made c.carry_line-after.ensures.checked c.carry_line-after.ensures.begun c.carry_line-after.ensures.only c.loop-left.invariant.may.idle
    (inl (is_err c.carry_line-after.result.1 c.in-Err.refusal steps.Memory c.in-Err.is c.in-Memory.is)) c.requires.waits.alone none

pub returns-in-Memory-clause-whole : goal.returns-in-Memory-clause-whole
returns-in-Memory-clause-whole g c =
    let s = g.Q.Desk.start in
    let checks = asks_check c.args.lines.now in
    verified_whole s c.args.workers checks (g.Q.Desk.seen c.carry_line-after.result.0) c.carry_line-after.result.1
    (c.carry_line-after.ensures.verified checks
    (asks_here s c.args.moment c.loop-left.owed c.line-item.result c.loop-left.left.now c.args.lines.now (g.Q.Desk.seen c.args.desk) (g.Q.Desk.seen c.loop-left.desk) c.in-len1-up.len_at_least c.line-item.is c.loop-left.invariant.front)
    c.loop-left.invariant.may)

pub returns-in-Memory-clause-takes : goal.returns-in-Memory-clause-takes
returns-in-Memory-clause-takes g c =
    waits_end c.args.workers c.line-item.result c.loop-left.left.now (idle_takes (g.Q.Desk.seen c.args.desk)) (idle_takes (g.Q.Desk.seen c.loop-left.desk))
    (idle_takes (g.Q.Desk.seen c.carry_line-after.result.0)) (waits_of c.args.workers c.args.lines.now) c.in-len1-up.len_at_least c.line-item.is
    c.loop-left.invariant.takes c.carry_line-after.ensures.takes

pub returns-in-Memory-clause-elects : goal.returns-in-Memory-clause-elects
returns-in-Memory-clause-elects g c =
    front_few g.Q.Desk.start c.args.moment c.loop-left.owed c.loop-left.left.now c.args.lines.now (g.Q.Desk.seen c.args.desk) (g.Q.Desk.seen c.loop-left.desk) (g.Q.Desk.seen c.carry_line-after.result.0) c.loop-left.invariant.front
    (line_few c.loop-left.owed c.line-item.result.item (g.Q.Desk.seen c.loop-left.desk) (g.Q.Desk.seen c.carry_line-after.result.0) c.carry_line-after.result.1 c.carry_line-after.ensures.elects)

pub returns-in-TurnsSpent-clause-made : goal.returns-in-TurnsSpent-clause-made
returns-in-TurnsSpent-clause-made g c =
    made_by g.Q.Desk.start c.args.moment c.loop-left.owed c.loop-left.left.now c.args.lines.now (steps_of_item c.args.moment c.line-item.result.item)
    (g.Q.Desk.seen c.args.desk) (g.Q.Desk.seen c.loop-left.desk) (g.Q.Desk.seen c.carry_line-after.result.0) c.carry_line-after.result.1
    (asks_first c.args.moment c.line-item.result c.loop-left.left.now c.in-len1-up.len_at_least c.line-item.is) c.loop-left.invariant.front c.carry_line-after.ensures.made
    (inr (is_err c.carry_line-after.result.1 c.in-Err.refusal steps.TurnsSpent c.in-Err.is c.in-TurnsSpent.is))

pub returns-in-TurnsSpent-clause-apart : goal.returns-in-TurnsSpent-clause-apart
returns-in-TurnsSpent-clause-apart g c none =
    cut_by g.Q.Desk.start c.args.moment c.loop-left.owed c.line-item.result.item c.loop-left.left.now c.args.lines.now (g.Q.Desk.seen c.args.desk)
    (g.Q.Desk.seen c.loop-left.desk) (g.Q.Desk.seen c.carry_line-after.result.0) c.carry_line-after.result.1 c.loop-left.invariant.front
    c.carry_line-after.ensures.made c.carry_line-after.ensures.checked c.carry_line-after.ensures.begun c.carry_line-after.ensures.only c.loop-left.invariant.may.idle
    (inr (is_err c.carry_line-after.result.1 c.in-Err.refusal steps.TurnsSpent c.in-Err.is c.in-TurnsSpent.is)) c.requires.waits.alone none

pub returns-in-TurnsSpent-clause-whole : goal.returns-in-TurnsSpent-clause-whole
returns-in-TurnsSpent-clause-whole g c =
    let s = g.Q.Desk.start in
    let checks = asks_check c.args.lines.now in
    verified_whole s c.args.workers checks (g.Q.Desk.seen c.carry_line-after.result.0) c.carry_line-after.result.1
    (c.carry_line-after.ensures.verified checks
    (asks_here s c.args.moment c.loop-left.owed c.line-item.result c.loop-left.left.now c.args.lines.now (g.Q.Desk.seen c.args.desk) (g.Q.Desk.seen c.loop-left.desk) c.in-len1-up.len_at_least c.line-item.is c.loop-left.invariant.front)
    c.loop-left.invariant.may)

pub returns-in-TurnsSpent-clause-takes : goal.returns-in-TurnsSpent-clause-takes
returns-in-TurnsSpent-clause-takes g c =
    waits_end c.args.workers c.line-item.result c.loop-left.left.now (idle_takes (g.Q.Desk.seen c.args.desk)) (idle_takes (g.Q.Desk.seen c.loop-left.desk))
    (idle_takes (g.Q.Desk.seen c.carry_line-after.result.0)) (waits_of c.args.workers c.args.lines.now) c.in-len1-up.len_at_least c.line-item.is
    c.loop-left.invariant.takes c.carry_line-after.ensures.takes

pub returns-in-TurnsSpent-clause-elects : goal.returns-in-TurnsSpent-clause-elects
returns-in-TurnsSpent-clause-elects g c =
    front_few g.Q.Desk.start c.args.moment c.loop-left.owed c.loop-left.left.now c.args.lines.now (g.Q.Desk.seen c.args.desk) (g.Q.Desk.seen c.loop-left.desk) (g.Q.Desk.seen c.carry_line-after.result.0) c.loop-left.invariant.front
    (line_few c.loop-left.owed c.line-item.result.item (g.Q.Desk.seen c.loop-left.desk) (g.Q.Desk.seen c.carry_line-after.result.0) c.carry_line-after.result.1 c.carry_line-after.ensures.elects)

pub returns-in-TurnsSpent-clause-rests : goal.returns-in-TurnsSpent-clause-rests
returns-in-TurnsSpent-clause-rests g c none =
    inr (inr (turns_by (g.Q.Desk.seen c.carry_line-after.result.0) c.carry_line-after.result.1 (is_err c.carry_line-after.result.1 c.in-Err.refusal steps.TurnsSpent c.in-Err.is c.in-TurnsSpent.is) c.carry_line-after.ensures.spent))

pub returns-in-TurnsSpent-clause-owes : goal.returns-in-TurnsSpent-clause-owes
returns-in-TurnsSpent-clause-owes g c =
    let few : elections (g.Q.Desk.seen c.carry_line-after.result.0) ≤ elections (g.Q.Desk.seen c.args.desk) + failovers_of c.args.lines.now =
    front_few g.Q.Desk.start c.args.moment c.loop-left.owed c.loop-left.left.now c.args.lines.now (g.Q.Desk.seen c.args.desk) (g.Q.Desk.seen c.loop-left.desk) (g.Q.Desk.seen c.carry_line-after.result.0) c.loop-left.invariant.front
    (line_few c.loop-left.owed c.line-item.result.item (g.Q.Desk.seen c.loop-left.desk) (g.Q.Desk.seen c.carry_line-after.result.0) c.carry_line-after.result.1 c.carry_line-after.ensures.elects) in
    omega (arith, few)

pub returns-clause-made : goal.returns-clause-made
returns-clause-made g c = front_made g.Q.Desk.start c.args.moment c.loop-left.owed c.loop-left.left.now c.args.lines.now (g.Q.Desk.seen c.args.desk) (g.Q.Desk.seen c.loop-left.desk) c.loop-left.invariant.front

pub returns-clause-rests : goal.returns-clause-rests
returns-clause-rests g c none =
    front_all g.Q.Desk.start c.args.moment c.loop-left.owed c.loop-left.left.now c.args.lines.now (g.Q.Desk.seen c.args.desk) (g.Q.Desk.seen c.loop-left.desk) (none_left c.loop-left.left.now c.in_default.len_below)
    c.loop-left.invariant.front c.loop-left.invariant.may.idle c.requires.waits.alone none

pub returns-clause-apart : goal.returns-clause-apart
returns-clause-apart g c none = c.loop-left.invariant.front.apart c.requires.waits.alone none

pub returns-clause-whole : goal.returns-clause-whole
returns-clause-whole g c = c.loop-left.invariant.may.whole

pub returns-clause-takes : goal.returns-clause-takes
returns-clause-takes g c =
    let all : idle_takes (g.Q.Desk.seen c.loop-left.desk) + waits_of c.args.workers c.loop-left.left.now ≤ idle_takes (g.Q.Desk.seen c.args.desk) + waits_of c.args.workers c.args.lines.now = c.loop-left.invariant.takes in
    omega (arith, all)

pub returns-clause-owes : goal.returns-clause-owes
returns-clause-owes g c = front_owes g.Q.Desk.start c.args.moment c.loop-left.owed c.loop-left.left.now c.args.lines.now (g.Q.Desk.seen c.args.desk) (g.Q.Desk.seen c.loop-left.desk) c.loop-left.invariant.front

pub returns-clause-elects : goal.returns-clause-elects
returns-clause-elects g c =
    let all : elections (g.Q.Desk.seen c.loop-left.desk) + c.loop-left.owed ≤ elections (g.Q.Desk.seen c.args.desk) + failovers_of c.args.lines.now =
    front_owes g.Q.Desk.start c.args.moment c.loop-left.owed c.loop-left.left.now c.args.lines.now (g.Q.Desk.seen c.args.desk) (g.Q.Desk.seen c.loop-left.desk) c.loop-left.invariant.front in
    omega (arith, all)
