use Rattle.std.proofs.Common.{◌≡◌, ◌+◌, ◌≤◌, [], arith}
use Rattle.esr_quiet.specs.Asking.{asking_on}
use Rattle.esr_drive.specs.Takes.{idle_takes}
use Rattle.esr_drive.specs.Elections.{waits_on, elects_wait, works_wait}
use Rattle.esr_drive.proofs.Works.{works_none}
use Rattle.esr_drive.proofs.Electing.{elects_then, tickets_then, readers_then, ready_then, stopped_then}
use Rattle.esr_drive.proofs.alone.work_alone.Goals as goal

pub returns-in-Ok-clause-grew : goal.returns-in-Ok-clause-grew
returns-in-Ok-clause-grew g c = asking_on g.Q.Desk.start [] [] (g.Q.Desk.seen c.args.desk.now) (g.Q.Desk.seen c.elect_all.new.desk) (g.Q.Desk.seen c.work.new.desk) c.elect_all.ensures.grew c.work.ensures.grew

pub returns-in-Ok-clause-only : goal.returns-in-Ok-clause-only
returns-in-Ok-clause-only g c =
    let old = g.Q.Desk.seen c.args.desk.now in
    let mid = g.Q.Desk.seen c.elect_all.new.desk in
    let new = g.Q.Desk.seen c.work.new.desk in
    waits_on old mid new (elects_wait old mid c.elect_all.ensures.only) (works_wait mid new (c.work.ensures.only c.requires.alone))

pub returns-in-Ok-clause-first : goal.returns-in-Ok-clause-first
returns-in-Ok-clause-first g c = record { mid = g.Q.Desk.seen c.elect_all.new.desk; elects = c.elect_all.ensures.only; works = c.work.ensures.only c.requires.alone }

pub returns-in-Ok-clause-takes : goal.returns-in-Ok-clause-takes
returns-in-Ok-clause-takes g c =
    let first : idle_takes (g.Q.Desk.seen c.elect_all.new.desk) ≡ idle_takes (g.Q.Desk.seen c.args.desk.now) = c.elect_all.ensures.takes in
    let few : idle_takes (g.Q.Desk.seen c.work.new.desk) ≤ idle_takes (g.Q.Desk.seen c.elect_all.new.desk) + 1 = c.work.ensures.takes c.requires.alone in
    omega (arith, first, few)

pub returns-in-Ok-clause-elects : goal.returns-in-Ok-clause-elects
returns-in-Ok-clause-elects g c = elects_then c.args.elections (g.Q.Desk.seen c.args.desk.now) (g.Q.Desk.seen c.elect_all.new.desk) (g.Q.Desk.seen c.work.new.desk) c.work.result c.in-Ok.ensures.elects (c.work.ensures.only c.requires.alone)

pub returns-in-Ok-clause-rest : goal.returns-in-Ok-clause-rest
returns-in-Ok-clause-rest g c = tickets_then g.Q.Desk.start (g.Q.Desk.seen c.args.desk.now) (g.Q.Desk.seen c.elect_all.new.desk) (g.Q.Desk.seen c.work.new.desk) c.work.result c.requires.alone c.elect_all.ensures.rest c.work.ensures.rest

pub returns-in-Ok-clause-readers : goal.returns-in-Ok-clause-readers
returns-in-Ok-clause-readers g c = readers_then g.Q.Desk.start (g.Q.Desk.seen c.args.desk.now) (g.Q.Desk.seen c.elect_all.new.desk) (g.Q.Desk.seen c.work.new.desk) c.work.result c.requires.alone c.elect_all.ensures.readers c.work.ensures.readers

pub returns-in-Ok-clause-ready : goal.returns-in-Ok-clause-ready
returns-in-Ok-clause-ready g c =
    ready_then g.Q.Desk.start (g.Q.Desk.seen c.work.new.desk) c.work.result (λ log. c.nothing_is_ready_after_an_empty_take.ensures g.Q.Desk.start log) (c.work.ensures.grew.legal (c.elect_all.ensures.grew.legal c.requires.legal)) c.work.ensures.idle

pub returns-in-Ok-clause-stopped : goal.returns-in-Ok-clause-stopped
returns-in-Ok-clause-stopped g c = stopped_then g.Q.Desk.start (g.Q.Desk.seen c.work.new.desk) c.work.result c.work.ensures.stopped

pub returns-in-Err-clause-only : goal.returns-in-Err-clause-only
returns-in-Err-clause-only g c = elects_wait (g.Q.Desk.seen c.args.desk.now) (g.Q.Desk.seen c.elect_all.new.desk) c.elect_all.ensures.only

pub returns-in-Err-clause-first : goal.returns-in-Err-clause-first
returns-in-Err-clause-first g c = record { mid = g.Q.Desk.seen c.elect_all.new.desk; elects = c.elect_all.ensures.only; works = works_none (g.Q.Desk.seen c.elect_all.new.desk) }

pub returns-in-Err-clause-takes : goal.returns-in-Err-clause-takes
returns-in-Err-clause-takes g c =
    let same : idle_takes (g.Q.Desk.seen c.elect_all.new.desk) ≡ idle_takes (g.Q.Desk.seen c.args.desk.now) = c.elect_all.ensures.takes in
    omega (arith, same)

pub returns-in-Err-clause-elects : goal.returns-in-Err-clause-elects
returns-in-Err-clause-elects g c = c.in-Err.ensures.elects
