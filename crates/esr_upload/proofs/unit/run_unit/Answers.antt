use Rattle.std.proofs.Common.{◌≡◌, true, List, Option, ◌∙◌, sym, ap, subst}
use Rattle.esr_model.specs.Values.{Bytes}
use Rattle.esr_source.specs.Address.{address}
use Rattle.esr_source.specs.Told.{ShardTold, FileList}
use Rattle.esr_ops.specs.declared.unit.Work.{Work}
use Rattle.esr_desk.specs.Evidence.{evidence}
use Rattle.esr_desk.specs.Calls.{Call, HasTaken}
use Rattle.esr_desk.specs.Start.{ticket_of}
use Rattle.esr_desk.specs.Unit.Shown.{IsOf}
use Rattle.esr_desk.specs.Grew.{grew_by_none, grew_by_on}
use Rattle.esr_upload.specs.Refused.{told_of}
use Rattle.esr_upload.specs.Trouble.{Shown}
use Rattle.esr_upload.specs.Runs.{worked_none}
use Rattle.esr_upload.proofs.Drawing.{shard_fails, took_of, took_unit}
use Rattle.esr_upload.specs.Ends.{may_end}
use Rattle.esr_upload.proofs.Refusing.{steady_shard, end_shown, end_present, unit_ended}
use Rattle.esr_upload.proofs.unit.run_unit.Goals as goal
use Rattle.esr_upload.proofs.unit.run_unit.Goals.{In-Err-work}

-- ---- memory was wanting for the shard

pub returns-in-Err-clause-refused : goal.returns-in-Err-clause-refused
returns-in-Err-clause-refused g c = (worked_none (ticket_of g.Q.Desk.start (g.Q.Desk.seen c.args.desk.now) c.args.unit.now.ready.ticket), tt)

pub returns-in-Err-clause-grew : goal.returns-in-Err-clause-grew
returns-in-Err-clause-grew g c = grew_by_none g.Q.Desk.start c.args.unit.now.ready.ticket (g.Q.Desk.seen c.args.desk.now)

-- ---- its work

pub work-requires-clause-unit : goal.work-requires-clause-unit
work-requires-clause-unit g c κs within =
    let s = g.Q.Desk.start in
    let ready = c.args.unit.now.ready in
    let at = c.in-Shard.at in
    let sources = g.S.Sources.told c.args.sources.now in
    let made = c.in-Ok.ensures in
    let shard = g.S.Shard.Shard.told c.in-Ok.shard in
    took_unit s sources ready.work c.args.unit.now.new_root ready.op ready.copy (ticket_of s (g.Q.Desk.seen c.args.desk.now) ready.ticket) c.in-Shard.uuid at c.in-Shard.index c.in-Shard.place
    c.requires.sources c.in-Shard.is c.requires.fresh shard.files shard.is_there
    (made.files ∙ ap (λ (p : Bytes). sources.files p c.as_str-2.result.now at.number) c.as_str.ensures.text ∙ ap (λ (n : Bytes). sources.files c.in-Shard.place n at.number) c.as_str-2.ensures.text)
    (made.is_there ∙ ap (λ (p : Bytes). sources.is_there p c.as_str-2.result.now at.number) c.as_str.ensures.text ∙ ap (λ (n : Bytes). sources.is_there c.in-Shard.place n at.number) c.as_str-2.ensures.text)

-- ---- it could not do it

-- the shard is that of the address
address_at : (g : _) (c : In-Err-work g) → (g.S.Shard.Shard.told c.work.new.shard).address ≡ address c.as_str.result.now c.as_str-2.result.now c.in-Shard.at.number
address_at g c = ap (λ (t : ShardTold). t.address) c.work.ensures.same ∙ c.in-Ok.ensures.address

-- for which the ticket is
of_at : (g : _) (c : In-Err-work g) → IsOf (ticket_of g.Q.Desk.start (g.Q.Desk.seen c.args.desk.now) c.args.unit.now.ready.ticket) (g.S.Shard.Shard.told c.work.new.shard).address
of_at g c =
    let ready = c.args.unit.now.ready in
    let at = c.in-Shard.at in
    took_of ready.work c.args.unit.now.new_root ready.op ready.copy (ticket_of g.Q.Desk.start (g.Q.Desk.seen c.args.desk.now) ready.ticket)
    c.in-Shard.uuid at c.in-Shard.index c.in-Shard.place c.in-Shard.is c.requires.fresh (g.S.Shard.Shard.told c.work.new.shard).address
    (address_at g c ∙ ap (λ (p : Bytes). address p c.as_str-2.result.now at.number) c.as_str.ensures.text ∙ ap (λ (n : Bytes). address c.in-Shard.place n at.number) c.as_str-2.ensures.text)

-- where that is steady the shard has no fault
quiet_at : (g : _) (c : In-Err-work g)
    → g.Q.Desk.start.steady (g.S.Shard.Shard.told c.work.new.shard).address.place (g.S.Shard.Shard.told c.work.new.shard).address.index (g.S.Shard.Shard.told c.work.new.shard).address.number ≡ true
    → g.S.Shard.Counted.faults c.work.new.shard ≡ 0
quiet_at g c =
    let shard = c.work.new.shard in
    let made = c.in-Ok.ensures in
    steady_shard g.Q.Desk.start (g.S.Sources.told c.args.sources.now) c.as_str.result.now c.as_str-2.result.now c.in-Shard.at.number
    (g.S.Shard.Shard.told shard).address (g.S.Shard.Shard.told c.in-Ok.shard).is_sure (g.S.Shard.Counted.faults c.in-Ok.shard) (g.S.Shard.Counted.faults shard)
    c.requires.sources (address_at g c) made.sure made.count c.work.ensures.steady

-- and the trouble is shown
shown_at : (g : _) (c : In-Err-work g)
    → Shown (evidence g.Q.Stage.Counted.faults g.Q.Fetch.Counted.faults g.S.Shard.Counted.faults g.Q.Target.Counted.faults g.S.Shard.Shard.told g.Q.Target.Target.told) (g.S.Shard.Counted.faults c.work.new.shard)
    (told_of (g.S.Sources.told c.args.sources.now).files c.args.unit.now.ready.work) g.Q.Desk.start (g.Q.Desk.seen c.work.new.desk) c.args.unit.now.ready.ticket c.in-Err-work.trouble
shown_at g c =
    let at = c.in-Shard.at in
    let sources = g.S.Sources.told c.args.sources.now in
    let e = evidence g.Q.Stage.Counted.faults g.Q.Fetch.Counted.faults g.S.Shard.Counted.faults g.Q.Target.Counted.faults g.S.Shard.Shard.told g.Q.Target.Target.told in
    let files : (g.S.Shard.Shard.told c.in-Ok.shard).files ≡ told_of sources.files c.args.unit.now.ready.work =
    c.in-Ok.ensures.files ∙ ap (λ (p : Bytes). sources.files p c.as_str-2.result.now at.number) c.as_str.ensures.text ∙ ap (λ (n : Bytes). sources.files c.in-Shard.place n at.number) c.as_str-2.ensures.text
    ∙ sym (ap (λ (w : Work). told_of sources.files w) c.in-Shard.is) in
    subst (λ (fs : Option FileList). Shown e (g.S.Shard.Counted.faults c.work.new.shard) fs g.Q.Desk.start (g.Q.Desk.seen c.work.new.desk) c.args.unit.now.ready.ticket c.in-Err-work.trouble) files c.in-Err-work.ensures.trouble

pub give_up-requires-clause-mine : goal.give_up-requires-clause-mine
give_up-requires-clause-mine g c κs within = subst (λ (calls : List Call). HasTaken calls c.args.unit.now.ready.ticket) (sym c.work.ensures.calls) c.requires.mine

pub give_up-requires-clause-may : goal.give_up-requires-clause-may
give_up-requires-clause-may g c κs within =
    let ready = c.args.unit.now.ready in
    may_end g.Q.Desk.start (g.Q.Desk.seen c.work.new.desk) ready.ticket c.with_shard.result
    (shard_fails ready.work c.args.unit.now.new_root ready.op ready.copy (ticket_of g.Q.Desk.start (g.Q.Desk.seen c.args.desk.now) ready.ticket)
    (ticket_of g.Q.Desk.start (g.Q.Desk.seen c.work.new.desk) ready.ticket) c.in-Shard.uuid c.in-Shard.at c.in-Shard.index c.in-Shard.place
    c.in-Shard.is c.requires.fresh c.in-Err-work.ensures.went.worked)

pub give_up-requires-clause-shown : goal.give_up-requires-clause-shown
give_up-requires-clause-shown g c κs within =
    let in_err = (goal.at.give_up-requires-clause-shown g c).In-Err-work in
    let e = evidence g.Q.Stage.Counted.faults g.Q.Fetch.Counted.faults g.S.Shard.Counted.faults g.Q.Target.Counted.faults g.S.Shard.Shard.told g.Q.Target.Target.told in
    end_shown e (told_of (g.S.Sources.told c.args.sources.now).files c.args.unit.now.ready.work) g.Q.Desk.start (g.Q.Desk.seen c.args.desk.now) (g.Q.Desk.seen c.work.new.desk) c.args.unit.now.ready.ticket c.work.new.shard c.in-Err-work.trouble
    c.ending_of.result c.with_shard.result c.in-Err-work.ensures.went.worked (of_at g in_err) (quiet_at g in_err) (shown_at g in_err) c.ending_of.ensures c.with_shard.ensures

pub give_up-requires-clause-present : goal.give_up-requires-clause-present
give_up-requires-clause-present g c κs within =
    let in_err = (goal.at.give_up-requires-clause-present g c).In-Err-work in
    let e = evidence g.Q.Stage.Counted.faults g.Q.Fetch.Counted.faults g.S.Shard.Counted.faults g.Q.Target.Counted.faults g.S.Shard.Shard.told g.Q.Target.Target.told in
    end_present e (told_of (g.S.Sources.told c.args.sources.now).files c.args.unit.now.ready.work) g.Q.Desk.start (g.Q.Desk.seen c.args.desk.now) (g.Q.Desk.seen c.work.new.desk) c.args.unit.now.ready.ticket c.work.new.shard c.in-Err-work.trouble
    c.ending_of.result c.with_shard.result c.in-Err-work.ensures.went.worked (of_at g in_err) (quiet_at g in_err) (shown_at g in_err) c.ending_of.ensures c.with_shard.ensures

pub returns-in-Err-work-clause-refused : goal.returns-in-Err-work-clause-refused
returns-in-Err-work-clause-refused g c =
    let in_err = (goal.at.returns-in-Err-work-clause-refused g c).In-Err-work in
    let e = evidence g.Q.Stage.Counted.faults g.Q.Fetch.Counted.faults g.S.Shard.Counted.faults g.Q.Target.Counted.faults g.S.Shard.Shard.told g.Q.Target.Target.told in
    unit_ended e (told_of (g.S.Sources.told c.args.sources.now).files c.args.unit.now.ready.work) g.Q.Desk.start (g.Q.Desk.seen c.args.desk.now) (g.Q.Desk.seen c.work.new.desk) c.args.unit.now.ready.ticket c.work.new.shard c.in-Err-work.trouble
    c.ending_of.result c.with_shard.result c.in-Err-work.ensures.went.worked (of_at g in_err) (quiet_at g in_err) (shown_at g in_err) c.ending_of.ensures c.with_shard.ensures
    (g.Q.Desk.seen c.give_up.new.desk) c.give_up.result c.give_up.ensures.end

pub returns-in-Err-work-clause-grew : goal.returns-in-Err-work-clause-grew
returns-in-Err-work-clause-grew g c =
    grew_by_on g.Q.Desk.start c.args.unit.now.ready.ticket (g.Q.Desk.seen c.args.desk.now) (g.Q.Desk.seen c.work.new.desk) (g.Q.Desk.seen c.give_up.new.desk) c.work.ensures.grew c.give_up.ensures.grew

pub returns-in-Err-work-clause-calls : goal.returns-in-Err-work-clause-calls
returns-in-Err-work-clause-calls g c = c.give_up.ensures.others ∙ c.work.ensures.calls
