use Rattle.std.proofs.Common.{List, [], Some, option_map, sym, ap, ◌∙◌, subst, arith}
use Rattle.esr_core.specs.World.{Ticket}
use Rattle.esr_names.specs.declared.ids.Id.{Id}
use Rattle.esr_core.specs.Entry.{DrawStep, DrawnFrom}
use Rattle.esr_formats.specs.Ids.{number_of}
use Rattle.esr_desk.specs.Calls.{Call, HasTaken}
use Rattle.esr_desk.specs.Evidence.{evidence}
use Rattle.esr_desk.specs.Start.{ticket_of}
use Rattle.esr_desk.specs.Grew.{grew_by_on, outcome_grew_by}
use Rattle.esr_desk.specs.Told.{draw_fresh, draw_tells}
use Rattle.esr_unit.specs.declared.trouble.Trouble.TheVariants.{Step}
use Rattle.esr_unit.specs.Refusals.{passed_on}
use Rattle.esr_upload.specs.Trouble.{Shown}
use Rattle.esr_upload.specs.Worked.{Went}
use Rattle.esr_upload.specs.Runs.{went_on, went_same, drew_went}
use Rattle.esr_upload.specs.Ends.{done_on, if_err, step_shown}
use Rattle.esr_clone.specs.Copied.{IsCopy}
use Rattle.esr_clone.proofs.Copying.{snap_copy, undrawn, can_draw, has_read}
use Rattle.esr_clone.proofs.unit.work.Goals as goal
use Rattle.esr_clone.proofs.unit.work.Goals.{In_ok-snap, In_ok-index, In_ok-first}

-- the ticket is of the clone's shard once its source was read
copy_at : (g : _) (c : In_ok-snap g) → IsCopy c.args.at.index.number c.args.at.number c.args.uuid.number c.args.source.number (option_map number_of c.args.base) (ticket_of g.Q.Desk.start (g.Q.Desk.seen c.fetch_snap.new.desk) c.args.ticket)
copy_at g c =
    let s = g.Q.Desk.start in
    let who = c.args.ticket in
    snap_copy s c.args.at.index.number c.args.at.number c.args.uuid.number c.args.source.number (option_map number_of c.args.base) (ticket_of s (g.Q.Desk.seen c.args.desk.now) who) (ticket_of s (g.Q.Desk.seen c.fetch_snap.new.desk) who)
    c.in_ok-snap.snap c.requires.unit c.in_ok-snap.ensures.read

-- how far it went when the base was read
read_went : (g : _) (c : In_ok-index g) → Went g.Q.Desk.start (g.Q.Desk.seen c.args.desk.now) (g.Q.Desk.seen c.base_of.new.desk) c.args.ticket
read_went g c = went_on g.Q.Desk.start (g.Q.Desk.seen c.args.desk.now) (g.Q.Desk.seen c.fetch_snap.new.desk) (g.Q.Desk.seen c.base_of.new.desk) c.args.ticket c.fetch_snap.ensures.went c.base_of.ensures.went

-- and when its id was drawn
drawn_went : (g : _) (c : In_ok-first g) → Went g.Q.Desk.start (g.Q.Desk.seen c.args.desk.now) (g.Q.Desk.seen c.draw.new.self) c.args.ticket
drawn_went g c =
    let s = g.Q.Desk.start in
    let who = c.args.ticket in
    let old = g.Q.Desk.seen c.args.desk.now in
    let one = g.Q.Desk.seen c.fetch_snap.new.desk in
    let two = g.Q.Desk.seen c.base_of.new.desk in
    let new = g.Q.Desk.seen c.draw.new.self in
    let drew = drew_went s two new who c.in_ok-first.first.number 1 (outcome_grew_by s two new who (DrawStep 1) (λ (first : Id). DrawnFrom first.number) c.draw.result c.draw.ensures.step) c.in_ok-first.ensures.own in
    went_on s old one new who c.fetch_snap.ensures.went (went_on s one two new who c.base_of.ensures.went drew)

pub fetch_snap-requires-clause-at : goal.fetch_snap-requires-clause-at
fetch_snap-requires-clause-at g c κs within = c.requires.unit.at

pub fetch_snap-requires-clause-source : goal.fetch_snap-requires-clause-source
fetch_snap-requires-clause-source g c κs within = c.requires.unit.source_is

pub base_of-requires-clause-at : goal.base_of-requires-clause-at
base_of-requires-clause-at g c κs within = (copy_at g (goal.at.base_of-requires-clause-at g c).In_ok-snap).at

pub base_of-requires-clause-undrawn : goal.base_of-requires-clause-undrawn
base_of-requires-clause-undrawn g c κs within = (copy_at g (goal.at.base_of-requires-clause-undrawn g c).In_ok-snap).undrawn

pub base_of-requires-clause-uuid : goal.base_of-requires-clause-uuid
base_of-requires-clause-uuid g c κs within = (copy_at g (goal.at.base_of-requires-clause-uuid g c).In_ok-snap).uuid_is

pub base_of-requires-clause-base : goal.base_of-requires-clause-base
base_of-requires-clause-base g c κs within = (copy_at g (goal.at.base_of-requires-clause-base g c).In_ok-snap).base_is

pub returns-in_err-index-clause-trouble : goal.returns-in_err-index-clause-trouble
returns-in_err-index-clause-trouble g c =
    let e = evidence g.Q.Stage.Counted.faults g.Q.Fetch.Counted.faults g.Q.Shard.Counted.faults g.Q.Target.Counted.faults g.Q.Shard.Shard.told g.Q.Target.Target.told in
    passed_on c.from_residual-in_err-index.result (Shown e 0 (Some []) g.Q.Desk.start (g.Q.Desk.seen c.base_of.new.desk) c.args.ticket) c.in_err-index.field-0.0 c.from_residual-in_err-index.ensures.1 c.in_err-index.ensures.trouble

pub returns-in_err-index-clause-went : goal.returns-in_err-index-clause-went
returns-in_err-index-clause-went g c =
    if_err c.from_residual-in_err-index.result
    (went_on g.Q.Desk.start (g.Q.Desk.seen c.args.desk.now) (g.Q.Desk.seen c.fetch_snap.new.desk) (g.Q.Desk.seen c.base_of.new.desk) c.args.ticket c.fetch_snap.ensures.went c.base_of.ensures.went)

pub returns-in_err-index-clause-grew : goal.returns-in_err-index-clause-grew
returns-in_err-index-clause-grew g c =
    grew_by_on g.Q.Desk.start c.args.ticket (g.Q.Desk.seen c.args.desk.now) (g.Q.Desk.seen c.fetch_snap.new.desk) (g.Q.Desk.seen c.base_of.new.desk) c.fetch_snap.ensures.went.grew c.base_of.ensures.went.grew

pub draw-requires-clause-may : goal.draw-requires-clause-may
draw-requires-clause-may g c =
    let s = g.Q.Desk.start in
    let who = c.args.ticket in
    can_draw s c.args.at.index.number c.args.at.number c.args.uuid c.args.source.number (option_map number_of c.args.base) c.in_ok-index.index c.in_ok-snap.snap
    (ticket_of s (g.Q.Desk.seen c.args.desk.now) who) (ticket_of s (g.Q.Desk.seen c.fetch_snap.new.desk) who) (ticket_of s (g.Q.Desk.seen c.base_of.new.desk) who) c.requires.unit c.in_ok-snap.ensures.read c.in_ok-index.ensures.based

pub draw-requires-clause-new : goal.draw-requires-clause-new
draw-requires-clause-new g c =
    let s = g.Q.Desk.start in
    let who = c.args.ticket in
    draw_fresh s (g.Q.Desk.seen c.base_of.new.desk) who 1 c.in_ok-index.ensures.tells
    (undrawn s c.args.at.index.number c.args.at.number c.args.uuid c.args.source.number (option_map number_of c.args.base) c.in_ok-index.index c.in_ok-snap.snap
    (ticket_of s (g.Q.Desk.seen c.args.desk.now) who) (ticket_of s (g.Q.Desk.seen c.fetch_snap.new.desk) who) (ticket_of s (g.Q.Desk.seen c.base_of.new.desk) who) c.requires.unit c.in_ok-snap.ensures.read c.in_ok-index.ensures.based)

pub returns-in_err-first-clause-trouble : goal.returns-in_err-first-clause-trouble
returns-in_err-first-clause-trouble g c =
    let s = g.Q.Desk.start in
    let who = c.args.ticket in
    let mid = g.Q.Desk.seen c.base_of.new.desk in
    let new = g.Q.Desk.seen c.draw.new.self in
    let refusal = c.in_err-first.field-0.0 in
    let e = evidence g.Q.Stage.Counted.faults g.Q.Fetch.Counted.faults g.Q.Shard.Counted.faults g.Q.Target.Counted.faults g.Q.Shard.Shard.told g.Q.Target.Target.told in
    let copy = copy_at g (goal.at.returns-in_err-first-clause-trouble g c).In_ok-snap in
    let work = ap (λ (t : Ticket). t.work) (c.in_err-first.ensures.kept ∙ c.in_ok-index.ensures.based.has_base.is) ∙ copy.at.work in
    passed_on c.from_residual-in_err-first.result (Shown e 0 (Some []) s new who) (Step refusal) c.from_residual-in_err-first.ensures.1
    (step_shown e 0 (Some []) s mid new who c.args.at.index.number c.args.at.number work (DrawStep 1) refusal c.refusals_are_of_their_steps.ensures tt (λ swap. swap) c.in_err-first.ensures.step)

pub returns-in_err-first-clause-went : goal.returns-in_err-first-clause-went
returns-in_err-first-clause-went g c =
    let s = g.Q.Desk.start in
    let who = c.args.ticket in
    let mid = g.Q.Desk.seen c.base_of.new.desk in
    let new = g.Q.Desk.seen c.draw.new.self in
    let ended = went_same s mid new who (outcome_grew_by s mid new who (DrawStep 1) (λ (first : Id). DrawnFrom first.number) c.draw.result c.draw.ensures.step) c.in_err-first.ensures.kept in
    if_err c.from_residual-in_err-first.result (went_on s (g.Q.Desk.seen c.args.desk.now) mid new who (read_went g (goal.at.returns-in_err-first-clause-went g c).In_ok-index) ended)

pub returns-in_err-first-clause-grew : goal.returns-in_err-first-clause-grew
returns-in_err-first-clause-grew g c =
    let s = g.Q.Desk.start in
    let who = c.args.ticket in
    let mid = g.Q.Desk.seen c.base_of.new.desk in
    let new = g.Q.Desk.seen c.draw.new.self in
    grew_by_on s who (g.Q.Desk.seen c.args.desk.now) mid new (read_went g (goal.at.returns-in_err-first-clause-grew g c).In_ok-index).grew
    (outcome_grew_by s mid new who (DrawStep 1) (λ (first : Id). DrawnFrom first.number) c.draw.result c.draw.ensures.step)

pub copy-requires-clause-read : goal.copy-requires-clause-read
copy-requires-clause-read g c κs within =
    let s = g.Q.Desk.start in
    let who = c.args.ticket in
    has_read s c.args.at.index.number c.args.at.number c.args.uuid c.args.source.number (option_map number_of c.args.base) c.in_ok-index.index c.in_ok-snap.snap
    (ticket_of s (g.Q.Desk.seen c.args.desk.now) who) (ticket_of s (g.Q.Desk.seen c.fetch_snap.new.desk) who) (ticket_of s (g.Q.Desk.seen c.base_of.new.desk) who) c.requires.unit c.in_ok-snap.ensures.read c.in_ok-index.ensures.based
    c.in_ok-first.first.number (ticket_of s (g.Q.Desk.seen c.draw.new.self) who) c.in_ok-first.ensures.own

pub copy-requires-clause-tells : goal.copy-requires-clause-tells
copy-requires-clause-tells g c κs within =
    let first = c.in_ok-first.first.number in
    draw_tells g.Q.Desk.start (g.Q.Desk.seen c.base_of.new.desk) (g.Q.Desk.seen c.draw.new.self) c.args.ticket first 1
    (DrawnFrom first) c.requires.mine.some c.in_ok-index.ensures.tells c.in_ok-first.ensures.step c.in_ok-first.ensures.own (λ none. omega (arith, none))

pub returns-in_err-copy-clause-trouble : goal.returns-in_err-copy-clause-trouble
returns-in_err-copy-clause-trouble g c =
    let e = evidence g.Q.Stage.Counted.faults g.Q.Fetch.Counted.faults g.Q.Shard.Counted.faults g.Q.Target.Counted.faults g.Q.Shard.Shard.told g.Q.Target.Target.told in
    passed_on c.from_residual-in_err-copy.result (Shown e 0 (Some []) g.Q.Desk.start (g.Q.Desk.seen c.copy.new.desk) c.args.ticket) c.in_err-copy.field-0.0 c.from_residual-in_err-copy.ensures.1 c.in_err-copy.ensures.trouble

pub returns-in_err-copy-clause-went : goal.returns-in_err-copy-clause-went
returns-in_err-copy-clause-went g c =
    if_err c.from_residual-in_err-copy.result
    (went_on g.Q.Desk.start (g.Q.Desk.seen c.args.desk.now) (g.Q.Desk.seen c.draw.new.self) (g.Q.Desk.seen c.copy.new.desk) c.args.ticket (drawn_went g (goal.at.returns-in_err-copy-clause-went g c).In_ok-first) c.in_err-copy.ensures.went)

pub returns-in_err-copy-clause-grew : goal.returns-in_err-copy-clause-grew
returns-in_err-copy-clause-grew g c =
    grew_by_on g.Q.Desk.start c.args.ticket (g.Q.Desk.seen c.args.desk.now) (g.Q.Desk.seen c.draw.new.self) (g.Q.Desk.seen c.copy.new.desk) (drawn_went g (goal.at.returns-in_err-copy-clause-grew g c).In_ok-first).grew c.copy.ensures.grew

pub returns-clause-ok : goal.returns-clause-ok
returns-clause-ok g c = done_on g.Q.Desk.start (g.Q.Desk.seen c.args.desk.now) (g.Q.Desk.seen c.draw.new.self) (g.Q.Desk.seen c.copy.new.desk) c.args.ticket (drawn_went g (goal.at.returns-clause-ok g c).In_ok-first) c.in_ok-copy.ensures.ok

pub returns-clause-grew : goal.returns-clause-grew
returns-clause-grew g c = grew_by_on g.Q.Desk.start c.args.ticket (g.Q.Desk.seen c.args.desk.now) (g.Q.Desk.seen c.draw.new.self) (g.Q.Desk.seen c.copy.new.desk) (drawn_went g (goal.at.returns-clause-grew g c).In_ok-first).grew c.copy.ensures.grew

pub base_of-requires-clause-mine : goal.base_of-requires-clause-mine
base_of-requires-clause-mine g c κs within = subst (λ (calls : List Call). HasTaken calls c.args.ticket) (sym c.fetch_snap.ensures.calls) c.requires.mine

pub draw-requires-clause-mine : goal.draw-requires-clause-mine
draw-requires-clause-mine g c = subst (λ (calls : List Call). HasTaken calls c.args.ticket) (sym (c.base_of.ensures.calls ∙ c.fetch_snap.ensures.calls)) c.requires.mine

pub copy-requires-clause-mine : goal.copy-requires-clause-mine
copy-requires-clause-mine g c κs within = subst (λ (calls : List Call). HasTaken calls c.args.ticket) (sym (c.draw.ensures.calls ∙ c.base_of.ensures.calls ∙ c.fetch_snap.ensures.calls)) c.requires.mine
