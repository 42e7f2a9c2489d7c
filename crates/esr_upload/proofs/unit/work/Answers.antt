use Rattle.std.proofs.Common.{◌≡◌, ◌+◌, ◌∙◌, true, false, List, Option, option_map, IfErr, sym, ap, subst, refl, arith}
use Rattle.esr_formats.specs.Ids.{number_of}
use Rattle.esr_model.specs.Names.{ShardIndex}
use Rattle.esr_core.specs.Entry.{DrawStep, FetchStep, DrawnFrom}
use Rattle.esr_names.specs.declared.ids.Id.{Id}
use Rattle.esr_desk.specs.Start.{ticket_of}
use Rattle.esr_desk.specs.Grew.{grew_by_on, outcome_grew_by}
use Rattle.esr_source.specs.Told.{ShardTold, FileList}
use Rattle.esr_desk.specs.Calls.{Call, HasTaken}
use Rattle.esr_desk.specs.Evidence.{evidence}
use Rattle.esr_unit.specs.declared.trouble.Trouble.TheVariants.{Step}
use Rattle.esr_upload.specs.Entries.{new_count}
use Rattle.esr_upload.specs.Trouble.{Shown, shown_any}
use Rattle.esr_upload.specs.Worked.{Went}
use Rattle.esr_upload.specs.Runs.{went_on, went_same, drew_went}
use Rattle.esr_upload.proofs.Going.{fetched_later, same_on, same_read, steady_on}
use Rattle.esr_upload.specs.Ends.{done_on, if_err, step_shown}
use Rattle.esr_upload.proofs.Drawing.{can_draw, has_drawn, drawn_for, ok_on, err_on}
use Rattle.esr_upload.proofs.Refusing.{read_shown}
use Rattle.esr_core.specs.World.{Ticket}
use Rattle.esr_desk.specs.Made.{none_fresh}
use Rattle.esr_desk.specs.Told.{none_tells, draw_fresh, draw_tells}
use Rattle.esr_unit.specs.Refusals.{passed_on}
use Rattle.esr_upload.proofs.unit.work.Goals as goal
use Rattle.esr_upload.proofs.unit.work.Goals.{In_ok-first}

-- how far it went when its ids were drawn
drawn_went : (g : _) (c : In_ok-first g) → Went g.Q.Desk.start (g.Q.Desk.seen c.args.desk.now) (g.Q.Desk.seen c.draw.new.self) c.args.job.now.ticket
drawn_went g c =
    let s = g.Q.Desk.start in
    let who = c.args.job.now.ticket in
    let mid = g.Q.Desk.seen c.base_of.new.desk in
    let drawn = g.Q.Desk.seen c.draw.new.self in
    let n = c.count_new.result + 1 in
    went_on s (g.Q.Desk.seen c.args.desk.now) mid drawn who c.base_of.ensures.went
    (drew_went s mid drawn who c.in_ok-first.first.number n (outcome_grew_by s mid drawn who (DrawStep n) (λ (first : Id). DrawnFrom first.number) c.draw.result c.draw.ensures.step) c.in_ok-first.ensures.own)

pub base_of-requires-clause-new : goal.base_of-requires-clause-new
base_of-requires-clause-new g c κs within =
    λ generation. none_fresh g.Q.Desk.start (g.Q.Desk.seen c.args.desk.now) c.args.job.now.ticket (FetchStep (ShardIndex c.args.job.now.at.index.number c.args.job.now.at.number generation)) c.requires.new

pub base_of-requires-clause-tells : goal.base_of-requires-clause-tells
base_of-requires-clause-tells g c κs within = none_tells g.Q.Desk.start (g.Q.Desk.seen c.args.desk.now) c.args.job.now.ticket c.requires.new

pub returns-in_err-index-clause-trouble : goal.returns-in_err-index-clause-trouble
returns-in_err-index-clause-trouble g c =
    let s = g.Q.Desk.start in
    let new = g.Q.Desk.seen c.base_of.new.desk in
    let e = evidence g.Q.Stage.Counted.faults g.Q.Fetch.Counted.faults g.Q.Shard.Counted.faults g.Q.Target.Counted.faults g.Q.Shard.Shard.told g.Q.Target.Target.told in
    let n = g.S.Counted.faults c.args.shard.now in
    let files = (g.S.Shard.told c.args.shard.now).files in
    let trouble = c.in_err-index.field-0.0 in
    passed_on c.from_residual.result (Shown e n files s new c.args.job.now.ticket) trouble c.from_residual.ensures.1 (shown_any e n files s new c.args.job.now.ticket trouble c.in_err-index.ensures.trouble)

pub returns-in_err-plans-clause-trouble : goal.returns-in_err-plans-clause-trouble
returns-in_err-plans-clause-trouble g c =
    let s = g.Q.Desk.start in
    let log = g.Q.Desk.seen c.base_of.new.desk in
    let e = evidence g.Q.Stage.Counted.faults g.Q.Fetch.Counted.faults g.Q.Shard.Counted.faults g.Q.Target.Counted.faults g.Q.Shard.Shard.told g.Q.Target.Target.told in
    let n = g.S.Counted.faults c.plan_files.new.shard in
    let files = (g.S.Shard.told c.args.shard.now).files in
    let trouble = c.in_err-plans.field-0.0 in
    passed_on c.from_residual-in_err-plans.result (Shown e n files s log c.args.job.now.ticket) trouble c.from_residual-in_err-plans.ensures.1 (read_shown e n files s log c.args.job.now.ticket trouble c.in_err-plans.ensures.trouble)

pub returns-in_err-first-clause-went : goal.returns-in_err-first-clause-went
returns-in_err-first-clause-went g c =
    let s = g.Q.Desk.start in
    let who = c.args.job.now.ticket in
    let mid = g.Q.Desk.seen c.base_of.new.desk in
    let new = g.Q.Desk.seen c.draw.new.self in
    let n = c.count_new.result + 1 in
    if_err c.from_residual-in_err-first.result
    (went_on s (g.Q.Desk.seen c.args.desk.now) mid new who c.base_of.ensures.went
    (went_same s mid new who (outcome_grew_by s mid new who (DrawStep n) (λ (first : Id). DrawnFrom first.number) c.draw.result c.draw.ensures.step) c.in_err-first.ensures.kept))

pub returns-in_err-first-clause-grew : goal.returns-in_err-first-clause-grew
returns-in_err-first-clause-grew g c =
    let s = g.Q.Desk.start in
    let who = c.args.job.now.ticket in
    let mid = g.Q.Desk.seen c.base_of.new.desk in
    let new = g.Q.Desk.seen c.draw.new.self in
    grew_by_on s who (g.Q.Desk.seen c.args.desk.now) mid new c.base_of.ensures.went.grew (outcome_grew_by s mid new who (DrawStep (c.count_new.result + 1)) (λ (first : Id). DrawnFrom first.number) c.draw.result c.draw.ensures.step)

pub returns-in_err-first-clause-trouble : goal.returns-in_err-first-clause-trouble
returns-in_err-first-clause-trouble g c =
    let s = g.Q.Desk.start in
    let who = c.args.job.now.ticket in
    let mid = g.Q.Desk.seen c.base_of.new.desk in
    let new = g.Q.Desk.seen c.draw.new.self in
    let refusal = c.in_err-first.field-0.0 in
    let at = c.args.job.now.at in
    let e = evidence g.Q.Stage.Counted.faults g.Q.Fetch.Counted.faults g.Q.Shard.Counted.faults g.Q.Target.Counted.faults g.Q.Shard.Shard.told g.Q.Target.Target.told in
    let n = g.S.Counted.faults c.plan_files.new.shard in
    let files = (g.S.Shard.told c.args.shard.now).files in
    let work = ap (λ (t : Ticket). t.work) (c.in_err-first.ensures.kept ∙ c.in_ok-index.ensures.based.has_base.is) ∙ c.requires.unit.at.work in
    passed_on c.from_residual-in_err-first.result (Shown e n files s new who) (Step refusal) c.from_residual-in_err-first.ensures.1
    (step_shown e n files s mid new who at.index.number at.number work (DrawStep (c.count_new.result + 1)) refusal c.refusals_are_of_their_steps.ensures tt (λ swap. swap) c.in_err-first.ensures.step)

pub returns-clause-grew : goal.returns-clause-grew
returns-clause-grew g c =
    grew_by_on g.Q.Desk.start c.args.job.now.ticket (g.Q.Desk.seen c.args.desk.now) (g.Q.Desk.seen c.draw.new.self) (g.Q.Desk.seen c.store.new.desk) (drawn_went g (goal.at.returns-clause-grew g c).In_ok-first).grew c.store.ensures.grew

pub returns-clause-steady : goal.returns-clause-steady
returns-clause-steady g c =
    steady_on (g.S.Shard.told c.args.shard.now) (g.S.Shard.told c.plan_files.new.shard) (g.S.Counted.faults c.args.shard.now) (g.S.Counted.faults c.plan_files.new.shard) (g.S.Counted.faults c.store.new.shard) c.plan_files.ensures.same
    c.plan_files.ensures.steady c.store.ensures.steady

pub returns-clause-ok : goal.returns-clause-ok
returns-clause-ok g c =
    ok_on c.store.result (done_on g.Q.Desk.start (g.Q.Desk.seen c.args.desk.now) (g.Q.Desk.seen c.draw.new.self) (g.Q.Desk.seen c.store.new.desk) c.args.job.now.ticket (drawn_went g (goal.at.returns-clause-ok g c).In_ok-first)) c.store.ensures.ok

pub returns-clause-went : goal.returns-clause-went
returns-clause-went g c =
    err_on c.store.result
    (went_on g.Q.Desk.start (g.Q.Desk.seen c.args.desk.now) (g.Q.Desk.seen c.draw.new.self) (g.Q.Desk.seen c.store.new.desk) c.args.job.now.ticket (drawn_went g (goal.at.returns-clause-went g c).In_ok-first)) c.store.ensures.went

pub draw-requires-clause-may : goal.draw-requires-clause-may
draw-requires-clause-may g c =
    let s = g.Q.Desk.start in
    let who = c.args.job.now.ticket in
    let shard = g.S.Shard.told c.args.shard.now in
    can_draw s shard.files shard.is_there (g.S.Shard.told c.plan_files.new.shard).listed c.args.job.now.at.index.number c.args.job.now.at.number c.args.job.now.uuid (option_map number_of c.args.job.now.base) c.in_ok-index.index c.in_ok-plans.plans
    (ticket_of s (g.Q.Desk.seen c.args.desk.now) who) (ticket_of s (g.Q.Desk.seen c.base_of.new.desk) who) c.requires.unit c.in_ok-index.ensures.based c.in_ok-plans.ensures.planned
    (λ no_place. let failed : false ≡ true = c.in_ok-plans.ensures.absent no_place in cc) c.count_new.result (c.count_new.ensures.count ∙ ap new_count c.as_slice.ensures)

pub store-requires-clause-drawn : goal.store-requires-clause-drawn
store-requires-clause-drawn g c κs within =
    let s = g.Q.Desk.start in
    let who = c.args.job.now.ticket in
    let shard = g.S.Shard.told c.args.shard.now in
    let listed = (g.S.Shard.told c.plan_files.new.shard).listed in
    let i = c.args.job.now.at.index.number in
    let k = c.args.job.now.at.number in
    let index = c.in_ok-index.index in
    let ps = c.in_ok-plans.plans in
    let first = c.in_ok-first.first.number in
    let new = ticket_of s (g.Q.Desk.seen c.draw.new.self) who in
    drawn_for s listed i k c.args.job.now.uuid index ps c.as_slice-2.result.now first new shard.files (g.S.Shard.told c.plan_files.new.shard).files (ap (λ (t : ShardTold). t.files) c.plan_files.ensures.same) c.as_slice-2.ensures
    (has_drawn s shard.files shard.is_there listed i k c.args.job.now.uuid (option_map number_of c.args.job.now.base) index ps (ticket_of s (g.Q.Desk.seen c.args.desk.now) who) (ticket_of s (g.Q.Desk.seen c.base_of.new.desk) who)
    c.requires.unit c.in_ok-index.ensures.based c.in_ok-plans.ensures.planned (λ no_place. let failed : false ≡ true = c.in_ok-plans.ensures.absent no_place in cc)
    first c.count_new.result new (c.count_new.ensures.count ∙ ap new_count c.as_slice.ensures) c.in_ok-first.ensures.own)

pub draw-requires-clause-new : goal.draw-requires-clause-new
draw-requires-clause-new g c =
    draw_fresh g.Q.Desk.start (g.Q.Desk.seen c.base_of.new.desk) c.args.job.now.ticket (c.count_new.result + 1) c.in_ok-index.ensures.tells (ap (λ (t : Ticket). t.drawn) c.in_ok-index.ensures.based.has_base.is ∙ c.requires.unit.undrawn)

pub store-requires-clause-tells : goal.store-requires-clause-tells
store-requires-clause-tells g c κs within =
    let n = c.count_new.result + 1 in
    let first = c.in_ok-first.first.number in
    draw_tells g.Q.Desk.start (g.Q.Desk.seen c.base_of.new.desk) (g.Q.Desk.seen c.draw.new.self) c.args.job.now.ticket first n
    (DrawnFrom first) c.requires.mine.some c.in_ok-index.ensures.tells c.in_ok-first.ensures.step c.in_ok-first.ensures.own (λ none. omega (arith, none))

-- ---- what it leaves of the shard and of the calls

pub draw-requires-clause-mine : goal.draw-requires-clause-mine
draw-requires-clause-mine g c = subst (λ (calls : List Call). HasTaken calls c.args.job.now.ticket) (sym c.base_of.ensures.calls) c.requires.mine

pub store-requires-clause-mine : goal.store-requires-clause-mine
store-requires-clause-mine g c κs within = subst (λ (calls : List Call). HasTaken calls c.args.job.now.ticket) (sym (c.draw.ensures.calls ∙ c.base_of.ensures.calls)) c.requires.mine

pub store-requires-clause-base : goal.store-requires-clause-base
store-requires-clause-base g c κs within = ap (λ (t : Ticket). t.base) (c.in_ok-first.ensures.own) ∙ ap (λ (t : Ticket). t.base) c.in_ok-index.ensures.based.has_base.is ∙ c.requires.unit.base_is

pub store-requires-clause-fetched : goal.store-requires-clause-fetched
store-requires-clause-fetched g c κs within =
    let s = g.Q.Desk.start in
    let who = c.args.job.now.ticket in
    let mid = g.Q.Desk.seen c.base_of.new.desk in
    let new = g.Q.Desk.seen c.draw.new.self in
    fetched_later s mid new who c.args.job.now.at.index.number c.args.job.now.at.number c.args.job.now.base
    (outcome_grew_by s mid new who (DrawStep (c.count_new.result + 1)) (λ (first : Id). DrawnFrom first.number) c.draw.result c.draw.ensures.step) c.in_ok-index.ensures.fetched

pub returns-clause-same : goal.returns-clause-same
returns-clause-same g c =
    same_on (g.S.Shard.told c.args.shard.now) (g.S.Shard.told c.plan_files.new.shard) (g.S.Shard.told c.store.new.shard) c.plan_files.ensures.same
    (same_read (g.S.Shard.told c.plan_files.new.shard) (g.S.Shard.told c.store.new.shard) c.store.ensures.kept)

pub returns-clause-trouble : goal.returns-clause-trouble
returns-clause-trouble g c =
    let s = g.Q.Desk.start in
    let new = g.Q.Desk.seen c.store.new.desk in
    let e = evidence g.Q.Stage.Counted.faults g.Q.Fetch.Counted.faults g.Q.Shard.Counted.faults g.Q.Target.Counted.faults g.Q.Shard.Shard.told g.Q.Target.Target.told in
    let n = g.S.Counted.faults c.store.new.shard in
    subst (λ (o : Option FileList). IfErr c.store.result (Shown e n o s new c.args.job.now.ticket)) (ap (λ (t : ShardTold). t.files) c.plan_files.ensures.same) c.store.ensures.trouble

pub returns-in_err-index-clause-same : goal.returns-in_err-index-clause-same
returns-in_err-index-clause-same g c = refl
