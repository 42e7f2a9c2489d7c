use Rattle.std.proofs.Common.{◌≡◌, ℕ, ◌+◌, ◌∙◌, [], Some, refl, sym, ap, subst, List}
use Rattle.esr_desk.specs.Calls.{Call, HasTaken}
use Rattle.esr_desk.specs.Start.{ticket_of}
use Rattle.esr_upload.specs.Entries.{new_count}
use Rattle.esr_upload.specs.Runs.{went_on}
use Rattle.esr_upload.proofs.Going.{fetched_later}
use Rattle.esr_upload.specs.Ends.{done_on}
use Rattle.esr_upload.proofs.Drawing.{ok_on, err_on}
use Rattle.esr_desk.specs.Grew.{grew_by_on}
use Rattle.esr_upload.specs.Stored.{AreBelow}
use Rattle.esr_upload.specs.BaseReads.{none_below}
use Rattle.esr_upload.proofs.Closing.{ready, drew_last, base_ahead}
use Rattle.esr_desk.specs.Evidence.{evidence}
use Rattle.esr_upload.specs.Trouble.{Shown, shown_any}
use Rattle.esr_upload.proofs.Refusing.{on_err}
use Rattle.esr_upload.proofs.unit.store.Goals as goal

pub finish-requires-clause-drew : goal.finish-requires-clause-drew
finish-requires-clause-drew g c κs within =
    let s = g.Q.Desk.start in
    let who = c.args.job.now.ticket in
    let count : c.args.draft.first.number + c.from.result ≡ c.args.draft.first.number + new_count c.args.draft.plans.now = ap (λ (n : ℕ). c.args.draft.first.number + n) (c.from.ensures ∙ c.count_new.ensures.count) in
    drew_last s (g.S.Shard.told c.args.shard.now).files (g.S.Shard.told c.args.shard.now).listed c.args.job.now.at c.args.job.now.uuid
    c.args.draft.base.now c.args.draft.plans.now c.args.job.now.part_size c.args.draft.first.number c.in_ok-entries.entries
    (ticket_of s (g.Q.Desk.seen c.args.desk.now) who) (ticket_of s (g.Q.Desk.seen c.store_files.new.desk) who) c.requires.drawn c.requires.size c.requires.sized.0 c.in_ok-entries.ensures.stored (c.args.draft.first.number + c.from.result) count

pub store_files-requires-clause-below : goal.store_files-requires-clause-below
store_files-requires-clause-below g c κs within = none_below (ticket_of g.Q.Desk.start (g.Q.Desk.seen c.args.desk.now) c.args.job.now.ticket) c.args.draft.first.number c.requires.drawn.unnoted

pub finish-requires-clause-files : goal.finish-requires-clause-files
finish-requires-clause-files g c κs within =
    let t = ticket_of g.Q.Desk.start (g.Q.Desk.seen c.store_files.new.desk) c.args.job.now.ticket in
    let count : c.args.draft.first.number + c.from.result ≡ c.args.draft.first.number + new_count c.args.draft.plans.now = ap (λ (n : ℕ). c.args.draft.first.number + n) (c.from.ensures ∙ c.count_new.ensures.count) in
    subst (λ (n : ℕ). AreBelow t n) (sym count) c.in_ok-entries.ensures.below

pub store_files-requires-clause-told : goal.store_files-requires-clause-told
store_files-requires-clause-told g c κs within = record { source_is = c.requires.drawn.source_is; tells = c.requires.drawn.tells }

pub finish-requires-clause-ahead : goal.finish-requires-clause-ahead
finish-requires-clause-ahead g c κs within =
    let s = g.Q.Desk.start in
    let who = c.args.job.now.ticket in
    let told = g.S.Shard.told c.args.shard.now in
    let mid = g.Q.Desk.seen c.store_files.new.desk in
    λ refused. base_ahead s told.files told.listed c.args.job.now.at c.args.job.now.uuid c.args.draft.base.now c.args.draft.plans.now c.args.job.now.part_size c.args.draft.first.number c.in_ok-entries.entries
    (ticket_of s (g.Q.Desk.seen c.args.desk.now) who) (ticket_of s mid who) c.requires.drawn c.requires.size c.requires.sized.0 c.in_ok-entries.ensures.stored mid who refl c.requires.sized.1 refused
    c.args.job.now.base c.requires.base (fetched_later s (g.Q.Desk.seen c.args.desk.now) mid who c.args.job.now.at.index.number c.args.job.now.at.number c.args.job.now.base c.store_files.ensures.went.grew c.requires.fetched)

pub finish-requires-clause-ready : goal.finish-requires-clause-ready
finish-requires-clause-ready g c κs within =
    let s = g.Q.Desk.start in
    let who = c.args.job.now.ticket in
    let count : c.args.draft.first.number + c.from.result ≡ c.args.draft.first.number + new_count c.args.draft.plans.now = ap (λ (n : ℕ). c.args.draft.first.number + n) (c.from.ensures ∙ c.count_new.ensures.count) in
    ready s (g.S.Shard.told c.args.shard.now).files (g.S.Shard.told c.args.shard.now).listed c.args.job.now.at c.args.job.now.uuid c.args.draft.base.now c.args.draft.plans.now c.args.job.now.part_size c.args.draft.first.number c.in_ok-entries.entries
    (ticket_of s (g.Q.Desk.seen c.args.desk.now) who) (ticket_of s (g.Q.Desk.seen c.store_files.new.desk) who) c.requires.drawn c.requires.size c.requires.sized.0 c.in_ok-entries.ensures.stored
    (c.args.draft.first.number + c.from.result) c.sum_of.result count c.sum_of.ensures

pub returns-clause-ok : goal.returns-clause-ok
returns-clause-ok g c =
    let s = g.Q.Desk.start in
    let old = g.Q.Desk.seen c.args.desk.now in
    let mid = g.Q.Desk.seen c.store_files.new.desk in
    let new = g.Q.Desk.seen c.finish.new.desk in
    ok_on c.finish.result (done_on s old mid new c.args.job.now.ticket c.store_files.ensures.went) c.finish.ensures.ok

pub returns-clause-went : goal.returns-clause-went
returns-clause-went g c =
    err_on c.finish.result (went_on g.Q.Desk.start (g.Q.Desk.seen c.args.desk.now) (g.Q.Desk.seen c.store_files.new.desk) (g.Q.Desk.seen c.finish.new.desk) c.args.job.now.ticket c.store_files.ensures.went) c.finish.ensures.went

pub returns-clause-trouble : goal.returns-clause-trouble
returns-clause-trouble g c =
    let s = g.Q.Desk.start in
    let who = c.args.job.now.ticket in
    let new = g.Q.Desk.seen c.finish.new.desk in
    let e = evidence g.Q.Stage.Counted.faults g.Q.Fetch.Counted.faults g.Q.Shard.Counted.faults g.Q.Target.Counted.faults g.Q.Shard.Shard.told g.Q.Target.Target.told in
    let n = g.S.Counted.faults c.store_files.new.shard in
    let files = (g.S.Shard.told c.args.shard.now).files in
    on_err c.finish.result (Shown e 0 (Some []) s new who) (Shown e n files s new who) (λ trouble. shown_any e n files s new who trouble) c.finish.ensures.trouble

pub returns-clause-grew : goal.returns-clause-grew
returns-clause-grew g c =
    grew_by_on g.Q.Desk.start c.args.job.now.ticket (g.Q.Desk.seen c.args.desk.now) (g.Q.Desk.seen c.store_files.new.desk) (g.Q.Desk.seen c.finish.new.desk) c.store_files.ensures.went.grew c.finish.ensures.grew

pub finish-requires-clause-mine : goal.finish-requires-clause-mine
finish-requires-clause-mine g c κs within = subst (λ (calls : List Call). HasTaken calls c.args.job.now.ticket) (sym c.store_files.ensures.calls) c.requires.mine
