use Rattle.std.proofs.Common.{◌≡◌, Option, ap, subst}
use Rattle.esr_source.specs.Files.{bytes_at}
use Rattle.esr_source.specs.Told.{ShardTold, FileList}
use Rattle.esr_desk.specs.Evidence.{evidence}
use Rattle.esr_desk.specs.Start.{ticket_of}
use Rattle.esr_unit.specs.Refusals.{passed_on}
use Rattle.esr_upload.specs.Trouble.{Shown}
use Rattle.esr_upload.specs.Runs.{went_none}
use Rattle.esr_upload.proofs.Going.{read_on, same_read, steady_on}
use Rattle.esr_upload.proofs.Pieces.{all_numbered}
use Rattle.esr_upload.proofs.Refusing.{start_shown, change_shown}
use Rattle.esr_upload.proofs.Untold.{untold_at}
use Rattle.esr_upload.proofs.Told.{stored_all, all_told, changed_untold, prints_same, prints_differ}
use Rattle.esr_upload.proofs.file.store_file.Goals as goal

pub returns-in_err-start_file-clause-went : goal.returns-in_err-start_file-clause-went
returns-in_err-start_file-clause-went g c = went_none g.Q.Desk.start (g.Q.Desk.seen c.args.desk.now) c.args.job.now.ticket

pub returns-in_err-start_file-clause-trouble : goal.returns-in_err-start_file-clause-trouble
returns-in_err-start_file-clause-trouble g c =
    let s = g.Q.Desk.start in
    let log = g.Q.Desk.seen c.args.desk.now in
    let e = evidence g.Q.Stage.Counted.faults g.Q.Fetch.Counted.faults g.Q.Shard.Counted.faults g.Q.Target.Counted.faults g.Q.Shard.Shard.told g.Q.Target.Target.told in
    let files = (g.S.Shard.told c.args.shard.now).files in
    passed_on c.from_residual.result (Shown e (g.S.Counted.faults c.start_file.new.shard) files s log c.args.job.now.ticket) c.in_err-start_file.field-0.0 c.from_residual.ensures.1
    (start_shown e (g.S.Counted.faults c.start_file.new.shard) files s log c.args.job.now.ticket c.in_err-start_file.field-0.0 c.in_err-start_file.ensures.trouble)

-- ---- the parts

pub put_parts-requires-clause-numbered : goal.put_parts-requires-clause-numbered
put_parts-requires-clause-numbered g c κs within =
    all_numbered g.Q.Desk.start (g.S.Shard.told c.args.shard.now).files c.args.file c.args.job.now.at c.args.entry.now
    (ticket_of g.Q.Desk.start (g.Q.Desk.seen c.args.desk.now) c.args.job.now.ticket) c.requires.told c.requires.place c.requires.print c.requires.cut c.requires.size.0

pub returns-in_err-put_parts-clause-kept : goal.returns-in_err-put_parts-clause-kept
returns-in_err-put_parts-clause-kept g c = read_on (g.S.Shard.told c.args.shard.now) (g.S.Shard.told c.start_file.new.shard) (g.S.Shard.told c.put_parts.new.shard) c.start_file.ensures.kept c.put_parts.ensures.kept

pub returns-in_err-put_parts-clause-steady : goal.returns-in_err-put_parts-clause-steady
returns-in_err-put_parts-clause-steady g c =
    steady_on (g.S.Shard.told c.args.shard.now) (g.S.Shard.told c.start_file.new.shard) (g.S.Counted.faults c.args.shard.now) (g.S.Counted.faults c.start_file.new.shard) (g.S.Counted.faults c.put_parts.new.shard)
    (same_read (g.S.Shard.told c.args.shard.now) (g.S.Shard.told c.start_file.new.shard) c.start_file.ensures.kept) c.start_file.ensures.steady c.put_parts.ensures.steady

pub returns-in_err-put_parts-clause-trouble : goal.returns-in_err-put_parts-clause-trouble
returns-in_err-put_parts-clause-trouble g c =
    let s = g.Q.Desk.start in
    let new = g.Q.Desk.seen c.put_parts.new.desk in
    let e = evidence g.Q.Stage.Counted.faults g.Q.Fetch.Counted.faults g.Q.Shard.Counted.faults g.Q.Target.Counted.faults g.Q.Shard.Shard.told g.Q.Target.Target.told in
    let n = g.S.Counted.faults c.put_parts.new.shard in
    let trouble = c.in_err-put_parts.field-0.0 in
    let files : (g.S.Shard.told c.start_file.new.shard).files ≡ (g.S.Shard.told c.args.shard.now).files = ap (λ (t : ShardTold). t.files) c.start_file.ensures.kept in
    passed_on c.from_residual-in_err-put_parts.result (Shown e n (g.S.Shard.told c.args.shard.now).files s new c.args.job.now.ticket) trouble c.from_residual-in_err-put_parts.ensures.1
    (subst (λ (o : Option FileList). Shown e n o s new c.args.job.now.ticket trouble) files c.in_err-put_parts.ensures.trouble)

-- ---- it has changed

pub returns-then-ne-clause-kept : goal.returns-then-ne-clause-kept
returns-then-ne-clause-kept g c = read_on (g.S.Shard.told c.args.shard.now) (g.S.Shard.told c.start_file.new.shard) (g.S.Shard.told c.put_parts.new.shard) c.start_file.ensures.kept c.put_parts.ensures.kept

pub returns-then-ne-clause-steady : goal.returns-then-ne-clause-steady
returns-then-ne-clause-steady g c =
    steady_on (g.S.Shard.told c.args.shard.now) (g.S.Shard.told c.start_file.new.shard) (g.S.Counted.faults c.args.shard.now) (g.S.Counted.faults c.start_file.new.shard) (g.S.Counted.faults c.put_parts.new.shard)
    (same_read (g.S.Shard.told c.args.shard.now) (g.S.Shard.told c.start_file.new.shard) c.start_file.ensures.kept) c.start_file.ensures.steady c.put_parts.ensures.steady

pub returns-then-ne-clause-trouble : goal.returns-then-ne-clause-trouble
returns-then-ne-clause-trouble g c =
    let s = g.Q.Desk.start in
    let who = c.args.job.now.ticket in
    let new = g.Q.Desk.seen c.put_parts.new.desk in
    let old = ticket_of s (g.Q.Desk.seen c.args.desk.now) who in
    let files = (g.S.Shard.told c.args.shard.now).files in
    let e = evidence g.Q.Stage.Counted.faults g.Q.Fetch.Counted.faults g.Q.Shard.Counted.faults g.Q.Target.Counted.faults g.Q.Shard.Shard.told g.Q.Target.Target.told in
    let changed = changed_untold s files c.args.file (g.S.Shard.told c.start_file.new.shard).left (g.S.Shard.told c.put_parts.new.shard).left c.put_parts.new.hasher c.args.job.now.at c.args.entry.now old (ticket_of s new who) c.end-second.result
    c.requires.place c.in_ok-start_file.ensures.started c.requires.print c.in_ok-put_parts.ensures.put c.end-second.ensures.joined (prints_differ c.args.entry.now.print c.end-second.result c.ne.result c.ne.ensures c.if-ne.true) in
    change_shown e (g.S.Counted.faults c.put_parts.new.shard) files s new who c.args.entry.now.print c.end-second.result changed.0
    (untold_at s files old (ticket_of s new who) c.args.job.now.at.index.number c.args.job.now.at.number c.put_parts.ensures.went.worked c.requires.may.work c.requires.told changed.1) changed.1

-- ---- it is stored

pub returns-clause-kept : goal.returns-clause-kept
returns-clause-kept g c = read_on (g.S.Shard.told c.args.shard.now) (g.S.Shard.told c.start_file.new.shard) (g.S.Shard.told c.put_parts.new.shard) c.start_file.ensures.kept c.put_parts.ensures.kept

pub returns-clause-steady : goal.returns-clause-steady
returns-clause-steady g c =
    steady_on (g.S.Shard.told c.args.shard.now) (g.S.Shard.told c.start_file.new.shard) (g.S.Counted.faults c.args.shard.now) (g.S.Counted.faults c.start_file.new.shard) (g.S.Counted.faults c.put_parts.new.shard)
    (same_read (g.S.Shard.told c.args.shard.now) (g.S.Shard.told c.start_file.new.shard) c.start_file.ensures.kept) c.start_file.ensures.steady c.put_parts.ensures.steady

pub returns-clause-stored : goal.returns-clause-stored
returns-clause-stored g c =
    let s = g.Q.Desk.start in
    stored_all s (bytes_at (g.S.Shard.told c.args.shard.now).files c.args.file) (g.S.Shard.told c.start_file.new.shard).left (g.S.Shard.told c.put_parts.new.shard).left c.put_parts.new.hasher c.args.job.now.at c.args.entry.now
    (ticket_of s (g.Q.Desk.seen c.args.desk.now) c.args.job.now.ticket) (ticket_of s (g.Q.Desk.seen c.put_parts.new.desk) c.args.job.now.ticket) c.end-second.result
    c.in_ok-start_file.ensures.started c.requires.print c.in_ok-put_parts.ensures.put c.end-second.ensures.joined (prints_same c.args.entry.now.print c.end-second.result c.ne.result c.ne.ensures c.if-ne.false)

pub returns-clause-tells : goal.returns-clause-tells
returns-clause-tells g c =
    all_told g.Q.Desk.start (g.Q.Desk.seen c.put_parts.new.desk) c.args.job.now.ticket c.put_parts.new.hasher c.args.entry.now c.end-second.result c.in_ok-put_parts.ensures.tells c.end-second.ensures.joined
    (prints_same c.args.entry.now.print c.end-second.result c.ne.result c.ne.ensures c.if-ne.false)
