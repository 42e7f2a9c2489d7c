use Rattle.std.proofs.Common.{◌≡◌, ◌+◌, ◌*◌, ◌<◌, ◌≤◌, ◌^◌, ◌&&◌, refl, sym, ◌∙◌, subst, arith}
use Rattle.esr_names.specs.declared.blob.BlobName.{BlobName as CodeName}
use Rattle.esr_names.specs.Layout.{IsName}
use Rattle.esr_formats.specs.Names.{name_of}
use Rattle.esr_shardidx.specs.Parts.{part_count}
use Rattle.esr_hash.specs.Fed.{fed_count}
use Rattle.esr_core.specs.Entry.{ReadBlob, ReadStep}
use Rattle.esr_desk.specs.Own.{reader_of}
use Rattle.esr_desk.specs.Once.{IsFresh}
use Rattle.esr_desk.specs.Restore.Conditions.{CanRead}
use Rattle.esr_restore.specs.Parts.{ReadPart}
use Rattle.esr_restore.proofs.Going.{went_none, went_on, went_at, still_mine}
use Rattle.esr_restore.proofs.Reading.{listed_more}
use Rattle.esr_restore.specs.PartSizes.{part_layout, few_parts, fed_bound}
use Rattle.esr_restore.specs.PartReads.{and_then, and_else, fed_most}
use Rattle.esr_restore.proofs.Parts.{can_read_part, so_far_none, so_far_flag, so_far_all, room_for}
use Rattle.esr_restore.proofs.part.read_parts.Goals.{then-is_exact, else-is_exact}
use Rattle.esr_desk.specs.Made.{ReadsOnly, reads_none}
use Rattle.esr_restore.specs.Unread.{IsPartBefore}
use Rattle.esr_restore.proofs.Once.{part_unread, part_more, parts_all}
use Rattle.esr_restore.proofs.part.read_parts.Goals as goal

pub loop-number-init : goal.loop-number-init
loop-number-init g c = record {
  calls = refl;
  buffer = refl;
  files = refl;
  steady = refl;
  made_for = refl;
  is_sure = refl;
  went = went_none g.Q.Desk.start (g.Q.Desk.seen c.args.desk.now) c.args.job.ticket;
  reads = reads_none g.Q.Desk.start (g.Q.Desk.seen c.args.desk.now) c.args.job.ticket (IsPartBefore c.args.job.at c.args.entry.now 0);
  so_far = so_far_none g.Q.Desk.start (reader_of g.Q.Desk.start (g.Q.Desk.seen c.args.desk.now) c.args.job.ticket) c.args.hasher.now (g.Q.Target.Target.told c.args.target.now).begun c.args.job.at c.args.entry.now c.requires.fresh c.requires.room;
}

pub read_part-requires-clause-mine : goal.read_part-requires-clause-mine
read_part-requires-clause-mine g c κs within =
    still_mine (g.Q.Desk.calls c.args.desk.now) (g.Q.Desk.calls c.loop-number.desk) c.args.job.ticket c.loop-number.invariant.calls c.requires.mine

pub read_part-requires-clause-layout : goal.read_part-requires-clause-layout
read_part-requires-clause-layout g c κs within =
    let e = c.args.entry.now in
    let number = c.loop-number.number in
    let test : number < c.part_count-number-end.result = c.loop-number-test.true in
    let most : part_count e.print.len e.part_size ≤ e.print.len + 1 = few_parts e.print.len e.part_size c.requires.entry.least in
    let low : number < 2 ^ 61 = omega (arith, test, c.part_count-number-end.ensures.count, most, c.requires.entry.short) in
    subst IsName (sym c.part_name-name.ensures) (part_layout c.args.job.at e number c.requires.few low)

pub read_part-requires-clause-may : goal.read_part-requires-clause-may
read_part-requires-clause-may g c κs within =
    let s = g.Q.Desk.start in
    let who = c.args.job.ticket in
    let e = c.args.entry.now in
    let at = c.args.job.at in
    let number = c.loop-number.number in
    let old = g.Q.Desk.seen c.args.desk.now in
    let now = g.Q.Desk.seen c.loop-number.desk in
    let went = c.loop-number.invariant.went in
    let test : number < c.part_count-number-end.result = c.loop-number-test.true in
    let less : number < part_count e.print.len e.part_size = omega (arith, test, c.part_count-number-end.ensures.count) in
    subst (λ (n : CodeName). CanRead s (reader_of s now who) (name_of n)) (sym c.part_name-name.ensures)
    (can_read_part s (reader_of s now who) at c.args.job.uuid.number e number (went_at s old now who at.index.number at.number c.args.job.uuid.number went c.requires.at)
    (listed_more s (reader_of s old who) (reader_of s now who) e went.worked c.requires.listed) c.requires.entry.least less)

pub read_part-requires-clause-room : goal.read_part-requires-clause-room
read_part-requires-clause-room g c κs within =
    let e = c.args.entry.now in
    room_for (g.Q.Target.Target.told c.loop-number.target).begun e.print.len (c.loop-number.number * e.part_size) e.part_size c.part_plan-size.result.1 c.loop-number.invariant.so_far.room c.part_plan-size.ensures.length

pub read_part-requires-clause-bound : goal.read_part-requires-clause-bound
read_part-requires-clause-bound g c κs within =
    let e = c.args.entry.now in
    let so = c.loop-number.invariant.so_far in
    let number = c.loop-number.number in
    fed_bound e.print.len e.part_size number c.part_count-number-end.result (fed_count c.loop-number.hasher) c.part_plan-size.result.1 c.requires.entry.least c.requires.entry.short
    c.part_count-number-end.ensures.count c.loop-number-test.true (fed_most c.loop-number.hasher so.fronts (number * e.part_size) e.print.len number so.fed so.count) c.part_plan-size.ensures.length

pub returns-in_err-is_whole-clause-went : goal.returns-in_err-is_whole-clause-went
returns-in_err-is_whole-clause-went g c = went_on g.Q.Desk.start (g.Q.Desk.seen c.args.desk.now) (g.Q.Desk.seen c.loop-number.desk) (g.Q.Desk.seen c.read_part.new.desk) c.args.job.ticket c.loop-number.invariant.went c.read_part.ensures.went

pub returns-in_err-is_whole-clause-calls : goal.returns-in_err-is_whole-clause-calls
returns-in_err-is_whole-clause-calls g c = c.read_part.ensures.calls ∙ c.loop-number.invariant.calls

pub loop-number-preserved : goal.loop-number-preserved
loop-number-preserved g c =
    let inv = c.loop-number.invariant in
    let s = g.Q.Desk.start in
    let who = c.args.job.ticket in
    let e = c.args.entry.now in
    let number = c.loop-number.number in
    let old = g.Q.Desk.seen c.args.desk.now in
    let mid = g.Q.Desk.seen c.loop-number.desk in
    let new = g.Q.Desk.seen c.read_part.new.desk in
    let done = c.in_ok-is_whole.ensures in
    let begun_old = (g.Q.Target.Target.told c.args.target.now).begun in
    let begun_mid = (g.Q.Target.Target.told c.loop-number.target).begun in
    let begun_new = (g.Q.Target.Target.told c.read_part.new.target).begun in
    let exact = c.loop-number.is_exact in
    let whole = c.in_ok-is_whole.is_whole in
    let flag : c.if-is_exact.is_exact ≡ exact && whole = elim c.if-is_exact.branch [
      | then-is_exact w ↦ and_then c.if-is_exact.is_exact exact whole w.if-is_exact.true w.is_exact-is
      | else-is_exact w ↦ and_else c.if-is_exact.is_exact exact whole w.if-is_exact.false w.is_exact-is
    ] in
    let read = subst (λ (n : CodeName). ReadPart s (reader_of s new who) c.loop-number.hasher c.read_part.new.hasher begun_mid begun_new (name_of n) c.part_plan-size.result.1 whole) c.part_name-name.ensures done.read in
    record {
      calls = done.calls ∙ inv.calls;
      buffer = done.buffer ∙ inv.buffer;
      files = done.files ∙ inv.files;
      steady = done.steady ∙ inv.steady;
      made_for = done.made_for ∙ inv.made_for;
      is_sure = done.is_sure ∙ inv.is_sure;
      went = went_on s old mid new who inv.went done.went;
      reads = part_more s old mid new who c.args.job.at e number inv.reads (subst (λ (n : CodeName). ReadsOnly s mid new who (λ x. x ≡ name_of n)) c.part_name-name.ensures done.reads);
      so_far = so_far_flag s (reader_of s mid who) (reader_of s new who) c.loop-number.hasher c.read_part.new.hasher begun_old begun_mid begun_new c.args.job.at e number c.part_plan-size.result.1 exact whole
          done.went.worked inv.so_far read c.part_plan-size.ensures.length c.if-is_exact.is_exact flag;
    }

pub returns-clause-read : goal.returns-clause-read
returns-clause-read g c =
    let inv = c.loop-number.invariant in
    let s = g.Q.Desk.start in
    let e = c.args.entry.now in
    let last : c.loop-number.number ≡ c.part_count-number-end.result = omega (arith, c.loop-number.auto.number-end, c.loop-number-test.false) in
    so_far_all s (reader_of s (g.Q.Desk.seen c.loop-number.desk) c.args.job.ticket) c.loop-number.hasher (g.Q.Target.Target.told c.args.target.now).begun
    (g.Q.Target.Target.told c.loop-number.target).begun c.args.job.at e c.loop-number.number c.loop-number.is_exact
    c.requires.entry.least (last ∙ c.part_count-number-end.ensures.count) inv.so_far

pub read_part-requires-clause-new : goal.read_part-requires-clause-new
read_part-requires-clause-new g c κs within =
    let s = g.Q.Desk.start in
    let e = c.args.entry.now in
    let number = c.loop-number.number in
    let old = g.Q.Desk.seen c.args.desk.now in
    let now = g.Q.Desk.seen c.loop-number.desk in
    let test : number < c.part_count-number-end.result = c.loop-number-test.true in
    let less : number < part_count e.print.len e.part_size = omega (arith, test, c.part_count-number-end.ensures.count) in
    subst (λ (n : CodeName). IsFresh s now c.args.job.ticket (ReadStep (ReadBlob (name_of n)))) (sym c.part_name-name.ensures) (part_unread s old now c.args.job.ticket c.args.job.at e number c.requires.new less c.loop-number.invariant.reads)

pub returns-clause-reads : goal.returns-clause-reads
returns-clause-reads g c = parts_all g.Q.Desk.start (g.Q.Desk.seen c.args.desk.now) (g.Q.Desk.seen c.loop-number.desk) c.args.job.ticket c.args.job.at c.args.entry.now c.loop-number.number c.loop-number.invariant.reads

pub returns-clause-steady : goal.returns-clause-steady
returns-clause-steady g c = c.loop-number.invariant.steady
