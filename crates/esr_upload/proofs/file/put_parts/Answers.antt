use Rattle.std.proofs.Common.{◌≡◌, ◌<◌, ◌≤◌, ◌+◌, ◌*◌, ◌-◌, ◌^◌, min, List, [], ◌++◌, Option, length, length-append, refl, sym, ap, subst, ◌∙◌, arith}
use Rattle.esr_source.specs.Told.{ShardTold, FileList}
use Rattle.esr_shardidx.specs.Parts.{part_count}
use Rattle.esr_desk.specs.Start.{ticket_of}
use Rattle.esr_upload.specs.Pieces.{blob_name}
use Rattle.esr_desk.specs.Calls.{Call, HasTaken}
use Rattle.esr_desk.specs.Evidence.{evidence}
use Rattle.esr_unit.specs.Refusals.{passed_on}
use Rattle.esr_upload.specs.Trouble.{Shown}
use Rattle.esr_upload.specs.Runs.{went_none, went_on}
use Rattle.esr_upload.proofs.Going.{read_on, same_read, steady_on}
use Rattle.esr_upload.proofs.Pieces.{can_store_next, cut_none, cut_put, consumes_none, consumes_more, all_put, short_put}
use Rattle.esr_upload.proofs.file.put_parts.Goals as goal

pub loop-number-init : goal.loop-number-init
loop-number-init g c = record {
  calls = refl;
  kept = refl;
  steady = λ sure. refl;
  buffer = refl;
  later = omega arith;
  bytes = [];
  took = consumes_none (g.S.Shard.told c.args.shard.now).left;
  fed = c.requires.fresh;
  count = omega arith;
  is = cut_none g.Q.Desk.start (blob_name c.args.job.now.at c.args.entry.now) c.args.entry.now.part_size (ticket_of g.Q.Desk.start (g.Q.Desk.seen c.args.desk.now) c.args.job.now.ticket);
  tells = c.requires.tells;
  went = went_none g.Q.Desk.start (g.Q.Desk.seen c.args.desk.now) c.args.job.now.ticket;
}

pub put_part-requires-clause-may : goal.put_part-requires-clause-may
put_part-requires-clause-may g c κs within =
    let inv = c.loop-number.invariant in
    let s = g.Q.Desk.start in
    let e = c.args.entry.now in
    let number = c.loop-number.number in
    let test : number < c.part_count-number-end.result = c.loop-number-test.true in
    let less : number < part_count e.print.len e.part_size = omega (arith, test, c.part_count-number-end.ensures.count) in
    let low : number * e.part_size < 2 ^ 61 = omega (arith, c.part_plan-size.ensures.place, c.part_plan-size.ensures.within, c.requires.short) in
    can_store_next s (ticket_of s (g.Q.Desk.seen c.args.desk.now) c.args.job.now.ticket) (ticket_of s (g.Q.Desk.seen c.loop-number.desk) c.args.job.now.ticket) inv.bytes c.args.job.now.at e number c.part_name-name.result
    c.requires.may c.requires.few c.requires.numbered c.requires.size.0 low less inv.is c.part_name-name.ensures

pub loop-number-preserved : goal.loop-number-preserved
loop-number-preserved g c =
    let inv = c.loop-number.invariant in
    let done = c.in_ok-put_part.ensures in
    let put = done.put in
    let whole = put.whole c.if-not-branch.false in
    let s = g.Q.Desk.start in
    let e = c.args.entry.now in
    let number = c.loop-number.number in
    let plan = c.part_plan-size.ensures in
    let fits : number * e.part_size ≤ e.print.len = omega (arith, plan.place, plan.within) in
    let len : length inv.bytes ≡ number * e.part_size = omega (arith, inv.count, fits) in
    let piece : length put.piece ≡ min e.part_size (e.print.len - number * e.part_size) = whole.0 ∙ plan.length in
    let within : length put.piece ≤ e.part_size = omega (arith, piece) in
    let next : (number + 1) * e.part_size ≡ number * e.part_size + e.part_size = omega arith in
    let sum : length (inv.bytes ++ put.piece) ≡ length inv.bytes + length put.piece = length-append inv.bytes put.piece in
    record {
      calls = done.calls ∙ inv.calls;
      kept = read_on (g.S.Shard.told c.args.shard.now) (g.S.Shard.told c.loop-number.shard) (g.S.Shard.told c.put_part.new.shard) inv.kept done.kept;
      steady = steady_on (g.S.Shard.told c.args.shard.now) (g.S.Shard.told c.loop-number.shard) (g.S.Counted.faults c.args.shard.now) (g.S.Counted.faults c.loop-number.shard) (g.S.Counted.faults c.put_part.new.shard)
          (same_read (g.S.Shard.told c.args.shard.now) (g.S.Shard.told c.loop-number.shard) inv.kept) inv.steady done.steady;
      buffer = done.buffer ∙ inv.buffer;
      later = omega (arith, inv.later, done.faults);
      bytes = inv.bytes ++ put.piece;
      took = consumes_more (g.S.Shard.told c.args.shard.now).left (g.S.Shard.told c.loop-number.shard).left (g.S.Shard.told c.put_part.new.shard).left inv.bytes put.piece inv.took put.took;
      fed = put.fed.joined inv.bytes inv.fed;
      count = omega (arith, sum, len, piece, next, fits);
      is = cut_put s c.args.job.now.at e number inv.bytes put.piece c.part_name-name.result
          (ticket_of s (g.Q.Desk.seen c.args.desk.now) c.args.job.now.ticket) (ticket_of s (g.Q.Desk.seen c.loop-number.desk) c.args.job.now.ticket) (ticket_of s (g.Q.Desk.seen c.put_part.new.desk) c.args.job.now.ticket)
          len within inv.is whole.1 c.part_name-name.ensures;
      tells = done.tells c.if-not-branch.false;
      went = went_on s (g.Q.Desk.seen c.args.desk.now) (g.Q.Desk.seen c.loop-number.desk) (g.Q.Desk.seen c.put_part.new.desk) c.args.job.now.ticket inv.went done.went;
    }

pub returns-clause-put : goal.returns-clause-put
returns-clause-put g c =
    let inv = c.loop-number.invariant in
    let s = g.Q.Desk.start in
    let last : c.loop-number.number ≡ c.part_count-number-end.result = omega (arith, c.loop-number.auto.number-end, c.loop-number-test.false) in
    all_put s (g.S.Shard.told c.args.shard.now).left (g.S.Shard.told c.loop-number.shard).left c.loop-number.hasher c.args.job.now.at c.args.entry.now
    (ticket_of s (g.Q.Desk.seen c.args.desk.now) c.args.job.now.ticket) (ticket_of s (g.Q.Desk.seen c.loop-number.desk) c.args.job.now.ticket) c.loop-number.number c.part_count-number-end.result inv.bytes
    c.requires.size.0 last c.part_count-number-end.ensures.count inv.took inv.fed inv.count inv.is

pub returns-then-not-branch-clause-put : goal.returns-then-not-branch-clause-put
returns-then-not-branch-clause-put g c =
    let inv = c.loop-number.invariant in
    let put = c.in_ok-put_part.ensures.put in
    let short = put.short c.if-not-branch.true in
    let s = g.Q.Desk.start in
    let e = c.args.entry.now in
    let number = c.loop-number.number in
    let plan = c.part_plan-size.ensures in
    let less : length inv.bytes + length put.piece < e.print.len = omega (arith, inv.count, short.0, plan.place, plan.within) in
    short_put s (g.S.Shard.told c.args.shard.now).left (g.S.Shard.told c.loop-number.shard).left (g.S.Shard.told c.put_part.new.shard).left c.put_part.new.hasher c.args.job.now.at e
    (ticket_of s (g.Q.Desk.seen c.args.desk.now) c.args.job.now.ticket) (ticket_of s (g.Q.Desk.seen c.put_part.new.desk) c.args.job.now.ticket) inv.bytes put.piece
    inv.took put.took (put.fed.joined inv.bytes inv.fed) short.1 less

pub returns-in_err-put_part-clause-went : goal.returns-in_err-put_part-clause-went
returns-in_err-put_part-clause-went g c = went_on g.Q.Desk.start (g.Q.Desk.seen c.args.desk.now) (g.Q.Desk.seen c.loop-number.desk) (g.Q.Desk.seen c.put_part.new.desk) c.args.job.now.ticket c.loop-number.invariant.went c.put_part.ensures.went

pub returns-then-not-branch-clause-went : goal.returns-then-not-branch-clause-went
returns-then-not-branch-clause-went g c = went_on g.Q.Desk.start (g.Q.Desk.seen c.args.desk.now) (g.Q.Desk.seen c.loop-number.desk) (g.Q.Desk.seen c.put_part.new.desk) c.args.job.now.ticket c.loop-number.invariant.went c.put_part.ensures.went

pub returns-clause-tells : goal.returns-clause-tells
returns-clause-tells g c = let inv = c.loop-number.invariant in record { bytes = inv.bytes; fed = inv.fed; tells = λ all. inv.tells }

pub returns-then-not-branch-clause-tells : goal.returns-then-not-branch-clause-tells
returns-then-not-branch-clause-tells g c =
    let inv = c.loop-number.invariant in
    let put = c.in_ok-put_part.ensures.put in
    let short = put.short c.if-not-branch.true in
    let e = c.args.entry.now in
    let plan = c.part_plan-size.ensures in
    let less : length inv.bytes + length put.piece < e.print.len = omega (arith, inv.count, short.0, plan.place, plan.within) in
    let sum : length (inv.bytes ++ put.piece) ≡ length inv.bytes + length put.piece = length-append inv.bytes put.piece in
    record { bytes = inv.bytes ++ put.piece; fed = put.fed.joined inv.bytes inv.fed; tells = λ all. let none : ⊥ = omega (arith, all, less, sum) in absurd none }

-- ---- what it leaves of the shard and of the calls

pub put_part-requires-clause-mine : goal.put_part-requires-clause-mine
put_part-requires-clause-mine g c κs within = subst (λ (calls : List Call). HasTaken calls c.args.job.now.ticket) (sym c.loop-number.invariant.calls) c.requires.mine

pub returns-in_err-put_part-clause-kept : goal.returns-in_err-put_part-clause-kept
returns-in_err-put_part-clause-kept g c = read_on (g.S.Shard.told c.args.shard.now) (g.S.Shard.told c.loop-number.shard) (g.S.Shard.told c.put_part.new.shard) c.loop-number.invariant.kept c.put_part.ensures.kept

pub returns-then-not-branch-clause-kept : goal.returns-then-not-branch-clause-kept
returns-then-not-branch-clause-kept g c = read_on (g.S.Shard.told c.args.shard.now) (g.S.Shard.told c.loop-number.shard) (g.S.Shard.told c.put_part.new.shard) c.loop-number.invariant.kept c.put_part.ensures.kept

pub returns-in_err-put_part-clause-steady : goal.returns-in_err-put_part-clause-steady
returns-in_err-put_part-clause-steady g c =
    let inv = c.loop-number.invariant in
    steady_on (g.S.Shard.told c.args.shard.now) (g.S.Shard.told c.loop-number.shard) (g.S.Counted.faults c.args.shard.now) (g.S.Counted.faults c.loop-number.shard) (g.S.Counted.faults c.put_part.new.shard)
    (same_read (g.S.Shard.told c.args.shard.now) (g.S.Shard.told c.loop-number.shard) inv.kept) inv.steady c.put_part.ensures.steady

pub returns-then-not-branch-clause-steady : goal.returns-then-not-branch-clause-steady
returns-then-not-branch-clause-steady g c =
    let inv = c.loop-number.invariant in
    steady_on (g.S.Shard.told c.args.shard.now) (g.S.Shard.told c.loop-number.shard) (g.S.Counted.faults c.args.shard.now) (g.S.Counted.faults c.loop-number.shard) (g.S.Counted.faults c.put_part.new.shard)
    (same_read (g.S.Shard.told c.args.shard.now) (g.S.Shard.told c.loop-number.shard) inv.kept) inv.steady c.put_part.ensures.steady

pub returns-in_err-put_part-clause-trouble : goal.returns-in_err-put_part-clause-trouble
returns-in_err-put_part-clause-trouble g c =
    let s = g.Q.Desk.start in
    let new = g.Q.Desk.seen c.put_part.new.desk in
    let e = evidence g.Q.Stage.Counted.faults g.Q.Fetch.Counted.faults g.Q.Shard.Counted.faults g.Q.Target.Counted.faults g.Q.Shard.Shard.told g.Q.Target.Target.told in
    let n = g.S.Counted.faults c.put_part.new.shard in
    let trouble = c.in_err-put_part.field-0.0 in
    let files : (g.S.Shard.told c.loop-number.shard).files ≡ (g.S.Shard.told c.args.shard.now).files = ap (λ (t : ShardTold). t.files) c.loop-number.invariant.kept in
    passed_on c.from_residual.result (Shown e n (g.S.Shard.told c.args.shard.now).files s new c.args.job.now.ticket) trouble c.from_residual.ensures.1
    (subst (λ (o : Option FileList). Shown e n o s new c.args.job.now.ticket trouble) files c.in_err-put_part.ensures.trouble)
