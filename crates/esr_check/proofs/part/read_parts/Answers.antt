use Rattle.std.proofs.Common.{◌≡◌, ◌+◌, ◌*◌, ◌<◌, ◌≤◌, ◌^◌, ◌&&◌, refl, sym, ◌∙◌, subst, arith}
use Rattle.esr_names.specs.declared.blob.BlobName.{BlobName as CodeName}
use Rattle.esr_names.specs.Layout.{IsName}
use Rattle.esr_formats.specs.Names.{name_of}
use Rattle.esr_formats.specs.Roots.{root_of}
use Rattle.esr_formats.specs.Shards.{entry_of}
use Rattle.esr_shardidx.specs.Parts.{part_count}
use Rattle.esr_hash.specs.Fed.{fed_count}
use Rattle.esr_desk.specs.Own.{caller_of}
use Rattle.esr_desk.specs.Check.Conditions.{CanCheck}
use Rattle.esr_restore.specs.PartSizes.{part_layout, few_parts, fed_bound, blob_name}
use Rattle.esr_restore.specs.PartReads.{and_then, and_else, fed_most}
use Rattle.esr_check.specs.Names.{Just, IsOfFile}
use Rattle.esr_check.specs.Parts.{ReadPart}
use Rattle.esr_check.specs.Went.{Went}
use Rattle.esr_check.proofs.Going.{went_none, some_new, held_more, safe_on}
use Rattle.esr_check.proofs.Listing.{Below, below_new, below_next, below_all, below_then}
use Rattle.esr_check.proofs.Naming.{PartOf, part_apart, part_in}
use Rattle.esr_check.proofs.Parting.{so_far_none, so_far_flag, so_far_all, at_part}
use Rattle.esr_check.proofs.Reaching.{can_part}
use Rattle.esr_check.proofs.part.read_parts.Goals.{then-is_exact, else-is_exact}
use Rattle.esr_check.specs.First.{TellsOne, FirstOfFile}
use Rattle.esr_check.proofs.Telling.{passes}
use Rattle.esr_check.proofs.part.read_parts.Goals as goal

pub loop-number-init : goal.loop-number-init
loop-number-init g c = record {
  buffer = refl;
  so_far = c.requires.so_far;
  went = went_none g.Q.Desk.start (g.Q.Desk.seen c.args.desk.now) (Below (PartOf c.args.shard.at c.args.entry.now) 0);
  parts = so_far_none g.Q.Desk.start (caller_of g.Q.Desk.start (g.Q.Desk.seen c.args.desk.now)) c.args.hasher.now c.args.shard.at c.args.entry.now c.requires.fresh;
}

pub read_part-requires-clause-layout : goal.read_part-requires-clause-layout
read_part-requires-clause-layout g c κs within =
    let e = c.args.entry.now in
    let number = c.loop-number.number in
    let test : number < c.part_count-number-end.result = c.loop-number-test.true in
    let most : part_count e.print.len e.part_size ≤ e.print.len + 1 = few_parts e.print.len e.part_size c.requires.entry.least in
    let low : number < 2 ^ 61 = omega (arith, test, c.part_count-number-end.ensures.count, most, c.requires.entry.short) in
    subst IsName (sym c.part_name-name.ensures) (part_layout c.args.shard.at e number c.requires.shard.few low)

pub read_part-requires-clause-may : goal.read_part-requires-clause-may
read_part-requires-clause-may g c κs within =
    let s = g.Q.Desk.start in
    let e = c.args.entry.now in
    let at = c.args.shard.at in
    let number = c.loop-number.number in
    let old = g.Q.Desk.seen c.args.desk.now in
    let now = g.Q.Desk.seen c.loop-number.desk in
    let went = c.loop-number.invariant.went in
    let root = root_of c.args.shard.root.now in
    let own = c.requires.listed in
    let test : number < c.part_count-number-end.result = c.loop-number-test.true in
    let less : number < part_count e.print.len e.part_size = omega (arith, test, c.part_count-number-end.ensures.count) in
    let new =
    below_new s old now (PartOf at e) number (λ k name lower one two. part_apart at e k number name less lower one two)
    (some_new (caller_of s old) (IsOfFile at.index.number at.number e.name.number) (PartOf at e number) (λ name own. part_in at e number name own) c.requires.new) went in
    subst (λ (n : CodeName). CanCheck s now (name_of n)) (sym c.part_name-name.ensures)
    (can_part s now c.loop-number.count root at c.args.shard.generation.number own.held e number c.loop-number.invariant.so_far (safe_on s old now (Below (PartOf at e) number) root went c.requires.shard.safe) c.requires.shard.there
    (held_more s (caller_of s old) (caller_of s now) went.grown at.index.number at.number c.args.shard.generation.number own.held own.read) own.listed c.requires.entry.least less new)

pub read_part-requires-clause-bound : goal.read_part-requires-clause-bound
read_part-requires-clause-bound g c κs within =
    let e = c.args.entry.now in
    let so = c.loop-number.invariant.parts in
    let number = c.loop-number.number in
    fed_bound e.print.len e.part_size number c.part_count-number-end.result (fed_count c.loop-number.hasher) c.part_plan-size.result.1 c.requires.entry.least c.requires.entry.short
    c.part_count-number-end.ensures.count c.loop-number-test.true (fed_most c.loop-number.hasher so.fronts (number * e.part_size) e.print.len number so.fed so.count) c.part_plan-size.ensures.length

pub returns-in_err-is_whole-clause-went : goal.returns-in_err-is_whole-clause-went
returns-in_err-is_whole-clause-went g c =
    let s = g.Q.Desk.start in
    let e = c.args.entry.now in
    let at = c.args.shard.at in
    let mid = g.Q.Desk.seen c.loop-number.desk in
    let new = g.Q.Desk.seen c.read_part.new.desk in
    below_then s (g.Q.Desk.seen c.args.desk.now) mid new (PartOf at e) (IsOfFile at.index.number at.number e.name.number) c.loop-number.number (λ k name own. part_in at e k name own) c.loop-number.invariant.went
    (subst (λ (n : CodeName). Went s mid new (Just (name_of n))) c.part_name-name.ensures c.read_part.ensures.went)

pub loop-number-preserved : goal.loop-number-preserved
loop-number-preserved g c =
    let inv = c.loop-number.invariant in
    let s = g.Q.Desk.start in
    let e = c.args.entry.now in
    let at = c.args.shard.at in
    let number = c.loop-number.number in
    let mid = g.Q.Desk.seen c.loop-number.desk in
    let new = g.Q.Desk.seen c.read_part.new.desk in
    let done = c.in_ok-is_whole.ensures in
    let exact = c.loop-number.is_exact in
    let whole = c.in_ok-is_whole.is_whole in
    let flag : c.if-is_exact.is_exact ≡ exact && whole = elim c.if-is_exact.branch [
      | then-is_exact w ↦ and_then c.if-is_exact.is_exact exact whole w.if-is_exact.true w.is_exact-is
      | else-is_exact w ↦ and_else c.if-is_exact.is_exact exact whole w.if-is_exact.false w.is_exact-is
    ] in
    let went = subst (λ (n : CodeName). Went s mid new (Just (name_of n))) c.part_name-name.ensures c.read_part.ensures.went in
    let read = subst (λ (n : CodeName). ReadPart s (caller_of s new) c.loop-number.hasher c.read_part.new.hasher (name_of n) c.part_plan-size.result.1 whole) c.part_name-name.ensures done.read in
    record {
      buffer = c.read_part.ensures.buffer ∙ inv.buffer;
      so_far = done.so_far;
      went = below_next s (g.Q.Desk.seen c.args.desk.now) mid new (PartOf at e) number inv.went went;
      parts = so_far_flag s (caller_of s mid) (caller_of s new) c.loop-number.hasher c.read_part.new.hasher at e number c.part_plan-size.result.1 exact whole went.grown inv.parts read c.part_plan-size.ensures.length c.if-is_exact.is_exact flag;
    }

pub returns-clause-read : goal.returns-clause-read
returns-clause-read g c =
    let s = g.Q.Desk.start in
    let e = c.args.entry.now in
    let last : c.loop-number.number ≡ c.part_count-number-end.result = omega (arith, c.loop-number.auto.number-end, c.loop-number-test.false) in
    so_far_all s (caller_of s (g.Q.Desk.seen c.loop-number.desk)) c.loop-number.hasher c.args.shard.at e c.loop-number.number c.loop-number.is_exact c.requires.entry.least (last ∙ c.part_count-number-end.ensures.count) c.loop-number.invariant.parts

pub returns-clause-went : goal.returns-clause-went
returns-clause-went g c =
    let e = c.args.entry.now in
    let at = c.args.shard.at in
    below_all g.Q.Desk.start (g.Q.Desk.seen c.args.desk.now) (g.Q.Desk.seen c.loop-number.desk) (PartOf at e)
    (IsOfFile at.index.number at.number e.name.number) c.loop-number.number (λ k name own. part_in at e k name own) c.loop-number.invariant.went

pub returns-in_err-is_whole-clause-first : goal.returns-in_err-is_whole-clause-first
returns-in_err-is_whole-clause-first g c =
    let s = g.Q.Desk.start in
    let e = c.args.entry.now in
    let at = c.args.shard.at in
    let k = c.loop-number.number in
    let new = caller_of s (g.Q.Desk.seen c.read_part.new.desk) in
    let went = c.read_part.ensures.went in
    let test : k < c.part_count-number-end.result = c.loop-number-test.true in
    let less : k < part_count e.print.len e.part_size = omega (arith, test, c.part_count-number-end.ensures.count) in
    passes (Just (blob_name at e k)) (FirstOfFile s new at.index.number at.number (entry_of e)) c.from_residual.result c.in_err-is_whole.field-0.0 c.from_residual.ensures.1
    (λ name is. at_part s new at e k name (λ part has. went.grown.found part.0 (c.loop-number.invariant.parts.found part has)) c.requires.entry.least less is)
    (subst (λ (n : CodeName). TellsOne (Just (name_of n)) c.in_err-is_whole.field-0.0) c.part_name-name.ensures c.in_err-is_whole.ensures.first)
