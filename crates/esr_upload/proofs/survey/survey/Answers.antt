use Rattle.std.proofs.Common.{◌≡◌, ℕ, ◌+◌, ◌≤◌, List, IfSome, Some, map, refl, sym, ap, ◌∙◌, subst, arith}
use Rattle.esr_source.specs.declared.files.ListedFile.{ListedFile}
use Rattle.esr_source.specs.Files.{IsListing, listed_of}
use Rattle.esr_source.specs.Told.{ShardTold}
use Rattle.esr_upload.proofs.Going.{same_on, same_read, same_listed, steady_on}
use Rattle.esr_reuse.specs.declared.reuse.ReadFile.{ReadFile}
use Rattle.esr_upload.proofs.Surveying.{ReadFirst, read_none, read_next, read_all}
use Rattle.esr_upload.proofs.survey.survey.Goals as goal

pub loop-file-preserved : goal.loop-file-preserved
loop-file-preserved g c =
    let inv = c.loop-file.invariant in
    let told = (g.S.Shard.told c.args.shard.now).files in
    let listed = c.as_slice-file-items.result.now in
    let is = subst (λ (l : List ListedFile). IfSome told (λ x. l ≡ map listed_of x)) (sym c.as_slice-file-items.ensures) c.in_ok-listed.ensures.told in
    let listing = subst IsListing (sym c.as_slice-file-items.ensures) c.in_ok-listed.ensures.rule in
    let before : g.S.Counted.faults c.args.shard.now ≤ g.S.Counted.faults c.loop-file.shard = inv.later in
    let after : g.S.Counted.faults c.loop-file.shard ≤ g.S.Counted.faults c.read_file.new.shard = c.read_file.ensures.cause.later in
    record {
      same = same_on (g.S.Shard.told c.args.shard.now) (g.S.Shard.told c.loop-file.shard) (g.S.Shard.told c.read_file.new.shard) inv.same (same_read (g.S.Shard.told c.loop-file.shard) (g.S.Shard.told c.read_file.new.shard) c.read_file.ensures.kept);
      files = ap (λ (t : ShardTold). t.files) c.read_file.ensures.kept ∙ inv.files;
      listed = ap (λ (t : ShardTold). t.listed) c.read_file.ensures.kept ∙ inv.listed;
      buffer = c.read_file.ensures.buffer ∙ inv.buffer;
      later = omega arith;
      steady = steady_on (g.S.Shard.told c.args.shard.now) (g.S.Shard.told c.loop-file.shard) (g.S.Counted.faults c.args.shard.now) (g.S.Counted.faults c.loop-file.shard) (g.S.Counted.faults c.read_file.new.shard)
          inv.same inv.steady c.read_file.ensures.steady;
      place_is = ap (λ (n : ℕ). n + 1) inv.place_is;
      read = read_next told (g.S.Shard.told c.loop-file.shard).files listed c.loop-file.file-index c.loop-file.place c.file-item.result c.loop-file.reads c.push.new.self c.in_ok-read_file.field-0 is listing c.loop-file-test.true inv.read
          c.in_ok-push.ensures.ok c.file-item.is inv.place_is inv.files c.in_ok-read_file.ensures.name c.in_ok-read_file.ensures.hashed;
    }

pub returns-clause-surveyed : goal.returns-clause-surveyed
returns-clause-surveyed g c =
    let inv = c.loop-file.invariant in
    let told = (g.S.Shard.told c.args.shard.now).files in
    let listed = c.as_slice-file-items.result.now in
    let is = subst (λ (l : List ListedFile). IfSome told (λ x. l ≡ map listed_of x)) (sym c.as_slice-file-items.ensures) c.in_ok-listed.ensures.told in
    let listing = subst IsListing (sym c.as_slice-file-items.ensures) c.in_ok-listed.ensures.rule in
    read_all told listed (g.S.Shard.told c.loop-file.shard).listed c.loop-file.file-index c.loop-file.reads is listing inv.listed c.loop-file-test.false inv.read

pub returns-in_err-read_file-clause-steady : goal.returns-in_err-read_file-clause-steady
returns-in_err-read_file-clause-steady g c =
    let inv = c.loop-file.invariant in
    steady_on (g.S.Shard.told c.args.shard.now) (g.S.Shard.told c.loop-file.shard) (g.S.Counted.faults c.args.shard.now) (g.S.Counted.faults c.loop-file.shard) (g.S.Counted.faults c.read_file.new.shard) inv.same inv.steady
    c.read_file.ensures.steady

pub returns-in_err-listed-clause-same : goal.returns-in_err-listed-clause-same
returns-in_err-listed-clause-same g c = same_listed c.list.result (g.S.Shard.told c.args.shard.now) (g.S.Shard.told c.list.new.self) c.list.ensures.ok c.list.ensures.err

pub loop-file-init : goal.loop-file-init
loop-file-init g c =
    let files = (g.S.Shard.told c.args.shard.now).files in
    record {
      same = same_listed c.list.result (g.S.Shard.told c.args.shard.now) (g.S.Shard.told c.list.new.self) c.list.ensures.ok c.list.ensures.err;
      files = ap (λ (t : ShardTold). t.files) c.in_ok-listed.ensures.ok;
      listed = ap (λ (t : ShardTold). t.listed) c.in_ok-listed.ensures.ok ∙ ap (λ (l : List ListedFile). Some l) (sym c.as_slice-file-items.ensures);
      buffer = refl;
      later = c.list.ensures.cause.later;
      steady = c.list.ensures.sure.count;
      place_is = refl;
      read = subst (λ (rs : List ReadFile). ReadFirst files c.as_slice-file-items.result.now 0 rs) (sym c.new-reads.ensures) (read_none files c.as_slice-file-items.result.now);
    }

pub returns-in_err-read_file-clause-same : goal.returns-in_err-read_file-clause-same
returns-in_err-read_file-clause-same g c = same_on (g.S.Shard.told c.args.shard.now) (g.S.Shard.told c.loop-file.shard)
    (g.S.Shard.told c.read_file.new.shard) c.loop-file.invariant.same (same_read (g.S.Shard.told c.loop-file.shard) (g.S.Shard.told c.read_file.new.shard) c.read_file.ensures.kept)

pub returns-in_err-push-clause-same : goal.returns-in_err-push-clause-same
returns-in_err-push-clause-same g c = same_on (g.S.Shard.told c.args.shard.now) (g.S.Shard.told c.loop-file.shard)
    (g.S.Shard.told c.read_file.new.shard) c.loop-file.invariant.same (same_read (g.S.Shard.told c.loop-file.shard) (g.S.Shard.told c.read_file.new.shard) c.read_file.ensures.kept)

pub returns-in_err-push-clause-steady : goal.returns-in_err-push-clause-steady
returns-in_err-push-clause-steady g c =
    let inv = c.loop-file.invariant in
    steady_on (g.S.Shard.told c.args.shard.now) (g.S.Shard.told c.loop-file.shard) (g.S.Counted.faults c.args.shard.now) (g.S.Counted.faults c.loop-file.shard) (g.S.Counted.faults c.read_file.new.shard) inv.same inv.steady
    c.read_file.ensures.steady
