use Rattle.std.proofs.Common.{◌≡◌, ◌<◌, List, length, IsSomeAnd, sym, ap, subst, arith}
use Rattle.esr_source.specs.declared.files.ListedFile.{ListedFile}
use Rattle.esr_source.specs.Told.{ShardTold}
use Rattle.esr_test_files.proofs.Listed.{len_at}
use Rattle.esr_test_files.proofs.parts.print_at.Goals as goal

pub hash_file-requires-clause-told : goal.hash_file-requires-clause-told
hash_file-requires-clause-told g c =
    let files = c.as_slice.result.now in
    let same : (g.S.Shard.told c.list.new.self).files ≡ (g.S.Shard.told c.args.shard.now).files = ap (λ (t : ShardTold). t.files) c.in_ok-files.ensures.ok in
    let told = rw (← same, ← c.as_slice.ensures) at c.in_ok-files.ensures.told in
    let within : c.args.file < length files = omega (arith, c.if-file-len.false, c.len.ensures, ap (λ (l : List ListedFile). length l) c.as_slice.ensures) in
    λ lifetimes outlives. len_at files (g.S.Shard.told c.list.new.self).files c.args.file c.index-as_slice-file.result told within

pub hash_file-requires-clause-listed : goal.hash_file-requires-clause-listed
hash_file-requires-clause-listed g c κs within =
    let less : c.args.file < length c.in_ok-files.files = omega (arith, c.if-file-len.false, c.len.ensures) in
    subst (λ (t : ShardTold). IsSomeAnd t.listed (λ fs. c.args.file < length fs)) (sym c.in_ok-files.ensures.ok) less
