use Rattle.std.proofs.Common.{◌≡◌, ◌<◌, ◌+◌, ◌++◌, ℕ, length, sym, ap, ◌∙◌, subst, arith}
use Rattle.esr_names.specs.declared.blob.BlobName.{BlobName as CodeName}
use Rattle.esr_shardidx.specs.Parts.{part_count as code_part_count}
use Rattle.esr_formats.specs.Names.{name_of}
use Rattle.esr_formats.specs.Formats.{formats}
use Rattle.esr_model.specs.Values.{Bytes}
use Rattle.esr_model.specs.Image.{At}
use Rattle.esr_plain.specs.Exactly.{Always}
use Rattle.esr_plain.proofs.Loops.{so, not_so, exact_some, exact_none}
use Rattle.esr_plain.proofs.Blobs.{at_one}
use Rattle.esr_plain.proofs.Parts.{Begun, IsThere, begun_none, begun_more, there_more, joined_all, joined_absent, joined_uncut}
use Rattle.esr_plain.proofs.files.joined.Goals as goal

pub loop-k-init : goal.loop-k-init
loop-k-init c =
    subst (λ (b : Bytes). (begun : Begun c.args.shard c.args.entry.now 0 b) × Always (λ f. IsThere (At f c.args.image.now) c.args.shard c.args.entry.now 0 begun.parts)) (sym c.new-bytes.ensures)
    (begun_none c.args.shard c.args.entry.now, λ known told. tt)

pub returns-in_default : goal.returns-in_default
returns-in_default c = λ known told.
    let image = c.args.image.now in
    let e = c.args.entry.now in
    let k = c.loop-k.k in
    let less = subst (λ (n : ℕ). k < n) c.part_count-count.ensures.count c.loop-k-test.true in
    let f = formats known told in
    let none = exact_none (At f image (name_of c.part_name.result)) c.in_ok-part.field-0 c.in_default.is (c.in_ok-part.ensures known told) in
    joined_absent (At f image) c.args.shard e c.requires.least k less (subst (λ (n : CodeName). (b : Bytes) → At f image (name_of n) b → ⊥) c.part_name.ensures none)

pub returns-then-not-is_cut : goal.returns-then-not-is_cut
returns-then-not-is_cut c = λ known told.
    let image = c.args.image.now in
    let e = c.args.entry.now in
    let k = c.loop-k.k in
    let less = subst (λ (n : ℕ). k < n) c.part_count-count.ensures.count c.loop-k-test.true in
    let f = formats known told in
    let there = exact_some (At f image (name_of c.part_name.result)) c.in_ok-part.field-0 c.in-Some.part c.in-Some.is (c.in_ok-part.ensures known told) in
    joined_uncut (At f image) (at_one f image) c.args.shard e c.requires.least k c.in-Some.part less (subst (λ (n : CodeName). At f image (name_of n) c.in-Some.part) c.part_name.ensures there)
    (λ cut. not_so c.is_cut.result c.is_cut.ensures c.if-not-is_cut.true (λ more. ap (λ (b : Bytes). length b) c.as_slice.ensures ∙ cut (subst (λ (n : ℕ). k + 1 < n) c.part_count-count.ensures.count more)))

pub loop-k-preserved : goal.loop-k-preserved
loop-k-preserved c =
    let image = c.args.image.now in
    let shard = c.args.shard in
    let e = c.args.entry.now in
    let k = c.loop-k.k in
    let less = subst (λ (n : ℕ). k < n) c.part_count-count.ensures.count c.loop-k-test.true in
    let part = c.in-Some.part in
    let cut : k + 1 < code_part_count e.print.len e.part_size → length part ≡ e.part_size =
    (λ more. sym (ap (λ (b : Bytes). length b) c.as_slice.ensures) ∙ so c.is_cut.result c.is_cut.ensures c.if-not-is_cut.false (subst (λ (n : ℕ). k + 1 < n) (sym c.part_count-count.ensures.count) more)) in
    let bytes = c.in_ok-extend_from_slice.ensures.ok ∙ ap (λ (b : Bytes). c.loop-k.bytes ++ b) c.as_slice-in-loop-k.ensures in
    let begun = begun_more shard e k c.loop-k.bytes part less cut c.loop-k.invariant.0 in
    subst (λ (b : Bytes). (begun : Begun shard e (k + 1) b) × Always (λ f. IsThere (At f image) shard e (k + 1) begun.parts)) (sym bytes) (
      begun,
      λ known told.
          let f = formats known told in
          let there = exact_some (At f image (name_of c.part_name.result)) c.in_ok-part.field-0 part c.in-Some.is (c.in_ok-part.ensures known told) in
          there_more (At f image) shard e c.requires.least k c.loop-k.invariant.0.parts part less (subst (λ (n : CodeName). At f image (name_of n) part) c.part_name.ensures there) (c.loop-k.invariant.1 known told),
    )

pub returns : goal.returns
returns c = λ known told.
    let past = c.loop-k-test.false in
    let most : c.loop-k.k ≡ c.part_count-count.result = omega arith in
    joined_all (At (formats known told) c.args.image.now) c.args.shard c.args.entry.now c.requires.least c.loop-k.k c.loop-k.bytes c.loop-k.invariant.0 (c.loop-k.invariant.1 known told) (most ∙ c.part_count-count.ensures.count)
