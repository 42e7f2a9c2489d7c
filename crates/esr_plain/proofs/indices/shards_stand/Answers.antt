use Rattle.std.proofs.Common.{◌≡◌, ℕ, List, map, Option, Some, option_map, sym, subst}
use Rattle.esr_names.specs.declared.ids.Id.{Id}
use Rattle.esr_formats.specs.Ids.{number_of}
use Rattle.esr_formats.specs.Roots.{root_of}
use Rattle.esr_formats.specs.Formats.{formats}
use Rattle.esr_model.specs.Image.{At, IndexStands}
use Rattle.esr_plain.proofs.Loops.{holds, fails, so, not_so}
use Rattle.esr_plain.proofs.Standing.{place_of_all, places_more, places_all}
use Rattle.esr_plain.proofs.indices.shards_stand.Goals as goal
use Rattle.esr_model.specs.Image.{at_shard}

pub returns-then-not-branch : goal.returns-then-not-branch
returns-then-not-branch c = λ known told.
    let f = formats known told in
    let has = At f c.args.image.now in
    let root = root_of c.args.root.now in
    let i = c.args.index.now.id.number in
    let h : Option Id → Option ℕ = option_map number_of in
    fails (λ all. not_so c.in_ok-shard_stands.field-0 (c.in_ok-shard_stands.ensures known told) c.if-not-branch.true
    (place_of_all f has root i h c.as_slice-generation-items.result.now c.loop-number.number _ c.loop-number-test.true
    (subst (λ (gs : List (Option Id)). (j g : ℕ) → at_shard (map h gs) j ≡ Some g → IndexStands f has root i j g) (sym c.as_slice-generation-items.ensures.items) all)))

pub loop-number-preserved : goal.loop-number-preserved
loop-number-preserved c = λ known told.
    let f = formats known told in
    let has = At f c.args.image.now in
    let root = root_of c.args.root.now in
    let i = c.args.index.now.id.number in
    let h : Option Id → Option ℕ = option_map number_of in
    places_more f has root i h c.as_slice-generation-items.result.now c.loop-number.number _ c.loop-number-test.true
    (c.loop-number.invariant known told) (so c.in_ok-shard_stands.field-0 (c.in_ok-shard_stands.ensures known told) c.if-not-branch.false)

pub returns : goal.returns
returns c = λ known told.
    let f = formats known told in
    let has = At f c.args.image.now in
    let root = root_of c.args.root.now in
    let i = c.args.index.now.id.number in
    let h : Option Id → Option ℕ = option_map number_of in
    holds (subst (λ (gs : List (Option Id)). (j g : ℕ) → at_shard (map h gs) j ≡ Some g → IndexStands f has root i j g) c.as_slice-generation-items.ensures.items
    (places_all f has root i h c.as_slice-generation-items.result.now c.loop-number.number c.loop-number-test.false (c.loop-number.invariant known told)))
