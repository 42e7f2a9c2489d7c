use Rattle.std.proofs.Common.{◌≡◌, ◌∙◌, ◌<◌, ℕ, List, Option, Some, map, option_map, length, refl, ap, subst, arith, sym}
use Rattle.esr_model.specs.Loops.{all, item_is}
use Rattle.esr_names.specs.declared.ids.Id.{Id}
use Rattle.esr_formats.specs.Ids.{number_of}
use Rattle.esr_formats.specs.Infos.{info_of_code}
use Rattle.esr_formats.specs.Roots.{root_of, root_index_of}
use Rattle.esr_model.specs.Image.{at_shard}
use Rattle.esr_desk.specs.Own.{caller_of}
use Rattle.esr_reach.specs.ShardPlaces.{at_place}
use Rattle.esr_check.specs.Names.{IsOfShard, IsOfShards}
use Rattle.esr_check.proofs.Going.{went_none, some_new, infos_more, safe_on}
use Rattle.esr_check.proofs.Listing.{Below, below_new, below_next, below_all, below_then}
use Rattle.esr_check.proofs.Naming.{numbers_apart, shard_in}
use Rattle.esr_check.proofs.Sharding.{HasFirst, first_next, place_passes}
use Rattle.esr_check.proofs.shard.check_shards.Goals as goal

pub loop-number-init : goal.loop-number-init
loop-number-init g c = record {
  buffer = refl;
  shards = λ k v is. absurd cc;
  so_far = c.requires.so_far;
  went = went_none g.Q.Desk.start (g.Q.Desk.seen c.args.desk.now) (Below (IsOfShard c.args.index.now.id.number) 0);
}

pub check_place-requires-clause-root : goal.check_place-requires-clause-root
check_place-requires-clause-root g c κs within =
    safe_on g.Q.Desk.start (g.Q.Desk.seen c.args.desk.now) (g.Q.Desk.seen c.loop-number.desk) (Below (IsOfShard c.args.index.now.id.number) c.loop-number.number) (root_of c.args.root.now) c.loop-number.invariant.went c.requires.root

pub check_place-requires-clause-infos : goal.check_place-requires-clause-infos
check_place-requires-clause-infos g c κs within =
    let s = g.Q.Desk.start in
    let root = root_of c.args.root.now in
    infos_more s (caller_of s (g.Q.Desk.seen c.args.desk.now)) (caller_of s (g.Q.Desk.seen c.loop-number.desk)) c.loop-number.invariant.went.grown root root.snapshots (map info_of_code c.args.infos.now) c.requires.infos

pub check_place-requires-clause-few : goal.check_place-requires-clause-few
check_place-requires-clause-few g c κs within =
    let less : c.loop-number.number < length c.as_slice-generation-items.result.now = c.loop-number-test.true in
    let same = ap (λ (l : List (Option Id)). length l) c.as_slice-generation-items.ensures.items in
    let most = c.as_slice-generation-items.ensures.rule.few in
    omega (arith, less, same, most)

pub check_place-requires-clause-generation : goal.check_place-requires-clause-generation
check_place-requires-clause-generation g c κs within =
    let h : Option Id → Option ℕ = option_map number_of in
    λ v is. c.requires.index c.loop-number.number v
    (subst (λ (gs : List (Option Id)). at_shard (map h gs) c.loop-number.number ≡ Some v) c.as_slice-generation-items.ensures.items (at_place h c.as_slice-generation-items.result.now c.loop-number.number _ c.loop-number-test.true ∙ is))

pub check_place-requires-clause-new : goal.check_place-requires-clause-new
check_place-requires-clause-new g c κs within =
    let s = g.Q.Desk.start in
    let old = g.Q.Desk.seen c.args.desk.now in
    let index = c.args.index.now.id.number in
    let n = c.loop-number.number in
    below_new s old (g.Q.Desk.seen c.loop-number.desk) (IsOfShard index) n (λ k name less one two. numbers_apart index k n name less one two)
    (some_new (caller_of s old) (IsOfShards index) (IsOfShard index n) (λ name own. shard_in index n name own) c.requires.new) c.loop-number.invariant.went

pub returns-in_err-check_place-clause-went : goal.returns-in_err-check_place-clause-went
returns-in_err-check_place-clause-went g c =
    let index = c.args.index.now.id.number in
    below_then g.Q.Desk.start (g.Q.Desk.seen c.args.desk.now) (g.Q.Desk.seen c.loop-number.desk) (g.Q.Desk.seen c.check_place.new.desk) (IsOfShard index)
    (IsOfShards index) c.loop-number.number (λ k name own. shard_in index k name own) c.loop-number.invariant.went c.check_place.ensures.went

pub loop-number-preserved : goal.loop-number-preserved
loop-number-preserved g c =
    let s = g.Q.Desk.start in
    let mid = g.Q.Desk.seen c.loop-number.desk in
    let new = g.Q.Desk.seen c.check_place.new.desk in
    let index = c.args.index.now.id.number in
    let xs = c.as_slice-generation-items.result.now in
    let n = c.loop-number.number in
    let inv = c.loop-number.invariant in
    let went = c.check_place.ensures.went in
    record {
      buffer = c.check_place.ensures.buffer ∙ inv.buffer;
      shards = first_next s (caller_of s mid) (caller_of s new) (root_of c.args.root.now) (map info_of_code c.args.infos.now) index xs n _ went.grown c.loop-number-test.true
          (item_is xs n _ c.loop-number-test.true) inv.shards c.in_ok-check_place.ensures.place;
      so_far = c.in_ok-check_place.ensures.so_far;
      went = below_next s (g.Q.Desk.seen c.args.desk.now) mid new (IsOfShard index) n inv.went went;
    }

pub returns-clause-shards : goal.returns-clause-shards
returns-clause-shards g c =
    let s = g.Q.Desk.start in
    let h : Option Id → Option ℕ = option_map number_of in
    let xs = c.as_slice-generation-items.result.now in
    let every = all h xs c.loop-number.number c.loop-number-test.false ∙ ap (λ (l : List (Option Id)). map h l) c.as_slice-generation-items.ensures.items in
    subst (λ (gs : List (Option ℕ)). HasFirst s (caller_of s (g.Q.Desk.seen c.loop-number.desk)) (root_of c.args.root.now) (map info_of_code c.args.infos.now) c.args.index.now.id.number gs) every c.loop-number.invariant.shards

pub returns-clause-went : goal.returns-clause-went
returns-clause-went g c =
    let index = c.args.index.now.id.number in
    below_all g.Q.Desk.start (g.Q.Desk.seen c.args.desk.now) (g.Q.Desk.seen c.loop-number.desk) (IsOfShard index) (IsOfShards index) c.loop-number.number (λ k name own. shard_in index k name own) c.loop-number.invariant.went

pub returns-in_err-check_place-clause-first : goal.returns-in_err-check_place-clause-first
returns-in_err-check_place-clause-first g c =
    let s = g.Q.Desk.start in
    let xs = c.as_slice-generation-items.result.now in
    let n = c.loop-number.number in
    let less = c.loop-number-test.true in
    place_passes s (caller_of s (g.Q.Desk.seen c.loop-number.desk)) (caller_of s (g.Q.Desk.seen c.check_place.new.desk)) (root_of c.args.root.now) (map info_of_code c.args.infos.now) (root_index_of c.args.index.now) xs n _
    c.check_place.ensures.went.grown less (item_is xs n _ less) (ap (λ (gs : List (Option Id)). map (option_map number_of) gs) (sym c.as_slice-generation-items.ensures.items)) c.loop-number.invariant.shards
    c.from_residual.result c.in_err-check_place.field-0.0 c.from_residual.ensures.1 c.in_err-check_place.ensures.first
