use Rattle.std.proofs.Common.{◌∙◌, List, map, take, refl, sym, ap, subst}
use Rattle.esr_model.specs.Loops.{has_at, every_more, every_all}
use Rattle.esr_root.specs.Root.{Root as CodeRoot}
use Rattle.esr_root.specs.Indices.{AreIndices}
use Rattle.esr_root.specs.declared.indices.RootIndex.{RootIndex as CodeIndex}
use Rattle.esr_model.specs.Values.{Has, RootIndex}
use Rattle.esr_formats.specs.Infos.{info_of_code}
use Rattle.esr_formats.specs.Roots.{root_of, root_index_of}
use Rattle.esr_desk.specs.Own.{caller_of}
use Rattle.esr_reach.specs.Reached.{generation_at}
use Rattle.esr_reach.specs.OnceEach.{indices_once}
use Rattle.esr_check.specs.Names.{IsOfAnyShard}
use Rattle.esr_check.specs.Pieces.{HasShards, HasIndices}
use Rattle.esr_check.proofs.Going.{went_none, some_new, infos_more, shards_more, safe_on}
use Rattle.esr_check.proofs.Listing.{Any, next_new, any_next, any_all, any_then}
use Rattle.esr_check.proofs.Naming.{IndexOf, index_key, index_any}
use Rattle.esr_check.proofs.Snapping.{each_once}
use Rattle.esr_check.specs.First.{IsNext, FirstOfShards, FirstOfIndices}
use Rattle.esr_check.proofs.Telling.{passes, next_at}
use Rattle.esr_check.proofs.index.check_each.Goals as goal

pub loop-index-init : goal.loop-index-init
loop-index-init g c = record {
  buffer = refl;
  indices = λ x has. absurd has;
  so_far = c.requires.so_far;
  went = went_none g.Q.Desk.start (g.Q.Desk.seen c.args.desk.now) (Any IndexOf (map root_index_of (take 0 c.as_slice-index-items.result.now)));
}

pub check_shards-requires-clause-root : goal.check_shards-requires-clause-root
check_shards-requires-clause-root g c κs within =
    safe_on g.Q.Desk.start (g.Q.Desk.seen c.args.desk.now) (g.Q.Desk.seen c.loop-index.desk)
    (Any IndexOf (map root_index_of (take c.loop-index.index-index c.as_slice-index-items.result.now))) (root_of c.args.root.now) c.loop-index.invariant.went c.requires.root

pub check_shards-requires-clause-infos : goal.check_shards-requires-clause-infos
check_shards-requires-clause-infos g c κs within =
    let s = g.Q.Desk.start in
    let root = root_of c.args.root.now in
    infos_more s (caller_of s (g.Q.Desk.seen c.args.desk.now)) (caller_of s (g.Q.Desk.seen c.loop-index.desk)) c.loop-index.invariant.went.grown root root.snapshots (map info_of_code c.args.infos.now) c.requires.infos

pub check_shards-requires-clause-index : goal.check_shards-requires-clause-index
check_shards-requires-clause-index g c κs within =
    let s = g.Q.Desk.start in
    let old = g.Q.Desk.seen c.args.desk.now in
    let root = root_of c.args.root.now in
    let own = root_index_of c.index-item.result in
    let items = c.as_slice-index-items.ensures.items ∙ ap (λ (r : CodeRoot). r.indices) c.root.view_is in
    let there = subst (λ (xs : List CodeIndex). Has (map root_index_of xs) own) items (has_at root_index_of c.as_slice-index-items.result.now c.loop-index.index-index c.index-item.result c.loop-index-test.true c.index-item.is) in
    λ k v is. generation_at root (each_once s old c.requires.root.0 root c.requires.root.1) own there k v is

pub check_shards-requires-clause-new : goal.check_shards-requires-clause-new
check_shards-requires-clause-new g c κs within =
    let s = g.Q.Desk.start in
    let old = g.Q.Desk.seen c.args.desk.now in
    let own = c.index-item.result in
    let xs = c.as_slice-index-items.result.now in
    let rule = subst AreIndices (sym c.as_slice-index-items.ensures.items) c.as_slice-index-items.ensures.rule in
    next_new s old (g.Q.Desk.seen c.loop-index.desk) (λ (x : RootIndex). x.id) IndexOf root_index_of xs c.loop-index.index-index own (λ a b name one two. index_key a b name one two) (indices_once xs rule) c.loop-index-test.true c.index-item.is
    (some_new (caller_of s old) IsOfAnyShard (IndexOf (root_index_of own)) (λ name of. index_any (root_index_of own) name of) c.requires.new) c.loop-index.invariant.went

pub returns-in_err-check_shards-clause-went : goal.returns-in_err-check_shards-clause-went
returns-in_err-check_shards-clause-went g c =
    any_then g.Q.Desk.start (g.Q.Desk.seen c.args.desk.now) (g.Q.Desk.seen c.loop-index.desk) (g.Q.Desk.seen c.check_shards.new.desk) IndexOf IsOfAnyShard
    (map root_index_of (take c.loop-index.index-index c.as_slice-index-items.result.now)) (root_index_of c.index-item.result)
    (λ x name own. index_any x name own) c.loop-index.invariant.went c.check_shards.ensures.went

pub loop-index-preserved : goal.loop-index-preserved
loop-index-preserved g c =
    let s = g.Q.Desk.start in
    let mid = g.Q.Desk.seen c.loop-index.desk in
    let new = g.Q.Desk.seen c.check_shards.new.desk in
    let root = root_of c.args.root.now in
    let infos = map info_of_code c.args.infos.now in
    let xs = c.as_slice-index-items.result.now in
    let i = c.loop-index.index-index in
    let own = c.index-item.result in
    let inv = c.loop-index.invariant in
    let went = c.check_shards.ensures.went in
    record {
      buffer = c.check_shards.ensures.buffer ∙ inv.buffer;
      indices = every_more (HasShards s (caller_of s new) root infos) root_index_of xs i own c.loop-index-test.true c.index-item.is
          (λ x has. shards_more s (caller_of s mid) (caller_of s new) went.grown root infos x (inv.indices x has)) c.in_ok-check_shards.ensures.shards;
      so_far = c.in_ok-check_shards.ensures.so_far;
      went = any_next s (g.Q.Desk.seen c.args.desk.now) mid new IndexOf root_index_of xs i own c.loop-index-test.true c.index-item.is inv.went went;
    }

pub returns-clause-indices : goal.returns-clause-indices
returns-clause-indices g c =
    let s = g.Q.Desk.start in
    let now = caller_of s (g.Q.Desk.seen c.loop-index.desk) in
    let root = root_of c.args.root.now in
    let infos = map info_of_code c.args.infos.now in
    let items = c.as_slice-index-items.ensures.items ∙ ap (λ (r : CodeRoot). r.indices) c.root.view_is in
    subst (λ (xs : List CodeIndex). HasIndices s now root infos (map root_index_of xs)) items
    (every_all (HasShards s now root infos) root_index_of c.as_slice-index-items.result.now c.loop-index.index-index c.loop-index-test.false c.loop-index.invariant.indices)

pub returns-clause-went : goal.returns-clause-went
returns-clause-went g c =
    any_all g.Q.Desk.start (g.Q.Desk.seen c.args.desk.now) (g.Q.Desk.seen c.loop-index.desk) IndexOf IsOfAnyShard
    (map root_index_of (take c.loop-index.index-index c.as_slice-index-items.result.now)) (λ x name own. index_any x name own) c.loop-index.invariant.went

pub returns-in_err-check_shards-clause-first : goal.returns-in_err-check_shards-clause-first
returns-in_err-check_shards-clause-first g c =
    let s = g.Q.Desk.start in
    let mid = caller_of s (g.Q.Desk.seen c.loop-index.desk) in
    let new = caller_of s (g.Q.Desk.seen c.check_shards.new.desk) in
    let root = root_of c.args.root.now in
    let infos = map info_of_code c.args.infos.now in
    let xs = c.as_slice-index-items.result.now in
    let i = c.loop-index.index-index in
    let own = root_index_of c.index-item.result in
    let items = c.as_slice-index-items.ensures.items ∙ ap (λ (r : CodeRoot). r.indices) c.root.view_is in
    let before = map root_index_of (take i xs) in
    let next = subst (λ (ys : List CodeIndex). IsNext (map root_index_of ys) before own) items (next_at root_index_of xs i c.index-item.result c.loop-index-test.true c.index-item.is) in
    passes (FirstOfShards s new root infos own) (FirstOfIndices s new root infos) c.from_residual.result c.in_err-check_shards.field-0.0 c.from_residual.ensures.1
    (λ name first. record { before = before; x = own; next = next; agree = λ x has. shards_more s mid new c.check_shards.ensures.went.grown root infos x (c.loop-index.invariant.indices x has); first = first })
    c.in_err-check_shards.ensures.first
