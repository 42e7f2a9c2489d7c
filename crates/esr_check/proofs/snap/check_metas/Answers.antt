use Rattle.std.proofs.Common.{◌∙◌, List, [], map, take, sym, ap, subst}
use Rattle.esr_model.specs.Loops.{has_at, every_more, every_all}
use Rattle.esr_meta.specs.Info.{Info}
use Rattle.esr_names.specs.Indices.{AreRefs}
use Rattle.esr_names.specs.declared.index_ref.IndexRef.{IndexRef as CodeRef}
use Rattle.esr_model.specs.Names.{Snap, IndexMeta}
use Rattle.esr_model.specs.Values.{Has, IndexRef}
use Rattle.esr_desk.specs.Start.{formats_of}
use Rattle.esr_formats.specs.Infos.{info_of_code}
use Rattle.esr_formats.specs.Refs.{ref_of_code}
use Rattle.esr_formats.specs.Roots.{root_of, root_snap_of}
use Rattle.esr_desk.specs.Own.{caller_of}
use Rattle.esr_check.specs.Names.{IsMetaIn, Just}
use Rattle.esr_check.specs.Pieces.{HasMeta, HasMetas}
use Rattle.esr_check.proofs.Going.{went_none, some_new, read_more, metas_more, root_on}
use Rattle.esr_check.proofs.Listing.{Any, next_new, any_next, any_all, any_then, refs_once}
use Rattle.esr_check.proofs.Naming.{MetaOf, meta_key, meta_in}
use Rattle.esr_check.proofs.Reaching.{can_index_meta}
use Rattle.esr_check.specs.First.{IsNext, FirstOfMetas}
use Rattle.esr_check.proofs.Telling.{passes, next_at}
use Rattle.esr_check.proofs.snap.check_metas.Goals as goal

pub loop-index-init : goal.loop-index-init
loop-index-init g c = record {
  metas = λ r has. absurd has;
  so_far = c.requires.so_far;
  went = went_none g.Q.Desk.start (g.Q.Desk.seen c.args.desk.now) (Any (MetaOf c.args.snap.listed.now.uuid.number) (map ref_of_code (take 0 c.as_slice-index-items.result.now)));
}

pub check_meta-requires-clause-info : goal.check_meta-requires-clause-info
check_meta-requires-clause-info g c κs within =
    let s = g.Q.Desk.start in
    read_more s (caller_of s (g.Q.Desk.seen c.args.desk.now)) (caller_of s (g.Q.Desk.seen c.loop-index.desk)) c.loop-index.invariant.went.grown
    (Snap c.args.snap.listed.now.uuid.number) (formats_of s).info (info_of_code c.args.info.now) c.requires.info

pub check_meta-requires-clause-there : goal.check_meta-requires-clause-there
check_meta-requires-clause-there g c κs within =
    let own = c.index-item.result in
    let items = c.as_slice-index-items.ensures ∙ ap (λ (i : Info). i.indices) c.info.view_is in
    subst (λ (rs : List CodeRef). Has (map ref_of_code rs) (ref_of_code own)) items (has_at ref_of_code c.as_slice-index-items.result.now c.loop-index.index-index own c.loop-index-test.true c.index-item.is)

pub check_meta-requires-clause-may : goal.check_meta-requires-clause-may
check_meta-requires-clause-may g c κs within =
    let s = g.Q.Desk.start in
    let old = g.Q.Desk.seen c.args.desk.now in
    let mid = g.Q.Desk.seen c.loop-index.desk in
    let own = c.index-item.result in
    let uuid = c.args.snap.listed.now.uuid.number in
    let root = root_of c.args.snap.root.now in
    let xs = c.as_slice-index-items.result.now in
    let i = c.loop-index.index-index in
    let went = c.loop-index.invariant.went in
    let rule = subst (λ (rs : List CodeRef). AreRefs [] rs) (sym c.as_slice-index-items.ensures) c.info.invariant.indices in
    let items = c.as_slice-index-items.ensures ∙ ap (λ (x : Info). x.indices) c.info.view_is in
    let there = subst (λ (rs : List CodeRef). Has (map ref_of_code rs) (ref_of_code own)) items (has_at ref_of_code xs i own c.loop-index-test.true c.index-item.is) in
    let new =
    next_new s old mid (λ (r : IndexRef). r.id) (MetaOf uuid) ref_of_code xs i own (λ a b name one two. meta_key uuid a b name one two) (refs_once xs rule) c.loop-index-test.true c.index-item.is
    (some_new (caller_of s old) (IsMetaIn uuid) (MetaOf uuid (ref_of_code own)) (λ name same. meta_in uuid (ref_of_code own) name same) c.requires.new) went in
    can_index_meta s mid c.loop-index.count c.args.snap.number root (root_snap_of c.args.snap.listed.now) c.loop-index.invariant.so_far
    (root_on s old mid (Any (MetaOf uuid) (map ref_of_code (take i xs))) c.args.snap.number root went c.requires.snap.safe)
    (info_of_code c.args.info.now) (ref_of_code own) c.requires.agrees there new

pub returns-in_err-check_meta-clause-went : goal.returns-in_err-check_meta-clause-went
returns-in_err-check_meta-clause-went g c =
    let uuid = c.args.snap.listed.now.uuid.number in
    any_then g.Q.Desk.start (g.Q.Desk.seen c.args.desk.now) (g.Q.Desk.seen c.loop-index.desk) (g.Q.Desk.seen c.check_meta.new.desk) (MetaOf uuid)
    (IsMetaIn uuid) (map ref_of_code (take c.loop-index.index-index c.as_slice-index-items.result.now)) (ref_of_code c.index-item.result)
    (λ r name own. meta_in uuid r name own) c.loop-index.invariant.went c.check_meta.ensures.went

pub loop-index-preserved : goal.loop-index-preserved
loop-index-preserved g c =
    let s = g.Q.Desk.start in
    let mid = g.Q.Desk.seen c.loop-index.desk in
    let new = g.Q.Desk.seen c.check_meta.new.desk in
    let uuid = c.args.snap.listed.now.uuid.number in
    let xs = c.as_slice-index-items.result.now in
    let i = c.loop-index.index-index in
    let own = c.index-item.result in
    let inv = c.loop-index.invariant in
    let went = c.check_meta.ensures.went in
    record {
      metas = every_more (HasMeta s (caller_of s new) uuid) ref_of_code xs i own c.loop-index-test.true c.index-item.is
          (metas_more s (caller_of s mid) (caller_of s new) went.grown uuid (map ref_of_code (take i xs)) inv.metas) c.in_ok-check_meta.ensures.meta;
      so_far = c.in_ok-check_meta.ensures.so_far;
      went = any_next s (g.Q.Desk.seen c.args.desk.now) mid new (MetaOf uuid) ref_of_code xs i own c.loop-index-test.true c.index-item.is inv.went went;
    }

pub returns-clause-metas : goal.returns-clause-metas
returns-clause-metas g c =
    let s = g.Q.Desk.start in
    let now = caller_of s (g.Q.Desk.seen c.loop-index.desk) in
    let uuid = c.args.snap.listed.now.uuid.number in
    let items = c.as_slice-index-items.ensures ∙ ap (λ (i : Info). i.indices) c.info.view_is in
    subst (λ (rs : List CodeRef). HasMetas s now uuid (map ref_of_code rs)) items (every_all (HasMeta s now uuid) ref_of_code c.as_slice-index-items.result.now c.loop-index.index-index c.loop-index-test.false c.loop-index.invariant.metas)

pub returns-clause-went : goal.returns-clause-went
returns-clause-went g c =
    let uuid = c.args.snap.listed.now.uuid.number in
    any_all g.Q.Desk.start (g.Q.Desk.seen c.args.desk.now) (g.Q.Desk.seen c.loop-index.desk) (MetaOf uuid) (IsMetaIn uuid)
    (map ref_of_code (take c.loop-index.index-index c.as_slice-index-items.result.now)) (λ r name own. meta_in uuid r name own) c.loop-index.invariant.went

pub returns-in_err-check_meta-clause-first : goal.returns-in_err-check_meta-clause-first
returns-in_err-check_meta-clause-first g c =
    let s = g.Q.Desk.start in
    let new = g.Q.Desk.seen c.check_meta.new.desk in
    let uuid = c.args.snap.listed.now.uuid.number in
    let xs = c.as_slice-index-items.result.now in
    let own = c.index-item.result in
    let items = c.as_slice-index-items.ensures ∙ ap (λ (x : Info). x.indices) c.info.view_is in
    let before = map ref_of_code (take c.loop-index.index-index xs) in
    let next = subst (λ (rs : List CodeRef). IsNext (map ref_of_code rs) before (ref_of_code own)) items (next_at ref_of_code xs c.loop-index.index-index own c.loop-index-test.true c.index-item.is) in
    passes (Just (IndexMeta own.id.number uuid)) (FirstOfMetas s (caller_of s new) uuid (info_of_code c.args.info.now).indices) c.from_residual.result c.in_err-check_meta.field-0.0 c.from_residual.ensures.1
    (λ name is. record {
      before = before;
      r = ref_of_code own;
      next = next;
      agree = metas_more s (caller_of s (g.Q.Desk.seen c.loop-index.desk)) (caller_of s new) c.check_meta.ensures.went.grown uuid before c.loop-index.invariant.metas;
      names = is;
    })
    c.in_err-check_meta.ensures.first
