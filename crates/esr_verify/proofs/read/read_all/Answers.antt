use Rattle.std.proofs.Common.{◌∙◌, List, map, take, sym, ap, subst}
use Rattle.esr_model.specs.Lists.{Has-map}
use Rattle.esr_names.specs.declared.blob.BlobName.TheVariants.{Root}
use Rattle.esr_model.specs.Names.{BlobName}
use Rattle.esr_names.specs.IdText.{id_text}
use Rattle.esr_formats.specs.Names.{name_of}
use Rattle.esr_desk.specs.Own.{caller_of}
use Rattle.esr_verify.specs.Steps.{reading}
use Rattle.esr_verify.specs.Went.{Went}
use Rattle.esr_verify.specs.Done.{HasDone, HasMade}
use Rattle.esr_verify.proofs.Listing.{has_at, not_before, names_more, names_all, item_at, reading_both}
use Rattle.esr_verify.proofs.Going.{went_none, went_on, went_as, kept_none, kept_on}
use Rattle.esr_verify.proofs.Making.{read_fresh, read_made}
use Rattle.esr_verify.proofs.Doing.{read_done}
use Rattle.esr_verify.proofs.read.read_all.Goals as goal

pub loop-name-init : goal.loop-name-init
loop-name-init g c = record {
  went = went_none (g.Q.Desk.seen c.args.desk.now);
  done = c.requires.written;
  made = c.requires.made;
  kept = kept_none g.Q.Desk.start (g.Q.Desk.seen c.args.desk.now) c.args.id.number c.requires.drew;
}

pub read_test-requires-clause-layout : goal.read_test-requires-clause-layout
read_test-requires-clause-layout g c κs within =
    let names = c.args.names.now in
    let items = c.as_slice-name-items.result.now in
    let here = item_at items names c.loop-name.name-index (Root 0) c.as_slice-name-items.ensures c.loop-name-test.true in
    c.requires.tests.layout _ (has_at names c.loop-name.name-index _ here.0 here.1)

pub read_test-requires-clause-committed : goal.read_test-requires-clause-committed
read_test-requires-clause-committed g c κs within =
    let names = c.args.names.now in
    let items = c.as_slice-name-items.result.now in
    let here = item_at items names c.loop-name.name-index (Root 0) c.as_slice-name-items.ensures c.loop-name-test.true in
    c.loop-name.invariant.done.committed _ (Has-map name_of names _ (has_at names c.loop-name.name-index _ here.0 here.1))

pub read_test-requires-clause-once : goal.read_test-requires-clause-once
read_test-requires-clause-once g c κs within =
    let names = c.args.names.now in
    let items = c.as_slice-name-items.result.now in
    let here = item_at items names c.loop-name.name-index (Root 0) c.as_slice-name-items.ensures c.loop-name-test.true in
    λ has. not_before names c.loop-name.name-index _ c.requires.tests.once here.0 here.1 (c.loop-name.invariant.done.once _ has)

pub read_test-requires-clause-new : goal.read_test-requires-clause-new
read_test-requires-clause-new g c κs within =
    let names = c.args.names.now in
    let items = c.as_slice-name-items.result.now in
    let here = item_at items names c.loop-name.name-index (Root 0) c.as_slice-name-items.ensures c.loop-name-test.true in
    let before = map name_of (take c.loop-name.name-index names) in
    read_fresh g.Q.Desk.start (g.Q.Desk.seen c.loop-name.desk) c.args.id.number (map name_of names) before c.loop-name.invariant.made _ (c.requires.tests.own _ (has_at names c.loop-name.name-index _ here.0 here.1))
    (λ has. not_before names c.loop-name.name-index _ c.requires.tests.once here.0 here.1 has)

pub returns-in_err-read_test-clause-kept : goal.returns-in_err-read_test-clause-kept
returns-in_err-read_test-clause-kept g c =
    kept_on g.Q.Desk.start (g.Q.Desk.seen c.args.desk.now) (g.Q.Desk.seen c.loop-name.desk) (g.Q.Desk.seen c.read_test.new.desk) c.args.id.number c.loop-name.invariant.kept.grew c.loop-name.invariant.kept.unverified c.read_test.ensures.kept

pub loop-name-preserved : goal.loop-name-preserved
loop-name-preserved g c =
    let s = g.Q.Desk.start in
    let id = c.args.id.number in
    let names = c.args.names.now in
    let k = c.loop-name.name-index in
    let old = g.Q.Desk.seen c.args.desk.now in
    let mid = g.Q.Desk.seen c.loop-name.desk in
    let new = g.Q.Desk.seen c.read_test.new.desk in
    let inv = c.loop-name.invariant in
    let here = item_at c.as_slice-name-items.result.now names k (Root 0) c.as_slice-name-items.ensures c.loop-name-test.true in
    let more = names_more names k _ here.0 here.1 in
    let before = map name_of (take k names) in
    let read = c.in_ok-read_test.ensures.read in
    record {
      went = went_as old new _ _ (sym (ap (λ (l : List BlobName). reading l) more ∙ reading_both before _)) (went_on old mid new (reading before) _ inv.went read.went);
      done = subst (λ (l : List BlobName). HasDone s (caller_of s new) id (map name_of names) l) (sym more) (read_done s id (map name_of names) before _ (caller_of s mid) inv.done (caller_of s new) read.own);
      made = subst (λ (l : List BlobName). HasMade s new id (map name_of names) l) (sym more) (read_made s mid new id (map name_of names) before _ (id_text id) inv.made read);
      kept = kept_on s old mid new id inv.kept.grew inv.kept.unverified c.read_test.ensures.kept;
    }

pub returns-clause-went : goal.returns-clause-went
returns-clause-went g c =
    let all = names_all c.as_slice-name-items.result.now c.args.names.now c.loop-name.name-index c.as_slice-name-items.ensures c.loop-name-test.false in
    subst (λ (l : List BlobName). Went (g.Q.Desk.seen c.args.desk.now) (g.Q.Desk.seen c.loop-name.desk) (reading l)) all c.loop-name.invariant.went

pub returns-clause-done : goal.returns-clause-done
returns-clause-done g c =
    let s = g.Q.Desk.start in
    let all = names_all c.as_slice-name-items.result.now c.args.names.now c.loop-name.name-index c.as_slice-name-items.ensures c.loop-name-test.false in
    subst (λ (l : List BlobName). HasDone s (caller_of s (g.Q.Desk.seen c.loop-name.desk)) c.args.id.number (map name_of c.args.names.now) l) all c.loop-name.invariant.done

pub returns-clause-made : goal.returns-clause-made
returns-clause-made g c =
    let all = names_all c.as_slice-name-items.result.now c.args.names.now c.loop-name.name-index c.as_slice-name-items.ensures c.loop-name-test.false in
    subst (λ (l : List BlobName). HasMade g.Q.Desk.start (g.Q.Desk.seen c.loop-name.desk) c.args.id.number (map name_of c.args.names.now) l) all c.loop-name.invariant.made
