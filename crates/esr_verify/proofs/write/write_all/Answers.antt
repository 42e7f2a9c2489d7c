use Rattle.std.proofs.Common.{[], ◌∙◌, List, map, take, sym, ap, subst}
use Rattle.esr_names.specs.declared.blob.BlobName.TheVariants.{Root}
use Rattle.esr_model.specs.Names.{BlobName}
use Rattle.esr_names.specs.IdText.{id_text}
use Rattle.esr_formats.specs.Names.{name_of}
use Rattle.esr_desk.specs.Start.{told_bytes}
use Rattle.esr_desk.specs.Own.{caller_of}
use Rattle.esr_verify.specs.Steps.{writing}
use Rattle.esr_verify.specs.Went.{Went}
use Rattle.esr_verify.specs.Done.{HasDone, HasMade}
use Rattle.esr_verify.proofs.Listing.{has_at, not_before, names_more, names_all, item_at, writing_both}
use Rattle.esr_verify.proofs.Going.{went_none, went_on, went_as, kept_none, kept_on}
use Rattle.esr_verify.proofs.Making.{begin_fresh, commit_fresh, wrote_made}
use Rattle.esr_verify.proofs.Doing.{wrote_done}
use Rattle.esr_verify.proofs.write.write_all.Goals as goal

pub loop-name-init : goal.loop-name-init
loop-name-init g c = record {
  went = went_none (g.Q.Desk.seen c.args.desk.now);
  done = c.requires.new;
  made = c.requires.made;
  kept = kept_none g.Q.Desk.start (g.Q.Desk.seen c.args.desk.now) c.args.id.number c.requires.drew;
}

pub write_test-requires-clause-layout : goal.write_test-requires-clause-layout
write_test-requires-clause-layout g c κs within =
    let names = c.args.names.now in
    let items = c.as_slice-name-items.result.now in
    let here = item_at items names c.loop-name.name-index (Root 0) c.as_slice-name-items.ensures c.loop-name-test.true in
    c.requires.tests.layout _ (has_at names c.loop-name.name-index _ here.0 here.1)

pub write_test-requires-clause-own : goal.write_test-requires-clause-own
write_test-requires-clause-own g c κs within =
    let names = c.args.names.now in
    let items = c.as_slice-name-items.result.now in
    let here = item_at items names c.loop-name.name-index (Root 0) c.as_slice-name-items.ensures c.loop-name-test.true in
    c.requires.tests.own _ (has_at names c.loop-name.name-index _ here.0 here.1)

pub write_test-requires-clause-once : goal.write_test-requires-clause-once
write_test-requires-clause-once g c κs within =
    let names = c.args.names.now in
    let items = c.as_slice-name-items.result.now in
    let here = item_at items names c.loop-name.name-index (Root 0) c.as_slice-name-items.ensures c.loop-name-test.true in
    λ has. not_before names c.loop-name.name-index _ c.requires.tests.once here.0 here.1 (c.loop-name.invariant.done.only _ has)

pub write_test-requires-clause-new : goal.write_test-requires-clause-new
write_test-requires-clause-new g c κs within =
    let names = c.args.names.now in
    let items = c.as_slice-name-items.result.now in
    let here = item_at items names c.loop-name.name-index (Root 0) c.as_slice-name-items.ensures c.loop-name-test.true in
    let before = map name_of (take c.loop-name.name-index names) in
    begin_fresh g.Q.Desk.start (g.Q.Desk.seen c.loop-name.desk) c.args.id.number before [] c.loop-name.invariant.made _ (λ has. not_before names c.loop-name.name-index _ c.requires.tests.once here.0 here.1 has)

pub write_test-requires-clause-whole : goal.write_test-requires-clause-whole
write_test-requires-clause-whole g c κs within =
    let names = c.args.names.now in
    let items = c.as_slice-name-items.result.now in
    let here = item_at items names c.loop-name.name-index (Root 0) c.as_slice-name-items.ensures c.loop-name-test.true in
    let before = map name_of (take c.loop-name.name-index names) in
    commit_fresh g.Q.Desk.start (g.Q.Desk.seen c.loop-name.desk) c.args.id.number before [] c.loop-name.invariant.made _ (λ has. not_before names c.loop-name.name-index _ c.requires.tests.once here.0 here.1 has)

pub returns-in_err-write_test-clause-kept : goal.returns-in_err-write_test-clause-kept
returns-in_err-write_test-clause-kept g c =
    kept_on g.Q.Desk.start (g.Q.Desk.seen c.args.desk.now) (g.Q.Desk.seen c.loop-name.desk) (g.Q.Desk.seen c.write_test.new.desk) c.args.id.number c.loop-name.invariant.kept.grew c.loop-name.invariant.kept.unverified c.write_test.ensures.kept

pub loop-name-preserved : goal.loop-name-preserved
loop-name-preserved g c =
    let s = g.Q.Desk.start in
    let inv = c.loop-name.invariant in
    let id = c.args.id.number in
    let names = c.args.names.now in
    let items = c.as_slice-name-items.result.now in
    let k = c.loop-name.name-index in
    let old = g.Q.Desk.seen c.args.desk.now in
    let mid = g.Q.Desk.seen c.loop-name.desk in
    let new = g.Q.Desk.seen c.write_test.new.desk in
    let done = c.in_ok-write_test.ensures in
    let here = item_at items names k (Root 0) c.as_slice-name-items.ensures c.loop-name-test.true in
    let more = names_more names k _ here.0 here.1 in
    let before = map name_of (take k names) in
    let wrote = done.wrote in
    record {
      went = went_as old new _ _ (sym (ap (λ (l : List BlobName). writing l) more ∙ writing_both before _)) (went_on old mid new (writing before) _ inv.went wrote.went);
      done = subst (λ (l : List BlobName). HasDone s (caller_of s new) id l []) (sym more) (wrote_done s (caller_of s mid) (caller_of s new) id before _ (told_bytes s (id_text id)) inv.done wrote.own);
      made = subst (λ (l : List BlobName). HasMade s new id l []) (sym more) (wrote_made s mid new id before _ (id_text id) inv.made wrote);
      kept = kept_on s old mid new id inv.kept.grew inv.kept.unverified c.write_test.ensures.kept;
    }

pub returns-clause-went : goal.returns-clause-went
returns-clause-went g c =
    let all = names_all c.as_slice-name-items.result.now c.args.names.now c.loop-name.name-index c.as_slice-name-items.ensures c.loop-name-test.false in
    subst (λ (l : List BlobName). Went (g.Q.Desk.seen c.args.desk.now) (g.Q.Desk.seen c.loop-name.desk) (writing l)) all c.loop-name.invariant.went

pub returns-clause-done : goal.returns-clause-done
returns-clause-done g c =
    let s = g.Q.Desk.start in
    let all = names_all c.as_slice-name-items.result.now c.args.names.now c.loop-name.name-index c.as_slice-name-items.ensures c.loop-name-test.false in
    subst (λ (l : List BlobName). HasDone s (caller_of s (g.Q.Desk.seen c.loop-name.desk)) c.args.id.number l []) all c.loop-name.invariant.done

pub returns-clause-made : goal.returns-clause-made
returns-clause-made g c =
    let all = names_all c.as_slice-name-items.result.now c.args.names.now c.loop-name.name-index c.as_slice-name-items.ensures c.loop-name-test.false in
    subst (λ (l : List BlobName). HasMade g.Q.Desk.start (g.Q.Desk.seen c.loop-name.desk) c.args.id.number l []) all c.loop-name.invariant.made
