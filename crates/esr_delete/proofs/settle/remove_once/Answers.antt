use Rattle.std.proofs.Common.{◌↔◌, List, map, sym, subst}
use Rattle.esr_names.specs.declared.blob.BlobName.{BlobName as CodeName}
use Rattle.esr_names.specs.Layout.{IsName}
use Rattle.esr_model.specs.Values.{Has}
use Rattle.esr_formats.specs.Names.{name_of}
use Rattle.esr_reach.specs.Names.{AreOnce}
use Rattle.std.proofs.lemmas.Result.{on_ok_weaker}
use Rattle.esr_desk.specs.Start.{ticket_of}
use Rattle.esr_desk.specs.Grew.{grew_by_none}
use Rattle.esr_delete.specs.Removed.{MayRemove, HasRemoved}
use Rattle.esr_delete.proofs.Clearing.{none_named, may_remove, once_layout}
use Rattle.esr_delete.proofs.Removing.{same_removed}
use Rattle.esr_delete.proofs.settle.remove_once.Goals as goal
use Rattle.esr_delete.proofs.settle.remove_once.Goals.{In_ok-once}

same_names : (g : _) (c : In_ok-once g) → (name : CodeName) → Has c.in_ok-once.once name ↔ Has c.args.names.now name
same_names g c = subst (λ (l : List CodeName). (name : CodeName) → Has c.in_ok-once.once name ↔ Has l name) c.as_slice-items.ensures.items c.in_ok-once.ensures.same

pub returns-in_err-once-clause-grew : goal.returns-in_err-once-clause-grew
returns-in_err-once-clause-grew g c = grew_by_none g.Q.Desk.start c.args.ticket (g.Q.Desk.seen c.args.desk.now)

pub remove_all-requires-clause-layout : goal.remove_all-requires-clause-layout
remove_all-requires-clause-layout g c κs within =
    subst (λ (l : List CodeName). (name : CodeName) → Has l name → IsName name) (sym c.as_slice.ensures)
    (once_layout c.args.names.now c.in_ok-once.once (same_names g (goal.at.remove_all-requires-clause-layout g c).In_ok-once) c.as_slice-items.ensures.laid)

pub remove_all-requires-clause-once : goal.remove_all-requires-clause-once
remove_all-requires-clause-once g c κs within = subst (λ (l : List CodeName). AreOnce (map name_of l)) (sym c.as_slice.ensures) c.in_ok-once.ensures.once

pub remove_all-requires-clause-may : goal.remove_all-requires-clause-may
remove_all-requires-clause-may g c κs within =
    let s = g.Q.Desk.start in
    let t = ticket_of s (g.Q.Desk.seen c.args.desk.now) c.args.ticket in
    subst (λ (l : List CodeName). MayRemove s t (map name_of l)) (sym c.as_slice.ensures)
    (may_remove s t c.args.names.now c.in_ok-once.once c.requires.over c.requires.names (same_names g (goal.at.remove_all-requires-clause-may g c).In_ok-once))

pub remove_all-requires-clause-new : goal.remove_all-requires-clause-new
remove_all-requires-clause-new g c κs within = none_named g.Q.Desk.start (g.Q.Desk.seen c.args.desk.now) c.args.ticket (map name_of c.as_slice.result.now) c.requires.none

pub returns-clause-removed : goal.returns-clause-removed
returns-clause-removed g c =
    let s = g.Q.Desk.start in
    let old = g.Q.Desk.seen c.args.desk.now in
    let new = g.Q.Desk.seen c.remove_all.new.desk in
    let who = c.args.ticket in
    let clean = c.args.clean in
    let same = same_names g (goal.at.returns-clause-removed g c).In_ok-once in
    on_ok_weaker c.remove_all.result
    (λ removed. same_removed clean s old new who c.args.names.now c.in_ok-once.once same (subst (λ (l : List CodeName). HasRemoved clean s old new who (map name_of l)) c.as_slice.ensures removed)) c.remove_all.ensures.removed
