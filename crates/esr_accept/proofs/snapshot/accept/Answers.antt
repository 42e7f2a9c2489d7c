use Rattle.std.proofs.Common.{◌≡◌, ℕ, suc, ◌<◌, ◌≤◌, ◌+◌, List, map, length, refl, ap, sym, ◌∙◌, arith, subst}
use Rattle.std.proofs.lemmas.List.{length-map}
use Rattle.esr_names.specs.declared.index_ref.IndexRef.{IndexRef as CodeRef}
use Rattle.esr_model.specs.Kept.{first_id}
use Rattle.esr_core.specs.World.{Op}
use Rattle.esr_core.specs.Entry.{Asked, Snapshot}
use Rattle.esr_formats.specs.Refs.{ref_of_code}
use Rattle.esr_formats.specs.Roots.{root_of}
use Rattle.esr_accept.specs.Accepting.{IsRefused, MayAccept, IsAccepted, name_asked, drawn_by}
use Rattle.esr_ops.specs.Asked.{asked_of, asked_index_of}
use Rattle.esr_ops.specs.Plan.{Plan}
use Rattle.std.specs.FinMap as fin
use Rattle.esr_core.specs.Steps.{completing}
use Rattle.esr_record.specs.declared.op.Making.{Making}
use Rattle.esr_accept.specs.Asking.{known_in, new_by}
use Rattle.esr_accept.proofs.Drawn.{new_by-le}
use Rattle.esr_accept.proofs.Accepts.{listed, refs_fit, refs_count, refused, may_accept, accepted, spent}
use Rattle.esr_accept.proofs.snapshot.accept.Goals as goal

pub returns-in-Some : goal.returns-in-Some
returns-in-Some c w is =
    let s = c.lists-list.result in
    let root = root_of c.args.root.now in
    let name = c.parts-moment.result.0.now in
    let list = listed s.ops.now s.deletes.now s.completed.now s.tickets.now s.next_op s.restores.now c.args.progress.now c.lists-list.ensures.valid c.lists-list.ensures.view in
    subst (λ (x : Asked). IsRefused w (name_asked x) x c.in-Some.refusal) (sym c.parts-moment.ensures)
    (refused s.ops.now s.deletes.now c.args.progress.now root c.args.term c.args.next.number list w is name (Snapshot name (map asked_index_of c.parts-moment.result.1.now) c.parts-moment.result.2) c.in-Some.refusal
    c.in-Some.ensures)

pub overflow_add-drawn : goal.overflow_add-drawn
overflow_add-drawn c =
    let asked = c.parts-moment.result.1.now in
    let is : c.in_ok-refs.new ≡ new_by (known_in (root_of c.args.root.now) c.lists-list.result.ops.now) (map asked_index_of asked) = c.in_ok-refs.ensures.new in
    let le : new_by (known_in (root_of c.args.root.now) c.lists-list.result.ops.now) (map asked_index_of asked) ≤ length (map asked_index_of asked) =
    new_by-le (known_in (root_of c.args.root.now) c.lists-list.result.ops.now) (map asked_index_of asked) in
    let same : length (map asked_index_of asked) ≡ length asked = length-map asked asked_index_of in
    let fits = c.parts-moment.type_inv in
    omega arith

pub returns-then-next-from : goal.returns-then-next-from
returns-then-next-from c w is =
    let s = c.lists-list.result in
    let root = root_of c.args.root.now in
    let name = c.parts-moment.result.0.now in
    let indices = map asked_index_of c.parts-moment.result.1.now in
    let moment = c.parts-moment.result.2 in
    let list = listed s.ops.now s.deletes.now s.completed.now s.tickets.now s.next_op s.restores.now c.args.progress.now c.lists-list.ensures.valid c.lists-list.ensures.view in
    let drawn : c.in_ok-refs.new + 1 ≡ suc (new_by (known_in root s.ops.now) indices) = omega (arith, c.in_ok-refs.ensures.new) in
    let above : first_id (suc c.args.term) ≤ c.args.next.number + (c.in_ok-refs.new + 1) = omega (arith, c.from.ensures, c.new.ensures, c.if-next-from.true) in (
      sym is.next_is,
      subst (λ (x : Asked). MayAccept w (name_asked x)) (sym c.parts-moment.ensures)
          (may_accept s.ops.now s.deletes.now c.args.progress.now root c.args.term c.args.next.number list w is name c.in_default.ensures),
      subst (λ (x : Asked). first_id (suc w.term) ≤ w.next_id + drawn_by w x) (sym c.parts-moment.ensures)
          (spent s.ops.now s.deletes.now c.args.progress.now root c.args.term c.args.next.number list w is name indices moment (c.in_ok-refs.new + 1) drawn above),
    )

pub making_can_be_written-requires : goal.making_can_be_written-requires
making_can_be_written-requires c =
    let s = c.lists-list.result in
    let root = root_of c.args.root.now in
    let indices = map asked_index_of c.parts-moment.result.1.now in
    let list = listed s.ops.now s.deletes.now s.completed.now s.tickets.now s.next_op s.restores.now c.args.progress.now c.lists-list.ensures.valid c.lists-list.ensures.view in
    let are = c.in_ok-refs.ensures.refs in
    refs_fit s.ops.now root c.args.next.number indices c.in_ok-refs.refs are s.deletes.now c.args.progress.now list c.requires.named
    (asked_of c.args.command.now) c.parts-moment.result.0.now c.parts-moment.result.2 c.parts-moment.ensures c.requires.askable

pub begin-requires-clause-apart : goal.begin-requires-clause-apart
begin-requires-clause-apart c =
    let s = c.lists-list.result in
    let root = root_of c.args.root.now in
    let indices = map asked_index_of c.parts-moment.result.1.now in
    let list = listed s.ops.now s.deletes.now s.completed.now s.tickets.now s.next_op s.restores.now c.args.progress.now c.lists-list.ensures.valid c.lists-list.ensures.view in
    let are = c.in_ok-refs.ensures.refs in
    refs_fit s.ops.now root c.args.next.number indices c.in_ok-refs.refs are s.deletes.now c.args.progress.now list c.requires.named
    (asked_of c.args.command.now) c.parts-moment.result.0.now c.parts-moment.result.2 c.parts-moment.ensures c.requires.askable

pub begin-requires-clause-same : goal.begin-requires-clause-same
begin-requires-clause-same c =
    let asked = c.parts-moment.result.1.now in
    let are = c.in_ok-refs.ensures.refs in
    refs_count c.lists-list.result.ops.now (root_of c.args.root.now) c.args.next.number (map asked_index_of asked) c.in_ok-refs.refs are ∙ length-map asked asked_index_of

pub returns : goal.returns
returns c w is =
    let s = c.lists-list.result in
    let p = c.args.progress.now in
    let root = root_of c.args.root.now in
    let name = c.parts-moment.result.0.now in
    let indices = map asked_index_of c.parts-moment.result.1.now in
    let moment = c.parts-moment.result.2 in
    let list = listed s.ops.now s.deletes.now s.completed.now s.tickets.now s.next_op s.restores.now p c.lists-list.ensures.valid c.lists-list.ensures.view in
    let drawn : c.in_ok-refs.new + 1 ≡ suc (new_by (known_in root s.ops.now) indices) = omega (arith, c.in_ok-refs.ensures.new) in
    let fits : c.args.next.number + (c.in_ok-refs.new + 1) < first_id (suc c.args.term) = omega (arith, c.from.ensures, c.new.ensures, c.if-next-from.false) in
    let are = c.in_ok-refs.ensures.refs in
    let m : Making = record { indices = c.in_ok-refs.refs; moment = moment; name = c.in_ok-try_clone.field-0; uuid = c.args.next } in (
      subst (λ (x : Asked). MayAccept w (name_asked x)) (sym c.parts-moment.ensures)
          (may_accept s.ops.now s.deletes.now p root c.args.term c.args.next.number list w is name c.in_default.ensures),
      subst (λ (x : Asked). IsAccepted w x c.in_ok-after.after (record { op = s.next_op; drawn = c.in_ok-refs.new + 1 })) (sym c.parts-moment.ensures)
          (accepted s.ops.now s.deletes.now p root c.args.term c.args.next.number list w is name indices moment m c.in_ok-after.after (record { op = s.next_op; drawn = c.in_ok-refs.new + 1 })
          (record { name_is = c.in_ok-try_clone.ensures; uuid_is = refl; moment_is = refl; indices_are = are }) c.making_can_be_written.ensures.written (ap (λ (q : Plan). q.next_op) c.lists-list.ensures.view) drawn fits
          (c.in_ok-after.ensures ∙ ap (λ (o : ℕ × Op). record p { ops = fin.insert p.ops o.0 o.1; completed = completing p.completed o.0 o.1.shards; next_op = suc p.next_op }) c.in_ok-begin.ensures)),
    )
