use Rattle.std.proofs.Common.{◌≡◌, ◌+◌, ◌++◌, ◌∷◌, [], ℕ, List, false, true, length, Ok, sym, ap, ◌∙◌, subst}
use Rattle.std.specs.List.{list_any}
use Rattle.std.proofs.lemmas.Bool.{not-true, not-false}
use Rattle.std.proofs.lemmas.List.{length-append}
use Rattle.esr_names.specs.declared.ids.Id.{Id}
use Rattle.esr_shardidx.specs.declared.index.SnapList.{SnapList}
use Rattle.esr_shardidx.specs.Indices.{has_uuid}
use Rattle.esr_shardidx.specs.Marks.{AreMarks, files_checked}
use Rattle.esr_shardidx.proofs.Repeats.{Holds-push}
use Rattle.esr_shardidx.proofs.Marking.{AreMarks-next, checked_ok}
use Rattle.esr_shardidx.proofs.marks.Named.checked.Goals as goal

pub returns : goal.returns
returns c =
    let l : SnapList = c.args.list in
    let before : List SnapList = c.args.before.now in
    let fresh : list_any (has_uuid l.uuid) before ≡ false = sym (c.requires.named.uuids l.uuid.number) ∙ not-true _ (sym c.in_ok-insert.ensures.added ∙ c.if-not-branch.false) in
    let names : c.as_slice.result.now ≡ l.files = c.as_slice.ensures in
    let read : files_checked c.args.entries.now l.files ≡ Ok l.files = subst (λ (us : List Id). files_checked c.args.entries.now us ≡ Ok us) names c.in_ok-mark_list.ensures.gives in
    let marks = subst (λ (us : List Id). AreMarks c.args.entries.now before us (length before + 1) c.mark_list.new.marks.items) names c.in_ok-mark_list.ensures.marks in
    let more : length before + 1 + 1 ≡ length (before ++ l ∷ []) + 1 = ap (λ (n : ℕ). n + 1) (sym (length-append before (l ∷ []))) in
    record {
      gives = checked_ok c.args.entries.now before l fresh read;
      named = record {
        uuids = Holds-push (λ (m : SnapList). m.uuid.number) c.args.self.now.uuids c.insert.new.self before l c.requires.named.uuids c.in_ok-insert.ensures.updates;
        marks = subst (λ (n : ℕ). AreMarks c.args.entries.now (before ++ l ∷ []) [] n c.mark_list.new.marks.items) more (AreMarks-next c.args.entries.now before l (length before + 1) c.mark_list.new.marks.items marks);
      };
    }
