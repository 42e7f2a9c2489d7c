use Rattle.std.proofs.Common.{◌++◌, Some, sym, ap, ◌∙◌, subst}
use Rattle.esr_formats.specs.Names.{name_of, name_kind}
use Rattle.esr_model.specs.Values.{Bytes}
use Rattle.esr_plain.proofs.Loops.{so, not_so}
use Rattle.esr_plain.proofs.Blobs.{IsStoredAs, not_stored, stored_at, absent_at}
use Rattle.esr_plain.proofs.reading.blob_at.Goals as goal

pub returns-then-not-is_stored : goal.returns-then-not-is_stored
returns-then-not-is_stored c =
    let is = c.as_slice.ensures ∙ c.in_ok-append_name.ensures ∙ ap (λ (b : Bytes). b ++ name_kind.text (name_of c.args.name.now)) c.new-text.ensures in
    not_stored c.args.image.now (name_of c.args.name.now) c.as_slice.result.now is (not_so c.is_stored.result c.is_stored.ensures c.if-not-is_stored.true)

pub returns-in-Some : goal.returns-in-Some
returns-in-Some c =
    let is = c.as_slice-2.ensures ∙ c.in_ok-append_name.ensures ∙ ap (λ (b : Bytes). b ++ name_kind.text (name_of c.args.name.now)) c.new-text.ensures in
    let stored = subst (λ (t : Bytes). IsStoredAs (name_of c.args.name.now) t) (c.as_slice.ensures ∙ sym c.as_slice-2.ensures) (so c.is_stored.result c.is_stored.ensures c.if-not-is_stored.false) in
    stored_at c.args.image.now (name_of c.args.name.now) c.as_slice-2.result.now c.in_ok-from_slice-in-Some.field-0 is stored (sym c.in-Some.ensures ∙ ap Some (sym c.in_ok-from_slice-in-Some.ensures))

pub returns : goal.returns
returns c =
    let is = c.as_slice-2.ensures ∙ c.in_ok-append_name.ensures ∙ ap (λ (b : Bytes). b ++ name_kind.text (name_of c.args.name.now)) c.new-text.ensures in
    absent_at c.args.image.now (name_of c.args.name.now) c.as_slice-2.result.now is (sym c.in-None.ensures)
