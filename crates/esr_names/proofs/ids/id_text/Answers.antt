use Rattle.std.proofs.Common.{◌≡◌, ◌∙◌, Ok, arith, subst, sym}
use Rattle.std.specs.Int.{w128, to_be_bytes}
use Rattle.std.specs.Str.{IsUtf8}
use Rattle.std.proofs.lemmas.List.{append-nil}
use Rattle.esr_names.specs.IdText.{id_text}
use Rattle.esr_names.specs.IdTextLaws.{IsUtf8-id_text}
use Rattle.esr_names.proofs.ids.id_text.Goals as goal

pub returns-clause-text : goal.returns-clause-text
unfolding id_text
returns-clause-text c =
    let bytes : c.as_bytes.result.now ≡ to_be_bytes w128 c.args.id.number = c.as_bytes.ensures ∙ c.from_u128.ensures in
    let fits = rw bytes at c.encode_slice.ensures.fits in
    let ok : c.encode_slice.result ≡ Ok 22 = fits (omega arith) in
    let written = rw (bytes, ok) at c.encode_slice.ensures.written in
    written ∙ append-nil _

pub returns-clause-utf8 : goal.returns-clause-utf8
returns-clause-utf8 c = subst IsUtf8 (sym (returns-clause-text c)) (IsUtf8-id_text c.args.id.number)
