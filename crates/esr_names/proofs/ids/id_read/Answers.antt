use Rattle.std.proofs.Common.{◌≡◌, ◌<◌, ℕ, length, Ok, Some, arith, refl, sym, subst, ◌^◌, ap, ◌∙◌}
use Rattle.std.specs.Int.{w128, to_be_bytes, from_be_bytes}
use Rattle.base64.specs.Engines.{url_safe_no_pad}
use Rattle.base64.specs.GeneralPurpose.{decoded_bytes_of, decode_of, decode_slice_of, encode_of}
use Rattle.base64.proofs.EngineFacts.{decode_of_strict, decode_of_bytes}
use Rattle.std.proofs.lemmas.List.{append-nil}
use Rattle.uuid.proofs.OrderLemmas.{from_be_bytes-to_be_bytes_16}
use Rattle.esr_names.specs.IdText.{id_text, read_id}
use Rattle.std.specs.Prelude.{option_map}
use Rattle.esr_names.specs.declared.ids.Id.{Id}
use Rattle.esr_names.specs.IdTextLaws.{id_text_decodes, id_of_is, length-id_text}
use Rattle.esr_names.proofs.IdTexts.{be_bytes_16, is_decoded, id_text_slice, id_of_slice, none_of}
use Rattle.esr_names.proofs.ids.id_read.Goals as goal

abbrev as_id : ℕ → Id
as_id n = record { number = n }

-- the sixteen bytes that were decoded
decoded : (c : goal.After-as_u128) → (decode_of url_safe_no_pad c.args.bytes.now ≡ Ok c.from_bytes.result) × (length c.from_bytes.result ≡ 16)
decoded c =
    let ok : decode_slice_of url_safe_no_pad c.args.bytes.now 16 ≡ Ok 16 = sym c.decode_slice.ensures.value ∙ c.in-Ok-eq16.is ∙ ap Ok c.in-Ok-eq16.field-0-test in
    let whole = is_decoded c.args.bytes.now 16 ok in
    let written : c.from_bytes.result ≡ decoded_bytes_of url_safe_no_pad c.args.bytes.now = c.from_bytes.ensures ∙ c.in-Ok-eq16.ensures.written ∙ rw whole.1 (append-nil _) in
    rw written whole

pub returns-in-Ok-eq16-clause-found : goal.returns-in-Ok-eq16-clause-found
unfolding id_text
returns-in-Ok-eq16-clause-found c =
    let bytes = decoded c in
    let spelled = decode_of_strict url_safe_no_pad c.args.bytes.now _ (refl, refl) (λ i. let small = c.type_inv.bytes i in omega arith) bytes.0 in
    let small = decode_of_bytes url_safe_no_pad c.args.bytes.now _ c.in-Ok-eq16.ensures.bytes bytes.0 in
    spelled ∙ ap (encode_of url_safe_no_pad) (sym (be_bytes_16 c.from_bytes.result c.as_u128.result bytes.1 small c.as_u128.ensures))

pub returns-in-Ok-eq16-clause-only : goal.returns-in-Ok-eq16-clause-only
returns-in-Ok-eq16-clause-only c = λ n fits is.
    let bytes = decoded c in
    let other : decode_of url_safe_no_pad c.args.bytes.now ≡ Ok (to_be_bytes w128 n) = rw is (id_text_decodes n fits) in
    let same : c.from_bytes.result ≡ to_be_bytes w128 n = cc (bytes.0, other) in
    ap (λ k. Some (record { number = k })) (c.as_u128.ensures ∙ ap (from_be_bytes w128) same ∙ from_be_bytes-to_be_bytes_16 n fits)

pub returns-in_default-clause-only : goal.returns-in_default-clause-only
returns-in_default-clause-only c = λ n fits is.
    let ok = id_text_slice c.args.bytes.now n fits is in
    let same : c.in_default.field-0 ≡ 16 = cc (ok, c.decode_slice.ensures.value, c.in_default.is) in
    absurd (c.in_default.field-0-test.1 (cc (same, c.in_default.field-0-is)))

pub returns-in_default-2-clause-only : goal.returns-in_default-2-clause-only
returns-in_default-2-clause-only c = λ n fits is.
    let ok = id_text_slice c.args.bytes.now n fits is in
    cc (ok, c.decode_slice.ensures.value, c.in_default.is)

pub returns-in-Ok-eq16-clause-exact : goal.returns-in-Ok-eq16-clause-exact
unfolding read_id
returns-in-Ok-eq16-clause-exact c =
    let whole : length c.args.bytes.now ≡ 22 = ap length (returns-in-Ok-eq16-clause-found c) ∙ length-id_text c.as_u128.result in
    ap (option_map as_id) (ap Some c.as_u128.ensures ∙ sym (id_of_is c.args.bytes.now _ whole (decoded c).0 (subst (λ (k : ℕ). k < 2 ^ 128) c.as_u128.ensures c.as_u128.type_inv)))

pub returns-in_default-clause-exact : goal.returns-in_default-clause-exact
unfolding read_id
returns-in_default-clause-exact c = ap (option_map as_id) (none_of c.args.bytes.now (λ n h.
    let ok = id_of_slice c.args.bytes.now n (λ i. let small = c.type_inv.bytes i in omega arith) h in
    let same : c.in_default.field-0 ≡ 16 = cc (ok, c.decode_slice.ensures.value, c.in_default.is) in
    c.in_default.field-0-test.1 (cc (same, c.in_default.field-0-is))))

pub returns-in_default-2-clause-exact : goal.returns-in_default-2-clause-exact
unfolding read_id
returns-in_default-2-clause-exact c = ap (option_map as_id) (none_of c.args.bytes.now (λ n h.
    let ok = id_of_slice c.args.bytes.now n (λ i. let small = c.type_inv.bytes i in omega arith) h in
    cc (ok, c.decode_slice.ensures.value, c.in_default.is)))
