-- Laws of the texts of ids: their length, and that each is read back.
use Rattle.std.proofs.Common.{◌≡◌, ℕ, zero, suc, ◌^◌, ◌<◌, nat_lt, Bool, true, false, cond, List, [], length, get_or, refl, sym, ap, ◌∙◌, arith, add-zero, ◌-◌, ◌==◌, subst}
use Rattle.std.specs.Int.{w128, to_be_bytes, from_be_bytes, bytes_high_first, byte_at}
use Rattle.std.specs.declared.option.Option.{Option}
use Rattle.std.specs.declared.option.Option.TheVariants.{None, Some}
use Rattle.std.specs.declared.result.Result.{Result}
use Rattle.std.specs.declared.result.Result.TheVariants.{Ok, Err}
use Rattle.base64.specs.declared.decode.DecodeError.{DecodeError}
use Rattle.std.proofs.lemmas.Bool.{lt-ltb, ltb-true}
use Rattle.base64.specs.Engines.{url_safe_no_pad}
use Rattle.base64.specs.GeneralPurpose.{decode_of}
use Rattle.base64.proofs.EngineFacts.{decode_of-encode_of, IsAscii-encode_of}
use Rattle.std.specs.Str.{IsUtf8}
use Rattle.std.proofs.lemmas.Str.{IsUtf8-from_ascii}
use Rattle.std.specs.Prelude.{option_map, option_and_then}
use Rattle.std.specs.Result.{result_ok}
use Rattle.uuid.proofs.OrderLemmas.{from_be_bytes-to_be_bytes_16}
use Rattle.std.proofs.lemmas.List.{length-append}
use Rattle.base64.specs.Rfc4648.{encode_symbols}
use Rattle.base64.proofs.RoundTrip.{length-encode_symbols}
use Rattle.esr_names.specs.IdText.{id_text, of_16_bytes, id_of, read_id}
use Rattle.esr_names.specs.declared.ids.Id.{Id}

byte_small : (k n : ℕ) → byte_at k n < 256
byte_small zero n = omega arith
byte_small (suc k) n = omega arith

bytes_small : (k n i : ℕ) → get_or (bytes_high_first k n) i 0 < 256
bytes_small zero n i = omega arith
bytes_small (suc k) n zero = byte_small k n
bytes_small (suc k) n (suc i) = bytes_small k n i

-- the text of a number decodes to its bytes
pub id_text_decodes : (n : ℕ) → n < 2 ^ 128 → decode_of url_safe_no_pad (id_text n) ≡ Ok (to_be_bytes w128 n)
unfolding id_text
id_text_decodes n fits = decode_of-encode_of url_safe_no_pad (to_be_bytes w128 n) refl (bytes_small 16 n)

pub length-id_text : (n : ℕ) → length (id_text n) ≡ 22
unfolding id_text
length-id_text n = length-append (encode_symbols (url_safe_no_pad.encode_table) (to_be_bytes w128 n)) [] ∙ add-zero _ ∙ length-encode_symbols url_safe_no_pad.encode_table (to_be_bytes w128 n)

of_16 : (b : List ℕ) → from_be_bytes w128 b < 2 ^ 128 → of_16_bytes b ≡ Some (from_be_bytes w128 b)
unfolding of_16_bytes
of_16 b fits = ap (λ (t : Bool). cond t (Some (from_be_bytes w128 b)) None) (lt-ltb _ _ fits)

pub id_of_is : (bytes b : List ℕ) → length bytes ≡ 22 → decode_of url_safe_no_pad bytes ≡ Ok b → from_be_bytes w128 b < 2 ^ 128 → id_of bytes ≡ Some (from_be_bytes w128 b)
unfolding id_of
id_of_is bytes b whole decoded fits =
    ap (λ (l : ℕ). cond (l == 22) (option_and_then of_16_bytes (result_ok (decode_of url_safe_no_pad bytes))) None) whole
    ∙ ap (λ (r : Result (List ℕ) DecodeError). option_and_then of_16_bytes (result_ok r)) decoded
    ∙ of_16 b fits

-- the text of an id is read as it
pub id_of-id_text : (n : ℕ) → n < 2 ^ 128 → id_of (id_text n) ≡ Some n
id_of-id_text n fits =
    let same = from_be_bytes-to_be_bytes_16 n fits in
    id_of_is (id_text n) _ (length-id_text n) (id_text_decodes n fits) (subst (λ (k : ℕ). k < 2 ^ 128) (sym same) fits) ∙ ap Some same

pub id_of_decoded : (f : List ℕ → Option ℕ) (whole : Bool) (r : Result (List ℕ) DecodeError) (n : ℕ) → cond whole (option_and_then f (result_ok r)) None ≡ Some n
    → (whole ≡ true) × (b : List ℕ) × (r ≡ Ok b) × (f b ≡ Some n)
id_of_decoded f true (Ok b) n h = (refl, b, refl, h)
id_of_decoded f true (Err e) n h = cc
id_of_decoded f false r n h = cc

fits_16 : (t : Bool) (m n : ℕ) → t ≡ nat_lt m (2 ^ 128) → cond t (Some m) None ≡ Some n → n < 2 ^ 128
fits_16 true m n test h = let same : m ≡ n = cc in subst (λ (k : ℕ). k < 2 ^ 128) same (ltb-true m (2 ^ 128) (sym test))
fits_16 false m n test h = cc

of_16_fits : (b : List ℕ) (n : ℕ) → of_16_bytes b ≡ Some n → n < 2 ^ 128
unfolding of_16_bytes
of_16_fits b n h = fits_16 _ _ n refl h

-- an id is of 128 bits
pub id_of_fits : (bytes : List ℕ) (n : ℕ) → id_of bytes ≡ Some n → n < 2 ^ 128
unfolding id_of
id_of_fits bytes n h =
    let parts = id_of_decoded of_16_bytes _ _ n h in
    of_16_fits parts.1 n parts.3

mapped : (o : Option ℕ) (u : Id) → option_map (λ n. record { number = n }) o ≡ Some u → o ≡ Some u.number
mapped None u h = cc
mapped (Some n) u h = ap (option_map (λ (v : Id). v.number)) h

pub read_id_fits : (bytes : List ℕ) (u : Id) → read_id bytes ≡ Some u → u.number < 2 ^ 128
unfolding read_id
read_id_fits bytes u h = id_of_fits bytes u.number (mapped (id_of bytes) u h)

pub read_id-id_text : (u : Id) → u.number < 2 ^ 128 → read_id (id_text u.number) ≡ Some u
unfolding read_id
read_id-id_text u fits = ap (option_map (λ (n : ℕ). let v : Id = record { number = n } in v)) (id_of-id_text u.number fits)

-- the text of an id is text
pub IsUtf8-id_text : (n : ℕ) → IsUtf8 (id_text n)
unfolding id_text
IsUtf8-id_text n = IsUtf8-from_ascii _ (IsAscii-encode_of url_safe_no_pad (to_be_bytes w128 n))
