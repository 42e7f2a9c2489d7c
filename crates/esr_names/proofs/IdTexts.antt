-- Sixteen bytes and the number that they spell, and what base64 decodes.
use Rattle.std.proofs.Common.{◌≡◌, ℕ, ◌+◌, ◌*◌, ◌/◌, ◌%◌, ◌^◌, ◌<◌, ◌≤◌, nat_lt, Bool, false, cond, List, [], ◌∷◌, length, get_or, refl, sym, ap, ◌∙◌, arith, inl, inr, add-zero, ◌-◌}
use Rattle.std.specs.Int.{w128, to_be_bytes, from_be_bytes}
use Rattle.std.specs.declared.option.Option.{Option}
use Rattle.std.specs.declared.option.Option.TheVariants.{None, Some}
use Rattle.std.specs.declared.result.Result.TheVariants.{Ok, Err}
use Rattle.base64.specs.declared.decode.DecodeError.{DecodeError}
use Rattle.base64.specs.declared.decode.DecodeSliceError.TheVariants.{OutputSliceTooSmall}
use Rattle.base64.specs.Decode.{or_else, or_error, bytes_fit, decode_outcome}
use Rattle.std.proofs.lemmas.Bool.{cases_Bool, le-ltb, eqb-true}
use Rattle.base64.specs.Engines.{url_safe_no_pad}
use Rattle.base64.specs.GeneralPurpose.{decoded_bytes_of, decode_of, decode_slice_of, encode_of, IsBytes}
use Rattle.base64.proofs.EngineFacts.{decode_of_strict}
use Rattle.esr_names.specs.IdText.{id_text, of_16_bytes, id_of}
use Rattle.std.proofs.lemmas.List.{length-append}
use Rattle.base64.specs.Rfc4648.{encode_symbols}
use Rattle.base64.proofs.RoundTrip.{length-encode_symbols}
use Rattle.esr_names.specs.IdTextLaws.{id_text_decodes, length-id_text, id_of_decoded}

-- the bytes that a number is spelled by are its bytes
bytes_16 : (a b c d e f g h i j k l m o p q n : ℕ)
    → a < 256 → b < 256 → c < 256 → d < 256 → e < 256 → f < 256 → g < 256 → h < 256
    → i < 256 → j < 256 → k < 256 → l < 256 → m < 256 → o < 256 → p < 256 → q < 256
    → n ≡ a * 1329227995784915872903807060280344576 + b * 5192296858534827628530496329220096 + c * 20282409603651670423947251286016 + d * 79228162514264337593543950336 + e * 309485009821345068724781056
    + f * 1208925819614629174706176 + g * 4722366482869645213696 + h * 18446744073709551616 + i * 72057594037927936 + j * 281474976710656 + k * 1099511627776 + l * 4294967296 + m * 16777216 + o * 65536 + p * 256 + q
    → to_be_bytes w128 n ≡ a ∷ b ∷ c ∷ d ∷ e ∷ f ∷ g ∷ h ∷ i ∷ j ∷ k ∷ l ∷ m ∷ o ∷ p ∷ q ∷ []
bytes_16 a b c d e f g h i j k l m o p q n a' b' c' d' e' f' g' h' i' j' k' l' m' o' p' q' is =
    let at_a : n / 1329227995784915872903807060280344576 % 256 ≡ a = omega arith in
    let at_b : n / 5192296858534827628530496329220096 % 256 ≡ b = omega arith in
    let at_c : n / 20282409603651670423947251286016 % 256 ≡ c = omega arith in
    let at_d : n / 79228162514264337593543950336 % 256 ≡ d = omega arith in
    let at_e : n / 309485009821345068724781056 % 256 ≡ e = omega arith in
    let at_f : n / 1208925819614629174706176 % 256 ≡ f = omega arith in
    let at_g : n / 4722366482869645213696 % 256 ≡ g = omega arith in
    let at_h : n / 18446744073709551616 % 256 ≡ h = omega arith in
    let at_i : n / 72057594037927936 % 256 ≡ i = omega arith in
    let at_j : n / 281474976710656 % 256 ≡ j = omega arith in
    let at_k : n / 1099511627776 % 256 ≡ k = omega arith in
    let at_l : n / 4294967296 % 256 ≡ l = omega arith in
    let at_m : n / 16777216 % 256 ≡ m = omega arith in
    let at_o : n / 65536 % 256 ≡ o = omega arith in
    let at_p : n / 256 % 256 ≡ p = omega arith in
    let at_q : n % 256 ≡ q = omega arith in
    λ x. at_a x ∷ at_b x ∷ at_c x ∷ at_d x ∷ at_e x ∷ at_f x ∷ at_g x ∷ at_h x ∷ at_i x ∷ at_j x ∷ at_k x ∷ at_l x ∷ at_m x ∷ at_o x ∷ at_p x ∷ at_q x ∷ []

sixteen : (bs : List ℕ) → length bs ≡ 16 → get_or bs 0 0 ∷ get_or bs 1 0 ∷ get_or bs 2 0 ∷ get_or bs 3 0 ∷ get_or bs 4 0 ∷ get_or bs 5 0 ∷ get_or bs 6 0
    ∷ get_or bs 7 0 ∷ get_or bs 8 0 ∷ get_or bs 9 0 ∷ get_or bs 10 0 ∷ get_or bs 11 0 ∷ get_or bs 12 0 ∷ get_or bs 13 0 ∷ get_or bs 14 0 ∷ get_or bs 15 0 ∷ [] ≡ bs
sixteen (a ∷ b ∷ c ∷ d ∷ e ∷ f ∷ g ∷ h ∷ i ∷ j ∷ k ∷ l ∷ m ∷ o ∷ p ∷ q ∷ []) len = refl
sixteen bs len = absurd (omega arith)

pub be_bytes_16 : (bs : List ℕ) (n : ℕ) → length bs ≡ 16 → ((i : ℕ) → get_or bs i 0 < 256) → n ≡ from_be_bytes w128 bs → to_be_bytes w128 n ≡ bs
be_bytes_16 bs n l small is =
    bytes_16 _ _ _ _ _ _ _ _ _ _ _ _ _ _ _ _ n (small 0) (small 1) (small 2) (small 3) (small 4) (small 5) (small 6) (small 7) (small 8) (small 9) (small 10) (small 11) (small 12) (small 13) (small 14) (small 15) is ∙ sixteen bs l

-- decoding into a slice is decoding, where what it gives fits
pub slice_ok : (lone rest : Option DecodeError) (full : Bool) (len out n : ℕ)
    → or_error lone (cond full (Err OutputSliceTooSmall) (or_error rest (bytes_fit len out))) ≡ Ok n → (or_else lone rest ≡ None) × (n ≡ len)
slice_ok None None false len out n h = elim (cases_Bool (nat_lt out len)) [
  | inl big ↦ cc (rw big at h)
  | inr fits ↦ let e = rw fits at h in (refl, cc)
]
slice_ok None (Some e) false len out n h = cc
slice_ok lone rest full len out n h = cc

pub slice_fits : (lone rest : Option DecodeError) (full : Bool) (len out : ℕ)
    → or_else lone rest ≡ None → full ≡ false → len ≤ out → or_error lone (cond full (Err OutputSliceTooSmall) (or_error rest (bytes_fit len out))) ≡ Ok len
slice_fits None None full len out none room fits = rw (room, le-ltb out len fits) refl
slice_fits None (Some e) full len out none room fits = cc
slice_fits (Some e) rest full len out none room fits = cc

pub outcome_ok : (x : Option DecodeError) (d b : List ℕ) → decode_outcome x d ≡ Ok b → (x ≡ None) × (d ≡ b)
outcome_ok None d b h = (refl, cc)
outcome_ok (Some e) d b h = cc

-- what decodes with no error, to so many bytes, decodes into a slice of as many
pub id_text_slice : (bytes : List ℕ) (n : ℕ) → n < 2 ^ 128 → bytes ≡ id_text n → decode_slice_of url_safe_no_pad bytes 16 ≡ Ok 16
id_text_slice bytes n fits is =
    let decoded : decode_of url_safe_no_pad bytes ≡ Ok (to_be_bytes w128 n) = rw is (id_text_decodes n fits) in
    let parts = outcome_ok _ _ _ decoded in
    let len : length (decoded_bytes_of url_safe_no_pad bytes) ≡ 16 = ap length parts.1 in
    let whole : length bytes ≡ 22 = ap length is ∙ length-id_text n in
    let room : nat_lt 5 ((length bytes - 1) / 4) ≡ false = rw whole refl in
    slice_fits _ _ _ _ 16 parts.0 room (omega arith) ∙ ap Ok len

-- what decodes into a slice decodes
pub is_decoded : (bytes : List ℕ) (n : ℕ) → decode_slice_of url_safe_no_pad bytes 16 ≡ Ok n
    → (decode_of url_safe_no_pad bytes ≡ Ok (decoded_bytes_of url_safe_no_pad bytes)) × (length (decoded_bytes_of url_safe_no_pad bytes) ≡ n)
is_decoded bytes n ok =
    let parts = slice_ok _ _ _ _ 16 n ok in
    (ap (λ x. decode_outcome x (decoded_bytes_of url_safe_no_pad bytes)) parts.0, sym parts.1)

-- what is read as an id decodes to sixteen bytes
pub id_of_slice : (bytes : List ℕ) (n : ℕ) → IsBytes bytes → id_of bytes ≡ Some n → decode_slice_of url_safe_no_pad bytes 16 ≡ Ok 16
unfolding id_of
id_of_slice bytes n small h =
    let parts = id_of_decoded of_16_bytes _ _ n h in
    let b : List ℕ = parts.1 in
    let whole : length bytes ≡ 22 = eqb-true (length bytes) 22 parts.0 in
    let spelled : bytes ≡ encode_of url_safe_no_pad b = decode_of_strict url_safe_no_pad bytes b (refl, refl) small parts.2 in
    let outcome = outcome_ok _ _ _ parts.2 in
    let spelled_len : length bytes ≡ (4 * length b + 2) / 3 = ap length spelled ∙ length-append (encode_symbols url_safe_no_pad.encode_table b) [] ∙ add-zero _ ∙ length-encode_symbols url_safe_no_pad.encode_table b in
    let len : length (decoded_bytes_of url_safe_no_pad bytes) ≡ 16 = ap length outcome.1 ∙ omega arith in
    let room : nat_lt 5 ((length bytes - 1) / 4) ≡ false = rw whole refl in
    slice_fits _ _ _ _ 16 outcome.0 room (omega arith) ∙ ap Ok len

none_when : (r : Option ℕ) → ((n : ℕ) → r ≡ Some n → ⊥) → None ≡ r
none_when None h = refl
none_when (Some n) h = absurd (h n refl)

pub none_of : (bytes : List ℕ) → ((n : ℕ) → id_of bytes ≡ Some n → ⊥) → None ≡ id_of bytes
none_of bytes h = none_when (id_of bytes) h
