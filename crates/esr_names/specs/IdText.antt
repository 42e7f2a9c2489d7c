-- The texts of ids.
use Rattle.std.specs.Prelude.{ℕ, ◌^◌, List, length, ◌==◌, if◌then◌else◌, Option, None, Some, nat_lt, option_map, option_and_then}
use Rattle.std.specs.Result.{result_ok}
use Rattle.std.specs.Int.{w128, to_be_bytes, from_be_bytes}
use Rattle.esr_names.specs.declared.ids.Id.{Id}
use Rattle.base64.specs.Engines.{url_safe_no_pad}
use Rattle.base64.specs.GeneralPurpose.{encode_of, decode_of}

-- the URL-safe base64 of RFC 4648, with no padding, of the sixteen bytes of a number, the highest first
unfoldable pub id_text : ℕ → List ℕ
id_text n = encode_of url_safe_no_pad (to_be_bytes w128 n)

-- the number that sixteen bytes spell
unfoldable pub of_16_bytes : List ℕ → Option ℕ
of_16_bytes bytes = if nat_lt (from_be_bytes w128 bytes) (2 ^ 128) then Some (from_be_bytes w128 bytes) else None

-- the number of the id whose text these bytes are
unfoldable pub id_of : List ℕ → Option ℕ
id_of bytes =
    if length bytes == 22 then option_and_then of_16_bytes (result_ok (decode_of url_safe_no_pad bytes)) else None

-- the id whose text these bytes are
unfoldable pub read_id : List ℕ → Option Id
read_id bytes = option_map (λ n. record { number = n }) (id_of bytes)
