-- Laws of the digits of digests: a print is read back from them, and they are text.
use Rattle.std.proofs.Common.{◌≡◌, ℕ, ◌<◌, ◌^◌, ◌*◌, true, inl, inr, nat_lt, IsUtf8, List, [], ◌∷◌, length, Option, Some, None, Result, Ok, Err, unwrap_or, refl, sym, ap, ◌∙◌, subst, arith}
use Rattle.std.specs.List.{list_all}
use Rattle.std.specs.Str.{bytes_eq, IsAscii}
use Rattle.std.proofs.lemmas.Bool.{cases_Bool, and_parts, ltb-true}
use Rattle.std.proofs.lemmas.Slice.Eq.{bytes_eq-Decides}
use Rattle.std.proofs.lemmas.Str.{IsUtf8-from_ascii}
use Rattle.std.proofs.lemmas.Str.Ascii.{IsAscii-nil, IsAscii-cons}
use Rattle.hex.specs.Hex.{decode_sized, lower_digits}
use Rattle.hex.specs.declared.error.FromHexError.{FromHexError}
use Rattle.hex.proofs.HexLemmas.{decode_sized-encode_lower, decode_sized-ok, decode_sized-twice, decode_of-ok, IsAscii-encode_with}
use Rattle.esr_hash.specs.declared.print.Print.{Print}
use Rattle.esr_hash.specs.Digits.{digits_of, IsPrint, written_so, read_print}

same_bytes : (xs : List ℕ) → bytes_eq xs xs ≡ true
same_bytes xs = (bytes_eq-Decides xs xs).1 refl

pub read_print-digits_of : (p : Print) → IsPrint p → read_print p.len (digits_of p.sha256) ≡ Some p
read_print-digits_of p h = rw (decode_sized-encode_lower p.sha256 32 h.size h.bytes, same_bytes (digits_of p.sha256)) refl

-- what is read was written so
written_so-is : (len : ℕ) (s : List ℕ) (r : Result (List ℕ) FromHexError) (p : Print) → written_so len s r ≡ Some p
    → (p.len ≡ len) × (digits_of p.sha256 ≡ s) × (r ≡ Ok p.sha256)
written_so-is len s (Err e) p h = cc h
written_so-is len s (Ok bytes) p h =
    elim (cases_Bool (bytes_eq (digits_of bytes) s)) [
      | inl same ↦
          let found : ◌≡◌ {A = Option Print} (Some (record { len = len; sha256 = bytes })) (Some p) = rw same at h in
          let empty : Print = record { len = len; sha256 = bytes } in
          let is : record { len = len; sha256 = bytes } ≡ p = ap (λ (o : Option Print). unwrap_or o empty) found in
          (ap (λ (q : Print). q.len) (sym is), ap (λ (q : Print). digits_of q.sha256) (sym is) ∙ (bytes_eq-Decides (digits_of bytes) s).0 same, ap (λ (q : Print). Ok q.sha256) is)
      | inr other ↦
          let none : ◌≡◌ {A = Option Print} None (Some p) = rw other at h in
          cc none
    ]

pub read_print-is : (len : ℕ) (s : List ℕ) (p : Print) → len < 2 ^ 64 → read_print len s ≡ Some p → IsPrint p × (p.len ≡ len) × (digits_of p.sha256 ≡ s)
read_print-is len s p fits h =
    let is = written_so-is len s (decode_sized s 32) p h in
    let long : length s ≡ 2 * 32 = decode_sized-ok s 32 p.sha256 is.2 in
    let bytes = decode_of-ok s p.sha256 (sym (decode_sized-twice s 32 long) ∙ is.2) in
    (record { len = subst (λ (n : ℕ). n < 2 ^ 64) (sym is.0) fits; size = omega (arith, bytes.2, long); bytes = bytes.3 }, is.0, is.1)

pub digits_of-same : (p q : Print) → IsPrint p → IsPrint q → digits_of p.sha256 ≡ digits_of q.sha256 → p.sha256 ≡ q.sha256
digits_of-same p q hp hq same =
    let found : ◌≡◌ {A = Result (List ℕ) FromHexError} (Ok p.sha256) (Ok q.sha256) =
    sym (decode_sized-encode_lower p.sha256 32 hp.size hp.bytes) ∙ ap (λ (s : List ℕ). decode_sized s 32) same ∙ decode_sized-encode_lower q.sha256 32 hq.size hq.bytes in
    cc found

-- the test of each byte, which computes
IsAscii-from_test : (bs : List ℕ) → list_all (λ b. nat_lt b 128) bs ≡ true → IsAscii bs
IsAscii-from_test [] e = IsAscii-nil
IsAscii-from_test (b ∷ bs) e = let p = and_parts (nat_lt b 128) (list_all (λ x. nat_lt x 128) bs) e in IsAscii-cons b bs (ltb-true b 128 p.0) (IsAscii-from_test bs p.1)

pub IsUtf8-digits_of : (bytes : List ℕ) → IsUtf8 (digits_of bytes)
IsUtf8-digits_of bytes = IsUtf8-from_ascii (digits_of bytes) (IsAscii-encode_with lower_digits bytes (IsAscii-from_test lower_digits refl))
