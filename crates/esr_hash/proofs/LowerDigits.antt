-- The bytes of lower-case digits.
use Rattle.std.proofs.Common.{◌≡◌, ℕ, zero, suc, ◌+◌, ◌*◌, ◌/◌, ◌%◌, ◌<◌, ◌≤◌, ◌^◌, ◌==◌, Bool, true, false, ◌&&◌, inl, inr, List, [], ◌∷◌, ◌++◌, length, take, drop, slice_index, slice_set, Option, Some, None, refl, sym, ap, ◌∙◌, arith}
use Rattle.std.specs.Str.{bytes_eq}
use Rattle.std.proofs.lemmas.Bool.{and_parts, cases_lt, eqb-true}
use Rattle.std.proofs.lemmas.List.{append_assoc, append-nil, drop_all, take_all, take_more_set}
use Rattle.std.proofs.lemmas.Slice.Eq.{bytes_eq-Decides}
use Rattle.hex.specs.Hex.{IsBytes, encode_with, lower_digits}
use Rattle.hex.proofs.Pairs.{drop-pair}
use Rattle.esr_hash.specs.declared.print.Print.{Print}
use Rattle.esr_hash.specs.Digits.{digits_of, lower_value, lower_bytes, read_print}
use Rattle.esr_hash.specs.DigitLaws.{read_print-is}

-- ---- the loop over pairs

pub bytes_step : (s bytes : List ℕ) (i v : ℕ) → 2 * i + 1 < length s → i < length bytes
    → v ≡ lower_value (slice_index s (2 * i)) * 16 + lower_value (slice_index s (2 * i + 1))
    → take i bytes ++ lower_bytes (drop (2 * i) s) ≡ lower_bytes s
    → take (i + 1) (slice_set bytes i v) ++ lower_bytes (drop (2 * (i + 1)) s) ≡ lower_bytes s
bytes_step s bytes i v fits room is inv =
    let front = take_more_set bytes i v room in
    let rest : lower_bytes (drop (2 * i) s) ≡ v ∷ lower_bytes (drop (2 * (i + 1)) s) = ap lower_bytes (drop-pair s i fits) ∙ ap (λ (b : ℕ). b ∷ lower_bytes (drop (2 * (i + 1)) s)) (sym is) in
    rw (front, append_assoc) (rw rest at inv)

pub bytes_done : (s bytes : List ℕ) (i : ℕ) → length bytes ≤ i → length s ≤ 2 * i
    → take i bytes ++ lower_bytes (drop (2 * i) s) ≡ lower_bytes s → bytes ≡ lower_bytes s
bytes_done s bytes i whole all inv =
    let d = drop_all (2 * i) s all in
    let t = take_all i bytes whole in
    rw (d, t, append-nil) at inv

-- ---- the bytes of their digits

-- the test of one digit, which computes
abbrev reads_back : ℕ → Bool
reads_back d = lower_value (slice_index lower_digits d) == d

abbrev all_read_back : ℕ → Bool
all_read_back zero = true
all_read_back (suc n) = reads_back n && all_read_back n

all_read_back-at : (n d : ℕ) → all_read_back n ≡ true → d < n → reads_back d ≡ true
all_read_back-at zero d h lt = absurd (omega arith)
all_read_back-at (suc n) d h lt =
    let parts = and_parts (reads_back n) (all_read_back n) h in
    elim (cases_lt d n) [
      | inl below ↦ all_read_back-at n d parts.1 below
      | inr top ↦
          let e : d ≡ n = omega arith in
          rw e parts.0
    ]

lower_value-of : (d : ℕ) → d < 16 → lower_value (slice_index lower_digits d) ≡ d
lower_value-of d lt = eqb-true (lower_value (slice_index lower_digits d)) d (all_read_back-at 16 d refl lt)

lower_bytes-digits_of : (bytes : List ℕ) → IsBytes bytes → lower_bytes (digits_of bytes) ≡ bytes
unfolding encode_with
lower_bytes-digits_of [] h = refl
lower_bytes-digits_of (b ∷ rest) h =
    let fits : b < 256 = h 0 in
    let high : b / 16 < 16 = omega arith in
    let low : b % 16 < 16 = omega arith in
    let whole : b / 16 * 16 + b % 16 ≡ b = omega arith in
    let ih = lower_bytes-digits_of rest (λ k. h (suc k)) in
    rw (lower_value-of (b / 16) high, lower_value-of (b % 16) low, whole, ih) refl

-- bytes that aren't written as the digits from which they are
no_print : (len : ℕ) (s bytes : List ℕ) (o : Option Print) → len < 2 ^ 64 → read_print len s ≡ o
    → bytes ≡ lower_bytes s → bytes_eq (digits_of bytes) s ≡ false → o ≡ None
no_print len s bytes None fits e is other = refl
no_print len s bytes (Some p) fits e is other =
    let own = read_print-is len s p fits e in
    let back : bytes ≡ p.sha256 = is ∙ ap lower_bytes (sym own.2) ∙ lower_bytes-digits_of p.sha256 own.0.bytes in
    let same : bytes_eq (digits_of bytes) s ≡ true = (bytes_eq-Decides (digits_of bytes) s).1 (ap digits_of back ∙ own.2) in
    cc (sym same ∙ other)

pub read_print-other : (len : ℕ) (s bytes : List ℕ) → len < 2 ^ 64 → bytes ≡ lower_bytes s → bytes_eq (digits_of bytes) s ≡ false
    → read_print len s ≡ None
read_print-other len s bytes fits is other = no_print len s bytes (read_print len s) fits refl is other
