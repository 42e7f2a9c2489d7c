-- The text of a name is read as that name.
use Rattle.std.proofs.Common.{◌≡◌, ℕ, ◌+◌, ◌*◌, ◌-◌, ◌/◌, ◌%◌, ◌<◌, ◌^◌, nat_lt, nat_le, true, false, List, [], ◌∷◌, ◌++◌, length, codes, Some, zero-add, refl, ap, ◌∙◌, arith}
use Rattle.std.specs.Prelude.{decimal}
use Rattle.std.proofs.lemmas.Bool.{lt-ltb, le-leb, le-ltb}
use Rattle.std.proofs.lemmas.Fmt.{decimal_by_steps}
use Rattle.std.proofs.lemmas.List.{append_assoc, append-nil, length-append, take_at, drop_at}
use Rattle.esr_names.specs.IdText.{id_text}
use Rattle.esr_names.specs.declared.ids.Id.{Id}
use Rattle.esr_names.specs.declared.blob.BlobName.{BlobName}
use Rattle.esr_names.specs.declared.blob.BlobName.TheVariants.{Root, Latest, Snap, Meta, IndexMeta, ShardSnap, ShardIndex, Whole, Part, TestMaster, TestNode}
use Rattle.esr_names.specs.Layout.{name_text, below, IsName, IsId, HasIds}
use Rattle.esr_names.specs.declared.blob.ShardId.{ShardId}
use Rattle.esr_names.specs.Reading.{number_from, number_at, id_at, shard_name, index_name, test_name, name_of}
use Rattle.esr_names.specs.IdTextLaws.{length-id_text, read_id-id_text}

number_step : (m d : ℕ) (rest : List ℕ) → d < 10 → m * 10 + d < 2 ^ 64 → number_from m ((48 + d) ∷ rest) ≡ number_from (m * 10 + d) rest
unfolding number_from
number_step m d rest small fits =
    let low : nat_le 48 (48 + d) ≡ true = le-leb 48 (48 + d) (omega arith) in
    let high : nat_le (48 + d) 57 ≡ true = le-leb (48 + d) 57 (omega arith) in
    let value : 48 + d - 48 ≡ d = omega arith in
    let room : nat_lt (m * 10 + d) (2 ^ 64) ≡ true = lt-ltb _ _ fits in
    rw (low, high, value, room) refl

-- what is read of the digits of a number
abbrev Reads : ℕ → List ℕ → Type 0
Reads n digits = n < 2 ^ 64 → (rest : List ℕ) → number_from 0 (digits ++ rest) ≡ number_from n rest

number_from-decimal : (n : ℕ) → n < 2 ^ 64 → (rest : List ℕ) → number_from 0 (decimal n ++ rest) ≡ number_from n rest
number_from-decimal n fits = decimal_by_steps Reads
    (λ d small _ rest. number_step 0 d rest small (omega arith) ∙ ap (λ (k : ℕ). number_from k rest) (zero-add d))
    (λ m digits _ front fit rest.
    let tens : m / 10 * 10 + m % 10 ≡ m = omega arith in
    rw append_assoc (front (omega arith) ((48 + m % 10) ∷ rest) ∙ number_step (m / 10) (m % 10) rest (omega arith) (omega arith) ∙ ap (λ (k : ℕ). number_from k rest) tens))
    n fits fits

pub number_at_end : (n : ℕ) → n < 2 ^ 64 → number_at (decimal n) ≡ Some (n, [])
unfolding number_from
number_at_end n fits = rw append-nil at (number_from-decimal n fits [])

pub number_at_slash : (n : ℕ) (rest : List ℕ) → n < 2 ^ 64 → number_at (decimal n ++ 47 ∷ rest) ≡ Some (n, 47 ∷ rest)
unfolding number_from
number_at_slash n rest fits = number_from-decimal n fits (47 ∷ rest)

pub number_at_dot : (n : ℕ) (rest : List ℕ) → n < 2 ^ 64 → number_at (decimal n ++ 46 ∷ rest) ≡ Some (n, 46 ∷ rest)
unfolding number_from
number_at_dot n rest fits = number_from-decimal n fits (46 ∷ rest)

pub id_at-text : (u : Id) (rest : List ℕ) → IsId u → id_at (id_text u.number ++ rest) ≡ Some (u, rest)
unfolding id_at
id_at-text u rest fits =
    let long : nat_lt (length (id_text u.number ++ rest)) 22 ≡ false = le-ltb _ _ (omega (arith, length-append (id_text u.number) rest, length-id_text u.number)) in
    rw (long, take_at (id_text u.number) rest 22 (length-id_text u.number), drop_at (id_text u.number) rest 22 (length-id_text u.number), read_id-id_text u fits) refl

-- below a shard's folder
below-name : (s : ShardId) (rest : List ℕ) → IsId s.index → s.number < 1024 → name_of (below s rest) ≡ shard_name s rest
unfolding name_of index_name
below-name s rest ids small =
    let room : nat_lt s.number 1024 ≡ true = lt-ltb _ _ small in
    rw (id_at-text s.index (47 ∷ (decimal s.number ++ 47 ∷ rest)) ids, number_at_slash s.number rest (omega arith), room) refl

pub id_at_end : (u : Id) → IsId u → id_at (id_text u.number) ≡ Some (u, [])
id_at_end u fits = rw append-nil at (id_at-text u [] fits)

pub name_of-name_text : (b : BlobName) → HasIds b → IsName b → name_of (name_text b) ≡ Some b
unfolding name_of name_text HasIds IsName index_name shard_name test_name number_from
name_of-name_text (Root n) ids name = rw (number_at_end n (omega arith)) refl
name_of-name_text Latest ids name = refl
name_of-name_text (Snap u) ids name = rw (id_at-text u (codes ".dat") ids) refl
name_of-name_text (Meta u) ids name = rw (id_at-text u (codes ".dat") ids) refl
name_of-name_text (IndexMeta i u) ids name = rw (id_at-text i _ ids.0, id_at-text u (codes ".dat") ids.1) refl
name_of-name_text (ShardSnap s u) ids name = below-name s _ ids.0 name ∙ rw (id_at-text u (codes ".dat") ids.1) refl
name_of-name_text (ShardIndex s g) ids name = below-name s _ ids.0 name ∙ rw (id_at_end _ ids.1) refl
name_of-name_text (Whole s x) ids name = below-name s _ ids.0 name ∙ rw (id_at_end _ ids.1) refl
name_of-name_text (Part s x k) ids name = below-name s _ ids.0 name.0 ∙ rw (id_at-text x _ ids.1, number_at_end k (omega arith)) refl
name_of-name_text (TestMaster v) ids name = rw (id_at-text v _ ids) refl
name_of-name_text (TestNode v w) ids name =
    let room : nat_lt w 64 ≡ true = lt-ltb _ _ name in
    rw (id_at-text v _ ids, number_at_dot w (codes "dat") (omega arith), room) refl
