-- The blobs of an image, as a look-up goes on.
use Rattle.std.proofs.Common.{◌≡◌, ℕ, ◌+◌, ◌<◌, ◌≤◌, Bool, true, false, cond, List, ◌∷◌, length, drop, get_or, Option, Some, None, sym, ap, ◌∙◌}
use Rattle.std.specs.FinMap as fin
use Rattle.std.specs.Str.{bytes_eq}
use Rattle.std.specs.Ordering.{nat_cmp}
use Rattle.std.specs.Cmp.Lexicographic.{slice_cmp, nat_list_cmp_total, texts_ties}
use Rattle.std.proofs.lemmas.List.{drop_more, drop_all}
use Rattle.esr_model.specs.Values.{Bytes}
use Rattle.esr_plain.specs.declared.image.Blob.{Blob}
use Rattle.esr_plain.specs.Images.{blobs_of}

step : (bs : List Blob) (i : ℕ) (b : Blob) (name : Bytes) → i < length bs → b ≡ get_or bs i b → fin.get (blobs_of (drop i bs)) name ≡ cond (bytes_eq name b.name) (Some b.bytes) (fin.get (blobs_of (drop (i + 1) bs)) name)
step bs i b name less is =
    let rest = drop (i + 1) bs in
    let from : drop i bs ≡ b ∷ rest = drop_more bs i b less ∙ ap (λ (z : Blob). z ∷ rest) (sym is) in
    ap (λ (l : List Blob). fin.get (blobs_of l) name) from ∙ fin.get-insert nat_list_cmp_total (blobs_of rest) b.name b.bytes name
    ∙ ap (λ (t : Bool). cond t (Some b.bytes) (fin.get (blobs_of rest) name)) (sym (texts_ties name b.name))

pub found_here : (bs : List Blob) (i : ℕ) (b : Blob) (name : Bytes) (all : Option Bytes) → i < length bs → b ≡ get_or bs i b → bytes_eq name b.name ≡ true → fin.get (blobs_of (drop i bs)) name ≡ all → Some b.bytes ≡ all
found_here bs i b name all less is same so_far =
    sym (ap (λ (t : Bool). cond t (Some b.bytes) (fin.get (blobs_of (drop (i + 1) bs)) name)) same) ∙ sym (step bs i b name less is) ∙ so_far

pub not_here : (bs : List Blob) (i : ℕ) (b : Blob) (name : Bytes) (all : Option Bytes) → i < length bs → b ≡ get_or bs i b → bytes_eq name b.name ≡ false → fin.get (blobs_of (drop i bs)) name ≡ all
    → fin.get (blobs_of (drop (i + 1) bs)) name ≡ all
not_here bs i b name all less is other so_far =
    sym (ap (λ (t : Bool). cond t (Some b.bytes) (fin.get (blobs_of (drop (i + 1) bs)) name)) other) ∙ sym (step bs i b name less is) ∙ so_far

pub nowhere : (bs : List Blob) (i : ℕ) (name : Bytes) (all : Option Bytes) → length bs ≤ i → fin.get (blobs_of (drop i bs)) name ≡ all → None ≡ all
nowhere bs i name all past so_far = sym (ap (λ (l : List Blob). fin.get (blobs_of l) name) (drop_all i bs past) ∙ fin.get-empty (slice_cmp nat_cmp) name) ∙ so_far
