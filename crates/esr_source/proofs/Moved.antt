-- The front of some bytes, moved to the front of a buffer.
use Rattle.std.proofs.Common.{◌≡◌, ℕ, List, ◌++◌, length, take, drop, ◌∙◌, ap, subst}
use Rattle.std.proofs.lemmas.List.{take-append-drop}
use Rattle.std.proofs.Math.Seq.{take-append_seam}

pub moved : (n : ℕ) (left piece rest : List ℕ) → piece ≡ take n left → length piece ≡ n → take n (piece ++ rest) ++ drop n left ≡ left
moved n left piece rest is len =
    let front : take n (piece ++ rest) ≡ piece = subst (λ k. take k (piece ++ rest) ≡ piece) len (take-append_seam piece rest) in
    ap (λ p. p ++ drop n left) (front ∙ is) ∙ take-append-drop n left
