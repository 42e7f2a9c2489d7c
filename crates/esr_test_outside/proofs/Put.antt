-- What a crash leaves in each call of a put.
use Rattle.std.proofs.Common.{◌≡◌, inl, inr, List, [], ◌++◌, ℕ, false, Option, Some, None, option_map, Result, Ok, Err, is_err, OnOk, refl, ◌∙◌, ap, subst}
use Rattle.std.specs.Io.KnownBytes.{append_known}
use Rattle.esr_depot.specs.declared.depot.Commit.{Commit}
use Rattle.esr_depot.specs.declared.depot.Commit.TheVariants.{Done, Exists}
use Rattle.esr_depot.specs.declared.error.CallError.{CallError}
use Rattle.esr_depot.specs.declared.error.CallError.TheVariants.{Memory, Failed}
use Rattle.esr_depot.specs.Image.{Image, blob, with_blob, with_text, put_known, swap_known}
use Rattle.esr_depot.specs.Look.{Look, now}
use Rattle.esr_depot.specs.Calls.{Change, Called, SameImage}
use Rattle.esr_depot.specs.Changes.{Committed, CommitMay, Swapped, SwapMay}
use Rattle.esr_test_outside.specs.Put.{IsPutOf}

-- what holds of a call that answers no error
pub on_ok : {T E : Type 0} (r : Result T E) (P : Type 0) → is_err r ≡ false → OnOk r P → P
on_ok (Ok x) P ok p = p
on_ok (Err e) P ok p = absurd cc

-- a new stage, to which two pieces are written
pub written_twice : (old : Option Image) (i : Image) (first second : List ℕ) (new one two : Option (List ℕ)) → old ≡ Some i → new ≡ option_map (λ _. []) old
    → one ≡ append_known new first → two ≡ append_known one second → two ≡ Some (first ++ second)
written_twice None i first second new one two is begun once twice = absurd cc
written_twice (Some x) i first second new one two is begun once twice =
    twice ∙ ap (λ (o : Option (List ℕ)). append_known o second) (once ∙ ap (λ (o : Option (List ℕ)). append_known o first) begun)

module _ (i : Image) (name bytes text : List ℕ) where
  pub still : (old : Option Image) (x : Image) → old ≡ Some i → Some x ≡ old → IsPutOf i name bytes text x
  still old x is m = let e : Some x ≡ Some i = m ∙ is in inl cc

  pub in_commit : (old : Option Image) (stage : List ℕ) (contents : Option (List ℕ)) (x : Image)
      → old ≡ Some i → stage ≡ name → contents ≡ Some bytes → CommitMay stage contents old (Some x) → IsPutOf i name bytes text x
  in_commit old stage contents x is named holds (inl m) = still old x is m
  in_commit old stage contents x is named holds (inr m) =
      let here : put_known old stage contents ≡ Some (with_blob i name bytes) = λ k. put_known (is k) (named k) (holds k) in
      let e : Some x ≡ Some (with_blob i name bytes) = m.0 ∙ here in
      let free : blob i name ≡ None = subst (λ (n : List ℕ). blob i n ≡ None) named (m.1 i is) in
      inr (inl (cc, free))

  pub committed : (answer : Commit) (stage : List ℕ) (contents : Option (List ℕ)) (old new : Option Image) → answer ≡ Done → old ≡ Some i → stage ≡ name
      → contents ≡ Some bytes → Committed stage contents answer old new → (new ≡ Some (with_blob i name bytes)) × (blob i name ≡ None)
  committed Done stage contents old new done is named holds h =
      let here : put_known old stage contents ≡ Some (with_blob i name bytes) = λ k. put_known (is k) (named k) (holds k) in
      let free : blob i name ≡ None = subst (λ (n : List ℕ). blob i n ≡ None) named (h.1 i is) in
      (h.0 ∙ here, free)
  committed Exists stage contents old new done is named holds h = absurd cc

  pub in_swap : (old : Option Image) (x : Image) → blob i name ≡ None → old ≡ Some (with_blob i name bytes) → SwapMay text old (Some x) → IsPutOf i name bytes text x
  in_swap old x free is (inl m) = let e : Some x ≡ Some (with_blob i name bytes) = m ∙ is in inr (inl (cc, free))
  in_swap old x free is (inr m) = let e : Some x ≡ Some (with_text (with_blob i name bytes) text) = m ∙ ap (λ o. swap_known o text) is in inr (inr (cc, free))

-- ---- an image that isn't told stays so

still_untold : {T : Type 0} (old new : Look) (ok : T → Change) (may : Change) (result : Result T CallError) → Called old new ok may result
    → ((x : T) (i : Option Image) → ok x None i → i ≡ None) → ((i : Option Image) → may None i → i ≡ None) → now old ≡ None → now new ≡ None
still_untold old new ok may (Ok x) called by_ok by_may is = by_ok x (now new) (subst (λ (o : Option Image). ok x o (now new)) is called.done)
still_untold old new ok may (Err Memory) called by_ok by_may is = ap new.at (called.stays refl).clock ∙ (called.stays refl).at old.clock ∙ is
still_untold old new ok may (Err Failed) called by_ok by_may is = by_may (now new) (subst (λ (o : Option Image). may o (now new)) is (called.failed refl))

pub untold_begin : {T : Type 0} (old new : Look) (result : Result T CallError) → Called old new (λ _. SameImage) SameImage result → now old ≡ None → now new ≡ None
untold_begin old new result called is = still_untold old new (λ _. SameImage) SameImage result called (λ x i m. m) (λ i m. m) is

pub untold_commit : (old new : Look) (name : List ℕ) (bytes : Option (List ℕ)) (result : Result Commit CallError) → Called old new (Committed name bytes) (CommitMay name bytes) result → now old ≡ None → now new ≡ None
untold_commit old new name bytes result called is = still_untold old new (Committed name bytes) (CommitMay name bytes) result called by_ok by_may is
  where
    by_ok : (x : Commit) (i : Option Image) → Committed name bytes x None i → i ≡ None
    by_ok Done i h = h.0
    by_ok Exists i h = h.0

    by_may : (i : Option Image) → CommitMay name bytes None i → i ≡ None
    by_may i (inl m) = m
    by_may i (inr m) = m.0

pub untold_swap : {T : Type 0} (old new : Look) (text : List ℕ) (result : Result T CallError) → Called old new (λ _. Swapped text) (SwapMay text) result → now old ≡ None → now new ≡ None
untold_swap old new text result called is = still_untold old new (λ _. Swapped text) (SwapMay text) result called (λ x i m. m) by_may is
  where
    by_may : (i : Option Image) → SwapMay text None i → i ≡ None
    by_may i (inl m) = m
    by_may i (inr m) = m
