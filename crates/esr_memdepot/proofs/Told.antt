-- What is found by name, and what is shown.
use Rattle.std.proofs.Common.{Bor, true, false, ◌≡◌, inl, inr, ℕ, List, Option, Some, None, IsSome, IfSome, option_map, drop, refl, sym, ◌∙◌, ap, subst}
use Rattle.std.specs.Option.{is_some, option_copied}
use Rattle.std.specs.FinMap.{empty}
use Rattle.esr_depot.specs.Image.{Image, blob, with_blob, sizes_of, IsFree, IsTaken}
use Rattle.esr_depot.specs.Changes.{CommitMay, ReplaceMay}
use Rattle.esr_memdepot.specs.MemDepot.{committed_image}
use Rattle.esr_memdepot.specs.Past.{image_at, image_now, found, held, last_text, is_there, all_dated}
use Rattle.esr_memdepot.specs.declared.blob.KeptBlob.{KeptBlob}
use Rattle.esr_memdepot.specs.declared.text.KeptText.{KeptText}
use Rattle.esr_memdepot.specs.declared.fetch.MemFetch.{MemFetch}
use Rattle.esr_memdepot.specs.declared.plan.Leaves.TheVariants.{Old}
use Rattle.esr_memdepot.proofs.Dates.{image_as_now}
use Rattle.esr_memdepot.proofs.Held.{blob-found}

-- a commit is a replace of a name that is free
pub commits : (name : List ℕ) (bytes : Option (List ℕ)) (old new : Option Image) → IsFree old name → ReplaceMay name bytes old new → CommitMay name bytes old new
commits name bytes old new free (inl same) = inl same
commits name bytes old new free (inr put) = inr (put, free)

module _ (t : ℕ) (ks : List KeptBlob) (xs : List KeptText) (all : all_dated t ks xs ≡ true) where
  -- the listing and the text of what is there now are those of what is shown
  pub shown_sizes : (i : Image) → Some (image_at t ks xs) ≡ Some i → sizes_of (held is_there ks empty) ≡ sizes_of i.blobs
  shown_sizes i is = let e : image_at t ks xs ≡ i = cc in ap (λ (j : Image). sizes_of j.blobs) (sym (image_as_now t ks xs Old all) ∙ e)

  pub shown_text : (i : Image) → Some (image_at t ks xs) ≡ Some i → last_text (λ x. x.stands) xs None ≡ i.text
  shown_text i is = let e : image_at t ks xs ≡ i = cc in ap (λ (j : Image). j.text) (sym (image_as_now t ks xs Old all) ∙ e)

  module _ (name : List ℕ) where
    shown : blob (image_at t ks xs) name ≡ found is_there name ks None
    shown = ap (λ (i : Image). blob i name) (image_as_now t ks xs Old all) ∙ blob-found ks xs name

    free_at : found is_there name ks None ≡ None → IsFree (Some (image_at t ks xs)) name
    free_at none i is = let e : image_at t ks xs ≡ i = cc in subst (λ (j : Image). blob j name ≡ None) e (shown ∙ none)

    taken_at : (bytes : List ℕ) → found is_there name ks None ≡ Some bytes → IsTaken (Some (image_at t ks xs)) name
    taken_at bytes some i is = let e : image_at t ks xs ≡ i = cc in subst (λ (j : Image). IsSome (blob j name)) e (rw (shown ∙ some) refl)

    pub found_free : (o : Option (Bor (List ℕ))) → option_copied o ≡ found is_there name ks None → is_some o ≡ false → IsFree (Some (image_at t ks xs)) name
    found_free None is none = free_at (sym is)
    found_free (Some b) is none = absurd cc

    pub found_taken : (o : Option (Bor (List ℕ))) → option_copied o ≡ found is_there name ks None → is_some o ≡ true → IsTaken (Some (image_at t ks xs)) name
    found_taken None is some = absurd cc
    found_taken (Some b) is some = taken_at b.now (sym is)

    pub fetched_absent : (o : Option MemFetch) → option_map (λ f. drop f.at f.bytes) o ≡ found is_there name ks None → o ≡ None → IsFree (Some (image_at t ks xs)) name
    fetched_absent None is none = free_at (sym is)
    fetched_absent (Some f) is none = absurd cc

    pub fetched_present : (o : Option MemFetch) → option_map (λ f. drop f.at f.bytes) o ≡ found is_there name ks None → IfSome o (λ _. IsTaken (Some (image_at t ks xs)) name)
    fetched_present None is = tt
    fetched_present (Some f) is = taken_at (drop f.at f.bytes) (sym is)

    pub fetched_left : (o : Option MemFetch) → option_map (λ f. drop f.at f.bytes) o ≡ found is_there name ks None → IfSome o (λ f. Some (drop f.at f.bytes) ≡ blob (image_at t ks xs) name)
    fetched_left None is = tt
    fetched_left (Some f) is = is ∙ sym shown

-- what a commit leaves by what was found under its name
module _ (ks : List KeptBlob) (xs : List KeptText) (name bytes : List ℕ) where
  pub committed_taken : (o : Option (Bor (List ℕ))) → option_copied o ≡ found is_there name ks None → is_some o ≡ true → committed_image (image_now ks xs) name bytes ≡ image_now ks xs
  committed_taken None is some = absurd cc
  committed_taken (Some b) is some = let here : blob (image_now ks xs) name ≡ Some b.now = blob-found ks xs name ∙ sym is in rw here refl

  pub committed_free : (o : Option (Bor (List ℕ))) → option_copied o ≡ found is_there name ks None → is_some o ≡ false → committed_image (image_now ks xs) name bytes ≡ with_blob (image_now ks xs) name bytes
  committed_free None is none = let here : blob (image_now ks xs) name ≡ None = blob-found ks xs name ∙ sym is in rw here refl
  committed_free (Some b) is none = absurd cc
