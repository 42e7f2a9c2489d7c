-- What was read of a file that stands is all of it, each part with its stated length.
use Rattle.std.proofs.Common.{◌≡◌, ℕ, suc, ◌+◌, ◌≤◌, List, [], ◌∷◌, ◌++◌, append-nil, refl, sym, ap, ◌∙◌, arith}
use Rattle.std.specs.Prelude.{◌-◌, length}
use Rattle.std.specs.List.{concat}
use Rattle.std.proofs.lemmas.List.{length-append, take_all}
use Rattle.esr_model.specs.Names.{BlobName}
use Rattle.esr_model.specs.Values.{Bytes, FileEntry, Formats}
use Rattle.esr_model.specs.Parts.{part_names, AreFull}
use Rattle.esr_model.specs.Image as image
use Rattle.esr_model.specs.Image.{AllPairs, IsOne, FileStands}
use Rattle.esr_desk.specs.Restore.Parts.{sized, front_of, IsFront, AreFronts, AreExact}

same_concat : (xs : List Bytes) → image.concat xs ≡ concat xs
same_concat [] = refl
same_concat (x ∷ xs) = ap (λ (l : Bytes). x ++ l) (same_concat xs)

-- of a part with the stated length all was read
front_whole : (size : ℕ) (bytes front : Bytes) → length bytes ≡ size → front ≡ front_of size bytes → front ≡ bytes
front_whole size bytes front len is = let fits : length bytes ≤ suc size = omega (arith, len) in is ∙ take_all (suc size) bytes fits

abbrev IsExact : BlobName × ℕ → Bytes → Type 0
IsExact part front = length front ≡ part.1

-- the fronts are the parts
record Whole (sizes : List (BlobName × ℕ)) (parts fronts : List Bytes) : Type 0 where
  same : fronts ≡ parts
  exact : AllPairs IsExact sizes fronts

module _ (has : BlobName → Bytes → Type 0) (one : IsOne has) where
  front_is : (size : ℕ) (name : BlobName) (part front : Bytes) → has name part → length part ≡ size → IsFront has (name, size) front → front ≡ part
  front_is size name part front there len read =
      let same : read.0 ≡ part = one name read.0 part read.1 there in
      front_whole size part front len (read.2 ∙ ap (front_of size) same)

  whole : (len size : ℕ) (names : List BlobName) (parts fronts : List Bytes) → AllPairs has names parts → AreFull size parts → length (image.concat parts) ≡ len → AllPairs (IsFront has) (sized len size names) fronts
      → Whole (sized len size names) parts fronts
  whole len size [] [] [] there full sum read = record { same = refl; exact = tt }
  whole len size [] (p ∷ ps) fronts there full sum read = absurd there
  whole len size (n ∷ ns) [] fronts there full sum read = absurd there
  whole len size (n ∷ []) (p ∷ q ∷ ps) fronts there full sum read = absurd there.1
  whole len size (n ∷ []) (p ∷ []) (y ∷ z ∷ ys) there full sum read = absurd read.1
  whole len size (n ∷ []) (p ∷ []) (y ∷ []) there full sum read =
      let long : length p ≡ len = ap (λ (l : Bytes). length l) (sym (append-nil p)) ∙ sum in
      let same : y ≡ p = front_is len n p y there.0 long read.0 in
      record { same = ap (λ (b : Bytes). b ∷ []) same; exact = (ap (λ (l : Bytes). length l) same ∙ long, tt) }
  whole len size (n ∷ m ∷ ns) (p ∷ []) fronts there full sum read = absurd there.1
  whole len size (n ∷ m ∷ ns) (p ∷ q ∷ ps) (y ∷ ys) there full sum read =
      let both : length p + length (image.concat (q ∷ ps)) ≡ len = sym (length-append p (image.concat (q ∷ ps))) ∙ sum in
      let long : length p ≡ size = full.0 in
      let left : length (image.concat (q ∷ ps)) ≡ len - size = omega (arith, both, long) in
      let rest = whole (len - size) size (m ∷ ns) (q ∷ ps) ys there.1 full.1 left read.1 in
      let same : y ≡ p = front_is size n p y there.0 long read.0 in
      record { same = ap (λ (b : Bytes). b ∷ ys) same ∙ ap (λ (l : List Bytes). p ∷ l) rest.same; exact = (ap (λ (l : Bytes). length l) same ∙ long, rest.exact) }
  whole len size names parts fronts there full sum read = absurd read

  -- so the fronts joined are the file, and each is exact
  pub file_whole : (f : Formats) (index number : ℕ) (e : FileEntry) (bytes : Bytes) (fronts : List Bytes) → FileStands f has index number e bytes → AreFronts has index number e fronts
      → (concat fronts ≡ bytes) × AreExact index number e fronts
  file_whole f index number e bytes fronts stands read =
      let sum : length (image.concat stands.parts) ≡ e.len = ap (λ (l : Bytes). length l) stands.joined ∙ stands.len in
      let h = whole e.len e.part_size (part_names index number e) stands.parts fronts stands.there stands.full sum read in
      (ap (λ (l : List Bytes). concat l) h.same ∙ sym (same_concat stands.parts) ∙ stands.joined, h.exact)
