-- What a cleanup that came to its end leaves, whole.
use Rattle.std.proofs.Common.{◌≡◌, ◌⊎◌, ℕ, suc, List, [], ◌∷◌, ◌++◌, Option, Some, refl, sym, ap, ◌∙◌, subst, inl, inr, append_assoc}
use Rattle.std.specs.FinMap as fin
use Rattle.esr_model.specs.Names.{BlobName, Root, Latest}
use Rattle.esr_model.specs.Values.{ReadsBack, Formats}
use Rattle.esr_model.specs.Image.{Blobs, Image, Present}
use Rattle.esr_model.specs.Shelf.{Shelved}
use Rattle.esr_core.specs.World.{World}
use Rattle.esr_core.specs.Ids.{Law}
use Rattle.esr_core.specs.Changes.{BlobsChange, NoBlobChange, NewBlob, NewLatest, Removal}
use Rattle.esr_core.specs.Entry.{Moment}
use Rattle.esr_core.specs.After.{after, blobs_in}
use Rattle.esr_core.specs.Allowed.{Allowed, InReach}
use Rattle.esr_core.specs.History.{world_from, IsLegal, AreTold}
use Rattle.esr_core.specs.Cleaned.{HoldsReachAlone, ListsListedAlone, IsFirstPage, IsLastDrop, IsTestCommit, ChangesBlobs, NoneOf}
use Rattle.esr_core.specs.Laws.BlobFrames.{text_one}
use Rattle.esr_core.specs.Laws.Histories.{world_parts}
use Rattle.esr_law.specs.Cleanups.{HasFirstPage, IsEndedCleanup}
use Rattle.esr_law.specs.Latest.{HasLatest}
use Rattle.esr_law.specs.Reach.{RefusesUnlisted, HoldsListedReach, HoldsReach}
use Rattle.esr_law.specs.Exact.{HoldsExactly}
use Rattle.esr_law.proofs.Reach.{root_there, IsNoRoot, reached_no_root}
use Rattle.esr_law.proofs.Worlds.{Tells, tells_front, tells_back}

-- what the container tells of a step
abbrev ChangesSo : Formats → ℕ → Type 0
ChangesSo f size = (w : World) (m : Moment) (i : Image) → m.image ≡ Some i → Allowed f size w m → BlobsChange f w m.entry.step i.blobs

-- the blobs stay where none is committed, replaced or removed
blobs_stay : (f : Formats) (size : ℕ) → ChangesSo f size → (log : List Moment) (w : World) → IsLegal f size w log → AreTold log → NoneOf ChangesBlobs log → (world_from f w log).blobs ≡ w.blobs
blobs_stay f size changes [] w legal told none = refl
blobs_stay f size changes (m ∷ log) w legal told none =
    blobs_stay f size changes log (after f w m) legal.1 told.1 none.1 ∙ ap (λ (x : Option Image). blobs_in x w.blobs) told.0.1 ∙ same (changes w m told.0.0 told.0.1 legal.0)
  where
    same : BlobsChange f w m.entry.step told.0.0.blobs → told.0.0.blobs ≡ w.blobs
    same (NoBlobChange is) = is
    same (NewBlob name b (inl is) named absent now) = absurd (none.0 (subst ChangesBlobs (sym is) tt))
    same (NewBlob name b (inr is) named absent now) = absurd (none.0 (subst ChangesBlobs (sym is) tt))
    same (NewLatest b is named now) = absurd (none.0 (subst ChangesBlobs (sym is) tt))
    same (Removal names (inl is) removes) = absurd (none.0 (subst ChangesBlobs (sym is) tt))
    same (Removal names (inr is) removes) = absurd (none.0 (subst ChangesBlobs (sym is) tt))

-- a root that is there is the safe one, where the container holds its reach alone
same_root : (f : Formats) (w : World) → HoldsReachAlone f w → (n : ℕ) → Present f w.blobs (Root n) → w.safe ≡ suc n
same_root f w alone n (bytes, at) = by (alone (f.names.text (Root n)) bytes at.0)
  where
    no_latest : Root n ≡ Latest → ⊥
    no_latest e = cc

    root_number : (a b : ℕ) → Root a ≡ Root b → a ≡ b
    root_number a b e = cc

    by : (name : BlobName) × (f.names.text name ≡ f.names.text (Root n)) × ReadsBack f.names name × ((name ≡ Latest) ⊎ InReach f w name) → w.safe ≡ suc n
    by (name, text, back, inl latest) = absurd (no_latest (sym (text_one f name (Root n) back at.1.0 text) ∙ latest))
    by (name, text, back, inr (m, safe, inl root)) = safe ∙ ap suc (root_number m n (sym root ∙ text_one f name (Root n) back at.1.0 text))
    by (name, text, back, inr (m, safe, inr far)) = absurd (subst IsNoRoot (text_one f name (Root n) back at.1.0 text) (reached_no_root f _ far.0 name far.2))

-- the law of the core, for this cleanup
abbrev LeavesReach : Formats → ℕ → World → Type 0
LeavesReach f size w =
    (before between rest : List Moment) (first last : Moment) (k : ℕ) → Tells f size w (before ++ first ∷ (between ++ last ∷ rest)) → IsFirstPage first k → IsLastDrop last k → NoneOf IsTestCommit between → NoneOf ChangesBlobs rest
    → HoldsReachAlone f (world_from f w (before ++ first ∷ (between ++ last ∷ rest))) × ListsListedAlone f (world_from f w (before ++ first ∷ (between ++ last ∷ rest)))

module _ (f : Formats) (size : ℕ) (w : World) (core : LeavesReach f size w) (lawful : (log : List Moment) → Tells f size w log → (shelf : List Shelved) × Law f (world_from f w log) shelf) (changes : ChangesSo f size)
    (there : (v : World) (shelf : List Shelved) → Law f v shelf → HoldsListedReach f v) (whole : (v : World) (shelf : List Shelved) → Law f v shelf → RefusesUnlisted f → HoldsReach f v)
    (latest : (before : List Moment) (last : Moment) (k : ℕ) → Tells f size w (before ++ last ∷ []) → IsEndedCleanup before last k → HasLatest f (world_from f w (before ++ last ∷ [])))
    (before : List Moment) (last : Moment) (k : ℕ) (e : IsEndedCleanup before last k) (page : HasFirstPage before k) (no_test : NoneOf IsTestCommit page.back) where
  -- as long as nothing changes after the drop
  alone_after : (rest : List Moment) → Tells f size w (before ++ last ∷ rest) → NoneOf ChangesBlobs rest → HoldsReachAlone f (world_from f w (before ++ last ∷ rest)) × ListsListedAlone f (world_from f w (before ++ last ∷ rest))
  alone_after rest tells none =
      let parts : before ++ last ∷ rest ≡ page.front ++ page.first ∷ (page.back ++ last ∷ rest) = ap (λ (xs : List Moment). xs ++ last ∷ rest) page.is ∙ append_assoc page.front (page.first ∷ page.back) (last ∷ rest) in
      subst (λ (log : List Moment). HoldsReachAlone f (world_from f w log) × ListsListedAlone f (world_from f w log)) (sym parts)
      (core page.front page.back rest page.first last k (subst (Tells f size w) parts tells) page.page e.drop no_test none)

  -- what the drop left is there later on
  latest_after : (rest : List Moment) → Tells f size w (before ++ last ∷ rest) → NoneOf ChangesBlobs rest → HoldsReachAlone f (world_from f w (before ++ last ∷ rest)) → HasLatest f (world_from f w (before ++ last ∷ rest))
  latest_after rest tells none alone =
      let put = latest before last k early e in
      let here = lawful (before ++ last ∷ []) early in
      let root = root_there f (world_from f w (before ++ last ∷ [])) here.0 here.1 put.n put.safe in
      record {
        n = put.n;
        safe = same_root f (world_from f w (before ++ last ∷ rest)) alone put.n (subst (λ (b : Blobs). Present f b (Root put.n)) (sym same) root);
        there = ap (λ (b : Blobs). fin.get b (f.names.text Latest)) same ∙ put.there;
      }
    where
      parts : before ++ last ∷ rest ≡ (before ++ last ∷ []) ++ rest
      parts = sym (append_assoc before (last ∷ []) rest)

      split : Tells f size w ((before ++ last ∷ []) ++ rest)
      split = subst (Tells f size w) parts tells

      early : Tells f size w (before ++ last ∷ [])
      early = tells_front f size (before ++ last ∷ []) rest w split

      late : Tells f size (world_from f w (before ++ last ∷ [])) rest
      late = tells_back f size (before ++ last ∷ []) rest w split

      same : (world_from f w (before ++ last ∷ rest)).blobs ≡ (world_from f w (before ++ last ∷ [])).blobs
      same = ap (λ (log : List Moment). (world_from f w log).blobs) parts ∙ ap (λ (x : World). x.blobs) (world_parts f (before ++ last ∷ []) rest w)
          ∙ blobs_stay f size changes rest (world_from f w (before ++ last ∷ [])) late.legal late.told none

  pub exactly : (rest : List Moment) → Tells f size w (before ++ last ∷ rest) → NoneOf ChangesBlobs rest → HoldsExactly f (world_from f w (before ++ last ∷ rest))
  exactly rest tells none =
      let left = alone_after rest tells none in
      let here = lawful (before ++ last ∷ rest) tells in
      record {
        alone = left.0;
        listed = left.1;
        latest = latest_after rest tells none left.0;
        present = there (world_from f w (before ++ last ∷ rest)) here.0 here.1;
        all = whole (world_from f w (before ++ last ∷ rest)) here.0 here.1;
      }
