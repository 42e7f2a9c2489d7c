-- What who 0 has made of a verification, by which each step is fresh.
use Rattle.std.proofs.Common.{◌≡◌, ◌⊎◌, ⊎_elim, ℕ, true, List, [], ◌∷◌, ◌++◌, refl, sym, ap, ◌∙◌, subst}
use Rattle.esr_model.specs.Lists.{Has-left}
use Rattle.esr_model.specs.Names.{BlobName}
use Rattle.esr_model.specs.Values.{Bytes, Has}
use Rattle.esr_core.specs.Restores.{IsTestOf}
use Rattle.esr_core.specs.Entry.{Read, ReadBlob, BeginTest, CommitTest, RemoveTests, Step, ReadStep, Reply, Entry, Moment}
use Rattle.esr_core.specs.Past.{ShareName, RepeatsRead, Repeats}
use Rattle.esr_desk.specs.Start.{Start}
use Rattle.esr_desk.specs.Own.{made_of}
use Rattle.esr_desk.specs.Once.{IsFresh}
use Rattle.esr_desk.specs.Outcome.{Stepped}
use Rattle.esr_desk.specs.Made.{client_made}
use Rattle.esr_desk.specs.Verify.Conditions.{HasTestedNone}
use Rattle.esr_verify.specs.Done.{HasMade, Wrote, Fetched}
use Rattle.esr_verify.proofs.Listing.{has_last}

-- ---- what repeats a step

same_begin : (read : Read) (name : BlobName) → RepeatsRead read (BeginTest name) → read ≡ BeginTest name
same_begin (BeginTest a) name same = ap (λ (n : BlobName). BeginTest n) same
same_begin read name same = absurd same

same_commit : (read : Read) (name : BlobName) → RepeatsRead read (CommitTest name) → read ≡ CommitTest name
same_commit (CommitTest a) name same = ap (λ (n : BlobName). CommitTest n) same
same_commit read name same = absurd same

same_fetch : (read : Read) (name : BlobName) → RepeatsRead read (ReadBlob name) → read ≡ ReadBlob name
same_fetch (ReadBlob a) name same = ap (λ (n : BlobName). ReadBlob n) same
same_fetch read name same = absurd same

any_removal : (read : Read) (names : List BlobName) → RepeatsRead read (RemoveTests names) → (was : List BlobName) × (read ≡ RemoveTests was) × ShareName was names
any_removal (RemoveTests a) names same = (a, refl, same)
any_removal read names same = absurd same

repeats_begin : (step : Step) (name : BlobName) → Repeats step (ReadStep (BeginTest name)) → step ≡ ReadStep (BeginTest name)
repeats_begin (ReadStep read) name same = ap (λ (r : Read). ReadStep r) (same_begin read name same)
repeats_begin step name same = absurd same

repeats_commit : (step : Step) (name : BlobName) → Repeats step (ReadStep (CommitTest name)) → step ≡ ReadStep (CommitTest name)
repeats_commit (ReadStep read) name same = ap (λ (r : Read). ReadStep r) (same_commit read name same)
repeats_commit step name same = absurd same

repeats_fetch : (step : Step) (name : BlobName) → Repeats step (ReadStep (ReadBlob name)) → step ≡ ReadStep (ReadBlob name)
repeats_fetch (ReadStep read) name same = ap (λ (r : Read). ReadStep r) (same_fetch read name same)
repeats_fetch step name same = absurd same

repeats_removal : (step : Step) (names : List BlobName) → Repeats step (ReadStep (RemoveTests names)) → (was : List BlobName) × (step ≡ ReadStep (RemoveTests was)) × ShareName was names
repeats_removal (ReadStep read) names same = let is = any_removal read names same in (is.0, ap (λ (r : Read). ReadStep r) is.1, is.2)
repeats_removal step names same = absurd same

shared : (was names : List BlobName) (name : BlobName) → Has names name → ShareName was names → (n : BlobName) × Has was n
shared was [] name has same = absurd has
shared [] (x ∷ names) name has same = (same.0, same.1)
shared (y ∷ was) (x ∷ names) name has same = (same.0, same.1)

-- ---- what is fresh

module _ (s : Start) (log : List Moment) (id : ℕ) (written fetched : List BlobName) (made : HasMade s log id written fetched) where
  pub begin_fresh : (name : BlobName) → (Has written name → ⊥) → IsFresh s log 0 (ReadStep (BeginTest name))
  begin_fresh name other e has same = other (made.begun e name has (repeats_begin e.step name same))

  pub commit_fresh : (name : BlobName) → (Has written name → ⊥) → IsFresh s log 0 (ReadStep (CommitTest name))
  commit_fresh name other e has same = other (made.committed e name has (repeats_commit e.step name same))

  pub read_fresh : (name : BlobName) → IsTestOf id name → (Has fetched name → ⊥) → IsFresh s log 0 (ReadStep (ReadBlob name))
  read_fresh name test other e has same = other (made.read e name has (repeats_fetch e.step name same) test)

  pub remove_fresh : (names : List BlobName) (name : BlobName) → Has names name → IsFresh s log 0 (ReadStep (RemoveTests names))
  remove_fresh names name one e has same =
      let is = repeats_removal e.step names same in
      let both = shared is.0 names name one is.2 in
      made.unremoved e is.0 both.0 has is.1 both.1

-- and stays so after a step that it doesn't repeat
pub client_fresh : (s : Start) (old new : List Moment) (step other : Step) (reply : Reply) → s.alone ≡ true → (Repeats other step → ⊥) → Stepped s old new 0 other reply → IsFresh s old 0 step → IsFresh s new 0 step
client_fresh s old new step other reply alone differ h fresh e has same = ⊎_elim
    (λ (before : Has (made_of s old 0) e). fresh e before same)
    (λ (here : e.step ≡ other). differ (subst (λ (x : Step). Repeats x step) here same))
    (client_made s old new other reply alone h e has)

-- ---- the id is drawn

pub made_none : (s : Start) (log : List Moment) (id : ℕ) → HasTestedNone s log id → HasMade s log id [] []
made_none s log id none = record {
  begun = λ e name has is. absurd (none e (BeginTest name) has is tt);
  committed = λ e name has is. absurd (none e (CommitTest name) has is tt);
  read = λ e name has is test. absurd (none e (ReadBlob name) has is test);
  unremoved = λ e names name has is one. none e (RemoveTests names) has is (name, one);
}

-- ---- a test blob is written, or read

begin_name : (a b : BlobName) → ReadStep (BeginTest a) ≡ ReadStep (BeginTest b) → a ≡ b
begin_name a b e = cc

commit_name : (a b : BlobName) → ReadStep (CommitTest a) ≡ ReadStep (CommitTest b) → a ≡ b
commit_name a b e = cc

fetch_name : (a b : BlobName) → ReadStep (ReadBlob a) ≡ ReadStep (ReadBlob b) → a ≡ b
fetch_name a b e = cc

-- an entry of a step on the new name, or one before
more_names : (step one two : Step) (written : List BlobName) (name n : BlobName) → step ≡ two → (one ≡ two → name ≡ n) → step ≡ one → Has (written ++ name ∷ []) n
more_names step one two written name n is same here = subst (Has (written ++ name ∷ [])) (same (sym here ∙ is)) (has_last written name)

other_one : (step one two : Step) → step ≡ two → (one ≡ two → ⊥) → step ≡ one → ⊥
other_one step one two is other here = other (sym here ∙ is)

module _ (s : Start) (old new : List Moment) (id : ℕ) (written : List BlobName) (name : BlobName) (bytes : Bytes) (made : HasMade s old id written []) (h : Wrote s old new name bytes) where
  -- each entry is one before, or its begin, or its commit
  by_entry : (e : Entry) (P : Type 0) → Has (made_of s new 0) e → (Has (made_of s old 0) e → P) → (e.step ≡ ReadStep (BeginTest name) → P) → (e.step ≡ ReadStep (CommitTest name) → P) → P
  by_entry e P has before begun committed = ⊎_elim before (λ (here : (e.step ≡ ReadStep (BeginTest name)) ⊎ (e.step ≡ ReadStep (CommitTest name))). ⊎_elim begun committed here) (h.made e has)

  pub wrote_made : HasMade s new id (written ++ name ∷ []) []
  wrote_made = record {
    begun = λ e n has is.
        by_entry e (Has (written ++ name ∷ []) n) has
        (λ before. Has-left written (name ∷ []) n (made.begun e n before is))
        (more_names e.step (ReadStep (BeginTest name)) (ReadStep (BeginTest n)) written name n is (begin_name name n))
        (λ here. absurd (other_one e.step (ReadStep (CommitTest name)) (ReadStep (BeginTest n)) is (λ same. cc) here));
    committed = λ e n has is.
        by_entry e (Has (written ++ name ∷ []) n) has
        (λ before. Has-left written (name ∷ []) n (made.committed e n before is))
        (λ here. absurd (other_one e.step (ReadStep (BeginTest name)) (ReadStep (CommitTest n)) is (λ same. cc) here))
        (more_names e.step (ReadStep (CommitTest name)) (ReadStep (CommitTest n)) written name n is (commit_name name n));
    read = λ e n has is test.
        by_entry e ⊥ has
        (λ before. made.read e n before is test)
        (other_one e.step (ReadStep (BeginTest name)) (ReadStep (ReadBlob n)) is (λ same. cc))
        (other_one e.step (ReadStep (CommitTest name)) (ReadStep (ReadBlob n)) is (λ same. cc));
    unremoved = λ e names n has is one.
        by_entry e ⊥ has
        (λ before. made.unremoved e names n before is one)
        (other_one e.step (ReadStep (BeginTest name)) (ReadStep (RemoveTests names)) is (λ same. cc))
        (other_one e.step (ReadStep (CommitTest name)) (ReadStep (RemoveTests names)) is (λ same. cc));
  }

module _ (s : Start) (old new : List Moment) (id : ℕ) (written fetched : List BlobName) (name : BlobName) (bytes : Bytes) (made : HasMade s old id written fetched) (h : Fetched s old new name bytes) where
  by_fetch : (e : Entry) (P : Type 0) → Has (made_of s new 0) e → (Has (made_of s old 0) e → P) → (e.step ≡ ReadStep (ReadBlob name) → P) → P
  by_fetch e P has before here = ⊎_elim before here (h.made e has)

  pub read_made : HasMade s new id written (fetched ++ name ∷ [])
  read_made = record {
    begun = λ e n has is.
        by_fetch e (Has written n) has (λ before. made.begun e n before is)
        (λ here. absurd (other_one e.step (ReadStep (ReadBlob name)) (ReadStep (BeginTest n)) is (λ same. cc) here));
    committed = λ e n has is.
        by_fetch e (Has written n) has (λ before. made.committed e n before is)
        (λ here. absurd (other_one e.step (ReadStep (ReadBlob name)) (ReadStep (CommitTest n)) is (λ same. cc) here));
    read = λ e n has is test.
        by_fetch e (Has (fetched ++ name ∷ []) n) has
        (λ before. Has-left fetched (name ∷ []) n (made.read e n before is test))
        (more_names e.step (ReadStep (ReadBlob name)) (ReadStep (ReadBlob n)) fetched name n is (fetch_name name n));
    unremoved = λ e names n has is one.
        by_fetch e ⊥ has (λ before. made.unremoved e names n before is one)
        (other_one e.step (ReadStep (ReadBlob name)) (ReadStep (RemoveTests names)) is (λ same. cc));
  }
