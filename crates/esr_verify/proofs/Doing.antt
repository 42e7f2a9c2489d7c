-- What who 0 has done of a verification, step by step.
use Rattle.std.proofs.Common.{◌≡◌, inl, inr, ⊎_elim, ℕ, Bool, true, false, List, [], ◌∷◌, ◌++◌, Option, Some, None, Ok, refl, sym, ap, ◌∙◌, subst}
use Rattle.std.specs.Prelude.{if◌then◌else◌}
use Rattle.std.specs.Io.KnownBytes.{append_known}
use Rattle.esr_model.specs.Lists.{Has-either, Has-left}
use Rattle.esr_names.specs.declared.ids.Id.{Id}
use Rattle.esr_names.specs.IdText.{id_text}
use Rattle.esr_model.specs.Names.{BlobName}
use Rattle.esr_model.specs.Values.{Bytes, Has}
use Rattle.esr_core.specs.World.{Caller, no_caller}
use Rattle.esr_core.specs.Restores.{IsTestOf, WasRead}
use Rattle.esr_core.specs.After.{caller_told, caller_wrote}
use Rattle.esr_core.specs.Entry.{Moment, ReadStep, BeginTest, CommitTest, WasBegun, WasDone}
use Rattle.esr_desk.specs.Conditions.{Holds}
use Rattle.esr_desk.specs.Start.{Start, told_bytes}
use Rattle.esr_desk.specs.Outcome.{Stepped}
use Rattle.esr_desk.specs.Own.{caller_of, made_of}
use Rattle.esr_desk.specs.Made.{client_made}
use Rattle.esr_desk.specs.Caller.{drawn_by, removed_more}
use Rattle.esr_desk.specs.Verify.Conditions.{CanDrawTest, IsOwn, HoldsText, CanCommitTest, CanFetchTest}
use Rattle.esr_unit.specs.Objects.{told_append}
use Rattle.esr_verify.specs.Idle.{IsIdle}
use Rattle.esr_verify.specs.Went.{Drew}
use Rattle.esr_verify.specs.Done.{HasDone, Wrote}
use Rattle.esr_verify.proofs.Listing.{has_last}
use Rattle.esr_verify.proofs.Going.{stepped_went, went_on}

-- ---- what a step needs

pub is_own : (s : Start) (log : List Moment) (id : ℕ) (name : BlobName) → Drew s log id → IsTestOf id name → IsOwn (caller_of s log) name
is_own s log id name drew own = record { id = id; drawn = drew.is_open; test = own }

pub can_commit : (s : Start) (old mid : List Moment) (id : ℕ) (name at : BlobName) → Drew s old id → IsTestOf id name → (Has (caller_of s old).committed name → ⊥) → caller_of s mid ≡ caller_of s old → at ≡ name
    → CanCommitTest (caller_of s mid) at
can_commit s old mid id name at drew own once same is =
    subst (λ (n : BlobName). CanCommitTest (caller_of s mid) n) (sym is)
    (subst (λ (c : Caller). CanCommitTest c name) (sym same) (record { own = is_own s old id name drew own; once = once }))

not_none : (drawn : Option ℕ) (id : ℕ) → drawn ≡ Some id → drawn ≡ None → ⊥
not_none drawn id some none = cc

pub is_open : (s : Start) (log : List Moment) (id : ℕ) → Drew s log id → (caller_of s log).drawn ≡ None → ⊥
is_open s log id drew none = not_none (caller_of s log).drawn id drew.is_open none

pub none_removed : (removed : List BlobName) (name : BlobName) → removed ≡ [] → Has removed name → ⊥
none_removed removed name is has = subst (λ (l : List BlobName). Has l name) is has

pub can_fetch : (s : Start) (log : List Moment) (id : ℕ) (name : BlobName) → Drew s log id → Has (caller_of s log).committed name → (caller_of s log).removed ≡ [] → (Has (caller_of s log).fetched name → ⊥)
    → CanFetchTest (caller_of s log) name
can_fetch s log id name drew committed unremoved once = record {
  drawn = is_open s log id drew;
  committed = committed;
  unremoved = none_removed (caller_of s log).removed name unremoved;
  once = once;
}

-- ---- the id is drawn

pub can_draw : (c : Caller) → IsIdle c → CanDrawTest c
can_draw c idle = record { undrawn = ap (λ (d : Caller). d.drawn) idle; unspent = ap (λ (d : Caller). d.spent) idle }

nothing_done : (s : Start) (id : ℕ) (looked : Bool) → HasDone s (record no_caller { looked = looked; drawn = Some id }) id [] []
nothing_done s id looked = record {
  drawn = refl;
  committed = λ name none. none;
  only = λ name none. none;
  once = λ name none. none;
  found = λ name none. absurd none;
  read = λ name none tells. absurd none;
  unremoved = refl;
}

pub done_none : (s : Start) (old new : Caller) (id : Id) → IsIdle old → new ≡ drawn_by (Ok id) old → HasDone s new id.number [] []
done_none s old new id idle is =
    let same : new ≡ record no_caller { looked = old.looked; drawn = Some id.number } = is ∙ ap (λ (c : Caller). record c { drawn = Some id.number }) idle in
    subst (λ (c : Caller). HasDone s c id.number [] []) (sym same) (nothing_done s id.number old.looked)

pub drawn_open : (old new : Caller) (id : Id) → new ≡ drawn_by (Ok id) old → new.drawn ≡ Some id.number
drawn_open old new id is = ap (λ (c : Caller). c.drawn) is

-- ---- a step that leaves the id

wrote_drawn : (c : Caller) (name : BlobName) (contents : Option Bytes) → (caller_wrote c name contents).drawn ≡ c.drawn
wrote_drawn c name None = refl
wrote_drawn c name (Some bytes) = refl

pub committed_drawn : (old new : Caller) (name : BlobName) (contents : Option Bytes) → new ≡ caller_wrote old name contents → new.drawn ≡ old.drawn
committed_drawn old new name contents is = ap (λ (c : Caller). c.drawn) is ∙ wrote_drawn old name contents

pub removed_drawn : (old new : Caller) (names : List BlobName) → new ≡ removed_more names old → new.drawn ≡ old.drawn
removed_drawn old new names is = ap (λ (c : Caller). c.drawn) is

-- ---- a test blob is written

pub held_text : (s : Start) (id : ℕ) (empty full : Option Bytes) (bytes : Bytes) → bytes ≡ id_text id → Holds s empty [] → full ≡ append_known empty bytes → Holds s full (id_text id)
held_text s id empty full bytes text none is = subst (λ (b : Bytes). Holds s full b) text (is ∙ ap (λ (o : Option Bytes). append_known o bytes) none ∙ told_append s bytes)

pub holds_text : (s : Start) (old mid : List Moment) (id : ℕ) (full : Option Bytes) → Drew s old id → caller_of s mid ≡ caller_of s old → Holds s full (id_text id) → HoldsText s (caller_of s mid) full
holds_text s old mid id full drew same held = (id, ap (λ (c : Caller). c.drawn) same ∙ drew.is_open, held)

pub wrote_one : (s : Start) (old mid new : List Moment) (name at : BlobName) (contents : Option Bytes) (bytes : Bytes) → s.alone ≡ true → at ≡ name → Holds s contents bytes → Stepped s old mid 0 (ReadStep (BeginTest name)) WasBegun
    → caller_of s mid ≡ caller_of s old
    → Stepped s mid new 0 (ReadStep (CommitTest at)) WasDone → caller_of s new ≡ caller_wrote (caller_of s mid) at contents → Wrote s old new name bytes
wrote_one s old mid new name at contents bytes alone is holds begun kept done own = record {
  went =
      went_on old mid new (record { step = ReadStep (BeginTest name); reply = WasBegun } ∷ []) (record { step = ReadStep (CommitTest name); reply = WasDone } ∷ [])
      (stepped_went s old mid (ReadStep (BeginTest name)) WasBegun alone begun)
      (stepped_went s mid new (ReadStep (CommitTest name)) WasDone alone (subst (λ (n : BlobName). Stepped s mid new 0 (ReadStep (CommitTest n)) WasDone) is done));
  own = own ∙ ap (λ (n : BlobName). caller_wrote (caller_of s mid) n contents) is ∙ ap (caller_wrote (caller_of s mid) name) holds ∙ ap (λ (c : Caller). caller_wrote c name (told_bytes s bytes)) kept;
  made = λ e has. ⊎_elim
      (λ (before : Has (made_of s mid 0) e). ⊎_elim
      (λ (was : Has (made_of s old 0) e). inl was)
      (λ (here : e.step ≡ ReadStep (BeginTest name)). inr (inl here))
      (client_made s old mid (ReadStep (BeginTest name)) WasBegun alone begun e before))
      (λ (here : e.step ≡ ReadStep (CommitTest at)). inr (inr (here ∙ ap (λ (n : BlobName). ReadStep (CommitTest n)) is)))
      (client_made s mid new (ReadStep (CommitTest at)) WasDone alone done e has);
}

wrote_more : (s : Start) (old : Caller) (id : ℕ) (written : List BlobName) (name : BlobName) → HasDone s old id written [] → HasDone s (record old { committed = name ∷ old.committed }) id (written ++ name ∷ []) []
wrote_more s old id written name h = record {
  drawn = h.drawn;
  committed = λ n has. ⊎_elim (λ (before : Has written n). inr (h.committed n before)) (λ (here : Has (name ∷ []) n). ⊎_elim (λ (same : name ≡ n). inl same) (λ none. absurd none) here) (Has-either written (name ∷ []) n has);
  only = λ n has. ⊎_elim (λ (same : name ≡ n). subst (Has (written ++ name ∷ [])) same (has_last written name)) (λ (before : Has old.committed n). Has-left written (name ∷ []) n (h.only n before)) has;
  once = h.once;
  found = h.found;
  read = h.read;
  unremoved = h.unremoved;
}

-- what it held is noted beside, where the container tells
done_beside : (s : Start) (old : Caller) (id : ℕ) (written : List BlobName) (name : BlobName) (contents : Option Bytes) → HasDone s (record old { committed = name ∷ old.committed }) id written []
    → HasDone s (caller_wrote old name contents) id written []
done_beside s old id written name None h = h
done_beside s old id written name (Some bytes) h = record { drawn = h.drawn; committed = h.committed; only = h.only; once = h.once; found = h.found; read = h.read; unremoved = h.unremoved }

pub wrote_done : (s : Start) (old new : Caller) (id : ℕ) (written : List BlobName) (name : BlobName) (contents : Option Bytes) → HasDone s old id written [] → new ≡ caller_wrote old name contents
    → HasDone s new id (written ++ name ∷ []) []
wrote_done s old new id written name contents h is =
    subst (λ (c : Caller). HasDone s c id (written ++ name ∷ []) []) (sym is) (done_beside s old id (written ++ name ∷ []) name contents (wrote_more s old id written name h))

-- ---- a test blob is read

module _ (s : Start) (id : ℕ) (written fetched : List BlobName) (name : BlobName) (old : Caller) (h : HasDone s old id written fetched) where
  fetched_once : (n : BlobName) → Has (name ∷ old.fetched) n → Has (fetched ++ name ∷ []) n
  fetched_once n (inl same) = subst (Has (fetched ++ name ∷ [])) same (has_last fetched name)
  fetched_once n (inr before) = Has-left fetched (name ∷ []) n (h.once n before)

  found_all : (n : BlobName) → Has (fetched ++ name ∷ []) n → Has (name ∷ old.found) n
  found_all n has = ⊎_elim (λ (before : Has fetched n). inr (h.found n before)) (λ (here : Has (name ∷ []) n). ⊎_elim (λ (same : name ≡ n). inl same) (λ none. absurd none) here) (Has-either fetched (name ∷ []) n has)

  -- it is the text of the id
  read_all : (n : BlobName) → Has (fetched ++ name ∷ []) n → s.tells ≡ true → WasRead ((name, id_text id) ∷ old.read) n (id_text id)
  read_all n has tells =
      ⊎_elim
      (λ (before : Has fetched n). inr (h.read n before tells))
      (λ (here : Has (name ∷ []) n). ⊎_elim (λ (same : name ≡ n). inl (ap (λ (x : BlobName). (x, id_text id)) same)) (λ none. absurd none) here)
      (Has-either fetched (name ∷ []) n has)

  by_tells : (tells : Bool) → s.tells ≡ tells → HasDone s (caller_told old name (if tells then Some (id_text id) else None)) id written (fetched ++ name ∷ [])
  by_tells true told = record { drawn = h.drawn; committed = h.committed; only = h.only; once = fetched_once; found = found_all; read = read_all; unremoved = h.unremoved }
  by_tells false told = record { drawn = h.drawn; committed = h.committed; only = h.only; once = fetched_once; found = found_all; read = λ n has tells. absurd (contra s.tells tells told); unremoved = h.unremoved }
    where
      contra : (b : Bool) → b ≡ true → b ≡ false → ⊥
      contra b x y = cc (x, y)

  pub read_done : (new : Caller) → new ≡ caller_told old name (told_bytes s (id_text id)) → HasDone s new id written (fetched ++ name ∷ [])
  read_done new is = subst (λ (c : Caller). HasDone s c id written (fetched ++ name ∷ [])) (sym is) (by_tells s.tells refl)
