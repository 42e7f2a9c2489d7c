-- Blobs that are committed one after another.
use Rattle.std.proofs.Common.{◌≡◌, ◌⊎◌, inl, inr, ℕ, Bool, true, false, List, [], ◌∷◌, Option, Some, None, if◌then◌else◌, refl, sym, ap, ◌∙◌, subst}
use Rattle.esr_model.specs.Names.{BlobName}
use Rattle.esr_model.specs.Values.{Bytes, Has}
use Rattle.esr_core.specs.World.{Ticket}
use Rattle.esr_core.specs.After.{committing}
use Rattle.esr_desk.specs.Start.{Start, told_bytes}
use Rattle.esr_desk.specs.Taken.{after_writes}
use Rattle.esr_upload.specs.Stored.{IsAt}

-- the names and the blobs alone change
pub record Wrote (a b : Ticket) : Type 0 where
  pub noted : List BlobName
  pub wrote : List (BlobName × Bytes)
  pub is : b ≡ record a { noted = noted; wrote = wrote }

committing_wrote : (name : BlobName) (o : Option Bytes) (t : Ticket) → Wrote t (committing name o t)
committing_wrote name None t = record { noted = name ∷ t.noted; wrote = t.wrote; is = refl }
committing_wrote name (Some bytes) t = record { noted = name ∷ t.noted; wrote = (name, bytes) ∷ t.wrote; is = refl }

wrote_on : (a b c : Ticket) → Wrote a b → Wrote b c → Wrote a c
wrote_on a b c one two = record {
  noted = two.noted;
  wrote = two.wrote;
  is = two.is ∙ ap (λ (t : Ticket). record t { noted = two.noted; wrote = two.wrote }) one.is;
}

pub writes_wrote : (s : Start) (ws : List (BlobName × Bytes)) (t : Ticket) → Wrote t (after_writes s ws t)
writes_wrote s [] t = record { noted = t.noted; wrote = t.wrote; is = refl }
writes_wrote s (w ∷ ws) t =
    let next = committing w.0 (told_bytes s w.1) t in
    wrote_on t next (after_writes s ws next) (committing_wrote w.0 (told_bytes s w.1) t) (writes_wrote s ws next)

-- what the blobs don't change stays, by the field
pub writes_keep : {X : Type 0} (f : Ticket → X) → ((t : Ticket) (noted : List BlobName) (wrote : List (BlobName × Bytes)) → f (record t { noted = noted; wrote = wrote }) ≡ f t)
    → (s : Start) (ws : List (BlobName × Bytes)) (old new : Ticket) → new ≡ after_writes s ws old → f new ≡ f old
writes_keep f same s ws old new is =
    let w = writes_wrote s ws old in
    ap f (is ∙ w.is) ∙ same old w.noted w.wrote

pub writes_at : (s : Start) (ws : List (BlobName × Bytes)) (old new : Ticket) (index number : ℕ) → new ≡ after_writes s ws old → IsAt old index number → IsAt new index number
writes_at s ws old new index number is at = record {
  out = writes_keep (λ (t : Ticket). t.out) (λ t n w. refl) s ws old new is ∙ at.out;
  unsettled = writes_keep (λ (t : Ticket). t.settled) (λ t n w. refl) s ws old new is ∙ at.unsettled;
  work = writes_keep (λ (t : Ticket). t.work) (λ t n w. refl) s ws old new is ∙ at.work;
}

-- ---- what was written

keeps_wrote : (name : BlobName) (o : Option Bytes) (t : Ticket) (w : BlobName × Bytes) → Has t.wrote w → Has (committing name o t).wrote w
keeps_wrote name None t w has = has
keeps_wrote name (Some bytes) t w has = inr has

still_wrote : (s : Start) (ws : List (BlobName × Bytes)) (t : Ticket) (w : BlobName × Bytes) → Has t.wrote w → Has (after_writes s ws t).wrote w
still_wrote s [] t w has = has
still_wrote s (u ∷ ws) t w has = still_wrote s ws (committing u.0 (told_bytes s u.1) t) w (keeps_wrote u.0 (told_bytes s u.1) t w has)

told_wrote : (s : Start) (w : BlobName × Bytes) (t : Ticket) → s.tells ≡ true → Has (committing w.0 (told_bytes s w.1) t).wrote w
told_wrote s w t tells =
    let told : told_bytes s w.1 ≡ Some w.1 = ap (λ (b : Bool). if b then Some w.1 else None) tells in
    subst (λ (o : Option Bytes). Has (committing w.0 o t).wrote w) (sym told) (inl refl)

-- where the container tells, all of the blobs were written
pub all_wrote : (s : Start) (ws : List (BlobName × Bytes)) (t : Ticket) (w : BlobName × Bytes) → s.tells ≡ true → Has ws w → Has (after_writes s ws t).wrote w
all_wrote s [] t w tells has = absurd has
all_wrote s (u ∷ ws) t w tells (inl same) =
    let next = committing u.0 (told_bytes s u.1) t in
    subst (λ (x : BlobName × Bytes). Has (after_writes s ws next).wrote x) same (still_wrote s ws next u (told_wrote s u t tells))
all_wrote s (u ∷ ws) t w tells (inr has) = all_wrote s ws (committing u.0 (told_bytes s u.1) t) w tells has

-- a commit writes its blob at most
committing_wrote_only : (name : BlobName) (o : Option Bytes) (t : Ticket) (bytes : Bytes) → ((b : Bytes) → o ≡ Some b → b ≡ bytes) → (w : BlobName × Bytes) → Has (committing name o t).wrote w → ((name, bytes) ≡ w) ⊎ Has t.wrote w
committing_wrote_only name None t bytes told w has = inr has
committing_wrote_only name (Some b) t bytes told w (inl same) = inl (ap (λ (x : Bytes). (name, x)) (sym (told b refl)) ∙ same)
committing_wrote_only name (Some b) t bytes told w (inr has) = inr has

told_is : (tells : Bool) (bytes b : Bytes) → (if tells then Some bytes else None) ≡ Some b → b ≡ bytes
told_is true bytes b is = cc
told_is false bytes b is = cc

-- what was written is among the blobs, or was before
pub wrote_only : (s : Start) (ws : List (BlobName × Bytes)) (t : Ticket) (w : BlobName × Bytes) → Has (after_writes s ws t).wrote w → Has ws w ⊎ Has t.wrote w
wrote_only s [] t w has = inr has
wrote_only s (u ∷ ws) t w has = elim (wrote_only s ws (committing u.0 (told_bytes s u.1) t) w has) [
  | inl later ↦ inl (inr later)
  | inr before ↦ elim (committing_wrote_only u.0 (told_bytes s u.1) t u.1 (told_is s.tells u.1) w before) [
    | inl same ↦ inl (inl same)
    | inr older ↦ inr older
  ]
]

-- ---- the names

noted_now : (name : BlobName) (o : Option Bytes) (t : Ticket) → Has (committing name o t).noted name
noted_now name None t = inl refl
noted_now name (Some bytes) t = inl refl

keeps_noted : (name : BlobName) (o : Option Bytes) (t : Ticket) (n : BlobName) → Has t.noted n → Has (committing name o t).noted n
keeps_noted name None t n has = inr has
keeps_noted name (Some bytes) t n has = inr has

still_noted : (s : Start) (ws : List (BlobName × Bytes)) (t : Ticket) (n : BlobName) → Has t.noted n → Has (after_writes s ws t).noted n
still_noted s [] t n has = has
still_noted s (u ∷ ws) t n has = still_noted s ws (committing u.0 (told_bytes s u.1) t) n (keeps_noted u.0 (told_bytes s u.1) t n has)

-- each blob's name is noted
pub all_noted : (s : Start) (ws : List (BlobName × Bytes)) (t : Ticket) (w : BlobName × Bytes) → Has ws w → Has (after_writes s ws t).noted w.0
all_noted s [] t w has = absurd has
all_noted s (u ∷ ws) t w (inl same) =
    let next = committing u.0 (told_bytes s u.1) t in
    subst (λ (x : BlobName × Bytes). Has (after_writes s ws next).noted x.0) same (still_noted s ws next u.0 (noted_now u.0 (told_bytes s u.1) t))
all_noted s (u ∷ ws) t w (inr has) = all_noted s ws (committing u.0 (told_bytes s u.1) t) w has
