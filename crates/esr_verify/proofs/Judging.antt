-- Test blobs that are absent, or hold something else than the text of their id.
use Rattle.std.proofs.Common.{◌≡◌, ◌⊎◌, ◌≤◌, ◌^◌, length, inl, inr, ⊎_elim, ℕ, Bool, true, false, List, [], ◌∷◌, Option, Some, None, Result, Ok, Err, IfErr, refl, sym, ap, ◌∙◌, subst}
use Rattle.std.specs.Prelude.{if◌then◌else◌}
use Rattle.esr_names.specs.declared.blob.BlobName.{BlobName as CodeName}
use Rattle.esr_names.specs.IdText.{id_text}
use Rattle.esr_model.specs.Names.{BlobName}
use Rattle.esr_model.specs.Values.{Bytes, Has}
use Rattle.esr_core.specs.World.{Caller}
use Rattle.esr_core.specs.Restores.{WasRead}
use Rattle.esr_core.specs.After.{caller_told}
use Rattle.esr_core.specs.Entry.{Moment, ReadStep, ReadBlob, WasAbsent, WasFetched}
use Rattle.esr_hash.specs.declared.print.Print.{Print}
use Rattle.esr_hash.specs.Prints.{print_of}
use Rattle.esr_formats.specs.Formats.{formats}
use Rattle.esr_formats.specs.Names.{name_of}
use Rattle.esr_desk.specs.declared.entry.Why.{Why}
use Rattle.esr_desk.specs.declared.entry.Why.TheVariants as whys
use Rattle.esr_desk.specs.declared.hand.Hand.TheVariants as hands
use Rattle.esr_desk.specs.Start.{Start, told_bytes}
use Rattle.esr_desk.specs.Own.{Own, own_of, caller_of}
use Rattle.esr_desk.specs.Hands.{own_fetched}
use Rattle.esr_desk.specs.Outcome.{Stepped, fetch_reply}
use Rattle.esr_desk.specs.Caller.{found_by}
use Rattle.esr_desk.specs.Evidence.{Evidence}
use Rattle.esr_desk.specs.Verify.Shown.{IsAbsent, IsOther, IsMisprinted}
use Rattle.esr_unit.specs.declared.trouble.Trouble.{Trouble}
use Rattle.esr_unit.specs.declared.trouble.Trouble.TheVariants as troubles
use Rattle.esr_unit.specs.Fetch.{IsFetched, MadeOne}
use Rattle.esr_unit.specs.Shown.{Shown}
use Rattle.esr_verify.specs.Went.{Drew}
use Rattle.esr_verify.specs.Done.{Fetched}
use Rattle.esr_verify.specs.Judged.{HasOtherPrint, IsNoText, Judged}
use Rattle.esr_verify.proofs.Going.{stepped_went}
use Rattle.esr_verify.proofs.Refusing.{had_reply}
use Rattle.esr_verify.proofs.Doing.{none_removed}

-- ---- what a fetch makes of who 0

told_drawn : (c : Caller) (name : BlobName) (left : Option Bytes) → (caller_told c name left).drawn ≡ c.drawn
told_drawn c name None = refl
told_drawn c name (Some bytes) = refl

told_committed : (c : Caller) (name : BlobName) (left : Option Bytes) → (caller_told c name left).committed ≡ c.committed
told_committed c name None = refl
told_committed c name (Some bytes) = refl

told_found : (c : Caller) (name : BlobName) (left : Option Bytes) → (caller_told c name left).found ≡ name ∷ c.found
told_found c name None = refl
told_found c name (Some bytes) = refl

found_drawn : (c : Caller) (s : Start) (name : BlobName) (o : Option Bytes) → (found_by (told_bytes s) name o c).drawn ≡ c.drawn
found_drawn c s name None = refl
found_drawn c s name (Some bytes) = told_drawn c name (told_bytes s bytes)

-- the id stays drawn
pub fetched_drawn : (s : Start) (old new : List Moment) (name : BlobName) (o : Option Bytes) → own_of s new 0 ≡ own_fetched hands.Verify (told_bytes s) name o (own_of s old 0) → (caller_of s new).drawn ≡ (caller_of s old).drawn
fetched_drawn s old new name o own = ap (λ (o : Own). o.caller.drawn) own ∙ found_drawn (caller_of s old) s name o

-- also where it was refused, or failed
pub left_drawn : (s : Start) (old new : List Moment) (name : BlobName) → IsFetched hands.Verify s name (own_of s old 0) (own_of s new 0) → (caller_of s new).drawn ≡ (caller_of s old).drawn
left_drawn s old new name left = ⊎_elim
    (λ (same : own_of s new 0 ≡ own_of s old 0). ap (λ (o : Own). o.caller.drawn) same)
    (λ (here : (bytes : Bytes) × (own_of s new 0 ≡ own_fetched hands.Verify (told_bytes s) name (Some bytes) (own_of s old 0))). fetched_drawn s old new name (Some here.0) here.1)
    left

-- ---- none is there

module _ (s : Start) (old new : List Moment) (name : BlobName) (own : own_of s new 0 ≡ own_fetched hands.Verify (told_bytes s) name None (own_of s old 0)) where
  pub absent : (id : ℕ) → s.alone ≡ true → Drew s old id → Has (caller_of s old).committed name → (caller_of s old).removed ≡ [] → Stepped s old new 0 (ReadStep (ReadBlob name)) WasAbsent → IsAbsent new (caller_of s new) name
  absent id alone drew committed unremoved step = record {
    committed = subst (λ (l : List BlobName). Has l name) (sym (ap (λ (o : Own). o.caller.committed) own)) committed;
    unremoved = none_removed (caller_of s new).removed name (ap (λ (o : Own). o.caller.removed) own ∙ unremoved);
    missing = had_reply s old new id (ReadStep (ReadBlob name)) WasAbsent alone drew step (ap (λ (o : Own). o.caller.drawn) own);
  }

-- by the answer
pub absent_so : {S F H T : Type 0} (e : Evidence S F H T) (s : Start) (old new : List Moment) (id : ℕ) (name : CodeName) (o : Option Bytes) → o ≡ None → s.alone ≡ true → Drew s old id → Has (caller_of s old).committed (name_of name)
    → (caller_of s old).removed ≡ []
    → Stepped s old new 0 (ReadStep (ReadBlob (name_of name))) (fetch_reply o) → own_of s new 0 ≡ own_fetched hands.Verify (told_bytes s) (name_of name) o (own_of s old 0)
    → Shown {S = S} {F = F} {H = H} {T = T} hands.Verify e ⊥ s new 0 (troubles.Found (whys.Absent name))
absent_so e s old new id name None is alone drew committed unremoved step own = record { client = refl; shown = absent s old new (name_of name) own id alone drew committed unremoved step }
absent_so e s old new id name (Some bytes) is alone drew committed unremoved step own = absurd cc

-- ---- one is there, and read to its end

pub fetched : (s : Start) (old new : List Moment) (name : BlobName) (o : Option Bytes) (bytes : Bytes) → o ≡ Some bytes → s.alone ≡ true → Stepped s old new 0 (ReadStep (ReadBlob name)) (fetch_reply o)
    → own_of s new 0 ≡ own_fetched hands.Verify (told_bytes s) name o (own_of s old 0) → MadeOne s old new 0 (ReadStep (ReadBlob name)) → Fetched s old new name bytes
fetched s old new name None bytes is alone step own made = absurd cc
fetched s old new name (Some held) bytes is alone step own made =
    let same : held ≡ bytes = cc in
    record {
      went = stepped_went s old new (ReadStep (ReadBlob name)) WasFetched alone step;
      own = ap (λ (o : Own). o.caller) own ∙ ap (λ (b : Bytes). caller_told (caller_of s old) name (told_bytes s b)) same;
      made = made;
    }

-- ---- it holds something else

was_read : (tells : Bool) (c : Caller) (name : BlobName) (bytes : Bytes) → tells ≡ true → WasRead (caller_told c name (if tells then Some bytes else None)).read name bytes
was_read true c name bytes is = inl refl
was_read false c name bytes is = absurd cc

same_print : (a b : Print) → a.len ≡ b.len → a.sha256 ≡ b.sha256 → a ≡ b
same_print a b len digest =
    let made : ℕ → List ℕ → Print = λ len sha256. record { len = len; sha256 = sha256 } in
    ap (λ (n : ℕ). made n a.sha256) len ∙ ap (λ (d : List ℕ). made b.len d) digest

module _ (s : Start) (old new : List Moment) (id : ℕ) (name : BlobName) (bytes : Bytes) (drew : Drew s new id) (was : Has (caller_of s old).committed name) (got : Fetched s old new name bytes) where
  still_committed : Has (caller_of s new).committed name
  still_committed = subst (λ (l : List BlobName). Has l name) (sym (ap (λ (d : Caller). d.committed) got.own ∙ told_committed (caller_of s old) name (told_bytes s bytes))) was

  was_there : Has (caller_of s new).found name
  was_there = subst (λ (l : List BlobName). Has l name) (sym (ap (λ (d : Caller). d.found) got.own ∙ told_found (caller_of s old) name (told_bytes s bytes))) (inl refl)

  read_so : s.tells ≡ true → WasRead (caller_of s new).read name bytes
  read_so tells = subst (λ (d : Caller). WasRead d.read name bytes) (sym got.own) (was_read s.tells (caller_of s old) name bytes tells)

  pub misprinted : (print_of (id_text id) ≡ print_of bytes → ⊥) → IsMisprinted s (caller_of s new) name (print_of (id_text id)).len (print_of (id_text id)).sha256 (print_of bytes).len (print_of bytes).sha256
  unfolding formats
  misprinted differ = record {
    id = id;
    drawn = drew.is_open;
    committed = still_committed;
    there = was_there;
    bytes = bytes;
    read = read_so;
    stated_len_is = refl;
    stated_digest_is = refl;
    found_len_is = refl;
    found_digest_is = refl;
    differ = λ len digest. differ (same_print (print_of (id_text id)) (print_of bytes) len digest);
  }

  pub other : (bytes ≡ id_text id → ⊥) → (2 ^ 61 ≤ length bytes) ⊎ (print_of (id_text id) ≡ print_of bytes) → IsOther s (caller_of s new) name
  unfolding formats
  other differ (inl many) = record { id = id; drawn = drew.is_open; committed = still_committed; there = was_there; bytes = bytes; read = read_so; differ = differ; unprinted = inl many }
  other differ (inr same) = record {
    id = id;
    drawn = drew.is_open;
    committed = still_committed;
    there = was_there;
    bytes = bytes;
    read = read_so;
    differ = differ;
    unprinted = inr (ap (λ (p : Print). p.len) same, ap (λ (p : Print). p.sha256) same);
  }

module _ {S F H T : Type 0} (e : Evidence S F H T) (s : Start) (old new : List Moment) (id : ℕ) (name : CodeName) (bytes : Bytes)
    (drew : Drew s new id) (committed : Has (caller_of s old).committed (name_of name)) (got : Fetched s old new (name_of name) bytes) where
  judged_why : (why : Why) → HasOtherPrint id name bytes why ⊎ IsNoText id name bytes why → Shown {S = S} {F = F} {H = H} {T = T} hands.Verify e ⊥ s new 0 (troubles.Found why)
  judged_why why (inl h) =
      subst (λ (w : Why). Shown {S = S} {F = F} {H = H} {T = T} hands.Verify e ⊥ s new 0 (troubles.Found w)) (sym h.0)
      (record { client = refl; shown = misprinted s old new id (name_of name) bytes drew committed got h.1 })
  judged_why why (inr h) =
      subst (λ (w : Why). Shown {S = S} {F = F} {H = H} {T = T} hands.Verify e ⊥ s new 0 (troubles.Found w)) (sym h.0)
      (record { client = refl; shown = (other s old new id (name_of name) bytes drew committed got h.1 h.2, refl) })

  judged_one : (trouble : Trouble S F) → Judged id name bytes trouble → Shown {S = S} {F = F} {H = H} {T = T} hands.Verify e ⊥ s new 0 trouble
  judged_one (troubles.Found why) h = judged_why why h
  judged_one trouble h = absurd h

  pub judged : {X : Type 0} (read : Bytes) (result : Result X (Trouble S F)) → read ≡ bytes → IfErr result (Judged id name read) → IfErr result (Shown {S = S} {F = F} {H = H} {T = T} hands.Verify e ⊥ s new 0)
  judged read (Ok x) same h = tt
  judged read (Err trouble) same h = judged_one trouble (subst (λ (b : Bytes). Judged id name b trouble) same h)
