-- How far a check has come, after its look and after each fetch.
use Rattle.std.proofs.Common.{◌≡◌, ◌↔◌, inl, inr, ⊎_elim, ℕ, suc, ◌+◌, ◌≤◌, ◌<◌, ◌^◌, Bool, true, false, List, [], ◌∷◌, ◌++◌, append_assoc, length, length-append, Option, Some, None, IfSome, refl, sym, ap, ◌∙◌, subst, arith}
use Rattle.std.specs.Prelude.{if◌then◌else◌, ◌≢◌}
use Rattle.esr_model.specs.Lists.{Has-append, Has-left, Has-right}
use Rattle.esr_model.specs.Names.{BlobName, Latest}
use Rattle.esr_model.specs.Values.{Bytes, Has, RootSnap}
use Rattle.esr_model.specs.Image.{Blobs, At}
use Rattle.esr_core.specs.World.{Caller}
use Rattle.esr_core.specs.Restores.{AreOnce, IsTestOf, WasRead}
use Rattle.esr_core.specs.Allowed.{InReach}
use Rattle.esr_core.specs.Entry.{Read, LookStep, ReadStep, ReadBlob, Looked, WasFetched, Moment, Step, Entry}
use Rattle.esr_core.specs.Past.{RepeatsRead, Repeats}
use Rattle.esr_core.specs.After.{caller_told}
use Rattle.esr_depot.specs.Told.{Tells}
use Rattle.esr_desk.specs.Start.{Start, formats_of, told_bytes, world_of}
use Rattle.esr_desk.specs.Outcome.{Stepped, fetch_reply}
use Rattle.esr_desk.specs.Own.{caller_of, own_of, Own, made_of}
use Rattle.esr_desk.specs.Once.{IsFresh}
use Rattle.esr_desk.specs.Made.{client_made}
use Rattle.esr_desk.specs.Hands.{own_fetched}
use Rattle.esr_desk.specs.declared.hand.Hand.TheVariants as hands
use Rattle.esr_desk.specs.Caller.{found_by}
use Rattle.esr_desk.specs.Check.Conditions.{CanCheck}
use Rattle.esr_desk.specs.Check.Shown.{HasFetched}
use Rattle.esr_check.specs.Names.{AreUnfetched, Just}
use Rattle.esr_check.specs.Checked.{AreFetched}
use Rattle.esr_check.specs.Went.{HasLooked, IsSoFar, Came, Went}
use Rattle.esr_check.proofs.Living.{moment_of, stepped_is, fetched_there, looked_caller, look_caller, look_alive, in_reach_as, look_made}
use Rattle.esr_check.proofs.Going.{step_went}

-- ---- what an answer says

-- what is ensured of the fetch that came
pub fetch_came : {F : Type 0} (o : Option F) (f : F) (P : F → Type 0) → o ≡ Some f → IfSome o P → P f
fetch_came (Some g) f P is holds = let same : g ≡ f = cc in subst P same holds
fetch_came None f P is holds = absurd cc

pub step_told : {F : Type 0} (s : Start) (old new : List Moment) (name : BlobName) (o : Option F) (f : F) → o ≡ Some f → Stepped s old new 0 (ReadStep (ReadBlob name)) (fetch_reply o)
    → Stepped s old new 0 (ReadStep (ReadBlob name)) WasFetched
step_told s old new name None f is h = absurd cc
step_told s old new name (Some g) f is h = h

pub told_own : {F : Type 0} (left : F → Option Bytes) (o : Option F) (f : F) (s : Start) (name : BlobName) (bytes : Bytes) (c d : Caller) → o ≡ Some f → left f ≡ told_bytes s bytes → d ≡ found_by left name o c
    → d ≡ caller_told c name (told_bytes s bytes)
told_own left None f s name bytes c d is holds own = absurd cc
told_own {F} left (Some g) f s name bytes c d is holds own =
    let same : g ≡ f = cc in
    own ∙ ap (λ (x : F). caller_told c name (left x)) same ∙ ap (λ (o : Option Bytes). caller_told c name o) holds

-- who 0 has read it
pub caller_own : {F : Type 0} (left : F → Option Bytes) (s : Start) (old new : List Moment) (name : BlobName) (o : Option F) → own_of s new 0 ≡ own_fetched hands.Check left name o (own_of s old 0)
    → caller_of s new ≡ found_by left name o (caller_of s old)
caller_own left s old new name o own = ap (λ (o : Own). o.caller) own

-- ---- what is fresh

same_fetch : (read : Read) (name : BlobName) → RepeatsRead read (ReadBlob name) → read ≡ ReadBlob name
same_fetch (ReadBlob a) name same = ap (λ (n : BlobName). ReadBlob n) same
same_fetch read name same = absurd same

repeats_fetch : (step : Step) (name : BlobName) → Repeats step (ReadStep (ReadBlob name)) → step ≡ ReadStep (ReadBlob name)
repeats_fetch (ReadStep read) name same = ap (λ (r : Read). ReadStep r) (same_fetch read name same)
repeats_fetch step name same = absurd same

-- a fetch of the check that may be made repeats none
pub is_fresh : (s : Start) (log : List Moment) (count : ℕ) (name : BlobName) → IsSoFar s log count → CanCheck s log name → IsFresh s log 0 (ReadStep (ReadBlob name))
is_fresh s log count name so may e has same = may.once ((so.looked.fetched name).1 (so.made e name has (repeats_fetch e.step name same)))

told_fetched : (c : Caller) (name : BlobName) (told : Option Bytes) → (caller_told c name told).fetched ≡ name ∷ c.fetched
told_fetched c name None = refl
told_fetched c name (Some bytes) = refl

told_found : (c : Caller) (name : BlobName) (told : Option Bytes) → (caller_told c name told).found ≡ name ∷ c.found
told_found c name None = refl
told_found c name (Some bytes) = refl

told_read : (tells : Bool) (c : Caller) (name : BlobName) (bytes : Bytes) → tells ≡ true → WasRead (caller_told c name (if tells then Some bytes else None)).read name bytes
told_read true c name bytes is = inl refl
told_read false c name bytes is = absurd cc

-- ---- one name more

are_push : (moments : List Moment) (names : List BlobName) (m : Moment) (name : BlobName) → AreFetched moments names → m.entry ≡ record { who = 0; step = ReadStep (ReadBlob name); reply = WasFetched }
    → AreFetched (moments ++ m ∷ []) (names ++ name ∷ [])
are_push [] [] m name are is = (is, tt)
are_push (x ∷ moments) (n ∷ names) m name are is = (are.0, are_push moments names m name are.1 is)
are_push moments names m name are is = absurd are

once_push : (names : List BlobName) (name : BlobName) → AreOnce names → (Has names name → ⊥) → AreOnce (names ++ name ∷ [])
once_push [] name once new = (λ none. none, tt)
once_push (n ∷ names) name once new = (
  λ has. ⊎_elim (λ (before : Has names n). once.0 before) (λ (last : name ≡ n). new (inl (sym last))) (Has-append names name n has),
  once_push names name once.1 (λ has. new (inr has)),
)

both_push : (xs ys names : List BlobName) (name : BlobName) → ys ≡ name ∷ xs → ((n : BlobName) → Has xs n ↔ Has names n) → (n : BlobName) → Has ys n ↔ Has (names ++ name ∷ []) n
both_push xs ys names name is both n = subst (λ (l : List BlobName). Has l n ↔ Has (names ++ name ∷ []) n) (sym is) (into, back)
  where
    into : Has (name ∷ xs) n → Has (names ++ name ∷ []) n
    into (inl same) = Has-right names (name ∷ []) n (inl same)
    into (inr before) = Has-left names (name ∷ []) n ((both n).0 before)

    back : Has (names ++ name ∷ []) n → Has (name ∷ xs) n
    back has = ⊎_elim (λ (before : Has names n). inr ((both n).1 before)) (λ (last : name ≡ n). inl last) (Has-append names name n has)

-- ---- after a look

none_both : (xs : List BlobName) → xs ≡ [] → (name : BlobName) → Has xs name ↔ ⊥
none_both xs is name = subst (λ (l : List BlobName). Has l name ↔ ⊥) (sym is) (λ has. has, λ none. none)

none_read : (read : List (BlobName × Bytes)) (name : BlobName) (bytes : Bytes) → read ≡ [] → WasRead read name bytes → ⊥
none_read read name bytes is has = subst (λ (l : List (BlobName × Bytes)). Has l (name, bytes)) is has

module _ (s : Start) (old new : List Moment) (snapshots : List RootSnap) (safe : ℕ) (alone : s.alone ≡ true) (h : Stepped s old new 0 LookStep (Looked snapshots safe)) where
  is_caller : caller_of s new ≡ looked_caller
  is_caller = look_caller s old new snapshots safe alone h

  pub look_unfetched : (caller_of s new).fetched ≡ []
  look_unfetched = ap (λ (c : Caller). c.fetched) is_caller

  look_found : (caller_of s new).found ≡ []
  look_found = ap (λ (c : Caller). c.found) is_caller

  -- with nothing fetched
  has_looked : HasLooked s new []
  has_looked = record {
    before = old;
    look = moment_of s old new LookStep (Looked snapshots safe) alone h;
    fetches = [];
    is = stepped_is s old new LookStep (Looked snapshots safe) alone h;
    looker = refl;
    looks = refl;
    are = tt;
    once = tt;
    fetched = none_both (caller_of s new).fetched look_unfetched;
    found = none_both (caller_of s new).found look_found;
  }

  pub look_so_far : IsSoFar s new 0
  look_so_far = record {
    legal = h.legal;
    alive = look_alive s old new snapshots safe alone h;
    is_open = record { looked = ap (λ (c : Caller). c.looked) is_caller; undrawn = ap (λ (c : Caller). c.drawn) is_caller; unspent = ap (λ (c : Caller). c.spent) is_caller };
    names = [];
    looked = has_looked;
    made = λ e name has is. absurd (subst (λ (entries : List Entry). Has entries e) (look_made s old new snapshots safe alone h) has);
    count_is = refl;
    counted = sym (ap (λ (l : List BlobName). length l) look_found);
    within = omega arith;
    reached = λ tells name has. absurd has;
    told = λ tells name has. absurd ((none_both (caller_of s new).found look_found name).0 has);
    there = λ name bytes has. absurd (none_read (caller_of s new).read name bytes (ap (λ (c : Caller). c.read) is_caller) has);
  }

-- ---- after a fetch

module _ (s : Start) (old new : List Moment) (count : ℕ) (name : BlobName) (bytes : Bytes) (alone : s.alone ≡ true)
    (h : Stepped s old new 0 (ReadStep (ReadBlob name)) WasFetched) (own : caller_of s new ≡ caller_told (caller_of s old) name (told_bytes s bytes))
    (may : CanCheck s old name) (so : IsSoFar s old count) where
  went : Went s old new (Just name)
  went = step_went s old new name WasFetched alone h

  fetched_is : (caller_of s new).fetched ≡ name ∷ (caller_of s old).fetched
  fetched_is = ap (λ (c : Caller). c.fetched) own ∙ told_fetched (caller_of s old) name (told_bytes s bytes)

  found_is : (caller_of s new).found ≡ name ∷ (caller_of s old).found
  found_is = ap (λ (c : Caller). c.found) own ∙ told_found (caller_of s old) name (told_bytes s bytes)

  pub is_found : Has (caller_of s new).found name
  is_found = subst (λ (l : List BlobName). Has l name) (sym found_is) (inl refl)

  pub is_read : s.tells ≡ true → WasRead (caller_of s new).read name bytes
  is_read tells = subst (λ (c : Caller). WasRead c.read name bytes) (sym own) (told_read s.tells (caller_of s old) name bytes tells)

  looked_next : HasLooked s new (so.names ++ name ∷ [])
  looked_next =
      let m = moment_of s old new (ReadStep (ReadBlob name)) WasFetched alone h in
      let was = so.looked in
      record {
        before = was.before;
        look = was.look;
        fetches = was.fetches ++ m ∷ [];
        is = stepped_is s old new (ReadStep (ReadBlob name)) WasFetched alone h ∙ ap (λ (log : List Moment). log ++ m ∷ []) was.is ∙ append_assoc was.before (was.look ∷ was.fetches) (m ∷ []);
        looker = was.looker;
        looks = was.looks;
        are = are_push was.fetches so.names m name was.are refl;
        once = once_push so.names name was.once (λ has. may.once ((was.fetched name).1 has));
        fetched = both_push (caller_of s old).fetched (caller_of s new).fetched so.names name fetched_is was.fetched;
        found = both_push (caller_of s old).found (caller_of s new).found so.names name found_is was.found;
      }

  -- the history has one entry more
  longer : length new ≡ length old + 1
  longer =
      let m = moment_of s old new (ReadStep (ReadBlob name)) WasFetched alone h in
      ap (λ (log : List Moment). length log) (stepped_is s old new (ReadStep (ReadBlob name)) WasFetched alone h) ∙ length-append old (m ∷ [])

  -- so the count fits
  pub count_fits : length new ≤ 2 ^ 40 → count + 1 < 2 ^ 64
  count_fits few = omega (arith, few, longer, so.within)

  still_reached : (n : BlobName) → InReach (formats_of s) (world_of s old) n → InReach (formats_of s) (world_of s new) n
  still_reached n reached = in_reach_as (formats_of s) (world_of s old) (world_of s new) n went.same.blobs went.same.safe reached

  reached_next : s.tells ≡ true → (n : BlobName) → Has (so.names ++ name ∷ []) n → InReach (formats_of s) (world_of s new) n
  reached_next tells n has =
      ⊎_elim
      (λ (before : Has so.names n). still_reached n (so.reached tells n before))
      (λ (last : name ≡ n). still_reached n (subst (λ (x : BlobName). InReach (formats_of s) (world_of s old) x) last (may.reached tells)))
      (Has-append so.names name n has)

  told_next : s.tells ≡ true → (n : BlobName) → Has (name ∷ (caller_of s old).found) n → (b : Bytes) × WasRead (caller_of s new).read n b
  told_next tells n (inl same) = (bytes, subst (λ (x : BlobName). WasRead (caller_of s new).read x bytes) same (is_read tells))
  told_next tells n (inr before) = let was = so.told tells n before in (was.0, went.grown.read n was.0 was.1)

  there_next : (n : BlobName) (b : Bytes) → WasRead (caller_of s new).read n b → At (formats_of s) (world_of s new).blobs n b
  there_next n b has =
      subst (λ (blobs : Blobs). At (formats_of s) blobs n b) (sym went.same.blobs)
      (⊎_elim
      (λ (before : WasRead (caller_of s old).read n b). so.there n b before)
      (λ (here : At (formats_of s) (world_of s old).blobs n b). here)
      (fetched_there s old new name alone h n b has))

  fetch_name : (a b : BlobName) → ReadStep (ReadBlob a) ≡ ReadStep (ReadBlob b) → a ≡ b
  fetch_name a b e = cc

  made_next : (e : Entry) (n : BlobName) → Has (made_of s new 0) e → e.step ≡ ReadStep (ReadBlob n) → Has (so.names ++ name ∷ []) n
  made_next e n has is = ⊎_elim
      (λ (before : Has (made_of s old 0) e). Has-left so.names (name ∷ []) n (so.made e n before is))
      (λ (here : e.step ≡ ReadStep (ReadBlob name)). Has-right so.names (name ∷ []) n (inl (fetch_name name n (sym here ∙ is))))
      (client_made s old new (ReadStep (ReadBlob name)) WasFetched alone h e has)

  pub next_so_far : IsSoFar s new (count + 1)
  next_so_far =
      let names_len : length (so.names ++ name ∷ []) ≡ length so.names + 1 = length-append so.names (name ∷ []) in
      let found_len : length (caller_of s new).found ≡ suc (length (caller_of s old).found) = ap (λ (l : List BlobName). length l) found_is in
      record {
        legal = h.legal;
        alive = went.same.deposed ∙ so.alive;
        is_open = record { looked = went.same.looked ∙ may.is_open.looked; undrawn = went.same.drawn ∙ may.is_open.undrawn; unspent = went.same.spent ∙ may.is_open.unspent };
        names = so.names ++ name ∷ [];
        looked = looked_next;
        made = made_next;
        count_is = omega (arith, names_len, so.count_is);
        counted = omega (arith, found_len, so.counted);
        within = omega (arith, longer, so.within);
        reached = reached_next;
        told = λ tells n has. told_next tells n (subst (λ (l : List BlobName). Has l n) found_is has);
        there = there_next;
      }

  pub has_come : (left : Option Bytes) (sure : Bool) → left ≡ told_bytes s bytes → (s.quiet ≡ true → sure ≡ true) → Came s new name left sure
  has_come left sure holds served = record { bytes = bytes; holds = holds; found = is_found; read = is_read; served = served }

-- ---- what a fetch needs

-- one that isn't fetched yet, and is reached
pub can_check : (s : Start) (log : List Moment) (count : ℕ) (name : BlobName) → IsSoFar s log count → AreUnfetched (caller_of s log) (Just name) → name ≢ Latest → ((id : ℕ) → IsTestOf id name → ⊥)
    → (s.tells ≡ true → InReach (formats_of s) (world_of s log) name) → CanCheck s log name
can_check s log count name so new stored untested reached = record { is_open = so.is_open; once = λ has. new name refl has; stored = stored; untested = untested; reached = reached }

-- none of them, where none was fetched
pub all_new : (c : Caller) (P : BlobName → Type 0) → c.fetched ≡ [] → AreUnfetched c P
all_new c P none name own has = subst (λ (l : List BlobName). Has l name) none has

-- ---- a blob that was read to its end

whole_is : (tells : Bool) (left : Option Bytes) (held bytes : Bytes) → left ≡ (if tells then Some held else None) → Tells left bytes → tells ≡ true → held ≡ bytes
whole_is true left held bytes is told yes_is = subst (λ (o : Option Bytes). Tells o bytes) is told
whole_is false left held bytes is told yes_is = absurd cc

pub came_whole : (s : Start) (log : List Moment) (name : BlobName) (left : Option Bytes) (sure : Bool) (bytes : Bytes) → Came s log name left sure → Tells left bytes → HasFetched s (caller_of s log) name bytes
came_whole s log name left sure bytes came told = record {
  found = came.found;
  read = λ tells. subst (λ (b : Bytes). WasRead (caller_of s log).read name b) (whole_is s.tells left came.bytes bytes came.holds told tells) (came.read tells);
}
