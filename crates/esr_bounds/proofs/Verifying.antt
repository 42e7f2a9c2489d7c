-- Who 0 makes few steps of each verification that it begins: each name of it is begun, committed, fetched and removed once.
use Rattle.std.proofs.Common.{◌≡◌, ◌≢◌, ◌⊎◌, ℕ, zero, suc, ◌+◌, ◌*◌, ◌<◌, ◌≤◌, List, [], ◌∷◌, ◌++◌, length, map, Bool, true, false, Option, Some, None, refl, sym, ap, ◌∙◌, subst, inl, inr, ⊎_elim, arith}
use Rattle.std.specs.Prelude.{if◌then◌else◌}
use Rattle.std.proofs.lemmas.Bool.Decides.{eqb_tells}
use Rattle.std.proofs.lemmas.Option.{same_Some, none-some}
use Rattle.std.proofs.lemmas.List.{length-append, length-map}
use Rattle.esr_model.specs.Lists.{Has-left, Has-right, Has-either, Has-map}
use Rattle.esr_model.specs.Names.{BlobName, Root, TestMaster, TestNode}
use Rattle.esr_model.specs.Values.{Bytes, Has, RootData, Formats}
use Rattle.esr_model.specs.Image.{Image, At, Reads}
use Rattle.esr_model.specs.Reach as reach
use Rattle.esr_model.specs.Reach.{Reached}
use Rattle.esr_core.specs.World.{World, Reader, Caller, no_caller}
use Rattle.esr_core.specs.Restores.{AreOnce, IsReading, IsTestOf}
use Rattle.esr_core.specs.Past.{Repeats, IsNewStep, is_counted, with_entry, begins_anew, entries_by}
use Rattle.esr_core.specs.ReadTracked.{ReadTracked}
use Rattle.esr_core.specs.Tracked.{Tracked}
use Rattle.esr_core.specs.Changes.{StepChange}
use Rattle.esr_core.specs.Entry.{Asked, Read, ReadBlob, CheckedAll, DrawTest, BeginTest, CommitTest, RemoveTests, VerifiedAll, ReadFails, Step, AskStep, LookStep, ReadStep, Reply, Entry, Moment}
use Rattle.esr_core.specs.After.{told_blob, is_heard, caller_told, caller_wrote, caller_read, caller_after, answered, after}
use Rattle.esr_core.specs.Allowed as allowed
use Rattle.esr_core.specs.Allowed.{Told, InReach, Fetcher, IsOwnTest, MayRemoveTests, ReadAllows, VerifyAllows, Allows, Allowed}
use Rattle.esr_core.specs.History.{world_from, IsLegal, AreTold}
use Rattle.esr_core.specs.Laws.PartNames.{in_parts}
use Rattle.esr_core.specs.Laws.StepFrames.{change_caller}
use Rattle.esr_bounds.specs.Keys.{Key, BeginKey, CommitKey, ReadKey, RemovalKey, IsUnheard, AreHeard, IsHeard}
use Rattle.esr_bounds.specs.Clients.{draws_by, tests_at, tests_by, draws_in, tests_in, most_tests}
use Rattle.esr_bounds.specs.Laws.{StepLaws}
use Rattle.esr_bounds.proofs.Few.{few_once}
use Rattle.esr_bounds.proofs.Once.{counted, looked_at}
use Rattle.esr_bounds.proofs.Prunes.{Tells, told_is}

-- ---- the names of a verification

abbrev IsTest : BlobName → Type 0
IsTest (TestMaster v) = Unit {0}
IsTest (TestNode v n) = Unit {0}
IsTest name = ⊥

abbrev nodes : ℕ → ℕ → ℕ → List BlobName
nodes v first zero = []
nodes v first (suc n) = TestNode v first ∷ nodes v (suc first) n

test_names : ℕ → List BlobName
test_names id = TestMaster id ∷ nodes id 0 64

test_keys : ℕ → List Key
test_keys id = map BeginKey (test_names id) ++ (map CommitKey (test_names id) ++ (map ReadKey (test_names id) ++ map RemovalKey (test_names id)))

length_nodes : (v first n : ℕ) → length (nodes v first n) ≡ n
length_nodes v first zero = refl
length_nodes v first (suc n) = ap suc (length_nodes v (suc first) n)

length_names : (id : ℕ) → length (test_names id) ≡ 65
unfolding test_names
length_names id = ap suc (length_nodes id 0 64)

length_keys : (id : ℕ) → length (test_keys id) ≡ most_tests
unfolding test_keys
length_keys id =
    length-append (map BeginKey (test_names id)) (map CommitKey (test_names id) ++ (map ReadKey (test_names id) ++ map RemovalKey (test_names id)))
    ∙ ap (λ (n : ℕ). length (map BeginKey (test_names id)) + n)
    (length-append (map CommitKey (test_names id)) (map ReadKey (test_names id) ++ map RemovalKey (test_names id))
    ∙ ap (λ (n : ℕ). length (map CommitKey (test_names id)) + n) (length-append (map ReadKey (test_names id)) (map RemovalKey (test_names id))))
    ∙ sum (length (map BeginKey (test_names id))) (length (map CommitKey (test_names id))) (length (map ReadKey (test_names id))) (length (map RemovalKey (test_names id)))
    (length-map (test_names id) BeginKey ∙ length_names id) (length-map (test_names id) CommitKey ∙ length_names id) (length-map (test_names id) ReadKey ∙ length_names id) (length-map (test_names id) RemovalKey ∙ length_names id)
  where
    sum : (a b c d : ℕ) → a ≡ 65 → b ≡ 65 → c ≡ 65 → d ≡ 65 → a + (b + (c + d)) ≡ 260
    sum a b c d p q r s = let one : a ≡ 65 = p in let two : b ≡ 65 = q in let three : c ≡ 65 = r in let four : d ≡ 65 = s in omega (arith, one, two, three, four)

in_nodes : (v first n x : ℕ) → first ≤ x → x < first + n → Has (nodes v first n) (TestNode v x)
in_nodes v first zero x from below = let a : first ≤ x = from in let b : x < first + 0 = below in absurd (omega (arith, a, b))
in_nodes v first (suc n) x from below = elim (eqb_tells first x) [
  | inl here ↦ inl (ap (TestNode v) here.1)
  | inr other ↦ inr (in_nodes v (suc first) n x (above first x from other.1) (beyond first n x below))
]
  where
    above : (a b : ℕ) → a ≤ b → (a ≡ b → ⊥) → suc a ≤ b
    above a b le apart = let less : a ≤ b = le in let differ : a ≡ b → ⊥ = apart in omega (arith, less, differ)

    beyond : (a c b : ℕ) → b < a + suc c → b < suc a + c
    beyond a c b under = let less : b < a + suc c = under in omega (arith, less)

named : (id : ℕ) (name : BlobName) → IsTestOf id name → ((v n : ℕ) → name ≡ TestNode v n → n < 64) → Has (test_names id) name
unfolding test_names
named id (TestMaster u) test worker = inl (ap TestMaster (sym test))
named id (TestNode u n) test worker = inr (subst (λ (x : ℕ). Has (nodes id 0 64) (TestNode x n)) (sym test) (in_nodes id 0 64 n (zero_le n) (from_zero n (worker u n refl))))
  where
    zero_le : (a : ℕ) → 0 ≤ a
    zero_le a = omega arith

    from_zero : (a : ℕ) → a < 64 → a < 0 + 64
    from_zero a h = let less : a < 64 = h in omega (arith, less)
named id name test worker = absurd test

own_named : (f : Formats) (w : World) (name : BlobName) (own : IsOwnTest f w name) → Has (test_names own.id) name
own_named f w name own = named own.id name own.test own.worker

module _ (id : ℕ) (name : BlobName) (had : Has (test_names id) name) where
  begin_key : Has (test_keys id) (BeginKey name)
  unfolding test_keys
  begin_key = Has-left (map BeginKey (test_names id)) (map CommitKey (test_names id) ++ (map ReadKey (test_names id) ++ map RemovalKey (test_names id))) (BeginKey name) (Has-map BeginKey (test_names id) name had)

  commit_key : Has (test_keys id) (CommitKey name)
  unfolding test_keys
  commit_key =
      Has-right (map BeginKey (test_names id)) (map CommitKey (test_names id) ++ (map ReadKey (test_names id) ++ map RemovalKey (test_names id))) (CommitKey name)
      (Has-left (map CommitKey (test_names id)) (map ReadKey (test_names id) ++ map RemovalKey (test_names id)) (CommitKey name) (Has-map CommitKey (test_names id) name had))

  read_key : Has (test_keys id) (ReadKey name)
  unfolding test_keys
  read_key =
      Has-right (map BeginKey (test_names id)) (map CommitKey (test_names id) ++ (map ReadKey (test_names id) ++ map RemovalKey (test_names id))) (ReadKey name)
      (Has-right (map CommitKey (test_names id)) (map ReadKey (test_names id) ++ map RemovalKey (test_names id)) (ReadKey name)
      (Has-left (map ReadKey (test_names id)) (map RemovalKey (test_names id)) (ReadKey name) (Has-map ReadKey (test_names id) name had)))

  removal_key : Has (test_keys id) (RemovalKey name)
  unfolding test_keys
  removal_key =
      Has-right (map BeginKey (test_names id)) (map CommitKey (test_names id) ++ (map ReadKey (test_names id) ++ map RemovalKey (test_names id))) (RemovalKey name)
      (Has-right (map CommitKey (test_names id)) (map ReadKey (test_names id) ++ map RemovalKey (test_names id)) (RemovalKey name)
      (Has-right (map ReadKey (test_names id)) (map RemovalKey (test_names id)) (RemovalKey name) (Has-map RemovalKey (test_names id) name had)))

-- no root reaches a test blob
unreached : (f : Formats) (has : BlobName → Bytes → Type 0) (root : RootData) (name : BlobName) → Reached f has root name → IsTest name → ⊥
unreached f has root name (reach.ReachPart i k g held e n h reads listed part) test = ⊎_elim
    (λ is. subst IsTest is test)
    (λ is. subst IsTest is.1 test)
    (in_parts i k e name part)
unreached f has root name other test = test

not_reached : (f : Formats) (w : World) (name : BlobName) → InReach f w name → IsTest name → ⊥
not_reached f w name (n, safe, which) test = ⊎_elim
    (λ (is : name ≡ Root n). subst IsTest is test)
    (λ (deep : (root : RootData) × Reads (At f w.blobs) (Root n) f.root root × Reached f (At f w.blobs) root name). unreached f (At f w.blobs) deep.0 name deep.2 test)
    which

-- ---- what a verification does once

abbrev blob_key : BlobName → List Key
blob_key (TestMaster v) = ReadKey (TestMaster v) ∷ []
blob_key (TestNode v n) = ReadKey (TestNode v n) ∷ []
blob_key name = []

abbrev test_key : Step → List Key
test_key (ReadStep (BeginTest name)) = BeginKey name ∷ []
test_key (ReadStep (CommitTest name)) = CommitKey name ∷ []
test_key (ReadStep (RemoveTests (name ∷ names))) = RemovalKey name ∷ []
test_key (ReadStep (ReadBlob name)) = blob_key name
test_key step = []

abbrev phase : List Entry → List Key
phase [] = []
phase (e ∷ entries) = test_key e.step ++ phase entries

-- what a step is that has the key
abbrev OfKey : Step → Key → Type 0
OfKey a (BeginKey name) = a ≡ ReadStep (BeginTest name)
OfKey a (CommitKey name) = a ≡ ReadStep (CommitTest name)
OfKey a (ReadKey name) = a ≡ ReadStep (ReadBlob name)
OfKey a (RemovalKey name) = (names : List BlobName) × (a ≡ ReadStep (RemoveTests (name ∷ names)))
OfKey a x = ⊥

of_blob : (name : BlobName) (x : Key) → Has (blob_key name) x → OfKey (ReadStep (ReadBlob name)) x
of_blob (TestMaster v) x (inl e) = subst (OfKey (ReadStep (ReadBlob (TestMaster v)))) e refl
of_blob (TestMaster v) x (inr h) = absurd h
of_blob (TestNode v n) x (inl e) = subst (OfKey (ReadStep (ReadBlob (TestNode v n)))) e refl
of_blob (TestNode v n) x (inr h) = absurd h
of_blob name x h = absurd h

of_step : (a : Step) (x : Key) → Has (test_key a) x → OfKey a x
of_step (ReadStep (BeginTest name)) x (inl e) = subst (OfKey (ReadStep (BeginTest name))) e refl
of_step (ReadStep (BeginTest name)) x (inr h) = absurd h
of_step (ReadStep (CommitTest name)) x (inl e) = subst (OfKey (ReadStep (CommitTest name))) e refl
of_step (ReadStep (CommitTest name)) x (inr h) = absurd h
of_step (ReadStep (RemoveTests (name ∷ names))) x (inl e) = subst (OfKey (ReadStep (RemoveTests (name ∷ names)))) e (names, refl)
of_step (ReadStep (RemoveTests (name ∷ names))) x (inr h) = absurd h
of_step (ReadStep (ReadBlob name)) x h = of_blob name x h
of_step a x h = absurd h

-- an entry of this key
of_phase : (entries : List Entry) (x : Key) → Has (phase entries) x → (e : Entry) × Has entries e × OfKey e.step x
of_phase [] x h = absurd h
of_phase (e ∷ entries) x h = ⊎_elim
    (λ (here : Has (test_key e.step) x). (e, inl refl, of_step e.step x here))
    (λ (there : Has (phase entries) x). let r = of_phase entries x there in (r.0, inr r.1, r.2))
    (Has-either (test_key e.step) (phase entries) x h)

-- a new step has a key of its own
fresh : (w : World) (step : Step) (x : Key) → IsNewStep w 0 step → ((a : Step) → OfKey a x → Repeats a step) → Has (phase (entries_by w.entries 0)) x → ⊥
fresh w step x new again h = let r = of_phase (entries_by w.entries 0) x h in new r.0 r.1 (again r.0.step r.2)

-- ---- a command is heard

module _ (f : Formats) (size : ℕ) (w : World) where
  pub ask_heard : (who : ℕ) (command : Asked) (reply : Reply) (image : Option Image) → Allows f size w who (AskStep command) reply image → is_heard reply ≡ true
  ask_heard who command reply image (allowed.Ruled c refusal im (allowed.Cleaning of d x recorded untaken there clean) same) = refl
  ask_heard who command reply image other = refl

-- ---- what holds of a world

record Testing (entries : List Entry) (c : Caller) : Type 0 where
  once : AreOnce (phase (entries_by entries 0))
  listed : (x : Key) → Has (phase (entries_by entries 0)) x → (id : ℕ) × (c.drawn ≡ Some id) × Has (test_keys id) x
  committed : (name : BlobName) → Has c.committed name → (id : ℕ) × (c.drawn ≡ Some id) × Has (test_names id) name

abbrev cap : Option ℕ → ℕ
cap None = 0
cap (Some id) = most_tests

abbrev used : List Entry → ℕ
used entries = length (phase (entries_by entries 0))

few_used : (entries : List Entry) (c : Caller) → Testing entries c → used entries ≤ cap c.drawn
few_used entries c h = by c.drawn refl
  where
    empty : (xs : List Key) → ((x : Key) → Has xs x → ⊥) → length xs ≤ 0
    empty [] none = let is : 0 ≤ 0 = omega arith in is
    empty (x ∷ xs) none = absurd (none x (inl refl))

    by : (drawn : Option ℕ) → c.drawn ≡ drawn → length (phase (entries_by entries 0)) ≤ cap drawn
    by None is = empty (phase (entries_by entries 0)) (λ x had. let r = h.listed x had in none-some r.0 (sym is ∙ r.1))
    by (Some id) is =
        subst (λ (n : ℕ). length (phase (entries_by entries 0)) ≤ n) (length_keys id)
        (few_once (phase (entries_by entries 0)) (test_keys id) h.once (λ x had. let r = h.listed x had in subst (λ (i : ℕ). Has (test_keys i) x) (same_Some r.0 id (sym r.1 ∙ is)) r.2))

-- its tests and what is left of its verification, before and after
abbrev Spends : ℕ → Step → List Entry → List Entry → Caller → Caller → Type 0
Spends who step entries now c d = tests_by who step + (cap d.drawn + used entries) ≤ most_tests * draws_by who step + (cap c.drawn + used now)

-- where who 0 begins anew it has no entries
pub anew_entries : (entries : List Entry) (step : Step) (reply : Reply) → is_counted reply ≡ true → begins_anew 0 step ≡ true → entries_by (with_entry entries (record { who = 0; step = step; reply = reply })) 0 ≡ []
anew_entries entries step reply told anew =
    ap (λ (b : Bool). entries_by (if b then made ∷ entries else entries) 0) told
    ∙ elim (eqb_tells 0 0) [
      | inl same ↦ ap (λ (b : Bool). if b then (if begins_anew 0 step then [] else made ∷ entries_by entries 0) else entries_by entries 0) same.0 ∙ ap (λ (b : Bool). if b then [] else made ∷ entries_by entries 0) anew
      | inr other ↦ absurd (other.1 refl)
    ]
  where
    made : Entry
    made = record { who = 0; step = step; reply = reply }

-- ---- one step of who 0

module _ (f : Formats) (size : ℕ) (steps : StepLaws f size) (w : World) (reads : ReadTracked w) (h : Testing w.entries w.caller) where
  abbrev made_entry : Step → Reply → Entry
  made_entry step reply = record { who = 0; step = step; reply = reply }

  abbrev now : Step → Reply → List Entry
  now step reply = with_entry w.entries (made_entry step reply)

  record Next (step : Step) (reply : Reply) (d : Caller) : Type 0 where
    testing : Testing (now step reply) d
    spends : Spends 0 step w.entries (now step reply) w.caller d

  own_phase : (step : Step) (reply : Reply) → is_counted reply ≡ true → begins_anew 0 step ≡ false → phase (entries_by (now step reply) 0) ≡ test_key step ++ phase (entries_by w.entries 0)
  own_phase step reply told old = ap phase (steps.own w.entries (made_entry step reply) told old)

  anew_phase : (step : Step) (reply : Reply) → is_counted reply ≡ true → begins_anew 0 step ≡ true → phase (entries_by (now step reply) 0) ≡ []
  anew_phase step reply told anew = ap phase (anew_entries w.entries step reply told anew)

  -- neither drawn nor tested
  aside : (step : Step) (reply : Reply) (d : Caller) → is_counted reply ≡ true → begins_anew 0 step ≡ false → test_key step ≡ [] → tests_by 0 step ≡ 0 → d.drawn ≡ w.caller.drawn → d.committed ≡ w.caller.committed
      → Next step reply d
  aside step reply d told old bare none drawn committed =
      let same : phase (entries_by (now step reply) 0) ≡ phase (entries_by w.entries 0) = own_phase step reply told old ∙ ap (λ (l : List Key). l ++ phase (entries_by w.entries 0)) bare in
      record {
        testing = record {
          once = subst AreOnce (sym same) h.once;
          listed = λ x had. let r = h.listed x (subst (λ (l : List Key). Has l x) same had) in (r.0, drawn ∙ r.1, r.2);
          committed = λ name had. let r = h.committed name (subst (λ (l : List BlobName). Has l name) committed had) in (r.0, drawn ∙ r.1, r.2);
        };
        spends = le (tests_by 0 step) (draws_by 0 step) (cap d.drawn) (cap w.caller.drawn) (used w.entries) (used (now step reply)) none (ap cap drawn) (ap length same);
      }
    where
      le : (t n c b u v : ℕ) → t ≡ 0 → c ≡ b → v ≡ u → t + (c + u) ≤ most_tests * n + (b + v)
      le t n c b u v p q r = let one : t ≡ 0 = p in let two : c ≡ b = q in let three : v ≡ u = r in omega (arith, one, two, three)

  anew : (step : Step) (reply : Reply) (d : Caller) → is_counted reply ≡ true → begins_anew 0 step ≡ true → tests_by 0 step ≡ 0 → d.drawn ≡ None → d.committed ≡ [] → Next step reply d
  anew step reply d told begins none drawn committed =
      let same : phase (entries_by (now step reply) 0) ≡ [] = anew_phase step reply told begins in
      record {
        testing = record {
          once = subst AreOnce (sym same) tt;
          listed = λ x had. absurd (subst (λ (l : List Key). Has l x) same had);
          committed = λ name had. absurd (subst (λ (l : List BlobName). Has l name) committed had);
        };
        spends = le (tests_by 0 step) (draws_by 0 step) (cap d.drawn) (cap w.caller.drawn) (used w.entries) (used (now step reply)) none (ap cap drawn) (few_used w.entries w.caller h);
      }
    where
      le : (t n c b u v : ℕ) → t ≡ 0 → c ≡ 0 → u ≤ b → t + (c + u) ≤ most_tests * n + (b + v)
      le t n c b u v p q r = let one : t ≡ 0 = p in let two : c ≡ 0 = q in let three : u ≤ b = r in omega (arith, one, two, three)

  draws : (reply : Reply) (id : ℕ) (d : Caller) → is_counted reply ≡ true → w.caller.drawn ≡ None → d.drawn ≡ Some id → d.committed ≡ w.caller.committed → Next (ReadStep DrawTest) reply d
  draws reply id d told undrawn drawn committed =
      let same : phase (entries_by (now (ReadStep DrawTest) reply) 0) ≡ phase (entries_by w.entries 0) = own_phase (ReadStep DrawTest) reply told refl in
      record {
        testing = record {
          once = subst AreOnce (sym same) h.once;
          listed = λ x had. let r = h.listed x (subst (λ (l : List Key). Has l x) same had) in absurd (none-some r.0 (sym undrawn ∙ r.1));
          committed = λ name had. let r = h.committed name (subst (λ (l : List BlobName). Has l name) committed had) in absurd (none-some r.0 (sym undrawn ∙ r.1));
        };
        spends = le (cap d.drawn) (cap w.caller.drawn) (used w.entries) (used (now (ReadStep DrawTest) reply)) (ap cap drawn) (ap length same);
      }
    where
      le : (c b u v : ℕ) → c ≡ 260 → v ≡ u → 0 + (c + u) ≤ 260 * 1 + (b + v)
      le c b u v q r = let two : c ≡ 260 = q in let three : v ≡ u = r in omega (arith, two, three)

  tests : (step : Step) (reply : Reply) (d : Caller) (x : Key) (id : ℕ) → is_counted reply ≡ true → begins_anew 0 step ≡ false → test_key step ≡ x ∷ [] → tests_by 0 step ≡ 1 → (Has (phase (entries_by w.entries 0)) x → ⊥)
      → w.caller.drawn ≡ Some id → Has (test_keys id) x → d.drawn ≡ w.caller.drawn → ((name : BlobName) → Has d.committed name → Has w.caller.committed name ⊎ Has (test_names id) name) → Next step reply d
  tests step reply d x id told old key_is one new drew own drawn committed =
      let same : phase (entries_by (now step reply) 0) ≡ x ∷ phase (entries_by w.entries 0) = own_phase step reply told old ∙ ap (λ (l : List Key). l ++ phase (entries_by w.entries 0)) key_is in
      record {
        testing = record {
          once = subst AreOnce (sym same) (new, h.once);
          listed = λ y had. ⊎_elim
              (λ (here : x ≡ y). (id, drawn ∙ drew, subst (Has (test_keys id)) here own))
              (λ (there : Has (phase (entries_by w.entries 0)) y). let r = h.listed y there in (r.0, drawn ∙ r.1, r.2))
              (subst (λ (l : List Key). Has l y) same had);
          committed = λ name had. ⊎_elim
              (λ (before : Has w.caller.committed name). let r = h.committed name before in (r.0, drawn ∙ r.1, r.2))
              (λ (more : Has (test_names id) name). (id, drawn ∙ drew, more))
              (committed name had);
        };
        spends = le (tests_by 0 step) (draws_by 0 step) (cap d.drawn) (cap w.caller.drawn) (used w.entries) (used (now step reply)) one (ap cap drawn) (ap length same);
      }
    where
      le : (t n c b u v : ℕ) → t ≡ 1 → c ≡ b → v ≡ suc u → t + (c + u) ≤ most_tests * n + (b + v)
      le t n c b u v p q r = let one : t ≡ 1 = p in let two : c ≡ b = q in let three : v ≡ suc u = r in omega (arith, one, two, three)

  begins : (name : BlobName) (reply : Reply) → is_counted reply ≡ true → IsNewStep w 0 (ReadStep (BeginTest name)) → IsOwnTest f w name → Next (ReadStep (BeginTest name)) reply w.caller
  begins name reply told new own =
      tests (ReadStep (BeginTest name)) reply w.caller (BeginKey name) own.id told refl refl refl
      (fresh w (ReadStep (BeginTest name)) (BeginKey name) new (λ a is. subst (λ (s : Step). Repeats s (ReadStep (BeginTest name))) (sym is) refl)) own.drawn
      (begin_key own.id name (own_named f w name own)) refl (λ n had. inl had)

  commits : (name : BlobName) (reply : Reply) (d : Caller) → is_counted reply ≡ true → IsNewStep w 0 (ReadStep (CommitTest name)) → IsOwnTest f w name → d.drawn ≡ w.caller.drawn
      → (d.committed ≡ w.caller.committed) ⊎ (d.committed ≡ name ∷ w.caller.committed) → Next (ReadStep (CommitTest name)) reply d
  commits name reply d told new own drawn which =
      tests (ReadStep (CommitTest name)) reply d (CommitKey name) own.id told refl refl refl (fresh w (ReadStep (CommitTest name)) (CommitKey name) new (λ a is. subst (λ (s : Step). Repeats s (ReadStep (CommitTest name))) (sym is) refl)) own.drawn
      (commit_key own.id name (own_named f w name own)) drawn
      (λ n had. ⊎_elim
      (λ (same : d.committed ≡ w.caller.committed). inl (subst (λ (l : List BlobName). Has l n) same had))
      (λ (more : d.committed ≡ name ∷ w.caller.committed). ⊎_elim
      (λ (here : name ≡ n). inr (subst (Has (test_names own.id)) here (own_named f w name own)))
      (λ (there : Has w.caller.committed n). inl there)
      (subst (λ (l : List BlobName). Has l n) more had))
      which)

  removes : (names : List BlobName) (reply : Reply) (d : Caller) → is_counted reply ≡ true → IsNewStep w 0 (ReadStep (RemoveTests names)) → MayRemoveTests w names → d.drawn ≡ w.caller.drawn → d.committed ≡ w.caller.committed
      → Next (ReadStep (RemoveTests names)) reply d
  removes [] reply d told new may drawn committed = aside (ReadStep (RemoveTests [])) reply d told refl refl refl drawn committed
  removes (name ∷ names) reply d told new may drawn committed =
      let own = h.committed name (may.committed name (inl refl)) in
      tests (ReadStep (RemoveTests (name ∷ names))) reply d (RemovalKey name) own.0 told refl refl refl
      (fresh w (ReadStep (RemoveTests (name ∷ names))) (RemovalKey name) new (λ a was. subst (λ (s : Step). Repeats s (ReadStep (RemoveTests (name ∷ names)))) (sym was.1) (name, inl refl, inl refl))) own.1 (removal_key own.0 name own.2) drawn
      (λ n had. inl (subst (λ (l : List BlobName). Has l n) committed had))

  -- a test blob that is fetched was committed
  fetched_test : (name : BlobName) (reply : Reply) (d : Caller) → is_counted reply ≡ true → IsNewStep w 0 (ReadStep (ReadBlob name)) → Has w.caller.committed name → blob_key name ≡ ReadKey name ∷ [] → tests_at name ≡ 1
      → d.drawn ≡ w.caller.drawn → d.committed ≡ w.caller.committed → Next (ReadStep (ReadBlob name)) reply d
  fetched_test name reply d told new had key_is one drawn committed =
      let own = h.committed name had in
      tests (ReadStep (ReadBlob name)) reply d (ReadKey name) own.0 told refl key_is one
      (fresh w (ReadStep (ReadBlob name)) (ReadKey name) new (λ a is. subst (λ (s : Step). Repeats s (ReadStep (ReadBlob name))) (sym is) refl)) own.1 (read_key own.0 name own.2) drawn
      (λ n also. inl (subst (λ (l : List BlobName). Has l n) committed also))

  fetched : (name : BlobName) (reply : Reply) (d : Caller) → is_counted reply ≡ true → IsNewStep w 0 (ReadStep (ReadBlob name)) → (IsTest name → Has w.caller.committed name) → d.drawn ≡ w.caller.drawn
      → d.committed ≡ w.caller.committed → Next (ReadStep (ReadBlob name)) reply d
  fetched (TestMaster v) reply d told new had drawn committed = fetched_test (TestMaster v) reply d told new (had tt) refl refl drawn committed
  fetched (TestNode v n) reply d told new had drawn committed = fetched_test (TestNode v n) reply d told new (had tt) refl refl drawn committed
  fetched name reply d told new had drawn committed = aside (ReadStep (ReadBlob name)) reply d told refl refl refl drawn committed

  told_drawn : (c : Caller) (name : BlobName) (b : Option Bytes) → (caller_told c name b).drawn ≡ c.drawn
  told_drawn c name None = refl
  told_drawn c name (Some bytes) = refl

  told_committed : (c : Caller) (name : BlobName) (b : Option Bytes) → (caller_told c name b).committed ≡ c.committed
  told_committed c name None = refl
  told_committed c name (Some bytes) = refl

  wrote_drawn : (c : Caller) (name : BlobName) (b : Option Bytes) → (caller_wrote c name b).drawn ≡ c.drawn
  wrote_drawn c name None = refl
  wrote_drawn c name (Some bytes) = refl

  wrote_committed : (c : Caller) (name : BlobName) (b : Option Bytes) → (caller_wrote c name b).committed ≡ name ∷ c.committed
  wrote_committed c name None = refl
  wrote_committed c name (Some bytes) = refl

  by_verify : (read : Read) (reply : Reply) (image : Option Image) → VerifyAllows f w read reply image → IsNewStep w 0 (ReadStep read) → Next (ReadStep read) reply (caller_read f w.caller read reply image)
  by_verify read reply image (allowed.DrawingTest im may fits same) new = draws reply w.next_id (caller_read f w.caller read reply image) refl may.undrawn refl refl
  by_verify read reply image (allowed.TestSpent im may spent same) new = aside (ReadStep DrawTest) reply (caller_read f w.caller read reply image) refl refl refl refl refl refl
  by_verify read reply image (allowed.BeginningTest name im own same) new = begins name reply refl new own
  by_verify read reply image (allowed.BeginTestFails name im own same) new = begins name reply refl new own
  by_verify read reply image (allowed.CommittingTest name bytes im own free adds) new =
      commits name reply (caller_wrote w.caller name (told_blob f im name)) refl new own (wrote_drawn w.caller name (told_blob f im name)) (inr (wrote_committed w.caller name (told_blob f im name)))
  by_verify read reply image (allowed.TestTaken name im own there) new = commits name reply w.caller refl new own refl (inl refl)
  by_verify read reply image (allowed.CommitTestFails name bytes im own leaves) new = commits name reply w.caller refl new own refl (inl refl)
  by_verify read reply image (allowed.RemovingTests names im may left) new = removes names reply (caller_read f w.caller read reply image) refl new may refl refl
  by_verify read reply image (allowed.RemoveTestsFails names im may left) new = removes names reply w.caller refl new may refl refl
  by_verify read reply image (allowed.VerifyingAll im v same) new = anew (ReadStep VerifiedAll) reply no_caller refl refl refl refl refl
  by_verify read reply image (allowed.VerifyFailing why im v same) new = anew (ReadStep (ReadFails why)) reply no_caller refl refl refl refl refl

  none_reads : (k : ℕ) (q : Reader) → k ≡ 0 → IsReading w k q → ⊥
  none_reads k q nobody reading = let some : 1 ≤ k = (reads.tracked.tickets k q reading.there).0 in let none : k ≡ 0 = nobody in omega (arith, some, none)

  by_fetcher : (k : ℕ) (name : BlobName) (image : Option Image) → k ≡ 0 → Tells image → Fetcher f w name image k → IsTest name → Has w.caller.committed name
  by_fetcher k name image nobody told (allowed.ByReader j q reading may) test = absurd (none_reads k q nobody reading)
  by_fetcher k name image nobody told (allowed.ByCheck may) test = absurd (not_reached f w name (told_is image told.0 (λ blobs. InReach f w name) told.1 may.reached) test)
  by_fetcher k name image nobody told (allowed.ByVerify may) test = may.committed

  by_read : (k : ℕ) (read : Read) (reply : Reply) (image : Option Image) → k ≡ 0 → Tells image → ReadAllows f w k read reply image → IsNewStep w 0 (ReadStep read) → Next (ReadStep read) reply (caller_read f w.caller read reply image)
  by_read k read reply image nobody told (allowed.ReadFound j name im stored by found) new =
      fetched name reply (caller_told w.caller name (told_blob f im name)) refl new (by_fetcher k name im nobody told by) (told_drawn w.caller name (told_blob f im name)) (told_committed w.caller name (told_blob f im name))
  by_read k read reply image nobody told (allowed.ReadMissing j name im stored by gone) new = fetched name reply (caller_read f w.caller read reply image) refl new (by_fetcher k name im nobody told by) refl refl
  by_read k read reply image nobody told (allowed.ReadFault j name im stored by) new = fetched name reply w.caller refl new (by_fetcher k name im nobody told by) refl refl
  by_read k read reply image nobody told (allowed.RestoringShard j files bytes im q reading done) new = absurd (none_reads k q nobody reading)
  by_read k read reply image nobody told (allowed.ReaderFailing j why im q reading) new = absurd (none_reads k q nobody reading)
  by_read k read reply image nobody told (allowed.CheckingAll snapshots blobs im c) new = anew (ReadStep (CheckedAll snapshots blobs)) reply no_caller refl refl refl refl refl
  by_read k read reply image nobody told (allowed.CheckFailing why im o) new = anew (ReadStep (ReadFails why)) reply no_caller refl refl refl refl refl

  read_next : (who : ℕ) (read : Read) (reply : Reply) (image : Option Image) → who ≡ 0 → Tells image → Allows f size w who (ReadStep read) reply image → IsNewStep w 0 (ReadStep read)
      → Next (ReadStep read) reply (caller_read f w.caller read reply image)
  read_next who read reply image nobody told (allowed.Verifying r rep im a) new = by_verify read reply image a new
  read_next who read reply image nobody told (allowed.Reading k r rep im a same) new = by_read who read reply image nobody told a new

  heard_next : (b : Bool) → b ≡ true → (if b then no_caller else w.caller) ≡ no_caller
  heard_next true is = refl
  heard_next false is = absurd cc

  look_heard : (who : ℕ) (reply : Reply) (image : Option Image) → Allows f size w who LookStep reply image → (is_heard reply ≡ true) × (is_counted reply ≡ true)
  look_heard who reply image (allowed.Looking im same) = (refl, refl)

  looked_next : (b : Bool) → b ≡ true → ((if b then record no_caller { looked = true } else w.caller).drawn ≡ None) × ((if b then record no_caller { looked = true } else w.caller).committed ≡ [])
  looked_next true is = (refl, refl)
  looked_next false is = absurd cc

  step_next : (step : Step) (reply : Reply) (image : Option Image) → is_counted reply ≡ true → Tells image → Allows f size w 0 step reply image → IsNewStep w 0 step → Next step reply (caller_after f w.caller 0 step reply image)
  step_next (AskStep command) reply image counts told a new =
      let none : caller_after f w.caller 0 (AskStep command) reply image ≡ no_caller = heard_next (is_heard reply) (ask_heard f size w 0 command reply image a) in
      anew (AskStep command) reply (caller_after f w.caller 0 (AskStep command) reply image) counts refl refl (ap (λ (c : Caller). c.drawn) none) (ap (λ (c : Caller). c.committed) none)
  step_next LookStep reply image counts told a new =
      let none = looked_next (is_heard reply) (look_heard 0 reply image a).0 in
      anew LookStep reply (caller_after f w.caller 0 LookStep reply image) counts refl refl none.0 none.1
  step_next (ReadStep read) reply image counts told a new = read_next 0 read reply image refl told a new
  step_next step reply image counts told a new = aside step reply w.caller counts refl refl refl refl refl

-- ---- over a history

module _ (f : Formats) (size : ℕ) (steps : StepLaws f size) (change : (w : World) (who : ℕ) (step : Step) (reply : Reply) (image : Option Image) → StepChange f w who step (answered f w who step reply image))
    (others : (w : World) (m : Moment) → Allowed f size w m → m.entry.who ≢ 0 → (after f w m).caller ≡ w.caller) where
  record After (w : World) (m : Moment) : Type 0 where
    testing : Testing (after f w m).entries (after f w m).caller
    spends : Spends m.entry.who m.entry.step w.entries (after f w m).entries w.caller (after f w m).caller

  one_after : (w : World) (m : Moment) → ReadTracked w → Allowed f size w m → (IsUnheard m.entry.reply → ⊥) → Tells m.image → Testing w.entries w.caller → After w m
  one_after w m reads a heard told h = by m.entry.who refl
    where
      same_le : (c u v : ℕ) → v ≡ u → 0 + (c + u) ≤ most_tests * 0 + (c + v)
      same_le c u v p = let is : v ≡ u = p in omega (arith, is)

      kept : (k : ℕ) → m.entry.who ≡ suc k → (after f w m).caller ≡ w.caller → entries_by (after f w m).entries 0 ≡ entries_by w.entries 0 → After w m
      kept k is same entries = record {
        testing = record {
          once = subst (λ (es : List Entry). AreOnce (phase es)) (sym entries) h.once;
          listed = λ x had. let r = h.listed x (subst (λ (es : List Entry). Has (phase es) x) entries had) in (r.0, ap (λ (c : Caller). c.drawn) same ∙ r.1, r.2);
          committed = λ name had. let r = h.committed name (subst (λ (c : Caller). Has c.committed name) same had) in (r.0, ap (λ (c : Caller). c.drawn) same ∙ r.1, r.2);
        };
        spends =
            subst (λ (who : ℕ). Spends who m.entry.step w.entries (after f w m).entries w.caller (after f w m).caller) (sym is)
            (subst (λ (c : Caller). Spends (suc k) m.entry.step w.entries (after f w m).entries w.caller c) (sym same)
            (same_le (cap w.caller.drawn) (used w.entries) (used (after f w m).entries) (ap (λ (es : List Entry). length (phase es)) entries)));
      }

      own : m.entry.who ≡ 0 → After w m
      own nobody =
          let next = step_next f size steps w reads h m.entry.step m.entry.reply m.image (counted m.entry.reply heard) told
          (subst (λ (who : ℕ). Allows f size w who m.entry.step m.entry.reply m.image) nobody (looked_at f size steps w m a heard).1) (subst (λ (who : ℕ). IsNewStep w who m.entry.step) nobody (a.once (looked_at f size steps w m a heard).0)) in
          let entry_is : m.entry ≡ record { who = 0; step = m.entry.step; reply = m.entry.reply } = ap (λ (who : ℕ). record { who = who; step = m.entry.step; reply = m.entry.reply }) nobody in
          let caller_is : (after f w m).caller ≡ caller_after f w.caller 0 m.entry.step m.entry.reply m.image =
          ap (λ (c : Caller). caller_after f c m.entry.who m.entry.step m.entry.reply m.image)
          (change_caller f w m.entry.who m.entry.step (answered f w m.entry.who m.entry.step m.entry.reply m.image) (change w m.entry.who m.entry.step m.entry.reply m.image))
          ∙ ap (λ (who : ℕ). caller_after f w.caller who m.entry.step m.entry.reply m.image) nobody in
          let entries_is : (after f w m).entries ≡ with_entry w.entries (record { who = 0; step = m.entry.step; reply = m.entry.reply }) = ap (with_entry w.entries) entry_is in
          record {
            testing = subst (λ (es : List Entry). Testing es (after f w m).caller) (sym entries_is) (subst (Testing (with_entry w.entries (record { who = 0; step = m.entry.step; reply = m.entry.reply }))) (sym caller_is) next.testing);
            spends =
                subst (λ (who : ℕ). Spends who m.entry.step w.entries (after f w m).entries w.caller (after f w m).caller) (sym nobody)
                (subst (λ (es : List Entry). Spends 0 m.entry.step w.entries es w.caller (after f w m).caller) (sym entries_is)
                (subst (λ (c : Caller). Spends 0 m.entry.step w.entries (with_entry w.entries (record { who = 0; step = m.entry.step; reply = m.entry.reply })) w.caller c) (sym caller_is) next.spends));
          }

      by : (who : ℕ) → m.entry.who ≡ who → After w m
      by zero is = own is
      by (suc k) is =
          kept k is (others w m a (λ nobody. let clash : suc k ≡ 0 = sym is ∙ nobody in absurd (omega (arith, clash)))) (steps.others w.entries m.entry 0 (λ nobody. let clash : 0 ≡ suc k = nobody ∙ is in absurd (omega (arith, clash))))

  record Until (w : World) (log : List Moment) : Type 0 where
    testing : Testing (world_from f w log).entries (world_from f w log).caller
    spends : tests_in log + (cap (world_from f w log).caller.drawn + used w.entries) ≤ most_tests * draws_in log + (cap w.caller.drawn + used (world_from f w log).entries)

  log_after : (w : World) (log : List Moment) → Tracked w → ReadTracked w → IsLegal f size w log → AreHeard log → AreTold log → Testing w.entries w.caller → Until w log
  log_after w [] tracked reads legal heard told h = record { testing = h; spends = same (cap w.caller.drawn) (used w.entries) }
    where
      same : (c u : ℕ) → 0 + (c + u) ≤ most_tests * 0 + (c + u)
      same c u = omega arith
  log_after w (m ∷ log) tracked reads legal heard told h =
      let first = one_after w m reads legal.0 (heard m (inl refl)) told.0 h in
      let rest = log_after (after f w m) log (steps.tracks w m tracked legal.0) (steps.reads w m tracked reads legal.0) legal.1 (λ n had. heard n (inr had)) told.1 first.testing in
      record {
        testing = rest.testing;
        spends =
            both (tests_by m.entry.who m.entry.step) (tests_in log) (draws_by m.entry.who m.entry.step) (draws_in log) (cap w.caller.drawn) (cap (after f w m).caller.drawn) (cap (world_from f (after f w m) log).caller.drawn)
            (used w.entries) (used (after f w m).entries) (used (world_from f (after f w m) log).entries) first.spends rest.spends;
      }
    where
      both : (t ts d ds a b c u v x : ℕ) → t + (b + u) ≤ 260 * d + (a + v) → ts + (c + v) ≤ 260 * ds + (b + x) → (t + ts) + (c + u) ≤ 260 * (d + ds) + (a + x)
      both t ts d ds a b c u v x p q = let one : t + (b + u) ≤ 260 * d + (a + v) = p in let two : ts + (c + v) ≤ 260 * ds + (b + x) = q in omega (arith, one, two)

  pub tests_few : (w : World) (log : List Moment) → IsHeard f size w log → AreTold log → tests_in log ≤ most_tests * draws_in log
  tests_few w log h told =
      sum (tests_in log) (draws_in log) (cap w.caller.drawn) (cap (world_from f w log).caller.drawn) (used w.entries) (used (world_from f w log).entries) until.spends (few_used (world_from f w log).entries (world_from f w log).caller until.testing)
      (ap (λ (c : Caller). cap c.drawn) h.untouched.caller)
    where
      sum : (t d a c u v : ℕ) → t + (c + u) ≤ 260 * d + (a + v) → v ≤ c → a ≡ 0 → t ≤ 260 * d
      sum t d a c u v p q r = let one : t + (c + u) ≤ 260 * d + (a + v) = p in let two : v ≤ c = q in let three : a ≡ 0 = r in omega (arith, one, two, three)

      untested : Testing w.entries w.caller
      untested =
          subst (λ (es : List Entry). Testing es w.caller) (sym h.untouched.entries)
          (subst (Testing []) (sym h.untouched.caller) (record { once = tt; listed = λ x had. absurd had; committed = λ name had. absurd had }))

      until : Until w log
      until = log_after w log h.tracked h.readers h.legal h.heard told untested
