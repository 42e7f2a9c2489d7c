-- Calls of a container in memory, by what they do to the lists of what it has had.
use Rattle.std.proofs.Common.{◌≡◌, ◌⊎◌, inl, inr, ⊎_elim, ℕ, ◌^◌, ◌-◌, ◌<◌, ◌≤◌, true, false, if◌then◌else◌, List, Option, Some, Result, Ok, Err, refl, sym, ◌∙◌, ap, subst, arith}
use Rattle.esr_depot.specs.Image.{Image}
use Rattle.esr_depot.specs.Look.{now}
use Rattle.esr_depot.specs.Calls.{Change, SameImage, Passed, Stays, Called, up, is_wanting, has_failed}
use Rattle.esr_depot.specs.Moments.{called_ok, called_failed}
use Rattle.esr_depot.specs.declared.error.CallError.{CallError}
use Rattle.esr_depot.specs.declared.error.CallError.TheVariants.{Failed}
use Rattle.esr_memdepot.specs.Past.{image_now, image_at, image_left, LeftSince, all_dated}
use Rattle.esr_memdepot.specs.MemDepot.{look_of, left_by, next_turn, Went}
use Rattle.esr_memdepot.specs.Meter.{not_served, counted_before}
use Rattle.esr_memdepot.specs.Plan.{is_new}
use Rattle.esr_memdepot.specs.declared.meter.Meter.{Meter}
use Rattle.esr_memdepot.specs.declared.plan.Call.{Call}
use Rattle.esr_memdepot.specs.declared.meter.Turn.TheVariants.{Fails}
use Rattle.esr_memdepot.specs.declared.meter.Turn.{Turn}
use Rattle.esr_memdepot.specs.declared.blob.KeptBlob.{KeptBlob}
use Rattle.esr_memdepot.specs.declared.text.KeptText.{KeptText}
use Rattle.esr_memdepot.specs.declared.plan.Leaves.{Leaves}
use Rattle.esr_memdepot.specs.declared.plan.Leaves.TheVariants.{Old}
use Rattle.esr_memdepot.proofs.Dates.{Earlier, earlier, image_as_now, all_later}

module _ (t u s s' : ℕ) (ks ls : List KeptBlob) (xs ys : List KeptText) where
  -- want of memory changes nothing
  pub rests : u ≡ t → s' ≡ s → ls ≡ ks → ys ≡ xs → Stays (look_of t s ks xs) (look_of u s' ls ys)
  rests same sure blobs texts = record {
    clock = same;
    at = λ k j. Some (image_at k (blobs j) (texts j));
    since = λ q i left. subst (λ (n : ℕ). LeftSince n ks xs q i) same (subst (λ (l : List KeptBlob). LeftSince u l xs q i) blobs (subst (λ (l : List KeptText). LeftSince u ls l q i) texts left));
    sure = sure;
  }

  -- a call at the clock's last value changes nothing
  still_same : t ≡ 2 ^ 64 - 1 → u ≡ up t → ls ≡ ks → ys ≡ xs → now (look_of u s' ls ys) ≡ now (look_of t s ks xs)
  still_same end same blobs texts = let still : u ≡ t = omega arith in λ j. Some (image_at (still j) (blobs j) (texts j))

  -- a change of what is there now is one of what is shown
  pub changes : (C : Change) → all_dated t ks xs ≡ true → all_dated u ls ys ≡ true → C (Some (image_now ks xs)) (Some (image_now ls ys)) → C (now (look_of t s ks xs)) (now (look_of u s' ls ys))
  changes C old new is =
      subst (λ (i : Image). C (Some i) (Some (image_at u ls ys))) (sym (image_as_now t ks xs Old old))
      (subst (λ (i : Image). C (Some (image_now ks xs)) (Some i)) (sym (image_as_now u ls ys Old new)) is)

  module _ (may : Change) where
    stands_still : t ≡ 2 ^ 64 - 1 → u ≡ up t → ls ≡ ks → ys ≡ xs → Passed (look_of t s ks xs) (look_of u s' ls ys) may
    stands_still end same blobs texts =
        let still : u ≡ t = omega arith in record {
          ticked = same;
          later = omega arith;
          past = λ k le j. Some (image_at k (blobs j) (texts j));
          since = λ q i le left. inl (subst (λ (n : ℕ). LeftSince n ks xs q i) still (subst (λ (l : List KeptBlob). LeftSince u l xs q i) blobs (subst (λ (l : List KeptText). LeftSince u ls l q i) texts left)));
        }

    -- a call that leaves what was before it, and in it and after it what it may leave
    pub passes : t < 2 ^ 64 - 1 → u ≡ up t → all_dated t ks xs ≡ true → all_dated u ls ys ≡ true
        → ((r : ℕ) (how : Leaves) → Earlier r how t → image_left r how ls ys ≡ image_left r how ks xs)
        → may (Some (image_now ks xs)) (Some (image_now ls ys))
        → ((how : Leaves) → may (Some (image_now ks xs)) (Some (image_left t how ls ys)))
        → Passed (look_of t s ks xs) (look_of u s' ls ys) may
    passes below same old new past after within = record {
      ticked = same;
      later = omega arith;
      past = λ k le. ap Some (past k Old le);
      since = λ q i le left. ⊎_elim (λ is. inr (subst (λ (j : Image). may (now (look_of t s ks xs)) (Some j)) is (changes may old new after))) (λ m. made q i m) left;
    }
      where
        made : (q : ℕ) (i : Image) → ((r : ℕ) × (q ≤ r) × (r < u) × ((how : Leaves) × (i ≡ image_left r how ls ys)))
            → LeftSince t ks xs q i ⊎ may (now (look_of t s ks xs)) (Some i)
        made q i m = elim (by_call m.0 m.2) [
          | inl lt ↦ inl (inr (m.0, m.1, lt, (m.3.0, m.3.1 ∙ past m.0 m.3.0 (earlier m.0 t m.3.0 lt))))
          | inr is ↦ inr (subst (λ (j : Image). may (Some j) (Some i)) (sym (image_as_now t ks xs Old old))
              (subst (λ (j : Image). may (Some (image_now ks xs)) (Some j)) (sym m.3.1)
              (subst (λ (r : ℕ). may (Some (image_now ks xs)) (Some (image_left r m.3.0 ls ys))) (sym is) (within m.3.0))))
        ]
          where
            by_call : (r : ℕ) → r < u → (r < t) ⊎ (r ≡ t)
            by_call r lt = grind arith

-- a call that fails at the clock's last value
pub over : {T : Type 0} (t u s s' : ℕ) (ks ls : List KeptBlob) (xs ys : List KeptText) (ok : T → Change) (may : Change) → ((o : Option Image) → may o o)
    → t ≡ 2 ^ 64 - 1 → u ≡ up t → ls ≡ ks → ys ≡ xs → Called (look_of t s ks xs) (look_of u s' ls ys) ok may (Err Failed)
over t u s s' ks ls xs ys ok may stay end same blobs texts = called_failed _ _ ok may (stands_still t u s s' ks ls xs ys may end same blobs texts)
    (subst (λ (o : Option Image). may (now (look_of t s ks xs)) o) (sym (still_same t u s s' ks ls xs ys end same blobs texts)) (stay (now (look_of t s ks xs))))

-- a call that only looks
module _ (t u s s' : ℕ) (ks : List KeptBlob) (xs : List KeptText) (below : t < 2 ^ 64 - 1) (same : u ≡ up t) (all : all_dated t ks xs ≡ true) where
  later : all_dated u ks xs ≡ true
  later = all_later t u ks xs (omega arith) all

  looks : Passed (look_of t s ks xs) (look_of u s' ks xs) SameImage
  looks = passes t u s s' ks ks xs xs SameImage below same all later (λ r how e. refl) refl (λ how. ap Some (image_as_now t ks xs how all))

  looked : now (look_of u s' ks xs) ≡ now (look_of t s ks xs)
  looked = changes t u s s' ks ks xs xs SameImage all later refl

  pub looks_ok : {T : Type 0} (x : T) → Called (look_of t s ks xs) (look_of u s' ks xs) (λ _. SameImage) SameImage (Ok x)
  looks_ok x = called_ok _ _ (λ _. SameImage) SameImage x looks looked

  pub looks_failed : {T : Type 0} → Called {T = T} (look_of t s ks xs) (look_of u s' ks xs) (λ _. SameImage) SameImage (Err Failed)
  looks_failed = called_failed _ _ (λ _. SameImage) SameImage looks looked

-- what is left by a crash at a moment is left since then; from the clock on that is what is there now
pub left_then : (clock t : ℕ) (ks : List KeptBlob) (xs : List KeptText) (how : Leaves) (i : Image) → all_dated clock ks xs ≡ true → i ≡ image_left t how ks xs → LeftSince clock ks xs t i
left_then clock t ks xs how i all is = elim (before_or_not t clock) [
  | inl lt ↦ inr (t, omega arith, lt, (how, is))
  | inr le ↦ inl (image_as_now clock ks xs Old all ∙ sym (is ∙ image_as_now t ks xs how (all_later clock t ks xs le all)))
]
  where
    before_or_not : (m n : ℕ) → (m < n) ⊎ (n ≤ m)
    before_or_not m n = grind arith

-- ---- how a call goes by the plan

-- a call whose turn is known
pub went : {T : Type 0} (before after : Meter) (call : Call) (result : Result T CallError) (known : Turn) (E : Turn → Image) (now : Image)
    → next_turn before call ≡ known → is_wanting result ≡ false → has_failed result ≡ not_served known → now ≡ E known
    → after.counts ≡ counted_before before.clock call before.counts → after.plan ≡ before.plan → Went before after call result (E (next_turn before call)) now
went before after call result known E now is ample fails leaves counts plan = record {
  failed = λ _. fails ∙ ap not_served (sym is);
  left = λ _. leaves ∙ ap E (sym is);
  counted = λ _. counts;
  plan = plan;
  rests = λ wanting. absurd (cc (ample, wanting));
}

-- the same of another answer alike
pub went_as : {T U : Type 0} (before after : Meter) (call : Call) (result : Result T CallError) (result' : Result U CallError) (expected expected' now : Image)
    → Went before after call result expected now → is_wanting result' ≡ is_wanting result → has_failed result' ≡ has_failed result → expected' ≡ expected
    → Went before after call result' expected' now
went_as before after call result result' expected expected' now w wanting failed same = record {
  failed = λ ample. failed ∙ w.failed (sym wanting ∙ ample);
  left = λ ample. w.left (sym wanting ∙ ample) ∙ sym same;
  counted = λ ample. w.counted (sym wanting ∙ ample);
  plan = w.plan;
  rests = λ want. w.rests (sym wanting ∙ want);
}

-- a turn leaves an image that stays
pub left_by-same : (turn : Turn) (i : Image) → left_by turn i i ≡ i
left_by-same (Fails leaves) i = elim (is_new leaves) as (λ b. (if b then i else i) ≡ i) [ true ↦ refl | false ↦ refl ]
left_by-same turn i = refl
