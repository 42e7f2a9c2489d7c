-- What a container shows of the past, after one more entry.
use Rattle.std.proofs.Common.{◌≡◌, ◌⊎◌, ℕ, ◌-◌, ◌^◌, ◌≤◌, true, false, true≢false, List, [], ◌∷◌, ◌++◌, Option, Some, None, Err, option_map, refl, sym, ap, ◌∙◌, subst, inl, inr, arith}
use Rattle.esr_model.specs.Values.{Formats}
use Rattle.esr_model.specs.Image.{Image}
use Rattle.esr_core.specs.World.{World}
use Rattle.esr_core.specs.World as core
use Rattle.esr_core.specs.Entry.{Entry, Moment}
use Rattle.esr_core.specs.History.{world_from, AreTold}
use Rattle.esr_core.specs.Left.{Leaves}
use Rattle.esr_depot.specs.declared.error.CallError.{CallError}
use Rattle.esr_depot.specs.declared.error.CallError.TheVariants.{Memory}
use Rattle.esr_depot.specs.Image.{Image as Held}
use Rattle.esr_depot.specs.Look.{Look, now}
use Rattle.esr_depot.specs.Calls.{Change, Stays, Called}
use Rattle.esr_meta.specs.Info.{Info}
use Rattle.esr_desk.specs.Start.{Start, formats_of, world_of}
use Rattle.esr_desk.specs.Made.{world_more}
use Rattle.esr_repo.specs.Log.{image_of, image_at, calls, ticks, log_of}
use Rattle.esr_repo.specs.Repo.{Kept, TellsSo, IsRepo}
use Rattle.esr_repo.specs.Past.{IsPast}
use Rattle.esr_repo.specs.Whole.{IsWhole}
use Rattle.esr_repo.specs.Laws.{Laws}
use Rattle.esr_repo.specs.Begun.{IsBegun}
use Rattle.esr_repo.proofs.Logs.{Goes, goes_same, image_now, ticks_rise, ticks_within, ticks-both, log-both, log_same, log_goes, log_stays}
use Rattle.esr_repo.proofs.Beginning.{begun_repo}
use Rattle.esr_repo.proofs.BlobCalls.{Before, Made, wanting}

-- ---- a list that is cut in two

none_left : {A : Type 0} (front back : List A) → front ++ back ≡ [] → (front ≡ []) × (back ≡ [])
none_left [] back e = (refl, e)
none_left (x ∷ front) back e = absurd (never x (front ++ back) e)
  where
    never : {A : Type 0} (x : A) (xs : List A) → x ∷ xs ≡ [] → ⊥
    never x xs q = cc

tails : {A : Type 0} (x y : A) (xs ys : List A) → x ∷ xs ≡ y ∷ ys → (x ≡ y) × (xs ≡ ys)
tails x y xs ys e = (cc, cc)

-- a list with one more entry is cut behind that entry, or before it
abbrev pub IsCut : List Entry → Entry → List Entry → List Entry → Type 0
IsCut es e front back = ((front ≡ es ++ e ∷ []) × (back ≡ [])) ⊎ ((rest : List Entry) × (es ≡ front ++ rest) × (back ≡ rest ++ e ∷ []))

cut_longer : (y x : Entry) (es : List Entry) (e : Entry) (front back : List Entry) → y ≡ x → IsCut es e front back → IsCut (y ∷ es) e (x ∷ front) back
cut_longer y x es e front back same (inl end) = inl (ap (λ (z : Entry). z ∷ front) (sym same) ∙ ap (λ (l : List Entry). y ∷ l) end.0, end.1)
cut_longer y x es e front back same (inr c) = inr (c.0, ap (λ (l : List Entry). y ∷ l) c.1 ∙ ap (λ (z : Entry). z ∷ (front ++ c.0)) same, c.2)

pub cut_is : (es : List Entry) (e : Entry) (front back : List Entry) → es ++ e ∷ [] ≡ front ++ back → IsCut es e front back
cut_is es e [] back q = inr (es, refl, sym q)
cut_is [] e (x ∷ front) back q =
    let t = tails e x [] (front ++ back) q in
    let none = none_left front back (sym t.1) in
    inl (ap (λ (l : List Entry). x ∷ l) none.0 ∙ ap (λ (z : Entry). z ∷ []) (sym t.0), none.1)
cut_is (y ∷ es) e (x ∷ front) back q =
    let t = tails y x (es ++ e ∷ []) (front ++ back) q in
    cut_longer y x es e front back t.0 (cut_is es e front back t.1)

-- ---- images that are told

told_more : (log : List Moment) (m : Moment) → AreTold log → ((image : Image) × (m.image ≡ Some image)) → AreTold (log ++ m ∷ [])
told_more [] m told last = (last, tt)
told_more (x ∷ log) m told last = (told.0, told_more log m told.1 last)

tells_now : (l : Look) (s : Start) → TellsSo l s.tells → s.tells ≡ true → (image : Image) × (image_now l ≡ Some image)
tells_now l s tells told = go (now l) refl
  where
    go : (o : Option Held) → now l ≡ o → (image : Image) × (option_map image_of o ≡ Some image)
    go None e = absurd (true≢false (sym told ∙ tells.untold e))
    go (Some i) e = (image_of i, refl)

-- ---- one more entry

-- since now there is no image but that of now
abbrev pub IsOnlyNow : Look → Type 0
IsOnlyNow l = (i : Held) → l.since l.clock i → now l ≡ Some i

module _ (laws : Laws) (old new : Look) (s : Start) (clock : ℕ) (past : ℕ → Held → Type 0) (es es' : List Entry) (k k' : Kept) (d d' : Option ℕ) (e : Entry)
    (r : IsRepo old s clock es k d) (p : IsPast s clock past old es) (goes : Goes old new e) (more : es' ≡ es ++ e ∷ []) (r' : IsRepo new s clock es' k' d') (only : IsOnlyNow new)
    (left : (t : ℕ) (i : Held) → t ≤ old.clock → new.since t i → old.since t i ⊎ Leaves (formats_of s) s.part_size (world_of s (log_of old clock es)) (record { entry = e; image = image_now new } ∷ []) (image_of i)) where
  abbrev f : Formats
  f = formats_of s

  abbrev seen : List Moment
  seen = log_of old clock es

  abbrev last : Moment
  last = record { entry = e; image = image_now new }

  grown : log_of new clock es' ≡ seen ++ last ∷ []
  grown = ap (log_of new clock) more ∙ log_goes old new clock es e r.bounded r.clock_is goes

  told_then : s.tells ≡ true → AreTold (log_of new clock es')
  told_then told = subst AreTold (sym grown) (told_more seen last (p.told told) (tells_now new s r'.tells told))

  -- since a moment up to the start
  before_then : (t : ℕ) (i : Held) → t ≤ clock → new.since t i → past t i ⊎ Leaves f s.part_size s.world (log_of new clock es') (image_of i)
  before_then t i le since = by (left t i within since)
    where
      within : t ≤ old.clock
      within = let rise = ticks_rise clock es r.bounded in omega (arith, le, rise, r.clock_is)

      over : Leaves f s.part_size s.world (seen ++ last ∷ []) (image_of i) → Leaves f s.part_size s.world (log_of new clock es') (image_of i)
      over h = subst (λ (log : List Moment). Leaves f s.part_size s.world log (image_of i)) (sym grown) h

      by : old.since t i ⊎ Leaves f s.part_size (world_of s seen) (last ∷ []) (image_of i) → past t i ⊎ Leaves f s.part_size s.world (log_of new clock es') (image_of i)
      by (inl was) = elim (p.before t i le was) [ inl earlier ↦ inl earlier | inr h ↦ inr (over (laws.longer f s.part_size s.world seen (last ∷ []) (image_of i) h)) ]
      by (inr cut) = inr (over (laws.later f s.part_size s.world seen (last ∷ []) (image_of i) cut))

  -- since the entry, which is the last one
  since_last : (front back : List Entry) (i : Held) → front ≡ es' → back ≡ [] → new.since (ticks clock front) i
      → Leaves f s.part_size (world_of s (log_of new clock front)) (log_of new (ticks clock front) back) (image_of i)
  since_last front back i whole none since =
      let here : new.since new.clock i = subst (λ t. new.since t i) (ap (ticks clock) whole ∙ sym r'.clock_is) since in
      subst (λ (b : List Entry). Leaves f s.part_size (world_of s (log_of new clock front)) (log_of new (ticks clock front) b) (image_of i)) (sym none)
      (subst (λ (fr : List Entry). image_of i ≡ core.image_of f (world_of s (log_of new clock fr))) (sym whole) (r'.steady.image i (only i here)))

  -- since an entry before it
  since_earlier : (front rest back : List Entry) (i : Held) → es ≡ front ++ rest → back ≡ rest ++ e ∷ [] → new.since (ticks clock front) i
      → Leaves f s.part_size (world_of s (log_of new clock front)) (log_of new (ticks clock front) back) (image_of i)
  since_earlier front rest back i whole rest_is since =
      subst (λ (log : List Moment). Leaves f s.part_size (world_of s log) (log_of new (ticks clock front) back) (image_of i)) (sym front_same)
      (subst (λ (log : List Moment). Leaves f s.part_size (world_of s (log_of old clock front)) log (image_of i)) (sym back_log) (by (left (ticks clock front) i within since)))
    where
      bounded : ticks clock front ≤ 2 ^ 64 - 1
      bounded = ticks_within clock front r.bounded

      clock_is : old.clock ≡ ticks (ticks clock front) rest
      clock_is = r.clock_is ∙ ap (ticks clock) whole ∙ ticks-both clock front rest

      within : ticks clock front ≤ old.clock
      within = subst (λ n. ticks clock front ≤ n) (sym clock_is) (ticks_rise (ticks clock front) rest bounded)

      before_now : (n : ℕ) → n ≤ ticks clock front → n ≤ old.clock
      before_now n h = omega (arith, h, within)

      front_same : log_of new clock front ≡ log_of old clock front
      front_same = log_same (image_at old) (image_at new) clock front r.bounded (λ n h. ap (option_map image_of) (goes.past n (before_now n h)))

      back_log : log_of new (ticks clock front) back ≡ log_of old (ticks clock front) rest ++ last ∷ []
      back_log = ap (log_of new (ticks clock front)) rest_is ∙ log_goes old new (ticks clock front) rest e bounded clock_is goes

      world_is : world_of s seen ≡ world_from f (world_of s (log_of old clock front)) (log_of old (ticks clock front) rest)
      world_is =
          ap (λ (l : List Entry). world_of s (log_of old clock l)) whole
          ∙ ap (world_of s) (log-both (image_at old) clock front rest)
          ∙ world_more f s.world (log_of old clock front) (log_of old (ticks clock front) rest)

      by : old.since (ticks clock front) i ⊎ Leaves f s.part_size (world_of s seen) (last ∷ []) (image_of i)
          → Leaves f s.part_size (world_of s (log_of old clock front)) (log_of old (ticks clock front) rest ++ last ∷ []) (image_of i)
      by (inl was) = laws.longer f s.part_size (world_of s (log_of old clock front)) (log_of old (ticks clock front) rest) (last ∷ []) (image_of i) (p.since front rest i whole was)
      by (inr cut) =
          laws.later f s.part_size (world_of s (log_of old clock front)) (log_of old (ticks clock front) rest) (last ∷ []) (image_of i)
          (subst (λ (w : World). Leaves f s.part_size w (last ∷ []) (image_of i)) world_is cut)

  since_by : (front back : List Entry) (i : Held) → IsCut es e front back → new.since (ticks clock front) i
      → Leaves f s.part_size (world_of s (log_of new clock front)) (log_of new (ticks clock front) back) (image_of i)
  since_by front back i (inl end) since = since_last front back i (end.0 ∙ sym more) end.1 since
  since_by front back i (inr c) since = since_earlier front c.0 back i c.1 c.2 since

  pub past_goes : IsPast s clock past new es'
  past_goes = record { told = told_then; before = before_then; since = λ front back i split since. since_by front back i (cut_is es e front back (sym more ∙ split)) since }

-- an entry of a call
pub made_whole : {old new : Look} {s : Start} {clock : ℕ} {es es' : List Entry} {k k' : Kept} {d d' : Option ℕ} {seen : List Moment} {e : Entry} (b : Before old s clock es k d seen) (past : ℕ → Held → Type 0)
    → IsPast s clock past old es → IsOnlyNow new → Made old new s clock es es' k' d' seen e → IsWhole new s clock past es' k' d'
made_whole {old} {new} {s} {clock} {es} {es'} {k} {k'} {d} {d'} {seen} {e} b past p only m =
    record {
      repo = m.repo;
      past =
          past_goes b.laws old new s clock past es es' k k' d d' e b.repo p m.call.goes m.more m.repo only
          (λ t i le since. subst (λ (log : List Moment). old.since t i ⊎ Leaves (formats_of s) s.part_size (world_of s log) (record { entry = e; image = image_now new } ∷ []) (image_of i)) (sym b.view) (m.call.left t i le since));
    }

-- an entry without a call
pub noted_whole : {k k' : Kept} {d d' : Option ℕ} (laws : Laws) (l : Look) (s : Start) (clock : ℕ) (past : ℕ → Held → Type 0) (es mid es' : List Entry) (e : Entry)
    → IsWhole l s clock past es k d → IsOnlyNow l → calls e.step e.reply ≡ false → mid ≡ es → es' ≡ mid ++ e ∷ [] → IsRepo l s clock es' k' d' → IsWhole l s clock past es' k' d'
noted_whole {k} {k'} {d} {d'} laws l s clock past es mid es' e w only plain reserved pushed repo =
    record {
      repo = repo;
      past =
          past_goes laws l l s clock past es es' k k' d d' e w.repo w.past (goes_same l e plain) (pushed ∙ ap (λ (x : List Entry). x ++ e ∷ []) reserved) repo only
          (λ t i le since. inl since);
    }

-- ---- no entry

-- out of memory: nothing changed
past_stays : (old new : Look) (s : Start) (clock : ℕ) (past : ℕ → Held → Type 0) (es : List Entry) → clock ≤ 2 ^ 64 - 1 → IsPast s clock past old es → Stays old new → IsPast s clock past new es
past_stays old new s clock past es bounded p n = record { told = told_then; before = before_then; since = since_then }
  where
    same : log_of new clock es ≡ log_of old clock es
    same = log_stays old new clock es bounded n

    told_then : s.tells ≡ true → AreTold (log_of new clock es)
    told_then told = subst AreTold (sym same) (p.told told)

    before_then : (t : ℕ) (i : Held) → t ≤ clock → new.since t i → past t i ⊎ Leaves (formats_of s) s.part_size s.world (log_of new clock es) (image_of i)
    before_then t i le since = subst (λ (log : List Moment). past t i ⊎ Leaves (formats_of s) s.part_size s.world log (image_of i)) (sym same) (p.before t i le (n.since t i since))

    since_then : (front back : List Entry) (i : Held) → es ≡ front ++ back → new.since (ticks clock front) i
        → Leaves (formats_of s) s.part_size (world_of s (log_of new clock front)) (log_of new (ticks clock front) back) (image_of i)
    since_then front back i split since =
        subst (λ (log : List Moment). Leaves (formats_of s) s.part_size (world_of s log) (log_of new (ticks clock front) back) (image_of i)) (sym (log_stays old new clock front bounded n))
        (subst (λ (log : List Moment). Leaves (formats_of s) s.part_size (world_of s (log_of old clock front)) log (image_of i)) (sym (log_stays old new (ticks clock front) back (ticks_within clock front bounded) n))
        (p.since front back i split (n.since (ticks clock front) i since)))

pub wanting_whole : {T : Type 0} {old : Look} {s : Start} {clock : ℕ} {es : List Entry} {k : Kept} {d : Option ℕ} {seen : List Moment} (b : Before old s clock es k d seen) (past : ℕ → Held → Type 0) → IsPast s clock past old es
    → (new : Look) (mid : List Entry) → mid ≡ es → (ok : T → Change) (may : Change) (error : CallError) → error ≡ Memory → Called old new ok may (Err error) → IsWhole new s clock past mid k d
wanting_whole {T} {old} {s} {clock} {es} {k} {d} {seen} b past p new mid reserved ok may error is c =
    let stays = (subst (λ x. Called old new ok may (Err x)) is c).stays refl in
    record {
      repo = (wanting b new mid reserved ok may error is c).1;
      past = subst (λ (x : List Entry). IsPast s clock past new x) (sym reserved) (past_stays old new s clock past es b.repo.bounded p stays);
    }

-- the infos are as they were
pub same_infos : {l : Look} {s : Start} {clock : ℕ} {past : ℕ → Held → Type 0} {es : List Entry} {d : Option ℕ} (k : Kept) (infos : List Info) → infos ≡ k.infos → IsWhole l s clock past es k d
    → IsWhole l s clock past es (record k { infos = infos }) d
same_infos {l} {s} {clock} {past} {es} {d} k infos same w = subst (λ (x : List Info). IsWhole l s clock past es (record k { infos = x }) d) (sym same) w

-- ---- the beginning

begun_past : (l : Look) (s : Start) (clock : ℕ) (past : ℕ → Held → Type 0) (k : Kept) → IsBegun s clock past l k → IsPast s clock past l []
begun_past l s clock past k b = record { told = λ _. tt; before = λ t i le since. inl (b.past_is t i since); since = since_start }
  where
    since_start : (front back : List Entry) (i : Held) → [] ≡ front ++ back → l.since (ticks clock front) i
        → Leaves (formats_of s) s.part_size (world_of s (log_of l clock front)) (log_of l (ticks clock front) back) (image_of i)
    since_start front back i split since =
        let none = none_left front back (sym split) in
        let here : l.since l.clock i = subst (λ t. l.since t i) (ap (ticks clock) none.0 ∙ b.clock_is) since in
        subst (λ (y : List Entry). Leaves (formats_of s) s.part_size (world_of s (log_of l clock front)) (log_of l (ticks clock front) y) (image_of i)) (sym none.1)
        (subst (λ (x : List Entry). image_of i ≡ core.image_of (formats_of s) (world_of s (log_of l clock x))) (sym none.0) (b.image i (b.only_now i here)))

pub begun_whole : (l : Look) (s : Start) (clock : ℕ) (past : ℕ → Held → Type 0) (k : Kept) → IsBegun s clock past l k → IsWhole l s clock past [] k None
begun_whole l s clock past k b = record { repo = begun_repo l s clock past k b; past = begun_past l s clock past k b }
