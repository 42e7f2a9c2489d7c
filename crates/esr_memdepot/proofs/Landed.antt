-- What one more blob, or one more text, does to the past.
use Rattle.std.proofs.Common.{◌≡◌, inl, inr, ℕ, ◌+◌, ◌-◌, ◌^◌, ◌<◌, Bool, true, false, if◌then◌else◌, List, [], ◌∷◌, ◌++◌, Some, None, nat_le, refl, ◌∙◌, ap, arith}
use Rattle.std.proofs.lemmas.Bool.Decides.{nat_tests}
use Rattle.std.specs.List.{list_all}
use Rattle.std.specs.FinMap.{empty, insert}
use Rattle.std.proofs.lemmas.Bool.{and_parts}
use Rattle.esr_depot.specs.Image.{Image, with_blob, with_text}
use Rattle.esr_depot.specs.Look.{now}
use Rattle.esr_depot.specs.Calls.{up, Passed}
use Rattle.esr_depot.specs.Changes.{Replaced, ReplaceMay, Swapped, SwapMay}
use Rattle.esr_memdepot.specs.Past.{is_there, held, last_text, image_by, image_now, left_blob, left_text, image_left, kept, gone_by, is_dated, is_text_dated, all_dated}
use Rattle.esr_memdepot.specs.MemDepot.{look_of}
use Rattle.esr_memdepot.proofs.Held.{held-push, last_text-push, list_all-push}
use Rattle.esr_memdepot.proofs.Dates.{Earlier, left_as_now, left_text_as_now, held_same, text_same, not_yet, text_not_yet, blobs_later, texts_later}
use Rattle.esr_memdepot.proofs.Passing.{changes, passes}
use Rattle.esr_memdepot.specs.declared.blob.KeptBlob.{KeptBlob}
use Rattle.esr_memdepot.specs.declared.text.KeptText.{KeptText}
use Rattle.esr_memdepot.specs.declared.plan.Leaves.{Leaves}

-- room that was made changes no items
pub after_room : {A : Type 0} (ks rs ls : List A) (k : A) → ls ≡ rs ++ k ∷ [] → rs ≡ ks → ls ≡ ks ++ k ∷ []
after_room ks rs ls k is same = is ∙ ap (λ (l : List _). l ++ k ∷ []) same

-- an image with a blob in it or not
put_or_not : (b : Bool) (i : Image) (name bytes : List ℕ) → ReplaceMay name (Some bytes) (Some i) (Some (record { blobs = if b then insert i.blobs name bytes else i.blobs; text = i.text }))
put_or_not true i name bytes = inr refl
put_or_not false i name bytes = inl refl

gone_at_once : (u : ℕ) (stands : Bool) → gone_by u (if stands then None else Some (record { at = u; place = 0 })) ≡ true
gone_at_once u true = refl
gone_at_once u false = grind (arith, nat_tests)

-- ---- a call at t that adds a blob

module _ (t u s s' : ℕ) (ks ls : List KeptBlob) (xs : List KeptText) (name bytes : List ℕ) (stands : Bool) (is : ls ≡ ks ++ kept name bytes u stands ∷ []) where
  image_push : (p : KeptBlob → Bool) (q : KeptText → Bool) → image_by p q ls xs
      ≡ record { blobs = if p (kept name bytes u stands) then insert (held p ks empty) name bytes else held p ks empty; text = last_text q xs None }
  image_push p q = ap (λ (l : List KeptBlob). image_by p q l xs) is ∙ (λ i. record { blobs = held-push p ks (kept name bytes u stands) empty i; text = last_text q xs None })

  pub landed_image : image_now ls xs ≡ (if stands then with_blob (image_now ks xs) name bytes else image_now ks xs)
  landed_image = image_push is_there (λ x. x.stands) ∙ by_test stands
    where
      by_test : (b : Bool) → record { blobs = if is_there (kept name bytes u b) then insert (held is_there ks empty) name bytes else held is_there ks empty; text = last_text (λ x. x.stands) xs None }
          ≡ (if b then with_blob (image_now ks xs) name bytes else image_now ks xs)
      by_test true = refl
      by_test false = refl

  landed_may : ReplaceMay name (Some bytes) (Some (image_now ks xs)) (Some (image_now ls xs))
  landed_may = rw (image_push is_there (λ x. x.stands)) (put_or_not (is_there (kept name bytes u stands)) (image_now ks xs) name bytes)

  module _ (below : t < 2 ^ 64 - 1) (same : u ≡ up t) (all : all_dated t ks xs ≡ true) where
    next : u ≡ t + 1
    next = omega arith

    parts : (list_all (is_dated t) ks ≡ true) × (list_all (is_text_dated t) xs ≡ true)
    parts = and_parts (list_all (is_dated t) ks) (list_all (is_text_dated t) xs) all

    pub landed_dated : all_dated u ls xs ≡ true
    landed_dated =
        let here : nat_le u u ≡ true = grind (arith, nat_tests) in
        let new : is_dated u (kept name bytes u stands) ≡ true = rw here (gone_at_once u stands) in
        rw is (rw (list_all-push (is_dated u) ks (kept name bytes u stands) (blobs_later t u ks (omega arith) parts.0) new) (texts_later t u xs (omega arith) parts.1))

    past : (r : ℕ) (how : Leaves) → Earlier r how t → image_left r how ls xs ≡ image_left r how ks xs
    past r how e = image_push (left_blob r how) (left_text r how)
        ∙ ap (λ (b : Bool). record { blobs = if b then insert (held (left_blob r how) ks empty) name bytes else held (left_blob r how) ks empty; text = last_text (left_text r how) xs None })
        (not_yet r t how (kept name bytes u stands) e next)

    within : (how : Leaves) → ReplaceMay name (Some bytes) (Some (image_now ks xs)) (Some (image_left t how ls xs))
    within how =
        let blobs = held_same (left_blob t how) is_there (is_dated t) ks empty (left_as_now t how) parts.0 in
        let texts = text_same (left_text t how) (λ x. x.stands) (is_text_dated t) xs None (left_text_as_now t how) parts.1 in
        rw (image_push (left_blob t how) (left_text t how), blobs, texts) (put_or_not (left_blob t how (kept name bytes u stands)) (image_now ks xs) name bytes)

    pub landed : Passed (look_of t s ks xs) (look_of u s' ls xs) (ReplaceMay name (Some bytes))
    landed = passes t u s s' ks ls xs xs (ReplaceMay name (Some bytes)) below same all landed_dated past landed_may within

    pub landed_done : stands ≡ true → Replaced name (Some bytes) (now (look_of t s ks xs)) (now (look_of u s' ls xs))
    landed_done there = changes t u s s' ks ls xs xs (Replaced name (Some bytes)) all landed_dated (ap Some (landed_image ∙ rw there refl))

    pub landed_left : ReplaceMay name (Some bytes) (now (look_of t s ks xs)) (now (look_of u s' ls xs))
    landed_left = changes t u s s' ks ls xs xs (ReplaceMay name (Some bytes)) all landed_dated landed_may

-- ---- a call at t that adds a text of the record

swap_or_not : (b : Bool) (i : Image) (text : List ℕ) → SwapMay text (Some i) (Some (record { blobs = i.blobs; text = if b then Some text else i.text }))
swap_or_not true i text = inr refl
swap_or_not false i text = inl refl

module _ (t u s s' : ℕ) (ks : List KeptBlob) (xs ys : List KeptText) (x : KeptText) (is : ys ≡ xs ++ x ∷ []) where
  image_push_text : (p : KeptBlob → Bool) (q : KeptText → Bool) → image_by p q ks ys ≡ record { blobs = held p ks empty; text = if q x then Some x.bytes else last_text q xs None }
  image_push_text p q = ap (λ (l : List KeptText). image_by p q ks l) is ∙ (λ i. record { blobs = held p ks empty; text = last_text-push q xs x None i })

  pub swapped_image : image_now ks ys ≡ (if x.stands then with_text (image_now ks xs) x.bytes else image_now ks xs)
  swapped_image = image_push_text is_there (λ y. y.stands) ∙ by_test x.stands
    where
      by_test : (b : Bool) → record { blobs = held is_there ks empty; text = if b then Some x.bytes else last_text (λ y. y.stands) xs None } ≡ (if b then with_text (image_now ks xs) x.bytes else image_now ks xs)
      by_test true = refl
      by_test false = refl

  swapped_may : SwapMay x.bytes (Some (image_now ks xs)) (Some (image_now ks ys))
  swapped_may = rw (image_push_text is_there (λ y. y.stands)) (swap_or_not x.stands (image_now ks xs) x.bytes)

  module _ (came : x.came ≡ u) (below : t < 2 ^ 64 - 1) (same : u ≡ up t) (all : all_dated t ks xs ≡ true) where
    follows : x.came ≡ t + 1
    follows = omega arith

    halves : (list_all (is_dated t) ks ≡ true) × (list_all (is_text_dated t) xs ≡ true)
    halves = and_parts (list_all (is_dated t) ks) (list_all (is_text_dated t) xs) all

    pub swapped_dated : all_dated u ks ys ≡ true
    swapped_dated =
        let here : is_text_dated u x ≡ true = grind (arith, nat_tests) in
        rw is (rw (blobs_later t u ks (omega arith) halves.0) (list_all-push (is_text_dated u) xs x (texts_later t u xs (omega arith) halves.1) here))

    text_past : (r : ℕ) (how : Leaves) → Earlier r how t → image_left r how ks ys ≡ image_left r how ks xs
    text_past r how e = image_push_text (left_blob r how) (left_text r how)
        ∙ ap (λ (b : Bool). record { blobs = held (left_blob r how) ks empty; text = if b then Some x.bytes else last_text (left_text r how) xs None }) (text_not_yet r t how x e follows)

    text_within : (how : Leaves) → SwapMay x.bytes (Some (image_now ks xs)) (Some (image_left t how ks ys))
    text_within how =
        let blobs = held_same (left_blob t how) is_there (is_dated t) ks empty (left_as_now t how) halves.0 in
        let texts = text_same (left_text t how) (λ y. y.stands) (is_text_dated t) xs None (left_text_as_now t how) halves.1 in
        rw (image_push_text (left_blob t how) (left_text t how), blobs, texts) (swap_or_not (left_text t how x) (image_now ks xs) x.bytes)

    pub swapped : Passed (look_of t s ks xs) (look_of u s' ks ys) (SwapMay x.bytes)
    swapped = passes t u s s' ks ks xs ys (SwapMay x.bytes) below same all swapped_dated text_past swapped_may text_within

    pub swapped_done : x.stands ≡ true → Swapped x.bytes (now (look_of t s ks xs)) (now (look_of u s' ks ys))
    swapped_done there = changes t u s s' ks ks xs ys (Swapped x.bytes) all swapped_dated (ap Some (swapped_image ∙ rw there refl))

    pub swapped_left : SwapMay x.bytes (now (look_of t s ks xs)) (now (look_of u s' ks ys))
    swapped_left = changes t u s s' ks ks xs ys (SwapMay x.bytes) all swapped_dated swapped_may
