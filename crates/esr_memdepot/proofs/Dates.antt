-- What is dated up to a moment.
use Rattle.std.proofs.Common.{◌≡◌, ℕ, ◌+◌, ◌<◌, ◌≤◌, Bool, true, false, List, [], ◌∷◌, Option, Some, None, nat_le, ◌==◌, refl, arith}
use Rattle.std.proofs.lemmas.Bool.Decides.{nat_tests}
use Rattle.std.specs.List.{list_all}
use Rattle.std.specs.Option.{is_none}
use Rattle.std.specs.FinMap.{empty}
use Rattle.std.proofs.lemmas.Bool.{and_parts}
use Rattle.esr_depot.specs.Image.{Blobs}
use Rattle.esr_memdepot.specs.Past.{is_there, held, last_text, image_now, gone_later, left_blob, left_text, image_left, gone_by, is_dated, is_text_dated, all_dated}
use Rattle.esr_memdepot.specs.declared.blob.Gone.{Gone}
use Rattle.esr_memdepot.specs.declared.blob.KeptBlob.{KeptBlob}
use Rattle.esr_memdepot.specs.declared.text.KeptText.{KeptText}
use Rattle.esr_memdepot.specs.declared.plan.Leaves.{Leaves}
use Rattle.esr_memdepot.specs.declared.plan.Leaves.TheVariants.{Old, New, First}

-- two tests that agree on each of a list
pub held_same : (p q r : KeptBlob → Bool) (ks : List KeptBlob) (m : Blobs) → ((k : KeptBlob) → r k ≡ true → p k ≡ q k) → list_all r ks ≡ true → held p ks m ≡ held q ks m
held_same p q r [] m same all = refl
held_same p q r (k ∷ ks) m same all =
    let parts = and_parts (r k) (list_all r ks) all in
    rw (same k parts.0) (held_same p q r ks _ same parts.1)

pub text_same : (p q r : KeptText → Bool) (xs : List KeptText) (m : Option (List ℕ)) → ((x : KeptText) → r x ≡ true → p x ≡ q x) → list_all r xs ≡ true → last_text p xs m ≡ last_text q xs m
text_same p q r [] m same all = refl
text_same p q r (x ∷ xs) m same all =
    let parts = and_parts (r x) (list_all r xs) all in
    rw (same x parts.0) (text_same p q r xs _ same parts.1)

pub gone_is_past : (t : ℕ) (how : Leaves) (g : Gone) → nat_le g.at t ≡ true → gone_later t how (Some g) ≡ false
gone_is_past t Old g le = grind (arith, nat_tests)
gone_is_past t New g le = grind (arith, nat_tests)
gone_is_past t (First n) g le = grind (arith, nat_tests)

pub gone_as_now : (t : ℕ) (how : Leaves) (o : Option Gone) → gone_by t o ≡ true → gone_later t how o ≡ is_none o
gone_as_now t how None by = refl
gone_as_now t how (Some g) by = gone_is_past t how g by

pub came_before : (came t : ℕ) → nat_le came t ≡ true → (came == t + 1) ≡ false
came_before came t le = grind (arith, nat_tests)

-- of what is dated up to t, a crash in a call made at t leaves what is there now
pub left_as_now : (t : ℕ) (how : Leaves) (k : KeptBlob) → is_dated t k ≡ true → left_blob t how k ≡ is_there k
left_as_now t Old k d = let b = and_parts (nat_le k.came t) (gone_by t k.gone) d in rw b.0 (gone_as_now t Old k.gone b.1)
left_as_now t New k d = let b = and_parts (nat_le k.came t) (gone_by t k.gone) d in rw (came_before k.came t b.0, b.0) (gone_as_now t New k.gone b.1)
left_as_now t (First n) k d = let b = and_parts (nat_le k.came t) (gone_by t k.gone) d in rw b.0 (gone_as_now t (First n) k.gone b.1)

pub left_text_as_now : (t : ℕ) (how : Leaves) (x : KeptText) → is_text_dated t x ≡ true → left_text t how x ≡ x.stands
left_text_as_now t Old x d = rw d refl
left_text_as_now t New x d = rw (came_before x.came t d, d) refl
left_text_as_now t (First n) x d = rw d refl

-- a crash in a call at s leaves nothing of one at t
abbrev pub Earlier : ℕ → Leaves → ℕ → Type 0
Earlier s Old t = s ≤ t
Earlier s New t = s < t
Earlier s (First n) t = s < t

pub earlier : (s t : ℕ) (how : Leaves) → s < t → Earlier s how t
earlier s t Old lt = omega arith
earlier s t how lt = lt

late : (came s t : ℕ) → s ≤ t → came ≡ t + 1 → nat_le came s ≡ false
late came s t le is = grind (arith, nat_tests)

other : (came s t : ℕ) → s < t → came ≡ t + 1 → (came == s + 1) ≡ false
other came s t lt is = grind (arith, nat_tests)

-- what comes later doesn't count
pub not_yet : (s t : ℕ) (how : Leaves) (k : KeptBlob) → Earlier s how t → k.came ≡ t + 1 → left_blob s how k ≡ false
not_yet s t Old k lt is = rw (late k.came s t lt is) refl
not_yet s t New k lt is = rw (other k.came s t lt is, late k.came s t (omega arith) is) refl
not_yet s t (First n) k lt is = rw (late k.came s t (omega arith) is) refl

pub text_not_yet : (s t : ℕ) (how : Leaves) (x : KeptText) → Earlier s how t → x.came ≡ t + 1 → left_text s how x ≡ false
text_not_yet s t Old x lt is = rw (late x.came s t lt is) refl
text_not_yet s t New x lt is = rw (other x.came s t lt is, late x.came s t (omega arith) is) refl
text_not_yet s t (First n) x lt is = rw (late x.came s t (omega arith) is) refl

module _ (t : ℕ) (ks : List KeptBlob) (xs : List KeptText) where
  pub image_as_now : (how : Leaves) → all_dated t ks xs ≡ true → image_left t how ks xs ≡ image_now ks xs
  image_as_now how all =
      let b = and_parts (list_all (is_dated t) ks) (list_all (is_text_dated t) xs) all in λ i. record {
        blobs = held_same (left_blob t how) is_there (is_dated t) ks empty (left_as_now t how) b.0 i;
        text = text_same (left_text t how) (λ x. x.stands) (is_text_dated t) xs None (left_text_as_now t how) b.1 i;
      }

list_all_weaker : {A : Type 0} (p q : A → Bool) (xs : List A) → ((x : A) → p x ≡ true → q x ≡ true) → list_all p xs ≡ true → list_all q xs ≡ true
list_all_weaker p q [] w all = refl
list_all_weaker p q (x ∷ xs) w all = let b = and_parts (p x) (list_all p xs) all in rw (w x b.0) (list_all_weaker p q xs w b.1)

gone_by_later : (t u : ℕ) (o : Option Gone) → t ≤ u → gone_by t o ≡ true → gone_by u o ≡ true
gone_by_later t u None le by = refl
gone_by_later t u (Some g) le by = grind (arith, nat_tests)

came_later : (came t u : ℕ) → t ≤ u → nat_le came t ≡ true → nat_le came u ≡ true
came_later came t u le d = grind (arith, nat_tests)

dated_later : (t u : ℕ) (k : KeptBlob) → t ≤ u → is_dated t k ≡ true → is_dated u k ≡ true
dated_later t u k le d = let b = and_parts (nat_le k.came t) (gone_by t k.gone) d in let came = came_later k.came t u le b.0 in rw came (gone_by_later t u k.gone le b.1)

pub blobs_later : (t u : ℕ) (ks : List KeptBlob) → t ≤ u → list_all (is_dated t) ks ≡ true → list_all (is_dated u) ks ≡ true
blobs_later t u ks le all = list_all_weaker (is_dated t) (is_dated u) ks (λ k. dated_later t u k le) all

pub texts_later : (t u : ℕ) (xs : List KeptText) → t ≤ u → list_all (is_text_dated t) xs ≡ true → list_all (is_text_dated u) xs ≡ true
texts_later t u xs le all = list_all_weaker (is_text_dated t) (is_text_dated u) xs (λ x. came_later x.came t u le) all

pub all_later : (t u : ℕ) (ks : List KeptBlob) (xs : List KeptText) → t ≤ u → all_dated t ks xs ≡ true → all_dated u ks xs ≡ true
all_later t u ks xs le all = let b = and_parts (list_all (is_dated t) ks) (list_all (is_text_dated t) xs) all in rw (blobs_later t u ks le b.0) (texts_later t u xs le b.1)
