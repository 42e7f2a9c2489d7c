-- The shards of a restore, and the maps of restores and of their tickets.
use Rattle.std.proofs.Common.{◌≡◌, ◌≢◌, ◌⊎◌, ℕ, List, [], ◌∷◌, Bool, true, false, true≢false, ◌&&◌, ◌||◌, Some, refl, sym, ap, ◌∙◌, inl, inr, nat_cmp, map}
use Rattle.std.specs.Prelude.{if◌then◌else◌, ◌==◌}
use Rattle.std.proofs.lemmas.Bool.Decides.{eqb_tells}
use Rattle.std.specs.FinMap.{FinMap}
use Rattle.std.proofs.lemmas.Bool.{or_cases, cond-true, cond-false}
use Rattle.std.specs.FinMap as fin
use Rattle.esr_core.specs.Laws.NumberMaps.{was_in, same_in, other_in, left_in, stays_in}
use Rattle.esr_model.specs.Values.{Bytes, Has, IndexRef}
use Rattle.esr_model.specs.Places.{places}
use Rattle.esr_core.specs.World.{ReadState, Unread, BeingRead, Restored, NotRestored, RestoreShard, Restoring}
use Rattle.esr_core.specs.Restores.{AreApart, unread, restore_of, waits, any_waits, put_restore, handed, ended_by, ended}
use Rattle.esr_model.specs.Lists.{Has-mapped}

pub read_same : {a b : ℕ} → BeingRead a ≡ BeingRead b → a ≡ b
read_same e = cc

pub unread_read : {a : ℕ} → Unread ≡ BeingRead a → ⊥
unread_read e = cc

pub restored_read : {n m a : ℕ} → Restored n m ≡ BeingRead a → ⊥
restored_read e = cc

pub failed_read : {a : ℕ} (s : ReadState) → waits s ≡ false → s ≡ BeingRead a → ⊥
failed_read s w e = true≢false (sym (ap waits e) ∙ w)

pub some_waits : (shards : List RestoreShard) (s : RestoreShard) → Has shards s → waits s.state ≡ true → any_waits shards ≡ true
some_waits [] s m e = absurd m
some_waits (z ∷ shards) s (inl same) e = ap (λ (x : Bool). x || any_waits shards) (ap (λ (x : RestoreShard). waits x.state) same ∙ e)
some_waits (z ∷ shards) s (inr m) e = ap (λ (x : Bool). waits z.state || x) (some_waits shards s m e) ∙ either (waits z.state)
  where
    either : (b : Bool) → (b || true) ≡ true
    either true = refl
    either false = refl

pub one_waits : (shards : List RestoreShard) → any_waits shards ≡ true → (s : RestoreShard) × Has shards s × (waits s.state ≡ true)
one_waits [] e = absurd (true≢false (sym e))
one_waits (z ∷ shards) e = elim (or_cases (waits z.state) (any_waits shards) e) [
  | inl is ↦ (z, inl refl, is)
  | inr h ↦ let (s, m, w) = one_waits shards h in (s, inr m, w)
]

pub handed_is : (k i n : ℕ) (s : RestoreShard) → ((s.ref.id ≡ i) × (s.number ≡ n) × (handed k i n s ≡ record s { state = BeingRead k })) ⊎ ((s.ref.id ≡ i → s.number ≡ n → ⊥) × (handed k i n s ≡ s))
handed_is k i n s = elim (eqb_tells s.ref.id i) [
  | inl a ↦ elim (eqb_tells s.number n) [
    | inl b ↦ inl (a.1, b.1, cond-true _ _ _ (ap (λ x. x && (s.number == n)) a.0 ∙ b.0))
    | inr b ↦ inr ((λ p q. b.1 q), cond-false _ _ _ (ap (λ x. x && (s.number == n)) a.0 ∙ b.0))
  ]
  | inr a ↦ inr ((λ p q. a.1 p), cond-false _ _ _ (ap (λ x. x && (s.number == n)) a.0))
]

pub ended_is : (k : ℕ) (new : ReadState) (s : RestoreShard) → ((s.state ≡ BeingRead k) × (ended k new s ≡ record s { state = new })) ⊎ ((s.state ≡ BeingRead k → ⊥) × (ended k new s ≡ s))
ended_is k new s = go s.state refl
  where
    go : (st : ReadState) → s.state ≡ st → ((s.state ≡ BeingRead k) × (ended_by k new s st ≡ record s { state = new })) ⊎ ((s.state ≡ BeingRead k → ⊥) × (ended_by k new s st ≡ s))
    go (BeingRead j) e = elim (eqb_tells j k) [
      | inl h ↦ inl (e ∙ ap BeingRead h.1, cond-true _ _ _ h.0)
      | inr h ↦ inr ((λ q. h.1 (read_same (sym e ∙ q))), cond-false _ _ _ h.0)
    ]
    go Unread e = inr ((λ q. unread_read (sym e ∙ q)), refl)
    go (Restored files bytes) e = inr ((λ q. restored_read (sym e ∙ q)), refl)
    go (NotRestored why) e = inr ((λ q. failed_read (NotRestored why) refl (sym e ∙ q)), refl)

-- what leaves the places of shards
pub record LeavesPlace (g : RestoreShard → RestoreShard) : Type 0 where
  pub ref : (s : RestoreShard) → (g s).ref ≡ s.ref
  pub number : (s : RestoreShard) → (g s).number ≡ s.number

pub handed_place : (k i n : ℕ) → LeavesPlace (handed k i n)
handed_place k i n = record {
  ref = λ s. elim (handed_is k i n s) [ inl h ↦ ap (λ (x : RestoreShard). x.ref) h.2 | inr h ↦ ap (λ (x : RestoreShard). x.ref) h.1 ];
  number = λ s. elim (handed_is k i n s) [ inl h ↦ ap (λ (x : RestoreShard). x.number) h.2 | inr h ↦ ap (λ (x : RestoreShard). x.number) h.1 ];
}

pub ended_place : (k : ℕ) (new : ReadState) → LeavesPlace (ended k new)
ended_place k new = record {
  ref = λ s. elim (ended_is k new s) [ inl h ↦ ap (λ (x : RestoreShard). x.ref) h.1 | inr h ↦ ap (λ (x : RestoreShard). x.ref) h.1 ];
  number = λ s. elim (ended_is k new s) [ inl h ↦ ap (λ (x : RestoreShard). x.number) h.1 | inr h ↦ ap (λ (x : RestoreShard). x.number) h.1 ];
}

pub apart_one : (refs : List IndexRef) → AreApart refs → (r q : IndexRef) → Has refs r → Has refs q → r.id ≡ q.id → r ≡ q
apart_one [] h r q rm qm e = absurd rm
apart_one (x ∷ refs) h r q (inl a) (inl b) e = sym a ∙ b
apart_one (x ∷ refs) h r q (inl a) (inr m) e = absurd (h.0 q m (ap (λ (y : IndexRef). y.id) a ∙ e))
apart_one (x ∷ refs) h r q (inr m) (inl b) e = absurd (h.0 r m (ap (λ (y : IndexRef). y.id) b ∙ sym e))
apart_one (x ∷ refs) h r q (inr m) (inr n) e = apart_one refs h.1 r q m n e

-- none of which is being read
pub begun_unread : (uuid : ℕ) (place : Bytes) (indices : List IndexRef) (s : RestoreShard) → Has (restore_of uuid place indices).shards s → s.state ≡ Unread
begun_unread uuid place indices s m = let (a, am, ae) = Has-mapped unread (places indices) s m in ap (λ (x : RestoreShard). x.state) (sym ae)

module _ (m : FinMap nat_cmp Restoring) (o : ℕ) (r : Restoring) where
  waits_or : (b : Bool) → any_waits r.shards ≡ b → (p : ℕ) (x : Restoring) → fin.get (if b then fin.insert m o r else fin.remove m o) p ≡ Some x
      → ((p ≡ o) × (r ≡ x) × (any_waits r.shards ≡ true)) ⊎ ((p ≢ o) × (fin.get m p ≡ Some x))
  waits_or true is p x e = elim (was_in m o r p x e) [ inl h ↦ inl (h.0, h.1, is) | inr h ↦ inr h ]
  waits_or false is p x e = inr (left_in m o p x e)

  -- what it has was put, or was there
  pub put_was : (p : ℕ) (x : Restoring) → fin.get (put_restore m o r) p ≡ Some x → ((p ≡ o) × (r ≡ x) × (any_waits r.shards ≡ true)) ⊎ ((p ≢ o) × (fin.get m p ≡ Some x))
  put_was p x e = waits_or (any_waits r.shards) refl p x e

  pub put_other : (p : ℕ) → p ≢ o → fin.get (put_restore m o r) p ≡ fin.get m p
  put_other p apart = go (any_waits r.shards)
    where
      go : (b : Bool) → fin.get (if b then fin.insert m o r else fin.remove m o) p ≡ fin.get m p
      go true = other_in m o r p apart
      go false = stays_in m o p apart

  pub put_same : any_waits r.shards ≡ true → fin.get (put_restore m o r) o ≡ Some r
  put_same e = ap (λ (x : FinMap nat_cmp Restoring). fin.get x o) (cond-true _ (fin.insert m o r) (fin.remove m o) e) ∙ same_in m o r

pub places_mapped : (g : RestoreShard → RestoreShard) → LeavesPlace g → (shards : List RestoreShard)
    → map {B = IndexRef × ℕ} (λ (s : RestoreShard). (s.ref, s.number)) (map g shards) ≡ map {B = IndexRef × ℕ} (λ (s : RestoreShard). (s.ref, s.number)) shards
places_mapped g p [] = refl
places_mapped g p (s ∷ shards) = λ i. (p.ref s i, p.number s i) ∷ places_mapped g p shards i

pub places_begun : (ps : List (IndexRef × ℕ)) → map {B = IndexRef × ℕ} (λ (s : RestoreShard). (s.ref, s.number)) (map unread ps) ≡ ps
places_begun [] = refl
places_begun (p ∷ ps) = λ i. p ∷ places_begun ps i
