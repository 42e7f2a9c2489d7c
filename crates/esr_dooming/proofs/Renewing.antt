-- What is held of shards after a cleanup.
use Rattle.std.proofs.Common.{◌≡◌, ◌<◌, ◌+◌, ℕ, zero, suc, Bool, true, false, List, [], ◌∷◌, ◌++◌, map, length, take, get_or, Option, Some, refl, sym, ap, ◌∙◌, subst, inl, inr, arith}
use Rattle.std.specs.Prelude.{◌==◌, ◌&&◌, if◌then◌else◌}
use Rattle.std.proofs.lemmas.Bool.{true≢false}
use Rattle.std.proofs.lemmas.Bool.Decides.{eqb_tells}
use Rattle.esr_model.specs.Lists.{Has-append, Has-left, Has-right, Has-map}
use Rattle.esr_model.specs.Loops.{next}
use Rattle.esr_model.specs.Values.{Has, ShardFiles}
use Rattle.esr_model.specs.Delete.{PrunedShard, surviving}
use Rattle.esr_reach.specs.Held.{HeldShard, held_at, Holds}
use Rattle.esr_reach.specs.Members.{has_only}
use Rattle.esr_reach.specs.Names.{AreOnce}
use Rattle.esr_results.specs.declared.pruned.PrunedShard.{PrunedShard as CodePruned}
use Rattle.esr_results.specs.Pruned.{pruned_of}
use Rattle.esr_dooming.specs.Reading.{AreHeldSome}
use Rattle.esr_dooming.specs.Unreached.{place_of, Renewed}

some_files : (a b : ShardFiles) → ◌≡◌ {A = Option ShardFiles} (Some a) (Some b) → a ≡ b
some_files a b e = cc

both_true : (a b c d : ℕ) → a ≡ c → b ≡ d → ((a == c) && (b == d)) ≡ true
both_true a b c d one two = elim (eqb_tells a c) [
  | inl same ↦ elim (eqb_tells b d) [
    | inl other ↦ (λ j. same.0 j && other.0 j)
    | inr other ↦ absurd (other.1 two)
  ]
  | inr other ↦ absurd (other.1 one)
]

both_false : (a b c d : ℕ) → (a ≡ c → b ≡ d → ⊥) → ((a == c) && (b == d)) ≡ false
both_false a b c d apart = elim (eqb_tells a c) [
  | inl same ↦ elim (eqb_tells b d) [
    | inl other ↦ absurd (apart same.1 other.1)
    | inr other ↦ (λ j. same.0 j && other.0 j)
  ]
  | inr other ↦ ap (λ (t : Bool). t && (b == d)) other.0
]

-- ---- one shard

-- one of which nothing is left stays as it is held
pub renewed_none : (held : List HeldShard) (p : PrunedShard) (left : List ℕ) → p.kept ≡ false → Renewed held held (p ∷ []) left
renewed_none held p left gone = record {
  kept = λ q was has kept at. absurd (true≢false (sym kept ∙ ap (λ (x : PrunedShard). x.kept) (has_only p q has) ∙ gone));
  others = λ index number apart. refl;
}

pub renewed_one : (old new : List HeldShard) (p : PrunedShard) (left : List ℕ) (was : ShardFiles) → p.kept ≡ true → held_at old p.index p.number ≡ Some was → Holds old new p.index p.number (surviving left was)
    → Renewed old new (p ∷ []) left
renewed_one old new p left was its at holds = record {
  kept = λ q files has kept q_at.
      let same : q ≡ p = has_only p q has in
      let here : held_at new p.index p.number ≡ Some (surviving left was) =
      holds p.index p.number ∙ ap (λ (b : Bool). if b then Some (surviving left was) else held_at old p.index p.number) (both_true p.index p.number p.index p.number refl refl) in
      let one : was ≡ files = some_files was files (sym at ∙ (λ j. held_at old (sym same j).index (sym same j).number) ∙ q_at) in
      (λ j. held_at new (same j).index (same j).number) ∙ here ∙ ap (λ (x : ShardFiles). Some (surviving left x)) one;
  others = λ index number apart.
      holds index number ∙ ap (λ (b : Bool). if b then Some (surviving left was) else held_at old index number) (both_false p.index p.number index number (apart p (inl refl) its));
}

-- ---- one after another

pub renewed_first : (held : List HeldShard) (left : List ℕ) → Renewed held held [] left
renewed_first held left = record { kept = λ p was has kept at. absurd has; others = λ index number apart. refl }

abbrev IsAside : List PrunedShard → PrunedShard → Type 0
IsAside shards p = (q : PrunedShard) → Has shards q → p.index ≡ q.index → p.number ≡ q.number → ⊥

-- one that is none of those before is held as it was
pub still_held : (old mid : List HeldShard) (shards : List PrunedShard) (p : PrunedShard) (left : List ℕ) → Renewed old mid shards left → IsAside shards p → held_at mid p.index p.number ≡ held_at old p.index p.number
still_held old mid shards p left first apart = first.others p.index p.number (λ r there its index number. apart r there (sym index) (sym number))

renewed_more : (old mid new : List HeldShard) (shards : List PrunedShard) (p : PrunedShard) (left : List ℕ) → Renewed old mid shards left → Renewed mid new (p ∷ []) left → IsAside shards p → Renewed old new (shards ++ p ∷ []) left
renewed_more old mid new shards p left first second apart = record {
  kept = λ q was has kept at. elim (Has-append shards p q has) [
    | inl before ↦
        second.others q.index q.number
        (λ r one its index number.
        let same : r ≡ p = has_only p r one in
        apart q before (sym (ap (λ (x : PrunedShard). x.index) same) ∙ index) (sym (ap (λ (x : PrunedShard). x.number) same) ∙ number))
        ∙ first.kept q was before kept at
    | inr last ↦
        let still : held_at mid q.index q.number ≡ held_at old q.index q.number =
        first.others q.index q.number (λ r there its index number. apart r there (ap (λ (x : PrunedShard). x.index) last ∙ sym index) (ap (λ (x : PrunedShard). x.number) last ∙ sym number)) in
        second.kept q was (inl last) kept (still ∙ at)
  ];
  others = λ index number none.
      second.others index number (λ r one its i n. none r (Has-right shards (p ∷ []) r one) its i n)
      ∙ first.others index number (λ r there its i n. none r (Has-left shards (p ∷ []) r there) its i n);
}

-- ---- of a list of the code

item_in : (items : List CodePruned) (k : ℕ) (x : CodePruned) → k < length items → x ≡ get_or items k x → Has (map pruned_of items) (pruned_of x)
item_in [] k x less is = absurd (omega (arith, less))
item_in (y ∷ items) zero x less is = inl (ap pruned_of (sym is))
item_in (y ∷ items) (suc k) x less is = inr (item_in items k x (omega (arith, less)) is)

-- none before it is of its shard
pub aside_at : (items : List CodePruned) → AreOnce (map place_of (map pruned_of items)) → (k : ℕ) (x : CodePruned) → k < length items → x ≡ get_or items k x → IsAside (map pruned_of (take k items)) (pruned_of x)
aside_at [] once k x less is q m index number = absurd (omega (arith, less))
aside_at (y ∷ items) once zero x less is q m index number = absurd m
aside_at (y ∷ items) once (suc k) x less is q (inl here) index number =
    let p : PrunedShard = pruned_of x in
    let place : place_of p ≡ place_of (pruned_of y) = λ j. ((index ∙ sym (ap (λ (z : PrunedShard). z.index) here)) j, (number ∙ sym (ap (λ (z : PrunedShard). z.number) here)) j) in
    once.0 (subst (Has (map place_of (map pruned_of items))) place (Has-map place_of (map pruned_of items) p (item_in items k x (omega (arith, less)) is)))
aside_at (y ∷ items) once (suc k) x less is q (inr later) index number = aside_at items once.1 k x (omega (arith, less)) is q later index number

pub still_some : (old mid : List HeldShard) (items : List CodePruned) (k : ℕ) (x : CodePruned) (left : List ℕ) → AreOnce (map place_of (map pruned_of items)) → AreHeldSome old (map pruned_of items) → k < length items
    → x ≡ get_or items k x
    → Renewed old mid (map pruned_of (take k items)) left → (was : ShardFiles) × (held_at mid (pruned_of x).index (pruned_of x).number ≡ Some was)
still_some old mid items k x left once some less is first =
    let (was, at) = some (pruned_of x) (item_in items k x less is) in
    (was, still_held old mid (map pruned_of (take k items)) (pruned_of x) left first (aside_at items once k x less is) ∙ at)

pub renewed_next : (old mid new : List HeldShard) (items : List CodePruned) (k : ℕ) (x : CodePruned) (left : List ℕ) → AreOnce (map place_of (map pruned_of items)) → k < length items → x ≡ get_or items k x
    → Renewed old mid (map pruned_of (take k items)) left → Renewed mid new (pruned_of x ∷ []) left → Renewed old new (map pruned_of (take (k + 1) items)) left
renewed_next old mid new items k x left once less is first second =
    subst (λ (shards : List PrunedShard). Renewed old new shards left) (sym (next pruned_of items k x less is))
    (renewed_more old mid new (map pruned_of (take k items)) (pruned_of x) left first second (aside_at items once k x less is))

pub renewed_all : (old new : List HeldShard) (items : List CodePruned) (k : ℕ) (left : List ℕ) → map pruned_of (take k items) ≡ map pruned_of items → Renewed old new (map pruned_of (take k items)) left
    → Renewed old new (map pruned_of items) left
renewed_all old new items k left whole renewed = subst (λ (shards : List PrunedShard). Renewed old new shards left) whole renewed
