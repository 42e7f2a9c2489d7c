-- The indices of a command with their ids.
use Rattle.std.proofs.Common.{◌≡◌, ◌≢◌, ◌⊎◌, ℕ, suc, ◌<◌, ◌≤◌, List, [], ◌∷◌, Option, Some, None, length, refl, sym, ap, ◌∙◌, inl, inr, arith}
use Rattle.std.specs.List.{AllByRecursion}
use Rattle.esr_model.specs.Values.{Bytes, Has, IndexRef}
use Rattle.esr_core.specs.World.{World}
use Rattle.esr_core.specs.Entry.{AskedIndex}
use Rattle.esr_core.specs.After.{known_id, ref_by, next_by, refs_from, new_names}
use Rattle.esr_core.specs.Allowed.{AreDistinct}
use Rattle.esr_formats.specs.Refs.{AreApart}
use Rattle.esr_ops.specs.Asked.{HasShards}
use Rattle.esr_accept.specs.Asking.{refs_by, new_by}
use Rattle.esr_accept.proofs.Finds.{AreKnown}

module _ (known : Bytes → Option ℕ) where
  new_le : (o : Option ℕ) (a b : ℕ) → a ≤ b → next_by o a ≤ suc b
  new_le None a b le = omega arith
  new_le (Some i) a b le = omega arith

  pub new_by-le : (asked : List AskedIndex) → new_by known asked ≤ length asked
  new_by-le [] = omega arith
  new_by-le (a ∷ asked) = new_le (known a.name) (new_by known asked) (length asked) (new_by-le asked)

  pub length-refs_by : (next : ℕ) (asked : List AskedIndex) → length (refs_by known next asked) ≡ length asked
  length-refs_by next [] = refl
  length-refs_by next (a ∷ asked) = ap suc (length-refs_by (next_by (known a.name) next) asked)

  -- ---- as a world draws them
  module _ (w : World) (same : (name : Bytes) → known_id w name ≡ known name) where
    pub refs-same : (next : ℕ) (asked : List AskedIndex) → refs_from w next asked ≡ refs_by known next asked
    refs-same next [] = refl
    refs-same next (a ∷ asked) =
        λ j. ref_by a (same a.name j) next ∷ (refs-same (next_by (known_id w a.name) next) asked ∙ ap (λ (o : Option ℕ). refs_by known (next_by o next) asked) (same a.name)) j

    pub new-same : (asked : List AskedIndex) → new_names w asked ≡ new_by known asked
    new-same [] = refl
    new-same (a ∷ asked) = λ j. next_by (same a.name j) (new-same asked j)

  -- ---- no two have one name or one id

  -- it has the name of an asked index, with the known id or one of those that are drawn
  record IsDrawn (from : ℕ) (asked : List AskedIndex) (q : IndexRef) : Type 0 where
    a : AskedIndex
    there : Has asked a
    name_is : q.name ≡ a.name
    id_is : (known a.name ≡ Some q.id) ⊎ (from ≤ q.id)

  named_so : (a : AskedIndex) (o : Option ℕ) (next : ℕ) → (ref_by a o next).name ≡ a.name
  named_so a None next = refl
  named_so a (Some i) next = refl

  counted_so : (a : AskedIndex) (o : Option ℕ) (next : ℕ) → (ref_by a o next).shards ≡ a.shards
  counted_so a None next = refl
  counted_so a (Some i) next = refl

  id_so : (o : Option ℕ) (a : AskedIndex) (next : ℕ) → (o ≡ Some (ref_by a o next).id) ⊎ ((o ≡ None) × ((ref_by a o next).id ≡ next))
  id_so None a next = inr (refl, refl)
  id_so (Some i) a next = inl refl

  on : (o : Option ℕ) (next : ℕ) → next ≤ next_by o next
  on None next = omega arith
  on (Some i) next = omega arith

  drawn : (next : ℕ) (asked : List AskedIndex) (q : IndexRef) → Has (refs_by known next asked) q → IsDrawn next asked q
  drawn next [] q m = absurd m
  drawn next (a ∷ asked) q (inl e) = record {
    a = a;
    there = inl refl;
    name_is = ap (λ (r : IndexRef). r.name) (sym e) ∙ named_so a (known a.name) next;
    id_is = elim (id_so (known a.name) a next) [ inl k ↦ inl (k ∙ ap (λ (r : IndexRef). Some r.id) e) | inr k ↦ inr (omega (arith, k.1, ap (λ (r : IndexRef). r.id) e)) ];
  }
  drawn next (a ∷ asked) q (inr m) =
      let h = drawn (next_by (known a.name) next) asked q m in
      let up : next ≤ next_by (known a.name) next = on (known a.name) next in
      record { a = h.a; there = inr h.there; name_is = h.name_is; id_is = elim h.id_is [ inl k ↦ inl k | inr k ↦ inr (omega (arith, up, k)) ] }

  ids_apart : (first next : ℕ) → AreKnown known first → first ≤ next → (a b : AskedIndex) → a.name ≢ b.name → (o : Option ℕ) → known a.name ≡ o → (q : IndexRef) → (known b.name ≡ Some q.id) ⊎ (next_by o next ≤ q.id)
      → q.id ≢ (ref_by a o next).id
  ids_apart first next h up a b names None k q (inl e) is = let lt : q.id < first = h.below b.name q.id e in absurd (omega (arith, is))
  ids_apart first next h up a b names None k q (inr le) is = absurd (omega (arith, le, is))
  ids_apart first next h up a b names (Some i) k q (inl e) is = absurd (names (h.one_name a.name b.name i k (e ∙ ap Some is)))
  ids_apart first next h up a b names (Some i) k q (inr le) is = let lt : i < first = h.below a.name i k in absurd (omega (arith, le, is))

  pub refs_apart : (first next : ℕ) (asked : List AskedIndex) → AreKnown known first → first ≤ next → AreDistinct asked → AllByRecursion HasShards asked → AreApart (refs_by known next asked)
  refs_apart first next [] h up distinct counts = tt
  refs_apart first next (a ∷ asked) h up distinct counts =
      let r : IndexRef = ref_by a (known a.name) next in
      let name : r.name ≡ a.name = named_so a (known a.name) next in
      let count : r.shards ≡ a.shards = counted_so a (known a.name) next in
      let further : next ≤ next_by (known a.name) next = on (known a.name) next in
      let least : 1 ≤ a.shards = counts.0.0 in
      let most : a.shards ≤ 1024 = counts.0.1 in (
        omega (arith, count),
        omega (arith, count),
        λ q m.
            let d = drawn (next_by (known a.name) next) asked q m in
            let two : a.name ≢ d.a.name = distinct.0 d.a d.there in
            (λ e. two (sym name ∙ sym e ∙ d.name_is), ids_apart first next h up a d.a two (known a.name) refl q d.id_is),
        refs_apart first (next_by (known a.name) next) asked h (omega (arith, further)) distinct.1 counts.1,
      )
