-- The op of a clone that is accepted: its indices are those of its source, and it draws its uuid alone.
use Rattle.std.proofs.Common.{◌≡◌, ℕ, List, [], ◌∷◌, map, Some, sym, ap, ◌∙◌, subst, inl, inr}
use Rattle.std.proofs.lemmas.Option.{same_Some, none-some}
use Rattle.std.proofs.lemmas.Bool.{cond-true, cond-false}
use Rattle.esr_model.specs.Values.{Bytes, Has, IndexRef}
use Rattle.esr_core.specs.World.{ShardWork, Pending}
use Rattle.esr_core.specs.After.{ref_by_name, and_ref, named_refs, chosen_refs, copied_shard}
use Rattle.esr_core.specs.Laws.Tests.{told, same_one}
use Rattle.esr_model.specs.Lists.{Has-mapped}

pub copied_pending : (ps : List (IndexRef × ℕ)) (s : ShardWork) → Has (map copied_shard ps) s → s.state ≡ Pending
copied_pending ps s m = let (p, there, e) = Has-mapped copied_shard ps s m in ap (λ (x : ShardWork). x.state) (sym e)

-- ---- the indices that it takes

pub by_name : (all : List IndexRef) (name : Bytes) (r : IndexRef) → ref_by_name all name ≡ Some r → Has all r × (r.name ≡ name)
by_name [] name r is = absurd (none-some r is)
by_name (q ∷ all) name r is = elim (same_one q.name name) [
  | inl h ↦ let same : q ≡ r = same_Some q r (sym (cond-true _ _ _ h.0) ∙ is) in (inl same, ap (λ (x : IndexRef). x.name) (sym same) ∙ h.1)
  | inr h ↦ let (m, e) = by_name all name r (sym (cond-false _ _ _ h) ∙ is) in (inr m, e)
]

-- each is one of all, and of one of the names
pub named_is : (all : List IndexRef) (names : List Bytes) (r : IndexRef) → Has (named_refs all names) r → Has all r × Has names r.name
named_is all [] r m = absurd m
named_is all (name ∷ names) r m = elim (told (ref_by_name all name)) [
  | inl none ↦ let h = named_is all names r (subst (λ o. Has (and_ref o (named_refs all names)) r) none m) in (h.0, inr h.1)
  | inr found ↦ first found.0 (by_name all name found.0 found.1) (subst (λ o. Has (and_ref o (named_refs all names)) r) found.1 m) (named_is all names r)
]
  where
    first : (q : IndexRef) → Has all q × (q.name ≡ name) → Has (q ∷ named_refs all names) r → (Has (named_refs all names) r → Has all r × Has names r.name) → Has all r × Has (name ∷ names) r.name
    first q h (inl e) rest = (subst (Has all) e h.0, inl (sym h.1 ∙ ap (λ (x : IndexRef). x.name) e))
    first q h (inr n) rest = let g = rest n in (g.0, inr g.1)

pub chosen_among : (all : List IndexRef) (names : List Bytes) (r : IndexRef) → Has (chosen_refs all names) r → Has all r
chosen_among all [] r m = m
chosen_among all (name ∷ names) r m = (named_is all (name ∷ names) r m).0
