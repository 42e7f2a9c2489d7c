-- What a delete that is asked for makes of the open ops, and that the history tells which of them it aborts.
use Rattle.std.proofs.Common.{◌≡◌, ◌⊎◌, ℕ, Bool, true, true≢false, not, ◌||◌, ◌==◌, List, [], ◌∷◌, Option, Some, None, refl, sym, ap, ◌∙◌, subst, inl, inr}
use Rattle.std.specs.Prelude.{option_map}
use Rattle.std.specs.FinMap as fin
use Rattle.std.proofs.lemmas.Bool.{eq-eqb, cases_Bool, cond-true, cond-false, and_parts, and_from, not-true, or_right}
use Rattle.std.proofs.lemmas.Option.{same_Some, none-some}
use Rattle.esr_core.specs.Laws.NumberMaps.{split_at}
use Rattle.esr_model.specs.Values.{Bytes, Has, Formats}
use Rattle.esr_model.specs.Shelf.{Shelved, names_uuid}
use Rattle.esr_core.specs.World.{World, Op, Work, Finalize, Deleting, Ticket}
use Rattle.esr_core.specs.Deletes.{named_uuids, has_op, is_swap, swaps_op, is_swapped, is_unaborted, aborts_op, aborting, aborted_ops}
use Rattle.esr_core.specs.Ids.{Law}
use Rattle.esr_core.specs.Allowed.{IsNameOf}
use Rattle.esr_core.specs.Laws.AbortLaws.{aborted_at}
use Rattle.esr_core.specs.Laws.Tests.{same_true, any_of}
use Rattle.esr_core.specs.Laws.DeleteAsks.{named_is, more_named}
use Rattle.esr_core.specs.Laws.DeleteRoots.{names_has}
use Rattle.esr_core.specs.Laws.Maps.{got_entry}
use Rattle.esr_report.specs.Replies.{has_name}
use Rattle.esr_complete.proofs.Following.{IsFinal, IsOutFinal}

-- ---- each op after it

module _ (w : World) (uuids : List ℕ) (by : ℕ) where
  abbrev now_at : ℕ → Op → Op
  now_at o op = (aborting w uuids by (o, op)).1

  get_at : (o : ℕ) → fin.get (aborted_ops w uuids by) o ≡ option_map (now_at o) (fin.get w.ops o)
  get_at o = aborted_at w uuids by o

  -- it was open, and is as it was, or the delete aborts it
  pub was_op : (o : ℕ) (op : Op) → fin.get (aborted_ops w uuids by) o ≡ Some op → (old : Op) × (fin.get w.ops o ≡ Some old) × ((op ≡ old) ⊎ ((op ≡ record old { aborted = Some by }) × (aborts_op w uuids (o, old) ≡ true)))
  was_op o op e = found (fin.get w.ops o) refl (sym (get_at o) ∙ e)
    where
      found : (was : Option Op) → fin.get w.ops o ≡ was → option_map (now_at o) was ≡ Some op
          → (old : Op) × (fin.get w.ops o ≡ Some old) × ((op ≡ old) ⊎ ((op ≡ record old { aborted = Some by }) × (aborts_op w uuids (o, old) ≡ true)))
      found None is h = absurd (none-some op h)
      found (Some old) is h =
          let now : op ≡ now_at o old = sym (same_Some _ _ h) in (
            old,
            is,
            elim (cases_Bool (aborts_op w uuids (o, old))) [
              | inl b ↦ let as_now : aborting w uuids by (o, old) ≡ (o, record old { aborted = Some by }) = cond-true _ _ _ b in inr (now ∙ ap (λ (e : ℕ × Op). e.1) as_now, b)
              | inr b ↦ let as_now : aborting w uuids by (o, old) ≡ (o, old) = cond-false _ _ _ b in inl (now ∙ ap (λ (e : ℕ × Op). e.1) as_now)
            ],
          )

  -- and each that was open is
  pub is_op : (o : ℕ) (old : Op) → fin.get w.ops o ≡ Some old → (op : Op) × (fin.get (aborted_ops w uuids by) o ≡ Some op)
  is_op o old e = (now_at o old, get_at o ∙ ap (option_map (now_at o)) e)

-- ---- which ones it aborts

final_swap : (work : Work) → IsFinal work → is_swap work ≡ true
final_swap (Finalize info results made) m = refl
final_swap (Deleting uuids plan) m = refl
final_swap work m = absurd m

-- none of which a finalization is out
pub not_out : (w : World) (uuids : List ℕ) (o : ℕ) (op : Op) (k : ℕ) (t : Ticket) → aborts_op w uuids (o, op) ≡ true → fin.get w.tickets k ≡ Some t → t.term ≡ w.term → t.op ≡ o → IsOutFinal t → ⊥
not_out w uuids o op k t aborts there present of is =
    let parts = and_parts (is_unaborted op.aborted) (not (is_swapped w o)) (and_parts (names_uuid uuids op.uuid) _ aborts).1 in
    let swaps : swaps_op w.term o (k, t) ≡ true =
    and_from (has_op w.term o (k, t)) _ (and_from t.out _ is.out (and_from (t.term == w.term) (t.op == o) (eq-eqb _ _ present) (eq-eqb _ _ of))) (and_from (not t.settled) _ (ap not is.unsettled) (final_swap t.work is.final)) in
    true≢false (sym (any_of (swaps_op w.term o) (fin.entries w.tickets) (k, t) (got_entry w.tickets k t there) swaps) ∙ not-true (is_swapped w o) parts.1)

named_has : (names : List Bytes) (name : Bytes) → Has names name → has_name names name ≡ true
named_has [] name m = absurd m
named_has (x ∷ names) name (inl same) = ap (λ (b : Bool). b || has_name names name) (same_true x name same)
named_has (x ∷ names) name (inr m) = or_right _ (has_name names name) (named_has names name m)

-- and only such as it names by their name
pub names_it : (f : Formats) (w : World) (shelf : List Shelved) → Law f w shelf → (names : List Bytes) (o : ℕ) (op : Op) → fin.get w.ops o ≡ Some op → aborts_op w (named_uuids w names) (o, op) ≡ true → has_name names op.name ≡ true
names_it f w shelf law names o op there aborts =
    let m = more_named w names [] in
    let (name, has, e) = m.from op.uuid (subst (λ (us : List ℕ). Has us op.uuid) m.is (names_has (named_uuids w names) op.uuid (and_parts (names_uuid (named_uuids w names) op.uuid) _ aborts).0)) in
    named_has names op.name (subst (Has names) (same name (named_is w name op.uuid e)) has)
  where
    same : (name : Bytes) → IsNameOf w name op.uuid → name ≡ op.name
    same name (inl s) = absurd ((law.lawful.sound.carried.ops o op there).unlisted s.0 s.1 s.3)
    same name (inr q) = elim (split_at q.0 o) [
      | inl one ↦ sym q.3 ∙ ap (λ (x : Op). x.name) (same_Some q.1 op (sym q.2 ∙ ap (fin.get w.ops) one ∙ there))
      | inr apart ↦ absurd ((law.lawful.sound.carried.together q.0 o q.1 op apart q.2 there).uuids q.4)
    ]
