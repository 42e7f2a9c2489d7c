-- A snapshot of the index `logs` may be finalized in a root that has neither its name nor its uuid, and no other index like it.
use Rattle.std.proofs.Common.{◌≡◌, ◌≢◌, ℕ, ◌+◌, ◌^◌, ◌<◌, ◌==◌, Bool, true, false, not, if◌then◌else◌, List, [], ◌∷◌, map, None, codes, refl, sym, ap, ◌∙◌, subst, arith, inl, inr}
use Rattle.std.specs.List.{list_any}
use Rattle.std.specs.Str.{bytes_eq}
use Rattle.std.proofs.lemmas.Slice.Eq.{bytes_eq-Decides}
use Rattle.std.proofs.lemmas.Bool.Decides.{eqb_tells}
use Rattle.std.proofs.lemmas.Bool.{or_parts}
use Rattle.esr_names.specs.NameRule.{name_fault, snap_name_fault}
use Rattle.esr_names.specs.declared.ids.Id.{Id}
use Rattle.esr_names.specs.declared.index_ref.IndexRef.{IndexRef as Ref}
use Rattle.esr_names.specs.Indices.{AreRefs}
use Rattle.esr_meta.specs.Info.{Info, IsInfo}
use Rattle.esr_root.specs.Root.{Root}
use Rattle.esr_root.specs.declared.snaps.RootSnap.{RootSnap as CodeSnap}
use Rattle.esr_root.specs.declared.indices.RootIndex.{RootIndex as CodeIndex}
use Rattle.esr_formats.specs.Infos.{info_of_code}
use Rattle.esr_formats.specs.Roots.{root_of, root_snap_of, root_index_of}
use Rattle.esr_core.specs.Tracked.{IsOneIndex}
use Rattle.esr_model.specs.Values.{Bytes, Has, IndexRef, RootSnap, RootIndex}
use Rattle.esr_core.specs.Laws.DeleteRoots.{same_id}
use Rattle.esr_results.specs.declared.result.ShardResult.{ShardResult}
use Rattle.esr_newroot.specs.NewRoot.{MayFinalize}
use Rattle.esr_results.specs.Results.{result_of}
use Rattle.esr_test_lists.specs.Free.{takes_one, is_other}

abbrev pub logs_info : Bytes → Id → Info
logs_info name uuid =
    record { bytes = 0; files = 0; indices = record { id = record { number = 2 ^ 64 + 1 }; name = codes "logs"; shards = 1 } ∷ []; moment = 0; name = name; state = 1; uuid = uuid }

abbrev pub logs_results : Id → List ShardResult
logs_results generation = record { shard = record { index = record { number = 2 ^ 64 + 1 }; number = 0 }; generation = generation; files = 0; bytes = 0 } ∷ []

unlike : (a b : Bytes) → bytes_eq a b ≡ false → a ≢ b
unlike a b e same = let yes : bytes_eq a b ≡ true = (bytes_eq-Decides a b).1 same in let no : bytes_eq a b ≡ false = e in absurd cc

other : (m n : ℕ) → (m == n) ≡ false → m ≢ n
other m n e same = elim (eqb_tells m n) [ inl t ↦ (let yes : (m == n) ≡ true = t.0 in let no : (m == n) ≡ false = e in absurd cc) | inr t ↦ t.1 same ]

no_clash : (name : Bytes) (uuid : ℕ) (ss : List CodeSnap) → list_any (takes_one name uuid) ss ≡ false → (t : RootSnap) → Has (map root_snap_of ss) t → (t.name ≢ name) × (t.uuid ≢ uuid)
no_clash name uuid [] e t h = absurd h
no_clash name uuid (s ∷ ss) e t (inl same) =
    let h = or_parts (bytes_eq s.name name) (s.uuid.number == uuid) (or_parts (takes_one name uuid s) (list_any (takes_one name uuid) ss) e).0 in
    ((λ n. unlike s.name name h.0 (ap (λ (x : RootSnap). x.name) same ∙ n)), (λ n. other s.uuid.number uuid h.1 (ap (λ (x : RootSnap). x.uuid) same ∙ n)))
no_clash name uuid (s ∷ ss) e t (inr h) = no_clash name uuid ss (or_parts (takes_one name uuid s) (list_any (takes_one name uuid) ss) e).1 t h

one_by : (a b : Bool) → (if a then not b else b) ≡ false → a ≡ b
one_by true false e = absurd cc
one_by false true e = absurd cc
one_by a b e = refl

from_same : (m n : ℕ) → (m == n) ≡ true → m ≡ n
from_same m n e = elim (eqb_tells m n) [ inl t ↦ t.1 | inr t ↦ (let yes : (m == n) ≡ true = e in let no : (m == n) ≡ false = t.0 in absurd cc) ]

one_index : (x : CodeIndex) → is_other x ≡ false → IsOneIndex (codes "logs") (2 ^ 64 + 1) x.name x.id.number
one_index x e =
    let same : bytes_eq x.name (codes "logs") ≡ (x.id.number == 2 ^ 64 + 1) = one_by (bytes_eq x.name (codes "logs")) (x.id.number == 2 ^ 64 + 1) e in
    let decides = bytes_eq-Decides x.name (codes "logs") in
    record {
      one_name = λ i. sym (decides.0 (same ∙ same_id x.id.number (2 ^ 64 + 1) (sym i)));
      one_id = λ n. sym (from_same x.id.number (2 ^ 64 + 1) (sym same ∙ decides.1 (sym n)));
    }

no_other : (xs : List CodeIndex) → list_any is_other xs ≡ false → (x : RootIndex) → Has (map root_index_of xs) x → IsOneIndex (codes "logs") (2 ^ 64 + 1) x.name x.id
no_other [] e x h = absurd h
no_other (y ∷ xs) e x (inl same) = subst (λ (z : RootIndex). IsOneIndex (codes "logs") (2 ^ 64 + 1) z.name z.id) same (one_index y (or_parts (is_other y) (list_any is_other xs) e).0)
no_other (y ∷ xs) e x (inr h) = no_other xs (or_parts (is_other y) (list_any is_other xs) e).1 x h

pub may_finalize : (root : Root) (info : Info) (results : List ShardResult) (name : Bytes) (uuid generation : Id) → list_any (takes_one name uuid.number) root.snapshots ≡ false → list_any is_other root.indices ≡ false
    → info ≡ logs_info name uuid → results ≡ logs_results generation → MayFinalize (root_of root) (info_of_code info) (map result_of results)
may_finalize root info results name uuid generation free alone i r =
    subst (λ (a : Info). MayFinalize (root_of root) (info_of_code a) (map result_of results)) (sym i)
    (subst (λ (rs : List ShardResult). MayFinalize (root_of root) (info_of_code (logs_info name uuid)) (map result_of rs)) (sym r)
    (record { unlisted = no_clash name uuid.number root.snapshots free; indices = named; each = refl }))
  where
    named : (q : IndexRef) (x : RootIndex) → Has (info_of_code (logs_info name uuid)).indices q → Has (root_of root).indices x → IsOneIndex q.name q.id x.name x.id
    named q x (inr h) hx = absurd h
    named q x (inl e) hx = subst (λ (p : IndexRef). IsOneIndex p.name p.id x.name x.id) e (no_other root.indices alone x hx)

pub info_is : (refs : List Ref) (name text : Bytes) (uuid : Id) → refs ≡ record { id = record { number = 2 ^ 64 + 1 }; name = codes "logs"; shards = 1 } ∷ [] → name ≡ text → snap_name_fault text ≡ None → uuid.number < 2 ^ 128
    → IsInfo (record { bytes = 0; files = 0; indices = refs; moment = 0; name = name; state = 1; uuid = uuid })
unfolding name_fault
info_is refs name text uuid e same good small = record {
  bytes = omega arith;
  files = omega arith;
  indices = subst (AreRefs []) (sym e) (record { id = omega arith; name = refl; least = omega arith; most = omega arith }, refl, tt);
  moment = omega arith;
  name = subst (λ (n : Bytes). snap_name_fault n ≡ None) (sym same) good;
  state = omega arith;
  uuid = small;
}
