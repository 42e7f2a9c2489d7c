-- The op of a clone that is accepted: its indices are those of its source, and it draws its uuid alone.
use Rattle.std.proofs.Common.{◌≡◌, ℕ, suc, ◌+◌, ◌<◌, List, [], ◌∷◌, Option, map, refl, sym, ap, ◌∙◌, subst, inl, inr, arith}
use Rattle.std.proofs.lemmas.Option.{same_Some}
use Rattle.esr_core.specs.Laws.Tests.{told}
use Rattle.esr_model.specs.Values.{Bytes, Has, IndexRef, RootIndex, Formats}
use Rattle.esr_model.specs.Shelf.{Shelved}
use Rattle.esr_model.specs.Kept.{first_id}
use Rattle.esr_model.specs.Places.{places}
use Rattle.esr_model.specs.Image.{Image, At}
use Rattle.esr_core.specs.World.{World, ShardWork}
use Rattle.esr_core.specs.Generations.{AreNamedOnce, AreIndicesBy}
use Rattle.esr_core.specs.Restores.{AreOnce, AreApart}
use Rattle.esr_core.specs.Queue.{Lists}
use Rattle.esr_core.specs.Ids.{Law}
use Rattle.esr_core.specs.Turns.{AskCreate}
use Rattle.esr_core.specs.Entry.{CloneOf}
use Rattle.esr_core.specs.After.{ref_by_name, and_ref, named_refs, chosen_refs, copied_shard, cloned_op, clone_opened}
use Rattle.esr_core.specs.Allowed.{IsSpared, IsInInfo, AcceptsClone}
use Rattle.esr_model.specs.Lists.{Has-mapped}
use Rattle.esr_core.specs.Laws.CloneOps.{copied_pending, by_name, named_is, chosen_among}
use Rattle.esr_core.proofs.Chosen.{apart-once}

-- ---- the indices that a clone takes

once_named : (all : List IndexRef) (names : List Bytes) → AreOnce names → AreOnce (named_refs all names)
once_named all [] h = tt
once_named all (name ∷ names) h = elim (told (ref_by_name all name)) [
  | inl none ↦ subst (λ o. AreOnce (and_ref o (named_refs all names))) (sym none) (once_named all names h.1)
  | inr found ↦ subst (λ o. AreOnce (and_ref o (named_refs all names))) (sym found.1)
      (λ m. h.0 (subst (Has names) (by_name all name found.0 found.1).1 (named_is all names found.0 m).1), once_named all names h.1)
]

once_chosen : (all : List IndexRef) (names : List Bytes) → AreOnce all → AreOnce names → AreOnce (chosen_refs all names)
once_chosen all [] all_once once = all_once
once_chosen all (name ∷ names) all_once once = once_named all (name ∷ names) once

-- ---- its shards

abbrev pub place_of : ShardWork → IndexRef × ℕ
place_of s = (s.ref, s.number)

pub copied_places : (ps : List (IndexRef × ℕ)) → map place_of (map copied_shard ps) ≡ ps
copied_places [] = refl
copied_places (p ∷ ps) = ap (λ (qs : List (IndexRef × ℕ)). p ∷ qs) (copied_places ps)

pub copied_one : (ps : List (IndexRef × ℕ)) (s z : ShardWork) → Has (map copied_shard ps) s → Has (map copied_shard ps) z → s.ref ≡ z.ref → s.number ≡ z.number → s ≡ z
copied_one ps s z sm zm ref number =
    let (p, p_there, p_is) = Has-mapped copied_shard ps s sm in
    let (q, q_there, q_is) = Has-mapped copied_shard ps z zm in
    let refs : p.0 ≡ q.0 = ap (λ (x : ShardWork). x.ref) p_is ∙ ref ∙ ap (λ (x : ShardWork). x.ref) (sym q_is) in
    let numbers : p.1 ≡ q.1 = ap (λ (x : ShardWork). x.number) p_is ∙ number ∙ ap (λ (x : ShardWork). x.number) (sym q_is) in
    sym p_is ∙ (λ j. copied_shard (refs j, numbers j)) ∙ q_is

-- ---- what is accepted

module _ (f : Formats) (w : World) (source name : Bytes) (names : List Bytes) (moment o : ℕ) (taken : CloneOf) (image : Option Image) (a : AcceptsClone f w source name names moment o taken image) where
  among : (r : IndexRef) → Has taken.indices r → Has a.all r
  among r m = chosen_among a.all names r (subst (λ (refs : List IndexRef). Has refs r) a.chosen_is m)

  -- each index is one of the root
  pub clone_root : (r : IndexRef) → Has taken.indices r → (x : RootIndex) × Has w.root.indices x × (x.name ≡ r.name) × (x.id ≡ r.id) × Has x.snapshots taken.source
  clone_root r m = a.all_of.within.listed r (among r m)

  pub clone_named : (r q : IndexRef) → Has taken.indices r → Has taken.indices q → r.name ≡ q.name → r ≡ q
  clone_named r q m n e = a.named_once r q (among r m) (among q n) e

  -- it is a clone of a listed snapshot
  pub accepted_clone : (shelf : List Shelved) → Law f w shelf → IsInInfo f w taken.source a.all → AskCreate f w (cloned_op w name moment taken) (clone_opened w name moment taken)
  accepted_clone shelf l info =
      let next : suc w.next_id ≡ w.next_id + 1 = omega arith in
      record {
        no_cleanup = a.may.copies.named.no_cleanup;
        pending = copied_pending (places taken.indices);
        unfailed = refl;
        texts = a.texts;
        places = copied_places (places taken.indices);
        one_name = clone_named;
        one_new = λ r q m n new e. absurd (let b : r.id < w.next_id = below r m in omega (arith, b, new));
        distinct = copied_one (places taken.indices);
        source = λ u e. subst (λ x. Lists w.root x × IsSpared w x) (same_Some _ _ e) ((a.may.copies.listed.0, a.may.copies.listed.1, a.may.copies.listed.3), a.may.copies.spared);
        copies = λ u e. subst (λ x. AreIndicesBy f (At f w.blobs) x taken.indices) (same_Some _ _ e) (record {
          info = info.0;
          info_reads = info.1;
          apart = subst AreApart (sym info.2) a.all_of.within.apart;
          named_once = subst AreNamedOnce (sym info.2) a.named_once;
          among = λ r m. subst (λ (refs : List IndexRef). Has refs r) (sym info.2) (among r m);
          once = subst AreOnce (sym a.chosen_is) (once_chosen a.all names (apart-once a.all a.all_of.within.apart) a.once);
        });
        uuid_is = refl;
        drawn = 1;
        fits = subst (λ n. n < first_id (suc w.term)) next a.fits;
        some_drawn = omega arith;
        ids = λ r m. let (x, there, n, id, has) = clone_root r m in inl (x, there, n, id);
        new_is = λ j. record (clone_opened w name moment taken) { next_id = next j };
      }
    where
      -- an id of the root was drawn
      below : (r : IndexRef) → Has taken.indices r → r.id < w.next_id
      below r m = let (x, there, n, id, has) = clone_root r m in subst (λ i. i < w.next_id) id (l.ids.root.ids x there)
