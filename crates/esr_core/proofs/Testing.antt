-- A verification of the container keeps the law: no test blob is needed by anything.
use Rattle.std.proofs.Common.{◌≡◌, ◌⊎◌, ℕ, suc, ◌<◌, List, [], ◌∷◌, Some, None, sym, ap, ◌∙◌, subst, inl, inr, arith}
use Rattle.std.specs.Cmp.Lexicographic.{nat_list_cmp_total}
use Rattle.std.specs.FinMap as fin
use Rattle.esr_model.specs.Names.{BlobName, Root, ShardSnap, TestMaster, TestNode}
use Rattle.esr_model.specs.Values.{Bytes, Formats}
use Rattle.esr_model.specs.Shelf.{Shelved}
use Rattle.esr_model.specs.Kept.{IdsBelow}
use Rattle.esr_model.specs.Image.{Blobs, At}
use Rattle.esr_core.specs.World.{World, Ticket, HeldIn, Safely, ledger_of}
use Rattle.esr_core.specs.Restores.{IsTestOf}
use Rattle.esr_core.specs.Swaps.{TicketLaw}
use Rattle.esr_core.specs.Sound.{Sound}
use Rattle.esr_core.specs.Queue.{Lawful}
use Rattle.esr_core.specs.Texts.{IsMetaOf}
use Rattle.esr_core.specs.Ids.{OfUuid, OfId, DoomedIds, IdsIn, Law}
use Rattle.esr_core.specs.Turns.{DrawTest, AddTest, TestTurn, DrawsTest, AddsTest, RemovesTests}
use Rattle.esr_core.specs.Laws.Maps.{get_was, texts_same}
use Rattle.esr_core.specs.Laws.OneValue.{held_one}
use Rattle.esr_core.proofs.Reading.{safely_one}
use Rattle.esr_core.specs.Laws.BlobFrames.{stands_kept, at_kept, at_was}
use Rattle.esr_core.proofs.Frames.{picked_kept, swap_kept}
use Rattle.esr_core.proofs.Grows.{carried_kept}
use Rattle.esr_core.proofs.Removes.{removed}
use Rattle.esr_core.proofs.Below.{ids_up, ids_blobs, ids_doom}

-- ---- the name of a test blob

test_below : (v : ℕ) (name : BlobName) (c : ℕ) → IsTestOf v name → v < c → IdsBelow name c
test_below v (ShardSnap i k u) c t b = absurd t
test_below v (TestMaster u) c t b = subst (λ x. x < c) (sym t) b
test_below v (TestNode u n) c t b = subst (λ x. x < c) (sym t) b
test_below v name c t b = absurd t

test_uuid : (v : ℕ) (name : BlobName) (u : ℕ) → IsTestOf v name → OfUuid name u → ⊥
test_uuid v (ShardSnap i k x) u t o = t
test_uuid v (TestMaster x) u t o = o
test_uuid v (TestNode x n) u t o = o
test_uuid v name u t o = t

test_id : (v : ℕ) (name : BlobName) (u : ℕ) → IsTestOf v name → OfId name u → ⊥
test_id v (ShardSnap i k x) u t o = t
test_id v (TestMaster x) u t o = o
test_id v (TestNode x n) u t o = o
test_id v name u t o = t

pub test_meta : (v u : ℕ) (name : BlobName) → IsTestOf v name → IsMetaOf u name → ⊥
test_meta v u name t m = elim m [
  | inl e ↦ subst (IsTestOf v) e t
  | inr h ↦ elim h [ inl e ↦ subst (IsTestOf v) e t | inr z ↦ subst (IsTestOf v) z.1 t ]
]

-- ---- a test blob more

module _ (f : Formats) (w : World) (shelf : List Shelved) (l : Law f w shelf) (name : BlobName) (bytes : Bytes) (new : World) (a : AddTest f w name bytes new) where
  abbrev more : Blobs
  more = fin.insert w.blobs (f.names.text name) bytes

  abbrev doomed : List BlobName
  doomed = name ∷ w.doomed

  abbrev now : BlobName → Bytes → Type 0
  now = Safely f (fin.insert w.blobs (f.names.text name) bytes) (name ∷ w.doomed)

  none_is : (b : Bytes) → Some b ≡ None → ⊥
  none_is b e = cc

  keeps : (m : BlobName) (b : Bytes) → HeldIn f w m b → now m b
  keeps m b h = (
    at_kept f w.blobs name bytes a.named a.absent [] m b h.0,
    λ d. elim d [ inl e ↦ none_is b (sym h.0.0 ∙ ap (λ n. fin.get w.blobs (f.names.text n)) (sym e) ∙ a.absent) | inr was ↦ h.1 was ],
  )

  no_root : (n : ℕ) → name ≡ Root n → ⊥
  no_root n e = subst (IsTestOf a.id) e a.test

  ticket : (u : Ticket) → TicketLaw f (HeldIn f w) w.doomed (ledger_of w) shelf u → TicketLaw f now doomed (ledger_of w) shelf u
  ticket u t =
      record {
        term = t.term;
        raised = t.raised;
        last = t.last;
        shape = t.shape;
        clean = λ s i c m b own d. elim d [ inl e ↦ (t.shape s i.is).no_test a.id m b own (subst (IsTestOf a.id) e a.test) | inr was ↦ t.clean s i c m b own was ];
        listed = t.listed;
        clean_root = λ n r above d. elim d [ inl e ↦ no_root n e | inr was ↦ t.clean_root n r above was ];
        swaps = λ s i c. swap_kept f (HeldIn f w) now keeps shelf u.noted s (t.swaps s i c);
      }

  added_sound : Sound f (record w { blobs = fin.insert w.blobs (f.names.text name) bytes; doomed = name ∷ w.doomed }) shelf
  added_sound =
      let sound = l.lawful.sound in
      let kept = sound.rooted.kept in
      record {
        rooted = record {
          kept = record {
            ordered = kept.ordered;
            picked = picked_kept f (HeldIn f w) now keeps w.safe shelf kept.picked;
            begun = λ n p. elim (at_was f w.blobs name bytes a.named a.absent [] (Root n) p.0 p.1) [ inl e ↦ absurd (no_root n (sym e.0)) | inr e ↦ kept.begun n (p.0, e) ];
            whole =
                λ n p above. elim (at_was f w.blobs name bytes a.named a.absent [] (Root n) p.0 p.1) [ inl e ↦ absurd (no_root n (sym e.0)) | inr e ↦ let h = kept.whole n (p.0, e) above in (h.0, stands_kept f (HeldIn f w) now keeps n h.0 h.1) ];
            named = λ text b there. elim (get_was nat_list_cmp_total texts_same w.blobs (f.names.text name) bytes text b there) [ inl e ↦ (name, sym e.0, a.named.0) | inr e ↦ kept.named text b e.1 ];
          };
          doomed_begun = λ n d. elim d [ inl e ↦ absurd (no_root n e) | inr was ↦ sound.rooted.doomed_begun n was ];
          tickets = λ j u e. ticket u (sound.rooted.tickets j u e);
          single = sound.rooted.single;
        };
        carried = carried_kept f (HeldIn f w) now (safely_one f more doomed) (held_one f w) keeps w.safe w.term w.root shelf kept.picked w.ops w.tickets sound.carried;
        fresh = sound.fresh;
      }

  added_lawful : Lawful f new shelf
  added_lawful = subst (λ x. Lawful f x shelf) (sym a.new_is) (record { sound = added_sound; queue = l.lawful.queue })

  doomed_ids : DoomedIds w.next_id w.ops w.tickets name
  doomed_ids = record { below = test_below a.id name w.next_id a.test a.drawn; uuids = λ o op e. test_uuid a.id name op.uuid a.test; ids = λ k t e out shard id drew. test_id a.id name id a.test }

  added_ids : IdsIn f new
  added_ids = subst (IdsIn f) (sym a.new_is)
      (ids_doom f w.next_id more w.doomed w.root w.ops w.tickets
      (ids_blobs f w.next_id w.blobs w.doomed w.root w.ops w.tickets l.ids more (λ m p. elim (at_was f w.blobs name bytes a.named a.absent [] m p.0 p.1) [
        | inl e ↦ inr (subst (λ n. IdsBelow n w.next_id) (sym e.0) (test_below a.id name w.next_id a.test a.drawn))
        | inr e ↦ inl (p.0, e)
      ]))
      (name ∷ []) (λ m d. elim d [ inl e ↦ subst (DoomedIds w.next_id w.ops w.tickets) e doomed_ids | inr was ↦ l.ids.doomed m was ]))

  -- a metadata name that is there was there
  added_meta : (m : BlobName) (b : Bytes) → At f more m b → At f w.blobs m b ⊎ ((u : ℕ) → IsMetaOf u m → ⊥)
  added_meta m b at = elim (at_was f w.blobs name bytes a.named a.absent [] m b at) [ inl e ↦ inr (λ u meta. test_meta a.id u name a.test (subst (IsMetaOf u) e.0 meta)) | inr e ↦ inl e ]

-- ---- an id drawn

module _ (f : Formats) (w : World) (shelf : List Shelved) (l : Law f w shelf) (new : World) (d : DrawTest w new) where
  drawn_lawful : Lawful f new shelf
  drawn_lawful =
      let sound = l.lawful.sound in
      subst (λ x. Lawful f x shelf) (sym d.new_is) (record {
        sound = record {
          rooted = record { kept = sound.rooted.kept; doomed_begun = sound.rooted.doomed_begun; tickets = sound.rooted.tickets; single = sound.rooted.single };
          carried = sound.carried;
          fresh = sound.fresh;
        };
        queue = l.lawful.queue;
      })

  drawn_ids : IdsIn f new
  drawn_ids = subst (IdsIn f) (sym d.new_is) (ids_up f w.next_id (suc w.next_id) (omega arith) w.blobs w.doomed w.root w.ops w.tickets l.ids)

-- ---- each turn

pub tests_lawful : (f : Formats) (w : World) (shelf : List Shelved) → Law f w shelf → (new : World) → TestTurn f w new → Lawful f new shelf
tests_lawful f w shelf l new (DrawsTest m d) = drawn_lawful f w shelf l m d
tests_lawful f w shelf l new (AddsTest m name bytes a) = added_lawful f w shelf l name bytes m a
tests_lawful f w shelf l new (RemovesTests m names r) = subst (λ x. Lawful f x shelf) (sym r.new_is) (record { sound = removed f w shelf names l.lawful.sound r.doomed r.now r.removes; queue = l.lawful.queue })

pub tests_ids : (f : Formats) (w : World) (shelf : List Shelved) → Law f w shelf → (new : World) → TestTurn f w new → IdsIn f new
tests_ids f w shelf l new (DrawsTest m d) = drawn_ids f w shelf l m d
tests_ids f w shelf l new (AddsTest m name bytes a) = added_ids f w shelf l name bytes m a
tests_ids f w shelf l new (RemovesTests m names r) = subst (IdsIn f) (sym r.new_is) (ids_blobs f w.next_id w.blobs w.doomed w.root w.ops w.tickets l.ids r.now (λ name p. inl (p.0, (r.removes.left (f.names.text name) p.0 p.1.0, p.1.1))))

pub tests_meta : (f : Formats) (w : World) (shelf : List Shelved) → Law f w shelf → (name : BlobName) (bytes : Bytes) (new : World) → AddTest f w name bytes new → (m : BlobName) (b : Bytes)
    → At f (fin.insert w.blobs (f.names.text name) bytes) m b → At f w.blobs m b ⊎ ((u : ℕ) → IsMetaOf u m → ⊥)
tests_meta f w shelf l name bytes new a m b at = added_meta f w shelf l name bytes new a m b at
