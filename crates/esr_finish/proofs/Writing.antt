-- A ticket whose swap's blobs are put one after another.
use Rattle.std.proofs.Common.{◌≡◌, ◌≢◌, inl, inr, ⊎_elim, ℕ, Bool, true, false, List, [], ◌∷◌, ◌++◌, Some, None, refl, sym, ap, ◌∙◌, subst, true≢false}
use Rattle.std.specs.Prelude.{if◌then◌else◌}
use Rattle.esr_model.specs.Lists.{Has-left, Has-right}
use Rattle.esr_model.specs.Names.{BlobName, Root, Latest}
use Rattle.esr_model.specs.Values.{Bytes, Has, RootData}
use Rattle.esr_core.specs.World.{Ticket, Swap}
use Rattle.esr_core.specs.Allowed.{IsMetadata}
use Rattle.esr_depot.specs.declared.depot.Commit.{Commit}
use Rattle.esr_depot.specs.declared.depot.Commit.TheVariants as commits
use Rattle.esr_desk.specs.Start.{Start, formats_of, told_bytes}
use Rattle.esr_desk.specs.Conditions.{CanCommit}
use Rattle.esr_desk.specs.Taken.{committed_by}
use Rattle.esr_finish.specs.Blobs.{root_blob}
use Rattle.esr_finish.specs.Ticket.{HasSwap, MayStore, MayPut, MayPutRoot, noted_with, Wrote, raised_to}
use Rattle.esr_finish.specs.Went.{Worked}
use Rattle.esr_finish.specs.SwapBlobs.{swaps_no_shard}

-- a ticket that has worked has its swap still
pub swap_stays : (s : Start) (a b : Ticket) (change : Swap) → Worked a b → HasSwap s a change → HasSwap s b change
swap_stays s a b change worked has = subst (λ (t : Ticket). HasSwap s t change) (sym worked.is) (record { out = has.out; is = has.is; unsettled = has.unsettled })

-- ---- one blob

may_commit : (s : Start) (t : Ticket) (b : BlobName × Bytes) → MayPut s t (b ∷ []) → b.0 ≢ Latest → IsMetadata b.0 → CanCommit s t b.0 b.1
may_commit s t b may stored metadata = record {
  out = may.1.out;
  unsettled = may.1.unsettled;
  may = inl (may.0, may.1.is, inl (may.2 b (inl refl)));
  stored = stored;
  once = λ other. absurd (other metadata);
  numbered = λ index number shard. absurd (swaps_no_shard (formats_of s) t.work t.root may.0 may.1.is index number shard);
  late = λ uuids plan deletes clean. absurd (true≢false (sym clean ∙ may.3));
}

told_wrote : (tells : Bool) (name : BlobName) (bytes : Bytes) (done : Commit) (t : Ticket) → Wrote t (committed_by name (if tells then Some bytes else None) done t) ((name, bytes) ∷ [])
told_wrote true name bytes commits.Done t = record { wrote = (name, bytes) ∷ t.wrote; from = λ b has. ⊎_elim (λ same. inr (inl same)) (λ before. inl before) has; is = refl }
told_wrote true name bytes commits.Exists t = record { wrote = t.wrote; from = λ b has. inl has; is = refl }
told_wrote false name bytes commits.Done t = record { wrote = t.wrote; from = λ b has. inl has; is = refl }
told_wrote false name bytes commits.Exists t = record { wrote = t.wrote; from = λ b has. inl has; is = refl }

-- what the ticket is once it was committed
pub wrote_one : (s : Start) (name : BlobName) (bytes : Bytes) (done : Commit) (a b : Ticket) → b ≡ committed_by name (told_bytes s bytes) done a → Wrote a b ((name, bytes) ∷ [])
wrote_one s name bytes done a b is = subst (λ (t : Ticket). Wrote a t ((name, bytes) ∷ [])) (sym is) (told_wrote s.tells name bytes done a)

-- so may the bytes that the code makes of it, under the code's name
pub may_store : (s : Start) (t : Ticket) (b : BlobName × Bytes) (name : BlobName) (bytes : Bytes) → ◌≡◌ {A = BlobName × Bytes} (name, bytes) b → MayPut s t (b ∷ []) → b.0 ≢ Latest → IsMetadata b.0 → MayStore s t name bytes
may_store s t b name bytes is may stored metadata = (bytes, refl, subst (λ (x : BlobName × Bytes). CanCommit s t x.0 x.1) (sym is) (may_commit s t b may stored metadata))

-- the root of the swap, under the generation that was raised
pub root_commits : (s : Start) (a b : Ticket) (root : RootData) (n : ℕ) (text : Bytes) → MayPutRoot s a root → b ≡ raised_to a n → text ≡ (root_blob (formats_of s) n root).1 → CanCommit s b (Root n) text
root_commits s a b root n text may is text_is =
    subst (λ (t : Ticket). CanCommit s t (Root n) text) (sym is) (record {
      out = may.swaps.out;
      unsettled = may.swaps.unsettled;
      may = inl (
        may.change,
        may.swaps.is,
        inr (
          n,
          refl,
          record {
            unsettled = may.swaps.unsettled;
            raised = refl;
            text = text_is ∙ ap (λ (r : RootData). (root_blob (formats_of s) n r).1) may.root_is;
            ready = may.noted;
          },
        ),
      );
      stored = λ same. cc;
      once = λ other has. may.unnoted n has;
      numbered = λ index number shard. absurd (swaps_no_shard (formats_of s) a.work a.root may.change may.swaps.is index number shard);
      late = λ uuids plan deletes clean. inr (n, refl);
    })

pub may_put_some : (s : Start) (t : Ticket) (all some : List (BlobName × Bytes)) → MayPut s t all → ((b : BlobName × Bytes) → Has some b → Has all b) → MayPut s t some
may_put_some s t all some may each = (may.0, may.1, (λ b has. may.2 b (each b has)), may.3)

pub may_put_on : (s : Start) (a b : Ticket) (blobs : List (BlobName × Bytes)) → Worked a b → MayPut s a blobs → MayPut s b blobs
may_put_on s a b blobs worked may = (may.0, swap_stays s a b may.0 worked may.1, may.2, ap (λ (t : Ticket). t.clean) worked.is ∙ may.3)

noted_with-append : (xs ys : List (BlobName × Bytes)) (noted : List BlobName) → noted_with (xs ++ ys) noted ≡ noted_with ys (noted_with xs noted)
noted_with-append [] ys noted = refl
noted_with-append (x ∷ xs) ys noted = noted_with-append xs ys (x.0 ∷ noted)

pub wrote_on : (a b c : Ticket) (xs ys : List (BlobName × Bytes)) → Wrote a b xs → Wrote b c ys → Wrote a c (xs ++ ys)
wrote_on a b c xs ys first second = record {
  wrote = second.wrote;
  from = λ x has. ⊎_elim
      (λ before. ⊎_elim (λ old. inl old) (λ one. inr (Has-left xs ys x one)) (first.from x (subst (λ (t : Ticket). Has t.wrote x) first.is before)))
      (λ one. inr (Has-right xs ys x one))
      (second.from x has);
  is =
      second.is
      ∙ ap (λ (t : Ticket). record t { noted = noted_with ys t.noted; wrote = second.wrote }) first.is
      ∙ ap (λ (noted : List BlobName). record a { noted = noted; wrote = second.wrote }) (sym (noted_with-append xs ys a.noted));
}

-- no blob
pub wrote_none : (t : Ticket) → Wrote t t []
wrote_none t = record { wrote = t.wrote; from = λ b has. inl has; is = refl }
