-- A commit keeps the law, whether it is answered Done or fails.
use Rattle.std.proofs.Common.{◌≡◌, ℕ, ◌<◌, ◌≤◌, List, ◌∷◌, true, Some, None, sym, ap, ◌∙◌, subst, inl, inr, arith}
use Rattle.std.specs.FinMap as fin
use Rattle.std.proofs.lemmas.Option.{same_Some}
use Rattle.esr_core.specs.Laws.NumberMaps.{some_none}
use Rattle.esr_model.specs.Names.{BlobName, Root}
use Rattle.esr_model.specs.Values.{Bytes, Ledger, Formats}
use Rattle.esr_model.specs.Shelf.{Shelved, shelf_after}
use Rattle.esr_model.specs.Image.{IsStored, Blobs, Has, At, Whole, RootStands}
use Rattle.esr_core.specs.World.{World, Ticket, Swap, swap, ledger_of, HeldIn, Safely}
use Rattle.esr_core.specs.Steps.{CommitDone, CommitFault, MayCommit, ShardCommits, with_ticket, with_blob, writing}
use Rattle.esr_core.specs.Swaps.{Rooted, SwapLaw, TicketLaw, IsUnsettled, Counts, OrOwn}
use Rattle.esr_core.specs.Laws.BlobFrames.{root_kept, added, at_new}
use Rattle.esr_core.proofs.Adds.{now, safe_kept, kept_added, swap_added, ticket_added}
use Rattle.esr_core.proofs.Tickets.{each_ticket, swapping_was}

-- with its own blobs there, all that the root of a swap reaches is there
pub written : (f : Formats) (has : BlobName → Bytes → Type 0) (shelf : List Shelved) (names : List BlobName) (s : Swap) → SwapLaw f has shelf names s
    → ((m : BlobName) (b : Bytes) → Has s.own (m, b) → Has names m) → RootStands f has s.root (shelf_after shelf s.commands)
written f has shelf names s l ready = root_kept f (OrOwn has s.own) has there s.root (shelf_after shelf s.commands) l.staged
  where
    there : (m : BlobName) (b : Bytes) → OrOwn has s.own m b → has m b
    there m b (inl h) = h
    there m b (inr h) = l.noted m b h (ready m b h)

-- a new root by a ticket that is out is whole, where it is above the safe one
root_whole : (f : Formats) (blobs : Blobs) (ledger : Ledger) (shelf : List Shelved) (t : Ticket) (name : BlobName) (bytes : Bytes)
    (valid : IsStored f name) (absent : fin.get blobs (f.names.text name) ≡ None) (doomed : List BlobName) → TicketLaw f (Safely f blobs doomed) doomed ledger shelf t → t.out ≡ true → MayCommit f t name bytes
    → (n : ℕ) → name ≡ Root n → (n < ledger.pending) × (ledger.safe ≤ n → Whole f (now f blobs name bytes valid absent doomed) n)
root_whole f blobs ledger shelf t name bytes valid absent doomed l out (inr other) n e = absurd (subst (ShardCommits t) e other.1)
root_whole f blobs ledger shelf t name bytes valid absent doomed l out (inl (s, is, inr (m, named, new))) n e =
    let same : m ≡ n = root_same (sym named ∙ e) in
    let raised : t.raised ≡ Some n = new.raised ∙ ap Some same in (
      l.raised n raised,
      λ above.
          let law = l.swaps s (record { is = is; out = out; unsettled = new.unsettled }) (inr (n, raised, above)) in (
            shelf_after shelf s.commands,
            record {
              root = s.root;
              root_reads = record {
                bytes = bytes;
                there = (subst (λ x. At f (added f blobs name bytes valid absent doomed) x bytes) e (at_new f blobs name bytes valid absent doomed), l.clean_root n raised above);
                reads = ap f.root.read new.text ∙ (l.shape s is).root_back;
              };
              stands = root_kept f (Safely f blobs doomed) (now f blobs name bytes valid absent doomed) (safe_kept f blobs name bytes valid absent doomed) s.root
                  (shelf_after shelf s.commands) (written f (Safely f blobs doomed) shelf t.noted s law new.ready);
            },
          ),
    )
  where
    root_same : {a b : ℕ} → Root a ≡ Root b → a ≡ b
    root_same p = cc
root_whole f blobs ledger shelf t name bytes valid absent doomed l out (inl (s, is, inl own)) n e =
    absurd ((l.shape s is).no_root n bytes (subst (λ x. Has s.own (x, bytes)) e own))

-- the ticket that committed, with the name noted
mine : (f : Formats) (blobs : Blobs) (ledger : Ledger) (shelf : List Shelved) (t : Ticket) (name : BlobName) (bytes : Bytes)
    (valid : IsStored f name) (absent : fin.get blobs (f.names.text name) ≡ None) (doomed : List BlobName) → TicketLaw f (Safely f blobs doomed) doomed ledger shelf t → MayCommit f t name bytes
    → TicketLaw f (now f blobs name bytes valid absent doomed) doomed ledger shelf (writing t name bytes)
mine f blobs ledger shelf t name bytes valid absent doomed l may =
    record {
      term = l.term;
      raised = l.raised;
      shape = l.shape;
      clean_root = l.clean_root;
      listed = l.listed;
      clean = λ s i. l.clean s (record { is = i.is; out = i.out; unsettled = i.unsettled });
      last = λ s i. l.last s (record { is = i.is; out = i.out; unsettled = i.unsettled });
      swaps = λ s i c. noted_more s i.is (λ n r. l.clean s (record { is = i.is; out = i.out; unsettled = i.unsettled }) c n r) (above s (record { is = i.is; out = i.out; unsettled = i.unsettled }) c)
          (swap_added f blobs name bytes valid absent doomed shelf t.noted s (l.swaps s (record { is = i.is; out = i.out; unsettled = i.unsettled }) c));
    }
  where
    there : (s : Swap) → swap f t ≡ Some s → (m : BlobName) (b : Bytes) → Has s.own (m, b) → name ≡ m → At f (added f blobs name bytes valid absent doomed) m b
    there s is m b own e = elim may [
      | inl h ↦
          let same : h.0 ≡ s = same_Some _ _ (sym h.1 ∙ is) in
          elim h.2 [
            | inl mine ↦
                let text : bytes ≡ b = (l.shape s is).one_text m bytes b (subst (λ x. Has x (m, bytes)) (ap (λ (x : Swap). x.own) same) (subst (λ x. Has h.0.own (x, bytes)) e mine)) own in
                subst (λ x. At f (added f blobs name bytes valid absent doomed) x b) e (subst (At f (added f blobs name bytes valid absent doomed) name) text (at_new f blobs name bytes valid absent doomed))
            | inr root ↦ absurd ((l.shape s is).no_root root.0 b (subst (λ x. Has s.own (x, b)) (sym e ∙ root.1) own))
          ]
      | inr h ↦ absurd (some_none s (sym is ∙ h.0))
    ]

    root_there : (s : Swap) → swap f t ≡ Some s → (n : ℕ) → name ≡ Root n → At f (added f blobs name bytes valid absent doomed) (Root n) (f.root.text s.root)
    root_there s is n e = elim may [
      | inl h ↦
          let same : h.0 ≡ s = same_Some _ _ (sym h.1 ∙ is) in
          elim h.2 [
            | inl mine ↦ absurd ((l.shape s is).no_root n bytes (subst (λ x. Has x (Root n, bytes)) (ap (λ (x : Swap). x.own) same) (subst (λ x. Has h.0.own (x, bytes)) e mine)))
            | inr root ↦
                let text : bytes ≡ f.root.text s.root = root.2.text ∙ ap (λ (x : Swap). f.root.text x.root) same in
                subst (λ x. At f (added f blobs name bytes valid absent doomed) x (f.root.text s.root)) e (subst (At f (added f blobs name bytes valid absent doomed) name) text (at_new f blobs name bytes valid absent doomed))
          ]
      | inr h ↦ absurd (subst (ShardCommits t) e h.1)
    ]

    root_clean : (s : Swap) → swap f t ≡ Some s → ((n : ℕ) → t.raised ≡ Some n → ledger.safe ≤ n) → (n : ℕ) → name ≡ Root n → Has doomed (Root n) → ⊥
    root_clean s is above n e = elim may [
      | inl h ↦
          let same : h.0 ≡ s = same_Some _ _ (sym h.1 ∙ is) in
          elim h.2 [
            | inl mine ↦ absurd ((l.shape s is).no_root n bytes (subst (λ x. Has x (Root n, bytes)) (ap (λ (x : Swap). x.own) same) (subst (λ x. Has h.0.own (x, bytes)) e mine)))
            | inr root ↦ let one : root.0 ≡ n = root_same (sym root.1 ∙ e) in let r : t.raised ≡ Some n = root.2.raised ∙ ap Some one in l.clean_root n r (above n r)
          ]
      | inr h ↦ absurd (subst (ShardCommits t) e h.1)
    ]
      where
        root_same : {a b : ℕ} → Root a ≡ Root b → a ≡ b
        root_same p = cc

    above : (s : Swap) → IsUnsettled f t s → Counts ledger t → (n : ℕ) → t.raised ≡ Some n → ledger.safe ≤ n
    above s i (inl p) n e = (l.last s i p n e).1
    above s i (inr (m, e', le)) n e = let one : m ≡ n = same_Some _ _ (sym e' ∙ e) in omega arith

    noted_more : (s : Swap) → swap f t ≡ Some s → ((m : BlobName) (b : Bytes) → Has s.own (m, b) → Has doomed m → ⊥) → ((n : ℕ) → t.raised ≡ Some n → ledger.safe ≤ n)
        → SwapLaw f (now f blobs name bytes valid absent doomed) shelf t.noted s → SwapLaw f (now f blobs name bytes valid absent doomed) shelf (name ∷ t.noted) s
    noted_more s is clean above h = record {
      staged = h.staged;
      noted = λ m b own. elim [ inl e ↦ (there s is m b own e, clean m b own) | inr was ↦ h.noted m b own was ];
      root_noted = λ n. elim [ inl e ↦ (root_there s is n e, root_clean s is above n e) | inr was ↦ h.root_noted n was ];
    }

pub commit_done : (f : Formats) (w new : World) (shelf : List Shelved) (k : ℕ) (name : BlobName) → Rooted f w shelf → CommitDone f w k name new → Rooted f new shelf
commit_done f w new shelf k name l c = subst (λ v. Rooted f v shelf) (sym c.new_is) here
  where
    was : TicketLaw f (HeldIn f w) w.doomed (ledger_of w) shelf c.t
    was = l.tickets k c.t c.out.there

    same : (s : Swap) → IsUnsettled f (writing c.t name c.bytes) s → (writing c.t name c.bytes).term ≡ w.term → IsUnsettled f c.t s × (c.t.term ≡ w.term)
    same s h e = (record { is = h.is; out = h.out; unsettled = h.unsettled }, e)

    here : Rooted f (with_ticket (with_blob f w name c.bytes) k (writing c.t name c.bytes)) shelf
    here = record {
      doomed_begun = l.doomed_begun;
      kept = kept_added f w.blobs name c.bytes c.named c.absent w.doomed (ledger_of w) shelf l.kept (root_whole f w.blobs (ledger_of w) shelf c.t name c.bytes c.named c.absent w.doomed was c.out.out c.may);
      tickets = each_ticket _ w.tickets k (writing c.t name c.bytes)
          (mine f w.blobs (ledger_of w) shelf c.t name c.bytes c.named c.absent w.doomed was c.may)
          (λ j u apart e. ticket_added f w.blobs name c.bytes c.named c.absent w.doomed (ledger_of w) shelf u (l.tickets j u e));
      single = λ i j a b. l.single i j (swapping_was f w.tickets w.term k c.t (writing c.t name c.bytes) c.out.there same i a) (swapping_was f w.tickets w.term k c.t (writing c.t name c.bytes) c.out.there same j b);
    }

-- a commit that failed leaves the image as it was, or with the blob
pub commit_fault : (f : Formats) (w new : World) (shelf : List Shelved) (k : ℕ) (name : BlobName) → Rooted f w shelf → CommitFault f w k name new → Rooted f new shelf
commit_fault f w new shelf k name l c = elim c.leaves [
  | inl e ↦ subst (λ v. Rooted f v shelf) (sym e) l
  | inr e ↦ subst (λ v. Rooted f v shelf) (sym e.1) (here e.0)
]
  where
    here : fin.get w.blobs (f.names.text name) ≡ None → Rooted f (with_blob f w name c.bytes) shelf
    here absent = record {
      doomed_begun = l.doomed_begun;
      kept = kept_added f w.blobs name c.bytes c.named absent w.doomed (ledger_of w) shelf l.kept (root_whole f w.blobs (ledger_of w) shelf c.t name c.bytes c.named absent w.doomed (l.tickets k c.t c.out.there) c.out.out c.may);
      tickets = λ j u e. ticket_added f w.blobs name c.bytes c.named absent w.doomed (ledger_of w) shelf u (l.tickets j u e);
      single = l.single;
    }
