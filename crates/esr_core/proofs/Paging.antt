-- What a cleanup lists, and that a page more keeps the law.
use Rattle.std.proofs.Common.{◌≡◌, ◌≢◌, ◌⊎◌, ℕ, ◌<◌, List, [], ◌∷◌, ◌++◌, Some, refl, sym, ap, ◌∙◌, subst, inl, inr}
use Rattle.std.specs.FinMap as fin
use Rattle.std.proofs.lemmas.Option.{same_Some}
use Rattle.esr_model.specs.Names.{BlobName, Root, Latest, ShardSnap}
use Rattle.esr_model.specs.Values.{Bytes, Ledger, ReadsBack, Formats}
use Rattle.esr_model.specs.Shelf.{Shelved}
use Rattle.esr_model.specs.Kept.{IdsBelow}
use Rattle.esr_model.specs.Cleanup.{BlobSize, names_listed, is_short}
use Rattle.esr_model.specs.Image.{Blobs, Has, Present, KeptBy}
use Rattle.esr_core.specs.World.{World, Ticket, HeldIn, ledger_of}
use Rattle.esr_core.specs.Steps.{ListMore, listing}
use Rattle.esr_core.specs.Swaps.{TicketLaw}
use Rattle.esr_core.specs.Sound.{Sound}
use Rattle.esr_core.specs.Ids.{Law, TicketIds}
use Rattle.esr_model.specs.Lists.{Has-either}
use Rattle.esr_core.specs.Laws.CleanupReach.{and_first, and_later, listed_was}
use Rattle.esr_core.proofs.Same.{SameTicket, notes_same}
use Rattle.esr_core.proofs.Law.{quiet}

-- ---- the names of what was listed

pub listed_has : (f : Formats) (xs : List BlobSize) (b : BlobSize) (name : BlobName) → Has xs b → f.names.read b.text ≡ Some name → Has (names_listed f xs) name
listed_has f [] b name m e = absurd m
listed_has f (x ∷ xs) b name (inl same) e = and_first (f.names.read x.text) (names_listed f xs) name (ap (λ (y : BlobSize). f.names.read y.text) same ∙ e)
listed_has f (x ∷ xs) b name (inr m) e = and_later (f.names.read x.text) (names_listed f xs) name (listed_has f xs b name m e)

pub listed_either : (f : Formats) (xs ys : List BlobSize) (name : BlobName) → Has (names_listed f (xs ++ ys)) name → Has (names_listed f xs) name ⊎ Has (names_listed f ys) name
listed_either f xs ys name m =
    let (b, there, e) = listed_was f (xs ++ ys) name m in
    elim (Has-either xs ys b there) [ inl h ↦ inl (listed_has f xs b name h e) | inr h ↦ inr (listed_has f ys b name h e) ]

-- ---- a name of what is there

pub latest_or : (name : BlobName) → (name ≡ Latest) ⊎ (name ≢ Latest)
latest_or Latest = inl refl
latest_or (ShardSnap i k u) = inr (λ e. cc)
latest_or name = inr (λ e. cc)

-- a text that is there and reads as a name is that name's
pub text_named : (f : Formats) (has : BlobName → Bytes → Type 0) (blobs : Blobs) (ledger : Ledger) (shelf : List Shelved) → KeptBy f has blobs ledger shelf → (text bytes : Bytes) → fin.get blobs text ≡ Some bytes → (name : BlobName)
    → f.names.read text ≡ Some name → (f.names.text name ≡ text) × ReadsBack f.names name
text_named f has blobs ledger shelf kept text bytes there name e =
    let (own, text_is, back) = kept.named text bytes there in
    let same : own ≡ name = same_Some own name (sym back ∙ ap f.names.read text_is ∙ e) in
    subst (λ (n : BlobName). (f.names.text n ≡ text) × ReadsBack f.names n) same (text_is, back)

pub listed_present : (f : Formats) (has : BlobName → Bytes → Type 0) (blobs : Blobs) (ledger : Ledger) (shelf : List Shelved) → KeptBy f has blobs ledger shelf → (page : List BlobSize)
    → ((b : BlobSize) → Has page b → (bytes : Bytes) × (fin.get blobs b.text ≡ Some bytes)) → (name : BlobName) → Has (names_listed f page) name → (name ≡ Latest) ⊎ Present f blobs name
listed_present f has blobs ledger shelf kept page there name m = elim (latest_or name) [
  | inl e ↦ inl e
  | inr other ↦
      let (b, b_there, e) = listed_was f page name m in
      let (bytes, got) = there b b_there in
      let (text, back) = text_named f has blobs ledger shelf kept b.text bytes got name e in
      inr (bytes, (ap (fin.get blobs) text ∙ got, (back, other)))
]

-- ---- a page more

listing_same : (t : Ticket) (page : List BlobSize) → SameTicket t (listing t page)
listing_same t page = notes_same t t.first t.drawn t.noted t.wrote t.read t.raised t.tried_latest (t.listed ++ page) (is_short page) (λ id from below. inl (from, below))

pub page_sound : (f : Formats) (w : World) (shelf : List Shelved) → Sound f w shelf → (k : ℕ) (page : List BlobSize) (new : World) → ListMore w k page new → Sound f new shelf
page_sound f w shelf l k page new h = subst (λ x. Sound f x shelf) (sym h.new_is)
    (quiet f w shelf l k h.t (listing h.t page) h.out.there (listing_same h.t page)
    (record {
      term = old.term;
      raised = old.raised;
      shape = old.shape;
      clean_root = old.clean_root;
      listed = λ n m. elim (listed_either f h.t.listed page (Root n) m) [ inl was ↦ old.listed n was | inr new ↦ begun n new ];
      clean = λ s i. old.clean s (record { is = i.is; out = i.out; unsettled = i.unsettled });
      last = λ s i. old.last s (record { is = i.is; out = i.out; unsettled = i.unsettled });
      swaps = λ s i. old.swaps s (record { is = i.is; out = i.out; unsettled = i.unsettled });
    })
    (λ s i e. (record { is = i.is; out = i.out; unsettled = i.unsettled }, e)))
  where
    old : TicketLaw f (HeldIn f w) w.doomed (ledger_of w) shelf h.t
    old = l.rooted.tickets k h.t h.out.there

    begun : (n : ℕ) → Has (names_listed f page) (Root n) → n < w.pending
    begun n m = elim (listed_present f (HeldIn f w) w.blobs (ledger_of w) shelf l.rooted.kept page h.there (Root n) m) [
      | inl e ↦ absurd (root_latest e)
      | inr p ↦ l.rooted.kept.begun n p
    ]
      where
        root_latest : Root n ≡ Latest → ⊥
        root_latest e = cc

pub page_ids : (f : Formats) (w : World) (shelf : List Shelved) → Law f w shelf → (k : ℕ) (page : List BlobSize) (new : World) (h : ListMore w k page new) → TicketIds f w.next_id (listing h.t page)
page_ids f w shelf l k page new h =
    let old = l.ids.tickets k h.t h.out.there in
    record {
      drawn = old.drawn;
      uuid = old.uuid;
      index = old.index;
      base = old.base;
      copy = old.copy;
      own = old.own;
      root = old.root;
      listed = λ name m. elim (listed_either f h.t.listed page name m) [
        | inl was ↦ old.listed name was
        | inr new ↦ elim (listed_present f (HeldIn f w) w.blobs (ledger_of w) shelf l.lawful.sound.rooted.kept page h.there name new) [
          | inl e ↦ subst (λ (n : BlobName). IdsBelow n w.next_id) (sym e) tt
          | inr p ↦ l.ids.blobs name p
        ]
      ];
    }
