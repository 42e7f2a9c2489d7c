-- The listing of a cleanup, page after page.
use Rattle.std.proofs.Common.{◌≡◌, ℕ, zero, suc, ◌+◌, ◌-◌, ◌≤◌, Bool, true, false, List, [], ◌∷◌, ◌++◌, map, flat_map, length, slice_get, Option, Some, option_map, refl, sym, ap, ◌∙◌, subst, arith, length-append}
use Rattle.std.proofs.lemmas.List.{map-append}
use Rattle.std.proofs.lemmas.Grind.{flat_map-append}
use Rattle.esr_names.specs.declared.blob.BlobName.{BlobName as CodeName}
use Rattle.esr_depot.specs.declared.listing.Listed.{Listed}
use Rattle.esr_model.specs.Names.{BlobName}
use Rattle.esr_model.specs.Values.{Bytes, RootData}
use Rattle.esr_model.specs.Delete.{PrunedShard}
use Rattle.esr_model.specs.Cleanup.{BlobSize, last_text, is_short}
use Rattle.esr_core.specs.World.{Ticket}
use Rattle.esr_core.specs.Pruning.{delete_swap}
use Rattle.esr_core.specs.Steps.{listing}
use Rattle.esr_core.specs.Entry.{Step, Reply, Moment}
use Rattle.esr_formats.specs.Names.{name_of}
use Rattle.esr_reach.specs.Held.{HeldShard}
use Rattle.esr_reach.specs.Names.{Pushed}
use Rattle.esr_desk.specs.Listing.{blob_size_of, page_of}
use Rattle.esr_desk.specs.Start.{Start, formats_of, ticket_of}
use Rattle.esr_desk.specs.Outcome.{Stepped}
use Rattle.esr_desk.specs.Grew.{GrewBy}
use Rattle.esr_desk.specs.Delete.Conditions.{CanList}
use Rattle.esr_finish.specs.Ticket.{MayPutRoot}
use Rattle.esr_delete.specs.Planned.{IsPruner, IsIndexed}
use Rattle.esr_delete.specs.Listing.{IsLister}
use Rattle.esr_delete.specs.Went.{Went}
use Rattle.esr_delete.proofs.Going.{worked_listed}

-- ---- the last name of a page

last_at : (page : List Listed) (n : ℕ) → n + 1 ≡ length page → option_map (λ (l : Listed). l.name) (slice_get page n) ≡ last_text (page_of page)
last_at (b ∷ []) zero e = refl
last_at (b ∷ c ∷ rest) (suc n) e = last_at (c ∷ rest) n (omega (arith, e))
last_at page n e = absurd (omega (arith, e))

pub last_is : (page : List Listed) → option_map (λ (l : Listed). l.name) (slice_get page (length page - 1)) ≡ last_text (page_of page)
last_is [] = refl
last_is (b ∷ rest) = last_at (b ∷ rest) (length (b ∷ rest) - 1) (omega arith)

-- after a page that isn't empty
last_of : (before page : List BlobSize) → 1 ≤ length page → last_text page ≡ last_text (before ++ page)
last_of (b ∷ before) [] some = absurd (omega (arith, some))
last_of (b ∷ d ∷ before) (c ∷ page) some = last_of (d ∷ before) (c ∷ page) some
last_of before page some = refl

pages_join : (pages next : List Listed) → page_of pages ++ page_of next ≡ page_of (pages ++ next)
pages_join pages next = sym (map-append blob_size_of pages next)

pub last_next : (pages next : List Listed) → 1 ≤ length (page_of next) → last_text (page_of next) ≡ last_text (page_of (pages ++ next))
last_next pages next some = last_of (page_of pages) (page_of next) some ∙ ap last_text (pages_join pages next)

-- a page that doesn't end the listing isn't empty
pub has_some : (page : List BlobSize) → is_short page ≡ false → 1 ≤ length page
has_some [] e = absurd (cc)
has_some (b ∷ page) e = omega arith

-- ---- one page more

-- the ticket may list, after the last name of the pages
abbrev pub HasListed : Ticket → Ticket → List Listed → Bool → Type 0
HasListed old new pages whole = new ≡ record old { listed = page_of pages; whole = whole }

pub none_listed : (t : Ticket) → IsLister t → HasListed t t [] false
none_listed t may = λ j. record t { listed = may.unlisted.listed j; whole = may.unlisted.whole j }

pub can_list : (old new : Ticket) (pages : List Listed) (after : Option Bytes) → IsLister old → HasListed old new pages false → after ≡ last_text (page_of pages) → CanList new after
can_list old new pages after may is after_is = subst (λ (t : Ticket). CanList t after) (sym is) (record {
  out = may.out;
  unsettled = may.unsettled;
  uuids = may.uuids;
  plan = may.plan;
  work = may.work;
  clean = may.cleans;
  unended = refl;
  after_is = after_is;
})

pub more_listed : (old mid new : Ticket) (pages next : List Listed) (whole : Bool) → HasListed old mid pages false → new ≡ listing mid (page_of next) → is_short (page_of next) ≡ whole → HasListed old new (pages ++ next) whole
more_listed old mid new pages next whole before own ends = own ∙ ap (λ (t : Ticket). listing t (page_of next)) before ∙ (λ j. record old { listed = pages_join pages next j; whole = ends j })

pub more_found : (piece : Listed → List BlobName) (old new : List CodeName) (pages next blobs : List Listed) → blobs ≡ next → map name_of old ≡ flat_map piece pages → Pushed old new (flat_map piece blobs)
    → map name_of new ≡ flat_map piece (pages ++ next)
more_found piece old new pages next blobs same before pushed =
    pushed ∙ ap (λ (l : List BlobName). l ++ flat_map piece blobs) before ∙ ap (λ (l : List Listed). flat_map piece pages ++ flat_map piece l) same ∙ sym (flat_map-append piece pages next)

-- ---- once its shard indices are written

pub lists_next : (s : Start) (t : Ticket) (held : List HeldShard) (shards : List PrunedShard) (first : ℕ) (root : RootData) → IsIndexed s t held shards first root → t.clean ≡ true → IsLister t
lists_next s t held shards first root may cleans = record {
  out = may.out;
  unsettled = may.unsettled;
  uuids = may.uuids;
  plan = Some (delete_swap (formats_of s) t.clean t.root t.read may.uuids shards first);
  work = may.work;
  cleans = cleans;
  unlisted = may.unlisted;
}

-- after the pages its root is still next
pub root_still : (s : Start) (old new : Ticket) (pages : List Listed) (whole : Bool) (root : RootData) → HasListed old new pages whole → MayPutRoot s old root → MayPutRoot s new root
root_still s old new pages whole root is may = subst (λ (t : Ticket). MayPutRoot s t root) (sym is) (record {
  change = may.change;
  swaps = record { out = may.swaps.out; is = may.swaps.is; unsettled = may.swaps.unsettled };
  root_is = may.root_is;
  noted = may.noted;
  once = may.once;
  unnoted = may.unnoted;
})

-- ---- turns

last_longer : {A : Type 0} (old front others : List A) (x : A) → front ≡ old ++ others → length old + 1 ≤ length (front ++ x ∷ [])
last_longer {A} old front others x is = omega (arith, length-append front (x ∷ []), ap (λ (l : List A). length l) is, length-append old others)

pub longer : (s : Start) (old new : List Moment) (who : ℕ) (step : Step) (reply : Reply) → Stepped s old new who step reply → length old + 1 ≤ length new
longer s old new who step reply h =
    let last : Moment = record { entry = record { who = who; step = step; reply = reply }; image = h.image } in
    subst (λ (log : List Moment). length old + 1 ≤ length log) (sym h.is) (last_longer old h.front h.waited.others last h.waited.grew)

-- ---- how far it went

pub went_listed : (s : Start) (old new : List Moment) (who : ℕ) (pages : List Listed) (whole : Bool) → (may : IsLister (ticket_of s old who)) → GrewBy s who old new → HasListed (ticket_of s old who) (ticket_of s new who) pages whole
    → Went s old new who
went_listed s old new who pages whole may grew is = record { grew = grew; worked = worked_listed (ticket_of s old who) (ticket_of s new who) may.uuids may.plan (page_of pages) whole may.work is }

pub lists_on : (old new : Ticket) (pages : List Listed) (whole : Bool) → IsLister old → HasListed old new pages whole → IsPruner new true
lists_on old new pages whole may is = subst (λ (t : Ticket). IsPruner t true) (sym is) (record { out = may.out; uuids = may.uuids; plan = may.plan; work = may.work; mode = may.cleans })
