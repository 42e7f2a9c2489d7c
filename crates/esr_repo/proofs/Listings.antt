-- Entries of a step that lists a page of the container's blobs.
use Rattle.std.proofs.Common.{◌≡◌, ℕ, suc, ◌≤◌, List, [], ◌∷◌, length, map, Option, Some, None, Ok, Err, refl, sym, ap, ◌∙◌, subst, inl, inr}
use Rattle.std.specs.Prelude.{nat_lt}
use Rattle.esr_model.specs.Values.{Bytes, Has}
use Rattle.esr_model.specs.Image.{Blobs}
use Rattle.esr_model.specs.Cleanup.{BlobSize, IsAfter, last_text, IsRising, IsPage, IsPageOf}
use Rattle.esr_core.specs.Entry.{Step, ListStep, WasListed, Refused, DepotFault, Entry, Moment}
use Rattle.esr_core.specs.Steps.{listing}
use Rattle.esr_core.specs.Allowed.{ListsPage, Listing, ListFails}
use Rattle.esr_depot.specs.declared.error.CallError.{CallError}
use Rattle.esr_depot.specs.declared.error.CallError.TheVariants.{Failed}
use Rattle.esr_depot.specs.declared.listing.Listed.{Listed}
use Rattle.esr_depot.specs.Image.{Image as Held, sizes_of}
use Rattle.esr_depot.specs.Look.{Look, now}
use Rattle.esr_depot.specs.Calls.{SameImage, Called}
use Rattle.esr_depot.specs.Listing.{Size, size_of, page_from}
use Rattle.esr_depot.specs.Listing as depot
use Rattle.esr_depot.specs.Pages.{page_is_of}
use Rattle.esr_desk.specs.Listing.{page_of}
use Rattle.esr_desk.specs.Start.{Start, world_of}
use Rattle.esr_repo.specs.Repo.{Kept}
use Rattle.esr_repo.specs.Next.{GoesOn}
use Rattle.esr_repo.proofs.Logs.{image_now}
use Rattle.esr_repo.proofs.BlobCalls.{Before, Pushed, Made, idles_same, idles_change, text_same_image, told_of, failed_is, same_cut, blobs_are, call_is, call_made}

-- ---- a page, as the definitions see it

same_length : (page : List Listed) → length (page_of page) ≡ length (map size_of page)
same_length [] = refl
same_length (x ∷ page) = ap suc (same_length page)

in_sizes : (page : List Listed) (b : BlobSize) → Has (page_of page) b → depot.Has (map size_of page) (b.text, b.size)
in_sizes [] b has = absurd has
in_sizes (x ∷ page) b (inl same) = inl (λ j. ((same j).text, (same j).size))
in_sizes (x ∷ page) b (inr has) = inr (in_sizes page b has)

abbrev as_blob : Size → BlobSize
as_blob s = record { text = s.0; size = s.1 }

of_sizes : (page : List Listed) (s : Size) → depot.Has (map size_of page) s → Has (page_of page) (as_blob s)
of_sizes [] s has = absurd has
of_sizes (x ∷ page) s (inl same) = inl (ap as_blob same)
of_sizes (x ∷ page) s (inr has) = inr (of_sizes page s has)

comes_after : (from : Option Bytes) (text : Bytes) → depot.IsAfter from text → IsAfter from text
comes_after None text h = tt
comes_after (Some name) text h = h

after_back : (from : Option Bytes) (text : Bytes) → IsAfter from text → depot.IsAfter from text
after_back None text h = tt
after_back (Some name) text h = h

last_same : (page : List Listed) → last_text (page_of page) ≡ depot.last_name (map size_of page)
last_same (x ∷ y ∷ page) = last_same (y ∷ page)
last_same page = refl

rises : (page : List Listed) → depot.IsRising (map size_of page) → IsRising (page_of page)
rises [] h = tt
rises (x ∷ page) h = (λ c has. h.0 (c.text, c.size) (in_sizes page c has), rises page h.1)

pub is_page : (from : Option Bytes) (page : List Listed) → depot.IsPage from (map size_of page) → IsPage from (page_of page)
is_page from page h = record {
  few = subst (λ (n : ℕ). n ≤ 1000) (sym (same_length page)) h.few;
  follow = λ b has. comes_after from b.text (h.follow (b.text, b.size) (in_sizes page b has));
  rising = rises page h.rising;
}

is_page_of : (blobs : Blobs) (from : Option Bytes) (page : List Listed) → depot.IsPageOf blobs from (map size_of page) → IsPageOf blobs from (page_of page)
is_page_of blobs from page h = record {
  there = λ b has. h.there (b.text, b.size) (in_sizes page b has);
  all = λ text bytes there after. elim (h.all text bytes there (after_back from text after)) [
    | inl listed ↦ let (s, has, is) = listed in inl (as_blob s, of_sizes page s has, is)
    | inr later ↦ inr (
      ap (λ (n : ℕ). nat_lt n 1000) (same_length page) ∙ later.0,
      subst (λ (o : Option Bytes). IsAfter o text) (sym (last_same page)) (comes_after (depot.last_name (map size_of page)) text later.1),
    )
  ];
}

-- ---- the call

module _ {old : Look} {s : Start} {clock : ℕ} {es : List Entry} {k : Kept} {d : Option ℕ} {seen : List Moment} (b : Before old s clock es k d seen) (new : Look) (who : ℕ) (from : Option Bytes) (m : ListsPage (world_of s seen) who from) where
  -- the page is one of the world's blobs
  told_page : (page : List Listed) → ((i : Held) → now old ≡ Some i → map size_of page ≡ page_from from (sizes_of i.blobs)) → now new ≡ now old → (i : Held) → now new ≡ Some i
      → IsPageOf (world_of s seen).blobs from (page_of page) × (i.blobs ≡ (world_of s seen).blobs)
  told_page page lists same i e =
      let was : now old ≡ Some i = sym same ∙ e in
      let is = is_page_of i.blobs from page (subst (depot.IsPageOf i.blobs from) (sym (lists i was)) (page_is_of i.blobs from)) in
      (subst (λ (blobs : Blobs). IsPageOf blobs from (page_of page)) (blobs_are b i was) is, blobs_are b i was)

  abbrev Listings : List Listed → Step → Entry
  Listings page step = record { who = who; step = step; reply = WasListed (page_of page) }

  abbrev Failure : Step → Entry
  Failure step = record { who = who; step = step; reply = Refused DepotFault }

  list_so : {T : Type 0} (x : T) (page : List Listed) → depot.IsPage from (map size_of page) → ((i : Held) → now old ≡ Some i → map size_of page ≡ page_from from (sizes_of i.blobs)) → Called old new (λ _. SameImage) SameImage (Ok x)
      → GoesOn s seen who (ListStep from) → (mid es' : List Entry) → Pushed es mid es' (Listings page (ListStep from)) → Made old new s clock es es' k d seen (Listings page (ListStep from))
  list_so x page shape lists c goes mid es' p =
      let e : Entry = Listings page (ListStep from) in
      let same : now new ≡ now old = c.done in
      let text = text_same_image (now old) (now new) same in
      call_made b new e refl tt mid es' p
      (call_is b new e refl SameImage goes (c.passed refl) refl text
      (Listing who from (page_of page) (image_now new) m (is_page from page shape) (told_of (now new) (λ blobs. IsPageOf (world_of s seen).blobs from (page_of page) × (blobs ≡ (world_of s seen).blobs)) (told_page page lists same)))
      (same_cut b (record { entry = e; image = image_now new })))
      (idles_change (world_of s seen) who (λ t. listing t (page_of page)) (λ t. refl))

  pub list_ok : {T : Type 0} (x : T) (page : List Listed) (step : Step) → step ≡ ListStep from → depot.IsPage from (map size_of page) → ((i : Held) → now old ≡ Some i → map size_of page ≡ page_from from (sizes_of i.blobs))
      → Called old new (λ _. SameImage) SameImage (Ok x)
      → GoesOn s seen who step → (mid es' : List Entry) → Pushed es mid es' (Listings page step) → Made old new s clock es es' k d seen (Listings page step)
  list_ok x page step is shape lists c =
      subst (λ (st : Step). GoesOn s seen who st → (mid es' : List Entry) → Pushed es mid es' (Listings page st) → Made old new s clock es es' k d seen (Listings page st)) (sym is) (list_so x page shape lists c)

  list_failed : {T : Type 0} (error : CallError) → error ≡ Failed → Called {T = T} old new (λ _. SameImage) SameImage (Err error) → GoesOn s seen who (ListStep from)
      → (mid es' : List Entry) → Pushed es mid es' (Failure (ListStep from)) → Made old new s clock es es' k d seen (Failure (ListStep from))
  list_failed {T} error is c goes mid es' p =
      let e : Entry = Failure (ListStep from) in
      let g = failed_is {T = T} old new (λ _. SameImage) SameImage error is c in
      let same : now new ≡ now old = g.1 in
      let text = text_same_image (now old) (now new) same in
      call_made b new e refl tt mid es' p
      (call_is b new e refl SameImage goes g.0 refl text (ListFails who from (image_now new) m (told_of (now new) (λ blobs. blobs ≡ (world_of s seen).blobs) (λ i q. blobs_are b i (sym same ∙ q))))
      (same_cut b (record { entry = e; image = image_now new })))
      (idles_same (world_of s seen))

  pub list_fault : {T : Type 0} (error : CallError) (step : Step) → error ≡ Failed → step ≡ ListStep from → Called {T = T} old new (λ _. SameImage) SameImage (Err error) → GoesOn s seen who step
      → (mid es' : List Entry) → Pushed es mid es' (Failure step) → Made old new s clock es es' k d seen (Failure step)
  list_fault {T} error step is st_is c =
      subst (λ (st : Step). GoesOn s seen who st → (mid es' : List Entry) → Pushed es mid es' (Failure st) → Made old new s clock es es' k d seen (Failure st)) (sym st_is) (list_failed {T = T} error is c)
