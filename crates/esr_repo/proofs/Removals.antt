-- Entries of a step that takes blobs away.
use Rattle.std.proofs.Common.{◌≡◌, ℕ, zero, suc, ◌+◌, ◌<◌, true, false, List, [], ◌∷◌, ◌++◌, length, map, take, get_or, Option, Some, None, Ok, Err, refl, sym, ap, ◌∙◌, subst, inl, inr, arith}
use Rattle.std.proofs.lemmas.List.{take_more, map-append}
use Rattle.std.specs.Prelude.{All, Contains, option_map, slice_index_or}
use Rattle.std.specs.Cmp.Lexicographic.{nat_list_cmp_total}
use Rattle.std.specs.FinMap as fin
use Rattle.esr_core.specs.Laws.NumberMaps.{some_none}
use Rattle.esr_model.specs.Names.{BlobName}
use Rattle.esr_model.specs.Values.{Bytes, Has, ReadsBack, Formats}
use Rattle.esr_model.specs.Image.{Blobs, Image}
use Rattle.esr_core.specs.Entry.{RemoveTests, RemoveDoomed, Step, ReadStep, PruneStep, Reply, WasRemoved, Refused, DepotFault, Entry, Moment}
use Rattle.esr_core.specs.World.{World}
use Rattle.esr_core.specs.After.{swaps_record, faulted, answered}
use Rattle.esr_core.specs.Allowed.{Told}
use Rattle.esr_core.specs.Left.{Leaves}
use Rattle.esr_core.specs.Laws.Maps.{get_left, get_stays, texts_same}
use Rattle.esr_core.specs.Laws.BlobFrames.{text_one}
use Rattle.esr_model.specs.Lists.{Has-mapped, Has-append}
use Rattle.esr_depot.specs.declared.error.CallError.TheVariants.{Failed}
use Rattle.esr_depot.specs.Image.{Image as Held, without_names, without, drop_known}
use Rattle.esr_depot.specs.Look.{Look, now}
use Rattle.esr_depot.specs.Calls.{Called}
use Rattle.esr_depot.specs.Changes.{Removed, RemoveMay}
use Rattle.esr_formats.specs.Names.{name_of, name_kind}
use Rattle.esr_names.specs.declared.blob.BlobName.{BlobName as CodeName}
use Rattle.esr_desk.specs.Start.{Start, formats_of, world_of}
use Rattle.esr_repo.specs.Log.{image_of, asks_container}
use Rattle.esr_repo.specs.Repo.{Kept}
use Rattle.esr_repo.specs.May.{IsLess, AreGone, IsRemoval, MayRemove}
use Rattle.esr_repo.proofs.Logs.{image_now}
use Rattle.esr_repo.specs.InfosAfter.{LeavesInfos}
use Rattle.esr_repo.proofs.BlobCalls.{Before, Pushed, Made, Idles, TextStays, told_of, names_text, named_of, idles_same, blobs_are, tell_of, allowed_is, call_is, call_made}
use Rattle.esr_repo.specs.Next.{GoesOn}

-- ---- lists

pub has_at : {A : Type 0} (xs : List A) (k : ℕ) (d : A) → k < length xs → Has xs (slice_index_or xs k d)
has_at [] k d less = absurd (omega (arith, less))
has_at (x ∷ xs) zero d less = inl refl
has_at (x ∷ xs) (suc k) d less = inr (let fewer : k < length xs = omega (arith, less) in has_at xs k d fewer)

has_of : {A : Type 0} (xs : List A) (x : A) → Contains xs x → Has xs x
has_of xs x c = subst (Has xs) c.2 (has_at xs c.0 x c.1)

-- each of these is one of those
pub among : {A : Type 0} (xs ys : List A) → All (Contains xs) ys → (y : A) → Has ys y → Has xs y
among xs [] all y has = absurd has
among xs (z ∷ ys) all y (inl e) = subst (Has xs) e (has_of xs z (all 0 z (omega arith)))
among xs (z ∷ ys) all y (inr has) = among xs ys (λ k d less. all (suc k) d (let more : suc k < length (z ∷ ys) = omega (arith, less) in more)) y has

-- ---- blobs without some names

left_was : (gone : List Bytes) (m : Blobs) (text bytes : Bytes) → fin.get (without_names gone m) text ≡ Some bytes → fin.get m text ≡ Some bytes
left_was [] m text bytes e = e
left_was (g ∷ gone) m text bytes e = (get_left nat_list_cmp_total texts_same m g text bytes (left_was gone (fin.remove m g) text bytes e)).1

left_stays : (gone : List Bytes) (m : Blobs) (text : Bytes) → (Has gone text → ⊥) → fin.get (without_names gone m) text ≡ fin.get m text
left_stays [] m text other = refl
left_stays (g ∷ gone) m text other = left_stays gone (fin.remove m g) text (λ h. other (inr h)) ∙ get_stays nat_list_cmp_total texts_same m g text (λ e. other (inl (sym e)))

-- one that is named is gone
left_none : (gone : List Bytes) (m : Blobs) (text : Bytes) → Has gone text → fin.get (without_names gone m) text ≡ None
left_none gone m text named = go (fin.get (without_names gone m) text) refl
  where
    never : (names : List Bytes) (n : Blobs) (bytes : Bytes) → Has names text → fin.get (without_names names n) text ≡ Some bytes → ⊥
    never [] n bytes h e = h
    never (g ∷ names) n bytes (inl same) e = (get_left nat_list_cmp_total texts_same n g text bytes (left_was names (fin.remove n g) text bytes e)).0 (sym same)
    never (g ∷ names) n bytes (inr h) e = never names (fin.remove n g) bytes h e

    go : (o : Option Bytes) → fin.get (without_names gone m) text ≡ o → fin.get (without_names gone m) text ≡ None
    go None e = e
    go (Some bytes) e = absurd (never gone m bytes named e)

-- ---- names and their texts

-- the names of the layout
pub backs_of : (codes : List CodeName) → ((code : CodeName) → Has codes code → ReadsBack name_kind (name_of code)) → (name : BlobName) → Has (map name_of codes) name → ReadsBack name_kind name
backs_of codes backs name has = let m = Has-mapped name_of codes name has in subst (ReadsBack name_kind) m.2 (backs m.0 m.1)

pub texts_of : (codes : List CodeName) → map (λ (code : CodeName). name_kind.text (name_of code)) codes ≡ map name_kind.text (map name_of codes)
texts_of [] = refl
texts_of (code ∷ codes) = ap (λ (xs : List Bytes). name_kind.text (name_of code) ∷ xs) (texts_of codes)

-- the texts of one more
abbrev text_of_code : CodeName → Bytes
text_of_code code = name_kind.text (name_of code)

-- what is known of the first names: their texts, and that they read back
abbrev pub AreRead : List CodeName → ℕ → List Bytes → Type 0
AreRead codes k texts = (texts ≡ map (λ (code : CodeName). name_kind.text (name_of code)) (take k codes)) × ((code : CodeName) → Has (take k codes) code → ReadsBack name_kind (name_of code))

pub more_read : (codes : List CodeName) (k : ℕ) (d : CodeName) (was texts : List Bytes) (text : Bytes) → k < length codes → AreRead codes k was → texts ≡ was ++ text ∷ [] → text ≡ name_kind.text (name_of (get_or codes k d))
    → ReadsBack name_kind (name_of (get_or codes k d)) → AreRead codes (k + 1) texts
more_read codes k d was texts text less h pushed text_is back = (
  pushed
      ∙ ap (λ (x : Bytes). was ++ x ∷ []) text_is
      ∙ ap (λ (xs : List Bytes). xs ++ text_of_code (get_or codes k d) ∷ []) h.0
      ∙ sym (map-append text_of_code (take k codes) (get_or codes k d ∷ []))
      ∙ ap (map text_of_code) (sym (take_more codes k d less)),
  λ other has. elim (Has-append (take k codes) (get_or codes k d) other (subst (λ (xs : List CodeName). Has xs other) (take_more codes k d less) has)) [
    | inl before ↦ h.1 other before
    | inr e ↦ subst (λ (x : CodeName). ReadsBack name_kind (name_of x)) e back
  ],
)

has_text : (names : List BlobName) (name : BlobName) → Has names name → Has (map name_kind.text names) (name_kind.text name)
has_text [] name h = absurd h
has_text (x ∷ names) name (inl e) = inl (ap name_kind.text e)
has_text (x ∷ names) name (inr h) = inr (has_text names name h)

-- ---- the step

removal_no_swap : (step : Step) (names : List BlobName) → IsRemoval step names → swaps_record step ≡ false
removal_no_swap (ReadStep (RemoveTests it)) names h = refl
removal_no_swap (PruneStep (RemoveDoomed it)) names h = refl
removal_no_swap step names h = absurd h

removal_asks : (step : Step) (names : List BlobName) → IsRemoval step names → asks_container step ≡ true
removal_asks (ReadStep (RemoveTests it)) names h = refl
removal_asks (PruneStep (RemoveDoomed it)) names h = refl
removal_asks step names h = absurd h

removal_leaves : (step : Step) (names : List BlobName) (reply : Reply) → IsRemoval step names → LeavesInfos step reply
removal_leaves (ReadStep (RemoveTests it)) names reply h = tt
removal_leaves (PruneStep (RemoveDoomed it)) names reply h = tt
removal_leaves step names reply h = absurd h

idles_gone : (f : Formats) (w : World) (k : ℕ) (step : Step) (names : List BlobName) (image : Option Image) → IsRemoval step names → Idles w (answered f w k step WasRemoved image)
idles_gone f w zero (ReadStep (RemoveTests it)) names image h = idles_same w
idles_gone f w (suc k) (ReadStep (RemoveTests it)) names image h = idles_same w
idles_gone f w k (PruneStep (RemoveDoomed it)) names image h = idles_same w
idles_gone f w k step names image h = absurd h

idles_ungone : (f : Formats) (w : World) (k : ℕ) (step : Step) (names : List BlobName) (image : Option Image) → IsRemoval step names → Idles w (faulted f w k step image)
idles_ungone f w k (ReadStep (RemoveTests it)) names image h = idles_same w
idles_ungone f w k (PruneStep (RemoveDoomed it)) names image h = idles_same w
idles_ungone f w k step names image h = absurd h

module _ {old : Look} {s : Start} {clock : ℕ} {es : List Entry} {k : Kept} {d : Option ℕ} {seen : List Moment} (b : Before old s clock es k d seen) (new : Look)
    (who : ℕ) (step : Step) (names : List BlobName) (m : MayRemove s seen who step names) (goes : GoesOn s seen who step)
    (backs : (name : BlobName) → Has names name → ReadsBack name_kind name) (texts : List Bytes) (named : texts ≡ map name_kind.text names) where
  has_name : (name : BlobName) → Has names name → Has texts ((formats_of s).names.text name)
  has_name name has = subst (Has texts) (names_text s name) (subst (λ (xs : List Bytes). Has xs (name_kind.text name)) (sym named) (has_text names name has))

  -- a text is that of one name
  is_name : (name : BlobName) → ReadsBack (formats_of s).names name → Has texts ((formats_of s).names.text name) → Has names name
  is_name name back has =
      let found = Has-mapped name_kind.text names ((formats_of s).names.text name) (subst (λ (xs : List Bytes). Has xs ((formats_of s).names.text name)) named has) in
      subst (Has names) (text_one (formats_of s) found.0 name (named_of s found.0 (backs found.0 found.1)) back (sym (names_text s found.0) ∙ found.2)) found.1

  -- the image that is left without some of them
  module _ (o : Option Held) (gone : List Bytes) (is : o ≡ drop_known (now old) gone) where
    some_same : (x y : Held) → Some x ≡ Some y → x ≡ y
    some_same x y e = cc

    text_less : TextStays (now old) o
    text_less = record { untold = λ n. is ∙ ap (λ (x : Option Held). drop_known x gone) n; told = λ i e. (without i gone, is ∙ ap (λ (x : Option Held). drop_known x gone) e, refl) }

    blobs_less : (j : Held) → o ≡ Some j → j.blobs ≡ without_names gone (world_of s seen).blobs
    blobs_less j e = go (now old) refl
      where
        go : (was : Option Held) → now old ≡ was → j.blobs ≡ without_names gone (world_of s seen).blobs
        go None n = absurd (some_none j (sym e ∙ text_less.untold n))
        go (Some i) n =
            let same : j ≡ without i gone = some_same j (without i gone) (sym e ∙ is ∙ ap (λ (x : Option Held). drop_known x gone) n) in
            ap (λ (x : Held). x.blobs) same ∙ ap (without_names gone) (blobs_are b i n)

    less : ((text : Bytes) → Has gone text → Has texts text) → (j : Held) → o ≡ Some j → IsLess s seen names j.blobs
    less within j e =
        subst (IsLess s seen names) (sym (blobs_less j e))
        (record {
          left = λ text bytes h. left_was gone (world_of s seen).blobs text bytes h;
          stays = λ name bytes at other. (left_stays gone (world_of s seen).blobs ((formats_of s).names.text name) (λ h. other (is_name name at.1.0 (within ((formats_of s).names.text name) h))) ∙ at.0, at.1);
          others = λ text bytes h other. left_stays gone (world_of s seen).blobs text (λ q.
              let found = Has-mapped name_kind.text names text (subst (λ (xs : List Bytes). Has xs text) named (within text q)) in other found.0 found.1 (sym (names_text s found.0) ∙ found.2)) ∙ h;
        })

  all_gone : (o : Option Held) → o ≡ drop_known (now old) texts → (j : Held) → o ≡ Some j → AreGone s seen names j.blobs
  all_gone o is j e = (
    less o texts is (λ text h. h) j e,
    λ name has. ap (λ (x : Blobs). fin.get x ((formats_of s).names.text name)) (blobs_less o texts is j e) ∙ left_none texts (world_of s seen).blobs ((formats_of s).names.text name) (has_name name has),
  )

  some_gone : (o : Option Held) → RemoveMay texts (now old) o → TextStays (now old) o × Told (option_map image_of o) (IsLess s seen names)
  some_gone o may = (text_less o may.0 may.2, told_of o (IsLess s seen names) (less o may.0 may.2 (among texts may.0 may.1)))

  no_swap : swaps_record step ≡ false
  no_swap = removal_no_swap step names m.is

  abbrev By : Reply → Entry
  By reply = record { who = who; step = step; reply = reply }

  -- a removal that is cut off
  remove_cut : (reply : Reply) (image : Option Image) (i : Held) → RemoveMay texts (now old) (Some i)
      → Leaves (formats_of s) s.part_size (world_of s seen) (record { entry = By reply; image = image } ∷ []) (image_of i)
  remove_cut reply image i may =
      let left = some_gone (Some i) may in
      inr (inl (allowed_is b (Some i) (By (Refused DepotFault)) no_swap goes left.0 (m.fails (Some (image_of i)) (tell_of b (Some i) left.0) left.1)))

  pub removed_ok : (x : Unit {0}) → Called old new (λ _. Removed texts) (RemoveMay texts) (Ok x) → (mid es' : List Entry) → Pushed es mid es' (By WasRemoved) → Made old new s clock es es' k d seen (By WasRemoved)
  removed_ok x c mid es' p =
      let is : now new ≡ drop_known (now old) texts = c.done in
      let text = text_less (now new) texts is in
      call_made b new (By WasRemoved) no_swap (removal_leaves step names WasRemoved m.is) mid es' p
      (call_is b new (By WasRemoved) no_swap (RemoveMay texts) goes (c.passed refl) (removal_asks step names m.is) text
      (m.removes (image_now new) (tell_of b (now new) text) (told_of (now new) (AreGone s seen names) (all_gone (now new) is))) (remove_cut WasRemoved (image_now new)))
      (idles_gone (formats_of s) (world_of s seen) who step names (image_now new) m.is)

  pub removed_fault : Called {T = Unit {0}} old new (λ _. Removed texts) (RemoveMay texts) (Err Failed) → (mid es' : List Entry) → Pushed es mid es' (By (Refused DepotFault)) → Made old new s clock es es' k d seen (By (Refused DepotFault))
  removed_fault c mid es' p =
      let left = some_gone (now new) (c.failed refl) in
      call_made b new (By (Refused DepotFault)) no_swap (removal_leaves step names (Refused DepotFault) m.is) mid es' p
      (call_is b new (By (Refused DepotFault)) no_swap (RemoveMay texts) goes (c.passed refl) refl left.0 (m.fails (image_now new) (tell_of b (now new) left.0) left.1) (remove_cut (Refused DepotFault) (image_now new)))
      (idles_ungone (formats_of s) (world_of s seen) who step names (image_now new) m.is)
