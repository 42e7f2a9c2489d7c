-- The infos of the snapshots that a root lists, one after another, and what they tell of the opened world.
use Rattle.std.proofs.Common.{◌≡◌, ◌≢◌, inl, inr, ℕ, ◌+◌, ◌<◌, ◌≤◌, Bool, true, false, List, [], ◌∷◌, ◌++◌, map, length, take, get_or, Option, Some, None, option_map, Result, Ok, Err, refl, sym, ap, ◌∙◌, subst, eq-eqb}
use Rattle.std.specs.Prelude.{if◌then◌else◌}
use Rattle.std.specs.FinMap as fin
use Rattle.std.specs.List.{IsDistinct}
use Rattle.std.specs.Result.{result_ok}
use Rattle.std.proofs.lemmas.Bool.{true≢false}
use Rattle.std.proofs.lemmas.List.{take_more, take_all}
use Rattle.esr_model.specs.Lists.{Has-mapped, Has-map, AllPairs-snoc}
use Rattle.esr_names.specs.declared.index_ref.IndexRef.{IndexRef as CodeRef}
use Rattle.esr_model.specs.Names.{Snap, Latest}
use Rattle.esr_model.specs.Values.{Bytes, Has, IndexRef, RootSnap, ReadsBack}
use Rattle.esr_model.specs.Image.{AllPairs, At, Reads}
use Rattle.esr_core.specs.Restores.{AreApart}
use Rattle.esr_core.specs.Allowed.{AreIndicesIn, IsInInfo}
use Rattle.esr_json.specs.declared.refusal.Reason.{Reason}
use Rattle.esr_depot.specs.Image.{Image as Held, Blobs}
use Rattle.esr_record.specs.Record.{Record}
use Rattle.esr_root.specs.Root.{Root}
use Rattle.esr_root.specs.declared.snaps.RootSnap.{RootSnap as CodeSnap}
use Rattle.esr_names.specs.Indices.{AreRefs}
use Rattle.esr_meta.specs.Info.{Info, info_from}
use Rattle.esr_formats.specs.Names.{name_kind}
use Rattle.esr_formats.specs.Refs.{ref_of_code}
use Rattle.esr_formats.specs.Roots.{root_of, root_snap_of}
use Rattle.esr_formats.specs.Infos.{info_of_code, info_kind}
use Rattle.esr_formats.specs.Formats.{formats}
use Rattle.esr_newroot.specs.RefLists.{one_id, ids_distinct, other_later}
use Rattle.esr_progress.specs.Infos.{AreInfosOf}
use Rattle.esr_agreement.specs.Agreement.{agrees, Agrees}
use Rattle.esr_opening.specs.Found.{Obstacle, read_as, info_name, agreed}
use Rattle.esr_opening.specs.Listed.{IsInfoOf, AreListed, AreInfosIn}
use Rattle.esr_opening.specs.Opening.{world_in, is_told}
use Rattle.esr_agreement.specs.AgreementTests.{test_holds}
use Rattle.esr_opening.proofs.Opens.{read_some}
use Rattle.esr_opening.proofs.Steps.{ok_same}

-- ---- no index stands twice

apart_by : (qs : List CodeRef) → IsDistinct one_id qs → AreApart (map ref_of_code qs)
unfolding IsDistinct
apart_by [] d = tt
apart_by (q ∷ qs) d = (other q qs (λ p has. other_later one_id q qs p has d.0), apart_by qs d.1)
  where
    other : (q : CodeRef) (qs : List CodeRef) → ((p : CodeRef) → Has qs p → one_id q p ≡ false) → (r : IndexRef) → Has (map ref_of_code qs) r → q.id.number ≢ r.id
    other q qs differ r has same =
        let p = Has-mapped ref_of_code qs r has in
        let ids : q.id.number ≡ p.0.id.number = same ∙ sym (ap (λ (x : IndexRef). x.id) p.2) in
        true≢false (sym (eq-eqb q.id.number p.0.id.number ids) ∙ differ p.0 p.1)

pub refs_apart : (qs : List CodeRef) → AreRefs [] qs → AreApart (map ref_of_code qs)
refs_apart qs refs = apart_by qs (ids_distinct qs refs)

-- ---- one info

info_reads : (bytes : Bytes) (info : Info) → info_from bytes ≡ Ok info → info_kind.read bytes ≡ Some (info_of_code info)
unfolding info_kind
info_reads bytes info h = ap (λ (r : Result Info Reason). option_map info_of_code (result_ok r)) h

not_latest : (u : ℕ) → Snap u ≢ Latest
not_latest u h = cc

-- what was fetched under its name reads as it
info_there : (blobs : Blobs) (s : CodeSnap) (info : Info) (name : Bytes) (bytes : Option Bytes) (known : Bytes → Bytes → ℕ → Bool) (told : Bytes → Bytes → ℕ → Option (List (Bytes × Bytes)))
    → ReadsBack name_kind (Snap s.uuid.number) → name ≡ info_name s
    → ◌≡◌ {A = Result (Option Bytes) Obstacle} (Ok (fin.get blobs name)) (Ok bytes) → read_as info_from name bytes ≡ Ok info
    → Reads (At (formats known told) blobs) (Snap s.uuid.number) (formats known told).info (info_of_code info)
unfolding formats
info_there blobs s info name bytes known told back is got read =
    let found = read_some info_from name bytes info read in
    record {
      bytes = found.0;
      there = (ap (fin.get blobs) (sym is) ∙ ok_same (fin.get blobs name) bytes got ∙ found.1, (back, not_latest s.uuid.number));
      reads = info_reads found.0 info found.2;
    }

-- it agrees with the root
agrees_by : (b : Bool) (o : Obstacle) (x : Unit {0}) → (if b then Ok tt else Err o) ≡ Ok x → b ≡ true
agrees_by true o x h = refl
agrees_by false o x h = absurd cc

info_agrees : (root : Root) (n : ℕ) (s : CodeSnap) (info : Info) (x : Unit {0}) → agreed root n s info ≡ Ok x → Agrees (root_of root) (root_snap_of s) (info_of_code info)
info_agrees root n s info x h = test_holds (root_of root) (root_snap_of s) (info_of_code info) (agrees_by (agrees (root_of root) (root_snap_of s) (info_of_code info)) _ x h)

pub info_kept : (held : Option Held) (root : Root) (n : ℕ) (s : CodeSnap) (info : Info) (name : Bytes) (bytes : Option Bytes) (x : Unit {0}) → ReadsBack name_kind (Snap s.uuid.number) → name ≡ info_name s
    → ((i : Held) → held ≡ Some i → ◌≡◌ {A = Result (Option Bytes) Obstacle} (Ok (fin.get i.blobs name)) (Ok bytes)) → read_as info_from name bytes ≡ Ok info → AreApart (map ref_of_code info.indices)
    → agreed root n s info ≡ Ok x → IsInfoOf held root s info
info_kept held root n s info name bytes x back is got read apart agree = record {
  agrees = info_agrees root n s info x agree;
  apart = apart;
  there = λ i known told here. info_there i.blobs s info name bytes known told back is (got i here) read;
}

-- ---- one after another

pub pairs_more : {A B : Type 0} (R : A → B → Type 0) (xs : List A) (ys zs : List B) (i : ℕ) (x : A) (y : B) → i < length xs → x ≡ get_or xs i x → AllPairs R (take i xs) ys → R x y → zs ≡ ys ++ y ∷ []
    → AllPairs R (take (i + 1) xs) zs
pairs_more {A} {B} R xs ys zs i x y less is pairs one more =
    subst (λ (l : List B). AllPairs R (take (i + 1) xs) l) (sym more)
    (subst (λ (l : List A). AllPairs R l (ys ++ y ∷ [])) (sym (take_more xs i x less ∙ ap (λ (z : A). take i xs ++ z ∷ []) (sym is))) (AllPairs-snoc R (take i xs) ys x y pairs one))

pub pairs_all : {A B : Type 0} (R : A → B → Type 0) (xs : List A) (ys : List B) (i : ℕ) → length xs ≤ i → AllPairs R (take i xs) ys → AllPairs R xs ys
pairs_all {A} {B} R xs ys i past pairs = subst (λ (l : List A). AllPairs R l ys) (take_all i xs past) pairs

second_of : {A B : Type 0} (R : A → B → Type 0) (xs : List A) (ys : List B) → AllPairs R xs ys → (x : A) → Has xs x → (y : B) × Has ys y × R x y
second_of R [] ys pairs x none = absurd none
second_of R (a ∷ xs) [] pairs x has = absurd pairs
second_of {A} {B} R (a ∷ xs) (b ∷ ys) pairs x (inl here) = (b, inl refl, subst (λ (z : A). R z b) here pairs.0)
second_of R (a ∷ xs) (b ∷ ys) pairs x (inr later) = let s = second_of R xs ys pairs.1 x later in (s.0, inr s.1, s.2)

first_of : {A B : Type 0} (R : A → B → Type 0) (xs : List A) (ys : List B) → AllPairs R xs ys → (y : B) → Has ys y → (x : A) × Has xs x × R x y
first_of R [] [] pairs y none = absurd none
first_of R [] (b ∷ ys) pairs y has = absurd pairs
first_of R (a ∷ xs) [] pairs y none = absurd none
first_of {A} {B} R (a ∷ xs) (b ∷ ys) pairs y (inl here) = (a, inl refl, subst (λ (z : B). R a z) here pairs.0)
first_of R (a ∷ xs) (b ∷ ys) pairs y (inr later) = let s = first_of R xs ys pairs.1 y later in (s.0, inr s.1, s.2)

-- ---- what they tell of the opened world

within : (root : Root) (s : CodeSnap) (info : Info) → Agrees (root_of root) (root_snap_of s) (info_of_code info) → AreApart (map ref_of_code info.indices) → AreIndicesIn (root_of root) info.uuid.number (map ref_of_code info.indices)
within root s info agree apart = record {
  listed = λ r has. let x = agree.listed r has in (x.0, x.1, x.2, x.3, subst (Has x.0.snapshots) (sym agree.uuid_is) x.4);
  exact = λ x has has_uuid. agree.exact x has (subst (Has x.snapshots) agree.uuid_is has_uuid);
  apart = apart;
}

in_info : (held : Option Held) (cluster : Record) (root : Root) (s : CodeSnap) (info : Info) (known : Bytes → Bytes → ℕ → Bool) (told : Bytes → Bytes → ℕ → Option (List (Bytes × Bytes))) → IsInfoOf held root s info
    → is_told held ≡ true
    → IsInInfo (formats known told) (world_in held cluster root) info.uuid.number (map ref_of_code info.indices)
in_info None cluster root s info known told is tells = absurd cc
in_info (Some i) cluster root s info known told is tells =
    (info_of_code info, subst (λ (u : ℕ). Reads (At (formats known told) i.blobs) (Snap u) (formats known told).info (info_of_code info)) (sym is.agrees.uuid_is) (is.there i known told refl), refl)

pub listed_of : (held : Option Held) (root : Root) (infos : List Info) → AreInfosIn held root root.snapshots infos → AreListed (root_of root) infos
listed_of held root infos pairs info has =
    let s = first_of (IsInfoOf held root) root.snapshots infos pairs info has in
    (root_snap_of s.0, Has-map root_snap_of root.snapshots s.0 s.1, s.2.agrees.uuid_is)

pub infos_of : (held : Option Held) (cluster : Record) (root : Root) (infos : List Info) (known : Bytes → Bytes → ℕ → Bool) (told : Bytes → Bytes → ℕ → Option (List (Bytes × Bytes))) → AreInfosIn held root root.snapshots infos
    → AreInfosOf (formats known told) (world_in held cluster root) (is_told held) infos
infos_of held cluster root infos known told pairs = record {
  there = λ snap has.
      let s = Has-mapped root_snap_of root.snapshots snap has in
      let i = second_of (IsInfoOf held root) root.snapshots infos pairs s.0 s.1 in
      (i.0, i.1, i.2.agrees.uuid_is ∙ ap (λ (x : RootSnap). x.uuid) s.2);
  each = λ info has.
      let s = first_of (IsInfoOf held root) root.snapshots infos pairs info has in
      record { within = within root s.0 info s.2.agrees s.2.apart; generations = λ tells. s.2.agrees.generations; told = inr (λ tells. in_info held cluster root s.0 info known told s.2 tells) };
}
