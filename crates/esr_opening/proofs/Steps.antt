-- What opening finds, step by step.
use Rattle.std.proofs.Common.{◌≡◌, ℕ, ◌+◌, ◌<◌, ℤ, pos, negsuc, List, [], ◌∷◌, length, drop, get_or, codes, Option, Some, None, Result, Ok, Err, refl, sym, ap, ◌∙◌}
use Rattle.std.specs.FinMap as fin
use Rattle.std.proofs.lemmas.List.{drop_more}
use Rattle.esr_model.specs.Values.{Bytes}
use Rattle.esr_depot.specs.Image.{Image as Held, Blobs, sizes_of}
use Rattle.esr_depot.specs.Listing.{page_from}
use Rattle.esr_json.specs.declared.refusal.Reason.{Reason}
use Rattle.esr_record.specs.Record.{Record}
use Rattle.esr_record.specs.Reading.{record_from}
use Rattle.esr_root.specs.Root.{Root}
use Rattle.esr_root.specs.Reading.{root_from}
use Rattle.esr_root.specs.declared.snaps.RootSnap.{RootSnap}
use Rattle.esr_opening.specs.Found.{Obstacle, ◌>>=◌, readable, read_as, without_record, record_in, root_name, root_in, safe_number, info_in, infos_in, known_ids, has_term, checked, found}
use Rattle.esr_opening.specs.Terms.{safe_place, whole_root_in, own_checks}

pub ok_same : {A E : Type 0} (a b : A) → ◌≡◌ {A = Result A E} (Ok a) (Ok b) → a ≡ b
ok_same a b h = cc

-- what was fetched and read
pub read_there : {V : Type 0} (from : Bytes → Result V Reason) (blobs : Blobs) (own name : Bytes) (bytes : Option Bytes) → name ≡ own → ◌≡◌ {A = Result (Option Bytes) Obstacle} (Ok (fin.get blobs name)) (Ok bytes)
    → read_as from own (fin.get blobs own) ≡ read_as from name bytes
read_there from blobs own name bytes is got = ap (λ (n : Bytes). read_as from n (fin.get blobs n)) (sym is) ∙ ap (read_as from name) (ok_same (fin.get blobs name) bytes got)

-- ---- the record

pub record_there : (i : Held) (text : Bytes) → Some text ≡ i.text → record_in i.blobs i.text ≡ readable (codes "record") (record_from text)
record_there i text is = ap (record_in i.blobs) (sym is)

-- the first page has the first name
first_page : (sizes : List (Bytes × ℕ)) → without_record sizes ≡ without_record (page_from None sizes)
first_page [] = refl
first_page (s ∷ sizes) = refl

pub record_absent : (i : Held) (page : List (Bytes × ℕ)) → None ≡ i.text → page ≡ page_from None (sizes_of i.blobs) → record_in i.blobs i.text ≡ without_record page
record_absent i page is same = ap (record_in i.blobs) (sym is) ∙ first_page (sizes_of i.blobs) ∙ ap without_record (sym same)

-- ---- the root

root_at : (blobs : Blobs) (safe : ℤ) (n : ℕ) → safe_place safe ≡ Some n → root_in blobs safe ≡ read_as root_from (root_name n) (fin.get blobs (root_name n))
root_at blobs (pos m) n place = let same : m ≡ n = cc in ap (λ (k : ℕ). read_as root_from (root_name k) (fin.get blobs (root_name k))) same
root_at blobs (negsuc m) n place = absurd cc

pub root_there : (blobs : Blobs) (safe : ℤ) (n : ℕ) (name : Bytes) (bytes : Option Bytes) → safe_place safe ≡ Some n → name ≡ root_name n → ◌≡◌ {A = Result (Option Bytes) Obstacle} (Ok (fin.get blobs name)) (Ok bytes)
    → root_in blobs safe ≡ read_as root_from name bytes
root_there blobs safe n name bytes place is got = root_at blobs safe n place ∙ read_there root_from blobs (root_name n) name bytes is got

-- ---- infos

infos_step : (blobs : Blobs) (root : Root) (n : ℕ) (snaps : List RootSnap) (index : ℕ) (s : RootSnap) → index < length snaps → s ≡ get_or snaps index s
    → infos_in blobs root n (drop index snaps) ≡ (info_in blobs root n s >>= λ x. infos_in blobs root n (drop (index + 1) snaps))
infos_step blobs root n snaps index s less is = ap (infos_in blobs root n) (drop_more snaps index s less ∙ ap (λ (z : RootSnap). z ∷ drop (index + 1) snaps) (sym is))

pub then_err : {A B : Type 0} (r : Result A Obstacle) (f : A → Result B Obstacle) (o : Obstacle) → r ≡ Err o → (r >>= f) ≡ Err o
then_err r f o h = ap (λ s. s >>= f) h

pub then_ok : {A B : Type 0} (r : Result A Obstacle) (f : A → Result B Obstacle) (x : A) → r ≡ Ok x → (r >>= f) ≡ f x
then_ok r f x h = ap (λ s. s >>= f) h

-- one more
pub infos_on : (blobs : Blobs) (root : Root) (n : ℕ) (snaps : List RootSnap) (index : ℕ) (s : RootSnap) (x : Unit {0}) → index < length snaps → s ≡ get_or snaps index s → info_in blobs root n s ≡ Ok x
    → infos_in blobs root n snaps ≡ infos_in blobs root n (drop index snaps) → infos_in blobs root n snaps ≡ infos_in blobs root n (drop (index + 1) snaps)
infos_on blobs root n snaps index s x less is there before =
    before ∙ infos_step blobs root n snaps index s less is ∙ then_ok (info_in blobs root n s) (λ u. infos_in blobs root n (drop (index + 1) snaps)) x there

-- ---- the root with its infos

whole_by : (blobs : Blobs) (safe : ℤ) (root : Root) (n : ℕ) (snaps : List RootSnap) → root_in blobs safe ≡ Ok root → n ≡ safe_number safe → snaps ≡ root.snapshots
    → whole_root_in blobs safe ≡ (infos_in blobs root n snaps >>= λ x. Ok root)
whole_by blobs safe root n snaps there number is =
    then_ok (root_in blobs safe) (λ (r : Root). infos_in blobs r (safe_number safe) r.snapshots >>= λ x. Ok r) root there
    ∙ ap (λ (k : ℕ). infos_in blobs root k root.snapshots >>= λ x. Ok root) (sym number)
    ∙ ap (λ (ss : List RootSnap). infos_in blobs root n ss >>= λ x. Ok root) (sym is)

pub whole_there : (blobs : Blobs) (safe : ℤ) (root : Root) (n : ℕ) (snaps : List RootSnap) (x : Unit {0}) → root_in blobs safe ≡ Ok root → n ≡ safe_number safe → snaps ≡ root.snapshots
    → infos_in blobs root n snaps ≡ Ok x → whole_root_in blobs safe ≡ Ok root
whole_there blobs safe root n snaps x there number is infos = whole_by blobs safe root n snaps there number is ∙ then_ok (infos_in blobs root n snaps) (λ x. Ok root) x infos

pub no_whole_root : (blobs : Blobs) (safe : ℤ) (o : Obstacle) → root_in blobs safe ≡ Err o → whole_root_in blobs safe ≡ Err o
no_whole_root blobs safe o fails = then_err (root_in blobs safe) (λ (r : Root). infos_in blobs r (safe_number safe) r.snapshots >>= λ x. Ok r) o fails

-- ---- all of it

abbrev pub both_of : Record → Root → Unit {0} → Result (Record × Root) Obstacle
both_of c r x = Ok (c, r)

by_term : (cluster : Record) (root : Root) (ids : Result (Unit {0}) Obstacle) → (ids >>= λ y. has_term cluster.term >>= both_of cluster root) ≡ ((ids >>= λ y. has_term cluster.term) >>= both_of cluster root)
by_term cluster root (Err e) = refl
by_term cluster root (Ok x) = refl

by_infos : (cluster : Record) (root : Root) (infos : Result (Unit {0}) Obstacle)
    → (infos >>= λ x. known_ids root (safe_number cluster.safe) cluster.term >>= λ y. has_term cluster.term >>= both_of cluster root)
    ≡ ((infos >>= λ x. Ok root) >>= λ r. own_checks cluster r >>= both_of cluster r)
by_infos cluster root (Err e) = refl
by_infos cluster root (Ok x) = by_term cluster root (known_ids root (safe_number cluster.safe) cluster.term)

by_root : (blobs : Blobs) (cluster : Record) (root : Result Root Obstacle)
    → (root >>= λ r. checked blobs cluster r) ≡ ((root >>= λ r. infos_in blobs r (safe_number cluster.safe) r.snapshots >>= λ x. Ok r) >>= λ r. own_checks cluster r >>= both_of cluster r)
by_root blobs cluster (Err e) = refl
by_root blobs cluster (Ok r) = by_infos cluster r (infos_in blobs r (safe_number cluster.safe) r.snapshots)

by_record : (blobs : Blobs) (cluster : Result Record Obstacle)
    → (cluster >>= λ c. root_in blobs c.safe >>= λ r. checked blobs c r) ≡ (cluster >>= λ c. whole_root_in blobs c.safe >>= λ r. own_checks c r >>= both_of c r)
by_record blobs (Err e) = refl
by_record blobs (Ok c) = by_root blobs c (root_in blobs c.safe)

pub found_is : (i : Held) → found i ≡ (record_in i.blobs i.text >>= λ c. whole_root_in i.blobs c.safe >>= λ r. own_checks c r >>= both_of c r)
unfolding found
found_is i = by_record i.blobs (record_in i.blobs i.text)

pub no_found_record : (i : Held) (o : Obstacle) → record_in i.blobs i.text ≡ Err o → found i ≡ Err o
no_found_record i o record_fails = found_is i ∙ then_err (record_in i.blobs i.text) (λ (c : Record). whole_root_in i.blobs c.safe >>= λ r. own_checks c r >>= both_of c r) o record_fails

found_record : (i : Held) (cluster : Record) → record_in i.blobs i.text ≡ Ok cluster → found i ≡ (whole_root_in i.blobs cluster.safe >>= λ r. own_checks cluster r >>= both_of cluster r)
found_record i cluster there = found_is i ∙ then_ok (record_in i.blobs i.text) (λ (c : Record). whole_root_in i.blobs c.safe >>= λ r. own_checks c r >>= both_of c r) cluster there

pub no_found_root : (i : Held) (cluster : Record) (o : Obstacle) → record_in i.blobs i.text ≡ Ok cluster → whole_root_in i.blobs cluster.safe ≡ Err o → found i ≡ Err o
no_found_root i cluster o there root_fails = found_record i cluster there ∙ then_err (whole_root_in i.blobs cluster.safe) (λ (r : Root). own_checks cluster r >>= both_of cluster r) o root_fails

pub found_root : (i : Held) (cluster : Record) (root : Root) → record_in i.blobs i.text ≡ Ok cluster → whole_root_in i.blobs cluster.safe ≡ Ok root → found i ≡ (own_checks cluster root >>= both_of cluster root)
found_root i cluster root there root_there = found_record i cluster there ∙ then_ok (whole_root_in i.blobs cluster.safe) (λ (r : Root). own_checks cluster r >>= both_of cluster r) root root_there

pub no_found_own : (i : Held) (cluster : Record) (root : Root) (o : Obstacle) → record_in i.blobs i.text ≡ Ok cluster → whole_root_in i.blobs cluster.safe ≡ Ok root → own_checks cluster root ≡ Err o → found i ≡ Err o
no_found_own i cluster root o there root_there own_fails = found_root i cluster root there root_there ∙ then_err (own_checks cluster root) (both_of cluster root) o own_fails

pub all_found : (i : Held) (cluster : Record) (root : Root) (x : Unit {0}) → record_in i.blobs i.text ≡ Ok cluster → whole_root_in i.blobs cluster.safe ≡ Ok root → own_checks cluster root ≡ Ok x → found i ≡ Ok (cluster, root)
all_found i cluster root x there root_there own = found_root i cluster root there root_there ∙ then_ok (own_checks cluster root) (both_of cluster root) x own
