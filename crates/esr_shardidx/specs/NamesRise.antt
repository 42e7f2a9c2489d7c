-- The names of the files of a snapshot rise.
use Rattle.std.proofs.Common.{◌≡◌, ℕ, true, false, List, [], ◌∷◌, ◌++◌, length, ◌-◌, suc, refl, ap, arith}
use Rattle.std.specs.List.{AllByRecursion}
use Rattle.std.specs.Ordering.{nat_cmp, is_lt}
use Rattle.std.specs.declared.cmp.Ordering.{Ordering}
use Rattle.std.specs.declared.cmp.Ordering.TheVariants.{Less, Equal, Greater}
use Rattle.std.specs.Cmp.Lexicographic.{slice_cmp}
use Rattle.std.proofs.lemmas.Cmp.{nat_list_cmp_total}
use Rattle.std.proofs.lemmas.List.{append_assoc, append-nil}
use Rattle.std.proofs.lemmas.Bool.{not-false}
use Rattle.esr_shardidx.specs.declared.entry.FileEntry.{FileEntry}
use Rattle.esr_shardidx.specs.Entries.{last_of, is_below, name_stays}
use Rattle.esr_shardidx.specs.Snapshots.{SnapValue, AreSnapFiles, IsShardSnap, NamesRise}
use Rattle.esr_shardidx.specs.FileOrder.{all_push}

pub less_from : (o : Ordering) → is_lt o ≡ true → o ≡ Less
less_from Less h = refl
less_from Equal h = cc
less_from Greater h = cc

below_trans : (a b c : List ℕ) → is_below a b ≡ true → is_below b c ≡ true → is_below a c ≡ true
below_trans a b c first second =
    ap is_lt (nat_list_cmp_total.trans a b c (less_from (slice_cmp nat_cmp a b) first) (less_from (slice_cmp nat_cmp b c) second))

-- a name that is above the last is above each
all_under : (s : List ℕ) (es : List FileEntry) → NamesRise es → name_stays (last_of es) s ≡ false → AllByRecursion (λ e. is_below e.physical s ≡ true) es
all_under s [] rises above = tt
all_under s (e ∷ []) rises above = (not-false (is_below e.physical s) above, tt)
all_under s (e ∷ f ∷ es) rises above =
    let place : length (e ∷ f ∷ es) - 1 ≡ suc (length (f ∷ es) - 1) = omega arith in
    let later = all_under s (f ∷ es) rises.1 (rw place at above) in
    (below_trans e.physical f.physical s rises.0.0 later.0, later)

NamesRise-push : (es : List FileEntry) (e : FileEntry) → NamesRise es → AllByRecursion (λ f. is_below f.physical e.physical ≡ true) es → NamesRise (es ++ e ∷ [])
NamesRise-push [] e rises under = (tt, tt)
NamesRise-push (f ∷ es) e rises under = (all_push (λ (x : FileEntry). is_below f.physical x.physical ≡ true) es e rises.0 under.0, NamesRise-push es e rises.1 under.1)

names_rise : (before es : List FileEntry) → NamesRise before → AreSnapFiles before es → NamesRise (before ++ es)
names_rise before [] rises h = rw append-nil rises
names_rise before (e ∷ es) rises h =
    let one = NamesRise-push before e rises (all_under e.physical before rises h.1) in
    rw (← append_assoc before (e ∷ []) es) (names_rise (before ++ e ∷ []) es one h.3)

pub snap_names_rise : (s : SnapValue) → IsShardSnap s → NamesRise s.files
snap_names_rise s h = names_rise [] s.files tt h.files
