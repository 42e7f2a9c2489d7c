-- A cleanup dooms no more names than it lists, so its ticket has made few steps.
use Rattle.std.proofs.Common.{◌≡◌, ℕ, suc, ◌+◌, ◌*◌, ◌≤◌, List, [], ◌∷◌, ◌++◌, length, Bool, true, false, Option, Some, None, sym, subst, arith, le_refl}
use Rattle.std.specs.Prelude.{if◌then◌else◌}
use Rattle.esr_model.specs.Names.{BlobName}
use Rattle.esr_model.specs.Values.{Bytes, RootData, Formats}
use Rattle.esr_model.specs.Cleanup.{BlobSize, and_name, names_listed, reaches, unreached, cleaned_names}
use Rattle.esr_core.specs.World.{World, Work, Deleting, Ticket, Swap}
use Rattle.esr_core.specs.Pruning.{doomed_as, doomed_by, dooms}
use Rattle.esr_core.specs.Entry.{Moment}
use Rattle.esr_bounds.specs.Keys.{made_by}
use Rattle.esr_bounds.specs.Others.{most_shards, most_by_shards, most_blobs}

pub one_more : (a b : ℕ) → a ≤ b → suc a ≤ suc b
one_more a b h = let less : a ≤ b = h in omega (arith, less)

as_many : (a b : ℕ) → a ≤ b → a ≤ suc b
as_many a b h = let less : a ≤ b = h in omega (arith, less)

unreached_few : (f : Formats) (number : Option ℕ) (root : RootData) (read : List (BlobName × Bytes)) (names : List BlobName) → length (unreached f number root read names) ≤ length names
unreached_few f number root read [] = le_refl 0
unreached_few f number root read (name ∷ names) = by (reaches f number root read name) (unreached_few f number root read names)
  where
    by : (b : Bool) → length (unreached f number root read names) ≤ length names → length (if b then unreached f number root read names else name ∷ unreached f number root read names) ≤ suc (length names)
    by true rest = as_many (length (unreached f number root read names)) (length names) rest
    by false rest = one_more (length (unreached f number root read names)) (length names) rest

names_few : (f : Formats) (listed : List BlobSize) → length (names_listed f listed) ≤ length listed
names_few f [] = le_refl 0
names_few f (b ∷ listed) = by (f.names.read b.text) (names_few f listed)
  where
    by : (o : Option BlobName) → length (names_listed f listed) ≤ length listed → length (and_name o (names_listed f listed)) ≤ suc (length listed)
    by None rest = as_many (length (names_listed f listed)) (length listed) rest
    by (Some name) rest = one_more (length (names_listed f listed)) (length listed) rest

cleaned_few : (f : Formats) (number : Option ℕ) (root : RootData) (read : List (BlobName × Bytes)) (listed : List BlobSize) → length (cleaned_names f number root read listed) ≤ length listed
unfolding cleaned_names
cleaned_few f number root read listed = both (length (unreached f number root read (names_listed f listed))) (length (names_listed f listed)) (length listed) (unreached_few f number root read (names_listed f listed)) (names_few f listed)
  where
    both : (a b c : ℕ) → a ≤ b → b ≤ c → a ≤ c
    both a b c p q = let one : a ≤ b = p in let two : b ≤ c = q in omega (arith, one, two)

doomed_few : (f : Formats) (t : Ticket) (uuids : List ℕ) (plan : Option Swap) → t.work ≡ Deleting uuids plan → t.clean ≡ true → length (dooms f t) ≤ length t.listed
doomed_few f t uuids plan is clean = subst (λ (work : Work). length (doomed_by f t work) ≤ length t.listed) (sym is) (by plan)
  where
    none : (n : ℕ) → 0 ≤ n
    none n = omega arith

    by : (o : Option Swap) → length (doomed_by f t (Deleting uuids o)) ≤ length t.listed
    by None = none (length t.listed)
    by (Some s) = subst (λ (b : Bool). length (doomed_as f t uuids s b) ≤ length t.listed) (sym clean) (cleaned_few f t.raised s.root (s.own ++ t.read) t.listed)

pub cleanup_few : (f : Formats) (w : World) (log : List Moment) (k : ℕ) (t : Ticket) (uuids : List ℕ) (plan : Option Swap) → t.work ≡ Deleting uuids plan → t.clean ≡ true → made_by log k ≤ most_by_shards f w log t
    → length t.listed ≤ most_blobs w log → made_by log k ≤ 15 + (3 * most_shards w log + 2 * most_blobs w log)
cleanup_few f w log k t uuids plan is clean made listed =
    sum (made_by log k) (most_shards w log) (length t.listed) (length (dooms f t)) (most_blobs w log) made (doomed_few f t uuids plan is clean) listed
  where
    sum : (m s l d b : ℕ) → m ≤ 15 + (3 * s + (l + d)) → d ≤ l → l ≤ b → m ≤ 15 + (3 * s + 2 * b)
    sum m s l d b p q r = let one : m ≤ 15 + (3 * s + (l + d)) = p in let two : d ≤ l = q in let three : l ≤ b = r in omega (arith, one, two, three)
