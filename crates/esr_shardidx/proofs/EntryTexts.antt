-- What is written of an entry is read as that entry, and what is read is an entry that has a text.
use Rattle.std.proofs.Common.{◌≡◌, ℕ, ◌<◌, ◌^◌, ◌-◌, nat_lt, Bool, true, false, cond, List, length, take, drop, codes, Option, Some, None, Ok, pos, unsigned_abs, arith}
use Rattle.std.specs.Option.{ok_or}
use Rattle.std.specs.Str.{bytes_eq}
use Rattle.esr_json.specs.declared.refusal.Reason.TheVariants.{BadId}
use Rattle.serde_json.specs.Data.{Data}
use Rattle.esr_names.specs.declared.ids.Id.{Id}
use Rattle.esr_names.specs.IdTextLaws.{read_id_fits}
use Rattle.esr_hash.specs.Digits.{IsPrint, read_print}
use Rattle.esr_hash.specs.declared.print.Print.{Print}
use Rattle.esr_hash.specs.DigitLaws.{read_print-is}
use Rattle.esr_json.specs.Access.{text_at, number_at}
use Rattle.esr_json.specs.declared.key.Key.TheVariants as keys
use Rattle.esr_shardidx.specs.FileNames.{is_file_name}
use Rattle.esr_shardidx.specs.Entries.{read_file, last_of, id_falls, name_stays, file_after, physical_after, print_at, entry_of, IsEntry}
use Rattle.esr_shardidx.specs.declared.entry.FileEntry.{FileEntry}
use Rattle.esr_shardidx.proofs.Unrefused.{bind_ok, guard_ok, unless_ok, ok_same, some_from, number_within}

none_first : (t : Bool) (o : Option Id) (u : Id) → cond t None o ≡ Some u → o ≡ Some u
none_first true o u h = cc
none_first false o u h = h

none_last : (t : Bool) (o : Option Id) (u : Id) → cond t o None ≡ Some u → o ≡ Some u
none_last true o u h = h
none_last false o u h = cc

pub read_file-fits : (s : List ℕ) (u : Id) → read_file s ≡ Some u → u.number < 2 ^ 128
unfolding read_file
read_file-fits s u h = read_id_fits (drop 2 s) u (none_last (bytes_eq (take 2 s) (codes "__")) _ u (none_first (nat_lt (length s) 2) _ u h))

print_at-is : (len : ℕ) (d : Data) (p : Print) → len < 2 ^ 64 → print_at len d ≡ Ok p → IsPrint p × (p.len ≡ len)
unfolding print_at
print_at-is len d p fits h =
    let text = bind_ok (text_at keys.Sha256 d) _ p h in
    let is = read_print-is len text.0 p fits (some_from (read_print len text.0) _ p text.2) in
    (is.0, is.1)

file_after-is : (before : List FileEntry) (d : Data) (u : Id) → file_after before d ≡ Ok u → (u.number < 2 ^ 128) × (id_falls (last_of before) u ≡ false)
unfolding file_after
file_after-is before d u h =
    let text = bind_ok (text_at keys.Name d) _ u h in
    let id = bind_ok (ok_or (read_file text.0) BadId) _ u text.2 in
    let order = guard_ok (id_falls (last_of before) id.0) _ _ u id.2 in
    let same : id.0 ≡ u = ok_same order.1 in
    rw (← same) (read_file-fits text.0 id.0 (some_from (read_file text.0) _ id.0 id.1), order.0)

physical_after-is : (before : List FileEntry) (d : Data) (s : List ℕ) → physical_after before d ≡ Ok s → (is_file_name s ≡ true) × (name_stays (last_of before) s ≡ false)
unfolding physical_after
physical_after-is before d s h =
    let text = bind_ok (text_at keys.PhysicalName d) _ s h in
    let named = unless_ok (is_file_name text.0) _ _ s text.2 in
    let order = guard_ok (name_stays (last_of before) text.0) _ _ s named.1 in
    let same : text.0 ≡ s = ok_same order.1 in
    rw (← same) (named.0, order.0)

pub entry_of-is : (ids names : List FileEntry) (d : Data) (e : FileEntry) → entry_of ids names d ≡ Ok e
    → IsEntry e × (id_falls (last_of ids) e.name ≡ false) × (name_stays (last_of names) e.physical ≡ false)
unfolding entry_of
entry_of-is ids names d e h =
    let len = bind_ok (number_at keys.Length (pos 0) (pos (2 ^ 60 - 1)) d) _ e h in
    let name = bind_ok (file_after ids d) _ e len.2 in
    let size = bind_ok (number_at keys.PartSize (pos 1) (pos (2 ^ 30)) d) _ e name.2 in
    let physical = bind_ok (physical_after names d) _ e size.2 in
    let print = bind_ok (print_at (unsigned_abs len.0) d) _ e physical.2 in
    let whole : _ ≡ e = ok_same print.2 in
    let short = number_within keys.Length 0 (2 ^ 60 - 1) d len.0 len.1 in
    let sized = number_within keys.PartSize 1 (2 ^ 30) d size.0 size.1 in
    let id = file_after-is ids d name.0 name.1 in
    let text = physical_after-is names d physical.0 physical.1 in
    let fits : unsigned_abs len.0 < 2 ^ 64 = omega (arith, short.1) in
    let is = print_at-is (unsigned_abs len.0) d print.0 fits print.1 in
    let low : print.0.len < 2 ^ 60 = omega (arith, short.1, is.1) in
    rw (← whole) (
      record {
        typed = record { name = id.0; physical = text.0; print = is.0 };
        short = low;
        least = sized.0;
        most = sized.1;
      },
      id.1,
      text.1,
    )
