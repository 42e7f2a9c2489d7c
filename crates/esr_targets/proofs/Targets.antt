-- The targets of the shards that lines restored.
use Rattle.std.proofs.Common.{◌≡◌, ℕ, List, [], ◌∷◌, ◌++◌, Some, append_assoc, refl, sym, ap, ◌∙◌, subst}
use Rattle.std.specs.FinMap as fin
use Rattle.esr_model.specs.Values.{Has, IndexRef}
use Rattle.esr_model.specs.Places.{places, sorted_by}
use Rattle.esr_model.specs.Image.{AllPairs}
use Rattle.esr_core.specs.World.{Reader}
use Rattle.esr_core.specs.Restores.{IsReading}
use Rattle.esr_core.specs.Entry.{Step, Moment}
use Rattle.esr_core.specs.Tracked.{Tracked}
use Rattle.esr_core.specs.ReadTracked.{ReadTracked}
use Rattle.esr_core.specs.Laws.SortedLists.{Has-sorted, sorted-Has, in_places}
use Rattle.esr_readers.specs.Readers.{RestoresIn, IsReaderOf}
use Rattle.esr_readers.specs.RestoredShards.{restores_out}
use Rattle.esr_script.specs.declared.item.ScriptLine.{ScriptLine}
use Rattle.esr_model.specs.Lists.{pairs_both}
use Rattle.esr_desk.specs.Start.{Start, formats_of, world_of, Legal}
use Rattle.esr_desk.specs.Own.{or_no_reader, reader_of}
use Rattle.esr_desk.specs.Evidence.{Evidence}
use Rattle.esr_desk.specs.Restore.Targets.{AreRestored, Restoration, restorations_in, IsTargetOf}
use Rattle.esr_desk.specs.declared.target.RestoredTarget.{RestoredTarget}
use Rattle.esr_quiet.specs.Asked.{asked_steps}
use Rattle.esr_complete.specs.Lines.{steps_of, entries_of}
use Rattle.esr_report.specs.Replies.{read_shard}
use Rattle.esr_targets.specs.declared.target.Restored.{Restored}
use Rattle.esr_targets.specs.Lines.{AreNumbered, ops_of_lines, AcceptedLine}
use Rattle.esr_targets.specs.Listed.{target_first, line_of, listed}
use Rattle.esr_targets.specs.Targets.{IsTargetOfShard, IsTargetOfLine, AreSingle, AreTargetsOfLines}
use Rattle.esr_targets.proofs.Splits.{right_has, order_pairs}
use Rattle.esr_targets.proofs.Places.{restored_at, place_restores, IsLater, in_order}
use Rattle.esr_targets.proofs.Ended.{EndedAt, ended_at}
use Rattle.esr_targets.proofs.Laws.{ReaderLaws, ShelfLaws}
use Rattle.esr_targets.proofs.Histories.{IsReaderFor, legal_front, allowed_at, tracked_at, allowed_ask, reader_is, reader_for}
use Rattle.esr_targets.proofs.Accepted.{IsLineOf, one_line, accepted_line, line_number}
use Rattle.esr_targets.proofs.Shelf.{shelved_as, on_shelf_as}
use Rattle.esr_targets.proofs.Listing.{listing, in_listed, to_listed, AreApartBy, listed_single, sorted_single}

-- the restoration, at its place, and its ticket
pub record Restores (s : Start) (log : List Moment) (e : Restoration) : Type 0 where
  pub m : Moment
  pub back : List Moment
  pub is : log ≡ e.before ++ m ∷ back
  pub restores : RestoresIn m e.ticket e.files e.bytes
  pub q : Reader
  pub reading : IsReading (world_of s e.before) e.ticket q

is_reader : (s : Start) (e : Restoration) (q : Reader) → IsReading (world_of s e.before) e.ticket q → reader_of s e.before e.ticket ≡ q
is_reader s e q reading = ap or_no_reader reading.there

module _ (laws : ReaderLaws) (shelf_laws : ShelfLaws) (s : Start) (t : Tracked s.world) (l : ReadTracked s.world) (log : List Moment) (legal : Legal s log) where
  restores_here : (e : Restoration) (back : List Moment) (m : Moment) → log ≡ e.before ++ m ∷ back → RestoresIn m e.ticket e.files e.bytes → Restores s log e
  restores_here e back m is restores =
      let out = restores_out (formats_of s) s.part_size (world_of s e.before) m e.ticket e.files e.bytes (allowed_at laws s t l log legal e.before back m is) restores in
      record { m = m; back = back; is = is; restores = restores; q = out.0; reading = out.1 }

  restores_there : (e : Restoration) → Has (restorations_in [] log) e → Restores s log e
  restores_there e h =
      let r = restored_at [] log e h in
      restores_here e r.back r.m (r.is ∙ ap (λ (x : List Moment). x ++ r.m ∷ r.back) (sym r.before_is)) r.restores

  module _ {S F H T : Type 0} (c : Evidence S F H T) (moment : ℕ) (lines : List ScriptLine) where
    -- ---- the target of a shard

    module _ (a : AcceptedLine moment lines log) (e : Restoration) (x : Restores s log e) (op : x.q.op ≡ a.op) (r : RestoredTarget T) (of : IsTargetOf c s e r) where
      reader_same : reader_of s e.before e.ticket ≡ x.q
      reader_same = is_reader s e x.q x.reading

      of_line : IsReaderOf x.q a.uuid a.place a.indices
      of_line = reader_is laws s t l log legal moment lines a e.before x.back x.m x.is e.ticket x.q x.reading op

      pub of_shard : (p : IndexRef × ℕ) (n : ℕ) → n ≡ a.line.number → x.q.name ≡ p.0.name → x.q.number ≡ p.1 → IsTargetOfShard c s moment lines log a p e.files e.bytes (listing r n)
      of_shard p n line name number =
          let q_name : (reader_of s e.before e.ticket).name ≡ p.0.name = ap (λ (q : Reader). q.name) reader_same ∙ name in
          let q_number : (reader_of s e.before e.ticket).number ≡ p.1 = ap (λ (q : Reader). q.number) reader_same ∙ number in
          record {
            line_is = line;
            index_is = of.index_is ∙ q_name;
            shard_is = of.shard_is ∙ q_number;
            address = record { place_is = of.for_it.place ∙ ap (λ (q : Reader). q.place) reader_same ∙ of_line.place_is; index_is = of.for_it.index ∙ q_name; number_is = of.for_it.number ∙ q_number };
            told = of.told;
            none_begun = of.none_begun;
            none_failed = of.none_failed;
            counts = λ held files tells. let restored = of.restored held files tells in record { files_is = restored.count_is; bytes_is = restored.bytes_is };
            shelf = λ held shelf files h.
                on_shelf_as laws shelf_laws s t l log legal moment lines a shelf h e.before x.back x.m x.is e.ticket x.q x.reading op held e.files e.bytes
                (subst (λ (q : Reader). AreRestored (formats_of s) q held e.files e.bytes) reader_same (of.restored held files h.tells)) p.0.name p.1 name number;
          }

    module _ (rest : List Step) (numbered : AreNumbered lines) (same : asked_steps log ++ rest ≡ steps_of moment lines) (restored : List (RestoredTarget T)) (each : AllPairs (IsTargetOf c s) (restorations_in [] log) restored) where
      abbrev ops : List (ℕ × ℕ)
      ops = ops_of_lines lines (entries_of log)

      abbrev targets : List (Restored T)
      targets = sorted_by target_first (listed ops restored)

      -- ---- each is of a line

      of_line_op : (e : Restoration) → Has (restorations_in [] log) e → (r : RestoredTarget T) → IsTargetOf c s e r → (n : ℕ) → line_of ops r.op ≡ Some n → IsTargetOfLine c s moment lines log (listing r n)
      of_line_op e there r of n found =
          let x = restores_there e there in
          let line : IsLineOf moment lines log r.op n = accepted_line laws s t l log legal moment lines rest same r.op n found in
          let op : x.q.op ≡ line.a.op = ap (λ (q : Reader). q.op) (sym (is_reader s e x.q x.reading)) ∙ sym of.op_is ∙ sym line.op_is in
          let reader = of_line line.a e x op r of in
          record {
            a = line.a;
            p = reader.shard;
            there = reader.there;
            files = e.files;
            bytes = e.bytes;
            restored = record {
              before = e.before;
              end = x.m;
              after = x.back;
              log_is = x.is;
              ticket = e.ticket;
              ends = x.restores;
              q = x.q;
              reading = x.reading;
              op_is = op;
              uuid_is = reader.uuid_is;
              index_is = sym reader.index_is;
              number_is = sym reader.number_is;
            };
            target = of_shard line.a e x op r of reader.shard n (sym line.number_is) (sym reader.name_is) (sym reader.number_is);
          }

      each_of : (u : Restored T) → Has targets u → IsTargetOfLine c s moment lines log u
      each_of u h =
          let m = in_listed ops restored u (Has-sorted target_first (listed ops restored) u h) in
          let (e, there, of) = right_has (IsTargetOf c s) (restorations_in [] log) restored m.r each m.there in
          subst (IsTargetOfLine c s moment lines log) m.is (of_line_op e there m.r of m.number m.line_is)

      -- ---- each restored shard has one

      module _ (a : AcceptedLine moment lines log) (p : IndexRef × ℕ) (files bytes : ℕ) (p_there : Has (places a.indices) p) (z : EndedAt log (read_shard a.op a.uuid p) files bytes) where
        abbrev ending : Restoration
        ending = record { before = z.front; ticket = z.k; files = files; bytes = bytes }

        here : Restores s log ending
        here = restores_here ending z.back z.m z.at z.restores

        for_it : IsReaderFor here.q (read_shard a.op a.uuid p)
        for_it = reader_for laws s t l log legal (read_shard a.op a.uuid p) files bytes z here.q here.reading

        name_same : IsReaderOf here.q a.uuid a.place a.indices → here.q.name ≡ p.0.name
        name_same reader =
            let one : reader.shard.0 ≡ p.0 =
            laws.one_id (formats_of s) s.part_size (world_of s a.at.before) a.at.answer a.op a.uuid a.indices reader.shard.0 p.0
            (allowed_ask laws s t l log legal moment lines a) a.accepted (in_places a.indices reader.shard reader.there).0 (in_places a.indices p p_there).0
            (reader.index_is ∙ for_it.index_is) in
            sym reader.name_is ∙ ap (λ (i : IndexRef). i.name) one

        listed_there : (r : RestoredTarget T) → Has restored r → IsTargetOf c s ending r → (u : Restored T) × Has targets u × IsTargetOfShard c s moment lines log a p files bytes u
        listed_there r there of =
            let op : here.q.op ≡ a.op = for_it.op_is in
            let r_op : r.op ≡ a.op = of.op_is ∙ ap (λ (q : Reader). q.op) (is_reader s ending here.q here.reading) ∙ op in
            let found : line_of ops r.op ≡ Some a.line.number = ap (line_of ops) r_op ∙ line_number laws s t l log legal moment lines a in (
              listing r a.line.number,
              sorted-Has target_first (listed ops restored) (listing r a.line.number) (to_listed ops restored r a.line.number there found),
              of_shard a ending here op r of p a.line.number refl (name_same (of_line a ending here op r of)) for_it.number_is,
            )

        has_one : (u : Restored T) × Has targets u × IsTargetOfShard c s moment lines log a p files bytes u
        has_one =
            let there : Has (restorations_in [] log) ending = subst (λ (x : List Moment). Has (restorations_in [] x) ending) (sym z.at) (place_restores [] z.front z.back z.m z.k files bytes z.restores) in
            let (r, r_there, of) = pairs_both (IsTargetOf c s) (restorations_in [] log) restored ending each there in
            listed_there r r_there of

      -- ---- no two are of one shard

      module _ (a b : Restoration) (later : IsLater log a b) (r u : RestoredTarget T) (of_r : IsTargetOf c s a r) (of_u : IsTargetOf c s b u) (n : ℕ)
          (r_line : line_of ops r.op ≡ Some n) (u_line : line_of ops u.op ≡ Some n) (index : u.index ≡ r.index) (shard : u.shard ≡ r.shard) where
        split : log ≡ a.before ++ later.m ∷ (later.between ++ later.n ∷ later.after)
        split = later.all_is ∙ ap (λ (x : List Moment). x ++ later.n ∷ later.after) later.is ∙ append_assoc a.before (later.m ∷ later.between) (later.n ∷ later.after)

        first : Restores s log a
        first = restores_here a (later.between ++ later.n ∷ later.after) later.m split later.first

        second : Restores s log b
        second = restores_here b later.after later.n later.all_is later.second

        line : IsLineOf moment lines log r.op n
        line = accepted_line laws s t l log legal moment lines rest same r.op n r_line

        first_op : first.q.op ≡ line.a.op
        first_op = ap (λ (q : Reader). q.op) (sym (is_reader s a first.q first.reading)) ∙ sym of_r.op_is ∙ sym line.op_is

        second_op : second.q.op ≡ line.a.op
        second_op = ap (λ (q : Reader). q.op) (sym (is_reader s b second.q second.reading)) ∙ sym of_u.op_is ∙ sym (one_line lines log r.op u.op n numbered r_line u_line) ∙ sym line.op_is

        one_index : first.q.index ≡ second.q.index
        one_index =
            let x = of_line line.a a first first_op r of_r in
            let y = of_line line.a b second second_op u of_u in
            let x_name : first.q.name ≡ r.index = ap (λ (q : Reader). q.name) (sym (is_reader s a first.q first.reading)) ∙ sym of_r.index_is in
            let y_name : u.index ≡ second.q.name = of_u.index_is ∙ ap (λ (q : Reader). q.name) (is_reader s b second.q second.reading) in
            let names : x.shard.0.name ≡ y.shard.0.name = x.name_is ∙ x_name ∙ sym index ∙ y_name ∙ sym y.name_is in
            let ask = line.a in
            let one : x.shard.0 ≡ y.shard.0 =
            laws.apart (formats_of s) s.part_size (world_of s ask.at.before) ask.at.answer ask.op ask.uuid ask.indices x.shard.0 y.shard.0
            (tracked_at laws s t l log legal ask.at.before (ask.at.answer ∷ ask.at.after) ask.at.log_is) (allowed_ask laws s t l log legal moment lines ask) ask.accepted
            (in_places ask.indices x.shard x.there).0 (in_places ask.indices y.shard y.there).0 names in
            sym x.index_is ∙ ap (λ (i : IndexRef). i.id) one ∙ y.index_is

        one_number : first.q.number ≡ second.q.number
        one_number = ap (λ (q : Reader). q.number) (sym (is_reader s a first.q first.reading)) ∙ sym of_r.shard_is ∙ sym shard ∙ of_u.shard_is ∙ ap (λ (q : Reader). q.number) (is_reader s b second.q second.reading)

        not_twice : ⊥
        not_twice =
            let front : List Moment = a.before ++ later.m ∷ later.between in
            let whole : log ≡ (front ++ later.n ∷ []) ++ later.after = later.all_is ∙ ap (λ (x : List Moment). x ++ later.n ∷ later.after) later.is ∙ sym (append_assoc front (later.n ∷ []) later.after) in
            laws.once (formats_of s) s.part_size s.world a.before later.between later.m later.n a.ticket b.ticket a.files a.bytes b.files b.bytes first.q second.q t l
            (legal_front laws s t l log legal (front ++ later.n ∷ []) later.after whole) later.first later.second first.reading.there
            (subst (λ (x : List Moment). fin.get (world_of s x).readers b.ticket ≡ Some second.q) later.is second.reading.there) (first_op ∙ sym second_op) one_index one_number

      are_single : AreSingle targets
      are_single = sorted_single target_first (listed ops restored)
          (listed_single ops restored (order_pairs (IsTargetOf c s) (IsLater log) (AreApartBy ops) (λ a b r u of_r of_u later n. not_twice a b later r u of_r of_u n) (restorations_in [] log) restored each (in_order log [] log refl)))

      pub are_of_lines : AreTargetsOfLines c s moment lines log targets
      are_of_lines =
          record {
            of = each_of;
            all = λ a p files bytes there end. has_one a p files bytes there (ended_at log (read_shard a.op a.uuid p) files bytes end);
            single = are_single;
            shelved = λ a shelf h. shelved_as laws shelf_laws s t l log legal moment lines a shelf h;
            ordered = (listed ops restored, refl);
          }
