-- The commit's code makes the commit.
use Rattle.std.proofs.Common.{◌≡◌, ℕ, zero, suc, ◌+◌, ◌*◌, ◌/◌, ◌%◌, ◌<◌, ◌≤◌, List, [], ◌∷◌, ◌++◌, length, length-append}
use Rattle.std.proofs.Common.{refl, sym, ap, ◌∙◌, subst, arith, Bool, true}
use Rattle.std.specs.List.{All}
use Rattle.std.proofs.lemmas.List.Elements.{All-same}
use Rattle.runtime_code.specs.msp_isa.declared.instructions.Condition.TheVariants.{Always}
use Rattle.runtime_code.specs.fram_board.Effects.{Effect, Store}
use Rattle.runtime_code.specs.machine_effects.World.{fram_after}
use Rattle.runtime_code.specs.machine_effects.Inputs.{Inputs}
use Rattle.runtime_code.specs.machine_effects.Machine.{Code, IsPlace}
use Rattle.runtime_code.proofs.machine_effects.Interface.{fram_after-append, all_behind}
use Rattle.runtime_code.specs.code_forms.Forms.{Core, Branch}
use Rattle.runtime_code.specs.code_forms.Code.{Stands, IsTidy, forms_bytes, anywhere}
use Rattle.runtime_code.proofs.code_forms.Interface.{stands_front, forms_at, forms_behind}
use Rattle.runtime_code.specs.runtime_effects.Places.{CopyPair, run_pairs, entries_from, listed}
use Rattle.runtime_code.specs.runtime_effects.Stages.{copied_home, sends, emits_sent, tail_moved, commit_closed, commit_effects}
use Rattle.runtime_code.specs.runtime_effects.Needs.{AreInFram, CanCommit, IsCopied}
use Rattle.runtime_code.proofs.runtime_effects.Interface.{run_length, entries_alike, where_leaves}
use Rattle.runtime_code.specs.Comes.{Comes, IsAt}
use Rattle.runtime_code.specs.Counted.{if_any}
use Rattle.runtime_code.proofs.Interface.{behind, core_at, from_there, ends, then_on, so_ends, recounted, nothing, comes_on, form_comes, straight, jumps}
use Rattle.runtime_code.proofs.Interface.{if_any_grows, Loop, Turning, Point, Turn, Makes, loop_ends, in_front, turn_there, loops}
use Rattle.runtime_code.proofs.Interface.{IsLeft, all_left, left_from, first_left, BehindSends, sends_are_made}
use Rattle.runtime_code.proofs.Interface.{tail_is_place, sent_is_place, behind_where, where_comes}
use Rattle.commit_runtime.specs.Listing.{copies_begin, entry_begin, word_moved, word_loop, copy_loop, tail_set, events_taken, closing, commit_forms}
use Rattle.commit_runtime.specs.Listing.{commit_bytes, commit_steps, commit_cycles}
use Rattle.commit_runtime.specs.Laws.{CommitIsMade}
use Rattle.commit_runtime.proofs.WordLoop.{words_home}
use Rattle.commit_runtime.proofs.Copies.{all_front, copied_behind, list_stays, emits_stay, sends_alike, sends_keep, sent_base_stays, emit_count_stays}
use Rattle.commit_runtime.proofs.Copies.{next_task_stays, sent_tail_stays}
use Rattle.memory_map.specs.declared.words.RuntimeWord.TheVariants.{CurrentTask, NextTask, Gate, ListLength, EmitCount, Base, SentBase}
use Rattle.memory_map.specs.MemoryMap.{MemoryMap, word_place, where_events, with_events}
use Rattle.memory_map.specs.event_places.Places.{tail_place, sent_place}

-- the words that so many entries from there on name, and the stores that bring them home
abbrev named : ℕ → Point → List CopyPair
named n x = entries_from n x.place x.memory

abbrev homes : ℕ → Point → List Effect
homes n x = copied_home (named n x) x.memory

module _ (code : Code) (tidy : IsTidy code) (m : MemoryMap) (places : AreInFram m) where
  module _ (p : ℕ) (high : p + 34 < 0x10000) (stands : Stands code p (copy_loop m)) (l : Inputs) where
    abbrev copies_loop : Loop code
    copies_loop = record { at = p; address = m.list.address; turn = entry_begin ++ word_loop; stands = stands; passed = omega arith; again = omega arith }

    record AreNext (n : ℕ) (x : Point) (w : ℕ → ℕ) : Type 0 where
      entries : IsLeft m.list.address (6 * m.entries) x.place (6 * n)
      few : length (named n x) < 0x10000
      copied : All (IsCopied m) (named n x)

    abbrev turning : Turning Point
    turning = record {
      next = λ x. x.place;
      memory = λ x. x.memory;
      inputs = λ x. l;
      Ready = AreNext;
      stays = λ n x w v same r. record { entries = r.entries; few = r.few; copied = r.copied };
      made = homes;
      steps = λ n x. 8 * n + 4 * length (named n x);
      cycles = λ n x. 14 * n + 9 * length (named n x);
      Done = λ n x. IsAt (p + 30) (fram_after (homes n x) x.memory) l;
    }

    -- an entry is read, and its words go home
    entry_home : (n : ℕ) (x : Point) (u : Core) → AreNext (suc n) x u.work → Turn code copies_loop turning n x (in_front copies_loop turning (suc n) x u)
    entry_home n x u r =
        let q = x.place in let f = x.memory in
        let s = in_front copies_loop turning (suc n) x u in
        let k = f (q + 4) in
        let run = run_pairs k (f q) (f (q + 2)) in
        let rest = entries_from n (q + 6) f in
        let es = copied_home run f in
        let to : Point = record { place = q + 6; memory = fram_after es f } in
        let here = all_front (IsCopied m) run rest r.copied in
        let low = r.entries.low in let top = r.entries.high in let few = r.few in
        let same : named n to ≡ rest = entries_alike n (q + 6) f to.memory
        (λ a from end. list_stays m run f here a (omega (arith, low, from)) (omega (arith, top, end))) in
        let long = run_length k (f q) (f (q + 2)) in
        let both = length-append run rest in
        let left = ap length same in
        let read = behind entry_begin s in
        let third : q + 2 + 2 ≡ q + 4 = omega arith in
        let all : es ++ homes n to ≡ homes (suc n) x = ap (λ ys. es ++ copied_home ys to.memory) same ∙ sym (copied_behind run rest f) in
        let words = forms_at code p 6 5 (copy_loop m) stands in
        let home = first_left places.list r.entries (omega arith) in
        let copy = first_left places.list (left_from 2 4 r.entries refl (omega arith)) (omega arith) in
        let count = subst IsPlace (sym third) (first_left places.list (left_from 4 2 r.entries refl (omega arith)) (omega arith)) in
        let reads : Comes code [] 3 6 s (λ v. v ≡ read) =
        straight code tidy entry_begin s (tt, (tt, (tt, tt))) (stands_front code (p + 8) entry_begin word_loop (turn_there code tidy copies_loop))
        ((home, tt), ((copy, tt), ((count, tt), tt))) refl in
        let at_count : Core = record read { pc = p + 22 } in
        let begins : Comes code [] 1 2 read (λ v. v ≡ at_count) =
        jumps code tidy Always (forms_bytes word_moved / 2) (p + 22) (p + 16) true read (ap code.at (omega arith) ∙ words.0) (omega arith) (omega arith) refl in
        record {
          to = to;
          effects = es;
          steps = 3 + (1 + (2 + k * 4));
          cycles = 6 + (2 + (3 + k * 9));
          comes = then_on reads (then_on begins (so_ends
              (words_home code tidy m (p + 14) (omega (arith, high)) words k (f q) (f (q + 2)) f l at_count (omega (arith, few, long, both))
              (record { pc = omega arith; fram = refl; inputs = refl }) (ap f third) refl refl here)
              (λ v h. record {
                at = record { pc = h.at.pc ∙ omega arith; fram = h.at.fram; inputs = h.at.inputs };
                left = h.entries_left;
                next = h.next_entry ∙ omega arith;
                ready = record {
                  entries = left_from 6 (6 * n) r.entries refl (omega arith);
                  few = omega (arith, few, both, left);
                  copied = All-same (IsCopied m) (named n to) rest same (all_behind (IsCopied m) run rest r.copied);
                };
              })));
          made = all;
          all_steps = omega (arith, long, both, left);
          all_cycles = omega (arith, long, both, left);
          done = λ v h. record {
            pc = h.pc;
            fram = h.fram ∙ sym (fram_after-append es (homes n to) f) ∙ ap (λ l. fram_after l f) all;
            inputs = h.inputs;
          };
        }

    -- behind the last one
    all_home : (x : Point) (u : Core) → IsAt (loop_ends copies_loop) x.memory l u → AreNext 0 x u.work → Makes code turning 0 x u
    all_home x u at r = nothing (anywhere code) u _ at

  -- the listed words go home
  copy_part : (p : ℕ) (f : ℕ → ℕ) (l : Inputs) (u : Core) → p + 40 < 0x10000 → Stands code p (copies_begin m) → Stands code (p + 4) (copy_loop m)
      → CanCommit m f → IsAt p f l u
      → let n = f (word_place m ListLength) in let k = length (listed m f) in let es = copied_home (listed m f) f in
      Comes code es (1 + (2 + if_any n 1 + (8 * n + 4 * k))) (3 + (3 + if_any n 2 + (14 * n + 9 * k))) u (IsAt (p + 4 + 30) (fram_after es f) l)
  copy_part p f l u high h stands can at =
      let n = f (word_place m ListLength) in
      let few = can.list_length in let last = places.list.high in let words = can.words in
      let high' : p + 4 + 34 < 0x10000 = omega (arith, high) in
      from_there u at (then_on (straight code tidy (copies_begin m) (core_at p f l u) (tt, tt) h ((places.words ListLength, tt), tt) refl)
      (loops code tidy (copies_loop (p + 4) high' stands l) (turning (p + 4) high' stands l) (entry_home (p + 4) high' stands l)
      (all_home (p + 4) high' stands l) n (record { place = m.list.address; memory = f }) (behind (copies_begin m) (core_at p f l u))
      (omega (arith, few, last)) (record { pc = refl; fram = refl; inputs = refl }) refl refl
      (record { entries = all_left (6 * n) places.list (omega (arith, few)); few = omega (arith, words, last); copied = can.copies })))

  -- TAIL, where there are events
  pub tail_part : (p number : ℕ) (f : ℕ → ℕ) (l : Inputs) (u : Core) → Stands code p (events_taken m) → BehindSends p number f l u
      → let events = m.runtime.events in let es = tail_moved m f in
      Comes code es (with_events events 1) (with_events events 6) u (BehindSends (p + with_events events 6) number (fram_after es f) l)
  tail_part p number f l u h at =
      where_comes code m.runtime.events tail_set (Store tail_place (f sent_place) ∷ []) 1 6 6 p (λ q es. BehindSends q number (fram_after es f) l) u
      (λ k. from_there u at.at (ends (straight code tidy tail_set (core_at p f l u) (tt, tt) k ((sent_is_place, tail_is_place), tt) refl)
      (record { at = record { pc = refl; fram = refl; inputs = refl }; next_number = at.next_number })))
      h at

  -- the last stores, with a number for BASE
  abbrev closed_with : ℕ → ℕ → List Effect
  closed_with next number = Store (word_place m CurrentTask) next ∷ Store (word_place m Base) number ∷ Store (word_place m Gate) 0 ∷ []

  -- they are made, and the branch
  close_part : (p start number : ℕ) (f : ℕ → ℕ) (l : Inputs) (u : Core) → start % 2 ≡ 0 → Stands code p (closing m ++ (Branch start ∷ []))
      → BehindSends p number f l u
      → let es = closed_with (f (word_place m NextTask)) number in Comes code es 4 17 u (IsAt start (fram_after es f) l)
  close_part p start number f l u even h at =
      let s = core_at p f l u in
      let closed = behind (closing m) s in
      let es = closed_with (f (word_place m NextTask)) in
      subst (λ k. Comes code (es k) 4 17 u (IsAt start (fram_after (es k) f) l)) at.next_number
      (from_there u at.at (then_on (straight code tidy (closing m) s (tt, (tt, (tt, tt))) (stands_front code p (closing m) (Branch start ∷ []) h)
      ((places.words NextTask, places.words CurrentTask), ((tt, places.words Base), ((tt, places.words Gate), tt))) refl)
      (form_comes (anywhere code) tidy (Branch start) closed (record closed { pc = start }) [] 3 (IsAt start (fram_after (es (u.work 7)) f) l) h.1.1.1.0
      even refl
      (record { pc = refl; fram = refl; inputs = refl }))))

  -- all of them, with a word for TAIL
  abbrev ended_with : ℕ → ℕ → ℕ → List Effect
  ended_with tail next number = where_events m.runtime.events (Store tail_place tail ∷ []) ++ closed_with next number

  end_part : (p start number : ℕ) (f : ℕ → ℕ) (l : Inputs) (u : Core) → start % 2 ≡ 0
      → Stands code p (events_taken m ++ (closing m ++ (Branch start ∷ []))) → BehindSends p number f l u
      → let events = m.runtime.events in let es = ended_with (f sent_place) (f (word_place m NextTask)) number in
      Comes code es (with_events events 1 + 4) (with_events events 6 + 17) u (IsAt start (fram_after es f) l)
  end_part p start number f l u even h at =
      let events = m.runtime.events in
      let last = closing m ++ (Branch start ∷ []) in
      let ts = tail_moved m f in
      let g = fram_after ts f in
      let row = places.row in
      let next : g (word_place m NextTask) ≡ f (word_place m NextTask) =
      where_leaves events tail_place (f sent_place) (word_place m NextTask) f (λ on e. omega (arith, row, e)) in
      let behind_tail = behind_where code events tail_set p last h in
      let Closed : ℕ → Core → Type 0 = λ x v. let es = closed_with x number in Comes code es 4 17 v (IsAt start (fram_after es g) l) in
      let es = closed_with (f (word_place m NextTask)) number in
      so_ends (comes_on (tail_part p number f l u (stands_front code p (events_taken m) last h) at)
      (λ v j. subst (λ x. Closed x v) next (close_part (p + with_events events 6) start number g l v even behind_tail j)))
      (λ v j. record { pc = j.pc; fram = j.fram ∙ sym (fram_after-append ts es f); inputs = j.inputs })

  commits : (p start : ℕ) (f : ℕ → ℕ) (l : Inputs) (u : Core) → p + commit_bytes m.runtime.events < 0x10000 → start % 2 ≡ 0
      → Stands code p (commit_forms m start) → CanCommit m f
      → f (word_place m SentBase) < 0x10000 → IsAt p f l u
      → let n = f (word_place m ListLength) in let ws = length (listed m f) in let k = f (word_place m EmitCount) in let es = commit_effects m f in
      let events = m.runtime.events in
      Comes code es (commit_steps events n ws k) (commit_cycles events n ws k) u (IsAt start (fram_after es f) l)
  commits p start f l u high even h can word at =
      let xs = listed m f in
      let cs = copied_home xs f in
      let g = fram_after cs f in
      let k = f (word_place m EmitCount) in
      let base = f (word_place m SentBase) in
      let few = can.emit_count in
      let sb : g (word_place m SentBase) ≡ base = sent_base_stays m xs f can.copies in
      let en : g (word_place m EmitCount) ≡ k = emit_count_stays m xs f can.copies in
      let nx : g (word_place m NextTask) ≡ f (word_place m NextTask) = next_task_stays m xs f can.copies in
      let se : g sent_place ≡ f sent_place = sent_tail_stays m xs f can.copies in
      let same : emits_sent m g ≡ emits_sent m f =
      ap (λ x. sends x (g (word_place m SentBase)) m.emits.address g) en ∙ ap (λ x. sends k x m.emits.address g) sb
      ∙ sends_alike k base m.emits.address f g (λ a from end. emits_stay m xs f can.copies a from (omega (arith, end, few))) in
      let Sent : List Effect → ℕ → ℕ → Core → Type 0 = λ es b n v.
      Comes code es (2 + (2 + if_any n 1 + 5 * n)) (6 + (3 + if_any n 2 + 13 * n)) v (BehindSends (p + 34 + 30) ((b + n) % 0x10000) g l) in
      let sent : (v : Core) → IsAt (p + 4 + 30) g l v → Sent (emits_sent m f) base k v = λ v j.
      subst (λ es. Sent es base k v) same (subst (λ n. Sent (emits_sent m g) base n v) en
      (subst (λ b. Sent (emits_sent m g) b (g (word_place m EmitCount)) v) sb
      (sends_are_made code tidy m places (p + 34) g l v (omega (arith, high)) (forms_at code p 14 10 (commit_forms m start) h) (omega (arith, en, few))
      (omega (arith, sb, word)) (record { pc = j.pc ∙ omega arith; fram = j.fram; inputs = j.inputs })))) in
      let ls = commit_closed m f in
      let events = m.runtime.events in
      let Closed : List Effect → Core → Type 0 = λ es v.
      Comes code es (with_events events 1 + 4) (with_events events 6 + 17) v (IsAt start (fram_after es g) l) in
      let closed : (v : Core) → BehindSends (p + 34 + 30) ((base + k) % 0x10000) g l v → Closed ls v = λ v j.
      let there : p + 34 + 30 ≡ p + 64 = omega arith in
      subst (λ t. Closed (ended_with t (f (word_place m NextTask)) ((base + k) % 0x10000)) v) se
      (subst (λ x. Closed (ended_with (g sent_place) x ((base + k) % 0x10000)) v) nx
      (end_part (p + 64) start ((base + k) % 0x10000) g l v even (forms_behind code p 24 (commit_forms m start) h)
      (subst (λ x. BehindSends x ((base + k) % 0x10000) g l v) there j))) in
      let all : fram_after ls g ≡ fram_after (commit_effects m f) f =
      sym (fram_after-append cs (emits_sent m f ++ ls) f ∙ fram_after-append (emits_sent m f) ls g
      ∙ ap (fram_after ls) (sends_keep k base m.emits.address f g)) in
      recounted (omega arith) (omega arith)
      (so_ends (comes_on (copy_part p f l u (omega (arith, high)) (h.0, tt) (forms_at code p 1 13 (commit_forms m start) h) can at)
      (λ v j. comes_on (sent v j) closed)) (λ v j. record { pc = j.pc; fram = j.fram ∙ all; inputs = j.inputs }))

pub commit_is_made : CommitIsMade
commit_is_made code m at start u tidy places high even h e can word =
    commits code tidy m places at start u.fram u.inputs u high even h can word (record { pc = e; fram = refl; inputs = refl })

-- a commit of more takes no less
pub commit_grows : (events : Bool) (n n' ws ws' k k' : ℕ) → n ≤ n' → ws ≤ ws' → k ≤ k' → commit_cycles events n ws k ≤ commit_cycles events n' ws' k'
commit_grows events n n' ws ws' k k' a b c = let d = if_any_grows n n' 2 a in let e = if_any_grows k k' 2 c in omega (arith, a, b, c, d, e)
