-- An attempt's opening: the clearing where VER is at its end; then VER, CLN and EN, and EC, where there are events. All but the last three is of any
-- runtime with version words.
use Rattle.std.proofs.Common.{◌≡◌, ℕ, zero, suc, ◌+◌, ◌*◌, ◌%◌, ◌<◌, ◌==◌, not, List, [], ◌∷◌, ◌++◌, refl, ap, ◌∙◌, subst, arith}
use Rattle.std.proofs.Common.{Bool, true, false, if◌then◌else◌}
use Rattle.std.proofs.lemmas.Bool.Decides.{nat_tests}
use Rattle.runtime_code.specs.msp_isa.declared.instructions.TwoOp.TheVariants.{Add}
use Rattle.runtime_code.specs.msp_isa.declared.operands.Konst.TheVariants.{One, MinusOne}
use Rattle.runtime_code.specs.fram_board.Effects.{Effect, Store}
use Rattle.runtime_code.specs.machine_effects.World.{put, fram_after}
use Rattle.runtime_code.specs.machine_effects.Inputs.{Inputs}
use Rattle.runtime_code.specs.machine_effects.Machine.{Code}
use Rattle.runtime_code.specs.code_forms.Forms.{Core, Form, Update, Constant}
use Rattle.runtime_code.specs.code_forms.Code.{Stands, IsTidy, anywhere}
use Rattle.runtime_code.proofs.code_forms.Interface.{forms_at, forms_behind, stands_front}
use Rattle.runtime_code.specs.runtime_effects.Stages.{is_at_end, clearing_if, cleared, count_cleared, counting_effects, opening_effects}
use Rattle.runtime_code.specs.runtime_effects.Needs.{AreInFram}
use Rattle.runtime_code.specs.Comes.{Comes, IsAt}
use Rattle.runtime_code.specs.Counted.{if_any}
use Rattle.runtime_code.proofs.Interface.{behind, core_at, from_there, ends, then_on, recounted, on_fram, moved_to, nothing, comes_on, straight, compares}
use Rattle.runtime_code.proofs.Interface.{Loop, Turning, Point, Turn, Makes, loop_ends, in_front, turn_there, loops}
use Rattle.runtime_code.proofs.Interface.{IsLeft, all_left, left_from, first_left, count_is_place, where_comes}
use Rattle.boot_runtime.specs.Listing.{end_tested, clearing_begins, clear_turn, clear_loop, version_cleared, clearing, counts_set, opening}
use Rattle.boot_runtime.specs.Listing.{event_count_set, events_counted}
use Rattle.memory_map.specs.declared.words.RuntimeWord.TheVariants.{ListLength, EmitCount, Version}
use Rattle.memory_map.specs.MemoryMap.{MemoryMap, word_place, with_events}
use Rattle.memory_map.specs.event_places.Places.{count_place}

-- whether VER is at its end, by the flag behind its comparison with 65535
end_flag : (n : ℕ) → n < 0x10000 → ((n + 0 + 1) % 0x10000 == 0) ≡ (n == 0xFFFF)
end_flag n l = grind (arith, nat_tests, l)

module _ (code : Code) (tidy : IsTidy code) (m : MemoryMap) (places : AreInFram m) where
  module _ (p : ℕ) (high : p + 22 < 0x10000) (stands : Stands code p (clear_loop m)) (l : Inputs) where
    abbrev clears_loop : Loop code
    clears_loop = record { at = p; address = m.versions.address; turn = clear_turn; stands = stands; passed = omega arith; again = omega arith }

    abbrev turning : Turning Point
    turning = record {
      next = λ x. x.place;
      memory = λ x. x.memory;
      inputs = λ x. l;
      Ready = λ n x w. IsLeft m.versions.address (2 * m.versions.words) x.place (2 * n);
      stays = λ n x w v same r. r;
      made = λ n x. cleared n x.place;
      steps = λ n x. 4 * n;
      cycles = λ n x. 8 * n;
      Done = λ n x. IsAt (p + 18) (fram_after (cleared n x.place) x.memory) l;
    }

    -- a version word becomes 0
    one_cleared : (n : ℕ) (x : Point) (u : Core) → IsLeft m.versions.address (2 * m.versions.words) x.place (2 * suc n)
        → Turn code clears_loop turning n x (in_front clears_loop turning (suc n) x u)
    one_cleared n x u r =
        let high = places.versions.high in let top = r.high in
        record {
          to = record { place = x.place + 2; memory = put x.memory x.place 0 };
          effects = Store x.place 0 ∷ [];
          steps = 2;
          cycles = 5;
          comes = ends (straight code tidy clear_turn (in_front clears_loop turning (suc n) x u) (tt, (tt, tt)) (turn_there code tidy clears_loop)
              ((tt, first_left places.versions r (omega arith)), ((tt, tt), tt)) refl)
              (record {
                at = record { pc = omega arith; fram = refl; inputs = refl };
                left = refl;
                next = omega (arith, top, high);
                ready = left_from 2 (2 * n) r refl (omega arith);
              });
          made = refl;
          all_steps = omega arith;
          all_cycles = omega arith;
          done = λ v h. h;
        }

    -- behind the last one
    all_cleared : (x : Point) (u : Core) → IsAt (loop_ends clears_loop) x.memory l u
        → IsLeft m.versions.address (2 * m.versions.words) x.place (2 * 0) → Makes code turning 0 x u
    all_cleared x u at r = nothing (anywhere code) u _ at

  -- VER is compared with its end: on to the clearing, or over it
  pub looks_at_version : (p : ℕ) (b : Bool) (f : ℕ → ℕ) (l : Inputs) (u : Core) → p + 32 < 0x10000 → Stands code p (end_tested m)
      → f (word_place m Version) < 0x10000 → is_at_end m f ≡ b → IsAt p f l u → Comes code [] 2 6 u (IsAt (if not b then p + 32 else p + 6) f l)
  looks_at_version p b f l u high h word z at =
      compares code tidy MinusOne (word_place m Version) p (clearing m) (places.words Version) h (omega (arith, high)) b f l u
      (end_flag (f (word_place m Version)) word ∙ z) at

  -- the clearing, of 26 bytes
  pub clears : (p : ℕ) (f : ℕ → ℕ) (l : Inputs) (u : Core) → p + 34 < 0x10000 → Stands code p (clearing m) → IsAt p f l u
      → let n = m.versions.words in let es = clearing_if m true in
      Comes code es (4 + (if_any n 1 + 4 * n)) (9 + (if_any n 2 + 8 * n)) u (IsAt (p + 26) (fram_after es f) l)
  clears p f l u high h at =
      let n = m.versions.words in
      let begun = behind (clearing_begins m) (core_at p f l u) in
      let g = fram_after (cleared n m.versions.address) f in
      let last = places.versions.high in
      let high' : p + 4 + 22 < 0x10000 = omega (arith, high) in
      let stands = forms_at code p 1 7 (clearing m) h in
      let all = loops code tidy (clears_loop (p + 4) high' stands l) (turning (p + 4) high' stands l) (one_cleared (p + 4) high' stands l)
      (all_cleared (p + 4) high' stands l) n (record { place = m.versions.address; memory = f }) begun (omega (arith, last))
      (record { pc = refl; fram = refl; inputs = refl }) refl refl (all_left (2 * n) places.versions (omega arith)) in
      let end : (v : Core) → IsAt (p + 22) g l v → Comes code (Store (word_place m Version) 0 ∷ []) 1 4 v (IsAt (p + 26) (put g (word_place m Version) 0) l) =
      λ v k. from_there v k (ends (straight code tidy (version_cleared m) (core_at (p + 22) g l v) (tt, tt) (forms_behind code p 8 (clearing m) h)
      ((tt, places.words Version), tt) refl) (record { pc = omega arith; fram = refl; inputs = refl })) in
      recounted (omega arith) (omega arith) (on_fram f (moved_to (omega arith)
      (from_there u at (then_on (straight code tidy (clearing_begins m) (core_at p f l u) (tt, tt) (h.0, tt) ((tt, tt), tt) refl) all))) end)

  -- VER goes up by one
  pub raises : (p : ℕ) (f : ℕ → ℕ) (l : Inputs) (u : Core) → Stands code p (counts_set m) → f (word_place m Version) < 0xFFFF → IsAt p f l u
      → let w = f (word_place m Version) + 1 in
      Comes code (Store (word_place m Version) w ∷ []) 1 4 u (IsAt (p + 4) (put f (word_place m Version) w) l)
  raises p f l u h low at =
      let a = word_place m Version in
      let ms : List Form = Update Add (Constant One) a ∷ [] in
      let one : (f a + 1 + 0) % 0x10000 ≡ f a + 1 = omega (arith, low) in
      subst (λ w. Comes code (Store a w ∷ []) 1 4 u (IsAt (p + 4) (put f a w) l)) one
      (from_there u at (ends (straight code tidy ms (core_at p f l u) (tt, tt) (h.0, tt) ((tt, refl, tt, places.words Version), tt) refl)
      (record { pc = refl; fram = refl; inputs = refl })))

  -- what VER, CLN and EN become
  abbrev numbered : ℕ → List Effect
  numbered w = Store (word_place m Version) w ∷ Store (word_place m ListLength) 0 ∷ Store (word_place m EmitCount) 0 ∷ []

  -- VER, CLN and EN, of 12 bytes
  numbers : (p : ℕ) (f : ℕ → ℕ) (l : Inputs) (u : Core) → Stands code p (counts_set m) → IsAt p f l u
      → let es = numbered ((f (word_place m Version) + 1) % 0x10000) in Comes code es 3 12 u (IsAt (p + 12) (fram_after es f) l)
  numbers p f l u h at =
      let a = word_place m Version in
      let set : ℕ → List Effect = numbered in
      let one : (f a + 1 + 0) % 0x10000 ≡ (f a + 1) % 0x10000 = omega arith in
      subst (λ w. Comes code (set w) 3 12 u (IsAt (p + 12) (fram_after (set w) f) l)) one
      (from_there u at (ends (straight code tidy (counts_set m) (core_at p f l u) (tt, (tt, (tt, tt))) h
      ((tt, refl, tt, places.words Version), ((tt, places.words ListLength), ((tt, places.words EmitCount), tt))) refl)
      (record { pc = omega arith; fram = refl; inputs = refl })))

  -- EC, where there are events
  pub counts_events : (p : ℕ) (f : ℕ → ℕ) (l : Inputs) (u : Core) → Stands code p (events_counted m) → IsAt p f l u
      → let events = m.runtime.events in let es = count_cleared m in
      Comes code es (with_events events 1) (with_events events 4) u (IsAt (p + with_events events 4) (fram_after es f) l)
  counts_events p f l u h at =
      where_comes code m.runtime.events event_count_set (Store count_place 0 ∷ []) 1 4 4 p (λ q es. IsAt q (fram_after es f) l) u
      (λ k. from_there u at (ends (straight code tidy event_count_set (core_at p f l u) (tt, tt) k ((tt, count_is_place), tt) refl)
      (record { pc = refl; fram = refl; inputs = refl })))
      h at

  -- all of them
  counts : (p : ℕ) (f : ℕ → ℕ) (l : Inputs) (u : Core) → Stands code p (counts_set m ++ events_counted m) → IsAt p f l u
      → let events = m.runtime.events in let es = counting_effects m f in
      Comes code es (3 + with_events events 1) (12 + with_events events 4) u (IsAt (p + 12 + with_events events 4) (fram_after es f) l)
  counts p f l u h at =
      let g = fram_after (numbered ((f (word_place m Version) + 1) % 0x10000)) f in
      on_fram f (numbers p f l u (stands_front code p (counts_set m) (events_counted m) h) at)
      (λ v k. counts_events (p + 12) g l v (forms_behind code p 3 (counts_set m ++ events_counted m) h) k)

  -- the steps and cycles of the clearing, by whether it comes
  abbrev pub clearing_steps : Bool → ℕ
  clearing_steps b = if b then 4 + (if_any m.versions.words 1 + 4 * m.versions.words) else 0

  abbrev pub clearing_cycles : Bool → ℕ
  clearing_cycles b = if b then 9 + (if_any m.versions.words 2 + 8 * m.versions.words) else 0

  -- the clearing, where it comes
  clears_if : (b : Bool) (p : ℕ) (f : ℕ → ℕ) (l : Inputs) (u : Core) → p + 44 < 0x10000 → f (word_place m Version) < 0x10000 → Stands code p (opening m)
      → is_at_end m f ≡ b → IsAt p f l u
      → let es = clearing_if m b in Comes code es (2 + clearing_steps b) (6 + clearing_cycles b) u (IsAt (p + 32) (fram_after es f) l)
  clears_if true p f l u high word h z at =
      comes_on (looks_at_version p true f l u (omega (arith, high)) (h.0, (h.1.0, tt)) word z at)
      (λ v k. moved_to (omega arith) (clears (p + 6) f l v (omega (arith, high)) (forms_at code p 2 9 (opening m) h) k))
  clears_if false p f l u high word h z at = looks_at_version p false f l u (omega (arith, high)) (h.0, (h.1.0, tt)) word z at

  -- the opening, of 44 bytes, and 4 more where there are events
  pub opens : (p : ℕ) (f : ℕ → ℕ) (l : Inputs) (u : Core) → p + 44 < 0x10000 → f (word_place m Version) < 0x10000 → Stands code p (opening m) → IsAt p f l u
      → let es = opening_effects m f in let b = is_at_end m f in let events = m.runtime.events in
      Comes code es (5 + with_events events 1 + clearing_steps b) (18 + with_events events 4 + clearing_cycles b) u
      (IsAt (p + 44 + with_events events 4) (fram_after es f) l)
  opens p f l u high word h at =
      let b = is_at_end m f in
      let g = fram_after (clearing_if m b) f in
      recounted (omega arith) (omega arith) (on_fram f (clears_if b p f l u high word h refl at)
      (λ v k. moved_to (omega arith) (counts (p + 32) g l v (forms_behind code p 11 (opening m) h) k)))
