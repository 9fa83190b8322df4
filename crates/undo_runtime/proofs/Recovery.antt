-- The recovery's code puts the entries back, the last one first.
use Rattle.std.proofs.Common.{◌≡◌, ℕ, suc, ◌+◌, ◌-◌, ◌*◌, ◌%◌, ◌<◌, ◌≤◌, List, [], ◌∷◌, ◌++◌, refl, sym, ap, ◌∙◌, subst, arith}
use Rattle.runtime_code.specs.fram_board.Effects.{Store}
use Rattle.runtime_code.specs.machine_effects.World.{put, fram_after}
use Rattle.runtime_code.specs.machine_effects.Inputs.{Inputs}
use Rattle.runtime_code.specs.machine_effects.Machine.{Code, IsPlace}
use Rattle.runtime_code.proofs.machine_effects.Interface.{put_other}
use Rattle.runtime_code.specs.code_forms.Forms.{Core}
use Rattle.runtime_code.specs.code_forms.Code.{Stands, IsTidy, anywhere}
use Rattle.runtime_code.proofs.code_forms.Interface.{forms_at, forms_behind}
use Rattle.runtime_code.specs.runtime_effects.Needs.{AreInFram}
use Rattle.runtime_code.specs.Comes.{Comes, IsAt}
use Rattle.runtime_code.proofs.Interface.{behind, core_at, from_there, ends, then_on, recounted, on_fram, moved_to, nothing, straight}
use Rattle.runtime_code.proofs.Interface.{Loop, Turning, Turn, IsBehind, Makes, count_at, loop_ends, in_front, turn_there, loops}
use Rattle.runtime_code.proofs.Interface.{IsLeft, left_from, first_left}
use Rattle.memory_map.specs.declared.words.RuntimeWord.TheVariants.{ListLength}
use Rattle.memory_map.specs.MemoryMap.{MemoryMap, word_place}
use Rattle.undo_effects.specs.Entries.{Logged, logged_from, logged, IsLogged}
use Rattle.undo_effects.specs.Stages.{put_back, recovery}
use Rattle.undo_effects.proofs.Interface.{out_of, put_back_last, last_logged, logged_alike, still_logged, is_logged_last}
use Rattle.commit_runtime.specs.Listing.{copies_begin}
use Rattle.undo_runtime.specs.Listing.{back_turn, back_loop, list_cleared, recovering, recovery_steps, recovery_cycles}
use Rattle.undo_runtime.specs.Needs.{IsLoggable, CanRecover}

module _ (code : Code) (tidy : IsTidy code) (m : MemoryMap) (places : AreInFram m) where
  -- the first so many entries of the list
  abbrev entries : ℕ → (ℕ → ℕ) → List Logged
  entries n f = logged_from n m.list.address f

  -- they can be put back
  record CanPutBack (n : ℕ) (f : ℕ → ℕ) : Type 0 where
    few : n ≤ m.entries
    each : (a : ℕ) → IsLogged (entries n f) a → IsLoggable m a

  module _ (p : ℕ) (high : p + 32 < 0x10000) (stands : Stands code p (back_loop m)) (l : Inputs) where
    abbrev backs : Loop code
    backs = record { at = p; address = m.list.address; turn = back_turn m; stands = stands; passed = omega arith; again = omega arith }

    abbrev turning : Turning (ℕ → ℕ)
    turning = record {
      next = λ f. m.list.address;
      memory = λ f. f;
      inputs = λ f. l;
      Ready = λ n f w. CanPutBack n f;
      stays = λ n f w v same r. r;
      made = λ n f. put_back (entries n f);
      steps = λ n f. 7 * n;
      cycles = λ n f. 15 * n;
      Done = λ n f. IsAt (p + 28) (fram_after (put_back (entries n f)) f) l;
    }

    -- the last entry of so many is put back
    module _ (n : ℕ) (f : ℕ → ℕ) (u : Core) (r : CanPutBack (suc n) f) where
      abbrev s : Core
      s = in_front backs turning (suc n) f u

      -- its place, its address and its word
      abbrev q : ℕ
      q = m.list.address + 4 * n

      abbrev entry : Logged
      entry = record { address = f q; word = f (q + 2) }

      split : entries (suc n) f ≡ entries n f ++ entry ∷ []
      split = last_logged n m.list.address f

      is_logged : IsLogged (entries (suc n) f) (f q)
      is_logged = subst (λ es. IsLogged es (f q)) (sym split) (is_logged_last (entries n f) entry)

      loggable : IsLoggable m (f q)
      loggable = r.each (f q) is_logged

      -- four times the entries
      abbrev offset : ℕ
      offset = ((suc n + suc n + 0) % 0x10000 + (suc n + suc n + 0) % 0x10000 + 0) % 0x10000

      first_there : offset + (m.list.address - 4) ≡ q
      first_there = let few = r.few in let low = places.list.low in let top = places.list.high in omega (arith, few, low, top)

      second_there : offset + (m.list.address - 2) ≡ q + 2
      second_there = let few = r.few in let low = places.list.low in let top = places.list.high in omega (arith, few, low, top)

      left : IsLeft m.list.address (6 * m.entries) q 4
      left = let even = places.list.even in let few = r.few in record { even = omega (arith, even); low = omega arith; high = omega (arith, few) }

      abbrev g : ℕ → ℕ
      g = put f (f q) (f (q + 2))

      stored : Comes code (Store (f q) (f (q + 2)) ∷ []) 5 12 s (IsBehind turning (count_at backs) n g)
      stored =
          let address : f (offset + (m.list.address - 4)) ≡ f q = ap f first_there in
          let word : f (offset + (m.list.address - 2)) ≡ f (q + 2) = ap f second_there in
          let same : Store (f (offset + (m.list.address - 4))) (f (offset + (m.list.address - 2))) ∷ [] ≡ Store (f q) (f (q + 2)) ∷ [] =
          λ i. Store (address i) (word i) ∷ [] in
          let few = r.few in
          let alike : entries n g ≡ entries n f =
          logged_alike n m.list.address f g (λ b lo hi. put_other f (f q) (f (q + 2)) b
          (out_of m.list.address (6 * m.entries) (f q) b loggable.list lo (omega (arith, hi, few)))) in
          let ready : CanPutBack n g = record {
            few = omega (arith, few);
            each = λ a h. r.each a (subst (λ es. IsLogged es a) (sym split)
                (still_logged (entries n f) entry a (subst (λ es. IsLogged es a) alike h)));
          } in
          subst (λ es. Comes code es 5 12 s (IsBehind turning (count_at backs) n g)) same
          (ends (straight code tidy (back_turn m) s (tt, (tt, (tt, (tt, (tt, tt))))) (turn_there code tidy backs) (
            (tt, tt),
            (
              (tt, tt),
              (
                (tt, tt),
                (
                  (subst IsPlace (sym first_there) (first_left places.list left (omega arith)), tt),
                  (
                    (
                      subst IsPlace (sym second_there) (first_left places.list (left_from 2 2 left refl (omega arith)) (omega arith)),
                      subst IsPlace (sym address) loggable.place,
                    ),
                    tt,
                  ),
                ),
              ),
            ),
          ) refl)
          (record {
            at = record { pc = omega arith; fram = λ i. put f (address i) (word i); inputs = refl };
            left = refl;
            next = refl;
            ready = ready;
          }))

      goes_back : Turn code backs turning n f s
      goes_back =
          let few = r.few in
          let alike : entries n g ≡ entries n f =
          logged_alike n m.list.address f g (λ b lo hi. put_other f (f q) (f (q + 2)) b
          (out_of m.list.address (6 * m.entries) (f q) b loggable.list lo (omega (arith, hi, few)))) in
          let all : Store (f q) (f (q + 2)) ∷ put_back (entries n g) ≡ put_back (entries (suc n) f) =
          ap (λ es. Store (f q) (f (q + 2)) ∷ put_back es) alike ∙ sym (put_back_last (entries n f) entry) ∙ ap put_back (sym split) in
          record {
            to = g;
            effects = Store (f q) (f (q + 2)) ∷ [];
            steps = 5;
            cycles = 12;
            comes = stored;
            made = all;
            all_steps = omega arith;
            all_cycles = omega arith;
            done = λ v h. record { pc = h.pc; fram = h.fram ∙ ap (λ es. fram_after es f) all; inputs = h.inputs };
          }

    -- behind the last one
    all_back : (f : ℕ → ℕ) (u : Core) → IsAt (loop_ends backs) f l u → CanPutBack 0 f → Makes code turning 0 f u
    all_back f u at r = nothing (anywhere code) u _ at

  -- the recovery, of 36 bytes
  pub recovers : (p : ℕ) (f : ℕ → ℕ) (l : Inputs) (u : Core) → p + 40 < 0x10000 → Stands code p (recovering m) → CanRecover m f → IsAt p f l u
      → let n = f (word_place m ListLength) in
      Comes code (recovery m f) (recovery_steps n) (recovery_cycles n) u (IsAt (p + 36) (fram_after (recovery m f) f) l)
  recovers p f l u high h can at =
      let n = f (word_place m ListLength) in
      let begun = behind (copies_begin m) (core_at p f l u) in
      let es = put_back (logged m f) in
      let g = fram_after es f in
      let last = places.list.high in
      let few = can.few in
      let high' : p + 4 + 32 < 0x10000 = omega (arith, high) in
      let stands = forms_at code p 1 10 (recovering m) h in
      let all = loops code tidy (backs (p + 4) high' stands l) (turning (p + 4) high' stands l) (λ k x v r. goes_back (p + 4) high' stands l k x v r)
      (all_back (p + 4) high' stands l) n f begun (omega (arith, last, few)) (record { pc = refl; fram = refl; inputs = refl }) refl refl
      (record { few = can.few; each = can.each }) in
      let end : (v : Core) → IsAt (p + 32) g l v
      → Comes code (Store (word_place m ListLength) 0 ∷ []) 1 4 v (IsAt (p + 36) (put g (word_place m ListLength) 0) l) =
      λ v k. from_there v k (ends (straight code tidy (list_cleared m) (core_at (p + 32) g l v) (tt, tt) (forms_behind code p 11 (recovering m) h)
      ((tt, places.words ListLength), tt) refl) (record { pc = omega arith; fram = refl; inputs = refl })) in
      recounted (omega arith) (omega arith) (on_fram f (moved_to (omega arith)
      (from_there u at (then_on (straight code tidy (copies_begin m) (core_at p f l u) (tt, tt) (h.0, tt) ((places.words ListLength, tt), tt) refl) all)))
      end)
