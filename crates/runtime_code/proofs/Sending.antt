-- The sends of a commit.
use Rattle.std.proofs.Common.{◌≡◌, ℕ, suc, ◌+◌, ◌*◌, ◌%◌, ◌<◌, ◌≤◌, [], ◌∷◌, refl, ◌∙◌, subst, arith}
use Rattle.runtime_effects.specs.fram_board.Effects.{Outside, Offered}
use Rattle.runtime_effects.specs.machine_effects.Inputs.{Inputs}
use Rattle.runtime_effects.specs.machine_effects.Machine.{Code}
use Rattle.runtime_effects.specs.memory_map.declared.words.RuntimeWord.TheVariants.{EmitCount, SentBase}
use Rattle.runtime_effects.specs.memory_map.MemoryMap.{MemoryMap, word_place}
use Rattle.runtime_effects.specs.Stages.{sends, emits_sent}
use Rattle.runtime_effects.specs.Needs.{AreInFram}
use Rattle.code_forms.specs.Forms.{Core}
use Rattle.code_forms.specs.Code.{Stands, IsTidy, anywhere}
use Rattle.code_forms.proofs.Interface.{stands_front, forms_behind, no_steps}
use Rattle.runtime_code.specs.Comes.{Comes, IsAt}
use Rattle.runtime_code.specs.Counted.{if_any}
use Rattle.runtime_code.specs.Sending.{sends_begin, send_turn, send_loop, sending}
use Rattle.runtime_code.proofs.Chains.{behind, core_at, from_there, ends, then_on, so_ends, straight}
use Rattle.runtime_code.proofs.Loops.{Loop, Turning, Turn, IsBehind, Makes, count_at, loop_ends, in_front, turn_there, loops}
use Rattle.runtime_code.proofs.Regions.{IsLeft, all_left, left_from, first_left}

-- behind the sends: the number behind that of the last word
pub record BehindSends (address number : ℕ) (memory : ℕ → ℕ) (left : Inputs) (u : Core) : Type 0 where
  pub at : IsAt address memory left u
  pub next_number : u.work 7 ≡ number

-- what is sent next: where the word stands, and its number
record Next : Type 0 where
  place : ℕ
  number : ℕ

module _ (code : Code) (tidy : IsTidy code) (m : MemoryMap) (places : AreInFram m) where
  module _ (p : ℕ) (high : p + 24 < 0x10000) (stands : Stands code p (send_loop m)) (f : ℕ → ℕ) (l : Inputs) where
    abbrev sends_loop : Loop code
    sends_loop = record { at = p; address = m.emits.address; turn = send_turn; stands = stands; passed = omega arith; again = omega arith }

    -- a word to send, its number in R7
    record IsNext (n : ℕ) (x : Next) (w : ℕ → ℕ) : Type 0 where
      words : IsLeft m.emits.address (2 * m.emits.words) x.place (2 * n)
      number : w 7 ≡ x.number
      small : x.number < 0x10000

    abbrev turning : Turning Next
    turning = record {
      next = λ x. x.place;
      memory = λ x. f;
      inputs = λ x. l;
      Ready = IsNext;
      stays = λ n x w v same r. record { words = r.words; number = same 7 (omega arith) ∙ r.number; small = r.small };
      made = λ n x. sends n x.number x.place f;
      steps = λ n x. 5 * n;
      cycles = λ n x. 13 * n;
      Done = λ n x. BehindSends (p + 22) ((x.number + n) % 0x10000) f l;
    }

    -- a word is sent
    sent : (n : ℕ) (x : Next) (u : Core) → IsNext (suc n) x u.work → Turn code sends_loop turning n x (in_front sends_loop turning (suc n) x u)
    sent n x u r =
        let s = in_front sends_loop turning (suc n) x u in
        let To : ℕ → Core → Type 0 = λ k. IsBehind turning (count_at sends_loop) n (record { place = x.place + 2; number = (k + 1) % 0x10000 }) in
        record {
          to = record { place = x.place + 2; number = (x.number + 1) % 0x10000 };
          effects = Outside (Offered x.number (f x.place)) ∷ [];
          steps = 3;
          cycles = 10;
          comes = subst (λ k. Comes code (Outside (Offered k (f x.place)) ∷ []) 3 10 s (To k)) r.number
              (ends (straight code tidy send_turn s (tt, (tt, (tt, tt))) (turn_there code tidy sends_loop)
              ((tt, tt), ((first_left places.emits r.words (omega arith), tt), ((tt, tt), tt))) refl)
              (record {
                at = record { pc = omega arith; fram = refl; inputs = refl };
                left = refl;
                next = refl;
                ready = record { words = left_from 2 (2 * n) r.words refl (omega arith); number = omega arith; small = omega arith };
              }));
          made = refl;
          all_steps = omega arith;
          all_cycles = omega arith;
          done = λ v h. record { at = h.at; next_number = h.next_number ∙ omega arith };
        }

    -- behind the last one
    all_sent : (x : Next) (u : Core) → IsAt (loop_ends sends_loop) f l u → IsNext 0 x u.work → Makes code turning 0 x u
    all_sent x u at r = let small = r.small in no_steps (anywhere code) u _ (record { at = at; next_number = r.number ∙ omega (arith, small) })

  -- the emitted words are sent
  pub sends_are_made : (p : ℕ) (f : ℕ → ℕ) (l : Inputs) (u : Core) → p + 40 < 0x10000 → Stands code p (sending m) → f (word_place m EmitCount) ≤ m.emits.words
      → f (word_place m SentBase) < 0x10000 → IsAt p f l u
      → let n = f (word_place m EmitCount) in
      Comes code (emits_sent m f) (2 + (2 + if_any n 1 + 5 * n)) (6 + (3 + if_any n 2 + 13 * n)) u
      (BehindSends (p + 30) ((f (word_place m SentBase) + n) % 0x10000) f l)
  sends_are_made p f l u high h few word at =
      let n = f (word_place m EmitCount) in
      let s = core_at p f l u in
      let last = places.emits.high in
      let stands = forms_behind code p 2 (sending m) h in
      let high' : p + 8 + 24 < 0x10000 = omega (arith, high) in
      let from : Next = record { place = m.emits.address; number = f (word_place m SentBase) } in
      from_there u at (then_on
      (straight code tidy (sends_begin m) s (tt, (tt, tt)) (stands_front code p (sends_begin m) (send_loop m) h)
      ((places.words SentBase, tt), ((places.words EmitCount, tt), tt)) refl)
      (so_ends (loops code tidy (sends_loop (p + 8) high' stands f l) (turning (p + 8) high' stands f l)
      (sent (p + 8) high' stands f l) (all_sent (p + 8) high' stands f l) n from (behind (sends_begin m) s) (omega (arith, few, last))
      (record { pc = omega arith; fram = refl; inputs = refl }) refl refl
      (record { words = all_left (2 * n) places.emits (omega (arith, few)); number = refl; small = word }))
      (λ v k. record { at = record { pc = k.at.pc ∙ omega arith; fram = k.at.fram; inputs = k.at.inputs }; next_number = k.next_number })))
