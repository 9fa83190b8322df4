-- The inner loop: the words of one entry go home.
use Rattle.std.proofs.Common.{◌≡◌, ℕ, zero, suc, ◌+◌, ◌*◌, ◌%◌, ◌<◌, List, [], ◌∷◌, ◌++◌, Bool, true, false, nat_le, if◌then◌else◌}
use Rattle.std.proofs.Common.{refl, sym, ap, ◌∙◌, subst, arith}
use Rattle.std.specs.List.{All}
use Rattle.std.proofs.lemmas.Bool.Decides.{nat_tests}
use Rattle.std.proofs.lemmas.List.Elements.{All-head, All-tail}
use Rattle.runtime_code.specs.msp_isa.declared.instructions.Condition.TheVariants.{Carry}
use Rattle.runtime_code.specs.msp_step.Effect.{word_sum, distance}
use Rattle.runtime_code.specs.fram_board.Effects.{Effect, Store}
use Rattle.runtime_code.specs.machine_effects.World.{put, fram_after}
use Rattle.runtime_code.specs.machine_effects.Inputs.{Inputs}
use Rattle.runtime_code.specs.machine_effects.Machine.{Code, IsPlace}
use Rattle.runtime_code.specs.code_forms.Forms.{Core, Form, Jump}
use Rattle.runtime_code.specs.code_forms.Code.{Stands, IsTidy}
use Rattle.runtime_code.proofs.code_forms.Interface.{forms_at, forms_behind}
use Rattle.runtime_code.specs.runtime_effects.Places.{CopyPair, run_pairs}
use Rattle.runtime_code.specs.runtime_effects.Stages.{copied_home}
use Rattle.runtime_code.specs.runtime_effects.Needs.{IsCopied}
use Rattle.runtime_code.specs.Comes.{Comes, IsAt}
use Rattle.runtime_code.specs.Counted.{back_over}
use Rattle.runtime_code.proofs.Interface.{behind, core_at, from_there, ends, then_on, recounted, straight, jumps}
use Rattle.commit_runtime.specs.Listing.{word_moved, word_counted, word_loop}
use Rattle.memory_map.specs.MemoryMap.{MemoryMap}

-- behind an entry's words: the entries that are left and the place of the next one are as they were
pub record BehindWords (address entries next : ℕ) (memory : ℕ → ℕ) (left : Inputs) (u : Core) : Type 0 where
  pub at : IsAt address memory left u
  pub entries_left : u.work 4 ≡ entries
  pub next_entry : u.work 5 ≡ next

-- the borrow of a count by one
none_left : (n : ℕ) → n ≡ 0 → nat_le 0x10000 (n + 65534 + 1) ≡ false
none_left n e = ap (λ x. nat_le 0x10000 (x + 65534 + 1)) e

some_left : (n k : ℕ) → n ≡ suc k → nat_le 0x10000 (n + 65534 + 1) ≡ true
some_left n k e = grind (arith, nat_tests)

module _ (code : Code) (tidy : IsTidy code) (m : MemoryMap) (p : ℕ) (high : p + 12 < 0x10000) (stands : Stands code p word_loop) where
  abbrev back : ℕ
  back = back_over (word_moved ++ word_counted)

  there : word_sum (p + 8 + 2 + 2) (distance back) ≡ p + 2
  there = omega arith

  count_there : Stands code (p + 8) (word_counted ++ (Jump Carry back ∷ []))
  count_there = forms_behind code p 3 word_loop stands

  -- the count, and the jump: to the next word, or out of the loop
  counts : (b : Bool) (u : Core) → u.pc ≡ p + 8 → nat_le 0x10000 (u.work 8 + 65534 + 1) ≡ b
      → Comes code [] 2 3 u (λ v. v ≡ record (behind word_counted u) { pc = if b then p + 2 else p + 12 })
  counts b u e c =
      then_on (straight code tidy word_counted u (tt, tt) (ap code.at e ∙ count_there.0, tt) ((tt, tt), tt) refl)
      (jumps code tidy Carry back (p + 2) (p + 12) b (behind word_counted u) (ap (λ x. code.at (x + 2)) e ∙ count_there.1.0)
      (ap (λ x. word_sum (x + 2 + 2) (distance back)) e ∙ there) (ap (λ x. x + 2 + 2) e ∙ omega arith) c)

  -- so many words go home
  pub words_home : (n home copy : ℕ) (f : ℕ → ℕ) (l : Inputs) (u : Core) → n < 0x10000 → IsAt (p + 8) f l u → u.work 8 ≡ n → u.work 6 ≡ home
      → u.work 7 ≡ copy → All (IsCopied m) (run_pairs n home copy)
      → let es = copied_home (run_pairs n home copy) f in
      Comes code es (2 + n * 4) (3 + n * 9) u (BehindWords (p + 12) (u.work 4) (u.work 5) (fram_after es f) l)
  words_home zero home copy f l u few at c d s ok =
      ends (counts false u at.pc (none_left (u.work 8) c))
      (record { at = record { pc = refl; fram = at.fram; inputs = at.inputs }; entries_left = refl; next_entry = refl })
  words_home (suc n) home copy f l u few at c d s ok =
      let first : CopyPair = record { home = home; copy = copy } in
      let rest = run_pairs n (home + 2) (copy + 2) in
      let is = All-head (IsCopied m) first rest ok in
      let high = is.home.high in
      let g = put f home (f copy) in
      let begun : Core = record (behind word_counted (core_at (p + 8) f l u)) { pc = p + 2 } in
      let moved = behind word_moved begun in
      let same : Store (u.work 6) (f (u.work 7)) ∷ [] ≡ Store home (f copy) ∷ [] = λ i. Store (d i) (f (s i)) ∷ [] in
      let Q : Core → Type 0 = BehindWords (p + 12) (u.work 4) (u.work 5) (fram_after (copied_home rest g) g) l in
      recounted (omega arith) (omega arith) (from_there u at (then_on (counts true (core_at (p + 8) f l u) refl (some_left (u.work 8) n c))
      (subst (λ es. Comes code (es ++ copied_home rest g) (2 + (2 + n * 4)) (6 + (3 + n * 9)) begun Q) same
      (then_on (straight code tidy word_moved begun (tt, (tt, tt)) (forms_at code p 1 2 word_loop stands)
      ((subst IsPlace (sym s) is.copy, subst IsPlace (sym d) is.home), ((tt, tt), tt)) refl)
      (words_home n (home + 2) (copy + 2) g l moved (omega (arith, few))
      (record { pc = omega arith; fram = λ i. put f (d i) (f (s i)); inputs = refl }) (omega (arith, c, few)) (omega (arith, d, high)) (omega (arith, s))
      (All-tail (IsCopied m) first rest ok))))))
