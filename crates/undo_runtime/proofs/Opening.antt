-- An attempt's opening: that of any runtime with version words, and VER and EN, and EC, where there are events.
use Rattle.std.proofs.Common.{◌≡◌, ℕ, ◌+◌, ◌*◌, ◌%◌, ◌<◌, List, [], ◌∷◌, ◌++◌, Bool, true, false, if◌then◌else◌, refl, subst, arith}
use Rattle.runtime_code.specs.fram_board.Effects.{Effect, Store}
use Rattle.runtime_code.specs.machine_effects.World.{fram_after}
use Rattle.runtime_code.specs.machine_effects.Inputs.{Inputs}
use Rattle.runtime_code.specs.machine_effects.Machine.{Code}
use Rattle.runtime_code.specs.code_forms.Forms.{Core}
use Rattle.runtime_code.specs.code_forms.Code.{Stands, IsTidy}
use Rattle.runtime_code.proofs.code_forms.Interface.{forms_at, forms_behind, stands_front}
use Rattle.runtime_code.specs.runtime_effects.Stages.{is_at_end, clearing_if}
use Rattle.runtime_code.specs.runtime_effects.Needs.{AreInFram}
use Rattle.runtime_code.specs.Comes.{Comes, IsAt}
use Rattle.runtime_code.specs.Counted.{if_any}
use Rattle.runtime_code.proofs.Interface.{core_at, from_there, ends, recounted, on_fram, moved_to, comes_on, straight}
use Rattle.boot_runtime.specs.Listing.{events_counted}
use Rattle.boot_runtime.proofs.Interface.{looks_at_version, clears, counts_events}
use Rattle.memory_map.specs.declared.words.RuntimeWord.TheVariants.{EmitCount, Version}
use Rattle.memory_map.specs.MemoryMap.{MemoryMap, word_place, with_events}
use Rattle.undo_effects.specs.Stages.{numbering_effects, undo_opening}
use Rattle.undo_runtime.specs.Listing.{numbers_set, opening}

module _ (code : Code) (tidy : IsTidy code) (m : MemoryMap) (places : AreInFram m) where
  -- what VER and EN become
  abbrev numbered : ℕ → List Effect
  numbered w = Store (word_place m Version) w ∷ Store (word_place m EmitCount) 0 ∷ []

  -- VER and EN, of 8 bytes
  numbers : (p : ℕ) (f : ℕ → ℕ) (l : Inputs) (u : Core) → Stands code p (numbers_set m) → IsAt p f l u
      → let es = numbered ((f (word_place m Version) + 1) % 0x10000) in Comes code es 2 8 u (IsAt (p + 8) (fram_after es f) l)
  numbers p f l u h at =
      let a = word_place m Version in
      let set : ℕ → List Effect = numbered in
      let one : (f a + 1 + 0) % 0x10000 ≡ (f a + 1) % 0x10000 = omega arith in
      subst (λ w. Comes code (set w) 2 8 u (IsAt (p + 8) (fram_after (set w) f) l)) one
      (from_there u at (ends (straight code tidy (numbers_set m) (core_at p f l u) (tt, (tt, tt)) h
      ((tt, refl, tt, places.words Version), ((tt, places.words EmitCount), tt)) refl)
      (record { pc = omega arith; fram = refl; inputs = refl })))

  -- and EC, where there are events
  counts : (p : ℕ) (f : ℕ → ℕ) (l : Inputs) (u : Core) → Stands code p (numbers_set m ++ events_counted m) → IsAt p f l u
      → let events = m.runtime.events in let es = numbering_effects m f in
      Comes code es (2 + with_events events 1) (8 + with_events events 4) u (IsAt (p + 8 + with_events events 4) (fram_after es f) l)
  counts p f l u h at =
      let g = fram_after (numbered ((f (word_place m Version) + 1) % 0x10000)) f in
      on_fram f (numbers p f l u (stands_front code p (numbers_set m) (events_counted m) h) at)
      (λ v k. counts_events code tidy m places (p + 8) g l v (forms_behind code p 2 (numbers_set m ++ events_counted m) h) k)

  -- the steps and cycles of the clearing, by whether it comes
  abbrev pub clearing_steps : Bool → ℕ
  clearing_steps b = if b then 4 + (if_any m.versions.words 1 + 4 * m.versions.words) else 0

  abbrev pub clearing_cycles : Bool → ℕ
  clearing_cycles b = if b then 9 + (if_any m.versions.words 2 + 8 * m.versions.words) else 0

  -- the clearing, where it comes
  clears_if : (b : Bool) (p : ℕ) (f : ℕ → ℕ) (l : Inputs) (u : Core) → p + 44 < 0x10000 → f (word_place m Version) < 0x10000 → Stands code p (opening m)
      → is_at_end m f ≡ b → IsAt p f l u
      → let es = clearing_if m b in Comes code es (2 + clearing_steps b) (6 + clearing_cycles b) u (IsAt (p + 32) (fram_after es f) l)
  clears_if true p f l u high word h z at =
      comes_on (looks_at_version code tidy m places p true f l u (omega (arith, high)) (h.0, (h.1.0, tt)) word z at)
      (λ v k. moved_to (omega arith) (clears code tidy m places (p + 6) f l v (omega (arith, high)) (forms_at code p 2 9 (opening m) h) k))
  clears_if false p f l u high word h z at = looks_at_version code tidy m places p false f l u (omega (arith, high)) (h.0, (h.1.0, tt)) word z at

  -- the opening, of 40 bytes, and 4 more where there are events
  pub opens : (p : ℕ) (f : ℕ → ℕ) (l : Inputs) (u : Core) → p + 44 < 0x10000 → f (word_place m Version) < 0x10000 → Stands code p (opening m) → IsAt p f l u
      → let es = undo_opening m f in let b = is_at_end m f in let events = m.runtime.events in
      Comes code es (4 + with_events events 1 + clearing_steps b) (14 + with_events events 4 + clearing_cycles b) u
      (IsAt (p + 40 + with_events events 4) (fram_after es f) l)
  opens p f l u high word h at =
      let b = is_at_end m f in
      let g = fram_after (clearing_if m b) f in
      recounted (omega arith) (omega arith) (on_fram f (clears_if b p f l u high word h refl at)
      (λ v k. moved_to (omega arith) (counts (p + 32) g l v (forms_behind code p 11 (opening m) h) k)))
