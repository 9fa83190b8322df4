-- An image and its attempts keep to the capacities of the runtime's buffers.
use Rattle.image_reports.proofs.Names.{◌≡◌, ◌≤◌, ℕ, arith, List, Allow, ImageValue, IsFram, fram_of, CheckedProgram, IsRunnable, IsAcceptedText}
use Rattle.image_reports.proofs.Names.{accepted_texts_run, Gate, ListLength, EmitCount, MemoryMap, word_place, each_weaker, KeepsCapacities, CountsFit}
use Rattle.image_reports.proofs.Names.{AttemptsFit, IsCompiledFor, laid_out, place_in_fram, zero_at, version}
use Rattle.memory_map.specs.declared.runtime.Logging.{Logging}
use Rattle.memory_map.proofs.Interface.{apart_of}
use Rattle.runtime_code.proofs.Interface.{places_are_in_fram}
use Rattle.task_attempts.specs.Laws.{IsBelowCode}
use Rattle.task_attempts.proofs.Interface.{stores_below_code}
use Rattle.whole_programs.specs.Laws.{IsLaidOutText}

module _ {logging : Logging} (text : List ℕ) (p : CheckedProgram) (allow : Allow) (image : ImageValue) (ok : IsAcceptedText text p allow)
    (c : IsCompiledFor logging text p allow image) where
  runs : IsRunnable p
  runs = accepted_texts_run text p allow ok

  abbrev l : MemoryMap
  l = c.layout

  laid : IsLaidOutText text p allow c.plans l
  laid = laid_out text p allow image ok c

  pub attempts_fit : AttemptsFit p l
  attempts_fit s x inputs words settled =
      each_weaker (IsBelowCode l) (CountsFit l) (λ a w h. record { list = h.list; emits = h.emits }) _
      (stores_below_code text p allow c.plans l laid runs s x inputs words settled)

  -- a word of the runtime behind GATE is 0 at first
  nothing_at : (a : ℕ) → IsFram a → word_place l Gate ≤ a → a ≤ word_place l EmitCount → fram_of image.words a ≡ 0
  nothing_at a is low high =
      let apart = apart_of l c.is_layout.rules in
      zero_at text p allow image ok runs c a is (λ e. omega (arith, apart, low, e)) (omega (arith, apart, high))

  pub fresh_capacities : KeepsCapacities l (fram_of image.words)
  fresh_capacities =
      let words = (places_are_in_fram l c.is_layout.rules).words in
      let list = nothing_at (word_place l ListLength) (place_in_fram _ (words ListLength)) (omega arith) (omega arith) in
      let emits = nothing_at (word_place l EmitCount) (place_in_fram _ (words EmitCount)) (omega arith) (omega arith) in
      record {
        list = omega (arith, list);
        emits = omega (arith, emits);
        versions = λ i below. let zero = version text p allow image ok runs c i below in omega (arith, zero);
      }
