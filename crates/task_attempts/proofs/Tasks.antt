-- A task of a source by its number, and where its program stores.
use Rattle.task_attempts.proofs.Names.{◌≡◌, ℕ, ◌+◌, ◌*◌, ◌<◌, List, [], ◌∷◌, false, length, map, Some, sym, ap, ◌∙◌, subst, ⊎_elim, arith, Contains, slice_get}
use Rattle.task_attempts.proofs.Names.{option_map, slice_get-map, get_or_from_slice_get, CheckedBlock, CheckedTask, CheckedProgram, body_of, task_body}
use Rattle.task_attempts.proofs.Names.{CopyPair, program_at, privates_in, entry_of, task_entries, IsAmong, IsCopyWord, ArePrivate, lowered_block}
use Rattle.task_attempts.proofs.Names.{program_places, task_program, task_places, word_pair, scalars_among, PrivateScalar, MemoryMap, TaskPlace}
use Rattle.task_attempts.proofs.Names.{scalar_words}
use Rattle.lower.specs.Lowered.{routine_bodies}
use Rattle.lower.specs.Seen.{task_seen}
use Rattle.array_versions.specs.Program.{Program}
use Rattle.array_versions.specs.TaskPrograms.{TaskPrograms}
use Rattle.war_analysis.proofs.Interface.{element}
use Rattle.runtime_code.specs.LayoutPlaces.{pairs_of}

-- the program of a task by the place that is its own, with those of functions in its calls
abbrev pub own_program : CheckedProgram → MemoryMap → CheckedTask → TaskPlace → Program
own_program p l task own = let here = task_places p l task own in lowered_block here (routine_bodies here p.functions) task.body

-- a task of a source by its number, with its layout
pub record IsAt (p : CheckedProgram) (l : MemoryMap) (k : ℕ) : Type 0 where
  pub task : CheckedTask
  pub layout : TaskPlace
  pub task_is : slice_get p.tasks k ≡ Some task
  pub layout_is : slice_get l.tasks k ≡ Some layout

pub task_at : (p : CheckedProgram) (l : MemoryMap) → length l.tasks ≡ length p.tasks → (k : ℕ) → k < length p.tasks → IsAt p l k
task_at p l count k h =
    let a = element p.tasks k h in
    let b = element l.tasks k (omega (arith, count, h)) in
    record { task = a.0; layout = b.0; task_is = a.1; layout_is = b.1 }

module _ (p : CheckedProgram) (l : MemoryMap) (k : ℕ) (i : IsAt p l k) where
  abbrev pub body : CheckedBlock
  body = i.task.body

  pub body_is : task_body p k ≡ body
  body_is = ap body_of i.task_is

  -- its program, by the place that is its own
  pub program_is : (own : TaskPlace) → task_seen l.runtime.logging i.layout ≡ own → task_program p l k ≡ own_program p l i.task own
  program_is own own_is =
      ap (λ (q : TaskPrograms). q.own) (program_at p.functions l p.tasks l.tasks k i.task i.layout i.task_is i.layout_is)
      ∙ ap (λ o. own_program p l i.task o) own_is

-- under redo: its private scalars with their copies
module _ (p : CheckedProgram) (l : MemoryMap) (privates : (k : ℕ) → ArePrivate (program_places p l) k (privates_in (task_entries l) k)) (k : ℕ)
    (i : IsAt p l k) where
  pub privates_are : privates_in (task_entries l) k ≡ pairs_of i.layout
  privates_are =
      ap (λ e. e.privates) (get_or_from_slice_get (map entry_of l.tasks) k (entry_of i.layout) (record { privates = []; code = 0 })
      (slice_get-map entry_of l.tasks k ∙ ap (λ o. option_map entry_of o) i.layout_is))

  pub among_privates : (s : PrivateScalar) (n : ℕ) → Contains i.layout.privates s → n < scalar_words s.width
      → IsAmong (privates_in (task_entries l) k) (word_pair s n)
  among_privates s n h below = subst (λ ps. IsAmong ps (word_pair s n)) (sym privates_are) (scalars_among i.layout.privates s n h below)

  copies_of : (ps : List CopyPair) → ArePrivate (program_places p l) k ps → (q : CopyPair) → IsAmong ps q → IsCopyWord (program_places p l) q.copy
  copies_of [] a q h = absurd h
  copies_of (u ∷ ps) a q h = ⊎_elim (λ e. subst (λ z. IsCopyWord (program_places p l) z.copy) (sym e) a.2) (λ r. copies_of ps a.4 q r) h

  -- the copy of a word of a private scalar
  pub private_copy : (s : PrivateScalar) (n : ℕ) → Contains i.layout.privates s → n < scalar_words s.width
      → IsCopyWord (program_places p l) (2 * n + s.copy)
  private_copy s n h below = copies_of (privates_in (task_entries l) k) (privates k) (word_pair s n) (among_privates s n h below)

  not_in_place_of : (ps : List CopyPair) → ArePrivate (program_places p l) k ps → (q : CopyPair) → IsAmong ps q
      → (program_places p l).written_in_place k q.home ≡ false
  not_in_place_of [] a q h = absurd h
  not_in_place_of (u ∷ ps) a q h =
      ⊎_elim (λ e. subst (λ z. (program_places p l).written_in_place k z.home ≡ false) (sym e) a.1) (λ r. not_in_place_of ps a.4 q r) h

  -- a private scalar isn't written in place
  pub private_not_in_place : (s : PrivateScalar) (n : ℕ) → Contains i.layout.privates s → n < scalar_words s.width
      → (program_places p l).written_in_place k (2 * n + s.home) ≡ false
  private_not_in_place s n h below =
      not_in_place_of (privates_in (task_entries l) k) (privates k) (word_pair s n) (among_privates s n h below)
