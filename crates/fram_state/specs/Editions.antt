-- Editions as they stand in memory, and the table of an old one's names.
use Rattle.std.specs.Prelude.{◌≡◌, ℕ, ◌≤◌, List, length, map}
use denote.Ref.{Bor}
use Rattle.std.specs.Ordering.{nat_cmp}
use Rattle.std.specs.Cmp.Lexicographic.{slice_cmp}
use Rattle.std.specs.BTreeMap.{BTreeMap, get_by}
use Rattle.image_text.specs.address_space.Limits.{fram_words}
use Rattle.image_text.specs.image_map.Kept.{IsMap}
use Rattle.task_ast.specs.View.{program_of}
use Rattle.task_ast.specs.Calls.{CallsAreKnown}
use Rattle.war_analysis.specs.path_sums.Known.{EachReturns}
use Rattle.source_report.specs.source_values.Runs.{CheckedProgram}
use Rattle.fram_state.specs.declared.edition.Edition.{Edition}
use Rattle.fram_state.specs.Suits.{line_of, declared_line}
use Rattle.fram_state.specs.Kept.{number_of}
use Rattle.fram_state.specs.Migrated.{EditionValue}

-- an edition as a value
abbrev pub edition_of : Edition → EditionValue
edition_of e = record { text = e.text.now; program = program_of e.source.now; named = e.map.now; words = e.words.now }

-- its words are a FRAM's, and its map has the variables that its source declares
pub record IsEdition (e : EditionValue) : Type 0 where
  pub words : length e.words ≡ fram_words
  pub rules : IsMap e.named
  pub few_shared : length e.program.shared ≤ 256
  pub few_tasks : length e.program.tasks ≤ 64
  pub variables : map line_of e.named.variables ≡ map (declared_line e.text) e.program.shared

-- a program whose calls are of functions that it has, each of which returns
pub record CallsReturn (p : CheckedProgram) : Type 0 where
  pub calls : CallsAreKnown p
  pub returning : EachReturns p.functions

-- a table gives the numbers of these names
abbrev pub HasNumbers : List (List ℕ) → BTreeMap (Bor (List ℕ)) ℕ → Type 0
HasNumbers names table = (q : List ℕ) → get_by (λ k. slice_cmp nat_cmp q k.now) table ≡ number_of names q
