-- The summaries of a source's functions, each made from those of the functions in front of it.
use Rattle.std.specs.Prelude.{List, length, ◌+◌}
use Rattle.task_ast.specs.Answers.{answers}
use Rattle.task_ast.specs.Paths.{CheckedFunction, CheckedProgram}
use Rattle.cost_bound.specs.Summary.{Summary}
use Rattle.cost_bound.specs.Table.{cycles_column, words_column, block_price}
use Rattle.cost_bound.specs.Counts.{emits_of, stores_of, assigns_of, reaches_of}
use Rattle.cost_bound.specs.Frames.{frame_of, deepest}

-- a function's summary, where these are those of the functions in front of it
abbrev pub function_summary : List Summary → CheckedFunction → Summary
function_summary known f = record {
  cycles = block_price known cycles_column f.body;
  words = block_price known (words_column 0) f.body;
  emits = emits_of known f.body;
  stores = λ i. stores_of known i f.body;
  assigns = λ i. assigns_of known i f.body;
  reaches = λ k. reaches_of known k f.body;
  depth = frame_of (length f.parameters) f.body + deepest known f.body;
}

abbrev pub function_summaries : List CheckedFunction → List Summary
function_summaries fs = answers function_summary fs

-- the summaries of a source's functions
abbrev pub summaries : CheckedProgram → List Summary
summaries p = function_summaries p.functions
