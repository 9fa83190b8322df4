-- What is known of a report behind some of its transitions, and where it stops being good.
use Rattle.std.specs.Prelude.{◌≡◌, ◌≤◌, ◌<◌, ◌^◌, ℕ, ◌+◌, ◌*◌, ◌⊎◌, List, [], ◌∷◌, ◌++◌, length, take, drop, slice_get, Some}
use Rattle.alp_io.specs.declared.report.Reason.{Reason}
use Rattle.alp_io.specs.declared.report.Reason.TheVariants.{Off}
use Rattle.alp_io.specs.Report.{end_line}
use Rattle.source_report.specs.task_ast.View.{program_of}
use Rattle.source_values.specs.Runs.{CheckedProgram, Transition, transition_of}
use Rattle.source_meaning.specs.declared.passes.Accepted.{Accepted}
use Rattle.source_report.specs.SourceReport.{Committed, given_of, transition_lines}
use Rattle.alp_text.specs.Lines.{line_len}
use Rattle.report_audit.specs.declared.front.Front.{Front}
use Rattle.report_audit.specs.Good.{IsGoodReport}

-- what an audit is given: a source with its text and its bound, the readings of a trace, and a report
pub record Inputs : Type 0 where
  pub source : List ℕ
  pub program : CheckedProgram
  pub bound : ℕ
  pub readings : List ℕ
  pub report : List ℕ

-- what `audit` is given
abbrev pub inputs_of : Accepted → List ℕ → List ℕ → Inputs
inputs_of source readings report = record {
  source = source.text.items;
  program = program_of source.checked.source;
  bound = source.allow.cycles;
  readings = readings;
  report = report;
}

-- a text is a good report of t transitions
abbrev pub IsGood : Inputs → List ℕ → ℕ → Type 0
IsGood i text t = IsGoodReport i.source i.program i.bound i.readings text t

-- what stands before the first line feed, or the whole text
abbrev pub first_line : List ℕ → List ℕ
first_line text = take (line_len text) text

-- the last line behind k transitions, which emitted so many words
pub record EndsAt (k words : ℕ) (text : List ℕ) : Type 0 where
  pub reason : Reason
  pub accepted : ℕ
  pub repeats : ℕ
  pub on_board : reason ≡ Off → ⊥
  pub enough : words ≤ accepted
  pub few_accepted : accepted < 2 ^ 64
  pub few_repeats : repeats < 2 ^ 64
  pub line : text ≡ end_line reason k accepted repeats

-- a task makes a transition on a span of the readings, from a position on
pub record IsMadeOn (program : CheckedProgram) (readings : List ℕ) (position task : ℕ) (shared : List (List ℕ)) (span : Committed)
    (t : Transition) : Type 0 where
  pub behind : position ≤ span.from
  pub onward : span.from ≤ span.to
  pub inside : span.to ≤ length readings
  pub made : transition_of program (record { shared = shared; task = task; emitted = [] }) (given_of readings span) ≡ Some t

-- the lines of one transition more, and what stands behind them
pub record GoesOn (source : List ℕ) (program : CheckedProgram) (readings : List ℕ) (k position task : ℕ) (shared : List (List ℕ)) (text : List ℕ) : Type 0 where
  pub span : Committed
  pub transition : Transition
  pub is_made : IsMadeOn program readings position task shared span transition
  pub rest : List ℕ
  pub lines : text ≡ transition_lines source program (k + 1) span transition ++ rest

-- what may stand behind k transitions, of t in all, which emitted so many words and read up to a position, where the source goes on with
-- this task and these shared words
pub data IsRest (source : List ℕ) (program : CheckedProgram) (readings : List ℕ) (t : ℕ) : (k words position task : ℕ) → List (List ℕ) → List ℕ → Type 0 where
  Ended : (k words position task : ℕ) (shared : List (List ℕ)) (text : List ℕ) → k ≡ t → EndsAt k words text
      → IsRest source program readings t k words position task shared text
  More : (k words position task : ℕ) (shared : List (List ℕ)) (text : List ℕ) (g : GoesOn source program readings k position task shared text)
      → IsRest source program readings t (k + 1) (words + length g.transition.emitted) g.span.to g.transition.next g.transition.after g.rest
      → IsRest source program readings t k words position task shared text

-- both texts begin with the same, up to a line feed
pub record SharesLine (a b : List ℕ) : Type 0 where
  pub front : List ℕ
  pub behind_a : List ℕ
  pub behind_b : List ℕ
  pub a_is : a ≡ front ++ 10 ∷ behind_a
  pub b_is : b ≡ front ++ 10 ∷ behind_b

-- they are the same, or begin so
abbrev pub Shares : List ℕ → List ℕ → Type 0
Shares a b = (a ≡ b) ⊎ SharesLine a b

-- the front before the first transition
abbrev pub first_front : ℕ → Front
first_front at = record { at = at; transitions = 0; words = 0; position = 0 }

-- The report is good up to the front, where the source goes on with this task and these shared words: what may stand behind its
-- transitions makes it a good report; and a good report that begins so, and goes on as the report does, up to a line feed at least or to
-- the end, goes on so.
pub record IsFront (i : Inputs) (front : Front) (task : ℕ) (shared : List (List ℕ)) : Type 0 where
  pub inside : front.at ≤ length i.report
  pub few : front.transitions ≤ front.at
  pub few_words : front.words ≤ 256 * front.transitions
  pub good : (t : ℕ) (text : List ℕ) → IsRest i.source i.program i.readings t front.transitions front.words front.position task shared text
      → IsGood i (take front.at i.report ++ text) t
  pub forced : (t : ℕ) (text : List ℕ) → Shares text (drop front.at i.report) → IsGood i (take front.at i.report ++ text) t
      → IsRest i.source i.program i.readings t front.transitions front.words front.position task shared text

-- The report stops being good on the line where the byte behind so many stands: so many begin a good report, and no good report has them
-- and goes on as the report does up to a line feed; nor is it good itself.
pub record IsStop (i : Inputs) (at : ℕ) : Type 0 where
  pub inside : at ≤ length i.report
  pub rest : List ℕ
  pub t : ℕ
  pub begins : IsGood i (take at i.report ++ rest) t
  pub differs : (u : ℕ) (line behind more : List ℕ) → drop at i.report ≡ line ++ 10 ∷ behind
      → IsGood i (take at i.report ++ (line ++ 10 ∷ more)) u → ⊥
  pub not_good : (u : ℕ) → IsGood i i.report u → ⊥

-- a text stands in the report from a place on up to another
pub record StandsUpTo (report : List ℕ) (at : ℕ) (text : List ℕ) (to : ℕ) : Type 0 where
  pub length_is : to ≡ at + length text
  pub inside : to ≤ length report
  pub same : take to report ≡ take at report ++ text

-- a text doesn't stand there: it has another byte at a place, or the report ends
pub record DiffersAt (report : List ℕ) (at : ℕ) (text : List ℕ) (place : ℕ) : Type 0 where
  pub onward : at ≤ place
  pub inside : place ≤ length report
  pub byte : ℕ
  pub more : List ℕ
  pub same : take at report ++ text ≡ take place report ++ byte ∷ more
  pub other : slice_get report place ≡ Some byte → ⊥
