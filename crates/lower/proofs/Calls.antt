-- What is asked of the functions that a text may call, and what a call does where they do that.
use Rattle.lower.proofs.Names.{◌≡◌, ℕ, ◌+◌, ◌≤◌, List, [], ◌∷◌, ◌++◌, length, Option, Some, None, true, refl, sym, ap, ◌∙◌, subst, arith, suc}
use Rattle.lower.proofs.Names.{Evaluated, Shared, summary, ◌>>?◌, Functions, Scene, code_places, Program, nothing, WordState, Behaviour, behaviour, then_on}
use Rattle.lower.proofs.Names.{called, called_behind, with_words, with_stack, step_behaviour, call_at, call_step, called_stores, by_answers, routine_of}
use Rattle.lower.proofs.Names.{RoutinePlace}
use Rattle.std.specs.Prelude.{slice_get, slice_index, slice_index_or}
use Rattle.path_sums.specs.Sums.{call_sum}
use Rattle.source_values.specs.Values.{Attempt, Meaning, meaning_in}
use Rattle.source_values.proofs.Interface.{KnownUpTo}
use Rattle.lower.proofs.Sequence.{Spare, Keeping, sparing, Keeps, as_value, comes_alone, LeavesWords}
use Rattle.lower.proofs.Values.{LeavesWord, single}
use Rattle.lower.proofs.Writes.{CallsGoOn}

-- ---- words in the order in which they are taken

-- words pushed one after another on top of these
abbrev pub turned : List ℕ → List ℕ → List ℕ
turned [] below = below
turned (w ∷ words) below = turned words (w ∷ below)

pub turned_behind : (words first below : List ℕ) → turned words (first ++ below) ≡ turned words first ++ below
turned_behind [] first below = refl
turned_behind (w ∷ words) first below = turned_behind words (w ∷ first) below

pub turned_length : (words first : List ℕ) → length (turned words first) ≡ length words + length first
turned_length [] first = omega arith
turned_length (w ∷ words) first = let more = turned_length words (w ∷ first) in omega (arith, more)

-- as many words as there are
words_taken : (words below : List ℕ) (next : List ℕ → List ℕ → Behaviour) → with_words (length words) (words ++ below) next ≡ next words below
words_taken [] below next = refl
words_taken (w ∷ words) below next = words_taken words below (λ us rest. next (w ∷ us) rest)

turned_taken : (words below : List ℕ) (count : ℕ) (next : List ℕ → List ℕ → Behaviour) → length words ≡ count
    → with_words count (turned words below) next ≡ next (turned words []) below
turned_taken words below count next same =
    let counted : length (turned words []) ≡ count = let l = turned_length words [] in omega (arith, l, same) in
    ap (λ vs. with_words count vs next) (turned_behind words [] below)
    ∙ ap (λ n. with_words n (turned words [] ++ below) next) (sym counted)
    ∙ words_taken (turned words []) below next

-- ---- functions

-- what is to spare in front of a call of a function that emits and lists so much
abbrev pub before_call : ℕ → (ℕ → ℕ) → Spare → Spare
before_call emits lists free = record { emits = emits + free.emits; lists = λ v. lists v + free.lists v }

-- The body of a function where it stands in a task, called with any words from any code of the task: it leaves the word that the function
-- gives, on top of any stack, and emits and lists so much at most
abbrev pub RoutineLeaves : Scene → RoutinePlace → Meaning → Program → ℕ → (ℕ → ℕ) → Type 0
RoutineLeaves z r f body emits lists =
    (own : ℕ) (low : own + 256 ≤ 65536) (fs : Functions) (most : ℕ → ℕ) (within : (v : ℕ) → most v ≤ z.stores v) (free : Spare)
    (words stack : List ℕ) (m : Attempt) (w : WordState)
    → (let k : Keeping = record { z = record z { own = own; own_low = low; fs = fs }; most = most; within = within; free = free } in
    length words ≤ 256 → Keeps (sparing (before_call emits lists free) k) m w
    → LeavesWord k (with_stack stack w)
    (called_behind (with_stack stack w) (behaviour body (called r.first (turned words []) (with_stack stack w)))) (by_answers m (f words)))

-- what a call of the function of a number emits and lists at most, and what it writes
abbrev pub call_emits : Functions → ℕ → ℕ
call_emits fs i = slice_index fs.emits i

abbrev pub call_lists : Functions → ℕ → ℕ → ℕ
call_lists fs i v = slice_index (called_stores fs.summaries v) i

abbrev pub CallWritesWithin : Scene → ℕ → Type 0
CallWritesWithin z i = (v : ℕ) → (call_sum (z.fs.sums v) (summary (Shared v)) i).writes ≡ true → z.written v ≡ true

-- the functions that a text may call do so, where the task writes what they write; where there is none of a number there is no body; the paths of each
-- call go on, and none emits more than it counts
pub record KnownAgree (z : Scene) : Type 0 where
  pub calls : (i : ℕ) (f : Meaning) (r : RoutinePlace) → slice_get z.fs.meanings i ≡ Some f → routine_of z.p i ≡ Some r → CallWritesWithin z i
      → RoutineLeaves z r f (slice_index_or z.fs.bodies i nothing) (call_emits z.fs i) (call_lists z.fs i)
  pub none : (i : ℕ) → slice_get z.fs.meanings i ≡ None → slice_index_or z.fs.bodies i nothing ≡ nothing
  pub go_on : (v : ℕ) → CallsGoOn v (z.fs.sums v)
  pub up_to : KnownUpTo z.fs.meanings z.fs.emits

module _ (k : Keeping) (known : KnownAgree k.z) where
  -- what a call of a function comes to
  abbrev meaning : ℕ → List ℕ → Attempt → Option Evaluated
  meaning i words s = meaning_in k.z.fs.meanings i words s

  -- a call behind its words, where this is its place and this its body
  abbrev CallLeaves : ℕ → Option RoutinePlace → Program → List ℕ → List ℕ → Attempt → WordState → Type 0
  CallLeaves i at body words below m s = (count : ℕ) → length words ≡ count
      → LeavesWord k (with_stack below s) (then_on (step_behaviour (call_at at count body) (with_stack (turned words below) s)) (behaviour nothing))
      (by_answers m (meaning i words))

  -- without a body nothing is said
  no_body : (i : ℕ) (at : Option RoutinePlace) (body : Program) (words below : List ℕ) (m : Attempt) (s : WordState) → body ≡ nothing
      → CallLeaves i at body words below m s
  no_body i (Some r) body words below m s none count same =
      let next : List ℕ → List ℕ → Behaviour = λ ws vs. called_behind (with_stack vs s) (behaviour nothing (called r.first ws s)) in
      let P : Behaviour → Type 0 = λ b. LeavesWord k (with_stack below s) (then_on b (behaviour nothing)) (by_answers m (meaning i words)) in
      subst (λ q. P (step_behaviour (call_at (Some r) count q) (with_stack (turned words below) s))) (sym none)
      (subst P (sym (turned_taken words below count next same)) (λ others. tt))
  no_body i None body words below m s none count same =
      let next : List ℕ → List ℕ → Behaviour = λ ws vs. called_behind (with_stack vs s) (behaviour nothing (called 0 ws s)) in
      let P : Behaviour → Type 0 = λ b. LeavesWord k (with_stack below s) (then_on b (behaviour nothing)) (by_answers m (meaning i words)) in
      subst P (sym (turned_taken words below count next same)) (λ others. tt)

  -- a function that is known
  known_call : (i : ℕ) (f : Meaning) (r : RoutinePlace) (words below : List ℕ) (m : Attempt) (s : WordState)
      → slice_get k.z.fs.meanings i ≡ Some f → routine_of k.z.p i ≡ Some r → CallWritesWithin k.z i → length words ≤ 256
      → Keeps (sparing (before_call (call_emits k.z.fs i) (call_lists k.z.fs i) k.free) k) m s
      → CallLeaves i (Some r) (slice_index_or k.z.fs.bodies i nothing) words below m s
  known_call i f r words below m s is at writes few kept count same =
      let z = k.z in
      let body = slice_index_or z.fs.bodies i nothing in
      let u : WordState = with_stack below s in
      let done = called_behind u (behaviour body (called r.first (turned words []) u)) in
      let next : List ℕ → List ℕ → Behaviour = λ ws vs. called_behind (with_stack vs s) (behaviour body (called r.first ws s)) in
      let leaves = known.calls i f r is at writes z.own z.own_low z.fs k.most k.within k.free words below m s few kept in
      let P : Behaviour → Type 0 = λ b. LeavesWord k u (then_on b (behaviour nothing)) (by_answers m (meaning i words)) in
      subst P (sym (turned_taken words below count next same))
      (comes_alone (as_value k single below) s.fram done (by_answers m (meaning i words))
      (subst (λ o. LeavesWord k u done (by_answers m (λ s. o >>? λ f. f words s))) (sym is) leaves))

  pub call_leaves : (i : ℕ) (words below : List ℕ) (m : Attempt) (s : WordState) → CallWritesWithin k.z i → length words ≤ 256
      → Keeps (sparing (before_call (call_emits k.z.fs i) (call_lists k.z.fs i) k.free) k) m s
      → CallLeaves i (routine_of k.z.p i) (slice_index_or k.z.fs.bodies i nothing) words below m s
  call_leaves i words below m s writes few kept = by_place (routine_of k.z.p i) refl
    where
      body : Program
      body = slice_index_or k.z.fs.bodies i nothing

      by_meaning : (r : RoutinePlace) (f : Option Meaning) → routine_of k.z.p i ≡ Some r → slice_get k.z.fs.meanings i ≡ f
          → CallLeaves i (Some r) body words below m s
      by_meaning r None at is = no_body i (Some r) body words below m s (known.none i is)
      by_meaning r (Some f) at is = known_call i f r words below m s is at writes few kept

      -- a function without a place has no body either
      unplaced : CallLeaves i None body words below m s
      unplaced count same = no_body i None nothing words below m s refl count same

      by_place : (at : Option RoutinePlace) → routine_of k.z.p i ≡ at → CallLeaves i at body words below m s
      by_place None is = unplaced
      by_place (Some r) is = by_meaning r (slice_get k.z.fs.meanings i) is refl
