-- A board of a source's image from which a run begins.
use Rattle.image_reports.proofs.Names.{◌≡◌, ◌<◌, ◌≤◌, ◌+◌, ◌*◌, ◌%◌, ℕ, refl, sym, ◌∙◌, subst, arith, List, [], ◌∷◌, length, All, Allow, ImageValue, BoardValue}
use Rattle.image_reports.proofs.Names.{fresh, started, BoardCharge, RunOutcome, Run, World, fram_of, fresh_is_whole, words_of, Holds, CheckedProgram, State}
use Rattle.image_reports.proofs.Names.{first_state, first_history, Origin, Resting, StandsFor, Begins, runs_may_begin, outside_of, ArePowerStates}
use Rattle.image_reports.proofs.Names.{IsPlacedProgram, IsRunOfWords, MemoryMap, compiled_model, source_code, compiled_program, code_keeps_the_laws}
use Rattle.image_reports.proofs.Names.{code_is_placed, runs_leave_the_code, BearsModel, map_of, IsCompiledFor, fresh_world, IsFreshImage, IsReadyToRun}
use Rattle.image_reports.proofs.Names.{runtime_marks, world_with, KeepsCode, steady, Bool, true, false, if◌then◌else◌, ◌==◌, ap, eqb-true, slice_index}
use Rattle.image_reports.proofs.Names.{place_of}
use Rattle.memory_map.specs.declared.runtime.Logging.{Logging}
use Rattle.std.proofs.Common.{◌&&◌, inr}
use Rattle.std.proofs.Math.Path.{fun_ext}
use Rattle.event_places.specs.Places.{answer_place, is_ring}
use Rattle.std.specs.Prelude.{None, Some, nat_le, nat_lt}
use Rattle.std.proofs.lemmas.Bool.{and_parts, leb-true, ltb-true}
use Rattle.fram_board.specs.Bus.{is_fram}
use Rattle.source_runs.specs.Transitions.{HasWordsOf}
use Rattle.energy_trace.specs.TraceValue.{Event}
use Rattle.source_runs.specs.Traces.{AreInputs}
use Rattle.source_runs.specs.Sources.{BeginsWithSource}

-- words that stand in a FRAM stand in each that has the same there
pub holds_as : (f g : ℕ → ℕ) (ws : List ℕ) (a : ℕ) → a % 2 ≡ 0 → ((b : ℕ) → b % 2 ≡ 0 → a ≤ b → b < a + 2 * length ws → f b ≡ g b) → Holds g a ws → Holds f a ws
holds_as f g [] a e h k = tt
holds_as f g (w ∷ ws) a e h k = (
  h a e (omega arith) (omega arith) ∙ k.0,
  holds_as f g ws (a + 2) (omega (arith, e)) (λ b even from to. h b even (omega (arith, from)) (omega (arith, to))) k.1,
)

-- where there is no ANS there are no events
pub marked_by : (events : Bool) → (if events then Some answer_place else None) ≡ None → events ≡ false
marked_by true e = absurd (cc e)
marked_by false e = refl

-- an image with the words of FRAM, of which the code's are the image's; the number that the receiver takes next, and the words that it
-- accepted; and how a run goes on there
pub record Beginning : Type 0 where
  pub text : List ℕ
  pub program : CheckedProgram
  pub allow : Allow
  pub image : ImageValue
  pub logging : Logging
  pub compiled : IsCompiledFor logging text program allow image
  pub ready : IsReadyToRun program compiled.layout
  pub new : IsFreshImage text program allow compiled.layout image
  pub fram : List ℕ
  pub number : ℕ
  pub before : List ℕ
  pub counted : length before % 0x10000 ≡ number
  pub code : KeepsCode program compiled.layout image (steady (fram_of fram))
  pub origin : Origin State
  pub readings : List ℕ
  pub events : List Event
  pub inputs : AreInputs readings events
  pub begun : StandsFor (compiled_model program compiled.layout) readings origin
      (first_history (runtime_marks compiled.layout) (world_with fram before))

module _ (at : Beginning) where
  open at use {program as p, image, compiled as c, ready, new, fram, number, before, code, origin, readings, events, inputs, begun}

  abbrev l : MemoryMap
  l = c.layout

  abbrev pub first_world : World
  first_world = world_with fram before

  abbrev pub first_board : BoardValue
  first_board = started fram number readings events

  -- the code stands in FRAM
  pub stands_there : Holds (steady (fram_of fram)) l.boot.address (words_of (source_code p l))
  stands_there = holds_as (steady (fram_of fram)) (fram_of image.words) (words_of (source_code p l)) l.boot.address (code_is_placed p l new.fits).even
      code.code new.code

  abbrev pub begins : Begins (compiled_model p l) readings origin first_world (outside_of first_board)
  begins = record { fram = refl; readings_left = refl; words = inputs.readings_are_words; stands = begun }

  abbrev pub bears : BearsModel (compiled_model p l) (compiled_program p l) readings origin first_world first_board
  bears =
      let P : ℕ → Type 0 = λ entry. IsPlacedProgram (compiled_program p l) l.runtime.events l.boot.address (source_code p l) entry in
      record {
        model = ready.model;
        program = code_keeps_the_laws p l ready.code ready.model;
        begins = begins;
        stands = record {
          events = l.runtime.events;
          place = l.boot.address;
          instructions = source_code p l;
          placed = subst P (sym (code.vector ∙ new.vector)) (code_is_placed p l new.fits);
          holds = stands_there;
          handler = code.handler;
          marked = marked_by l.runtime.events;
          leaves = runs_leave_the_code p l ready.code ready.model ready.stores readings origin first_world (outside_of first_board) begins;
        };
      }

-- ---- the fresh board

module _ {logging : Logging} (text : List ℕ) (p : CheckedProgram) (allow : Allow) (image : ImageValue) (c : IsCompiledFor logging text p allow image)
    (ready : IsReadyToRun p c.layout) (new : IsFreshImage text p allow c.layout image) where
  -- HEAD and the ring are 0 at first
  word_by : (c : Bool) (w : ℕ) → (c ≡ true → w ≡ 0) → w ≡ (if c then 0 else w)
  word_by true w h = h refl
  word_by false w h = refl

  pub fram_is : fram_of image.words ≡ steady (fram_of image.words)
  fram_is = fun_ext (λ a. word_by (is_ring a) (fram_of image.words a) (λ of. ring_is_empty a of))
    where
      ring_is_empty : (a : ℕ) → is_ring a ≡ true → fram_of image.words a ≡ 0
      ring_is_empty a of =
          let bounds = and_parts (nat_le 0xFF6E a) (nat_lt a 0xFFF0) of in
          let from : 0xFF6E ≤ a = leb-true 0xFF6E a bounds.0 in
          let below : a < 0xFFF0 = ltb-true a 0xFFF0 bounds.1 in
          by (a % 2 == 0) refl from below
        where
          by : (even : Bool) → (a % 2 == 0) ≡ even → 0xFF6E ≤ a → a < 0xFFF0 → fram_of image.words a ≡ 0
          by true e from below =
              new.ring a (record { even = eqb-true (a % 2) 0 e; low = omega (arith, from); high = omega (arith, below) }) (omega (arith, from)) (inr of)
          by false e from below = ap (λ (b : Bool). if b && is_fram a then slice_index image.words (place_of a) else 0) e

  pub fresh_is : fresh_world image ≡ world_with image.words []
  fresh_is = ap (λ f. record { fram = f; accepted = [] }) fram_is

  pub rests : (compiled_model p c.layout).Rests (first_state p) (world_with image.words [])
  rests = subst (λ x. (compiled_model p c.layout).Rests (first_state p) x) fresh_is new.rests

  pub undecided : (compiled_model p c.layout).Undecided (first_state p) (world_with image.words [])
  undecided =
      let s = first_state p in
      let x = world_with image.words [] in ready.model.settled_undecided s x (ready.model.rests_settled s x rests)

  -- the image keeps its own code
  pub own_code : KeepsCode p c.layout image (steady (fram_of image.words))
  own_code =
      let P : (ℕ → ℕ) → Type 0 = λ f. KeepsCode p c.layout image f in
      subst P fram_is (record { code = λ a even from to. refl; vector = refl; handler = new.handler })

module _ {logging : Logging} (text : List ℕ) (p : CheckedProgram) (allow : Allow) (image : ImageValue) (c : IsCompiledFor logging text p allow image)
    (readings : List ℕ) (events : List Event) (inputs : AreInputs readings events) (ready : IsReadyToRun p c.layout)
    (new : IsFreshImage text p allow c.layout image) where
  abbrev pub at_first : Beginning
  at_first = record {
    text = text;
    program = p;
    allow = allow;
    image = image;
    logging = logging;
    compiled = c;
    ready = ready;
    new = new;
    fram = image.words;
    number = 0;
    before = [];
    counted = refl;
    code = own_code text p allow image c ready new;
    origin = Resting (first_state p);
    readings = readings;
    events = events;
    inputs = inputs;
    begun = (runs_may_begin (compiled_model p c.layout) ready.model readings).resting (first_state p) (world_with image.words [])
        (undecided text p allow image c ready new);
  }

  pub begins_with_source : BeginsWithSource p (map_of text p c.layout allow) (compiled_model p c.layout) (compiled_program p c.layout)
      (world_with image.words []) (fresh image.words readings events)
  begins_with_source = record {
    bears = bears at_first;
    starts = record { fram = refl; accepted = refl; taken = refl; heard = refl };
    undecided = undecided text p allow image c ready new;
    words = subst (λ x. HasWordsOf (map_of text p c.layout allow) x (first_state p)) (fresh_is text p allow image c ready new) new.has_words;
  }

-- ---- runs

-- a run that goes on from words of FRAM is one of words, as one of a fresh board is
pub run_of_words : (fram : List ℕ) → length fram ≡ 24064 → All (λ w. w < 0x10000) fram → (number : ℕ) (cs : List BoardCharge) → ArePowerStates cs
    → (readings : List ℕ) (events : List Event) → AreInputs readings events → (r : RunOutcome) → Run cs (started fram number readings events) r
    → IsRunOfWords cs (started fram number readings events) r
run_of_words fram long are_words number cs starts readings events inputs r run =
    let w = fresh_is_whole fram readings events long inputs.few_readings are_words inputs.readings_are_words inputs.events_are_words in
    let whole = w.0 in let of_words = w.1 in
    record {
      whole = record {
        board = record { fram = whole.board.fram; ram = whole.board.ram; taken = whole.board.taken; few = whole.board.few };
        registers = whole.registers;
        own = whole.own;
      };
      words = record {
        registers = of_words.registers;
        fram = of_words.fram;
        ram = of_words.ram;
        readings = of_words.readings;
        outnum = of_words.outnum;
        line = of_words.line;
        radio = of_words.radio;
      };
      starts = starts;
      run = run;
    }
