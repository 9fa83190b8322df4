-- Where a handler stands, each of its instructions does.
use Rattle.image_reports.proofs.Names.{arith, encoding, Holds}
use Rattle.event_handler.specs.Handler.{Stage, HasHandler, instruction_at, place_at, SaveR4, SaveR5, TakeEvent, LoadHead, SubtractTail, CompareRoom}
use Rattle.event_handler.specs.Handler.{LeaveIfFull, LoadHeadAgain, CutToSlots, DoubleIndex, StoreWord, RaiseHead, RestoreR5, RestoreR4, Return}
use Rattle.std.specs.Prelude.{ℕ}

module _ (f : ℕ → ℕ) (h : HasHandler f) where
  pub stage_holds : (at : Stage) → Holds f (place_at at) (encoding (instruction_at at))
  stage_holds SaveR4 = (h.words 0 (omega arith), tt)
  stage_holds SaveR5 = (h.words 1 (omega arith), tt)
  stage_holds TakeEvent = (h.words 2 (omega arith), (h.words 3 (omega arith), tt))
  stage_holds LoadHead = (h.words 4 (omega arith), (h.words 5 (omega arith), tt))
  stage_holds SubtractTail = (h.words 6 (omega arith), (h.words 7 (omega arith), tt))
  stage_holds CompareRoom = (h.words 8 (omega arith), (h.words 9 (omega arith), tt))
  stage_holds LeaveIfFull = (h.words 10 (omega arith), tt)
  stage_holds LoadHeadAgain = (h.words 11 (omega arith), (h.words 12 (omega arith), tt))
  stage_holds CutToSlots = (h.words 13 (omega arith), (h.words 14 (omega arith), tt))
  stage_holds DoubleIndex = (h.words 15 (omega arith), tt)
  stage_holds StoreWord = (h.words 16 (omega arith), (h.words 17 (omega arith), tt))
  stage_holds RaiseHead = (h.words 18 (omega arith), (h.words 19 (omega arith), tt))
  stage_holds RestoreR5 = (h.words 20 (omega arith), tt)
  stage_holds RestoreR4 = (h.words 21 (omega arith), tt)
  stage_holds Return = (h.words 22 (omega arith), tt)
