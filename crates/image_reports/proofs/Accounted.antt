-- Each event that arose is accounted for at each front of a run.
use Rattle.image_reports.proofs.Names.{◌≡◌, ℕ, sym, subst, List, [], ◌∷◌, Option, BoardValue, Moment, last_board, AreMoments, Instructs, IsMomentFrom, PowersUp}
use Rattle.fram_board.specs.declared.board.NextStep.{NextStep}
use Rattle.fram_board.specs.declared.board.NextStep.TheVariants as next_step
use Rattle.fram_board.specs.declared.board.Stepped.{Stepped}
use Rattle.fram_board.specs.Board.{performed}
use Rattle.fram_board.specs.Run.{moment_of, power_up_of}
use Rattle.fram_board.proofs.Interface.{AreCounted, IsCountedLine, step_counts, boundary_counts, power_up_counts}
use Rattle.board_run.specs.Events.{Hand, hand_behind, hand_after, words_known}
use Rattle.board_run.proofs.Interface.{step_known, power_up_known}
use Rattle.run_charges.specs.Moments.{Serves}
use Rattle.std.proofs.Common.{Ok}

-- behind a board's line all that was taken from EVENT is known by a hand
abbrev pub Accounts : BoardValue → Hand → Type 0
Accounts b h = IsCountedLine b.line (words_known h)

module _ (head : Option ℕ) where
  step_accounts : (b : BoardValue) (n : NextStep) (done : Stepped) (h : Hand) → (performed b n).answer ≡ Ok done → Accounts b h
      → Accounts (moment_of b n done).after (hand_behind head (moment_of b n done) h)
  step_accounts b n done h answer is =
      let line = (performed b n).board.line in
      let counted = subst (AreCounted line) (sym (step_known head b n done h)) (step_counts b n done (words_known h) answer is.unheard is.counted) in
      boundary_counts line (words_known (hand_behind head (moment_of b n done) h)) counted

  moment_accounts : (b : BoardValue) (m : Moment) (h : Hand) → IsMomentFrom b m → Accounts b h → Accounts m.after (hand_behind head m h)
  moment_accounts b m h (PowersUp p ok e) is =
      let P : Moment → Type 0 = λ y. Accounts y.after (hand_behind head y h) in
      let behind = hand_behind head (power_up_of b p) h in
      subst P (sym e) (power_up_counts b.line (words_known behind) (subst (AreCounted b.line) (sym (power_up_known head b p h)) is.counted))
  moment_accounts b m h (Instructs i done c a own e) is =
      let P : Moment → Type 0 = λ y. Accounts y.after (hand_behind head y h) in subst P (sym e) (step_accounts b (next_step.Instruction i) done h a is)
  moment_accounts b m h (Serves n done next a served e) is =
      let P : Moment → Type 0 = λ y. Accounts y.after (hand_behind head y h) in subst P (sym e) (step_accounts b n done h a is)

  -- so it is behind any moments
  pub moments_account : (b : BoardValue) (ms : List Moment) (h : Hand) → AreMoments b ms → Accounts b h → Accounts (last_board b ms) (hand_after head ms h)
  moments_account b [] h are is = is
  moments_account b (m ∷ ms) h are is =
      let here : Accounts m.before h = subst (λ y. Accounts y h) (sym are.0.same) is in
      moments_account m.after ms (hand_behind head m h) are.2 (moment_accounts m.before m h are.1 here)
