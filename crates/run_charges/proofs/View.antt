-- What stays of a board until the next moment begins.
use Rattle.std.proofs.Common.{◌≡◌, refl, sym, subst}
use Rattle.fram_board.specs.Board.{BoardValue, next_number}
use Rattle.machine_effects.specs.View.{IsWhole, IsOfWords}
use Rattle.run_charges.specs.View.{outside_of}
use Rattle.run_charges.specs.Moments.{Follows}

-- what came from outside in between leaves all but itself as it was
pub record Keeps (left next : BoardValue) : Type 0 where
  pub whole : IsWhole left → IsWhole next
  pub words : IsOfWords left → IsOfWords next
  pub outside : outside_of next ≡ outside_of left
  pub number : next_number next.receiver ≡ next_number left.receiver
  pub heard : next.receiver.accepted ≡ left.receiver.accepted
  pub taken : next.taken ≡ left.taken
  pub readings : next.readings ≡ left.readings

pub follows_keeps : (left next : BoardValue) → Follows left next → Keeps left next
follows_keeps left next f =
    let P : BoardValue → Type 0 = λ y. Keeps left y in
    subst P (sym f.same)
    (record { whole = λ w. w; words = λ w. w; outside = refl; number = refl; heard = refl; taken = refl; readings = refl })

-- a board on which a moment begins at once
pub no_gap : (b : BoardValue) → Follows b b
no_gap b = record { same = refl }
