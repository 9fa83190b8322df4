-- A state as a text: its image's, and the line of the receiver.
use Rattle.std.specs.Prelude.{ℕ, List, [], ◌∷◌, ◌++◌, codes, decimal}
use Rattle.text_parts.specs.Printed.{printed}
use Rattle.image_text.specs.Text.{text_of, map_part}
use Rattle.state_text.specs.declared.state.State.{State}

-- the line of the receiver
abbrev pub receiver_fields : ℕ → List (List (List ℕ))
receiver_fields n = (codes "receiver" ∷ decimal n ∷ []) ∷ []

-- the text of a state
abbrev pub state_text : State → List ℕ
state_text s = (text_of s.image.words ++ printed (map_part s.image.map)) ++ printed (receiver_fields s.receiver)
