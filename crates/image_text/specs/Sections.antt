-- The sections of an image's text, and how long they are.
use Rattle.std.specs.Prelude.{ℕ, suc, ◌+◌, false, if◌then◌else◌, List, [], ◌∷◌, length, Option, Some, None}
use Rattle.image_map.specs.MapValue.{MapValue}
use Rattle.image_map.specs.ReadsBack.{ReadsBack}
use Rattle.image_text.specs.Text.{AreShown, BeginsWithSection, Section, is_shown}

-- what is printed of a map, if there is one, reads back
abbrev pub IsReadBack : Option MapValue → Type 0
IsReadBack None = Unit {0}
IsReadBack (Some m) = ReadsBack m

-- how many words at the front are not shown, where the first stands at a place
abbrev pub hidden_len : ℕ → List ℕ → ℕ
hidden_len j [] = 0
hidden_len j (w ∷ ws) = if is_shown j w then 0 else suc (hidden_len (j + 1) ws)

-- how many words at the front are shown
abbrev pub shown_len : ℕ → List ℕ → ℕ
shown_len j [] = 0
shown_len j (w ∷ ws) = if is_shown j w then suc (shown_len (j + 1) ws) else 0

-- the sections of words from a place on: rising, apart, each as long as can be, and no other word is shown
abbrev pub AreSections : ℕ → List ℕ → List Section → Type 0
AreSections j ws [] = AreShown false j ws
AreSections j ws (s ∷ ss) = (rest : List ℕ) × BeginsWithSection j ws s rest × AreSections (s.place + length s.words) rest ss
