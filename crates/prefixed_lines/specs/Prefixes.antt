-- A text with a letter and a blank in front of each of its lines.
use Rattle.std.specs.Prelude.{ℕ, zero, suc, ◌==◌, ◌&&◌, not, Bool, true, false, if◌then◌else◌, List, [], ◌∷◌, ◌++◌, length, drop, Option, Some, None, Result}
use Rattle.std.specs.Str.{bytes_eq}
use Rattle.alp_io.specs.Sink.{Writes}

-- the front of a byte: a line that begins with it has the letter and the blank
abbrev pub front_of : ℕ → Bool → List ℕ
front_of letter true = []
front_of letter false = letter ∷ 32 ∷ []

-- a text, whose first byte stands within a line or begins one
abbrev pub prefixed_from : ℕ → Bool → List ℕ → List ℕ
prefixed_from letter within [] = []
prefixed_from letter within (b ∷ bs) = front_of letter within ++ (b ∷ prefixed_from letter (not (b == 10)) bs)

-- a text that begins with a line
abbrev pub prefixed : ℕ → List ℕ → List ℕ
prefixed letter text = prefixed_from letter false text

-- whether a line hasn't ended behind a text that is within one, or not, at first
abbrev pub is_within : Bool → List ℕ → Bool
is_within within [] = within
is_within within (b ∷ bs) = is_within (not (b == 10)) bs

-- a text without the fronts, of which so many bytes come first
abbrev pub without_fronts : ℕ → List ℕ → List ℕ
without_fronts skip [] = []
without_fronts zero (b ∷ bs) = b ∷ without_fronts (if b == 10 then 2 else 0) bs
without_fronts (suc skip) (b ∷ bs) = without_fronts skip bs

-- whether two answers are the same
abbrev pub is_same : Bool → Bool → Bool
is_same true b = b
is_same false b = not b

-- a text, where it is so
abbrev pub told_if : Bool → List ℕ → Option (List ℕ)
told_if true text = Some text
told_if false text = None

-- what was written behind the first bytes, without the fronts, where those bytes are known and it stands there with them
abbrev pub text_behind : Option (List ℕ) → Option (List ℕ) → ℕ → Bool → Option (List ℕ)
text_behind None all letter within = None
text_behind (Some first) None letter within = None
text_behind (Some first) (Some all) letter within =
    let text = without_fronts 2 (drop (length first) all) in
    told_if (bytes_eq all (first ++ prefixed letter text) && is_same (is_within false text) within) text

-- Each text that was written behind nothing stands behind the first bytes with the fronts: whole, or after a failure a proper prefix
abbrev pub Prefixes : {T E : Type 0} → ℕ → Option (List ℕ) → Option (List ℕ) → Option (List ℕ) → Result T E → Type 0
Prefixes letter first told all result = (text : List ℕ) → Writes (text_behind first first letter false) told result text
    → Writes first all result (prefixed letter text)
