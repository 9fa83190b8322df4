-- The files that a command reads: what stands under each name, and the first that can't be had.
use Rattle.std.specs.Prelude.{◌≡◌, ℕ, ◌<◌, ◌≤◌, ◌⊎◌, List, [], ◌∷◌, length, Option, Some, None, IfSome, IsSomeAnd}
use Rattle.alp_io.specs.Count.{Rose}
use Rattle.alp_io.specs.Shelf.{Files, Counts}
use Rattle.command_answers.specs.declared.inputs.Unread.{Unread}
use Rattle.command_answers.specs.declared.inputs.Unread.TheVariants.{Unreadable, TooLong, Memory}

-- a file is there, with at most 1,048,576 bytes
abbrev pub Fits : Option (List ℕ) → Type 0
Fits file = IsSomeAnd file (λ bytes. length bytes ≤ 1048576)

-- a file is there, with more than that
abbrev pub IsOverlong : Option (List ℕ) → Type 0
IsOverlong file = IsSomeAnd file (λ bytes. 1048576 < length bytes)

-- these bytes stand under these names, in their order, and each file fits
abbrev pub AreHeld : Files → List (List ℕ) → List (List ℕ) → Type 0
AreHeld f [] [] = Unit {0}
AreHeld f [] (text ∷ texts) = ⊥
AreHeld f (name ∷ names) [] = ⊥
AreHeld f (name ∷ names) (text ∷ texts) = (f name ≡ Some text) × (length text ≤ 1048576) × AreHeld f names texts

-- this name is that of the first file, in order, that is missing or overlong, and this holds of it
pub data IsFirstUnfit (f : Files) (P : Option (List ℕ) → Type 0) : List (List ℕ) → List ℕ → Type 0 where
  here : (name : List ℕ) (names : List (List ℕ)) → P (f name) → IsFirstUnfit f P (name ∷ names) name
  behind : (name other : List ℕ) (names : List (List ℕ)) → Fits (f other) → IsFirstUnfit f P names name → IsFirstUnfit f P (other ∷ names) name

-- this name is one of these
pub data IsOneOf (name : List ℕ) : List (List ℕ) → Type 0 where
  first : (names : List (List ℕ)) → IsOneOf name (name ∷ names)
  later : (other : List ℕ) (names : List (List ℕ)) → IsOneOf name names → IsOneOf name (other ∷ names)

-- the named file could not be read: a read failed, or, as far as the files are told, it is the first unfit one and is missing
pub record IsUnreadable (files : Option Files) (names : List (List ℕ)) (name : List ℕ) (old new : Counts) : Type 0 where
  pub one : IsOneOf name names
  pub cause : Rose old.failed_reads new.failed_reads
      ⊎ (Rose old.missing_reads new.missing_reads × IfSome files (λ f. IsFirstUnfit f (λ file. file ≡ None) names name))

-- the named file has too many bytes: as far as the files are told, it is the first unfit one and is overlong
pub record IsTooLong (files : Option Files) (names : List (List ℕ)) (name : List ℕ) (old new : Counts) : Type 0 where
  pub one : IsOneOf name names
  pub cause : Rose old.overlong_reads new.overlong_reads
  pub overlong : IfSome files (λ f. IsFirstUnfit f IsOverlong names name)

-- what each answer of the reader says
abbrev pub IsUnread : Unread → Option Files → List (List ℕ) → Counts → Counts → Type 0
IsUnread (Unreadable name) files names old new = IsUnreadable files names name.now old new
IsUnread (TooLong name) files names old new = IsTooLong files names name.now old new
IsUnread Memory files names old new = Unit {0}
