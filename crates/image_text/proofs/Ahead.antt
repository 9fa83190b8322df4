-- An image is read off the lines up to its `q` alone: with any lines behind them it is the same, and these are left.
use Rattle.std.proofs.Common.{◌≡◌, ℕ, ◌+◌, ◌&&◌, List, [], ◌∷◌, ◌++◌, refl, ap, ◌∙◌, if◌then◌else◌, Bool, true, false, None, Result, Ok, Err}
use Rattle.std.specs.Prelude.{is_some, slice_index_or}
use Rattle.image_map.proofs.Interface.{ReadsAhead}
use Rattle.image_text.specs.declared.fault.ImageFault.{ImageFault}
use Rattle.image_text.specs.declared.fault.ImageFault.TheVariants as fault
use Rattle.image_text.specs.Line.{line_says}
use Rattle.image_text.specs.Memory.{Placed, step}
use Rattle.image_map.specs.Reading.{goes_on}
use Rattle.image_text.specs.Reading.{◌>>=◌, Front, read, finish, words_of, empty, front_of}

-- a front with another rest behind it
abbrev pub leaving : List (List ℕ) → Front → Front
leaving rest f = record f { rest = rest }

-- readers of fronts
abbrev pub FrontAhead : (List (List ℕ) → Result Front ImageFault) → List (List ℕ) → Result Front ImageFault → Type 0
FrontAhead reads = ReadsAhead {L = List ℕ} {X = Front} {E = ImageFault} (λ f. f.rest) leaving reads

-- what a line leaves to the lines behind it
abbrev Later : ℕ → Placed → List ℕ → List (List ℕ) → Type 0
Later n p l ls = (q : Placed) → step n p (line_says l) ≡ Ok (true, q) → FrontAhead (read n p) (l ∷ ls) (read (n + 1) q ls)

step_ahead : (n : ℕ) (p : Placed) (l : List ℕ) (ls : List (List ℕ)) → Later n p l ls → FrontAhead (read n p) (l ∷ ls) (read n p (l ∷ ls))
unfolding read
step_ahead n p l ls later = by_step (step n p (line_says l)) refl
  where
    ended : (q : Placed) → step n p (line_says l) ≡ Ok (false, q) → (t : Bool)
        → (is_some (slice_index_or q.memory 48126 None) && is_some (slice_index_or q.memory 48127 None)) ≡ t
        → FrontAhead (read n p) (l ∷ ls) (if t then Ok (record { words = words_of q.memory; rest = ls; line = n + 1 }) else Err fault.NoReset)
    ended q e true given = (l ∷ [], refl, λ rest. rw (e, given) refl)
    ended q e false given = tt

    by_step : (r : Result (Bool × Placed) ImageFault) → step n p (line_says l) ≡ r
        → FrontAhead (read n p) (l ∷ ls) (r >>= λ o. goes_on o.0 (read (n + 1) o.1 ls) (finish (n + 1) o.1.memory ls))
    by_step (Err f) e = tt
    by_step (Ok (true, q)) e = later q e
    by_step (Ok (false, q)) e = ended q e (is_some (slice_index_or q.memory 48126 None) && is_some (slice_index_or q.memory 48127 None)) refl

read_on : (n : ℕ) (p q : Placed) (l : List ℕ) (ls : List (List ℕ)) → step n p (line_says l) ≡ Ok (true, q) → read n p (l ∷ ls) ≡ read (n + 1) q ls
unfolding read
read_on n p q l ls e = rw e refl

more_later : (n : ℕ) (p : Placed) (l : List ℕ) (ls : List (List ℕ)) → ((q : Placed) → FrontAhead (read (n + 1) q) ls (read (n + 1) q ls)) → Later n p l ls
more_later n p l ls later q e = by_read (read (n + 1) q ls) (later q)
  where
    by_read : (r : Result Front ImageFault) → FrontAhead (read (n + 1) q) ls r → FrontAhead (read n p) (l ∷ ls) r
    by_read (Err f) c = tt
    by_read (Ok f) (front, made, on) = (l ∷ front, ap (λ ls. l ∷ ls) made, λ rest. read_on n p q l (front ++ rest) e ∙ on rest)

no_lines_ahead : (n : ℕ) (p : Placed) → FrontAhead (read n p) [] (read n p [])
unfolding read
no_lines_ahead n p = tt

read_ahead : (n : ℕ) (p : Placed) (ls : List (List ℕ)) → FrontAhead (read n p) ls (read n p ls)
read_ahead n p [] = no_lines_ahead n p
read_ahead n p (l ∷ ls) = step_ahead n p l ls (more_later n p l ls (λ q. read_ahead (n + 1) q ls))

-- the words of an image are read off the lines up to its `q`
pub front_ahead : (ls : List (List ℕ)) → FrontAhead front_of ls (front_of ls)
front_ahead ls = read_ahead 1 (record { next = None; memory = empty 48128 }) ls
