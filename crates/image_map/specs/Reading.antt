-- What lines say as a map: line by line, the map so far, or the first line that breaks the form or a rule.
use Rattle.std.specs.Prelude.{◌≡◌, ℕ, ◌+◌, ◌&&◌, Bool, true, false, nat_lt, if◌then◌else◌, List, [], ◌∷◌, length, Option, Some, None, Result, Ok, Err, codes}
use Rattle.std.specs.Str.{bytes_eq}
pub use Rattle.alp_text.specs.Sequence.{◌>>=◌}
use Rattle.text_parts.specs.Fields.{no_fields}
use Rattle.image_map.specs.declared.fault.MapFault.{MapFault}
use Rattle.image_map.specs.declared.fault.MapFault.TheVariants.{BadMap, Memory}
use Rattle.image_map.specs.declared.parts.Place.{Place}
use Rattle.image_map.specs.declared.parts.RingPlaces.{RingPlaces}
use Rattle.image_map.specs.declared.parts.Variable.{Variable}
use Rattle.image_map.specs.MapValue.{MapValue, takes_variable, with_variable, takes_task, with_task, takes_private, with_private}
use Rattle.image_map.specs.Line.{line_fields, start_of, bound_of, words_of, place_of, ring_of, scalar_of, array_of, lone_name}

-- what the n-th line says, and the lines behind it
abbrev pub said : {A : Type 0} → ℕ → Option A → List (List ℕ) → Result (A × List (List ℕ)) MapFault
said n None ls = Err (BadMap n)
said n (Some x) ls = Ok (x, ls)

-- what the first line says, which is the n-th, and the lines behind it
abbrev pub take_line : {A : Type 0} → (List (List ℕ) → Option A) → ℕ → List (List ℕ) → Result (A × List (List ℕ)) MapFault
take_line says n [] = Err (BadMap n)
take_line says n (l ∷ ls) = said n (says (line_fields l)) ls

-- a map, the lines behind it, and the number of the first of them
pub record MapLines : Type 0 where
  pub value : MapValue
  pub rest : List (List ℕ)
  pub line : ℕ

-- what a line says that may be left out, and the lines behind it, with the number of the first of them
pub record OptionalLine (A : Type 0) : Type 0 where
  pub value : Option A
  pub rest : List (List ℕ)
  pub line : ℕ

-- what the n-th line says, where that may be left out: a line that doesn't say it is one of those behind
abbrev pub said_by : {A : Type 0} → ℕ → List ℕ → List (List ℕ) → Option A → OptionalLine A
said_by n l ls None = record { value = None; rest = l ∷ ls; line = n }
said_by n l ls (Some x) = record { value = Some x; rest = ls; line = n + 1 }

-- what lines from the n-th on say first, where that may be left out
abbrev pub take_optional : {A : Type 0} → (List (List ℕ) → Option A) → ℕ → List (List ℕ) → OptionalLine A
take_optional says n [] = record { value = None; rest = []; line = n }
take_optional says n (l ∷ ls) = said_by n l ls (says (line_fields l))

-- what lines from the n-th on say of the copies
abbrev pub take_copies : ℕ → List (List ℕ) → OptionalLine Place
take_copies n ls = take_optional (place_of (codes "copies")) n ls

-- what lines from the n-th on say of the ring
abbrev pub take_ring : ℕ → List (List ℕ) → OptionalLine RingPlaces
take_ring n ls = take_optional ring_of n ls

-- a map with what is said of its copies, and the lines behind
abbrev pub with_copies : MapValue → OptionalLine Place → MapLines
with_copies m c = record { value = record m { copies = c.value }; rest = c.rest; line = c.line }

-- a map with what is said of its ring, and the lines behind
abbrev pub with_ring : MapValue → OptionalLine RingPlaces → MapLines
with_ring m r = record { value = record m { ring = r.value }; rest = r.rest; line = r.line }

-- the first six lines, of which the first is the n-th, and the lines behind them
abbrev pub head : ℕ → List (List ℕ) → Result (MapValue × List (List ℕ)) MapFault
head n ls = take_line start_of n ls >>= λ start. take_line bound_of (n + 1) start.1 >>= λ bound. take_line words_of (n + 2) bound.1 >>= λ words.
    take_line (place_of (codes "list")) (n + 3) words.1 >>= λ list. take_line (place_of (codes "emits")) (n + 4) list.1 >>= λ emits.
    take_line (place_of (codes "versions")) (n + 5) emits.1 >>= λ versions.
    Ok (
      record {
        bound = bound.0;
        words = words.0;
        list = list.0;
        emits = emits.0;
        versions = versions.0;
        copies = None;
        ring = None;
        variables = [];
        tasks = [];
      },
      versions.1,
    )

-- the map with a variable of the n-th line
abbrev pub put_variable : ℕ → MapValue → Option Variable → Result (Bool × MapValue) MapFault
put_variable n m None = Err (BadMap n)
put_variable n m (Some v) = if takes_variable m v then Ok (true, with_variable m v) else Err (BadMap n)

-- the map with a task of the n-th line
abbrev pub put_task : ℕ → MapValue → Option (List ℕ) → Result (Bool × MapValue) MapFault
put_task n m None = Err (BadMap n)
put_task n m (Some name) = if takes_task m name then Ok (true, with_task m name) else Err (BadMap n)

-- the map with a private scalar of the n-th line
abbrev pub put_private : ℕ → MapValue → Option (List ℕ) → Result (Bool × MapValue) MapFault
put_private n m None = Err (BadMap n)
put_private n m (Some name) = if takes_private m name then Ok (true, with_private m name) else Err (BadMap n)

-- the map behind the n-th line, whose fields these are, and whether lines of the map follow
abbrev pub step : ℕ → MapValue → List (List ℕ) → Result (Bool × MapValue) MapFault
step n m [] = Err (BadMap n)
step n m (word ∷ fs) =
    if bytes_eq word (codes "scalar") then put_variable n m (scalar_of fs)
    else (if bytes_eq word (codes "array") then put_variable n m (array_of fs)
    else (if bytes_eq word (codes "task") then put_task n m (lone_name fs)
    else (if bytes_eq word (codes "private") then put_private n m (lone_name fs)
    else (if bytes_eq word (codes "end") && (no_fields fs && nat_lt 0 (length m.tasks)) then Ok (false, m)
    else Err (BadMap n)))))

-- what comes later, or the end
abbrev pub goes_on : {A : Type 0} → Bool → A → A → A
goes_on true later end = later
goes_on false later end = end

-- the lines of variables and tasks up to `end`, from the n-th on, behind a map
unfoldable pub body : ℕ → MapValue → List (List ℕ) → Result MapLines MapFault
body n m [] = Err (BadMap n)
body n m (l ∷ ls) = step n m (line_fields l) >>= λ o. goes_on o.0 (body (n + 1) o.1 ls) (Ok (record { value = o.1; rest = ls; line = n + 1 }))

-- the lines behind those before the variables
abbrev pub rest_lines : MapLines → Result MapLines MapFault
rest_lines t = body t.line t.value t.rest

-- the lines behind those of the copies
abbrev pub ring_lines : MapLines → Result MapLines MapFault
ring_lines t = rest_lines (with_ring t.value (take_ring t.line t.rest))

-- the map that lines from the n-th on begin with
abbrev pub map_lines : ℕ → List (List ℕ) → Result MapLines MapFault
map_lines n ls = head n ls >>= λ h. ring_lines (with_copies h.0 (take_copies (n + 6) h.1))

-- the fault of a call is that of the lines, unless memory was refused
abbrev pub Fails : {A : Type 0} → MapFault → Result A MapFault → Type 0
Fails Memory said = Unit {0}
Fails (BadMap n) said = said ≡ Err (BadMap n)

-- what a call returned, seen by `view`, is what the lines say, unless memory was refused
abbrev pub Gives : {X A : Type 0} → (X → A) → Result X MapFault → Result A MapFault → Type 0
Gives view (Ok x) said = said ≡ Ok (view x)
Gives view (Err e) said = Fails e said
