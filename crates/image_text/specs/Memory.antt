-- The bytes of the FRAM that lines give, each at its place.
use Rattle.std.specs.Prelude.{ℕ, ◌+◌, ◌-◌, ◌||◌, Bool, true, false, nat_lt, if◌then◌else◌, List, [], ◌∷◌, length, Option, Some, None, Result, Ok, Err}
use Rattle.std.specs.Prelude.{slice_index_or, slice_set, is_some}
use Rattle.image_map.specs.address_space.Limits.{fram_first, fram_end}
use Rattle.image_text.specs.declared.fault.ImageFault.{ImageFault}
use Rattle.image_text.specs.declared.fault.ImageFault.TheVariants as fault
use Rattle.image_text.specs.Line.{LineMeaning, nothing, address, bytes, quit}

-- the byte at each place of the FRAM, where it is given, and the address at which the next one stands
pub record Placed : Type 0 where
  pub next : Option ℕ
  pub memory : List (Option ℕ)

-- bytes from a place on, unless one of the places is taken
unfoldable pub put_once : ℕ → List ℕ → List (Option ℕ) → Option (List (Option ℕ))
put_once i [] m = Some m
put_once i (b ∷ bs) m = if is_some (slice_index_or m i None) then None else put_once (i + 1) bs (slice_set m i (Some b))

-- where so many bytes from a on are put, or given twice
abbrev pub put_at : ℕ → ℕ → ℕ → Option (List (Option ℕ)) → Result (Bool × Placed) ImageFault
put_at n a len (Some m) = Ok (true, record { next = Some (a + len); memory = m })
put_at n a len None = Err (fault.Twice n)

-- the bytes of the n-th line at the next address
abbrev pub place : ℕ → Placed → List ℕ → Option ℕ → Result (Bool × Placed) ImageFault
place n p bs None = Err (fault.BadLine n)
place n p bs (Some a) = if nat_lt a fram_first || nat_lt fram_end (a + length bs) then Err (fault.OutsideFram n)
    else put_at n a (length bs) (put_once (a - fram_first) bs p.memory)

-- what is placed behind the n-th line, and whether the image goes on
abbrev pub step : ℕ → Placed → Option LineMeaning → Result (Bool × Placed) ImageFault
step n p None = Err (fault.BadLine n)
step n p (Some nothing) = Ok (true, p)
step n p (Some (address a)) = Ok (true, record { next = Some a; memory = p.memory })
step n p (Some (bytes bs)) = place n p bs p.next
step n p (Some quit) = Ok (false, p)
