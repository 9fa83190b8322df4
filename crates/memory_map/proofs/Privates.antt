-- Where the words of a private scalar and their copies stand.
use Rattle.memory_map.specs.declared.place.Region.{Region}
use Rattle.memory_map.specs.declared.place.VariablePlace.{VariablePlace}
use Rattle.memory_map.specs.declared.place.VariablePlace.TheVariants.{Scalar}
use Rattle.memory_map.specs.declared.place.PrivateScalar.{PrivateScalar}
use Rattle.std.specs.Prelude.{map}
use Rattle.memory_map.specs.MemoryMap.{MemoryMap}
use Rattle.memory_map.specs.Places.{end_of, scalar_words, home_region, copy_regions, HasItsPlace, IsLaidOut}
use Rattle.memory_map.proofs.InOrder.{Within, in_order_within}
use Rattle.memory_map.proofs.Apart.{mapped, among}
use Rattle.memory_map.proofs.InRegions.{alone}

-- its words among those of all variables
abbrev pub private_home_region : PrivateScalar → Region
private_home_region s = record { address = s.home; words = scalar_words s.width }

-- their copies among all copies
abbrev pub private_copy_region : PrivateScalar → Region
private_copy_region s = record { address = s.copy; words = scalar_words s.width }

pub private_home : (m : MemoryMap) → IsLaidOut m → (s : PrivateScalar) → HasItsPlace m.variables s
    → Within m.homes.address (private_home_region s) (end_of m.homes)
private_home m h s p =
    let place : VariablePlace = Scalar s.home s.copy s.width in
    in_order_within m.homes.address (map home_region m.variables) (end_of m.homes) s.number (private_home_region s) h.homes
    (mapped home_region m.variables s.number place p.place)

pub private_copy : (m : MemoryMap) → IsLaidOut m → (s : PrivateScalar) → HasItsPlace m.variables s
    → Within m.copies.address (private_copy_region s) (end_of m.copies)
private_copy m h s p =
    let place : VariablePlace = Scalar s.home s.copy s.width in
    among copy_regions m.copies.address m.variables (end_of m.copies) s.number place (private_copy_region s) h.copies p.place (alone (private_copy_region s))
