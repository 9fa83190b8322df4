-- The fault of a map as one of its image.
use Rattle.image_map.specs.declared.fault.MapFault.{MapFault}
use Rattle.image_map.specs.declared.fault.MapFault.TheVariants as map_fault
use Rattle.image_text.specs.declared.fault.ImageFault.{ImageFault}
use Rattle.image_text.specs.declared.fault.ImageFault.TheVariants as fault

-- a fault of a map, as a fault of its image's text
abbrev pub image_fault : MapFault → ImageFault
image_fault (map_fault.BadMap n) = fault.BadMap n
image_fault map_fault.Memory = fault.Memory
