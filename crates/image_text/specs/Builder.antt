-- What a builder of images has placed.
use Rattle.image_text.specs.declared.builder.ImageBuilder.{ImageBuilder}
use Rattle.image_text.specs.Memory.{Placed}

-- the bytes so far, and where the next one stands
abbrev pub placed : ImageBuilder → Placed
placed b = record { next = b.next; memory = b.memory.items }
