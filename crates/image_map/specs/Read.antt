-- What a call read.
use Rattle.text_parts.specs.Lines.{lines}
use Rattle.image_map.specs.declared.parse.MapText.{MapText}
use Rattle.image_map.specs.Reading.{MapLines}

-- the map, and the lines behind it
abbrev pub read_text : MapText → MapLines
read_text t = record { value = t.map; rest = lines t.rest.now; line = t.line }
