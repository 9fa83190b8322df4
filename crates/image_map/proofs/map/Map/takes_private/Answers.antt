use Rattle.image_map.specs.MapView.{map_of}
use Rattle.image_map.proofs.Last.{last_is}
use Rattle.image_map.proofs.map.Map.takes_private.Goals as goal

pub returns-in-len1-up : goal.returns-in-len1-up
returns-in-len1-up c =
    rw (c.are_scalars.ensures, c.privates.ensures, c.as_bytes.ensures.value, c.as_slice-in-len1-up.ensures.value)
    (last_is (map_of c.self.inside) c.args.self.now c.as_slice.result.now c.last-item.result c.args.name.now c.in-len1-up.len_at_least c.last-item.is
    c.as_slice.ensures.value c.self.view_is)
