use Rattle.linked_code.proofs.Rooms.{layouts_have_room}
use Rattle.linked_code.proofs.laws.layouts_have_room.Goals as goal

pub returns : goal.returns
returns c = layouts_have_room
