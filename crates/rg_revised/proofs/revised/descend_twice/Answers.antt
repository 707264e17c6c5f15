use Rattle.rg_revised.proofs.Ended.{long_room_in}
use Rattle.rg_revised.proofs.revised.descend_twice.Goals as goal

pub descend_from_start-requires-in-Large-clause-room : goal.descend_from_start-requires-in-Large-clause-room
descend_from_start-requires-in-Large-clause-room c = long_room_in _ _ _ _ c.requires.room
