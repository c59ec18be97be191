use Rattle.xfr_replies.proofs.PageRooms.{room_is}
use Rattle.xfr_replies.proofs.laws.messages_have_room_for_pages.Goals as goal

pub returns : goal.returns
returns c = λ s request limit page soft some. room_is s request limit page soft some
