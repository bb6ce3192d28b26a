-- `receiver_answers::message_octets` meets its contract, case by case. Assumes nothing.
use Rattle.image.specs.Numbers.{spell}
use Rattle.receiver_answers.specs.Answers.{message_image}
use Rattle.receiver_answers.proofs.message_octets.Goals as goal

pub returns-in-None : goal.returns-in-None
unfolding message_image
returns-in-None c = rw c.in-None.is

pub returns-in-Some : goal.returns-in-Some
unfolding message_image spell
returns-in-Some c = rw (c.octets-n.ensures.octets, c.in-Some.is)
