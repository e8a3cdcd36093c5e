-- `to_image::ended` meets its contract: the scratch is zeroed, and one law for each answer.
use Rattle.to_image.proofs.AnswerLaws.{ended-long, ended-whole}
use Rattle.to_image.proofs.ended.Goals as goal

pub returns-then-room-words : goal.returns-then-room-words
returns-then-room-words c = record { value = ended-long _ _ c.if-room-words.true; zeroed = c.zero.ensures }

pub returns : goal.returns
returns c = record { value = ended-whole _ _ c.if-room-words.false; zeroed = c.zero.ensures }
