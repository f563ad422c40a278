-- qos_profile/proofs/laws/texts_have_one_answer/Answers.antt
use Rattle.qos_profile.proofs.Answering.{one-answer}
use Rattle.qos_profile.proofs.laws.texts_have_one_answer.Goals as goal

pub returns : goal.returns
returns c = one-answer
