use Rattle.packet_tests.proofs.meters.again.Goals as goal

pub with_words-requires : goal.with_words-requires
with_words-requires c = (c.args.meter.now, c.words-words.ensures.sound)
