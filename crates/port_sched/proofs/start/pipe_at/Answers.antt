use Rattle.port_sched.proofs.Starts.{new-queues}
use Rattle.port_sched.proofs.start.pipe_at.Goals as goal

pub returns-clause-sound : goal.returns-clause-sound
returns-clause-sound g c =
    let queues = new-queues g.T.Parcel.packet c.queue_sizes_of.result c.in_ok-new.field-0 c.in_ok-new.ensures c.queue_sizes_of.ensures.count in
    record { level = c.new.ensures.sound; lists = queues.lists; sizes = queues.sizes; short = queues.short }
