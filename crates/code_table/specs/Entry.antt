-- Which entries there are, and their queues.
use Rattle.std.specs.Prelude.{◌≡◌, ◌==◌, ℕ, ◌+◌, ◌<◌, ◌≤◌, if◌then◌else◌}
use Rattle.code_table.specs.declared.entry.Entry.{Entry}

-- the class is at most 12, and the queue is 0 below class 12 and at most 3 at class 12
abbrev pub IsValid : Entry → Type 0
IsValid e = (e.class ≤ 12) × (e.class < 12 → e.queue ≡ 0) × (e.class ≡ 12 → e.queue ≤ 3)

-- the queue's number in a pipe: 12 and the queue at class 12, else the class
abbrev pub queue_number_of : Entry → ℕ
queue_number_of e = if e.class == 12 then 12 + e.queue else e.class
