-- What it is for a bucket that the code keeps to be brought up to a moment.
use Rattle.std.specs.Prelude.{ℕ, ◌*◌, ◌/◌}
use Rattle.credit_book.specs.Bucket.{multiples, after_periods}
use Rattle.port_sched.specs.declared.level.LevelBooks.{LevelBooks}

-- its bucket has earned the credits of each multiple of its period since its time, and its time is the last multiple
abbrev pub level_brought : ℕ → LevelBooks → LevelBooks
level_brought moment l = record l {
  bucket = record l.bucket {
    time = l.bucket.period * (moment / l.bucket.period);
    credits = after_periods l.bucket.size l.bucket.per_period (multiples l.bucket.period l.bucket.time moment) l.bucket.credits;
  };
}
