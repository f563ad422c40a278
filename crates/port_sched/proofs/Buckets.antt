-- A bucket that is brought up to date when it is used is the one that was stepped all the time.
use Rattle.std.proofs.Common.{◌≡◌, ◌≤◌, ℕ, ◌-◌, ◌/◌, List, [], ◌∷◌, length, map, refl, sym, ap, ◌∙◌, subst, arith}
use Rattle.std.specs.List.{All}
use Rattle.std.proofs.lemmas.List.Elements.{All-head, All-tail}
use Rattle.qos_base.specs.declared.packet.Pkt.{Pkt}
use Rattle.credit_book.specs.Bucket.{multiples, after_periods}
use Rattle.credit_book.specs.Laws.{PeriodsAddUp, MultiplesAddUp}
use Rattle.port_sched.specs.declared.level.LevelBooks.{LevelBooks}
use Rattle.port_sched.specs.declared.pipe.PipeBooks.{PipeBooks}
use Rattle.port_sched.specs.declared.subport.SubportBooks.{SubportBooks}
use Rattle.port_sched.specs.Level.{Level, level_tick}
use Rattle.port_sched.specs.Port.{pipe_tick, subport_tick}
use Rattle.port_sched.specs.Books.{level_of, level_up_to, pipe_of, pipe_up_to, subport_up_to, IsLevelBooks, IsBrought, IsPipeBooks, IsSubportBooks}
use Rattle.port_sched.specs.Brought.{level_brought}
use Rattle.port_sched.specs.Sound.{IsPortSched}
use Rattle.port_sched.proofs.Stepped.{multiples-from_whole}

none-passed : (size per_period credits : ℕ) → after_periods size per_period 0 credits ≡ credits
unfolding after_periods
none-passed size per_period credits = refl

-- the level after so many of its bucket's periods
abbrev after : LevelBooks → ℕ → Level
after l periods = record (level_of l) { credits = after_periods l.bucket.size l.bucket.per_period periods l.bucket.credits }

no-periods : (l : LevelBooks) (periods : ℕ) → periods ≡ 0 → after l periods ≡ level_of l
no-periods l periods none =
    ap (after l) none ∙ ap (λ n. let same : Level = record (level_of l) { credits = n } in same)
    (none-passed l.bucket.size l.bucket.per_period l.bucket.credits)

module _ (moment : ℕ) (l : LevelBooks) where
  -- nothing is to be added to what is brought
  pub up_to-brought : IsBrought moment l → level_up_to moment l ≡ level_of l
  up_to-brought sound =
      let same : moment / l.bucket.period - moment / l.bucket.period ≡ 0 = omega arith in
      no-periods l (multiples l.bucket.period l.bucket.time moment)
      (ap (λ t. multiples l.bucket.period t moment) sound.brought ∙ multiples-from_whole l.bucket.period moment moment sound.some_period ∙ same)

  -- what is brought up to the moment counts as before
  pub up_to-bring : 1 ≤ l.bucket.period → level_up_to moment (level_brought moment l) ≡ level_up_to moment l
  up_to-bring some =
      let brought = level_brought moment l in
      let same : moment / l.bucket.period - moment / l.bucket.period ≡ 0 = omega arith in
      no-periods brought (multiples l.bucket.period brought.bucket.time moment) (multiples-from_whole l.bucket.period moment moment some ∙ same)

-- what was brought is brought
pub IsBrought-bring : (moment : ℕ) (l brought : LevelBooks) → 1 ≤ l.bucket.period → brought ≡ level_brought moment l → IsBrought moment brought
IsBrought-bring moment l brought some is = subst (IsBrought moment) (sym is) (record { some_period = some; brought = refl })

-- a bucket at time 0 is at its start
pub up_to-start : (l : LevelBooks) → l.bucket.time ≡ 0 → level_up_to 0 l ≡ level_of l
up_to-start l start =
    let same : 0 / l.bucket.period - 0 / l.bucket.period ≡ 0 = omega arith in
    no-periods l (multiples l.bucket.period l.bucket.time 0) (ap (λ t. multiples l.bucket.period t 0) start ∙ same)

module _ {T : Type 0} (packet : T → Pkt) (ticked moment : ℕ) (later : ticked ≤ moment) where
  module _ (periods : PeriodsAddUp) (multiples_too : MultiplesAddUp) where
    level-later : (l : LevelBooks) → IsLevelBooks ticked l → level_tick ticked moment (level_up_to ticked l) ≡ level_up_to moment l
    level-later l sound =
        let b = l.bucket in
        ap (λ n. let with : Level = record (level_of l) { credits = n } in with)
        (periods b.size b.per_period (multiples b.period b.time ticked) (multiples b.period ticked moment) b.credits)
        ∙ ap (after l) (multiples_too b.period b.time ticked moment sound.not_ahead later)

    pipes-later : (ps : List (PipeBooks T)) → All (IsPipeBooks packet ticked) ps
        → map (pipe_tick ticked moment) (map (pipe_up_to ticked) ps) ≡ map (pipe_up_to moment) ps
    pipes-later [] sound = refl
    pipes-later (p ∷ ps) sound =
        let first = All-head (IsPipeBooks packet ticked) p ps sound in
        let level = level-later p.level first.level in
        let rest = pipes-later ps (All-tail (IsPipeBooks packet ticked) p ps sound) in
        λ i. record (pipe_of p) { level = level i } ∷ rest i

    subport-later : (s : SubportBooks T) → IsSubportBooks packet ticked s
        → subport_tick ticked moment (subport_up_to ticked s) ≡ subport_up_to moment s
    subport-later s sound =
        let level = level-later s.level sound.level in
        let pipes = pipes-later s.pipes.items sound.pipes in
        λ i. record (subport_up_to moment s) { level = level i; pipes = pipes i }

    pub subports-later : (ss : List (SubportBooks T)) → All (IsSubportBooks packet ticked) ss
        → map (subport_tick ticked moment) (map (subport_up_to ticked) ss) ≡ map (subport_up_to moment) ss
    subports-later [] sound = refl
    subports-later (s ∷ ss) sound =
        let one = subport-later s (All-head (IsSubportBooks packet ticked) s ss sound) in
        let rest = subports-later ss (All-tail (IsSubportBooks packet ticked) s ss sound) in
        λ i. one i ∷ rest i

-- a scheduler with other subports and at another time
pub IsPortSched-with : {T : Type 0} (packet : T → Pkt) (ticked : ℕ) (bytes longest time place later : ℕ) (xs ys : List (SubportBooks T))
    → IsPortSched packet bytes longest time ticked place xs → length ys ≡ length xs → ticked ≤ later
    → All (IsSubportBooks packet ticked) ys → IsPortSched packet bytes longest later ticked place ys
IsPortSched-with packet ticked bytes longest time place later xs ys sound same not_past all =
    let within = sound.cursor in
    let few = sound.few in
    record { overhead = sound.overhead; mtu = sound.mtu; not_ahead = not_past; cursor = omega arith; few = omega arith; each = all }
