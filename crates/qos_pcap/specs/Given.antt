-- What a capture that is open has given, and what it still gives.
use Rattle.std.specs.Prelude.{◌≡◌, ℕ, ◌+◌, ◌-◌, ◌^◌, ◌<◌, ◌≤◌, List, [], ◌∷◌, length, take, drop, Option, None, Some}
use Rattle.std.specs.Option.{MatchOption}
use Rattle.qos_io.specs.declared.source.Source.{Ghosts}
use Rattle.qos_pcap.specs.declared.capture.Capture.{Capture}
use Rattle.qos_pcap.specs.declared.capture.Place.{Place}
use Rattle.qos_pcap.specs.declared.capture.Place.TheVariants.{Record as AtRecord, Body as AtBody, Stopped as AtStop}
use Rattle.qos_pcap.specs.declared.fault.PcapFault.TheVariants.{CutRecord}
use Rattle.qos_pcap.specs.declared.fault.Stop.{Stop}
use Rattle.qos_pcap.specs.declared.fault.Stop.TheVariants.{Fault}
use Rattle.qos_pcap.specs.declared.form.Form.{Form}
use Rattle.qos_pcap.specs.declared.head.Head.{Head}
use Rattle.qos_pcap.specs.declared.limits.TheConstants.{MAX_CAP}
use Rattle.qos_pcap.specs.First.{stamp_at}
use Rattle.qos_pcap.specs.Format.{Record}
use Rattle.qos_pcap.specs.Heads.{recorded}
use Rattle.qos_pcap.specs.Reads.{ReadsFrom}

-- With the body of this head next: the record is whole, and the others follow from offset `at` on; or the body is cut, and it is no record.
abbrev pub GivesBody : Form → Head → ℕ → ℕ → List ℕ → List Record → Stop → Type 0
GivesBody form head at left bytes [] stop = (length bytes < head.cap) × (stop ≡ Fault (CutRecord head.offset))
GivesBody form head at left bytes (r ∷ rs) stop =
    (head.cap ≤ length bytes) × (r ≡ recorded head (take head.cap bytes))
    × ReadsFrom form at left (drop head.cap bytes) rs stop

-- what is given from a place on, where the next record begins at offset `at` and `left` more may be given
abbrev pub GivesAt : Form → Place → ℕ → ℕ → List ℕ → List Record → Stop → Type 0
GivesAt form AtRecord at left bytes records stop = ReadsFrom form at left bytes records stop
GivesAt form (AtBody head) at left bytes records stop = GivesBody form head at left bytes records stop
GivesAt form AtStop at left bytes records stop = ⊥

-- the stamp of the head that is next at a place, or none
abbrev pub next_stamp : Form → Place → ℕ → List ℕ → Option ℕ
next_stamp form AtRecord left bytes = stamp_at form left bytes
next_stamp form (AtBody head) left bytes = None
next_stamp form AtStop left bytes = None

-- the head whose body is next
abbrev pub untaken_at : Place → Option Head
untaken_at AtRecord = None
untaken_at (AtBody head) = Some head
untaken_at AtStop = None

-- nothing more is given
abbrev pub IsStop : Place → Type 0
IsStop AtRecord = ⊥
IsStop (AtBody head) = ⊥
IsStop AtStop = Unit {0}

module _ {S : Type 0} {G : Ghosts S} where
  -- what it reads from
  abbrev pub source_of : Capture S G → S
  source_of c = c.source

  -- the order and the unit in which it is read
  abbrev pub form_of : Capture S G → Form
  form_of c = c.form

  -- how many heads it has given
  abbrev pub given : Capture S G → ℕ
  given c = c.given

  -- how many it may give in all
  abbrev pub limit_of : Capture S G → ℕ
  limit_of c = c.limit

  -- the byte at which the next record begins
  abbrev pub next_offset : Capture S G → ℕ
  next_offset c = c.offset

  -- the last head, while its body is neither taken nor skipped
  abbrev pub untaken : Capture S G → Option Head
  untaken c = untaken_at c.place

  -- it has come to its end or to a fault, and gives nothing more
  abbrev pub IsStopped : Capture S G → Type 0
  IsStopped c = IsStop c.place

  -- where its source tells its bytes: what it still gives is these records, one after another, and then this stop
  abbrev pub StillGives : (S → Option (List ℕ)) → Capture S G → List Record → Stop → Type 0
  StillGives remaining c records stop =
      MatchOption (remaining c.source) ⊥ (λ bytes. GivesAt c.form c.place c.offset (c.limit - c.given) bytes records stop)

  -- where its source tells its bytes: the next head has this stamp, or there is no next head
  abbrev pub NextStamp : (S → Option (List ℕ)) → Capture S G → Option ℕ → Type 0
  NextStamp remaining c stamp =
      MatchOption (remaining c.source) ⊥ (λ bytes. stamp ≡ next_stamp c.form c.place (c.limit - c.given) bytes)

  -- this head was given: it is the one after those before it, and its body is next
  pub record HasGiven (old new : Capture S G) (head : Head) : Type 0 where
    pub next : untaken new ≡ Some head
    pub index : head.index ≡ given old
    pub counted : given new ≡ given old + 1
    pub within_limit : given old < limit_of old
    pub count_fits : given new < 2 ^ 32
    pub offset : head.offset ≡ next_offset old
    pub offset_after : next_offset new ≡ next_offset old + 16 + head.cap
    pub cap_limit : head.cap ≤ MAX_CAP
    pub cap_within_wire : head.cap ≤ head.wire

  -- the body of the last head is behind it, and the next record is in front
  pub record HasPassedBody (old new : Capture S G) : Type 0 where
    pub none_untaken : untaken new ≡ None
    pub goes_on : IsStopped new → ⊥
    pub given_before : given new ≡ given old
    pub offset : next_offset new ≡ next_offset old

  -- it has come to its end or to a fault, and has given no head more
  pub record HasStopped (old new : Capture S G) : Type 0 where
    pub stopped : IsStopped new
    pub none_untaken : untaken new ≡ None
    pub given_before : given new ≡ given old

  -- it stands at this place, and nothing else has changed
  pub record ChangesPlace (old new : Capture S G) (to : Place) : Type 0 where
    pub place : new.place ≡ to
    pub source : source_of new ≡ source_of old
    pub form : form_of new ≡ form_of old
    pub limit : limit_of new ≡ limit_of old
    pub given_before : given new ≡ given old
    pub offset : next_offset new ≡ next_offset old
