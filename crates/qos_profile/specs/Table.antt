-- The keys of a profile, section by section.
use Rattle.std.specs.Prelude.{ℕ, ◌^◌, ◌-◌, List, [], ◌∷◌, map, codes}
use Rattle.qos_profile.specs.declared.table.Place.{Place}
use Rattle.qos_profile.specs.declared.table.Place.TheVariants.{Nothing, Range, One}
use Rattle.qos_profile.specs.declared.table.Only.{Only}
use Rattle.qos_profile.specs.declared.table.Only.TheVariants as only
use Rattle.qos_profile.specs.declared.table.Shape.{Shape}
use Rattle.qos_profile.specs.declared.table.Shape.TheVariants as shapes
use Rattle.qos_profile.specs.declared.table.Row.{Row}

-- the shape of a value
pub data Form : Type 0 where
  -- one number, from the least to the greatest
  Number : ℕ → ℕ → Form
  -- one of these words
  Word : List (List ℕ) → Form
  -- one of these words, or a number
  NumberOr : ℕ → ℕ → List (List ℕ) → Form
  -- thirteen queue sizes; four weights
  Sizes : Form
  Weights : Form
  -- `a.b.c.d/n` or `any`; `C Q COLOUR`; `fixed C Q COLOUR` or `dscp`
  Address : Form
  Mark : Form
  Code : Form
  -- a meter's name
  Named : Form

-- a key: its words, of which an empty one stands for a number or a range; which slots of which group it gives; in which
-- forms or kinds of the section it is listed; and its value
pub record Key : Type 0 where
  pub words : List (List ℕ)
  pub place : Place
  pub group : ℕ
  pub first : ℕ
  pub last : ℕ
  pub only : Only
  pub form : Form

-- the shape of the program's table, seen as a form
abbrev pub form_view : Shape → Form
form_view (shapes.Number least most) = Number least most
form_view (shapes.Word words) = Word (map (λ w. w.now) words.now)
form_view (shapes.NumberOr least most words) = NumberOr least most (map (λ w. w.now) words.now)
form_view shapes.Sizes = Sizes
form_view shapes.Weights = Weights
form_view shapes.Address = Address
form_view shapes.Mark = Mark
form_view shapes.Code = Code
form_view shapes.Named = Named

-- a row of the program's table, seen as a key
abbrev pub row_view : Row → Key
row_view r =
    record { words = map (λ w. w.now) r.words.now; place = r.place; group = r.group; first = r.first; last = r.last; only = r.only; form = form_view r.shape }

-- a key of fixed words, whose group is its own
abbrev pub key : ℕ → List (List ℕ) → Form → Key
key group words form =
    record { words = words; place = Nothing; group = group; first = 0; last = 0; only = only.All; form = form }

-- the same, listed in one form or kind of the section alone
abbrev pub key_in : Only → ℕ → ℕ → ℕ → List (List ℕ) → Form → Key
key_in which group first last words form =
    record { words = words; place = Nothing; group = group; first = first; last = last; only = which; form = form }

-- a key with a number or range in place of its empty word
abbrev pub key_at : Only → Place → ℕ → List (List ℕ) → Form → Key
key_at which place group words form =
    record { words = words; place = place; group = group; first = 0; last = 0; only = which; form = form }

-- a key of one word
abbrev pub one_word : List ℕ → List (List ℕ)
one_word a = a ∷ []

-- a key of two words
abbrev pub two_words : List ℕ → List ℕ → List (List ℕ)
two_words a b = a ∷ b ∷ []

-- a key of a class or of a range of classes
abbrev pub classes : List ℕ → List (List ℕ)
classes what = codes "tc" ∷ [] ∷ what ∷ []

-- the word `any`
abbrev pub any : List (List ℕ)
any = codes "any" ∷ []

-- `[pool]`
unfoldable pub pool_keys : List Key
pool_keys =
    key 0 (one_word (codes "slots")) (Number 1 1048576)
    ∷ key 1 (two_words (codes "slot") (codes "bytes")) (Number 64 262144)
    ∷ key 2 (two_words (codes "ring") (codes "size")) (Number 1 65536)
    ∷ []

-- `drain` and `drain ms` share the slot 1
unfoldable pub port_keys : List Key
port_keys =
    key 0 (two_words (codes "line") (codes "rate")) (Number 1000000 12500000000)
    ∷ key 1 (one_word (codes "subports")) (Number 1 8)
    ∷ key 2 (two_words (codes "frame") (codes "overhead")) (Number 0 255)
    ∷ key 3 (one_word (codes "mtu")) (Number 60 262144)
    ∷ key 4 (one_word (codes "burst")) (Number 1 256)
    ∷ key 5 (one_word (codes "quantum")) (Number 1 1000000000)
    ∷ key_in only.All 6 0 1 (one_word (codes "drain")) (Number 0 (2 ^ 40))
    ∷ key_in only.All 6 1 2 (two_words (codes "drain") (codes "ms")) (Number 0 100000)
    ∷ []

-- form 0 is whole, form 1 is by rates; the range of `tc period` is tested after all lines
unfoldable pub subport_kind_keys : List Key
subport_kind_keys =
    key_in (only.In 0) 0 0 0 (two_words (codes "tb") (codes "credits")) (Number 1 (2 ^ 40))
    ∷ key_in (only.In 1) 0 0 0 (two_words (codes "tb") (codes "rate")) (Number 1 12500000000)
    ∷ key_in (only.In 0) 1 0 0 (two_words (codes "tb") (codes "period")) (Number 1 (2 ^ 40))
    ∷ key 2 (two_words (codes "tb") (codes "size")) (Number 1 (2 ^ 40))
    ∷ key_at (only.In 0) (Range 12) 3 (classes (codes "credits")) (Number 0 (2 ^ 40))
    ∷ key_at (only.In 1) (Range 12) 3 (classes (codes "rate")) (Number 0 12500000000)
    ∷ key 4 (two_words (codes "tc") (codes "period")) (Number 0 (2 ^ 64 - 1))
    ∷ []

-- `[pipe profile N]`: the keys of a shaping, and two more
unfoldable pub pipe_kind_keys : List Key
pipe_kind_keys =
    key_in (only.In 0) 0 0 0 (two_words (codes "tb") (codes "credits")) (Number 1 (2 ^ 40))
    ∷ key_in (only.In 1) 0 0 0 (two_words (codes "tb") (codes "rate")) (Number 1 12500000000)
    ∷ key_in (only.In 0) 1 0 0 (two_words (codes "tb") (codes "period")) (Number 1 (2 ^ 40))
    ∷ key 2 (two_words (codes "tb") (codes "size")) (Number 1 (2 ^ 40))
    ∷ key_at (only.In 0) (Range 12) 3 (classes (codes "credits")) (Number 0 (2 ^ 40))
    ∷ key_at (only.In 1) (Range 12) 3 (classes (codes "rate")) (Number 0 12500000000)
    ∷ key 4 (two_words (codes "tc") (codes "period")) (Number 0 (2 ^ 64 - 1))
    ∷ key 5 (codes "tc" ∷ codes "12" ∷ codes "wrr" ∷ codes "weights" ∷ []) Weights
    ∷ key 6 (codes "tc" ∷ codes "12" ∷ codes "oversubscription" ∷ codes "weight" ∷ []) (Number 1 255)
    ∷ []

-- `[subport P S]`
unfoldable pub subport_keys : List Key
subport_keys =
    key 0 (one_word (codes "profile")) (Number 0 (2 ^ 64 - 1))
    ∷ key 1 (one_word (codes "pipes")) (Number 1 4096)
    ∷ key 2 (two_words (codes "queue") (codes "sizes")) Sizes
    ∷ key_at only.All (Range (2 ^ 64 - 1)) 3 (two_words (codes "pipe") []) (Number 0 (2 ^ 64 - 1))
    ∷ key 4 (one_word (codes "oversubscription")) (Word (two_words (codes "no") (codes "yes")))
    ∷ []

-- `[codes dscp]`
unfoldable pub code_keys : List Key
code_keys = key_at only.All (One 63) 0 (one_word []) Mark ∷ []

-- kind 0 is srtcm, 1 trtcm, 2 rfc4115; a rate takes the slots of its bytes and its period
unfoldable pub meter_keys : List Key
meter_keys =
    key_in only.Told 0 0 0 (one_word (codes "kind")) (Word (codes "srtcm" ∷ codes "trtcm" ∷ codes "rfc4115" ∷ []))
    ∷ key 1 (one_word (codes "mode")) (Word (two_words (codes "blind") (codes "aware")))
    ∷ key_in only.All 2 0 0 (two_words (codes "cir") (codes "bytes")) (Number 0 (2 ^ 40))
    ∷ key_in only.All 2 2 2 (two_words (codes "cir") (codes "period")) (Number 1 (2 ^ 40))
    ∷ key_in only.All 2 0 2 (two_words (codes "cir") (codes "rate")) (Number 0 12500000000)
    ∷ key_in (only.In 1) 3 0 0 (two_words (codes "pir") (codes "bytes")) (Number 0 (2 ^ 40))
    ∷ key_in (only.In 1) 3 2 2 (two_words (codes "pir") (codes "period")) (Number 1 (2 ^ 40))
    ∷ key_in (only.In 1) 3 0 2 (two_words (codes "pir") (codes "rate")) (Number 0 12500000000)
    ∷ key_in (only.In 2) 3 0 0 (two_words (codes "eir") (codes "bytes")) (Number 0 (2 ^ 40))
    ∷ key_in (only.In 2) 3 2 2 (two_words (codes "eir") (codes "period")) (Number 1 (2 ^ 40))
    ∷ key_in (only.In 2) 3 0 2 (two_words (codes "eir") (codes "rate")) (Number 0 12500000000)
    ∷ key 4 (one_word (codes "cbs")) (Number 0 (2 ^ 40))
    ∷ key_in (only.NotIn 1) 5 0 0 (one_word (codes "ebs")) (Number 0 (2 ^ 40))
    ∷ key_in (only.In 1) 5 0 0 (one_word (codes "pbs")) (Number 0 (2 ^ 40))
    ∷ key 6 (one_word (codes "green")) (Word (two_words (codes "pass") (codes "drop")))
    ∷ key 7 (one_word (codes "yellow")) (Word (two_words (codes "pass") (codes "drop")))
    ∷ key 8 (one_word (codes "red")) (Word (two_words (codes "pass") (codes "drop")))
    ∷ []

-- `[rule N]`
unfoldable pub rule_keys : List Key
rule_keys =
    key 0 (one_word (codes "input")) (NumberOr 0 15 any)
    ∷ key 1 (one_word (codes "vlan")) (NumberOr 0 4095 (two_words (codes "any") (codes "none")))
    ∷ key 2 (one_word (codes "proto")) (Word (codes "ipv4" ∷ codes "ipv6" ∷ codes "mpls" ∷ codes "other" ∷ codes "any" ∷ []))
    ∷ key 3 (one_word (codes "src")) Address
    ∷ key 4 (one_word (codes "dst")) Address
    ∷ key 5 (one_word (codes "port")) (Number 0 (2 ^ 64 - 1))
    ∷ key 6 (one_word (codes "subport")) (Number 0 (2 ^ 64 - 1))
    ∷ key 7 (one_word (codes "pipe")) (NumberOr 0 (2 ^ 64 - 1) (two_words (codes "vlan") (codes "host")))
    ∷ key 8 (one_word (codes "code")) Code
    ∷ key 9 (one_word (codes "meter")) Named
    ∷ []
