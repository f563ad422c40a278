-- The marks of an input's records: their indices rise, so that a mark is found by its index among those of its meter.
use Rattle.std.proofs.Common.{◌≡◌, ◌==◌, ℕ, zero, suc, ◌+◌, ◌<◌, ◌≤◌, Bool, true, false, cond, ◌&&◌, List, [], ◌∷◌, ◌++◌, length, get_or, map, Option, None, Some, Result, Ok, Err, refl, ap, ◌∙◌, arith}
use Rattle.std.specs.List.{All, filter, find, slice_get}
use Rattle.std.specs.Option.{option_map_or}
use Rattle.std.proofs.lemmas.Bool.{and_from, and_right, eq-eqb, ne_eqb}
use Rattle.std.proofs.lemmas.List.Elements.{All-cons, All-head, All-nil, All-tail}
use Rattle.qos_base.specs.declared.reason.Reason.{Reason}
use Rattle.qos_base.specs.declared.packet.Colour.{Colour}
use Rattle.qos_base.specs.declared.packet.Colour.TheVariants.{Green}
use Rattle.qos_pcap.specs.Format.{Record}
use Rattle.profile_plan.specs.Profile.{Plan}
use Rattle.meter_table.specs.declared.mark.Mark.{Mark}
use Rattle.meter_table.specs.declared.mark.MeterLog.{MeterLog}
use Rattle.meter_table.specs.Asked.{Request, request_in}
use Rattle.pkt_receive.specs.declared.classify.Classified.{Classified}
use Rattle.pkt_receive.specs.Classes.{class_of}
use Rattle.pkt_receive.specs.Colours.{colour_among, marks_at}
use Rattle.pkt_receive.specs.Marks.{asked_from, request_of, requests_by}
use Rattle.pkt_receive.specs.Laws.{LogsAgree, MarksAgree}

-- these ask about packets of an input, whose indices rise from this one on
abbrev Rises : ℕ → ℕ → List Request → Type 0
Rises input low [] = Unit {0}
Rises input low (q ∷ qs) = (q.input ≡ input) × (low ≤ q.index) × Rises input (q.index + 1) qs

rises-lower : (input low from : ℕ) (qs : List Request) → low ≤ from → Rises input from qs → Rises input low qs
rises-lower input low from [] h rises = tt
rises-lower input low from (q ∷ qs) h rises = (rises.0, omega (arith, h, rises.1), rises.2)

rises-meter : (origin input index stamp : ℕ) (class : Classified) (meter : Option ℕ) (qs : List Request)
    → Rises input (index + 1) qs
    → Rises input index (option_map_or (λ m. request_of origin input index stamp class m ∷ []) meter [] ++ qs)
rises-meter origin input index stamp class None qs rises = rises-lower input index (index + 1) qs (omega arith) rises
rises-meter origin input index stamp class (Some m) qs rises = (refl, omega arith, rises)

rises-record : (origin input index : ℕ) (r : Record) (class : Result Classified Reason) (qs : List Request)
    → Rises input (index + 1) qs → Rises input index (requests_by origin input index r class ++ qs)
rises-record origin input index r (Err reason) qs rises = rises-lower input index (index + 1) qs (omega arith) rises
rises-record origin input index r (Ok class) qs rises =
    rises-meter origin input index r.stamp class class.place.meter qs rises

asked-rises : (p : Plan) (origin input index : ℕ) (records : List Record)
    → Rises input index (asked_from p origin input index records)
asked-rises p origin input index [] = tt
asked-rises p origin input index (r ∷ rs) =
    let rest = asked-rises p origin input (index + 1) rs in
    rises-record origin input index r (class_of p input r) (asked_from p origin input (index + 1) rs) rest

-- a choice of such marks is such
filter-rises : (keep : Mark → Bool) (input low : ℕ) (marks : List Mark)
    → Rises input low (map request_in marks) → Rises input low (map request_in (filter keep marks))
filter-rises keep input low [] rises = tt
filter-rises keep input low (m ∷ ms) rises =
    let rest = filter-rises keep input (m.index + 1) ms rises.2 in
    elim (keep m) as (λ b. Rises input low (map request_in (cond b (m ∷ filter keep ms) (filter keep ms)))) [
      | true ↦ (rises.0, rises.1, rest)
      | false ↦ rises-lower input low (m.index + 1) (map request_in (filter keep ms)) (omega (arith, rises.1)) rest
    ]

-- the mark of a packet among such marks has the colour that is found
abbrev IsFound : List Mark → Mark → Type 0
IsFound marks mark = colour_among marks mark.input mark.index ≡ mark.colour

found-here : (m : Mark) (ms : List Mark) → IsFound (m ∷ ms) m
found-here m ms =
    let input = eq-eqb m.input m.input refl in
    let index = eq-eqb m.index m.index refl in
    let same = and_from (m.input == m.input) (m.index == m.index) input index in
    let P : Bool → Colour = λ b.
    option_map_or (λ x. x.colour) (cond b (Some m) (find (λ x. x.input == m.input && x.index == m.index) ms)) Green in
    ap P same

found-behind : (m mark : Mark) (ms : List Mark) → m.index < mark.index → IsFound ms mark → IsFound (m ∷ ms) mark
found-behind m mark ms below found =
    let index = ne_eqb m.index mark.index (λ e. omega (arith, e, below)) in
    let other = and_right (m.input == mark.input) (m.index == mark.index) index in
    let P : Bool → Colour = λ b.
    option_map_or (λ x. x.colour)
    (cond b (Some m) (find (λ x. x.input == mark.input && x.index == mark.index) ms)) Green in
    ap P other ∙ found

all-above : (input low : ℕ) (marks : List Mark)
    → Rises input low (map request_in marks) → All (λ mark. low ≤ mark.index) marks
all-above input low [] rises = All-nil (λ mark. low ≤ mark.index)
all-above input low (m ∷ ms) rises =
    let rest = rises-lower input low (m.index + 1) (map request_in ms) (omega (arith, rises.1)) rises.2 in
    All-cons (λ mark. low ≤ mark.index) m ms rises.1 (all-above input low ms rest)

all-found : (input low : ℕ) (marks : List Mark) → Rises input low (map request_in marks) → All (IsFound marks) marks
all-found input low [] rises = All-nil (IsFound [])
all-found input low (m ∷ ms) rises =
    let found = all-found input (m.index + 1) ms rises.2 in
    let above = all-above input (m.index + 1) ms rises.2 in
    All-cons (IsFound (m ∷ ms)) m ms (found-here m ms)
    (λ k d lt. found-behind m (get_or ms k d) ms (omega (arith, above k d lt)) (found k d lt))

-- what holds of the elements that pass a test holds of an element that passes
abbrev IfKept : {X : Type 0} → (X → Bool) → (X → Type 0) → X → Type 0
IfKept keep P x = keep x ≡ true → P x

all-passing : {X : Type 0} (P : X → Type 0) (keep : X → Bool) (xs : List X)
    → All P (filter keep xs) → All (IfKept keep P) xs
all-passing P keep [] holds = All-nil (IfKept keep P)
all-passing P keep (x ∷ xs) holds =
    let kept = filter keep xs in
    elim (keep x) as (λ b. (b ≡ keep x) → All P (cond b (x ∷ kept) kept) → All (IfKept keep P) (x ∷ xs)) [
      | true ↦ λ is all.
          let rest = all-passing P keep xs (All-tail P x kept all) in
          All-cons (IfKept keep P) x xs (λ _. All-head P x kept all) rest
      | false ↦ λ is all. All-cons (IfKept keep P) x xs (λ passes. absurd (cc (is, passes))) (all-passing P keep xs all)
    ] refl holds

pub marks-agree : MarksAgree
marks-agree p origin input records marks asked k d below =
    let mark = get_or marks k d in
    let keep : Mark → Bool = λ m. m.meter == mark.meter in
    let rises = rw (← asked) at (asked-rises p origin input 0 records) in
    let found = all-found input 0 (marks_at mark.meter marks) (filter-rises keep input 0 marks rises) in
    let kept = eq-eqb mark.meter mark.meter refl in
    all-passing (IsFound (marks_at mark.meter marks)) keep marks found k d below kept

-- the marks of the log of a number
marks-in : (logs : List MeterLog) (meter : ℕ) (marks : List Mark) → meter < length logs
    → ((log : MeterLog) → slice_get logs meter ≡ Some log → log.marks ≡ marks)
    → get_or (map (λ log. log.marks) logs) meter [] ≡ marks
marks-in [] meter marks below is = absurd (omega arith)
marks-in (log ∷ logs) zero marks below is = is log refl
marks-in (log ∷ logs) (suc meter) marks below is = marks-in logs meter marks (omega arith) is

pub logs-agree : LogsAgree
logs-agree logs marks agrees same all k d below =
    let mark = get_or marks k d in
    let is = marks-in logs mark.meter (marks_at mark.meter marks) (all k d below) (same mark.meter) in
    ap (λ (held : List Mark). colour_among held mark.input mark.index) is ∙ agrees k d below
