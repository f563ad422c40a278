-- What an arrival does to what waits, to a port's setting, and to its bounds.
use Rattle.std.proofs.Common.{◌≡◌, ◌<◌, ◌≤◌, ℕ, zero, suc, ◌+◌, Bool, false, eqb, leb, ltb, ◌&&◌, List, [], ◌∷◌, ◌++◌, Option, Some, None, length, map, refl, sym, ap, ◌∙◌, subst, set, get_or, length-set, length-append, arith}
use Rattle.std.specs.Prelude.{IsTrue, is_some, option_and_then}
use Rattle.std.specs.List.{slice_get, flat_map, All, Contains}
use Rattle.std.specs.List.Sorted.{IsPermutation}
use Rattle.std.proofs.lemmas.Bool.Decides.{nat_tests}
use Rattle.std.proofs.lemmas.Option.{get_or_from_slice_get, slice_get_within}
use Rattle.std.proofs.lemmas.List.Elements.{All-nil, All-cons, All-head, All-tail, All-get_or, All-append, All-contains_itself}
use Rattle.std.proofs.lemmas.List.Sorted.{IsPermutation-trans, IsPermutation-append_left, IsPermutation-append_right, IsPermutation-to_front, IsPermutation-middle}
use Rattle.qos_base.specs.declared.packet.Pkt.{Pkt}
use Rattle.queue_store.specs.Queues.{list_of, size_of}
use Rattle.port_sched.specs.Pipe.{Pipe}
use Rattle.port_sched.specs.Subport.{Subport}
use Rattle.port_sched.specs.Port.{Port, at, left_in, left_in_subport, left_of, pipe_of, in_subport, with_arrival, has_place, is_full_at, is_full, after_arrival}
use Rattle.port_sched.specs.PortLaws.{AllWaiting, ArrivalJoins}
use Rattle.port_sched.specs.Settings.{pipe_setting, subport_setting, setting_of, AreTokensWithin, HasTokensWithin, IsPipeWithin, IsSubportWithin, IsPortWithin, ArrivalKeeps}
use Rattle.port_sched.proofs.Permuted.{joined_of}
use Rattle.port_sched.proofs.Counted.{All-parts}
use Rattle.port_sched.proofs.Settled.{list-setting}
use Rattle.port_sched.proofs.Within.{set-bound}

-- one more item in the part behind the first
behind : {X : Type 0} (t : X) (xs ys zs : List X) → IsPermutation ys (t ∷ zs) → IsPermutation (xs ++ ys) (t ∷ (xs ++ zs))
behind t xs ys zs more = IsPermutation-trans (xs ++ ys) (xs ++ t ∷ zs) (t ∷ (xs ++ zs)) (IsPermutation-append_right xs ys (t ∷ zs) more) (IsPermutation-middle xs t zs)

module _ {A X : Type 0} (f : A → List X) (step : A → A) where
  -- the part at an index gets one more
  at-joined : (t : X) (parts : List A) (k : ℕ) (old : A) → slice_get parts k ≡ Some old → IsPermutation (f (step old)) (t ∷ f old)
      → IsPermutation (flat_map f (at k step parts)) (t ∷ flat_map f parts)
  at-joined t [] k old there more = let within = slice_get_within [] k old there in absurd (omega arith)
  at-joined t (part ∷ parts) zero old there more =
      let same : old ≡ part = cc in
      IsPermutation-append_left (flat_map f parts) (f (step part)) (t ∷ f part) (subst (λ x. IsPermutation (f (step x)) (t ∷ f x)) same more)
  at-joined t (part ∷ parts) (suc k) old there more = behind t (f part) (flat_map f (at k step parts)) (flat_map f parts) (at-joined t parts k old there more)

  at-waiting : (P : X → Type 0) → ((x : A) → All P (f x) → All P (f (step x))) → (parts : List A) (k : ℕ) → All P (flat_map f parts)
      → All P (flat_map f (at k step parts))
  at-waiting P one [] k all = all
  at-waiting P one (part ∷ parts) zero all =
      let both = All-parts P (f part) (flat_map f parts) all in
      All-append P (f (step part)) (flat_map f parts) (one part both.0) both.1
  at-waiting P one (part ∷ parts) (suc k) all =
      let both = All-parts P (f part) (flat_map f parts) all in
      All-append P (f part) (flat_map f (at k step parts)) both.0 (at-waiting P one parts k both.1)

module _ {A : Type 0} (step : A → A) where
  at-same : {B : Type 0} (f : A → B) → ((x : A) → f (step x) ≡ f x) → (k : ℕ) (parts : List A) → map f (at k step parts) ≡ map f parts
  at-same f same k [] = refl
  at-same f same zero (part ∷ parts) = ap (λ y. y ∷ map f parts) (same part)
  at-same f same (suc k) (part ∷ parts) = ap (λ ys. f part ∷ ys) (at-same f same k parts)

  length-at : (k : ℕ) (parts : List A) → length (at k step parts) ≡ length parts
  length-at k [] = refl
  length-at zero (part ∷ parts) = refl
  length-at (suc k) (part ∷ parts) = ap suc (length-at k parts)

  at-all : (P : A → Type 0) (parts : List A) (k : ℕ) → ((x : A) → slice_get parts k ≡ Some x → P x → P (step x)) → All P parts
      → All P (at k step parts)
  at-all P [] k one all = all
  at-all P (part ∷ parts) zero one all = All-cons P (step part) parts (one part refl (All-head P part parts all)) (All-tail P part parts all)
  at-all P (part ∷ parts) (suc k) one all = All-cons P part (at k step parts) (All-head P part parts all) (at-all P parts k one (All-tail P part parts all))

not-full : (n size : ℕ) → n ≤ size → eqb n size ≡ false → n + 1 ≤ size
not-full n size within room = grind (arith, nat_tests)

none-there : (fits fits_too : Bool) → IsTrue (fits && fits_too && false) → ⊥
none-there fits fits_too place = grind (arith, nat_tests)

queue-there : (wire mtu queue : ℕ) (found : Bool) → IsTrue (leb wire mtu && ltb queue 16 && found) → queue < 16
queue-there wire mtu queue found place = grind (arith, nat_tests)

module _ {T : Type 0} where
  queue-joined : (t : T) (lists : List (List T)) (queue : ℕ) → queue < length lists
      → IsPermutation (joined_of (set lists queue (get_or lists queue [] ++ t ∷ []))) (t ∷ joined_of lists)
  queue-joined t [] queue within = absurd (omega arith)
  queue-joined t (ts ∷ lists) zero within = IsPermutation-append_left (joined_of lists) (ts ++ t ∷ []) (t ∷ ts) (IsPermutation-to_front ts t)
  queue-joined t (ts ∷ lists) (suc queue) within =
      behind t ts (joined_of (set lists queue (get_or lists queue [] ++ t ∷ []))) (joined_of lists) (queue-joined t lists queue (omega arith))

  queue-waiting : (P : T → Type 0) (t : T) → P t → (lists : List (List T)) (queue : ℕ) → All P (joined_of lists)
      → All P (joined_of (set lists queue (get_or lists queue [] ++ t ∷ [])))
  queue-waiting P t own [] queue all = all
  queue-waiting P t own (ts ∷ lists) zero all =
      let both = All-parts P ts (joined_of lists) all in
      All-append P (ts ++ t ∷ []) (joined_of lists) (All-append P ts (t ∷ []) both.0 (All-cons P t [] own (All-nil P))) both.1
  queue-waiting P t own (ts ∷ lists) (suc queue) all =
      let both = All-parts P ts (joined_of lists) all in
      All-append P ts (joined_of (set lists queue (get_or lists queue [] ++ t ∷ []))) both.0 (queue-waiting P t own lists queue both.1)

  -- a place is a pipe that is there, and one of its sixteen queues
  record IsThere (s : Port T) (subport pipe : ℕ) : Type 0 where
    sub : Subport T
    own : Pipe T
    subport_is : slice_get s.subports subport ≡ Some sub
    pipe_is : slice_get sub.pipes pipe ≡ Some own

  there-under : (s : Port T) (subport pipe : ℕ) (found : Option (Subport T)) → slice_get s.subports subport ≡ found → (own : Pipe T)
      → option_and_then (λ (sub : Subport T). slice_get sub.pipes pipe) found ≡ Some own → IsThere s subport pipe
  there-under s subport pipe (Some sub) is own own-is = record { sub = sub; own = own; subport_is = is; pipe_is = own-is }
  there-under s subport pipe None is own own-is = absurd (cc)

  there : (s : Port T) (subport pipe : ℕ) (fits fits_too : Bool) (found : Option (Pipe T)) → pipe_of s subport pipe ≡ found
      → IsTrue (fits && fits_too && is_some found) → IsThere s subport pipe
  there s subport pipe fits fits_too (Some own) is place = there-under s subport pipe (slice_get s.subports subport) refl own is
  there s subport pipe fits fits_too None is place = absurd (none-there fits fits_too place)

module _ {T : Type 0} (packet : T → Pkt) (t : T) (s : Port T) where
  abbrev its : Pkt
  its = packet t

  -- its subport is one of the port's
  pub subport-within : IsTrue (has_place its s) → its.subport < length s.subports
  subport-within place =
      let at_place = there s its.subport its.pipe (leb its.wire s.mtu) (ltb its.queue 16) (pipe_of s its.subport its.pipe) refl place in
      slice_get_within s.subports its.subport at_place.sub at_place.subport_is

  arrival-joined : IsPortWithin s → IsTrue (has_place its s) → IsPermutation (left_of (after_arrival packet t s)) (t ∷ left_of s)
  arrival-joined within place =
      let at_place = there s its.subport its.pipe (leb its.wire s.mtu) (ltb its.queue 16) (pipe_of s its.subport its.pipe) refl place in
      let sub = at_place.sub in
      let own = at_place.own in
      let subport_within : IsSubportWithin sub = subst IsSubportWithin (get_or_from_slice_get s.subports its.subport sub sub at_place.subport_is)
      (All-get_or IsSubportWithin s.subports its.subport sub (slice_get_within s.subports its.subport sub at_place.subport_is) within.subports) in
      let pipe_within : IsPipeWithin own = subst IsPipeWithin (get_or_from_slice_get sub.pipes its.pipe own own at_place.pipe_is)
      (All-get_or IsPipeWithin sub.pipes its.pipe own (slice_get_within sub.pipes its.pipe own at_place.pipe_is) subport_within.pipes) in
      let lists = pipe_within.lists in
      let queue = queue-there its.wire s.mtu its.queue (is_some (pipe_of s its.subport its.pipe)) place in
      at-joined left_in_subport (in_subport its.pipe (with_arrival its.queue t)) t s.subports its.subport sub at_place.subport_is
      (at-joined left_in (with_arrival its.queue t) t sub.pipes its.pipe own at_place.pipe_is (queue-joined t own.queues.lists its.queue (omega (arith, lists, queue))))

  -- what is true of it and of every parcel that waits is true of all that wait after it
  pub arrival-stays : (P : T → Type 0) → P t → AllWaiting P s → AllWaiting P (after_arrival packet t s)
  arrival-stays P own all =
      at-waiting left_in_subport (in_subport its.pipe (with_arrival its.queue t)) P
      (λ sub. at-waiting left_in (with_arrival its.queue t) P (λ p. queue-waiting P t own p.queues.lists its.queue) sub.pipes its.pipe) s.subports its.subport all

  pub arrival-joins : ArrivalJoins packet t s
  arrival-joins =
      let all = All-contains_itself (t ∷ left_of s) in
      record {
        each_once = arrival-joined;
        waiting = arrival-stays (Contains (t ∷ left_of s)) (All-head (Contains (t ∷ left_of s)) t (left_of s) all) (All-tail (Contains (t ∷ left_of s)) t (left_of s) all);
      }

  arrival-setting : setting_of (after_arrival packet t s) ≡ setting_of s
  arrival-setting =
      ap (λ subports. record (setting_of s) { subports = subports })
      (at-same (in_subport its.pipe (with_arrival its.queue t)) subport_setting
      (λ sub. ap (λ pipes. record (subport_setting sub) { pipes = pipes })
      (at-same (with_arrival its.queue t) pipe_setting (λ p. list-setting p its.queue (list_of its.queue p.queues ++ t ∷ [])) its.pipe sub.pipes)) its.subport s.subports)

  joined-within : (p : Pipe T) → is_full_at its.queue (Some p) ≡ false → IsPipeWithin p → IsPipeWithin (with_arrival its.queue t p)
  joined-within p room within =
      let waits = list_of its.queue p.queues in
      let longer = length-append waits (t ∷ []) in
      let fits = not-full (length waits) (size_of its.queue p.queues) (within.queues its.queue) room in
      record {
        level = within.level;
        lists = length-set p.queues.lists its.queue (waits ++ t ∷ []) ∙ within.lists;
        queues = λ k. set-bound length p.queues.lists its.queue k (waits ++ t ∷ []) [] (size_of k p.queues) (within.queues k)
            (λ same. subst (λ q. length (waits ++ t ∷ []) ≤ size_of q p.queues) (sym same) (omega (arith, longer, fits)));
      }

  arrival-within : is_full its s ≡ false → IsPortWithin s → IsPortWithin (after_arrival packet t s)
  arrival-within room within = record {
    not_ahead = within.not_ahead;
    cursor = subst (λ n. s.cursor < n) (sym (length-at (in_subport its.pipe (with_arrival its.queue t)) its.subport s.subports)) within.cursor;
    subports = at-all (in_subport its.pipe (with_arrival its.queue t)) IsSubportWithin s.subports its.subport
        (λ sub subport_is own. record {
          level = own.level;
          at_least = own.at_least;
          at_most = own.at_most;
          cursor = subst (λ n. sub.cursor < n) (sym (length-at (with_arrival its.queue t) its.pipe sub.pipes)) own.cursor;
          pipes = at-all (with_arrival its.queue t) IsPipeWithin sub.pipes its.pipe
              (λ p pipe_is. joined-within p (ap (is_full_at its.queue) (sym (ap (option_and_then (λ (x : Subport T). slice_get x.pipes its.pipe)) subport_is ∙ pipe_is)) ∙ room)) own.pipes;
        }) within.subports;
  }

  arrival-tokens : (dearest : ℕ) → HasTokensWithin dearest s → HasTokensWithin dearest (after_arrival packet t s)
  arrival-tokens dearest tokens =
      at-all (in_subport its.pipe (with_arrival its.queue t)) (λ (sub : Subport T). All (AreTokensWithin dearest) sub.pipes) s.subports its.subport
      (λ sub _ own. at-all (with_arrival its.queue t) (AreTokensWithin dearest) sub.pipes its.pipe (λ p _ has. record { four = has.four; each = has.each }) own) tokens

  pub arrival-keeps : ArrivalKeeps packet t s
  arrival-keeps = record { setting = arrival-setting; within = arrival-within; tokens = arrival-tokens }
