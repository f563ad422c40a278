-- The address, entry, code and name that written words have.
use Rattle.std.proofs.Common.{◌≡◌, ◌==◌, ℕ, ◌+◌, ◌-◌, ◌/◌, ◌%◌, ◌^◌, ◌<◌, ◌≤◌, Bool, true, false, cond, not, ◌&&◌, nat_lt, nat_le, List, [], ◌∷◌, ◌++◌, codes, length, drop, Option, Some, None, Result, Ok, Err, refl, sym, ap, ◌∙◌, arith, ⊎_elim}
use Rattle.std.specs.List.{list_all, list_any, prefix_len, position_or_len}
use Rattle.std.specs.Char.{is_ascii_digit}
use Rattle.std.specs.Str.{bytes_eq}
use Rattle.std.specs.Fmt.{decimal}
use Rattle.std.proofs.lemmas.Bool.{and_parts, and_from, le-leb, lt-ltb, eq-eqb, ne_eqb, or_from, or_parts, or_left, or_right, cases_lt}
use Rattle.std.proofs.lemmas.Fmt.{digits_decimal}
use Rattle.std.proofs.lemmas.List.{append_assoc, take_at, drop_at, length_push}
use Rattle.std.proofs.lemmas.List.Folds.{list_any-append}
use Rattle.std.proofs.lemmas.Nat.{div-add-mod'}
use Rattle.qos_base.specs.declared.packet.Colour.{Colour}
use Rattle.qos_base.specs.declared.packet.Colour.TheVariants.{Green, Yellow, Red}
use Rattle.code_table.specs.declared.entry.Entry.{Entry}
use Rattle.code_table.specs.Entry.{IsValid}
use Rattle.profile_plan.specs.declared.rule.Prefix.{Prefix}
use Rattle.profile_plan.specs.Limits.{IsPrefix, is_name_byte}
use Rattle.profile_print.specs.Text.{colour_word, entry_words, prefix_word}
use Rattle.profile_lines.specs.Numbers.{number_of}
use Rattle.qos_profile.specs.declared.fault.FaultKind.{FaultKind}
use Rattle.qos_profile.specs.declared.fault.FaultKind.TheVariants as faults
use Rattle.qos_profile.specs.declared.name.Name.{Name}
use Rattle.qos_profile.specs.declared.value.Value.{Value}
use Rattle.qos_profile.specs.declared.value.Value.TheVariants as values
use Rattle.qos_profile.specs.Table as table
use Rattle.qos_profile.specs.Values.{value_of, is_within, address_of, masked, front, rest, prefix_with, prefix_from, prefix_at, prefix_of, prefix_or_any, place_among, colours, colour_at, is_place, entry_with, entry_at, entry_of, code_of, padded, name_of, as_name}
use Rattle.qos_profile.proofs.Written.{number-is, first-digit, own}

-- the place of the first byte that passes, behind some that do not
place-at : (q : ℕ → Bool) (bs : List ℕ) (c : ℕ) (more : List ℕ) → list_any q bs ≡ false → q c ≡ true → position_or_len q (bs ++ c ∷ more) ≡ length bs
place-at q [] c more h e = ap (λ t. cond (not t) (1 + prefix_len (λ x. not (q x)) more) 0) e
place-at q (b ∷ bs) c more h e =
    let parts = or_parts (q b) (list_any q bs) h in
    ap (λ t. cond (not t) (1 + prefix_len (λ x. not (q x)) (bs ++ c ∷ more)) 0) parts.0
    ∙ (let more_places = place-at q bs c more parts.1 e in omega arith)

-- what stands before a mark and behind it
front-at : (c : ℕ) (bs more : List ℕ) → list_any (λ b. b == c) bs ≡ false → front c (bs ++ c ∷ more) ≡ bs
front-at c bs more h =
    take_at bs (c ∷ more) (position_or_len (λ b. b == c) (bs ++ c ∷ more)) (sym (place-at (λ b. b == c) bs c more h (eq-eqb c c refl)))

rest-at : (c : ℕ) (bs more : List ℕ) → list_any (λ b. b == c) bs ≡ false → rest c (bs ++ c ∷ more) ≡ more
rest-at c bs more h =
    ap (λ xs. drop (position_or_len (λ b. b == c) (bs ++ c ∷ more) + 1) xs) (sym (append_assoc bs (c ∷ []) more))
    ∙ drop_at (bs ++ c ∷ []) more (position_or_len (λ b. b == c) (bs ++ c ∷ more) + 1) (omega (arith, length_push bs c, place-at (λ b. b == c) bs c more h (eq-eqb c c refl)))

-- digits hold no mark
no-mark : (c : ℕ) → is_ascii_digit c ≡ false → (w : List ℕ) → list_all is_ascii_digit w ≡ true → list_any (λ b. b == c) w ≡ false
no-mark c g [] h = refl
no-mark c g (b ∷ bs) h =
    let parts = and_parts (is_ascii_digit b) (list_all is_ascii_digit bs) h in
    or_from (b == c) (list_any (λ x. x == c) bs) (ne_eqb b c (λ e. let same : is_ascii_digit b ≡ is_ascii_digit c = ap is_ascii_digit e in absurd (cc))) (no-mark c g bs parts.1)

unmarked : (c n : ℕ) → is_ascii_digit c ≡ false → n < 2 ^ 64 → list_any (λ b. b == c) (decimal n) ≡ false
unmarked c n g h = no-mark c g (decimal n) (digits_decimal own n h)

-- marked words: the octets of an address, and the length behind it
module _ (a b c d : ℕ) (bits : ℕ) (fa : a < 2 ^ 64) (fb : b < 2 ^ 64) (fc : c < 2 ^ 64) (fd : d < 2 ^ 64) (fn : bits < 2 ^ 64) where
  two : List ℕ
  two = decimal c ++ 46 ∷ decimal d

  three : List ℕ
  three = decimal b ++ 46 ∷ (decimal c ++ 46 ∷ decimal d)

  four : List ℕ
  four = decimal a ++ 46 ∷ (decimal b ++ 46 ∷ (decimal c ++ 46 ∷ decimal d))

  no-slash : list_any (λ x. x == 47) (decimal a ++ 46 ∷ (decimal b ++ 46 ∷ (decimal c ++ 46 ∷ decimal d))) ≡ false
  no-slash =
      list_any-append (λ x. x == 47) (decimal a) (46 ∷ (decimal b ++ 46 ∷ (decimal c ++ 46 ∷ decimal d)))
      ∙ or_from (list_any (λ x. x == 47) (decimal a)) (list_any (λ x. x == 47) (decimal b ++ 46 ∷ (decimal c ++ 46 ∷ decimal d))) (unmarked 47 a refl fa) (list_any-append (λ x. x == 47) (decimal b) (46 ∷ (decimal c ++ 46 ∷ decimal d))
      ∙ or_from (list_any (λ x. x == 47) (decimal b)) (list_any (λ x. x == 47) (decimal c ++ 46 ∷ decimal d)) (unmarked 47 b refl fb) (list_any-append (λ x. x == 47) (decimal c) (46 ∷ decimal d)
      ∙ or_from (list_any (λ x. x == 47) (decimal c)) (list_any (λ x. x == 47) (decimal d)) (unmarked 47 c refl fc) (unmarked 47 d refl fd)))

  pub octets-read : prefix_of ((decimal a ++ 46 ∷ (decimal b ++ 46 ∷ (decimal c ++ 46 ∷ decimal d))) ++ 47 ∷ decimal bits) ≡ prefix_with (Some a) (Some b) (Some c) (Some d) (Some bits)
  octets-read =
      let l2 : List ℕ = decimal c ++ 46 ∷ decimal d in
      let l3 : List ℕ = decimal b ++ 46 ∷ l2 in
      let l4 : List ℕ = decimal a ++ 46 ∷ l3 in
      let r1 : rest 46 l4 ≡ l3 = rest-at 46 (decimal a) l3 (unmarked 46 a refl fa) in
      let r2 : rest 46 l3 ≡ l2 = rest-at 46 (decimal b) l2 (unmarked 46 b refl fb) in
      let r3 : rest 46 l2 ≡ decimal d = rest-at 46 (decimal c) (decimal d) (unmarked 46 c refl fc) in
      let f1 : front 46 l4 ≡ decimal a = front-at 46 (decimal a) l3 (unmarked 46 a refl fa) in
      let f2 : front 46 l3 ≡ decimal b = front-at 46 (decimal b) l2 (unmarked 46 b refl fb) in
      let f3 : front 46 l2 ≡ decimal c = front-at 46 (decimal c) (decimal d) (unmarked 46 c refl fc) in
      ap (λ w. prefix_at w (rest 47 (l4 ++ 47 ∷ decimal bits))) (front-at 47 l4 (decimal bits) no-slash)
      ∙ ap (prefix_at l4) (rest-at 47 l4 (decimal bits) no-slash)
      ∙ ap (λ x. prefix_from (front 46 l4) (front 46 x) (front 46 (rest 46 x)) (rest 46 (rest 46 x)) (decimal bits)) r1
      ∙ ap (λ x. prefix_from (front 46 l4) (front 46 l3) (front 46 x) (rest 46 x) (decimal bits)) r2
      ∙ ap (λ x. prefix_from (front 46 l4) (front 46 l3) (front 46 l2) x (decimal bits)) r3
      ∙ ap (λ x. prefix_from x (front 46 l3) (front 46 l2) (decimal d) (decimal bits)) f1
      ∙ ap (λ x. prefix_from (decimal a) x (front 46 l2) (decimal d) (decimal bits)) f2
      ∙ ap (λ x. prefix_from (decimal a) (decimal b) x (decimal d) (decimal bits)) f3
      ∙ ap (λ o. prefix_with o (number_of (decimal b)) (number_of (decimal c)) (number_of (decimal d)) (number_of (decimal bits))) (number-is a fa)
      ∙ ap (λ o. prefix_with (Some a) o (number_of (decimal c)) (number_of (decimal d)) (number_of (decimal bits))) (number-is b fb)
      ∙ ap (λ o. prefix_with (Some a) (Some b) o (number_of (decimal d)) (number_of (decimal bits))) (number-is c fc)
      ∙ ap (λ o. prefix_with (Some a) (Some b) (Some c) o (number_of (decimal bits))) (number-is d fd)
      ∙ ap (λ o. prefix_with (Some a) (Some b) (Some c) (Some d) o) (number-is bits fn)

-- the octets of an address make it again
octets-are : (addr : ℕ) → address_of (addr / 16777216) (addr / 65536 % 256) (addr / 256 % 256) (addr % 256) ≡ addr
octets-are addr = omega arith

octet-small : (addr : ℕ) → addr < 2 ^ 32 → addr / 16777216 ≤ 255
octet-small addr h = omega arith

-- nothing stands behind the bits of a prefix
masked-is : (addr bits : ℕ) → addr % 2 ^ (32 - bits) ≡ 0 → masked addr bits ≡ addr
masked-is addr bits h = omega (arith, div-add-mod' addr (2 ^ (32 - bits)), h)

within-is : (least most n : ℕ) → least ≤ n → n ≤ most → is_within least most n ≡ true
within-is least most n l h = and_from (nat_le least n) (nat_le n most) (le-leb least n l) (le-leb n most h)

pub prefix-read : (p : Prefix) → IsPrefix p → p.addr < 2 ^ 32 → prefix_of (prefix_word p) ≡ Ok (values.Prefix p)
unfolding prefix_word
prefix-read p lim small =
    let a = p.addr / 16777216 in
    let b = p.addr / 65536 % 256 in
    let c = p.addr / 256 % 256 in
    let d = p.addr % 256 in
    let text : decimal a ++ codes "." ++ decimal b ++ codes "." ++ decimal c ++ codes "." ++ decimal d ++ codes "/" ++ decimal p.bits ≡ (decimal a ++ 46 ∷ (decimal b ++ 46 ∷ (decimal c ++ 46 ∷ decimal d))) ++ 47 ∷ decimal p.bits = simp append_assoc in
    let high = octet-small p.addr small in
    let fits : (is_within 0 255 a && is_within 0 255 b && is_within 0 255 c && is_within 0 255 d && is_within 0 32 p.bits) ≡ true =
    and_from (is_within 0 255 a && is_within 0 255 b && is_within 0 255 c && is_within 0 255 d) (is_within 0 32 p.bits) (and_from (is_within 0 255 a && is_within 0 255 b && is_within 0 255 c) (is_within 0 255 d) (and_from (is_within 0 255 a && is_within 0 255 b) (is_within 0 255 c) (and_from (is_within 0 255 a) (is_within 0 255 b) (within-is 0 255 a (omega arith) high) (within-is 0 255 b (omega arith) (omega arith))) (within-is 0 255 c (omega arith) (omega arith))) (within-is 0 255 d (omega arith) (omega arith))) (within-is 0 32 p.bits (omega arith) lim.bits) in
    let value : masked (address_of a b c d) p.bits ≡ p.addr = ap (λ n. masked n p.bits) (octets-are p.addr) ∙ masked-is p.addr p.bits lim.rest in
    ap prefix_of text
    ∙ octets-read a b c d p.bits (omega arith) (omega arith) (omega arith) (omega arith) (omega (arith, lim.bits))
    ∙ ap (λ t. cond {A = Result Value FaultKind} t (Ok (values.Prefix (record { addr = masked (address_of a b c d) p.bits; bits = p.bits }))) (Err faults.OutOfRange)) fits
    ∙ ap (λ n. Ok (values.Prefix (record { addr = n; bits = p.bits }))) value

-- `any` is no address
not-any : (p : Prefix) → p.addr < 2 ^ 32 → bytes_eq (prefix_word p) (codes "any") ≡ false
unfolding prefix_word
not-any p small =
    let first = first-digit (p.addr / 16777216) (omega arith) in
    let more : List ℕ → List ℕ = λ w. w ++ codes "." ++ decimal (p.addr / 65536 % 256) ++ codes "." ++ decimal (p.addr / 256 % 256) ++ codes "." ++ decimal (p.addr % 256) ++ codes "/" ++ decimal p.bits in
    ap (λ w. bytes_eq (more w) (codes "any")) first.2
    ∙ ap (λ t. t && bytes_eq (more first.1) (codes "ny")) (ne_eqb first.0 97 (λ e. absurd (omega (arith, first.3))))

pub value-prefix : (p : Prefix) → IsPrefix p → p.addr < 2 ^ 32 → value_of table.Address (prefix_word p ∷ []) ≡ Ok (values.Prefix p)
unfolding value_of prefix_or_any
value-prefix p lim small =
    ap (λ t. cond {A = Result Value FaultKind} t (Ok (values.Word 0)) (prefix_of (prefix_word p))) (not-any p small) ∙ prefix-read p lim small

-- an entry
colour-read : (c : Colour) → (k : ℕ) × (place_among colours (colour_word c) ≡ Some k) × (colour_at k ≡ c)
colour-read Green = (0, refl, refl)
colour-read Yellow = (1, refl, refl)
colour-read Red = (2, refl, refl)

place-valid : (e : Entry) → IsValid e → is_place e.class e.queue ≡ true
place-valid e h =
    ⊎_elim
    (λ below. or_left (nat_lt e.class 12 && e.queue == 0) (e.class == 12 && nat_le e.queue 3) (and_from (nat_lt e.class 12) (e.queue == 0) (lt-ltb e.class 12 below) (eq-eqb e.queue 0 (h.1 below))))
    (λ above. let same : e.class ≡ 12 = omega (arith, h.0) in or_right (nat_lt e.class 12 && e.queue == 0) (e.class == 12 && nat_le e.queue 3) (and_from (e.class == 12) (nat_le e.queue 3) (eq-eqb e.class 12 same) (le-leb e.queue 3 (h.2 same))))
    (cases_lt e.class 12)

queue-small : (e : Entry) → IsValid e → e.queue ≤ 3
queue-small e h = ⊎_elim (λ below. omega (arith, h.1 below)) (λ above. h.2 (omega (arith, h.0))) (cases_lt e.class 12)

pub entry-read : (e : Entry) → IsValid e → entry_at (decimal e.class) (decimal e.queue) (colour_word e.colour) ≡ Ok (values.Entry e)
entry-read e h =
    let colour = colour-read e.colour in
    ap (λ o. entry_with o (number_of (decimal e.queue)) (place_among colours (colour_word e.colour))) (number-is e.class (omega (arith, h.0)))
    ∙ ap (λ o. entry_with (Some e.class) o (place_among colours (colour_word e.colour))) (number-is e.queue (omega (arith, queue-small e h)))
    ∙ ap (entry_with (Some e.class) (Some e.queue)) colour.1
    ∙ ap (λ t. cond {A = Result Value FaultKind} t (Ok (values.Entry (record { class = e.class; queue = e.queue; colour = colour_at colour.0 }))) (Err faults.OutOfRange)) (place-valid e h)
    ∙ ap (λ c. Ok (values.Entry (record { class = e.class; queue = e.queue; colour = c }))) colour.2

pub value-mark : (e : Entry) → IsValid e → value_of table.Mark (entry_words e) ≡ Ok (values.Entry e)
unfolding value_of entry_of
value-mark e h = entry-read e h

pub value-fixed : (e : Entry) → IsValid e → value_of table.Code (codes "fixed" ∷ entry_words e) ≡ Ok (values.Entry e)
unfolding value_of code_of
value-fixed e h = entry-read e h

-- a name
pub name-read : (w : List ℕ) → 1 ≤ length w → length w ≤ 32 → list_all is_name_byte w ≡ true → name_of w ≡ Some (padded w)
unfolding name_of
name-read w low high h =
    ap (λ t. cond {A = Option Name} t (Some (padded w)) None) (and_from (nat_le 1 (length w) && nat_le (length w) 32) (list_all is_name_byte w) (and_from (nat_le 1 (length w)) (nat_le (length w) 32) (le-leb 1 (length w) low) (le-leb (length w) 32 high)) h)

pub value-named : (w : List ℕ) → 1 ≤ length w → length w ≤ 32 → list_all is_name_byte w ≡ true → value_of table.Named (w ∷ []) ≡ Ok (values.Name (padded w))
unfolding value_of
value-named w low high h = ap as_name (name-read w low high h)
