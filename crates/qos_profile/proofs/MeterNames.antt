-- The names of the meters are all different.
use Rattle.std.proofs.Common.{◌≡◌, ◌==◌, ℕ, Bool, true, false, not, List, [], ◌∷◌, map, refl, sym, ap, ◌∙◌, subst}
use Rattle.std.specs.List.{list_all}
use Rattle.std.specs.Str.{bytes_eq}
use Rattle.std.proofs.lemmas.Bool.{and_parts, and_from, eq-eqb}
use Rattle.std.proofs.lemmas.Slice.Eq.{bytes_eq-Decides}
use Rattle.profile_plan.specs.Profile.{have_names_apart}
use Rattle.qos_profile.specs.declared.name.Name.{Name}
use Rattle.qos_profile.specs.declared.fact.Fact.{Fact}
use Rattle.qos_profile.specs.declared.head.Head.{Head}
use Rattle.qos_profile.specs.declared.head.Head.TheVariants as heads
use Rattle.qos_profile.specs.declared.section.Section.{Section}
use Rattle.qos_profile.specs.Values.{padded}
use Rattle.qos_profile.specs.Sections.{same_head}
use Rattle.qos_profile.specs.Planned.{name_in, meter_of, meters_of}
use Rattle.qos_profile.proofs.Blocks.{each_pair, differs}
use Rattle.qos_profile.proofs.Apart.{are_apart}
use Rattle.qos_profile.proofs.Sound.{IsNamed, name-word, IsHeadKept, EachSection, IsSoundIn}

meter-name : (head : Head) (facts : List Fact) → (meter_of head facts).name ≡ name_in head
unfolding meter_of
meter-name head facts = refl

-- a meter's head has itself for its equal
same-self : (a : Name) → same_head (heads.Meter a) (heads.Meter a) ≡ true
same-self a =
    and_from (a.length == a.length) (bytes_eq a.bytes a.bytes) (eq-eqb a.length a.length refl) ((bytes_eq-Decides a.bytes a.bytes).1 refl)

abbrev same_name : Name → Name → Bool
same_name a b = bytes_eq (name_in (heads.Meter a)) (name_in (heads.Meter b))

names-differ : (a b : Name) → IsNamed a → IsNamed b → differs (heads.Meter a) (heads.Meter b) ≡ true → not (same_name a b) ≡ true
names-differ a b ha hb h =
    elim (same_name a b) as (λ t. same_name a b ≡ t → not t ≡ true) [
      | true ↦ λ e.
          let names = (bytes_eq-Decides (name_in (heads.Meter a)) (name_in (heads.Meter b))).0 e in
          let words : ha.word ≡ hb.word = sym (name-word a ha) ∙ names ∙ name-word b hb in
          let same : a ≡ b = ha.is ∙ ap padded words ∙ sym hb.is in
          let equal = subst (λ x. same_head (heads.Meter a) (heads.Meter x) ≡ true) same (same-self a) in
          absurd (cc)
      | false ↦ λ e. refl
    ] refl

abbrev names_differ_from : Head → List Section → Bool
names_differ_from head ss = list_all (λ m. not (bytes_eq (name_in head) m.name)) (meters_of ss)

later-names : (name : Name) (all ss : List Section) → IsNamed name → EachSection (IsSoundIn all) ss →
    list_all (differs (heads.Meter name)) (map (λ s. s.head) ss) ≡ true → names_differ_from (heads.Meter name) ss ≡ true
later-names name all [] is each h = refl
later-names name all (s ∷ ss) is each h =
    let split = and_parts (differs (heads.Meter name) s.head) (list_all (differs (heads.Meter name)) (map (λ x. x.head) ss)) h in
    by s.head s.facts s.line each.0.head split.0 (later-names name all ss is each.1 split.1)
  where
    by : (head : Head) (facts : List Fact) (line : ℕ) → IsHeadKept head → differs (heads.Meter name) head ≡ true →
        names_differ_from (heads.Meter name) ss ≡ true →
        names_differ_from (heads.Meter name) (record { line = line; head = head; facts = facts } ∷ ss) ≡ true
    by (heads.Meter other) facts line w d rest =
        let named = ap (λ x. not (bytes_eq (name_in (heads.Meter name)) x)) (meter-name (heads.Meter other) facts) in
        and_from _ (names_differ_from (heads.Meter name) ss) (named ∙ names-differ name other is w d) rest
    by heads.Pool facts line w d rest = rest
    by (heads.Port a) facts line w d rest = rest
    by (heads.SubportKind a) facts line w d rest = rest
    by (heads.PipeKind a) facts line w d rest = rest
    by (heads.Subport a b) facts line w d rest = rest
    by heads.Codes facts line w d rest = rest
    by (heads.Rule a) facts line w d rest = rest
    by heads.Red facts line w d rest = rest

pub names-apart : (all ss : List Section) → EachSection (IsSoundIn all) ss → are_apart ss ≡ true →
    have_names_apart (meters_of ss) ≡ true
names-apart all [] each h = refl
names-apart all (s ∷ ss) each h =
    let split = and_parts (list_all (differs s.head) (map (λ x. x.head) ss)) (each_pair differs (map (λ x. x.head) ss)) h in
    by s.head s.facts s.line each.0.head split.0 (names-apart all ss each.1 split.1)
  where
    by : (head : Head) (facts : List Fact) (line : ℕ) → IsHeadKept head → list_all (differs head) (map (λ x. x.head) ss) ≡ true →
        have_names_apart (meters_of ss) ≡ true →
        have_names_apart (meters_of (record { line = line; head = head; facts = facts } ∷ ss)) ≡ true
    by (heads.Meter name) facts line w d rest =
        let named = ap (λ x. list_all (λ m. not (bytes_eq x m.name)) (meters_of ss)) (meter-name (heads.Meter name) facts) in
        and_from _ (have_names_apart (meters_of ss)) (named ∙ later-names name all ss w each.1 d) rest
    by heads.Pool facts line w d rest = rest
    by (heads.Port a) facts line w d rest = rest
    by (heads.SubportKind a) facts line w d rest = rest
    by (heads.PipeKind a) facts line w d rest = rest
    by (heads.Subport a b) facts line w d rest = rest
    by heads.Codes facts line w d rest = rest
    by (heads.Rule a) facts line w d rest = rest
    by heads.Red facts line w d rest = rest
