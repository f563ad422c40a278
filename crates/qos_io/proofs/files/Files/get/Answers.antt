use Rattle.std.proofs.Common.{◌≡◌, ℕ, Bool, List, ◌∷◌, cond, true, false, Some, ap, sym, ◌∙◌}
use Rattle.std.specs.String.{string_bytes}
use Rattle.std.specs.Ordering.{nat_cmp}
use Rattle.std.specs.Str.{bytes_eq}
use Rattle.std.specs.Cmp.Lexicographic.{slice_cmp, nat_list_cmp_total}
use Rattle.std.specs.FinMap as map
use Rattle.std.proofs.lemmas.Map.Text.{is_eq-slice_cmp}
use Rattle.qos_io.specs.Chain.{entries_of}
use Rattle.qos_io.specs.Memory.{WholeShelfState}
use Rattle.qos_io.proofs.files.Files.get.Goals as goal

-- the newest entry is the one that is sought, or the search goes on behind it
find-step : (sought name bytes : List ℕ) (older : List (List ℕ × List ℕ)) (same : Bool) → bytes_eq sought name ≡ same
    → map.find (slice_cmp nat_cmp) sought ((name, bytes) ∷ older) ≡ cond same (Some bytes) (map.find (slice_cmp nat_cmp) sought older)
find-step sought name bytes older same e = ap (λ b. cond b (Some bytes) (map.find (slice_cmp nat_cmp) sought older)) (is_eq-slice_cmp sought name ∙ e)

pub loop-at-init : goal.loop-at-init
loop-at-init c = ap (λ (s : WholeShelfState). map.get s.files c.args.name.now) (sym c.self.view_is) ∙ map.get-from_entries nat_list_cmp_total _ _

pub returns-then-eq : goal.returns-then-eq
returns-then-eq c =
    let name_is : c.as_str.result.now ≡ string_bytes c.in-More.node.value.name = c.as_str.ensures.value ∙ ap (λ node. string_bytes node.name) c.deref.ensures in
    let bytes_are : c.as_slice.result.now ≡ c.in-More.node.value.bytes.items = c.as_slice.ensures.value ∙ ap (λ node. node.bytes.items) c.deref-then-eq.ensures in
    let same : bytes_eq c.args.name.now (string_bytes c.in-More.node.value.name) ≡ true = ap (bytes_eq c.args.name.now) (sym name_is) ∙ sym c.eq.ensures ∙ c.if-eq.true in
    ap Some bytes_are ∙ sym (find-step c.args.name.now (string_bytes c.in-More.node.value.name) c.in-More.node.value.bytes.items (entries_of c.in-More.node.value.older) true same) ∙ sym (c.loop-at.invariant ∙ ap (λ at. map.find (slice_cmp nat_cmp) c.args.name.now (entries_of at)) c.in-More.is)

pub loop-at-preserved : goal.loop-at-preserved
loop-at-preserved c =
    let name_is : c.as_str.result.now ≡ string_bytes c.in-More.node.value.name = c.as_str.ensures.value ∙ ap (λ node. string_bytes node.name) c.deref.ensures in
    let other : bytes_eq c.args.name.now (string_bytes c.in-More.node.value.name) ≡ false = ap (bytes_eq c.args.name.now) (sym name_is) ∙ sym c.eq.ensures ∙ c.if-eq.false in
    c.loop-at.invariant ∙ ap (λ at. map.find (slice_cmp nat_cmp) c.args.name.now (entries_of at)) c.in-More.is
    ∙ find-step c.args.name.now (string_bytes c.in-More.node.value.name) c.in-More.node.value.bytes.items (entries_of c.in-More.node.value.older) false other ∙ ap (λ node. map.find (slice_cmp nat_cmp) c.args.name.now (entries_of node.older)) (sym c.deref-in-More.ensures)
