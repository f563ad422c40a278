-- What files hold after one was put.
use Rattle.std.proofs.Common.{◌≡◌, ◌≢◌, ℕ, true, false, List, Some, refl, sym, ◌∙◌}
use Rattle.std.specs.Ordering.{nat_cmp, eq_by_cmp}
use Rattle.std.specs.Cmp.Lexicographic.{slice_cmp, nat_list_cmp_total}
use Rattle.std.specs.FinMap as map
use Rattle.std.proofs.lemmas.Bool.{cond-true, cond-false, false_from_ne_true}
use Rattle.std.proofs.lemmas.Map.Text.{is_eq-slice_cmp}
use Rattle.std.proofs.lemmas.Slice.Eq.{bytes_eq-Decides}
use Rattle.qos_io.specs.Memory.{Files}

pub get-insert_same : (files : Files) (name bytes : List ℕ) → map.get (map.insert files name bytes) name ≡ Some bytes
get-insert_same files name bytes =
    let same : eq_by_cmp (slice_cmp nat_cmp) name name ≡ true = is_eq-slice_cmp name name ∙ (bytes_eq-Decides name name).1 refl in
    map.get-insert nat_list_cmp_total files name bytes name ∙ cond-true _ _ _ same

pub get-insert_other : (files : Files) (name bytes other : List ℕ) → other ≢ name → map.get (map.insert files name bytes) other ≡ map.get files other
get-insert_other files name bytes other apart =
    let differs : eq_by_cmp (slice_cmp nat_cmp) other name ≡ false = false_from_ne_true _ (λ e. apart ((bytes_eq-Decides other name).0 (sym (is_eq-slice_cmp other name) ∙ e))) in
    map.get-insert nat_list_cmp_total files name bytes other ∙ cond-false _ _ _ differs
